-- Numbers that are read and counted block by block. Assumes nothing.
use Rattle.integers.proofs.Prelude.{◌≡◌, sym, ap, ap₂, ◌∙◌, List, ℕ, zero, suc, ◌+◌, ◌-◌, ◌*◌, ◌/◌, ◌%◌, ◌≤◌, ◌<◌, min, arith, dec_lt, length, get_or}
use Rattle.integers.proofs.Prelude.{take, drop, length-take-le, length-drop, get_or-eq_default, take-take, take-add, drop-drop}
use Rattle.model.specs.Limits.{most_number}
use Rattle.numbers.specs.Walked.{Small}
use Rattle.numbers.proofs.Walk.{small_part}
use Rattle.places.specs.declared.Window.{Window}
use Rattle.places.specs.Counters.{times_in, in_rows, in_columns, More, Above, Zeros, Room, Block}
use Rattle.places.proofs.Counters.{more_then}
use Rattle.places.proofs.Named.{named_append, named_part, named_most}

-- ---- the first `total` numbers of l, read in blocks of 64
-- `done` were asked for, so `done` or all of them are read; `after` follows
abbrev pub Reached : List ℕ → ℕ → ℕ → List ℕ → Type 0
Reached l total done after = after ≡ drop (min done total) l

-- the part of a list of 64 entries that is lent for a block
lent : (total done size : ℕ) (values : List ℕ) → length values ≡ 64 → size ≡ min 64 (total - done) → length (take size values) ≡ size
lent total done size values entries s = length-take-le size values (omega arith)

pub block_small : {total done size : ℕ} (values : List ℕ) {l after : List ℕ} → length values ≡ 64 → size ≡ min 64 (total - done)
    → Small total l → Reached l total done after → done < total → Small (length (take size values)) after
block_small {total} {done} {size} values {l} {after} entries s h r k =
    let e : min done total ≡ done = omega arith in
    rw (lent total done size values entries s, r, e, s) (small_part done (min 64 (total - done)) total l (omega arith) h)

-- the next block of them, which are so many lists of `most` numbers
pub record Next (l : List ℕ) (lists most done : ℕ) (block after : List ℕ) : Type 0 where
  pub here : min done (lists * most) ≡ done
  pub past : min (done + 64) (lists * most) ≡ done + length block
  pub enough : done + length block ≤ length l
  pub list : block ≡ take (length block) (drop done l)
  pub inside : Block most done (length block) lists
  pub reached : Reached l (lists * most) (done + 64) after

some_each : (a b : ℕ) {n : ℕ} → n < a * b → 1 ≤ b
some_each a zero h = absurd (omega arith)
some_each a (suc b) h = omega arith

pub next_block : {l : List ℕ} {lists most done size : ℕ} (values : List ℕ) {before block after : List ℕ} → Small (lists * most) l → most ≤ most_number
    → done < lists * most → Reached l (lists * most) done before → length values ≡ 64 → size ≡ min 64 (lists * most - done)
    → block ≡ take (length (take size values)) before → after ≡ drop (length (take size values)) before → Next l lists most done block after
next_block {l} {lists} {most} {done} {size} values {before} {block} {after} h m k r entries s b' f' =
    let b : block ≡ take size before = rw (lent (lists * most) done size values entries s) at b' in
    let f : after ≡ drop size before = rw (lent (lists * most) done size values entries s) at f' in
    let here : min done (lists * most) ≡ done = omega arith in
    let rest : before ≡ drop done l = rw here at r in
    let room : done + size ≤ length l = omega (arith, h.long) in
    let long : length block ≡ size = ap length b ∙ length-take-le size before (omega (arith, ap length rest, length-drop done l)) in
    record {
      here = here;
      past = omega arith;
      enough = omega arith;
      list = b ∙ ap₂ (λ (i : ℕ) (j : List ℕ). take i j) (sym long) rest;
      inside = record { some = some_each lists most k; small = m; within = omega arith };
      reached =
          let past : done + size ≡ min (done + 64) (lists * most) = omega arith in
          f ∙ ap (drop size) rest ∙ drop-drop size done l ∙ ap (λ (i : ℕ). drop i l) past;
    }

-- ---- room in 16 bits
pub room_next : (w : Window) (most q : ℕ) (values l m : List ℕ) → Room w most q l → More (in_rows w most q values) l m → Room w most (q + length values) m
room_next w most q values l m r h p = by (dec_lt p (length l))
  where
    by : Dec (p < length l) → get_or m p 0 ≤ q + length values - p / w.width * most
    by (yes k) = omega (arith, r p, h.each p k, named_most most (p / w.width) (suc (w.left + p % w.width)) q values)
    by (no k) = let e : get_or m p 0 ≡ 0 = get_or-eq_default m 0 {n = p} (omega (arith, h.long)) in omega arith

pub room_rows : (w : Window) (most q : ℕ) (l old now : List ℕ) → Zeros old → q ≤ length l → More (in_rows w most 0 (take q l)) old now → Room w most q now
room_rows w most q l old now z h m p =
    let none : Room w most 0 old = λ p. omega (arith, z p) in
    omega (arith, room_next w most 0 (take q l) old now none m p, length-take-le q l h)

-- ---- what is counted with it
module _ {l : List ℕ} {lists most done : ℕ} {block after : List ℕ} (b : Next l lists most done block after) where
  abbrev size : ℕ
  size = length block

  named_block : (a x : ℕ) → times_in most a x 0 (take (done + size) l) ≡ times_in most a x 0 (take done l) + times_in most a x done block
  named_block a x =
      let e : 0 + length (take done l) ≡ done = omega (arith, length-take-le done l (omega (arith, b.enough))) in
      ap (times_in most a x 0) (take-add done size l) ∙ named_append most a x 0 (take done l) (take size (drop done l))
      ∙ ap₂ (λ (n : ℕ) (k : List ℕ). times_in most a x 0 (take done l) + times_in most a x n k) e (sym b.list)

  module _ (w : Window) where
    pub up_block : {old now next : List ℕ} → More (in_rows w most 0 (take (min done (lists * most)) l)) old now → More (in_rows w most done block) now next
        → More (in_rows w most 0 (take (min (done + 64) (lists * most)) l)) old next
    up_block {old} {now} {next} m n =
        let so_far : More (in_rows w most 0 (take done l)) old now = rw b.here at m in
        rw b.past
        (more_then (in_rows w most 0 (take done l)) (in_rows w most done block) (in_rows w most 0 (take (done + size) l)) so_far n
        (λ p k. named_block (p / w.width) (suc (w.left + p % w.width))))

    column_block : (p : ℕ) → in_columns w most 0 (take (done + size) l) p ≡ in_columns w most done block p + in_columns w most 0 (take done l) p
    column_block p = omega (arith, named_block (p % w.width) (suc (w.top + p / w.width)))

    pub down_block : {old now next : List ℕ} → More (in_columns w most 0 (take (min done (lists * most)) l)) now old → More (in_columns w most done block) next now
        → More (in_columns w most 0 (take (min (done + 64) (lists * most)) l)) next old
    down_block {old} {now} {next} m n =
        let so_far : More (in_columns w most 0 (take done l)) now old = rw b.here at m in
        rw b.past
        (more_then (in_columns w most done block) (in_columns w most 0 (take done l)) (in_columns w most 0 (take (done + size) l)) n so_far
        (λ p k. column_block p))

    -- where a block would take too many, all together do
    pub above_block : {old now : List ℕ} → More (in_columns w most 0 (take (min done (lists * most)) l)) now old → Above (in_columns w most done block) now
        → Above (in_columns w most 0 (take (lists * most) l)) old
    above_block {old} {now} m (p, j, n) =
        let so_far : More (in_columns w most 0 (take done l)) now old = rw b.here at m in
        let fits : done + size ≤ lists * most = omega (arith, b.past) in
        let part : times_in most (p % w.width) (suc (w.top + p / w.width)) 0 (take (done + size) l) ≤ in_columns w most 0 (take (lists * most) l) p
        = rw (← take-take (done + size) (lists * most) l fits)
        (named_part most (p % w.width) (suc (w.top + p / w.width)) 0 (done + size) (take (lists * most) l)) in
        (p, omega (arith, so_far.long), omega (arith, so_far.each p j, column_block p, part))
