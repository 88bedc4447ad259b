-- The triple rule, for all degrees together, and how often each variable of a code occurs. Assumes nothing.
use Rattle.integers.proofs.Prelude.{◌≡◌, refl, sym, ap, subst, ◌∙◌, Bool, true, false, cond, ◌||◌, List, [], ◌∷◌, ◌++◌, append_assoc, ℕ, zero, suc, ◌+◌, ◌-◌, ◌*◌, ◌/◌, ◌%◌}
use Rattle.integers.proofs.Prelude.{◌≤◌, ◌<◌, arith, dec_lt, lt-ltb, le-ltb, eqb-true, eqb-false, eq-eqb, ne_eqb, T, eqb, ltb, length, get_or, drop}
use Rattle.integers.proofs.Prelude.{length-append, get_or-drop, get_or-append-add, get_or-append}
use mathlib.Core.Logic.{◌⊎◌, inl, inr}
use lib.Dec.{leb-suc-suc}
use lib.ListN.{replicate}
use lib.Seq.{drop-append-le}
use Rattle.integers.specs.Sum.{sum_ℕ}
use Rattle.lists.specs.Tabulated.{tab}
use Rattle.lists.specs.Entries.{some, total}
use Rattle.lists.proofs.Tabulated.{length_tab, tab_same, get_or_tab}
use Rattle.lists.proofs.Entries.{total_append, total_one, total_same}
use Rattle.model.specs.Causes.{◌if◌}
use Rattle.model.specs.Limits.{most_checks, least_degree}
use Rattle.model.specs.Code.{Code, turns, triple_count, triples, variables}
use Rattle.model.specs.Sound.{Rising, SoundCheck, SoundChecks, Sound}
use Rattle.model.specs.Splitting.{queue, blank, waiting, triples_of, triples_from, system_of, member, Members}
use Rattle.model.specs.Iteration.{occurrences}
use Rattle.model.specs.TripleRule.{items, TripleRule, standing, Counts}
use Rattle.model.proofs.Queue.{queue_total, triples_total, by_degree, waiting_long, by_turns, member_next, members_total}
use Rattle.model.proofs.Rows.{three}
use Rattle.model.proofs.Sound.{rising_below, rising_apart, variables_most}

-- ---- how often v stands
abbrev pub is : ℕ → ℕ → ℕ
is v u = 1 if eqb u v

is_same : (v : ℕ) → is v v ≡ 1
is_same v = rw (eq-eqb v v refl)

is_other : (v u : ℕ) → (u ≡ v → ⊥) → is v u ≡ 0
is_other v u h = rw (ne_eqb u v h)

-- in m numbers from a on
pub is_range : (v m a : ℕ) → (v < a → sum_ℕ m (λ j. is v (a + j)) ≡ 0) × (a + m ≤ v → sum_ℕ m (λ j. is v (a + j)) ≡ 0) × (a ≤ v → v < a + m → sum_ℕ m (λ j. is v (a + j)) ≡ 1)
is_range v zero a = (λ h. refl, λ h. refl, λ h l. absurd (omega arith))
is_range v (suc m) a =
    let ih = is_range v m a in (
      λ h. rw (ih.0 h, is_other v (a + m) (λ e. omega arith)),
      λ h. rw (ih.1 (omega arith), is_other v (a + m) (λ e. omega arith)),
      λ h l. by (dec_lt v (a + m)) ih.1 (ih.2 h) l,
    )
  where
    by : Dec (v < a + m) → (a + m ≤ v → sum_ℕ m (λ j. is v (a + j)) ≡ 0) → (v < a + m → sum_ℕ m (λ j. is v (a + j)) ≡ 1) → v < a + suc m → sum_ℕ m (λ j. is v (a + j)) + is v (a + m) ≡ 1
    by (yes k) before at l = rw (at k, is_other v (a + m) (λ e. omega arith))
    by (no k) before at l = let e : a + m ≡ v = omega arith in rw (before (omega arith), e, is_same v)

-- in a rising list
pub is_rising : (v n low : ℕ) (l : List ℕ) → Rising n low l
    → (total (is v) l ≡ 1 if some (eqb v) l) × (v < low → total (is v) l ≡ 0) × (n ≤ v → total (is v) l ≡ 0)
is_rising v n low [] r = (refl, λ h. refl, λ h. refl)
is_rising v n low (x ∷ l) r =
    let ih = is_rising v n (suc x) l r.2 in (
      by (eqb v x) refl ih.0 ih.1,
      λ h. rw (is_other v x (λ e. omega (arith, r.0)), ih.1 (omega (arith, r.0))),
      λ h. rw (is_other v x (λ e. omega (arith, r.1)), ih.2 h),
    )
  where
    by : (t : Bool) → eqb v x ≡ t → total (is v) l ≡ 1 if some (eqb v) l → (v < suc x → total (is v) l ≡ 0)
        → is v x + total (is v) l ≡ 1 if (t || some (eqb v) l)
    by true e ih none = let p : v ≡ x = eqb-true v x e in rw (none (omega arith), ← p, is_same v)
    by false e ih none = omega (arith, is_other v x (λ p. eqb-false v x e (sym p)))

-- in what waits at first: the blank is no variable
is_waiting : (v : ℕ) (c : List ℕ) → v < blank → total (is v) (waiting c) ≡ total (is v) c
is_waiting v c h = total_append (is v) c (replicate (3 - length c) blank) ∙ rw (none (3 - length c)) (omega arith)
  where
    none : (n : ℕ) → total (is v) (replicate n blank) ≡ 0
    none zero = refl
    none (suc n) = omega (arith, is_other v blank (λ e. omega arith), none n)

pub if_most : (t : Bool) → 1 if t ≤ 1
if_most true = omega arith
if_most false = omega arith

total_entry : (f : ℕ → ℕ) (l : List ℕ) (i : ℕ) → i < length l → f (get_or l i 0) ≤ total f l
total_entry f [] i h = absurd (omega arith)
total_entry f (x ∷ l) zero h = omega arith
total_entry f (x ∷ l) (suc i) h = omega (arith, total_entry f l i (omega arith))

-- ---- of the triples that a check gives
long : (n : ℕ) → sum_ℕ n (λ _. 1) ≡ n
long zero = refl
long (suc n) = rw (long n) (omega arith)

queue_long : (m : ℕ) (q : List ℕ) (a : ℕ) → length (queue m q a) ≡ length q + 2 * m
queue_long m q a = sym (total_one (queue m q a)) ∙ queue_total (λ _. 1) m q a ∙ rw (total_one q, long m)

occurs : (v : ℕ) (T : ℕ) (ts : List ℕ) → length ts ≡ 3 * T → occurrences ts T v ≡ total (is v) ts
unfolding occurrences
occurs v T ts h = members_total (is v) T ts h

items_turn : (m : ℕ) (q : List ℕ) (a : ℕ) → 2 ≤ length q
    → drop 2 (q ++ tab (suc m) (λ j. a + j)) ≡ (drop 2 q ++ (a ∷ [])) ++ tab m (λ j. suc a + j)
items_turn m q a h =
    let z : a + 0 ≡ a = omega arith in
    drop-append-le 2 q (tab (suc m) (λ j. a + j)) h
    ∙ rw (z, tab_same m (λ j. a + suc j) (λ j. suc a + j) (λ j l. omega arith)) (sym (append_assoc (drop 2 q) (a ∷ []) (tab m (λ j. suc a + j))))

-- the closed form, for a queue of m turns
abbrev At : ℕ → List ℕ → ℕ → ℕ → Type 0
At m q a t =
    (member (queue m q a) t 0 ≡ get_or (q ++ tab m (λ j. a + j)) (2 * t) 0)
    × (member (queue m q a) t 1 ≡ get_or (q ++ tab m (λ j. a + j)) (2 * t + 1) 0)
    × (member (queue m q a) t 2 ≡ cond (ltb t m) (a + t) (get_or (q ++ tab m (λ j. a + j)) (2 * t + 2) 0))

queue_at : (m : ℕ) (q : List ℕ) (a : ℕ) → length q ≡ 3 + m → (t : ℕ) → t ≤ m → At m q a t
unfolding queue
queue_at = by_turns (λ m q a. (t : ℕ) → t ≤ m → At m q a t) last turn
  where
    last : (x y z a t : ℕ) → t ≤ 0 → At 0 (x ∷ y ∷ z ∷ []) a t
    last x y z a zero l = (refl, refl, refl)
    last x y z a (suc t) l = absurd (omega arith)

    turn : (m x y : ℕ) (q : List ℕ) (a : ℕ) → ((t : ℕ) → t ≤ m → At m (q ++ (a ∷ [])) (suc a) t) → (t : ℕ) → t ≤ suc m → At (suc m) (x ∷ y ∷ q) a t
    turn m x y q a ih zero l = let z : a + 0 ≡ a = omega arith in (refl, refl, rw (lt-ltb 0 (suc m) (omega arith), z))
    turn m x y q a ih (suc t) l =
        let R = queue m (q ++ (a ∷ [])) (suc a) in
        let its = (x ∷ y ∷ q) ++ tab (suc m) (λ j. a + j) in
        let i = ih t (omega arith) in
        let n : (p : ℕ) → member (x ∷ y ∷ a ∷ R) (suc t) p ≡ member R t p = member_next x y a R t in
        let shift : (i k : ℕ) → k ≡ 2 + i → get_or ((q ++ (a ∷ [])) ++ tab m (λ j. suc a + j)) i 0 ≡ get_or its k 0
        = λ i k e. ap (λ (r : List ℕ). get_or r i 0) (sym (items_turn m (x ∷ y ∷ q) a (omega arith))) ∙ get_or-drop 2 its i 0 ∙ ap (λ (j : ℕ). get_or its j 0) (sym e) in
        let s : suc a + t ≡ a + suc t = omega arith in (
          n 0 ∙ i.0 ∙ shift (2 * t) (2 * suc t) (omega arith),
          n 1 ∙ i.1 ∙ shift (2 * t + 1) (2 * suc t + 1) (omega arith),
          n 2 ∙ i.2 ∙ rw (shift (2 * t + 2) (2 * suc t + 2) (omega arith), s, leb-suc-suc (suc t) m),
        )

-- what ever waits rises
rising_range : (m a low : ℕ) → low ≤ a → Rising (a + m) low (tab m (λ j. a + j))
rising_range zero a low h = tt
rising_range (suc m) a low h =
    let e : a + suc m ≡ suc a + m = omega arith in (
      omega arith,
      omega arith,
      subst (λ (n : ℕ). Rising n (suc (a + 0)) (tab m (λ j. a + suc j))) (sym e)
          (rw (tab_same m (λ j. a + suc j) (λ j. suc a + j) (λ j l. omega arith)) (rising_range m (suc a) (suc (a + 0)) (omega arith))),
    )

items_rising : (n low m a : ℕ) (c : List ℕ) → n ≤ a → low ≤ a → Rising n low c → Rising (a + m) low (c ++ tab m (λ j. a + j))
items_rising n low m a [] h l r = rising_range m a low l
items_rising n low m a (x ∷ c) h l r = (r.0, omega (arith, r.1), items_rising n (suc x) m a c h (omega (arith, r.1)) r.2)

pub triples_of_long : (c : List ℕ) (a : ℕ) → least_degree ≤ length c → length (triples_of c a) ≡ 3 * triple_count c
triples_of_long c a h = queue_long (turns c) (waiting c) a ∙ omega (arith, waiting_long c h)

module _ (n a : ℕ) (c : List ℕ) (sound : SoundCheck n c) (above : n ≤ a) (few : a + turns c ≤ blank) where
  degree : length (waiting c) ≡ 3 + turns c
  degree = waiting_long c sound.least

  -- the items rise, the blank last
  items_rise : (N : ℕ) × Rising N 0 (items c a) × (3 ≤ length c → N ≡ a + turns c)
  unfolding items
  items_rise =
      by_degree (λ c q. Rising n 0 c → a + turns c ≤ blank → (N : ℕ) × Rising N 0 (q ++ tab (turns c) (λ j. a + j)) × (3 ≤ length c → N ≡ a + turns c))
      (λ x y r l. (suc blank, (omega arith, omega (arith, r.1), (r.2.0, omega (arith, r.2.1), (omega (arith, r.2.1), omega arith, tt))), λ h. absurd (omega arith)))
      (λ c h r l. (a + turns c, items_rising n 0 (turns c) a c above (omega arith) r, λ _. refl))
      c sound.least sound.rising few

  items_long : length (items c a) ≡ length (waiting c) + turns c
  unfolding items
  items_long = length-append (waiting c) (tab (turns c) (λ j. a + j)) ∙ rw (length_tab (turns c) (λ j. a + j))

  -- so those at two places differ
  items_apart : (i j : ℕ) → i < j → j < length (waiting c) + turns c → get_or (items c a) i 0 < get_or (items c a) j 0
  items_apart i j h l = rising_apart items_rise.0 0 (items c a) items_rise.1 i j h (omega (arith, items_long))

  -- and without the blank those of all places lie below the next auxiliary
  item_below : 3 ≤ length c → (i : ℕ) → i < length (waiting c) + turns c → get_or (items c a) i 0 < a + turns c
  item_below d i l = subst (λ (N : ℕ). get_or (items c a) i 0 < N) (items_rise.2 d) (rising_below items_rise.0 0 (items c a) items_rise.1 i (omega (arith, items_long)))

  auxiliary_item : (t : ℕ) → t < turns c → get_or (items c a) (length (waiting c) + t) 0 ≡ a + t
  unfolding items
  auxiliary_item t h = get_or-append-add (waiting c) (tab (turns c) (λ j. a + j)) t 0 ∙ get_or_tab (turns c) (λ j. a + j) t 0 h

  occurs_here : (v : ℕ) → v < blank → occurrences (triples_of c a) (triple_count c) v ≡ total (is v) c + 2 * sum_ℕ (turns c) (λ j. is v (a + j))
  occurs_here v h = occurs v (triple_count c) (triples_of c a) (triples_of_long c a sound.least) ∙ queue_total (is v) (turns c) (waiting c) a ∙ rw (is_waiting v c h)

  bit_once : (i : ℕ) → i < length c → occurrences (triples_of c a) (triple_count c) (get_or c i 0) ≡ 1
  bit_once i h =
      let v = get_or c i 0 in
      let below : v < n = rising_below n 0 c sound.rising i h in
      omega (
        arith,
        occurs_here v (omega arith),
        (is_rising v n 0 c sound.rising).0,
        if_most (some (eqb v) c),
        total_entry (is v) c i h,
        is_same v,
        (is_range v (turns c) a).0 (omega arith),
      )

  auxiliary_twice : (j : ℕ) → j < turns c → occurrences (triples_of c a) (triple_count c) (a + j) ≡ 2
  auxiliary_twice j h =
      omega (arith, occurs_here (a + j) (omega arith), (is_rising (a + j) n 0 c sound.rising).2 (omega arith), (is_range (a + j) (turns c) a).2 (omega arith) (omega arith))

  pub triple_rule : TripleRule c a
  unfolding items queue
  triple_rule =
      let at : (t : ℕ) → t < triple_count c → At (turns c) (waiting c) a t = λ t h. queue_at (turns c) (waiting c) a degree t (omega arith) in
      record {
        triples = λ h. omega arith;
        auxiliaries = refl;
        two = pair c;
        no_blank = λ d t p h. three (λ p. member (triples_of c a) t p < a + turns c)
            (rw (at t h).0 (item_below d (2 * t) (omega (arith, degree)))) (rw (at t h).1 (item_below d (2 * t + 1) (omega (arith, degree))))
            (rw (at t h).2 (third d t h (dec_lt t (turns c)))) p;
        long = triples_of_long c a sound.least;
        firsts = λ t h. (at t h).0;
        seconds = λ t h. (at t h).1;
        thirds = λ t h. (at t h).2;
        bit_once = bit_once;
        auxiliary_twice = auxiliary_twice;
        rising = λ t h. (rw ((at t h).0, (at t h).1) (items_apart (2 * t) (2 * t + 1) (omega arith) (omega (arith, degree))), rw ((at t h).1, (at t h).2) (last t h (dec_lt t (turns c))));
      }
    where
      last : (t : ℕ) → t < triple_count c → Dec (t < turns c) → get_or (items c a) (2 * t + 1) 0 < cond (ltb t (turns c)) (a + t) (get_or (items c a) (2 * t + 2) 0)
      last t h (yes l) = rw (lt-ltb t (turns c) l, ← auxiliary_item t l) (items_apart (2 * t + 1) (length (waiting c) + t) (omega (arith, degree)) (omega arith))
      last t h (no l) = rw (le-ltb t (turns c) (omega arith)) (items_apart (2 * t + 1) (2 * t + 2) (omega arith) (omega (arith, degree)))

      third : 3 ≤ length c → (t : ℕ) → t < triple_count c → Dec (t < turns c) → cond (ltb t (turns c)) (a + t) (get_or (items c a) (2 * t + 2) 0) < a + turns c
      third d t h (yes l) = rw (lt-ltb t (turns c) l) (omega arith)
      third d t h (no l) = rw (le-ltb t (turns c) (omega arith)) (item_below d (2 * t + 2) (omega (arith, degree)))

      pair : (c : List ℕ) → length c ≡ 2 → (triple_count c ≡ 1) × (turns c ≡ 0) × (triples_of c a ≡ get_or c 0 0 ∷ get_or c 1 0 ∷ blank ∷ [])
      pair [] h = absurd (omega arith)
      pair (x ∷ []) h = absurd (omega arith)
      pair (x ∷ y ∷ []) h = (refl, refl, refl)
      pair (x ∷ y ∷ z ∷ c) h = absurd (omega arith)

  -- its members are variables, but for the blank of two bits
  check_members : (N : ℕ) → a + turns c ≤ N → N ≤ blank → Members (triples_of c a) N
  check_members N h l = by (dec_lt 2 (length c))
    where
      bit : (i : ℕ) → i < 2 → get_or c i 0 < N
      bit i b = omega (arith, rising_below n 0 c sound.rising i (omega (arith, sound.least)))

      by : Dec (2 < length c) → Members (triples_of c a) N
      by (yes d) =
          let below : (t p : ℕ) → p < 3 → 3 * t + 2 < length (triples_of c a) → member (triples_of c a) t p < N
          = λ t p k b. omega (arith, triple_rule.no_blank d t p (omega (arith, triple_rule.long)) k) in
          record { few = l; first = λ t. below t 0 (omega arith); second = λ t. below t 1 (omega arith); third = λ t b. inl (below t 2 (omega arith) b) }
      by (no d) =
          subst (λ (ts : List ℕ). Members ts N) (sym (triple_rule.two (omega (arith, sound.least))).2) (record {
            few = l;
            first = only _ (bit 0 (omega arith));
            second = only _ (bit 1 (omega arith));
            third = only _ (inr refl);
          })
        where
          only : (P : ℕ → Type 0) → P 0 → (t : ℕ) → 3 * t + 2 < 3 → P t
          only P z zero b = z
          only P z (suc t) b = absurd (omega arith)

-- position by position, and entry by entry
pub member_is : (ts : List ℕ) (n : ℕ) → Members ts n → (t p : ℕ) → 3 * t + 2 < length ts → p < 3 → (member ts t p < n) ⊎ (member ts t p ≡ blank)
member_is ts n m t p h = three (λ p. (member ts t p < n) ⊎ (member ts t p ≡ blank)) (inl (m.first t h)) (inl (m.second t h)) (m.third t h) p

pub members_at : (ts : List ℕ) (T n : ℕ) → length ts ≡ 3 * T → Members ts n → (i : ℕ) → i < length ts → (get_or ts i 0 < n) ⊎ (get_or ts i 0 ≡ blank)
members_at ts T n long m i h =
    let at : 3 * (i / 3) + i % 3 ≡ i = omega arith in
    subst (λ (j : ℕ). (get_or ts j 0 < n) ⊎ (get_or ts j 0 ≡ blank)) at (member_is ts n m (i / 3) (i % 3) (omega arith) (omega arith))

-- ---- of a whole code
pub triples_long : (n : ℕ) (cs : List (List ℕ)) (a : ℕ) → SoundChecks n cs → length (triples_from cs a) ≡ 3 * total triple_count cs
unfolding triples_from
triples_long n [] a s = refl
triples_long n (c ∷ cs) a s =
    length-append (triples_of c a) (triples_from cs (a + turns c)) ∙ omega (arith, triples_of_long c a s.0.least, triples_long n cs (a + turns c) s.1)

-- triples behind one another
module _ (ts us : List ℕ) (T : ℕ) (long : length ts ≡ 3 * T) where
  members_part : (P : ℕ → Type 0) (p : ℕ) → p < 3 → ((t : ℕ) → 3 * t + 2 < length ts → P (member ts t p)) → ((t : ℕ) → 3 * t + 2 < length us → P (member us t p))
      → (t : ℕ) → 3 * t + 2 < length (ts ++ us) → P (member (ts ++ us) t p)
  members_part P p l f g t h = by (dec_lt t T)
    where
      by : Dec (t < T) → P (member (ts ++ us) t p)
      by (yes k) = subst P (sym (get_or-append ts us 0 (3 * t + p) (omega arith))) (f t (omega arith))
      by (no k) =
          let at : 3 * t + p ≡ length ts + (3 * (t - T) + p) = omega arith in
          rw (at, get_or-append-add ts us (3 * (t - T) + p) 0) (g (t - T) (omega (arith, length-append ts us)))

  members_append : (N : ℕ) → Members ts N → Members us N → Members (ts ++ us) N
  members_append N m k = record {
    few = m.few;
    first = members_part (λ v. v < N) 0 (omega arith) m.first k.first;
    second = members_part (λ v. v < N) 1 (omega arith) m.second k.second;
    third = members_part (λ v. (v < N) ⊎ (v ≡ blank)) 2 (omega arith) m.third k.third;
  }

triples_members : (n N : ℕ) → N ≤ blank → (cs : List (List ℕ)) (a : ℕ) → n ≤ a → a + total turns cs ≤ N → SoundChecks n cs → Members (triples_from cs a) N
unfolding triples_from
triples_members n N h [] a l m s = record { few = h; first = λ t b. absurd (omega arith); second = λ t b. absurd (omega arith); third = λ t b. absurd (omega arith) }
triples_members n N h (c ∷ cs) a l m s =
    members_append (triples_of c a) (triples_from cs (a + turns c)) (triple_count c) (triples_of_long c a s.0.least) N
    (check_members n a c s.0 l (omega arith) N (omega arith) h) (triples_members n N h cs (a + turns c) (omega arith) (omega arith) s.1)

-- how many entries pass
none_more : {A : Type 0} (p : A → Bool) (l : List A) → total (λ x. 1 if p x) l ≤ length l
none_more p [] = omega arith
none_more p (x ∷ l) = omega (arith, none_more p l, if_most (p x))

one_least : {A : Type 0} (p : A → Bool) (l : List A) → some p l ≡ true → 1 ≤ total (λ x. 1 if p x) l
one_least p [] e = absurd (subst T (sym e) tt)
one_least p (x ∷ l) e = by (p x) e (one_least p l)
  where
    by : (t : Bool) → (t || some p l) ≡ true → (some p l ≡ true → 1 ≤ total (λ x. 1 if p x) l) → 1 ≤ 1 if t + total (λ x. 1 if p x) l
    by true e ih = omega arith
    by false e ih = omega (arith, ih e)

checks_occur : (v n : ℕ) (cs : List (List ℕ)) → SoundChecks n cs
    → (total (total (is v)) cs ≡ total (λ c. 1 if some (eqb v) c) cs) × (n ≤ v → total (total (is v)) cs ≡ 0)
checks_occur v n [] s = (refl, λ h. refl)
checks_occur v n (c ∷ cs) s =
    let ih = checks_occur v n cs s.1 in
    let r = is_rising v n 0 c s.0.rising in
    (omega (arith, ih.0, r.0), λ h. omega (arith, ih.1 h, r.2 h))

module _ (k : Code) (s : Sound k) where
  pub members_long : length (system_of k).members ≡ 3 * triples k
  unfolding system_of
  members_long = triples_long k.bits k.checks k.bits s.checks

  -- no variable has the blank's index
  pub few_variables : variables k < blank
  few_variables = omega (arith, variables_most k s, s.bits_most, s.triples_most)

  standing_is : (v : ℕ) → v < blank → standing k v ≡ total (total (is v)) k.checks + 2 * sum_ℕ (total turns k.checks) (λ j. is v (k.bits + j))
  unfolding system_of
  standing_is v h =
      occurs v (triples k) (system_of k).members members_long ∙ triples_total (is v) k.checks k.bits
      ∙ rw (total_same (λ c. total (is v) (waiting c)) (total (is v)) (λ c. is_waiting v c h) k.checks)

  pub counts : Counts k
  counts = record {
    bits = λ v h. omega (arith, standing_is v (omega (arith, s.bits_most)), (is_range v (total turns k.checks) k.bits).0 h, (checks_occur v k.bits k.checks s.checks).0);
    auxiliaries = λ v h l. omega (arith, standing_is v (omega (arith, few_variables)), (is_range v (total turns k.checks) k.bits).2 h l, (checks_occur v k.bits k.checks s.checks).1 h);
  }

  pub occurs_some : (v : ℕ) → v < variables k → 1 ≤ standing k v
  occurs_some v h = by (dec_lt v k.bits)
    where
      by : Dec (v < k.bits) → 1 ≤ standing k v
      by (yes l) = rw (counts.bits v l) (one_least (some (eqb v)) k.checks (s.covered v l))
      by (no l) = omega (arith, counts.auxiliaries v (omega arith) h)

  pub occurs_few : (v : ℕ) → v < variables k → standing k v ≤ most_checks
  occurs_few v h = by (dec_lt v k.bits)
    where
      by : Dec (v < k.bits) → standing k v ≤ most_checks
      by (yes l) = omega (arith, counts.bits v l, none_more (some (eqb v)) k.checks, s.checks_most)
      by (no l) = omega (arith, counts.auxiliaries v (omega arith) h)

  -- the members of a triple are variables of the code, but for the blank
  pub members : Members (system_of k).members (variables k)
  unfolding system_of
  members = triples_members k.bits (variables k) (omega (arith, few_variables)) k.checks k.bits (omega arith) (omega arith) s.checks
