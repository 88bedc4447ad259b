-- `sides::column_entries` meets its contract: the columns among the checks so far stand where they begin. Assumes nothing.
use Rattle.integers.proofs.Prelude.{◌≡◌, refl, ap, ◌∙◌, ◌+◌, ◌++◌, [], ◌∷◌, arith, length, length-append, get_or}
use Rattle.lists.specs.Entries.{sum}
use Rattle.lists.proofs.Tabulated.{length_tab}
use Rattle.model.specs.Limits.{most_bits}
use Rattle.model.specs.Sound.{Rising, SoundCheck}
use Rattle.model.proofs.Sound.{rising_below, rising_more}
use Rattle.reader.proofs.Done.{Done, none_done, one_done, all_done, each_here}
use Rattle.sides.specs.Columns.{Room}
use Rattle.sides.proofs.Counting.{length_counted, length_placed}
use Rattle.sides.proofs.Sorting.{start, ends_before, start_end, sorted_next, sorted_all}
use Rattle.sides.proofs.Columns.{column, column_within, column_start, column_open, column_grown}
use Rattle.sides.proofs.column_entries.Invariants.{Columns}
use Rattle.sides.proofs.column_entries.Goals as goal
use Rattle.sides.proofs.column_entries.Goals.{Start, In-Some}

width : (s : Start) → length s.args.degrees.now ≡ s.args.code.now.bits
width s = ap length s.requires.degrees ∙ length_tab _ _

-- the columns fill the entries
filled : (s : Start) → length s.args.entries.now ≡ start (column s.args.code.now.checks) s.args.code.now.bits
filled s = s.requires.sum ∙ ap sum s.requires.degrees ∙ start_end s.args.code.now.bits (column s.args.code.now.checks)

pub starts-requires-clause-few : goal.starts-requires-clause-few
starts-requires-clause-few c = omega (arith, width (goal.at.starts-requires-clause-few c).Start, c.checks-checks.ensures.sound.bits_most)

pub loop-j-init : goal.loop-j-init
loop-j-init c =
    let k = c.args.code.now in
    let n = width (goal.at.loop-j-init c).Start in
    rw (c.into_iter-j-iterator.ensures.into_iter_gives, c.enumerate-j-items.ensures.source, c.enumerate-j-items.ensures.count, c.checks-checks.ensures.value)
    (none_done _ (record {
      count = refl;
      next_long = c.type_inv.next;
      entries_long = refl;
      sorted = column_start k.checks k.bits c.args.degrees.now _ _ _ c.requires.degrees (rw n at c.starts.ensures);
    }))

-- the checks that are done, and the one at hand
taken : (c : In-Some)
    → let k = c.args.code.now in
    Done k.checks (c.in-Some.check ∷ c.next.new.self.iter) (Columns k.checks k.bits c.loop-j.j-iterator.count c.args.entries.now c.loop-j.next c.loop-j.entries)
taken c = rw c.in-Some.ensures.steps.0 at c.loop-j.invariant

rising : (c : In-Some) → Rising c.args.code.now.bits 0 c.in-Some.check
rising c = (each_here (taken c) (SoundCheck c.args.code.now.bits) c.checks-checks.ensures.sound.checks).rising

room : (c : In-Some) → Room c.in-Some.check c.loop-j.next c.loop-j.entries
room c i h =
    let k = c.args.code.now in
    let d = taken c in
    let b = get_or c.in-Some.check i 0 in
    let below = rising_below k.bits 0 c.in-Some.check (rising c) i h in
    omega (
      arith,
      d.known.sorted.here b below,
      column_open k.checks d.items c.next.new.self.iter c.in-Some.check d.whole i h,
      ends_before (column k.checks) b k.bits below,
      filled (goal.at.In-Some c).Start,
      d.known.entries_long,
    )

pub place-requires-clause-rising : goal.place-requires-clause-rising
place-requires-clause-rising c =
    rising_more c.args.code.now.bits most_bits 0 c.in-Some.check c.checks-checks.ensures.sound.bits_most (rising (goal.at.place-requires-clause-rising c).In-Some)

pub place-requires-clause-room : goal.place-requires-clause-room
place-requires-clause-room c = room (goal.at.place-requires-clause-room c).In-Some

pub loop-j-preserved : goal.loop-j-preserved
loop-j-preserved c =
    let k = c.args.code.now in
    let d = taken (goal.at.loop-j-preserved c).In-Some in
    let x = c.in-Some.check in
    let left = c.next.new.self.iter in
    let next = c.place.ensures.next in
    let entries = c.place.ensures.entries in
    let number : c.in-Some.j + 1 ≡ length d.items + 1 = omega (arith, c.in-Some.ensures.steps, d.known.count) in
    one_done d _ (record {
      count = omega (arith, c.in-Some.ensures.steps, d.known.count, length-append d.items (x ∷ []));
      next_long = ap length next ∙ length_counted x c.loop-j.next ∙ d.known.next_long;
      entries_long = ap length entries ∙ length_placed (c.in-Some.j + 1) c.loop-j.next x c.loop-j.entries ∙ d.known.entries_long;
      sorted = rw (next, entries, number)
          (sorted_next d.known.sorted (column (d.items ++ (x ∷ []))) x (length d.items + 1)
          (omega (arith, c.checks-checks.ensures.sound.bits_most, d.known.next_long))
          (omega (arith, filled (goal.at.loop-j-preserved c).Start, d.known.entries_long))
          (rising (goal.at.loop-j-preserved c).In-Some)
          (column_open k.checks d.items left x d.whole)
          (λ b h. column_within k.checks d.items left x d.whole b)
          (column_grown k.checks d.items left x d.whole));
    })

pub returns : goal.returns
returns c =
    let k = c.args.code.now in
    let known = all_done (rw c.in-None.ensures.steps.0.0 at c.loop-j.invariant) in
    sorted_all k.bits (column k.checks) c.loop-j.entries known.sorted.part (known.entries_long ∙ filled (goal.at.returns c).Start)
