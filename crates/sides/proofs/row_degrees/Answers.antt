-- `sides::row_degrees` meets its contract: the degrees of the checks so far, and their sum. Assumes nothing.
use Rattle.integers.proofs.Prelude.{◌≡◌, sym, ◌<◌, List, [], ◌∷◌, ◌++◌, map, ℕ, arith, length, length-map, length-append, set}
use mathlib.Core.List.{map-append}
use Rattle.lists.specs.Tabulated.{written}
use Rattle.lists.proofs.Entries.{total_append}
use Rattle.lists.proofs.Parts.{written_next}
use Rattle.reader.proofs.Done.{Done, one_done, some_left}
use Rattle.sides.proofs.row_degrees.Invariants.{Degrees}
use Rattle.sides.proofs.row_degrees.Goals as goal
use Rattle.sides.proofs.row_degrees.Goals.{After-degree-degree}

-- the checks that are done, and the one at hand
taken : (c : After-degree-degree)
    → Done c.args.code.now.checks (c.in-Some.check ∷ c.next.new.self.iter) (Degrees c.loop-j.j-iterator.count c.loop-j.sum c.args.degrees.now c.loop-j.degrees)
taken c = rw c.in-Some.ensures.steps.0 at c.loop-j.invariant

few : (c : After-degree-degree) → c.loop-j.j-iterator.count < length c.args.degrees.now
few c = omega (arith, (taken c).known.count, some_left (taken c), c.requires)

put : (old : List ℕ) (done : List (List ℕ)) (check degrees : List ℕ) (j d : ℕ) → degrees ≡ written (map length done) old → j ≡ length (map length done)
    → d ≡ length check → length (map length done) < length old → set degrees j d ≡ written (map length (done ++ (check ∷ []))) old
put old done check degrees j d so_far place value room =
    rw (so_far, place, value, map-append length done (check ∷ [])) (written_next (map length done) old (length check) room)

pub loop-j-preserved : goal.loop-j-preserved
loop-j-preserved c =
    let d = taken c in
    let k = d.known in
    let s = c.in-Some.ensures.steps in
    let done = map length d.items in
    let long : length done ≡ c.in-Some.j = omega (arith, length-map d.items length, k.count, s) in
    one_done d _ (record {
      count = omega (arith, s, k.count, length-append d.items (c.in-Some.check ∷ []));
      entries = put c.args.degrees.now d.items c.in-Some.check _ _ _ k.entries (sym long) c.degree-degree.ensures.value (omega (arith, long, few c, s));
      total_is = omega (arith, k.total_is, c.degree-degree.ensures.value, total_append length d.items (c.in-Some.check ∷ []));
      most = omega (arith, k.most, s, c.degree-degree.ensures);
    })
