-- The degrees that are left decide.
use Rattle.integers.proofs.Prelude.{◌≡◌, ltb, take, drop}
use Rattle.lists.specs.Entries.{every}
use Rattle.importer.proofs.all_named.Given as goal

abbrev pub invariant-loop : goal.invariant-loop
invariant-loop l =
    let ds = take l.count l.degrees in
    (every (ltb 0) ds ≡ every (ltb 0) (drop l.counter ds)) × (l.degrees_left ≡ drop l.counter l.degrees)
