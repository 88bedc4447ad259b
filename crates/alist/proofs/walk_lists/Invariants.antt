-- The lists that are left decide.
use Rattle.integers.proofs.Prelude.{◌≡◌, ◌-◌, ◌*◌, drop}
use Rattle.numbers.specs.Sides.{degrees_in, lists_in}
use Rattle.alist.specs.Form.{filled_lists}
use Rattle.alist.proofs.walk_lists.Given as goal

abbrev pub invariant-loop : goal.invariant-loop
invariant-loop l =
    let s = l.side in
    (filled_lists s.count s.most (degrees_in s) (lists_in s) ≡ filled_lists (s.count - l.counter) s.most (drop l.counter (degrees_in s)) (drop (l.counter * s.most) (lists_in s)))
    × (l.degrees ≡ drop l.counter (degrees_in s)) × (l.lists ≡ drop (l.counter * s.most) (lists_in s))
