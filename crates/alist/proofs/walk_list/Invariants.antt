-- What is left of the list decides.
use Rattle.integers.proofs.Prelude.{◌≡◌, ◌-◌, drop}
use Rattle.alist.specs.Form.{filled_list}
use Rattle.alist.proofs.walk_list.Given as goal

abbrev pub invariant-loop-i : goal.invariant-loop-i
invariant-loop-i l =
    (filled_list l.degree l.most l.initial.numbers ≡ filled_list (l.degree - l.i) (l.most - l.i) (drop l.i l.initial.numbers))
    × (l.numbers ≡ drop l.i l.initial.numbers)
