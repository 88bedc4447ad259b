-- The walk is in a number that is `value` so far.
use Rattle.integers.proofs.Prelude.{◌≡◌, false, suc, ◌≤◌, ◌<◌, length, get_or, drop}
use Rattle.model.specs.Limits.{most_number}
use Rattle.model.specs.Alist.{separator, numbers_of}
use Rattle.numbers.proofs.finish.Given as goal

abbrev pub invariant-loop-i : goal.invariant-loop-i
invariant-loop-i l =
    (0 < length l.text → separator (get_or l.text 0 0) ≡ false → numbers_of 0 l.text ≡ numbers_of (suc l.value) (drop l.i l.text))
    × (l.value ≤ suc most_number)
