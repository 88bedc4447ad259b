-- `codeword::write_auxiliaries` meets its contract: the auxiliaries so far. Assumes nothing.
use Rattle.integers.proofs.Prelude.{◌≡◌, ◌≤◌, take}
use Rattle.lists.specs.Tabulated.{written}
use Rattle.codeword.proofs.Extending.{made}
use Rattle.codeword.proofs.write_auxiliaries.Given as goal

abbrev pub invariant-loop-t : goal.invariant-loop-t
invariant-loop-t l = (l.t ≤ l.t-end) × (l.point ≡ written (made l.check l.next (take l.next l.initial.point) l.t) l.initial.point)
