-- `exporter::largest` meets its contract: the largest so far, or one that is to come.
use Rattle.integers.proofs.Prelude.{◌≡◌, ◌≤◌, max, drop}
use Rattle.model.specs.Alist.{largest}
use Rattle.exporter.proofs.largest.Given as goal

abbrev pub invariant-loop-degree : goal.invariant-loop-degree
invariant-loop-degree l = (max l.most (largest (drop l.degree-index l.degrees)) ≡ largest l.degrees) × (l.most ≤ 65535)
