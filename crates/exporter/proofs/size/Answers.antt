-- `exporter::size` meets its contract: the bytes of the numbers so far. Assumes nothing.
use Rattle.integers.proofs.Prelude.{◌≡◌, ap, ℕ, ◌+◌, arith, add-one, length, get_or, take}
use Rattle.lists.specs.Entries.{total}
use Rattle.lists.proofs.Entries.{total_next}
use Rattle.model.specs.Text.{decimal}
use Rattle.exporter.proofs.Lines.{field}
use Rattle.exporter.proofs.size.Goals as goal

pub loop-number-preserved : goal.loop-number-preserved
loop-number-preserved c =
    let l = c.loop-number in
    let n = c.args.numbers.now in
    let i = l.number-index in
    let next : total field (take (i + 1) n) ≡ total field (take i n) + field (get_or n i 0) = rw (add-one i) (total_next field n i 0 (omega arith)) in
    let here = ap (λ (x : ℕ). length (decimal x)) c.from.ensures in
    (omega (arith, l.invariant.0, c.digits.ensures.0), omega (arith, c.digits.ensures.1, l.invariant.1))
