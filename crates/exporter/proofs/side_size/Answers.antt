-- `exporter::side_size` meets its contract: the degrees, the entries, and two bytes for each zero. Assumes nothing.
use Rattle.integers.proofs.Prelude.{◌≡◌, ap, ℕ, ◌*◌, ◌≤◌, arith, length}
use native.Mathlib.Nat.{mul-le-mul}
use Rattle.model.specs.Alist.{largest}
use Rattle.model.proofs.AlistSizes.{total_most}
use Rattle.exporter.proofs.Lists.{length_side}
use Rattle.exporter.proofs.side_size.Goals as goal
use Rattle.exporter.proofs.side_size.Goals.{Start, After-largest}

module _ (c : After-largest) where
  abbrev s : Start
  s = (goal.at.After-largest c).Start

  few : length s.args.degrees.now * c.largest.result ≤ 4096 * 65535
  few = mul-le-mul s.requires.few c.largest.ensures.1

  less : length s.args.entries.now ≤ length s.args.degrees.now * c.largest.result
  less = omega (arith, s.requires.long, total_most c.largest.result s.args.degrees.now (omega (arith, c.largest.ensures.0)))

pub returns : goal.returns
returns c =
    let a = (s (goal.at.returns c).After-largest).args in
    let same : length a.degrees.now * c.largest.result ≡ length a.degrees.now * largest a.degrees.now
    = ap (λ (most : ℕ). length a.degrees.now * most) c.largest.ensures.0 in (
      omega (arith, length_side a.degrees.now a.entries.now (s (goal.at.returns c).After-largest).requires, c.size.ensures.0, c.size-2.ensures.0),
      omega (arith, few (goal.at.returns c).After-largest, c.size.ensures.1, c.size-2.ensures.1, (s (goal.at.returns c).After-largest).requires.few, (s (goal.at.returns c).After-largest).requires.small),
    )

pub overflow_mul-filled : goal.overflow_mul-filled
overflow_mul-filled c = omega (arith, few c)

pub size-requires-2 : goal.size-requires-2
size-requires-2 c = omega (arith, (s (goal.at.size-requires-2 c).After-largest).requires.small)

pub overflow_add-result : goal.overflow_add-result
overflow_add-result c = omega (arith, c.size.ensures.1, c.size-2.ensures.1)

pub overflow_sub-result : goal.overflow_sub-result
overflow_sub-result c = omega (arith, less (goal.at.overflow_sub-result c).After-largest)

pub overflow_mul-result : goal.overflow_mul-result
overflow_mul-result c = omega (arith, few (goal.at.overflow_mul-result c).After-largest)

pub overflow_add-result-2 : goal.overflow_add-result-2
overflow_add-result-2 c = omega (arith, few (goal.at.overflow_add-result-2 c).After-largest, c.size.ensures.1, c.size-2.ensures.1)
