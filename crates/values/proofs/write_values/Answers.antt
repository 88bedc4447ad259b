-- `values::write_values` meets its contract: the bits, then the auxiliaries, past whose number no cost is left. Assumes nothing.
use Rattle.integers.proofs.Prelude.{◌≡◌, ◌∙◌, List, [], ℕ, ◌+◌, ◌-◌, arith, ℤ, pos, length, take, drop, drop_of_length-le, get_or-eq_default}
use Rattle.lists.proofs.Parts.{part_from}
use Rattle.model.specs.Iteration.{at}
use Rattle.values.specs.Values.{value_from}
use Rattle.values.proofs.Values.{both_ranges}
use Rattle.values.proofs.write_values.Goals as goal
use Rattle.values.proofs.write_values.Goals.{Start, After-write_range}

-- what is lent of the costs behind the bits
none_left : (l : List ℤ) → take (length l - length l) (drop (length l) l) ≡ []
none_left l = part_from (length l) l ∙ drop_of_length-le l {i = length l} (omega arith)

no_cost : (l : List ℤ) (i : ℕ) → at l (length l + i) ≡ pos 0
no_cost l i = get_or-eq_default l (pos 0) (omega arith)

module _ (c : After-write_range) where
  abbrev start : Start
  start = (goal.at.After-write_range c).Start

  abbrev f : List ℤ → ℕ → ℤ
  f costs = let s = start.args in value_from s.sums.now s.counts.now costs s.weight s.divisors.now

pub write_range-requires-2 : goal.write_range-requires-2
write_range-requires-2 c =
    let s = start (goal.at.write_range-requires-2 c).After-write_range in
    let g = s.requires.given.0 in
    let e = c.write_range.auto.values in
    rw (e, none_left s.args.costs.now) (record { given = (record { sums_long = g.sums_long; counts_long = g.counts_long; sum = g.sum; cost = λ v h. omega arith; some = g.some; few = g.few }, s.requires.given.1); from_le_to = (s.requires.costs_fit, omega arith) })

pub returns : goal.returns
returns c =
    let costs = (start (goal.at.returns c).After-write_range).args.costs.now in
    let second = rw (none_left costs) at c.write_range-2.ensures in
    both_ranges (f (goal.at.returns c).After-write_range costs) (f (goal.at.returns c).After-write_range []) (length costs) (start (goal.at.returns c).After-write_range).args.values.now _ _ (start (goal.at.returns c).After-write_range).requires.costs_fit (λ i. rw (no_cost costs i)) c.write_range.ensures second
