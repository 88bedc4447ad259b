-- `renewal::with_four` meets its contract. Assumes nothing.
use Rattle.integers.proofs.Prelude.{◌≡◌, [], ℕ, ◌+◌, ◌*◌, ◌^◌, ◌≤◌, arith, get_or}
use Rattle.rows.specs.Sides.{Rows, most_changes}
use Rattle.renewal.specs.declared.Totals.{Totals}
use Rattle.renewal.proofs.with_four.Goals as goal
use Rattle.renewal.proofs.with_four.Goals.{Start}

joined : (m a b c r x y z w : ℕ) → a ≡ m + x → b ≡ a + y → c ≡ b + z → r ≡ c + w → r ≡ m + (0 + x + y + z + w)
joined m a b c r x y z w p q s t = omega arith

pub returns : goal.returns
returns c = (
  joined _ _ _ _ _ _ _ _ _ c.with_triple-a.ensures.changes_added.0 c.with_triple-b.ensures.changes_added.0 c.with_triple-c.ensures.changes_added.0 c.with_triple.ensures.changes_added.0,
  joined _ _ _ _ _ _ _ _ _ c.with_triple-a.ensures.changes_added.1 c.with_triple-b.ensures.changes_added.1 c.with_triple-c.ensures.changes_added.1 c.with_triple.ensures.changes_added.1,
)

-- what a triple more asks, where so many are counted
asked : (s : Start) (k : ℕ) (r : Totals) → (r.multipliers ≤ s.args.totals.multipliers + 3 * most_changes) × (r.slacks ≤ s.args.totals.slacks + 3 * most_changes)
    → ((r.multipliers ≤ 2 ^ 63) × (r.slacks ≤ 2 ^ 63)) × (Rows (get_or s.args.old k []) × Rows (get_or s.args.new k []))
asked s k r h = (omega (arith, s.requires.totals_fit, h), (s.requires.fours.0 k, s.requires.fours.1 k))

pub with_triple-a-requires : goal.with_triple-a-requires
with_triple-a-requires c = let p = asked (goal.at.with_triple-a-requires c).Start 0 c.args.totals (omega arith) in record { totals_fit = p.0; rows = p.1 }

pub with_triple-b-requires : goal.with_triple-b-requires
with_triple-b-requires c = let p = asked (goal.at.with_triple-b-requires c).Start 1 c.with_triple-a.result (omega (arith, c.with_triple-a.ensures.most_added)) in record { totals_fit = p.0; rows = p.1 }

pub with_triple-c-requires : goal.with_triple-c-requires
with_triple-c-requires c = let p = asked (goal.at.with_triple-c-requires c).Start 2 c.with_triple-b.result (omega (arith, c.with_triple-a.ensures.most_added, c.with_triple-b.ensures.most_added)) in record { totals_fit = p.0; rows = p.1 }

pub with_triple-requires : goal.with_triple-requires
with_triple-requires c = let p = asked (goal.at.with_triple-requires c).Start 3 c.with_triple-c.result (omega (arith, c.with_triple-a.ensures.most_added, c.with_triple-b.ensures.most_added, c.with_triple-c.ensures.most_added)) in record { totals_fit = p.0; rows = p.1 }
