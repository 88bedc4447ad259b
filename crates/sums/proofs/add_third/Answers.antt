-- `sums::add_third` meets its contract. Assumes nothing.
use Rattle.integers.proofs.Prelude.{sym, ap, ◌∙◌, ◌≤◌, arith, ne_eqb, eqb, ℤ, ◌+ℤ◌, length, w32}
use lib.IntN.{+ℤ_idr}
use Rattle.integers.proofs.Machine.{read}
use Rattle.lists.specs.Tabulated.{tab}
use Rattle.lists.proofs.Tabulated.{length_tab, tab_same}
use Rattle.model.specs.Splitting.{blank}
use Rattle.model.specs.Iteration.{◌when◌}
use Rattle.sums.proofs.add_third.Goals as goal

pub returns-then-v-ne-BLANK : goal.returns-then-v-ne-BLANK
returns-then-v-ne-BLANK c n f e =
    c.add.ensures n f e ∙ ap (λ (x : ℤ). tab n (λ u. f u +ℤ (x when eqb c.args.v u))) (read w32 c.ranges.x).is

-- the blank is no entry of the list
pub returns-else-v-ne-BLANK : goal.returns-else-v-ne-BLANK
returns-else-v-ne-BLANK c n f e =
    let few : n ≤ blank = omega (arith, ap length e ∙ length_tab n f, c.requires.0) in
    e ∙ tab_same n f _ (λ u h. rw (ne_eqb c.args.v u (λ k. omega (arith, c.if-v-ne-BLANK.false))) (sym (+ℤ_idr (f u))))

pub add-requires : goal.add-requires
add-requires c = let h = c.requires.1 c.if-v-ne-BLANK.true in (h.0, h.1)
