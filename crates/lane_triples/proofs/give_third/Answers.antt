-- `lane_triples::give_third` meets its contract. Assumes nothing.
use Rattle.integers.proofs.Prelude.{◌≡◌, ap, ◌∙◌, Bool, false, ne_eqb, eq-eqb, eqb}
use Rattle.model.specs.Splitting.{blank}
use Rattle.lane_triples.specs.Step.{given}
use Rattle.lane_triples.proofs.give_third.Goals as goal
use Rattle.lane_triples.proofs.give_third.Goals.{Then-w-ne-BLANK}

-- a variable
some : (c : Then-w-ne-BLANK) → eqb c.args.w blank ≡ false
some c = ne_eqb c.args.w blank c.if-w-ne-BLANK.true

pub give-requires : goal.give-requires
give-requires c = (rw c.is_wide.ensures (c.requires.0 (some (goal.at.give-requires c).Then-w-ne-BLANK)).1, c.requires.1)

pub returns-then-w-ne-BLANK : goal.returns-then-w-ne-BLANK
returns-then-w-ne-BLANK c =
    let a = c.args in
    rw (some (goal.at.returns-then-w-ne-BLANK c).Then-w-ne-BLANK) (c.give.ensures ∙ ap (λ (e : Bool). given e a.work.now a.i a.j a.x) c.is_wide.ensures)

pub is_wide-requires : goal.is_wide-requires
is_wide-requires c = (c.requires.0 (some (goal.at.is_wide-requires c).Then-w-ne-BLANK)).0

pub returns-else-w-ne-BLANK : goal.returns-else-w-ne-BLANK
returns-else-w-ne-BLANK c = rw (eq-eqb c.args.w blank c.if-w-ne-BLANK.false)
