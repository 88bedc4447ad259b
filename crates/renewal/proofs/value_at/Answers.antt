-- `renewal::value_at` meets its contract: a variable's value, or the blank's. Assumes nothing.
use Rattle.integers.proofs.Prelude.{◌≡◌, refl, sym, ap, ◌∙◌, Bool, true, false, not, ◌||◌, ℕ, ◌<◌, arith, rules, eqb-true, eqb-false, eqb, not-false, not-true, length, w16, w32, to_z, of_z}
use mathlib.Core.Logic.{◌⊎◌, inl, inr}
use Rattle.integers.proofs.Machine.{Worth, stored, param, within_raw}
use Rattle.quotient.specs.Quotient.{unit}
use Rattle.model.specs.Splitting.{blank, member}
use Rattle.model.specs.Iteration.{at, value_at}
use Rattle.model.proofs.Causes.{or_false}
use Rattle.model.proofs.TripleRule.{member_is}
use Rattle.model.proofs.Rows.{value_variable}
use Rattle.renewal.proofs.value_at.Goals as goal
use Rattle.renewal.proofs.value_at.Goals.{Start, After-variable-v, After-from, Then-known-v}

abbrev start : After-variable-v → Start
start c = (goal.at.After-variable-v c).Start

-- what stands there
abbrev there : After-variable-v → ℕ
there c = member (start c).args.triples.now (start c).args.t (start c).args.p

-- it is no blank, and so a variable
other : (c : Then-known-v) → there (goal.at.Then-known-v c).After-variable-v ≡ blank → ⊥
other c = by (start (goal.at.Then-known-v c).After-variable-v).args.known (start (goal.at.Then-known-v c).After-variable-v).requires.no_blank c.if-known-v.true
  where
    by : (k : Bool) → (k ≡ true → there (goal.at.Then-known-v c).After-variable-v ≡ blank → ⊥) → (k || not (eqb c.variable-v.result blank)) ≡ true → there (goal.at.Then-known-v c).After-variable-v ≡ blank → ⊥
    by true f e = f refl
    by false f e = λ b. eqb-false c.variable-v.result blank (not-true _ e) (c.variable-v.ensures ∙ b)

below : (c : Then-known-v) → c.variable-v.result < length (start (goal.at.Then-known-v c).After-variable-v).args.values.now
below c = by (member_is s.args.triples.now (length s.args.values.now) s.requires.in_lists.3.0 s.args.t s.args.p s.requires.in_lists.2 s.requires.in_lists.1)
  where
    s : Start
    s = start (goal.at.Then-known-v c).After-variable-v

    by : (there (goal.at.Then-known-v c).After-variable-v < length s.args.values.now) ⊎ (there (goal.at.Then-known-v c).After-variable-v ≡ blank) → c.variable-v.result < length s.args.values.now
    by (inl h) = omega (arith, c.variable-v.ensures)
    by (inr e) = absurd (other c e)

value : (c : Then-known-v) → let z = at (start (goal.at.Then-known-v c).After-variable-v).args.values.now c.variable-v.result in Worth (to_z w16 (of_z w16 z)) z unit
value c = param w16 _ unit tt ((start (goal.at.Then-known-v c).After-variable-v).requires.in_lists.3.1 c.variable-v.result)

pub returns-then-known-v : goal.returns-then-known-v
returns-then-known-v c =
    let t = (goal.at.After-from (goal.at.returns-then-known-v c).After-from).Then-known-v in
    let v = stored (value t) w32 tt in
    let variable : c.variable-v.result < blank = omega (arith, below t, c.requires.in_lists.3.0.few) in
    rw c.from.ensures (v.is ∙ sym (value_variable c.args.values.now c.variable-v.result variable) ∙ ap (value_at c.args.values.now) c.variable-v.ensures, within_raw v)

pub returns-else-known-v : goal.returns-else-known-v
returns-else-known-v c =
    let v = c.variable-v.result in
    let no = (or_false (start (goal.at.returns-else-known-v c).After-variable-v).args.known (not (eqb v blank)) c.if-known-v.false).1 in
    let e : there (goal.at.returns-else-known-v c).After-variable-v ≡ blank = sym c.variable-v.ensures ∙ eqb-true v blank (not-false _ no) in
    rw e (refl, omega arith)

pub offset_bounds-values-v : goal.offset_bounds-values-v
offset_bounds-values-v c = search (rules, below c)

pub bounds-values-v : goal.bounds-values-v
bounds-values-v c = below c
