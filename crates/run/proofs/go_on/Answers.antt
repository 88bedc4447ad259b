-- `run::go_on` meets its contract: the rows are put where they stand while a run goes, and there they are read as they were. Assumes nothing.
use Rattle.integers.proofs.Prelude.{◌≡◌, refl, sym, ap, ◌∙◌, subst, false, arith, eqb, eq-eqb, ne_eqb}
use Rattle.integers.proofs.Linear.{about}
use Rattle.model.specs.Iteration.{at}
use Rattle.model.specs.Bounds.{RowsWithin}
use Rattle.layout.specs.Transposed.{straight}
use Rattle.layout.proofs.Places.{straight_straight}
use Rattle.run.proofs.Remains.{lent_again}
use Rattle.run.proofs.go_on.Goals as goal
use Rattle.run.proofs.go_on.Goals.{Start, Else-done-eq0, After-straighten}

-- ---- from the start
pub returns-then-done-eq0 : goal.returns-then-done-eq0
returns-then-done-eq0 c =
    λ k. rw (eq-eqb c.args.done 0 c.if-done-eq0.true) (c.run.ensures k)

-- ---- from the state in the lists
module _ (e : Else-done-eq0) where
  abbrev start : Start
  start = (goal.at.Else-done-eq0 e).Start

  some : eqb start.args.done 0 ≡ false
  some = ne_eqb start.args.done 0 e.if-done-eq0.false

  within : RowsWithin start.args.done start.args.rows.now
  within = start.requires.rows_within some

pub straighten-requires : goal.straighten-requires
straighten-requires c =
    let s = start (goal.at.straighten-requires c).Else-done-eq0 in (
      s.requires.lent.ready.triples,
      s.requires.lent.rows,
      λ j. let z = at s.args.rows.now j in omega (arith, about z, (within (goal.at.straighten-requires c).Else-done-eq0).multipliers j, (within (goal.at.straighten-requires c).Else-done-eq0).slacks j, s.requires.le_limit.1, s.requires.le_limit.2),
    )

abbrev left : After-straighten → Else-done-eq0
left z = (goal.at.After-straighten z).Else-done-eq0

-- the rows, as a run reads them
as_they_were : (z : After-straighten) → straight (start (left z)).args.count z.straighten.new.rows ≡ (start (left z)).args.rows.now
as_they_were z =
    let s = start (left z) in
    ap (straight s.args.count) z.straighten.ensures ∙ straight_straight s.args.count s.args.rows.now (sym s.requires.lent.rows)

pub run_from-requires : goal.run_from-requires
run_from-requires c =
    let s = start (left (goal.at.run_from-requires c).After-straighten) in
    let p = s.requires.lent in
    record {
      lent = lent_again _ _ c.straighten.new.rows p.sums refl (c.straighten.auto.rows ∙ sym p.rows) p;
      rows_within = subst (RowsWithin s.args.done) (sym (as_they_were (goal.at.run_from-requires c).After-straighten)) (within (left (goal.at.run_from-requires c).After-straighten));
      done_le_limit = (s.requires.le_limit.1, s.requires.le_limit.2);
    }

pub returns : goal.returns
returns c =
    λ k. rw (some (left (goal.at.returns c).After-straighten)) (rw (as_they_were (goal.at.returns c).After-straighten) at (c.run_from.ensures k))
