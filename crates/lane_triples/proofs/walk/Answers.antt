-- `lane_triples::walk` meets its contract: the lanes before l have the triple done, those from l on have not. Assumes nothing.
use Rattle.integers.proofs.Prelude.{◌≡◌, ap, subst, ◌∙◌, ℕ, suc, ◌+◌, arith, add-one, eqb-false, ne_eqb, eqb, length, not, true, refl}
use Rattle.lists.proofs.Tabulated.{length_tab}
use Rattle.model.specs.Splitting.{blank}
use Rattle.model.specs.Iteration.{occurrences}
use Rattle.lane_triples.specs.Walk.{Course, InWalk, Walks}
use Rattle.lane_triples.proofs.Step.{may_step}
use Rattle.lane_triples.proofs.Walks.{AtFour, InTurn, turn_of, four_more, a_four, next_four, first_below, second_below, third_below, narrow_stands, any_stands}
use Rattle.lane_triples.proofs.walk.Goals as goal
use Rattle.lane_triples.proofs.walk.Goals.{Joined-this-ne0, then-this-ne0, else-this-ne0}
use Rattle.lane_triples.proofs.walk.Given.{Over}

-- a constant that is not 0 is true
is_true : (n : ℕ) → (n ≡ 0 → ⊥) → not (eqb n 0) ≡ true
is_true n h = rw (ne_eqb n 0 h) refl

pub renew_narrow-requires : goal.renew_narrow-requires
renew_narrow-requires g c =
    let k = c.requires.begun.2 in
    let f = c.loop-l.invariant.0 in
    may_step (turn_of f.fits k.tripled k.list c.requires.fits.2 (a_four f c.loop-l-test.true) f.room (c.loop-l.invariant.1 _ k _ c.requires.begun.3).1)
    (narrow_stands k c.args.t c.loop-l.l c.requires.fits.2 (c.requires.narrow (is_true g.row.NARROW c.if-this-ne0.true)) c.variable-u.ensures c.variable-v.ensures c.variable-w.ensures)

pub renew_any-requires-clause-may_step : goal.renew_any-requires-clause-may_step
renew_any-requires-clause-may_step g c =
    let k = c.requires.begun.2 in
    let f = c.loop-l.invariant.0 in
    may_step (turn_of f.fits k.tripled k.list c.requires.fits.2 (a_four f c.loop-l-test.true) f.room (c.loop-l.invariant.1 _ k _ c.requires.begun.3).1)
    (any_stands k c.args.t c.loop-l.l c.requires.fits.2 c.variable-u.ensures c.variable-v.ensures c.variable-w.ensures)

pub renew_any-requires-clause-variables_counted : goal.renew_any-requires-clause-variables_counted
renew_any-requires-clause-variables_counted g c =
    let a = c.args in
    let k = c.requires.begun.2 in
    let long : length a.counts.now ≡ a.p.variables = ap length k.tripled.counted ∙ length_tab a.p.variables (occurrences a.triples.now a.p.triples) in (
      omega (arith, long, c.variable-u.ensures, first_below k a.t 0 c.requires.fits.2),
      omega (arith, long, c.variable-v.ensures, second_below k a.t 0 c.requires.fits.2),
      λ e. omega (arith, long, c.variable-w.ensures, third_below k a.t 0 c.requires.fits.2 (λ z. eqb-false c.variable-w.result blank e (c.variable-w.ensures ∙ z))),
    )

-- the triple is done in four lanes more
next : (g : Over) (c : Joined-this-ne0 g) → AtFour c.args.p c.args.from c.args.to (c.loop-l.l + 4) c.args.work.now c.if-this-ne0.work
    × ((i : ℕ) → Course c.args.p c.args.triples.now c.args.counts.now i c.args.values c.args.next → InTurn c.args.p c.args.triples.now c.args.counts.now i c.args.from c.args.to c.args.t (c.loop-l.l + 4) c.args.work.now c.if-this-ne0.work)
next g c =
    let k = c.requires.begun.2 in
    let f = c.loop-l.invariant.0 in
    let four = a_four f c.loop-l-test.true in
    let turn = turn_of f.fits k.tripled k.list c.requires.fits.2 four f.room (c.loop-l.invariant.1 _ k _ c.requires.begun.3).1 in
    elim c.if-this-ne0.branch [
      | then-this-ne0 w ↦
          let n = c.requires.narrow (is_true g.row.NARROW w.if-this-ne0.true) in
          rw (w.work-is, w.renew_narrow.ensures) (
            next_four f c.loop-l-test.true turn (narrow_stands k c.args.t c.loop-l.l c.requires.fits.2 n c.variable-u.ensures c.variable-v.ensures c.variable-w.ensures),
            λ i k. four_more f.fits k.tripled k.list c.requires.fits.2 four f.room f.first
                (narrow_stands k c.args.t c.loop-l.l c.requires.fits.2 n c.variable-u.ensures c.variable-v.ensures c.variable-w.ensures) (c.loop-l.invariant.1 i k),
          )
      | else-this-ne0 w ↦
          rw (w.work-is, w.renew_any.ensures) (
            next_four f c.loop-l-test.true turn (any_stands k c.args.t c.loop-l.l c.requires.fits.2 c.variable-u.ensures c.variable-v.ensures c.variable-w.ensures),
            λ i k. four_more f.fits k.tripled k.list c.requires.fits.2 four f.room f.first
                (any_stands k c.args.t c.loop-l.l c.requires.fits.2 c.variable-u.ensures c.variable-v.ensures c.variable-w.ensures) (c.loop-l.invariant.1 i k),
          )
    ]

pub loop-l-preserved : goal.loop-l-preserved
loop-l-preserved g c = next g (goal.at.loop-l-preserved g c).Joined-this-ne0

-- the last four are done
ended : (g : Over) (c : Joined-this-ne0 g) → c.loop-l.l + 4 ≡ c.args.to → Walks c.args.p c.args.triples.now c.args.counts.now c.args.values c.args.next c.args.from c.args.to c.args.t (c.args.t + 1) c.args.work.now c.if-this-ne0.work
ended g c e i w k begin =
    let a = c.args in
    rw (add-one a.t) (subst (λ (m : ℕ). InWalk a.p a.triples.now a.counts.now i w a.from m (suc a.t) c.if-this-ne0.work) e ((next g c).1 i k w begin).0)

pub returns-after-this-ne0-clause-walks : goal.returns-after-this-ne0-clause-walks
returns-after-this-ne0-clause-walks g c = let j = (goal.at.returns-after-this-ne0-clause-walks g c).Joined-this-ne0 in ended g j (omega (arith, (next g j).0.last))

pub returns-after-this-ne0-clause-same_beside : goal.returns-after-this-ne0-clause-same_beside
returns-after-this-ne0-clause-same_beside g c = (next g (goal.at.returns-after-this-ne0-clause-same_beside g c).Joined-this-ne0).0.beside

pub returns-clause-walks : goal.returns-clause-walks
returns-clause-walks g c i w k begin =
    let a = c.args in
    let e : c.loop-l.l ≡ a.to = omega (arith, c.loop-l.invariant.0.last, c.loop-l-test.false) in
    rw (add-one a.t) (subst (λ (m : ℕ). InWalk a.p a.triples.now a.counts.now i w a.from m (suc a.t) c.loop-l.work) e (c.loop-l.invariant.1 i k w begin).0)
