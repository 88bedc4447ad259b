-- `sides::column_degrees` meets its contract: the degrees among the checks so far. Assumes nothing.
use Rattle.integers.proofs.Prelude.{◌≡◌, sym, ap, ◌∙◌, ◌∷◌, arith, length}
use Rattle.lists.proofs.Tabulated.{length_tab, tab_replicate}
use Rattle.model.specs.Sound.{SoundCheck}
use Rattle.reader.proofs.Done.{Done, none_done, one_done, all_done, some_left, each_here}
use Rattle.sides.specs.Columns.{counted, Counted}
use Rattle.sides.proofs.Columns.{degrees_of, degrees_are, degrees_few, degrees_next}
use Rattle.sides.proofs.column_degrees.Goals as goal
use Rattle.sides.proofs.column_degrees.Goals.{In-Some}

pub loop-check-init : goal.loop-check-init
loop-check-init c =
    rw (c.into_iter-check-iterator.ensures.into_iter_gives, c.checks-check-items.ensures.value)
    (none_done _ (c.fill.ensures.after (λ y e. e) ∙ rw c.requires (sym (tab_replicate c.args.code.now.bits 0))))

-- the checks that are done, and the one at hand
taken : (c : In-Some) → Done c.args.code.now.checks (c.in-Some.check ∷ c.next.new.self) (λ done. c.loop-check.degrees ≡ degrees_of c.args.code.now.bits done)
taken c = rw c.in-Some.ensures.steps at c.loop-check.invariant

long : (c : In-Some) → length c.loop-check.degrees ≡ c.args.code.now.bits
long c = ap length (taken c).known ∙ length_tab _ _

few : (c : In-Some) → Counted c.loop-check.degrees 65534
few c b h =
    let d = taken c in
    rw d.known (omega (arith, degrees_few c.args.code.now.bits d.items b (omega (arith, long c)), some_left d, c.checks-check-items.ensures.sound.checks_most))

pub count-requires : goal.count-requires
count-requires c =
    let i = (goal.at.count-requires c).In-Some in
    record {
      rising = rw (long i) (each_here (taken i) (SoundCheck c.args.code.now.bits) c.checks-check-items.ensures.sound.checks).rising;
      room = few i;
    }

pub loop-check-preserved : goal.loop-check-preserved
loop-check-preserved c =
    let d = taken (goal.at.loop-check-preserved c).In-Some in
    one_done d _ (c.count.ensures ∙ ap (counted c.in-Some.check) d.known ∙ degrees_next c.args.code.now.bits d.items c.in-Some.check)

pub returns : goal.returns
returns c = all_done (rw c.in-None.ensures.steps.0 at c.loop-check.invariant) ∙ degrees_are c.args.code.now.bits c.args.code.now.checks
