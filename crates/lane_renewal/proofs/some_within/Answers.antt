-- `lane_renewal::some_within` meets its contract: where none is found in from..l, there is none. Assumes nothing.
use Rattle.integers.proofs.Prelude.{◌≡◌, sym, subst, ◌∙◌, T, Bool, false, ◌&&◌, ◌||◌, List, ℕ, ◌+◌, ◌<◌, arith, leb, le-leb, dec_lt, get_or}
use Rattle.lists.proofs.Tests.{and_false}
use Rattle.model.proofs.Causes.{or_false}
use Rattle.lane_renewal.specs.declared.Totals.{Totals}
use Rattle.lane_renewal.specs.Counting.{NoneWithin}
use Rattle.lane_renewal.proofs.some_within.Goals as goal

-- frame l is tested, and does not pass
next : (X from l : ℕ) (running : List Bool) (t : Totals) (some : Bool) → (some ≡ false → NoneWithin X running t from l)
    → (some || ((get_or running l false && leb (get_or t.multipliers l 0) X) && leb (get_or t.slacks l 0) X)) ≡ false → NoneWithin X running t from (l + 1)
next X from l running t some none e k h g r a b = by (dec_lt k l)
  where
    by : Dec (k < l) → ⊥
    by (yes d) = none (or_false some _ e).0 k h d r a b
    by (no d) =
        let n : l ≡ k = omega arith in
        subst T (sym r ∙ and_false _ _ (and_false _ _ (rw n at (or_false some _ e).1) (le-leb _ _ b)) (le-leb _ _ a)) tt

pub loop-l-preserved : goal.loop-l-preserved
loop-l-preserved c =
    let a = c.args in
    (omega (arith, c.loop-l.invariant.0), next a.tolerance a.from c.loop-l.l a.running.now a.totals.now c.loop-l.some c.loop-l.invariant.1)

pub loop-l-init : goal.loop-l-init
loop-l-init c = (omega arith, λ e l h k. absurd (omega arith))

pub returns : goal.returns
returns c = λ e l h k. c.loop-l.invariant.1 e l h (omega (arith, c.loop-l-test.false))
