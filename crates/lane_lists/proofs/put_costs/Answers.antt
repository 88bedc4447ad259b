-- `lane_lists::put_costs` meets its contract: after b turns the first b costs stand in the lane, and nothing else has changed. Assumes nothing.
use Rattle.integers.proofs.Prelude.{◌≡◌, ap, ◌∙◌, List, ℕ, ◌+◌, ◌*◌, ◌<◌, arith, ℤ, pos, ◌*ℤ◌, length, set, length-set, w16, w32}
use borrow.Author.Count.{below_more}
use Rattle.integers.proofs.Machine.{kept, read_back}
use Rattle.model.specs.Iteration.{at}
use Rattle.lanes.specs.Lanes.{in_lane, weighed_at}
use Rattle.lanes.proofs.Places.{place_behind, set_here, set_entry, set_lane, behind_in, fits_same}
use Rattle.lane_lists.proofs.put_costs.Invariants.{Put}
use Rattle.lane_lists.proofs.put_costs.Goals as goal

put_next : {L l first W : ℕ} {costs w₀ w : List ℤ} {b : ℕ} (x : ℤ) → l < L → L * (first + b) + l < length w → x ≡ pos W *ℤ at costs b
    → Put L l first W costs w₀ w b → Put L l first W costs w₀ (set w (L * (first + b) + l) x) (b + 1)
put_next {L} {l} {first} {W} {costs} {w₀} {w} {b} x h k e p = record {
  here = below_more (λ k. in_lane L (set w (L * (first + b) + l) x) l (first + k) ≡ pos W *ℤ at costs k) b
      (λ i m. set_entry L w l (first + b) x h (first + i) (λ q. omega arith) ∙ p.here i m) (set_here L w l (first + b) x h k ∙ e);
  before = λ j m. set_entry L w l (first + b) x h j (λ q. omega arith) ∙ p.before j m;
  others = λ m j g d. set_lane L w l (first + b) x h m j g d ∙ p.others m j g d;
}

pub loop-b-preserved : goal.loop-b-preserved
loop-b-preserved c =
    let a = c.args in
    let first_is : c.weighed_at.result + a.l ≡ a.p.lanes * weighed_at a.p + a.l = omega (arith, c.weighed_at.ensures) in
    let e = place_behind a.p.lanes (weighed_at a.p) a.l c.loop-b.b (c.weighed_at.result + a.l) first_is in
    let inside = behind_in c.loop-b.invariant.1 (weighed_at a.p) a.l c.loop-b.b (c.weighed_at.result + a.l) first_is c.requires.fits.1 (omega (arith, c.loop-b-test.true, c.requires.fits.2)) in
    let x = read_back w32 c.weighed.type_inv (c.weighed.ensures ∙ ap (λ (z : ℤ). pos a.weight *ℤ z) (kept w16 _ c.weighed-arg-1.given)) in (
      omega arith,
      fits_same c.loop-b.invariant.1 _ (length-set c.loop-b.work _ _),
      rw e (put_next _ c.requires.fits.1 (omega (arith, inside, e)) x c.loop-b.invariant.2),
    )
