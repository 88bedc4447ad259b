-- Where the limit is known. Assumes nothing.
use Rattle.integers.proofs.Prelude.{◌≡◌, sym, ap, ◌∙◌, ◌*◌, ◌≤◌, ℤ, pos, nat_abs, neg_ℤ, ◌<ℤ◌}
use Rattle.integers.proofs.Linear.{positive}
use Rattle.quotient.specs.Quotient.{unit, quotient, signed}
use Rattle.quotient.proofs.Laws.{quotient_odd, quotient_limit}

-- from U times the divisor on the limit is the value
pub limit_known : (x den : ℤ) → pos 0 <ℤ den → unit * nat_abs den ≤ nat_abs x → neg_ℤ (signed x unit) ≡ quotient (neg_ℤ x) den
limit_known x den h k =
    let d = positive den h in
    ap neg_ℤ (sym (ap (quotient x) d.1 ∙ quotient_limit x (nat_abs den) d.0 k)) ∙ sym (quotient_odd x den)
