-- `rows::share` meets its contract. Assumes nothing.
use Rattle.integers.proofs.Prelude.{◌≡◌, ap, ◌∙◌, ℕ, ◌*◌, ◌^◌, ◌≤◌, ◌<◌, arith, ℤ, nat_abs, ◌+ℤ◌, ◌*ℤ◌, w32}
use lib.Signed.{mag}
use mir.Val.{hbits}
use Rattle.integers.proofs.Linear.{split, to_ℕ}
use Rattle.integers.proofs.Machine.{Worth, fits, stored, local, param, plus}
use Rattle.model.specs.Limits.{most_row}
use Rattle.model.specs.Iteration.{sign}
use Rattle.model.proofs.Rows.{signed_abs}
use Rattle.rows.proofs.Signs.{raw}
use Rattle.rows.proofs.share.Goals as goal
use Rattle.rows.proofs.share.Goals.{Start, After-signed-2, After-signed-3, After-signed-4}

-- what a call of `signed` gave
given : (s : Start) (r : ℕ) (x z : ℤ) → r < 4 → nat_abs x ≤ most_row → mag z < 2 ^ hbits w32 → z ≡ sign r s.args.p *ℤ raw x → Worth (raw z) (sign r s.args.p *ℤ x) most_row
given s r x z h k f e =
    local w32 most_row f (e ∙ ap (λ (y : ℤ). sign r s.args.p *ℤ y) (param w32 x most_row tt k).is) (omega (arith, signed_abs r s.args.p x h s.requires.0))

two : (c : After-signed-2) → let p = c.args.p in
    Worth (raw c.signed.result +ℤ raw c.signed-2.result) (sign 3 p *ℤ c.args.d +ℤ sign 2 p *ℤ c.args.c) (2 * most_row)
two c =
    plus (given (goal.at.After-signed-2 c).Start 3 c.args.d _ (omega arith) c.requires.4 c.signed.type_inv c.signed.ensures)
    (given (goal.at.After-signed-2 c).Start 2 c.args.c _ (omega arith) c.requires.3 c.signed-2.type_inv c.signed-2.ensures)

three : (c : After-signed-3) → let p = c.args.p in
    Worth (raw (raw c.signed.result +ℤ raw c.signed-2.result) +ℤ raw c.signed-3.result)
    (sign 3 p *ℤ c.args.d +ℤ sign 2 p *ℤ c.args.c +ℤ sign 1 p *ℤ c.args.b) (3 * most_row)
three c =
    plus (stored (two (goal.at.After-signed-3 c).After-signed-2) w32 tt) (given (goal.at.After-signed-3 c).Start 1 c.args.b _ (omega arith) c.requires.2 c.signed-3.type_inv c.signed-3.ensures)

all : (c : After-signed-4) → let p = c.args.p in
    Worth (raw (raw (raw c.signed.result +ℤ raw c.signed-2.result) +ℤ raw c.signed-3.result) +ℤ raw c.signed-4.result)
    (sign 3 p *ℤ c.args.d +ℤ sign 2 p *ℤ c.args.c +ℤ sign 1 p *ℤ c.args.b +ℤ sign 0 p *ℤ c.args.a) (4 * most_row)
all c =
    plus (stored (three (goal.at.After-signed-4 c).After-signed-3) w32 tt) (given (goal.at.After-signed-4 c).Start 0 c.args.a _ (omega arith) c.requires.1 c.signed-4.type_inv c.signed-4.ensures)

reversed : (w x y z : ℤ) → w +ℤ x +ℤ y +ℤ z ≡ z +ℤ y +ℤ x +ℤ w
reversed w x y z = rw (split w, split x, split y, split z) (simp to_ℕ (omega arith))

pub returns : goal.returns
returns c =
    let a = c.args in
    let x : ℕ → ℤ → ℤ = λ r z. sign r a.p *ℤ z in
    (stored (all c) w32 tt).is ∙ reversed (x 3 a.d) (x 2 a.c) (x 1 a.b) (x 0 a.a)

pub overflow_add-result : goal.overflow_add-result
overflow_add-result c = fits (two c) w32 tt

pub overflow_add-result-2 : goal.overflow_add-result-2
overflow_add-result-2 c = fits (three c) w32 tt

pub overflow_add-result-3 : goal.overflow_add-result-3
overflow_add-result-3 c = fits (all c) w32 tt
