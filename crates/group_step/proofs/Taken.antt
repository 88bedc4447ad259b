-- A frame's parts of the lists, where one frame's are replaced. Assumes nothing.
use Rattle.integers.proofs.Prelude.{◌≡◌, refl, ap, ◌∙◌, Bool, true, false, cond, List, ℕ, suc, ◌+◌, ◌-◌, ◌*◌, ◌≤◌, arith, eqb, ℤ, length, take, drop, length-drop, length-take-le}
use borrow.Rule.Slice.PartMut.{put_mid}
use Rattle.lists.specs.Tabulated.{part}
use Rattle.lists.proofs.Parts.{part_back, replaced, replaced_part}
use Rattle.model.specs.Iteration.{State}

-- the part that is lent
pub lent : {A : Type 0} (size f : ℕ) (l : List A) → suc f * size ≤ length l → length (take (f * size + size - f * size) (drop (f * size) l)) ≡ size
lent size f l h =
    let e : f * size + size - f * size ≡ size = omega arith in
    rw e (length-take-le size (drop (f * size) l) (omega (arith, length-drop (f * size) l)))

-- and what every frame's part is when it is back as y
pub back : {A : Type 0} (size f : ℕ) (x y l : List A) → suc f * size ≤ length l → x ≡ y → length y ≡ size
    → (g : ℕ) → part size g (put_mid (f * size) (f * size + size - f * size) l x) ≡ cond (eqb g f) y (part size g l)
back {A = A} size f x y l h e long g =
    ap (part size g) (part_back size f (f * size + size - f * size) x l (omega arith) ∙ ap (λ (z : List A). replaced size f z l) e) ∙ replaced_part size f y l h long g

-- a state by its lists, each of which is one state's or the other's
pub one_or_other : (b : Bool) (x y : State) {S c s : List ℤ} → S ≡ cond b x.sums y.sums → c ≡ cond b x.values y.values
    → s ≡ cond b x.rows y.rows → ◌≡◌ {A = State} (record { sums = S; values = c; rows = s }) (cond b x y)
one_or_other true x y d e f = rw (d, e, f) refl
one_or_other false x y d e f = rw (d, e, f) refl
