-- Numbers of at most 65,535 that are written as lines are read again. Assumes nothing.
use Rattle.integers.proofs.Prelude.{◌≡◌, refl, ap, ◌∙◌, Bool, true, false, cond, List, [], ◌∷◌, ◌++◌, append_assoc, ℕ, zero, suc, ◌+◌, ◌-◌, ◌*◌, ◌/◌, ◌%◌, ◌≤◌}
use Rattle.integers.proofs.Prelude.{◌<◌, arith, ltb-true, ltb-false, leb-true, ltb, leb}
use Rattle.lists.specs.Entries.{every}
use Rattle.lists.proofs.Tests.{and_left, and_right}
use Rattle.lists.proofs.Entries.{every_append}
use Rattle.model.specs.Limits.{most_number}
use Rattle.model.specs.Text.{digits, decimal}
use Rattle.model.specs.Alist.{numbers_of, line_of, text_of}
use Rattle.model.specs.AlistClaims.{joined}
use Rattle.model.proofs.Spelling.{numbers_apart, numbers_in, numbers_end, digit_separates, digit_further}

abbrev pub small : ℕ → Bool
small x = leb x most_number

-- ---- a decimal number
digits_read : (most x : ℕ) (s : List ℕ) → x < most → x ≤ most_number → numbers_of 0 (digits most x ++ s) ≡ numbers_of (suc x) s
digits_read zero x s h l = absurd (omega arith)
digits_read (suc most) x s h l =
    ap (numbers_of 0) (append_assoc (cond (ltb x 10) [] (digits most (x / 10))) ((48 + x % 10) ∷ []) s)
    ∙ by (ltb x 10) refl (digits_read most (x / 10) ((48 + x % 10) ∷ s))
  where
    last : (begun : ℕ) → 10 * (begun - 1) + (48 + x % 10 - 48) ≡ x → numbers_of begun ((48 + x % 10) ∷ s) ≡ numbers_of (suc x) s
    last begun e =
        numbers_in begun (48 + x % 10) s (digit_separates (48 + x % 10) (omega arith))
        ∙ ap (λ (y : ℕ). numbers_of (suc y) s) (digit_further (begun - 1) (48 + x % 10) (omega arith) (omega arith) (omega arith) ∙ e)

    by : (t : Bool) → ltb x 10 ≡ t
        → (x / 10 < most → x / 10 ≤ most_number → numbers_of 0 (digits most (x / 10) ++ ((48 + x % 10) ∷ s)) ≡ numbers_of (suc (x / 10)) ((48 + x % 10) ∷ s))
        → numbers_of 0 (cond t [] (digits most (x / 10)) ++ ((48 + x % 10) ∷ s)) ≡ numbers_of (suc x) s
    by true e ih = last 0 (omega (arith, ltb-true x 10 e))
    by false e ih = ih (omega (arith, ltb-false x 10 e)) (omega arith) ∙ last (suc (x / 10)) (omega arith)

pub decimal_read : (x : ℕ) (s : List ℕ) → x ≤ most_number → numbers_of 0 (decimal x ++ s) ≡ numbers_of (suc x) s
unfolding decimal
decimal_read x s l = digits_read (suc x) x s (omega arith) l

-- ---- a line
pub line_read : (l s : List ℕ) → every small l ≡ true → numbers_of 0 (line_of l ++ s) ≡ l ++ numbers_of 0 s
unfolding line_of
line_read [] s h = numbers_apart 0 10 s refl
line_read (x ∷ []) s h =
    ap (numbers_of 0) (append_assoc (decimal x) (10 ∷ []) s)
    ∙ decimal_read x (10 ∷ s) (leb-true x most_number (and_left (small x) true h)) ∙ numbers_apart (suc x) 10 s refl
line_read (x ∷ y ∷ l) s h =
    ap (numbers_of 0) (append_assoc (decimal x) (32 ∷ line_of (y ∷ l)) s)
    ∙ decimal_read x (32 ∷ (line_of (y ∷ l) ++ s)) (leb-true x most_number (and_left (small x) (every small (y ∷ l)) h))
    ∙ numbers_apart (suc x) 32 (line_of (y ∷ l) ++ s) refl ∙ ap (◌∷◌ x) (line_read (y ∷ l) s (and_right (small x) (every small (y ∷ l)) h))

-- ---- a text
pub text_read : (ls : List (List ℕ)) → every small (joined ls) ≡ true → numbers_of 0 (text_of ls) ≡ joined ls
unfolding text_of
text_read [] h = numbers_end 0
text_read (l ∷ ls) h =
    let e = rw (every_append small l (joined ls)) at h in
    line_read l (text_of ls) (and_left (every small l) (every small (joined ls)) e)
    ∙ ap (λ (r : List ℕ). l ++ r) (text_read ls (and_right (every small l) (every small (joined ls)) e))
