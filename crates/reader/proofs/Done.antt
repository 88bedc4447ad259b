-- A loop over a list's items, as the checks of a code: what is done and what is left is the whole. Assumes nothing.
use Rattle.integers.proofs.Prelude.{◌≡◌, refl, sym, ap, ◌∙◌, List, [], ◌∷◌, ◌++◌, append-nil, append_assoc, ℕ, ◌+◌, ◌≤◌, ◌<◌, arith, length, length-append}
use Rattle.lists.specs.Entries.{Each, total}
use Rattle.lists.proofs.Entries.{total_append}

-- P holds of the items that are done
pub record Done {A : Type 0} (all left : List A) (P : List A → Type 0) : Type 0 where
  pub items : List A
  pub whole : items ++ left ≡ all
  pub known : P items

module _ {A : Type 0} {P : List A → Type 0} where
  pub none_done : (all : List A) → P [] → Done all all P
  none_done all p = record { items = []; whole = refl; known = p }

  pub all_done : {all : List A} → Done all [] P → P all
  all_done d = rw (sym d.whole, append-nil d.items) d.known

  -- one more
  module _ {all left : List A} {x : A} (d : Done all (x ∷ left) P) where
    pub one_done : (Q : List A → Type 0) → Q (d.items ++ (x ∷ [])) → Done all left Q
    one_done Q p = record { items = d.items ++ (x ∷ []); whole = append_assoc d.items (x ∷ []) left ∙ d.whole; known = p }

    pub some_left : length d.items < length all
    some_left = omega (arith, ap length d.whole, length-append d.items (x ∷ left))

    pub total_left : (f : A → ℕ) → total f d.items + f x ≤ total f all
    total_left f = omega (arith, ap (total f) d.whole, total_append f d.items (x ∷ left))

    pub each_here : (R : A → Type 0) → Each R all → R x
    each_here R e = at d.items (rw (sym d.whole) at e)
      where
        at : (items : List A) → Each R (items ++ (x ∷ left)) → R x
        at [] e = e.0
        at (y ∷ items) e = at items e.1
