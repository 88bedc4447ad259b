-- The rows of checks one behind the other: one check more, their length, and the list that they fill. Assumes nothing.
use Rattle.integers.proofs.Prelude.{◌≡◌, ◌∙◌, List, [], ◌∷◌, ◌++◌, map, append-nil, ℕ, suc, ◌≤◌, length}
use Rattle.integers.proofs.Prelude.{drop_of_length-le}
use mathlib.Core.List.{map-append}
use Rattle.lists.specs.Entries.{total}
use Rattle.lists.proofs.Entries.{total_lengths}
use Rattle.model.specs.AlistClaims.{joined}
use Rattle.model.proofs.AlistForm.{length_joined, joined_append}
use Rattle.text.specs.Appended.{Appended}
use Rattle.text.proofs.Appended.{front}

-- the bits of each check, from 1
abbrev pub rows_of : List (List ℕ) → List ℕ
rows_of checks = joined (map (map suc) checks)

pub rows_next : (checks : List (List ℕ)) (c : List ℕ) → rows_of (checks ++ (c ∷ [])) ≡ rows_of checks ++ map suc c
rows_next checks c = rw (map-append (map suc) checks (c ∷ []), joined_append (map (map suc) checks) (map suc c ∷ []), append-nil (map suc c))

pub length_rows : (checks : List (List ℕ)) → length (rows_of checks) ≡ total length checks
length_rows checks = length_joined (map (map suc) checks) ∙ total_lengths suc checks

-- a text that takes all of a list is that list
pub whole : {t a b : List ℕ} {i : ℕ} → Appended 0 t a b i → length a ≤ length t → b ≡ t
whole {t} {a} p h = front p ∙ rw (drop_of_length-le a h) (append-nil t)
