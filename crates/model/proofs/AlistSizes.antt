-- Columns and rows that name the same places name as many, and the records of an accepted code are not longer than a text of it. Assumes nothing.
use Rattle.integers.proofs.Prelude.{◌≡◌, refl, sym, ◌∙◌, true, List, [], ◌∷◌, map, ℕ, suc, ◌+◌, ◌*◌, ◌≤◌, arith, ltb, leb, length, get_or}
use Rattle.integers.proofs.Prelude.{length-map}
use Rattle.integers.specs.Sum.{sum_ℕ}
use Rattle.integers.proofs.Sums.{sum_ℕ_same, sum_ℕ_swap}
use Rattle.lists.specs.Entries.{every, total}
use Rattle.lists.proofs.Entries.{every_at, total_entries, total_map, total_lengths}
use Rattle.model.specs.Code.{triple_count}
use Rattle.model.specs.Records.{records_of, record_size}
use Rattle.model.specs.Sound.{SoundChecks, Sound}
use Rattle.model.specs.Alist.{largest, times, up_to, largest_of}
use Rattle.model.specs.AlistClaims.{SamePlaces}
use Rattle.model.proofs.RecordClaims.{length_code}
use Rattle.model.proofs.Agreement.{times_length, columns_up_to, rows_up_to}

-- ---- double counting
-- the indices of a side, all of them in 1..n, by the number that they name
by_number : (n : ℕ) (ls : List (List ℕ)) → every (every (ltb 0)) ls ≡ true → up_to n ls ≡ true
    → total length ls ≡ sum_ℕ (length ls) (λ i. sum_ℕ n (λ c. times (suc c) (get_or ls i [])))
by_number n ls h k =
    total_entries length ls [] ∙ sum_ℕ_same (length ls) (λ i. length (get_or ls i [])) (λ i. sum_ℕ n (λ c. times (suc c) (get_or ls i [])))
    (λ i l. sym (times_length n (get_or ls i []) (every_at (every (ltb 0)) ls i [] h l) (every_at (every (λ i. leb i n)) ls i [] k l)))

pub same_total : (cs rs : List (List ℕ)) → every (every (ltb 0)) cs ≡ true → every (every (ltb 0)) rs ≡ true → SamePlaces cs rs
    → total length rs ≡ total length cs
same_total cs rs p q h =
    let n = length cs in
    let m = length rs in
    by_number n rs q (rows_up_to cs rs h)
    ∙ sum_ℕ_swap m n (λ r c. times (suc c) (get_or rs r []))
    ∙ sum_ℕ_same n (λ c. sum_ℕ m (λ r. times (suc c) (get_or rs r []))) (λ c. sum_ℕ m (λ r. times (suc r) (get_or cs c [])))
    (λ c _. sum_ℕ_same m (λ r. times (suc c) (get_or rs r [])) (λ r. times (suc r) (get_or cs c [])) (λ r _. h r c))
    ∙ sym (by_number m cs p (columns_up_to cs rs h))

-- ---- sizes
pub total_most : (u : ℕ) (l : List ℕ) → largest l ≤ u → total (λ x. x) l ≤ length l * u
total_most u [] h = omega arith
total_most u (x ∷ l) h = omega (arith, total_most u l (omega arith))

largest_total : (ls : List (List ℕ)) → total length ls ≤ length ls * largest_of ls
largest_total ls = let count = length-map ls length in rw (← total_map (λ x. x) length ls, ← count) (total_most (largest_of ls) (map length ls) (omega arith))

pub records_total : (cs : List (List ℕ)) → total record_size cs ≡ 3 * length cs + 2 * total length cs
records_total [] = refl
records_total (c ∷ cs) = omega (arith, records_total cs)

pub places_least : (n : ℕ) (cs : List (List ℕ)) → SoundChecks n cs → length cs ≤ total length cs
places_least n [] h = omega arith
places_least n (c ∷ cs) h = omega (arith, places_least n cs h.1, h.0.least)

pub places_most : (cs : List (List ℕ)) → total length cs ≤ total triple_count cs + 2 * length cs
places_most [] = omega arith
places_most (c ∷ cs) = omega (arith, places_most cs)

-- the file with these columns and rows has so many numbers, and a text has a byte for each, and one between two
pub records_fit : (cs rs : List (List ℕ)) (f : ℕ → ℕ) → Sound (record { bits = length cs; checks = map (map f) rs })
    → every (every (ltb 0)) cs ≡ true → every (every (ltb 0)) rs ≡ true → SamePlaces cs rs
    → suc (length (records_of (record { bits = length cs; checks = map (map f) rs })))
    ≤ 2 * (4 + (length cs + (length rs + (length cs * largest_of cs + length rs * largest_of rs))))
records_fit cs rs f s p q h =
    let size = length_code (record { bits = length cs; checks = map (map f) rs }) in
    let rows = largest_total rs in
    let columns = largest_total cs in
    let ks = map (map f) rs in
    omega (
      arith,
      records_total ks,
      places_least (length cs) ks s.checks,
      total_lengths f rs,
      length-map rs (map f),
      same_total cs rs p q h,
    )
