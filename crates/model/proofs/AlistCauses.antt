-- The causes of a code whose indices are below its bits: 5 is none of them. Assumes nothing.
use Rattle.integers.proofs.Prelude.{◌≡◌, refl, ◌∙◌, true, not, List, [], ◌∷◌, map, ℕ, suc, ◌-◌, arith, ltb-true, lt-ltb, leb-true, lt-leb, ltb, leb}
use Rattle.integers.proofs.Prelude.{length, get_or}
use Rattle.lists.specs.Entries.{every}
use Rattle.lists.proofs.Tests.{and_left, and_right}
use Rattle.lists.proofs.Entries.{every_at, every_in, every_map}
use Rattle.model.specs.Limits.{most_bits, most_checks, least_degree, most_degree, most_triples}
use Rattle.model.specs.Causes.{◌if◌, first_of, outside}
use Rattle.model.specs.Code.{Code, triples}
use Rattle.model.specs.Records.{covered}
use Rattle.model.specs.RecordClaims.{indices_cause, check_cause, checks_cause, code_causes}
use Rattle.model.specs.Alist.{up_to}
use Rattle.model.proofs.Order.{Listed, listed, both, first_of_listed}

-- rows of indices in 1..n have checks of indices below n
indices_below : (n : ℕ) (l : List ℕ) → every (ltb 0) l ≡ true → every (λ i. leb i n) l ≡ true → every (λ i. ltb i n) (map (λ i. i - 1) l) ≡ true
indices_below n l h k =
    every_map (λ i. ltb i n) (λ i. i - 1) l
    ∙ every_in (λ i. ltb (i - 1) n) l 0
    (λ j m.
    let low = ltb-true 0 (get_or l j 0) (every_at (ltb 0) l j 0 h m) in
    let high = leb-true (get_or l j 0) n (every_at (λ i. leb i n) l j 0 k m) in
    lt-ltb (get_or l j 0 - 1) n (omega arith))

pub rows_below : (n : ℕ) (ls : List (List ℕ)) → every (every (ltb 0)) ls ≡ true → up_to n ls ≡ true
    → every (every (λ i. ltb i n)) (map (map (λ i. i - 1)) ls) ≡ true
rows_below n ls h k =
    every_map (every (λ i. ltb i n)) (map (λ i. i - 1)) ls
    ∙ every_in (λ l. every (λ i. ltb i n) (map (λ i. i - 1) l)) ls []
    (λ j m. indices_below n (get_or ls j []) (every_at (every (ltb 0)) ls j [] h m) (every_at (every (λ i. leb i n)) ls j [] k m))

-- in every table that begins with 3, 4, 6, 7, 8
module _ (more : List ℕ) (n : ℕ) where
  abbrev table : List ℕ
  table = 3 ∷ 4 ∷ 6 ∷ 7 ∷ 8 ∷ more

  indices_listed : (low : ℕ) (c : List ℕ) → every (λ i. ltb i n) c ≡ true → Listed table (indices_cause n low c ∷ [])
  unfolding indices_cause
  indices_listed low [] h = first_of_listed table [] (listed table [] refl)
  indices_listed low (i ∷ c) h =
      rw (lt-leb n i (ltb-true i n (and_left (ltb i n) (every (λ i. ltb i n) c) h)))
      (first_of_listed table (6 if ltb i low ∷ indices_cause n (suc i) c ∷ [])
      (both table (6 if ltb i low ∷ []) (indices_cause n (suc i) c ∷ []) (listed table ((6, ltb i low) ∷ []) refl)
      (indices_listed (suc i) c (and_right (ltb i n) (every (λ i. ltb i n) c) h))))

  checks_listed : (cs : List (List ℕ)) → every (every (λ i. ltb i n)) cs ≡ true → Listed table (checks_cause n cs ∷ [])
  unfolding checks_cause check_cause
  checks_listed [] h = first_of_listed table [] (listed table [] refl)
  checks_listed (c ∷ cs) h =
      let l : List ℕ = 4 if outside least_degree most_degree (length c) ∷ indices_cause n 0 c ∷ [] in
      let degree = 4 if outside least_degree most_degree (length c) in
      let here : Listed table l
      = both table (degree ∷ []) (indices_cause n 0 c ∷ []) (listed table ((4, outside least_degree most_degree (length c)) ∷ []) refl)
      (indices_listed 0 c (and_left (every (λ i. ltb i n) c) (every (every (λ i. ltb i n)) cs) h)) in
      first_of_listed table (first_of l ∷ checks_cause n cs ∷ [])
      (both table (first_of l ∷ []) (checks_cause n cs ∷ []) (first_of_listed table l here)
      (checks_listed cs (and_right (every (λ i. ltb i n) c) (every (every (λ i. ltb i n)) cs) h)))

pub code_listed : (more : List ℕ) (k : Code) → every (every (λ i. ltb i k.bits)) k.checks ≡ true → Listed (3 ∷ 4 ∷ 6 ∷ 7 ∷ 8 ∷ more) (code_causes k)
code_listed more k h =
    let table : List ℕ = 3 ∷ 4 ∷ 6 ∷ 7 ∷ 8 ∷ more in
    let n = k.bits in
    let m = length k.checks in
    both table (3 if outside 3 most_bits n ∷ 3 if outside 1 most_checks m ∷ []) _
    (listed table ((3, outside 3 most_bits n) ∷ (3, outside 1 most_checks m) ∷ []) refl)
    (both table (checks_cause n k.checks ∷ []) (7 if ltb most_triples (triples k) ∷ 8 if not (covered k) ∷ []) (checks_listed more n k.checks h)
    (listed table ((7, ltb most_triples (triples k)) ∷ (8, not (covered k)) ∷ []) refl))
