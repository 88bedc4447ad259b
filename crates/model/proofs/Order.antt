-- The number of a call is that of its first cause, and one of its entry's own. Assumes nothing.
use Rattle.integers.proofs.Prelude.{◌≡◌, refl, sym, subst, ◌∙◌, Bool, true, false, not, cond, ◌||◌, List, [], ◌∷◌, ◌++◌, ℕ, zero, suc, ◌≤◌, ◌<◌, arith, leb-true}
use Rattle.integers.proofs.Prelude.{le-leb, eqb-true, eqb-false, not-true, eqb, ltb, leb, ℤ, length, get_or, drop}
use Rattle.lists.specs.Entries.{every, some}
use Rattle.lists.proofs.Tests.{and_left, and_right}
use Rattle.lists.proofs.Entries.{some_every}
use Rattle.model.specs.Limits.{most_bits, most_checks, least_degree, most_degree, most_triples}
use Rattle.model.specs.Causes.{◌if◌, first_of, short, outside, accepted}
use Rattle.model.specs.Code.{Code, triples}
use Rattle.model.specs.Records.{two_bytes, bit_count, check_count, degree, after_check, after_checks, code_of, covered}
use Rattle.model.specs.Records.{header_causes, index_causes, degree_causes, whole_causes, indices_causes, check_causes_from, checks_causes_from, record_causes_from, record_causes}
use Rattle.model.specs.Records.{judge_header, judge_indices, judge_check, judge_checks, judge}
use Rattle.model.specs.Words.{word_of, first_undecided, first_odd, Outcome, tested, outcome}
use Rattle.model.specs.Order.{odd_causes, run_causes, rank, follows, Follows, Ordered, one_to_nine}
use Rattle.model.specs.Told.{Refuses}
use Rattle.model.proofs.Causes.{or_false, first_in, first_end, first_joined}

-- ---- numbers of a table
-- c is 0 or in the table
abbrev among : List ℕ → ℕ → Bool
among table zero = true
among table (suc c) = some (eqb (suc c)) table

-- every number of l is
pub record Listed (table l : List ℕ) : Type 0 where
  all : every (among table) l ≡ true

-- numbers with their tests, and the causes that they are: by the numbers alone it is computed that they are listed and follow the document's order
abbrev pub causes_of : List (ℕ × Bool) → List ℕ
causes_of [] = []
causes_of (c ∷ l) = c.0 if c.1 ∷ causes_of l

abbrev numbers_of : List (ℕ × Bool) → List ℕ
numbers_of [] = []
numbers_of (c ∷ l) = c.0 ∷ numbers_of l

module _ (table : List ℕ) where
  among_if : (n : ℕ) → among table n ≡ true → (t : Bool) → among table (n if t) ≡ true
  among_if n h true = h
  among_if n h false = refl

  pub listed : (l : List (ℕ × Bool)) → every (among table) (numbers_of l) ≡ true → Listed table (causes_of l)
  listed [] h = record { all = refl }
  listed (c ∷ l) h =
      let x = every (among table) (numbers_of l) in
      record { all = rw (among_if c.0 (and_left (among table c.0) x h) c.1) (listed l (and_right (among table c.0) x h)).all }

  pub both : (l m : List ℕ) → Listed table l → Listed table m → Listed table (l ++ m)
  both [] m h k = k
  both (c ∷ l) m h k =
      let x = every (among table) l in
      record { all = rw (and_left (among table c) x h.all) (both l m (record { all = and_right (among table c) x h.all }) k).all }

  -- the first cause of a list may stand for it
  pub first_of_listed : (l : List ℕ) → Listed table l → Listed table (first_of l ∷ [])
  first_of_listed [] h = record { all = refl }
  first_of_listed (zero ∷ l) h = first_of_listed l (record { all = h.all })
  first_of_listed (suc n ∷ l) h = record { all = rw (and_left (some (eqb (suc n)) table) (every (among table) l) h.all) }

  first_listed : (l : List ℕ) → every (among table) l ≡ true → (c : ℕ) → first_of l ≡ suc c → some (eqb (suc c)) table ≡ true
  first_listed [] h c e = absurd (omega arith)
  first_listed (zero ∷ l) h c e = first_listed l h c e
  first_listed (suc n ∷ l) h c e = subst (λ (x : ℕ). some (eqb x) table ≡ true) e (and_left (some (eqb (suc n)) table) (every (among table) l) h)

-- ---- the first cause, and none
none_of : (l : List ℕ) → first_of l ≡ 0 → (i : ℕ) → get_or l i 0 ≡ 0
none_of [] e i = refl
none_of (zero ∷ l) e zero = refl
none_of (zero ∷ l) e (suc i) = none_of l e i
none_of (suc n ∷ l) e i = absurd (omega arith)

record First (l : List ℕ) (c : ℕ) : Type 0 where
  place : ℕ
  here : get_or l place 0 ≡ c
  earlier : (i : ℕ) → i < place → get_or l i 0 ≡ 0

first_of_lem : (l : List ℕ) (c : ℕ) → first_of l ≡ suc c → First l (suc c)
first_of_lem [] c e = absurd (omega arith)
first_of_lem (zero ∷ l) c e = by (first_of_lem l c e)
  where
    before : (f : First l (suc c)) (i : ℕ) → i < suc f.place → get_or (zero ∷ l) i 0 ≡ 0
    before f zero h = refl
    before f (suc i) h = f.earlier i (omega arith)

    by : First l (suc c) → First (zero ∷ l) (suc c)
    by f = record { place = suc f.place; here = f.here; earlier = before f }
first_of_lem (suc n ∷ l) c e = record { place = 0; here = e; earlier = λ i h. absurd (omega arith) }

pub number_listed : (l table : List ℕ) (c : ℕ) → Listed table l → first_of l ≡ suc c → some (eqb (suc c)) table ≡ true
number_listed l table c h e = first_listed table l h.all c e

-- where the first cause is in the table
pub ordered_first : (l table : List ℕ) (number : ℕ) → ((c : ℕ) → first_of l ≡ suc c → some (eqb (suc c)) table ≡ true) → number ≡ first_of l
    → Ordered l table number
ordered_first l table number h e = record {
  refused = λ c f.
      let x = first_of_lem l c (sym e ∙ f) in
      record { place = x.place; cause = x.here ∙ sym f; earlier = x.earlier; listed = rw f (h c (sym e ∙ f)) };
  sound = λ f. none_of l (sym e ∙ f);
}

-- or all of them are
pub ordered : (l table : List ℕ) (number : ℕ) → Listed table l → number ≡ first_of l → Ordered l table number
ordered l table number h = ordered_first l table number (λ c. number_listed l table c h)

-- a number from a table without outcomes, which is not 0, is a refusal's
pub refuses : (l table : List ℕ) (c : ℕ) → every (λ y. not (eqb y 16 || eqb y 17)) table ≡ true → Ordered l table (suc c) → Refuses (suc c)
refuses l table c none o =
    let x = some_every (eqb (suc c)) (λ y. not (eqb y 16 || eqb y 17)) table (o.refused c refl).listed none in
    let e = eqb-true (suc c) x.0 x.1 in
    let f = or_false (eqb x.0 16) (eqb x.0 17) (not-true _ x.2) in
    (omega arith, omega (arith, e, eqb-false x.0 16 f.0), omega (arith, e, eqb-false x.0 17 f.1))

-- ---- the document's order
raised : (low high : ℕ) (l : List ℕ) → low ≤ high → follows high l ≡ true → follows low l ≡ true
raised low high [] h k = refl
raised low high (zero ∷ l) h k = raised low high l h k
raised low high (suc c ∷ l) h k =
    let r = rank (suc c) in
    let more = follows (suc r) l in
    rw (le-leb low r (omega (arith, leb-true high r (and_left (leb high r) more k)))) (and_right (leb high r) more k)

-- whichever of the causes hold
some_follow : (low : ℕ) (l : List (ℕ × Bool)) → follows low (numbers_of l) ≡ true → follows low (causes_of l) ≡ true
some_follow low [] h = refl
some_follow low ((zero, t) ∷ l) h = by t (some_follow low l h)
  where
    by : (t : Bool) → follows low (causes_of l) ≡ true → follows low (0 if t ∷ causes_of l) ≡ true
    by true k = k
    by false k = k
some_follow low ((suc n, t) ∷ l) h =
    by t (and_left (leb low (rank (suc n))) _ h) (some_follow (suc (rank (suc n))) l (and_right (leb low (rank (suc n))) _ h))
  where
    by : (t : Bool) → leb low (rank (suc n)) ≡ true → follows (suc (rank (suc n))) (causes_of l) ≡ true → follows low (suc n if t ∷ causes_of l) ≡ true
    by true there k = rw there k
    by false there k = raised low (suc (rank (suc n))) (causes_of l) (omega (arith, leb-true low (rank (suc n)) there)) k

pub follow : (l : List (ℕ × Bool)) → follows 0 (numbers_of l) ≡ true → Follows 0 (causes_of l)
follow l h = record { places = some_follow 0 l h }

-- the causes of all records together
abbrev pub whole : List ℕ → List (ℕ × Bool)
whole b = (9, ltb 0 (length (after_checks (check_count b) (drop 6 b)))) ∷ (7, ltb most_triples (triples (code_of b))) ∷ (8, not (covered (code_of b))) ∷ []

-- ---- code records
indices_order : (n d low : ℕ) (s : List ℕ) → judge_indices n d low s ≡ first_of (indices_causes n d low s)
unfolding judge_indices indices_causes
indices_order n zero low s = refl
indices_order n (suc d) low s =
    rw (indices_order n d (suc (two_bytes s)) (drop 2 s)) (first_end (index_causes n low s) (indices_causes n d (suc (two_bytes s)) (drop 2 s)))

check_order : (n : ℕ) (s : List ℕ) → judge_check n s ≡ first_of (check_causes_from least_degree n s)
unfolding judge_check
check_order n s = rw (indices_order n (degree s) 0 (drop 3 s)) (first_end (degree_causes s) (indices_causes n (degree s) 0 (drop 3 s)))

checks_order : (n m : ℕ) (s : List ℕ) → judge_checks n m s ≡ first_of (checks_causes_from least_degree n m s)
unfolding judge_checks checks_causes_from
checks_order n zero s = refl
checks_order n (suc m) s =
    let more = checks_causes_from least_degree n m (after_check s) in
    rw (check_order n s, checks_order n m (after_check s)) (first_in (check_causes_from least_degree n s) (first_of more ∷ []) ∙ first_end (check_causes_from least_degree n s) more)

pub judge_order : (s : List ℕ) → judge s ≡ first_of (record_causes s)
unfolding judge judge_header record_causes_from
judge_order s =
    let checks = checks_causes_from least_degree (bit_count s) (check_count s) (drop 6 s) in
    let rest = first_of checks ∷ whole_causes s in
    rw (checks_order (bit_count s) (check_count s) (drop 6 s))
    (first_in (header_causes s) rest ∙ sym (first_end (header_causes s) rest)
    ∙ rw (first_in checks (whole_causes s)) (first_end (header_causes s) (checks ++ whole_causes s)))

-- every number of records is in a table that begins with theirs
module _ (more : List ℕ) where
  abbrev table : List ℕ
  table = one_to_nine ++ more

  indices_listed : (n d low : ℕ) (s : List ℕ) → Listed table (indices_causes n d low s)
  unfolding indices_causes
  indices_listed n zero low s = listed table [] refl
  indices_listed n (suc d) low s =
      both table (index_causes n low s) _ (listed table ((1, short 2 s) ∷ (5, leb n (two_bytes s)) ∷ (6, ltb (two_bytes s) low) ∷ []) refl)
      (indices_listed n d (suc (two_bytes s)) (drop 2 s))

  checks_listed : (n m : ℕ) (s : List ℕ) → Listed table (checks_causes_from least_degree n m s)
  unfolding checks_causes_from
  checks_listed n zero s = listed table [] refl
  checks_listed n (suc m) s =
      both table (check_causes_from least_degree n s) (checks_causes_from least_degree n m (after_check s))
      (both table (degree_causes s) _
      (listed table ((1, short 2 s) ∷ (2, not (eqb (two_bytes s) 0x4C43)) ∷ (1, short 3 s) ∷ (4, outside least_degree most_degree (degree s)) ∷ []) refl)
      (indices_listed n (degree s) 0 (drop 3 s)))
      (checks_listed n m (after_check s))

  records_listed : (s : List ℕ) → Listed table (record_causes s)
  unfolding record_causes_from
  records_listed s =
      both table (header_causes s) _
      (listed table
      ((1, short 2 s) ∷ (2, not (eqb (two_bytes s) 0x4C48))
      ∷ (1, short 4 s) ∷ (3, outside 3 most_bits (bit_count s))
      ∷ (1, short 6 s) ∷ (3, outside 1 most_checks (check_count s)) ∷ []) refl)
      (both table (checks_causes_from least_degree (bit_count s) (check_count s) (drop 6 s)) _ (checks_listed (bit_count s) (check_count s) (drop 6 s)) (listed table (whole s) refl))

  -- an entry that reads records, with the causes l after them
  pub after_records : (b l : List ℕ) (number : ℕ) → Listed table l → number ≡ first_of (judge b ∷ l) → Ordered (record_causes b ++ l) table number
  after_records b l number h e =
      ordered (record_causes b ++ l) table number (both table (record_causes b) l (records_listed b) h)
      (e ∙ rw (judge_order b) (first_in (record_causes b) l))

pub records_ordered : (b : List ℕ) → Ordered (record_causes b) one_to_nine (judge b)
records_ordered b = ordered (record_causes b) one_to_nine (judge b) (records_listed [] b) (judge_order b)

-- ---- the entries that end with the test of a word, or with a run
number_of : (c : ℕ) (x y : Outcome) → (accepted c x y).number ≡ accepted c x.number y.number
number_of zero x y = refl
number_of (suc c) x y = refl

tested_order : (k : Code) (w : List ℕ) → (tested k w).number ≡ first_of (odd_causes k w)
unfolding tested
tested_order k w = by (ltb (first_odd k w) (length k.checks))
  where
    by : (t : Bool) → (cond {A = Outcome} t (record { number = 17; place = first_odd k w }) (record { number = 0; place = 0 })).number ≡ first_of (17 if t ∷ [])
    by true = refl
    by false = refl

pub outcome_order : (k : Code) (c : List ℤ) → (outcome k c).number ≡ first_of (run_causes k c)
unfolding outcome
outcome_order k c = by (ltb (first_undecided k c) k.bits)
  where
    by : (t : Bool) → (cond t (record { number = 16; place = first_undecided k c }) (tested k (word_of k c))).number
        ≡ first_of (16 if t ∷ odd_causes k (word_of k c))
    by true = refl
    by false = tested_order k (word_of k c)

-- a word's test after the causes l
pub word_order : (k : Code) (w l : List ℕ)
    → (accepted (first_of l) (tested k w) (record { number = first_of l; place = 0 })).number ≡ first_of (l ++ odd_causes k w)
word_order k w l = number_of (first_of l) (tested k w) (record { number = first_of l; place = 0 }) ∙ rw (tested_order k w) (first_joined l (odd_causes k w))
