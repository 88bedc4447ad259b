-- Codes without checks of two bits give what they gave. Assumes nothing.
use Rattle.integers.proofs.Prelude.{◌≡◌, refl, ap, subst, ◌∙◌, List, [], ◌∷◌, ◌++◌, ℕ, zero, suc, ◌+◌, ◌-◌, ◌*◌, ◌/◌, ◌%◌, ◌≤◌, ◌<◌, arith, dec_lt, lt-ltb, le-ltb}
use Rattle.integers.proofs.Prelude.{ℤ, length, get_or, drop, length-append, get_or-append, get_or-append-add}
use Rattle.lists.specs.Entries.{Each, total}
use Rattle.lists.proofs.Tabulated.{tab_same}
use Rattle.quotient.specs.Quotient.{quotient}
use Rattle.model.specs.declared.Settings.{Settings}
use Rattle.model.specs.Limits.{base_degree, least_degree, most_degree}
use Rattle.model.specs.Causes.{outside}
use Rattle.model.specs.Code.{Code, turns, triples, variables}
use Rattle.model.specs.Records.{bit_count, check_count, degree, after_check, checks_in, code_of, judge, checks_causes_from, record_causes_from}
use Rattle.model.specs.Sound.{SoundCheck, SoundChecks, Sound}
use Rattle.model.specs.Splitting.{triples_of, triples_from, System, system_of, blank, member, Named}
use Rattle.model.specs.Iteration.{at, value_at, State, sums_of, values_of, rows_of, iterate}
use Rattle.model.specs.BaseCodes.{NoPairs, base_triples, base_system, base_rows, base_iterate, AsInBase}
use Rattle.model.proofs.Accepted.{accepted, length_numbers}
use Rattle.model.proofs.Queue.{waiting_three}
use Rattle.model.proofs.TripleRule.{triple_rule, members_long, few_variables}
use Rattle.model.proofs.Rows.{value_variable}

-- ---- the causes
outside_same : (d : ℕ) → (d ≡ 2 → ⊥) → outside least_degree most_degree d ≡ outside base_degree most_degree d
outside_same d h = by (dec_lt d 2)
  where
    by : Dec (d < 2) → outside least_degree most_degree d ≡ outside base_degree most_degree d
    by (yes l) = rw (lt-ltb d 2 l, lt-ltb d 3 (omega arith))
    by (no l) = rw (le-ltb d 2 (omega arith), le-ltb d 3 (by_three (dec_lt 2 d)))
      where
        by_three : Dec (2 < d) → 3 ≤ d
        by_three (yes k) = omega arith
        by_three (no k) = absurd (h (omega arith))

checks_same : (n m : ℕ) (s : List ℕ) → Each (λ c. length c ≡ 2 → ⊥) (checks_in m s) → checks_causes_from least_degree n m s ≡ checks_causes_from base_degree n m s
unfolding checks_causes_from checks_in
checks_same n zero s h = refl
checks_same n (suc m) s h = rw (outside_same (degree s) (λ e. h.0 (length_numbers (degree s) (drop 3 s) ∙ e)), checks_same n m (after_check s) h.1)

-- ---- the system
three_least : (n : ℕ) (c : List ℕ) → SoundCheck n c → (length c ≡ 2 → ⊥) → 3 ≤ length c
three_least n c s h = by (dec_lt 2 (length c))
  where
    by : Dec (2 < length c) → 3 ≤ length c
    by (yes l) = omega arith
    by (no l) = absurd (h (omega (arith, s.least)))

triples_same : (n : ℕ) (cs : List (List ℕ)) (a : ℕ) → SoundChecks n cs → Each (λ c. length c ≡ 2 → ⊥) cs → triples_from cs a ≡ base_triples cs a
unfolding triples_from base_triples
triples_same n [] a s h = refl
triples_same n (c ∷ cs) a s h = rw (waiting_three c (three_least n c s.0 h.0), triples_same n cs (a + turns c) s.1 h.1)

-- no member is the blank
named_append : (N : ℕ) (ts us : List ℕ) → Named ts N → Named us N → Named (ts ++ us) N
named_append N ts us f g i h = by (dec_lt i (length ts))
  where
    by : Dec (i < length ts) → get_or (ts ++ us) i 0 < N
    by (yes l) = rw (get_or-append ts us 0 i l) (f i l)
    by (no l) =
        let at : i ≡ length ts + (i - length ts) = omega arith in
        rw (at, get_or-append-add ts us (i - length ts) 0) (g (i - length ts) (omega (arith, length-append ts us)))

triples_named : (n N : ℕ) (cs : List (List ℕ)) (a : ℕ) → n ≤ a → a + total turns cs ≤ N → N ≤ blank → SoundChecks n cs → Each (λ c. length c ≡ 2 → ⊥) cs → Named (triples_from cs a) N
unfolding triples_from
triples_named n N [] a h l f s e = λ i k. absurd (omega arith)
triples_named n N (c ∷ cs) a h l f s e = named_append N (triples_of c a) (triples_from cs (a + turns c)) here (triples_named n N cs (a + turns c) (omega arith) (omega arith) f s.1 e.1)
  where
    here : Named (triples_of c a) N
    here i k =
        let r = triple_rule n a c s.0 h (omega arith) in
        let at : 3 * (i / 3) + i % 3 ≡ i = omega arith in
        let m : member (triples_of c a) (i / 3) (i % 3) < a + turns c = r.no_blank (three_least n c s.0 e.0) (i / 3) (i % 3) (omega (arith, r.long)) (omega arith) in
        omega (arith, subst (λ (j : ℕ). get_or (triples_of c a) j 0 < a + turns c) at m)

-- ---- the whole
module _ (b : List ℕ) (none : NoPairs (code_of b)) where
  abbrev k : Code
  k = code_of b

  module _ (judged : judge b ≡ 0) where
    sound : Sound k
    sound = accepted b judged

    system : system_of k ≡ base_system k
    unfolding system_of
    system = ap (λ (ts : List ℕ). record { code = k; variables = variables k; triples = triples k; members = ts }) (triples_same k.bits k.checks k.bits sound.checks none)

    named : Named (system_of k).members (variables k)
    unfolding system_of
    named = triples_named k.bits (variables k) k.checks k.bits (omega arith) (omega arith) (omega (arith, few_variables k sound)) sound.checks none

    rows : (s c : List ℤ) → rows_of (system_of k) s c ≡ base_rows (system_of k) s c
    unfolding rows_of system_of
    rows s c =
        tab_same (4 * triples k) _ _ (λ i h.
        let value : (p : ℕ) → p < 3 → value_at c (member (system_of k).members (i / 4) p) ≡ at c (member (system_of k).members (i / 4) p)
        = λ p l. value_variable c _ (omega (arith, named (3 * (i / 4) + p) (omega (arith, members_long k sound)), few_variables k sound)) in
        rw (value 0 (omega arith), value 1 (omega arith), value 2 (omega arith)))

    iterations : (o : Settings) (costs : List ℤ) (a : State) → iterate quotient (system_of k) o costs a ≡ base_iterate (base_system k) o costs a
    unfolding iterate
    iterations o costs a =
        ap (λ (s : List ℤ). record { sums = sums_of (system_of k) a.rows; values = values_of quotient (system_of k) o costs (sums_of (system_of k) a.rows); rows = s }) (rows a.rows _)
        ∙ ap (λ (g : System). base_iterate g o costs a) system

  pub as_in_base : AsInBase b
  unfolding record_causes_from code_of
  as_in_base = record {
    causes = rw (checks_same (bit_count b) (check_count b) (drop 6 b) none);
    system = system;
    named = named;
    iterations = iterations;
  }
