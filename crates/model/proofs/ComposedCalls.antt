-- Calls of the reflector and of the adder: which are accepted, and what a chain of them gives. Assumes nothing.
use Rattle.integers.proofs.Prelude.{◌≡◌, refl, sym, ap, subst, ◌∙◌, false, List, [], ◌∷◌, ℕ, zero, suc, ◌≤◌, arith, ltb-false, le-ltb, eq-eqb, ne_eqb}
use Rattle.integers.proofs.Prelude.{ℤ, pos, negsuc, nat_abs, length, take}
use mathlib.Core.Logic.{◌↔◌}
use Rattle.integers.proofs.Linear.{abs_neg}
use Rattle.lists.specs.Tabulated.{written}
use Rattle.lists.specs.Entries.{some, Each}
use Rattle.lists.proofs.Tabulated.{take_written}
use Rattle.lists.proofs.Entries.{none_in, each_weaker, each_map}
use Rattle.model.specs.Limits.{most_cost}
use Rattle.model.specs.Causes.{first_of}
use Rattle.model.specs.Iteration.{at}
use Rattle.model.specs.Words.{bit_at}
use Rattle.model.specs.Points.{Bits}
use Rattle.model.specs.Reflection.{negated_if, reflect, sum_of_words}
use Rattle.model.specs.Calls.{unequal, forbidden, not_binary, Costs, reflector_causes, reflector}
use Rattle.model.specs.DecoderClaims.{Small}
use Rattle.model.specs.Composition.{sum_of_all, chained, adder_causes, adder, ComposedCalls, Link, Links, words_of, handed_on}
use Rattle.model.proofs.Causes.{clear, unless, or_false}
use Rattle.model.proofs.Reflection.{reflect_at}
use Rattle.model.proofs.Composition.{sum_bits, all_bits, length_reflect, composes}
use Rattle.model.proofs.WordClaims.{bits_tested}

-- ---- costs
turned_size : (b : ℕ) (z : ℤ) → nat_abs (negated_if b z) ≡ nat_abs z
turned_size zero z = refl
turned_size (suc b) z = abs_neg z

allowed : (z : ℤ) → nat_abs z ≤ most_cost → forbidden z ≡ false
allowed (pos n) h = refl
allowed (negsuc n) h = ne_eqb (suc n) 32768 (λ q. omega arith)

small_allowed : (costs : List ℤ) → Small costs → some forbidden costs ≡ false
small_allowed costs small = none_in forbidden costs (pos 0) (λ i l. allowed (at costs i) (small i))

reflect_small : (w : List ℕ) (costs : List ℤ) → Small costs → Small (reflect w costs)
reflect_small w costs small i = rw (reflect_at w costs i, turned_size (bit_at w i) (at costs i)) (small i)

-- reflected costs are allowed where the costs are
pub reflect_allowed : (w : List ℕ) (costs : List ℤ) → Small costs → some forbidden (reflect w costs) ≡ false
reflect_allowed w costs small = small_allowed (reflect w costs) (reflect_small w costs small)

-- ---- a call of the reflector that is accepted
pub reflector_is : (costs : List ℤ) (w : List ℕ) (old : List ℤ) → Small costs → Bits (length costs) w → length costs ≤ length old
    → reflector costs w old ≡ record { number = 0; costs = written (reflect w costs) old }
unfolding reflector
reflector_is costs w old small b room =
    let t = (bits_tested (length costs) w).0 b in
    rw (t.0, small_allowed costs small, t.1, le-ltb (length old) (length costs) room)

pub reflector_took : (costs : List ℤ) (w : List ℕ) (old : List ℤ) → (reflector costs w old).number ≡ 0 → Bits (length costs) w × (length costs ≤ length old)
unfolding reflector
reflector_took costs w old h =
    let x = clear (reflector_causes costs w old) h in (
      (bits_tested (length costs) w).1 (unless 11 (unequal w (length costs)) x.0, unless 14 (some not_binary w) x.1.1.0),
      ltb-false (length old) (length costs) (unless 9 _ x.1.1.1.0),
    )

-- what it hands on
pub reflected_taken : (costs : List ℤ) (w : List ℕ) (old : List ℤ) → take (length costs) (written (reflect w costs) old) ≡ reflect w costs
reflected_taken costs w old = take_written (reflect w costs) old (length costs) (length_reflect w costs)

-- ---- calls with costs that calls before wrote
module _ (costs : List ℤ) (small : Small costs) where
  abbrev n : ℕ
  n = length costs

  -- what such a call takes to be a word and room enough
  second_took : (w u : List ℕ) (out : List ℤ) → (reflector (reflect w costs) u out).number ≡ 0 → Bits n u × (n ≤ length out)
  second_took w u out h = subst (λ (m : ℕ). Bits m u × (m ≤ length out)) (length_reflect w costs) (reflector_took (reflect w costs) u out h)

  second_is : (w u : List ℕ) (out : List ℤ) → Bits n w → Bits n u → n ≤ length out
      → reflector (reflect w costs) u out ≡ record { number = 0; costs = written (reflect u (reflect w costs)) out }
  second_is w u out a b room =
      let long = sym (length_reflect w costs) in
      reflector_is (reflect w costs) u out (reflect_small w costs small) (subst (λ (m : ℕ). Bits m u) long b) (subst (λ (m : ℕ). m ≤ length out) long room)

  module _ (w : List ℕ) (a : Bits n w) where
    pub composed_calls : (u : List ℕ) (out : List ℤ) (c : Costs) → c ≡ reflector (reflect w costs) u out → ComposedCalls costs w u out c
    composed_calls u out c meets =
        let told : List ℤ → Costs = λ l. record { number = 0; costs = written l out } in
        let took : c.number ≡ 0 → Bits n u × (n ≤ length out) = λ h. second_took w u out (ap (λ (x : Costs). x.number) (sym meets) ∙ h) in
        let is : c.number ≡ 0 → c ≡ told (reflect u (reflect w costs)) = λ h. meets ∙ second_is w u out a (took h).0 (took h).1 in
        record {
          exactly = (took, λ t. ap (λ (x : Costs). x.number) (meets ∙ second_is w u out a t.0 t.1));
          sum = λ h. is h ∙ ap told ((composes costs).sum w u a (took h).0)
              ∙ sym (reflector_is costs (sum_of_words w u) out small (sum_bits n w u a (took h).0) (took h).1);
          order = λ h old room d other.
              let first = other ∙ reflector_is costs u old small (took h).0 room in
              let handed = ap (λ (x : Costs). take n x.costs) first ∙ reflected_taken costs u old in (
                ap (λ (x : Costs). x.number) first,
                is h ∙ ap told ((composes costs).order w u a (took h).0) ∙ sym (second_is u w out (took h).0 a (took h).1)
                    ∙ ap (λ (x : List ℤ). reflector x w out) (sym handed),
              );
          twice = λ h e. ap (λ (x : Costs). x.costs) (is h) ∙ rw (e, (composes costs).twice w a);
        }

-- ---- the words of a chain
pub links_words : (P : List ℕ → Type 0) (n : ℕ) (l : List Link) → Links P n l → Each P (words_of l)
links_words P n l h = each_map P (λ x. x.word) l (each_weaker (λ x. P x.word × (n ≤ length x.lent)) (λ x. P x.word) (λ x q. q.0) l h)

-- ---- a chain of calls hands on what the chain of reflections makes
handed_on_lem : (n : ℕ) (l : List Link) → Links (Bits n) n l → (costs : List ℤ) → length costs ≡ n → Small costs → handed_on costs l ≡ chained (words_of l) costs
handed_on_lem n [] h costs e small = refl
handed_on_lem n (x ∷ l) h costs e small =
    let first : reflector costs x.word x.lent ≡ record { number = 0; costs = written (reflect x.word costs) x.lent }
    = reflector_is costs x.word x.lent small (rw e h.0.0) (rw e h.0.1) in
    ap (λ (y : List ℤ). handed_on y l) (ap (λ (y : Costs). take (length costs) y.costs) first ∙ reflected_taken costs x.word x.lent)
    ∙ handed_on_lem n l h.1 (reflect x.word costs) (length_reflect x.word costs ∙ e) (reflect_small x.word costs small)

-- so it is one reflection
module _ (costs : List ℤ) (small : Small costs) (l : List Link) (h : Links (Bits (length costs)) (length costs) l) where
  chain_words : Each (Bits (length costs)) (words_of l)
  chain_words = links_words (Bits (length costs)) (length costs) l h

  pub chain_bits : Bits (length costs) (sum_of_all (length costs) (words_of l))
  chain_bits = all_bits (length costs) (words_of l) chain_words

  pub chain_handed : handed_on costs l ≡ reflect (sum_of_all (length costs) (words_of l)) costs
  chain_handed = handed_on_lem (length costs) l h costs refl small ∙ (composes costs).chains (words_of l) chain_words

-- ---- a call of the adder that is accepted
pub adder_exactly : (w u old : List ℕ) → ((adder w u old).number ≡ 0) ↔ (Bits (length w) w × Bits (length w) u × (length w ≤ length old))
unfolding adder
adder_exactly w u old = (took, passes)
  where
    took : first_of (adder_causes w u old) ≡ 0 → Bits (length w) w × Bits (length w) u × (length w ≤ length old)
    took h =
        let x = clear (adder_causes w u old) h in
        let binary = or_false (some not_binary w) (some not_binary u) (unless 14 _ x.1.0) in (
          (bits_tested (length w) w).1 (rw (eq-eqb (length w) (length w) refl), binary.0),
          (bits_tested (length w) u).1 (unless 11 (unequal u (length w)) x.0, binary.1),
          ltb-false (length old) (length w) (unless 9 _ x.1.1.0),
        )

    passes : Bits (length w) w × Bits (length w) u × (length w ≤ length old) → first_of (adder_causes w u old) ≡ 0
    passes t =
        let a = (bits_tested (length w) w).0 t.0 in
        let b = (bits_tested (length w) u).0 t.1 in
        rw (b.0, a.1, b.1, le-ltb (length old) (length w) t.2)
