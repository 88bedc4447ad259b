-- Codewords and points. Assumes nothing.
use Rattle.integers.proofs.Prelude.{◌≡◌, refl, sym, ap, ap₂, subst, ◌∙◌, Bool, true, false, cond, List, [], ◌∷◌, ◌++◌, ℕ, zero, suc, ◌+◌, ◌%◌, ◌≤◌, ◌<◌}
use Rattle.integers.proofs.Prelude.{arith, eq-eqb, ne_eqb, T, eqb, pos, ◌≤ℤ◌, length, get_or, take, length-append, get_or-append, get_or-eq_default, length-take-le, take_all}
use Rattle.integers.proofs.Prelude.{take-suc, get_or-take}
use mathlib.Core.Logic.{◌⊎◌, inl, inr}
use native.Mathlib.Nat.{add-zero}
use lib.Dec.{lit<}
use lib.Seq.{get_or-append_seam, ext_get_or}
use lib.Signed.{le_z}
use Rattle.lists.specs.Entries.{total}
use Rattle.lists.proofs.Entries.{total_append}
use Rattle.quotient.specs.Quotient.{unit}
use Rattle.model.specs.Limits.{least_degree}
use Rattle.model.specs.Code.{Code, turns, triple_count, variables}
use Rattle.model.specs.Sound.{Rising, SoundCheck, SoundChecks, Sound}
use Rattle.model.specs.Splitting.{queue, blank, waiting, triples_of, triples_from, system_of, member}
use Rattle.model.specs.Iteration.{sign, row_sum}
use Rattle.model.specs.Words.{bit_at}
use Rattle.model.specs.Points.{Bits, Codeword, centred, Point, extend, point_of}
use Rattle.model.specs.Claims.{Points}
use Rattle.model.proofs.Queue.{by_degree, waiting_long, by_turns, member_next}
use Rattle.model.proofs.TripleRule.{few_variables}
use Rattle.model.proofs.Rows.{four, eight, even_cases}

-- ---- a triple meets the system where the sum of its entries is even, and only there
abbrev Meets : ℕ → ℕ → ℕ → Type 0
Meets a b c = (r : ℕ) → r < 4 → row_sum r (centred a) (centred b) (centred c) ≤ℤ pos unit

even_meets : (a b c : ℕ) → a < 2 → b < 2 → c < 2 → (a + b + c) % 2 ≡ 0 → Meets a b c
unfolding row_sum sign
even_meets = even_cases Meets (by 0 0 0 tt tt tt tt) (by 0 1 1 tt tt tt tt) (by 1 0 1 tt tt tt tt) (by 1 1 0 tt tt tt tt)
  where
    Row : ℕ → ℕ → ℕ → ℕ → Type 0
    Row a b c r = T (le_z (row_sum r (centred a) (centred b) (centred c)) (pos unit))

    by : (a b c : ℕ) → Row a b c 0 → Row a b c 1 → Row a b c 2 → Row a b c 3 → Meets a b c
    by a b c w x y z = four _ (record { le = w }) (record { le = x }) (record { le = y }) (record { le = z })

meets_even : (a b c : ℕ) → a < 2 → b < 2 → c < 2 → Meets a b c → (a + b + c) % 2 ≡ 0
unfolding row_sum sign
meets_even =
    eight (λ a b c. Meets a b c → (a + b + c) % 2 ≡ 0)
    (λ m. refl) (λ m. absurd (m 2 (lit< tt)).le) (λ m. absurd (m 1 (lit< tt)).le) (λ m. refl)
    (λ m. absurd (m 0 (lit< tt)).le) (λ m. refl) (λ m. refl) (λ m. absurd (m 3 (lit< tt)).le)

-- ---- the first n triples of a list are even
abbrev pub Even : (ℕ → ℕ) → List ℕ → ℕ → Type 0
Even x ts n = (t : ℕ) → t < n → (x (member ts t 0) + x (member ts t 1) + x (member ts t 2)) % 2 ≡ 0

module _ (x : ℕ → ℕ) (a b c : ℕ) (ts : List ℕ) where
  even_cons : (n : ℕ) → (x a + x b + x c) % 2 ≡ 0 → Even x ts n → Even x (a ∷ b ∷ c ∷ ts) (suc n)
  even_cons n h e zero l = h
  even_cons n h e (suc t) l = rw (member_next a b c ts t 0, member_next a b c ts t 1, member_next a b c ts t 2) (e t (omega arith))

  even_tail : (n : ℕ) → Even x (a ∷ b ∷ c ∷ ts) (suc n) → Even x ts n
  even_tail n e t l = rw (member_next a b c ts t 0, member_next a b c ts t 1, member_next a b c ts t 2) at (e (suc t) (omega arith))

-- ---- one check
-- what holds of every entry, and past the end of 0
abbrev All : (ℕ → Type 0) → List ℕ → Type 0
All P q = (i : ℕ) → P (get_or q i 0)

all_snoc : (P : ℕ → Type 0) (v : ℕ) (q : List ℕ) → P v → All P q → All P (q ++ (v ∷ []))
all_snoc P v [] h b zero = h
all_snoc P v [] h b (suc i) = b i
all_snoc P v (x ∷ q) h b zero = b 0
all_snoc P v (x ∷ q) h b (suc i) = all_snoc P v q h (λ i. b (suc i)) i

-- a point has entries below 2
abbrev Below : ℕ → List ℕ → Type 0
Below u q = All (λ x. x < u) q

below_rising : (n low : ℕ) (c : List ℕ) → 0 < n → Rising n low c → Below n c
below_rising n low [] l r i = l
below_rising n low (x ∷ c) l r zero = r.1
below_rising n low (x ∷ c) l r (suc i) = below_rising n (suc x) c l r.2 i

-- an item that waits lies below the next auxiliary, or is the blank, whose entry is 0 in a list that ends before it
abbrev Item : ℕ → ℕ → Type 0
Item a x = (x < a) ⊎ (x ≡ blank)

item_more : (a x : ℕ) → Item a x → Item (suc a) x
item_more a x (inl h) = inl (omega arith)
item_more a x (inr e) = inr e

item_other : (a x : ℕ) → a < blank → Item a x → x ≡ a → ⊥
item_other a x h (inl l) e = omega arith
item_other a x h (inr l) e = omega arith

item_bit : (p r : List ℕ) (a x : ℕ) → length p ≤ blank → length r ≤ blank → (x < a → bit_at p x ≡ bit_at r x) → Item a x → bit_at p x ≡ bit_at r x
item_bit p r a x h l f (inl k) = f k
item_bit p r a x h l f (inr e) = rw e (get_or-eq_default p 0 h ∙ sym (get_or-eq_default r 0 l))

items_turn : (a x y : ℕ) (q : List ℕ) → All (Item a) (x ∷ y ∷ q) → All (Item (suc a)) (q ++ (a ∷ []))
items_turn a x y q b = all_snoc (Item (suc a)) a q (inl (omega arith)) (λ i. item_more a (get_or q i 0) (b (suc (suc i))))

items_waiting : (n a : ℕ) → 0 < n → n ≤ a → (c : List ℕ) → least_degree ≤ length c → Rising n 0 c → All (Item a) (waiting c)
items_waiting n a l h =
    by_degree (λ c q. Rising n 0 c → All (Item a) q)
    (λ x y r. all_snoc (Item a) blank (x ∷ y ∷ []) (inr refl) (λ i. inl (omega (arith, below_rising n 0 (x ∷ y ∷ []) l r i))))
    (λ c d r i. inl (omega (arith, below_rising n 0 c l r i)))

-- the blank adds nothing to a check's sum
total_waiting : (x : ℕ → ℕ) → x blank ≡ 0 → (c : List ℕ) → least_degree ≤ length c → total x (waiting c) ≡ total x c
total_waiting x h = by_degree (λ c q. total x q ≡ total x c) (λ u v. omega arith) (λ c d. refl)

-- where the triples of a check are even, so is the check
check_even : (x : ℕ → ℕ) (rest : List ℕ) (n m : ℕ) (q : List ℕ) (a : ℕ) → length q ≡ 3 + m → Even x (queue m q a ++ rest) (suc m + n)
    → (total x q % 2 ≡ 0) × Even x rest n
unfolding queue
check_even x rest n =
    by_turns (λ m q a. Even x (queue m q a ++ rest) (suc m + n) → (total x q % 2 ≡ 0) × Even x rest n)
    (λ b c d a e. (omega (arith, e 0 (omega arith)), even_tail x b c d rest n (λ t l. e t (omega arith))))
    (λ m b c q a ih e.
    let i = ih (even_tail x b c a (queue m (q ++ (a ∷ [])) (suc a) ++ rest) (suc m + n) (λ t l. e t (omega arith))) in
    (omega (arith, e 0 (omega arith), i.0, total_append x q (a ∷ [])), i.1))

-- ---- the point that a word is extended to
along : (P : List ℕ → Type 0) → ((q : List ℕ) (v : ℕ) → v < 2 → P q → P (q ++ (v ∷ []))) → (ts p : List ℕ) → P p → P (extend ts p)
unfolding extend
along P more [] p h = h
along P more (x ∷ []) p h = h
along P more (x ∷ y ∷ []) p h = h
along P more (x ∷ y ∷ z ∷ ts) p h = along P more ts _ (by (eqb z (length p)))
  where
    by : (t : Bool) → P (cond t (p ++ ((bit_at p x + bit_at p y) % 2 ∷ [])) p)
    by true = more p ((bit_at p x + bit_at p y) % 2) (omega arith) h
    by false = h

extend_binary : (ts p : List ℕ) → Below 2 p → Below 2 (extend ts p)
extend_binary = along (Below 2) (λ q v h b. all_snoc (λ x. x < 2) v q h b)

extend_begins : (ts p : List ℕ) (i : ℕ) → i < length p → bit_at (extend ts p) i ≡ bit_at p i
extend_begins ts p i h =
    (along (λ q. (i < length q) × (bit_at q i ≡ bit_at p i)) (λ q v l e. (simp length-append (omega (arith, e.0)), get_or-append q (v ∷ []) 0 i e.0 ∙ e.1)) ts p (h, refl)).1

-- a step over a triple whose third is the next auxiliary, and over one whose third is not
pub extend_made : (x y a : ℕ) (ts p : List ℕ) → length p ≡ a → extend (x ∷ y ∷ a ∷ ts) p ≡ extend ts (p ++ ((bit_at p x + bit_at p y) % 2 ∷ []))
unfolding extend
extend_made x y a ts p h = rw (eq-eqb a (length p) (sym h))

pub extend_kept : (x y z : ℕ) (ts p : List ℕ) → (z ≡ length p → ⊥) → extend (x ∷ y ∷ z ∷ ts) p ≡ extend ts p
unfolding extend
extend_kept x y z ts p h = rw (ne_eqb z (length p) h)

-- where the triples of a check are even at r, the extension follows r
follows : (r : List ℕ) → ((i : ℕ) → bit_at r i < 2) → length r < blank → (rest : List ℕ) (n m : ℕ) (q : List ℕ) (a : ℕ) → length q ≡ 3 + m → All (Item a) q → a + m ≤ length r
    → Even (bit_at r) (queue m q a ++ rest) (suc m + n) → extend (queue m q a ++ rest) (take a r) ≡ extend rest (take (a + m) r)
unfolding queue
follows r binary few rest n =
    by_turns (λ m q a. All (Item a) q → a + m ≤ length r → Even (bit_at r) (queue m q a ++ rest) (suc m + n) → extend (queue m q a ++ rest) (take a r) ≡ extend rest (take (a + m) r))
    (λ x y z a b l e. rw (add-zero a) (extend_kept x y z rest (take a r) (λ k. item_other a z (omega arith) (b 2) (k ∙ length-take-le a r (omega arith)))))
    (λ m x y q a ih b l e.
    let ts = queue m (q ++ (a ∷ [])) (suc a) ++ rest in
    let taken : (u : ℕ) → Item a u → bit_at (take a r) u ≡ bit_at r u
    = λ u i. item_bit (take a r) r a u (omega (arith, length-take-le a r (omega arith))) (omega arith) (get_or-take a r u 0) i in
    let first : bit_at (take a r) x ≡ bit_at r x = taken x (b 0) in
    let second : bit_at (take a r) y ≡ bit_at r y = taken y (b 1) in
    let new : (bit_at (take a r) x + bit_at (take a r) y) % 2 ≡ bit_at r a = omega (arith, first, second, e 0 (omega arith), binary a) in
    let next : a + suc m ≡ suc a + m = omega arith in
    extend_made x y a ts (take a r) (length-take-le a r (omega arith))
    ∙ rw (new, ← take-suc r a 0 (omega arith), next)
    (ih (items_turn a x y q b) (omega arith) (even_tail (bit_at r) x y a ts (suc m + n) (λ t k. e t (omega arith)))))

-- the extension over a check: m entries are added, which make its triples even where the check is even
record Grown (rest : List ℕ) (m : ℕ) (q : List ℕ) (a : ℕ) (p : List ℕ) : Type 0 where
  grown : List ℕ
  long : length grown ≡ a + m
  is : extend (queue m q a ++ rest) p ≡ extend rest grown
  even : (r : List ℕ) → length r ≤ blank → r ≡ extend rest grown → total (bit_at r) q % 2 ≡ 0 → (n : ℕ) → Even (bit_at r) rest n → Even (bit_at r) (queue m q a ++ rest) (suc m + n)

grow : (rest : List ℕ) (m : ℕ) (q : List ℕ) (a : ℕ) → length q ≡ 3 + m → All (Item a) q → a + m < blank → (p : List ℕ) → length p ≡ a → Grown rest m q a p
unfolding queue
grow rest =
    by_turns (λ m q a. All (Item a) q → a + m < blank → (p : List ℕ) → length p ≡ a → Grown rest m q a p)
    (λ x y z a b f p l. record {
      grown = p;
      long = omega arith;
      is = extend_kept x y z rest p (λ k. item_other a z (omega arith) (b 2) (k ∙ l));
      even = λ r s e o n k t h. even_cons (bit_at r) x y z rest n (omega arith) k t (omega arith);
    })
    turn
  where
    turn : (m x y : ℕ) (q : List ℕ) (a : ℕ)
        → (All (Item (suc a)) (q ++ (a ∷ [])) → suc a + m < blank → (p : List ℕ) → length p ≡ suc a → Grown rest m (q ++ (a ∷ [])) (suc a) p)
        → All (Item a) (x ∷ y ∷ q) → a + suc m < blank → (p : List ℕ) → length p ≡ a → Grown rest (suc m) (x ∷ y ∷ q) a p
    turn m x y q a ih b f p l =
        let v = (bit_at p x + bit_at p y) % 2 in
        let ts = queue m (q ++ (a ∷ [])) (suc a) ++ rest in
        let i = ih (items_turn a x y q b) (omega arith) (p ++ (v ∷ [])) (length-append p (v ∷ []) ∙ omega arith) in
        let seam : bit_at (p ++ (v ∷ [])) a ≡ v = subst (λ (i : ℕ). bit_at (p ++ (v ∷ [])) i ≡ v) l (get_or-append_seam p v [] 0) in
        record {
          grown = i.grown;
          long = omega (arith, i.long);
          is = extend_made x y a ts p l ∙ i.is;
          even = λ r s e o n k t h.
              let at : (j : ℕ) → j < suc a → bit_at r j ≡ bit_at (p ++ (v ∷ [])) j
              = λ j g. ap (λ (r : List ℕ). bit_at r j) (e ∙ sym i.is) ∙ extend_begins ts (p ++ (v ∷ [])) j (simp length-append (omega arith)) in
              let old : (j : ℕ) → j < a → bit_at r j ≡ bit_at p j = λ j g. at j (omega arith) ∙ get_or-append p (v ∷ []) 0 j (omega arith) in
              let item : (u : ℕ) → Item a u → bit_at r u ≡ bit_at p u = λ u g. item_bit r p a u s (omega arith) (old u) g in
              let three : (bit_at r x + bit_at r y + bit_at r a) % 2 ≡ 0 = omega (arith, item x (b 0), item y (b 1), at a (omega arith), seam) in
              even_cons (bit_at r) x y a ts (suc m + n) three (i.even r s e (omega (arith, total_append (bit_at r) q (a ∷ []), three)) n k) t (omega arith);
        }

-- ---- all checks
module _ (n : ℕ) (some_bit : 0 < n) where
  -- one check: where its triples are even, so is its sum
  sum_even : (x : ℕ → ℕ) → x blank ≡ 0 → (rest : List ℕ) (m a : ℕ) (c : List ℕ) → SoundCheck n c → Even x (triples_of c a ++ rest) (triple_count c + m)
      → (total x c % 2 ≡ 0) × Even x rest m
  sum_even x none rest m a c s e =
      let i = check_even x rest m (turns c) (waiting c) a (waiting_long c s.least) (λ t l. e t (omega arith)) in
      (omega (arith, i.0, total_waiting x none c s.least), i.1)

  checks_even : (x : ℕ → ℕ) → x blank ≡ 0 → (cs : List (List ℕ)) (a : ℕ) → SoundChecks n cs → Even x (triples_from cs a) (total triple_count cs)
      → (j : ℕ) → j < length cs → total x (get_or cs j []) % 2 ≡ 0
  unfolding triples_from
  checks_even x none [] a s e j h = absurd (omega arith)
  checks_even x none (c ∷ cs) a s e j h =
      let i = sum_even x none (triples_from cs (a + turns c)) (total triple_count cs) a c s.0 (λ t l. e t (omega arith)) in
      by i.0 (checks_even x none cs (a + turns c) s.1 i.1) j h
    where
      by : total x c % 2 ≡ 0 → ((j : ℕ) → j < length cs → total x (get_or cs j []) % 2 ≡ 0) → (j : ℕ) → j < suc (length cs) → total x (get_or (c ∷ cs) j []) % 2 ≡ 0
      by o ih zero h = o
      by o ih (suc j) h = ih j (omega arith)

  checks_follow : (r : List ℕ) → ((i : ℕ) → bit_at r i < 2) → length r < blank → (cs : List (List ℕ)) (a : ℕ) → n ≤ a → SoundChecks n cs → length r ≡ a + total turns cs
      → Even (bit_at r) (triples_from cs a) (total triple_count cs) → extend (triples_from cs a) (take a r) ≡ r
  unfolding triples_from extend
  checks_follow r binary few [] a l s h e = take_all a r (omega arith)
  checks_follow r binary few (c ∷ cs) a l s h e =
      let rest = triples_from cs (a + turns c) in
      let e' : Even (bit_at r) (triples_of c a ++ rest) (triple_count c + total triple_count cs) = λ t k. e t (omega arith) in
      follows r binary few rest (total triple_count cs) (turns c) (waiting c) a (waiting_long c s.0.least) (items_waiting n a some_bit l c s.0.least s.0.rising)
      (omega arith) (λ t k. e' t (omega arith))
      ∙ checks_follow r binary few cs (a + turns c) (omega arith) s.1 (omega arith)
      (sum_even (bit_at r) (get_or-eq_default r 0 (omega arith)) rest (total triple_count cs) a c s.0 e').1

  checks_grow : (cs : List (List ℕ)) (a : ℕ) → n ≤ a → a + total turns cs < blank → SoundChecks n cs → (p : List ℕ) → length p ≡ a
      → (length (extend (triples_from cs a) p) ≡ a + total turns cs)
      × ((r : List ℕ) → length r ≤ blank → r ≡ extend (triples_from cs a) p → ((j : ℕ) → j < length cs → total (bit_at r) (get_or cs j []) % 2 ≡ 0)
      → Even (bit_at r) (triples_from cs a) (total triple_count cs))
  unfolding triples_from extend
  checks_grow [] a l b s p h = (omega arith, λ r f e o t k. absurd (omega arith))
  checks_grow (c ∷ cs) a l b s p h =
      let g = grow (triples_from cs (a + turns c)) (turns c) (waiting c) a (waiting_long c s.0.least) (items_waiting n a some_bit l c s.0.least s.0.rising) (omega arith) p h in
      let i = checks_grow cs (a + turns c) (omega arith) (omega arith) s.1 g.grown g.long in (
        ap length g.is ∙ i.0 ∙ omega arith,
        λ r f e o t k. g.even r f (e ∙ g.is)
            (omega (arith, total_waiting (bit_at r) (get_or-eq_default r 0 f) c s.0.least, o 0 (omega arith))) (total triple_count cs)
            (i.1 r f (e ∙ g.is) (λ j m. o (suc j) (omega arith))) t (omega arith),
      )

  pub extend_long : (cs : List (List ℕ)) (a : ℕ) → n ≤ a → a + total turns cs < blank → SoundChecks n cs → (p : List ℕ) → length p ≡ a
      → length (extend (triples_from cs a) p) ≡ a + total turns cs
  extend_long cs a l b s p h = (checks_grow cs a l b s p h).0

-- a sum over a check sees only its bits
pub total_bits : (n low : ℕ) (x y : ℕ → ℕ) (c : List ℕ) → ((i : ℕ) → i < n → x i ≡ y i) → Rising n low c → total x c ≡ total y c
total_bits n low x y [] h r = refl
total_bits n low x y (i ∷ c) h r = ap₂ ◌+◌ (h i r.1) (total_bits n (suc i) x y c h r.2)

pub totals_bits : (n : ℕ) (x y : ℕ → ℕ) (cs : List (List ℕ)) → ((i : ℕ) → i < n → x i ≡ y i) → SoundChecks n cs → (j : ℕ) → total x (get_or cs j []) ≡ total y (get_or cs j [])
totals_bits n x y [] h s j = refl
totals_bits n x y (c ∷ cs) h s zero = total_bits n 0 x y c h s.0.rising
totals_bits n x y (c ∷ cs) h s (suc j) = totals_bits n x y cs h s.1 j

-- ---- the whole
module _ (k : Code) (s : Sound k) where
  some_bit : 0 < k.bits
  some_bit = omega (arith, s.bits_least)

  pub point_begins : (w : List ℕ) → length w ≡ k.bits → (i : ℕ) → i < k.bits → bit_at (point_of k w) i ≡ bit_at w i
  point_begins w h i l = extend_begins (system_of k).members w i (omega arith)

  pub point_long : (w : List ℕ) → length w ≡ k.bits → length (point_of k w) ≡ variables k
  unfolding system_of
  point_long w h = extend_long k.bits some_bit k.checks k.bits (omega arith) (few_variables k s) s.checks w h

  -- the blank lies past the end of a list of 0 and 1 for all variables
  pub blank_bit : (p : List ℕ) → length p ≡ variables k → bit_at p blank ≡ 0
  blank_bit p h = get_or-eq_default p 0 (omega (arith, few_variables k s))

  pub point_even : (w : List ℕ) → Codeword k w → Even (bit_at (point_of k w)) (system_of k).members (system_of k).triples
  unfolding system_of
  point_even w c =
      (checks_grow k.bits some_bit k.checks k.bits (omega arith) (few_variables k s) s.checks w c.word.long).1 (point_of k w)
      (omega (arith, point_long w c.word.long, few_variables k s)) refl
      (λ j h. rw (totals_bits k.bits (bit_at (point_of k w)) (bit_at w) k.checks (point_begins w c.word.long) s.checks j) (c.even j h))

  pub point_binary : (w : List ℕ) → Codeword k w → (i : ℕ) → bit_at (point_of k w) i < 2
  point_binary w c = extend_binary (system_of k).members w c.word.binary

  -- a list of 0 and 1 meets the system where it is even on every triple
  pub even_point : (p : List ℕ) → Bits (system_of k).variables p → Even (bit_at p) (system_of k).members (system_of k).triples → Point (system_of k) p
  even_point p b e = record { point = b; meets = λ t r h l. even_meets _ _ _ (b.binary _) (b.binary _) (b.binary _) (e t h) r l }

  pub point : (w : List ℕ) → Codeword k w → Point (system_of k) (point_of k w)
  unfolding system_of
  point w c =
      even_point (point_of k w)
      (record {
        long = point_long w c.word.long;
        binary = point_binary w c;
      })
      (point_even w c)

  pub begins : (w : List ℕ) → Codeword k w → take k.bits (point_of k w) ≡ w
  unfolding system_of
  begins w c =
      let n : length w ≡ k.bits = c.word.long in
      let long : length (take k.bits (point_of k w)) ≡ length w = length-take-le k.bits (point_of k w) (omega (arith, (point w c).point.long)) ∙ sym n in
      ext_get_or 0 (take k.bits (point_of k w)) w long (λ i l. get_or-take k.bits (point_of k w) i 0 (omega arith) ∙ point_begins w n i (omega arith))

  evened : (p : List ℕ) → Point (system_of k) p → Even (bit_at p) (system_of k).members (system_of k).triples
  evened p q t h = meets_even _ _ _ (q.point.binary _) (q.point.binary _) (q.point.binary _) (λ r l. q.meets t r h l)

  codeword : (w p : List ℕ) → Bits k.bits w → Point (system_of k) p → take k.bits p ≡ w → Codeword k w
  unfolding system_of
  codeword w p b q e = record {
    word = b;
    even = λ j h. rw (totals_bits k.bits (bit_at w) (bit_at p) k.checks (λ i l. subst (λ (u : List ℕ). bit_at u i ≡ bit_at p i) e (get_or-take k.bits p i 0 l)) s.checks j)
        (checks_even k.bits some_bit (bit_at p) (blank_bit p q.point.long) k.checks k.bits s.checks (evened p q) j h);
  }

  pub points : Points k
  unfolding system_of
  points = record {
    exactly = λ w b. (λ c. (point_of k w, point w c, begins w c), λ q. codeword w q.0 b q.1 q.2);
    only = λ w p q e. sym (subst (λ (u : List ℕ). extend (system_of k).members u ≡ p) e
        (checks_follow k.bits some_bit p q.point.binary (omega (arith, q.point.long, few_variables k s)) k.checks k.bits (omega arith) s.checks q.point.long (evened p q)));
  }
