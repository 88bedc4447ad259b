-- A point that is even on every triple reflects the run. Assumes nothing.
use Rattle.integers.proofs.Prelude.{◌≡◌, refl, sym, ap, ap₂, ◌∙◌, Bool, true, false, cond, List, [], ◌∷◌, ℕ, zero, suc, ◌+◌, ◌*◌, ◌%◌, ◌<◌, arith, eqb-true, eqb, ℤ}
use Rattle.integers.proofs.Prelude.{pos, nat_abs, neg_ℤ, ◌+ℤ◌, ◌*ℤ◌, length, get_or}
use lib.Dec.{lit<}
use lib.IntN.{neg_ℤ-neg_ℤ}
use Rattle.integers.specs.Parts.{up}
use Rattle.integers.specs.Sum.{sum_ℕ, sum_ℤ}
use Rattle.integers.proofs.Linear.{split, to_ℕ, neg_*ℤ}
use Rattle.integers.proofs.Sums.{sum_ℕ_same, sum_ℤ_same, sum_ℤ_neg, sum_ℤ_pos}
use Rattle.lists.specs.Tabulated.{tab}
use Rattle.lists.proofs.Tabulated.{tab_get_or}
use Rattle.model.specs.declared.Settings.{Settings}
use Rattle.quotient.specs.Quotient.{unit}
use Rattle.model.specs.Splitting.{System, blank, member}
use Rattle.model.specs.Iteration.{at, row, sign, row_sum, value_at, sum_at, slack, multiplier, share, ◌when◌, sum_of, numerator, renewed, State, sums_of, value_of, values_of, rows_of, iterate}
use Rattle.model.specs.Run.{square_of_change, changes, settled_by, start, after, Ended, run_from}
use Rattle.model.specs.Words.{bit_at}
use Rattle.model.specs.Reflection.{negated_if, reflect, Opposite, Reflected}
use Rattle.model.proofs.Rows.{four, three, even_cases, none, row_renewed}

-- ---- turning
pub turned_zero : (b : ℕ) → negated_if b (pos 0) ≡ pos 0
turned_zero zero = refl
turned_zero (suc b) = refl

turned_mul : (b : ℕ) (m z : ℤ) → negated_if b m *ℤ z ≡ negated_if b (m *ℤ z)
turned_mul zero m z = refl
turned_mul (suc b) m z = neg_*ℤ m z

turned_both : (b : ℕ) (m z : ℤ) → negated_if b m *ℤ negated_if b z ≡ m *ℤ z
turned_both zero m z = refl
turned_both (suc b) m z = rw (split m, split z) (simp to_ℕ (omega arith))

turned_sum : (b n : ℕ) (f : ℕ → ℤ) → sum_ℤ n (λ k. negated_if b (f k)) ≡ negated_if b (sum_ℤ n f)
turned_sum zero n f = refl
turned_sum (suc b) n f = sum_ℤ_neg n f

turned_tab : (b n : ℕ) (f g : ℕ → ℤ) (v : ℕ) → g v ≡ negated_if b (f v) → at (tab n g) v ≡ negated_if b (at (tab n f) v)
turned_tab b zero f g v e = sym (turned_zero b)
turned_tab b (suc n) f g zero e = e
turned_tab b (suc n) f g (suc v) e = turned_tab b n (λ k. f (suc k)) (λ k. g (suc k)) v e

-- every entry of reflected costs, also past the end
pub reflect_at : (w : List ℕ) (costs : List ℤ) (i : ℕ) → at (reflect w costs) i ≡ negated_if (bit_at w i) (at costs i)
unfolding reflect
reflect_at w costs i =
    turned_tab (bit_at w i) (length costs) (at costs) (λ i. negated_if (bit_at w i) (at costs i)) i refl
    ∙ ap (λ (l : List ℤ). negated_if (bit_at w i) (at l i)) (tab_get_or costs (pos 0))

-- ---- where the rows of an even triple go
-- row q has the signs of row r, turned at the three positions
abbrev Turned : ℕ → ℕ → ℕ → ℕ → ℕ → Type 0
Turned a b c r q = (sign q 0 ≡ negated_if a (sign r 0)) × (sign q 1 ≡ negated_if b (sign r 1)) × (sign q 2 ≡ negated_if c (sign r 2))

-- an exchange of the four rows
record Exchange (a b c : ℕ) : Type 0 where
  to : ℕ → ℕ
  below : (r : ℕ) → r < 4 → to r < 4
  turns : (r : ℕ) → r < 4 → Turned a b c r (to r)
  whole : (f : ℕ → ℤ) → sum_ℤ 4 (λ r. f (to r)) ≡ sum_ℤ 4 f

made : {a b c : ℕ} (i j k l : ℕ) → (i < 4) × (j < 4) × (k < 4) × (l < 4) → Turned a b c 0 i × Turned a b c 1 j × Turned a b c 2 k × Turned a b c 3 l
    → ((f : ℕ → ℤ) → pos 0 +ℤ f i +ℤ f j +ℤ f k +ℤ f l ≡ sum_ℤ 4 f) → Exchange a b c
made {a} {b} {c} i j k l lt t w =
    let to : ℕ → ℕ = λ r. get_or (i ∷ j ∷ k ∷ l ∷ []) r 0 in
    record {
      to = to;
      below = four (λ r. to r < 4) lt.0 lt.1 lt.2 lt.3;
      turns = four (λ r. Turned a b c r (to r)) t.0 t.1 t.2 t.3;
      whole = w;
    }

exchange : (a b c : ℕ) → a < 2 → b < 2 → c < 2 → (a + b + c) % 2 ≡ 0 → Exchange a b c
unfolding sign
exchange =
    even_cases Exchange
    (made 0 1 2 3 (lit< tt, lit< tt, lit< tt, lit< tt) ((refl, refl, refl), (refl, refl, refl), (refl, refl, refl), (refl, refl, refl)) (λ f. refl))
    (made 3 2 1 0 (lit< tt, lit< tt, lit< tt, lit< tt) ((refl, refl, refl), (refl, refl, refl), (refl, refl, refl), (refl, refl, refl))
    (λ f. rw (split (f 0), split (f 1), split (f 2), split (f 3)) (simp to_ℕ (omega arith))))
    (made 2 3 0 1 (lit< tt, lit< tt, lit< tt, lit< tt) ((refl, refl, refl), (refl, refl, refl), (refl, refl, refl), (refl, refl, refl))
    (λ f. rw (split (f 0), split (f 1), split (f 2), split (f 3)) (simp to_ℕ (omega arith))))
    (made 1 0 3 2 (lit< tt, lit< tt, lit< tt, lit< tt) ((refl, refl, refl), (refl, refl, refl), (refl, refl, refl), (refl, refl, refl))
    (λ f. rw (split (f 0), split (f 1), split (f 2), split (f 3)) (simp to_ℕ (omega arith))))

-- a row is known by its signs: those at its last two positions are its digits
row_of : (r : ℕ) → r < 4 → up (sign r 1) + 2 * up (sign r 2) ≡ r
unfolding sign
row_of = four (λ r. up (sign r 1) + 2 * up (sign r 2) ≡ r) refl refl refl refl

same_row : (r q : ℕ) → r < 4 → q < 4 → ((p : ℕ) → p < 3 → sign r p ≡ sign q p) → r ≡ q
same_row r q h l e = sym (row_of r h) ∙ rw (e 1 (lit< tt), e 2 (lit< tt)) (row_of q l)

turned_back : (b : ℕ) (y z : ℤ) → negated_if b y ≡ negated_if b z → y ≡ z
turned_back zero y z e = e
turned_back (suc b) y z e = sym (neg_ℤ-neg_ℤ y) ∙ ap neg_ℤ e ∙ neg_ℤ-neg_ℤ z

module _ (x ts : List ℕ) (t : ℕ) where
  pub unique : (r q q' : ℕ) → q < 4 → q' < 4 → Opposite x ts t r q → Opposite x ts t r q' → q ≡ q'
  unique r q q' h l e f = same_row q q' h l (λ p k. e p k ∙ sym (f p k))

  pub injective : (r r' q : ℕ) → r < 4 → r' < 4 → Opposite x ts t r q → Opposite x ts t r' q → r ≡ r'
  injective r r' q h l e f = same_row r r' h l (λ p k. turned_back (bit_at x (member ts t p)) (sign r p) (sign r' p) (sym (e p k) ∙ f p k))

-- ---- one iteration
module _ (g : System) (x : List ℕ) (binary : (v : ℕ) → bit_at x v < 2) (still : bit_at x blank ≡ 0)
    (even : (t : ℕ) → t < g.triples → (bit_at x (member g.members t 0) + bit_at x (member g.members t 1) + bit_at x (member g.members t 2)) % 2 ≡ 0) where
  -- the point's entry at position p of triple t
  abbrev y : ℕ → ℕ → ℕ
  y t p = bit_at x (member g.members t p)

  exchanged : (t : ℕ) → t < g.triples → Exchange (y t 0) (y t 1) (y t 2)
  exchanged t h = exchange (y t 0) (y t 1) (y t 2) (binary _) (binary _) (binary _) (even t h)

  opposed : (t r q : ℕ) → Turned (y t 0) (y t 1) (y t 2) r q → Opposite x g.members t r q
  opposed t r q e = three (λ p. sign q p ≡ negated_if (y t p) (sign r p)) e.0 e.1 e.2

  -- each row has its opposite
  pub opposite : (t r : ℕ) → t < g.triples → r < 4 → (q : ℕ) × (q < 4) × Opposite x g.members t r q
  opposite t r h l = let e = exchanged t h in (e.to r, e.below r l, opposed t r (e.to r) (e.turns r l))

  -- a sum over the rows does not see the exchange
  rows_sum : (t : ℕ) → t < g.triples → (f f' : ℕ → ℤ) → ((r q : ℕ) → r < 4 → q < 4 → Opposite x g.members t r q → f' q ≡ f r) → sum_ℤ 4 f' ≡ sum_ℤ 4 f
  rows_sum t h f f' m =
      let e = exchanged t h in
      sym (e.whole f') ∙ sum_ℤ_same 4 (λ r. f' (e.to r)) f (λ r l. m r (e.to r) l (e.below r l) (opposed t r (e.to r) (e.turns r l)))

  abbrev Exchanged : List ℤ → List ℤ → Type 0
  Exchanged s s' = (t r q : ℕ) → t < g.triples → r < 4 → q < 4 → Opposite x g.members t r q → row s' t q ≡ row s t r

  share_turned : (s s' : List ℤ) → Exchanged s s' → (t p : ℕ) → t < g.triples → p < 3 → share s' t p ≡ negated_if (y t p) (share s t p)
  unfolding share
  share_turned s s' m t p h l =
      let size : ℤ → ℤ = λ z. pos (slack z + multiplier z) in
      let f : ℕ → ℤ = λ r. sign r p *ℤ size (row s t r) in
      let f' : ℕ → ℤ = λ r. sign r p *ℤ size (row s' t r) in
      rows_sum t h (λ r. negated_if (y t p) (f r)) f' (λ r q k j e. rw (e p l, m t r q h k j e) (turned_mul (y t p) (sign r p) (size (row s t r))))
      ∙ turned_sum (y t p) 4 f

  when_turned : (i v : ℕ) (z z' : ℤ) → z' ≡ negated_if (bit_at x i) z → z' when eqb i v ≡ negated_if (bit_at x v) (z when eqb i v)
  when_turned i v z z' e = by (eqb i v) (eqb-true i v)
    where
      by : (t : Bool) → (t ≡ true → i ≡ v) → z' when t ≡ negated_if (bit_at x v) (z when t)
      by true f = rw (← f refl) e
      by false f = sym (turned_zero (bit_at x v))

  sum_turned : (s s' : List ℤ) → Exchanged s s' → (v : ℕ) → sum_of g.members g.triples s' v ≡ negated_if (bit_at x v) (sum_of g.members g.triples s v)
  unfolding sum_of
  sum_turned s s' m v =
      let part : List ℤ → ℕ → ℕ → ℤ = λ s t p. share s t p when eqb (member g.members t p) v in
      sum_ℤ_same g.triples (λ t. sum_ℤ 3 (part s' t)) (λ t. negated_if (bit_at x v) (sum_ℤ 3 (part s t))) (λ t h.
      sum_ℤ_same 3 (part s' t) (λ p. negated_if (bit_at x v) (part s t p)) (λ p l. when_turned (member g.members t p) v (share s t p) (share s' t p) (share_turned s s' m t p h l))
      ∙ turned_sum (bit_at x v) 3 (part s t))
      ∙ turned_sum (bit_at x v) g.triples (λ t. sum_ℤ 3 (part s t))

  sum_at_turned : (c c' : List ℤ) → ((v : ℕ) → at c' v ≡ negated_if (bit_at x v) (at c v)) → (t r q : ℕ) → Opposite x g.members t r q → sum_at g.members c' t q ≡ sum_at g.members c t r
  unfolding row_sum
  sum_at_turned c c' e t r q f = ap₂ ◌+ℤ◌ (ap₂ ◌+ℤ◌ (part 0 (lit< tt)) (part 1 (lit< tt))) (part 2 (lit< tt))
    where
      -- "the blank keeping its sign"
      value : (v : ℕ) → value_at c' v ≡ negated_if (bit_at x v) (value_at c v)
      value v = by (eqb v blank) (eqb-true v blank)
        where
          by : (t : Bool) → (t ≡ true → v ≡ blank) → cond t (neg_ℤ (pos unit)) (at c' v) ≡ negated_if (bit_at x v) (cond t (neg_ℤ (pos unit)) (at c v))
          by true f = rw (f refl, still)
          by false f = e v

      part : (p : ℕ) → p < 3 → sign q p *ℤ value_at c' (member g.members t p) ≡ sign r p *ℤ value_at c (member g.members t p)
      part p l = rw (f p l, value (member g.members t p)) (turned_both (y t p) (sign r p) (value_at c (member g.members t p)))

  rows_turned : (s s' c c' : List ℤ) → Exchanged s s' → ((v : ℕ) → at c' v ≡ negated_if (bit_at x v) (at c v)) → Exchanged (rows_of g s c) (rows_of g s' c')
  rows_turned s s' c c' m e t r q h k j f =
      row_renewed g s' c' t q h j ∙ ap₂ renewed (m t r q h k j f) (sum_at_turned c c' e t r q f) ∙ sym (row_renewed g s c t r h k)

  changes_turned : (part : ℤ → ℕ) (a b a' b' : List ℤ) → Exchanged a a' → Exchanged b b' → changes part g.triples a' b' ≡ changes part g.triples a b
  unfolding changes
  changes_turned part a b a' b' m n =
      let f : List ℤ → List ℤ → ℕ → ℕ → ℕ = λ a b t r. square_of_change (part (row a t r)) (part (row b t r)) in
      sum_ℕ_same g.triples (λ t. sum_ℕ 4 (f a' b' t)) (λ t. sum_ℕ 4 (f a b t)) (λ t h. ap nat_abs (
      sym (sum_ℤ_pos 4 (f a' b' t))
      ∙ rows_sum t h (λ r. pos (f a b t r)) (λ r. pos (f a' b' t r)) (λ r q k j e. rw (m t r q h k j e, n t r q h k j e))
      ∙ sum_ℤ_pos 4 (f a b t)))

  settled_turned : (X : ℕ) (a b a' b' : List ℤ) → Exchanged a a' → Exchanged b b' → settled_by X g.triples a' b' ≡ settled_by X g.triples a b
  unfolding settled_by
  settled_turned X a b a' b' m n = rw (changes_turned multiplier a b a' b' m n, changes_turned slack a b a' b' m n)

  pub begun : Reflected g x (start g) (start g)
  unfolding start
  begun = record {
    values = λ v. rw (none g.variables v) (sym (turned_zero (bit_at x v)));
    sums = λ v. rw (none g.variables v) (sym (turned_zero (bit_at x v)));
    rows = λ t r q h k j e. none (4 * g.triples) (4 * t + q) ∙ sym (none (4 * g.triples) (4 * t + r));
  }

  -- ---- the run, with costs that are turned, and a division that is odd
  module _ (div : ℤ → ℤ → ℤ) (odd : (n d : ℤ) → div (neg_ℤ n) d ≡ neg_ℤ (div n d)) (o : Settings) (costs costs' : List ℤ)
      (turns : (v : ℕ) → at costs' v ≡ negated_if (bit_at x v) (at costs v)) where
    value_turned : (b W : ℕ) (S L d : ℤ) → div (numerator W (negated_if b S) (negated_if b L)) d ≡ negated_if b (div (numerator W S L) d)
    value_turned zero W S L d = refl
    value_turned (suc b) W S L d = ap (λ (z : ℤ). div z d) both ∙ odd (numerator W S L) d
      where
        both : numerator W (neg_ℤ S) (neg_ℤ L) ≡ neg_ℤ (numerator W S L)
        both = rw (split S, split L) (simp to_ℕ (omega arith))

    stepped : (a b : State) → Reflected g x a b → Reflected g x (iterate div g o costs a) (iterate div g o costs' b)
    unfolding iterate sums_of values_of
    stepped a b m =
        let S : (v : ℕ) → at (sums_of g b.rows) v ≡ negated_if (bit_at x v) (at (sums_of g a.rows) v)
        = λ v. turned_tab (bit_at x v) g.variables (sum_of g.members g.triples a.rows) (sum_of g.members g.triples b.rows) v (sum_turned a.rows b.rows m.rows v) in
        let c : (v : ℕ) → at (iterate div g o costs' b).values v ≡ negated_if (bit_at x v) (at (iterate div g o costs a).values v)
        = λ v. turned_tab (bit_at x v) g.variables (value_of div g o costs (sums_of g a.rows)) (value_of div g o costs' (sums_of g b.rows)) v
        (rw (S v, turns v) (value_turned (bit_at x v) o.weight (at (sums_of g a.rows) v) (at costs v) _)) in
        record { values = c; sums = S; rows = rows_turned a.rows b.rows _ _ m.rows c }

    pub each : (a b : State) → Reflected g x a b → (i : ℕ) → Reflected g x (after div g o costs i a) (after div g o costs' i b)
    unfolding after
    each a b m zero = m
    each a b m (suc i) = stepped _ _ (each a b m i)

    -- the ends of two runs
    pub record Ends (a b : Ended) : Type 0 where
      pub k : b.k ≡ a.k
      pub settled : b.settled ≡ a.settled
      pub last : Reflected g x a.last b.last

    pub ends : (more k : ℕ) (a b : State) → Reflected g x a b → Ends (run_from div g o costs more k a) (run_from div g o costs' more k b)
    unfolding run_from
    ends zero k a b m = record { k = refl; settled = refl; last = m }
    ends (suc more) k a b m =
        let n = stepped a b m in
        rw (settled_turned o.tolerance a.rows (iterate div g o costs a).rows b.rows (iterate div g o costs' b).rows m.rows n.rows, run_from)
        (by (settled_by o.tolerance g.triples a.rows (iterate div g o costs a).rows) n (ends more (suc k) (iterate div g o costs a) (iterate div g o costs' b) n))
      where
        by : {a b : State} {e f : Ended} (t : ℕ) → Reflected g x a b → Ends e f
            → Ends (elim t [ zero ↦ e | suc n ↦ record { k = suc k; settled = suc n; last = a } ]) (elim t [ zero ↦ f | suc n ↦ record { k = suc k; settled = suc n; last = b } ])
        by zero n e = e
        by (suc t) n e = record { k = refl; settled = refl; last = n }
