-- Lists given by their entries. Assumes nothing.
use Rattle.integers.proofs.Prelude.{◌≡◌, refl, sym, ap, ap₂, ◌∙◌, Bool, true, false, cond, List, [], ◌∷◌, ◌++◌, map, append-nil, ℕ, zero, suc, ◌+◌, ◌-◌, ◌≤◌, ◌<◌, arith, add-one, eqb-true, eqb-false, eqb, ltb-true, ltb-false, ltb, ℤ}
use Rattle.integers.proofs.Prelude.{length, get_or, take, drop, set, length-append, length-drop, length-set, length-map, drop_of_length-le, get_or-append, sets, take_at, drop_at}
use Rattle.integers.proofs.Prelude.{get_or-drop, get_or-append-add, to_z, of_z, to_z-of_z}
use mathlib.Core.Logic.{◌≢◌}
use lib.ListN.{replicate, length-replicate, get_or-replicate}
use lib.Seq.{set-append_left, get_or-set_same, get_or-set_other}
use mir.Syntax.{Width}
use mir.Val.{SFits}
use Rattle.lists.specs.Tabulated.{tab, over, written}

module _ {ℓ} {A : Type ℓ} where
  -- ---- tab
  pub length_tab : (n : ℕ) (f : ℕ → A) → length (tab n f) ≡ n
  length_tab zero f = refl
  length_tab (suc n) f = ap suc (length_tab n (λ k. f (suc k)))

  pub get_or_tab : (n : ℕ) (f : ℕ → A) (i : ℕ) (d : A) → i < n → get_or (tab n f) i d ≡ f i
  get_or_tab zero f i d h = absurd (omega arith)
  get_or_tab (suc n) f zero d h = refl
  get_or_tab (suc n) f (suc i) d h = get_or_tab n (λ k. f (suc k)) i d (omega arith)

  pub tab_same : (n : ℕ) (f g : ℕ → A) → ((i : ℕ) → i < n → f i ≡ g i) → tab n f ≡ tab n g
  tab_same zero f g h = refl
  tab_same (suc n) f g h = ap₂ ◌∷◌ (h 0 (omega arith)) (tab_same n (λ k. f (suc k)) (λ k. g (suc k)) (λ i l. h (suc i) (omega arith)))

  -- a list is given by its entries
  pub tab_replicate : (n : ℕ) (x : A) → tab n (λ _. x) ≡ replicate n x
  tab_replicate zero x = refl
  tab_replicate (suc n) x = ap (λ l. x ∷ l) (tab_replicate n x)

  -- of numbers, what `fill(x)` leaves of a list, by what it ensures
  pub tab_fill : (l : List A) (n : ℕ) (x : A) → (((y : A) → y ≡ x → y ≡ x) → l ≡ replicate n x) → l ≡ tab n (λ _. x)
  tab_fill l n x after = after (λ y e. e) ∙ sym (tab_replicate n x)

  pub tab_get_or : (l : List A) (d : A) → tab (length l) (λ i. get_or l i d) ≡ l
  tab_get_or [] d = refl
  tab_get_or (x ∷ l) d = ap (◌∷◌ x) (tab_get_or l d)

  -- one store
  pub tab_set : (n : ℕ) (f g : ℕ → A) (v : ℕ) (x : A) → v < n → g v ≡ x → ((u : ℕ) → u < n → u ≢ v → g u ≡ f u) → set (tab n f) v x ≡ tab n g
  tab_set zero f g v x h e k = absurd (omega arith)
  tab_set (suc n) f g zero x h e k =
      ap₂ ◌∷◌ (sym e) (tab_same n (λ i. f (suc i)) (λ i. g (suc i)) (λ i l. sym (k (suc i) (omega arith) (λ p. omega arith))))
  tab_set (suc n) f g (suc v) x h e k =
      ap₂ ◌∷◌ (sym (k 0 (omega arith) (λ p. omega arith)))
      (tab_set n (λ i. f (suc i)) (λ i. g (suc i)) v x (omega arith) e (λ u l p. k (suc u) (omega arith) (λ q. p (omega arith))))

  -- ---- over
  pub length_over : (n : ℕ) (f : ℕ → A) (old : List A) → n ≤ length old → length (over n f old) ≡ length old
  length_over n f old h = simp (length-append, length_tab, length-drop) (omega arith)

  pub over_in : (n : ℕ) (f : ℕ → A) (old : List A) (i : ℕ) (d : A) → i < n → get_or (over n f old) i d ≡ f i
  over_in n f old i d h = get_or-append (tab n f) (drop n old) d i (simp length_tab h) ∙ get_or_tab n f i d h

  pub over_out : (n : ℕ) (f : ℕ → A) (old : List A) (i : ℕ) (d : A) → n ≤ i → get_or (over n f old) i d ≡ get_or old i d
  over_out n f old i d h =
      ap (λ (j : ℕ). get_or (over n f old) j d) (omega (arith, length_tab n f))
      ∙ get_or-append-add (tab n f) (drop n old) (i - n) d
      ∙ get_or-drop n old (i - n) d
      ∙ ap (λ (j : ℕ). get_or old j d) (omega arith)

  -- one store at the end of what is filled
  pub over_next : (n : ℕ) (f : ℕ → A) (old : List A) (x : A) → n < length old → f n ≡ x → set (over n f old) n x ≡ over (suc n) f old
  over_next n f [] x h e = absurd (omega arith)
  over_next zero f (y ∷ old) x h e = rw e
  over_next (suc n) f (y ∷ old) x h e = ap (◌∷◌ (f 0)) (over_next n (λ k. f (suc k)) old x (omega arith) e)

  -- k stores there
  pub over_sets : (k n : ℕ) (f : ℕ → A) (old : List A) → n + k ≤ length old → sets (over n f old) n (tab k (λ i. f (n + i))) ≡ over (n + k) f old
  over_sets zero n f old h = let z : n + 0 ≡ n = omega arith in rw z
  over_sets (suc k) n f old h =
      let z : f n ≡ f (n + 0) = ap f (omega arith) in
      let m : suc n + k ≡ n + suc k = omega arith in
      ap (λ (l : List A). sets l (suc n) (tab k (λ i. f (n + suc i)))) (over_next n f old (f (n + 0)) (omega arith) z)
      ∙ ap (sets (over (suc n) f old) (suc n)) (tab_same k (λ i. f (n + suc i)) (λ i. f (suc n + i)) (λ i l. ap f (omega arith)))
      ∙ over_sets k (suc n) f old (omega arith)
      ∙ ap (λ (j : ℕ). over j f old) m

  -- three of them
  pub over_three : (n : ℕ) (f : ℕ → A) (old : List A) (x y z : A) → n + 3 ≤ length old → f n ≡ x → f (n + 1) ≡ y → f (n + 2) ≡ z
      → set (set (set (over n f old) n x) (n + 1) y) (n + 2) z ≡ over (n + 3) f old
  over_three n f old x y z h p q r =
      ap (λ (l : List A). set (set l (n + 1) y) (n + 2) z) (to n (n + 1) x (omega arith) (omega arith) p)
      ∙ ap (λ (l : List A). set l (n + 2) z) (to (n + 1) (n + 2) y (omega arith) (omega arith) q)
      ∙ to (n + 2) (n + 3) z (omega arith) (omega arith) r
    where
      to : (n m : ℕ) (x : A) → m ≡ suc n → n < length old → f n ≡ x → set (over n f old) n x ≡ over m f old
      to n m x e h p = over_next n f old x h p ∙ ap (λ (k : ℕ). over k f old) (sym e)

  -- one store among what is filled changes one entry of the function
  pub over_set : (n : ℕ) (f g : ℕ → A) (old : List A) (v : ℕ) (x : A) → v < n → g v ≡ x → ((u : ℕ) → u < n → u ≢ v → g u ≡ f u)
      → set (over n f old) v x ≡ over n g old
  over_set n f g old v x h e k =
      set-append_left (tab n f) (drop n old) v x (simp length_tab h) ∙ ap (λ (l : List A). l ++ drop n old) (tab_set n f g v x h e k)

  pub over_same : (n : ℕ) (f g : ℕ → A) (old : List A) → ((i : ℕ) → i < n → f i ≡ g i) → over n f old ≡ over n g old
  over_same n f g old h = ap (λ (l : List A). l ++ drop n old) (tab_same n f g h)

  -- what stood in the entries that are filled is of no account
  pub over_over : (n : ℕ) (f g : ℕ → A) (old : List A) → over n f (over n g old) ≡ over n f old
  over_over n f g old = ap (λ (l : List A). tab n f ++ l) (drop_at (tab n g) (drop n old) n (length_tab n g))

  -- all of it
  pub over_self : (n : ℕ) (l : List A) (d : A) → n ≤ length l → over n (λ i. get_or l i d) l ≡ l
  over_self zero l d h = refl
  over_self (suc n) [] d h = absurd (omega arith)
  over_self (suc n) (x ∷ l) d h = ap (λ k. x ∷ k) (over_self n l d (omega arith))

  pub over_whole : (n : ℕ) (f : ℕ → A) (old : List A) → length old ≤ n → over n f old ≡ tab n f
  over_whole n f old h = rw (drop_of_length-le old h) (append-nil (tab n f))

  -- over a list of equal entries
  pub over_replicate : (n m : ℕ) (f : ℕ → A) (x : A) → n ≤ m → over n f (replicate m x) ≡ tab m (λ i. cond (ltb i n) (f i) x)
  over_replicate n m f x h =
      let l = over n f (replicate m x) in
      sym (tab_get_or l x)
      ∙ ap (λ (k : ℕ). tab k (λ i. get_or l i x)) (length_over n f (replicate m x) (omega (arith, length-replicate m x)) ∙ length-replicate m x)
      ∙ tab_same m (λ i. get_or l i x) (λ i. cond (ltb i n) (f i) x) (λ i k. by i k (ltb i n) refl)
    where
      by : (i : ℕ) → i < m → (t : Bool) → ltb i n ≡ t → get_or (over n f (replicate m x)) i x ≡ cond t (f i) x
      by i k true e = over_in n f (replicate m x) i x (ltb-true i n e)
      by i k false e = over_out n f (replicate m x) i x (ltb-false i n e) ∙ get_or-replicate m i x x k

  -- ---- written
  pub over_tab : (n : ℕ) (f : ℕ → A) (old : List A) → over n f old ≡ written (tab n f) old
  over_tab n f old = rw (length_tab n f)

  pub over_all : (l old : List A) (d : A) → over (length l) (λ i. get_or l i d) old ≡ written l old
  over_all l old d = ap (λ (k : List A). k ++ drop (length l) old) (tab_get_or l d)

  pub length_written : (l old : List A) → length l ≤ length old → length (written l old) ≡ length old
  length_written l old h = simp (length-append, length-drop) (omega arith)

  pub take_written : (l old : List A) (n : ℕ) → length l ≡ n → take n (written l old) ≡ l
  take_written l old n e = take_at l (drop (length l) old) n e

  pub written_in : (l old : List A) (i : ℕ) (d : A) → i < length l → get_or (written l old) i d ≡ get_or l i d
  written_in l old i d h = get_or-append l (drop (length l) old) d i h

-- ---- entry j of a list in which k entries from n on became f's
module _ {A : Type 0} (P : A → Type 0) (d : A) (j : ℕ) where
  pub sets_at : (k n : ℕ) (f : ℕ → A) (l : List A) → n + k ≤ length l → ((i : ℕ) → i < k → j ≡ n + i → P (f i))
      → (((i : ℕ) → i < k → j ≢ n + i) → P (get_or l j d)) → P (get_or (sets l n (tab k f)) j d)
  sets_at zero n f l h new old = old (λ i m. absurd (omega arith))
  sets_at (suc k) n f l h new old =
      sets_at k (suc n) (λ i. f (suc i)) (set l n (f 0)) (omega (arith, length-set l n (f 0))) (λ i m e. new (suc i) (omega arith) (omega arith)) (λ out. by (eqb j n) refl out)
    where
      by : (t : Bool) → eqb j n ≡ t → ((i : ℕ) → i < k → j ≢ suc n + i) → P (get_or (set l n (f 0)) j d)
      by true e out =
          let z = eqb-true j n e in
          rw (z, get_or-set_same l n (f 0) d (omega arith)) (new 0 (omega arith) (omega (arith, z)))
      by false e out =
          rw (get_or-set_other l n j (f 0) d (eqb-false j n e))
          (old (λ i. elim i as (λ (i : ℕ). i < suc k → j ≢ n + i) [ zero ↦ λ m z. eqb-false j n e (omega (arith, z)) | suc i ↦ λ m z. out i (omega arith) (omega (arith, z)) ]))

-- ---- of signed numbers, which the code stores through their bits
pub over_stored : (w : Width) (n : ℕ) (f : ℕ → ℤ) (old : List ℤ) (r : ℤ) → n < length old → SFits w r → r ≡ f n
    → set (over n f old) n (to_z w (of_z w r)) ≡ over (n + 1) f old
over_stored w n f old r h k e = rw (add-one n) (over_next n f old (to_z w (of_z w r)) h (sym (to_z-of_z k ∙ e)))

-- ---- a function of each entry
pub tab_map : {A B : Type 0} (g : A → B) (l : List A) (d : A) → tab (length l) (λ i. g (get_or l i d)) ≡ map g l
tab_map g [] d = refl
tab_map g (x ∷ l) d = ap (◌∷◌ (g x)) (tab_map g l d)

pub map_tab : {A B : Type 0} (g : A → B) (n : ℕ) (f : ℕ → A) → map g (tab n f) ≡ tab n (λ i. g (f i))
map_tab g zero f = refl
map_tab g (suc n) f = ap (◌∷◌ (g (f 0))) (map_tab g n (λ i. f (suc i)))

pub over_map : {A B : Type 0} (g : A → B) (l : List A) (d : A) (old : List B) → over (length l) (λ i. g (get_or l i d)) old ≡ written (map g l) old
over_map g l d old = rw (length-map l g, tab_map g l d)

map_set : {A B : Type 0} (g : A → B) (l : List A) (i : ℕ) (x : A) → map g (set l i x) ≡ set (map g l) i (g x)
map_set g [] i x = refl
map_set g (y ∷ l) zero x = refl
map_set g (y ∷ l) (suc i) x = ap (◌∷◌ (g y)) (map_set g l i x)

-- one store more in a list of which g is known
pub over_next_map : {A B : Type 0} (g : A → B) (n : ℕ) (f : ℕ → B) (old : List B) (l : List A) (x : A) → n < length old → map g l ≡ over n f old → f n ≡ g x
    → map g (set l n x) ≡ over (suc n) f old
over_next_map {B = B} g n f old l x h so_far e = map_set g l n x ∙ ap (λ (m : List B). set m n (g x)) so_far ∙ over_next n f old (g x) h e
