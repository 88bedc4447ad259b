-- Parts of a slice, as a loan gives them, and a list that is written part by part. Assumes nothing.
use Rattle.integers.proofs.Prelude.{◌≡◌, refl, sym, ap, ap₂, subst, ◌∙◌, Bool, true, false, cond, List, [], ◌∷◌, ◌++◌, append_assoc, append-nil, ℕ, zero, suc, ◌+◌, ◌-◌, ◌*◌}
use Rattle.integers.proofs.Prelude.{◌≤◌, ◌<◌, arith, dec_lt, eqb, eqb-true, eqb-false, length, take, drop, set, length-append, length-drop, length-take-le}
use Rattle.integers.proofs.Prelude.{take-append-drop, drop_of_length-le, take_all, drop-drop, take-append_seam, take_at, drop_at}
use mathlib.Core.Logic.{◌≢◌}
use native.Mathlib.Nat.{mul-le-mul_right}
use borrow.Rule.Slice.PartMut.{put_mid}
use lib.Seq.{drop-append_seam, take-append-le, drop-append-le, drop-append-add}
use Rattle.lists.specs.Tabulated.{written, part, blocks}
use Rattle.lists.proofs.Tabulated.{length_written}

module _ {A : Type 0} where
  -- `&s[k..]`
  pub part_from : (k : ℕ) (l : List A) → take (length l - k) (drop k l) ≡ drop k l
  part_from k l = take_all (length l - k) (drop k l) (omega (arith, length-drop k l))

  -- `&mut s[..n]`, which comes back as p: l is written
  pub lent_back : (n : ℕ) (l p old : List A) → p ≡ l → length p ≡ n → p ++ drop n old ≡ written l old
  lent_back n l p old e h = ap (λ (m : ℕ). p ++ drop m old) (sym h) ∙ ap (λ (q : List A). q ++ drop (length q) old) e

  -- ---- a list that grows in a lent one
  -- one entry more
  pub written_next : (l old : List A) (v : A) → length l < length old → set (written l old) (length l) v ≡ written (l ++ (v ∷ [])) old
  written_next [] [] v h = absurd (omega arith)
  written_next [] (y ∷ old) v h = refl
  written_next (x ∷ l) [] v h = absurd (omega arith)
  written_next (x ∷ l) (y ∷ old) v h = ap (◌∷◌ x) (written_next l old v (omega arith))

  -- what stood in the entries that are written is of no account
  pub written_over : (l k old : List A) → length k ≤ length l → written l (written k old) ≡ written l old
  written_over l k old h =
      let e : length k + (length l - length k) ≡ length l = omega arith in
      let d : (r : List A) → drop (length l) r ≡ drop (length l - length k) (drop (length k) r) = λ r. sym (drop-drop (length l - length k) (length k) r ∙ ap (λ (n : ℕ). drop n r) e) in
      ap (◌++◌ l) (d (written k old) ∙ ap (drop (length l - length k)) (drop-append_seam k (drop (length k) old)) ∙ sym (d old))

  -- k behind l: in a part of its own length,
  pub written_part : (l k old s : List A) → s ≡ written l old → take (length l) s ++ written k (drop (length l) s) ≡ written (l ++ k) old
  written_part l k old s e =
      rw (e, take-append_seam l (drop (length l) old), drop-append_seam l (drop (length l) old), drop-drop (length k) (length l) old, length-append l k)
      (sym (append_assoc l k (drop (length l + length k) old)))

  -- or written to all that was left of the list, which then comes back
  pub written_more : (l k q old s : List A) → s ≡ written l old → q ≡ written k (drop (length l) s)
      → take (length l) s ++ (q ++ drop (length s - length l) (drop (length l) s)) ≡ written (l ++ k) old
  written_more l k q old s e w =
      let none : drop (length s - length l) (drop (length l) s) ≡ [] = drop_of_length-le (drop (length l) s) {i = length s - length l} (omega (arith, length-drop (length l) s)) in
      rw (none, append-nil q, w) (written_part l k old s e)

  -- ---- parts of one size, one behind the other
  pub length_part : (size f : ℕ) (l : List A) → suc f * size ≤ length l → length (part size f l) ≡ size
  length_part size f l h = length-take-le size (drop (f * size) l) (omega (arith, length-drop (f * size) l))

-- ---- lists one behind the other
module _ {A : Type 0} where
  pub blocks_same : (n : ℕ) (f g : ℕ → List A) → ((i : ℕ) → i < n → f i ≡ g i) → blocks n f ≡ blocks n g
  blocks_same zero f g h = refl
  blocks_same (suc n) f g h = ap₂ ◌++◌ (h 0 (omega arith)) (blocks_same n (λ i. f (suc i)) (λ i. g (suc i)) (λ i l. h (suc i) (omega arith)))

  -- one more
  pub blocks_next : (n : ℕ) (f : ℕ → List A) → blocks (suc n) f ≡ blocks n f ++ f n
  blocks_next zero f = append-nil (f 0)
  blocks_next (suc n) f = ap (◌++◌ (f 0)) (blocks_next n (λ i. f (suc i))) ∙ sym (append_assoc (f 0) (blocks n (λ i. f (suc i))) (f (suc n)))

-- part f of n ends where they end, or before
pub part_end : (size n f : ℕ) → f < n → suc f * size ≤ n * size
part_end size n f h = mul-le-mul_right {m = suc f} {n = n} size h

-- all of one size
module _ {A : Type 0} (size : ℕ) where
  abbrev pub Sized : ℕ → (ℕ → List A) → Type 0
  Sized n new = (i : ℕ) → i < n → length (new i) ≡ size

  pub length_blocks : (n : ℕ) (new : ℕ → List A) → Sized n new → length (blocks n new) ≡ n * size
  length_blocks zero new h = omega arith
  length_blocks (suc n) new h =
      length-append (new 0) (blocks n (λ i. new (suc i))) ∙ omega (arith, h 0 (omega arith), length_blocks n (λ i. new (suc i)) (λ i l. h (suc i) (omega arith)))

  -- part f is f's, whatever lies behind
  pub part_blocks : (n f : ℕ) (new : ℕ → List A) (rest : List A) → Sized n new → f < n → part size f (blocks n new ++ rest) ≡ new f
  part_blocks zero f new rest h l = absurd (omega arith)
  part_blocks (suc n) zero new rest h l =
      let none : 0 * size ≡ 0 = omega arith in
      rw (none, append_assoc (new 0) (blocks n (λ i. new (suc i))) rest) (take_at (new 0) (blocks n (λ i. new (suc i)) ++ rest) size (h 0 (omega arith)))
  part_blocks (suc n) (suc f) new rest h l =
      let more = blocks n (λ i. new (suc i)) in
      let past : suc f * size ≡ length (new 0) + f * size = omega (arith, h 0 (omega arith)) in
      rw (past, append_assoc (new 0) more rest, drop-append-add (new 0) (more ++ rest) (f * size))
      (part_blocks n f (λ i. new (suc i)) rest (λ i l. h (suc i) (omega arith)) (omega arith))

  -- the parts of a list, and what lies behind them, are the list
  pub parts_whole : (n : ℕ) (l : List A) → blocks n (λ i. part size i l) ++ drop (n * size) l ≡ l
  parts_whole zero l = let none : 0 * size ≡ 0 = omega arith in rw none
  parts_whole (suc n) l =
      let past : suc n * size ≡ n * size + size = omega arith in
      let rest = drop (n * size) l in
      ap₂ ◌++◌ (blocks_next n (λ i. part size i l)) (ap (λ (m : ℕ). drop m l) past ∙ sym (drop-drop size (n * size) l))
      ∙ append_assoc (blocks n (λ i. part size i l)) (take size rest) (drop size rest)
      ∙ ap (◌++◌ (blocks n (λ i. part size i l))) (take-append-drop size rest)
      ∙ parts_whole n l

  -- the first n parts do not change with what lies behind them,
  pub part_front : (n f : ℕ) (l r : List A) → n * size ≤ length l → f < n → part size f (l ++ r) ≡ part size f l
  part_front n f l r room h =
      let end = part_end size n f h in
      ap (take size) (drop-append-le (f * size) l r (omega (arith, end))) ∙ take-append-le size (drop (f * size) l) r (omega (arith, length-drop (f * size) l, end))

  -- nor where that is left out
  pub part_take : (n f : ℕ) (l : List A) → n * size ≤ length l → f < n → part size f (take (n * size) l) ≡ part size f l
  part_take n f l room h =
      sym (part_front n f (take (n * size) l) (drop (n * size) l) (omega (arith, length-take-le (n * size) l room)) h) ∙ ap (part size f) (take-append-drop (n * size) l)

  -- lists that agree behind n parts agree behind more of them, and have the same parts there
  pub behind_more : (n i : ℕ) (l m : List A) → n ≤ i → drop (n * size) l ≡ drop (n * size) m → drop (i * size) l ≡ drop (i * size) m
  behind_more n i l m h e =
      let past : n * size + (i * size - n * size) ≡ i * size = omega (arith, mul-le-mul_right {m = n} {n = i} size h) in
      let rest : (k : List A) → drop (i * size) k ≡ drop (i * size - n * size) (drop (n * size) k)
      = λ k. sym (drop-drop (i * size - n * size) (n * size) k ∙ ap (λ (j : ℕ). drop j k) past) in
      rest l ∙ ap (drop (i * size - n * size)) e ∙ sym (rest m)

  pub later_part : (n i : ℕ) (l m : List A) → n ≤ i → drop (n * size) l ≡ drop (n * size) m → part size i l ≡ part size i m
  later_part n i l m h e = ap (take size) (behind_more n i l m h e)

  -- ---- a lent list that n of them were written to
  module _ (n : ℕ) (new : ℕ → List A) (old : List A) (sized : Sized n new) where
    pub part_written : (f : ℕ) → f < n → part size f (written (blocks n new) old) ≡ new f
    part_written f l = part_blocks n f new (drop (length (blocks n new)) old) sized l

    pub behind_written : drop (n * size) (written (blocks n new) old) ≡ drop (n * size) old
    behind_written = let long = length_blocks n new sized in drop_at (blocks n new) _ (n * size) long ∙ ap (λ (m : ℕ). drop m old) long

    -- which is known by its parts, and by what lies behind them
    pub written_blocks : (l : List A) → ((i : ℕ) → i < n → part size i l ≡ new i) → drop (n * size) l ≡ drop (n * size) old → l ≡ written (blocks n new) old
    written_blocks l parts behind =
        sym (parts_whole n l)
        ∙ ap₂ ◌++◌ (blocks_same n (λ i. part size i l) new parts) (behind ∙ ap (λ (m : ℕ). drop m old) (sym (length_blocks n new sized)))

  -- ---- part f becomes x
  abbrev pub replaced : ℕ → List A → List A → List A
  replaced f x l = take (f * size) l ++ (x ++ drop (f * size + size) l)

  -- as a loan of so many entries comes back
  pub part_back : (f m : ℕ) (x l : List A) → m ≡ size → put_mid (f * size) m l x ≡ replaced f x l
  part_back f m x l e = ap (λ (r : List A). take (f * size) l ++ (x ++ r)) (drop-drop m (f * size) l ∙ ap (λ (k : ℕ). drop (f * size + k) l) e)

  module _ (f : ℕ) (x l : List A) (room : suc f * size ≤ length l) (long : length x ≡ size) where
    front : length (take (f * size) l) ≡ f * size
    front = length-take-le (f * size) l (omega arith)

    replaced_after : drop (suc f * size) (replaced f x l) ≡ drop (suc f * size) l
    replaced_after =
        let past : f * size + size ≡ suc f * size = omega arith in
        ap (drop (suc f * size)) (sym (append_assoc (take (f * size) l) x (drop (f * size + size) l)))
        ∙ drop_at (take (f * size) l ++ x) (drop (f * size + size) l) (suc f * size) (omega (arith, length-append (take (f * size) l) x, front, long))
        ∙ ap (λ (m : ℕ). drop m l) past

    pub length_replaced : length (replaced f x l) ≡ length l
    length_replaced =
        omega (arith, length-append (take (f * size) l) (x ++ drop (f * size + size) l), length-append x (drop (f * size + size) l), length-drop (f * size + size) l, front, long, room)

    pub replaced_here : part size f (replaced f x l) ≡ x
    replaced_here =
        ap (take size) (drop_at (take (f * size) l) (x ++ drop (f * size + size) l) (f * size) front) ∙ take_at x (drop (f * size + size) l) size long

    -- the others stay
    pub replaced_other : (i : ℕ) → i ≢ f → part size i (replaced f x l) ≡ part size i l
    replaced_other i h = by (dec_lt i f)
      where
        by : Dec (i < f) → part size i (replaced f x l) ≡ part size i l
        by (yes less) = part_front f i (take (f * size) l) (x ++ drop (f * size + size) l) (omega (arith, front)) less ∙ part_take f i l (omega arith) less
        by (no more) = let past : (i ≡ f → ⊥) → suc f ≤ i = λ h. omega arith in later_part (suc f) i (replaced f x l) l (past h) replaced_after

    pub replaced_part : (i : ℕ) → part size i (replaced f x l) ≡ cond (eqb i f) x (part size i l)
    replaced_part i = by (eqb i f) refl
      where
        by : (t : Bool) → eqb i f ≡ t → part size i (replaced f x l) ≡ cond t x (part size i l)
        by true e = ap (λ (j : ℕ). part size j (replaced f x l)) (eqb-true i f e) ∙ replaced_here
        by false e = replaced_other i (eqb-false i f e)

    pub replaced_behind : (n : ℕ) → f < n → drop (n * size) (replaced f x l) ≡ drop (n * size) l
    replaced_behind n h = behind_more (suc f) n (replaced f x l) l h replaced_after

  -- the store of a loop over parts: of a list that n lists were written to, part f becomes x,
  module _ (n f : ℕ) (new next : ℕ → List A) (old x : List A) (sized : Sized n new) (room : n * size ≤ length old) (h : f < n) (long : length x ≡ size)
      (here : next f ≡ x) (others : (i : ℕ) → i < n → i ≢ f → next i ≡ new i) where
    each : (P : ℕ → List A → Type 0) → P f x → ((i : ℕ) → i < n → i ≢ f → P i (new i)) → (i : ℕ) → i < n → P i (next i)
    each P p q i l = by (eqb i f) refl
      where
        by : (t : Bool) → eqb i f ≡ t → P i (next i)
        by true e = subst (λ (j : ℕ). P j (next j)) (sym (eqb-true i f e)) (subst (P f) (sym here) p)
        by false e = let differs = eqb-false i f e in subst (P i) (sym (others i l differs)) (q i l differs)

    pub replaced_blocks : replaced f x (written (blocks n new) old) ≡ written (blocks n next) old
    replaced_blocks =
        let l = written (blocks n new) old in
        let all : suc f * size ≤ length l
        = omega (arith, part_end size n f h, length_written (blocks n new) old (omega (arith, length_blocks n new sized)), room) in
        written_blocks n next old (each (λ i y. length y ≡ size) long (λ i less _. sized i less)) (replaced f x l)
        (each (λ i y. part size i (replaced f x l) ≡ y) (replaced_here f x l all long)
        (λ i less differs. replaced_other f x l all long i differs ∙ part_written n new old sized i less))
        (replaced_behind f x l all long n h ∙ behind_written n new old sized)

  -- or, of one that f lists were written to, the next is written
  pub next_block : (f : ℕ) (new : ℕ → List A) (old : List A) → Sized (suc f) new
      → replaced f (new f) (written (blocks f new) old) ≡ written (blocks (suc f) new) old
  next_block f new old sized =
      let l = blocks f new in
      let s = written l old in
      let long = length_blocks f new (λ i h. sized i (omega arith)) in
      let past : length l + length (new f) ≡ f * size + size = omega (arith, sized f (omega arith)) in
      ap₂ ◌++◌ (ap (λ (m : ℕ). take m s) (sym long)) (ap (◌++◌ (new f)) (sym (drop-drop (length (new f)) (length l) s ∙ ap (λ (m : ℕ). drop m s) past)))
      ∙ written_part l (new f) old s refl
      ∙ ap (λ (k : List A). written k old) (sym (blocks_next f new))
