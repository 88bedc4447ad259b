-- Numbers that are well formed are those of a file with the columns and rows that they name. Assumes nothing.
use Rattle.integers.proofs.Prelude.{◌≡◌, refl, sym, ap, ap₂, subst, ◌∙◌, true, ◌&&◌, List, [], ◌∷◌, ◌++◌, map, append_assoc, append-nil, ℕ, zero, suc, ◌+◌, ◌-◌}
use Rattle.integers.proofs.Prelude.{◌*◌, ◌≤◌, arith, eqb-true, T, eqb, ltb, leb, length, get_or, take, drop, length-map, length-drop, take-append-drop}
use Rattle.integers.proofs.Prelude.{drop_of_length-le, length-take-le, drop-drop}
use lib.ListN.{replicate}
use Rattle.lists.specs.Entries.{every}
use Rattle.lists.proofs.Tests.{and_left, and_right}
use Rattle.model.specs.Limits.{most_number}
use Rattle.model.specs.Alist.{largest, pieces, filled, all_filled, sound_side, listed, named, columns, rows, number_count, well_formed}
use Rattle.model.specs.Alist.{fill, largest_of, lines_of}
use Rattle.model.specs.AlistClaims.{joined}
use Rattle.model.proofs.AlistForm.{file_joined}

-- ---- one list
zeros_back : (l : List ℕ) → filled 0 l ≡ true → replicate (length l) 0 ≡ l
zeros_back [] h = refl
zeros_back (x ∷ l) h = ap₂ ◌∷◌ (sym (eqb-true x 0 (and_left (eqb x 0) (filled 0 l) h))) (zeros_back l (and_right (eqb x 0) (filled 0 l) h))

-- its degree's count of indices and then zeros
record FilledList (d : ℕ) (l : List ℕ) : Type 0 where
  long : length (take d l) ≡ d
  above : every (ltb 0) (take d l) ≡ true
  whole : take d l ++ replicate (length l - d) 0 ≡ l

filled_back : (d : ℕ) (l : List ℕ) → filled d l ≡ true → FilledList d l
filled_back zero l h = let z : length l - 0 ≡ length l = omega arith in record { long = refl; above = refl; whole = rw z (zeros_back l h) }
filled_back (suc d) [] h = absurd (subst T (sym h) tt)
filled_back (suc d) (x ∷ l) h =
    let ih = filled_back d l (and_right (ltb 0 x) (filled d l) h) in
    let z : suc (length l) - suc d ≡ length l - d = omega arith in
    record { long = ap suc ih.long; above = rw (and_left (ltb 0 x) (filled d l) h) ih.above; whole = rw z (ap (◌∷◌ x) ih.whole) }

fill_back : (size d : ℕ) (l : List ℕ) → length l ≡ size → FilledList d l → fill size (take d l) ≡ l
fill_back size d l e f = rw (f.long, ← e) f.whole

-- ---- the lists of a side, with what follows them
record FilledLists (size : ℕ) (ds : List ℕ) (ls : List (List ℕ)) (l : List ℕ) : Type 0 where
  degrees : map length ls ≡ ds
  above : every (every (ltb 0)) ls ≡ true
  whole : joined (map (fill size) ls) ++ drop (length ds * size) l ≡ l

lists_back : (size : ℕ) (ds l : List ℕ) → length ds * size ≤ length l → all_filled ds (pieces (length ds) size l) ≡ true
    → FilledLists size ds (listed ds (pieces (length ds) size l)) l
lists_back size [] l h k = let z : 0 * size ≡ 0 = omega arith in record { degrees = refl; above = refl; whole = rw z }
lists_back size (d ∷ ds) l h k =
    let p = take size l in
    let s = drop size l in
    let n = length ds in
    let test = filled d p in
    let tests = all_filled ds (pieces n size s) in
    let e : suc n * size ≡ size + n * size = omega arith in
    let one = filled_back d p (and_left test tests k) in
    let room : n * size ≤ length s = omega (arith, length-drop size l) in
    let ih = lists_back size ds s room (and_right test tests k) in
    let same : fill size (take d p) ≡ p = fill_back size d p (length-take-le size l (omega arith)) one in
    let more = joined (map (fill size) (listed ds (pieces n size s))) in
    record {
      degrees = ap₂ ◌∷◌ one.long ih.degrees;
      above = rw one.above ih.above;
      whole =
          append_assoc (fill size (take d p)) more (drop (suc n * size) l)
          ∙ ap₂ ◌++◌ same (ap (λ (i : ℕ). more ++ drop i l) e ∙ ap (◌++◌ more) (sym (drop-drop (n * size) size l)) ∙ ih.whole)
          ∙ take-append-drop size l;
    }

-- ---- all numbers
pub record Formed (l : List ℕ) : Type 0 where
  pub small : every (λ x. leb x most_number) l ≡ true
  pub count : length l ≡ number_count l
  pub lines : l ≡ joined (lines_of (named (columns l)) (named (rows l)))
  pub column_indices : every (every (ltb 0)) (named (columns l)) ≡ true
  pub row_indices : every (every (ltb 0)) (named (rows l)) ≡ true
  pub degrees_of_columns : map length (named (columns l)) ≡ (columns l).degrees
  pub degrees_of_rows : map length (named (rows l)) ≡ (rows l).degrees
  pub column_count : length (named (columns l)) ≡ get_or l 0 0
  pub row_count : length (named (rows l)) ≡ get_or l 1 0
  pub column_most : largest_of (named (columns l)) ≡ get_or l 2 0
  pub row_most : largest_of (named (rows l)) ≡ get_or l 3 0

-- one side: count degrees ds, and lists in l
record FormedSide (count size : ℕ) (ds l : List ℕ) (ls : List (List ℕ)) : Type 0 where
  degrees : map length ls ≡ ds
  above : every (every (ltb 0)) ls ≡ true
  whole : joined (map (fill (largest_of ls)) ls) ++ drop (count * size) l ≡ l
  long : length ls ≡ count
  most : largest_of ls ≡ size

side_back : (count size : ℕ) (ds l : List ℕ) → length ds ≡ count → count * size ≤ length l
    → (eqb size (largest ds) && all_filled ds (pieces count size l)) ≡ true → FormedSide count size ds l (listed ds (pieces count size l))
side_back count size ds l e h k =
    let most : size ≡ largest ds = eqb-true size (largest ds) (and_left (eqb size (largest ds)) (all_filled ds (pieces count size l)) k) in
    let all : all_filled ds (pieces count size l) ≡ true = and_right (eqb size (largest ds)) (all_filled ds (pieces count size l)) k in
    let f : FilledLists size ds (listed ds (pieces count size l)) l
    = subst (λ (n : ℕ). FilledLists size ds (listed ds (pieces n size l)) l) e (lists_back size ds l (rw e h) (rw e all)) in
    let ls = listed ds (pieces count size l) in
    let top : largest_of ls ≡ size = ap largest f.degrees ∙ sym most in
    record {
      degrees = f.degrees;
      above = f.above;
      whole =
          ap (λ (c : ℕ). joined (map (fill c) ls) ++ drop (count * size) l) top
          ∙ ap (λ (c : ℕ). joined (map (fill size) ls) ++ drop (c * size) l) (sym e) ∙ f.whole;
      long = sym (length-map ls length) ∙ ap length f.degrees ∙ e;
      most = top;
    }

same : {a b c d a' b' c' d' : ℕ} {l l' : List ℕ} → a ≡ a' → b ≡ b' → c ≡ c' → d ≡ d' → l ≡ l' → a ∷ b ∷ c ∷ d ∷ l ≡ a' ∷ b' ∷ c' ∷ d' ∷ l'
same e f g h k = cc

module _ (n m C R : ℕ) (t : List ℕ) (count : length t ≡ n + (m + (n * C + m * R))) where
  abbrev all : List ℕ
  all = n ∷ m ∷ C ∷ R ∷ t

  formed : every (λ x. leb x most_number) all ≡ true → sound_side (columns all) ≡ true → sound_side (rows all) ≡ true → Formed all
  formed h p q =
      let t1 = drop n t in
      let t2 = drop m t1 in
      let t3 = drop (n * C) t2 in
      let l1 = length-drop n t in
      let l2 = length-drop m t1 in
      let l3 = length-drop (n * C) t2 in
      let cs = named (columns all) in
      let rs = named (rows all) in
      let c : FormedSide n C (take n t) t2 cs = side_back n C (take n t) t2 (length-take-le n t (omega arith)) (omega arith) p in
      let r : FormedSide m R (take m t1) t3 rs = side_back m R (take m t1) t3 (length-take-le m t1 (omega arith)) (omega arith) q in
      let lists : joined (map (fill (largest_of cs)) cs) ++ joined (map (fill (largest_of rs)) rs) ≡ t2
      = ap (◌++◌ (joined (map (fill (largest_of cs)) cs))) (sym (append-nil (joined (map (fill (largest_of rs)) rs)))
      ∙ ap (◌++◌ (joined (map (fill (largest_of rs)) rs))) (sym (drop_of_length-le t3 {i = m * R} (omega arith))) ∙ r.whole) ∙ c.whole in
      let tail : map length cs ++ (map length rs ++ (joined (map (fill (largest_of cs)) cs) ++ joined (map (fill (largest_of rs)) rs))) ≡ t
      = ap₂ ◌++◌ c.degrees (ap₂ ◌++◌ r.degrees lists ∙ take-append-drop m t1) ∙ take-append-drop n t in
      record {
        small = h;
        count = ap (λ (i : ℕ). suc (suc (suc (suc i)))) count ∙ omega arith;
        lines = sym (file_joined cs rs ∙ same c.long r.long c.most r.most tail);
        column_indices = c.above;
        row_indices = r.above;
        degrees_of_columns = c.degrees;
        degrees_of_rows = r.degrees;
        column_count = c.long;
        row_count = r.long;
        column_most = c.most;
        row_most = r.most;
      }

numbers_back : (l : List ℕ) → every (λ x. leb x most_number) l ≡ true → length l ≡ number_count l → sound_side (columns l) ≡ true → sound_side (rows l) ≡ true
    → Formed l
numbers_back [] h c p q = absurd (omega arith)
numbers_back (n ∷ []) h c p q = absurd (omega arith)
numbers_back (n ∷ m ∷ []) h c p q = absurd (omega arith)
numbers_back (n ∷ m ∷ C ∷ []) h c p q = absurd (omega arith)
numbers_back (n ∷ m ∷ C ∷ R ∷ t) h c p q = formed n m C R t (omega arith) h p q

pub form_parts : (l : List ℕ) → well_formed l ≡ true
    → (every (λ x. leb x most_number) l ≡ true) × (length l ≡ number_count l) × (sound_side (columns l) ≡ true) × (sound_side (rows l) ≡ true)
unfolding well_formed
form_parts l h =
    let small = every (λ x. leb x most_number) l in
    let sides = sound_side (columns l) && sound_side (rows l) in
    let count = eqb (length l) (number_count l) in
    let k : (count && sides) ≡ true = and_right small (count && sides) h in
    let s : sides ≡ true = and_right count sides k in (
      and_left small (count && sides) h,
      eqb-true (length l) (number_count l) (and_left count sides k),
      and_left (sound_side (columns l)) (sound_side (rows l)) s,
      and_right (sound_side (columns l)) (sound_side (rows l)) s,
    )

pub form_back : (l : List ℕ) → well_formed l ≡ true → Formed l
form_back l h = let p = form_parts l h in numbers_back l p.0 p.1 p.2 p.3
