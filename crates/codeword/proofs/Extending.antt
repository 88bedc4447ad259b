-- The extension of a word, an auxiliary at a time and a check at a time. Assumes nothing.
use Rattle.integers.proofs.Prelude.{◌≡◌, refl, sym, ap, ◌∙◌, List, [], ◌∷◌, ◌++◌, ℕ, zero, suc, ◌+◌, ◌*◌, ◌%◌, ◌≤◌, ◌<◌, arith, add-one, add-two, dec_lt}
use Rattle.integers.proofs.Prelude.{lt-ltb, length, get_or, take, drop, set, length-append, take-append-drop, length-take-le, take_all}
use Rattle.integers.proofs.Prelude.{take-add, drop-cons}
use Rattle.lists.specs.Tabulated.{written}
use Rattle.lists.proofs.Tabulated.{length_written, written_in, take_written}
use Rattle.lists.proofs.Parts.{written_next, written_over}
use Rattle.model.specs.Limits.{most_variables}
use Rattle.model.specs.Code.{Code, turns, triple_count, variables}
use Rattle.model.specs.Sound.{Sound, SoundCheck}
use Rattle.model.specs.Splitting.{blank, triples_of, triples_from, system_of, member}
use Rattle.model.specs.TripleRule.{items, TripleRule}
use Rattle.model.specs.Words.{bit_at}
use Rattle.model.specs.Points.{extend, point_of}
use Rattle.model.proofs.Points.{extend_made, extend_kept}
use Rattle.model.proofs.Sound.{rising_below}
use Rattle.model.proofs.TripleRule.{triples_of_long, triple_rule}
use Rattle.triples.proofs.Left.{Left, all_left, check_sound, next_most, one_less}
use Rattle.triples.proofs.Items.{length_waiting, item_bit, item_auxiliary}

extend_append : (n : ℕ) (ts rest p : List ℕ) → length ts ≡ 3 * n → extend (ts ++ rest) p ≡ extend rest (extend ts p)
unfolding extend
extend_append zero [] rest p h = refl
extend_append zero (x ∷ ts) rest p h = absurd (omega arith)
extend_append (suc n) [] rest p h = absurd (omega arith)
extend_append (suc n) (x ∷ []) rest p h = absurd (omega arith)
extend_append (suc n) (x ∷ y ∷ []) rest p h = absurd (omega arith)
extend_append (suc n) (x ∷ y ∷ z ∷ ts) rest p h = extend_append n ts rest _ (omega arith)

-- ---- one check, c, whose first auxiliary is a = length p: the point with t of its auxiliaries
abbrev pub made : List ℕ → ℕ → List ℕ → ℕ → List ℕ
made c a p t = extend (take (3 * t) (triples_of c a)) p

pub made_none : (c : List ℕ) (a : ℕ) (old : List ℕ) → length (take a old) ≡ a → old ≡ written (made c a (take a old) 0) old
unfolding extend
made_none c a old h = rw h (sym (take-append-drop a old))

module _ (c : List ℕ) (a : ℕ) (sound : SoundCheck a c) (low : a ≤ most_variables) where
  few : a + turns c < blank
  few = omega (arith, sound.most)

  rule : TripleRule c a
  rule = triple_rule a a c sound (omega arith) (omega (arith, few))

  pub item_below : (i t : ℕ) → i < length c + t → t ≤ turns c → get_or (items c a) i 0 < a + t
  item_below i t h l = by (dec_lt i (length c))
    where
      by : Dec (i < length c) → get_or (items c a) i 0 < a + t
      by (yes k) = omega (arith, item_bit c a i k, rising_below a 0 c sound.rising i k)
      by (no k) = omega (arith, item_auxiliary c a i (omega arith) (omega arith) (omega (arith, length_waiting c)))

  -- a triple more
  made_triple : (p : List ℕ) (t : ℕ) → t < triple_count c
      → made c a p (t + 1) ≡ extend (get_or (items c a) (2 * t) 0 ∷ get_or (items c a) (2 * t + 1) 0 ∷ member (triples_of c a) t 2 ∷ []) (made c a p t)
  made_triple p t h =
      let ts = triples_of c a in
      let n = 3 * t in
      let e : 3 * (t + 1) ≡ n + 3 = omega arith in
      let z : n + 0 ≡ n = omega arith in
      let d : drop n ts ≡ member ts t 0 ∷ member ts t 1 ∷ member ts t 2 ∷ drop (suc (suc (suc n))) ts
      = rw (z, add-one n, add-two n, drop-cons ts n 0 (omega (arith, rule.long)), drop-cons ts (suc n) 0 (omega (arith, rule.long)), drop-cons ts (suc (suc n)) 0 (omega (arith, rule.long))) in
      rw (e, take-add n 3 ts, d, rule.firsts t h, rule.seconds t h)
      (extend_append t (take n ts) _ p (length-take-le n ts (omega (arith, rule.long))))

  made_next : (p : List ℕ) (t : ℕ) → length (made c a p t) ≡ a + t → t < turns c
      → made c a p (t + 1) ≡ made c a p t ++ ((bit_at (made c a p t) (get_or (items c a) (2 * t) 0) + bit_at (made c a p t) (get_or (items c a) (2 * t + 1) 0)) % 2 ∷ [])
  unfolding extend
  made_next p t l h =
      let third : member (triples_of c a) t 2 ≡ a + t = rule.thirds t (omega arith) ∙ rw (lt-ltb t (turns c) h) in
      made_triple p t (omega arith) ∙ rw third (extend_made _ _ (a + t) [] (made c a p t) l)

  module _ (p : List ℕ) (begun : length p ≡ a) where
    pub made_long : (t : ℕ) → t ≤ turns c → length (made c a p t) ≡ a + t
    unfolding extend
    made_long zero h = omega arith
    made_long (suc t) h =
        let i = made_long t (omega arith) in
        rw (← add-one t, made_next p t i h, length-append (made c a p t) (_ ∷ [])) (omega arith)

    -- an auxiliary more in a list that has those before it
    pub made_set : (old point : List ℕ) (t x y v : ℕ) → a + turns c ≤ length old → t < turns c → point ≡ written (made c a p t) old
        → x ≡ get_or (items c a) (2 * t) 0 → y ≡ get_or (items c a) (2 * t + 1) 0 → v ≡ (bit_at point x + bit_at point y) % 2
        → set point (a + t) v ≡ written (made c a p (t + 1)) old
    made_set old point t x y v room h is p₁ p₂ e =
        let q = made c a p t in
        let l = made_long t (omega arith) in
        let at : (z i : ℕ) → z ≡ get_or (items c a) i 0 → i < length c + t → bit_at point z ≡ bit_at q (get_or (items c a) i 0)
        = λ z i s k. rw (is, s) (written_in q old (get_or (items c a) i 0) 0 (omega (arith, item_below i t k (omega arith)))) in
        let new : v ≡ (bit_at q (get_or (items c a) (2 * t) 0) + bit_at q (get_or (items c a) (2 * t + 1) 0)) % 2
        = e ∙ rw (at x (2 * t) p₁ (omega arith), at y (2 * t + 1) p₂ (omega arith)) in
        rw (is, made_next p t l h, ← new, ← l) (written_next q old v (omega arith))

    -- the last triple makes no auxiliary
    last_kept : member (triples_of c a) (turns c) 2 ≡ a + turns c → ⊥
    last_kept e = by (dec_lt 2 (length c))
      where
        by : Dec (2 < length c) → ⊥
        by (yes l) = omega (arith, rule.no_blank l (turns c) 2 (omega arith) (omega arith))
        by (no l) =
            let two = rule.two (omega (arith, sound.least)) in
            let at : member (triples_of c a) (turns c) 2 ≡ blank = ap (λ (l : List ℕ). member l (turns c) 2) two.2 ∙ rw two.1 in
            omega (arith, few)

    pub made_all : made c a p (turns c) ≡ extend (triples_of c a) p
    unfolding extend
    made_all =
        let n = turns c in
        let kept = extend_kept _ _ (member (triples_of c a) n 2) [] (made c a p n) (λ e. last_kept (e ∙ made_long n (omega arith))) in
        sym (ap (λ (l : List ℕ). extend l p) (sym (take_all (3 * (n + 1)) (triples_of c a) (omega (arith, rule.long)))) ∙ made_triple p n (omega arith) ∙ kept)

-- ---- check after check: the first `next` entries of the point stand in the list that was old, and the triples of the checks that are left make the others
pub record Extended (k : Code) (w old : List ℕ) (left : List (List ℕ)) (next : ℕ) (now : List ℕ) : Type 0 where
  pub left_to_do : Left k left next
  pub entries : List ℕ
  pub long : length entries ≡ next
  pub whole : extend (triples_from left next) entries ≡ point_of k w
  pub filled : now ≡ written entries old

module _ (k : Code) (s : Sound k) (w old : List ℕ) (fits : variables k ≤ length old) where
  pub word_copied : length w ≡ k.bits → (now : List ℕ) → now ≡ written w old → Extended k w old k.checks (length w) now
  unfolding system_of
  word_copied long now e = record { left_to_do = rw long (all_left k s); entries = w; long = refl; whole = rw long refl; filled = e }

  pub all_made : (next : ℕ) (now : List ℕ) → Extended k w old [] next now → now ≡ written (point_of k w) old
  unfolding triples_from extend
  all_made next now x = x.filled ∙ ap (λ (p : List ℕ). written p old) x.whole

  module _ (left : List (List ℕ)) (next : ℕ) (now : List ℕ) (x : Extended k w old left next now) where
    pub length_now : length now ≡ length old
    length_now = ap length x.filled ∙ length_written x.entries old (omega (arith, x.long, x.left_to_do.last, fits))

  pub check_made : (check : List ℕ) (left : List (List ℕ)) (next : ℕ) (now : List ℕ) → Extended k w old (check ∷ left) next now
      → (q : List ℕ) → q ≡ written (extend (triples_of check next) (take next now)) now → Extended k w old left (next + turns check) q
  unfolding triples_from
  check_made check left next now x q e =
      let sound = check_sound k s check left next x.left_to_do in
      let low = next_most k s check left next x.left_to_do in
      let p = extend (triples_of check next) x.entries in
      let taken : take next now ≡ x.entries = ap (take next) x.filled ∙ take_written x.entries old next x.long in
      let long : length p ≡ next + turns check
      = ap length (sym (made_all check next sound low x.entries x.long)) ∙ made_long check next sound low x.entries x.long (turns check) (omega arith) in
      let parted = extend_append (triple_count check) (triples_of check next) (triples_from left (next + turns check)) x.entries (triples_of_long check next sound.least) in
      record {
        left_to_do = one_less k s check left next x.left_to_do;
        entries = p;
        long = long;
        whole = sym parted ∙ x.whole;
        filled = e ∙ rw taken (ap (written p) x.filled ∙ written_over p x.entries old (omega (arith, long, x.long)));
      }
