-- The lists of a side: the largest degree, and the text of the lists. Assumes nothing.
use Rattle.integers.proofs.Prelude.{◌≡◌, refl, sym, ap, ◌∙◌, List, [], ◌∷◌, ◌++◌, append_assoc, append-nil, ℕ, zero, suc, ◌+◌, ◌-◌, ◌*◌, ◌≤◌, ◌<◌, max, arith}
use Rattle.integers.proofs.Prelude.{add-one, length, get_or, take, drop, length-append, length-take, length-take-le, length-drop, take-append-drop, take-suc}
use Rattle.integers.proofs.Prelude.{drop-cons, drop-drop}
use Rattle.lists.specs.Entries.{total, sum}
use Rattle.lists.proofs.Entries.{total_append, total_next, total_part}
use Rattle.model.specs.Alist.{largest, fill, line_of, text_of}
use Rattle.model.proofs.AlistSizes.{total_most}
use Rattle.exporter.specs.Lines.{SideLists, filled_text, lists_text, side_text}
use Rattle.exporter.proofs.Lines.{field, length_line, length_filled}

-- ---- the largest degree
pub largest_next : (l : List ℕ) (i : ℕ) → i < length l → largest (drop i l) ≡ max (get_or l i 0) (largest (drop (i + 1) l))
largest_next l i h = rw (add-one i) (ap largest (drop-cons l i 0 h))

pub largest_at : (l : List ℕ) (i : ℕ) → i < length l → get_or l i 0 ≤ largest l
largest_at [] i h = absurd (omega arith)
largest_at (d ∷ l) zero h = omega arith
largest_at (d ∷ l) (suc i) h = omega (arith, largest_at l i (omega arith))

some_degree : (l : List ℕ) → 1 ≤ largest l → 1 ≤ length l
some_degree [] h = absurd (omega arith)
some_degree (d ∷ l) h = omega arith

-- ---- the lists, one behind the other
module _ (most : ℕ) where
  lists_append : (a b entries : List ℕ) → filled_text most (a ++ b) entries ≡ filled_text most a entries ++ filled_text most b (drop (sum a) entries)
  unfolding text_of
  lists_append [] b entries = refl
  lists_append (d ∷ a) b entries =
      rw (lists_append a b (drop d entries), drop-drop (sum a) d entries)
      (sym (append_assoc (line_of (fill most (take d entries))) (filled_text most a (drop d entries)) (filled_text most b (drop (d + sum a) entries))))

  -- ---- how long
  module _ (some : 1 ≤ most) where
    pub length_lists : (degrees entries : List ℕ) → largest degrees ≤ most → length entries ≡ sum degrees
        → length (filled_text most degrees entries) ≡ total field entries + 2 * (length degrees * most - length entries)
    unfolding text_of
    length_lists [] [] h e = omega arith
    length_lists [] (x ∷ entries) h e = absurd (omega arith)
    length_lists (d ∷ degrees) entries h e =
        let long : length (take d entries) ≡ d = length-take-le d entries (omega arith) in
        let left : length (drop d entries) ≡ sum degrees = omega (arith, length-drop d entries) in
        let ih = length_lists degrees (drop d entries) (omega arith) left in
        let parts = ap (total field) (take-append-drop d entries) in
        omega (
          arith,
          length-append (line_of (fill most (take d entries))) (filled_text most degrees (drop d entries)),
          length_filled most (take d entries) some (omega arith),
          total_append field (take d entries) (drop d entries),
          total_most most degrees (omega arith),
        )

-- a side
pub length_side : (degrees entries : List ℕ) → SideLists degrees entries
    → length (side_text degrees entries) ≡ total field degrees + total field entries + 2 * (length degrees * largest degrees - length entries)
length_side degrees entries s =
    let lists = lists_text degrees entries in
    let line = length_line degrees (some_degree degrees s.some) in
    length-append (line_of degrees) lists ∙ omega (arith, length_lists (largest degrees) s.some degrees entries (omega arith) s.long)

-- ---- of a loop over the lists, at the i-th, which has d entries and begins at first: as it is lent, and what is known of it
abbrev pub lent : List ℕ → ℕ → ℕ → List ℕ
lent entries first d = take (first + d - first) (drop first entries)

pub record Listed (most : ℕ) (degrees entries : List ℕ) (i first d : ℕ) : Type 0 where
  pub ends : first + d ≡ sum (take (i + 1) degrees)
  pub inside : first + d ≤ length entries
  pub long : length (lent entries first d) ≡ d
  pub small : d ≤ largest degrees
  pub next : filled_text most (take (i + 1) degrees) entries ≡ filled_text most (take i degrees) entries ++ line_of (fill most (lent entries first d))
  -- there is room for it where there is room for all
  pub room : length (filled_text most (take i degrees) entries) + length (line_of (fill most (lent entries first d))) ≤ length (filled_text most degrees entries)

pub listed : (most : ℕ) (degrees entries : List ℕ) → length entries ≡ sum degrees → (i : ℕ) → i < length degrees → (first d : ℕ)
    → first ≡ sum (take i degrees) → d ≡ get_or degrees i 0 → Listed most degrees entries i first d
unfolding text_of
listed most degrees entries long i h first d begins degree =
    let all = total (λ (d : ℕ). d) in
    let here = take (i + 1) degrees in
    let text = filled_text most (take i degrees) entries in
    let line = line_of (fill most (lent entries first d)) in
    let one : here ≡ take i degrees ++ (get_or degrees i 0 ∷ []) = rw (add-one i) (take-suc degrees i 0 h) in
    let ends : first + d ≡ all here = rw (add-one i) (omega (arith, total_next (λ d. d) degrees i 0 h)) in
    let inside : first + d ≤ length entries = omega (arith, total_part (λ d. d) degrees (i + 1)) in
    let same : first + d - first ≡ get_or degrees i 0 = omega arith in
    let next : filled_text most here entries ≡ text ++ line
    = rw (one, lists_append most (take i degrees) (get_or degrees i 0 ∷ []) entries, same, begins) (ap (λ (s : List ℕ). text ++ s) (append-nil _)) in
    record {
      ends = ends;
      inside = inside;
      long = length-take (first + d - first) (drop first entries) ∙ omega (arith, length-drop first entries);
      small = omega (arith, largest_at degrees i h);
      next = next;
      room =
          omega (
            arith,
            ap (λ (l : List ℕ). length (filled_text most l entries)) (take-append-drop (i + 1) degrees),
            ap length (lists_append most here (drop (i + 1) degrees) entries),
            length-append (filled_text most here entries) (filled_text most (drop (i + 1) degrees) (drop (all here) entries)),
            ap length next,
            length-append text line,
          );
    }
