-- `sums::share_four` meets its contract. Assumes nothing.
use Rattle.integers.proofs.Prelude.{◌≡◌, refl, ap, ◌∙◌, List, [], ◌∷◌, ℕ, ◌+◌, ◌*◌, ◌≤◌, ◌<◌, arith, ℤ, nat_abs, get_or, sets, w32, to_z, of_z}
use Rattle.lists.specs.Tabulated.{tab}
use Rattle.lists.proofs.Tabulated.{get_or_tab}
use Rattle.model.specs.Limits.{most_row}
use Rattle.model.specs.Iteration.{at, share}
use Rattle.model.proofs.Rows.{at_tab}
use Rattle.rows.proofs.Four.{four_are}
use Rattle.layout.specs.Transposed.{lane, straight}
use Rattle.sums.specs.Shares.{InFours}
use Rattle.model.proofs.Bounds.{share_small}
use Rattle.sums.proofs.Sums.{reached}
use Rattle.sums.proofs.Groups.{formed, read_formed, lane_share, four_small, shared_next}
use Rattle.sums.proofs.share_four.Goals as asked
use Rattle.sums.proofs.share_four.Goals.{Start, After-load_four-s, After-shares-h, After-store-arg-5-1, After-store, After-store-arg-10-1, After-store-2, After-store-arg-15-1}

abbrev rs : Start → List ℤ
rs s = s.args.rows.now

-- the first triple of the four
abbrev t : Start → ℕ
t s = s.args.t + 4 * s.args.b

pub load_four-s-requires : asked.load_four-s-requires
load_four-s-requires c = (omega (arith, c.requires.in_lists.0), omega (arith, c.requires.in_lists.1), λ i _. reached (rs c) c.requires.in_lists.2 i)

-- ---- the shares
-- the rows of triple k of the four
lane_is : (c : After-load_four-s) (k : ℕ) → k < 4 → get_or c.load_four-s.result k [] ≡ lane (rs (asked.at.After-load_four-s c).Start) (t (asked.at.After-load_four-s c).Start) k
lane_is c k h = ap (λ (q : List (List ℤ)). get_or q k []) c.load_four-s.ensures ∙ get_or_tab 4 (lane (rs (asked.at.After-load_four-s c).Start) (t (asked.at.After-load_four-s c).Start)) k [] h

small : (c : After-load_four-s) (k : ℕ) → k < 4 → (r : ℕ) → nat_abs (at (get_or c.load_four-s.result k []) r) ≤ most_row
small c k h = four_small (rs (asked.at.After-load_four-s c).Start) c.requires.in_lists.2 (λ r. 4 * (t (asked.at.After-load_four-s c).Start + r) + k) _ (lane_is c k h)

abbrev loaded : After-shares-h → After-load_four-s
loaded c = (asked.at.After-shares-h c).After-load_four-s

abbrev start : After-shares-h → Start
start c = (asked.at.After-load_four-s (loaded c)).Start

abbrev goal : After-shares-h → ℕ → ℕ → ℤ
goal c p k = share (lane (rs (start c)) (t (start c)) k) 0 p

-- those at position p, as they are read
four : After-shares-h → ℕ → List ℤ
four c p =
    let of : List ℤ → ℤ = λ x. to_z w32 (of_z w32 (at x p)) in
    of c.shares-e.result ∷ of c.shares-f.result ∷ of c.shares-g.result ∷ of c.shares-h.result ∷ []

four_is : (c : After-shares-h) (p : ℕ) → p < 3 → four c p ≡ tab 4 (goal c p)
unfolding four
four_is c p h =
    let l = loaded c in
    let read : (k : ℕ) (x : List ℤ) → k < 4 → x ≡ formed (get_or l.load_four-s.result k []) → to_z w32 (of_z w32 (at x p)) ≡ goal c p k
    = λ k x m e. read_formed (get_or l.load_four-s.result k []) x p (small l k m) h e ∙ ap (λ (q : List ℤ). share q 0 p) (lane_is l k m) in
    four_are (goal c p) _ _ _ _
    (read 0 _ (omega arith) c.shares-e.ensures)
    (read 1 _ (omega arith) c.shares-f.ensures)
    (read 2 _ (omega arith) c.shares-g.ensures)
    (read 3 _ (omega arith) c.shares-h.ensures)

-- what `store` asks of them
stores : (c : After-shares-h) (p : ℕ) → p < 3 → (r : ℕ) → nat_abs (at (four c p) r) ≤ 4 * most_row
stores c p h r =
    let s = start c in
    rw (four_is c p h) (at_tab (λ z. nat_abs z ≤ 4 * most_row) 4 (goal c p) r
    (λ _. share_small (lane (rs s) (t s) r) 0 p h (λ i. four_small (rs s) s.requires.in_lists.2 (λ i. 4 * (t s + i) + r) _ refl (4 * 0 + i))) (omega arith))

abbrev first : After-store-arg-5-1 → After-shares-h
first c = (asked.at.After-store-arg-5-1 c).After-shares-h

pub store-requires : asked.store-requires
unfolding four
store-requires c = let s = start (first c) in record { in_lists = (omega (arith, s.requires.in_shares), omega (arith, s.requires.in_shares)); bounded = stores (first c) 0 (omega arith) }

abbrev second : After-store-arg-10-1 → After-store
second c = (asked.at.After-store-arg-10-1 c).After-store

pub store-requires-2 : asked.store-requires-2
unfolding four
store-requires-2 c =
    let x = second c in
    let s = start (first (asked.at.After-store x).After-store-arg-5-1) in
    record { in_lists = (omega (arith, s.requires.in_shares), omega (arith, s.requires.in_shares, x.store.auto.rows)); bounded = stores (first (asked.at.After-store x).After-store-arg-5-1) 1 (omega arith) }

abbrev third : After-store-arg-15-1 → After-store-2
third c = (asked.at.After-store-arg-15-1 c).After-store-2

pub store-requires-3 : asked.store-requires-3
unfolding four
store-requires-3 c =
    let y = third c in
    let x = second (asked.at.After-store-2 y).After-store-arg-10-1 in
    let s = start (first (asked.at.After-store x).After-store-arg-5-1) in
    record { in_lists = (omega (arith, s.requires.in_shares), omega (arith, s.requires.in_shares, x.store.auto.rows, y.store-2.auto.rows)); bounded = stores (first (asked.at.After-store x).After-store-arg-5-1) 2 (omega arith) }

-- ---- each in its place
shared : (s : Start) (T : ℕ) → InFours T s.args.t (4 * (s.args.b + 1)) → (p k : ℕ) → k < 4
    → share (lane (rs s) (t s) k) 0 p ≡ share (straight T (rs s)) (s.args.t + (4 * s.args.b + k)) p
shared s T f p k h =
    let e : t s + k ≡ s.args.t + (4 * s.args.b + k) = omega arith in
    lane_share T (rs s) (t s) k p (record { first = omega (arith, f.first); whole = omega (arith, f.whole, f.room); room = omega (arith, f.room) }) h
    ∙ ap (λ (u : ℕ). share (straight T (rs s)) u p) e

pub returns : asked.returns
unfolding four
returns c T f g =
    let y = third (asked.at.returns c).After-store-arg-15-1 in
    let x = second (asked.at.After-store-2 y).After-store-arg-10-1 in
    let e = first (asked.at.After-store x).After-store-arg-5-1 in
    let s = start e in
    shared_next (straight T (rs s)) s.args.t s.args.b (goal e) s.requires.in_shares.0 (λ p k _ h. shared s T f p k h) s.args.shares.now _ _ _ s.requires.in_shares.1 g
    (x.store.ensures ∙ ap (sets s.args.shares.now (4 * s.args.b)) (four_is e 0 (omega arith)))
    (y.store-2.ensures ∙ ap (sets x.store.new.rows (4 * (8 + s.args.b))) (four_is e 1 (omega arith)))
    (c.store-3.ensures ∙ ap (sets y.store-2.new.rows (4 * (16 + s.args.b))) (four_is e 2 (omega arith)))

pub shares-e-requires : asked.shares-e-requires
shares-e-requires c = small (asked.at.shares-e-requires c).After-load_four-s 0 (omega arith)

pub shares-f-requires : asked.shares-f-requires
shares-f-requires c = small (asked.at.shares-f-requires c).After-load_four-s 1 (omega arith)

pub shares-g-requires : asked.shares-g-requires
shares-g-requires c = small (asked.at.shares-g-requires c).After-load_four-s 2 (omega arith)

pub shares-h-requires : asked.shares-h-requires
shares-h-requires c = small (asked.at.shares-h-requires c).After-load_four-s 3 (omega arith)
