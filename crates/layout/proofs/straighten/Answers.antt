-- `layout::straighten` meets its contract: the rows of the triples before t are straight. Assumes nothing.
use Rattle.integers.proofs.Prelude.{◌≡◌, sym, ap, ◌∙◌, List, ℕ, ◌+◌, ◌*◌, ◌%◌, ◌≤◌, arith, rules, ℤ, pos, length}
use Rattle.lists.specs.Tabulated.{over}
use Rattle.lists.proofs.Tabulated.{tab_same, length_over, over_out, over_same, over_self, over_whole}
use Rattle.model.specs.Iteration.{at, row}
use Rattle.layout.specs.Transposed.{cell, stored, place, straight}
use Rattle.layout.proofs.Arranged.{arranged_at}
use Rattle.layout.proofs.Places.{fours_are, cell_is, four_more, straight_first, straight_four}
use Rattle.layout.proofs.straighten.Goals as asked
use Rattle.layout.proofs.straighten.Goals.{Start, At-loop-t, In-loop-t, After-store_four}

pub loop-t-init : asked.loop-t-init
loop-t-init c =
    let n = c.args.count in
    let s = c.args.rows.now in
    ((omega arith, omega arith), sym (over_same (4 * (n % 4)) (at (straight n s)) (at s) s (straight_first n s) ∙ over_self (4 * (n % 4)) s (pos 0) (omega (arith, c.requires.1))))

abbrev at_loop : After-store_four → At-loop-t
at_loop c = (asked.at.After-store_four c).At-loop-t

-- ---- in the loop
abbrev start : At-loop-t → Start
start l = (asked.at.At-loop-t l).Start

abbrev ss : At-loop-t → List ℤ
ss l = (start l).args.rows.now

abbrev goal : At-loop-t → ℕ → ℤ
goal l = at (straight (start l).args.count (ss l))

long : (l : At-loop-t) → length l.loop-t.rows ≡ 4 * (start l).args.count
long l = ap length l.loop-t.invariant.1 ∙ length_over (4 * l.loop-t.t) (goal l) (ss l) (omega (arith, (start l).requires.1, l.loop-t.invariant.0)) ∙ sym (start l).requires.1

-- from t on the entries are as they were
kept : (l : At-loop-t) (i : ℕ) → 4 * l.loop-t.t ≤ i → at l.loop-t.rows i ≡ at (ss l) i
kept l i h = ap (λ (s : List ℤ). at s i) l.loop-t.invariant.1 ∙ over_out (4 * l.loop-t.t) (goal l) (ss l) i (pos 0) h

-- four triples more are there
room : (c : In-loop-t) → c.loop-t.t + 4 ≤ (start (asked.at.In-loop-t c).At-loop-t).args.count
room c = omega (arith, c.loop-t.invariant.0, c.loop-t-test.true)

pub load_all-q-requires : asked.load_all-q-requires
load_all-q-requires c = (omega (arith, (start (asked.at.load_all-q-requires c).At-loop-t).requires.0, room c), omega (arith, long (asked.at.load_all-q-requires c).At-loop-t, room c))

pub store_four-requires : asked.store_four-requires
store_four-requires c =
    let h = room (asked.at.store_four-requires c).In-loop-t in
    let t = c.loop-t.t in (
      omega (arith, (start (asked.at.store_four-requires c).At-loop-t).requires.0, h),
      omega (arith, long (asked.at.store_four-requires c).At-loop-t, h),
      rw c.load_all-q.ensures (fours_are (λ k j. row c.loop-t.rows (t + k) j) (λ k j _ _. rw (kept (asked.at.store_four-requires c).At-loop-t (4 * (t + k) + j) (omega arith)) ((start (asked.at.store_four-requires c).At-loop-t).requires.2 (4 * (t + k) + j)))),
    )

-- those four are straight too
next : (c : After-store_four) → c.store_four.new.rows ≡ over (4 * (c.loop-t.t + 4)) (at (straight c.args.count c.args.rows.now)) c.args.rows.now
next c =
    let n = c.args.count in
    let l = at_loop c in
    let t = c.loop-t.t in
    let h = room (asked.at.After-store_four c).In-loop-t in
    c.store_four.ensures
    ∙ ap (λ (s : List ℤ). stored s t c.load_all-q.result) c.loop-t.invariant.1
    ∙ four_more (ss l) (goal l) t c.load_all-q.result (omega (arith, c.requires.1, h)) (λ k r g m.
    ap (λ (q : List (List ℤ)). cell q k r) c.load_all-q.ensures
    ∙ cell_is (λ k j. row c.loop-t.rows (t + k) j) k r g m
    ∙ kept l (4 * (t + k) + r) (omega arith)
    ∙ sym (straight_four n (ss l) t r k (omega (arith, c.loop-t.invariant.0)) c.loop-t.invariant.0.1 (omega (arith, h)) m g))

-- all are, when t is the end
whole : (n t : ℕ) (s s' : List ℤ) → t ≡ n → 4 * n ≡ length s → s' ≡ over (4 * t) (at (straight n s)) s → s' ≡ straight n s
whole n t s s' e long is =
    is
    ∙ ap (λ (t : ℕ). over (4 * t) (at (straight n s)) s) e
    ∙ over_whole (4 * n) (at (straight n s)) s (omega (arith, long))
    ∙ tab_same (4 * n) (at (straight n s)) (λ i. at s (place n i)) (arranged_at (4 * n) (place n) s)

pub loop-t-preserved : asked.loop-t-preserved
loop-t-preserved c =
    let h = room (asked.at.After-store_four (asked.at.loop-t-preserved c).After-store_four).In-loop-t in
    ((h, omega (arith, c.loop-t.invariant.0, h)), next (asked.at.loop-t-preserved c).After-store_four)

pub returns : asked.returns
returns c = whole c.args.count c.loop-t.t c.args.rows.now _ (omega (arith, c.loop-t.invariant.0, c.loop-t-test.false)) c.requires.1 c.loop-t.invariant.1

pub returns-2 : asked.returns-2
returns-2 c = whole c.args.count (c.loop-t.t + 4) c.args.rows.now _ (omega (arith, c.loop-t.invariant.0, room (asked.at.After-store_four (asked.at.returns-2 c).After-store_four).In-loop-t)) c.requires.1 (next (asked.at.returns-2 c).After-store_four)

pub loop-t-smaller : asked.loop-t-smaller
loop-t-smaller c = search rules

pub shape_of-rows : asked.shape_of-rows
shape_of-rows c = long (asked.at.shape_of-rows c).At-loop-t ∙ (start (asked.at.shape_of-rows c).At-loop-t).requires.1
