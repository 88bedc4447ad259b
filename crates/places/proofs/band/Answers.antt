-- Columns and rows agree in the windows so far, and all counters are 0.
use Rattle.integers.proofs.Prelude.{◌≡◌, refl, sym, ap, true, ◌∙◌, List, ℕ, ◌+◌, ◌*◌, ◌≤◌, arith, min, length, take, drop, length-take-le}
use lib.Seq.{length_front}
use native.Mathlib.Nat.{mul-le-mul_left, mul-le-mul_right}
use Rattle.numbers.specs.Sides.{lists_in}
use Rattle.numbers.proofs.Walk.{small_part}
use Rattle.places.specs.declared.Window.{Window}
use Rattle.places.specs.Counters.{Agrees, Tells}
use Rattle.places.proofs.Counters.{zeros_take, zeros_back}
use Rattle.places.proofs.Windows.{window_tells, list_past, wider, wide_part}
use Rattle.places.proofs.band.Goals as goal
use Rattle.places.proofs.band.Goals.{After-rows_up-count, After-columns_down}

-- ---- the next window
module _ (x : After-rows_up-count) where
  abbrev all : ℕ
  all = x.from-all.result

  abbrev most : ℕ
  most = x.from-column_most.result

  abbrev left : ℕ
  left = x.loop-left.left

  abbrev width : ℕ
  width = x.min-width.result

  abbrev size : ℕ
  size = x.args.height * width

  abbrev window : Window
  window = record { top = x.args.top; height = x.args.height; left = left; width = width }

  sized : (1 ≤ width) × (width ≤ x.args.wide) × (left + width ≤ all)
  sized = omega (arith, x.min-width.ensures, x.loop-left-test.true, x.requires.window_fits)

  at_left : min left all ≡ left
  at_left = omega (arith, x.loop-left-test.true)

  -- the numbers of all columns, and those of the window's
  abbrev columns : List ℕ
  columns = lists_in x.args.columns.now

  stand : x.loop-left.lists ≡ drop (left * most) columns
  stand = rw at_left at x.loop-left.invariant.1

  lent : length (take size x.loop-left.counters) ≡ size
  lent =
      length-take-le size x.loop-left.counters
      (omega (arith, mul-le-mul_left x.args.height sized.1, x.requires.window_fits, x.loop-left.invariant.2))

pub columns_down-requires-clause-numbers_small : goal.columns_down-requires-clause-numbers_small
columns_down-requires-clause-numbers_small c =
    let x = (goal.at.columns_down-requires-clause-numbers_small c).After-rows_up-count in
    let h = c.requires.numbers_small.2 in
    let held = (rw (sym c.from-column_most.ensures, sym c.from-all.ensures) at h.numbers) in
    let part : left x * most x + width x * most x ≤ all x * most x = omega (arith, mul-le-mul_right (most x) (sized x).2) in
    (rw (stand x) (small_part (left x * most x) (width x * most x) (all x * most x) (columns x) part held), omega (arith, h.most, c.from-column_most.ensures))

-- ---- its rows were counted up and its columns down
module _ (z : After-columns_down) where
  abbrev last : After-rows_up-count
  last = (goal.at.After-columns_down z).After-rows_up-count

  tells : Tells z.columns_down.result (Agrees (window last) z.args.most z.args.rows.now (most last) (drop (left last * most last) (columns last)))
  tells =
      let x = last in
      window_tells (window x) (sized x).0 z.args.most z.args.rows.now (most x) (drop (left x * most x) (columns x)) z.columns_down.result
      (take (size x) z.loop-left.counters) z.rows_up-count.new.counters z.rows_up-count.new.counters (zeros_take (size x) z.loop-left.counters z.loop-left.invariant.3) (lent x)
      z.rows_up-count.ensures.more refl (rw (stand x) at z.columns_down.ensures.tells)

  so_far : Agrees (record { top = z.args.top; height = z.args.height; left = 0; width = left last }) z.args.most z.args.rows.now (most last) (columns last)
  so_far = rw (at_left last) at z.loop-left.invariant.0

  one_more : z.columns_down.result ≡ true
      → Agrees (record { top = z.args.top; height = z.args.height; left = 0; width = left last + width last }) z.args.most z.args.rows.now (most last) (columns last)
  one_more fine = wider z.args.most z.args.rows.now (most last) (columns last) z.args.top z.args.height (left last) (width last) so_far (tells.so fine)

pub returns-then-not-columns_down-clause-tells : goal.returns-then-not-columns_down-clause-tells
returns-then-not-columns_down-clause-tells c =
    let z = (goal.at.returns-then-not-columns_down-clause-tells c).After-columns_down in
    let x = last z in
    rw (sym c.from-column_most.ensures, sym c.from-all.ensures)
    (record {
      so = λ e. let z : ◌≡◌ {A = ℕ} 0 1 = cc in absurd (omega arith);
      not_so = λ _ a. (tells z).not_so c.if-not-columns_down.true
          (wide_part c.args.most c.args.rows.now (most x) (columns x) c.args.top c.args.height (left x) (width x) (all x) (sized x).2 a);
    })

pub loop-left-preserved : goal.loop-left-preserved
loop-left-preserved c =
    let z = (goal.at.loop-left-preserved c).After-columns_down in
    let x = last z in
    let fine = c.if-not-columns_down.false in
    let past : min (left x + c.args.wide) (all x) ≡ left x + width x = omega (arith, c.min-width.ensures, c.loop-left-test.true) in (
      rw past (one_more z fine),
      rw past (c.columns_down.ensures.rest fine ∙ ap (drop (width x * most x)) (stand x) ∙ list_past (most x) (left x) (width x) (columns x)),
      length_front c.loop-left.counters c.columns_down.new.counters (size x) (c.columns_down.auto.counters ∙ c.rows_up-count.ensures.more.long) ∙ c.loop-left.invariant.2,
      zeros_back (size x) c.loop-left.counters c.columns_down.new.counters c.loop-left.invariant.3 (c.columns_down.ensures.zeros fine),
    )

pub returns-else-not-columns_down-clause-tells : goal.returns-else-not-columns_down-clause-tells
returns-else-not-columns_down-clause-tells c =
    let z = (goal.at.returns-else-not-columns_down-clause-tells c).After-columns_down in
    let x = last z in
    let whole : left x + width x ≡ all x = omega (arith, c.min-width.ensures, c.loop-left-test.true) in
    rw (sym c.from-column_most.ensures, sym c.from-all.ensures)
    (record { so = λ _. rw whole at (one_more z c.if-not-columns_down.false); not_so = λ e. let z : ◌≡◌ {A = ℕ} 0 1 = cc in absurd (omega arith) })
