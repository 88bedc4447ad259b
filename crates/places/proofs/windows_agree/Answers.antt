-- Columns and rows agree in the bands so far, and all counters are 0.
use Rattle.integers.proofs.Prelude.{◌≡◌, refl, sym, ap, subst, ◌∙◌, true, List, ℕ, ◌+◌, ◌*◌, ◌/◌, ◌≤◌, arith, min, drop}
use native.Mathlib.Nat.{mul-le-mul_right, div-mul-le_self, le-div_iff_mul-le}
use Rattle.numbers.specs.Walked.{Small}
use Rattle.numbers.specs.Sides.{lists_in}
use Rattle.numbers.proofs.Walk.{small_part}
use Rattle.places.specs.Counters.{most_counters, Agrees, Tells}
use Rattle.places.proofs.Counters.{zeros_at}
use Rattle.places.proofs.Windows.{list_past, higher, high_part}
use Rattle.places.proofs.windows_agree.Goals as goal
use Rattle.places.proofs.windows_agree.Goals.{After-min-height, After-band}

pub loop-top-init : goal.loop-top-init
loop-top-init c =
    let none : min 0 c.from-count.result ≡ 0 = omega arith in
    let e : 0 ≡ 0 * c.from-most.result = omega arith in
    rw none (
      λ r c i j. absurd (omega arith),
      c.new-lists.ensures ∙ ap (λ (n : ℕ). drop n (lists_in c.args.rows.now)) e,
      refl,
      zeros_at most_counters,
    )

-- ---- the next band
module _ (x : After-min-height) where
  abbrev count : ℕ
  count = x.from-count.result

  abbrev most : ℕ
  most = x.from-most.result

  abbrev top : ℕ
  top = x.loop-top.top

  abbrev height : ℕ
  height = x.min-height.result

  sized : (1 ≤ height) × (height ≤ most_counters / x.args.wide) × (top + height ≤ count)
  sized =
      let some : 1 ≤ most_counters / x.args.wide = (le-div_iff_mul-le {x = 1} {y = most_counters} x.requires.2).1 (omega (arith, x.requires.3)) in
      omega (arith, x.min-height.ensures, x.loop-top-test.true)

  small : height * x.args.wide ≤ most_counters
  small = omega (arith, mul-le-mul_right x.args.wide sized.1, div-mul-le_self most_counters x.args.wide)

  at_top : min top count ≡ top
  at_top = omega (arith, x.loop-top-test.true)

  -- the numbers of all rows, and those of the band
  abbrev rows : List ℕ
  rows = lists_in x.args.rows.now

  stand : x.loop-top.lists ≡ drop (top * most) rows
  stand = rw at_top at x.loop-top.invariant.1

  numbers : Small (height * most) x.loop-top.lists
  numbers =
      let held = (rw (sym x.from-count.ensures, sym x.from-most.ensures) at x.requires.1.numbers) in
      let part : top * most + height * most ≤ count * most = omega (arith, mul-le-mul_right most sized.2) in
      subst (λ (l : List ℕ). Small (height * most) l) (sym stand) (small_part (top * most) (height * most) (count * most) rows part held)

pub band-requires : goal.band-requires
band-requires c =
    let x = (goal.at.band-requires c).After-min-height in record {
      numbers_small = (numbers x, omega (arith, c.from-most.ensures, c.requires.1.most), c.requires.0);
      window_fits = (omega (arith, sized x, c.from-count.ensures, c.requires.1.count), c.requires.2, small x);
      counters_zero = (c.loop-top.invariant.2, c.loop-top.invariant.3);
    }

-- ---- and what it tells
module _ (b : After-band) where
  abbrev last : After-min-height
  last = (goal.at.After-band b).After-min-height

  tells : Tells b.band.result
      (Agrees (record { top = top last; height = height last; left = 0; width = b.args.columns.now.count }) (most last) (drop (top last * most last) (rows last))
      b.args.columns.now.most (lists_in b.args.columns.now))
  tells = rw (stand last) at b.band.ensures.tells

  one_more : b.band.result ≡ true
      → Agrees (record { top = 0; height = top last + height last; left = 0; width = b.args.columns.now.count }) (most last) (rows last) b.args.columns.now.most (lists_in b.args.columns.now)
  one_more fine =
      let so_far = (rw (at_top last) at b.loop-top.invariant.0) in
      higher (most last) (rows last) b.args.columns.now.most (lists_in b.args.columns.now) (top last) (height last) b.args.columns.now.count so_far (tells.so fine)

pub returns-then-not-band : goal.returns-then-not-band
returns-then-not-band c =
    let b = (goal.at.returns-then-not-band c).After-band in
    let x = last b in
    rw (sym c.from-count.ensures, sym c.from-most.ensures)
    (record {
      so = λ e. let z : ◌≡◌ {A = ℕ} 0 1 = cc in absurd (omega arith);
      not_so = λ _ a. (tells b).not_so c.if-not-band.true
          (high_part (most x) (rows x) c.args.columns.now.most (lists_in c.args.columns.now) (top x) (height x) (count x) c.args.columns.now.count (sized x).2 a);
    })

pub loop-top-preserved : goal.loop-top-preserved
loop-top-preserved c =
    let b = (goal.at.loop-top-preserved c).After-band in
    let x = last b in
    let fine = c.if-not-band.false in
    let past : min (top x + most_counters / c.args.wide) (count x) ≡ top x + height x = omega (arith, c.min-height.ensures, c.loop-top-test.true) in (
      rw past (one_more b fine),
      rw past (c.pass.ensures ∙ ap (drop (height x * most x)) (stand x) ∙ list_past (most x) (top x) (height x) (rows x)),
      c.band.auto.counters ∙ c.loop-top.invariant.2,
      c.band.ensures.zeros fine,
    )

pub returns-else-not-band : goal.returns-else-not-band
returns-else-not-band c =
    let b = (goal.at.returns-else-not-band c).After-band in
    let x = last b in
    let whole : top x + height x ≡ count x = omega (arith, c.min-height.ensures, c.loop-top-test.true) in
    rw (sym c.from-count.ensures, sym c.from-most.ensures)
    (record { so = λ _. rw whole at (one_more b c.if-not-band.false); not_so = λ e. let z : ◌≡◌ {A = ℕ} 0 1 = cc in absurd (omega arith) })
