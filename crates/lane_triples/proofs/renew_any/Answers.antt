-- `lane_triples::renew_any` meets its contract: the rows, then one place after the other. Assumes nothing.
use Rattle.integers.proofs.Prelude.{◌≡◌, refl, ap, ◌∙◌, Bool, false, List, [], ℕ, ◌+◌, ◌*◌, ◌^◌, ◌<◌, arith, ℤ, length, get_or}
use Rattle.lane_triples.specs.Step.{given, MayGive, Places, any_places, shares_in, after}
use Rattle.lane_triples.proofs.Calls.{may_renew, rows_put, share_is, may_give, place_put}
use Rattle.lane_triples.proofs.renew_any.Goals as goal
use Rattle.lane_triples.proofs.renew_any.Goals.{Start, After-third-c, After-renew_four-x, After-give, After-give-2}

module _ (s : Start) where
  abbrev w : List ℤ
  w = s.args.work.now

  abbrev L : ℕ
  L = s.args.lanes

  abbrev at_places : Places
  at_places = any_places s.args.counts.now L s.args.i s.args.values s.args.next s.args.apart s.args.u s.args.v s.args.w

  -- no index is too large
  first_low : L * s.args.u < 2 ^ 32
  first_low = omega (arith, s.requires.may_step.long, s.requires.may_step.values 0 (omega arith) refl)

  second_low : L * s.args.v < 2 ^ 32
  second_low = omega (arith, s.requires.may_step.long, s.requires.may_step.values 1 (omega arith) refl)

-- ---- the rows
abbrev start : After-third-c → Start
start c = (goal.at.After-third-c c).Start

abbrev loaded : After-renew_four-x → After-third-c
loaded c = (goal.at.After-renew_four-x c).After-third-c

pub renew_four-x-requires : goal.renew_four-x-requires
renew_four-x-requires c =
    let s = start (goal.at.renew_four-x-requires c).After-third-c in
    (may_renew (L s) (w s) (at_places s) c.load-a.ensures c.load-b.ensures c.third-c.ensures s.requires.may_step, s.requires.may_step.long)

renewed : (c : After-renew_four-x) → let s = start (loaded c) in c.renew_four-x.new.work ≡ after (L s) (w s) (at_places s) 0
renewed c =
    let d = loaded c in
    let s = start d in
    rows_put (L s) (w s) (at_places s) d.load-a.ensures d.load-b.ensures d.third-c.ensures c.renew_four-x.ensures.work_after

share : (c : After-renew_four-x) (n : ℕ) → n < 3 → let s = start (loaded c) in get_or c.renew_four-x.result n [] ≡ shares_in (L s) (w s) (at_places s) n
share c =
    let d = loaded c in
    let s = start d in
    share_is (L s) (w s) (at_places s) d.load-a.ensures d.load-b.ensures d.third-c.ensures c.renew_four-x.ensures.value

short : (r : After-renew_four-x) → length r.renew_four-x.new.work < 2 ^ 32
short r = omega (arith, (start (loaded r)).requires.may_step.long, r.renew_four-x.auto.work)

-- what is asked of the list where place n comes next
asked : (r : After-renew_four-x) (n : ℕ) {w' : List ℤ} → let s = start (loaded r) in n < 3 → (at_places s).none n ≡ false → w' ≡ after (L s) (w s) (at_places s) n
    → MayGive ((at_places s).wide n) w' ((at_places s).sum n) ((at_places s).sum n + s.args.apart) (get_or r.renew_four-x.result n [])
asked r n l some now = let s = start (loaded r) in may_give (L s) (w s) (at_places s) n now (share r n l) l some s.requires.may_step

-- ---- the first place
abbrev first : After-give → After-renew_four-x
first c = (goal.at.After-give c).After-renew_four-x

pub give-requires : goal.give-requires
give-requires c = (rw c.is_wide.ensures (asked (goal.at.give-requires c).After-renew_four-x 0 (omega arith) refl (renewed (goal.at.give-requires c).After-renew_four-x)), short (goal.at.give-requires c).After-renew_four-x)

one : (c : After-give) → let s = start (loaded (first c)) in c.give.new.work ≡ after (L s) (w s) (at_places s) 1
one c =
    let r = first c in
    let s = start (loaded r) in
    let first_sum = s.args.next + L s * s.args.u in
    place_put (L s) (w s) (at_places s) 0 (renewed r) (share r 0 (omega arith))
    (c.give.ensures ∙ ap (λ (e : Bool). given e r.renew_four-x.new.work first_sum (first_sum + s.args.apart) (get_or r.renew_four-x.result 0 [])) c.is_wide.ensures)

short_1 : (c : After-give) → length c.give.new.work < 2 ^ 32
short_1 c = omega (arith, short (first c), c.give.auto.work)

-- ---- the second
abbrev second : After-give-2 → After-give
second c = (goal.at.After-give-2 c).After-give

pub give-requires-2 : goal.give-requires-2
give-requires-2 c = (rw c.is_wide-2.ensures (asked (first (goal.at.give-requires-2 c).After-give) 1 (omega arith) refl (one (goal.at.give-requires-2 c).After-give)), short_1 (goal.at.give-requires-2 c).After-give)

two : (c : After-give-2) → let s = start (loaded (first (second c))) in c.give-2.new.work ≡ after (L s) (w s) (at_places s) 2
two c =
    let d = second c in
    let r = first d in
    let s = start (loaded r) in
    let second_sum = s.args.next + L s * s.args.v in
    place_put (L s) (w s) (at_places s) 1 (one d) (share r 1 (omega arith))
    (c.give-2.ensures ∙ ap (λ (e : Bool). given e d.give.new.work second_sum (second_sum + s.args.apart) (get_or r.renew_four-x.result 1 [])) c.is_wide-2.ensures)

short_2 : (c : After-give-2) → length c.give-2.new.work < 2 ^ 32
short_2 c = omega (arith, short_1 (second c), c.give-2.auto.work)

-- ---- the third
pub give_third-requires : goal.give_third-requires
give_third-requires c =
    let r = first (second (goal.at.give_third-requires c).After-give-2) in
    (λ some. ((start (loaded r)).requires.variables_counted.2 some, asked r 2 (omega arith) some (two (goal.at.give_third-requires c).After-give-2)), short_2 (goal.at.give_third-requires c).After-give-2)

pub returns : goal.returns
returns c =
    let r = first (second (goal.at.returns c).After-give-2) in
    let s = start (loaded r) in
    place_put (L s) (w s) (at_places s) 2 (two (goal.at.returns c).After-give-2) (share r 2 (omega arith)) c.give_third.ensures

pub overflow_mul-lanes : goal.overflow_mul-lanes
overflow_mul-lanes c = omega (arith, first_low (goal.at.overflow_mul-lanes c).Start)

pub overflow_add-values : goal.overflow_add-values
overflow_add-values c = omega (arith, first_low (goal.at.overflow_add-values c).Start, c.requires.small_places)

pub load-a-requires : goal.load-a-requires
load-a-requires c = (c.requires.may_step.values 0 (omega arith) refl, c.requires.may_step.long)

pub overflow_mul-lanes-2 : goal.overflow_mul-lanes-2
overflow_mul-lanes-2 c = omega (arith, second_low (goal.at.overflow_mul-lanes-2 c).Start)

pub overflow_add-values-2 : goal.overflow_add-values-2
overflow_add-values-2 c = omega (arith, second_low (goal.at.overflow_add-values-2 c).Start, c.requires.small_places)

pub load-b-requires : goal.load-b-requires
load-b-requires c = (c.requires.may_step.values 1 (omega arith) refl, c.requires.may_step.long)

pub overflow_mul-lanes-3 : goal.overflow_mul-lanes-3
overflow_mul-lanes-3 c = omega (arith, c.requires.small_places)

pub overflow_add-values-3 : goal.overflow_add-values-3
overflow_add-values-3 c = omega (arith, c.requires.small_places)

pub third-c-requires : goal.third-c-requires
third-c-requires c = (c.requires.may_step.values 2 (omega arith), c.requires.may_step.long)

pub overflow_mul-first : goal.overflow_mul-first
overflow_mul-first c = omega (arith, first_low (start (loaded (goal.at.overflow_mul-first c).After-renew_four-x)))

pub overflow_add-first : goal.overflow_add-first
overflow_add-first c = let s = start (loaded (goal.at.overflow_add-first c).After-renew_four-x) in omega (arith, first_low s, s.requires.small_places)

pub overflow_add-first-2 : goal.overflow_add-first-2
overflow_add-first-2 c = let s = start (loaded (goal.at.overflow_add-first-2 c).After-renew_four-x) in omega (arith, first_low s, s.requires.small_places)

pub is_wide-requires : goal.is_wide-requires
is_wide-requires c = (start (loaded (goal.at.is_wide-requires c).After-renew_four-x)).requires.variables_counted.0

pub overflow_mul-second : goal.overflow_mul-second
overflow_mul-second c = omega (arith, second_low (start (loaded (first (goal.at.overflow_mul-second c).After-give))))

pub overflow_add-second : goal.overflow_add-second
overflow_add-second c = let s = start (loaded (first (goal.at.overflow_add-second c).After-give)) in omega (arith, second_low s, s.requires.small_places)

pub overflow_add-second-2 : goal.overflow_add-second-2
overflow_add-second-2 c = let s = start (loaded (first (goal.at.overflow_add-second-2 c).After-give)) in omega (arith, second_low s, s.requires.small_places)

pub is_wide-requires-2 : goal.is_wide-requires-2
is_wide-requires-2 c = (start (loaded (first (goal.at.is_wide-requires-2 c).After-give))).requires.variables_counted.1

pub overflow_mul-last : goal.overflow_mul-last
overflow_mul-last c = let s = start (loaded (first (second (goal.at.overflow_mul-last c).After-give-2))) in omega (arith, s.requires.small_places)

pub overflow_add-last : goal.overflow_add-last
overflow_add-last c = let s = start (loaded (first (second (goal.at.overflow_add-last c).After-give-2))) in omega (arith, s.requires.small_places)

pub overflow_add-last-2 : goal.overflow_add-last-2
overflow_add-last-2 c = let s = start (loaded (first (second (goal.at.overflow_add-last-2 c).After-give-2))) in omega (arith, s.requires.small_places)
