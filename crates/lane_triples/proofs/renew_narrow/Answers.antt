-- `lane_triples::renew_narrow` meets its contract: the rows, then one place after the other. Assumes nothing.
use Rattle.integers.proofs.Prelude.{◌≡◌, refl, List, [], ℕ, ◌^◌, ◌<◌, arith, ℤ, length, get_or}
use Rattle.lane_triples.specs.Step.{added, given, MayAdd, Places, narrow_places, shares_in, after}
use Rattle.lane_triples.proofs.Calls.{may_renew, rows_put, share_is, may_give, place_put}
use Rattle.lane_triples.proofs.renew_narrow.Goals as goal
use Rattle.lane_triples.proofs.renew_narrow.Goals.{Start, After-load-c, After-renew_four-x, After-add_to, After-add_to-2}

module _ (s : Start) where
  abbrev w : List ℤ
  w = s.args.work.now

  abbrev L : ℕ
  L = s.args.lanes

  abbrev at_places : Places
  at_places = narrow_places s.args.i s.args.values s.args.next s.args.u s.args.v s.args.w

-- ---- the rows
abbrev start : After-load-c → Start
start c = (goal.at.After-load-c c).Start

abbrev loaded : After-renew_four-x → After-load-c
loaded c = (goal.at.After-renew_four-x c).After-load-c

pub renew_four-x-requires : goal.renew_four-x-requires
renew_four-x-requires c =
    let s = start (goal.at.renew_four-x-requires c).After-load-c in
    (may_renew (L s) (w s) (at_places s) c.load-a.ensures c.load-b.ensures c.load-c.ensures s.requires, s.requires.long)

renewed : (c : After-renew_four-x) → let s = start (loaded c) in c.renew_four-x.new.work ≡ after (L s) (w s) (at_places s) 0
renewed c =
    let d = loaded c in
    let s = start d in
    rows_put (L s) (w s) (at_places s) d.load-a.ensures d.load-b.ensures d.load-c.ensures c.renew_four-x.ensures.work_after

share : (c : After-renew_four-x) (n : ℕ) → n < 3 → let s = start (loaded c) in get_or c.renew_four-x.result n [] ≡ shares_in (L s) (w s) (at_places s) n
share c =
    let d = loaded c in
    let s = start d in
    share_is (L s) (w s) (at_places s) d.load-a.ensures d.load-b.ensures d.load-c.ensures c.renew_four-x.ensures.value

-- ---- one place after the other
module _ (r : After-renew_four-x) where
  abbrev s : Start
  s = start (loaded r)

  -- what is asked of the list where place n comes next
  asked : (n : ℕ) {w' : List ℤ} → n < 3 → w' ≡ after (L s) (w s) (at_places s) n → MayAdd w' ((at_places s).sum n) (get_or r.renew_four-x.result n [])
  asked n l now = (may_give (L s) (w s) (at_places s) n now (share r n l) l refl s.requires).whole refl

abbrev first : After-add_to → After-renew_four-x
first c = (goal.at.After-add_to c).After-renew_four-x

one : (c : After-add_to) → let s = start (loaded (first c)) in c.add_to.new.l ≡ after (L s) (w s) (at_places s) 1
unfolding given added
one c = let r = first c in let s = start (loaded r) in place_put (L s) (w s) (at_places s) 0 (renewed r) (share r 0 (omega arith)) c.add_to.ensures

abbrev second : After-add_to-2 → After-add_to
second c = (goal.at.After-add_to-2 c).After-add_to

two : (c : After-add_to-2) → let s = start (loaded (first (second c))) in c.add_to-2.new.l ≡ after (L s) (w s) (at_places s) 2
unfolding given added
two c = let r = first (second c) in let s = start (loaded r) in place_put (L s) (w s) (at_places s) 1 (one (second c)) (share r 1 (omega arith)) c.add_to-2.ensures

pub returns : goal.returns
unfolding given added
returns c =
    let r = first (second (goal.at.returns c).After-add_to-2) in
    let s = start (loaded r) in
    place_put (L s) (w s) (at_places s) 2 (two (goal.at.returns c).After-add_to-2) (share r 2 (omega arith)) c.add_to-3.ensures

-- ---- lengths
short : (r : After-renew_four-x) → length r.renew_four-x.new.work < 2 ^ 32
short r = omega (arith, (start (loaded r)).requires.long, r.renew_four-x.auto.work)

short_1 : (c : After-add_to) → length c.add_to.new.l < 2 ^ 32
short_1 c = omega (arith, short (first c), c.add_to.auto.l)

short_2 : (c : After-add_to-2) → length c.add_to-2.new.l < 2 ^ 32
short_2 c = omega (arith, short_1 (second c), c.add_to-2.auto.l)

pub add_to-requires : goal.add_to-requires
add_to-requires c = let may = asked (goal.at.add_to-requires c).After-renew_four-x 0 (omega arith) (renewed (goal.at.add_to-requires c).After-renew_four-x) in record { in_lists = (may.room, short (goal.at.add_to-requires c).After-renew_four-x); sums_fit = may.small }

pub add_to-requires-2 : goal.add_to-requires-2
add_to-requires-2 c = let may = asked (first (goal.at.add_to-requires-2 c).After-add_to) 1 (omega arith) (one (goal.at.add_to-requires-2 c).After-add_to) in record { in_lists = (may.room, short_1 (goal.at.add_to-requires-2 c).After-add_to); sums_fit = may.small }

pub add_to-requires-3 : goal.add_to-requires-3
add_to-requires-3 c = let may = asked (first (second (goal.at.add_to-requires-3 c).After-add_to-2)) 2 (omega arith) (two (goal.at.add_to-requires-3 c).After-add_to-2) in record { in_lists = (may.room, short_2 (goal.at.add_to-requires-3 c).After-add_to-2); sums_fit = may.small }

pub overflow_add-values : goal.overflow_add-values
overflow_add-values c = omega (arith, c.requires.long, c.requires.values 0 (omega arith) refl)

pub load-a-requires : goal.load-a-requires
load-a-requires c = (c.requires.values 0 (omega arith) refl, c.requires.long)

pub overflow_add-values-2 : goal.overflow_add-values-2
overflow_add-values-2 c = omega (arith, c.requires.long, c.requires.values 1 (omega arith) refl)

pub load-b-requires : goal.load-b-requires
load-b-requires c = (c.requires.values 1 (omega arith) refl, c.requires.long)

pub overflow_add-values-3 : goal.overflow_add-values-3
overflow_add-values-3 c = omega (arith, c.requires.long, c.requires.values 2 (omega arith) refl)

pub load-c-requires : goal.load-c-requires
load-c-requires c = (c.requires.values 2 (omega arith) refl, c.requires.long)

pub overflow_add-next : goal.overflow_add-next
overflow_add-next c = omega (arith, (asked (goal.at.overflow_add-next c).After-renew_four-x 0 (omega arith) (renewed (goal.at.overflow_add-next c).After-renew_four-x)).room, short (goal.at.overflow_add-next c).After-renew_four-x)

pub overflow_add-next-2 : goal.overflow_add-next-2
overflow_add-next-2 c = omega (arith, (asked (first (goal.at.overflow_add-next-2 c).After-add_to) 1 (omega arith) (one (goal.at.overflow_add-next-2 c).After-add_to)).room, short_1 (goal.at.overflow_add-next-2 c).After-add_to)

pub overflow_add-next-3 : goal.overflow_add-next-3
overflow_add-next-3 c = omega (arith, (asked (first (second (goal.at.overflow_add-next-3 c).After-add_to-2)) 2 (omega arith) (two (goal.at.overflow_add-next-3 c).After-add_to-2)).room, short_2 (goal.at.overflow_add-next-3 c).After-add_to-2)
