-- `lane_values::write_wide` meets its contract: the entries below i are stored. Assumes nothing.
use Rattle.integers.proofs.Prelude.{◌≡◌, ap, ap₂, ◌∙◌, List, ℕ, ◌+◌, ◌*◌, ◌<◌, arith, rules, ℤ, pos, neg_ℤ, ◌+ℤ◌, ◌*ℤ◌, length, get_or}
use Rattle.integers.proofs.Prelude.{w16, w32, w64, to_z, of_z}
use Rattle.integers.proofs.Machine.{kept, read_back}
use Rattle.quotient.specs.Quotient.{unit, quotient}
use Rattle.model.specs.Iteration.{at, divisor}
use Rattle.lane_values.specs.Stored.{Parts}
use Rattle.lane_values.specs.Places.{whole, wide_value, wide_parts}
use Rattle.lane_values.proofs.Stored.{nothing_stored, ahead, store_next}
use Rattle.lane_values.proofs.write_wide.Goals as goal
use Rattle.lane_values.proofs.write_wide.Goals.{Start, At-loop-i, In-loop-i, After-weighed_whole-x, After-raised}

module _ (s : Start) where
  abbrev bases : List ℕ
  bases = let a = s.args in wide_parts a.values a.next a.sums a.apart a.weighed

  parts : Parts s.args.to (length s.args.work.now) bases
  parts = s.requires.from_le_to.1

module _ (l : At-loop-i) where
  abbrev start : Start
  start = (goal.at.At-loop-i l).Start

  long : length l.loop-i.work ≡ length start.args.work.now
  long = l.loop-i.invariant.2.long

module _ (c : In-loop-i) where
  abbrev turn : At-loop-i
  turn = (goal.at.In-loop-i c).At-loop-i

  -- entry i of each part is in the list
  places : let a = (start turn).args in
      let n = length turn.loop-i.work in
      let i = turn.loop-i.i in
      (a.values + i < n) × (a.next + i < n) × (a.next + a.apart + i < n) × (a.sums + i < n) × (a.sums + a.apart + i < n) × (a.weighed + i < n)
  places = omega (arith, (parts (start turn)).ends, long turn)

  -- what is read has not changed
  same : (q : ℕ) → q < 6 → let b = get_or (bases (start turn)) q 0 + turn.loop-i.i in at turn.loop-i.work b ≡ at (start turn).args.work.now b
  same q h = ahead (parts (start turn)) (omega arith) turn.loop-i.invariant.2 q turn.loop-i.i h (omega arith) (omega arith)

module _ (c : After-weighed_whole-x) where
  abbrev now : In-loop-i
  now = (goal.at.After-weighed_whole-x c).In-loop-i

  x_is : let l = turn now in
      let a = (start l).args in
      to_z w64 (of_z w64 c.weighed_whole-x.result) ≡ whole a.work.now a.sums (a.sums + a.apart) a.weighed l.loop-i.i
  x_is =
      let low = kept w32 _ c.weighed_whole-arg-1.given ∙ same now 3 (omega arith) in
      let high = kept w32 _ c.weighed_whole-arg-in-loop-i-1.given ∙ same now 4 (omega arith) in
      let weighed = kept w32 _ c.weighed_whole-arg-in-loop-i-2-1.given ∙ same now 5 (omega arith) in
      read_back w64 c.weighed_whole-x.type_inv
      (c.weighed_whole-x.ensures ∙ ap₂ (λ (y z : ℤ). pos 256 *ℤ y +ℤ z) (ap₂ (λ (y z : ℤ). y +ℤ pos 16384 *ℤ z) low high) weighed)

pub divide-requires : goal.divide-requires
divide-requires c =
    let l = turn (now c) in
    rw (x_is c) ((start l).requires.in_range l.loop-i.i l.loop-i.invariant.0 (now c).loop-i-test.true, (start l).requires.count.0, (start l).requires.count.1)

abbrev last : After-raised → In-loop-i
last c = now (goal.at.After-raised c).After-weighed_whole-x

pub loop-i-preserved : goal.loop-i-preserved
loop-i-preserved c =
    let l = turn (last c) in
    let a = (start l).args in
    let d = divisor (4 * a.count) a.divisors.now in
    let value = read_back w16 c.divide.type_inv (c.divide.ensures ∙ ap (λ (x : ℤ). quotient (neg_ℤ x) d) (x_is (goal.at.loop-i-preserved c).After-weighed_whole-x)) in (
      omega arith,
      omega arith,
      store_next (parts (start l)) (wide_value a.work.now a.sums (a.sums + a.apart) a.weighed d) l.loop-i.i (to_z w32 (of_z w32 c.raised.result))
          (read_back w32 c.raised.type_inv (c.raised.ensures ∙ ap (λ (x : ℤ). x +ℤ pos unit) value))
          (last c).loop-i-test.true l.loop-i.work (long l) 3 (omega arith) l.loop-i.invariant.0 l.loop-i.invariant.2,
    )

pub returns : goal.returns
returns c =
    let e : c.loop-i.i ≡ (start (goal.at.returns c).At-loop-i).args.to = omega arith in
    rw (← e) c.loop-i.invariant.2

pub loop-i-init : goal.loop-i-init
loop-i-init c = (omega arith, c.requires.from_le_to.0, nothing_stored (omega arith))

pub overflow_add-sums : goal.overflow_add-sums
overflow_add-sums c = let h = (places c).3 in search rules

pub offset_bounds-work-sums : goal.offset_bounds-work-sums
offset_bounds-work-sums c = let h = (places c).3 in search rules

pub slice_copy_out-weighed_whole : goal.slice_copy_out-weighed_whole
slice_copy_out-weighed_whole c = (places c).3

pub overflow_add-sums-in-loop-i : goal.overflow_add-sums-in-loop-i
overflow_add-sums-in-loop-i c = let h = (places (goal.at.overflow_add-sums-in-loop-i c).In-loop-i).4 in search rules

pub overflow_add-sums-in-loop-i-2 : goal.overflow_add-sums-in-loop-i-2
overflow_add-sums-in-loop-i-2 c = let h = (places (goal.at.overflow_add-sums-in-loop-i-2 c).In-loop-i).4 in search rules

pub offset_bounds-work-sums-in-loop-i : goal.offset_bounds-work-sums-in-loop-i
offset_bounds-work-sums-in-loop-i c = let h = (places (goal.at.offset_bounds-work-sums-in-loop-i c).In-loop-i).4 in search rules

pub slice_copy_out-weighed_whole-in-loop-i : goal.slice_copy_out-weighed_whole-in-loop-i
slice_copy_out-weighed_whole-in-loop-i c = (places (goal.at.slice_copy_out-weighed_whole-in-loop-i c).In-loop-i).4

pub overflow_add-weighed : goal.overflow_add-weighed
overflow_add-weighed c = let h = (places (goal.at.overflow_add-weighed c).In-loop-i).5 in search rules

pub offset_bounds-work-weighed : goal.offset_bounds-work-weighed
offset_bounds-work-weighed c = let h = (places (goal.at.offset_bounds-work-weighed c).In-loop-i).5 in search rules

pub slice_copy_out-weighed_whole-in-loop-i-2 : goal.slice_copy_out-weighed_whole-in-loop-i-2
slice_copy_out-weighed_whole-in-loop-i-2 c = (places (goal.at.slice_copy_out-weighed_whole-in-loop-i-2 c).In-loop-i).5

pub weighed_whole-x-requires : goal.weighed_whole-x-requires
weighed_whole-x-requires c = tt

pub raised-requires : goal.raised-requires
raised-requires c = tt

pub overflow_add-values : goal.overflow_add-values
overflow_add-values c = let h = (places (last c)).0 in search rules

pub offset_bounds-work-values : goal.offset_bounds-work-values
offset_bounds-work-values c = let h = (places (last c)).0 in search rules

pub bounds-work-values : goal.bounds-work-values
bounds-work-values c = (places (last c)).0

pub overflow_add-work : goal.overflow_add-work
overflow_add-work c = let h = (places (last c)).1 in search rules

pub offset_bounds-work-next : goal.offset_bounds-work-next
offset_bounds-work-next c = let h = (places (last c)).1 in search rules

pub slice_set_of-work : goal.slice_set_of-work
slice_set_of-work c = let h = (places (last c)).1 in search rules

pub overflow_add-work-in-loop-i : goal.overflow_add-work-in-loop-i
overflow_add-work-in-loop-i c = let h = (places (last c)).2 in search rules

pub overflow_add-work-in-loop-i-2 : goal.overflow_add-work-in-loop-i-2
overflow_add-work-in-loop-i-2 c = let h = (places (last c)).2 in search rules

pub offset_bounds-work-next-in-loop-i : goal.offset_bounds-work-next-in-loop-i
offset_bounds-work-next-in-loop-i c = let h = (places (last c)).2 in search rules

pub slice_set_of-work-in-loop-i : goal.slice_set_of-work-in-loop-i
slice_set_of-work-in-loop-i c = let h = (places (last c)).2 in search rules

pub shape_of-work : goal.shape_of-work
shape_of-work c = long (goal.at.shape_of-work c).At-loop-i
