-- The rows of a side, one after another: a loop over them keeps `Walk`, the degrees and the lists that are left.
use Rattle.integers.proofs.Prelude.{◌≡◌, sym, ap, ◌∙◌, true, List, [], ◌∷◌, ℕ, zero, suc, ◌+◌, ◌*◌, ◌≤◌, ◌<◌, arith, add-one, ltb, length}
use Rattle.integers.proofs.Prelude.{get_or, take, drop, length-take, length-map, drop-drop, length-take-le, take-take, get_or-take}
use native.Mathlib.Nat.{mul-le-mul_right}
use lib.ListN.{get_or-map}
use Rattle.lists.specs.Entries.{every}
use Rattle.lists.proofs.Entries.{every_at}
use Rattle.model.specs.Alist.{pieces, listed}
use Rattle.numbers.specs.declared.Side.{Side}
use Rattle.numbers.specs.Walked.{none, Small}
use Rattle.numbers.specs.Sides.{degrees_in, lists_in}
use Rattle.numbers.proofs.Walk.{next_at, same_at, small_part}
use Rattle.importer.specs.Rows.{named_in, Sided, lowered, Indexed, bits_at, checks_of}

-- list j of so many
listed_at : (count size : ℕ) (ds l : List ℕ) (j : ℕ) → j < count → count ≤ length ds
    → get_or (listed (take count ds) (pieces count size l)) j [] ≡ take (get_or ds j none) (take size (drop (j * size) l))
listed_at zero size ds l j h k = absurd (omega arith)
listed_at (suc count) size [] l j h k = absurd (omega arith)
listed_at (suc count) size (d ∷ ds) l zero h k = let z : 0 * size ≡ 0 = omega arith in rw z
listed_at (suc count) size (d ∷ ds) l (suc j) h k =
    let e : size + j * size ≡ suc j * size = omega arith in
    listed_at count size ds (drop size l) j (omega arith) (omega arith) ∙ rw (drop-drop (j * size) size l, e)

-- ---- a walk: j rows were passed, and these degrees and lists are left
pub record Walk (side : Side) (j : ℕ) (degrees lists : List ℕ) : Type 0 where
  pub degrees_left : degrees ≡ drop j (degrees_in side)
  pub lists_left : lists ≡ drop (j * side.most) (lists_in side)

module _ {side : Side} (h : Sided side) where
  abbrev ds : List ℕ
  ds = degrees_in side

  abbrev l : List ℕ
  l = lists_in side

  pub length_named : length (named_in side) ≡ side.count
  length_named = sym (length-map (named_in side) length) ∙ ap length h.lengths ∙ length-take-le side.count ds h.degrees.long

  pub length_checks : length (checks_of side) ≡ side.count
  length_checks = length-map (named_in side) lowered ∙ length_named

  pub walk_start : {degrees lists : List ℕ} → degrees ≡ degrees_in side → lists ≡ lists_in side → Walk side 0 degrees lists
  walk_start d e =
      let z : 0 * side.most ≡ 0 = omega arith in
      record { degrees_left = d; lists_left = rw z e }

  -- ---- row j
  module _ (j : ℕ) (k : j < side.count) where
    abbrev degree : ℕ
    degree = get_or ds j none

    abbrev here : List ℕ
    here = drop (j * side.most) l

    named_at : get_or (named_in side) j [] ≡ take degree (take side.most here)
    named_at = listed_at side.count side.most ds l j k h.degrees.long

    length_at : length (get_or (named_in side) j []) ≡ degree
    length_at =
        sym (get_or-map length (named_in side) j []) ∙ ap (λ (x : List ℕ). get_or x j 0) h.lengths ∙ get_or-take side.count ds j 0 k
        ∙ same_at ds j 0 none (omega (arith, h.degrees.long))

    degree_most : degree ≤ side.most
    degree_most = omega (arith, sym length_at ∙ ap length named_at, length-take degree (take side.most here), length-take side.most here)

    row_at : get_or (named_in side) j [] ≡ take degree here
    row_at = named_at ∙ take-take degree side.most here degree_most

    room : j * side.most + side.most ≤ side.count * side.most
    room = omega (arith, mul-le-mul_right {m = suc j} {n = side.count} side.most k)

    above : every (ltb 0) (take degree here) ≡ true
    above = ap (every (ltb 0)) (sym row_at) ∙ every_at (every (ltb 0)) (named_in side) j [] h.indices (omega (arith, length_named))

    check_at : get_or (checks_of side) j [] ≡ lowered (take degree here)
    check_at = get_or-map lowered (named_in side) j [] ∙ ap lowered row_at

    -- where the walk stands at it
    module _ {degrees lists : List ℕ} (w : Walk side j degrees lists) where
      pub walk_known : Small 1 degrees
      walk_known = rw w.degrees_left (small_part j 1 side.count ds (omega arith) h.degrees)

      module _ {value : ℕ} {after : List ℕ} (next : degrees ≡ value ∷ after) where
        pub value_is : value ≡ degree
        value_is = (next_at ds j w.degrees_left next).0

        pub walk_indexed : Indexed lists value
        walk_indexed = rw value_is (record {
          small = rw w.lists_left (small_part (j * side.most) degree (side.count * side.most) l (omega (arith, room, degree_most)) h.numbers);
          above = rw w.lists_left above;
        })

        pub walk_check : get_or (checks_of side) j [] ≡ bits_at lists value
        walk_check = rw (value_is, w.lists_left) check_at

        -- and at what follows
        pub walk_next : {most : ℕ} {last : List ℕ} → most ≡ side.most → last ≡ drop most lists → Walk side (j + 1) after last
        walk_next same e =
            let m : j * side.most + side.most ≡ (j + 1) * side.most = omega arith in
            record {
              degrees_left = (next_at ds j w.degrees_left next).1 ∙ rw (add-one j);
              lists_left = e ∙ rw (same, w.lists_left, drop-drop side.most (j * side.most) l, m);
            }
