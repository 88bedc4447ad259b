-- The first bits are in the row.
use Rattle.integers.proofs.Prelude.{◌≡◌, refl, sym, ap, ap₂, ◌∙◌, List, [], ◌∷◌, ◌++◌, ℕ, suc, ◌-◌, ◌≤◌, ◌<◌, arith, add-one, length}
use Rattle.integers.proofs.Prelude.{get_or, take, drop, set, length-set, length-take-le, take_all, take-suc}
use lib.Seq.{take-suc-set}
use Rattle.model.specs.Limits.{most_number}
use Rattle.importer.specs.Rows.{bits_at}
use Rattle.importer.proofs.Indices.{length_bits, index_known, index_at}
use Rattle.importer.proofs.write_row.Goals as goal
use Rattle.importer.proofs.write_row.Goals.{After-known, After-loop-i}

pub loop-i-init : goal.loop-i-init
loop-i-init c = (refl, refl, c.again-indices.ensures)

pub known-requires : goal.known-requires
known-requires c = index_known c.requires.indexed c.loop-i.i c.loop-i-test.true c.loop-i.invariant.2

-- the index at hand
index : (c : After-known) → (1 ≤ c.known.result) × (c.known.result ≤ most_number) × (get_or (bits_at c.args.row.now c.args.degree) c.loop-i.i 0 ≡ c.known.result - 1)
    × (c.known.new.self ≡ drop (suc c.loop-i.i) c.args.row.now)
index c = index_at c.requires.indexed c.loop-i.i c.loop-i-test.true c.loop-i.invariant.2 c.known.ensures

pub overflow_sub-bits : goal.overflow_sub-bits
overflow_sub-bits c = (index (goal.at.overflow_sub-bits c).After-known).0

pub bounds-bits-i : goal.bounds-bits-i
bounds-bits-i c = omega (arith, c.loop-i-test.true, c.requires.degree)

pub loop-i-preserved : goal.loop-i-preserved
loop-i-preserved c =
    let v = c.loop-i in
    let i = v.i in
    let bits = bits_at c.args.row.now c.args.degree in
    let x = c.known.result in
    let k = index (goal.at.loop-i-preserved c).After-known in
    let here : i < length v.bits = omega (arith, c.loop-i-test.true, c.requires.degree, v.invariant.1) in
    let there : i < length bits = omega (arith, c.loop-i-test.true, length_bits c.requires.indexed) in
    let next : take (suc i) (set v.bits i (x - 1)) ≡ take (suc i) bits
    = take-suc-set v.bits i (x - 1) here ∙ ap₂ (λ (l : List ℕ) (x : ℕ). l ++ (x ∷ [])) v.invariant.0 (sym k.2) ∙ sym (take-suc bits i 0 there) in
    rw (add-one i) (next, length-set v.bits i (x - 1) ∙ v.invariant.1, k.3)

-- ---- the row is read
module _ (c : After-loop-i) where
  long_enough : c.args.degree ≤ length c.loop-i.bits
  long_enough = omega (arith, c.requires.degree, c.loop-i.invariant.1)

  row_is : take c.args.degree c.loop-i.bits ≡ bits_at c.args.row.now c.args.degree
  row_is =
      let v = c.loop-i in
      let all = bits_at c.args.row.now c.args.degree in
      let e : v.i ≡ c.args.degree = omega arith in
      ap (λ (n : ℕ). take n v.bits) (sym e) ∙ v.invariant.0 ∙ take_all v.i all (omega (arith, length_bits c.requires.indexed))

  row_long : length (take c.args.degree c.loop-i.bits) ≡ c.args.degree
  row_long = length-take-le c.args.degree c.loop-i.bits long_enough

pub write_check-requires-clause-degree : goal.write_check-requires-clause-degree
write_check-requires-clause-degree c = omega (arith, row_long (goal.at.write_check-requires-clause-degree c).After-loop-i, c.requires.degree)

pub write_check-requires-clause-room : goal.write_check-requires-clause-room
write_check-requires-clause-room c = omega (arith, row_long (goal.at.write_check-requires-clause-room c).After-loop-i, c.requires.room)

pub returns : goal.returns
returns c = rw (← row_is (goal.at.returns c).After-loop-i) c.write_check.ensures
