-- `lane_values::write_all_auxiliaries` meets its contract. Assumes nothing.
use Rattle.integers.proofs.Prelude.{◌≡◌, refl, ◌∙◌, ◌*◌, arith, rules}
use native.Mathlib.Nat.{mul-le-mul_left}
use Rattle.model.specs.Iteration.{divisor}
use Rattle.lane_values.proofs.Valued.{handed_auxiliaries, stored_auxiliaries}
use Rattle.lane_values.proofs.Tables.{entry_is}
use Rattle.lane_values.proofs.write_all_auxiliaries.Goals as goal

pub write_auxiliaries-requires-clause-from_le_to : goal.write_auxiliaries-requires-clause-from_le_to
write_auxiliaries-requires-clause-from_le_to c = (
  mul-le-mul_left c.args.p.lanes c.requires.fits.0.bits,
  handed_auxiliaries c.args.p c.args.i c.values_at.ensures c.sums_at-then-first-p.ensures c.sums_at.ensures c.requires.fits.0 c.requires.fits.1 refl,
)

-- an auxiliary is in two triples
pub returns-then-first-p : goal.returns-then-first-p
returns-then-first-p c =
    let a = c.args in
    let two : c.from-count.result ≡ 2 = c.from-count.ensures ∙ c.requires.fits.2.auxiliaries a.p.bits (omega arith) c.if-first-p.true in
    let d = entry_is a.divisors.now.any a.divisors.now.narrow c.from-count.result 2 c.index-divisors-count.result (search rules) two (omega arith) (omega arith) a.divisors.now.narrow_for in
    stored_auxiliaries a.p a.i c.values_at.ensures c.sums_at-then-first-p.ensures c.sums_at.ensures (divisor (4 * 2) a.divisors.now.any) (rw d at c.write_auxiliaries.ensures)
