-- `stream::twos_complement` meets its contract: both parts fit. Assumes nothing.
use Rattle.integers.proofs.Prelude.{◌≡◌, ℕ, ◌-◌, ◌≤◌, arith, lt-ltb, le-ltb, negsuc, ◌-ℤ◌, w16, to_z, to_z-of_z}
use mir.Val.{SFits}
use Rattle.integers.proofs.Machine.{unsigned}
use Rattle.program.specs.Frames.{twos_complement}
use Rattle.stream.proofs.Costs.{minus_one}
use Rattle.stream.proofs.twos_complement.Goals as goal

below : (y : ℕ) → y ≤ 32767 → negsuc 0 -ℤ to_z w16 y ≡ negsuc y
below y h = rw (unsigned w16 y 32767 tt h).is (minus_one y)

fits : (y : ℕ) → y ≤ 32767 → SFits w16 (negsuc 0 -ℤ to_z w16 y)
fits y h = rw (below y h) (record { sfits = omega arith })

pub overflow_sub-result-else-x-lt32768 : goal.overflow_sub-result-else-x-lt32768
overflow_sub-result-else-x-lt32768 c = fits (65535 - c.args.x) (omega arith)

pub returns-then-x-lt32768 : goal.returns-then-x-lt32768
unfolding twos_complement
returns-then-x-lt32768 c = let x = c.args.x in rw ((unsigned w16 x 32767 tt (omega arith)).is, lt-ltb x 32768 c.if-x-lt32768.true)

pub returns-else-x-lt32768 : goal.returns-else-x-lt32768
unfolding twos_complement
returns-else-x-lt32768 c =
    let x = c.args.x in
    rw (to_z-of_z (fits (65535 - x) (omega arith)), below (65535 - x) (omega arith), le-ltb x 32768 c.if-x-lt32768.false)
