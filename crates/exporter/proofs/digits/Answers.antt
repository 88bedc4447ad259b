-- `exporter::digits` meets its contract: a tenth has a digit less. Assumes nothing.
use Rattle.integers.proofs.Prelude.{◌/◌, arith}
use Rattle.exporter.proofs.Lines.{one_digit, more_digits}
use Rattle.exporter.proofs.digits.Goals as goal

pub returns-then-x-lt10 : goal.returns-then-x-lt10
returns-then-x-lt10 c = omega (arith, one_digit c.args.x c.if-x-lt10.true)

pub returns-then-x-lt100 : goal.returns-then-x-lt100
returns-then-x-lt100 c = let x = c.args.x in omega (arith, more_digits x (omega arith), one_digit (x / 10) (omega arith))

pub returns-then-x-lt1000 : goal.returns-then-x-lt1000
returns-then-x-lt1000 c =
    let x = c.args.x in
    omega (arith, more_digits x (omega arith), more_digits (x / 10) (omega arith), one_digit (x / 10 / 10) (omega arith))

pub returns-then-x-lt10000 : goal.returns-then-x-lt10000
returns-then-x-lt10000 c =
    let x = c.args.x in
    omega (
      arith,
      more_digits x (omega arith),
      more_digits (x / 10) (omega arith),
      more_digits (x / 10 / 10) (omega arith),
      one_digit (x / 10 / 10 / 10) (omega arith),
    )

pub returns-else-x-lt10000 : goal.returns-else-x-lt10000
returns-else-x-lt10000 c =
    let x = c.args.x in
    omega (
      arith,
      more_digits x (omega arith),
      more_digits (x / 10) (omega arith),
      more_digits (x / 10 / 10) (omega arith),
      more_digits (x / 10 / 10 / 10) (omega arith),
      one_digit (x / 10 / 10 / 10 / 10) (omega arith),
    )
