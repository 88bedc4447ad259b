-- `Writer::field` meets its contract: the digits, then the byte. Assumes nothing.
use Rattle.integers.proofs.Prelude.{arith}
use Rattle.text.proofs.Decimals.{decimal_few}
use Rattle.text.proofs.Wrote.{then}
use Rattle.text.proofs.Writer.field.Goals as goal

pub returns : goal.returns
returns c = record {
  text = then c.number.ensures c.byte.ensures;
  short = omega (arith, decimal_few c.args.x (omega (arith, c.ranges)), c.number.ensures.bytes.ends, c.byte.ensures.bytes.ends);
}
