use Rattle.integers.proofs.Prelude.{ap, [], ◌∷◌, arith, add-one, get_or, take, take-suc}
use Rattle.lists.proofs.Entries.{total_append}
use Rattle.model.specs.Words.{bit_at}
use Rattle.codeword.proofs.is_odd.Goals as goal

pub loop-i-preserved : goal.loop-i-preserved
loop-i-preserved c =
    let k = c.args.check.now in
    let x = bit_at c.args.word.now in (
      omega arith,
      rw (add-one c.loop-i.i, take-suc k c.loop-i.i 0 (omega arith))
          (omega (arith, total_append x (take c.loop-i.i k) (get_or k c.loop-i.i 0 ∷ []), ap x c.bit.ensures.value)),
    )
