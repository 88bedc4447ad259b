use Rattle.std.proofs.lemmas.Result.{err_from_is_err_and}
use Rattle.integers.proofs.Prelude.{arith}
use Rattle.model.specs.Splitting.{system_of}
use Rattle.model.proofs.Told.{determined}
use Rattle.triples.proofs.Splits.{unsound, triples_short, counts_short, split}
use Rattle.triples.proofs.split.Goals as goal
use Rattle.triples.proofs.split.Goals.{then-triples-via-then-triples, then-triples-via-else-triples+then-counts-variables}

pub returns-in_err-code : goal.returns-in_err-code
returns-in_err-code c =
    let p = err_from_is_err_and c.from_residual.result c.from_residual.ensures.1 in
    rw (p.1, p.2) (unsound _ _ _ _ c.in_err-code.ensures.number (determined.refuses _).0)

pub returns-then-triples : goal.returns-then-triples
returns-then-triples c =
    let n = c.in_ok-code.ensures.number in
    let k = c.in_ok-code.ensures.code in
    elim c.then-triples.branch [
      | then-triples-via-then-triples w ↦ triples_short _ _ _ n _ k (omega (arith, c.triples.ensures.value, w.if-triples.true))
      | then-triples-via-else-triples+then-counts-variables w ↦
          counts_short _ _ _ n _ k (omega (arith, c.triples.ensures.value, w.if-triples.false)) (omega (arith, w.variables.ensures.value, w.if-counts-variables.true))
    ]

pub write_system-requires : goal.write_system-requires
unfolding system_of
write_system-requires c =
    record { room = (omega (arith, c.triples.ensures.value, c.if-triples.false), omega (arith, c.variables.ensures.value, c.if-counts-variables.false)) }

pub returns : goal.returns
returns c =
    split _ _ _ c.in_ok-code.ensures.number _ c.in_ok-code.ensures.code (omega (arith, c.triples.ensures.value, c.if-triples.false))
    (omega (arith, c.variables.ensures.value, c.if-counts-variables.false)) _ _ c.write_system.ensures.triples_after c.write_system.ensures.counts_after
