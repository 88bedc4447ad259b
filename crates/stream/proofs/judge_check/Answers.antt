-- `stream::judge_check` meets its contract: the record's cause, then the triples with its own. Assumes nothing.
use Rattle.integers.proofs.Prelude.{sym, arith}
use Rattle.model.proofs.Accepted.{record_sound}
use Rattle.stream.proofs.judge_check.Goals as goal

pub triple_count-requires : goal.triple_count-requires
triple_count-requires c = omega (arith, (record_sound c.args.bits c.args.s.now (sym c.in_ok-judge_check.ensures)).room)
