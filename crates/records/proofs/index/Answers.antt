-- `records::index` meets its contract. Assumes nothing.
use Rattle.integers.proofs.Prelude.{sym, ◌∙◌}
use Rattle.records.proofs.Walk.{index_at}
use Rattle.records.proofs.index.Goals as goal

pub returns : goal.returns
returns c = (c.two_bytes.ensures.0 ∙ sym (index_at c.args.s.now c.args.i c.requires.1), c.two_bytes.ensures.1)
