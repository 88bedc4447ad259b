-- `records::after_check` meets its contract. Assumes nothing.
use Rattle.integers.proofs.Prelude.{◌∙◌, ◌+◌, ◌*◌}
use Rattle.lists.proofs.Parts.{part_from}
use Rattle.records.proofs.after_check.Goals as goal

pub returns : goal.returns
returns c = part_from (3 + 2 * c.degree.result) c.args.s.now ∙ rw c.degree.ensures.0
