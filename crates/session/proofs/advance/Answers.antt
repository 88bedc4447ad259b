-- `session::advance` meets its contract: each part has its function. Assumes nothing.
use Rattle.session.proofs.Steps.{stays}
use Rattle.integers.proofs.Prelude.{rules}
use Rattle.session.proofs.advance.Goals as goal

pub returns-in-Over : goal.returns-in-Over
returns-in-Over c = stays _ _ _ _ c.requires (search rules)
