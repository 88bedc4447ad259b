-- `session::refuse` meets its contract. Assumes nothing.
use Rattle.text.proofs.Appended.{lent, counted}
use Rattle.session.proofs.refuse.Goals as goal

pub returns : goal.returns
returns c =
    let line = c.refusal-written.ensures in
    record { ends = c.over.ensures; line = rw c.number.ensures at (lent line); within = (counted line).0 }
