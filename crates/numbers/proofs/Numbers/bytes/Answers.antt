use Rattle.model.proofs.Spelling.{numbers_room}
use Rattle.numbers.proofs.Numbers.bytes.Goals as goal

pub returns : goal.returns
returns c = rw (← c.self.view_is) (numbers_room c.self.inside.text.now)
