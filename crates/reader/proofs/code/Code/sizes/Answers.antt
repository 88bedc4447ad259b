use Rattle.integers.proofs.Prelude.{sym}
use Rattle.reader.proofs.Known.{code_sound}
use Rattle.reader.proofs.code.Code.sizes.Goals as goal

pub returns-clause-sound : goal.returns-clause-sound
returns-clause-sound c = rw (sym c.self.view_is) (code_sound _ _ c.self.invariant)
