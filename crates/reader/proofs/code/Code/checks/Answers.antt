use Rattle.integers.proofs.Prelude.{sym}
use Rattle.reader.proofs.Known.{code_sound, records_judged, records_are}
use Rattle.reader.proofs.code.Code.checks.Goals as goal

pub invariant_of-result : goal.invariant_of-result
invariant_of-result c = rw c.after_header.ensures (records_judged _ _ c.self.invariant)

pub returns-clause-value : goal.returns-clause-value
returns-clause-value c = rw (c.after_header.ensures, sym c.self.view_is) (records_are _ _ c.self.invariant)

pub returns-clause-sound : goal.returns-clause-sound
returns-clause-sound c = rw (sym c.self.view_is) (code_sound _ _ c.self.invariant)
