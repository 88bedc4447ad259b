-- What a writer wrote. Definitions only.
use Rattle.std.specs.Prelude.{◌≡◌, List, ℕ, ◌+◌, ◌≤◌, length}
use Rattle.text.specs.Appended.{Appended}
use Rattle.text.specs.declared.Writer.{Writer}

-- so many bytes can be written yet
abbrev pub Room : ℕ → Writer → Type 0
Room n w = w.written + n ≤ length w.bytes.now

-- `text` was written behind what was written before, to the same list
pub record Wrote (text : List ℕ) (old new : Writer) : Type 0 where
  pub bytes : Appended old.written text old.bytes.now new.bytes.now new.written
  pub same : new.bytes.ghost_name ≡ old.bytes.ghost_name
