-- A whole check record. Definitions only.
use Rattle.std.specs.Prelude.{List, ℕ, ◌+◌, ◌*◌, ◌≤◌, length}
use Rattle.model.specs.Records.{degree}

-- s begins with a check record whose indices are all there
abbrev pub Whole : List ℕ → Type 0
Whole s = 3 + 2 * degree s ≤ length s
