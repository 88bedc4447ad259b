-- How the counts are formed. Definitions only.
use Rattle.std.specs.Prelude.{cond, List, ℕ, ◌+◌, eqb, get_or, set}
use Rattle.model.specs.Splitting.{blank}

-- one more at v; the blank has no count
abbrev pub counted : List ℕ → ℕ → List ℕ
counted l v = cond (eqb v blank) l (set l v (get_or l v 0 + 1))
