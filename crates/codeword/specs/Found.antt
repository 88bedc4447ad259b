-- What a search of a list answers. Definitions only.
use Rattle.std.specs.Prelude.{◌≡◌, ℕ, ◌<◌, Option, MatchOption}

-- the place i among n of them, and nothing where i is n, for none
abbrev pub Finds : Option ℕ → ℕ → ℕ → Type 0
Finds answer i n = MatchOption answer (i ≡ n) (λ j. (j ≡ i) × (j < n))
