-- How S is formed: shares of groups of triples, which are then given to the triples' variables. Definitions only.
use Rattle.std.specs.Prelude.{List, ◌≡◌, ℕ, ◌+◌, ◌-◌, ◌*◌, ◌%◌, ◌≤◌, ◌<◌, ℤ, length}
use Rattle.lists.specs.Tabulated.{tab}
use Rattle.model.specs.Limits.{most_triples, most_done}
use Rattle.model.specs.Splitting.{member, Members}
use Rattle.model.specs.Iteration.{at, share, sum_of}
use Rattle.model.specs.Bounds.{RowsWithin}

-- l has the sums of N variables over the first t triples, whose rows are in s
pub record Summed (ts : List ℕ) (N t : ℕ) (s l : List ℤ) : Type 0 where
  pub named : Members ts N
  pub within : RowsWithin most_done s
  pub are : l ≡ tab N (sum_of ts t s)

-- the triple at i of us is triple t of ts
abbrev pub SameTriple : List ℕ → ℕ → List ℕ → ℕ → Type 0
SameTriple ts t us i = (p : ℕ) → p < 3 → member us i p ≡ member ts t p

-- triple t of ts, which is the triple at i of us, comes next: l has the sums over those before it, and x its shares
pub record Due (ts : List ℕ) (N t : ℕ) (s l : List ℤ) (us : List ℕ) (i : ℕ) (x : List ℤ) : Type 0 where
  pub summed : Summed ts N t s l
  pub few : t < most_triples
  pub room : 3 * t + 2 < length ts
  pub same : SameTriple ts t us i
  pub shares : x ≡ tab 3 (share s t)

-- us has n triples of ts, those from t on
abbrev pub Copied : List ℕ → ℕ → ℕ → List ℕ → Type 0
Copied ts t n us = (i : ℕ) → i < n → SameTriple ts (t + i) us i

-- q has their shares: that of the i-th of them at position p is entry 32p + i
abbrev pub Shared : List ℤ → ℕ → ℕ → List ℤ → Type 0
Shared s t n q = (p i : ℕ) → p < 3 → i < n → at q (32 * p + i) ≡ share s (t + i) p

-- a group: n triples of ts, those from t on, in us, and their shares in q
pub record Group (ts : List ℕ) (s : List ℤ) (t n : ℕ) (us : List ℕ) (q : List ℤ) : Type 0 where
  pub few : t + n ≤ most_triples
  pub room : 3 * (t + n) ≤ length ts
  pub copied : Copied ts t n us
  pub shared : Shared s t n q

-- the n triples from t on are fours of T triples
pub record InFours (T t n : ℕ) : Type 0 where
  pub first : T % 4 ≤ t
  pub whole : (T - t) % 4 ≡ 0
  pub room : t + n ≤ T
