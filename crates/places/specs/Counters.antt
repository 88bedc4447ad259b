-- What the counters of a window mean, and what it is that columns and rows agree in a window. Definitions only.
use Rattle.std.specs.Prelude.{◌≡◌, Bool, true, false, ◌&&◌, List, [], ◌∷◌, ℕ, suc, ◌+◌, ◌-◌, ◌*◌, ◌/◌, ◌%◌, ◌≤◌, ◌<◌, eqb, length, get_or, take, drop}
use Rattle.model.specs.Causes.{◌if◌}
use Rattle.model.specs.Limits.{most_number}
use Rattle.model.specs.Alist.{times}
use Rattle.places.specs.declared.Window.{Window}

-- so many counters a window can have
abbrev pub most_counters : ℕ
most_counters = 131072

-- ---- agreement
-- the i-th list of `most` numbers
abbrev pub list_at : ℕ → List ℕ → ℕ → List ℕ
list_at most l i = take most (drop (i * most) l)

-- columns and rows name each place of the window equally often: l are the numbers of its rows and what follows, k those of its columns
abbrev pub Agrees : Window → ℕ → List ℕ → ℕ → List ℕ → Type 0
Agrees w row_most l column_most k =
    (r c : ℕ) → r < w.height → c < w.width → times (suc (w.left + c)) (list_at row_most l r) ≡ times (suc (w.top + r)) (list_at column_most k c)

-- t tells whether
pub record Tells (t : Bool) (holds : Type 0) : Type 0 where
  pub so : t ≡ true → holds
  pub not_so : t ≡ false → holds → ⊥

-- ---- counters
-- how often x is in the a-th list of `most` numbers, as far as l goes, of which the first is the q-th number
abbrev pub times_in : ℕ → ℕ → ℕ → ℕ → List ℕ → ℕ
times_in most a x q [] = 0
times_in most a x q (v ∷ l) = 1 if (eqb (q / most) a && eqb x v) + times_in most a x (suc q) l

-- how often l names the window's p-th place: numbers of its rows, and of its columns
abbrev pub in_rows : Window → ℕ → ℕ → List ℕ → ℕ → ℕ
in_rows w most q l p = times_in most (p / w.width) (suc (w.left + p % w.width)) q l

abbrev pub in_columns : Window → ℕ → ℕ → List ℕ → ℕ → ℕ
in_columns w most q l p = times_in most (p % w.width) (suc (w.top + p / w.width)) q l

-- m is l with f p more at each p
pub record More (f : ℕ → ℕ) (l m : List ℕ) : Type 0 where
  pub long : length m ≡ length l
  pub each : (p : ℕ) → p < length l → get_or m p 0 ≡ get_or l p 0 + f p

-- f is above l at some place
abbrev pub Above : (ℕ → ℕ) → List ℕ → Type 0
Above f l = (p : ℕ) × (p < length l) × (get_or l p 0 < f p)

abbrev pub Zeros : List ℕ → Type 0
Zeros l = (p : ℕ) → get_or l p 0 ≡ 0

-- no more is counted at a place than was read of its row, up to the q-th number: so one more fits 16 bits
abbrev pub Room : Window → ℕ → ℕ → List ℕ → Type 0
Room w most q l = (p : ℕ) → get_or l p 0 ≤ q - p / w.width * most

-- a window of two sides, with so many counters
pub record Inside (w : Window) (size : ℕ) : Type 0 where
  pub wide : 1 ≤ w.width
  pub rows : w.top + w.height ≤ most_number
  pub columns : w.left + w.width ≤ most_number
  pub counters : size ≡ w.height * w.width

-- the numbers of a block, from the first on, are among those of so many lists
pub record Block (most first size lists : ℕ) : Type 0 where
  pub some : 1 ≤ most
  pub small : most ≤ most_number
  pub within : first + size ≤ lists * most
