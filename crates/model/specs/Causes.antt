-- The numbers of causes, and how the number of a call is found. Definitions only.
use Rattle.std.specs.Prelude.{Bool, true, false, ◌||◌, List, [], ◌∷◌, ℕ, zero, suc, ltb, length, Result, Ok, Err}
use Rattle.model.specs.declared.Cause.{Cause}
use Rattle.model.specs.declared.Cause.TheVariants.{Cut, Mark, Size, Degree, Index, Order, Triples, Uncovered, Trailing, Room}
use Rattle.model.specs.declared.Cause.TheVariants.{Setting, Lengths, Cost, Sample, Entry, Text, Places, Long, Frames}

-- ---- the table of numbers
abbrev pub number : Cause → ℕ
number Cut = 1
number Mark = 2
number Size = 3
number Degree = 4
number Index = 5
number Order = 6
number Triples = 7
number Uncovered = 8
number Trailing = 9
number Room = 10
number Setting = 11
number Lengths = 12
number Cost = 13
number Sample = 14
number Entry = 15
number Text = 18
number Places = 19
number Long = 20
number Frames = 21

-- of a call: 0 is success
abbrev pub number_of : {A : Type 0} → Result A Cause → ℕ
number_of (Ok x) = 0
number_of (Err cause) = number cause

-- what a call counts, 0 where it is refused
abbrev pub count_of : Result ℕ Cause → ℕ
count_of (Ok n) = n
count_of (Err cause) = 0

-- ---- how a number is found

-- the number where the test passes, otherwise 0
infix 80 ◌if◌
abbrev pub ◌if◌ : ℕ → Bool → ℕ
n if true = n
n if false = 0

-- "A number comes only when its cause holds and no earlier one does": the first that is not 0, and 0 where there is none
abbrev pub first_of : List ℕ → ℕ
first_of [] = 0
first_of (zero ∷ l) = first_of l
first_of (suc n ∷ l) = suc n

-- l has fewer than n entries
abbrev pub short : {A : Type 0} → ℕ → List A → Bool
short n l = ltb (length l) n

-- x is outside low..high
abbrev pub outside : ℕ → ℕ → ℕ → Bool
outside low high x = ltb x low || ltb high x

-- what a call gives where the cause is 0, and where it is refused
abbrev pub accepted : {A : Type 0} → ℕ → A → A → A
accepted zero x other = x
accepted (suc c) x other = other
