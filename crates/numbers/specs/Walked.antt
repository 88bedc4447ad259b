-- A walk over the numbers of a text. Definitions only.
use Rattle.std.specs.Prelude.{◌≡◌, true, false, List, ◌∷◌, ℕ, suc, ◌≤◌, ◌<◌, leb, length, get_or, take, drop}
use Rattle.lists.specs.Entries.{every}
use Rattle.model.specs.Limits.{most_number}
use Rattle.model.specs.Alist.{separator, numbers_of}

-- told where there is no number: above all that a text can have
abbrev pub none : ℕ
none = suc (suc most_number)

-- l begins with so many numbers of at most 65,535
pub record Small (count : ℕ) (l : List ℕ) : Type 0 where
  pub long : count ≤ length l
  pub small : every (λ x. leb x most_number) (take count l) ≡ true

-- r is the text s behind the separators that it begins with
pub record Skipped (s r : List ℕ) : Type 0 where
  pub rest : numbers_of 0 r ≡ numbers_of 0 s
  pub starts : 0 < length r → separator (get_or r 0 0) ≡ false

-- the number that the text s begins with, where no separator stands, and what follows it
pub record Ended (s : List ℕ) (value : ℕ) (r : List ℕ) : Type 0 where
  pub list : 0 < length s → separator (get_or s 0 0) ≡ false → numbers_of 0 s ≡ value ∷ numbers_of 0 r
  pub most : value ≤ suc most_number

-- the first numbers of the text s, as many as there are values, and where they end
pub record Filled (s values : List ℕ) (end : ℕ) : Type 0 where
  pub list : values ≡ take (length values) (numbers_of 0 s)
  pub rest : numbers_of 0 (drop end s) ≡ drop (length values) (numbers_of 0 s)
  pub within : end ≤ length s
