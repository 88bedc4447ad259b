-- Document 02, L1, of every text and code: what 18 and 19 mean, what is imported, and that import and export belong together. Statements only; the proofs are
-- in proofs/Spelling.antt (how numbers are written), Agreement.antt (19), AlistText.antt (all of a text) and AlistTrips.antt (import and export).
use Rattle.std.specs.Prelude.{◌≡◌, true, List, [], ◌∷◌, ◌++◌, map, ◌↔◌, ℕ, suc, ◌+◌, ◌-◌, ◌*◌, ◌≤◌, leb, ltb, length, get_or, take}
use Rattle.lists.specs.Tabulated.{written}
use Rattle.lists.specs.Entries.{every, Each}
use Rattle.model.specs.Limits.{most_number}
use Rattle.model.specs.Code.{Code}
use Rattle.model.specs.Records.{code_of, judge, records_of}
use Rattle.model.specs.RecordClaims.{judge_code}
use Rattle.model.specs.Sound.{Sound}
use Rattle.model.specs.Alist.{separator, numbers_of, well_formed, times, agree, named, columns, rows, lines_of, judge_text, alist_of}
use Rattle.model.specs.Alist.{code_of_text, Writing, importer, exporter}

-- ---- how numbers are written
-- "Numbers are decimal digits"
abbrev pub Digits : List ℕ → Type 0
Digits s = Each (λ b. (48 ≤ b) × (b ≤ 57)) s

-- their value, after digits whose value is x
abbrev pub value_of : ℕ → List ℕ → ℕ
value_of x [] = x
value_of x (b ∷ s) = value_of (10 * x + (b - 48)) s

-- "spaces or line feeds, any count of them"
abbrev pub Separators : List ℕ → Type 0
Separators s = every separator s ≡ true

-- nothing follows, or a separator
abbrev pub Apart : List ℕ → Type 0
Apart [] = Unit {0}
Apart (b ∷ s) = separator b ≡ true

-- s begins with separators and a number, and the rest follows
pub record Begins (s : List ℕ) (x : ℕ) (rest : List ℕ) : Type 0 where
  pub before : List ℕ
  pub digits : List ℕ
  pub text : s ≡ before ++ (digits ++ rest)
  pub separators : Separators before
  pub decimal : Digits digits
  pub some : 1 ≤ length digits
  pub value : value_of 0 digits ≡ x
  pub small : x ≤ most_number
  pub apart : Apart rest

-- s writes the numbers l: "decimal digits, at most 65,535 in value, between spaces or line feeds, any count of them, also first and last"
abbrev pub Spells : List ℕ → List ℕ → Type 0
Spells s [] = Separators s
Spells s (x ∷ l) = (rest : List ℕ) × Begins s x rest × Spells rest l

-- ---- what 18 and 19 mean
-- one behind the other
abbrev pub joined : List (List ℕ) → List ℕ
joined [] = []
joined (l ∷ ls) = l ++ joined ls

-- s is an alist text with the columns cs and the rows rs, "indices from 1": it writes the numbers of such a file
pub record AlistText (s : List ℕ) (cs rs : List (List ℕ)) : Type 0 where
  pub numbers : Spells s (joined (lines_of cs rs))
  pub column_indices : every (every (ltb 0)) cs ≡ true
  pub row_indices : every (every (ltb 0)) rs ≡ true

-- "columns and rows … name the same places, each equally often": row r names column c as often as column c names row r, for all r and c
abbrev pub SamePlaces : List (List ℕ) → List (List ℕ) → Type 0
SamePlaces cs rs = (r c : ℕ) → times (suc c) (get_or rs r []) ≡ times (suc r) (get_or cs c [])

-- the code of the rows rs, with a bit for each of the columns cs
abbrev pub code_for : List (List ℕ) → List (List ℕ) → Code
code_for cs rs = record { bits = length cs; checks = map (map (λ i. i - 1)) rs }

pub record TextClaims (s : List ℕ) : Type 0 where
  -- the numbers of a text, where each is at most 65,535
  pub spelled : (l : List ℕ) → Spells s l ↔ ((numbers_of 0 s ≡ l) × (every (λ x. leb x most_number) l ≡ true))
  -- 18 is for what is no alist text, of which there is one reading
  pub form : (well_formed (numbers_of 0 s) ≡ true) ↔ ((cs : List (List ℕ)) × (rs : List (List ℕ)) × AlistText s cs rs)
  pub only : (cs rs : List (List ℕ)) → AlistText s cs rs
      → (named (columns (numbers_of 0 s)) ≡ cs) × (named (rows (numbers_of 0 s)) ≡ rs) × (code_of_text s ≡ code_for cs rs)
  -- 19 is for an alist text whose columns and rows do not name the same places
  pub places : (cs rs : List (List ℕ)) → (agree cs rs ≡ true) ↔ SamePlaces cs rs
  pub eighteen : (judge_text s ≡ 18) ↔ ((cs rs : List (List ℕ)) → AlistText s cs rs → ⊥)
  pub nineteen : (judge_text s ≡ 19) ↔ ((cs : List (List ℕ)) × (rs : List (List ℕ)) × AlistText s cs rs × (SamePlaces cs rs → ⊥))
  -- "3 to 8 then apply to the rows"
  pub after : (cs rs : List (List ℕ)) → AlistText s cs rs → SamePlaces cs rs → judge_text s ≡ judge_code (code_for cs rs)
  -- so the accepted texts are these
  pub accepted : (judge_text s ≡ 0) ↔ ((cs : List (List ℕ)) × (rs : List (List ℕ)) × AlistText s cs rs × SamePlaces cs rs
      × Sound (code_for cs rs))
  -- an index of n or above is 19 before it could be 5
  pub never_five : judge_text s ≡ 5 → ⊥
  -- the records of an accepted text are not longer than it
  pub fits : judge_text s ≡ 0 → length (records_of (code_of_text s)) ≤ length s

-- ---- import and export belong together
-- "Importing an export gives the same records.": of a code
pub record CodeTrip (k : Code) : Type 0 where
  pub judged : judge_text (alist_of k) ≡ 0
  pub code : code_of_text (alist_of k) ≡ k

-- what a call wrote
abbrev pub result : Writing → List ℕ
result a = take a.bytes a.list

-- an accepted export a of the records b, imported
pub record ExportTrip (b : List ℕ) (a : Writing) : Type 0 where
  pub back : (old : List ℕ) → length b ≤ length old → importer (result a) old ≡ record { number = 0; bytes = length b; list = written b old }

-- an accepted import a, whose records are those of an accepted code: their export is a normal form of the text
pub record ImportTrip (a : Writing) : Type 0 where
  pub accepted : judge (result a) ≡ 0
  pub text : (old : List ℕ) → length (alist_of (code_of (result a))) ≤ length old
      → ((exporter (result a) old).number ≡ 0) × (result (exporter (result a) old) ≡ alist_of (code_of (result a)))
  -- importing it gives the same records
  pub same : (old : List ℕ) → a.bytes ≤ length old
      → importer (alist_of (code_of (result a))) old ≡ record { number = 0; bytes = a.bytes; list = written (result a) old }
  -- and exporting these the same text
  pub again : (old old' : List ℕ) → a.bytes ≤ length old → length (alist_of (code_of (result a))) ≤ length old'
      → result (exporter (result (importer (alist_of (code_of (result a))) old)) old') ≡ alist_of (code_of (result a))
