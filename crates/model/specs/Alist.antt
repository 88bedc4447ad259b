-- Document 02, L1, "Codes from planners' alist files": what a text says, its judgement, the text of a code, and the calls. Definitions only.
-- A text is read as numbers (`numbers_of`, total), the numbers as two sides of lists (`columns`, `rows`), the rows as a code (`code_in`).
use Rattle.std.specs.Prelude.{Bool, true, false, not, cond, ◌&&◌, ◌||◌, List, [], ◌∷◌, ◌++◌, map, ℕ, zero, suc, ◌+◌, ◌-◌, ◌*◌, min, max, leb, ltb, eqb, length, get_or, take, drop, replicate}
use Rattle.lists.specs.Tabulated.{tab, written}
use Rattle.lists.specs.Entries.{every, some, total}
use Rattle.model.specs.Limits.{most_number}
use Rattle.model.specs.Causes.{◌if◌, first_of, short, outside, accepted}
use Rattle.model.specs.Code.{Code}
use Rattle.model.specs.Records.{code_of, judge, records_of}
use Rattle.model.specs.RecordClaims.{code_causes}
use Rattle.model.specs.Text.{decimal}

-- ---- the numbers of a text
-- "between spaces or line feeds"
abbrev pub separator : ℕ → Bool
separator b = eqb b 32 || eqb b 10

-- "Numbers are decimal digits, at most 65,535 in value": a number that is x so far, with one byte more. What is no such number reads as 65,536.
abbrev pub further : ℕ → ℕ → ℕ
further x b = cond (outside 48 57 b) (suc most_number) (min (suc most_number) (10 * x + (b - 48)))

-- the number that ends here, if one was begun: begun is 0 between numbers, and suc x in one that is x so far
abbrev pub ended : ℕ → List ℕ → List ℕ
ended zero l = l
ended (suc x) l = x ∷ l

-- "any count of them, also first and last": the numbers of a text, of which the first may be begun
unfoldable pub numbers_of : ℕ → List ℕ → List ℕ
numbers_of begun [] = ended begun []
numbers_of begun (b ∷ s) = cond (separator b) (ended begun (numbers_of 0 s)) (numbers_of (suc (further (begun - 1) b)) s)

-- ---- a side of the file: the columns, or the rows
pub record Side : Type 0 where
  -- "the largest column and row degree"
  pub most : ℕ
  -- "column degrees, row degrees"
  pub degrees : List ℕ
  -- "the columns' lists and the rows' lists", with what fills them
  pub lists : List (List ℕ)

-- so many lists of so many numbers: "each column or row list is filled to its maximum"
abbrev pub pieces : ℕ → ℕ → List ℕ → List (List ℕ)
pieces zero size l = []
pieces (suc count) size l = take size l ∷ pieces count size (drop size l)

-- "n and m, the largest column and row degree, column degrees, row degrees, then the columns' lists and the rows' lists": the parts of the numbers l, each with
-- what follows it
abbrev pub column_degrees : List ℕ → List ℕ
column_degrees l = drop 4 l

abbrev pub row_degrees : List ℕ → List ℕ
row_degrees l = drop (get_or l 0 0) (column_degrees l)

abbrev pub column_lists : List ℕ → List ℕ
column_lists l = drop (get_or l 1 0) (row_degrees l)

abbrev pub row_lists : List ℕ → List ℕ
row_lists l = drop (get_or l 0 0 * get_or l 2 0) (column_lists l)

abbrev pub side_of : ℕ → ℕ → List ℕ → List ℕ → Side
side_of count most degrees lists = record { most = most; degrees = take count degrees; lists = pieces count most lists }

abbrev pub columns : List ℕ → Side
columns l = side_of (get_or l 0 0) (get_or l 2 0) (column_degrees l) (column_lists l)

abbrev pub rows : List ℕ → Side
rows l = side_of (get_or l 1 0) (get_or l 3 0) (row_degrees l) (row_lists l)

abbrev pub number_count : List ℕ → ℕ
number_count l = 4 + (get_or l 0 0 + (get_or l 1 0 + (get_or l 0 0 * get_or l 2 0 + get_or l 1 0 * get_or l 3 0)))

-- ---- 18
-- "its largest degree (0 where there is none)"
abbrev pub largest : List ℕ → ℕ
largest [] = 0
largest (d ∷ ds) = max d (largest ds)

-- "first its degree's count of indices and then zeros"
abbrev pub filled : ℕ → List ℕ → Bool
filled zero [] = true
filled zero (x ∷ l) = eqb x 0 && filled zero l
filled (suc d) [] = false
filled (suc d) (x ∷ l) = ltb 0 x && filled d l

abbrev pub all_filled : List ℕ → List (List ℕ) → Bool
all_filled [] [] = true
all_filled [] (l ∷ ls) = false
all_filled (d ∷ ds) [] = false
all_filled (d ∷ ds) (l ∷ ls) = filled d l && all_filled ds ls

abbrev pub sound_side : Side → Bool
sound_side s = eqb s.most (largest s.degrees) && all_filled s.degrees s.lists

-- 18 otherwise: "text that is not such numbers, too few or too many of them, a list that is not first its degree's count of indices and then zeros, or a
-- maximum that is not its largest degree"
unfoldable pub well_formed : List ℕ → Bool
well_formed l = every (λ x. leb x most_number) l && (eqb (length l) (number_count l) && (sound_side (columns l) && sound_side (rows l)))

-- ---- 19
-- the indices that each list names
abbrev pub listed : List ℕ → List (List ℕ) → List (List ℕ)
listed [] ls = []
listed (d ∷ ds) [] = []
listed (d ∷ ds) (l ∷ ls) = take d l ∷ listed ds ls

abbrev pub named : Side → List (List ℕ)
named s = listed s.degrees s.lists

-- how often l names x
abbrev pub times : ℕ → List ℕ → ℕ
times x l = total (λ y. 1 if eqb x y) l

-- no index above u
abbrev pub up_to : ℕ → List (List ℕ) → Bool
up_to u ls = every (every (λ i. leb i u)) ls

-- 19 otherwise: "when columns and rows do not name the same places, each equally often". Indices count from 1; one above the other side's count names no place
-- there.
unfoldable pub agree : List (List ℕ) → List (List ℕ) → Bool
agree cs rs =
    up_to (length rs) cs && (up_to (length cs) rs
    && every (λ r. every (λ c. eqb (times (suc c) (get_or rs r [])) (times (suc r) (get_or cs c []))) (tab (length cs) (λ c. c))) (tab (length rs) (λ r. r)))

-- ---- import
-- "3 to 8 then apply to the rows", whose indices count from 1
unfoldable pub code_in : List ℕ → Code
code_in l = record { bits = get_or l 0 0; checks = map (map (λ i. i - 1)) (named (rows l)) }

-- the code of a text
abbrev pub code_of_text : List ℕ → Code
code_of_text s = code_in (numbers_of 0 s)

-- "Both come in front of the record causes, 18 first": the causes of the numbers of a text
abbrev pub number_causes : List ℕ → List ℕ
number_causes l = 18 if not (well_formed l) ∷ 19 if not (agree (named (columns l)) (named (rows l))) ∷ code_causes (code_in l)

unfoldable pub judge_text : List ℕ → ℕ
judge_text s = first_of (number_causes (numbers_of 0 s))

-- ---- export
-- "Export writes rising columns": the checks that have bit b, from 1, the first of cs being the j-th
unfoldable pub column_from : ℕ → ℕ → List (List ℕ) → List ℕ
column_from j b [] = []
column_from j b (c ∷ cs) = cond (some (eqb b) c) (suc j ∷ []) [] ++ column_from (suc j) b cs

unfoldable pub columns_of : Code → List (List ℕ)
columns_of k = tab k.bits (λ b. column_from 0 b k.checks)

-- the bits of each check, from 1
unfoldable pub rows_of : Code → List (List ℕ)
rows_of k = map (map suc) k.checks

-- "short lists filled with 0"
abbrev pub fill : ℕ → List ℕ → List ℕ
fill size l = l ++ replicate (size - length l) 0

abbrev pub largest_of : List (List ℕ) → ℕ
largest_of ls = largest (map length ls)

-- each pair and list of a file with these columns and rows
abbrev pub lines_of : List (List ℕ) → List (List ℕ) → List (List ℕ)
lines_of cs rs =
    (length cs ∷ length rs ∷ []) ∷ (largest_of cs ∷ largest_of rs ∷ []) ∷ map length cs ∷ map length rs
    ∷ (map (fill (largest_of cs)) cs ++ map (fill (largest_of rs)) rs)

-- "no leading zeros, puts one space between numbers and ends each pair or list with a line feed"
unfoldable pub line_of : List ℕ → List ℕ
line_of [] = 10 ∷ []
line_of (x ∷ []) = decimal x ++ (10 ∷ [])
line_of (x ∷ y ∷ l) = decimal x ++ (32 ∷ line_of (y ∷ l))

unfoldable pub text_of : List (List ℕ) → List ℕ
text_of [] = []
text_of (l ∷ ls) = line_of l ++ text_of ls

-- the text of a code
unfoldable pub alist_of : Code → List ℕ
alist_of k = text_of (lines_of (columns_of k) (rows_of k))

-- ---- the calls
-- "Import, export and what writes records later hand back the number of bytes written."
pub record Writing : Type 0 where
  pub number : ℕ
  pub bytes : ℕ
  pub list : List ℕ

-- l is written to old, unless a cause holds
abbrev pub writing : List ℕ → List ℕ → List ℕ → Writing
writing causes l old =
    let c = first_of causes in
    record { number = c; bytes = accepted c (length l) 0; list = accepted c (written l old) old }

-- "import to code records": of a text s to the list old
abbrev pub import_causes : List ℕ → List ℕ → List ℕ
import_causes s old = number_causes (numbers_of 0 s) ++ (10 if short (length (records_of (code_of_text s))) old ∷ [])

unfoldable pub importer : List ℕ → List ℕ → Writing
importer s old = writing (import_causes s old) (records_of (code_of_text s)) old

-- "and export back": of code records b to the list old
abbrev pub export_causes : Code → List ℕ → List ℕ
export_causes k old = 10 if short (length (alist_of k)) old ∷ []

unfoldable pub exporter : List ℕ → List ℕ → Writing
exporter b old = writing (judge b ∷ export_causes (code_of b) old) (alist_of (code_of b)) old

-- the bytes that an export will write, so that a caller can lend as many
pub record Size : Type 0 where
  pub number : ℕ
  pub bytes : ℕ

unfoldable pub export_size : List ℕ → Size
export_size b = record { number = judge b; bytes = accepted (judge b) (length (alist_of (code_of b))) 0 }
