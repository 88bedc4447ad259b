-- Document 02, L1: texts by hand with their numbers or their cause, in tables, each under the sentence that it shows; an export byte by byte, and calls.
-- Statements only; the proofs, which compute, are in proofs/AlistTexts.antt. Two spaces stand between the parts of most texts, which is as good as one.
use Rattle.std.specs.Prelude.{◌≡◌, List, [], ◌∷◌, ◌++◌, map, ℕ, suc, replicate}
use Prim.Native.Char.{code}
use Prim.Native.String.{String}
use Prim.Native.String as string
use Rattle.lists.specs.Tabulated.{tab}
use Rattle.model.specs.Code.{Code}
use Rattle.model.specs.Alist.{numbers_of, code_of_text, judge_text, text_of, alist_of, importer, exporter, export_size}

-- the bytes of a text in ASCII
abbrev pub ascii : String → List ℕ
ascii string.[] = []
ascii (string.◌∷◌ c s) = code c ∷ ascii s

-- ---- tables: a line is a text with its numbers, or a text with its cause, 0 where it is accepted
pub record Reading : Type 0 where
  pub text : String
  pub numbers : List ℕ

infix 80 ◌reads◌
abbrev pub ◌reads◌ : String → List ℕ → Reading
s reads l = record { text = s; numbers = l }

-- what is no number of at most 65,535
abbrev pub no_number : List ℕ
no_number = 65536 ∷ []

pub record Judgement : Type 0 where
  pub text : String
  pub cause : ℕ

infix 80 ◌gets◌
abbrev pub ◌gets◌ : String → ℕ → Judgement
s gets c = record { text = s; cause = c }

-- each line is right
abbrev pub Read : List Reading → Type 0
Read table = map (λ r. numbers_of 0 (ascii r.text)) table ≡ map (λ r. r.numbers) table

abbrev pub Judged : List Judgement → Type 0
Judged table = map (λ j. judge_text (ascii j.text)) table ≡ map (λ j. j.cause) table

-- ---- "n and m, the largest column and row degree, column degrees, row degrees, then the columns' lists and the rows' lists, indices from 1, short lists
-- filled with 0"
abbrev pub forms : List Judgement
forms =
    -- three bits and one check of all of them
    "3 1\n1 3\n1 1 1\n3\n1\n1\n1\n1 2 3\n" gets 0
    -- five bits and two checks, which share the third
    ∷ "5 2\n2 3\n1 1 2 1 1\n3 3\n1 0\n1 0\n1 2\n2 0\n2 0\n1 2 3\n3 4 5\n" gets 0
    -- rows of unequal degrees
    ∷ "4 2  2 4  2 2 2 1  4 3  1 2  1 2  1 2  1 0  1 2 3 4  1 2 3 0" gets 0
    -- document 02, L6: rows of two bits
    ∷ "3 2  2 2  1 2 1  2 2  1 0  1 2  2 0  1 2  2 3" gets 0
    ∷ []

-- ---- "Numbers are decimal digits, at most 65,535 in value", and 18 for "text that is not such numbers"
abbrev pub decimals : List Reading
decimals =
    "65535" reads (65535 ∷ [])
    ∷ "65536" reads no_number
    ∷ "100000000000000000000" reads no_number
    -- any count of zeros in front
    ∷ "000000000000000000065535 00 007" reads (65535 ∷ 0 ∷ 7 ∷ [])
    ∷ "+3" reads no_number
    ∷ "-3" reads no_number
    ∷ "3.0" reads no_number
    ∷ "3a" reads no_number
    ∷ "0x3" reads no_number
    -- the bytes before 0 and behind 9
    ∷ "/ :" reads (65536 ∷ 65536 ∷ [])
    ∷ []

abbrev pub decimal_texts : List Judgement
decimal_texts =
    "003 1  0001 03  1 01 1  3  1 1 1  1 2 00000000000003" gets 0
    ∷ "3 1  1 3  1 1 1  3  1 1 1  1 2 +3" gets 18
    ∷ "3 1  1 3  1 1 1  3  1 1 1  1 2 65536" gets 18
    ∷ []

-- ---- "between spaces or line feeds, any count of them, also first and last"
abbrev pub separations : List Reading
separations =
    "\n  12 \n\n 3\n " reads (12 ∷ 3 ∷ [])
    ∷ "12 3" reads (12 ∷ 3 ∷ [])
    -- a tab, a carriage return, a comma
    ∷ "12\t3" reads no_number
    ∷ "12\r\n3" reads (65536 ∷ 3 ∷ [])
    ∷ "12, 3" reads (65536 ∷ 3 ∷ [])
    ∷ "" reads []
    ∷ "\n \n" reads []
    ∷ []

abbrev pub separated_texts : List Judgement
separated_texts =
    "3 1 1 3 1 1 1 3 1 1 1 1 2 3" gets 0
    ∷ "\n3\n1\n\n1\n3\n1\n1\n1\n3\n1\n1\n1\n1\n2\n3\n\n" gets 0
    ∷ "3\t1  1 3  1 1 1  3  1 1 1  1 2 3" gets 18
    ∷ "3 1\r\n1 3\r\n1 1 1\r\n3\r\n1\r\n1\r\n1\r\n1 2 3\r\n" gets 18
    ∷ "" gets 18
    ∷ " \n " gets 18
    ∷ []

-- ---- 18 for "too few or too many of them"
abbrev pub counts : List Judgement
counts =
    "3 1  1 3  1 1 1  3  1 1 1  1 2" gets 18
    ∷ "3 1  1 3  1 1 1  3  1 1 1  1 2 3  0" gets 18
    ∷ "0 0 0" gets 18
    ∷ "0 0 0 0 0" gets 18
    ∷ []

-- ---- 18 for "a list that is not first its degree's count of indices and then zeros"; "each column or row list is filled to its maximum"
abbrev pub fills : List Judgement
fills =
    -- a zero in a row, and in front of a column's index
    "3 1  1 3  1 1 1  3  1 1 1  1 0 3" gets 18
    ∷ "3 2  2 3  1 2 2  2 3  0 2  1 2  1 2  2 3 0  1 2 3" gets 18
    -- an index where a column is filled, and where a row is
    ∷ "4 1  1 3  1 1 1 0  3  1 1 1 1  1 2 3" gets 18
    ∷ "4 2  2 4  2 2 2 1  4 3  1 2  1 2  1 2  1 0  1 2 3 4  1 2 3 4" gets 18
    -- lists that are not filled
    ∷ "4 2  2 4  2 2 2 1  4 3  1 2  1 2  1 2  1  1 2 3 4  1 2 3" gets 18
    ∷ []

-- ---- 18 for "a maximum that is not its largest degree (0 where there is none)"
abbrev pub maxima : List Judgement
maxima =
    -- of the columns above it, and below; of the rows above it, and below
    "3 1  2 3  1 1 1  3  1 0 1 0 1 0  1 2 3" gets 18
    ∷ "3 2  1 3  2 2 2  3 3  1 1 1  1 2 3  1 2 3" gets 18
    ∷ "3 1  1 4  1 1 1  3  1 1 1  1 2 3 0" gets 18
    ∷ "3 1  1 2  1 1 1  3  1 1 1  1 2" gets 18
    -- neither columns nor rows: 3, for no bits
    ∷ "0 0 0 0" gets 3
    ∷ "0 0 1 0" gets 18
    ∷ "0 0 0 1" gets 18
    -- no rows: 3, for no checks; an empty row: 4, for its degree
    ∷ "3 0  0 0  0 0 0" gets 3
    ∷ "3 1  0 0  0 0 0  0" gets 4
    ∷ []

-- ---- 19 "when columns and rows do not name the same places, each equally often"
abbrev pub places : List Judgement
places =
    -- row 1 names column 4 of 3, or column 65,535; column 3 names row 2 of 1, or row 65,535
    "3 1  1 3  1 1 1  3  1 1 1  1 2 4" gets 19
    ∷ "3 1  1 3  1 1 1  3  1 1 1  1 2 65535" gets 19
    ∷ "3 1  1 3  1 1 1  3  1 1 2  1 2 3" gets 19
    ∷ "3 1  1 3  1 1 1  3  1 1 65535  1 2 3" gets 19
    -- row 1 lacks a place that column 4 names, and column 4 one that row 1 names
    ∷ "4 1  1 3  1 1 1 1  3  1 1 1 1  1 2 3" gets 19
    ∷ "4 1  1 4  1 1 1 0  4  1 1 1 0  1 2 3 4" gets 19
    -- as many names in each list, at other places
    ∷ "6 2  1 3  1 1 1 1 1 1  3 3  1 1 2 1 2 2  1 2 3  4 5 6" gets 19
    -- the same places, one of them twice in its row, or twice in its column; one twice in its row and another twice in its column
    ∷ "3 1  1 4  1 1 1  4  1 1 1  1 1 2 3" gets 19
    ∷ "3 1  2 3  2 1 1  3  1 1 1 0 1 0  1 2 3" gets 19
    ∷ "3 2  3 4  3 2 2  4 3  1 2 2  1 2 0  1 2 0  1 1 2 3  1 2 3 0" gets 19
    -- twice on both sides is no 19; then the row does not rise
    ∷ "3 1  2 4  2 1 1  4  1 1  1 0  1 0  1 1 2 3" gets 6
    ∷ []

-- ---- "rows must rise, columns may stand in any order"
abbrev pub orders : List Judgement
orders =
    "3 1  1 3  1 1 1  3  1 1 1  1 3 2" gets 6
    ∷ "3 2  2 3  2 2 2  3 3  1 2  1 2  1 2  1 2 3  1 2 3" gets 0
    ∷ "3 2  2 3  2 2 2  3 3  2 1  1 2  2 1  1 2 3  1 2 3" gets 0
    ∷ []

-- ---- "Both come in front of the record causes, 18 first; 3 to 8 then apply to the rows."
abbrev pub precedence : List Judgement
precedence =
    -- an index above n, and a number too many
    "3 1  1 3  1 1 1  3  1 1 1  1 2 4  0" gets 18
    -- two bits: with a number too many; with an index above them; alone
    ∷ "2 1  1 2  1 1  2  1 1  1 2  0" gets 18
    ∷ "2 1  1 2  1 1  2  1 1  1 3" gets 19
    ∷ "2 1  1 2  1 1  2  1 1  1 2" gets 3
    -- a row of one: with an index above n, which is 19 and not 5; alone
    ∷ "3 1  1 1  1 0 0  1  1 0 0  4" gets 19
    ∷ "3 1  1 1  1 0 0  1  1 0 0  1" gets 4
    -- a bit in no check: with a falling row; alone
    ∷ "4 1  1 3  1 1 1 0  3  1 1 1 0  1 3 2" gets 6
    ∷ "4 1  1 3  1 1 1 0  3  1 1 1 0  1 2 3" gets 8
    ∷ []

-- n bits and one check of all of them
abbrev pub wide : ℕ → List ℕ
wide n = text_of ((n ∷ 1 ∷ []) ∷ (1 ∷ n ∷ []) ∷ replicate n 1 ∷ (n ∷ []) ∷ replicate n 1 ∷ tab n suc ∷ [])

-- ---- "Export writes rising columns and no leading zeros, puts one space between numbers and ends each pair or list with a line feed."
-- eleven bits; a check of six of them and one of seven, which share two
abbrev pub eleven : Code
eleven = record { bits = 11; checks = (0 ∷ 1 ∷ 2 ∷ 3 ∷ 4 ∷ 5 ∷ []) ∷ (0 ∷ 5 ∷ 6 ∷ 7 ∷ 8 ∷ 9 ∷ 10 ∷ []) ∷ [] }

abbrev pub eleven_text : String
eleven_text =
    "11 2\n2 7\n2 1 1 1 1 2 1 1 1 1 1\n6 7\n1 2\n1 0\n1 0\n1 0\n1 0\n1 2\n2 0\n2 0\n2 0\n2 0\n2 0\n1 2 3 4 5 6 0\n1 6 7 8 9 10 11\n"

-- the records of three bits and one check of all of them
abbrev pub records : List ℕ
records = 0x4C ∷ 0x48 ∷ 0 ∷ 3 ∷ 0 ∷ 1 ∷ 0x4C ∷ 0x43 ∷ 3 ∷ 0 ∷ 0 ∷ 0 ∷ 1 ∷ 0 ∷ 2 ∷ []

abbrev pub lent : ℕ → List ℕ
lent n = replicate n 7

pub record Texts : Type 0 where
  pub numbers : Read (decimals ++ separations)
  pub causes : Judged (forms ++ (decimal_texts ++ (separated_texts ++ (counts ++ (fills ++ (maxima ++ (places ++ (orders ++ precedence))))))))
  -- a degree of 32, and of 33
  pub degrees : (judge_text (wide 32) ≡ 0) × (judge_text (wide 33) ≡ 4)
  -- exports, and what they are read as
  pub bytes : alist_of (record { bits = 3; checks = (0 ∷ 1 ∷ 2 ∷ []) ∷ [] })
      ≡ 51 ∷ 32 ∷ 49 ∷ 10 ∷ 49 ∷ 32 ∷ 51 ∷ 10 ∷ 49 ∷ 32 ∷ 49 ∷ 32 ∷ 49 ∷ 10 ∷ 51 ∷ 10 ∷ 49 ∷ 10 ∷ 49 ∷ 10 ∷ 49 ∷ 10 ∷ 49 ∷ 32 ∷ 50 ∷ 32 ∷ 51 ∷ 10 ∷ []
  pub filled : alist_of eleven ≡ ascii eleven_text
  pub back : code_of_text (ascii eleven_text) ≡ eleven
  -- "Import, export and what writes records later hand back the number of bytes written.": to a list of 17 bytes, of which the last two stay, and to one of 14
  pub imports : (importer (ascii "3 1  1 3  1 1 1  3  1 1 1  1 2 3") (lent 17) ≡ record { number = 0; bytes = 15; list = records ++ (7 ∷ 7 ∷ []) })
      × (importer (ascii "3 1  1 3  1 1 1  3  1 1 1  1 2 3") (lent 14) ≡ record { number = 10; bytes = 0; list = lent 14 })
  -- "Each new number, here and later, is returned alone and leaves all lists as they were.": 18 and 19, also where there is no room
  pub refusals : (importer (ascii "3 1  1 3  1 1 1  3  1 1 1  1 2") (lent 3) ≡ record { number = 18; bytes = 0; list = lent 3 })
      × (importer (ascii "3 1  1 3  1 1 1  3  1 1 1  1 2 4") (lent 3) ≡ record { number = 19; bytes = 0; list = lent 3 })
  -- to a list of 30 bytes, and to one of 27; of records that are cut
  pub exports : (exporter records (lent 30) ≡ record { number = 0; bytes = 28; list = ascii "3 1\n1 3\n1 1 1\n3\n1\n1\n1\n1 2 3\n" ++ (7 ∷ 7 ∷ []) })
      × (exporter records (lent 27) ≡ record { number = 10; bytes = 0; list = lent 27 })
      × (exporter (0x4C ∷ []) (lent 30) ≡ record { number = 1; bytes = 0; list = lent 30 })
  pub sizes : (export_size records ≡ record { number = 0; bytes = 28 }) × (export_size (0x4C ∷ []) ≡ record { number = 1; bytes = 0 })
