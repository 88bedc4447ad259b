-- The limits that documents 01 and 02 set and that a run's numbers keep, by name. Definitions only.
use Rattle.std.specs.Prelude.{ℕ, ◌+◌, ◌-◌, ◌*◌}

-- ---- 'Code records'
-- "bits n (3 to 4,096), checks m (1 to 2,048)"
abbrev pub most_bits : ℕ
most_bits = 4096

abbrev pub most_checks : ℕ
most_checks = 2048

-- "The sum of d − 2 over all checks is at most 8,192.", of which document 02, L6, says that a check of two bits "counts as one"
abbrev pub most_triples : ℕ
most_triples = 8192

-- no code has more variables
abbrev pub most_variables : ℕ
most_variables = most_bits + most_triples

-- nor do its checks have more bits together: a check has at most two more than triples
abbrev pub most_places : ℕ
most_places = most_triples + 2 * most_checks

-- "a one-byte degree d (3 to 32)", of which document 02, L6, says: "Cause 4 now starts below 2"
abbrev pub base_degree : ℕ
base_degree = 3

abbrev pub least_degree : ℕ
least_degree = 2

abbrev pub most_degree : ℕ
most_degree = 32

-- ---- document 02, L1
-- "Numbers are decimal digits, at most 65,535 in value"
abbrev pub most_number : ℕ
most_number = 65535

-- ---- document 02, L5
-- "a given code of up to 256 bits"
abbrev pub most_encoded_bits : ℕ
most_encoded_bits = 256

-- ---- document 02, L7
-- "up to eight frames of one code"
abbrev pub most_frames : ℕ
most_frames = 8

-- ---- 'One iteration'
-- "cost weight W (1 to 65,535), ratio A (0 to 1,023 …)"
abbrev pub most_weight : ℕ
most_weight = 65535

abbrev pub most_ratio : ℕ
most_ratio = 1023

-- "iterations K (1 to 1,000)", of which document 02, L2, says: "K goes to 4,000"
abbrev pub base_iterations : ℕ
base_iterations = 1000

abbrev pub most_iterations : ℕ
most_iterations = 4000

-- a cost that is not −32,768 is at most this large
abbrev pub most_cost : ℕ
most_cost = 32767

-- ---- what follows for the numbers of a run
-- so many iterations may be done before one more
abbrev pub most_done : ℕ
most_done = most_iterations - 1

-- "So s never leaves −65,536 .. 32,768 × K": how far below 0, and how far above it after n iterations
abbrev pub most_slack : ℕ
most_slack = 65536

abbrev pub most_multiplier : ℕ → ℕ
most_multiplier n = 32768 * n

-- "A row's s is now bounded by 131,072,000"
abbrev pub most_row : ℕ
most_row = most_multiplier most_iterations

-- S: no variable is in more triples than a code can have checks, and each triple has four rows
abbrev pub most_sum : ℕ
most_sum = most_checks * (4 * most_row)

-- 256 × S + W × L
abbrev pub most_numerator : ℕ
most_numerator = 256 * most_sum + most_weight * most_cost
