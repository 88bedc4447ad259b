-- The work of all lanes together, by places in the list: entry L v + l of a part is that of variable v in lane l. Definitions only.
use Rattle.std.specs.Prelude.{List, [], ◌∷◌, ◌≡◌, ℕ, ◌+◌, ◌-◌, ◌*◌, ◌/◌, ◌^◌, ◌≤◌, ◌<◌, ℤ, pos, neg_ℤ, nat_abs, ◌+ℤ◌, ◌*ℤ◌, get_or}
use Rattle.quotient.specs.Quotient.{unit, quotient}
use Rattle.model.specs.Limits.{most_weight, most_cost}
use Rattle.model.specs.Iteration.{at, divisor}
use Rattle.lanes.specs.declared.Plan.{Plan}
use Rattle.lanes.specs.Lanes.{values_at, sums_at, weighed_at, most_narrow, Kept}

-- the parts of c, of the sums that come next and of those that are read, whose high parts stand `apart` behind the low ones, and of W × L
abbrev pub wide_parts : ℕ → ℕ → ℕ → ℕ → ℕ → List ℕ
wide_parts values next sums apart weighed = values ∷ next ∷ (next + apart) ∷ sums ∷ (sums + apart) ∷ weighed ∷ []

abbrev pub bit_parts : Plan → ℕ → List ℕ
bit_parts p i = let L = p.lanes in wide_parts (L * values_at p) (L * sums_at p (1 - i)) (L * sums_at p i) (L * p.variables) (L * weighed_at p)

-- of the auxiliaries, whose sums have no high part, and which have no W × L
abbrev pub auxiliary_parts : Plan → ℕ → List ℕ
auxiliary_parts p i = let L = p.lanes in L * values_at p ∷ L * sums_at p (1 - i) ∷ L * sums_at p i ∷ []

-- what is divided, of parts that begin at sums, high and weighed
abbrev pub whole : List ℤ → ℕ → ℕ → ℕ → ℕ → ℤ
whole w sums high weighed k = pos 256 *ℤ (at w (sums + k) +ℤ pos (2 ^ 14) *ℤ at w (high + k)) +ℤ at w (weighed + k)

-- c by the divisor d, raised by U: where a sum has two parts, where it has one, and where there is no W × L besides
abbrev pub wide_value : List ℤ → ℕ → ℕ → ℕ → ℤ → ℕ → ℤ
wide_value w sums high weighed d k = quotient (neg_ℤ (whole w sums high weighed k)) d +ℤ pos unit

abbrev pub narrow_value : List ℤ → ℕ → ℕ → ℤ → ℕ → ℤ
narrow_value w sums weighed d k = quotient (neg_ℤ (pos 256 *ℤ at w (sums + k) +ℤ at w (weighed + k))) d +ℤ pos unit

abbrev pub auxiliary_value : List ℤ → ℕ → ℤ → ℕ → ℤ
auxiliary_value w sums d k = quotient (neg_ℤ (pos 256 *ℤ at w (sums + k))) d +ℤ pos unit

-- of the bit that entry k belongs to
abbrev pub bit_value : Plan → List ℕ → ℕ → ℕ → List ℤ → ℕ → ℤ
bit_value p counts A i w k =
    let part = get_or (bit_parts p i) in
    wide_value w (part 3 0) (part 4 0) (part 5 0) (divisor (4 * get_or counts (k / p.lanes) 0) A) k

-- an entry of a bit in c triples: its sum and W × L are in their ranges, and no high part stands where none is cleared
pub record Entry (c : ℕ) (low high weighed next : ℤ) : Type 0 where
  pub kept : Kept c c low high
  pub within : nat_abs weighed ≤ most_weight * most_cost
  pub clear : c ≤ most_narrow → next ≡ pos 0

-- the entries from..to
abbrev pub Entries : Plan → List ℕ → ℕ → List ℤ → ℕ → ℕ → Type 0
Entries p counts i w from to =
    (k : ℕ) → from ≤ k → k < to
    → let entry : ℕ → ℤ = λ q. at w (get_or (bit_parts p i) q 0 + k) in
    Entry (get_or counts (k / p.lanes) 0) (entry 3) (entry 4) (entry 5) (entry 2)
