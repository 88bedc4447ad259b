-- What ever waits in the queue, by its place, and the triples from it. Assumes nothing.
use Rattle.integers.proofs.Prelude.{◌≡◌, ap, ◌∙◌, List, ℕ, ◌+◌, ◌-◌, ◌*◌, ◌≤◌, ◌<◌, arith, length, get_or, set, length-append, get_or-append, get_or-append-add}
use lib.ListN.{replicate, length-replicate, get_or-replicate}
use Rattle.lists.specs.Tabulated.{tab, over}
use Rattle.lists.proofs.Tabulated.{get_or_tab, over_three}
use Rattle.model.specs.Code.{turns, triple_count}
use Rattle.model.specs.Splitting.{blank, waiting, triples_of, member}
use Rattle.model.specs.TripleRule.{items, TripleRule}

pub length_waiting : (c : List ℕ) → length (waiting c) ≡ length c + (3 - length c)
length_waiting c = length-append c (replicate (3 - length c) blank) ∙ rw (length-replicate (3 - length c) blank)

module _ (c : List ℕ) (a i : ℕ) where
  item_waiting : i < length (waiting c) → get_or (items c a) i 0 ≡ get_or (waiting c) i 0
  unfolding items
  item_waiting h = get_or-append (waiting c) (tab (turns c) (λ j. a + j)) 0 i h

  pub item_bit : i < length c → get_or (items c a) i 0 ≡ get_or c i 0
  item_bit h = item_waiting (omega (arith, length_waiting c)) ∙ get_or-append c (replicate (3 - length c) blank) 0 i h

  pub item_blank : length c ≤ i → length c < 3 → i < length (waiting c) + turns c → get_or (items c a) i 0 ≡ blank
  item_blank h d l =
      let e : i ≡ length c + (i - length c) = omega arith in
      item_waiting (omega arith) ∙ ap (λ (k : ℕ). get_or (waiting c) k 0) e
      ∙ get_or-append-add c (replicate (3 - length c) blank) (i - length c) 0
      ∙ get_or-replicate (3 - length c) (i - length c) blank 0 (omega (arith, length_waiting c))

  pub item_auxiliary : length c ≤ i → 3 ≤ length c → i < length (waiting c) + turns c → get_or (items c a) i 0 ≡ a + (i - length c)
  unfolding items
  item_auxiliary h d l =
      let e : i ≡ length (waiting c) + (i - length c) = omega (arith, length_waiting c) in
      ap (λ (k : ℕ). get_or (items c a) k 0) e
      ∙ get_or-append-add (waiting c) (tab (turns c) (λ j. a + j)) (i - length c) 0
      ∙ get_or_tab (turns c) (λ j. a + j) (i - length c) 0 (omega (arith, length_waiting c))

-- entry n of the triples of a check
abbrev pub entry : List ℕ → ℕ → ℕ → ℕ
entry c a n = get_or (triples_of c a) n 0

-- triple t more in a list that has those before it
pub triple_next : (c : List ℕ) (a : ℕ) → TripleRule c a → (t : ℕ) → t < triple_count c → (old : List ℕ) (z : ℕ) → 3 * t + 3 ≤ length old → member (triples_of c a) t 2 ≡ z
    → set (set (set (over (3 * t) (entry c a) old) (3 * t) (get_or (items c a) (2 * t) 0)) (3 * t + 1) (get_or (items c a) (2 * t + 1) 0)) (3 * t + 2) z
    ≡ over (3 * (t + 1)) (entry c a) old
triple_next c a rule t inside old z room e =
    let k : 3 * (t + 1) ≡ 3 * t + 3 = omega arith in
    let n : 3 * t + 0 ≡ 3 * t = omega arith in
    rw k (over_three (3 * t) (entry c a) old _ _ z room (rw n at (rule.firsts t inside)) (rule.seconds t inside) e)
