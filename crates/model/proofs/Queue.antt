-- The queue rule, for all degrees together. Assumes nothing.
use Rattle.integers.proofs.Prelude.{◌≡◌, refl, sym, ap, ◌∙◌, List, [], ◌∷◌, ◌++◌, append_assoc, append-nil, ℕ, zero, suc, ◌+◌, ◌-◌, ◌*◌, ◌≤◌, arith, length, take, drop}
use Rattle.integers.proofs.Prelude.{length-append, take-append-drop}
use Rattle.integers.specs.Sum.{sum_ℕ}
use Rattle.integers.proofs.Sums.{sum_ℕ_same, sum_ℕ_first, sum_ℕ_split}
use Rattle.lists.specs.Entries.{total}
use Rattle.lists.proofs.Entries.{total_append}
use Rattle.model.specs.Limits.{least_degree}
use Rattle.model.specs.Code.{turns}
use Rattle.model.specs.Splitting.{queue, blank, waiting, triples_of, triples_from, member}

-- ---- each item of the queue is taken once, and each auxiliary is recorded once more when it is made: every sum over the triples
module _ (f : ℕ → ℕ) where
  pub queue_total : (m : ℕ) (q : List ℕ) (a : ℕ) → total f (queue m q a) ≡ total f q + 2 * sum_ℕ m (λ j. f (a + j))
  unfolding queue
  queue_total zero q a = omega arith
  queue_total (suc m) q a =
      let whole : total f (take 2 q) + total f (drop 2 q) ≡ total f q = sym (total_append f (take 2 q) (drop 2 q)) ∙ ap (total f) (take-append-drop 2 q) in
      let later : sum_ℕ m (λ j. f (a + suc j)) ≡ sum_ℕ m (λ j. f (suc a + j)) = sum_ℕ_same m _ _ (λ j l. ap f (omega arith)) in
      let now : f (a + 0) ≡ f a = ap f (omega arith) in
      total_append f (take 2 q) (a ∷ queue m (drop 2 q ++ (a ∷ [])) (suc a))
      ∙ rw (queue_total m (drop 2 q ++ (a ∷ [])) (suc a), total_append f (drop 2 q) (a ∷ [])) (omega (arith, whole, later, now, sum_ℕ_first m (λ j. f (a + j))))

  pub triples_total : (cs : List (List ℕ)) (a : ℕ) → total f (triples_from cs a) ≡ total (λ c. total f (waiting c)) cs + 2 * sum_ℕ (total turns cs) (λ j. f (a + j))
  unfolding triples_from
  triples_total [] a = refl
  triples_total (c ∷ cs) a =
      let later : sum_ℕ (total turns cs) (λ j. f (a + turns c + j)) ≡ sum_ℕ (total turns cs) (λ j. f (a + (turns c + j))) = sum_ℕ_same (total turns cs) _ _ (λ j l. ap f (omega arith)) in
      total_append f (triples_of c a) (triples_from cs (a + turns c))
      ∙ rw (queue_total (turns c) (waiting c) a, triples_total cs (a + turns c)) (omega (arith, later, sum_ℕ_split (turns c) (total turns cs) (λ j. f (a + j))))

-- ---- what waits at first: two bits and the blank, or the check itself
pub waiting_three : (c : List ℕ) → 3 ≤ length c → waiting c ≡ c
waiting_three c h = let e : 3 - length c ≡ 0 = omega arith in rw e (append-nil c)

pub by_degree : (P : List ℕ → List ℕ → Type 0) → ((x y : ℕ) → P (x ∷ y ∷ []) (x ∷ y ∷ blank ∷ [])) → ((c : List ℕ) → 3 ≤ length c → P c c)
    → (c : List ℕ) → least_degree ≤ length c → P c (waiting c)
by_degree P two more [] h = absurd (omega arith)
by_degree P two more (x ∷ []) h = absurd (omega arith)
by_degree P two more (x ∷ y ∷ []) h = two x y
by_degree P two more (x ∷ y ∷ z ∷ c) h = rw (waiting_three (x ∷ y ∷ z ∷ c) (omega arith)) (more (x ∷ y ∷ z ∷ c) (omega arith))

pub waiting_long : (c : List ℕ) → least_degree ≤ length c → length (waiting c) ≡ 3 + turns c
waiting_long = by_degree (λ c q. length q ≡ 3 + turns c) (λ x y. refl) (λ c h. omega arith)

-- ---- one check more, at the end
pub triples_last : (cs : List (List ℕ)) (c : List ℕ) (a : ℕ) → triples_from (cs ++ (c ∷ [])) a ≡ triples_from cs a ++ triples_of c (a + total turns cs)
unfolding triples_from
triples_last [] c a = let z : a + 0 ≡ a = omega arith in rw z (append-nil (triples_of c a))
triples_last (d ∷ cs) c a =
    let e : a + turns d + total turns cs ≡ a + (turns d + total turns cs) = omega arith in
    rw (triples_last cs c (a + turns d), e) (sym (append_assoc (triples_of d a) (triples_from cs (a + turns d)) (triples_of c (a + (turns d + total turns cs)))))

-- ---- induction over the turns: the last three; and a turn, which takes x and y and puts a at the back
pub by_turns : (P : ℕ → List ℕ → ℕ → Type 0) → ((x y z a : ℕ) → P 0 (x ∷ y ∷ z ∷ []) a) → ((m x y : ℕ) (q : List ℕ) (a : ℕ) → P m (q ++ (a ∷ [])) (suc a) → P (suc m) (x ∷ y ∷ q) a)
    → (m : ℕ) (q : List ℕ) (a : ℕ) → length q ≡ 3 + m → P m q a
by_turns P last turn zero [] a h = absurd (omega arith)
by_turns P last turn zero (x ∷ []) a h = absurd (omega arith)
by_turns P last turn zero (x ∷ y ∷ []) a h = absurd (omega arith)
by_turns P last turn zero (x ∷ y ∷ z ∷ []) a h = last x y z a
by_turns P last turn zero (x ∷ y ∷ z ∷ u ∷ q) a h = absurd (omega arith)
by_turns P last turn (suc m) [] a h = absurd (omega arith)
by_turns P last turn (suc m) (x ∷ []) a h = absurd (omega arith)
by_turns P last turn (suc m) (x ∷ y ∷ q) a h = turn m x y q a (by_turns P last turn m (q ++ (a ∷ [])) (suc a) (length-append q (a ∷ []) ∙ omega arith))

-- ---- the entries of a list of triples, by triple and position
pub member_next : (x y z : ℕ) (ts : List ℕ) (t p : ℕ) → member (x ∷ y ∷ z ∷ ts) (suc t) p ≡ member ts t p
member_next x y z ts t p = let e : 3 * suc t + p ≡ suc (suc (suc (3 * t + p))) = omega arith in rw e

pub members_total : (f : ℕ → ℕ) (n : ℕ) (ts : List ℕ) → length ts ≡ 3 * n → sum_ℕ n (λ t. sum_ℕ 3 (λ p. f (member ts t p))) ≡ total f ts
members_total f zero [] h = refl
members_total f zero (x ∷ ts) h = absurd (omega arith)
members_total f (suc n) [] h = absurd (omega arith)
members_total f (suc n) (x ∷ []) h = absurd (omega arith)
members_total f (suc n) (x ∷ y ∷ []) h = absurd (omega arith)
members_total f (suc n) (x ∷ y ∷ z ∷ ts) h =
    sum_ℕ_first n (λ t. sum_ℕ 3 (λ p. f (member (x ∷ y ∷ z ∷ ts) t p)))
    ∙ rw (
      sum_ℕ_same n (λ t. sum_ℕ 3 (λ p. f (member (x ∷ y ∷ z ∷ ts) (suc t) p))) (λ t. sum_ℕ 3 (λ p. f (member ts t p)))
          (λ t l. sum_ℕ_same 3 _ _ (λ p k. ap f (member_next x y z ts t p))),
      members_total f n ts (omega arith),
    ) (omega arith)
