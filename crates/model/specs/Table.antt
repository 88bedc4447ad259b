-- Every line of document 01 that is marked ●, in one table about the definitions. Over the division, so that it computes.
use Rattle.std.specs.Prelude.{◌≡◌, List, [], ◌∷◌, ℕ, ◌<◌, ◌≤◌, ℤ, pos, neg_ℤ}
use Rattle.lists.specs.Tabulated.{tab}
use Rattle.model.specs.declared.Settings.{Settings}
use Rattle.model.specs.Splitting.{System, system_of}
use Rattle.model.specs.Run.{start, after, run}
use Rattle.model.specs.Reflection.{reflect}
use Rattle.model.specs.Channel.{cost_of_bits}

infix 90 −◌
abbrev pub −◌ : ℕ → ℤ
− n = neg_ℤ (pos n)

-- "One check over all n bits"
abbrev pub check_over : ℕ → System
check_over n = system_of (record { bits = n; checks = tab n (λ i. i) ∷ [] })

-- "Code n = 3 with check (0,1,2), W = 256, A = 0, K = 2, X = 0"
abbrev pub settings : ℕ → ℕ → Settings
settings weight tolerance = record { weight = weight; ratio = 0; limit = 2; tolerance = tolerance }

-- c and s
pub record Iterate : Type 0 where
  pub c : List ℤ
  pub s : List ℤ

-- k and settled
pub record End : Type 0 where
  pub k : ℕ
  pub settled : ℕ

module _ (div : ℤ → ℤ → ℤ) where
  -- c and s after k iterations, with the cost weight W
  abbrev pub iterate_of : ℕ → List ℤ → ℕ → Iterate
  iterate_of W costs k = let a = after div (check_over 3) (settings W 0) costs k (start (check_over 3)) in record { c = a.values; s = a.rows }

  -- the first c of the first bit, where the others cost 0
  abbrev pub first_value : ℕ → ℤ → List ℤ
  first_value W L = (iterate_of W (L ∷ pos 0 ∷ pos 0 ∷ []) 1).c

  abbrev pub end_of : ℕ → List ℤ → End
  end_of X costs = let e = run div (check_over 3) (settings 256 X) costs in record { k = e.k; settled = e.settled }

abbrev pub by_hand : List ℤ
by_hand = pos 20000 ∷ pos 20000 ∷ (− 8000) ∷ []

pub record Table (div : ℤ → ℤ → ℤ) : Type 0 where
  -- 'Splitting a check'
  pub splitting_3 : (check_over 3).members ≡ 0 ∷ 1 ∷ 2 ∷ []
  pub splitting_4 : (check_over 4).members ≡ 0 ∷ 1 ∷ 4 ∷ 2 ∷ 3 ∷ 4 ∷ []
  pub splitting_5 : (check_over 5).members ≡ 0 ∷ 1 ∷ 5 ∷ 2 ∷ 3 ∷ 6 ∷ 4 ∷ 5 ∷ 6 ∷ []
  pub splitting_6 : (check_over 6).members ≡ 0 ∷ 1 ∷ 6 ∷ 2 ∷ 3 ∷ 7 ∷ 4 ∷ 5 ∷ 8 ∷ 6 ∷ 7 ∷ 8 ∷ []
  -- 'Channel front': 0.5, −0.5 and 32,767.5 by their bits
  pub product_half : cost_of_bits 0x3F000000 ≡ pos 1
  pub product_minus_half : cost_of_bits 0xBF000000 ≡ − 1
  pub product_large : cost_of_bits 0x46FFFF00 ≡ pos 32767
  -- 'Numbers by hand'
  pub costs_1 : iterate_of div 256 by_hand 1 ≡ record {
    c = (− 5000) ∷ (− 5000) ∷ pos 2000 ∷ [];
    s = (− 18384) ∷ (− 18384) ∷ (− 4384) ∷ (− 24384) ∷ [];
  }
  pub costs_2 : iterate_of div 256 by_hand 2 ≡ record {
    c = (− 10000) ∷ (− 10000) ∷ pos 4000 ∷ [];
    s = (− 20384) ∷ (− 20384) ∷ pos 7616 ∷ (− 32384) ∷ [];
  }
  pub reflected : iterate_of div 256 (reflect (0 ∷ 1 ∷ 1 ∷ []) by_hand) 1 ≡ record {
    c = (− 5000) ∷ pos 5000 ∷ (− 2000) ∷ [];
    s = (− 24384) ∷ (− 4384) ∷ (− 18384) ∷ (− 18384) ∷ [];
  }
  pub cost_2 : first_value div 256 (pos 2) ≡ (− 1) ∷ pos 0 ∷ pos 0 ∷ []
  pub cost_minus_2 : first_value div 256 (− 2) ≡ pos 1 ∷ pos 0 ∷ pos 0 ∷ []
  pub cost_1 : first_value div 256 (pos 1) ≡ pos 0 ∷ pos 0 ∷ pos 0 ∷ []
  pub cost_3 : first_value div 256 (pos 3) ≡ (− 1) ∷ pos 0 ∷ pos 0 ∷ []
  pub weight_512 : first_value div 512 (pos 32767) ≡ (− 16384) ∷ pos 0 ∷ pos 0 ∷ []
  pub zeros_below : (X : ℕ) → X < 1073741824 → end_of div X (pos 0 ∷ pos 0 ∷ pos 0 ∷ []) ≡ record { k = 2; settled = 1 }
  pub zeros_from : (X : ℕ) → 1073741824 ≤ X → end_of div X (pos 0 ∷ pos 0 ∷ pos 0 ∷ []) ≡ record { k = 1; settled = 1 }
