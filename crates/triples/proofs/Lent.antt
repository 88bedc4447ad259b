-- The triples and the counts of a code that `write_system` left in longer lists, as they are then lent to a run. Assumes nothing.
use Rattle.integers.proofs.Prelude.{◌≡◌, refl, sym, ap, ap₂, subst, ◌∙◌, false, List, ℕ, ◌*◌, ◌≤◌, ◌<◌, ℤ, length, take}
use Rattle.lists.specs.Tabulated.{tab, written}
use Rattle.lists.proofs.Tabulated.{length_tab, take_written}
use Rattle.model.specs.declared.Settings.{Settings}
use Rattle.model.specs.Code.{Code, triples, variables}
use Rattle.model.specs.Splitting.{System, system_of, Members}
use Rattle.model.specs.Iteration.{occurrences, counts_of}
use Rattle.model.specs.Calls.{out_of_range}
use Rattle.model.specs.Bounds.{Ready}
use Rattle.model.specs.DecoderClaims.{Small}
use Rattle.model.specs.Sound.{Sound}
use Rattle.model.proofs.Bounds.{ready}
use Rattle.model.proofs.TripleRule.{members_long, members, counts}

-- T triples and n variables, which are the code's
module _ (k : Code) (s : Sound k) (T n : ℕ) (T_is : T ≡ triples k) (n_is : n ≡ variables k) (ts old : List ℕ) (left : ts ≡ written (system_of k).members old) where
  pub triples_lent : take (3 * T) ts ≡ (system_of k).members
  triples_lent = ap (take (3 * T)) left ∙ take_written (system_of k).members old (3 * T) (members_long k s ∙ ap (λ (t : ℕ). 3 * t) (sym T_is))

  pub triples_long : length (take (3 * T) ts) ≡ 3 * T
  triples_long = ap length triples_lent ∙ members_long k s ∙ ap (λ (t : ℕ). 3 * t) (sym T_is)

  pub system_lent : record { code = k; variables = n; triples = T; members = take (3 * T) ts } ≡ system_of k
  unfolding system_of
  system_lent =
      ap₂ (λ (n t : ℕ). record { code = k; variables = n; triples = t; members = take (3 * T) ts }) n_is T_is
      ∙ ap (λ (l : List ℕ). record { code = k; variables = variables k; triples = triples k; members = l }) triples_lent

  -- what holds of the code's system holds of them
  of_system : (P : System → Type 0) → P (system_of k) → P (record { code = k; variables = n; triples = T; members = take (3 * T) ts })
  of_system P h = subst P (sym system_lent) h

  pub members_lent : Members (take (3 * T) ts) n
  unfolding system_of
  members_lent = of_system (λ g. Members g.members g.variables) (members k s)

  pub auxiliaries_lent : (v : ℕ) → k.bits ≤ v → v < n → occurrences (take (3 * T) ts) T v ≡ 2
  unfolding system_of
  auxiliaries_lent = of_system (λ g. (v : ℕ) → k.bits ≤ v → v < g.variables → occurrences g.members g.triples v ≡ 2) (counts k s).auxiliaries

  pub ready_lent : (o : Settings) → out_of_range o ≡ false → (costs : List ℤ) → length costs ≡ k.bits → Small costs → Ready n (take (3 * T) ts) T o costs
  unfolding system_of
  ready_lent o h costs e small = of_system (λ g. Ready g.variables g.members g.triples o costs) (ready k s o h costs e small)

  -- their counts
  module _ (cs olds : List ℕ) (counted : cs ≡ written (counts_of (system_of k)) olds) where
    pub counts_lent : take n cs ≡ tab n (occurrences (take (3 * T) ts) T)
    unfolding counts_of system_of
    counts_lent =
        ap (take n) counted
        ∙ take_written (counts_of (system_of k)) olds n (length_tab (variables k) (occurrences (system_of k).members (system_of k).triples) ∙ sym n_is)
        ∙ of_system (λ g. counts_of (system_of k) ≡ counts_of g) refl

    pub counts_long : length (take n cs) ≡ n
    counts_long = ap length counts_lent ∙ length_tab n (occurrences (take (3 * T) ts) T)
