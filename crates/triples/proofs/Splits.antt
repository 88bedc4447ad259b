-- The answers of the splitting, by its causes in their order. Assumes nothing.
use Rattle.integers.proofs.Prelude.{◌≡◌, ap₂, true, ◌||◌, List, ℕ, zero, suc, ◌*◌, ◌≤◌, ◌<◌, arith, lt-ltb, le-ltb, length}
use Rattle.lists.specs.Tabulated.{written}
use Rattle.model.specs.Causes.{short}
use Rattle.model.specs.Code.{Code, triples, variables}
use Rattle.model.specs.Records.{code_of, judge}
use Rattle.model.specs.Splitting.{system_of}
use Rattle.model.specs.Iteration.{counts_of}
use Rattle.model.specs.Calls.{Split, splitter}
use Rattle.model.specs.Promises.{SplitterCall}
use Rattle.model.proofs.Promises.{splitter_call}

abbrev told : ℕ → List ℕ → List ℕ → Split
told number ts cs = record { number = number; triples = ts; counts = cs }

module _ (b ts cs : List ℕ) where
  pub unsound : (n : ℕ) → n ≡ judge b → 1 ≤ n → SplitterCall b ts cs (told n ts cs)
  unfolding splitter
  unsound zero e h = absurd (omega arith)
  unsound (suc n) e h = splitter_call b ts cs (told (suc n) ts cs) (rw (← e))

  module _ (judged : 0 ≡ judge b) (k : Code) (is : k ≡ code_of b) where
    lacking : (short (3 * triples k) ts || short (variables k) cs) ≡ true → SplitterCall b ts cs (told 10 ts cs)
    unfolding splitter
    lacking e = splitter_call b ts cs (told 10 ts cs) (rw (← judged, ← is, e))

    pub triples_short : length ts < 3 * triples k → SplitterCall b ts cs (told 10 ts cs)
    triples_short h = lacking (rw (lt-ltb (length ts) (3 * triples k) h))

    pub counts_short : 3 * triples k ≤ length ts → length cs < variables k → SplitterCall b ts cs (told 10 ts cs)
    counts_short r h = lacking (rw (le-ltb (length ts) (3 * triples k) r, lt-ltb (length cs) (variables k) h))

    pub split : 3 * triples k ≤ length ts → variables k ≤ length cs → (l m : List ℕ) → l ≡ written (system_of k).members ts
        → m ≡ written (counts_of (system_of k)) cs → SplitterCall b ts cs (told 0 l m)
    unfolding splitter
    split r s l m p q =
        splitter_call b ts cs (told 0 l m)
        (rw (← judged, ← is, le-ltb (length ts) (3 * triples k) r, le-ltb (length cs) (variables k) s) (ap₂ (told 0) p q))
