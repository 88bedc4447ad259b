-- The promises of a refused call and of a done one. Assumes nothing.
use Rattle.integers.proofs.Prelude.{◌≡◌, List, ℕ, zero, suc, ◌≤◌, arith}
use Rattle.lists.specs.Tabulated.{written}
use Rattle.model.specs.Causes.{first_of}
use Rattle.model.specs.Composition.{adder_causes, adder}
use Rattle.model.specs.Reflection.{sum_of_words}
use Rattle.model.specs.Promises.{AdderCall}
use Rattle.model.proofs.Promises.{adder_call}

module _ (w u old : List ℕ) where
  pub refused : (c : ℕ) → 1 ≤ c → c ≡ first_of (adder_causes w u old) → AdderCall w u old (record { number = c; word = old })
  unfolding adder
  refused zero h e = absurd (omega arith)
  refused (suc c) h e = adder_call w u old _ (rw (← e))

  pub done : (new : List ℕ) → 0 ≡ first_of (adder_causes w u old) → new ≡ written (sum_of_words w u) old → AdderCall w u old (record { number = 0; word = new })
  unfolding adder
  done new e h = adder_call w u old _ (rw (← e, h))
