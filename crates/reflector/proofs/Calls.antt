-- The promises of a refused call and of a done one. Assumes nothing.
use Rattle.integers.proofs.Prelude.{◌≡◌, List, ℕ, zero, suc, ◌≤◌, arith, ℤ}
use Rattle.lists.specs.Tabulated.{written}
use Rattle.model.specs.Causes.{first_of}
use Rattle.model.specs.Calls.{reflector_causes, reflector}
use Rattle.model.specs.Reflection.{reflect}
use Rattle.model.specs.DecoderClaims.{Small}
use Rattle.model.specs.Promises.{ReflectorCall}
use Rattle.model.proofs.Promises.{reflector_call}

module _ (costs : List ℤ) (w : List ℕ) (old : List ℤ) where
  pub refused : (c : ℕ) → 1 ≤ c → c ≡ first_of (reflector_causes costs w old) → ReflectorCall costs w old (record { number = c; costs = old })
  unfolding reflector
  refused zero h e = absurd (omega arith)
  refused (suc c) h e = reflector_call costs w old _ (rw (← e) (λ k. absurd (omega (arith, k)))) (rw (← e))

  pub done : (new : List ℤ) → 0 ≡ first_of (reflector_causes costs w old) → Small costs → new ≡ written (reflect w costs) old
      → ReflectorCall costs w old (record { number = 0; costs = new })
  unfolding reflector
  done new e small h = reflector_call costs w old _ (λ k. small) (rw (← e, h))
