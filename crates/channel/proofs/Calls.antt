-- The promises of a refused call and of a done one. Assumes nothing.
use Rattle.integers.proofs.Prelude.{◌≡◌, true, map, List, ℕ, zero, suc, ◌≤◌, arith, ℤ}
use lib.Ieee.{Float}
use Rattle.lists.specs.Tabulated.{written}
use Rattle.model.specs.declared.Channel.{Channel}
use Rattle.model.specs.Causes.{first_of}
use Rattle.model.specs.Channel.{cost_of}
use Rattle.model.specs.Calls.{front_causes, channel_front}
use Rattle.model.specs.ChannelClaims.{of_singles}
use Rattle.model.specs.Promises.{FrontCall}
use Rattle.model.proofs.Promises.{front_call}

module _ (setting : Channel) (samples : List Float) (old : List ℤ) (singles : of_singles setting ≡ true) where
  pub refused : (c : ℕ) → 1 ≤ c → c ≡ first_of (front_causes setting samples old) → FrontCall setting samples old (record { number = c; costs = old })
  unfolding channel_front
  refused zero h e = absurd (omega arith)
  refused (suc c) h e = front_call setting samples old singles _ (rw (← e))

  pub done : (new : List ℤ) → 0 ≡ first_of (front_causes setting samples old) → new ≡ written (map (cost_of setting) samples) old
      → FrontCall setting samples old (record { number = 0; costs = new })
  unfolding channel_front
  done new e h = front_call setting samples old singles _ (rw (← e, h))
