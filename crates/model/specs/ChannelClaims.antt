-- Document 01, 'Channel front': what its sentences claim of the definitions, for all samples and settings. Statements only; the proofs are in
-- proofs/ChannelClaims.antt.
use Rattle.std.specs.Prelude.{◌≡◌, Bool, true, false, ◌&&◌, List, map, ℕ, ◌*◌, min, ℤ, pos, neg_ℤ, Float}
use Rattle.std.specs.Float.{nan, inf, fin, binary32}
use Rattle.std.specs.Float.Ieee.{up, down, neg, fits, is_nan}
use Rattle.integers.specs.Nearest.{Nearest}
use Rattle.lists.specs.Entries.{every}
use Rattle.model.specs.Limits.{most_cost}
use Rattle.model.specs.declared.Channel.{Channel}
use Rattle.model.specs.declared.Channel.TheVariants.{Gaussian, Hard, Erasing}
use Rattle.model.specs.Causes.{◌if◌}
use Rattle.model.specs.Reflection.{negated_if}
use Rattle.model.specs.Channel.{finite, in_range, product, cost_of}

-- the setting's floats are f32 values, as those of every caller are: the type of a setting says so, and the front's contract relies on it
abbrev pub of_singles : Channel → Bool
of_singles (Gaussian scale) = fits binary32 scale
of_singles (Hard weight) = fits binary32 weight
of_singles (Erasing e) = fits binary32 e.floor && fits binary32 e.weight

-- z is the whole number nearest to n / d with the sign s, halves away from zero, limited
pub record NearestLimited (s : Bool) (n d : ℕ) (z : ℤ) : Type 0 where
  pub size : ℕ
  pub nearest : Nearest n d size
  pub limited : z ≡ negated_if (1 if s) (pos (min size most_cost))

-- z is the cost of a product: "The cost is the nearest whole number, halves away from zero, limited to −32,767..32,767; an infinite product goes to the
-- limit." A product is no NaN; fin s m e is ± m × 2 ^ e, and 2 ^ e is the fraction up e / down e.
abbrev pub Costed : Float → ℤ → Type 0
Costed nan z = ⊥
Costed (inf s) z = z ≡ negated_if (1 if s) (pos most_cost)
Costed (fin s m e) z = NearestLimited s (m * up e) (down e) z

pub record ChannelClaims : Type 0 where
  -- every product is an f32 value, and no NaN; its cost
  pub single : (setting : Channel) (x : Float) → of_singles setting ≡ true → fits binary32 (product setting x) ≡ true
  pub no_nan : (setting : Channel) (x : Float) → in_range setting ≡ true → finite x ≡ true → is_nan (product setting x) ≡ false
  pub costed : (setting : Channel) (x : Float) → of_singles setting ≡ true → in_range setting ≡ true → finite x ≡ true
      → Costed (product setting x) (cost_of setting x)
  -- "Negated samples give negated costs."
  pub negated : (setting : Channel) (samples : List Float) → of_singles setting ≡ true → in_range setting ≡ true → every finite samples ≡ true
      → map (cost_of setting) (map neg samples) ≡ map neg_ℤ (map (cost_of setting) samples)
