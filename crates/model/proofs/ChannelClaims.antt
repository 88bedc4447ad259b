-- What document 01 claims of the channel front holds. Assumes nothing.
use Rattle.integers.proofs.Prelude.{◌≡◌, refl, ap, ap₂, subst, ◌∙◌, Bool, true, false, not, List, [], ◌∷◌, map, T, ℤ, pos, neg_ℤ, length, length-map}
use lib.Ieee.{Float, nan, inf, fin, binary32, fits, is_nan, neg, to_bits}
use Rattle.lists.proofs.Tests.{and_left, and_right}
use Rattle.lists.specs.Tabulated.{written}
use Rattle.lists.specs.Entries.{every, some}
use Rattle.lists.proofs.Entries.{every_some}
use Rattle.model.specs.declared.Channel.{Channel}
use Rattle.model.specs.Causes.{◌if◌, first_of, short, accepted}
use Rattle.model.specs.Reflection.{negated_if}
use Rattle.model.specs.Channel.{finite, in_range, product, cost_of_bits, cost_of}
use Rattle.model.specs.Calls.{channel_front}
use Rattle.model.specs.ChannelClaims.{Costed, ChannelClaims, of_singles}
use Rattle.model.proofs.Products.{product_number, product_single, cost_negated}
use Rattle.model.proofs.Values.{cost_rounded}

infinite : (s : Bool) → cost_of_bits (to_bits binary32 (inf s)) ≡ negated_if (1 if s) (pos 32767)
unfolding cost_of_bits to_bits
infinite true = refl
infinite false = refl

-- a list is as finite as its negative
finite_negated : (l : List Float) → some (λ x. not (finite x)) (map neg l) ≡ some (λ x. not (finite x)) l
unfolding neg
finite_negated [] = refl
finite_negated (nan ∷ l) = refl
finite_negated (inf s ∷ l) = refl
finite_negated (fin s m e ∷ l) = finite_negated l

module _ (setting : Channel) (h : of_singles setting ≡ true) where
  negated : (l : List Float) → in_range setting ≡ true → every finite l ≡ true → map (cost_of setting) (map neg l) ≡ map neg_ℤ (map (cost_of setting) l)
  negated [] r k = refl
  negated (x ∷ l) r k = ap₂ ◌∷◌ (cost_negated setting x h r (and_left (finite x) (every finite l) k)) (negated l r (and_right (finite x) (every finite l) k))

  module _ (l : List Float) (old : List ℤ) where
    lists : (r b : Bool) → in_range setting ≡ r → some (λ x. not (finite x)) l ≡ b
        → let c = first_of (11 if not r ∷ 14 if b ∷ 10 if short (length l) old ∷ []) in
        accepted c (written (map (cost_of setting) (map neg l)) old) old ≡ accepted c (written (map neg_ℤ (map (cost_of setting) l)) old) old
    lists false b p q = refl
    lists true true p q = refl
    lists true false p q = rw (negated l p (every_some finite l ∙ ap not q))

    pub negated_call : channel_front setting (map neg l) old ≡ record {
      number = (channel_front setting l old).number;
      costs = accepted (channel_front setting l old).number (written (map neg_ℤ (map (cost_of setting) l)) old) old;
    }
    unfolding channel_front
    negated_call =
        rw (finite_negated l, length-map l neg)
        (ap (λ (k : List ℤ). record { number = (channel_front setting l old).number; costs = k })
        (lists (in_range setting) (some (λ x. not (finite x)) l) refl refl))

-- the cost of a product, by what the product is
costed : (x : Float) → fits binary32 x ≡ true → is_nan x ≡ false → Costed x (cost_of_bits (to_bits binary32 x))
unfolding is_nan
costed nan h k = absurd (subst T k tt)
costed (inf s) h k = infinite s
costed (fin s m e) h k = cost_rounded s m e h

pub channel_claims : ChannelClaims
unfolding cost_of
channel_claims = record {
  single = product_single;
  no_nan = product_number;
  costed = λ setting x h r k. costed (product setting x) (product_single setting x h) (product_number setting x r k);
  negated = λ setting l h r k. negated setting h l r k;
}
