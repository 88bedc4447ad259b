-- Marks, one more at a time, and of check after check. Assumes nothing.
use Rattle.integers.proofs.Prelude.{◌≡◌, refl, sym, ◌∙◌, Bool, true, false, ◌||◌, List, [], ◌∷◌, ℕ, ◌+◌, ◌≤◌, ◌<◌, arith, add-one}
use Rattle.integers.proofs.Prelude.{eqb-true, eqb-false, eqb, length, get_or, take, set, length-set, take-suc}
use mathlib.Core.Bool.{or_assoc, or-false}
use lib.Seq.{get_or-set_same, get_or-set_other}
use lib.ListN.{replicate, get_or-replicate}
use Rattle.lists.specs.Entries.{some}
use Rattle.lists.proofs.Entries.{some_last, every_same}
use Rattle.model.specs.Limits.{most_bits}
use Rattle.model.specs.Records.{covered}
use Rattle.reader.specs.Marks.{marked, all_marked, Marks}

marked_set : (l : List ℕ) (x b : ℕ) → b < length l → marked (set l x 1) b ≡ (eqb b x || marked l b)
marked_set l x b h = by (eqb b x) refl
  where
    by : (t : Bool) → eqb b x ≡ t → marked (set l x 1) b ≡ (t || marked l b)
    by true e = rw (← eqb-true b x e, get_or-set_same l b 1 0 h)
    by false e = rw (get_or-set_other l x b 1 0 (eqb-false b x e))

-- ---- the bits of one check
pub no_mark : (seen : List ℕ) → Marks [] seen seen
no_mark seen = record { long = refl; each = λ b h. refl }

-- one bit more
pub next_mark : (check before after : List ℕ) (i : ℕ) → i < length check → Marks (take i check) before after
    → Marks (take (i + 1) check) before (set after (get_or check i 0) 1)
next_mark check before after i h m =
    let x = get_or check i 0 in
    record {
      long = length-set after x 1 ∙ m.long;
      each = λ b k.
          rw (marked_set after x b (omega (arith, m.long)), m.each b k, add-one i, take-suc check i 0 h, some_last (eqb b) (take i check) x)
          (sym (or_assoc (eqb b x) (some (eqb b) (take i check)) _));
    }

-- ---- the checks one after another: what is marked, and what those that are left will mark, is what all mark
abbrev pub Left : List (List ℕ) → List (List ℕ) → List ℕ → Type 0
Left all left seen = (length seen ≡ most_bits) × ((b : ℕ) → b < most_bits → (marked seen b || some (some (eqb b)) left) ≡ some (some (eqb b)) all)

pub all_left : (all : List (List ℕ)) → Left all all (replicate most_bits 0)
all_left all = (refl, λ b h. rw (get_or-replicate {A = ℕ} most_bits b 0 0 h))

pub one_less : (all : List (List ℕ)) (check : List ℕ) (left : List (List ℕ)) (before after : List ℕ)
    → Marks check before after → Left all (check ∷ left) before → Left all left after
one_less all check left before after m l =
    (m.long ∙ l.0, λ b h. rw (m.each b (omega (arith, l.0))) (turned (some (eqb b) check) (marked before b) (some (some (eqb b)) left) ∙ l.1 b h))
  where
    turned : (x y z : Bool) → ((x || y) || z) ≡ (y || (x || z))
    turned true true z = refl
    turned true false z = refl
    turned false true z = refl
    turned false false z = refl

pub none_left : (all : List (List ℕ)) (seen : List ℕ) (n : ℕ) → n ≤ most_bits → Left all [] seen
    → all_marked seen n ≡ covered (record { bits = n; checks = all })
unfolding all_marked covered
none_left all seen n most l =
    every_same n (λ b. b) (marked seen) (λ b. some (some (eqb b)) all) (λ b h. sym (or-false (marked seen b)) ∙ l.1 b (omega (arith, h, most)))
