-- A frame that runs by itself, in its parts of the lists. Assumes nothing.
use Rattle.integers.proofs.Prelude.{◌≡◌, refl, ap, ◌∙◌, Bool, true, false, cond, List, ℕ, suc, ◌*◌, ◌≤◌, ◌<◌, eqb, eqb-true, eqb-false, ℤ, length, get_or, set}
use lib.Seq.{get_or-set_same, get_or-set_other}
use borrow.Rule.Slice.PartMut.{put_mid}
use Rattle.lists.specs.Tabulated.{part}
use Rattle.lists.proofs.Parts.{part_back, replaced_part}
use Rattle.model.specs.Run.{Ended}
use Rattle.lanes.specs.declared.Plan.{Plan}
use Rattle.group_step.specs.declared.Stage.{Stage}
use Rattle.group_step.specs.Frames.{is_running, iterations, stop_of, going, ended_in}
use Rattle.group_step.specs.declared.Stage.TheVariants as stage
use Rattle.group_step.proofs.Settled.{going_here, going_there}

-- part f, which was lent as m entries, comes back as x
returned : (size f m : ℕ) (x l : List ℤ) → m ≡ size → suc f * size ≤ length l → length x ≡ size → (g : ℕ)
    → part size g (put_mid (f * size) m l x) ≡ cond (eqb g f) x (part size g l)
returned size f m x l e room long g = rw (part_back size f m x l e) (replaced_part size f x l room long g)

-- the frame has ended as x
module _ (p : Plan) (f : ℕ) (stages : List Stage) (S c s : List ℤ) (inside : f < length stages)
    (S_room : suc f * p.variables ≤ length S) (c_room : suc f * p.variables ≤ length c) (s_room : suc f * (4 * p.triples) ≤ length s)
    (own : Stage) (m n : ℕ) (S' c' s' : List ℤ) (m_is : m ≡ p.variables) (n_is : n ≡ 4 * p.triples)
    (S_long : length S' ≡ p.variables) (c_long : length c' ≡ p.variables) (s_long : length s' ≡ 4 * p.triples) where
  stored : (g : ℕ) → get_or (set stages f own) g stage.Idle ≡ cond (eqb g f) own (get_or stages g stage.Idle)
  stored g = by (eqb g f) refl
    where
      by : (t : Bool) → eqb g f ≡ t → get_or (set stages f own) g stage.Idle ≡ cond t own (get_or stages g stage.Idle)
      by true e = ap (λ (i : ℕ). get_or (set stages f own) i stage.Idle) (eqb-true g f e) ∙ get_or-set_same stages f own stage.Idle inside
      by false e = get_or-set_other stages f g own stage.Idle (eqb-false g f e)

  pub ended_alone : (x : Ended) → record { k = iterations own; settled = stop_of own; last = record { sums = S'; values = c'; rows = s' } } ≡ x → (g : ℕ)
      → ended_in p (set stages f own) (put_mid (f * p.variables) m S S') (put_mid (f * p.variables) m c c') (put_mid (f * (4 * p.triples)) n s s') g
      ≡ cond (eqb g f) x (ended_in p stages S c s g)
  ended_alone x e g =
      rw (
        stored g,
        returned p.variables f m S' S m_is S_room S_long g,
        returned p.variables f m c' c m_is c_room c_long g,
        returned (4 * p.triples) f n s' s n_is s_room s_long g,
      ) (by (eqb g f))
    where
      by : (b : Bool) → ◌≡◌ {A = Ended} (record {
        k = iterations (cond b own (get_or stages g stage.Idle));
        settled = stop_of (cond b own (get_or stages g stage.Idle));
        last = record { sums = cond b S' (part p.variables g S); values = cond b c' (part p.variables g c); rows = cond b s' (part (4 * p.triples) g s) };
      }) (cond b x (ended_in p stages S c s g))
      by true = e
      by false = refl

-- a frame that does not run at f, and all others as they were
pub stops : (stages : List Stage) (f : ℕ) (own : Stage) → is_running own ≡ false → f < length stages → (g : ℕ)
    → going (set stages f own) g ≡ cond (eqb g f) false (going stages g)
stops stages f own e h g = by (eqb g f) refl
  where
    by : (t : Bool) → eqb g f ≡ t → going (set stages f own) g ≡ cond t false (going stages g)
    by true q = ap (going (set stages f own)) (eqb-true g f q) ∙ going_here stages f own h ∙ e
    by false q = going_there stages f own g (eqb-false g f q)
