-- `sums::give_one` meets its contract. Assumes nothing.
use Rattle.integers.proofs.Prelude.{refl, List, [], ◌∷◌, ℕ, suc, ◌+◌, arith, ℤ, w32, to_z, of_z}
use Rattle.model.specs.Iteration.{at}
use Rattle.sums.specs.Shares.{Summed, Due, Group}
use Rattle.sums.proofs.Sums.{read_three, summed_also}
use Rattle.sums.proofs.give_one.Goals as goal

-- the last triple of a group is due
due : {ts : List ℕ} {N t : ℕ} {s l : List ℤ} {us : List ℕ} {q : List ℤ} (i : ℕ) → Summed ts N (t + i) s l → Group ts s t (suc i) us q
    → Due ts N (t + i) s l us i (to_z w32 (of_z w32 (at q i)) ∷ to_z w32 (of_z w32 (at q (32 + i))) ∷ to_z w32 (of_z w32 (at q (64 + i))) ∷ [])
due {t = t} {s = s} {q = q} i g h =
    record { summed = g; few = omega (arith, h.few); room = omega (arith, h.room); same = h.copied i (omega arith); shares = read_three s q t i g.within h.shared }

pub give-requires : goal.give-requires
give-requires c =
    record { in_lists = (omega (arith, c.requires.in_lists), omega (arith, c.requires.in_lists)); due = (c.requires.due.0, c.requires.due.1, _, c.requires.due.3, due c.args.i c.requires.due.4 c.requires.due.5) }

pub returns : goal.returns
returns c ts N t s g h =
    let a = c.args in
    summed_also (c.give.ensures ts N (t + a.i) s (due a.i g h)) refl (omega arith)
