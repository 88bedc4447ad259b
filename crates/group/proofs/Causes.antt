-- The causes of a group: the room of its frames, and what holds where there is no cause. Assumes nothing.
use Rattle.integers.proofs.Prelude.{◌≡◌, refl, sym, Bool, true, false, ◌||◌, List, ℕ, ◌*◌, eqb-true, not-false, ℤ, length}
use Rattle.model.specs.declared.Settings.{Settings}
use Rattle.model.specs.Limits.{most_frames}
use Rattle.model.specs.Causes.{first_of, short, outside}
use Rattle.model.specs.Code.{Code, triples, variables}
use Rattle.model.specs.Records.{code_of, judge}
use Rattle.model.specs.Calls.{out_of_range, unequal, Lists}
use Rattle.model.specs.Group.{group_causes, no_group_room, work_size}
use Rattle.model.proofs.Causes.{clear, unless, within}
use Rattle.model.proofs.Accepted.{accepted}
use Rattle.model.proofs.Groups.{has_room}
use Rattle.decoder.specs.Room.{too_short}
use Rattle.group.specs.Ends.{AcceptedGroup}

-- the room of the frames, and then that of the work
joined : (a b c d e f g : Bool) → ((a || (b || (c || (d || (e || f))))) || g) ≡ (a || (b || (c || (d || (e || (f || g))))))
joined true b c d e f g = refl
joined false true c d e f g = refl
joined false false true d e f g = refl
joined false false false true e f g = refl
joined false false false false true f g = refl
joined false false false false false f g = refl

pub room_joined : (k : Code) (F : ℕ) (l : Lists) (work : List ℤ) → (too_short F k l || short (work_size k F) work) ≡ no_group_room k F l work
room_joined k F l work =
    joined (short (3 * triples k) l.triples) (short (variables k) l.counts) (short (F * variables k) l.sums) (short (F * variables k) l.values)
    (short (F * (4 * triples k)) l.rows) (short (F * k.bits) l.word) (short (work_size k F) work)

-- the code is sound, and none of the other causes holds
pub accepted_group : (b : List ℕ) → 0 ≡ judge b → (k : Code) → k ≡ code_of b → (o : Settings) (F : ℕ) (costs : List ℤ) (l : Lists) (work : List ℤ)
    → 0 ≡ first_of (group_causes k o F costs l work) → AcceptedGroup k o F costs l work
accepted_group b judged k is o F costs l work none =
    let x = clear (group_causes k o F costs l work) (sym none) in
    let frames = within 1 most_frames F (unless 20 (outside 1 most_frames F) x.1.0) in
    record {
      sound = rw is (accepted b (sym judged));
      settings = unless 10 (out_of_range o) x.0;
      least = frames.0;
      frames = frames.1;
      lengths = eqb-true (length costs) (F * k.bits) (not-false _ (unless 11 (unequal costs (F * k.bits)) x.1.1.0));
      room = (has_room k F l work).0 (unless 9 (no_group_room k F l work) x.1.1.1.0);
    }
