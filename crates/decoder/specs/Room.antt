-- The room that frames of one code want. Definitions only.
use Rattle.std.specs.Prelude.{Bool, ◌||◌, ℕ, ◌*◌}
use Rattle.model.specs.Causes.{short}
use Rattle.model.specs.Code.{Code, triples, variables}
use Rattle.model.specs.Calls.{Lists, HasRoom}

-- 10, of F frames: 3T, V, F × V, F × V, F × 4T and F × n entries
abbrev pub too_short : ℕ → Code → Lists → Bool
too_short F k l =
    short (3 * triples k) l.triples || (short (variables k) l.counts || (short (F * variables k) l.sums
    || (short (F * variables k) l.values || (short (F * (4 * triples k)) l.rows || short (F * k.bits) l.word))))

-- lists with room for one
abbrev pub RoomFor : Code → Lists → Type 0
RoomFor k l = HasRoom (triples k) (variables k) k.bits l
