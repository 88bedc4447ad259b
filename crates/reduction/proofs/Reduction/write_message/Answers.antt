-- `write_message` meets its contract: the message of the columns so far. Assumes nothing.
use Rattle.integers.proofs.Prelude.{◌≡◌, sym, ap, ◌∙◌, List, ◌≤◌, arith, not-true, length}
use Rattle.lists.specs.Tabulated.{written}
use Rattle.model.specs.Limits.{most_encoded_bits}
use Rattle.model.specs.Encoding.{Column, others, message_in}
use Rattle.reduction.specs.Table.{columns_in}
use Rattle.reduction.proofs.Table.{seen, width_is}
use Rattle.reduction.proofs.Messages.{begun_start, begun_few, begun_end, begun_pivot, begun_room, begun_other}
use Rattle.reduction.proofs.Reduction.write_message.Goals as goal
use Rattle.reduction.proofs.Reduction.write_message.Goals.{After-self, else-not-is_pivot, then-not-is_pivot}

-- the columns of the table are those that callers see
module _ (s : After-self) where
  few : length s.args.word.now ≤ most_encoded_bits
  few = omega (arith, width_is _ _ _ _ s.self.view_is s.requires.width, s.self.invariant)

  columns : columns_in (length s.args.word.now) s.self.inside.rows.now ≡ s.args.self.now
  columns = seen _ _ _ _ s.self.view_is s.requires.width

  room : others (columns_in (length s.args.word.now) s.self.inside.rows.now) ≤ length s.args.message.now
  room = rw columns s.requires.room

pub loop-j-init : goal.loop-j-init
loop-j-init c = begun_start _ _ _ (room c)

pub is_pivot-requires : goal.is_pivot-requires
is_pivot-requires c = omega (arith, few (goal.at.is_pivot-requires c).After-self, c.loop-j-test.true)

pub bounds-message-count : goal.bounds-message-count
bounds-message-count c =
    begun_room _ _ _ (room (goal.at.bounds-message-count c).After-self) _ _ _ c.loop-j.invariant c.loop-j-test.true (sym c.is_pivot.ensures ∙ not-true _ c.if-not-is_pivot.true-raw)

pub overflow_add-count : goal.overflow_add-count
overflow_add-count c = omega (arith, begun_few _ _ _ (room (goal.at.overflow_add-count c).After-self) _ _ _ c.loop-j.invariant)

pub loop-j-preserved : goal.loop-j-preserved
loop-j-preserved c =
    let room = room (goal.at.loop-j-preserved c).After-self in
    elim c.if-not-is_pivot.branch [ then-not-is_pivot w ↦ rw (w.message-is, w.count-is) (begun_other _ _ _ room _ _ _ c.loop-j.invariant c.loop-j-test.true (sym c.is_pivot.ensures ∙ w.if-not-is_pivot.true)) | else-not-is_pivot w ↦ rw (w.message-is, w.count-is) (begun_pivot _ _ _ room _ _ _ c.loop-j.invariant c.loop-j-test.true (sym c.is_pivot.ensures ∙ w.if-not-is_pivot.false)) ]

pub returns : goal.returns
returns c =
    let s = (goal.at.returns c).After-self in
    begun_end _ _ _ (room s) _ _ _ c.loop-j.invariant c.loop-j-test.false
    ∙ ap (λ (cs : List Column). written (message_in cs c.args.word.now) c.args.message.now) (columns s)
