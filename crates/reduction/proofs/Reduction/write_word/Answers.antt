-- `write_word` meets its contract: the entries from column j on are the word of what is left of the message. Assumes nothing.
use Rattle.integers.proofs.Prelude.{◌≡◌, sym, ap, ◌∙◌, suc, ◌-◌, ◌≤◌, ◌<◌, List, arith, length}
use Rattle.model.specs.Limits.{most_encoded_bits}
use Rattle.model.specs.Encoding.{Column, others, encoded_in}
use Rattle.reduction.specs.Table.{columns_in}
use Rattle.reduction.proofs.Table.{seen, width_is}
use Rattle.reduction.proofs.Words.{ended_start, ended_most, ended_end, ended_inside, ended_pivot, ended_some, ended_other}
use Rattle.reduction.proofs.Reduction.write_word.Goals as goal
use Rattle.reduction.proofs.Reduction.write_word.Goals.{After-self, In-loop-j, Else-is_pivot}

-- the columns of the table are those that callers see
module _ (s : After-self) where
  few : length s.args.word.now ≤ most_encoded_bits
  few = omega (arith, width_is _ _ _ _ s.self.view_is s.requires.width, s.self.invariant)

  columns : columns_in (length s.args.word.now) s.self.inside.rows.now ≡ s.args.self.now
  columns = seen _ _ _ _ s.self.view_is s.requires.width

  fits : length s.args.message.now ≡ others (columns_in (length s.args.word.now) s.self.inside.rows.now)
  fits = s.requires.message ∙ ap others (sym columns)

-- the column at hand
module _ (i : In-loop-j) where
  abbrev s : After-self
  s = (goal.at.In-loop-j i).After-self

  last : i.loop-j.j ≡ suc (i.loop-j.j - 1)
  last = omega (arith, i.loop-j-test.true)

  inside : i.loop-j.j - 1 < length i.loop-j.word
  inside = ended_inside _ _ _ (fits s) _ _ _ i.loop-j.invariant _ last

  most : i.loop-j.left ≤ length s.args.message.now
  most = ended_most _ _ _ (fits s) _ _ _ i.loop-j.invariant

pub loop-j-init : goal.loop-j-init
loop-j-init c = ended_start _ _ _ (fits c)

pub is_pivot-requires : goal.is_pivot-requires
is_pivot-requires c = omega (arith, inside c, c.loop-j.invariant.long, few (s c))

pub parity-requires : goal.parity-requires
parity-requires c =
    let i = (goal.at.parity-requires c).In-loop-j in
    (omega (arith, inside i), omega (arith, c.loop-j.invariant.long, few (s i)))

pub loop-j-preserved-then-is_pivot : goal.loop-j-preserved-then-is_pivot
loop-j-preserved-then-is_pivot c =
    let i = (goal.at.loop-j-preserved-then-is_pivot c).In-loop-j in
    ended_pivot _ _ _ (fits (s i)) _ _ _ c.loop-j.invariant _ (last i) _ (sym c.is_pivot.ensures ∙ c.if-is_pivot.true) c.parity.ensures

pub overflow_sub-left : goal.overflow_sub-left
overflow_sub-left c =
    let i = (goal.at.overflow_sub-left c).In-loop-j in
    ended_some _ _ _ (fits (s i)) _ _ _ c.loop-j.invariant _ (last i) (sym c.is_pivot.ensures ∙ c.if-is_pivot.false)

pub bounds-message-left : goal.bounds-message-left
bounds-message-left c = omega (arith, overflow_sub-left (goal.at.bounds-message-left c).Else-is_pivot, most (goal.at.bounds-message-left c).In-loop-j)

pub loop-j-preserved : goal.loop-j-preserved
loop-j-preserved c =
    let i = (goal.at.loop-j-preserved c).In-loop-j in
    ended_other _ _ _ (fits (s i)) _ _ _ c.loop-j.invariant _ (last i) (sym c.is_pivot.ensures ∙ c.if-is_pivot.false)

pub returns : goal.returns
returns c =
    let s = (goal.at.returns c).After-self in
    ended_end _ _ _ (fits s) _ _ _ c.loop-j.invariant (omega arith) ∙ ap (λ (cs : List Column). encoded_in cs c.args.message.now) (columns s)
