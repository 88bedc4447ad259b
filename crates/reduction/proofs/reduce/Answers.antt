-- `reduce` meets its contract: the checks so far are reduced. Assumes nothing.
use Rattle.integers.proofs.Prelude.{◌≡◌, sym, ap, ◌∙◌, List, ◌∷◌, arith}
use lib.ListN.{replicate}
use Rattle.model.specs.Limits.{most_encoded_bits}
use Rattle.model.specs.Sound.{SoundCheck}
use Rattle.model.specs.Encoding.{row_of, Column, other, cleared, reduced_by, reduced}
use Rattle.model.proofs.Sound.{rising_more}
use Rattle.reader.proofs.Done.{Done, none_done, one_done, all_done, each_here}
use Rattle.reduction.specs.Table.{columns_in}
use Rattle.reduction.proofs.Table.{columns_none, row_front}
use Rattle.reduction.proofs.Clearing.{reduced_next}
use Rattle.reduction.proofs.reduce.Goals as goal
use Rattle.reduction.proofs.reduce.Goals.{In-Some}

pub loop-check-init : goal.loop-check-init
unfolding reduced_by
loop-check-init c =
    rw (c.into_iter-check-iterator.ensures.into_iter_gives, c.checks-check-items.ensures.value, c.bits-bits.ensures.value)
    (none_done _ (rw c.requires.zeros (columns_none c.args.code.now.bits most_encoded_bits c.requires.size)))

-- the checks that are done, and the one at hand
taken : (c : In-Some)
    → let n = c.bits-bits.result in
    Done c.args.code.now.checks (c.in-Some.check ∷ c.next.new.self) (λ done. columns_in n c.loop-check.rows ≡ reduced_by n done (replicate n other))
taken c = rw c.in-Some.ensures.steps at c.loop-check.invariant

pub check_row-row-requires : goal.check_row-row-requires
check_row-row-requires c =
    let d = taken (goal.at.check_row-row-requires c).In-Some in
    rising_more c.args.code.now.bits most_encoded_bits 0 c.in-Some.check c.requires.size (each_here d (SoundCheck c.args.code.now.bits) c.checks-check-items.ensures.sound.checks).rising

pub loop-check-preserved : goal.loop-check-preserved
loop-check-preserved c =
    let d = taken (goal.at.loop-check-preserved c).In-Some in
    let n = c.bits-bits.result in
    one_done d _ (
    c.clear.ensures
    ∙ ap (cleared (columns_in n c.loop-check.rows)) (row_front n c.in-Some.check _ (omega (arith, c.requires.size, c.bits-bits.ensures.value)) c.check_row-row.ensures)
    ∙ ap (λ (cs : List Column). cleared cs (row_of n c.in-Some.check)) d.known
    ∙ sym (reduced_next n d.items c.in-Some.check (replicate n other))
    )

pub returns : goal.returns
unfolding reduced
returns c =
    let known = all_done (rw c.in-None.ensures.steps.0 at c.loop-check.invariant) in
    rw c.bits-bits.ensures.value at known
