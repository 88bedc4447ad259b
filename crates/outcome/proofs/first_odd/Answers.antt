use Rattle.integers.proofs.Prelude.{◌≡◌, ◌∙◌, ℕ, arith, take, length-take-le}
use lib.ListN.{replicate, length-replicate}
use Rattle.model.specs.Limits.{most_bits}
use Rattle.model.specs.Words.{word_of}
use Rattle.outcome.proofs.Outcomes.{word_alone}
use Rattle.outcome.proofs.first_odd.Goals as goal

pub returns : goal.returns
returns c =
    let n = c.bits.result in
    let room = length-take-le n (replicate most_bits 0) (omega (arith, length-replicate {A = ℕ} most_bits 0, c.bits.ensures.most)) in
    let own : c.write_word.new.word ≡ word_of c.args.code.now c.args.values.now
    = c.write_word.ensures ∙ word_alone c.args.code.now c.args.values.now (take n (replicate most_bits 0)) (room ∙ c.bits.ensures.value) in
    (rw own at c.first_odd.ensures)
