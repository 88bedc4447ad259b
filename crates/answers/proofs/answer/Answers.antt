-- `answers::answer` meets its contract: the decoder refuses nothing, and its answer makes the line. Assumes nothing.
use Rattle.integers.proofs.Prelude.{◌≡◌, ◌≤◌, ◌∙◌, rules, length, take, length-take-le}
use Rattle.text.proofs.Appended.{lent, counted}
use Rattle.answers.proofs.Answers.{answered}
use Rattle.answers.proofs.answer.Goals as goal

pub returns : goal.returns
returns c =
    let line = c.line.ensures in
    let a = c.args in
    let room : a.bits ≤ length a.held.now.costs = search rules in
    let size : length (take a.bits a.held.now.costs) ≡ a.bits = length-take-le a.bits a.held.now.costs room in
    record {
      line = lent line ∙ (rw size at (answered _ a.settings (take a.bits a.held.now.costs) _ _ _ c.requires.code c.requires.settings (size ∙ c.requires.bits) c.requires.costs (search rules) c.decode-decoded.ensures.call.equation));
      within = (counted line).0;
    }
