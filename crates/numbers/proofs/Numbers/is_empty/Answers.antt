use Rattle.integers.proofs.Prelude.{sym, ◌∙◌, eqb-true, eq-eqb}
use Rattle.numbers.proofs.Walk.{none_left, left_none}
use Rattle.numbers.proofs.Numbers.is_empty.Goals as goal

pub returns : goal.returns
returns c =
    let same = c.self.view_is in (
      λ t. sym same ∙ none_left c.skip.ensures (eqb-true _ 0 (sym c.is_empty.ensures ∙ t)),
      λ e. c.is_empty.ensures ∙ eq-eqb _ 0 (left_none c.skip.ensures (same ∙ e)),
    )
