-- Where nothing of the text is left, no number is, and none of those that are still asked for.
use Rattle.integers.proofs.Prelude.{◌≡◌, refl, sym, ap, ◌∙◌, List, [], ◌∷◌, ℕ, ◌≤◌, arith, eqb-true, length, length-drop}
use Rattle.std.proofs.Math.ListN.{drop_of_length-le}
use Rattle.model.specs.Alist.{numbers_of}
use Rattle.numbers.proofs.Numbers.pass.Goals as goal

none_in : (text : List ℕ) → length text ≡ 0 → numbers_of 0 text ≡ []
unfolding numbers_of
none_in [] e = refl
none_in (b ∷ text) e = absurd (omega arith)

pub returns-then-is_empty : goal.returns-then-is_empty
returns-then-is_empty c =
    let l = c.args.self.now in
    let i = c.loop.counter in
    let empty : c.loop.self ≡ [] = sym c.self.view_is ∙ none_in _ (eqb-true _ 0 (sym c.if-is_empty.ensures)) in
    let short : length l ≤ i = omega (arith, length-drop i l, ap length (sym c.loop.invariant ∙ empty)) in
    empty ∙ sym (drop_of_length-le l (omega (arith, short)))
