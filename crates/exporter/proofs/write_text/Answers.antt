-- `exporter::write_text` meets its contract: parts of its own lists are lent. Assumes nothing.
use Rattle.integers.proofs.Prelude.{sym, ap, ◌∙◌, ◌≤◌, arith, length, length-map, length-take-le, take_at}
use Rattle.model.specs.declared.Sizes.{Sizes}
use Rattle.model.specs.Limits.{most_places}
use Rattle.exporter.proofs.Texts.{few}
use Rattle.exporter.proofs.write_text.Goals as goal
use Rattle.exporter.proofs.write_text.Goals.{After-row_degrees-places}

room : (c : After-row_degrees-places) → c.row_degrees-places.result ≤ most_places
room c = omega (arith, c.row_degrees-places.ensures.sum, few c.args.code.now c.sizes-sizes.ensures.sound)

pub slice_bounds-entries-end : goal.slice_bounds-entries-end
slice_bounds-entries-end c = room (goal.at.slice_bounds-entries-end c).After-row_degrees-places

pub slice_bounds-text_in-end-3 : goal.slice_bounds-text_in-end-3
slice_bounds-text_in-end-3 c = sym (length-take-le _ _ (room (goal.at.slice_bounds-text_in-end-3 c).After-row_degrees-places))

pub text_in-requires : goal.text_in-requires
text_in-requires c =
    let told = c.sizes-sizes.ensures in
    let degrees = c.row_degrees-places.ensures.degrees in
    let bits = ap (λ (s : Sizes). s.bits) told.value in
    let checks = ap (λ (s : Sizes). s.checks) told.value in
    let long = ap length degrees ∙ length-map c.args.code.now.checks length ∙ sym checks in
    record {
      sound = told.sound;
      bits = length-take-le _ _ (omega (arith, bits, told.sound.bits_most)) ∙ bits;
      degrees = take_at c.row_degrees-places.new.degrees _ _ long ∙ degrees;
      places = length-take-le _ _ (room (goal.at.text_in-requires c).After-row_degrees-places) ∙ c.row_degrees-places.ensures.sum;
    }
