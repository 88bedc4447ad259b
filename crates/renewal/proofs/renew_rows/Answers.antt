-- `renewal::renew_rows` meets its contract: the rows in two parts, and the totals of the first. Assumes nothing.
use Rattle.integers.proofs.Prelude.{◌≡◌, ap, ◌∙◌, Bool, ◌*◌, length}
use Rattle.lists.proofs.Tabulated.{length_tab}
use Rattle.model.specs.Causes.{◌if◌}
use Rattle.layout.specs.Transposed.{straight}
use Rattle.renewal.specs.InPlace.{renewed_from}
use Rattle.renewal.proofs.Renewal.{all_straight, settled}
use Rattle.renewal.proofs.renew_rows.Goals as goal

pub returns : goal.returns
returns c =
    let a = c.args in
    let s = a.rows.now in
    let e : c.renew_rest.new.rows ≡ renewed_from a.count a.triples.now a.values.now 0 s = c.renew_rest.ensures ∙ c.renew_counted-counted.ensures.renewed.rows in record {
      rows_after = (ap (straight a.count) e ∙ all_straight a.count a.triples.now a.values.now s, ap length e ∙ length_tab (4 * a.count) _);
      value = ap (λ (t : Bool). 1 if t) c.settles.ensures ∙ settled a.count a.triples.now a.values.now s a.tolerance c.renew_counted-counted.result.done _ _ c.renew_counted-counted.new.rows c.renew_counted-counted.ensures.renewed c.renew_counted-counted.ensures.done_all;
    }
