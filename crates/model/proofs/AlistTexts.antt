-- The texts by hand of document 02, L1, and the calls: each is computed. Assumes nothing.
use mathlib.Core.Path.{refl}
use Rattle.model.specs.Text.{decimal}
use Rattle.model.specs.Records.{two_bytes, numbers, checks_in, after_checks, code_of, judge_header, judge_indices, judge_check, judge_checks, covered, judge}
use Rattle.model.specs.Records.{bytes_of, record_of, check_records, records_of}
use Rattle.model.specs.RecordClaims.{indices_cause, check_cause, checks_cause}
use Rattle.model.specs.Alist.{numbers_of, well_formed, agree, code_in, judge_text, column_from, columns_of, rows_of, line_of, text_of, alist_of}
use Rattle.model.specs.Alist.{importer, exporter, export_size}
use Rattle.model.specs.AlistTexts.{Texts}

pub texts : Texts
unfolding numbers_of well_formed agree code_in judge_text checks_cause check_cause indices_cause covered column_from columns_of rows_of line_of text_of alist_of decimal
    importer exporter export_size two_bytes numbers checks_in after_checks code_of judge_header judge_indices judge_check judge_checks judge bytes_of record_of
    check_records records_of
texts = record {
  numbers = refl;
  causes = refl;
  degrees = (refl, refl);
  bytes = refl;
  filled = refl;
  back = refl;
  imports = (refl, refl);
  refusals = (refl, refl);
  exports = (refl, refl, refl);
  sizes = (refl, refl);
}
