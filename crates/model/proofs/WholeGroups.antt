-- Groups by hand, at the real quotient. Assumes nothing.
use Rattle.integers.proofs.Prelude.{◌≡◌, refl, fun_ext}
use Rattle.quotient.specs.Quotient.{quotient}
use Rattle.model.specs.Records.{two_bytes, numbers, checks_in, after_checks, code_of, judge_header, judge_indices, judge_check, judge_checks, covered, judge}
use Rattle.model.specs.Splitting.{queue, triples_from, system_of}
use Rattle.model.specs.Iteration.{sign, row_sum, share, sum_of, occurrences, sums_of, counts_of, values_of, rows_of, iterate}
use Rattle.model.specs.Run.{changes, settled_by, start, after, run_from}
use Rattle.model.specs.Words.{word_of, first_undecided, first_odd, tested, outcome}
use Rattle.model.specs.Calls.{decoded_by}
use Rattle.model.specs.Group.{group_cause, frame_decoded, group_decoded, group}
use Rattle.model.specs.WholeGroups.{WholeGroups}
use Rattle.model.proofs.Worked.{computes, quotient_computes}

pub whole_groups : WholeGroups
unfolding group group_cause group_decoded frame_decoded decoded_by judge judge_header judge_checks judge_check judge_indices after_checks covered code_of two_bytes numbers checks_in queue triples_from system_of sign row_sum share sum_of occurrences sums_of counts_of values_of rows_of iterate changes settled_by start after run_from word_of first_undecided first_odd tested outcome
whole_groups =
    let q : quotient ≡ computes = fun_ext (λ n. fun_ext (quotient_computes n)) in
    record {
      listing = rw q;
      auxiliary = rw q;
      frames_0 = λ costs l work. refl;
      frames_9 = λ costs l work. refl;
      settings_first = λ costs l work. refl;
      lengths = λ l work. refl;
      words_short = refl;
      work_short = refl;
      one = refl;
      eight = refl;
      eight_short = refl;
    }
