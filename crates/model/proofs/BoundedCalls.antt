-- How large the numbers of a call get. Assumes nothing.
use Rattle.integers.proofs.Prelude.{◌≡◌, sym, subst, List, ℕ, zero, suc, ◌*◌, ◌≤◌, ◌<◌, arith, ℤ, nat_abs}
use Rattle.lists.proofs.Tabulated.{take_written}
use Rattle.quotient.specs.Quotient.{unit}
use Rattle.model.specs.declared.Settings.{Settings}
use Rattle.model.specs.Limits.{most_iterations, most_sum, most_numerator}
use Rattle.model.specs.Code.{Code, triples, variables}
use Rattle.model.specs.Records.{code_of}
use Rattle.model.specs.Splitting.{System, system_of}
use Rattle.model.specs.Iteration.{at, numerator, State}
use Rattle.model.specs.Run.{after, Ended}
use Rattle.model.specs.Calls.{Lists, decoder_cause, decoded_by, decoder}
use Rattle.model.specs.Bounds.{RowsWithin, Bounds}
use Rattle.model.specs.DecoderClaims.{run_of, iterate_of, Small, Bounded}
use Rattle.model.proofs.Accepted as Accepted
use Rattle.model.proofs.Bounds.{row_small, rows_after, values_after, bounds, ready}
use Rattle.model.proofs.DecoderCalls.{sound, settings_allowed, costs_fit, ran_is}
use Rattle.model.proofs.Courses.{accepted_settings, steps_range, last_is, last_long, in_list}

module _ (b : List ℕ) (o : Settings) (costs : List ℤ) (l : Lists) (h : decoder_cause b o costs l ≡ 0) (small : Small costs) where
  abbrev code : Code
  code = code_of b

  abbrev g : System
  g = system_of code

  abbrev end : Ended
  end = run_of b o costs

  -- K, and so the number of iterations, is within the limit
  few : (k : ℕ) → k < o.limit → k < most_iterations
  few k c = omega (arith, (accepted_settings b o costs l h).limit.1)

  -- an iteration of the run, k being done
  step : (k : ℕ) → Bounds g o costs k (iterate_of b o costs k)
  unfolding system_of
  step k =
      let r = ready code (Accepted.accepted b (sound b o costs l h)) o (settings_allowed b o costs l h) costs (costs_fit b o costs l h) small in
      bounds g o costs k (iterate_of b o costs k) r (rows_after g o costs k)

  numerators : (k v : ℕ) → k < o.limit → nat_abs (numerator o.weight (at (iterate_of b o costs (suc k)).sums v) (at costs v)) ≤ most_numerator
  unfolding after
  numerators k v c = (step k).numerators (few k c) v

  -- the last iterate is one behind another
  last_sum : (v : ℕ) → nat_abs (at end.last.sums v) ≤ most_sum
  unfolding after
  last_sum v =
      subst (λ (a : State). nat_abs (at a.sums v) ≤ most_sum) (sym (last_is b o costs l h)) (by end.k (steps_range b o costs l h).0 (steps_range b o costs l h).1)
    where
      by : (k : ℕ) → 1 ≤ k → k ≤ o.limit → nat_abs (at (iterate_of b o costs k).sums v) ≤ most_sum
      by zero m n = absurd (omega arith)
      by (suc k) m n = (step k).sums (few k (omega arith)) v

  last_within : RowsWithin end.k end.last.rows
  last_within = subst (λ (a : State). RowsWithin end.k a.rows) (sym (last_is b o costs l h)) (rows_after g o costs end.k)

  last_centred : (v : ℕ) → nat_abs (at end.last.values v) ≤ unit
  last_centred v = subst (λ (a : State). nat_abs (at a.values v) ≤ unit) (sym (last_is b o costs l h)) (values_after g o costs end.k v)

  pub bounded : Bounded b o costs (decoder b o costs l)
  unfolding decoded_by system_of
  bounded =
      let long = last_long g o costs in
      let new = end.last.rows in
      subst (Bounded b o costs) (sym (ran_is b o costs l h)) (record {
        values = λ v k. rw (in_list end.last.values l.values (variables code) v long.values k) (last_centred v);
        each = rows_after g o costs;
        left = rw (take_written new l.rows (4 * triples code) long.rows) last_within;
        rows = λ i k. rw (in_list new l.rows (4 * triples code) i long.rows k)
            (row_small end.k new (omega (arith, (steps_range b o costs l h).1, (accepted_settings b o costs l h).limit.1)) last_within i);
        sums = λ v k. rw (in_list end.last.sums l.sums (variables code) v long.sums k) (last_sum v);
        numerators = numerators;
      })
