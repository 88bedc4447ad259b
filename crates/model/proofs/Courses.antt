-- The iterates of a run, and the lists that a call leaves. Assumes nothing.
use Rattle.integers.proofs.Prelude.{◌≡◌, refl, sym, ap, ap₂, subst, ◌∙◌, Bool, true, false, ◌&&◌, List, ℕ, zero, suc, ◌*◌, ◌≤◌, ◌<◌, arith, leb, ℤ, pos}
use Rattle.integers.proofs.Prelude.{length}
use lib.ListN.{length-replicate}
use Rattle.lists.specs.Tabulated.{written}
use Rattle.lists.proofs.Tabulated.{length_tab, written_in}
use Rattle.quotient.specs.Quotient.{quotient}
use Rattle.model.specs.declared.Settings.{Settings}
use Rattle.model.specs.Causes.{◌if◌}
use Rattle.model.specs.Records.{code_of}
use Rattle.model.specs.Splitting.{System, system_of}
use Rattle.model.specs.Iteration.{at, slack, multiplier, sum_of, renewed_at, State, sums_of, rows_of, value_of, values_of, iterate}
use Rattle.model.specs.Run.{changes, settled_by, stop, start, Ended, after, run_from, run}
use Rattle.model.specs.Calls.{InRange, Lists, decoder_cause, decoded_by, decoder}
use Rattle.model.specs.DecoderClaims.{run_of, iterate_of, Course, Iterated}
use Rattle.model.proofs.Causes.{not_out_of_range}
use Rattle.model.proofs.Runs.{stops, goes_on}
use Rattle.model.proofs.DecoderCalls.{settings_allowed, ran_is}

-- ---- the iterates
module _ (g : System) (o : Settings) (costs : List ℤ) where
  abbrev later : ℕ → State → State
  later = after quotient g o costs

  abbrev stop_at : State → ℕ → ℕ
  stop_at a i = stop g o (later i a) (later (suc i) a)

  after_first : (i : ℕ) (a : State) → later i (iterate quotient g o costs a) ≡ later (suc i) a
  unfolding after
  after_first zero a = refl
  after_first (suc i) a = ap (iterate quotient g o costs) (after_first i a)

  -- a run stops in one way
  one_at_most : (t : Bool) → 1 if t ≤ 1
  one_at_most true = omega arith
  one_at_most false = omega arith

  stop_kinds : (a b : State) → stop g o a b ≤ 1
  unfolding settled_by
  stop_kinds a b =
      one_at_most (leb (changes multiplier g.triples a.rows b.rows) o.tolerance && leb (changes slack g.triples a.rows b.rows) o.tolerance)

  -- one iteration that does not stop the run, before a course
  module _ (more k : ℕ) (a : State) (e : Ended) (on : stop_at a 0 ≡ 0) (r : Course g o costs more (suc k) (iterate quotient g o costs a) e) where
    shifted : (i : ℕ) → stop_at (iterate quotient g o costs a) i ≡ stop_at a (suc i)
    shifted i = ap₂ (stop g o) (after_first i a) (after_first (suc i) a)

    going : (i : ℕ) → suc i < suc r.steps → stop_at a i ≡ 0
    going zero h = on
    going (suc i) h = sym (shifted i) ∙ r.going i (omega arith)

    ending : (i : ℕ) → suc i ≡ suc r.steps → e.settled ≡ stop_at a i
    ending zero h = r.none (omega arith) ∙ sym on
    ending (suc i) h = r.ending i (omega arith) ∙ shifted i

    longer : Course g o costs (suc more) k a e
    longer = record {
      steps = suc r.steps;
      count = omega (arith, r.count);
      few = omega (arith, r.few);
      last = r.last ∙ after_first r.steps a;
      going = going;
      ending = ending;
      none = λ h. absurd (omega arith);
      early = λ h. r.early (omega arith);
      kinds = r.kinds;
    }

  course : (more k : ℕ) (a : State) → Course g o costs more k a (run_from quotient g o costs more k a)
  unfolding after run_from
  course zero k a = record {
    steps = 0;
    count = omega arith;
    few = omega arith;
    last = refl;
    going = λ i h. absurd (omega arith);
    ending = λ i h. absurd (omega arith);
    none = λ _. refl;
    early = λ h. absurd (omega arith);
    kinds = omega arith;
  }
  course (suc more) k a = by (stop_at a 0) refl (course more (suc k) (iterate quotient g o costs a))
    where
      by : (n : ℕ) → stop_at a 0 ≡ n → Course g o costs more (suc k) (iterate quotient g o costs a) (run_from quotient g o costs more (suc k) (iterate quotient g o costs a))
          → Course g o costs (suc more) k a (run_from quotient g o costs (suc more) k a)
      by zero e r =
          subst (Course g o costs (suc more) k a) (sym (goes_on quotient g o costs more k a e)) (longer more k a (run_from quotient g o costs more (suc k) (iterate quotient g o costs a)) e r)
      by (suc n) e r = subst (Course g o costs (suc more) k a) (sym (stops quotient g o costs more k a n e)) (record {
        steps = 1;
        count = omega arith;
        few = omega arith;
        last = refl;
        going = λ i h. absurd (omega arith);
        ending = λ i h. (let z : 0 ≡ i = omega arith in subst (λ (j : ℕ). suc n ≡ stop_at a j) z (sym e));
        none = λ h. absurd (omega arith);
        early = λ _. omega arith;
        kinds = subst (λ (m : ℕ). m ≤ 1) e (stop_kinds a (iterate quotient g o costs a));
      })

-- ---- the lengths of the lists of a run
module _ (g : System) (o : Settings) (costs : List ℤ) where
  pub record Long (a : State) : Type 0 where
    pub sums : length a.sums ≡ g.variables
    pub values : length a.values ≡ g.variables
    pub rows : length a.rows ≡ 4 * g.triples

  long : (i : ℕ) → Long (after quotient g o costs i (start g))
  unfolding after start iterate sums_of values_of rows_of
  long zero = record { sums = length-replicate g.variables (pos 0); values = length-replicate g.variables (pos 0); rows = length-replicate (4 * g.triples) (pos 0) }
  long (suc i) =
      let a = after quotient g o costs i (start g) in
      record {
        sums = length_tab g.variables (sum_of g.members g.triples a.rows);
        values = length_tab g.variables (value_of quotient g o costs (sums_of g a.rows));
        rows = length_tab (4 * g.triples) (renewed_at g.members a.rows (values_of quotient g o costs (sums_of g a.rows)));
      }

  pub last_long : Long (run quotient g o costs).last
  last_long = let c = course g o costs o.limit 0 (start g) in subst Long (sym c.last) (long c.steps)

-- an entry of a list that was written
pub in_list : (new old : List ℤ) (n i : ℕ) → length new ≡ n → i < n → at (written new old) i ≡ at new i
in_list new old n i e k = written_in new old i (pos 0) (omega arith)

module _ (b : List ℕ) (o : Settings) (costs : List ℤ) (l : Lists) (h : decoder_cause b o costs l ≡ 0) where
  abbrev path : Course (system_of (code_of b)) o costs o.limit 0 (start (system_of (code_of b))) (run_of b o costs)
  path = course (system_of (code_of b)) o costs o.limit 0 (start (system_of (code_of b)))

  pub accepted_settings : InRange o
  accepted_settings = (not_out_of_range o).0 (settings_allowed b o costs l h)

  count_is : (run_of b o costs).k ≡ path.steps
  count_is = omega (arith, path.count)

  pub last_is : (run_of b o costs).last ≡ iterate_of b o costs (run_of b o costs).k
  last_is = path.last ∙ ap (iterate_of b o costs) (sym count_is)

  -- K is at least 1, so there is an iteration
  some_step : 1 ≤ path.steps
  some_step =
      by path.steps path.none path.early accepted_settings.limit.0
    where
      by : (n : ℕ) {s : ℕ} → (n ≡ 0 → s ≡ 0) → (n < o.limit → 1 ≤ s) → 1 ≤ o.limit → 1 ≤ n
      by zero none early l = absurd (omega (arith, none refl, early (omega arith)))
      by (suc n) none early l = omega arith

  pub steps_range : (1 ≤ (run_of b o costs).k) × ((run_of b o costs).k ≤ o.limit)
  steps_range = (omega (arith, count_is, some_step), omega (arith, count_is, path.few))

  pub iterated : Iterated b o costs l (decoder b o costs l)
  unfolding decoded_by
  iterated = subst (Iterated b o costs l) (sym (ran_is b o costs l h)) (record {
    course = path;
    count = count_is;
    range = steps_range;
    settled = refl;
    left = record {
      sums = ap (λ (a : State). written a.sums l.sums) last_is;
      values = ap (λ (a : State). written a.values l.values) last_is;
      rows = ap (λ (a : State). written a.rows l.rows) last_is;
    };
  })
