-- `run::iterate` meets its contract: S, then c, then s. Assumes nothing.
use Rattle.integers.proofs.Prelude.{◌≡◌, sym, ap, ◌∙◌, List, ℕ, ◌<◌, arith, ℤ, length, get_or}
use Rattle.lists.specs.Tabulated.{tab}
use Rattle.lists.proofs.Tabulated.{length_tab, get_or_tab}
use Rattle.model.specs.Limits.{most_done}
use Rattle.model.specs.Iteration.{sum_of, occurrences, State, sums_of, iterate}
use Rattle.model.specs.Bounds.{RowsWithin, Ready, Bounds}
use Rattle.model.proofs.Bounds.{bounds}
use Rattle.layout.proofs.Places.{straight_back}
use Rattle.values.proofs.Values.{value_small}
use Rattle.run.specs.States.{state_in}
use Rattle.run.proofs.Remains.{any, system, next_state}
use Rattle.run.proofs.iterate.Goals as goal
use Rattle.run.proofs.iterate.Goals.{Start, After-gather, After-write_values}

module _ (s : Start) where
  abbrev T : ℕ
  T = s.args.system.now.count

  abbrev n : ℕ
  n = length s.args.values.now

  abbrev ts : List ℕ
  ts = s.args.system.now.triples.now

  abbrev costs : List ℤ
  costs = s.args.system.now.costs.now

  abbrev a : State
  a = state_in T s.args.sums.now s.args.values.now s.args.rows.now

  is_ready : Ready n ts T s.args.system.now.settings costs
  is_ready = s.requires.lent.ready

  bound : Bounds (system n ts T any) s.args.system.now.settings costs most_done a
  bound = bounds (system n ts T any) s.args.system.now.settings costs most_done a is_ready s.requires.rows_within

  count_is : (v : ℕ) → v < n → get_or s.args.system.now.counts.now v 0 ≡ occurrences ts T v
  count_is v h = ap (λ (l : List ℕ). get_or l v 0) s.requires.lent.counted ∙ get_or_tab n (occurrences ts T) v 0 h

  -- the rows as they stand
  within : RowsWithin most_done s.args.rows.now
  within = straight_back most_done T s.args.rows.now (sym s.requires.lent.rows) s.requires.rows_within

pub gather-requires : goal.gather-requires
gather-requires c =
    record { lists_long = ((is_ready (goal.at.gather-requires c).Start).triples, c.requires.lent.members, c.requires.lent.rows); members = (rw c.requires.lent.sums c.requires.lent.below, within (goal.at.gather-requires c).Start) }

-- ---- S
module _ (c : After-gather) where
  abbrev first : Start
  first = (goal.at.After-gather c).Start

  sums_are : c.gather.new.sums ≡ tab (n first) (sum_of (ts first) (T first) (a first).rows)
  sums_are = rw first.requires.lent.sums at c.gather.ensures

pub write_values-requires : goal.write_values-requires
unfolding iterate sums_of
write_values-requires c =
    let s = first (goal.at.write_values-requires c).After-gather in record {
      given = (
        record {
          sums_long = ap length (sums_are (goal.at.write_values-requires c).After-gather) ∙ length_tab (n s) (sum_of (ts s) (T s) (a s).rows);
          counts_long = ap length s.requires.lent.counted ∙ length_tab (n s) (occurrences (ts s) (T s));
          sum = λ v h. rw (sums_are (goal.at.write_values-requires c).After-gather) ((bound s).sums (omega arith) v);
          cost = λ v h. (is_ready s).cost v;
          some = λ v h. rw (count_is s v h) ((is_ready s).some v h);
          few = λ v h. rw (count_is s v h) ((is_ready s).few v h);
        },
        (is_ready s).weight,
      );
      costs_fit = (is_ready s).bits;
    }

-- ---- c
module _ (c : After-write_values) where
  abbrev given : After-gather
  given = (goal.at.After-write_values c).After-gather

  abbrev start : Start
  start = first given

pub renew_rows-requires : goal.renew_rows-requires
renew_rows-requires c =
    let s = start (goal.at.renew_rows-requires c).After-write_values in
    let small = value_small (given (goal.at.renew_rows-requires c).After-write_values).gather.new.sums s.args.system.now.counts.now (costs s) s.args.system.now.settings.weight s.args.divisors.now (n s) in
    record { sized = ((is_ready s).triples, s.requires.lent.members, s.requires.lent.rows); valued = (rw c.write_values.auto.values s.requires.lent.below, λ v. rw c.write_values.ensures (small v)); rows_within = within s; known = s.requires.known }

-- ---- s
pub returns : goal.returns
returns c =
    let s = start (goal.at.returns c).After-write_values in
    let values = rw s.requires.divisors at c.write_values.ensures in
    record {
      next_state = λ k. (
        next_state (n s) (ts s) (T s) s.args.system.now.settings (costs s) k (a s) s.args.system.now.counts.now _ _ _ s.requires.lent.counted (sums_are (given (goal.at.returns c).After-write_values)) values c.renew_rows.ensures.rows_after.0,
        rw (c.renew_rows.ensures.rows_after.0, ← c.from.ensures) c.renew_rows.ensures.value,
      );
      rows_long = c.renew_rows.ensures.rows_after.1;
    }
