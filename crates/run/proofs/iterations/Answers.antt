-- `run::iterations` meets its contract: what has been done and what remains is the whole. Assumes nothing.
use Rattle.integers.proofs.Prelude.{◌≡◌, refl, sym, ap, ◌∙◌, ℕ, ◌+◌, arith, length}
use Rattle.model.specs.Causes.{◌if◌}
use Rattle.model.specs.Limits.{most_done}
use Rattle.model.specs.Run.{Ended}
use Rattle.layout.proofs.Places.{straight_back}
use Rattle.run.specs.States.{state_in}
use Rattle.run.proofs.Remains.{Remains, weaker, lent_again, remains_next, remains_end}
use Rattle.run.proofs.iterations.Goals as goal
use Rattle.run.proofs.iterations.Goals.{Start, After-iterate-settled}

pub iterate-settled-requires : goal.iterate-settled-requires
iterate-settled-requires c =
    let r = c.loop-k.invariant.1 in
    record {
      lent = lent_again _ _ _ r.sums r.values c.loop-k.invariant.2 c.requires.lent;
      rows_within = weaker c.loop-k.k most_done (omega (arith, c.requires.done_le_limit.1)) r.within;
      divisors = c.requires.divisors;
      known = c.requires.known;
    }

-- after an iteration
module _ (c : After-iterate-settled) where
  abbrev after : ℕ → Type 0
  after settled =
      let a = c.args in
      Remains (length a.values.now) a.system.now.triples.now a.system.now.count a.system.now.settings a.system.now.costs.now a.done (state_in a.system.now.count a.sums.now a.values.now a.rows.now)
      (state_in a.system.now.count c.iterate-settled.new.sums c.iterate-settled.new.values c.iterate-settled.new.rows) (c.loop-k.k + 1) settled

  next : after (1 if c.iterate-settled.result)
  next =
      remains_next (length c.args.values.now) c.args.system.now.triples.now c.args.system.now.count c.args.system.now.settings c.args.system.now.costs.now refl c.loop-k-test.true c.loop-k.invariant.1 _
      (1 if c.iterate-settled.result) c.iterate-settled.ensures.next_state

pub returns-then-settled-clause-run_on : goal.returns-then-settled-clause-run_on
returns-then-settled-clause-run_on c =
    let a = c.args in
    let d = (goal.at.returns-then-settled-clause-run_on c).After-iterate-settled in
    let stopped : 1 if c.iterate-settled.result ≡ 1 = rw c.if-settled.true in
    remains_end (length a.values.now) a.system.now.triples.now a.system.now.count a.system.now.settings a.system.now.costs.now (1 if c.iterate-settled.result) (λ e. absurd (omega (arith, stopped))) (next d)

pub returns-then-settled-clause-rows_kept : goal.returns-then-settled-clause-rows_kept
returns-then-settled-clause-rows_kept c =
    let r = next (goal.at.returns-then-settled-clause-rows_kept c).After-iterate-settled in
    let long = c.iterate-settled.ensures.rows_long in
    (weaker (c.loop-k.k + 1) c.args.system.now.settings.limit r.few (straight_back (c.loop-k.k + 1) c.args.system.now.count c.iterate-settled.new.rows long r.within), long)

pub loop-k-preserved : goal.loop-k-preserved
loop-k-preserved c = (omega arith, rw c.if-settled.false at (next (goal.at.loop-k-preserved c).After-iterate-settled), c.iterate-settled.ensures.rows_long)

-- ---- after the last
pub returns-clause-run_on : goal.returns-clause-run_on
returns-clause-run_on c =
    let a = c.args in
    let last : c.loop-k.k ≡ a.system.now.settings.limit = omega (arith, c.loop-k.invariant.1.few) in
    let ended : ℕ → Ended = λ k. record { k = k; settled = 0; last = state_in a.system.now.count c.loop-k.sums c.loop-k.values c.loop-k.rows } in
    λ k. ap ended (sym last) ∙ remains_end (length a.values.now) a.system.now.triples.now a.system.now.count a.system.now.settings a.system.now.costs.now 0 (λ _. omega arith) c.loop-k.invariant.1 k

pub returns-clause-rows_kept : goal.returns-clause-rows_kept
returns-clause-rows_kept c =
    let r = c.loop-k.invariant.1 in
    let long = c.loop-k.invariant.2 in
    (weaker c.loop-k.k c.args.system.now.settings.limit r.few (straight_back c.loop-k.k c.args.system.now.count c.loop-k.rows long r.within), long)
