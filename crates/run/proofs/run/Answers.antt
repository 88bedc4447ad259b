-- `run::run` meets its contract. Assumes nothing.
use Rattle.integers.proofs.Prelude.{refl, sym, ◌∙◌, arith}
use Rattle.lists.proofs.Tabulated.{tab_fill}
use Rattle.run.proofs.Remains.{lent_again, cleared_within, cleared_start}
use Rattle.run.proofs.run.Goals as goal

pub run_from-requires : goal.run_from-requires
run_from-requires c =
    let p = c.requires.lent in
    let r = c.fill.new.self in record {
      lent = lent_again _ _ r p.sums refl (c.fill.auto.self ∙ sym p.rows) p;
      rows_within = cleared_within c.args.count c.args.rows.now r p.rows (tab_fill _ _ _ c.fill.ensures.after);
      done_le_limit = (omega arith, c.requires.le_limit.1);
    }

pub returns : goal.returns
returns c =
    λ k. c.run_from.ensures k
    ∙ cleared_start c.args.count c.args.rows.now _ c.requires.lent.rows (tab_fill _ _ _ c.fill.ensures.after) _ c.args.settings c.args.costs.now _ _ refl c.requires.le_limit.0
