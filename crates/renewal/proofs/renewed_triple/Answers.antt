-- `renewal::renewed_triple` meets its contract. Assumes nothing.
use Rattle.integers.proofs.Prelude.{sym, subst, T, arith, w32}
use Rattle.integers.proofs.Machine.{read_back}
use Rattle.model.specs.Splitting.{member}
use Rattle.model.proofs.Rows.{value_small}
use Rattle.renewal.proofs.renewed_triple.Goals as goal

pub renewed_with-requires : goal.renewed_with-requires
renewed_with-requires c =
    let e = read_back w32 c.value_at-c.type_inv c.value_at-c.ensures.0 in
    record { in_lists = c.requires.in_lists; valued = c.requires.valued; rows = c.requires.rows; third_known = (e, rw e (value_small c.args.values.now (member c.args.triples.now c.args.t 2) (c.requires.valued.1 _))) }

pub value_at-c-requires : goal.value_at-c-requires
value_at-c-requires c = record { in_lists = (c.requires.in_lists.0, omega arith, c.requires.in_lists.1, c.requires.valued); no_blank = λ e. absurd (subst T (sym e) tt) }
