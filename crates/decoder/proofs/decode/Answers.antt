use Rattle.std.proofs.lemmas.Result.{err_from_is_err_and}
use Rattle.model.specs.Lent.{contents_of}
use Rattle.model.proofs.Told.{determined}
use Rattle.decoder.proofs.Decoded.{in_range, agree, room, unsound, refused, accepted}
use Rattle.decoder.proofs.decode.Goals as goal

pub returns-in_err-code-clause-call : goal.returns-in_err-code-clause-call
returns-in_err-code-clause-call c =
    let p = err_from_is_err_and c.from_residual.result c.from_residual.ensures.1 in
    rw (p.1, p.2) (unsound _ _ _ _ _ c.in_err-code.ensures.number (determined.refuses _).0)

pub returns-in_err-judge-clause-call : goal.returns-in_err-judge-clause-call
returns-in_err-judge-clause-call c =
    let p = err_from_is_err_and c.from_residual-in_err-judge.result c.from_residual-in_err-judge.ensures.1 in
    rw (p.1, p.2) (refused _ _ _ _ c.in_ok-code.ensures.number _ c.in_ok-code.ensures.code _ c.in_err-judge.ensures.number (determined.refuses _).0)

pub decode_accepted-requires : goal.decode_accepted-requires
decode_accepted-requires c =
    let l = contents_of c.args.lists.now in
    let none = c.in_ok-judge.ensures.number in
    record {
      settings = in_range c.args.settings c.args.costs.now l c.in_ok-code.code none;
      costs = (agree c.args.settings c.args.costs.now l c.in_ok-code.code none, c.in_ok-judge.ensures.small);
      room = room c.args.settings c.args.costs.now l c.in_ok-code.code none;
    }

pub returns-clause-call : goal.returns-clause-call
returns-clause-call c =
    accepted _ _ _ _ c.in_ok-code.ensures.number _ c.in_ok-code.ensures.code c.in_ok-judge.ensures.number c.in_ok-judge.ensures.small _ c.decode_accepted.ensures
