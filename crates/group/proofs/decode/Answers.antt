use Rattle.std.proofs.lemmas.Result.{err_from_is_err_and}
use Rattle.model.specs.Lent.{contents_of}
use Rattle.model.proofs.Told.{determined}
use Rattle.group.proofs.Causes.{accepted_group}
use Rattle.group.proofs.Decoded.{unsound, refused, accepted_is}
use Rattle.group.proofs.decode.Goals as goal

pub returns-in_err-code-clause-call : goal.returns-in_err-code-clause-call
returns-in_err-code-clause-call c =
    let p = err_from_is_err_and c.from_residual.result c.from_residual.ensures.1 in
    rw (p.1, p.2) (unsound _ _ _ _ _ _ _ c.in_err-code.ensures.number (determined.refuses _).0)

pub returns-in_err-judge-clause-call : goal.returns-in_err-judge-clause-call
returns-in_err-judge-clause-call c =
    let p = err_from_is_err_and c.from_residual-in_err-judge.result c.from_residual-in_err-judge.ensures.1 in
    rw (p.1, p.2) (refused _ _ _ _ _ _ c.in_ok-code.ensures.number _ c.in_ok-code.ensures.code _ c.in_err-judge.ensures (determined.refuses _).0)

pub decode_accepted-requires : goal.decode_accepted-requires
decode_accepted-requires c =
    record { accepted = accepted_group _ c.in_ok-code.ensures.number c.in_ok-code.code c.in_ok-code.ensures.code c.args.settings c.args.frames c.args.costs.now (contents_of c.args.lists.now) c.args.work.now c.in_ok-judge.ensures }

pub returns-clause-call : goal.returns-clause-call
returns-clause-call c =
    accepted_is _ _ _ _ _ _ c.in_ok-code.ensures.number _ c.in_ok-code.ensures.code c.in_ok-judge.ensures c.decode_accepted.ensures.small _
    c.decode_accepted.ensures.decoded _ c.decode_accepted.auto.work
