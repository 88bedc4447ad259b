use Rattle.integers.proofs.Prelude.{refl}
use Rattle.model.specs.Calls.{lists_of}
use Rattle.group.proofs.Decoded.{decoded}
use Rattle.group.proofs.decode_accepted.Goals as goal

pub run_system-requires : goal.run_system-requires
run_system-requires c = record { accepted = (c.args.word.now, c.requires.accepted); stages = refl }

pub returns-clause-decoded : goal.returns-clause-decoded
returns-clause-decoded c =
    let a = c.args in
    let l = lists_of a.triples.now a.counts.now a.sums.now a.values.now a.rows.now a.word.now in
    let r = c.run_system in
    let m = lists_of r.new.triples r.new.counts r.new.sums r.new.values r.new.rows c.conclude.new.word in
    decoded _ c.requires.accepted.sound _ _ _ l _ c.requires.accepted r.new.stages m _ (record {
      ran = r.ensures.ran;
      told = c.conclude.ensures.answers;
      triples = r.ensures.split.0;
      counts = r.ensures.split.1;
      words = c.conclude.ensures.words;
    })
