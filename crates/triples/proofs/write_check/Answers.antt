use Rattle.integers.proofs.Prelude.{◌≡◌, sym, ◌∙◌, ℕ, ◌+◌, ◌*◌, ◌<◌, arith, lt-ltb, le-ltb, length, get_or, set}
use Rattle.lists.specs.Tabulated.{over}
use Rattle.lists.proofs.Tabulated.{over_all}
use Rattle.model.specs.Code.{turns, triple_count}
use Rattle.model.specs.Splitting.{triples_of, member}
use Rattle.model.specs.TripleRule.{items, TripleRule}
use Rattle.model.proofs.TripleRule.{triple_rule}
use Rattle.triples.proofs.Items.{entry, triple_next}
use Rattle.triples.proofs.write_check.Goals as goal
use Rattle.triples.proofs.write_check.Goals.{Start, At-loop-t}

rule : (s : Start) → TripleRule s.args.check.now s.args.next
rule s = triple_rule s.args.next s.args.next s.args.check.now s.requires.sound.0 (omega arith) (omega (arith, s.requires.sound.0.most))

-- triple t more: made of the third z
turn : (c : At-loop-t) (z : ℕ)
    → let k = c.args.check.now in
    let i = items k c.args.next in
    let t = c.loop-t.t in
    t < triple_count k → member (triples_of k c.args.next) t 2 ≡ z
    → set (set (set c.loop-t.out (3 * t) (get_or i (2 * t) 0)) (3 * t + 1) (get_or i (2 * t + 1) 0)) (3 * t + 2) z
    ≡ over (3 * (t + 1)) (entry k c.args.next) c.args.out.now
turn c z h e =
    rw c.loop-t.invariant (triple_next c.args.check.now c.args.next (rule (goal.at.At-loop-t c).Start) c.loop-t.t h c.args.out.now z (omega (arith, c.requires.room)) e)

pub loop-t-preserved : goal.loop-t-preserved
loop-t-preserved c =
    let t = c.loop-t.t in
    let below : t < turns c.args.check.now = omega (arith, c.loop-t-test.true, c.turns-turns.ensures.value) in
    c.put.ensures
    ∙ turn (goal.at.loop-t-preserved c).At-loop-t (c.args.next + t) (omega arith)
    ((rule (goal.at.loop-t-preserved c).Start).thirds t (omega arith) ∙ rw (lt-ltb t (turns c.args.check.now) below))

pub returns : goal.returns
returns c =
    let k = c.args.check.now in
    let t = c.loop-t.t in
    let done : c.turns-turns.result ≡ t = omega (arith, c.loop-t-test.false, c.loop-t.auto.t-end) in
    let whole : 3 * (t + 1) ≡ length (triples_of k c.args.next) = omega (arith, (rule (goal.at.returns c).Start).long, c.turns-turns.ensures.value) in
    let last : member (triples_of k c.args.next) t 2 ≡ c.item.result
    = (rule (goal.at.returns c).Start).thirds t (omega (arith, c.turns-turns.ensures.value)) ∙ rw (le-ltb t (turns k) (omega (arith, c.turns-turns.ensures.value)), ← done) (sym c.item.ensures) in
    (rw done at c.put-2.ensures) ∙ turn (goal.at.returns c).At-loop-t c.item.result (omega (arith, c.turns-turns.ensures.value)) last ∙ rw whole (over_all (triples_of k c.args.next) c.args.out.now 0)
