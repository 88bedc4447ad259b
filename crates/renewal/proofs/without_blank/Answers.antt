-- `renewal::without_blank` meets its contract: what was tested and what is left to test is the whole. Assumes nothing.
use Rattle.integers.proofs.Prelude.{◌≡◌, refl, ◌<◌, arith, length, get_or}
use Rattle.lists.proofs.Tabulated.{length_tab, get_or_tab}
use Rattle.lists.proofs.Entries.{passed_next, passed_end}
use Rattle.renewal.proofs.without_blank.Invariants.{all, test}
use Rattle.renewal.proofs.without_blank.Goals as goal

pub loop-t-preserved : goal.loop-t-preserved
loop-t-preserved c =
    let a = c.args in
    let here : get_or (all a.count) c.loop-t.t 0 ≡ c.loop-t.t = get_or_tab a.count (λ t. t) c.loop-t.t 0 (omega arith) in
    let inside : c.loop-t.t < length (all a.count) = omega (arith, length_tab a.count (λ t. t)) in
    rw c.variable.ensures (rw here at (passed_next (test a.triples.now) (all a.count) c.loop-t.without c.loop-t.t 0 inside c.loop-t.invariant))

pub returns : goal.returns
returns c =
    let a = c.args in
    passed_end (test a.triples.now) (all a.count) c.loop-t.without c.loop-t.t (omega (arith, length_tab a.count (λ t. t))) c.loop-t.invariant

pub loop-t-init : goal.loop-t-init
loop-t-init c = refl

pub variable-requires : goal.variable-requires
variable-requires c = omega (arith, c.requires)
