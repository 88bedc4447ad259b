-- `all_marked` meets its contract: what is left to test decides. Assumes nothing.
use Rattle.integers.proofs.Prelude.{◌≡◌, refl, sym, ◌∙◌, Bool, true, false, List, ℕ, ◌<◌, arith, add-one, eq-eqb, ne_eqb, get_or}
use Rattle.lists.proofs.Tabulated.{length_tab, get_or_tab}
use Rattle.lists.proofs.Entries.{every_next, every_stop, every_end}
use Rattle.reader.specs.Marks.{marked, all_marked}
use Rattle.reader.proofs.coverage.all_marked.Invariants.{places}
use Rattle.reader.proofs.coverage.all_marked.Goals as goal

-- the test of entry b
test_at : (seen : List ℕ) (n b : ℕ) (t : Bool) → b < n → marked seen b ≡ t → marked seen (get_or (places n) b 0) ≡ t
test_at seen n b t h e = rw (get_or_tab n (λ b. b) b 0 h) e

pub returns-then-seen-b-eq0 : goal.returns-then-seen-b-eq0
unfolding all_marked
returns-then-seen-b-eq0 c =
    let l = c.loop-b in
    let a = c.args in
    sym (sym l.invariant ∙ every_stop (marked a.seen.now) (places a.n) l.b 0 (omega (arith, length_tab a.n (λ b. b)))
    (test_at a.seen.now a.n l.b false (omega arith) (rw (eq-eqb _ 0 c.if-seen-b-eq0.true))))

pub loop-b-preserved : goal.loop-b-preserved
loop-b-preserved c =
    let l = c.loop-b in
    let a = c.args in
    rw (add-one l.b)
    (sym (every_next (marked a.seen.now) (places a.n) l.b 0 (omega (arith, length_tab a.n (λ b. b)))
    (test_at a.seen.now a.n l.b true (omega arith) (rw (ne_eqb _ 0 c.if-seen-b-eq0.false)))) ∙ l.invariant)

pub returns : goal.returns
unfolding all_marked
returns c =
    let a = c.args in
    sym (sym c.loop-b.invariant ∙ every_end (marked a.seen.now) (places a.n) c.loop-b.b (omega (arith, length_tab a.n (λ b. b))))

pub loop-b-init : goal.loop-b-init
loop-b-init c = refl
