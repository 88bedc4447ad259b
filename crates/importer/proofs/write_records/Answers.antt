-- What the writer wrote from the front is the list.
use Rattle.integers.proofs.Prelude.{◌≡◌, ap, ◌∙◌, List, ℕ, arith, rules, length}
use denote.MutBor.{MutBor}
use Rattle.lists.specs.Tabulated.{written}
use Rattle.text.proofs.Wrote.{front}
use Rattle.importer.specs.Rows.{code_of_rows}
use Rattle.model.specs.Records.{records_of}
use Rattle.importer.proofs.write_records.Goals as goal

pub write_code-requires-clause-room : goal.write_code-requires-clause-room
write_code-requires-clause-room c =
    omega (arith, c.requires.room, c.new-out.ensures.start, ap (λ (b : MutBor (List ℕ)). length b.now) c.new-out.ensures.list)

pub returns : goal.returns
returns c =
    let back : _ ≡ c.write_code.new.out.bytes.now = search rules in
    let begun = ap (λ (b : MutBor (List ℕ)). b.now) c.new-out.ensures.list in
    back ∙ front c.write_code.ensures c.new-out.ensures.start ∙ ap (λ (l : List ℕ). written (records_of (code_of_rows c.args.bits c.args.rows.now)) l) begun
