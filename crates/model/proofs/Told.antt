-- Answers are determined by what they tell. Assumes nothing.
use Rattle.std.specs.Prelude.{Result, Ok, Err}
use Rattle.integers.proofs.Prelude.{◌≡◌, refl, sym, ap, ap₂, ◌∙◌, ℕ, eqb, cond, Bool, true, false, arith}
use Rattle.model.specs.declared.Cause.{Cause}
use Rattle.model.specs.declared.Cause.TheVariants.{Cut, Mark, Size, Degree, Index, Order, Triples, Uncovered, Trailing, Room}
use Rattle.model.specs.declared.Cause.TheVariants.{Setting, Lengths, Cost, Sample, Entry, Text, Places, Long, Frames}
use Rattle.model.specs.declared.Sizes.{Sizes}
use Rattle.model.specs.declared.Verdict.{Verdict}
use Rattle.model.specs.declared.Conclusion.{Conclusion}
use Rattle.model.specs.declared.Ending.{Ending}
use Rattle.model.specs.declared.Decoding.{Decoding}
use Rattle.model.specs.Causes.{number, ◌if◌}
use Rattle.model.specs.Words.{Outcome}
use Rattle.model.specs.Calls.{ReaderAnswer, reading_told, verdict_told, conclusion_told, Answer, decoding_told}
use Rattle.model.specs.Told.{Refuses, Determined}

-- ---- causes
refuses : (c : Cause) → Refuses (number c)
refuses Cut = (omega arith, λ e. omega (arith, e), λ e. omega (arith, e))
refuses Mark = (omega arith, λ e. omega (arith, e), λ e. omega (arith, e))
refuses Size = (omega arith, λ e. omega (arith, e), λ e. omega (arith, e))
refuses Degree = (omega arith, λ e. omega (arith, e), λ e. omega (arith, e))
refuses Index = (omega arith, λ e. omega (arith, e), λ e. omega (arith, e))
refuses Order = (omega arith, λ e. omega (arith, e), λ e. omega (arith, e))
refuses Triples = (omega arith, λ e. omega (arith, e), λ e. omega (arith, e))
refuses Uncovered = (omega arith, λ e. omega (arith, e), λ e. omega (arith, e))
refuses Trailing = (omega arith, λ e. omega (arith, e), λ e. omega (arith, e))
refuses Room = (omega arith, λ e. omega (arith, e), λ e. omega (arith, e))
refuses Setting = (omega arith, λ e. omega (arith, e), λ e. omega (arith, e))
refuses Lengths = (omega arith, λ e. omega (arith, e), λ e. omega (arith, e))
refuses Cost = (omega arith, λ e. omega (arith, e), λ e. omega (arith, e))
refuses Sample = (omega arith, λ e. omega (arith, e), λ e. omega (arith, e))
refuses Entry = (omega arith, λ e. omega (arith, e), λ e. omega (arith, e))
refuses Text = (omega arith, λ e. omega (arith, e), λ e. omega (arith, e))
refuses Places = (omega arith, λ e. omega (arith, e), λ e. omega (arith, e))
refuses Long = (omega arith, λ e. omega (arith, e), λ e. omega (arith, e))
refuses Frames = (omega arith, λ e. omega (arith, e), λ e. omega (arith, e))

-- the cause with a number
abbrev cause_with : ℕ → Cause
cause_with n =
    cond (eqb n 1) Cut (
    cond (eqb n 2) Mark (
    cond (eqb n 3) Size (
    cond (eqb n 4) Degree (
    cond (eqb n 5) Index (
    cond (eqb n 6) Order (
    cond (eqb n 7) Triples (
    cond (eqb n 8) Uncovered (
    cond (eqb n 9) Trailing (
    cond (eqb n 10) Room (
    cond (eqb n 11) Setting (
    cond (eqb n 12) Lengths (
    cond (eqb n 13) Cost (
    cond (eqb n 14) Sample (
    cond (eqb n 15) Entry (
    cond (eqb n 18) Text (
    cond (eqb n 19) Places (
    cond (eqb n 20) Long (
    Frames))))))))))))))))))

with_number : (c : Cause) → cause_with (number c) ≡ c
with_number Cut = refl
with_number Mark = refl
with_number Size = refl
with_number Degree = refl
with_number Index = refl
with_number Order = refl
with_number Triples = refl
with_number Uncovered = refl
with_number Trailing = refl
with_number Room = refl
with_number Setting = refl
with_number Lengths = refl
with_number Cost = refl
with_number Sample = refl
with_number Entry = refl
with_number Text = refl
with_number Places = refl
with_number Long = refl
with_number Frames = refl

cause : (c d : Cause) → number c ≡ number d → c ≡ d
cause c d e = sym (with_number c) ∙ (ap cause_with e ∙ with_number d)

-- ---- the reader's
abbrev sizes_in : ReaderAnswer → Sizes
sizes_in a = record { bits = a.bits; checks = a.checks; triples = a.triples }

abbrev reader_number : ReaderAnswer → ℕ
reader_number a = a.number

reading : (x y : Result Sizes Cause) → reading_told x ≡ reading_told y → x ≡ y
reading (Ok s) (Ok t) e = ap Ok (ap sizes_in e)
reading (Ok s) (Err c) e = absurd (omega (arith, ap reader_number e, (refuses c).0))
reading (Err c) (Ok s) e = absurd (omega (arith, ap reader_number e, (refuses c).0))
reading (Err c) (Err d) e = ap Err (cause c d (ap reader_number e))

-- ---- the test's
abbrev number_in : Outcome → ℕ
number_in o = o.number

abbrev place_in : Outcome → ℕ
place_in o = o.place

verdict : (x y : Result Verdict Cause) → verdict_told x ≡ verdict_told y → x ≡ y
verdict (Ok Verdict.Codeword) (Ok Verdict.Codeword) e = refl
verdict (Ok Verdict.Codeword) (Ok (Verdict.Odd j)) e = absurd (omega (arith, ap number_in e))
verdict (Ok (Verdict.Odd i)) (Ok Verdict.Codeword) e = absurd (omega (arith, ap number_in e))
verdict (Ok (Verdict.Odd i)) (Ok (Verdict.Odd j)) e = ap (λ v. Ok (Verdict.Odd v)) (ap place_in e)
verdict (Ok Verdict.Codeword) (Err c) e = absurd (omega (arith, ap number_in e, (refuses c).0))
verdict (Ok (Verdict.Odd i)) (Err c) e = absurd ((refuses c).2 (sym (ap number_in e)))
verdict (Err c) (Ok Verdict.Codeword) e = absurd (omega (arith, ap number_in e, (refuses c).0))
verdict (Err c) (Ok (Verdict.Odd j)) e = absurd ((refuses c).2 (ap number_in e))
verdict (Err c) (Err d) e = ap Err (cause c d (ap number_in e))

-- ---- the decoder's
conclusion : (x y : Conclusion) → conclusion_told x ≡ conclusion_told y → x ≡ y
conclusion Conclusion.Word Conclusion.Word e = refl
conclusion Conclusion.Word (Conclusion.Undecided v) e = absurd (omega (arith, ap number_in e))
conclusion Conclusion.Word (Conclusion.Odd j) e = absurd (omega (arith, ap number_in e))
conclusion (Conclusion.Undecided u) Conclusion.Word e = absurd (omega (arith, ap number_in e))
conclusion (Conclusion.Undecided u) (Conclusion.Undecided v) e = ap Conclusion.Undecided (ap place_in e)
conclusion (Conclusion.Undecided u) (Conclusion.Odd j) e = absurd (omega (arith, ap number_in e))
conclusion (Conclusion.Odd i) Conclusion.Word e = absurd (omega (arith, ap number_in e))
conclusion (Conclusion.Odd i) (Conclusion.Undecided v) e = absurd (omega (arith, ap number_in e))
conclusion (Conclusion.Odd i) (Conclusion.Odd j) e = ap Conclusion.Odd (ap place_in e)

settled : (a b : Bool) → 1 if a ≡ 1 if b → a ≡ b
settled true true e = refl
settled true false e = absurd (omega (arith, e))
settled false true e = absurd (omega (arith, e))
settled false false e = refl

abbrev outcome_in : Answer → Outcome
outcome_in a = record { number = a.number; place = a.place }

abbrev answer_number : Answer → ℕ
answer_number a = a.number

-- no conclusion tells what a cause tells
apart : (x : Conclusion) (c : Cause) → (conclusion_told x).number ≡ number c → ⊥
apart Conclusion.Word c e = omega (arith, e, (refuses c).0)
apart (Conclusion.Undecided v) c e = (refuses c).1 (sym e)
apart (Conclusion.Odd j) c e = (refuses c).2 (sym e)

abbrev ended : ℕ → Bool → Ending
ended k s = record { k = k; settled = s }

abbrev decoded : Conclusion → Ending → Decoding
decoded c e = record { conclusion = c; ending = e }

decoding : (x y : Result Decoding Cause) → decoding_told x ≡ decoding_told y → x ≡ y
decoding (Ok d) (Ok f) e =
    let same : d.conclusion ≡ f.conclusion = conclusion d.conclusion f.conclusion (ap outcome_in e) in
    let k : d.ending.k ≡ f.ending.k = ap (λ (a : Answer). a.k) e in
    let stop : d.ending.settled ≡ f.ending.settled = settled _ _ (ap (λ (a : Answer). a.settled) e) in
    ap Ok (ap₂ decoded same (ap₂ ended k stop))
decoding (Ok d) (Err c) e = absurd (apart d.conclusion c (ap answer_number e))
decoding (Err c) (Ok d) e = absurd (apart d.conclusion c (sym (ap answer_number e)))
decoding (Err c) (Err d) e = ap Err (cause c d (ap answer_number e))

pub determined : Determined
determined = record { refuses = refuses; cause = cause; reading = reading; verdict = verdict; decoding = decoding }
