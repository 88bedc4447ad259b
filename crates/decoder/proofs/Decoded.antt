-- The answers of the decoder, by its causes in their order. Assumes nothing.
use Rattle.integers.proofs.Prelude.{◌≡◌, sym, ◌∙◌, false, List, ℕ, zero, suc, ◌*◌, ◌≤◌, arith, eqb-true, not-false, ltb-false, ℤ, length}
use Rattle.quotient.specs.Quotient.{quotient}
use Rattle.model.specs.declared.Settings.{Settings}
use Rattle.model.specs.Causes.{first_of, short}
use Rattle.model.specs.Code.{Code, triples, variables}
use Rattle.model.specs.Records.{code_of, judge}
use Rattle.model.specs.Splitting.{system_of}
use Rattle.model.specs.Run.{run}
use Rattle.model.specs.Calls.{unequal, out_of_range, Lists, Decoded, HasRoom, lacks_room, decoder_causes, decoder_cause_up_to, decoder_cause, decoded_by, decoder_up_to}
use Rattle.model.specs.DecoderClaims.{Small}
use Rattle.model.specs.Promises.{DecoderCall}
use Rattle.model.proofs.Causes.{clear, unless, or_false}
use Rattle.model.proofs.Promises.{decoder_call}
use Rattle.decoder.specs.Room.{too_short}

-- the room of one frame
pub one_frame : (k : Code) (l : Lists) → too_short 1 k l ≡ lacks_room k l
one_frame k l =
    let v : 1 * variables k ≡ variables k = omega arith in
    let r : 1 * (4 * triples k) ≡ 4 * triples k = omega arith in
    let n : 1 * k.bits ≡ k.bits = omega arith in
    rw (v, r, n)

module _ (o : Settings) (costs : List ℤ) (l : Lists) where
  -- ---- none of the causes of a call with the code k holds
  module _ (k : Code) (none : 0 ≡ first_of (decoder_causes k o costs l)) where
    pub in_range : out_of_range o ≡ false
    in_range = let x = clear (decoder_causes k o costs l) (sym none) in unless 10 (out_of_range o) x.0

    pub agree : length costs ≡ k.bits
    agree =
        let x = clear (decoder_causes k o costs l) (sym none) in
        eqb-true (length costs) k.bits (not-false _ (unless 11 (unequal costs k.bits) x.1.0))

    pub room : HasRoom (triples k) (variables k) k.bits l
    room =
        let x = clear (decoder_causes k o costs l) (sym none) in
        let a = or_false (short (3 * triples k) l.triples) _ (unless 9 (lacks_room k l) x.1.1.1.0) in
        let b = or_false (short (variables k) l.counts) _ a.1 in
        let c = or_false (short (variables k) l.sums) _ b.1 in
        let d = or_false (short (variables k) l.values) _ c.1 in
        let e = or_false (short (4 * triples k) l.rows) _ d.1 in
        record {
          triples = ltb-false _ _ a.0;
          counts = ltb-false _ _ b.0;
          sums = ltb-false _ _ c.0;
          values = ltb-false _ _ d.0;
          rows = ltb-false _ _ e.0;
          word = ltb-false _ _ e.1;
        }

  -- ---- the call with the bytes b
  module _ (b : List ℕ) where
    abbrev refusal : ℕ → Decoded
    refusal c = record { answer = record { number = c; place = 0; k = 0; settled = 0 }; lists = l }

    refused_by : (c : ℕ) → decoder_cause b o costs l ≡ c → 1 ≤ c → DecoderCall b o costs l (refusal c)
    unfolding decoder_up_to
    refused_by zero e h = absurd (omega arith)
    refused_by (suc c) e h = decoder_call b o costs l (refusal (suc c)) (λ z. absurd (omega (arith, e, z))) (rw e)

    pub unsound : (c : ℕ) → c ≡ judge b → 1 ≤ c → DecoderCall b o costs l (refusal c)
    unfolding decoder_cause_up_to
    unsound zero e h = absurd (omega arith)
    unsound (suc c) e h = refused_by (suc c) (rw (← e)) h

    module _ (judged : 0 ≡ judge b) (k : Code) (is : k ≡ code_of b) where
      cause_is : decoder_cause b o costs l ≡ first_of (decoder_causes k o costs l)
      unfolding decoder_cause_up_to
      cause_is = rw (← judged, ← is)

      pub refused : (c : ℕ) → c ≡ first_of (decoder_causes k o costs l) → 1 ≤ c → DecoderCall b o costs l (refusal c)
      refused c e h = refused_by c (cause_is ∙ sym e) h

      pub accepted : 0 ≡ first_of (decoder_causes k o costs l) → Small costs → (d : Decoded) → d ≡ decoded_by k (run quotient (system_of k) o costs) l
          → DecoderCall b o costs l d
      unfolding decoder_up_to
      accepted none small d ran = decoder_call b o costs l d (λ _. small) (rw (cause_is ∙ sym none) (rw is at ran))
