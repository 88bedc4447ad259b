-- Two calls, the second with reflected costs. Assumes nothing.
use Rattle.integers.proofs.Prelude.{◌≡◌, sym, ap, ap₂, ◌∙◌, Bool, false, not, List, [], ◌∷◌, ℕ, ◌+◌, ◌*◌, arith, eq-eqb}
use Rattle.integers.proofs.Prelude.{ℤ, length, take}
use Rattle.lists.specs.Entries.{some}
use Rattle.lists.specs.Tabulated.{written}
use Rattle.lists.proofs.Tabulated.{take_written}
use Rattle.model.specs.declared.Settings.{Settings}
use Rattle.model.specs.Causes.{◌if◌, first_of}
use Rattle.model.specs.Code.{Code, triples, variables}
use Rattle.model.specs.Records.{code_of, judge}
use Rattle.model.specs.Splitting.{System, system_of}
use Rattle.model.specs.Run.{start, Ended}
use Rattle.model.specs.Words.{bit_at, word_of, Outcome, outcome}
use Rattle.model.specs.Points.{Codeword, point_of}
use Rattle.model.specs.Reflection.{negated_if, reflect, sum_of_words}
use Rattle.model.specs.Calls.{out_of_range, unequal, forbidden, Lists, lacks_room, decoder_cause_up_to, decoder_cause, decoded_by, decoder}
use Rattle.model.specs.Claims.{ReflectedRun}
use Rattle.model.specs.DecoderClaims.{run_of, Small, ReflectedCalls}
use Rattle.model.proofs.Demand3.{demand_3}
use Rattle.model.proofs.Composition.{length_reflect}
use Rattle.model.proofs.ComposedCalls.{reflect_allowed}
use Rattle.model.proofs.WordClaims.{outcome_claims}
use Rattle.model.proofs.DecoderCalls.{sound, settings_allowed, costs_fit, ran_is}
use Rattle.model.proofs.Courses.{last_long, in_list}

no_cause : (j : ℕ) (s t u v : Bool) → j ≡ 0 → s ≡ false → t ≡ false → u ≡ false → v ≡ false → first_of (j ∷ 11 if s ∷ 12 if t ∷ 13 if u ∷ 10 if v ∷ []) ≡ 0
no_cause j s t u v a b c d e = rw (a, b, c, d, e)

module _ (b w : List ℕ) (o : Settings) (costs : List ℤ) (l m : Lists) where
  module _ (h : decoder_cause b o costs l ≡ 0) (small : Small costs) (room : lacks_room (code_of b) m ≡ false) (c : Codeword (code_of b) w) where
    abbrev code : Code
    code = code_of b

    abbrev sys : System
    sys = system_of code

    abbrev end : Ended
    end = run_of b o costs

    abbrev end' : Ended
    end' = run_of b o (reflect w costs)

    fits : length costs ≡ code.bits
    fits = costs_fit b o costs l h

    h' : decoder_cause b o (reflect w costs) m ≡ 0
    unfolding decoder_cause_up_to
    h' =
        no_cause (judge b) (out_of_range o) (unequal (reflect w costs) code.bits) (some forbidden (reflect w costs)) (lacks_room code m)
        (sound b o costs l h)
        (settings_allowed b o costs l h)
        (ap not (eq-eqb (length (reflect w costs)) code.bits (length_reflect w costs ∙ fits)))
        (reflect_allowed w costs small)
        room

    both : ReflectedRun code o costs w o.limit 0 (start sys) (start sys)
    both = let r = (demand_3 b (sound b o costs l h)).reflects w c in r.whole o costs fits o.limit 0 (start sys) (start sys) r.begun

    same_answer : (decoded_by code end' m).answer ≡ (decoded_by code end l).answer
    unfolding decoded_by
    same_answer =
        ap (λ (x : Outcome). record { number = x.number; place = x.place; k = end'.k; settled = end'.settled }) both.ends.answer
        ∙ ap₂ (λ (x y : ℕ). record { number = (outcome code end.last.values).number; place = (outcome code end.last.values).place; k = x; settled = y })
        both.ends.count both.ends.settled

    taken : (z : List ℤ) (old : List ℕ) → take code.bits (written (word_of code z) old) ≡ word_of code z
    taken z old = take_written (word_of code z) old code.bits (outcome_claims code z).word.long

    related : ReflectedCalls b o costs w m (decoded_by code end l) (decoded_by code end' m)
    unfolding decoded_by system_of
    related =
        let long = last_long sys o costs in
        let long' = last_long sys o (reflect w costs) in
        let x = point_of code w in
        record {
          accepted = h';
          each = both.each;
          answer = same_answer;
          values = λ v k. in_list end'.last.values m.values (variables code) v long'.values k ∙ both.ends.last.values v
              ∙ ap (negated_if (bit_at x v)) (sym (in_list end.last.values l.values (variables code) v long.values k));
          sums = λ v k. in_list end'.last.sums m.sums (variables code) v long'.sums k ∙ both.ends.last.sums v
              ∙ ap (negated_if (bit_at x v)) (sym (in_list end.last.sums l.sums (variables code) v long.sums k));
          rows = λ t r q i j k op. in_list end'.last.rows m.rows (4 * triples code) (4 * t + q) long'.rows (omega arith)
              ∙ both.ends.last.rows t r q i j k op
              ∙ sym (in_list end.last.rows l.rows (4 * triples code) (4 * t + r) long.rows (omega arith));
          word = λ z.
              rw (both.ends.answer, z) (taken end'.last.values m.word ∙ both.ends.word z ∙ ap (sum_of_words w) (sym (taken end.last.values l.word)));
        }

    pub reflected_calls : ReflectedCalls b o costs w m (decoder b o costs l) (decoder b o (reflect w costs) m)
    reflected_calls = rw (ran_is b o costs l h, ran_is b o (reflect w costs) m h') related
