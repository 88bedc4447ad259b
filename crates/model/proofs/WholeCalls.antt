-- The listed frames as whole calls, at the real quotient. Assumes nothing.
use Rattle.integers.proofs.Prelude.{◌≡◌, refl, fun_ext, Bool, true, false, List, [], ◌∷◌, ℕ, suc, ◌*◌, arith, lt-ltb, le-ltb, ltb, ℤ, pos, length}
use lib.Ieee.{inf, fin, up, lt}
use lib.Ieee.Fits.{up_pos}
use native.Mathlib.Nat.{mul-pos, zero-lt-suc}
use Rattle.lists.specs.Entries.{some}
use Rattle.quotient.specs.Quotient.{quotient}
use Rattle.model.specs.declared.Settings.{Settings}
use Rattle.model.specs.Code.{Code, triples, variables}
use Rattle.model.specs.Records.{two_bytes, numbers, checks_in, after_checks, code_of, judge_header, judge_indices, judge_check, judge_checks, covered, judge}
use Rattle.model.specs.Splitting.{queue, triples_from, system_of}
use Rattle.model.specs.Iteration.{sign, row_sum, share, sum_of, occurrences, sums_of, counts_of, values_of, rows_of, iterate}
use Rattle.model.specs.Run.{changes, settled_by, start, after, run_from, run}
use Rattle.model.specs.Words.{word_of, first_undecided, first_odd, tested, outcome}
use Rattle.model.specs.Calls.{out_of_range, unequal, forbidden, Lists, HasRoom, Decoded, lacks_room, decoder_cause_up_to, decoder_up_to, decoded_by, decoder, reader}
use Rattle.model.specs.Table.{by_hand}
use Rattle.model.specs.WholeCalls.{listed, Room, pairs, pairs_by_hand, listed_settings, WholeCalls, RunEdges, ChannelEdges}
use Rattle.model.specs.Channel.{scale_in_range, floor_in_range, in_range}
use Rattle.model.proofs.Floats.{above_zero, below_zero}
use Rattle.model.proofs.Causes.{not_out_of_range}
use Rattle.model.proofs.Worked.{computes, quotient_computes}

-- of a code of T triples, N variables and n bits
pub room : (k : Code) (T N n : ℕ) (l : Lists) → triples k ≡ T → variables k ≡ N → k.bits ≡ n → HasRoom T N n l → lacks_room k l ≡ false
room k T N n l t v b r =
    rw (
      t,
      v,
      b,
      le-ltb (length l.triples) (3 * T) r.triples,
      le-ltb (length l.counts) N r.counts,
      le-ltb (length l.sums) N r.sums,
      le-ltb (length l.values) N r.values,
      le-ltb (length l.rows) (4 * T) r.rows,
      le-ltb (length l.word) n r.word,
    )

-- a call over another division
abbrev call_by : List ℕ → (ℤ → ℤ → ℤ) → Settings → List ℤ → Lists → Decoded
call_by b div o costs l = decoded_by (code_of b) (run div (system_of (code_of b)) o costs) l

called : (b : List ℕ) (o : Settings) (costs : List ℤ) (l : Lists) → judge b ≡ 0 → lacks_room (code_of b) l ≡ false
    → out_of_range o ≡ false → unequal costs (code_of b).bits ≡ false → some forbidden costs ≡ false → decoder b o costs l ≡ call_by b computes o costs l
unfolding decoder_up_to decoder_cause_up_to
called b o costs l j r d e f =
    let q : quotient ≡ computes = fun_ext (λ n. fun_ext (quotient_computes n)) in
    rw (j, d, e, f, r, q)

pub whole_calls : WholeCalls
unfolding decoder_up_to decoder_cause_up_to reader decoded_by judge judge_header judge_checks judge_check judge_indices after_checks covered code_of two_bytes numbers checks_in queue triples_from system_of sign row_sum share sum_of occurrences sums_of counts_of values_of rows_of iterate changes settled_by start after run_from word_of first_undecided first_odd tested outcome
whole_calls = record {
  code = refl;
  undecided = λ l r. called listed (listed_settings 2) (pos 0 ∷ pos 0 ∷ pos 0 ∷ []) l refl (has l r) refl refl refl;
  odd = λ l r. called listed (listed_settings 2) by_hand l refl (has l r) refl refl refl;
  word = λ l r. called listed (listed_settings 2) (pos 20000 ∷ pos 20000 ∷ pos 20000 ∷ []) l refl (has l r) refl refl refl;
  longest = λ l r. called listed (listed_settings 4000) by_hand l refl (has l r) refl refl refl;
  two_bits = λ l r. called pairs (listed_settings 2) pairs_by_hand l refl (room (code_of pairs) 2 3 3 l refl refl refl r) refl refl refl;
  one_bit = refl;
  too_long = λ l. refl;
}
  where
    has : (l : Lists) → Room l → lacks_room (code_of listed) l ≡ false
    has l r = room (code_of listed) 1 3 3 l refl refl refl r

-- ---- settings
pub run_edges : RunEdges
run_edges = record {
  exactly = not_out_of_range;
  least = λ X. refl;
  most = λ X. refl;
  weight_0 = λ A K X. refl;
  weight_beyond = λ A K X. refl;
  ratio_beyond = λ X. refl;
  limit_0 = λ X. refl;
  limit_beyond = λ X. refl;
}

none_times : (e : ℤ) → ltb 0 (0 * up e) ≡ false
none_times e = le-ltb 0 (0 * up e) (omega arith)

some_times : (m : ℕ) (e : ℤ) → ltb 0 (suc m * up e) ≡ true
some_times m e = lt-ltb 0 (suc m * up e) (mul-pos (zero-lt-suc m) (up_pos e))

pub channel_edges : ChannelEdges
unfolding in_range lt
channel_edges = record {
  kinds = λ x y. (refl, refl, refl);
  scale_above = λ m e. rw (above_zero false (suc m) e, some_times m e);
  scale_zero = by;
  scale_below = λ m e. rw (above_zero true m e);
  scale_infinite = ends;
  scale_none = refl;
  floor_above = λ m e. rw (below_zero false m e);
  floor_zero = not_below;
  floor_below = λ m e. rw (below_zero true (suc m) e, some_times m e);
  floor_infinite = bounds;
  floor_none = refl;
}
  where
    by : (s : Bool) (e : ℤ) → scale_in_range (fin s 0 e) ≡ false
    by true e = rw (above_zero true 0 e)
    by false e = rw (above_zero false 0 e, none_times e)

    not_below : (s : Bool) (e : ℤ) → floor_in_range (fin s 0 e) ≡ true
    not_below true e = rw (below_zero true 0 e, none_times e)
    not_below false e = rw (below_zero false 0 e)

    ends : (s : Bool) → scale_in_range (inf s) ≡ false
    ends true = refl
    ends false = refl

    bounds : (s : Bool) → floor_in_range (inf s) ≡ false
    bounds true = refl
    bounds false = refl
