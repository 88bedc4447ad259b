-- An accepted call: what is lent to the run, and the whole answer from its parts. Assumes nothing.
use Rattle.integers.proofs.Prelude.{◌≡◌, sym, ap, ap₂, ◌∙◌, false, List, ◌++◌, ℕ, ◌*◌, arith, ℤ, length, take, drop, length-take-le, take_at}
use Rattle.lists.specs.Tabulated.{written}
use Rattle.lists.proofs.Parts.{lent_back}
use Rattle.quotient.specs.Quotient.{quotient}
use Rattle.model.specs.declared.Settings.{Settings}
use Rattle.model.specs.Causes.{accepted}
use Rattle.model.specs.Code.{Code, triples, variables}
use Rattle.model.specs.Sound.{Sound}
use Rattle.model.specs.Splitting.{System, system_of}
use Rattle.model.specs.Iteration.{counts_of}
use Rattle.model.specs.Run.{Ended, run}
use Rattle.model.specs.Words.{word_of, Outcome, outcome}
use Rattle.model.specs.Calls.{out_of_range, Lists, Answer, HasRoom, lists_of, decoded_by}
use Rattle.model.specs.Bounds.{Lent, system_in}
use Rattle.model.specs.DecoderClaims.{Small}
use Rattle.triples.proofs.Lent.{triples_long, system_lent, members_lent, ready_lent, counts_lent, counts_long}

same_lists : (l m : Lists) → l.triples ≡ m.triples → l.counts ≡ m.counts → l.sums ≡ m.sums → l.values ≡ m.values → l.rows ≡ m.rows → l.word ≡ m.word → l ≡ m
same_lists l m p q r s t u =
    ap₂ (λ (x y : List ℕ). record { triples = x; counts = y; sums = l.sums; values = l.values; rows = l.rows; word = l.word }) p q
    ∙ ap₂ (λ (x y : List ℤ). record { triples = m.triples; counts = m.counts; sums = x; values = y; rows = l.rows; word = l.word }) r s
    ∙ ap₂ (λ (x : List ℤ) (y : List ℕ). record { triples = m.triples; counts = m.counts; sums = m.sums; values = m.values; rows = x; word = y }) t u

-- what a run that ended with e leaves
decoded : (k : Code) (e : Ended) (l m : Lists) (a : Answer) → m.triples ≡ written (system_of k).members l.triples → m.counts ≡ written (counts_of (system_of k)) l.counts
    → m.sums ≡ written e.last.sums l.sums → m.values ≡ written e.last.values l.values → m.rows ≡ written e.last.rows l.rows
    → a ≡ record { number = (outcome k e.last.values).number; place = (outcome k e.last.values).place; k = e.k; settled = e.settled }
    → m.word ≡ accepted (outcome k e.last.values).number (written (word_of k e.last.values) l.word) l.word → record { answer = a; lists = m } ≡ decoded_by k e l
unfolding decoded_by
decoded k e l m a p q r s t u v = ap₂ (λ (a : Answer) (m : Lists). record { answer = a; lists = m }) u (same_lists m (decoded_by k e l).lists p q r s t v)

-- T triples and n variables, which are the code's; the lists were l, and ts and cs hold its triples and counts
module _ (k : Code) (s : Sound k) (T n : ℕ) (T_is : T ≡ triples k) (n_is : n ≡ variables k) (l : Lists) (room : HasRoom (triples k) (variables k) k.bits l)
    (ts cs : List ℕ) (split : ts ≡ written (system_of k).members l.triples) (counted : cs ≡ written (counts_of (system_of k)) l.counts) where
  pub members_long : length (take (3 * T) ts) ≡ 3 * T
  members_long = triples_long k s T n T_is n_is ts l.triples split

  pub counts_all : length (take n cs) ≡ n
  counts_all = counts_long k s T n T_is n_is ts l.triples split cs l.counts counted

  pub sums_long : length (take n l.sums) ≡ n
  sums_long = length-take-le n l.sums (omega (arith, room.sums, n_is))

  pub values_long : length (take n l.values) ≡ n
  values_long = length-take-le n l.values (omega (arith, room.values, n_is))

  pub rows_long : length (take (4 * T) l.rows) ≡ 4 * T
  rows_long = length-take-le (4 * T) l.rows (omega (arith, room.rows, T_is))

  -- the run counts the variables by the values
  abbrev few : ℕ
  few = length (take n l.values)

  few_is : few ≡ variables k
  few_is = values_long ∙ n_is

  system_is : system_in k (take (3 * T) ts) T (take n l.values) ≡ system_of k
  system_is = system_lent k s T few T_is few_is ts l.triples split

  module _ (o : Settings) (costs : List ℤ) where
    pub lent : out_of_range o ≡ false → length costs ≡ k.bits → Small costs
        → Lent o (take (3 * T) ts) (take n cs) costs T (take n l.sums) (take n l.values) (take (4 * T) l.rows)
    lent in_range long small = record {
      members = sym members_long;
      sums = sums_long ∙ sym values_long;
      rows = sym rows_long;
      below = members_lent k s T few T_is few_is ts l.triples split;
      counted = ap (λ (m : ℕ). take m cs) (sym values_long) ∙ counts_lent k s T few T_is few_is ts l.triples split cs l.counts counted;
      ready = ready_lent k s T few T_is few_is ts l.triples split o in_range costs long small;
    }

    abbrev ended : Ended
    ended = run quotient (system_of k) o costs

    -- what the run left in its parts of the lists
    module _ (j settled : ℕ) (S c r : List ℤ)
        (ran : (code : Code) → record { k = j; settled = settled; last = record { sums = S; values = c; rows = r } }
        ≡ run quotient (system_in code (take (3 * T) ts) T (take n l.values)) o costs)
        (S_long : length S ≡ length (take n l.sums)) (c_long : length c ≡ length (take n l.values)) (r_long : length r ≡ length (take (4 * T) l.rows)) where
      is : record { k = j; settled = settled; last = record { sums = S; values = c; rows = r } } ≡ ended
      is = ran k ∙ ap (λ (g : System). run quotient g o costs) system_is

      pub values_left : take n (c ++ drop n l.values) ≡ c
      values_left = take_at c (drop n l.values) n (c_long ∙ values_long)

      pub answered : (out : Outcome) (word : List ℕ) → out ≡ outcome k (take n (c ++ drop n l.values))
          → word ≡ accepted (outcome k (take n (c ++ drop n l.values))).number (written (word_of k (take n (c ++ drop n l.values))) l.word) l.word
          → record {
            answer = record { number = out.number; place = out.place; k = j; settled = settled };
            lists = lists_of ts cs (S ++ drop n l.sums) (c ++ drop n l.values) (r ++ drop (4 * T) l.rows) word;
          } ≡ decoded_by k ended l
      answered out word told kept =
          let last : take n (c ++ drop n l.values) ≡ ended.last.values = values_left ∙ ap (λ (e : Ended). e.last.values) is in
          decoded k ended l _ _ split counted
          (lent_back n _ S l.sums (ap (λ (e : Ended). e.last.sums) is) (S_long ∙ sums_long))
          (lent_back n _ c l.values (ap (λ (e : Ended). e.last.values) is) (c_long ∙ values_long))
          (lent_back (4 * T) _ r l.rows (ap (λ (e : Ended). e.last.rows) is) (r_long ∙ rows_long))
          (ap₂ (λ (p : Outcome) (e : Ended). record { number = p.number; place = p.place; k = e.k; settled = e.settled }) (told ∙ ap (outcome k) last) is)
          (kept ∙ ap (λ (c : List ℤ). accepted (outcome k c).number (written (word_of k c) l.word) l.word) last)
