-- What remains of a run, as a loop sees it: the state as it is, k iterations done, stopped or not. Assumes nothing.
use Rattle.integers.proofs.Prelude.{◌≡◌, refl, sym, ap, ◌∙◌, List, [], ℕ, zero, suc, ◌+◌, ◌-◌, ◌*◌, ◌≤◌, ◌<◌, arith, add-one, ℤ, pos, length}
use lib.ListN.{replicate}
use Rattle.lists.proofs.Tabulated.{length_tab, get_or_tab, tab_same, tab_replicate}
use Rattle.lists.specs.Tabulated.{tab}
use Rattle.quotient.specs.Quotient.{quotient}
use Rattle.model.specs.Code.{Code}
use Rattle.model.specs.Splitting.{System}
use Rattle.model.specs.Iteration.{sum_of, occurrences, renewed_at, State, sums_of, value_of, values_of, rows_of, iterate}
use Rattle.model.specs.Run.{start, stop, Ended, run_from, run}
use Rattle.model.specs.Bounds.{RowsWithin, Lent}
use Rattle.model.specs.declared.Settings.{Settings}
use Rattle.layout.specs.Transposed.{straight}
use Rattle.layout.proofs.Places.{straight_zero}
use Rattle.values.specs.Values.{value_from}
use Rattle.run.specs.States.{state_in}
use Rattle.model.proofs.Runs.{stops, goes_on}
use Rattle.model.proofs.Bounds as Bounds

pub weaker : (n m : ℕ) {s : List ℤ} → n ≤ m → RowsWithin n s → RowsWithin m s
weaker n m h w = record { multipliers = λ i. omega (arith, w.multipliers i); slacks = w.slacks }

-- the lists of a run with other numbers in them, as many as before
pub lent_again : {o : Settings} {ts counts : List ℕ} {costs : List ℤ} {T : ℕ} {S c s : List ℤ} (S' c' s' : List ℤ) → length S' ≡ length c → length c' ≡ length c
    → length s' ≡ 4 * T → Lent o ts counts costs T S c s → Lent o ts counts costs T S' c' s'
lent_again S' c' s' e f h l =
    record { members = l.members; sums = e ∙ sym f; rows = sym h; below = rw f l.below; counted = rw f l.counted; ready = rw f l.ready }

-- an iteration reads no more of a code than the lists hold: where one is asked for, this one does
abbrev pub any : Code
any = record { bits = 0; checks = [] }

-- n variables, and T triples with the members ts
abbrev pub system : ℕ → List ℕ → ℕ → Code → System
system n ts T c = record { code = c; variables = n; triples = T; members = ts }

module _ (n : ℕ) (ts : List ℕ) (T : ℕ) (o : Settings) (costs : List ℤ) where
  abbrev g : Code → System
  g = system n ts T

  -- lists that are written one after the other hold the next state
  pub next_state : (c : Code) (a : State) (counts : List ℕ) (S x r : List ℤ) → counts ≡ tab n (occurrences ts T) → S ≡ tab n (sum_of ts T a.rows)
      → x ≡ tab n (value_from S counts costs o.weight o.ratio) → r ≡ tab (4 * T) (renewed_at ts a.rows x)
      → record { sums = S; values = x; rows = r } ≡ iterate quotient (g c) o costs a
  unfolding iterate sums_of values_of rows_of
  next_state c a counts S x r d e f h =
      rw (h, f, e) (ap (λ (x : List ℤ). record { sums = sums_of (g c) a.rows; values = x; rows = tab (4 * T) (renewed_at ts a.rows x) })
      (tab_same n _ (value_of quotient (g c) o costs (sums_of (g c) a.rows)) (λ v l. rw (d, get_or_tab n (occurrences ts T) v 0 l))))

  -- what is to come: the rest of the run, or nothing, where an iteration stopped it
  abbrev pub remaining : Code → ℕ → ℕ → State → Ended
  remaining c k zero a = run_from quotient (g c) o costs (o.limit - k) k a
  remaining c k (suc t) a = record { k = k; settled = suc t; last = a }

  -- of what there was from the state `first`, `done` iterations being done
  pub record Remains (done : ℕ) (first a : State) (k settled : ℕ) : Type 0 where
    pub sums : length a.sums ≡ n
    pub values : length a.values ≡ n
    pub within : RowsWithin k a.rows
    pub few : k ≤ o.limit
    pub rest : (c : Code) → remaining c k settled a ≡ remaining c done 0 first

  -- one iteration more, to b; t says how it stops the run
  module _ {done : ℕ} {first a : State} {k settled : ℕ} (z : settled ≡ 0) (h : k < o.limit) (r : Remains done first a k settled) (b : State) (t : ℕ)
      (given : (c : Code) → let g' = system (length a.values) ts T c in (b ≡ iterate quotient g' o costs a) × (t ≡ stop g' o a b)) where
    next : (c : Code) → (b ≡ iterate quotient (g c) o costs a) × (t ≡ stop (g c) o a b)
    next c = rw r.values at (given c)

    from : (c : Code) → run_from quotient (g c) o costs (suc (o.limit - suc k)) k a ≡ remaining c done 0 first
    from c = let m : suc (o.limit - suc k) ≡ o.limit - k = omega arith in rw m (rw z at (r.rest c))

    by : (c : Code) (t : ℕ) → t ≡ stop (g c) o a b → remaining c (suc k) t b ≡ remaining c done 0 first
    by c zero e = let f = (next c).0 in rw f (sym (goes_on quotient (g c) o costs (o.limit - suc k) k a (rw f at (sym e))) ∙ from c)
    by c (suc t) e = let f = (next c).0 in rw f (sym (stops quotient (g c) o costs (o.limit - suc k) k a t (rw f at (sym e))) ∙ from c)

    pub remains_next : Remains done first b (k + 1) t
    unfolding iterate sums_of values_of
    remains_next = rw (add-one k) (record {
      sums = ap (λ (x : State). length x.sums) (next any).0 ∙ length_tab n (sum_of ts T a.rows);
      values = ap (λ (x : State). length x.values) (next any).0 ∙ length_tab n (value_of quotient (g any) o costs (sums_of (g any) a.rows));
      within = rw (next any).0 (Bounds.rows (g any) o costs a k r.within);
      few = omega arith;
      rest = λ c. by c t (next c).1;
    })

  pub remains_end : {done : ℕ} {first a : State} {k : ℕ} (settled : ℕ) → (settled ≡ 0 → o.limit ≤ k) → Remains done first a k settled
      → (c : Code) → record { k = k; settled = settled; last = a } ≡ remaining c done 0 first
  unfolding run_from
  remains_end {k = k} zero h r c = let z : o.limit - k ≡ 0 = omega (arith, h refl) in rw z at (r.rest c)
  remains_end (suc t) h r c = r.rest c

-- ---- the start
-- rows of T triples that were cleared
module _ (T : ℕ) (s r : List ℤ) (e : 4 * T ≡ length s) (h : r ≡ tab (length s) (λ _. pos 0)) where
  cleared : straight T r ≡ replicate (4 * T) (pos 0)
  cleared = rw (h, ← e) (straight_zero T ∙ tab_replicate (4 * T) (pos 0))

  pub cleared_within : RowsWithin 0 (straight T r)
  unfolding start
  cleared_within = rw cleared (Bounds.start_within (system 0 [] T any))

  -- the first S and c do not matter
  pub cleared_start : (g : System) (o : Settings) (costs S c : List ℤ) → T ≡ g.triples → 1 ≤ o.limit
      → run_from quotient g o costs (o.limit - 0) 0 (state_in T S c r) ≡ run quotient g o costs
  unfolding start run_from iterate
  cleared_start g o costs S c f l = let m : o.limit - 0 ≡ o.limit = omega arith in rw (m, cleared, f) (same o.limit l)
    where
      same : (n : ℕ) → 1 ≤ n → run_from quotient g o costs n 0 (record { sums = S; values = c; rows = (start g).rows }) ≡ run_from quotient g o costs n 0 (start g)
      same zero h = absurd (omega arith)
      same (suc n) h = refl
