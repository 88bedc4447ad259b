-- Document 01, 'The frame program' and 'Numbers by hand': the three listed frames as whole calls of the decoder on bytes; a call with checks of two bits; and
-- the ends of the ranges of settings. Statements only; the proofs are in proofs/WholeCalls.antt.
use Rattle.std.specs.Prelude.{◌≡◌, Bool, true, false, ◌&&◌, ◌↔◌, List, [], ◌∷◌, ℕ, suc, Float, ℤ, pos}
use Rattle.std.specs.Float.{nan, inf, fin}
use Rattle.lists.specs.Tabulated.{written}
use Rattle.model.specs.declared.Settings.{Settings}
use Rattle.model.specs.declared.Channel.TheVariants.{Gaussian, Hard, Erasing}
use Rattle.model.specs.Channel.{scale_in_range, floor_in_range, in_range}
use Rattle.model.specs.Calls.{InRange, out_of_range, Lists, HasRoom, decoder, reader}
use Rattle.model.specs.Table.{−◌, by_hand}

-- "Code n = 3 with check (0,1,2)": its records
abbrev pub listed : List ℕ
listed = 0x4C ∷ 0x48 ∷ 0 ∷ 3 ∷ 0 ∷ 1 ∷ 0x4C ∷ 0x43 ∷ 3 ∷ 0 ∷ 0 ∷ 0 ∷ 1 ∷ 0 ∷ 2 ∷ []

-- lists in which a call with this code has room
abbrev pub Room : Lists → Type 0
Room l = HasRoom 1 3 3 l

-- what a call with this code leaves in the lists l: its triples and counts, S, c and s, and a word
abbrev pub leaves : Lists → List ℤ → List ℤ → List ℤ → List ℕ → Lists
leaves l S c s w = record {
  triples = written (0 ∷ 1 ∷ 2 ∷ []) l.triples;
  counts = written (1 ∷ 1 ∷ 1 ∷ []) l.counts;
  sums = written S l.sums;
  values = written c l.values;
  rows = written s l.rows;
  word = w;
}

-- document 02, L6: n = 3 with the checks (0,1) and (1,2), costs for it, and n = 3 with a check of one bit
abbrev pub pairs : List ℕ
pairs = 0x4C ∷ 0x48 ∷ 0 ∷ 3 ∷ 0 ∷ 2 ∷ 0x4C ∷ 0x43 ∷ 2 ∷ 0 ∷ 0 ∷ 0 ∷ 1 ∷ 0x4C ∷ 0x43 ∷ 2 ∷ 0 ∷ 1 ∷ 0 ∷ 2 ∷ []

abbrev pub pairs_by_hand : List ℤ
pairs_by_hand = pos 20000 ∷ (− 8000) ∷ pos 5000 ∷ []

abbrev pub single : List ℕ
single = 0x4C ∷ 0x48 ∷ 0 ∷ 3 ∷ 0 ∷ 1 ∷ 0x4C ∷ 0x43 ∷ 1 ∷ 0 ∷ 0 ∷ []

-- the settings, W = 256, A = 0 and X = 0, with this K
abbrev pub listed_settings : ℕ → Settings
listed_settings limit = record { weight = 256; ratio = 0; limit = limit; tolerance = 0 }

pub record WholeCalls : Type 0 where
  pub code : reader listed ≡ record { number = 0; bits = 3; checks = 1; triples = 1 }
  -- "frames (0,0,0), (20000,20000,−8000), (20000,20000,20000) print" U 2 1 0, N 2 0 0, W 2 0 000
  pub undecided : (l : Lists) → Room l → decoder listed (listed_settings 2) (pos 0 ∷ pos 0 ∷ pos 0 ∷ []) l ≡ record {
    answer = record { number = 16; place = 0; k = 2; settled = 1 };
    lists = leaves l (pos 0 ∷ pos 0 ∷ pos 0 ∷ []) (pos 0 ∷ pos 0 ∷ pos 0 ∷ [])
        ((− 16384) ∷ (− 16384) ∷ (− 16384) ∷ (− 16384) ∷ []) l.word;
  }
  pub odd : (l : Lists) → Room l → decoder listed (listed_settings 2) by_hand l ≡ record {
    answer = record { number = 17; place = 0; k = 2; settled = 0 };
    lists = leaves l (pos 20000 ∷ pos 20000 ∷ (− 8000) ∷ []) ((− 10000) ∷ (− 10000) ∷ pos 4000 ∷ [])
        ((− 20384) ∷ (− 20384) ∷ pos 7616 ∷ (− 32384) ∷ []) l.word;
  }
  pub word : (l : Lists) → Room l → decoder listed (listed_settings 2) (pos 20000 ∷ pos 20000 ∷ pos 20000 ∷ []) l ≡ record {
    answer = record { number = 0; place = 0; k = 2; settled = 0 };
    lists = leaves l (pos 20000 ∷ pos 20000 ∷ pos 20000 ∷ []) ((− 10000) ∷ (− 10000) ∷ (− 10000) ∷ [])
        ((− 6384) ∷ (− 6384) ∷ (− 6384) ∷ (− 46384) ∷ []) (written (0 ∷ 0 ∷ 0 ∷ []) l.word);
  }
  -- document 02, L2: "K goes to 4,000", which this run does not need, and "11 now starts at 4,001"
  pub longest : (l : Lists) → Room l → decoder listed (listed_settings 4000) by_hand l ≡ record {
    answer = record { number = 0; place = 0; k = 12; settled = 1 };
    lists = leaves l (pos 49504 ∷ pos 49504 ∷ pos 81568 ∷ []) ((− 16384) ∷ (− 16384) ∷ (− 16384) ∷ [])
        (pos 0 ∷ pos 0 ∷ pos 16032 ∷ (− 65536) ∷ []) (written (0 ∷ 0 ∷ 0 ∷ []) l.word);
  }
  -- document 02, L6: two triples with the blank in third place and no auxiliary; two iterations by hand, the second with c = −62.5 for bit 1
  pub two_bits : (l : Lists) → HasRoom 2 3 3 l → decoder pairs (listed_settings 2) pairs_by_hand l ≡ record {
    answer = record { number = 0; place = 0; k = 2; settled = 0 };
    lists = record {
      triples = written (0 ∷ 1 ∷ 65535 ∷ 1 ∷ 2 ∷ 65535 ∷ []) l.triples;
      counts = written (1 ∷ 2 ∷ 1 ∷ []) l.counts;
      sums = written (pos 8000 ∷ pos 8500 ∷ pos 500 ∷ []) l.sums;
      values = written ((− 7000) ∷ (− 63) ∷ (− 1375) ∷ []) l.values;
      rows = written ((− 6937) ∷ pos 12937 ∷ (− 25705) ∷ (− 39831) ∷ pos 3562 ∷ (− 1312) ∷ (− 31330) ∷ (− 34206) ∷ []) l.rows;
      word = written (0 ∷ 0 ∷ 0 ∷ []) l.word;
    };
  }
  -- "Cause 4 now starts below 2."
  pub one_bit : reader single ≡ record { number = 4; bits = 0; checks = 0; triples = 0 }
  pub too_long : (l : Lists) → decoder listed (listed_settings 4001) by_hand l ≡ record {
    answer = record { number = 11; place = 0; k = 0; settled = 0 };
    lists = l;
  }

pub record RunEdges : Type 0 where
  pub exactly : (o : Settings) → (out_of_range o ≡ false) ↔ InRange o
  -- "A 1,023 passes, 1,024 gets 11; K 1 and 1,000 pass, 0 and 1,001 get 11", where document 02 has 4,000 and 4,001; and W
  pub least : (X : ℕ) → out_of_range (record { weight = 1; ratio = 0; limit = 1; tolerance = X }) ≡ false
  pub most : (X : ℕ) → out_of_range (record { weight = 65535; ratio = 1023; limit = 4000; tolerance = X }) ≡ false
  pub weight_0 : (A K X : ℕ) → out_of_range (record { weight = 0; ratio = A; limit = K; tolerance = X }) ≡ true
  pub weight_beyond : (A K X : ℕ) → out_of_range (record { weight = 65536; ratio = A; limit = K; tolerance = X }) ≡ true
  pub ratio_beyond : (X : ℕ) → out_of_range (record { weight = 1; ratio = 1024; limit = 1; tolerance = X }) ≡ true
  pub limit_0 : (X : ℕ) → out_of_range (record { weight = 1; ratio = 0; limit = 0; tolerance = X }) ≡ true
  pub limit_beyond : (X : ℕ) → out_of_range (record { weight = 1; ratio = 0; limit = 4001; tolerance = X }) ≡ true

-- "Scale and weight are finite and above 0, the floor finite and not below 0", for every float: fin s m e is ± m × 2 ^ e
pub record ChannelEdges : Type 0 where
  pub kinds : (x y : Float) → (in_range (Gaussian x) ≡ scale_in_range x) × (in_range (Hard x) ≡ scale_in_range x)
      × (in_range (Erasing (record { floor = x; weight = y })) ≡ (floor_in_range x && scale_in_range y))
  pub scale_above : (m : ℕ) (e : ℤ) → scale_in_range (fin false (suc m) e) ≡ true
  pub scale_zero : (s : Bool) (e : ℤ) → scale_in_range (fin s 0 e) ≡ false
  pub scale_below : (m : ℕ) (e : ℤ) → scale_in_range (fin true m e) ≡ false
  pub scale_infinite : (s : Bool) → scale_in_range (inf s) ≡ false
  pub scale_none : scale_in_range nan ≡ false
  pub floor_above : (m : ℕ) (e : ℤ) → floor_in_range (fin false m e) ≡ true
  pub floor_zero : (s : Bool) (e : ℤ) → floor_in_range (fin s 0 e) ≡ true
  pub floor_below : (m : ℕ) (e : ℤ) → floor_in_range (fin true (suc m) e) ≡ false
  pub floor_infinite : (s : Bool) → floor_in_range (inf s) ≡ false
  pub floor_none : floor_in_range nan ≡ false
