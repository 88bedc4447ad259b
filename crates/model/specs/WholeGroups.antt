-- Document 02, L7: groups by hand, as whole calls on bytes with every list, and the causes at their edges. Statements only; the proofs are in
-- proofs/WholeGroups.antt.
use Rattle.std.specs.Prelude.{◌≡◌, List, [], ◌∷◌, ◌++◌, ℕ, ℤ, pos, replicate}
use Rattle.model.specs.Limits.{most_frames}
use Rattle.model.specs.Calls.{Lists, Answer}
use Rattle.model.specs.Table.{−◌, by_hand}
use Rattle.model.specs.WholeCalls.{listed, listed_settings}
use Rattle.model.specs.Group.{alone, Grouped, group}

-- lent lists of so many entries, all 9
abbrev pub nines : ℕ → ℕ → ℕ → ℕ → ℕ → Lists
nines ts cs v s w = record {
  triples = replicate ts 9;
  counts = replicate cs 9;
  sums = replicate v (pos 9);
  values = replicate v (pos 9);
  rows = replicate s (pos 9);
  word = replicate w 9;
}

-- and a list of work
abbrev pub works : ℕ → List ℤ
works n = replicate n (pos 9)

-- what is told of a frame, and a group that is refused
abbrev pub told : ℕ → ℕ → ℕ → ℕ → Answer
told number place k settled = record { number = number; place = place; k = k; settled = settled }

abbrev pub refused : ℕ → Lists → Grouped
refused c l = record { number = c; answers = replicate most_frames (alone 0); lists = l }

-- the three frames of document 01's listing, and one with a false cost behind the first
abbrev pub listed_frames : List ℤ
listed_frames = (pos 0 ∷ pos 0 ∷ pos 0 ∷ []) ++ ((pos 20000 ∷ (− 32768) ∷ pos 0 ∷ []) ++ (by_hand ++ (pos 20000 ∷ pos 20000 ∷ pos 20000 ∷ [])))

-- n = 4 with the check (0,1,2,3), which makes two triples and an auxiliary; three frames of it, the second with a false cost
abbrev pub four_bits : List ℕ
four_bits = 0x4C ∷ 0x48 ∷ 0 ∷ 4 ∷ 0 ∷ 1 ∷ 0x4C ∷ 0x43 ∷ 4 ∷ 0 ∷ 0 ∷ 0 ∷ 1 ∷ 0 ∷ 2 ∷ 0 ∷ 3 ∷ []

abbrev pub four_bit_frames : List ℤ
four_bit_frames =
    (pos 4000 ∷ pos 8000 ∷ (− 4000) ∷ pos 12000 ∷ []) ++ ((pos 4000 ∷ pos 4000 ∷ pos 4000 ∷ (− 32768) ∷ [])
    ++ (pos 4000 ∷ (− 8000) ∷ (− 4000) ∷ pos 12000 ∷ []))

pub record WholeGroups : Type 0 where
  -- the listing's frames end as they do by themselves (`WholeCalls`), and of the one with a false cost all is as it was; each list has one entry more than the
  -- frames need
  pub listing : group listed (listed_settings 2) 4 listed_frames (nines 4 4 13 17 13) (works 88) ≡ record {
    number = 0;
    answers = told 16 0 2 1 ∷ told 13 0 0 0 ∷ told 17 0 2 0 ∷ told 0 0 2 0 ∷ replicate 4 (alone 0);
    lists = record {
      triples = 0 ∷ 1 ∷ 2 ∷ 9 ∷ [];
      counts = 1 ∷ 1 ∷ 1 ∷ 9 ∷ [];
      sums = pos 0 ∷ pos 0 ∷ pos 0 ∷ pos 9 ∷ pos 9 ∷ pos 9 ∷ pos 20000 ∷ pos 20000 ∷ (− 8000) ∷ pos 20000 ∷ pos 20000 ∷ pos 20000 ∷ pos 9 ∷ [];
      values =
          pos 0 ∷ pos 0 ∷ pos 0 ∷ pos 9 ∷ pos 9 ∷ pos 9 ∷ (− 10000) ∷ (− 10000) ∷ pos 4000 ∷ (− 10000) ∷ (− 10000) ∷ (− 10000) ∷ pos 9 ∷ [];
      rows =
          (− 16384) ∷ (− 16384) ∷ (− 16384) ∷ (− 16384) ∷ pos 9 ∷ pos 9 ∷ pos 9 ∷ pos 9 ∷ (− 20384) ∷ (− 20384) ∷ pos 7616 ∷ (− 32384)
          ∷ (− 6384) ∷ (− 6384) ∷ (− 6384) ∷ (− 46384) ∷ pos 9 ∷ [];
      word = 9 ∷ 9 ∷ 9 ∷ 9 ∷ 9 ∷ 9 ∷ 9 ∷ 9 ∷ 9 ∷ 0 ∷ 0 ∷ 0 ∷ 9 ∷ [];
    };
  }
  -- frame f stands at f × V, f × 4T and f × n, here f × 5, f × 8 and f × 4; one iteration, after which c is −L/4, and 0 for the auxiliary
  pub auxiliary : group four_bits (listed_settings 1) 3 four_bit_frames (nines 6 5 15 24 12) (works 140) ≡ record {
    number = 0;
    answers = told 17 0 1 0 ∷ told 13 0 0 0 ∷ told 0 0 1 0 ∷ replicate 5 (alone 0);
    lists = record {
      triples = 0 ∷ 1 ∷ 4 ∷ 2 ∷ 3 ∷ 4 ∷ [];
      counts = 1 ∷ 1 ∷ 1 ∷ 1 ∷ 2 ∷ [];
      sums = replicate 5 (pos 0) ++ (replicate 5 (pos 9) ++ replicate 5 (pos 0));
      values =
          (− 1000) ∷ (− 2000) ∷ pos 1000 ∷ (− 3000) ∷ pos 0 ∷ pos 9 ∷ pos 9 ∷ pos 9 ∷ pos 9 ∷ pos 9
          ∷ (− 1000) ∷ pos 2000 ∷ pos 1000 ∷ (− 3000) ∷ pos 0 ∷ [];
      rows =
          (− 15384) ∷ (− 17384) ∷ (− 13384) ∷ (− 19384) ∷ (− 12384) ∷ (− 20384) ∷ (− 14384) ∷ (− 18384)
          ∷ pos 9 ∷ pos 9 ∷ pos 9 ∷ pos 9 ∷ pos 9 ∷ pos 9 ∷ pos 9 ∷ pos 9
          ∷ (− 19384) ∷ (− 13384) ∷ (− 17384) ∷ (− 15384) ∷ (− 12384) ∷ (− 20384) ∷ (− 14384) ∷ (− 18384) ∷ [];
      word = 9 ∷ 9 ∷ 9 ∷ 9 ∷ 9 ∷ 9 ∷ 9 ∷ 9 ∷ 0 ∷ 1 ∷ 1 ∷ 0 ∷ [];
    };
  }
  -- "21 where the given number of frames is 0 or above 8", also where the costs have another length; after 11
  pub frames_0 : (costs : List ℤ) (l : Lists) (work : List ℤ) → group listed (listed_settings 2) 0 costs l work ≡ refused 21 l
  pub frames_9 : (costs : List ℤ) (l : Lists) (work : List ℤ) → group listed (listed_settings 2) 9 costs l work ≡ refused 21 l
  pub settings_first : (costs : List ℤ) (l : Lists) (work : List ℤ) → group listed (listed_settings 4001) 9 costs l work ≡ refused 11 l
  -- 12 in front of 10: three costs for two frames
  pub lengths : (l : Lists) (work : List ℤ) → group listed (listed_settings 2) 2 by_hand l work ≡ refused 12 l
  -- "10 included, also where a cost is false": a list of words, or of work, with one entry too few
  pub words_short : group listed (listed_settings 2) 4 listed_frames (nines 3 3 12 16 11) (works 88) ≡ refused 10 (nines 3 3 12 16 11)
  pub work_short : group listed (listed_settings 2) 4 listed_frames (nines 3 3 12 16 12) (works 87) ≡ refused 10 (nines 3 3 12 16 12)
  -- "with room for all": one frame, and eight, all with a false cost, in lists that are just long enough
  pub one : (group listed (listed_settings 2) 1 (replicate 3 (− 32768)) (nines 3 3 3 4 3) (works 88)).number ≡ 0
  pub eight : (group listed (listed_settings 2) 8 (replicate 24 (− 32768)) (nines 3 3 24 32 24) (works 176)).number ≡ 0
  pub eight_short : (group listed (listed_settings 2) 8 (replicate 24 (− 32768)) (nines 3 3 24 32 24) (works 175)).number ≡ 10
