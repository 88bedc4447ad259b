-- Laws of lists. For a loop that fills or changes a lent list, the invariant is the contract's own equation at the index i:
--
--   `over i f old`, from the front, one store a turn            over_next, over_stored (start: refl; end: over_tab, over_map or over_all)
--   `over n f old`, a store anywhere below n, f changing        over_set
--   reading it again                                            over_in, over_out; its length: length_over
--   reading after several stores side by side, anywhere         sets_at
--   one loop after another over the same entries                over_over
--
-- A loop that tests the entries keeps `every f (drop i l) ≡ every f l` (every_next, every_stop, every_end), or, where it goes on after one
-- that fails or passes, `Passed f l passed i` or `Found f l found i` (start: refl; passed_next, passed_end; found_next, found_end). One that searches keeps `(j : ℕ) → j < i → f j ≡ false` (below_next,
-- first_at, first_none). What a loan of `&s[k..]` or `&mut s[..n]` is: `Parts`, and there too, of a list in which parts of one size stand one behind the
-- other:
--
--   `written (blocks f new) old`, from the front, part f a turn    next_block (start: refl), the loan by part_back
--   `written (blocks n new) old`, a part anywhere, new changing    replaced_blocks
--   a list that is known by its parts                              replaced_here, replaced_other, replaced_behind; at the end written_blocks
--   reading it again                                               part_written, behind_written; parts that are not yet written: later_part
pub mod Tabulated
pub mod Entries
pub mod Parts
pub mod Tests
