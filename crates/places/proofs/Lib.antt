-- Cause 19 by counters, from the counters up:
--
--   lists of counters, their sums, zeros, and what they tell at the end of a window           Counters
--   how often numbers name a place; the place that a number names                             Named
--   numbers that are read and counted block by block; that a counter fits 16 bits             Blocks
--   a turn of the loops that count up and down                                                Counting
--   windows that agree: by counters, side by side and one below the other                     Windows
--   the window of all places, and the model's `agree`                                         Whole
pub mod Counters
pub mod Named
pub mod Blocks
pub mod Counting
pub mod Windows
pub mod Whole
