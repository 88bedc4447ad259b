-- All of it is the exporter's own:
--
--   numbers and lines: how long, how they grow, and one piece after another          Lines
--   the largest degree, and the lists of a side, one behind the other                Lists
--   the text of a code by its sides, which have equally many entries                 Texts
--   the lists that the calls of `sides` are lent                                     Work
--   the answers of the entries                                                       Answers
pub mod Lines
pub mod Lists
pub mod Texts
pub mod Work
pub mod Answers
