-- The parts of an import, in the order of its steps:
--
--   what the form of a text says of its sides                                                Sides
--   the rows one after another, and the indices of each                                      Rows, Indices
--   the judgement of a row, of several and of the code; each bit lies in some check          Judging, Covered
--   the records, written check by check                                                      Writing
--   the answer, cause by cause                                                               Answers
pub mod Sides
pub mod Rows
pub mod Indices
pub mod Judging
pub mod Covered
pub mod Writing
pub mod Answers
