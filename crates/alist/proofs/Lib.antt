-- What crates above cite:
--
--   numbers are well formed exactly when their parts are as a walk finds them: Parts, parts_of, well_formed_lem, not_formed      Parts
--   a walk over lists that are known to be filled: list_next, lists_next                                                     Filled
pub mod Filled
pub mod Parts
pub mod Reading
