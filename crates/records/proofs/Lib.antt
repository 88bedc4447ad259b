-- What crates above cite:
--
--   a loop over the checks keeps Walk: walk_start, walk_next; walk_check, walk_judged, walk_total      Walk
--   check records written one behind the other: checks_next                                            Written
--   what else an accepted code is: `accepted` and `bytes_sound` of the model
pub mod Indices
pub mod Walk
pub mod Written
