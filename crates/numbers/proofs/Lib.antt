-- What crates above cite of the numbers that are read (Filling has the laws of `numbers::fill`):
--
--   the number after j others, where it is one and where it is none: next_at, none_at; whether it is there: there, same_at    Walk
--   what stands behind j entries: first_behind, next_behind                                                                Walk
--   so many numbers of at most 65,535: small_none, small_next, small_cons, small_at; with what is behind them: small_join, small_front,
--   small_behind, small_part, small_all                                                                                  Walk
pub mod Walk
pub mod Filling
