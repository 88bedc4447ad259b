-- What is told of a group, with the lists as they are then. Definitions only.
use Rattle.std.specs.Prelude.{List, map, Result, Ok, Err, replicate}
use Rattle.model.specs.declared.Cause.{Cause}
use Rattle.model.specs.declared.DecodeAnswer.{DecodeAnswer}
use Rattle.model.specs.Limits.{most_frames}
use Rattle.model.specs.Causes.{number}
use Rattle.model.specs.Calls.{Lists, run_told}
use Rattle.model.specs.Group.{alone, Grouped}

-- its eight answers, or a refusal, which tells nothing of any frame
abbrev pub told : Result (List DecodeAnswer) Cause → Lists → Grouped
told (Ok frames) l = record { number = 0; answers = map run_told frames; lists = l }
told (Err cause) l = record { number = number cause; answers = replicate most_frames (alone 0); lists = l }
