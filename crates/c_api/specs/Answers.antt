-- The structs that the C functions hand back, as the records of the model. Definitions only.
use Rattle.c_api.specs.declared.CodeAnswer.{CodeAnswer}
use Rattle.c_api.specs.declared.WordAnswer.{WordAnswer}
use Rattle.model.specs.Words.{Outcome}
use Rattle.model.specs.Calls.{ReaderAnswer}

abbrev pub code_answer : CodeAnswer → ReaderAnswer
code_answer r = record { number = r.number; bits = r.bits; checks = r.checks; triples = r.triples }

abbrev pub word_answer : WordAnswer → Outcome
word_answer r = record { number = r.number; place = r.place }
