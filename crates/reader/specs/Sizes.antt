-- The sizes of a code. Definitions only.
use Rattle.std.specs.Prelude.{length}
use Rattle.model.specs.declared.Sizes.{Sizes}
use Rattle.model.specs.Code.{Code, triples}

abbrev pub sizes_of : Code → Sizes
sizes_of k = record { bits = k.bits; checks = length k.checks; triples = triples k }
