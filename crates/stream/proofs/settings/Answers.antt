-- `stream::settings` meets its contract: field by field. Assumes nothing.
use Rattle.integers.proofs.Prelude.{drop-drop}
use Rattle.program.specs.Frames.{settings_of}
use Rattle.stream.proofs.settings.Goals as goal

pub returns : goal.returns
unfolding settings_of
returns c =
    rw (c.two_bytes-weight.ensures.0, c.two_bytes-ratio.ensures.0, c.two_bytes-limit.ensures.0, c.two_bytes-high.ensures.0, c.two_bytes-low.ensures.0, drop-drop 2 8 c.args.s.now)
