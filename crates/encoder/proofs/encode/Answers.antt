-- `encoder::encode` meets its contract: one frame. Assumes nothing.
use Rattle.integers.proofs.Prelude.{refl}
use Rattle.model.proofs.EncodingPromises.{encoder_call}
use Rattle.encoder.proofs.encode.Goals as goal

pub returns : goal.returns
returns c = encoder_call _ _ _ _ (c.encode_frames.ensures.single refl)
