use Rattle.chains.specs.Decoder.{DecoderState}
use Rattle.chains.specs.State.{RingState}

-- What contracts see of a ring: what it means, and what it keeps of the descriptors that it has decoded.
pub record RingSeen : Type 0 where
  pub state : RingState
  pub decoder : DecoderState
