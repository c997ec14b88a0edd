-- A ring of either layout, by what it means.
use Rattle.std.specs.Prelude.{Bool, true, false}
use Rattle.chains.specs.Decoder.{DecoderState}
use Rattle.chains.specs.State.{RingState}
use Rattle.machine.specs.declared.any_ring.AnyRing.{AnyRing}
use Rattle.machine.specs.declared.any_ring.AnyRing.TheVariants.{Split, Packed}

abbrev pub ring_in : AnyRing → RingState
ring_in (Split ring) = ring.state
ring_in (Packed ring) = ring.state

-- What it keeps of the descriptors that it has decoded.
abbrev pub decoder_in : AnyRing → DecoderState
decoder_in (Split ring) = ring.decoder
decoder_in (Packed ring) = ring.decoder

-- Whether it is one of the packed layout.
abbrev pub is_packed_in : AnyRing → Bool
is_packed_in (Split ring) = false
is_packed_in (Packed ring) = true
