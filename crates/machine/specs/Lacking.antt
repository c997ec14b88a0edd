-- What is known of RAM by the pieces that are held of it, for a step.
use Rattle.std.specs.Prelude.{ℕ, ◌<◌, ◌^◌, List, length, take}
use Rattle.chains.specs.Footprint.{Knows, place_pieces}
use Rattle.chains.specs.Places.{places}
use Rattle.chains.specs.declared.chain.Chain.{Chain}
use Rattle.chains.specs.declared.lacking.Piece.{Piece}
use Rattle.chains.specs.declared.next.Next.{Next}
use Rattle.machine.specs.DeviceStep.{MayLook, looked_at, wanted_of}
use Rattle.machine.specs.Footprint.{chain_reads, device_reads}
use Rattle.machine.specs.Outcome.{Outcome}
use Rattle.machine.specs.State.{DeviceState}
use Rattle.machine.specs.declared.kind.Kind.{Kind}

-- All that a step of a device reads is known, but the driver's word.
abbrev pub KnowsDevice : List Piece → DeviceState → List ℕ → ℕ → Type 0
KnowsDevice held d ram pick = (o : Outcome) (seen : Next) → MayLook (wanted_of d.kind pick) (looked_at d pick) ram o seen → Knows held ram (device_reads d ram pick o seen)

-- So many of the first readable bytes of a chain are all that a step reads of it.
abbrev pub CoversReads : Kind → ℕ → ℕ → Type 0
CoversReads kind number count = (held : List Piece) (ram : List ℕ) (base : ℕ) (c : Chain) → length (places c.readable) < 2 ^ 32 → Knows held ram (place_pieces base (take count (places c.readable))) → Knows held ram (chain_reads kind number base c)
