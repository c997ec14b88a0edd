-- The rings of a machine: one for each queue that a device may have, with what it keeps of descriptors. They are in no definition
-- of a machine: two machines whose rings keep different descriptors are equal.
--
-- A step makes the ring of its queue out of one in place, so what it keeps of descriptors is never moved. That this fits RAM is
-- in the machine's invariant, which every write keeps, since RAM is later after it. So no call of a machine asks for it.
use Rattle.std.specs.Prelude.{◌≡◌, ℕ, ◌+◌, ◌*◌, ◌==◌, List, All, length, Bool, true, false, if◌then◌else◌, slice_index_or, slice_set}
use Rattle.guestmem.specs.Memory.{Memory}
use Rattle.mmio.specs.declared.constants.TheConstants.{QUEUE_COUNT_MAX}
use Rattle.mmio.specs.declared.effect.Effect.{Effect}
use Rattle.mmio.specs.declared.effect.Effect.TheVariants as effects
use Rattle.chains.specs.Decoder.{Fits, empty_decoder}
use Rattle.machine.specs.AnyRing.{decoder_in}
use Rattle.machine.specs.declared.any_ring.AnyRing.{AnyRing}
use Rattle.machine.specs.declared.any_ring.AnyRing.TheVariants.{Split, Packed}

-- What the rings keep fits a RAM.
abbrev pub FitAll : List AnyRing → Memory → Type 0
FitAll rings ram = All (λ r. Fits (decoder_in r) ram) rings

-- There are two rings for each of this many devices, one after another, and what they keep fits the RAM.
pub record AreRings (rings : List AnyRing) (ram : Memory) (devices : ℕ) : Type 0 where
  pub each : length rings ≡ QUEUE_COUNT_MAX * devices
  pub fit : FitAll rings ram

-- New rings for this many devices fit every RAM.
pub record AreNewRings (rings : List AnyRing) (devices : ℕ) : Type 0 where
  pub each : length rings ≡ QUEUE_COUNT_MAX * devices
  pub fit : (ram : Memory) → FitAll rings ram

-- The ring after its places were emptied.
abbrev pub emptied : AnyRing → AnyRing
emptied (Split ring) = Split (record ring { decoder = empty_decoder ring.decoder.decoded })
emptied (Packed ring) = Packed (record ring { decoder = empty_decoder ring.decoder.decoded })

-- Whether a register write with this effect empties the places of the device's queue of this number: a reset does, and so do
-- QueueReady 0 and QueueReady 1 of that queue.
abbrev pub empties : Effect → ℕ → Bool
empties effects.Reset queue = true
empties (effects.Enabled number) queue = number == queue
empties (effects.Disabled number) queue = number == queue
empties _ queue = false

-- The rings of which the one at this place was emptied, if that is so.
abbrev pub emptied_at : Bool → ℕ → AnyRing → List AnyRing → List AnyRing
emptied_at does place any rings = if does then slice_set rings place (emptied (slice_index_or rings place any)) else rings

-- The rings of a machine after a register of a device was written with this effect.
abbrev pub forgotten : ℕ → Effect → AnyRing → List AnyRing → List AnyRing
forgotten device effect any rings = emptied_at (empties effect 1) (QUEUE_COUNT_MAX * device + 1) any (emptied_at (empties effect 0) (QUEUE_COUNT_MAX * device) any rings)
