-- How often each device of a machine was touched: a count for each, which rises with each touch until it is the greatest.
use Rattle.std.specs.Prelude.{◌≡◌, ℕ, List, [], ◌∷◌, Option, Some, None, slice_get, slice_index, slice_set}
use Rattle.guestmem.specs.Write.{raised}
use Rattle.machine.specs.Applied.{IsApplied}
use Rattle.machine.specs.Seen.{Seen, state_of}
use Rattle.machine.specs.declared.event.Event.{Event}
use Rattle.machine.specs.declared.event.Event.TheVariants.{RegRead, RegWrite, MemRead, MemWrite, Step, Input, Resize, Drop, Disk}
use Rattle.machine.specs.declared.reply.Reply.{Reply}

-- The device that an event touches: the one that it may change. A read of a register changes none, nor does an access to RAM.
abbrev pub touched_device : Event → Option ℕ
touched_device (RegRead dev off width) = None
touched_device (RegWrite dev off width value) = Some dev
touched_device (MemRead addr len) = None
touched_device (MemWrite addr bytes) = None
touched_device (Step dev pick) = Some dev
touched_device (Input dev bytes) = Some dev
touched_device (Resize dev cols rows) = Some dev
touched_device (Drop dev) = Some dev
touched_device (Disk dev pick answer) = Some dev

-- The counts after a touch of this device. Those that there are stay, if there is none for it.
abbrev pub touched : List ℕ → ℕ → List ℕ
touched serials dev = slice_set serials dev (raised (slice_index serials dev))

abbrev pub touched_if : List ℕ → Option ℕ → List ℕ
touched_if serials None = serials
touched_if serials (Some dev) = touched serials dev

-- The counts after an event, and after a list of them.
abbrev pub touched_by : List ℕ → Event → List ℕ
touched_by serials e = touched_if serials (touched_device e)

abbrev pub touched_by_all : List ℕ → List Event → List ℕ
touched_by_all serials [] = serials
touched_by_all serials (e ∷ es) = touched_by_all (touched_by serials e) es

-- An event changes no device but the one that it touches.
abbrev pub UntouchedDevicesStay : Type 0
UntouchedDevicesStay = (old new : Seen) (e : Event) (reply : Reply) → IsApplied old e reply new → (dev : ℕ) → (touched_device e ≡ Some dev → ⊥) → slice_get (state_of new).devices dev ≡ slice_get (state_of old).devices dev
