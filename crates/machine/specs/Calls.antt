-- How often the disks of a machine were called. It is no part of the machine's state.
use Rattle.std.specs.Prelude.{◌≡◌, ◌≢◌, ℕ, ◌-◌, ◌&&◌, Bool, true, false, List, [], ◌∷◌, Option, Some, None, Result, Ok, Err, slice_get, if◌then◌else◌}
use Rattle.blk.specs.Advance.{asks_at}
use Rattle.blk.specs.declared.advancing.Advanced.{Advanced}
use Rattle.blk.specs.declared.advancing.Advanced.TheVariants as advanced
use Rattle.machine.specs.Applied.{IsApplied}
use Rattle.machine.specs.DeviceStep.{advances}
use Rattle.machine.specs.Seen.{Seen, all_calls, called_at, state_of}
use Rattle.machine.specs.State.{DeviceState}
use Rattle.machine.specs.declared.event.Event.{Event}
use Rattle.machine.specs.declared.event.Event.TheVariants.{Step}
use Rattle.machine.specs.declared.kind.Kind.{Kind}
use Rattle.machine.specs.declared.kind.Kind.TheVariants.{Block, Outside}
use Rattle.machine.specs.declared.reply.Reply.{Reply}
use Rattle.machine.specs.declared.reply.Reply.TheVariants.{Moved, BadSector, DiskFailed, Completed}

-- What a reply reports of the request that a step advanced. It does not tell whether an interrupt was due, and no call depends on that.
abbrev pub advance_of : Reply → Advanced
advance_of Moved = advanced.Moved
advance_of BadSector = advanced.BadSector
advance_of DiskFailed = advanced.DiskFailed
advance_of (Completed len) = advanced.Completed len false
advance_of _ = advanced.Idle

-- A step that advanced the k-th outstanding request, from 0, and was answered so has called the disk. Only a block device has any, and no step calls
-- one that is outside.
abbrev pub kind_asks : Kind → ℕ → Reply → Bool
kind_asks (Block block) k reply = asks_at block k (advance_of reply)
kind_asks (Outside block) k reply = false
kind_asks kind k reply = false

-- A step with this pick that was answered so has called the disk of the device: it moved a unit of a request, cleared or flushed. One that
-- took a request, ended it, found its sector bad or gave the id has not.
abbrev pub asks_disk : DeviceState → ℕ → Reply → Bool
asks_disk d pick reply = advances d pick && kind_asks d.kind (pick - 1) reply

abbrev pub asks_if : Option DeviceState → ℕ → Reply → Bool
asks_if None pick reply = false
asks_if (Some d) pick reply = asks_disk d pick reply

-- The disk of the device of this number was called once, or not; no other disk was called. `called` is what one more call makes of a
-- count.
abbrev pub CallsDisk : (ℕ → ℕ) → Bool → ℕ → Seen → Seen → Type 0
CallsDisk called made dev old new = all_calls new ≡ (if made then called_at called (all_calls old) dev else all_calls old)

-- The calls that an event has made which was answered so: a step at most one, of the disk of its own device, and another event none.
abbrev pub HasCalled : (ℕ → ℕ) → Seen → Event → Reply → Seen → Type 0
HasCalled called old (Step dev pick) reply new = CallsDisk called (asks_if (slice_get (state_of old).devices dev) pick reply) dev old new
HasCalled called old e reply new = all_calls new ≡ all_calls old

-- The events of a list were applied one after another, with these replies, and made these calls.
abbrev pub HaveCalled : (ℕ → ℕ) → Seen → List Event → List Reply → Seen → Type 0
HaveCalled called old [] [] new = new ≡ old
HaveCalled called old (e ∷ es) (r ∷ rs) new = (next : Seen) × IsApplied old e r next × HasCalled called old e r next × HaveCalled called next es rs new
HaveCalled called old es rs new = ⊥

-- A read of a sector calls the disk, unless the sector is bad.
abbrev pub has_read : {E : Type 0} → Result Bool E → Bool
has_read (Ok good) = good
has_read (Err e) = true

-- An event that is no step calls no disk.
abbrev pub OnlyStepsCall : Type 0
OnlyStepsCall = (called : ℕ → ℕ) (old new : Seen) (e : Event) (reply : Reply) → ((dev pick : ℕ) → e ≢ Step dev pick) → HasCalled called old e reply new → all_calls new ≡ all_calls old
