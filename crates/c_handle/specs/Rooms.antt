-- How much a device still takes of what the host puts in.
use Rattle.std.specs.Prelude.{◌≡◌, ℕ, ◌-◌, length, Option, Some, None}
use Rattle.console.specs.declared.host_bytes.TheConstants.{HOST_BYTES_MAX}
use Rattle.net.specs.Inbox.{most_waiting}
use Rattle.machine.specs.Parked.{parked_states}
use Rattle.machine.specs.Refusal.{code_of}
use Rattle.machine.specs.Seen.{state_of}
use Rattle.machine.specs.State.{DeviceState}
use Rattle.machine.specs.declared.kind.Kind.{Kind}
use Rattle.machine.specs.declared.kind.Kind.TheVariants.{Network, Block, Outside, Console, Entropy}
use Rattle.machine.specs.declared.reply.Refusal.TheVariants.{WrongKind}
use Rattle.c_handle.specs.Kept.{KeptSeen, State}
use Rattle.c_handle.specs.OnHandle.{OfEachState, OfHandle, Refuses}
use Rattle.c_machine.specs.Status.{done, no_device}
use Rattle.std.specs.Prelude.{slice_get}

-- As many bytes as there is room for in a pool or in a console's input; of a network device, as many frames. A disk takes nothing.
abbrev pub room_of : Kind → Option ℕ
room_of (Network mac inbox) = Some (most_waiting inbox.longest - length inbox.frames)
room_of (Block block) = None
room_of (Outside block) = None
room_of (Console size held) = Some (HOST_BYTES_MAX - length held)
room_of (Entropy pool) = Some (HOST_BYTES_MAX - length pool)

abbrev pub IsRoom : Option ℕ → ℕ → ℕ → ℕ → Type 0
IsRoom (Some count) status room old = (status ≡ done) × (room ≡ count)
IsRoom None status room old = Refuses status room old (code_of WrongKind)

abbrev pub IsRoomOf : Option DeviceState → ℕ → ℕ → ℕ → Type 0
IsRoomOf None status room old = Refuses status room old no_device
IsRoomOf (Some d) status room old = IsRoom (room_of d.kind) status room old

-- Also of a machine that was stopped, and of one whose RAM is lent.
abbrev pub RoomsKept : State → ℕ → ℕ → ℕ → ℕ → Type 0
RoomsKept k dev status room old =
    OfEachState (Refuses status room old) (λ m. IsRoomOf (slice_get (state_of m).devices dev) status room old) (λ l. IsRoomOf (slice_get (state_of l.machine).devices dev) status room old)
    (λ p. IsRoomOf (slice_get (parked_states p) dev) status room old) (λ l. IsRoomOf (slice_get (parked_states l.machine) dev) status room old) k

abbrev pub Rooms : Option KeptSeen → ℕ → ℕ → ℕ → ℕ → Type 0
Rooms k dev status room old = OfHandle (Refuses status room old) (λ state. RoomsKept state dev status room old) k
