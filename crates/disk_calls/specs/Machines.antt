-- A machine and the calls of its disks outside: what happens to both is what the turns of a device say.
use Rattle.std.specs.Prelude.{◌≡◌, ℕ, ◌+◌, ◌≤◌, true, false, List, [], ◌∷◌, map, slice_get, slice_index_or, Option, Some, None}
use Rattle.blk.specs.Outside.{answers}
use Rattle.blk.specs.declared.block.Block.{Block}
use Rattle.blk.specs.declared.request.Request.{Request}
use Rattle.machine.specs.Dropping.{drops_of}
use Rattle.machine.specs.Outcome.{Outcome, fine}
use Rattle.machine.specs.Outside.{answer_of, asking_requests}
use Rattle.machine.specs.State.{DeviceState, MachineState}
use Rattle.machine.specs.Step.{IsStep}
use Rattle.machine.specs.declared.event.DiskAnswer.{DiskAnswer}
use Rattle.machine.specs.declared.event.Event as events
use Rattle.machine.specs.declared.event.Event.TheVariants.{RegWrite, Disk}
use Rattle.machine.specs.declared.kind.Kind.TheVariants.{Outside}
use Rattle.machine.specs.declared.reply.Reply.{Reply}
use Rattle.disk_calls.specs.Calls.{AllCalls, CallsState, IsAt, IsHandedOut, is_out_of, without}
use Rattle.disk_calls.specs.Desk.{AreMet, Desk, outs_of}
use Rattle.disk_calls.specs.Handing.{asker}
use Rattle.disk_calls.specs.declared.calls.Handed.{Handed}
use Rattle.disk_calls.specs.declared.out.Out.{Out}

-- The requests of each device that may ask for something.
abbrev pub asked_of : MachineState → List (List Request)
asked_of m = map asking_requests m.devices

-- The desk of a device whose disk is outside, whether it runs or not: its outstanding requests, and its calls that are out, over storage with blocks of
-- `size` sectors.
pub record IsDesk (m : MachineState) (calls : AllCalls) (dev size : ℕ) (d : Desk) : Type 0 where
  pub device : DeviceState
  pub there : slice_get m.devices dev ≡ Some device
  pub block : Block
  pub is : device.kind ≡ Outside block
  pub requests_are : block.requests ≡ d.requests
  pub own : CallsState
  pub calls_there : slice_get calls.devices dev ≡ Some own
  pub size_is : own.size ≡ size
  pub outs_are : own.outs ≡ outs_of d.placed

-- What happens to a machine, and to the calls of its disks.
pub data Happening : Type 0 where
  -- an event that is no answer of a disk
  Happens : events.Event → Happening
  -- the next call is handed out, cut to a number of sectors
  Hands : ℕ → Handed → Happening
  -- the disk answers the i-th call of a device that is out, whole or in part
  Answers : ℕ → ℕ → DiskAnswer → Happening
  -- RAM and disks change in any way, as RAM does while it is lent, and no device does
  Rests : Happening

abbrev pub IsNoAnswer : events.Event → Type 0
IsNoAnswer (Disk dev pick given) = ⊥
IsNoAnswer e = Unit {0}

-- Rule 2: while a call of a device is out, no register is written so that its requests are dropped.
abbrev pub KeepsRequests : MachineState → AllCalls → events.Event → Type 0
KeepsRequests m calls (RegWrite dev offset width value) = drops_of m dev offset width value ≡ true → is_out_of calls dev ≡ false
KeepsRequests m calls e = Unit {0}

-- The answer goes to the request that asks for what begins as the call does, if there is one.
abbrev pub GoesTo : MachineState → ℕ → DiskAnswer → Option ℕ → MachineState → Type 0
GoesTo m dev given None after = after ≡ m
GoesTo m dev given (Some k) after = (r : Reply) × IsStep m (Disk dev (k + 1) given) fine r after

abbrev pub Makes : MachineState → AllCalls → Happening → MachineState → AllCalls → Type 0
Makes m calls (Happens e) after then = (o : Outcome) × (r : Reply) × IsNoAnswer e × KeepsRequests m calls e × IsStep m e o r after × (then ≡ calls)
Makes m calls (Hands most handed) after then = (1 ≤ most) × IsHandedOut most calls (asked_of m) handed then × (after ≡ m)
Makes m calls (Answers dev i given) after then =
    (out : Out) × IsAt calls.devices dev i out × (answers out.call (answer_of given) ≡ true) × GoesTo m dev given (asker (slice_index_or (asked_of m) dev []) out.call) after × (then ≡ without calls dev i)
Makes m calls Rests after then = (after.devices ≡ m.devices) × (then ≡ calls)

abbrev pub MakeAll : MachineState → AllCalls → List Happening → MachineState → AllCalls → Type 0
MakeAll m calls [] after then = (after ≡ m) × (then ≡ calls)
MakeAll m calls (h ∷ hs) after then = (mid : MachineState) × (between : AllCalls) × Makes m calls h mid between × MakeAll mid between hs after then

-- The law of calls that are out, of machines. A device has its disk outside, and no call of it is out. Then anything happens to the machine, and calls
-- of its disks are handed out and answered. No two calls of the device that are out overlap; each is asked by one of its requests, another for each; and
-- its answer, whole or in part, is for that request, which asks for it.
abbrev pub MachinesMeetCalls : Type 0
MachinesMeetCalls = (m after : MachineState) (calls then : AllCalls) (hs : List Happening) (dev size : ℕ) (requests : List Request) → 1 ≤ size → IsDesk m calls dev size (record { requests = requests; placed = [] }) → MakeAll m calls hs after then
    → (d : Desk) × IsDesk after then dev size d × AreMet size d
