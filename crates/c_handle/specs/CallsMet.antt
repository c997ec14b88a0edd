-- The calls of disks outside, over all that a host does with a handle: each answer meets the request that asked for it, and a call that is out stays so
-- until it is answered.
use Rattle.std.specs.Prelude.{◌≡◌, ◌≢◌, ℕ, ◌≤◌, List, [], ◌∷◌, length, Some}
use Rattle.blk.specs.declared.request.Request.{Request}
use Rattle.disk_calls.specs.Calls.{IsAt}
use Rattle.disk_calls.specs.Desk.{AreMet, Desk}
use Rattle.disk_calls.specs.Machines.{IsDesk}
use Rattle.disk_calls.specs.declared.out.Out.{Out}
use Rattle.guestmem.specs.declared.limits.TheConstants.{PAGES_GREATEST}
use Rattle.region.specs.declared.slot.Slot.{Slot}
use Rattle.machine.specs.State.{MachineState}
use Rattle.machine.specs.declared.event.Event.{Event}
use Rattle.machine.specs.declared.event.Event.TheVariants.{RegWrite, Disk}
use Rattle.c_machine.specs.declared.pages.Pages.{Pages}
use Rattle.c_handle.specs.Digest.{BegunAs, HasBeenTold}
use Rattle.c_handle.specs.Dropping.{WroteReg}
use Rattle.c_handle.specs.Durable.{Failed}
use Rattle.c_handle.specs.HandedOut.{HandedOut}
use Rattle.c_handle.specs.HandingIn.{HandedIn}
use Rattle.c_handle.specs.Kept.{KeptSeen, State, Still, Moving, Arriving, Lent, parked_in}
use Rattle.c_handle.specs.Late.{Marked}
use Rattle.c_handle.specs.Lent.{GivesBack, Lends}
use Rattle.c_handle.specs.Migrated.{Aborted, Begun, EndedRound, HasBeenStopped, SentSome, Taken}
use Rattle.c_handle.specs.Mirror.{Pushed}
use Rattle.c_handle.specs.Moving.{Saved}
use Rattle.c_handle.specs.Outside.{Done, FailsCall, HandsCall, devices_of}
use Rattle.c_handle.specs.Resetting.{Resets}
use Rattle.c_handle.specs.Sectors.{SectorRead}
use Rattle.c_handle.specs.Stepped.{Stepped}
use Rattle.c_handle.specs.Told.{Told, Written}
use Rattle.c_handle.specs.Turns.{Worked}
use Rattle.c_handle.specs.declared.outside.Call.{Call}
use Rattle.c_handle.specs.declared.turning.Turn.{Turn}

-- The devices of a handle's machine, in whatever state. Of its RAM, which the caller has while it is lent, and of its disks nothing is said.
abbrev pub machine_of : State → MachineState
machine_of k = record { ram = []; devices = devices_of k; disks = [] }

-- RAM has pages, as many as it may have, wherever it is. So it is of every machine.
abbrev pub AreFew : List ℕ → Type 0
AreFew versions = (1 ≤ length versions) × (length versions ≤ PAGES_GREATEST)

abbrev pub HasRam : State → Type 0
HasRam (Still m) = AreFew m.memory.versions
HasRam (Moving l) = AreFew l.machine.memory.versions
HasRam (Arriving r) = Unit {0}
HasRam (Lent x) = AreFew (parked_in x).memory

-- The desk of a device of a handle: its outstanding requests, and its calls that are out.
abbrev pub IsDeskIn : KeptSeen → ℕ → ℕ → Desk → Type 0
IsDeskIn k dev size d = IsDesk (machine_of k.state) k.calls dev size d

-- A call of C.
pub data HostCall : Type 0 where
  -- a register of a device is written: its offset, the width and the value
  a_register_write : ℕ → ℕ → ℕ → ℕ → HostCall
  -- another event: a register is read, bytes are put in or dropped, a console is resized
  an_event : Event → HostCall
  -- RAM is written: bytes, from an address on
  a_ram_write : ℕ → List ℕ → HostCall
  -- or whole pages are
  a_push : HostCall
  -- a device does a piece of its work, the one of this pick; its disk may be lost
  a_step : ℕ → ℕ → HostCall
  -- or the devices do several, one after another
  a_turn : HostCall
  -- the guest reboots
  a_reset : HostCall
  -- the next call of a disk outside is handed out
  a_handing : HostCall
  -- the call of this number was done: this many sectors, with these bytes
  an_answer : ℕ → ℕ → List ℕ → HostCall
  -- it failed
  a_failure : ℕ → HostCall
  -- the disk of this device is lost
  a_loss : ℕ → HostCall
  -- another call: it changes no device, and no call that is out
  another : HostCall

-- A write of a register, and an answer of a disk, have calls of their own.
abbrev pub IsAnotherEvent : Event → Type 0
IsAnotherEvent (RegWrite dev off width value) = ⊥
IsAnotherEvent (Disk dev pick given) = ⊥
IsAnotherEvent e = Unit {0}

-- What the call does to a handle, with some status, and whatever else C gets: that is what its export promises. Of another call no more is asked than
-- that devices and calls are as they were.
abbrev pub Does : KeptSeen → HostCall → KeptSeen → Type 0
Does k (a_register_write dev off width value) next = (status : ℕ) × (byte : ℕ) × (before : ℕ) × WroteReg (Some k) dev off width value status byte before (Some next)
Does k (an_event e) next = (status : ℕ) × (number : ℕ) × (before : ℕ) × IsAnotherEvent e × Told (Some k) e status number before (Some next)
Does k (a_ram_write addr bytes) next = (status : ℕ) × Written (Some k) addr bytes status (Some next)
Does k a_push next = (pages : Pages) × (ram : List ℕ) × (status : ℕ) × (seen : List ℕ) × (new_seen : List ℕ) × Pushed (Some k) pages ram status seen new_seen (Some next)
Does k (a_step dev pick) next = (status : ℕ) × (number : ℕ) × (before : ℕ) × (buf : List ℕ) × (new_buf : List ℕ) × Stepped (Some k) dev pick status number before buf new_buf (Some next)
Does k a_turn next = (t : Turn) × (status : ℕ) × (buf : List ℕ) × (new_buf : List ℕ) × (after : Turn) × Worked (Some k) t status buf new_buf after (Some next)
Does k a_reset next = (status : ℕ) × Resets (Some k) status (Some next)
Does k a_handing next = (status : ℕ) × (call : Call) × (old_call : Call) × (buf : List ℕ) × (new_buf : List ℕ) × HandsCall (Some k) status call old_call buf new_buf (Some next)
Does k (an_answer number count bytes) next = (status : ℕ) × Done (Some k) number count bytes status (Some next)
Does k (a_failure number) next = (status : ℕ) × FailsCall (Some k) number status (Some next)
Does k (a_loss dev) next = (status : ℕ) × Failed (Some k) dev status (Some next)
Does k another next = (devices_of next.state ≡ devices_of k.state) × (next.calls ≡ k.calls) × HasRam next.state

-- Calls, one after another.
abbrev pub DoAll : KeptSeen → List HostCall → KeptSeen → Type 0
DoAll k [] next = next ≡ k
DoAll k (c ∷ cs) next = (mid : KeptSeen) × Does k c mid × DoAll mid cs next

-- The law of calls of disks outside, for a host. A device has its disk outside, and no call of it is out. Then the host calls what it likes, and its
-- guest does what it likes. No two calls of the device that are out overlap; each is asked by one of its requests, another for each; and its answer,
-- whole or in part, is for that request, which asks for it.
abbrev pub HostCallsAreMet : Type 0
HostCallsAreMet = (k next : KeptSeen) (cs : List HostCall) (dev size : ℕ) (requests : List Request) → 1 ≤ size → HasRam k.state → IsDeskIn k dev size (record { requests = requests; placed = [] }) → DoAll k cs next
    → (d : Desk) × IsDeskIn next dev size d × AreMet size d

-- No answer, and no failure, of the call of this number.
abbrev pub IsNoAnswerTo : ℕ → HostCall → Type 0
IsNoAnswerTo number (an_answer other count bytes) = other ≢ number
IsNoAnswerTo number (a_failure other) = other ≢ number
IsNoAnswerTo number c = Unit {0}

abbrev pub NoneAnswers : ℕ → List HostCall → Type 0
NoneAnswers number [] = Unit {0}
NoneAnswers number (c ∷ cs) = IsNoAnswerTo number c × NoneAnswers number cs

-- A call that is out stays so, at its place or an earlier one, whatever the host calls, until it is answered.
abbrev pub CallsStayOut : Type 0
CallsStayOut = (k next : KeptSeen) (cs : List HostCall) (dev i : ℕ) (out : Out) → IsAt k.calls.devices dev i out → NoneAnswers out.number cs → DoAll k cs next → (j : ℕ) × (j ≤ i) × IsAt next.calls.devices dev j out

-- The other calls, by what their exports promise: those that migrate a machine, lend its RAM and take it back, name pages or hand them out, and read the
-- machine. What is left of the calls changes nothing, brings a machine into a handle, or takes the handle away.
pub data OtherCall : Type 0 where
  a_begin : OtherCall
  -- or by these flags
  a_begin_as : ℕ → OtherCall
  a_send : OtherCall
  -- a page is handed in
  a_page : OtherCall
  an_end_of_round : OtherCall
  a_stop : OtherCall
  an_abort : OtherCall
  a_taking : OtherCall
  a_telling : OtherCall
  a_loan : OtherCall
  a_return : OtherCall
  a_mark : OtherCall
  a_list_of_pages : OtherCall
  a_sector_read : OtherCall
  a_save : OtherCall

abbrev pub DoesOther : KeptSeen → OtherCall → KeptSeen → Type 0
DoesOther k a_begin next = (status : ℕ) × Begun (Some k) status (Some next)
DoesOther k (a_begin_as flags) next = (status : ℕ) × BegunAs (Some k) flags status (Some next)
DoesOther k a_send next = (most : ℕ) × (status : ℕ) × SentSome (Some k) most status (Some next)
DoesOther k a_page next = (page : ℕ) × (bytes : List ℕ) × (status : ℕ) × HandedIn (Some k) page bytes status (Some next)
DoesOther k an_end_of_round next = (status : ℕ) × EndedRound (Some k) status (Some next)
DoesOther k a_stop next = (status : ℕ) × (pages : ℕ) × (old_pages : ℕ) × (sectors : ℕ) × (old_sectors : ℕ) × HasBeenStopped (Some k) status pages old_pages sectors old_sectors (Some next)
DoesOther k an_abort next = (status : ℕ) × Aborted (Some k) status (Some next)
DoesOther k a_taking next = (status : ℕ) × (got : ℕ) × (old_got : ℕ) × (buf : List ℕ) × (new_buf : List ℕ) × Taken (Some k) status got old_got buf new_buf (Some next)
DoesOther k a_telling next = (digest : List ℕ) × (status : ℕ) × HasBeenTold (Some k) digest status (Some next)
DoesOther k a_loan next = (ram : Slot) × (status : ℕ) × (new_ram : Slot) × Lends (Some k) ram status new_ram (Some next)
DoesOther k a_return next = (ram : Slot) × (pages : Pages) × (status : ℕ) × (new_ram : Slot) × GivesBack (Some k) ram pages status new_ram (Some next)
DoesOther k a_mark next = (pages : Pages) × (status : ℕ) × Marked (Some k) pages status (Some next)
DoesOther k a_list_of_pages next = (status : ℕ) × (out : List ℕ) × (new_out : List ℕ) × (count : ℕ) × (old_count : ℕ) × HandedOut (Some k) status out new_out count old_count (Some next)
DoesOther k a_sector_read next = (dev : ℕ) × (n : ℕ) × (status : ℕ) × (buf : List ℕ) × (new_buf : List ℕ) × SectorRead (Some k) dev n status buf new_buf (Some next)
DoesOther k a_save next = (status : ℕ) × (len : ℕ) × (old_len : ℕ) × (buf : List ℕ) × (new_buf : List ℕ) × Saved (Some k) status len old_len buf new_buf (Some next)

-- Each of them is another call, as the law above takes it.
abbrev pub OthersKeepDevices : Type 0
OthersKeepDevices = (k next : KeptSeen) (c : OtherCall) → HasRam k.state → DoesOther k c next → Does k another next
