-- What an event returns to C.
use Rattle.std.specs.Prelude.{◌≡◌, ℕ, ◌==◌, if◌then◌else◌, Bool, List, Option, Some, None, length, map, Result, OnErr}
use Rattle.guestmem.specs.Maybe.{after_if}
use Rattle.machine.specs.Applied.{IsApplied, IsAppliedLogged}
use Rattle.machine.specs.Direct.{bytes_reply}
use Rattle.machine.specs.Lines.{lines_of}
use Rattle.machine.specs.PageLog.{noted}
use Rattle.machine.specs.Parked.{IsAppliedParked, ParkedSeen}
use Rattle.machine.specs.Seen.{Seen, state_of}
use Rattle.machine.specs.declared.event.Event.{Event}
use Rattle.machine.specs.declared.event.Event.TheVariants.{MemRead, MemWrite}
use Rattle.machine.specs.declared.reply.Refusal.{Refusal}
use Rattle.machine.specs.declared.reply.Reply.{Reply}
use Rattle.sender.specs.Calls.{Serves}
use Rattle.sender.specs.LiveState.{HasPlaces, LiveSeen}
use Rattle.sender.specs.Logged.{ServesLogged}
use Rattle.sender.specs.Parked.{LiveParkedSeen}
use Rattle.sender.specs.ParkedCalls.{ServesParked}
use Rattle.sender.specs.declared.event.LiveEvent.{LiveEvent}
use Rattle.sender.specs.declared.event.LiveEvent.TheVariants.{Guest}
use Rattle.sender.specs.declared.event.LiveReply.{LiveReply}
use Rattle.sender.specs.declared.event.LiveReply.TheVariants as live
use Rattle.c_machine.specs.Status.{done, number_of, status_of}
use Rattle.c_handle.specs.SendStatus.{live_status}
use Rattle.c_handle.specs.Kept.{KeptSeen, State, Still, Moving, Arriving, Lent, parked_in}
use Rattle.c_handle.specs.OnHandle.{ByEachState, ByState, OfHandle, OfState, OnHandle, OnLoggedHandle, Refuses}

-- The number of a reply of a machine that is being migrated.
abbrev pub live_number : LiveReply → ℕ → ℕ
live_number (live.Guest reply) before = number_of reply before
live_number (live.Begun round) before = round
live_number _ before = before

-- An event was applied to a machine: there is a reply that gives the status and the number.
pub record IsTold (m : Seen) (e : Event) (status number before : ℕ) (next : Seen) : Type 0 where
  pub reply : Reply
  pub applied : IsApplied m e reply next
  pub status_is : status ≡ status_of reply
  pub number_is : number ≡ number_of reply before

-- A machine that is being migrated was called: there is a reply that gives the status and the number. Its sets have an entry
-- for each page and sector, as those of all such machines of handles.
pub record IsServed (l : LiveSeen) (e : LiveEvent) (status number before : ℕ) (next : LiveSeen) : Type 0 where
  pub reply : LiveReply
  pub places : HasPlaces l
  pub serves : Serves l e reply next
  pub status_is : status ≡ live_status reply
  pub number_is : number ≡ live_number reply before

-- The same of a machine whose RAM is lent: the event is the same whatever RAM holds meanwhile.
pub record IsToldLent (p : ParkedSeen) (e : Event) (status number before : ℕ) (next : ParkedSeen) : Type 0 where
  pub reply : Reply
  pub applied : IsAppliedParked p e reply next
  pub status_is : status ≡ status_of reply
  pub number_is : number ≡ number_of reply before

pub record IsServedLent (l : LiveParkedSeen) (e : Event) (status number before : ℕ) (next : LiveParkedSeen) : Type 0 where
  pub reply : LiveReply
  pub serves : ServesParked l e reply next
  pub status_is : status ≡ live_status reply
  pub number_is : number ≡ live_number reply before

-- An event that touches no RAM was applied to the contents of a handle, or to the machine behind one.
abbrev pub Tells : State → Event → ℕ → ℕ → ℕ → State → Type 0
Tells k e status number before next =
    ByEachState (Refuses status number before) (λ m after. IsTold m e status number before after) (λ l after. IsServed l (Guest e) status number before after)
    (λ p after. IsToldLent p e status number before after) (λ l after. IsServedLent l e status number before after) k next

abbrev pub Told : Option KeptSeen → Event → ℕ → ℕ → ℕ → Option KeptSeen → Type 0
Told k e status number before after = OnHandle (Refuses status number before) (λ old next. Tells old.state e status number before next) k after

-- As above, for an event whose number C gets only where it was done: that of the reply, or `none`, where the reply has none.
pub record TellsOr (none : ℕ) (k : State) (e : Event) (status number before : ℕ) (next : State) : Type 0 where
  pub told : ℕ
  pub tells : Tells k e status told none next
  pub number_is : number ≡ (if status == done then told else before)

abbrev pub ToldOr : ℕ → Option KeptSeen → Event → ℕ → ℕ → ℕ → Option KeptSeen → Type 0
ToldOr none k e status number before after = OnHandle (Refuses status number before) (λ old next. TellsOr none old.state e status number before next) k after

-- As above, for an event whose replies have no number: none is returned.
abbrev pub TellsSo : State → Event → ℕ → State → Type 0
TellsSo k e status next = Tells k e status 0 0 next

abbrev pub ToldSo : Option KeptSeen → Event → ℕ → Option KeptSeen → Type 0
ToldSo before e status after = Told before e status 0 0 after

-- RAM was written, and the log of written pages, where there is one, was told of exactly the pages that were.
pub record IsWritten (m : Seen) (log : Option (List Bool)) (addr : ℕ) (bytes : List ℕ) (status : ℕ) (next : Seen) (new_log : Option (List Bool)) : Type 0 where
  pub reply : Reply
  pub logged : IsAppliedLogged (after_if noted) m log (MemWrite addr bytes) reply next new_log
  pub status_is : status ≡ status_of reply

pub record IsServedWrite (l : LiveSeen) (log : Option (List Bool)) (addr : ℕ) (bytes : List ℕ) (status : ℕ) (next : LiveSeen) (new_log : Option (List Bool)) : Type 0 where
  pub reply : LiveReply
  pub places : HasPlaces l
  pub serves : ServesLogged (after_if noted) l log (MemWrite addr bytes) reply next new_log
  pub status_is : status ≡ live_status reply

-- It is not, while it is lent.
abbrev pub WritesKept : State → Option (List Bool) → ℕ → List ℕ → ℕ → State → Option (List Bool) → Type 0
WritesKept k log addr bytes status next new_log =
    ByState (λ reason. (status ≡ reason) × (new_log ≡ log)) (λ m after. IsWritten m log addr bytes status after new_log) (λ l after. IsServedWrite l log addr bytes status after new_log) k next

abbrev pub Written : Option KeptSeen → ℕ → List ℕ → ℕ → Option KeptSeen → Type 0
Written k addr bytes status after = OnLoggedHandle (λ reason. status ≡ reason) (λ old next log. WritesKept old.state old.written addr bytes status next log) k after

-- RAM was read into a buffer, which is unchanged if the read is refused. It takes no memory.
pub record IsRead (m : Seen) (addr status : ℕ) (before after : List ℕ) : Type 0 where
  pub answer : Result (Unit {0}) Refusal
  pub applied : IsApplied m (MemRead addr (length before)) (bytes_reply answer after) m
  pub status_is : status ≡ status_of (bytes_reply answer after)
  pub kept : OnErr answer (after ≡ before)

-- A machine is read, whether it is being migrated or not.
abbrev pub ReadsKept : State → ℕ → ℕ → List ℕ → List ℕ → Type 0
ReadsKept k addr status before after = OfState (Refuses status after before) (λ m. IsRead m addr status before after) (λ l. IsRead l.machine addr status before after) k

abbrev pub Read : Option KeptSeen → ℕ → ℕ → List ℕ → List ℕ → Type 0
Read k addr status before after = OfHandle (Refuses status after before) (λ state. ReadsKept state addr status before after) k

-- The interrupt lines of the machine of a handle. Without a machine none is set.
abbrev pub lines_in : State → ℕ
lines_in (Still m) = lines_of (state_of m).devices
lines_in (Moving l) = lines_of (state_of l.machine).devices
lines_in (Arriving r) = 0
lines_in (Lent x) = lines_of (map (λ d. d.state) (parked_in x).devices)

abbrev pub lines_told : Option KeptSeen → ℕ
lines_told None = 0
lines_told (Some k) = lines_in k.state
