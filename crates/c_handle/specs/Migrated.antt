-- The migration of a machine of a handle, call by call.
use Rattle.std.specs.Prelude.{Bool, true, false, ◌≡◌, ◌==◌, ◌-◌, ℕ, zero, suc, List, [], ◌++◌, min, length, replicate, take, drop, Option, Some, None, Result, Ok, Err}
use Rattle.dirtylog.specs.Members.{member_count}
use Rattle.disk_calls.specs.Calls.{is_any_out}
use Rattle.machine.specs.Layout.{pages_of}
use Rattle.machine.specs.Seen.{AreHonest, Seen, state_of}
use Rattle.sender.specs.Calls.{Serves}
use Rattle.sender.specs.Follows.{Relates}
use Rattle.sender.specs.History.{nothing}
use Rattle.sender.specs.LiveState.{HasPlaces, LiveSeen, now}
use Rattle.sender.specs.HandedIn.{IsNextPage}
use Rattle.sender.specs.Parked.{LiveParkedSeen}
use Rattle.sender.specs.ParkedCalls.{EndsLent}
use Rattle.sender.specs.SectorsLent.{CopiesSector}
use Rattle.sender.specs.StopBytes.{IsStopBytes, IsStopBytesLent}
use Rattle.sender.specs.declared.event.Left.{Left}
use Rattle.sender.specs.declared.event.LiveEvent.TheVariants as events
use Rattle.sender.specs.declared.event.LiveReply.{LiveReply}
use Rattle.sender.specs.declared.event.LiveReply.TheVariants as live
use Rattle.sender.specs.declared.event.SectorAnswer.{SectorAnswer}
use Rattle.sender.specs.declared.event.SectorAnswer.TheVariants as sent
use Rattle.sender.specs.declared.mig_error.MigError.{MigError}
use Rattle.sender.specs.declared.mig_error.MigError.TheVariants.{AlreadyStopped, NotBegun, StreamFailed}
use Rattle.sender.specs.declared.phase.Phase.{Phase}
use Rattle.sender.specs.declared.phase.Phase.TheVariants as phases
use Rattle.wire.specs.Sinks.{Digested, SinkState, Takes, over_writer}
use Rattle.wire.specs.Telling.{is_owed, owed_len}
use Rattle.c_machine.specs.Status.{calls_out, done, lent, no_machine, no_memory, round_done}
use Rattle.c_handle.specs.SendStatus.{live_status, mig_status}
use Rattle.c_handle.specs.Kept.{KeptSeen, LoanSeen, StillLent, MovingLent, State, Still, Moving, Arriving, Lent}
use Rattle.c_handle.specs.Mirror.{is_closed}
use Rattle.c_handle.specs.OnHandle.{ByEachState, ByState, OfEachState, OfHandle, OnHandle, OnToldHandle, Refuses, RefusesBoth, Unless}
use Rattle.c_handle.specs.declared.migrating.SendLeft.{SendLeft}

-- Every call of a migration but its begin is refused for a machine that is not being migrated.
abbrev pub ByMigration : (ℕ → Type 0) → (LiveSeen → LiveSeen → Type 0) → State → State → Type 0
ByMigration refused moving k next = ByState refused (λ m after. refused (mig_status NotBegun) × (after ≡ m)) moving k next

-- As above, of a call that is made while RAM is lent too.
abbrev pub ByAnyMigration : (ℕ → Type 0) → (LiveSeen → LiveSeen → Type 0) → (LiveParkedSeen → LiveParkedSeen → Type 0) → State → State → Type 0
ByAnyMigration refused moving moving_lent k next =
    ByEachState refused (λ m after. refused (mig_status NotBegun) × (after ≡ m)) moving (λ p after. refused (mig_status NotBegun) × (after ≡ p)) moving_lent k next

-- A migration of this machine of which nothing was written, and nothing waits to be taken: its history is empty.
pub record IsFresh (m : Seen) (l : LiveSeen) : Type 0 where
  pub machine : l.machine ≡ m
  pub phase : l.phase ≡ phases.Fresh
  pub out : l.out ≡ over_writer (Some []) 0 false
  pub places : HasPlaces l
  pub relates : AreHonest m → Relates (state_of m) nothing (over_writer (Some []) 0 false) l

pub record HasBegun (m : Seen) (status : ℕ) (l : LiveSeen) : Type 0 where
  pub fresh : LiveSeen
  pub is_fresh : IsFresh m fresh
  pub round : ℕ
  pub begins : Serves fresh events.Begin (live.Begun round) l
  pub status_is : status ≡ done

-- A begin of a machine that is being migrated, whose numbers are not returned.
pub record IsAnswered (l : LiveSeen) (status : ℕ) (next : LiveSeen) : Type 0 where
  pub reply : LiveReply
  pub places : HasPlaces l
  pub serves : Serves l events.Begin reply next
  pub status_is : status ≡ live_status reply

-- The migration of a machine begins, unless memory is refused. One that is being migrated already refuses it.
abbrev pub BeginsKept : State → ℕ → State → Type 0
BeginsKept (Still m) status (Still next) = Refuses status next m no_memory
BeginsKept (Still m) status (Moving next) = HasBegun m status next
BeginsKept (Moving l) status (Moving next) = IsAnswered l status next
BeginsKept (Arriving r) status (Arriving next) = Refuses status next r no_machine
BeginsKept (Lent x) status (Lent next) = Refuses status next x lent
BeginsKept _ status _ = ⊥

-- Why nothing is sent in this phase.
abbrev pub send_refusal : Phase → Option ℕ
send_refusal phases.Fresh = Some (mig_status NotBegun)
send_refusal (phases.Open round) = None
send_refusal phases.Stopped = Some (mig_status AlreadyStopped)
send_refusal phases.Failed = Some (mig_status StreamFailed)

-- Nothing is due any more.
abbrev pub is_none_due : LiveSeen → Bool
is_none_due l = member_count l.due == 0

abbrev pub end_status : Bool → ℕ
end_status true = round_done
end_status false = done

-- The least due item was sent, and it went on from there; or that was refused, and ended it.
abbrev pub GoesOn : LiveReply → (LiveSeen → Type 0) → LiveSeen → ℕ → LiveSeen → Type 0
GoesOn (live.Mig error) rest mid status next = (status ≡ mig_status error) × (next ≡ mid)
GoesOn reply rest mid status next = rest mid

pub record SendsOne (rest : LiveSeen → Type 0) (l : LiveSeen) (status : ℕ) (next : LiveSeen) : Type 0 where
  pub mid : LiveSeen
  pub reply : LiveReply
  pub places : HasPlaces l
  pub serves : Serves l events.Copy reply mid
  pub goes_on : GoesOn reply rest mid status next

abbrev pub SendsIf : Bool → (LiveSeen → Type 0) → LiveSeen → ℕ → LiveSeen → Type 0
SendsIf true rest l status next = (status ≡ round_done) × (next ≡ l)
SendsIf false rest l status next = SendsOne rest l status next

-- Due items were sent one after another, at most this number.
abbrev pub SendsUpTo : ℕ → LiveSeen → ℕ → LiveSeen → Type 0
SendsUpTo zero l status next = (status ≡ end_status (is_none_due l)) × (next ≡ l)
SendsUpTo (suc n) l status next = SendsIf (is_none_due l) (λ mid. SendsUpTo n mid status next) l status next

abbrev pub SendsSome : LiveSeen → ℕ → ℕ → LiveSeen → Type 0
SendsSome l most status next = Unless (send_refusal l.phase) (λ reason. (status ≡ reason) × (next ≡ l)) (SendsUpTo most l status next)

-- While RAM is lent sectors are sent so. A sector was sent, and it went on from there; or it ended: a page is next, nothing is due, or it was
-- refused.
abbrev pub SectorGoesOn : Result SectorAnswer MigError → (LiveParkedSeen → Type 0) → LiveParkedSeen → ℕ → LiveParkedSeen → Type 0
SectorGoesOn (Ok (sent.Copied dev n)) rest mid status next = rest mid
SectorGoesOn (Ok (sent.PageDue page)) rest mid status next = (status ≡ done) × (next ≡ mid)
SectorGoesOn (Ok sent.RoundDone) rest mid status next = (status ≡ round_done) × (next ≡ mid)
SectorGoesOn (Err error) rest mid status next = (status ≡ mig_status error) × (next ≡ mid)

pub record SendsSector (rest : LiveParkedSeen → Type 0) (p : LiveParkedSeen) (status : ℕ) (next : LiveParkedSeen) : Type 0 where
  pub mid : LiveParkedSeen
  pub result : Result SectorAnswer MigError
  pub copies : CopiesSector p result mid
  pub goes_on : SectorGoesOn result rest mid status next

abbrev pub SectorsUpTo : ℕ → LiveParkedSeen → ℕ → LiveParkedSeen → Type 0
SectorsUpTo zero p status next = (status ≡ end_status (member_count p.due == 0)) × (next ≡ p)
SectorsUpTo (suc n) p status next = SendsSector (λ mid. SectorsUpTo n mid status next) p status next

-- Where a page is next none is: the call would read RAM.
abbrev pub SendsBy : Option ℕ → ℕ → LiveParkedSeen → ℕ → LiveParkedSeen → Type 0
SendsBy (Some page) most p status next = (status ≡ lent) × (next ≡ p)
SendsBy None most p status next = SectorsUpTo most p status next

pub record SendsSectors (p : LiveParkedSeen) (most status : ℕ) (next : LiveParkedSeen) : Type 0 where
  pub page : Option ℕ
  pub is_next : IsNextPage (length p.machine.memory) p.due page
  pub sends : SendsBy page most p status next

abbrev pub SendsSomeLent : LiveParkedSeen → ℕ → ℕ → LiveParkedSeen → Type 0
SendsSomeLent p most status next = Unless (send_refusal p.phase) (λ reason. (status ≡ reason) × (next ≡ p)) (SendsSectors p most status next)

abbrev pub SendsKept : State → ℕ → ℕ → State → Type 0
SendsKept k most status next = ByAnyMigration (λ reason. status ≡ reason) (λ l after. SendsSome l most status after) (λ p after. SendsSomeLent p most status after) k next

-- A round was ended, or not, as the reply says. A description has the round that is open then.
pub record HasEnded (l : LiveSeen) (status : ℕ) (next : LiveSeen) : Type 0 where
  pub reply : LiveReply
  pub places : HasPlaces l
  pub serves : Serves l events.EndRound reply next
  pub status_is : status ≡ live_status reply

-- As above, while its RAM is lent: no byte of it is read.
pub record HasEndedLent (p : LiveParkedSeen) (status : ℕ) (next : LiveParkedSeen) : Type 0 where
  pub reply : LiveReply
  pub ends : EndsLent p reply next
  pub status_is : status ≡ live_status reply

abbrev pub EndsKept : State → ℕ → State → Type 0
EndsKept k status next = ByAnyMigration (λ reason. status ≡ reason) (λ l after. HasEnded l status after) (λ p after. HasEndedLent p status after) k next

-- How many pages and sectors a stop sent.
abbrev pub stopped_pages : LiveReply → ℕ → ℕ
stopped_pages (live.Stopped pages sectors) before = pages
stopped_pages _ before = before

abbrev pub stopped_sectors : LiveReply → ℕ → ℕ
stopped_sectors (live.Stopped pages sectors) before = sectors
stopped_sectors _ before = before

pub record HasStopped (l : LiveSeen) (status pages old_pages sectors old_sectors : ℕ) (next : LiveSeen) : Type 0 where
  pub reply : LiveReply
  pub places : HasPlaces l
  pub serves : Serves l events.Stop reply next
  pub status_is : status ≡ live_status reply
  pub pages_are : pages ≡ stopped_pages reply old_pages
  pub sectors_are : sectors ≡ stopped_sectors reply old_sectors

-- By whether a call of a disk outside is out: then it is refused, in each phase.
abbrev pub StopsUnless : Bool → LiveSeen → ℕ → ℕ → ℕ → ℕ → ℕ → LiveSeen → Type 0
StopsUnless true l status pages old_pages sectors old_sectors next = RefusesBoth status pages old_pages sectors old_sectors calls_out × (next ≡ l)
StopsUnless false l status pages old_pages sectors old_sectors next = HasStopped l status pages old_pages sectors old_sectors next

abbrev pub StopsKept : Bool → State → ℕ → ℕ → ℕ → ℕ → ℕ → State → Type 0
StopsKept out k status pages old_pages sectors old_sectors next =
    ByMigration (RefusesBoth status pages old_pages sectors old_sectors) (λ l after. StopsUnless out l status pages old_pages sectors old_sectors after) k next

-- The machine is no longer being migrated, and is otherwise as it was. What was written and not taken is gone.
abbrev pub AbortsKept : State → ℕ → State → Type 0
AbortsKept (Still m) status (Still next) = Refuses status next m (mig_status NotBegun)
AbortsKept (Moving l) status (Still next) = (status ≡ done) × (next ≡ l.machine)
AbortsKept (Arriving r) status (Arriving next) = Refuses status next r no_machine
AbortsKept (Lent x) status (Lent next) = Refuses status next x lent
AbortsKept _ status _ = ⊥

-- Whether the host tells the digest after it: no longer, where that was done.
abbrev pub told_aborted : Bool → State → State → Bool
told_aborted told (Moving l) (Still m) = false
told_aborted told k next = told

-- This many items are left, and this many bytes.
pub record AreTold (items : Left) (stop_bytes status : ℕ) (left : SendLeft) : Type 0 where
  pub status_is : status ≡ done
  pub left_is : left ≡ record { due_pages = items.due_pages; due_sectors = items.due_sectors; dirty_pages = items.dirty_pages; dirty_sectors = items.dirty_sectors; stop_bytes = stop_bytes; reserved = replicate 3 0 }

-- How many of `pages` pages and of the sectors after them are in these two sets.
pub record AreCounted (pages : ℕ) (due dirty : List Bool) (left : SendLeft) : Type 0 where
  pub due_pages : left.due_pages ≡ member_count (take pages due)
  pub due_sectors : left.due_sectors ≡ member_count (drop pages due)
  pub dirty_pages : left.dirty_pages ≡ member_count (take pages dirty)
  pub dirty_sectors : left.dirty_sectors ≡ member_count (drop pages dirty)

-- The most bytes that a stop would still write: 0 of a machine that was stopped.
abbrev pub IsMostByStop : Bool → (ℕ → Type 0) → ℕ → Type 0
IsMostByStop true going bytes = bytes ≡ 0
IsMostByStop false going bytes = going bytes

-- How many pages and sectors are due in this round, and how many were written since; and the most bytes that a stop would write.
pub record IsLeft (l : LiveSeen) (status : ℕ) (left : SendLeft) : Type 0 where
  pub status_is : status ≡ done
  pub counted : AreCounted (pages_of (now l)) l.due l.dirty left
  pub stop_bytes : IsMostByStop (is_closed l.phase) (IsStopBytes l) left.stop_bytes
  pub reserved : left.reserved ≡ replicate 3 0

-- As above, while its RAM is lent: as far as its pages were named.
pub record IsLeftLent (l : LiveParkedSeen) (status : ℕ) (left : SendLeft) : Type 0 where
  pub status_is : status ≡ done
  pub counted : AreCounted (length l.machine.memory) l.due l.dirty left
  pub stop_bytes : IsMostByStop (is_closed l.phase) (IsStopBytesLent l) left.stop_bytes
  pub reserved : left.reserved ≡ replicate 3 0

abbrev pub LeavesKept : State → ℕ → SendLeft → SendLeft → Type 0
LeavesKept k status left old =
    let refused = Refuses status left old in
    OfEachState refused (λ m. refused (mig_status NotBegun)) (λ l. IsLeft l status left) (λ p. refused (mig_status NotBegun)) (λ l. IsLeftLent l status left) k

-- How many of the bytes that wait can be taken: all of them, but for the record that closes the stream where the host has to tell the digest before.
abbrev pub ready_len : Bool → SinkState → Digested → ℕ
ready_len false out digest = length out.held
ready_len true out digest = length out.held - owed_len (is_owed digest)

-- The digest is still of the same bytes. Where the host tells it, it is still owed, or still told.
abbrev pub IsSameDigest : Bool → Digested → Digested → Type 0
IsSameDigest false old new = Takes old [] new
IsSameDigest true old new = new ≡ old

-- The first of the bytes that can be taken went to the front of the buffer, as many as fit, and no longer wait. All else is unchanged. It is by
-- whether the host tells the digest.
pub record HasTaken (told : Bool) (l : LiveSeen) (status got : ℕ) (buf new_buf : List ℕ) (next : LiveSeen) : Type 0 where
  pub status_is : status ≡ done
  pub count : got ≡ min (length buf) (ready_len told l.out l.digest)
  pub bytes : new_buf ≡ take got l.out.held ++ drop got buf
  pub rest : next ≡ record l { out = over_writer (Some (drop got l.out.held)) 0 false; digest = next.digest }
  pub digest : IsSameDigest told l.digest next.digest

-- As above, while its RAM is lent: what waits is no part of RAM.
pub record HasTakenLent (told : Bool) (l : LiveParkedSeen) (status got : ℕ) (buf new_buf : List ℕ) (next : LiveParkedSeen) : Type 0 where
  pub status_is : status ≡ done
  pub count : got ≡ min (length buf) (ready_len told l.out l.digest)
  pub bytes : new_buf ≡ take got l.out.held ++ drop got buf
  pub rest : next ≡ record l { out = over_writer (Some (drop got l.out.held)) 0 false; digest = next.digest }
  pub digest : IsSameDigest told l.digest next.digest

abbrev pub TakesLent : Bool → LoanSeen → ℕ → ℕ → ℕ → List ℕ → List ℕ → LoanSeen → Type 0
TakesLent told (StillLent p) status got old_got buf new_buf (StillLent next) = RefusesBoth status got old_got new_buf buf (mig_status NotBegun) × (next ≡ p)
TakesLent told (MovingLent l) status got old_got buf new_buf (MovingLent next) = HasTakenLent told l status got buf new_buf next
TakesLent told _ status got old_got buf new_buf _ = ⊥

abbrev pub TakesKept : Bool → State → ℕ → ℕ → ℕ → List ℕ → List ℕ → State → Type 0
TakesKept told (Still m) status got old_got buf new_buf (Still next) = RefusesBoth status got old_got new_buf buf (mig_status NotBegun) × (next ≡ m)
TakesKept told (Moving l) status got old_got buf new_buf (Moving next) = HasTaken told l status got buf new_buf next
TakesKept told (Arriving r) status got old_got buf new_buf (Arriving next) = RefusesBoth status got old_got new_buf buf no_machine × (next ≡ r)
TakesKept told (Lent x) status got old_got buf new_buf (Lent next) = TakesLent told x status got old_got buf new_buf next
TakesKept told _ status got old_got buf new_buf _ = ⊥

-- The migration of the machine of a handle begins.
abbrev pub Begun : Option KeptSeen → ℕ → Option KeptSeen → Type 0
Begun k status after = OnHandle (λ reason. status ≡ reason) (λ old next. BeginsKept old.state status next) k after

-- At most `most` items of it that are due are sent.
abbrev pub SentSome : Option KeptSeen → ℕ → ℕ → Option KeptSeen → Type 0
SentSome k most status after = OnHandle (λ reason. status ≡ reason) (λ old next. SendsKept old.state most status next) k after

-- Its round is ended.
abbrev pub EndedRound : Option KeptSeen → ℕ → Option KeptSeen → Type 0
EndedRound k status after = OnHandle (λ reason. status ≡ reason) (λ old next. EndsKept old.state status next) k after

-- It is stopped.
abbrev pub HasBeenStopped : Option KeptSeen → ℕ → ℕ → ℕ → ℕ → ℕ → Option KeptSeen → Type 0
HasBeenStopped k status pages old_pages sectors old_sectors after = OnHandle (RefusesBoth status pages old_pages sectors old_sectors) (λ old next. StopsKept (is_any_out old.calls) old.state status pages old_pages sectors old_sectors next) k after

-- Its migration is aborted.
abbrev pub Aborted : Option KeptSeen → ℕ → Option KeptSeen → Type 0
Aborted k status after = OnToldHandle (λ reason. status ≡ reason) (λ old next. told_aborted old.told old.state next) (λ old next. AbortsKept old.state status next) k after

-- What of it is still to be sent.
abbrev pub Leaves : Option KeptSeen → ℕ → SendLeft → SendLeft → Type 0
Leaves k status left old = OfHandle (Refuses status left old) (λ state. LeavesKept state status left old) k

-- C takes some of the bytes that wait.
abbrev pub Taken : Option KeptSeen → ℕ → ℕ → ℕ → List ℕ → List ℕ → Option KeptSeen → Type 0
Taken k status got old_got buf new_buf after = OnHandle (RefusesBoth status got old_got new_buf buf) (λ old next. TakesKept old.told old.state status got old_got buf new_buf next) k after
