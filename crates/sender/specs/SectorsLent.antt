-- Sectors that are sent while RAM is lent.
use Rattle.std.specs.Prelude.{◌≡◌, ◌≢◌, ℕ, ◌≤◌, ◌<◌, List, [], Bool, None, Result, Ok, Err, length}
use Rattle.dirtylog.specs.Members.{HasNone, IsLeast}
use Rattle.machine.specs.Parked.{WhateverRam, parked_calls, parked_sectors, parked_states}
use Rattle.sender.specs.Calls.{Serves}
use Rattle.sender.specs.LiveState.{refusal_for}
use Rattle.sender.specs.Parked.{LiveParkedSeen, live_back}
use Rattle.sender.specs.Reads.{HasLiveCalled}
use Rattle.sender.specs.Stopping.{SendsItem}
use Rattle.sender.specs.declared.event.Item.{Item}
use Rattle.sender.specs.declared.event.Item.TheVariants.{Sector}
use Rattle.sender.specs.declared.event.LiveEvent.TheVariants.{Copy}
use Rattle.sender.specs.declared.event.LiveReply.{LiveReply}
use Rattle.sender.specs.declared.event.LiveReply.TheVariants as r
use Rattle.sender.specs.declared.event.NextDue.{NextDue}
use Rattle.sender.specs.declared.event.NextDue.TheVariants as next_due
use Rattle.sender.specs.declared.event.SectorAnswer.{SectorAnswer}
use Rattle.sender.specs.declared.event.SectorAnswer.TheVariants as answers
use Rattle.sender.specs.declared.mig_error.MigError.{MigError}
use Rattle.sender.specs.declared.phase.Phase.TheVariants as phases

-- The least item that is due: one of this many pages, or a sector.
pub record IsSectorNext (pages : ℕ) (due : List Bool) : Type 0 where
  pub number : ℕ
  pub least : IsLeast due 0 number
  pub past : pages ≤ number

abbrev pub IsNextDue : ℕ → List Bool → NextDue → Type 0
IsNextDue pages due (next_due.Page n) = IsLeast due 0 n × (n < pages)
IsNextDue pages due next_due.Sector = IsSectorNext pages due
IsNextDue pages due next_due.Nothing = HasNone due

-- The devices stay as they are, but for the marks and the calls of their disks, and each set has as many entries as before. The guest may
-- still run.
pub record IsKeptLent (p next : LiveParkedSeen) : Type 0 where
  pub versions : next.machine.memory ≡ p.machine.memory
  pub states : parked_states next.machine ≡ parked_states p.machine
  pub sectors : parked_sectors next.machine ≡ parked_sectors p.machine
  pub due_size : length next.due ≡ length p.due
  pub dirty_size : length next.dirty ≡ length p.dirty
  pub goes : p.phase ≢ phases.Stopped → next.phase ≢ phases.Stopped

-- A copy with this reply: whatever the RAM holds meanwhile, it is that copy of the machine with this RAM.
pub record CopiesLent (p : LiveParkedSeen) (reply : LiveReply) (next : LiveParkedSeen) : Type 0 where
  pub serves : WhateverRam p.machine (λ m. Serves (live_back p m []) Copy reply (live_back next m []))
  pub kept : IsKeptLent p next

-- The least due item is this page: nothing was sent.
pub record IsPageDue (p : LiveParkedSeen) (page : ℕ) (next : LiveParkedSeen) : Type 0 where
  pub free : refusal_for p.phase Copy ≡ None
  pub least : IsLeast p.due 0 page
  pub below : page < length p.machine.memory
  pub same : next ≡ p

-- No item is due.
pub record IsRoundDone (p next : LiveParkedSeen) : Type 0 where
  pub free : refusal_for p.phase Copy ≡ None
  pub none : HasNone p.due
  pub same : next ≡ p

-- The call, by its result: where it sends a sector, or fails, it is a copy.
abbrev pub CopiesSector : LiveParkedSeen → Result SectorAnswer MigError → LiveParkedSeen → Type 0
CopiesSector p (Ok (answers.Copied dev n)) next = CopiesLent p (r.Copied (Sector dev n)) next
CopiesSector p (Ok (answers.PageDue page)) next = IsPageDue p page next
CopiesSector p (Ok answers.RoundDone) next = IsRoundDone p next
CopiesSector p (Err e) next = CopiesLent p (r.Mig e) next

-- The calls of disks that it has made: those of that copy, whatever the RAM holds meanwhile.
abbrev pub CallsLent : (ℕ → ℕ) → LiveParkedSeen → LiveReply → LiveParkedSeen → Type 0
CallsLent called p reply next = WhateverRam p.machine (λ m. HasLiveCalled called (live_back p m []) Copy reply (live_back next m []))

abbrev pub HasSectorCalled : (ℕ → ℕ) → LiveParkedSeen → Result SectorAnswer MigError → LiveParkedSeen → Type 0
HasSectorCalled called p (Ok (answers.Copied dev n)) next = CallsLent called p (r.Copied (Sector dev n)) next
HasSectorCalled called p (Ok (answers.PageDue page)) next = parked_calls next.machine ≡ parked_calls p.machine
HasSectorCalled called p (Ok answers.RoundDone) next = parked_calls next.machine ≡ parked_calls p.machine
HasSectorCalled called p (Err e) next = CallsLent called p (r.Mig e) next

-- The part of it that sends the sector with this number.
abbrev pub sent_as : Item → Result (Unit {0}) MigError → Result Item MigError
sent_as item (Ok x) = Ok item
sent_as item (Err e) = Err e

pub record SendsLent (p : LiveParkedSeen) (number dev n : ℕ) (result : Result (Unit {0}) MigError) (next : LiveParkedSeen) : Type 0 where
  pub sends : WhateverRam p.machine (λ m. SendsItem (live_back p m []) number (sent_as (Sector dev n) result) (live_back next m []))
  pub kept : IsKeptLent p next
