-- What is done to a machine that is being migrated while its RAM is lent.
use Rattle.std.specs.Prelude.{◌≡◌, ◌≢◌, ℕ, ◌+◌, ◌-◌, ◌*◌, ◌++◌, ◌==◌, if◌then◌else◌, List, [], ◌∷◌, length, Bool, true, false, Some, Result, Ok, Err, MatchOption, slice_get}
use Rattle.blk.specs.Sectors.{Sector}
use Rattle.blk.specs.declared.disk.DiskFault.{DiskFault}
use Rattle.guestmem.specs.Lent.{AreBelow, given_back, is_named}
use Rattle.guestmem.specs.Memory.{IsMemory}
use Rattle.guestmem.specs.Number.{IsBytes}
use Rattle.guestmem.specs.Write.{put_at}
use Rattle.guestmem.specs.Writes.{set_all}
use Rattle.guestmem.specs.declared.limits.TheConstants.{PAGE_SIZE}
use Rattle.region.specs.Address.{address}
use Rattle.region.specs.Lending.{with_content}
use Rattle.region.specs.declared.region.Region.{Region}
use Rattle.machine.specs.Beside.{IsStepOf}
use Rattle.machine.specs.Effect.{Effect, items_of}
use Rattle.machine.specs.EffectLaws.{sector_on}
use Rattle.machine.specs.Layout.{firsts_of}
use Rattle.machine.specs.Parked.{FailsParkedFlush, FlushesParked, IsAppliedParked, ParkedSeen, WhateverRam, makes_flush_parked, parked_sectors, parked_states}
use Rattle.machine.specs.Seen.{Seen}
use Rattle.machine.specs.State.{MachineState, base_of}
use Rattle.machine.specs.declared.event.Event.{Event}
use Rattle.machine.specs.declared.event.Event.TheVariants.{MemWrite, Step}
use Rattle.machine.specs.declared.reply.Reply.{Reply}
use Rattle.wire.specs.Records.{round_end, sector, spelled_record}
use Rattle.wire.specs.Sinks.{SinkState, Takes}
use Rattle.sender.specs.Calls.{Serves, with_items}
use Rattle.sender.specs.Follows.{Relates}
use Rattle.sender.specs.HandedIn.{HandingFails, HandsIn, page_text}
use Rattle.sender.specs.History.{History, guest_events, text}
use Rattle.sender.specs.LiveState.{HasPlaces, LiveSeen, refusal_for}
use Rattle.sender.specs.Parked.{IsLiveParked, KeepsWord, LiveParkedSeen, live_back, page_writes, parked_layout, with_pages}
use Rattle.sender.specs.SectorsLent.{CopiesLent}
use Rattle.sender.specs.Uncalled.{CallsNone}
use Rattle.sender.specs.Taking.{untaken}
use Rattle.sender.specs.Unsynced.{FailsLiveFlush, FlushesLiveDisk}
use Rattle.sender.specs.declared.event.Item.TheVariants as items
use Rattle.sender.specs.declared.event.LiveEvent.TheVariants.{EndRound, Guest}
use Rattle.sender.specs.declared.event.LiveReply.{LiveReply}
use Rattle.sender.specs.declared.event.LiveReply.TheVariants as r
use Rattle.sender.specs.declared.mig_error.MigError.{MigError}
use Rattle.sender.specs.declared.phase.Phase.TheVariants as phases

-- An event that needs no RAM was applied to the machine. It wrote no item, so none became dirty, and nothing else changed.
pub record AfterParked (p : LiveParkedSeen) (e : Event) (reply : Reply) (next : LiveParkedSeen) : Type 0 where
  pub applied : IsAppliedParked p.machine e reply next.machine
  pub rest : next ≡ record p { machine = next.machine }

abbrev pub GuestsParked : LiveParkedSeen → Event → LiveReply → LiveParkedSeen → Type 0
GuestsParked p e (r.Guest reply) next = AfterParked p e reply next
GuestsParked p e _ next = ⊥

-- The call: the phase refuses it as it refuses the event, and nothing changes, or it is done.
abbrev pub ServesParked : LiveParkedSeen → Event → LiveReply → LiveParkedSeen → Type 0
ServesParked p e reply next = MatchOption (refusal_for p.phase (Guest e)) (GuestsParked p e reply next) (λ x. (reply ≡ r.Mig x) × (next ≡ p))

-- One flush of the disk of a device, beside all steps, in each phase.
pub record FlushesLiveParked {T E : Type 0} (p : LiveParkedSeen) (dev : ℕ) (result : Result T E) (next : LiveParkedSeen) : Type 0 where
  pub flushes : FlushesParked p.machine dev result next.machine
  pub rest : next ≡ record p { machine = next.machine }

-- A flush failed in place of its step.
pub record FailsLiveParked (p : LiveParkedSeen) (dev pick : ℕ) (next : LiveParkedSeen) : Type 0 where
  pub failed : FailsParkedFlush p.machine dev pick next.machine
  pub rest : next ≡ record p { machine = next.machine }

abbrev pub FailsLiveParkedIf : Bool → LiveParkedSeen → ℕ → ℕ → LiveParkedSeen → Type 0
FailsLiveParkedIf true p dev pick next = FailsLiveParked p dev pick next
FailsLiveParkedIf false p dev pick next = next ≡ p

abbrev pub AnswersParkedFlush : LiveParkedSeen → ℕ → ℕ → Result Bool MigError → LiveParkedSeen → Type 0
AnswersParkedFlush p dev pick (Ok was) next = (was ≡ makes_flush_parked p.machine dev pick) × FailsLiveParkedIf was p dev pick next
AnswersParkedFlush p dev pick (Err e) next = ⊥

-- The call: the phase refuses it as it refuses the step, and nothing changes, or it is answered.
abbrev pub TriesParkedFlush : LiveParkedSeen → ℕ → ℕ → Result Bool MigError → LiveParkedSeen → Type 0
TriesParkedFlush p dev pick result next = MatchOption (refusal_for p.phase (Guest (Step dev pick))) (AnswersParkedFlush p dev pick result next) (λ x. (result ≡ Err x) × (next ≡ p))

-- These bytes were taken out of the writer, the first of those that it held. Its digest is of the same bytes as before.
pub record TakesParked (p : LiveParkedSeen) (taken : List ℕ) (next : LiveParkedSeen) : Type 0 where
  pub held : p.out.held ≡ taken ++ next.out.held
  pub count : next.out.failures ≡ p.out.failures
  pub honest : next.out.honest ≡ p.out.honest
  pub digest : Takes p.digest [] next.digest
  pub rest : next ≡ record p { digest = next.digest; out = next.out }

-- It was done to the machine that was lent, before the caller wrote anything, and its RAM is lent as before.
pub record IsDoneLiveLent (l : LiveSeen) (region : Region) (next : LiveParkedSeen) (does : LiveSeen → Type 0) : Type 0 where
  pub after : LiveSeen
  pub done : does after
  pub parked : IsLiveParked after region next
  pub places : HasPlaces after
  pub memory : after.machine.memory ≡ l.machine.memory
  pub phase : after.phase ≡ l.phase

-- The call, which called no disk.
pub record IsServedUncalled (old : LiveSeen) (e : Event) (reply : LiveReply) (new : LiveSeen) : Type 0 where
  pub serves : Serves old (Guest e) reply new
  pub calls : CallsNone old.machine new.machine

-- So each of these calls is one of the machine that was lent.
abbrev pub LiveParkedIsServed : Type 0
LiveParkedIsServed = (l : LiveSeen) (p next : LiveParkedSeen) (region : Region) (e : Event) (reply : LiveReply) → HasPlaces l → IsMemory l.machine.memory → IsLiveParked l region p → ServesParked p e reply next
    → IsDoneLiveLent l region next (IsServedUncalled l e reply)

abbrev pub LiveParkedIsFlushed : Type 0
LiveParkedIsFlushed = (l : LiveSeen) (p next : LiveParkedSeen) (region : Region) (dev : ℕ) (result : Result (Unit {0}) DiskFault) → HasPlaces l → IsLiveParked l region p → FlushesLiveParked p dev result next
    → IsDoneLiveLent l region next (FlushesLiveDisk l dev result)

abbrev pub LiveParkedFlushFails : Type 0
LiveParkedFlushFails = (l : LiveSeen) (p next : LiveParkedSeen) (region : Region) (dev pick : ℕ) → HasPlaces l → IsMemory l.machine.memory → IsLiveParked l region p → FailsLiveParked p dev pick next
    → IsDoneLiveLent l region next (FailsLiveFlush l dev pick)

-- A step was made beside the guest, and RAM was as these bytes then: it is the step of the machine with this RAM.
abbrev pub MakesBeside : ParkedSeen → List ℕ → ℕ → ℕ → Reply → Effect → ParkedSeen → Type 0
MakesBeside p seen dev pick reply effect next = (m : Seen) → m.devices ≡ p.devices → m.memory.versions ≡ p.memory → m.memory.bytes ≡ seen → IsBytes seen → IsStepOf m dev pick reply effect next

-- Exactly the items that it writes into became dirty, and nothing else changed.
pub record StepsBeside (p : LiveParkedSeen) (seen : List ℕ) (dev pick : ℕ) (reply : Reply) (effect : Effect) (next : LiveParkedSeen) : Type 0 where
  pub makes : MakesBeside p.machine seen dev pick reply effect next.machine
  pub dirty : next.dirty ≡ with_items (firsts_of (parked_layout p.machine)) p.dirty (items_of effect)
  pub rest : next ≡ record p { machine = next.machine; dirty = next.dirty }

-- These pages became dirty, and nothing else changed.
pub record MarksParked (p : LiveParkedSeen) (marks : List ℕ) (next : LiveParkedSeen) : Type 0 where
  pub below : AreBelow (length p.machine.memory) marks
  pub rest : next ≡ record p { dirty = with_pages p.dirty marks }

-- The end of a round reads no byte of RAM: it is that call of the machine with whatever RAM, and the guest may still run after it.
pub record EndsLent (p : LiveParkedSeen) (reply : LiveReply) (next : LiveParkedSeen) : Type 0 where
  pub serves : WhateverRam p.machine (λ m. Serves (live_back p m []) EndRound reply (live_back next m []))
  pub parked : next.machine ≡ p.machine
  pub due_size : length next.due ≡ length p.due
  pub dirty_size : length next.dirty ≡ length p.dirty
  pub goes : p.phase ≢ phases.Stopped → next.phase ≢ phases.Stopped

-- A call that was made while the RAM was lent, and not refused: an event that needs no RAM, with its reply; a flush that failed in place of
-- its step; a flush beside all steps; a taking of these bytes; a step beside the guest, where RAM begins at this base, the guest had written
-- these pages, and RAM was as these bytes then; a page that was handed in, by its address, its number and its bytes; one at which the writer failed; a mark of these
-- pages, where RAM begins at this base and is these bytes by the history; the end of a round, with its reply; a sector that was sent, by its
-- device, its number and its content; one that was not, with the error.
pub data LentCall : Type 0 where
  an_event : Event → Reply → LentCall
  a_failed_flush : ℕ → ℕ → LentCall
  a_flush : ℕ → Result (Unit {0}) DiskFault → LentCall
  a_taking : List ℕ → LentCall
  a_step : ℕ → List ℕ → List ℕ → ℕ → ℕ → Reply → Effect → LentCall
  a_page : ℕ → ℕ → List ℕ → LentCall
  a_failed_page : LentCall
  a_mark : ℕ → List ℕ → List ℕ → LentCall
  a_round_end : LiveReply → LentCall
  a_sector : ℕ → ℕ → Sector → LentCall
  an_unsent_sector : MigError → LentCall

-- The address at which its RAM begins.
abbrev pub parked_base : LiveParkedSeen → ℕ
parked_base p = base_of (parked_states p.machine)

abbrev pub IsLentCall : LiveParkedSeen → LentCall → LiveParkedSeen → Type 0
IsLentCall p (an_event e reply) next = ServesParked p e (r.Guest reply) next
IsLentCall p (a_failed_flush dev pick) next = FailsLiveParked p dev pick next
IsLentCall p (a_flush dev result) next = FlushesLiveParked p dev result next
IsLentCall p (a_taking bytes) next = TakesParked p bytes next
IsLentCall p (a_step base wrote seen dev pick reply effect) next = (base ≡ parked_base p) × StepsBeside p seen dev pick reply effect next
IsLentCall p (a_page addr n bytes) next = (addr ≡ parked_base p + PAGE_SIZE * n) × HandsIn p n bytes next
IsLentCall p a_failed_page next = HandingFails p next
IsLentCall p (a_mark base bytes marks) next = (base ≡ parked_base p) × MarksParked p marks next
IsLentCall p (a_round_end reply) next = EndsLent p reply next
IsLentCall p (a_sector dev n content) next = (sector_on (slice_get (parked_sectors p.machine) dev) n ≡ Some content) × CopiesLent p (r.Copied (items.Sector dev n)) next
IsLentCall p (an_unsent_sector e) next = CopiesLent p (r.Mig e) next

-- Calls, one after another.
abbrev pub AreLentCalls : LiveParkedSeen → List LentCall → LiveParkedSeen → Type 0
AreLentCalls p [] next = next ≡ p
AreLentCalls p (c ∷ cs) next = (mid : LiveParkedSeen) × IsLentCall p c mid × AreLentCalls mid cs next

-- The events that calls add to a history, and the bytes that they take.
abbrev pub events_in : LentCall → List Event
events_in (an_event e reply) = e ∷ []
events_in (a_failed_flush dev pick) = Step dev pick ∷ []
events_in (a_flush dev result) = []
events_in (a_taking bytes) = []
events_in (a_step base wrote seen dev pick reply effect) = page_writes base wrote seen ++ Step dev pick ∷ []
events_in (a_page addr n bytes) = MemWrite addr bytes ∷ []
events_in a_failed_page = []
events_in (a_mark base bytes marks) = page_writes base marks bytes
events_in (a_round_end reply) = []
events_in (a_sector dev n content) = []
events_in (an_unsent_sector e) = []

abbrev pub bytes_in : LentCall → List ℕ
bytes_in (a_taking bytes) = bytes
bytes_in _ = []

abbrev pub events_among : List LentCall → List Event
events_among [] = []
events_among (c ∷ cs) = events_in c ++ events_among cs

abbrev pub bytes_among : List LentCall → List ℕ
bytes_among [] = []
bytes_among (c ∷ cs) = bytes_in c ++ bytes_among cs

-- RAM by the history: as it was lent, and after each step as the step saw it, with what it wrote.
abbrev pub over_with : Region → LentCall → Region
over_with region (a_step base wrote seen dev pick reply effect) = with_content region (set_all seen effect.writes)
over_with region (a_page addr n bytes) = with_content region (put_at region.content (PAGE_SIZE * n) bytes)
over_with region _ = region

abbrev pub over_with_all : Region → List LentCall → Region
over_with_all region [] = region
over_with_all region (c ∷ cs) = over_with_all (over_with region c) cs

-- What a step saw of RAM differs from RAM by the history in no other pages than those that the guest had written. A mark is by RAM as it is
-- by the history.
abbrev pub IsSeen : Region → ℕ → LentCall → Type 0
IsSeen region count (a_step base wrote seen dev pick reply effect) = KeepsWord region (with_content region seen) count wrote
IsSeen region count (a_mark base bytes marks) = bytes ≡ region.content
IsSeen region count _ = Unit {0}

abbrev pub AreSeen : Region → ℕ → List LentCall → Type 0
AreSeen region count [] = Unit {0}
AreSeen region count (c ∷ cs) = IsSeen region count c × AreSeen (over_with region c) count cs

-- The pages that are still to be named after calls: also those that the guest had written before a step.
abbrev pub without : ℕ → List ℕ → List ℕ
without i [] = []
without i (n ∷ pages) = if n == i then without i pages else n ∷ without i pages

-- The pages that are not among these marks.
abbrev pub beside : List ℕ → List ℕ → List ℕ
beside marks [] = []
beside marks (n ∷ pages) = if is_named marks n then beside marks pages else n ∷ beside marks pages

abbrev pub missing_in : List ℕ → LentCall → List ℕ
missing_in pages (a_step base wrote seen dev pick reply effect) = pages ++ wrote
missing_in pages (a_page addr n bytes) = without n pages
missing_in pages (a_mark base bytes marks) = beside marks pages
missing_in pages _ = pages

abbrev pub missing_among : List ℕ → List LentCall → List ℕ
missing_among pages [] = pages
missing_among pages (c ∷ cs) = missing_among (missing_in pages c) cs

-- What calls write.
abbrev pub sent_in : LentCall → List ℕ
sent_in (a_page addr n bytes) = page_text n bytes
sent_in (a_round_end (r.Begun k)) = spelled_record (round_end (k - 1))
sent_in (a_sector dev n content) = spelled_record (sector dev n content)
sent_in _ = []

abbrev pub sent_among : List LentCall → List ℕ
sent_among [] = []
sent_among (c ∷ cs) = sent_in c ++ sent_among cs

-- A round is ended only where no page that was written before this loan, or before a step beside the guest, is still to be named.
abbrev pub MayEnd : List ℕ → LentCall → Type 0
MayEnd (n ∷ pages) (a_round_end reply) = ⊥
MayEnd pages c = Unit {0}

abbrev pub MayEndAll : List ℕ → List LentCall → Type 0
MayEndAll pages [] = Unit {0}
MayEndAll pages (c ∷ cs) = MayEnd pages c × MayEndAll (missing_in pages c) cs

-- The history goes on by these events of the guest, and these bytes are written meanwhile.
pub record LentGoesOn (m : MachineState) (h : History) (out : SinkState) (events : List Event) (bytes : List ℕ) (new : LiveSeen) : Type 0 where
  pub history : History
  pub relates : Relates m history out new
  pub came : guest_events history ≡ guest_events h ++ events
  pub text_is : text m history ≡ text m h ++ bytes

-- The history goes on by the events of the calls that were made while the RAM was lent, and then by the guest's writes of the pages that are
-- named, in whatever order the guest made them. A step is, by the history, the guest's writes of the pages that it had written till then, as
-- the step saw them, and then the step. So the caller keeps its word where the pages that it names are those whose bytes differ from RAM by
-- the history, and those that the guest had written before a step. Bytes may have been taken before, and meanwhile.
abbrev pub LentFollows : Type 0
LentFollows = (m : MachineState) (h : History) (out : SinkState) (taken : List ℕ) (l : LiveSeen) (p next : LiveParkedSeen) (before after : Region) (calls : List LentCall) (pages : List ℕ) → Relates m h out (untaken taken l) → HasPlaces l → IsMemory l.machine.memory
    → l.phase ≢ phases.Stopped → IsLiveParked l before p → AreLentCalls p calls next → AreSeen before (length p.machine.memory) calls → MayEndAll [] calls → KeepsWord (over_with_all before calls) after (length p.machine.memory) pages → ((n : ℕ) → is_named (missing_among [] calls) n ≡ true → is_named pages n ≡ true)
    → LentGoesOn m h out (events_among calls ++ page_writes (parked_base next) pages after.content) (sent_among calls) (untaken (taken ++ bytes_among calls) (live_back next (given_back after.content (address after) next.machine.memory pages) pages))
