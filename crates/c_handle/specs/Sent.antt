-- The migration of a machine out of a handle, from its first call on: its history, and the bytes that C has taken. What C has
-- taken, followed by what waits, is all that a machine that is being migrated has written. So after a stop it is the whole
-- stream of the machine, and what is made of it on the other side is the machine.
use Rattle.std.specs.Prelude.{◌≡◌, ◌≢◌, ◌+◌, ◌*◌, ◌++◌, ℕ, Bool, List, [], ◌∷◌, Some, false, length, map, slice_get, take}
use Rattle.region.specs.Address.{address}
use Rattle.region.specs.Lending.{with_content}
use Rattle.region.specs.declared.region.Region.{Region}
use Rattle.guestmem.specs.Lent.{AreBelow, given_back}
use Rattle.guestmem.specs.Memory.{IsMemory}
use Rattle.guestmem.specs.Write.{put_at}
use Rattle.guestmem.specs.Writes.{set_all}
use Rattle.guestmem.specs.declared.limits.TheConstants.{PAGE_SIZE}
use Rattle.blk.specs.Sectors.{Sector}
use Rattle.machine.specs.Effect.{Effect}
use Rattle.machine.specs.EffectLaws.{sector_on}
use Rattle.machine.specs.Parked.{parked_sectors}
use Rattle.machine.specs.Seen.{AreHonest, Seen, state_of}
use Rattle.machine.specs.Sound.{IsSound}
use Rattle.machine.specs.State.{MachineState, base_of}
use Rattle.machine.specs.declared.event.Event.{Event}
use Rattle.machine.specs.declared.event.Event.TheVariants.{MemWrite, Step}
use Rattle.machine.specs.declared.reply.Reply.{Reply}
use Rattle.machine.specs.declared.reply.Reply.TheVariants.{DiskFailed}
use Rattle.sender.specs.Calls.{Serves}
use Rattle.sender.specs.History.{History, guest_events, has_fault, nothing, phase_of, text, then_came}
use Rattle.sender.specs.LiveState.{HasPlaces, LiveSeen, now}
use Rattle.sender.specs.Marks.{AreAmong, IsBehind, MayCall, live_marked, still_behind}
use Rattle.sender.specs.Parked.{KeepsWord, LiveParkedSeen, live_back, live_base, page_writes}
use Rattle.sender.specs.HandedIn.{HandingFails, HandsIn, page_text}
use Rattle.sender.specs.ParkedCalls.{EndsLent, MarksParked, ServesParked, StepsBeside, a_round_end, beside, sent_in, without}
use Rattle.sender.specs.SectorsLent.{CopiesLent}
use Rattle.sender.specs.Taking.{untaken}
use Rattle.sender.specs.Unsynced.{FailsLiveFlush}
use Rattle.sender.specs.declared.event.Item.TheVariants as items
use Rattle.sender.specs.declared.event.LiveEvent.{LiveEvent}
use Rattle.sender.specs.declared.event.LiveEvent.TheVariants.{Guest}
use Rattle.sender.specs.declared.event.LiveReply.{LiveReply}
use Rattle.sender.specs.declared.event.LiveReply.TheVariants as r
use Rattle.sender.specs.declared.mig_error.MigError.{MigError}
use Rattle.sender.specs.declared.phase.Phase.TheVariants as phases
use Rattle.wire.specs.Records.{sector, spelled_record}
use Rattle.wire.specs.Sinks.{Takes, over_writer}
use Rattle.wire.specs.Stream.{IsStream}
use Rattle.wire.specs.Telling.{is_owed}
use Rattle.wire.specs.declared.record_head.TheConstants.{COMMIT_RECORD}
use Rattle.sha2.specs.Sha256.{sha256}
use Rattle.c_handle.specs.ArrivalSeen.{ArrivalSeen}
use Rattle.c_handle.specs.Awaited.{HasArrived, HasCome, awaited_base}
use Rattle.c_handle.specs.Digest.{HasTold}
use Rattle.c_handle.specs.Lent.{IsLiveLoan}
use Rattle.c_handle.specs.Kept.{Moving, Still}
use Rattle.c_handle.specs.Migrated.{AbortsKept, HasTaken, HasTakenLent, IsFresh}
use Rattle.c_handle.specs.Mirror.{is_closed}

-- This happened to the machine since its migration began, these bytes were taken, and no pages but these were written and are still to be
-- named.
abbrev pub IsSent : MachineState → History → List ℕ → List ℕ → LiveSeen → Type 0
IsSent m h taken pages l = IsBehind m h (over_writer (Some []) 0 false) pages (untaken taken l)

-- This holds at first, with an empty history and nothing taken.
abbrev pub FirstIsSent : Type 0
FirstIsSent = (m : Seen) (l : LiveSeen) → AreHonest m → IsFresh m l → IsSent (state_of m) nothing [] [] l

-- So it stays: each call that answers adds to the history, where a round is ended, and a stop made, once no page is to be named,
pub record StaysSent (m : MachineState) (h : History) (taken pages : List ℕ) (e : LiveEvent) (reply : LiveReply) (next : LiveSeen) : Type 0 where
  pub effect : Effect
  pub is_sent : IsSent m (then_came h e reply effect) taken pages next

abbrev pub CallsStaySent : Type 0
CallsStaySent = (m : MachineState) (h : History) (taken pages : List ℕ) (e : LiveEvent) (reply : LiveReply) (l next : LiveSeen) → IsSent m h taken pages l → HasPlaces l → MayCall pages e → Serves l e reply next
    → StaysSent m h taken (still_behind reply pages) e reply next

-- and so does a flush that fails in place of its step, with the reply that the disk failed,
abbrev pub FailedFlushesStaySent : Type 0
FailedFlushesStaySent = (m : MachineState) (h : History) (taken pages : List ℕ) (dev pick : ℕ) (l next : LiveSeen) → IsSent m h taken pages l → HasPlaces l → l.phase ≢ phases.Stopped → FailsLiveFlush l dev pick next
    → StaysSent m h taken pages (Guest (Step dev pick)) (r.Guest DiskFailed) next

-- and each taking, while there was memory for what waits, adds to what was taken.
abbrev pub TakingsStaySent : Type 0
TakingsStaySent = (told : Bool) (m : MachineState) (h : History) (taken pages buf new_buf : List ℕ) (status got : ℕ) (l next : LiveSeen) → IsSent m h taken pages l → has_fault h ≡ false → HasTaken told l status got buf new_buf next
    → IsSent m h (taken ++ take got new_buf) pages next

-- A taking changes what waits and what is digested, and nothing else, whether or not the stream has failed.
pub record IsOnlyTaken (l next : LiveSeen) (got : ℕ) : Type 0 where
  pub rest : next ≡ record l { out = next.out; digest = next.digest }
  pub waits : l.out.held ≡ take got l.out.held ++ next.out.held
  pub digest : Takes l.digest [] next.digest

abbrev pub TakingsChangeNothingElse : Type 0
TakingsChangeNothingElse = (told : Bool) (l next : LiveSeen) (status got : ℕ) (buf new_buf : List ℕ) → HasTaken told l status got buf new_buf next → IsOnlyTaken l next got

-- So who takes what waits after a send that failed, and aborts, has the machine as it was when the send failed.
abbrev pub AbortsAfterTakings : Type 0
AbortsAfterTakings = (told : Bool) (l next : LiveSeen) (status got aborted : ℕ) (buf new_buf : List ℕ) (m : Seen) → HasTaken told l status got buf new_buf next → AbortsKept (Moving next) aborted (Still m) → m ≡ l.machine

-- While RAM is lent: all this happened before or meanwhile, and so these bytes were taken, before the caller wrote anything.
pub record IsSentLent (m : MachineState) (h : History) (taken pages : List ℕ) (before : Region) (p : LiveParkedSeen) : Type 0 where
  pub lender : LiveSeen
  pub is_sent : IsSent m h taken pages lender
  pub loan : IsLiveLoan lender before p
  pub goes : is_closed lender.phase ≡ false

-- Each call that touches no byte of RAM adds to the history then too,
pub record StaysSentLent (m : MachineState) (h : History) (taken pages : List ℕ) (e : LiveEvent) (reply : LiveReply) (before : Region) (next : LiveParkedSeen) : Type 0 where
  pub effect : Effect
  pub is_sent : IsSentLent m (then_came h e reply effect) taken pages before next

abbrev pub LentCallsStaySent : Type 0
LentCallsStaySent = (m : MachineState) (h : History) (taken pages : List ℕ) (e : Event) (reply : LiveReply) (before : Region) (p next : LiveParkedSeen) → IsSentLent m h taken pages before p → ServesParked p e reply next
    → StaysSentLent m h taken (still_behind reply pages) (Guest e) reply before next

-- and what is taken adds to what was taken.
abbrev pub LentTakingsStaySent : Type 0
LentTakingsStaySent = (told : Bool) (m : MachineState) (h : History) (taken pages buf new_buf : List ℕ) (status got : ℕ) (before : Region) (p next : LiveParkedSeen) → IsSentLent m h taken pages before p → has_fault h ≡ false
    → HasTakenLent told p status got buf new_buf next → IsSentLent m h (taken ++ take got new_buf) pages before next

-- These events of the guest are added to the history, nothing is written meanwhile, and no pages but these are still to be named.
pub record GoesOnSent (m : MachineState) (h : History) (taken : List ℕ) (events : List Event) (pages : List ℕ) (next : LiveSeen) : Type 0 where
  pub history : History
  pub is_sent : IsSent m history taken pages next
  pub came : guest_events history ≡ guest_events h ++ events
  pub text_is : text m history ≡ text m h

-- What the end of a round writes, by its reply.
abbrev pub round_text : LiveReply → List ℕ
round_text reply = sent_in (a_round_end reply)

-- The address at which RAM begins, while it is lent.
abbrev pub lent_base : LiveParkedSeen → ℕ
lent_base p = base_of (map (λ d. d.state) p.machine.devices)

-- These events of the guest are added to the history, nothing is written meanwhile, and no pages but these are still to be named. By the
-- history RAM holds what this region holds.
pub record GoesOnLentSent (m : MachineState) (h : History) (taken : List ℕ) (events : List Event) (pages : List ℕ) (before : Region) (next : LiveParkedSeen) : Type 0 where
  pub history : History
  pub is_sent : IsSentLent m history taken pages before next
  pub came : guest_events history ≡ guest_events h ++ events
  pub text_is : text m history ≡ text m h

-- A step beside the guest adds the guest's writes of the pages that it had written till then, as the step saw them, and the step. These pages
-- are to be named too.
abbrev pub LentStepsStaySent : Type 0
LentStepsStaySent = (m : MachineState) (h : History) (taken pages : List ℕ) (wrote seen : List ℕ) (dev pick : ℕ) (reply : Reply) (effect : Effect) (before : Region) (p next : LiveParkedSeen) → IsSentLent m h taken pages before p
    → StepsBeside p seen dev pick reply effect next → KeepsWord before (with_content before seen) (length p.machine.memory) wrote
    → GoesOnLentSent m h taken (page_writes (lent_base p) wrote seen ++ Step dev pick ∷ []) (pages ++ wrote) (with_content before (set_all seen effect.writes)) next

-- As above, and these bytes are written meanwhile.
pub record SendsOnLent (m : MachineState) (h : History) (taken : List ℕ) (events : List Event) (bytes pages : List ℕ) (before : Region) (next : LiveParkedSeen) : Type 0 where
  pub history : History
  pub is_sent : IsSentLent m history taken pages before next
  pub came : guest_events history ≡ guest_events h ++ events
  pub text_is : text m history ≡ text m h ++ bytes

-- A page that is handed in adds the guest's write of it with these bytes, and its record. It is to be named no longer, unless RAM has other
-- bytes there when it is given back.
abbrev pub HandingsStaySent : Type 0
HandingsStaySent = (m : MachineState) (h : History) (taken pages bytes : List ℕ) (n : ℕ) (before : Region) (p next : LiveParkedSeen) → IsSentLent m h taken pages before p → HandsIn p n bytes next
    → SendsOnLent m h taken (MemWrite (lent_base p + PAGE_SIZE * n) bytes ∷ []) (page_text n bytes) (without n pages) (with_content before (put_at before.content (PAGE_SIZE * n) bytes)) next

-- One at which the writer failed adds nothing but the failure.
abbrev pub FailedHandingsStaySent : Type 0
FailedHandingsStaySent = (m : MachineState) (h : History) (taken pages : List ℕ) (before : Region) (p next : LiveParkedSeen) → IsSentLent m h taken pages before p → HandingFails p next → SendsOnLent m h taken [] [] pages before next

-- A sector that is sent while RAM is lent adds its record, as it lies on the disk; one that is not adds nothing but its refusal.
abbrev pub LentSectorsStaySent : Type 0
LentSectorsStaySent = (m : MachineState) (h : History) (taken pages : List ℕ) (dev n : ℕ) (content : Sector) (before : Region) (p next : LiveParkedSeen) → IsSentLent m h taken pages before p → sector_on (slice_get (parked_sectors p.machine) dev) n ≡ Some content
    → CopiesLent p (r.Copied (items.Sector dev n)) next → SendsOnLent m h taken [] (spelled_record (sector dev n content)) pages before next

abbrev pub UnsentSectorsStaySent : Type 0
UnsentSectorsStaySent = (m : MachineState) (h : History) (taken pages : List ℕ) (error : MigError) (before : Region) (p next : LiveParkedSeen) → IsSentLent m h taken pages before p → CopiesLent p (r.Mig error) next → SendsOnLent m h taken [] [] pages before next

-- A round that is ended while RAM is lent adds its end, where no page is to be named: what the guest writes in this loan comes after it.
abbrev pub LentRoundsStaySent : Type 0
LentRoundsStaySent = (m : MachineState) (h : History) (taken : List ℕ) (reply : LiveReply) (before : Region) (p next : LiveParkedSeen) → IsSentLent m h taken [] before p → EndsLent p reply next → SendsOnLent m h taken [] (round_text reply) [] before next

-- A mark while RAM is lent adds writes of its pages with the bytes that RAM has there by the history, and these are to be named no longer,
-- unless RAM has others when it is given back.
abbrev pub LentMarksStaySent : Type 0
LentMarksStaySent = (m : MachineState) (h : History) (taken pages marks : List ℕ) (before : Region) (p next : LiveParkedSeen) → IsSentLent m h taken pages before p → MarksParked p marks next
    → SendsOnLent m h taken (page_writes (lent_base p) marks before.content) [] (beside marks pages) before next

-- RAM that is given back by a caller that wrote into no page but these is as if the guest had written them by calls of the machine: so
-- these writes are added to the history. What the caller names is still to be named no longer.
abbrev pub LentComesBackSent : Type 0
LentComesBackSent = (m : MachineState) (h : History) (taken pages : List ℕ) (before after : Region) (written named rest : List ℕ) (p : LiveParkedSeen) → IsSentLent m h taken pages before p → KeepsWord before after (length p.machine.memory) written
    → AreAmong named written → AreAmong (pages ++ written) (named ++ rest)
    → GoesOnSent m h taken (page_writes (lent_base p) written after.content) rest (live_back p (given_back after.content (address after) p.machine.memory named) named)

-- So is a mark: it adds writes of the pages that it names with the bytes that lie there.
abbrev pub MarksStaySent : Type 0
MarksStaySent = (m : MachineState) (h : History) (taken pages marks rest : List ℕ) (l : LiveSeen) → IsSent m h taken pages l → HasPlaces l → IsMemory l.machine.memory → l.phase ≢ phases.Stopped → AreBelow (length l.machine.memory.versions) marks
    → AreAmong pages (marks ++ rest) → GoesOnSent m h taken (page_writes (live_base l) marks l.machine.memory.bytes) rest (live_marked l marks)

-- Before a stop no digest is asked for.
abbrev pub NoneIsAskedYet : Type 0
NoneIsAskedYet = (m : MachineState) (h : History) (taken pages : List ℕ) (l : LiveSeen) → IsSent m h taken pages l → has_fault h ≡ false → phase_of h ≢ phases.Stopped → is_owed l.digest ≡ false

-- After a stop, a host that took all but the record that closes the stream, and tells the digest of what it took, keeps the machine sent.
abbrev pub TellingsStaySent : Type 0
TellingsStaySent = (m : MachineState) (h : History) (taken pages digest : List ℕ) (status : ℕ) (l next : LiveSeen) → IsSent m h taken pages l → IsSound m → phase_of h ≡ phases.Stopped → length l.out.held ≡ COMMIT_RECORD
    → HasTold l digest status next → digest ≡ sha256 taken → IsSent m h taken pages next

-- After a stop, what was taken, followed by what waits, is the stream of the machine.
abbrev pub StoppedIsWhole : Type 0
StoppedIsWhole = (m : MachineState) (h : History) (taken : List ℕ) (l : LiveSeen) → IsSent m h taken [] l → IsSound m → phase_of h ≡ phases.Stopped → IsStream (taken ++ l.out.held) (now l)

-- What arrives of these bytes is the machine, where its RAM was to begin at the address where the machine's begins: a stream does not
-- say where RAM begins.
abbrev pub ArrivedIsSent : Type 0
ArrivedIsSent = (m : MachineState) (h : History) (taken : List ℕ) (l : LiveSeen) (r : ArrivalSeen) (arrived : Seen) → IsSent m h taken [] l → IsSound m → phase_of h ≡ phases.Stopped → HasCome r (taken ++ l.out.held) → awaited_base r ≡ live_base l → HasArrived r arrived
    → state_of arrived ≡ now l
