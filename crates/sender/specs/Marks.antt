-- Pages that are named later than they were written: a machine that is being migrated, some of whose dirty pages are not in its set
-- yet.
use Rattle.std.specs.Prelude.{◌≡◌, ◌≢◌, ℕ, ◌++◌, List, [], ◌∷◌, true, Result, length}
use Rattle.blk.specs.declared.disk.DiskFault.{DiskFault}
use Rattle.region.specs.Address.{address}
use Rattle.region.specs.declared.region.Region.{Region}
use Rattle.guestmem.specs.Lent.{AreBelow, given_back, is_named}
use Rattle.guestmem.specs.Memory.{IsMemory}
use Rattle.machine.specs.Effect.{Effect}
use Rattle.machine.specs.Parked.{machine_marked}
use Rattle.machine.specs.State.{MachineState}
use Rattle.machine.specs.declared.event.Event.{Event}
use Rattle.machine.specs.declared.event.Event.TheVariants.{Step}
use Rattle.machine.specs.declared.reply.Reply.TheVariants.{DiskFailed}
use Rattle.wire.specs.Sinks.{Digested, SinkState, Takes}
use Rattle.sender.specs.Calls.{Serves}
use Rattle.sender.specs.Follows.{Relates}
use Rattle.sender.specs.History.{History, guest_events, text, then_came}
use Rattle.sender.specs.LiveState.{HasPlaces, LiveSeen}
use Rattle.sender.specs.Parked.{IsLiveParked, KeepsWord, LiveParkedSeen, live_back, live_base, page_writes, with_pages}
use Rattle.sender.specs.Taking.{untaken}
use Rattle.sender.specs.ParkedCalls.{AreLentCalls, AreSeen, LentCall, MayEndAll, bytes_among, events_among, missing_among, over_with_all, parked_base, sent_among}
use Rattle.sender.specs.Unsynced.{FailsLiveFlush, FlushesLiveDisk}
use Rattle.sender.specs.declared.event.LiveEvent.{LiveEvent}
use Rattle.sender.specs.declared.event.LiveEvent.TheVariants.{Guest, EndRound, Stop}
use Rattle.sender.specs.declared.event.LiveReply.{LiveReply}
use Rattle.sender.specs.declared.event.LiveReply.TheVariants as r
use Rattle.sender.specs.declared.phase.Phase.TheVariants as phases

-- The machine as if these pages were dirty too.
abbrev pub if_dirty : List ℕ → LiveSeen → LiveSeen
if_dirty pages l = record l { dirty = with_pages l.dirty pages }

-- Each of these pages is one of those.
abbrev pub AreAmong : List ℕ → List ℕ → Type 0
AreAmong these those = (n : ℕ) → is_named these n ≡ true → is_named those n ≡ true

-- The machine is behind its history by no more than these pages: if some of them were dirty too, all that is promised of a history
-- would hold of it.
pub record IsBehind (m : MachineState) (h : History) (out : SinkState) (pages : List ℕ) (l : LiveSeen) : Type 0 where
  pub late : List ℕ
  pub among : AreAmong late pages
  pub relates : Relates m h out (if_dirty late l)

-- Behind by no page: all of it holds.
abbrev pub BehindByNone : Type 0
BehindByNone = (m : MachineState) (h : History) (out : SinkState) (l : LiveSeen) → (IsBehind m h out [] l → Relates m h out l) × (Relates m h out l → IsBehind m h out [] l)

-- The history goes on by these events of the guest, nothing is written meanwhile, and the machine is behind by these pages.
pub record BehindGoesOn (m : MachineState) (h : History) (out : SinkState) (events : List Event) (pages : List ℕ) (new : LiveSeen) : Type 0 where
  pub history : History
  pub behind : IsBehind m history out pages new
  pub came : guest_events history ≡ guest_events h ++ events
  pub text_is : text m history ≡ text m h

-- The RAM is given back, and some of the pages that were written are named: the history goes on by the writes of all, and the machine is
-- behind by no page but those that are still to be named, of these and of those that it was behind by.
abbrev pub BackIsBehind : Type 0
BackIsBehind = (m : MachineState) (h : History) (out : SinkState) (pages : List ℕ) (l : LiveSeen) (p : LiveParkedSeen) (before after : Region) (written named rest : List ℕ) → IsBehind m h out pages l → HasPlaces l → IsMemory l.machine.memory
    → l.phase ≢ phases.Stopped → IsLiveParked l before p → KeepsWord before after (length p.machine.memory) written → AreAmong named written
    → AreAmong (pages ++ written) (named ++ rest) → BehindGoesOn m h out (page_writes (live_base l) written after.content) rest (live_back p (given_back after.content (address after) p.machine.memory named) named)

-- The same, and these bytes are written meanwhile.
pub record BehindSends (m : MachineState) (h : History) (out : SinkState) (events : List Event) (bytes pages : List ℕ) (new : LiveSeen) : Type 0 where
  pub history : History
  pub behind : IsBehind m history out pages new
  pub came : guest_events history ≡ guest_events h ++ events
  pub text_is : text m history ≡ text m h ++ bytes

-- As above, with calls that were made while the RAM was lent, and bytes that were taken before and meanwhile: the history goes on by the
-- events of these calls first. The pages that the guest had written before a step are to be named too.
abbrev pub LentIsBehind : Type 0
LentIsBehind = (m : MachineState) (h : History) (out : SinkState) (taken pages : List ℕ) (l : LiveSeen) (p next : LiveParkedSeen) (before after : Region) (calls : List LentCall) (written named rest : List ℕ) → IsBehind m h out pages (untaken taken l) → HasPlaces l
    → IsMemory l.machine.memory → l.phase ≢ phases.Stopped → IsLiveParked l before p → AreLentCalls p calls next → AreSeen before (length p.machine.memory) calls → MayEndAll pages calls → KeepsWord (over_with_all before calls) after (length p.machine.memory) written
    → AreAmong named written → AreAmong (missing_among pages calls ++ written) (named ++ rest)
    → BehindSends m h out (events_among calls ++ page_writes (parked_base next) written after.content) (sent_among calls) rest (untaken (taken ++ bytes_among calls) (live_back next (given_back after.content (address after) next.machine.memory named) named))

-- A round is ended, and a stop made, only of a machine that is behind by no page: these two send by the set of dirty items.
abbrev pub MayCall : List ℕ → LiveEvent → Type 0
MayCall (n ∷ pages) EndRound = ⊥
MayCall (n ∷ pages) Stop = ⊥
MayCall pages e = Unit {0}

-- The pages that a machine is behind by after a call with this reply. A begin makes every item due, so none is missing after it.
abbrev pub still_behind : LiveReply → List ℕ → List ℕ
still_behind (r.Begun k) pages = []
still_behind _ pages = pages

-- One more entry of the history, and the machine is behind by these pages.
pub record StaysBehind (m : MachineState) (h : History) (out : SinkState) (e : LiveEvent) (reply : LiveReply) (pages : List ℕ) (new : LiveSeen) : Type 0 where
  pub effect : Effect
  pub behind : IsBehind m (then_came h e reply effect) out pages new

-- Each call then adds to the history what it would add if no page were missing, and no more is missing after it.
abbrev pub CallsStayBehind : Type 0
CallsStayBehind = (m : MachineState) (h : History) (out : SinkState) (pages : List ℕ) (e : LiveEvent) (reply : LiveReply) (old new : LiveSeen) → IsBehind m h out pages old → HasPlaces old → MayCall pages e → Serves old e reply new
    → StaysBehind m h out e reply (still_behind reply pages) new

-- The same if part of the stream was taken out of the writer before.
abbrev pub TakenStaysBehind : Type 0
TakenStaysBehind = (m : MachineState) (h : History) (out : SinkState) (taken pages : List ℕ) (e : LiveEvent) (reply : LiveReply) (old new : LiveSeen) → IsBehind m h out pages (untaken taken old) → HasPlaces old → MayCall pages e → Serves old e reply new
    → StaysBehind m h out e reply (still_behind reply pages) (untaken taken new)

-- A taking too leaves it as it is: the writer then holds what was not taken, and its digest is of the same bytes.
abbrev pub TakingStaysBehind : Type 0
TakingStaysBehind = (m : MachineState) (h : History) (out writer : SinkState) (digest : Digested) (taken more pages : List ℕ) (l : LiveSeen) → IsBehind m h out pages (untaken taken l) → l.out.held ≡ more ++ writer.held → writer.failures ≡ l.out.failures
    → writer.honest ≡ l.out.honest → Takes l.digest [] digest → IsBehind m h out pages (untaken (taken ++ more) (record l { digest = digest; out = writer }))

-- So does a flush that fails in place of its step.
abbrev pub FailureStaysBehind : Type 0
FailureStaysBehind = (m : MachineState) (h : History) (out : SinkState) (pages : List ℕ) (dev pick : ℕ) (old new : LiveSeen) → IsBehind m h out pages old → HasPlaces old → old.phase ≢ phases.Stopped → FailsLiveFlush old dev pick new
    → StaysBehind m h out (Guest (Step dev pick)) (r.Guest DiskFailed) pages new

-- A flush of a disk beside all steps is no part of the history.
abbrev pub FlushStaysBehind : Type 0
FlushStaysBehind = (m : MachineState) (h : History) (out : SinkState) (pages : List ℕ) (dev : ℕ) (result : Result (Unit {0}) DiskFault) (old new : LiveSeen) → IsBehind m h out pages old → FlushesLiveDisk old dev result new → IsBehind m h out pages new

-- The machine after a mark of these pages: their versions have risen, they are dirty, and nothing else has changed.
abbrev pub live_marked : LiveSeen → List ℕ → LiveSeen
live_marked l pages = record l { machine = machine_marked l.machine pages; dirty = with_pages l.dirty pages }

-- Pages are marked: the history goes on by a write of each with the bytes that lie there, and the machine is behind by no page but
-- those that are still to be named: by none, once each page that it was behind by is.
abbrev pub MarksCatchUp : Type 0
MarksCatchUp = (m : MachineState) (h : History) (out : SinkState) (pages marks rest : List ℕ) (l : LiveSeen) → IsBehind m h out pages l → HasPlaces l → IsMemory l.machine.memory → l.phase ≢ phases.Stopped
    → AreBelow (length l.machine.memory.versions) marks → AreAmong pages (marks ++ rest) → BehindGoesOn m h out (page_writes (live_base l) marks l.machine.memory.bytes) rest (live_marked l marks)
