-- What contracts see of a machine that is being migrated, and whose RAM is lent.
use Rattle.std.specs.Prelude.{◌≡◌, ◌≢◌, ℕ, ◌+◌, ◌*◌, ◌/◌, ◌++◌, List, [], ◌∷◌, Bool, true, false, length, map, slice_index, slice_set}
use Rattle.region.specs.Address.{address}
use Rattle.region.specs.declared.region.Region.{Region}
use Rattle.guestmem.specs.Lent.{AreBelow, given_back, is_named}
use Rattle.guestmem.specs.Memory.{IsMemory, Memory}
use Rattle.guestmem.specs.Number.{IsBytes}
use Rattle.guestmem.specs.Page.{page_of}
use Rattle.guestmem.specs.declared.limits.TheConstants.{PAGE_SIZE}
use Rattle.machine.specs.Layout.{Layout}
use Rattle.machine.specs.Parked.{IsParked, ParkedSeen, back_with}
use Rattle.machine.specs.State.{MachineState, base_of}
use Rattle.machine.specs.declared.event.Event.{Event}
use Rattle.machine.specs.declared.event.Event.TheVariants.{MemWrite}
use Rattle.machine.specs.declared.reply.Reply.TheVariants.{Done}
use Rattle.wire.specs.Sinks.{SinkState}
use Rattle.sender.specs.Calls.{Serves}
use Rattle.sender.specs.Follows.{Relates}
use Rattle.sender.specs.History.{History, guest_events, text}
use Rattle.sender.specs.LiveState.{HasPlaces, LiveSeen, LiveSeenOver, now}
use Rattle.sender.specs.declared.event.LiveEvent.TheVariants.{Guest}
use Rattle.sender.specs.declared.event.LiveReply.TheVariants as r
use Rattle.sender.specs.declared.phase.Phase.TheVariants as phases

-- The machine whose RAM is lent, and all else of a machine that is being migrated.
abbrev pub LiveParkedSeen : Type 0
LiveParkedSeen = LiveSeenOver (List ℕ)

-- The layout of a machine whose RAM is lent.
abbrev pub parked_layout : ParkedSeen → Layout
parked_layout p = record { pages = length p.memory; disks = map length (map (λ d. d.sectors) p.devices) }

-- Its RAM was lent, and all else of it is kept.
pub record IsLiveParked (l : LiveSeen) (region : Region) (p : LiveParkedSeen) : Type 0 where
  pub parked : IsParked l.machine region p.machine
  pub rest : p ≡ record { machine = p.machine; phase = l.phase; due = l.due; dirty = l.dirty; digest = l.digest; out = l.out }

-- These pages are dirty too.
abbrev pub with_pages : List Bool → List ℕ → List Bool
with_pages dirty [] = dirty
with_pages dirty (n ∷ pages) = with_pages (slice_set dirty n true) pages

-- It has such a memory, and these pages are dirty.
abbrev pub live_back : LiveParkedSeen → Memory → List ℕ → LiveSeen
live_back p m pages = record { machine = back_with p.machine m; phase = p.phase; due = p.due; dirty = with_pages p.dirty pages; digest = p.digest; out = p.out }

-- The guest's writes of these pages, whole, one after another, where RAM begins at this base.
abbrev pub page_writes : ℕ → List ℕ → List ℕ → List Event
page_writes base [] bytes = []
page_writes base (n ∷ pages) bytes = MemWrite (base + PAGE_SIZE * n) (page_of bytes n) ∷ page_writes base pages bytes

-- The base of a machine that may be sent.
abbrev pub live_base : LiveSeen → ℕ
live_base l = base_of (now l).devices

-- These events of the guest were served, one after another, and done.
abbrev pub AreServed : LiveSeen → List Event → LiveSeen → Type 0
AreServed l [] next = next ≡ l
AreServed l (e ∷ es) next = (mid : LiveSeen) × Serves l (Guest e) (r.Guest Done) mid × AreServed mid es next

-- The caller keeps its word: it gives the region back that it was lent, in which it wrote into no other page than these.
pub record KeepsWord (before after : Region) (count : ℕ) (pages : List ℕ) : Type 0 where
  pub place : address after ≡ address before
  pub size : length after.content ≡ length before.content
  pub bytes : IsBytes after.content
  pub below : AreBelow count pages
  pub others : (a : ℕ) → is_named pages (a / PAGE_SIZE) ≡ false → slice_index after.content a ≡ slice_index before.content a

-- Where the caller keeps its word, the machine is as if the guest had written these pages by calls of it.
abbrev pub LiveBackIsServed : Type 0
LiveBackIsServed = (l : LiveSeen) (p : LiveParkedSeen) (before after : Region) (pages : List ℕ) → HasPlaces l → IsMemory l.machine.memory → l.phase ≢ phases.Stopped → IsLiveParked l before p → KeepsWord before after (length p.machine.memory) pages
    → AreServed l (page_writes (live_base l) pages after.content) (live_back p (given_back after.content (address after) p.machine.memory pages) pages)

-- The history goes on by these events of the guest, and nothing is written meanwhile.
pub record BackGoesOn (m : MachineState) (h : History) (out : SinkState) (events : List Event) (new : LiveSeen) : Type 0 where
  pub history : History
  pub relates : Relates m history out new
  pub came : guest_events history ≡ guest_events h ++ events
  pub text_is : text m history ≡ text m h

-- So its history goes on by these writes, and all that is promised of a history holds of it.
abbrev pub LiveBackFollows : Type 0
LiveBackFollows = (m : MachineState) (h : History) (out : SinkState) (l : LiveSeen) (p : LiveParkedSeen) (before after : Region) (pages : List ℕ) → Relates m h out l → HasPlaces l → IsMemory l.machine.memory → l.phase ≢ phases.Stopped
    → IsLiveParked l before p → KeepsWord before after (length p.machine.memory) pages
    → BackGoesOn m h out (page_writes (live_base l) pages after.content) (live_back p (given_back after.content (address after) p.machine.memory pages) pages)
