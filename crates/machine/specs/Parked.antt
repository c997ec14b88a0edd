-- What contracts see of a machine whose RAM is lent.
use Rattle.std.specs.Prelude.{◌≡◌, ℕ, ◌+◌, ◌*◌, ◌/◌, ◌≤◌, List, [], ◌∷◌, Bool, true, false, Option, Result, length, map, slice_get, slice_index}
use Rattle.region.specs.Address.{address}
use Rattle.region.specs.declared.region.Region.{Region}
use Rattle.guestmem.specs.Lent.{AreBelow, IsLent, given_back, is_named, marked}
use Rattle.guestmem.specs.declared.limits.TheConstants.{PAGE_SIZE, PAGES_GREATEST}
use Rattle.guestmem.specs.Memory.{IsMemory, Memory}
use Rattle.guestmem.specs.Number.{IsBytes}
use Rattle.guestmem.specs.Page.{page_of}
use Rattle.blk.specs.Sectors.{Sector}
use Rattle.blk.specs.declared.disk.DiskFault.{DiskFault}
use Rattle.machine.specs.Applied.{IsApplied, ReadsSector}
use Rattle.machine.specs.Effect.{items_of}
use Rattle.machine.specs.Held.{IsHeld}
use Rattle.machine.specs.Seen.{Seen, SeenOver, all_calls, state_of}
use Rattle.machine.specs.Sound.{IsSound}
use Rattle.machine.specs.State.{DeviceState, base_of}
use Rattle.machine.specs.Unsynced.{FailsFlush, FlushesDisk, flushes_if}
use Rattle.machine.specs.declared.event.Event.{Event}
use Rattle.machine.specs.declared.event.Event.TheVariants.{MemWrite}
use Rattle.machine.specs.declared.reply.Reply.{Reply}
use Rattle.machine.specs.declared.reply.Reply.TheVariants.{Done}
use Rattle.machine.specs.declared.shape.Shape.{Shape}

-- The versions of its pages, and its devices with their disks.
abbrev pub ParkedSeen : Type 0
ParkedSeen = SeenOver (List ℕ)

-- The machine that it is with such a memory.
abbrev pub back_with : ParkedSeen → Memory → Seen
back_with p m = record { memory = m; devices = p.devices }

-- The states of its devices, what the sectors of their disks hold, and how often their disks were called.
abbrev pub parked_states : ParkedSeen → List DeviceState
parked_states p = map (λ d. d.state) p.devices

abbrev pub parked_sectors : ParkedSeen → List (List Sector)
parked_sectors p = map (λ d. d.sectors) p.devices

abbrev pub parked_calls : ParkedSeen → List (Option ℕ)
parked_calls p = map (λ d. d.calls) p.devices

-- It is so whatever its RAM holds meanwhile, which has this many pages.
abbrev pub WhateverRam : ParkedSeen → (Memory → Type 0) → Type 0
WhateverRam p P = (m : Memory) → IsMemory m → IsBytes m.bytes → length m.versions ≡ length p.memory → P m

-- With any memory of this many pages it is a machine as the code holds it.
abbrev pub WasHeld : List Shape → ParkedSeen → Type 0
WasHeld shapes p = WhateverRam p (λ m. IsHeld shapes (back_with p m))

-- Its RAM was lent, and all else of it is kept.
pub record IsParked (m : Seen) (region : Region) (p : ParkedSeen) : Type 0 where
  pub lent : IsLent m.memory region p.memory
  pub devices_are : p.devices ≡ m.devices

-- The guest-physical address of a page's first byte.
abbrev pub page_address : Seen → ℕ → ℕ
page_address m n = base_of (state_of m).devices + PAGE_SIZE * n

-- The guest wrote each of these pages whole, one after another, with these bytes.
abbrev pub AreWritten : Seen → List ℕ → List ℕ → Seen → Type 0
AreWritten m [] bytes next = next ≡ m
AreWritten m (n ∷ pages) bytes next = (mid : Seen) × IsApplied m (MemWrite (page_address m n) (page_of bytes n)) Done mid × AreWritten mid pages bytes next

-- A caller that gives back the region that it was lent, in which it wrote into no other page than those that it names, has done
-- what the guest's writes of these pages do.
abbrev pub BackIsWritten : Type 0
BackIsWritten = (m : Seen) (p : ParkedSeen) (before after : Region) (pages : List ℕ) → IsSound (state_of m) → IsMemory m.memory → IsParked m before p
    → address after ≡ address before → length after.content ≡ length before.content → IsBytes after.content → AreBelow (length p.memory) pages
    → ((a : ℕ) → is_named pages (a / PAGE_SIZE) ≡ false → slice_index after.content a ≡ slice_index before.content a)
    → AreWritten m pages after.content (back_with p (given_back after.content (address after) p.memory pages))

-- Where it names other pages, the machine is this one but for the versions.
pub record IsWrittenBesideVersions (m : Seen) (pages : List ℕ) (bytes : List ℕ) (back : Seen) : Type 0 where
  pub all : Seen
  pub are_written : AreWritten m pages bytes all
  pub rest : back ≡ record all { memory = record all.memory { versions = back.memory.versions } }

abbrev pub UnnamedIsWritten : Type 0
UnnamedIsWritten = (m : Seen) (p : ParkedSeen) (before after : Region) (written named : List ℕ) → IsSound (state_of m) → IsMemory m.memory → IsParked m before p
    → address after ≡ address before → length after.content ≡ length before.content → IsBytes after.content → AreBelow (length p.memory) written
    → ((a : ℕ) → is_named written (a / PAGE_SIZE) ≡ false → slice_index after.content a ≡ slice_index before.content a)
    → IsWrittenBesideVersions m written after.content (back_with p (given_back after.content (address after) p.memory named))

-- The machine after a mark of these pages: their versions have risen, and nothing else has changed.
abbrev pub machine_marked : Seen → List ℕ → Seen
machine_marked m pages = record m { memory = marked m.memory pages }

-- A mark of pages is the guest's writes of these pages with the bytes that lie there.
abbrev pub MarkIsWritten : Type 0
MarkIsWritten = (m : Seen) (pages : List ℕ) → IsSound (state_of m) → IsMemory m.memory → AreBelow (length m.memory.versions) pages → AreWritten m pages m.memory.bytes (machine_marked m pages)

-- An event was applied that wrote into no page and no sector.
pub record IsAppliedQuietly (old : Seen) (e : Event) (reply : Reply) (new : Seen) : Type 0 where
  pub applied : IsApplied old e reply new
  pub untouched : items_of applied.effect ≡ []

-- An event that needs no RAM was applied to a machine whose RAM is lent: whatever the RAM holds meanwhile, it is that event of the
-- machine with this RAM, which is left as it is. It called no disk.
pub record IsAppliedParked (p : ParkedSeen) (e : Event) (reply : Reply) (next : ParkedSeen) : Type 0 where
  pub versions : next.memory ≡ p.memory
  pub sectors : parked_sectors next ≡ parked_sectors p
  pub calls : parked_calls next ≡ parked_calls p
  pub applied : WhateverRam p (λ m. IsAppliedQuietly (back_with p m) e reply (back_with next m))

-- A flush of a disk beside all steps, of a machine whose RAM is lent: whatever the RAM holds meanwhile, it is that flush of the machine
-- with this RAM.
pub record FlushesParked {T E : Type 0} (p : ParkedSeen) (dev : ℕ) (result : Result T E) (next : ParkedSeen) : Type 0 where
  pub versions : next.memory ≡ p.memory
  pub flushes : (m : Memory) → FlushesDisk (back_with p m) dev result (back_with next m)

-- A read of a sector, of a machine whose RAM is lent: whatever the RAM holds meanwhile, it is that read of the machine with this RAM.
pub record ReadsParked {E : Type 0} (p : ParkedSeen) (dev n : ℕ) (bytes : List ℕ) (result : Result Bool E) (next : ParkedSeen) : Type 0 where
  pub versions : next.memory ≡ p.memory
  pub reads : (m : Memory) → ReadsSector (back_with p m) dev n bytes result (back_with next m)

-- The step of this pick flushes a disk.
abbrev pub makes_flush_parked : ParkedSeen → ℕ → ℕ → Bool
makes_flush_parked p dev pick = flushes_if (slice_get (parked_states p) dev) pick

-- A step that flushes a disk was made as one whose disk failed, and no disk was called: whatever the RAM holds meanwhile, it is that step
-- of the machine with this RAM, which is left as it is.
pub record FailsParkedFlush (p : ParkedSeen) (dev pick : ℕ) (next : ParkedSeen) : Type 0 where
  pub versions : next.memory ≡ p.memory
  pub sectors : parked_sectors next ≡ parked_sectors p
  pub calls : parked_calls next ≡ parked_calls p
  pub failed : WhateverRam p (λ m. FailsFlush (back_with p m) dev pick (back_with next m))

-- If that step makes no flush, nothing changed.
abbrev pub FailsParkedFlushIf : Bool → ParkedSeen → ℕ → ℕ → ParkedSeen → Type 0
FailsParkedFlushIf true p dev pick next = FailsParkedFlush p dev pick next
FailsParkedFlushIf false p dev pick next = next ≡ p

-- It was done to the machine that was lent, before the caller wrote anything, and its RAM is lent as before.
pub record IsDoneLent (m : Seen) (region : Region) (next : ParkedSeen) (does : Seen → Type 0) : Type 0 where
  pub after : Seen
  pub done : does after
  pub parked : IsParked after region next
  pub memory : after.memory ≡ m.memory

-- The event, which called no disk.
pub record IsAppliedUncalled (old : Seen) (e : Event) (reply : Reply) (new : Seen) : Type 0 where
  pub quietly : IsAppliedQuietly old e reply new
  pub calls : all_calls new ≡ all_calls old

-- So each of these calls is one of the machine that was lent.
abbrev pub ParkedIsApplied : Type 0
ParkedIsApplied = (m : Seen) (p next : ParkedSeen) (region : Region) (e : Event) (reply : Reply) → IsMemory m.memory → IsBytes m.memory.bytes → IsParked m region p → IsAppliedParked p e reply next
    → IsDoneLent m region next (IsAppliedUncalled m e reply)

abbrev pub ParkedIsFlushed : Type 0
ParkedIsFlushed = (m : Seen) (p next : ParkedSeen) (region : Region) (dev : ℕ) (result : Result (Unit {0}) DiskFault) → IsParked m region p → FlushesParked p dev result next → IsDoneLent m region next (FlushesDisk m dev result)

abbrev pub ParkedIsRead : Type 0
ParkedIsRead = (m : Seen) (p next : ParkedSeen) (region : Region) (dev n : ℕ) (bytes : List ℕ) (result : Result Bool DiskFault) → IsParked m region p → ReadsParked p dev n bytes result next → IsDoneLent m region next (ReadsSector m dev n bytes result)

abbrev pub ParkedFlushFails : Type 0
ParkedFlushFails = (m : Seen) (p next : ParkedSeen) (region : Region) (dev pick : ℕ) → IsMemory m.memory → IsBytes m.memory.bytes → IsParked m region p → FailsParkedFlush p dev pick next → IsDoneLent m region next (FailsFlush m dev pick)

-- Such an event is also, with its reply, that event of the machine after the return, whatever the guest wrote meanwhile: made before the
-- return or after it, it leaves the same machine.
abbrev pub LentIsAfterReturn : Type 0
LentIsAfterReturn = (p next : ParkedSeen) (region : Region) (pages : List ℕ) (e : Event) (reply : Reply) → 1 ≤ length p.memory → length p.memory ≤ PAGES_GREATEST → length region.content ≡ PAGE_SIZE * length p.memory → IsBytes region.content → IsAppliedParked p e reply next
    → IsAppliedUncalled (back_with p (given_back region.content (address region) p.memory pages)) e reply (back_with next (given_back region.content (address region) next.memory pages))
