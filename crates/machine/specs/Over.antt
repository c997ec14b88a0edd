-- What the calls do that need no byte of RAM: said once, of a machine whose RAM is here or lent. Where it is here, each is what that call of
-- the machine does; where it is lent, it is so whatever it holds meanwhile.
use Rattle.std.specs.Prelude.{◌≡◌, ℕ, Bool, List, Option, Some, Result, map, slice_get, if◌then◌else◌}
use Rattle.blk.specs.Sectors.{Sector}
use Rattle.machine.specs.Applied.{IsApplied, ReadsSector}
use Rattle.machine.specs.EffectLaws.{HasSectorsOf, sector_on}
use Rattle.machine.specs.Known.{Between, Known, Whatever}
use Rattle.machine.specs.Seen.{SeenOver, called_at, state_of, with_ram}
use Rattle.machine.specs.Sound.{IsSound}
use Rattle.machine.specs.Unsynced.{FailsFlushIf, FlushesDisk}
use Rattle.machine.specs.declared.event.Event.{Event}
use Rattle.machine.specs.declared.reply.Reply.{Reply}
use Rattle.machine.specs.declared.shape.Shape.{Shape}

-- What the sectors of its disks hold, and how often its disks were called.
abbrev pub sectors_in : {M : Type 0} → SeenOver M → List (List Sector)
sectors_in s = map (λ d. d.sectors) s.devices

abbrev pub calls_in : {M : Type 0} → SeenOver M → List (Option ℕ)
calls_in s = map (λ d. d.calls) s.devices

-- An event was applied.
abbrev pub AppliesOver : {M : Type 0} → (M → Known) → SeenOver M → Event → Reply → SeenOver M → Type 0
AppliesOver known old e reply new = Between (known old.memory) (known new.memory) (λ m n. IsApplied (with_ram old m) e reply (with_ram new n))

-- A disk was flushed beside all steps.
abbrev pub FlushesOver : {M T E : Type 0} → (M → Known) → SeenOver M → ℕ → Result T E → SeenOver M → Type 0
FlushesOver known old dev result new = Between (known old.memory) (known new.memory) (λ m n. FlushesDisk (with_ram old m) dev result (with_ram new n))

-- The disk of a device has this sector.
abbrev pub HasSector : {M : Type 0} → SeenOver M → ℕ → ℕ → Type 0
HasSector s dev n = (content : Sector) × (sector_on (slice_get (sectors_in s) dev) n ≡ Some content)

-- A sector of a disk was read.
abbrev pub ReadsOver : {M E : Type 0} → (M → Known) → SeenOver M → ℕ → ℕ → List ℕ → Result Bool E → SeenOver M → Type 0
ReadsOver known old dev n bytes result new = Between (known old.memory) (known new.memory) (λ m k. ReadsSector (with_ram old m) dev n bytes result (with_ram new k))

-- A step that flushes a disk was made as one whose disk failed, if it is one.
abbrev pub FailsFlushOver : {M : Type 0} → (M → Known) → Bool → SeenOver M → ℕ → ℕ → SeenOver M → Type 0
FailsFlushOver known flushed old dev pick new = Between (known old.memory) (known new.memory) (λ m n. FailsFlushIf flushed (with_ram old m) dev pick (with_ram new n))

-- The disk of the device of this number was called once, or not; no other disk was called.
abbrev pub CallsOver : {M : Type 0} → (ℕ → ℕ) → Bool → ℕ → SeenOver M → SeenOver M → Type 0
CallsOver called made dev old new = calls_in new ≡ (if made then called_at called (calls_in old) dev else calls_in old)

-- It is sound, and has the sectors that these shapes name.
abbrev pub IsSoundOver : {M : Type 0} → (M → Known) → SeenOver M → Type 0
IsSoundOver known s = Whatever (known s.memory) (λ m. IsSound (state_of (with_ram s m)))

abbrev pub HasSectorsOver : {M : Type 0} → (M → Known) → List Shape → SeenOver M → Type 0
HasSectorsOver known shapes s = Whatever (known s.memory) (λ m. HasSectorsOf shapes (state_of (with_ram s m)))
