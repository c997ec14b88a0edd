-- Calls that need no byte of RAM, of a machine whose RAM is here or lent.
use Rattle.std.proofs.Common.{◌≡◌, ℕ, List, length, map, set, refl, ap}
use Rattle.guestmem.specs.Memory.{Memory}
use Rattle.machine.specs.Applied.{FailsOnlyUnsteady, IsApplied, marks_after}
use Rattle.machine.specs.Held.{IsHeld}
use Rattle.machine.specs.Known.{Between, Known, MayBe, Whatever}
use Rattle.machine.specs.Outcome.{outcome_of}
use Rattle.machine.specs.Rings.{AreRings, FitAll}
use Rattle.machine.specs.Seen.{DeviceSeen, Marks, state_of}
use Rattle.machine.specs.State.{DeviceState}
use Rattle.machine.specs.Step.{IsStep}
use Rattle.machine.specs.StepLaws.{Fits}
use Rattle.machine.specs.declared.any_ring.AnyRing.{AnyRing}
use Rattle.machine.specs.declared.event.Event.{Event}
use Rattle.machine.specs.declared.event.Event.TheVariants.{RegRead, RegWrite, MemRead, MemWrite, Step, Input, Resize, Drop, Disk}
use Rattle.machine.specs.declared.reply.Reply.{Reply}
use Rattle.machine.specs.declared.shape.Shape.{Shape}
use Rattle.machine.proofs.At.{IsAt, applied_quiet, held_step, map-set_same}
use Rattle.machine.proofs.Keeping.{rings_written}
use Rattle.machine.proofs.Known.{at_each, between_same, for_each}
use Rattle.machine.proofs.Quiet.{IsQuiet}

-- A machine as the code holds it, with this RAM.
abbrev pub IsKept : List Shape → List AnyRing → List DeviceSeen → Memory → Type 0
IsKept shapes rings ds m = IsHeld shapes (record { memory = m; devices = ds }) × AreRings rings m (length ds)

abbrev pub AreKept : Known → List Shape → List AnyRing → List DeviceSeen → Type 0
AreKept k shapes rings ds = Whatever k (λ m. IsKept shapes rings ds m)

pub kept_at : (k : Known) (shapes : List Shape) (rings : List AnyRing) (ds : List DeviceSeen) → AreKept k shapes rings ds → (m : Memory) → MayBe k m → IsKept shapes rings ds m
kept_at k shapes rings ds kept m may = at_each k (IsKept shapes rings ds) kept m may

pub held_at : (k : Known) (shapes : List Shape) (rings : List AnyRing) (ds : List DeviceSeen) → AreKept k shapes rings ds → (m : Memory) → MayBe k m → IsHeld shapes (record { memory = m; devices = ds })
held_at k shapes rings ds kept m may = (kept_at k shapes rings ds kept m may).0

-- What a device keeps of its disk.
pub record KeepsDisk (d new : DeviceSeen) : Type 0 where
  pub sectors : new.sectors ≡ d.sectors
  pub marks : new.marks ≡ d.marks
  pub calls : new.calls ≡ d.calls

pub keeps_disk : (d new : DeviceSeen) (state : DeviceState) → new ≡ record d { state = state } → KeepsDisk d new
keeps_disk d new state is = record { sectors = ap (λ (x : DeviceSeen). x.sectors) is; marks = ap (λ (x : DeviceSeen). x.marks) is; calls = ap (λ (x : DeviceSeen). x.calls) is }

-- An event that writes nothing fails no disk.
quiet_marks : (marks new : List Marks) (e : Event) (reply : Reply) → IsQuiet e → new ≡ marks → new ≡ marks_after marks e reply
quiet_marks marks new (RegRead dev off width) reply quiet is = is
quiet_marks marks new (RegWrite dev off width value) reply quiet is = is
quiet_marks marks new (MemRead addr len) reply quiet is = is
quiet_marks marks new (MemWrite addr bytes) reply quiet is = is
quiet_marks marks new (Step dev pick) reply quiet is = absurd quiet
quiet_marks marks new (Input dev bytes) reply quiet is = is
quiet_marks marks new (Resize dev cols rows) reply quiet is = is
quiet_marks marks new (Drop dev) reply quiet is = is
quiet_marks marks new (Disk dev pick given) reply quiet is = is

quiet_unsteady : (marks : List Marks) (e : Event) (reply : Reply) → IsQuiet e → FailsOnlyUnsteady marks e reply
quiet_unsteady marks (RegRead dev off width) reply quiet = tt
quiet_unsteady marks (RegWrite dev off width value) reply quiet = tt
quiet_unsteady marks (MemRead addr len) reply quiet = tt
quiet_unsteady marks (MemWrite addr bytes) reply quiet = tt
quiet_unsteady marks (Step dev pick) reply quiet = absurd quiet
quiet_unsteady marks (Input dev bytes) reply quiet = tt
quiet_unsteady marks (Resize dev cols rows) reply quiet = tt
quiet_unsteady marks (Drop dev) reply quiet = tt
quiet_unsteady marks (Disk dev pick given) reply quiet = tt

-- An event of a device that writes nothing.
module _ (k : Known) (shapes : List Shape) (rings : List AnyRing) (ds : List DeviceSeen) (kept : AreKept k shapes rings ds) (dev : ℕ) (d new : DeviceSeen) (at : IsAt ds dev d) (keeps : KeepsDisk d new) (e : Event) (reply : Reply) (quiet : IsQuiet e) (fits : Fits e)
    (step : (m : Memory) → IsStep (state_of (record { memory = m; devices = ds })) e (outcome_of reply) reply (state_of (record { memory = m; devices = set ds dev new }))) where
  pub applies : Between k k (λ m n. IsApplied (record { memory = m; devices = ds }) e reply (record { memory = n; devices = set ds dev new }))
  applies = between_same k (λ m n. IsApplied (record { memory = m; devices = ds }) e reply (record { memory = n; devices = set ds dev new })) (λ m may.
      applied_quiet shapes (record { memory = m; devices = ds }) (record { memory = m; devices = set ds dev new }) e reply quiet (held_at k shapes rings ds kept m may) fits (step m) refl
      (quiet_marks (map (λ (x : DeviceSeen). x.marks) ds) (map (λ (x : DeviceSeen). x.marks) (set ds dev new)) e reply quiet (map-set_same (λ (x : DeviceSeen). x.marks) ds dev d new at keeps.marks)) (quiet_unsteady (map (λ (x : DeviceSeen). x.marks) ds) e reply quiet))

  pub stays_kept : (all : List AnyRing) → length all ≡ length rings → ((m : Memory) → FitAll rings m → FitAll all m) → AreKept k shapes all (set ds dev new)
  stays_kept all long fit = for_each k (IsKept shapes all (set ds dev new)) (λ m may.
      let is = kept_at k shapes rings ds kept m may in
      (held_step shapes (record { memory = m; devices = ds }) (record { memory = m; devices = set ds dev new }) e (outcome_of reply) reply is.0 fits (step m), rings_written rings all m ds dev new is.1 long (fit m)))

  pub same_sectors : map (λ (x : DeviceSeen). x.sectors) (set ds dev new) ≡ map (λ (x : DeviceSeen). x.sectors) ds
  same_sectors = map-set_same (λ (x : DeviceSeen). x.sectors) ds dev d new at keeps.sectors

  pub same_calls : map (λ (x : DeviceSeen). x.calls) (set ds dev new) ≡ map (λ (x : DeviceSeen). x.calls) ds
  same_calls = map-set_same (λ (x : DeviceSeen). x.calls) ds dev d new at keeps.calls
