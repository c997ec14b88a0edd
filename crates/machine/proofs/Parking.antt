-- A machine whose RAM is lent, and one whose RAM is given back, are held as machines are.
use Rattle.std.proofs.Common.{◌≡◌, ◌*◌, ◌≤◌, ℕ, List, None, length, replicate, refl, sym, subst, map, arith, ◌∙◌}
use Rattle.std.proofs.lemmas.List.{length-map, length-replicate}
use Rattle.std.specs.Prelude.{All}
use Rattle.blk.proofs.Zeros.{zero_bytes}
use Rattle.guestmem.specs.Memory.{IsMemory, Memory}
use Rattle.guestmem.specs.declared.limits.TheConstants.{PAGES_GREATEST}
use Rattle.machine.specs.Held.{IsHeld}
use Rattle.machine.specs.Known.{IsSomeRam, Lent}
use Rattle.machine.specs.Parked.{WasHeld}
use Rattle.machine.specs.Rings.{FitAll}
use Rattle.machine.specs.Seen.{DeviceSeen, Seen}
use Rattle.machine.specs.declared.any_ring.AnyRing.{AnyRing}
use Rattle.machine.specs.Sound.{AreSoundDevices, IsSoundDevice}
use Rattle.machine.specs.declared.machine.TheConstants.{DEVICES_MAX}
use Rattle.machine.specs.declared.shape.Shape.{Shape}
use Rattle.machine.specs.State.{base_of}
use Rattle.machine.proofs.Over.{AreKept, IsKept}

pub was_held : (shapes : List Shape) (m : Seen) → IsHeld shapes m → IsMemory m.memory → WasHeld shapes (record { memory = m.memory.versions; devices = m.devices })
was_held shapes m held mem n is bytes count =
    let same : length n.bytes ≡ length m.memory.bytes = omega (arith, is.pages, mem.pages, count) in
    record {
      sound = record {
        whole_pages = omega (arith, is.pages);
        some_pages = omega (arith, is.pages, is.some);
        few_pages = omega (arith, is.pages, is.few);
        some_devices = held.sound.some_devices;
        few_devices = held.sound.few_devices;
        devices = subst (λ (k : ℕ). All (IsSoundDevice (base_of (map (λ d. d.state) m.devices)) k) (map (λ d. d.state) m.devices)) (sym same) held.sound.devices;
        bytes = bytes;
        disks = held.sound.disks;
        sectors = held.sound.sectors;
      };
      shapes_are = held.shapes_are;
    }

-- A machine has few devices.
pub few_held : (shapes : List Shape) (m : Seen) → IsHeld shapes m → length m.devices ≤ DEVICES_MAX
few_held shapes m held = rw length-map at held.sound.few_devices

pub some_held : (shapes : List Shape) (m : Seen) → IsHeld shapes m → 1 ≤ length m.devices
some_held shapes m held = rw length-map at held.sound.some_devices

pub sound_held : (shapes : List Shape) (m : Seen) → IsHeld shapes m → AreSoundDevices (map (λ d. d.state) m.devices)
sound_held shapes m held = (length m.memory.bytes, held.sound.devices)

-- A RAM that is lent may be one of zeros.
pub may_be_zeros : (versions : List ℕ) → 1 ≤ length versions → length versions ≤ PAGES_GREATEST → IsSomeRam (Lent versions)
may_be_zeros versions some few =
    let m : Memory = record { bytes = replicate (4096 * length versions) 0; versions = versions; place = None } in
    (m, (record { pages = length-replicate (4096 * length versions) 0; some = some; few = few }, zero_bytes (4096 * length versions), refl))

-- Where RAM is lent and the rings keep nothing.
pub parked_kept : (shapes : List Shape) (old new : List AnyRing) (m : Memory) (ds : List DeviceSeen) → IsKept shapes old ds m → IsMemory m → length new ≡ length old → ((x : Memory) → FitAll new x) → AreKept (Lent m.versions) shapes new ds
parked_kept shapes old new m ds kept mem long fit n is bytes count = (was_held shapes (record { memory = m; devices = ds }) kept.0 mem n is bytes count, record { each = long ∙ kept.1.each; fit = fit n })
