-- The version in which a machine is sent: that there is it, that it has the machine's devices, and that its records are those of version 2.
use Rattle.std.proofs.Common.{◌≡◌, ◌≢◌, ℕ, Bool, true, false, cond, List, [], ◌∷◌, refl, arith}
use Rattle.std.specs.Prelude.{◌↔◌}
use Rattle.std.specs.List.{AllByRecursion, list_any}
use Rattle.std.proofs.lemmas.Bool.{ne_eqb}
use Rattle.blk.specs.Sectors.{Sector}
use Rattle.guestmem.specs.Item as items
use Rattle.guestmem.specs.Item.{Item}
use Rattle.machine.specs.Layout.{Layout}
use Rattle.machine.specs.State.{DeviceState}
use Rattle.machine.specs.declared.shape.Shape.{Shape}
use Rattle.wire.specs.Header.{IsVersion, is_late, version_of}
use Rattle.wire.specs.Records.{Record, page, sector, round_end, device, commit, zero_page, IsOf}
use Rattle.wire.specs.Stream.{HasDevices, IsEntry, record_in, shapes_in}

abbrev sent : Bool → ℕ
sent late = cond late 3 2

known_by : (late : Bool) → IsVersion (sent late)
known_by true = record { least = omega arith; most = omega arith }
known_by false = record { least = omega arith; most = omega arith }

pub sent_known : (shapes : List Shape) → IsVersion (version_of shapes)
sent_known shapes = known_by (list_any is_late shapes)

later_by : (late : Bool) → sent late ≢ 1
later_by true e = omega (arith, e)
later_by false e = omega (arith, e)

sent_later : (shapes : List Shape) → version_of shapes ≢ 1
sent_later shapes = later_by (list_any is_late shapes)

third_by : (late : Bool) → (sent late ≡ 3) ↔ (late ≡ true)
third_by true = (λ e. refl, λ e. refl)
third_by false = (λ e. absurd (omega (arith, e)), λ e. absurd cc)

pub sent_devices : (ds : List DeviceState) → HasDevices (version_of (shapes_in ds)) ds
sent_devices ds = record {
  each = λ k d below first. absurd (sent_later (shapes_in ds) first);
  late = third_by (list_any is_late (shapes_in ds));
}

of_since : (version : ℕ) → version ≢ 1 → (r : Record) → IsOf 2 r → IsOf version r
of_since version since (page n bytes) h = rw (ne_eqb version 1 since) h
of_since version since (sector dev n content) h = tt
of_since version since (round_end n) h = tt
of_since version since (device number bytes) h = tt
of_since version since (commit digest) h = tt
of_since version since (zero_page n) h = since

pub sent_entry : (shapes : List Shape) (l : Layout) (r : Record) → IsEntry 2 l r → IsEntry (version_of shapes) l r
sent_entry shapes l r h = record { spells = h.spells; has = of_since (version_of shapes) (sent_later shapes) r h.has; stands = h.stands }

pub sent_entries : (shapes : List Shape) (l : Layout) (rs : List Record) → AllByRecursion (IsEntry 2 l) rs → AllByRecursion (IsEntry (version_of shapes) l) rs
sent_entries shapes l [] h = tt
sent_entries shapes l (r ∷ rs) h = (sent_entry shapes l r h.0, sent_entries shapes l rs h.1)

record_since : (version : ℕ) → version ≢ 1 → (ram : List ℕ) (disks : List (List Sector)) (i : Item) → record_in version ram disks i ≡ record_in 2 ram disks i
record_since version since ram disks (items.page n) = rw (ne_eqb version 1 since) refl
record_since version since ram disks (items.sector dev n) = refl

pub sent_record : (shapes : List Shape) (ram : List ℕ) (disks : List (List Sector)) (i : Item) → record_in (version_of shapes) ram disks i ≡ record_in 2 ram disks i
sent_record shapes ram disks i = record_since (version_of shapes) (sent_later shapes) ram disks i
