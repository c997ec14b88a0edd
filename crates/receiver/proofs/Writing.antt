-- A sector that goes to its disk, and one that is marked as bad.
use Rattle.std.proofs.Common.{◌≡◌, ℕ, zero, suc, ◌+◌, ◌%◌, ◌^◌, ◌<◌, Bool, true, false, List, [], ◌∷◌, ◌++◌, length, get_or, Some, None, refl, sym, ap, subst, ◌∙◌, arith}
use Rattle.std.specs.Prelude.{IsTrue, set, Ok, Err}
use Rattle.std.proofs.lemmas.List.{get_or-map, length-map, map-set, set-get_or}
use Rattle.std.proofs.lemmas.Option.{slice_get-get_or}
use Rattle.blk.specs.Disk.{DiskState, Writes}
use Rattle.blk.specs.Sectors.{sectors_of}
use Rattle.blk.proofs.Marks.{set_bad, set_good}
use Rattle.machine.specs.First.{marks_in}
use Rattle.machine.specs.Seen.{Marks, failed_once, marks_at, or_no_marks}
use Rattle.wire.specs.Records.{HasSpelling, Record, sector, spelled_record}
use Rattle.receiver.specs.Disks.{AreKept, AreRefused, all_marks_in, sizes_of}
use Rattle.receiver.specs.Fed.{HasRead}
use Rattle.receiver.specs.Good.{devices_in}
use Rattle.receiver.specs.Spots.{IsSpotOf, disks_before}
use Rattle.receiver.specs.declared.intake.Intake.{Intake}
use Rattle.receiver.specs.declared.intake.Spot.{Spot}
use Rattle.receiver.specs.declared.recv_error.RecvError.TheVariants as errors
use Rattle.receiver.proofs.Sectors.{disk_below, marks_kept, marks_length, sizes_kept}
use Rattle.receiver.proofs.Steps.{more_sector}
use Rattle.receiver.specs.Opened.{Opened}

-- A disk among the disks, by its sizes.
pub size_told : {D : Type 0} (state : D → DiskState) (disks : List D) (k : ℕ) (x : D) (n : ℕ) → n < get_or (sizes_of state disks) k 0 → n < length (state (get_or disks k x)).sectors
size_told state [] k x n there = absurd (omega (arith, there))
size_told state (d ∷ disks) zero x n there = there
size_told state (d ∷ disks) (suc k) x n there = size_told state disks k x n there

pub disk_told : {D : Type 0} (state : D → DiskState) (disks : List D) (k n : ℕ) → n < get_or (sizes_of state disks) k 0 → k < length disks
disk_told state [] k n there = absurd (omega (arith, there))
disk_told state (d ∷ disks) zero n there = omega arith
disk_told state (d ∷ disks) (suc k) n there = let h = disk_told state disks k n there in omega (arith, h)

pub in_range : {A : Type 0} (xs : List A) (k : ℕ) (x d : A) → k < length xs → x ≡ get_or xs k x → x ≡ get_or xs k d
in_range [] k x d lt e = absurd (omega (arith, lt))
in_range (y ∷ xs) zero x d lt e = e
in_range (y ∷ xs) (suc k) x d lt e = in_range xs k x d (omega (arith, lt)) e

get_again : {A : Type 0} (xs : List A) (k : ℕ) (d : A) → get_or xs k (get_or xs k d) ≡ get_or xs k d
get_again [] k d = refl
get_again (x ∷ xs) zero d = refl
get_again (x ∷ xs) (suc k) d = get_again xs k d

same_marks : (a b : ℕ) (c d e f : Bool) → a ≡ b → c ≡ d → e ≡ f → (◌≡◌ {A = Marks} (record { failures = a; honest = c; steady = e }) (record { failures = b; honest = d; steady = f }))
same_marks a b c d e f p q r = rw (p, q, r) refl

not_steady : (b : Bool) → (IsTrue b → false ≡ true) → b ≡ false
not_steady true h = sym (h refl)
not_steady false h = refl

-- A write that failed.
pub write_failed : {T E : Type 0} (ds : List DiskState) (k n : ℕ) (b : List ℕ) (e : E) (d : DiskState) → k < length ds → Writes {T = T} (get_or ds k d) n b (Err e) d → AreRefused ds (set ds k d) errors.DiskFailed
write_failed ds k n b e d lt w =
    let old = get_or ds k d in
    let at : marks_at (all_marks_in ds) k ≡ marks_in old = ap or_no_marks (slice_get-get_or (all_marks_in ds) k (marks_in d) (omega (arith, lt, length-map ds marks_in))) ∙ get_or-map marks_in ds k d (marks_in d) lt in
    let now : marks_in d ≡ failed_once (marks_in old) = same_marks d.failures ((old.failures + 1) % 2 ^ 64) d.honest old.honest d.steady old.steady w.keeps.count w.keeps.honest w.keeps.steady in
    record {
      sizes = sizes_kept ds k d w.keeps.size;
      marks = record {
        disk = k;
        unsteady = ap (λ (m : Marks). m.steady) at ∙ not_steady old.steady w.keeps.never_fails;
        rose = map-set marks_in ds k d ∙ ap (set (all_marks_in ds) k) (now ∙ ap failed_once (sym at));
      };
    }

-- One that succeeded.
pub took_good : {T E : Type 0} (ds : List DiskState) (d : DiskState) (front : List ℕ) (opening : Opened) (before : List Record) (i j : Intake) (dev n : ℕ) (b : List ℕ) (spot : Spot) (u : T) → HasRead ds opening before i front → devices_in before ≡ 0
    → HasSpelling (sector dev n (Some b)) → IsSpotOf opening dev n spot → Writes {E = E} (get_or ds spot.disk d) n b (Ok u) d
    → j.bad.items ≡ set i.bad.items spot.disk (set (get_or i.bad.items spot.disk []) n false) → j.named ≡ set i.named spot.item true
    → j.ram.bytes ≡ i.ram.bytes → j.rounds ≡ i.rounds → j.terms ≡ i.terms → j.shapes.items ≡ i.shapes.items → j.devices.items ≡ i.devices.items → j.firsts.items ≡ i.firsts.items
    → AreKept ds (set ds spot.disk d) × HasRead (set ds spot.disk d) opening (before ++ sector dev n (Some b) ∷ []) j (front ++ spelled_record (sector dev n (Some b)))
took_good {E = E} ds d front opening before i j dev n b spot u h none spells at wrote bad named ram ends same_terms same_shapes same_devices same_firsts =
    let k = disks_before opening.shapes dev in
    let w : Writes {E = E} (get_or ds k d) n b (Ok u) d = rw at.disk at wrote in
    let low = disk_below opening.shapes ds dev n h.head.sound h.fits at.there in
    let long = marks_length ds i.bad.items k d h.written.marks low in
    let marks : marks_in d ≡ marks_in (get_or ds k d) = same_marks d.failures (get_or ds k d).failures d.honest (get_or ds k d).honest d.steady (get_or ds k d).steady w.keeps.count w.keeps.honest w.keeps.steady in
    rw at.disk (
      record { sizes = sizes_kept ds k d w.keeps.size; marks = marks_kept ds k d marks },
      more_sector ds d front opening before i j dev n (Some b) h none spells at.there marks w.keeps.size
          (λ honest. ap (λ ss. sectors_of ss (set (get_or i.bad.items k []) n false)) (w.set honest) ∙ set_good (get_or ds k d).sectors (get_or i.bad.items k []) n b long)
          (rw at.disk at bad) (rw at.item at named) ram ends same_terms same_shapes same_devices same_firsts,
    )

pub took_bad : (ds : List DiskState) (front : List ℕ) (opening : Opened) (before : List Record) (i j : Intake) (dev n : ℕ) (spot : Spot) → HasRead ds opening before i front → devices_in before ≡ 0
    → HasSpelling (sector dev n None) → IsSpotOf opening dev n spot
    → j.bad.items ≡ set i.bad.items spot.disk (set (get_or i.bad.items spot.disk []) n true) → j.named ≡ set i.named spot.item true
    → j.ram.bytes ≡ i.ram.bytes → j.rounds ≡ i.rounds → j.terms ≡ i.terms → j.shapes.items ≡ i.shapes.items → j.devices.items ≡ i.devices.items → j.firsts.items ≡ i.firsts.items
    → HasRead ds opening (before ++ sector dev n None ∷ []) j (front ++ spelled_record (sector dev n None))
took_bad ds front opening before i j dev n spot h none spells at bad named ram ends same_terms same_shapes same_devices same_firsts =
    let k = disks_before opening.shapes dev in
    let first : DiskState = record { sectors = []; failures = 0; honest = true; steady = true; is_flushed = true } in
    let d = get_or ds k first in
    let again : get_or ds k d ≡ d = get_again ds k first in
    let low = disk_below opening.shapes ds dev n h.head.sound h.fits at.there in
    let long = marks_length ds i.bad.items k d h.written.marks low in
    let same : set ds k d ≡ ds = set-get_or ds k first in
    subst (λ (x : List DiskState). HasRead x opening (before ++ sector dev n None ∷ []) j (front ++ spelled_record (sector dev n None))) same
    (more_sector ds d front opening before i j dev n None h none spells at.there (ap marks_in (sym again)) (ap (λ (x : DiskState). length x.sectors) (sym again))
    (λ honest. set_bad (get_or ds k d).sectors d.sectors (get_or i.bad.items k []) n long (ap (λ (x : DiskState). length x.sectors) (sym again)) (λ p other. ap (λ (x : DiskState). get_or x.sectors p []) (sym again)))
    (rw at.disk at bad) (rw at.item at named) ram ends same_terms same_shapes same_devices same_firsts)
