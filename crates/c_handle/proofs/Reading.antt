-- Sectors that go out.
use Rattle.std.proofs.Common.{◌≡◌, ◌<◌, ℕ, zero, suc, Bool, true, false, nat_lt, List, [], ◌∷◌, refl, sym, ap, ◌∙◌, subst, arith, map, length, get_or, true≢false}
use Rattle.std.specs.Prelude.{Option, Some, None, Result, Ok, Err, not, slice_get, if◌then◌else◌}
use Rattle.std.proofs.lemmas.Bool.Decides.{nat_tests}
use Rattle.guestmem.specs.Item.{sector}
use Rattle.blk.specs.Sectors.{Sector}
use Rattle.machine.proofs.Numbering.{has_item}
use Rattle.machine.specs.Applied.{ReadsSector}
use Rattle.machine.specs.EffectLaws.{HasItem, sector_on, sectors_on}
use Rattle.machine.specs.Seen.{Marks, Seen, all_marks, marks_at, state_of}
use Rattle.machine.specs.Shapes.{disk_size_of, or_zero, sector_count, made_as}
use Rattle.machine.specs.Sound.{IsSound}
use Rattle.machine.specs.State.{DeviceState, MachineState}
use Rattle.c_handle.specs.Sectors.{ReadsOut, SectorTold, disk_refusal, sector_refusal, sector_refusal_of}
use Rattle.c_handle.specs.Kept.{Still}
use Rattle.c_handle.specs.Moving.{IsKept}
use Rattle.c_machine.specs.Plain.{ArePlain}
use Rattle.c_machine.proofs.Plain.{plain_at}

tested_below : (a b : ℕ) → nat_lt a b ≡ true → a < b
tested_below a b is = grind (arith, nat_tests)

one_test : (a : Bool) → ◌≡◌ {A = Option ℕ} (if not a then Some 7 else None) None → a ≡ true
one_test false is = absurd cc
one_test true is = refl

on_disk : (size : Option ℕ) (n : ℕ) → disk_refusal size n ≡ None → n < or_zero size
on_disk None n none = absurd cc
on_disk (Some sectors) n none = tested_below n sectors (one_test (nat_lt n sectors) none)

count_at : (ds : List DeviceState) (dev : ℕ) (d : DeviceState) → slice_get ds dev ≡ Some d → get_or (map (λ (x : DeviceState). sector_count (made_as x.kind)) ds) dev 0 ≡ sector_count (made_as d.kind)
count_at [] dev d is = absurd cc
count_at (x ∷ ds) zero d is = let same : x ≡ d = cc in ap (λ (y : DeviceState). sector_count (made_as y.kind)) same
count_at (x ∷ ds) (suc dev) d is = count_at ds dev d is

there_by : (o : Option DeviceState) (m : MachineState) (dev n : ℕ) → IsSound m → slice_get m.devices dev ≡ o → sector_refusal_of o n ≡ None → HasItem m (sector dev n)
there_by None m dev n sound is none = absurd cc
there_by (Some d) m dev n sound is none =
    let below = on_disk (disk_size_of (made_as d.kind)) n none in
    let size : get_or (map length m.disks) dev 0 ≡ sector_count (made_as d.kind) = ap (λ (l : List ℕ). get_or l dev 0) sound.disks ∙ count_at m.devices dev d is in
    has_item m (sector dev n) sound.whole_pages (omega (arith, size, below))

-- A sector that is there.
pub readable : (m : Seen) (dev n : ℕ) → IsSound (state_of m) → sector_refusal (Still m) dev n ≡ None → HasItem (state_of m) (sector dev n)
readable m dev n sound none = there_by (slice_get (state_of m).devices dev) (state_of m) dev n sound refl none

-- What is told of a sector that was read.
kept_so : {E : Type 0} (m next : Seen) (dev n : ℕ) (bytes : List ℕ) (good : Bool) → ReadsSector {E = E} m dev n bytes (Ok good) next → IsKept m next
kept_so m next dev n bytes good reads = record { memory = reads.memory; state = reads.state; same = λ plain. record { memory = reads.memory; state = reads.state; marks = reads.marks; flushed = reads.flushed } }

told_good : {E : Type 0} (m next : Seen) (dev n : ℕ) (bytes buf new_buf : List ℕ) → ReadsSector {E = E} m dev n bytes (Ok true) next → new_buf ≡ bytes → ReadsOut m dev n 0 buf new_buf next
told_good m next dev n bytes buf new_buf reads is = record {
  kept = kept_so m next dev n bytes true reads;
  told = λ plain.
      let honest : (marks_at (all_marks m) dev).honest ≡ true = ap (λ (k : Marks). k.honest) (plain_at m dev plain) in
      let found : sector_on (sectors_on (state_of m) dev) n ≡ Some (Some bytes) = reads.found.1 honest in
      subst (λ (o : Option Sector). SectorTold o 0 buf new_buf) (sym found) (refl, is);
}

told_bad : {E : Type 0} (m next : Seen) (dev n : ℕ) (bytes buf : List ℕ) → ReadsSector {E = E} m dev n bytes (Ok false) next → ReadsOut m dev n 68 buf buf next
told_bad m next dev n bytes buf reads = record {
  kept = kept_so m next dev n bytes false reads;
  told = λ plain. subst (λ (o : Option Sector). SectorTold o 68 buf buf) (sym reads.found) (refl, refl);
}

pub was_good : {E : Type 0} (m next : Seen) (dev n : ℕ) (bytes buf new_buf : List ℕ) (result : Result Bool E) (good : Bool) → result ≡ Ok good → good ≡ true → ReadsSector m dev n bytes result next
    → new_buf ≡ bytes → ReadsOut m dev n 0 buf new_buf next
was_good m next dev n bytes buf new_buf result good is so reads out = told_good m next dev n bytes buf new_buf (subst (λ (r : Result Bool _). ReadsSector m dev n bytes r next) (is ∙ ap Ok so) reads) out

pub was_bad : {E : Type 0} (m next : Seen) (dev n : ℕ) (bytes buf : List ℕ) (result : Result Bool E) (good : Bool) → result ≡ Ok good → good ≡ false → ReadsSector m dev n bytes result next
    → ReadsOut m dev n 68 buf buf next
was_bad m next dev n bytes buf result good is so reads = told_bad m next dev n bytes buf (subst (λ (r : Result Bool _). ReadsSector m dev n bytes r next) (is ∙ ap Ok so) reads)

-- No disk in memory fails.
pub never_failed : {E : Type 0} (m next : Seen) (dev n : ℕ) (bytes buf : List ℕ) (result : Result Bool E) (error : E) → result ≡ Err error → ReadsSector m dev n bytes result next → ReadsOut m dev n 69 buf buf next
never_failed m next dev n bytes buf result error is reads =
    let failed : ReadsSector m dev n bytes (Err error) next = subst (λ (r : Result Bool _). ReadsSector m dev n bytes r next) is reads in
    let steady : ArePlain m → ⊥ = λ plain. true≢false (sym (ap (λ (k : Marks). k.steady) (plain_at m dev plain)) ∙ failed.unsteady) in
    record {
      kept = record { memory = failed.memory; state = failed.state; same = λ plain. absurd (steady plain) };
      told = λ plain. absurd (steady plain);
    }
