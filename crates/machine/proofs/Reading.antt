-- A sector that is read from a device's disk.
use Rattle.std.proofs.Common.{◌≡◌, ℕ, zero, suc, ◌<◌, List, [], ◌∷◌, length, map, set, Bool, true, false, Some, None, Result, Ok, Err, refl, ap, sym, ◌∙◌, arith}
use Rattle.std.specs.Prelude.{slice_get, IsTrue, OnErr, OnOk, is_ok, not}
use Rattle.std.proofs.lemmas.List.{map-set}
use Rattle.blk.specs.Sectors.{Sector, IsFetched, bytes_of, is_bad, is_failed, sector_in}
use Rattle.blk.specs.declared.sectors.Fetched.{Fetched}
use Rattle.blk.specs.declared.sectors.Fetched.TheVariants.{Bad, Failed, Read}
use Rattle.guestmem.specs.Item.{sector}
use Rattle.guestmem.specs.Memory.{Memory}
use Rattle.machine.specs.Applied.{IsGood, ReadsSector, Tells}
use Rattle.machine.specs.EffectLaws.{HasItem, sector_on, sectors_on}
use Rattle.machine.specs.Held.{IsHeld}
use Rattle.machine.specs.NextBad.{found_good}
use Rattle.machine.specs.Seen.{DeviceSeen, failed_if, state_of}
use Rattle.machine.specs.Shapes.{made_as}
use Rattle.machine.specs.declared.shape.Shape.{Shape}
use Rattle.machine.proofs.At.{IsAt, map-set_same}

-- Some memory, where it does not matter which.
abbrev pub no_memory : Memory
no_memory = record { bytes = []; versions = []; place = None }

-- The machine stays as it is.
pub same_state : (m : Memory) (ds : List DeviceSeen) (dev : ℕ) (d new : DeviceSeen) → IsAt ds dev d → new.state ≡ d.state → new.sectors ≡ d.sectors
    → state_of (record { memory = m; devices = set ds dev new }) ≡ state_of (record { memory = m; devices = ds })
same_state m ds dev d new at state sectors =
    let states : map (λ (x : DeviceSeen). x.state) (set ds dev new) ≡ map (λ (x : DeviceSeen). x.state) ds = map-set_same (λ (x : DeviceSeen). x.state) ds dev d new at state in
    let disks : map (λ (x : DeviceSeen). x.sectors) (set ds dev new) ≡ map (λ (x : DeviceSeen). x.sectors) ds = map-set_same (λ (x : DeviceSeen). x.sectors) ds dev d new at sectors in
    rw (states, disks) refl

pub held_so : (shapes : List Shape) (m : Memory) (ds : List DeviceSeen) (dev : ℕ) (d new : DeviceSeen) → IsAt ds dev d → new.state ≡ d.state → new.sectors ≡ d.sectors
    → IsHeld shapes (record { memory = m; devices = ds }) → IsHeld shapes (record { memory = m; devices = set ds dev new })
held_so shapes m ds dev d new at state sectors held = record {
  sound = rw (same_state m ds dev d new at state sectors) held.sound;
  shapes_are = held.shapes_are ∙ sym (map-set_same (λ (x : DeviceSeen). made_as x.state.kind) ds dev d new at (ap (λ s. made_as s.kind) state));
}

-- What is seen of the device itself.
seen_at : {A : Type 0} (f : DeviceSeen → A) (ds : List DeviceSeen) (dev : ℕ) (d : DeviceSeen) → IsAt ds dev d → slice_get (map f ds) dev ≡ Some (f d)
seen_at f [] dev d at = absurd (omega (arith, at.below))
seen_at f (x ∷ ds) zero d at = ap (λ (y : DeviceSeen). Some (f y)) (sym at.is)
seen_at f (x ∷ ds) (suc dev) d at = seen_at f ds dev d (record { below = omega (arith, at.below); is = at.is })

-- A sector that a machine has is one of a device that is there.
there_by : (ds : List DeviceSeen) (dev n : ℕ) (content : Sector) → sector_on (slice_get (map (λ (x : DeviceSeen). x.sectors) ds) dev) n ≡ Some content → dev < length ds
there_by [] dev n content is = cc
there_by (x ∷ ds) zero n content is = omega arith
there_by (x ∷ ds) (suc dev) n content is = omega (arith, there_by ds dev n content is)

pub device_there : (m : Memory) (ds : List DeviceSeen) (dev n : ℕ) → HasItem (state_of (record { memory = m; devices = ds })) (sector dev n) → dev < length ds
device_there m ds dev n has = there_by ds dev n has.0 has.1

below_by : (ss : List Sector) (n : ℕ) (content : Sector) → slice_get ss n ≡ Some content → n < length ss
below_by [] n content is = cc
below_by (s ∷ ss) zero content is = omega arith
below_by (s ∷ ss) (suc n) content is = omega (arith, below_by ss n content is)

pub sector_there : (m : Memory) (ds : List DeviceSeen) (dev n : ℕ) (d : DeviceSeen) → IsAt ds dev d → HasItem (state_of (record { memory = m; devices = ds })) (sector dev n) → n < length d.sectors
sector_there m ds dev n d at has =
    let disk : slice_get (map (λ (x : DeviceSeen). x.sectors) ds) dev ≡ Some d.sectors = seen_at (λ (x : DeviceSeen). x.sectors) ds dev d at in
    below_by d.sectors n has.0 (rw disk at has.1)

content_at : (ss : List Sector) (n : ℕ) (content : Sector) → slice_get ss n ≡ Some content → sector_in ss n ≡ content
content_at [] n content is = cc
content_at (s ∷ ss) zero content is = cc
content_at (s ∷ ss) (suc n) content is = content_at ss n content is

bad_is : (s : Sector) → is_bad s ≡ true → s ≡ None
bad_is None bad = refl
bad_is (Some bytes) bad = cc

good_is : (s : Sector) → is_bad s ≡ false → s ≡ Some (bytes_of s)
good_is None good = cc
good_is (Some bytes) good = refl

-- A read of a sector that is there.
pub record IsRead (m : Memory) (ds : List DeviceSeen) (dev n : ℕ) (d new : DeviceSeen) (bytes : List ℕ) (fetched : Fetched) : Type 0 where
  pub at : IsAt ds dev d
  pub there : HasItem (state_of (record { memory = m; devices = ds })) (sector dev n)
  pub state : new.state ≡ d.state
  pub sectors : new.sectors ≡ d.sectors
  pub marks : new.marks ≡ failed_if (is_failed fetched) d.marks
  pub unsteady : is_failed fetched ≡ true → d.marks.steady ≡ false
  pub flushed : new.is_flushed ≡ d.is_flushed
  pub is : IsFetched d.marks.honest (sector_in d.sectors n) bytes fetched

pub reads : {E : Type 0} (m : Memory) (ds : List DeviceSeen) (dev n : ℕ) (d new : DeviceSeen) (bytes : List ℕ) (fetched : Fetched) (result : Result Bool E) → IsRead m ds dev n d new bytes fetched → Tells fetched result
    → ReadsSector (record { memory = m; devices = ds }) dev n bytes result (record { memory = m; devices = set ds dev new })
reads m ds dev n d new bytes Read result read told =
    let disk : slice_get (map (λ (x : DeviceSeen). x.sectors) ds) dev ≡ Some d.sectors = seen_at (λ (x : DeviceSeen). x.sectors) ds dev d read.at in
    let here : slice_get (map (λ (x : DeviceSeen). x.marks) ds) dev ≡ Some d.marks = seen_at (λ (x : DeviceSeen). x.marks) ds dev d read.at in
    let there : slice_get d.sectors n ≡ Some read.there.0 = rw disk at read.there.1 in
    let content : sector_in d.sectors n ≡ read.there.0 = content_at d.sectors n read.there.0 there in
    let good : read.there.0 ≡ Some (bytes_of read.there.0) = good_is read.there.0 (rw content at read.is.0) in
    let same : IsTrue d.marks.honest → bytes ≡ bytes_of read.there.0 = rw content at read.is.1 in
    rw told (record {
      memory = refl;
      state = same_state m ds dev d new read.at read.state read.sectors;
      flushed = map-set_same (λ (x : DeviceSeen). x.is_flushed) ds dev d new read.at read.flushed;
      marks = map-set_same (λ (x : DeviceSeen). x.marks) ds dev d new read.at read.marks;
      failed = tt;
      unsteady = tt;
      good = tt;
      found = rw (here, disk) ((bytes_of read.there.0, there ∙ ap Some good), λ honest. there ∙ ap Some (good ∙ ap Some (sym (same honest))));
    })
reads m ds dev n d new bytes Bad result read told =
    let disk : slice_get (map (λ (x : DeviceSeen). x.sectors) ds) dev ≡ Some d.sectors = seen_at (λ (x : DeviceSeen). x.sectors) ds dev d read.at in
    let there : slice_get d.sectors n ≡ Some read.there.0 = rw disk at read.there.1 in
    let content : sector_in d.sectors n ≡ read.there.0 = content_at d.sectors n read.there.0 there in
    rw told (record {
      memory = refl;
      state = same_state m ds dev d new read.at read.state read.sectors;
      flushed = map-set_same (λ (x : DeviceSeen). x.is_flushed) ds dev d new read.at read.flushed;
      marks = map-set_same (λ (x : DeviceSeen). x.marks) ds dev d new read.at read.marks;
      failed = tt;
      unsteady = tt;
      good = tt;
      found = rw disk (there ∙ ap Some (bad_is read.there.0 (rw content at read.is)));
    })
reads m ds dev n d new bytes Failed result read (e, told) =
    let disk : slice_get (map (λ (x : DeviceSeen). x.sectors) ds) dev ≡ Some d.sectors = seen_at (λ (x : DeviceSeen). x.sectors) ds dev d read.at in
    let there : slice_get d.sectors n ≡ Some read.there.0 = rw disk at read.there.1 in
    let content : sector_in d.sectors n ≡ read.there.0 = content_at d.sectors n read.there.0 there in
    let good : read.there.0 ≡ Some (bytes_of read.there.0) = good_is read.there.0 (rw content at read.is) in
    let here : slice_get (map (λ (x : DeviceSeen). x.marks) ds) dev ≡ Some d.marks = seen_at (λ (x : DeviceSeen). x.marks) ds dev d read.at in
    rw told (record {
      memory = refl;
      state = same_state m ds dev d new read.at read.state read.sectors;
      flushed = map-set_same (λ (x : DeviceSeen). x.is_flushed) ds dev d new read.at read.flushed;
      marks = tt;
      failed = rw (map-set (λ (x : DeviceSeen). x.marks) ds dev new, here, read.marks) refl;
      unsteady = rw here (read.unsteady refl);
      good = rw disk (bytes_of read.there.0, there ∙ ap Some good);
      found = tt;
    })

-- A good sector is one that is there.
pub good_there : (m : Memory) (ds : List DeviceSeen) (dev n : ℕ) → IsGood (sector_on (sectors_on (state_of (record { memory = m; devices = ds })) dev) n) → HasItem (state_of (record { memory = m; devices = ds })) (sector dev n)
good_there m ds dev n (bytes, is) = (Some bytes, is)

pub not_bad : (m : Memory) (ds : List DeviceSeen) (dev n : ℕ) (d : DeviceSeen) → IsAt ds dev d → IsGood (sector_on (sectors_on (state_of (record { memory = m; devices = ds })) dev) n) → is_bad (sector_in d.sectors n) ≡ false
not_bad m ds dev n d at (bytes, is) =
    let disk : slice_get (map (λ (x : DeviceSeen). x.sectors) ds) dev ≡ Some d.sectors = seen_at (λ (x : DeviceSeen). x.sectors) ds dev d at in
    ap is_bad (content_at d.sectors n (Some bytes) (rw disk at is))

-- A read of a good sector is a read that finds it good.
pub record IsReadGood {T E : Type 0} (m : Memory) (ds : List DeviceSeen) (dev n : ℕ) (d new : DeviceSeen) (bytes : List ℕ) (result : Result T E) : Type 0 where
  pub at : IsAt ds dev d
  pub there : HasItem (state_of (record { memory = m; devices = ds })) (sector dev n)
  pub good : is_bad (sector_in d.sectors n) ≡ false
  pub state : new.state ≡ d.state
  pub sectors : new.sectors ≡ d.sectors
  pub marks : new.marks ≡ failed_if (not (is_ok result)) d.marks
  pub unsteady : OnErr result (d.marks.steady ≡ false)
  pub flushed : new.is_flushed ≡ d.is_flushed
  pub is : OnOk result (IsTrue d.marks.honest → bytes ≡ bytes_of (sector_in d.sectors n))

pub reads_good : {T E : Type 0} (m : Memory) (ds : List DeviceSeen) (dev n : ℕ) (d new : DeviceSeen) (bytes : List ℕ) (result : Result T E) → IsReadGood m ds dev n d new bytes result
    → ReadsSector (record { memory = m; devices = ds }) dev n bytes (found_good result) (record { memory = m; devices = set ds dev new })
reads_good {E = E} m ds dev n d new bytes (Ok done) read =
    reads {E = E} m ds dev n d new bytes Read (Ok true)
    (record { at = read.at; there = read.there; state = read.state; sectors = read.sectors; marks = read.marks; unsteady = λ e. cc; flushed = read.flushed; is = (read.good, read.is) }) refl
reads_good m ds dev n d new bytes (Err e) read =
    reads m ds dev n d new bytes Failed (Err e)
    (record { at = read.at; there = read.there; state = read.state; sectors = read.sectors; marks = read.marks; unsteady = λ e. read.unsteady; flushed = read.flushed; is = read.good }) (e, refl)
