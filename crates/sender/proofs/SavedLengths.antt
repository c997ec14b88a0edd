-- How long the parts of a saved machine are.
use Rattle.std.proofs.Common.{◌≡◌, ℕ, zero, suc, ◌+◌, ◌-◌, ◌*◌, ◌<◌, ◌≤◌, List, [], ◌∷◌, ◌++◌, length, map, take, get_or, Some, None, refl, ap, sym, subst, ◌∙◌, arith}
use Rattle.std.specs.Prelude.{All, count_by, slice_get}
use Rattle.std.proofs.lemmas.List.{length-append, length-map, take_all}
use Rattle.std.proofs.lemmas.List.Elements.{All-map}
use Rattle.std.proofs.lemmas.Option.{get_or_from_slice_get, slice_get_within}
use Rattle.std.proofs.lemmas.List.Sums.{count_by-le-length, count_by_more_no, count_by_more_yes}
use Rattle.sha2.specs.Sha256.{sha256}
use Rattle.sha2.proofs.Facts256.{length-sha256}
use Rattle.guestmem.specs.Item as item
use Rattle.guestmem.specs.Page.{page_of}
use Rattle.blk.specs.Sectors.{AreWhole, IsWhole, Sector, is_bad}
use Rattle.machine.specs.Shapes.{made_as}
use Rattle.machine.specs.EffectLaws.{sector_on}
use Rattle.machine.specs.Layout.{pages_of}
use Rattle.machine.specs.Sound.{AreSoundDevices, IsSound, IsSoundDevice, IsSoundShape}
use Rattle.machine.specs.State.{DeviceState, MachineState, base_of}
use Rattle.machine.specs.Step.{disk_of, disk_or_none}
use Rattle.machine.proofs.At.{whole_disk}
use Rattle.wire.specs.Header.{header, opening_of}
use Rattle.wire.specs.Numbers.{digits}
use Rattle.wire.specs.DeviceBody.{body}
use Rattle.wire.specs.Records.{commit, device, page_record, sector, spelled_record}
use Rattle.wire.specs.Stream.{content_of, device_texts, record_of, records_below, saved, shapes_in, texts, whole, whole_in}
use Rattle.wire.proofs.Digits.{length-digits}
use Rattle.wire.proofs.Saving.{device_more}
use Rattle.sender.specs.Items.{disk_text, first_sector, front_text, records_from, sectors_text, size_on}
use Rattle.sender.proofs.Parts.{none_from, page_more, saved_in_parts, sector_more}

-- Records, one by one.
pub length_good : (d n : ℕ) (b : List ℕ) → length b ≡ 512 → length (spelled_record (sector d n (Some b))) ≡ 519
unfolding spelled_record
length_good d n b e = omega (arith, length-append (digits 4 n) (1 ∷ b), length-digits 4 n, e)

pub length_bad : (d n : ℕ) → length (spelled_record (sector d n None)) ≡ 7
unfolding spelled_record
length_bad d n = omega (arith, length-append (digits 4 n) (0 ∷ []), length-digits 4 n)

pub length_commit : (bytes : List ℕ) → length (spelled_record (commit (sha256 bytes))) ≡ 33
unfolding spelled_record
length_commit bytes = ap suc (length-sha256 bytes)

-- The pages.
pub one_page_long : (m : MachineState) (b : List ℕ) (n : ℕ) → n < pages_of m → b ≡ page_of m.ram n
    → length (texts (records_below m (n + 1))) ≡ length (texts (records_below m n)) + length (spelled_record (page_record 2 n b))
one_page_long m b n below is = sym (ap length (page_more [] m b n below is)) ∙ length-append (texts (records_below m n)) (spelled_record (page_record 2 n b))

-- The sectors of a disk: the record of a bad one is 512 bytes shorter.
content_in : (disk : List Sector) (n : ℕ) → content_of (slice_get disk n) ≡ get_or disk n None
content_in [] n = refl
content_in (s ∷ ss) zero = refl
content_in (s ∷ ss) (suc n) = content_in ss n

content_at : (disks : List (List Sector)) (dev n : ℕ) → content_of (sector_on (slice_get disks dev) n) ≡ get_or (disk_or_none (slice_get disks dev)) n None
content_at [] dev n = refl
content_at (d ∷ ds) zero n = content_in d n
content_at (d ∷ ds) (suc dev) n = content_at ds dev n

size_in : (disks : List (List Sector)) (dev : ℕ) → get_or (map length disks) dev 0 ≡ length (disk_or_none (slice_get disks dev))
size_in [] dev = refl
size_in (d ∷ ds) zero = refl
size_in (d ∷ ds) (suc dev) = size_in ds dev

one_more : (d : ℕ) (disk : List Sector) (n : ℕ) (s : Sector) → n < length disk → get_or disk n None ≡ s → IsWhole s
    → length (spelled_record (sector d n s)) + 512 * count_by is_bad (take (n + 1) disk) ≡ 519 + 512 * count_by is_bad (take n disk)
one_more d disk n None below e is = omega (arith, length_bad d n, count_by_more_yes is_bad disk n None below (ap is_bad e))
one_more d disk n (Some b) below e is = omega (arith, length_good d n b is.size, count_by_more_no is_bad disk n None below (ap is_bad e))

disk_long : (m : MachineState) (dev n : ℕ) → AreWhole (disk_of m dev) → n ≤ length (disk_of m dev)
    → length (texts (records_from m (first_sector m dev) n)) + 512 * count_by is_bad (take n (disk_of m dev)) ≡ 519 * n
disk_long m dev zero are few = omega (arith, ap length (none_from m (first_sector m dev)))
disk_long m dev (suc n) are few =
    let disk = disk_of m dev in
    let first = first_sector m dev in
    let below : n < length disk = omega (arith, few) in
    let content = content_at m.disks dev n in
    let more = sector_more m dev n (omega (arith, below, size_in m.disks dev)) in
    let long : length (texts (records_from m first (n + 1))) ≡ length (texts (records_from m first n)) + length (spelled_record (sector dev n (get_or disk n None))) =
    ap length more ∙ length-append (texts (records_from m first n)) (spelled_record (record_of m (item.sector dev n))) ∙ ap (λ (s : Sector). length (texts (records_from m first n)) + length (spelled_record (sector dev n s))) content in
    let one = one_more dev disk n (get_or disk n None) below refl (are n None below) in
    let rest = disk_long m dev n are (omega (arith, few)) in
    let next : n + 1 ≡ suc n = omega arith in
    subst (λ (k : ℕ). length (texts (records_from m first k)) + 512 * count_by is_bad (take k disk) ≡ 519 * k) next (omega (arith, long, one, rest))

-- What is counted of a disk: all its sectors, and the bad ones.
pub record IsCounted (m : MachineState) (dev sectors bad : ℕ) : Type 0 where
  pub sound : IsSound m
  pub all : sectors ≡ size_on m dev
  pub are_bad : bad ≡ count_by is_bad (disk_of m dev)

pub few_bad : (m : MachineState) (dev sectors bad : ℕ) → IsCounted m dev sectors bad → bad ≤ sectors
few_bad m dev sectors bad h = omega (arith, h.all, h.are_bad, size_in m.disks dev, count_by-le-length is_bad (disk_of m dev))

pub disk_told : (m : MachineState) (dev sectors bad : ℕ) → IsCounted m dev sectors bad → 519 * (sectors - bad) + 7 * bad ≡ length (disk_text m dev)
disk_told m dev sectors bad h =
    let disk = disk_of m dev in
    let size : size_on m dev ≡ length disk = size_in m.disks dev in
    let long = disk_long m dev (length disk) (whole_disk m.disks dev h.sound.sectors) (omega arith) in
    let all : take (length disk) disk ≡ disk = take_all (length disk) disk (omega arith) in
    let counted = ap (count_by is_bad) all in
    let text : length (disk_text m dev) ≡ length (texts (records_from m (first_sector m dev) (length disk))) = ap (λ (k : ℕ). length (texts (records_from m (first_sector m dev) k))) size in
    omega (arith, text, long, counted, h.all, h.are_bad, size, few_bad m dev sectors bad h)

-- The devices, one by one.
pub state_sound : (states : List DeviceState) (n : ℕ) (d : DeviceState) → (sound : AreSoundDevices states) → slice_get states n ≡ Some d → IsSoundDevice (base_of states) sound.0 d
state_sound states n d sound is = subst (IsSoundDevice (base_of states) sound.0) (get_or_from_slice_get states n d d is) (sound.1 n d (slice_get_within states n d is))

pub shapes_are_sound : (m : MachineState) → IsSound m → All IsSoundShape (shapes_in m.devices)
shapes_are_sound m sound = All-map IsSoundShape (λ (d : DeviceState). made_as d.kind) m.devices (λ k d below. (sound.devices k d below).shape)

pub one_state : (states : List DeviceState) (n : ℕ) (d : DeviceState) → slice_get states n ≡ Some d → n < length states
    → length (device_texts 0 (take (n + 1) states)) ≡ length (device_texts 0 (take n states)) + length (spelled_record (device n (body d)))
one_state states n d is below =
    let more = device_more [] states (shapes_in states) d n refl (omega (arith, below, length-map states (λ (x : DeviceState). made_as x.kind))) is in
    sym (ap length more) ∙ length-append (device_texts 0 (take n states)) (spelled_record (device n (body d)))

-- All parts.
pub whole_long : (m : MachineState) (head pages sectors devices : ℕ) → head ≡ length (header (opening_of (pages_of m) (shapes_in m.devices))) → pages ≡ length (texts (records_below m (pages_of m))) → sectors ≡ length (sectors_text m) → devices ≡ length (device_texts 0 m.devices)
    → head + (pages + sectors + devices) + 33 ≡ length (whole m)
unfolding whole_in
whole_long m head pages sectors devices heads named disks states =
    let top = header (opening_of (pages_of m) (shapes_in m.devices)) in
    let first = texts (records_below m (pages_of m)) in
    let rest = sectors_text m ++ device_texts 0 m.devices in
    omega (
      arith,
      heads,
      named,
      disks,
      states,
      length-append (saved m) (spelled_record (commit (sha256 (saved m)))),
      length_commit (saved m),
      ap length (saved_in_parts m),
      length-append (front_text m) rest,
      length-append (sectors_text m) (device_texts 0 m.devices),
      length-append top first,
    )
