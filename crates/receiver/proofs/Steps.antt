-- One record more.
use Rattle.std.proofs.Common.{◌≡◌, ◌≢◌, ℕ, zero, suc, ◌+◌, ◌*◌, ◌^◌, ◌<◌, ◌≤◌, Bool, true, false, List, [], ◌∷◌, ◌++◌, Some, None, length, take, drop, get_or, replicate, refl, sym, ap, ◌∙◌, append_assoc, append-nil, arith}
use Rattle.std.specs.Prelude.{set, All, IsTrue}
use Rattle.std.proofs.lemmas.Bool.{ne_eqb}
use Rattle.std.proofs.lemmas.List.Elements.{All-get_or, All-from_get_or}
use Rattle.std.specs.List.{AllByRecursion}
use Rattle.std.proofs.lemmas.List.{length-append, length-replicate}
use Rattle.wire.specs.DeviceBody.{body, IsBodyOf, IsDeviceOf}
use Rattle.receiver.specs.Opened.{opened_header, Opened, opened_layout}
use Rattle.wire.specs.Records.{Record, page, sector, round_end, device, spelled_record, HasSpelling, IsOf, is_zero_page, page_record, zero_page}
use Rattle.wire.specs.Stream.{IsEntry, AreNumbered, rounds, texts, shapes_in, record_in}
use Rattle.guestmem.specs.Zeros.{are_zeros}
use Rattle.guestmem.specs.Item as items
use Rattle.guestmem.specs.Item.{Item}
use Rattle.blk.specs.Disk.{DiskState}
use Rattle.blk.specs.Sectors.{IsWhole, Sector, is_bad, sectors_of}
use Rattle.receiver.specs.Disks.{sizes_in}
use Rattle.receiver.specs.Spots.{disks_before}
use Rattle.receiver.specs.Taken.{AreTaken}
use Rattle.receiver.proofs.Sectors.{changed, disk_below, more_written, record_here, record_there, set_on, sizes_kept, written_sizes}
use Rattle.machine.specs.Shapes.{made_as}
use Rattle.machine.specs.First.{dealt_sectors, marks_in}
use Rattle.machine.specs.Layout.{IsItemIn, Layout, item_at, number_of, size_of}
use Rattle.machine.proofs.Numbering.{item_there, number_back, number_below}
use Rattle.machine.specs.Sound.{IsSoundDevice}
use Rattle.machine.specs.State.{DeviceState}
use Rattle.machine.specs.declared.shape.Shape.{Shape}
use Rattle.receiver.proofs.Takings.{Names, names_page, names_sector, names_zeros, put_page, taken_device, taken_item, taken_page, taken_round, rounds_page, rounds_round, rounds_sector, rounds_zeros, numbered_round}
use Rattle.wire.proofs.Whole.{texts-snoc, each-snoc, numbered_page, numbered_zeros}
use Rattle.wire.proofs.PageRecords.{as_page, as_zeros}
use Rattle.receiver.specs.Good.{AreGood, AreNamed, IsNextRecord, devices_in}
use Rattle.receiver.specs.Faults.{MayTag}
use Rattle.receiver.specs.Fed.{AreWritten, HasRead, device_records}
use Rattle.receiver.specs.declared.intake.Intake.{Intake}
use Rattle.receiver.specs.declared.intake.ReadTerms.{ReadTerms}

pub good-snoc : (opening : Opened) (acc rs : List Record) (r : Record) → AreGood opening acc rs → IsNextRecord opening (acc ++ rs) r → AreGood opening acc (rs ++ r ∷ [])
unfolding AreGood
good-snoc opening acc [] r h f = (rw (append-nil acc) at f, tt)
good-snoc opening acc (s ∷ rs) r h f =
    let same : acc ++ (s ∷ rs) ≡ (acc ++ s ∷ []) ++ rs = sym (append_assoc acc (s ∷ []) rs) in
    (h.0, good-snoc opening (acc ++ s ∷ []) rs r h.1 (rw same at f))

count_devices : (k : ℕ) (ds : List DeviceState) → devices_in (device_records k ds) ≡ length ds
unfolding devices_in device_records
count_devices k [] = refl
count_devices k (d ∷ ds) = let ih = count_devices (k + 1) ds in omega (arith, ih)

pub count_all : (v : ℕ) (l : Layout) (k : ℕ) (es : List Record) (ds : List DeviceState) → AllByRecursion (IsEntry v l) es → devices_in (es ++ device_records k ds) ≡ length ds
unfolding devices_in
count_all v l k [] ds h = count_devices k ds
count_all v l k (device d b ∷ es) ds h = absurd h.0.stands
count_all v l k (_ ∷ es) ds h = count_all v l k es ds h.1

pub devices_are : {ds : List DiskState} {front : List ℕ} {opening : Opened} {before : List Record} {i : Intake} → HasRead ds opening before i front → devices_in before ≡ length i.devices.items
devices_are {opening = opening} {before = before} {i = i} h = ap devices_in h.split ∙ count_all opening.version (opened_layout opening) 0 h.entries i.devices.items h.each

-- Behind no device all records are entries.
record AreEntries (v : ℕ) (l : Layout) (before : List Record) : Type 0 where
  each : AllByRecursion (IsEntry v l) before
  numbered : AreNumbered 1 before

no_devices : (entries before : List Record) (ds : List DeviceState) → before ≡ entries ++ device_records 0 ds → length ds ≡ 0 → before ≡ entries
unfolding device_records
no_devices entries before [] e n = e ∙ append-nil entries
no_devices entries before (d ∷ ds) e n = absurd (omega (arith, n))

are_entries : {ds : List DiskState} {front : List ℕ} {opening : Opened} {before : List Record} {i : Intake} → HasRead ds opening before i front → devices_in before ≡ 0 → AreEntries opening.version (opened_layout opening) before
are_entries {before = before} {i = i} h none =
    let same : before ≡ h.entries = no_devices h.entries before i.devices.items h.split (sym (devices_are h) ∙ none) in
    rw same (record { each = h.each; numbered = h.numbered })

texts_more : (front head : List ℕ) (before : List Record) (r : Record) → front ≡ head ++ texts before → front ++ spelled_record r ≡ head ++ texts (before ++ r ∷ [])
texts_more front head before r e = ap (λ (x : List ℕ). x ++ spelled_record r) e ∙ append_assoc head (texts before) (spelled_record r) ∙ ap (λ (x : List ℕ). head ++ x) (sym (texts-snoc before r))

no_records : (before : List Record) (ds : List DeviceState) → length ds ≡ 0 → before ≡ before ++ device_records 0 ds
unfolding device_records
no_records before [] n = sym (append-nil before)
no_records before (d ∷ ds) n = absurd (omega (arith, n))

-- What an intake has, and the disks.
record IsSame (i j : Intake) : Type 0 where
  terms : j.terms ≡ i.terms
  shapes : j.shapes.items ≡ i.shapes.items
  firsts : j.firsts.items ≡ i.firsts.items
  devices : j.devices.items ≡ i.devices.items

more_entry : (ds ds2 : List DiskState) (front : List ℕ) (opening : Opened) (before : List Record) (i j : Intake) (r : Record) (sectors : List (List Sector)) → HasRead ds opening before i front → devices_in before ≡ 0 → IsNextRecord opening before r → IsEntry opening.version (opened_layout opening) r
    → (AreNumbered 1 before → AreNumbered 1 (before ++ r ∷ [])) → j.rounds ≡ rounds (before ++ r ∷ [])
    → AreTaken opening.version j.ram.bytes (dealt_sectors opening.shapes sectors) j.named (opened_layout opening) (before ++ r ∷ []) → sizes_in ds2 ≡ sizes_in ds → AreWritten ds2 j.bad.items sectors → IsSame i j
    → HasRead ds2 opening (before ++ r ∷ []) j (front ++ spelled_record r)
more_entry ds ds2 front opening before i j r sectors h none follows entry numbers ends taken sizes written same =
    let are = are_entries h none in
    let count : length j.devices.items ≡ 0 = ap length same.devices ∙ sym (devices_are h) ∙ none in
    record {
      head = h.head;
      fits = sizes ∙ h.fits;
      suits = h.suits;
      within = h.within;
      good = good-snoc opening [] before r h.good follows;
      whole = texts_more front (opened_header opening) before r h.whole;
      version_is = ap (λ (x : ReadTerms). x.version) same.terms ∙ h.version_is;
      ram_is = ap (λ (x : ReadTerms). x.ram) same.terms ∙ h.ram_is;
      shapes_are = same.shapes ∙ h.shapes_are;
      firsts_are = same.firsts ∙ h.firsts_are;
      sectors = sectors;
      written = written;
      entries = before ++ r ∷ [];
      split = no_records (before ++ r ∷ []) j.devices.items count;
      each = each-snoc opening.version (opened_layout opening) before r are.each entry;
      numbered = numbers are.numbered;
      rounds_are = ends;
      taken = taken;
      devices_are = rw same.devices h.devices_are;
      sound = rw same.devices h.sound;
      has = rw same.devices h.has;
    }

more_page_as : (ds : List DiskState) (front : List ℕ) (opening : Opened) (before : List Record) (i j : Intake) (n : ℕ) (b : List ℕ) (r : Record) → HasRead ds opening before i front → devices_in before ≡ 0
    → (n < opening.pages → IsNextRecord opening before r) → (n < opening.pages → IsEntry opening.version (opened_layout opening) r) → (AreNumbered 1 before → AreNumbered 1 (before ++ r ∷ [])) → rounds (before ++ r ∷ []) ≡ rounds before
    → Names r (items.page n) → page_record opening.version n b ≡ r → length b ≡ 4096
    → 4096 * n + 4096 ≤ length i.ram.bytes → j.ram.bytes ≡ put_page i.ram.bytes n b → j.named ≡ set i.named n true → j.rounds ≡ i.rounds → j.terms ≡ i.terms → j.shapes.items ≡ i.shapes.items → j.devices.items ≡ i.devices.items → j.firsts.items ≡ i.firsts.items → j.bad.items ≡ i.bad.items
    → HasRead ds opening (before ++ r ∷ []) j (front ++ spelled_record r)
more_page_as ds front opening before i j n b r h none follows entry numbers counts names is long le ram named ends same_terms same_shapes same_devices same_firsts same_bad =
    let low : n < opening.pages = omega (arith, le, h.taken.ram_size) in
    more_entry ds ds front opening before i j r h.sectors h none (follows low) (entry low)
    numbers (ends ∙ h.rounds_are ∙ sym counts)
    (rw (ram, named) (taken_page opening.version i.ram.bytes b (dealt_sectors opening.shapes h.sectors) i.named (opened_layout opening) n before r h.taken low le long names is)) refl (rw same_bad h.written)
    (record { terms = same_terms; shapes = same_shapes; firsts = same_firsts; devices = same_devices })

pub more_page : (ds : List DiskState) (front : List ℕ) (opening : Opened) (before : List Record) (i j : Intake) (n : ℕ) (b : List ℕ) → HasRead ds opening before i front → devices_in before ≡ 0 → HasSpelling (page n b) → IsOf opening.version (page n b)
    → 4096 * n + 4096 ≤ length i.ram.bytes → j.ram.bytes ≡ put_page i.ram.bytes n b → j.named ≡ set i.named n true → j.rounds ≡ i.rounds → j.terms ≡ i.terms → j.shapes.items ≡ i.shapes.items → j.devices.items ≡ i.devices.items → j.firsts.items ≡ i.firsts.items → j.bad.items ≡ i.bad.items
    → HasRead ds opening (before ++ page n b ∷ []) j (front ++ spelled_record (page n b))
more_page ds front opening before i j n b h none spells has =
    more_page_as ds front opening before i j n b (page n b) h none (λ low. record { spells = spells; has = has; may = (low, none) }) (λ low. record { spells = spells; has = has; stands = low })
    (numbered_page 1 before n b) (rounds_page before n b) (names_page n b) (as_page opening.version n b has) spells.1

-- A page of zeros.
zeros_long : (n : ℕ) → are_zeros (replicate n 0) ≡ true
unfolding are_zeros
zeros_long zero = refl
zeros_long (suc n) = zeros_long n

pub more_zeros : (ds : List DiskState) (front : List ℕ) (opening : Opened) (before : List Record) (i j : Intake) (n : ℕ) → HasRead ds opening before i front → devices_in before ≡ 0 → n < 2 ^ 32 → opening.version ≢ 1
    → 4096 * n + 4096 ≤ length i.ram.bytes → j.ram.bytes ≡ put_page i.ram.bytes n (replicate 4096 0) → j.named ≡ set i.named n true → j.rounds ≡ i.rounds → j.terms ≡ i.terms → j.shapes.items ≡ i.shapes.items → j.devices.items ≡ i.devices.items → j.firsts.items ≡ i.firsts.items → j.bad.items ≡ i.bad.items
    → HasRead ds opening (before ++ zero_page n ∷ []) j (front ++ spelled_record (zero_page n))
more_zeros ds front opening before i j n h none few later =
    let b : List ℕ = replicate 4096 0 in
    let zeros : is_zero_page opening.version b ≡ true = rw (ne_eqb opening.version 1 later) (zeros_long 4096) in
    more_page_as ds front opening before i j n b (zero_page n) h none (λ low. record { spells = few; has = later; may = (low, none) }) (λ low. record { spells = few; has = later; stands = low })
    (numbered_zeros 1 before n) (rounds_zeros before n) (names_zeros n) (as_zeros opening.version n b zeros) (length-replicate {A = ℕ} 4096 0)

pub more_round : (ds : List DiskState) (front : List ℕ) (opening : Opened) (before : List Record) (i j : Intake) (n : ℕ) → HasRead ds opening before i front → devices_in before ≡ 0 → n < 2 ^ 32 → n ≡ i.rounds + 1
    → j.ram.bytes ≡ i.ram.bytes → j.named ≡ i.named → j.rounds ≡ n → j.terms ≡ i.terms → j.shapes.items ≡ i.shapes.items → j.devices.items ≡ i.devices.items → j.firsts.items ≡ i.firsts.items → j.bad.items ≡ i.bad.items
    → HasRead ds opening (before ++ round_end n ∷ []) j (front ++ spelled_record (round_end n))
more_round ds front opening before i j n h none fits next ram named ends same_terms same_shapes same_devices same_firsts same_bad =
    let is : n ≡ rounds before + 1 = next ∙ ap (λ (x : ℕ). x + 1) h.rounds_are in
    more_entry ds ds front opening before i j (round_end n) h.sectors h none (record { spells = fits; has = tt; may = (is, none) }) (record { spells = fits; has = tt; stands = tt })
    (λ k. numbered_round 1 before n k (omega (arith, is))) (ends ∙ is ∙ sym (rounds_round before n))
    (rw (ram, named) (taken_round opening.version i.ram.bytes (dealt_sectors opening.shapes h.sectors) i.named (opened_layout opening) n before h.taken)) refl (rw same_bad h.written) (record { terms = same_terms; shapes = same_shapes; firsts = same_firsts; devices = same_devices })

-- A sector, whose disk keeps what it is.
numbered_sector : (k : ℕ) (es : List Record) (dev n : ℕ) (o : Sector) → AreNumbered k es → AreNumbered k (es ++ sector dev n o ∷ [])
numbered_sector k [] dev n o h = tt
numbered_sector k (round_end m ∷ es) dev n o h = (h.0, numbered_sector (k + 1) es dev n o h.1)
numbered_sector k (_ ∷ es) dev n o h = numbered_sector k es dev n o h

-- A sector that has an encoding is whole.
spelled_whole : (dev n : ℕ) (o : Sector) → HasSpelling (sector dev n o) → IsWhole o
spelled_whole dev n (Some b) s = record { size = s.2; bytes = s.3 }
spelled_whole dev n None s = tt

pub more_sector : (ds : List DiskState) (d : DiskState) (front : List ℕ) (opening : Opened) (before : List Record) (i j : Intake) (dev n : ℕ) (o : Sector) → HasRead ds opening before i front → devices_in before ≡ 0
    → HasSpelling (sector dev n o) → IsItemIn (opened_layout opening) (items.sector dev n)
    → marks_in d ≡ marks_in (get_or ds (disks_before opening.shapes dev) d) → length d.sectors ≡ length (get_or ds (disks_before opening.shapes dev) d).sectors
    → (IsTrue (get_or ds (disks_before opening.shapes dev) d).honest
    → sectors_of d.sectors (set (get_or i.bad.items (disks_before opening.shapes dev) []) n (is_bad o)) ≡ set (sectors_of (get_or ds (disks_before opening.shapes dev) d).sectors (get_or i.bad.items (disks_before opening.shapes dev) [])) n o)
    → j.bad.items ≡ set i.bad.items (disks_before opening.shapes dev) (set (get_or i.bad.items (disks_before opening.shapes dev) []) n (is_bad o)) → j.named ≡ set i.named (number_of (opened_layout opening) (items.sector dev n)) true
    → j.ram.bytes ≡ i.ram.bytes → j.rounds ≡ i.rounds → j.terms ≡ i.terms → j.shapes.items ≡ i.shapes.items → j.devices.items ≡ i.devices.items → j.firsts.items ≡ i.firsts.items
    → HasRead (set ds (disks_before opening.shapes dev) d) opening (before ++ sector dev n o ∷ []) j (front ++ spelled_record (sector dev n o))
more_sector ds d front opening before i j dev n o h none spells there marks long content bad named ram ends same_terms same_shapes same_devices same_firsts =
    let k = disks_before opening.shapes dev in
    let v = opening.version in
    let sectors = set_on h.sectors k n o in
    let held = dealt_sectors opening.shapes h.sectors in
    let change = changed opening.shapes h.sectors dev n o h.head.sound (written_sizes ds i.bad.items h.sectors h.written ∙ h.fits) there in
    let is : record_in v i.ram.bytes (dealt_sectors opening.shapes sectors) (items.sector dev n) ≡ sector dev n o = ap (λ x. record_in v i.ram.bytes x (items.sector dev n)) change.now ∙ record_here v i.ram.bytes held dev n o change.within in
    let others : (x : Item) → IsItemIn (opened_layout opening) x → x ≢ items.sector dev n → record_in v i.ram.bytes (dealt_sectors opening.shapes sectors) x ≡ record_in v i.ram.bytes held x =
    λ x has other. ap (λ y. record_in v i.ram.bytes y x) change.now ∙ record_there v i.ram.bytes held dev n o x other in
    more_entry ds (set ds k d) front opening before i j (sector dev n o) sectors h none (record { spells = spells; has = tt; may = (there, none) }) (record { spells = spells; has = tt; stands = there })
    (numbered_sector 1 before dev n o) (ends ∙ h.rounds_are ∙ sym (rounds_sector before dev n o))
    (rw (ram, named) (taken_item v i.ram.bytes i.ram.bytes held (dealt_sectors opening.shapes sectors) i.named (opened_layout opening) before (sector dev n o) (items.sector dev n) h.taken (names_sector dev n o) there refl is others))
    (sizes_kept ds k d long) (rw bad (more_written ds i.bad.items h.sectors k n d o h.written (disk_below opening.shapes ds dev n h.head.sound h.fits there) (spelled_whole dev n o spells) marks long content))
    (record { terms = same_terms; shapes = same_shapes; firsts = same_firsts; devices = same_devices })

-- A device.

records-snoc : (k : ℕ) (ds : List DeviceState) (d : DeviceState) → device_records k (ds ++ d ∷ []) ≡ device_records k ds ++ device (k + length ds) (body d) ∷ []
unfolding device_records
records-snoc k [] d = let n : k + 0 ≡ k = omega arith in rw n refl
records-snoc k (t ∷ ds) d =
    let n : k + length (t ∷ ds) ≡ k + 1 + length ds = omega arith in
    rw (n, records-snoc (k + 1) ds d) refl

rounds_device : (es : List Record) (n : ℕ) (b : List ℕ) → rounds (es ++ device n b ∷ []) ≡ rounds es
unfolding rounds
rounds_device [] n b = refl
rounds_device (round_end m ∷ es) n b = ap (λ (k : ℕ). k + 1) (rounds_device es n b)
rounds_device (_ ∷ es) n b = rounds_device es n b

-- What holds of each device and of one more.
all-snoc : (P : DeviceState → Type 0) (ds : List DeviceState) (d : DeviceState) → AllByRecursion P ds → P d → AllByRecursion P (ds ++ d ∷ [])
all-snoc P [] d h k = (k, tt)
all-snoc P (t ∷ ds) d h k = (h.0, all-snoc P ds d h.1 k)

shapes-snoc : (ds : List DeviceState) (d : DeviceState) → shapes_in (ds ++ d ∷ []) ≡ shapes_in ds ++ made_as d.kind ∷ []
shapes-snoc [] d = refl
shapes-snoc (t ∷ ds) d = ap (λ (x : List Shape). made_as t.kind ∷ x) (shapes-snoc ds d)

-- The shape that is next.
pub next_shape : (shapes : List Shape) (n : ℕ) (shape : Shape) (others : List Shape) → drop n shapes ≡ shape ∷ others → take (n + 1) shapes ≡ take n shapes ++ shape ∷ []
next_shape [] zero shape others e = absurd cc
next_shape [] (suc n) shape others e = absurd cc
next_shape (s ∷ shapes) zero shape others e = let same : s ≡ shape = cc in rw same refl
next_shape (s ∷ shapes) (suc n) shape others e =
    let m : suc n + 1 ≡ suc (n + 1) = omega arith in
    rw m (ap (λ (x : List Shape). s ∷ x) (next_shape shapes n shape others e))

pub more_device : (ds : List DiskState) (front : List ℕ) (opening : Opened) (others : List Shape) (shape : Shape) (before : List Record) (i j : Intake) (n : ℕ) (raw : List ℕ) (d : DeviceState) → HasRead ds opening before i front
    → AreNamed (opened_layout opening) before → HasSpelling (device n raw) → n ≡ devices_in before → drop n opening.shapes ≡ shape ∷ others → IsBodyOf opening.version shape opening.ram.base (4096 * opening.pages) raw d
    → j.ram.bytes ≡ i.ram.bytes → j.named ≡ i.named → j.rounds ≡ i.rounds → j.terms ≡ i.terms → j.shapes.items ≡ i.shapes.items → j.firsts.items ≡ i.firsts.items → j.bad.items ≡ i.bad.items → j.devices.items ≡ i.devices.items ++ d ∷ []
    → HasRead ds opening (before ++ device n raw ∷ []) j (front ++ spelled_record (device n raw))
more_device ds front opening others shape before i j n raw d h named spells next here is ram marks ends same_terms same_shapes same_firsts same_bad more =
    let count : n ≡ length i.devices.items = next ∙ devices_are h in
    let r = device n raw in
    let last : device (0 + length i.devices.items) (body d) ≡ r = rw (is.is) (ap (λ (k : ℕ). device k (body d)) (omega (arith, count))) in
    let split : before ++ r ∷ [] ≡ h.entries ++ device_records 0 (i.devices.items ++ d ∷ []) =
    ap (λ (x : List Record). x ++ r ∷ []) h.split ∙ append_assoc h.entries (device_records 0 i.devices.items) (r ∷ [])
    ∙ ap (λ (x : Record). h.entries ++ (device_records 0 i.devices.items ++ x ∷ [])) (sym last) ∙ ap (λ (x : List Record). h.entries ++ x) (sym (records-snoc 0 i.devices.items d)) in
    let size : length (i.devices.items ++ d ∷ []) ≡ n + 1 = omega (arith, length-append i.devices.items (d ∷ []), count) in
    let shown : shapes_in (i.devices.items ++ d ∷ []) ≡ take (n + 1) opening.shapes =
    shapes-snoc i.devices.items d ∙ ap (λ (x : List Shape). x ++ made_as d.kind ∷ []) (h.devices_are ∙ ap (λ (k : ℕ). take k opening.shapes) (sym count)) ∙ ap (λ (x : Shape). take n opening.shapes ++ x ∷ []) is.shape_is ∙ sym (next_shape opening.shapes n shape others here) in
    record {
      head = h.head;
      fits = h.fits;
      suits = h.suits;
      within = h.within;
      good = good-snoc opening [] before r h.good (record { spells = spells; has = tt; may = record { named = named; next = next; shape = shape; others = others; here = here; state = d; is = is } });
      whole = texts_more front (opened_header opening) before r h.whole;
      version_is = ap (λ (x : ReadTerms). x.version) same_terms ∙ h.version_is;
      ram_is = ap (λ (x : ReadTerms). x.ram) same_terms ∙ h.ram_is;
      shapes_are = same_shapes ∙ h.shapes_are;
      firsts_are = same_firsts ∙ h.firsts_are;
      sectors = h.sectors;
      written = rw same_bad h.written;
      entries = h.entries;
      split = rw more split;
      each = h.each;
      numbered = h.numbered;
      rounds_are = ends ∙ h.rounds_are ∙ sym (rounds_device before n raw);
      taken = rw (ram, marks) (taken_device opening.version i.ram.bytes (dealt_sectors opening.shapes h.sectors) i.named (opened_layout opening) n raw before h.taken);
      devices_are = rw more (shown ∙ ap (λ (k : ℕ). take k opening.shapes) (sym size));
      sound = rw more (all-snoc (IsSoundDevice opening.ram.base (4096 * opening.pages)) i.devices.items d h.sound is.sound);
      has = rw more (all-snoc (IsDeviceOf opening.version) i.devices.items d h.has is.has);
    }

-- What may stand next, by the intake.

pub tag_here : {ds : List DiskState} {front : List ℕ} {opening : Opened} {before : List Record} {i : Intake} (a b tag : ℕ) → HasRead ds opening before i front → a ≡ length i.shapes.items → b ≡ length i.devices.items → MayTag i.terms.version a b tag
    → MayTag opening.version (length opening.shapes) (devices_in before) tag
tag_here a b tag h e f m =
    let count = ap length h.shapes_are in
    let devices = devices_are h in
    record { least = m.least; most = m.most; early = λ low. omega (arith, f, devices, m.early low); missing = λ four. omega (arith, e, f, count, devices, m.missing four); since = λ six first. m.since six (h.version_is ∙ first) }

pub tag_there : {ds : List DiskState} {front : List ℕ} {opening : Opened} {before : List Record} {i : Intake} (a b tag : ℕ) → HasRead ds opening before i front → a ≡ length i.shapes.items → b ≡ length i.devices.items
    → MayTag opening.version (length opening.shapes) (devices_in before) tag → MayTag i.terms.version a b tag
tag_there a b tag h e f m =
    let count = ap length h.shapes_are in
    let devices = devices_are h in
    record { least = m.least; most = m.most; early = λ low. omega (arith, f, devices, m.early low); missing = λ four. omega (arith, e, f, count, devices, m.missing four); since = λ six first. m.since six (sym h.version_is ∙ first) }

pub named_all : {ds : List DiskState} {front : List ℕ} {opening : Opened} {before : List Record} {i : Intake} → HasRead ds opening before i front → All (λ (b : Bool). b ≡ true) i.named → AreNamed (opened_layout opening) before
named_all {opening = opening} {i = i} h all item has =
    let l = opened_layout opening in
    let low = number_below l item has in
    h.taken.marks item has ∙ All-get_or (λ (x : Bool). x ≡ true) i.named (number_of l item) false (omega (arith, low, h.taken.named_size)) all

pub all_named : {ds : List DiskState} {front : List ℕ} {opening : Opened} {before : List Record} {i : Intake} → HasRead ds opening before i front → AreNamed (opened_layout opening) before → All (λ (b : Bool). b ≡ true) i.named
all_named {opening = opening} {i = i} h named =
    let l = opened_layout opening in
    All-from_get_or (λ (b : Bool). b ≡ true) i.named false
    (λ n lt.
    let low : n < size_of l = omega (arith, lt, h.taken.named_size) in
    let item = item_at l n in
    let has = item_there l n low in
    let at : get_or i.named (number_of l item) false ≡ true = sym (h.taken.marks item has) ∙ named item has in
    rw (number_back l n low) at at)
