-- The whole stream of a sound machine is a stream of it.
use Rattle.std.proofs.Common.{◌≡◌, ℕ, zero, suc, ◌+◌, ◌*◌, ◌^◌, ◌<◌, ◌≤◌, List, [], ◌∷◌, ◌++◌, length, drop, get_or, map, inl, inr, Option, Some, None, refl, sym, ap, ◌∙◌, append_assoc, append-nil, arith}
use Rattle.std.specs.Prelude.{slice_get}
use Rattle.std.proofs.lemmas.List.{length-take, length-drop}
use Rattle.std.proofs.lemmas.Option.{get_or_from_slice_get, slice_get_within}
use Rattle.std.proofs.lemmas.List.Elements.{recursion_from_All}
use Rattle.std.specs.List.{All, AllByRecursion}
use Rattle.blk.specs.Sectors.{IsWhole, Sector}
use Rattle.guestmem.proofs.ByteLaws.{IsBytes-drop, IsBytes-take}
use Rattle.guestmem.specs.Item as items
use Rattle.guestmem.specs.Item.{Item}
use Rattle.guestmem.specs.Number.{IsBytes}
use Rattle.guestmem.specs.Page.{page_of}
use Rattle.machine.specs.EffectLaws.{sector_on}
use Rattle.machine.specs.Layout.{Layout, IsItemIn, layout_of, item_at, size_of}
use Rattle.machine.specs.Shapes.{sector_count, made_as}
use Rattle.machine.specs.Sound.{IsSound, IsSoundDevice, IsSoundShape}
use Rattle.machine.specs.State.{DeviceState, MachineState, base_of}
use Rattle.machine.specs.declared.shape.Shape.{Shape}
use Rattle.machine.specs.declared.shape.Shape.TheVariants.{Net, LongNet, Block, Outside, Console, Entropy}
use Rattle.machine.proofs.Numbering.{either_way, has_item, item_there}
use Rattle.wire.specs.Records.{Record, page, sector, round_end, device, commit, zero_page, is_zero_page, page_record, spelled_record, HasSpelling}
use Rattle.wire.specs.Stream.{HasDevices, IsStream, IsStreamBy, IsEntry, MayStand, AreNumbered, content_of, record_in, records_in, shapes_in, texts, whole, whole_in}
use Rattle.wire.specs.Header.{IsVersion, version_of}
use Rattle.wire.proofs.ItemRecords.{all_named}
use Rattle.wire.proofs.PageRecords.{as_page, as_zeros, has_page_record}
use Rattle.wire.proofs.SentVersions.{sent_devices, sent_known}

pub texts-snoc : (rs : List Record) (r : Record) → texts (rs ++ r ∷ []) ≡ texts rs ++ spelled_record r
unfolding texts
texts-snoc [] r = append-nil (spelled_record r)
texts-snoc (q ∷ rs) r = ap (λ (t : List ℕ). spelled_record q ++ t) (texts-snoc rs r) ∙ sym (append_assoc (spelled_record q) (texts rs) (spelled_record r))

pub each-snoc : (v : ℕ) (l : Layout) (rs : List Record) (r : Record) → AllByRecursion (IsEntry v l) rs → IsEntry v l r → AllByRecursion (IsEntry v l) (rs ++ r ∷ [])
each-snoc v l [] r h k = (k, tt)
each-snoc v l (q ∷ rs) r h k = (h.0, each-snoc v l rs r h.1 k)

-- The record of an item changes no number of a round.
pub numbered_page : (k : ℕ) (rs : List Record) (n : ℕ) (b : List ℕ) → AreNumbered k rs → AreNumbered k (rs ++ page n b ∷ [])
numbered_page k [] n b h = tt
numbered_page k (page i c ∷ rs) n b h = numbered_page k rs n b h
numbered_page k (sector d i o ∷ rs) n b h = numbered_page k rs n b h
numbered_page k (round_end i ∷ rs) n b h = (h.0, numbered_page (k + 1) rs n b h.1)
numbered_page k (device d c ∷ rs) n b h = numbered_page k rs n b h
numbered_page k (commit c ∷ rs) n b h = numbered_page k rs n b h
numbered_page k (zero_page i ∷ rs) n b h = numbered_page k rs n b h

pub numbered_zeros : (k : ℕ) (rs : List Record) (n : ℕ) → AreNumbered k rs → AreNumbered k (rs ++ zero_page n ∷ [])
numbered_zeros k [] n h = tt
numbered_zeros k (page i c ∷ rs) n h = numbered_zeros k rs n h
numbered_zeros k (sector d i o ∷ rs) n h = numbered_zeros k rs n h
numbered_zeros k (round_end i ∷ rs) n h = (h.0, numbered_zeros (k + 1) rs n h.1)
numbered_zeros k (device d c ∷ rs) n h = numbered_zeros k rs n h
numbered_zeros k (commit c ∷ rs) n h = numbered_zeros k rs n h
numbered_zeros k (zero_page i ∷ rs) n h = numbered_zeros k rs n h

pub numbered_page_record : (k : ℕ) (rs : List Record) (version n : ℕ) (b : List ℕ) → AreNumbered k rs → AreNumbered k (rs ++ page_record version n b ∷ [])
numbered_page_record k rs version n b h = elim (either_way (is_zero_page version b)) as (λ _. AreNumbered k (rs ++ page_record version n b ∷ [])) [
  | inl z ↦ rw (as_zeros version n b z) (numbered_zeros k rs n h)
  | inr f ↦ rw (as_page version n b f) (numbered_page k rs n b h)
]

numbered_sector : (k : ℕ) (rs : List Record) (dev n : ℕ) (content : Sector) → AreNumbered k rs → AreNumbered k (rs ++ sector dev n content ∷ [])
numbered_sector k [] dev n content h = tt
numbered_sector k (page i c ∷ rs) dev n content h = numbered_sector k rs dev n content h
numbered_sector k (sector d i o ∷ rs) dev n content h = numbered_sector k rs dev n content h
numbered_sector k (round_end i ∷ rs) dev n content h = (h.0, numbered_sector (k + 1) rs dev n content h.1)
numbered_sector k (device d c ∷ rs) dev n content h = numbered_sector k rs dev n content h
numbered_sector k (commit c ∷ rs) dev n content h = numbered_sector k rs dev n content h
numbered_sector k (zero_page i ∷ rs) dev n content h = numbered_sector k rs dev n content h

pub numbered_item : (v k : ℕ) (rs : List Record) (m : MachineState) (i : Item) → AreNumbered k rs → AreNumbered k (rs ++ record_in v m.ram m.disks i ∷ [])
numbered_item v k rs m (items.page n) h = numbered_page_record k rs v n (page_of m.ram n) h
numbered_item v k rs m (items.sector dev n) h = numbered_sector k rs dev n (content_of (sector_on (slice_get m.disks dev) n)) h

length_page : (ram : List ℕ) (n pages : ℕ) → length ram ≡ 4096 * pages → n < pages → length (page_of ram n) ≡ 4096
length_page ram n pages e lt = omega (arith, length-take 4096 (drop (4096 * n) ram), length-drop (4096 * n) ram)

-- A page record of a page that is there is an entry.
page_spells : (version n : ℕ) (b : List ℕ) → n < 2 ^ 32 → length b ≡ 4096 → IsBytes b → HasSpelling (page_record version n b)
page_spells version n b few long are = elim (either_way (is_zero_page version b)) as (λ _. HasSpelling (page_record version n b)) [
  | inl z ↦ rw (as_zeros version n b z) few
  | inr f ↦ rw (as_page version n b f) (few, long, are)
]

page_stands : (l : Layout) (version n : ℕ) (b : List ℕ) → n < l.pages → MayStand l (page_record version n b)
page_stands l version n b lt = elim (either_way (is_zero_page version b)) as (λ _. MayStand l (page_record version n b)) [
  | inl z ↦ rw (as_zeros version n b z) lt
  | inr f ↦ rw (as_page version n b f) lt
]

pub is_page_entry : (v : ℕ) (l : Layout) (ram : List ℕ) (n : ℕ) → length ram ≡ 4096 * l.pages → l.pages ≤ 4294967295 → IsBytes ram → n < l.pages → IsEntry v l (page_record v n (page_of ram n))
is_page_entry v l ram n e few are lt = record {
  spells = page_spells v n (page_of ram n) (omega (arith, lt, few)) (length_page ram n l.pages e lt) (IsBytes-take 4096 (drop (4096 * n) ram) (IsBytes-drop (4096 * n) ram are));
  has = has_page_record v n (page_of ram n);
  stands = page_stands l v n (page_of ram n) lt;
}

-- A sector that a sound machine has.
few_sectors : (shape : Shape) (n : ℕ) → IsSoundShape shape → n < sector_count shape → n < 2 ^ 32
few_sectors (Net mac) n good below = omega (arith, below)
few_sectors (LongNet mac longest) n good below = omega (arith, below)
few_sectors (Block sectors read_only id) n good below = omega (arith, good.few, below)
few_sectors (Outside sectors read_only id) n good below = omega (arith, below)
few_sectors Console n good below = omega (arith, below)
few_sectors Entropy n good below = omega (arith, below)

few_counts : (base ram_len : ℕ) (ds : List DeviceState) (dev n : ℕ) → AllByRecursion (IsSoundDevice base ram_len) ds → n < get_or (map (λ (d : DeviceState). sector_count (made_as d.kind)) ds) dev 0 → (dev < length ds) × (n < 2 ^ 32)
few_counts base ram_len [] dev n sound below = absurd (omega (arith, below))
few_counts base ram_len (d ∷ ds) zero n sound below = (omega arith, few_sectors (made_as d.kind) n sound.0.shape below)
few_counts base ram_len (d ∷ ds) (suc dev) n sound below = let h = few_counts base ram_len ds dev n sound.1 below in (omega (arith, h.0), h.1)

whole_sector_by : (disks : List (List Sector)) (found : Option (List Sector)) (dev n : ℕ) (content : Sector) → All (All IsWhole) disks → slice_get disks dev ≡ found → sector_on found n ≡ Some content → IsWhole content
whole_sector_by disks None dev n content all is there = cc
whole_sector_by disks (Some disk) dev n content all is there =
    let on : All IsWhole disk = rw (get_or_from_slice_get disks dev disk disk is) at (all dev disk (slice_get_within disks dev disk is)) in
    rw (get_or_from_slice_get disk n content content there) at (on n content (slice_get_within disk n content there))

sector_spells : (dev n : ℕ) (content : Sector) → dev < 256 → n < 2 ^ 32 → IsWhole content → HasSpelling (sector dev n content)
sector_spells dev n None low few whole = (low, few)
sector_spells dev n (Some bytes) low few whole = (low, few, whole.size, whole.bytes)

is_sector_entry : (v : ℕ) (m : MachineState) (dev n : ℕ) → IsSound m → IsItemIn (layout_of m) (items.sector dev n) → IsEntry v (layout_of m) (record_in v m.ram m.disks (items.sector dev n))
is_sector_entry v m dev n sound within =
    let few = few_counts (base_of m.devices) (length m.ram) m.devices dev n (recursion_from_All (IsSoundDevice (base_of m.devices) (length m.ram)) m.devices sound.devices) (rw sound.disks at within) in
    let has = has_item m (items.sector dev n) sound.whole_pages within in
    let whole = whole_sector_by m.disks (slice_get m.disks dev) dev n has.0 sound.sectors refl has.1 in
    rw has.1 (record { spells = sector_spells dev n has.0 (omega (arith, few.0, sound.few_devices)) few.1 whole; has = tt; stands = within })

pub is_item_entry : (v : ℕ) (m : MachineState) (i : Item) → IsSound m → IsItemIn (layout_of m) i → IsEntry v (layout_of m) (record_in v m.ram m.disks i)
is_item_entry v m (items.page n) sound within = is_page_entry v (layout_of m) m.ram n sound.whole_pages sound.few_pages sound.bytes within
is_item_entry v m (items.sector dev n) sound within = is_sector_entry v m dev n sound within

items_each : (v : ℕ) (m : MachineState) (n : ℕ) → IsSound m → n ≤ size_of (layout_of m) → AllByRecursion (IsEntry v (layout_of m)) (records_in v m n)
unfolding records_in
items_each v m zero sound few = tt
items_each v m (suc n) sound few =
    each-snoc v (layout_of m) (records_in v m n) (record_in v m.ram m.disks (item_at (layout_of m) n)) (items_each v m n sound (omega (arith, few)))
    (is_item_entry v m (item_at (layout_of m) n) sound (item_there (layout_of m) n (omega (arith, few))))

items_numbered : (v : ℕ) (m : MachineState) (n : ℕ) → AreNumbered 1 (records_in v m n)
unfolding records_in
items_numbered v m zero = tt
items_numbered v m (suc n) = numbered_item v 1 (records_in v m n) m (item_at (layout_of m) n) (items_numbered v m n)

pub each_version : (v : ℕ) (m : MachineState) → IsVersion v → IsSound m → HasDevices v m.devices → IsStreamBy v (whole_in v m) m (records_in v m (size_of (layout_of m)))
unfolding whole_in
each_version v m known sound has = record {
  known = known;
  each = items_each v m (size_of (layout_of m)) sound (omega arith);
  numbered = items_numbered v m (size_of (layout_of m));
  last = all_named v m;
  sound = sound;
  devices = has;
  whole = refl;
}

pub whole_is_stream : (m : MachineState) → IsSound m → IsStream (whole m) m
whole_is_stream m sound =
    let shapes = shapes_in m.devices in
    let version = version_of shapes in
    record {
      version = version;
      entries = records_in version m (size_of (layout_of m));
      by = each_version version m (sent_known shapes) sound (sent_devices m.devices);
    }
