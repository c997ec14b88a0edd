-- One stream has one machine.
use Rattle.std.proofs.Common.{◌≡◌, ℕ, zero, suc, ◌+◌, ◌*◌, ◌<◌, ◌≤◌, List, [], ◌∷◌, ◌++◌, length, map, take, drop, slice_get, Option, Some, None, refl, sym, ap, subst, ◌∙◌, append_assoc, append-nil, arith}
use Rattle.std.proofs.lemmas.List.{length-append, length-drop, length-map, length-take}
use Rattle.std.proofs.lemmas.List.Elements.{All-map, recursion_from_All}
use Rattle.std.proofs.Math.Seq.{take-length, take-add}
use Rattle.std.specs.List.{AllByRecursion, All}
use Rattle.sha2.specs.Sha256.{sha256}
use Rattle.wire.specs.DeviceBody.{body}
use Rattle.wire.specs.Header.{header, IsHeader, IsVersion, Begins, Opening}
use Rattle.wire.specs.Records.{Record, page, sector, round_end, device, commit, zero_page, HasSpelling, spelled_record}
use Rattle.blk.specs.Sectors.{Sector}
use Rattle.guestmem.specs.Item.{Item, page as page_item, sector as sector_item}
use Rattle.guestmem.specs.Page.{page_of}
use Rattle.machine.specs.EffectLaws.{sector_on}
use Rattle.machine.specs.Layout.{Layout, IsItemIn, layout_of, pages_of}
use Rattle.machine.specs.Shapes.{sector_count, made_as}
use Rattle.machine.specs.Sound.{IsSound, IsSoundDevice, IsSoundShape}
use Rattle.machine.proofs.Numbering.{in_layout}
use Rattle.machine.specs.State.{DeviceState, MachineState, base_of}
use Rattle.wire.specs.Stream.{HasDevices, IsStream, IsStreamBy, IsEntry, shapes_in, content_of, record_in, last_named, opening_in, rounds, texts, device_texts, before_commit}
use Rattle.machine.specs.declared.shape.Shape.{Shape}
use Rattle.wire.proofs.Bodies.{body_is_short, body_bytes, one_body}
use Rattle.wire.proofs.HeaderParts.{begins_once}
use Rattle.wire.proofs.PageRecords.{one_page}
use Rattle.wire.proofs.Spelling.{one_record}

pub cons_same : {A : Type 0} {x y : A} {xs ys : List A} → x ≡ y → xs ≡ ys → x ∷ xs ≡ y ∷ ys
cons_same p q = rw (p, q) refl

-- An entry has another tag than a device.
pub not_device : (v : ℕ) (l : Layout) (r : Record) (x y : List ℕ) → IsEntry v l r → spelled_record r ++ x ≡ 4 ∷ y → ⊥
unfolding spelled_record
not_device v l (page n b) x y h e = cc
not_device v l (sector d n (Some b)) x y h e = cc
not_device v l (sector d n None) x y h e = cc
not_device v l (round_end n) x y h e = cc
not_device v l (device d b) x y h e = h.stands
not_device v l (commit b) x y h e = h.stands
not_device v l (zero_page n) x y h e = cc

-- what begins as entries and goes on to a device has these entries first
pub record Leads (v : ℕ) (l : Layout) (es fs : List Record) (x y : List ℕ) : Type 0 where
  pub more : List Record
  pub all : fs ≡ es ++ more
  pub each : AllByRecursion (IsEntry v l) more
  pub left : x ≡ texts more ++ (4 ∷ y)

pub leads : (v w : ℕ) (k l : Layout) (es fs : List Record) (x y : List ℕ) → AllByRecursion (IsEntry v k) es → AllByRecursion (IsEntry w l) fs
    → texts es ++ x ≡ texts fs ++ (4 ∷ y) → Leads w l es fs x y
unfolding texts
leads v w k l [] fs x y h i e = record { more = fs; all = refl; each = i; left = e }
leads v w k l (r ∷ es) [] x y h i e = absurd (not_device v k r (texts es ++ x) y h.0 (sym (append_assoc (spelled_record r) (texts es) x) ∙ e))
leads v w k l (r ∷ es) (s ∷ fs) x y h i e =
    let f : spelled_record r ++ (texts es ++ x) ≡ spelled_record s ++ (texts fs ++ (4 ∷ y)) = sym (append_assoc (spelled_record r) (texts es) x) ∙ e ∙ append_assoc (spelled_record s) (texts fs) (4 ∷ y) in
    let o = one_record r s (texts es ++ x) (texts fs ++ (4 ∷ y)) h.0.spells i.0.spells f in
    let ih = leads v w k l es fs x y h.1 i.1 o.1 in
    record { more = ih.more; all = cons_same (sym o.0) ih.all; each = ih.each; left = ih.left }

pub none_more : (v : ℕ) (l : Layout) (more : List Record) (x y : List ℕ) → AllByRecursion (IsEntry v l) more → 4 ∷ x ≡ texts more ++ (4 ∷ y) → (more ≡ []) × (x ≡ y)
unfolding texts
none_more v l [] x y h e = (refl, cc)
none_more v l (r ∷ rs) x y h e = absurd (not_device v l r (texts rs ++ (4 ∷ y)) x h.0 (sym (append_assoc (spelled_record r) (texts rs) (4 ∷ y)) ∙ sym e))

pub body_spells : {base : ℕ} (ram_len number : ℕ) (d : DeviceState) → number < 256 → IsSoundDevice base ram_len d → HasSpelling (device number (body d))
body_spells ram_len number d low sound = (low, omega (arith, body_is_short ram_len d sound), body_bytes ram_len d sound)

-- What begins as the records of devices, and goes on as those of devices of which the first have the same shapes, has these
-- devices first.
pub record LeadsDevices (number : ℕ) (ss ts : List DeviceState) (x y : List ℕ) : Type 0 where
  pub more : List DeviceState
  pub all : ts ≡ ss ++ more
  pub left : x ≡ device_texts (number + length ss) more ++ y

shape_first : {s t : Shape} {ss ts : List Shape} → t ∷ ts ≡ s ∷ ss → (s ≡ t) × (ts ≡ ss)
shape_first e = (cc, cc)

bodies_alike : (i j : ℕ) (a b : List ℕ) → device i a ≡ device j b → a ≡ b
bodies_alike i j a b e = cc

first_device_alike : {base : ℕ} (ram_len number : ℕ) (s t : DeviceState) (x y : List ℕ) → number < 256 → made_as s.kind ≡ made_as t.kind → IsSoundDevice base ram_len s → IsSoundDevice base ram_len t
    → spelled_record (device number (body s)) ++ x ≡ spelled_record (device number (body t)) ++ y → (s ≡ t) × (x ≡ y)
first_device_alike ram_len number s t x y low kinds h k e =
    let o = one_record (device number (body s)) (device number (body t)) x y (body_spells ram_len number s low h) (body_spells ram_len number t low k) e in
    (one_body ram_len s t kinds h k (bodies_alike number number (body s) (body t) o.0), o.1)

one_more_led : (number : ℕ) (s t : DeviceState) (ss ts : List DeviceState) (x y : List ℕ) → s ≡ t → LeadsDevices (number + 1) ss ts x y → LeadsDevices number (s ∷ ss) (t ∷ ts) x y
one_more_led number s t ss ts x y same ih =
    let n : number + length (s ∷ ss) ≡ number + 1 + length ss = omega arith in
    record { more = ih.more; all = cons_same (sym same) ih.all; left = rw n ih.left }

pub devices_lead : (base ram_len number : ℕ) (ss ts : List DeviceState) (hs : List Shape) (x y : List ℕ) → number + length ts ≤ 256 → AllByRecursion (IsSoundDevice base ram_len) ss → AllByRecursion (IsSoundDevice base ram_len) ts
    → shapes_in ts ≡ shapes_in ss ++ hs → device_texts number ss ++ x ≡ device_texts number ts ++ y → LeadsDevices number ss ts x y
unfolding device_texts
devices_lead base ram_len number [] ts hs x y low h k shapes e = let n : number + 0 ≡ number = omega arith in record { more = ts; all = refl; left = rw n e }
devices_lead base ram_len number (s ∷ ss) [] hs x y low h k shapes e = absurd cc
devices_lead base ram_len number (s ∷ ss) (t ∷ ts) hs x y low h k shapes e =
    let o = first_device_alike ram_len number s t (device_texts (number + 1) ss ++ x) (device_texts (number + 1) ts ++ y) (omega (arith, low)) (shape_first shapes).0 h.0 k.0
    (sym (append_assoc (spelled_record (device number (body s))) (device_texts (number + 1) ss) x) ∙ e ∙ append_assoc (spelled_record (device number (body t))) (device_texts (number + 1) ts) y) in
    one_more_led number s t ss ts x y o.0 (devices_lead base ram_len (number + 1) ss ts hs x y (omega (arith, low)) h.1 k.1 (shape_first shapes).1 o.1)

pub length_shapes : (ss : List DeviceState) → length (shapes_in ss) ≡ length ss
length_shapes ss = simp length-map

pub pages_limits : (v : ℕ) (m : MachineState) → IsVersion v → IsSound m → HasDevices v m.devices → IsHeader (opening_in v (pages_of m) m.devices)
pages_limits v m known sound had = record {
  known = known;
  some_page = sound.some_pages;
  few_pages = sound.few_pages;
  some_device = omega (arith, length_shapes m.devices, sound.some_devices);
  few_devices = omega (arith, length_shapes m.devices, sound.few_devices);
  sound = All-map IsSoundShape (λ (d : DeviceState). made_as d.kind) m.devices (λ k d below. (sound.devices k d below).shape);
  has = had.late;
}

pub after_header : (v pages : ℕ) (entries : List Record) (ss : List DeviceState) (c : List ℕ) → before_commit v pages entries ss ++ c ≡ header (opening_in v pages ss) ++ (texts entries ++ (device_texts 0 ss ++ c))
after_header v pages entries ss c = simp append_assoc

pub stream_begins : {v : ℕ} {bytes : List ℕ} {m : MachineState} {entries : List Record} → IsStreamBy v bytes m entries
    → Begins bytes (opening_in v (pages_of m) m.devices) (texts entries ++ (device_texts 0 m.devices ++ spelled_record (commit (sha256 (before_commit v (pages_of m) entries m.devices)))))
stream_begins {v} {bytes} {m} {entries} h = record { good = pages_limits v m h.known h.sound h.devices; whole = h.whole ∙ after_header v (pages_of m) entries m.devices _ }

-- the devices begin with their tag
pub device_first : (ss : List DeviceState) (c : List ℕ) → 1 ≤ length ss → (t : List ℕ) × (device_texts 0 ss ++ c ≡ 4 ∷ t)
unfolding device_texts spelled_record
device_first [] c h = absurd (omega (arith, h))
device_first (s ∷ ss) c h = (_, refl)

pages_same : (p : ℕ) (a b : List ℕ) → ((n : ℕ) → n < p → page_of a n ≡ page_of b n) → take (4096 * p) a ≡ take (4096 * p) b
pages_same zero a b h = refl
pages_same (suc p) a b h =
    let e : 4096 * suc p ≡ 4096 * p + 4096 = omega arith in
    let ih = pages_same p a b (λ n lt. h n (omega (arith, lt))) in
    let here = h p (omega arith) in
    rw (e, take-add (4096 * p) 4096 a, take-add (4096 * p) 4096 b, ih, here) refl

some_same : {A : Type 0} {x y : A} {o : Option A} → o ≡ Some x → o ≡ Some y → x ≡ y
some_same e f = cc

all_taken : (a : List ℕ) (n : ℕ) → length a ≡ n → take n a ≡ a
all_taken a n e = rw (← e) (take-length a)

pub ram_same : (p : ℕ) (a b : List ℕ) → length a ≡ 4096 * p → length b ≡ 4096 * p → ((n : ℕ) → n < p → page_of a n ≡ page_of b n) → a ≡ b
ram_same p a b la lb h = sym (all_taken a (4096 * p) la) ∙ pages_same p a b h ∙ all_taken b (4096 * p) lb

pub none_from_length : {A : Type 0} (xs more : List A) (n : ℕ) → length (xs ++ more) ≡ length xs → more ≡ []
none_from_length xs [] n e = refl
none_from_length xs (y ∷ ys) n e = absurd (omega (arith, e, length-append xs (y ∷ ys)))

-- Two streams of the same bytes have the same version, pages, records and shapes, and go on alike with their devices.
pub record SameParts (m n : MachineState) (v w : ℕ) (es fs : List Record) (ca cb : List ℕ) : Type 0 where
  pub version : v ≡ w
  pub pages : pages_of m ≡ pages_of n
  pub entries : es ≡ fs
  pub shapes : shapes_in m.devices ≡ shapes_in n.devices
  pub rest : device_texts 0 m.devices ++ ca ≡ device_texts 0 n.devices ++ cb

-- what begins as entries and goes on to a device, in both cases, has the same entries and goes on alike
ends_none : (es fs : List Record) (u v x y : List ℕ) → u ≡ 4 ∷ x → v ≡ 4 ∷ y → (more : List Record) → fs ≡ es ++ more → (more ≡ []) × (x ≡ y) → (fs ≡ es) × (u ≡ v)
ends_none es fs u v x y eu ev more all none = (all ∙ ap (λ (z : List Record). es ++ z) none.0 ∙ append-nil es, eu ∙ ap (λ (z : List ℕ). 4 ∷ z) none.1 ∙ sym ev)

ends_led : (w : ℕ) (l : Layout) (es fs : List Record) (u v x y : List ℕ) → u ≡ 4 ∷ x → v ≡ 4 ∷ y → Leads w l es fs u y → (fs ≡ es) × (u ≡ v)
ends_led w l es fs u v x y eu ev led = ends_none es fs u v x y eu ev led.more led.all (none_more w l led.more x y led.each (sym eu ∙ led.left))

ends_alike : (a b : ℕ) (k l : Layout) (es fs : List Record) (u v x y : List ℕ) → AllByRecursion (IsEntry a k) es → AllByRecursion (IsEntry b l) fs → u ≡ 4 ∷ x → v ≡ 4 ∷ y
    → texts es ++ u ≡ texts fs ++ v → (fs ≡ es) × (u ≡ v)
ends_alike a b k l es fs u v x y h i eu ev e = ends_led b l es fs u v x y eu ev (leads a b k l es fs u y h i (e ∙ ap (λ (z : List ℕ). texts fs ++ z) ev))

devices_led : (ss ts : List DeviceState) (x y : List ℕ) → LeadsDevices 0 ss ts x y → length ss ≡ length ts → ts ≡ ss
devices_led ss ts x y d count = d.all ∙ ap (λ (z : List DeviceState). ss ++ z) (none_from_length ss d.more 0 (ap length (sym d.all) ∙ sym count)) ∙ append-nil ss

devices_alike : {base : ℕ} (ram_len : ℕ) (ss ts : List DeviceState) (x y : List ℕ) → length ts ≤ 16 → All (IsSoundDevice base ram_len) ss → All (IsSoundDevice base ram_len) ts
    → shapes_in ss ≡ shapes_in ts → device_texts 0 ss ++ x ≡ device_texts 0 ts ++ y → ts ≡ ss
devices_alike {base} ram_len ss ts x y few h k shapes e =
    devices_led ss ts x y
    (devices_lead base ram_len 0 ss ts [] x y (omega (arith, few)) (recursion_from_All (IsSoundDevice base ram_len) ss h) (recursion_from_All (IsSoundDevice base ram_len) ts k) (sym shapes ∙ sym (append-nil (shapes_in ss))) e)
    (sym (length_shapes ss) ∙ ap length shapes ∙ length_shapes ts)

same_sizes : (a b p q : ℕ) → p ≡ q → a ≡ 4096 * p → b ≡ 4096 * q → b ≡ a
same_sizes a b p q e f g = g ∙ ap (λ (x : ℕ). 4096 * x) (sym e) ∙ sym f

parts_from_texts : (v w : ℕ) (bytes : List ℕ) (m n : MachineState) (es fs : List Record) (ca cb : List ℕ) → IsStreamBy v bytes m es → IsStreamBy w bytes n fs
    → (opening_in v (pages_of m) m.devices ≡ opening_in w (pages_of n) n.devices) × (texts es ++ (device_texts 0 m.devices ++ ca) ≡ texts fs ++ (device_texts 0 n.devices ++ cb))
    → SameParts m n v w es fs ca cb
parts_from_texts v w bytes m n es fs ca cb a b t =
    let fa = device_first m.devices ca a.sound.some_devices in
    let fb = device_first n.devices cb b.sound.some_devices in
    let ends = ends_alike v w (layout_of m) (layout_of n) es fs (device_texts 0 m.devices ++ ca) (device_texts 0 n.devices ++ cb) fa.0 fb.0 a.each b.each fa.1 fb.1 t.1 in
    record {
      version = ap (λ (o : Opening). o.version) t.0;
      pages = ap (λ (o : Opening). o.pages) t.0;
      entries = sym ends.0;
      shapes = ap (λ (o : Opening). o.shapes) t.0;
      rest = ends.1;
    }

abbrev end_of : ℕ → MachineState → List Record → List ℕ
end_of v m es = spelled_record (commit (sha256 (before_commit v (pages_of m) es m.devices)))

pub same_parts : (v w : ℕ) (bytes : List ℕ) (m n : MachineState) (es fs : List Record) → IsStreamBy v bytes m es → IsStreamBy w bytes n fs → SameParts m n v w es fs (end_of v m es) (end_of w n fs)
same_parts v w bytes m n es fs a b =
    let ca = end_of v m es in
    let cb = end_of w n fs in
    let oa = opening_in v (pages_of m) m.devices in
    let ob = opening_in w (pages_of n) n.devices in
    parts_from_texts v w bytes m n es fs ca cb a b
    (begins_once {o = oa} {p = ob} (stream_begins a) (stream_begins b))

-- At one base the devices are the same too.
same_devices : {v w : ℕ} {es fs : List Record} {ca cb : List ℕ} (m n : MachineState) → IsSound m → IsSound n → base_of m.devices ≡ base_of n.devices → SameParts m n v w es fs ca cb → m.devices ≡ n.devices
same_devices {ca = ca} {cb = cb} m n h k based s =
    let size : length n.ram ≡ length m.ram = same_sizes (length m.ram) (length n.ram) (pages_of m) (pages_of n) s.pages h.whole_pages k.whole_pages in
    let at_one : All (IsSoundDevice (base_of m.devices) (length m.ram)) n.devices =
    subst (λ (b : ℕ). All (IsSoundDevice b (length m.ram)) n.devices) (sym based) (subst (λ (l : ℕ). All (IsSoundDevice (base_of n.devices) l) n.devices) size k.devices) in
    sym (devices_alike (length m.ram) m.devices n.devices ca cb k.few_devices h.devices at_one s.shapes s.rest)

-- What the last records say is the machine.
content_told : (v : ℕ) (m n : MachineState) (dev k : ℕ) → record_in v m.ram m.disks (sector_item dev k) ≡ record_in v n.ram n.disks (sector_item dev k) → content_of (sector_on (slice_get m.disks dev) k) ≡ content_of (sector_on (slice_get n.disks dev) k)
content_told v m n dev k e = cc

length_page : (ram : List ℕ) (pages k : ℕ) → length ram ≡ 4096 * pages → k < pages → length (page_of ram k) ≡ 4096
length_page ram pages k e lt = omega (arith, length-take 4096 (drop (4096 * k) ram), length-drop (4096 * k) ram)

page_told : (v : ℕ) (m n : MachineState) (pages k : ℕ) → length m.ram ≡ 4096 * pages → length n.ram ≡ 4096 * pages → k < pages
    → record_in v m.ram m.disks (page_item k) ≡ record_in v n.ram n.disks (page_item k) → page_of m.ram k ≡ page_of n.ram k
page_told v m n pages k sm sn lt e = one_page v k k (page_of m.ram k) (page_of n.ram k) (length_page m.ram pages k sm lt ∙ sym (length_page n.ram pages k sn lt)) e

disk_same : (x y : List Sector) → length x ≡ length y → ((k : ℕ) (content : Sector) → slice_get x k ≡ Some content → content_of (slice_get x k) ≡ content_of (slice_get y k)) → x ≡ y
disk_same [] [] e h = refl
disk_same [] (b ∷ y) e h = absurd (omega (arith, e))
disk_same (a ∷ x) [] e h = absurd (omega (arith, e))
disk_same (a ∷ x) (b ∷ y) e h = cons_same (h 0 a refl) (disk_same x y (omega (arith, e)) (λ k content there. h (suc k) content there))

first_same : (a b : ℕ) (as_ bs : List ℕ) → a ∷ as_ ≡ b ∷ bs → (a ≡ b) × (as_ ≡ bs)
first_same a b as_ bs e = (cc, cc)

disks_same : (a b : List (List Sector)) → map length a ≡ map length b
    → ((dev k : ℕ) (content : Sector) → sector_on (slice_get a dev) k ≡ Some content → content_of (sector_on (slice_get a dev) k) ≡ content_of (sector_on (slice_get b dev) k)) → a ≡ b
disks_same [] [] e h = refl
disks_same [] (y ∷ b) e h = absurd cc
disks_same (x ∷ a) [] e h = absurd cc
disks_same (x ∷ a) (y ∷ b) e h =
    let sizes = first_same (length x) (length y) (map length a) (map length b) e in
    cons_same (disk_same x y sizes.0 (λ k content there. h 0 k content there)) (disks_same a b sizes.1 (λ dev k content there. h (suc dev) k content there))

machine_same : (m n : MachineState) → m.ram ≡ n.ram → m.devices ≡ n.devices → m.disks ≡ n.disks → m ≡ n
machine_same m n e f g =
    let same : ◌≡◌ {A = MachineState} (record { ram = m.ram; devices = m.devices; disks = m.disks }) (record { ram = n.ram; devices = n.devices; disks = n.disks }) = rw (e, f, g) refl in same

told_alike : (v w : ℕ) (bytes : List ℕ) (m n : MachineState) (es fs : List Record) (i : Item) → IsStreamBy v bytes m es → IsStreamBy w bytes n fs → v ≡ w → es ≡ fs → IsItemIn (layout_of m) i → IsItemIn (layout_of n) i
    → record_in v m.ram m.disks i ≡ record_in v n.ram n.disks i
told_alike v w bytes m n es fs i a b f e has too = some_same (a.last i has) (ap (last_named i) e ∙ b.last i too ∙ ap (λ (x : ℕ). Some (record_in x n.ram n.disks i)) (sym f))

sizes_alike : (m n : MachineState) → IsSound m → IsSound n → m.devices ≡ n.devices → map length m.disks ≡ map length n.disks
sizes_alike m n h k e = h.disks ∙ ap (map (λ (d : DeviceState). sector_count (made_as d.kind))) e ∙ sym k.disks

from_parts : {ca cb : List ℕ} (bytes : List ℕ) (m n : MachineState) (a : IsStream bytes m) (b : IsStream bytes n) → base_of m.devices ≡ base_of n.devices → SameParts m n a.version b.version a.entries b.entries ca cb → m ≡ n
from_parts bytes m n a b based s =
    let p = pages_of m in
    let v = a.version in
    let size : length n.ram ≡ 4096 * p = b.by.sound.whole_pages ∙ ap (λ (x : ℕ). 4096 * x) (sym s.pages) in
    let devices = same_devices m n a.by.sound b.by.sound based s in
    let sizes = sizes_alike m n a.by.sound b.by.sound devices in
    machine_same m n
    (ram_same p m.ram n.ram a.by.sound.whole_pages size (λ k lt. page_told v m n p k a.by.sound.whole_pages size lt
    (told_alike v b.version bytes m n a.entries b.entries (page_item k) a.by b.by s.version s.entries lt (omega (arith, lt, s.pages)))))
    devices
    (disks_same m.disks n.disks sizes (λ dev k content there.
    let within = in_layout m (sector_item dev k) a.by.sound.whole_pages (content, there) in
    content_told v m n dev k (told_alike v b.version bytes m n a.entries b.entries (sector_item dev k) a.by b.by s.version s.entries within (rw sizes at within))))

pub one_machine : (bytes : List ℕ) (m n : MachineState) → IsStream bytes m → IsStream bytes n → base_of m.devices ≡ base_of n.devices → m ≡ n
one_machine bytes m n a b based = from_parts bytes m n a b based (same_parts a.version b.version bytes m n a.entries b.entries a.by b.by)

pub one_count : (bytes : List ℕ) (m n : MachineState) (a : IsStream bytes m) (b : IsStream bytes n) → rounds a.entries ≡ rounds b.entries
one_count bytes m n a b = ap rounds (same_parts a.version b.version bytes m n a.entries b.entries a.by b.by).entries

pub one_version : (bytes : List ℕ) (m n : MachineState) (a : IsStream bytes m) (b : IsStream bytes n) → a.version ≡ b.version
one_version bytes m n a b = (same_parts a.version b.version bytes m n a.entries b.entries a.by b.by).version
