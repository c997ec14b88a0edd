-- How many items are left, and how long what a stop writes can be.
use Rattle.std.proofs.Common.{◌≡◌, ℕ, zero, suc, ◌+◌, ◌-◌, ◌*◌, ◌≤◌, Bool, true, false, cond, List, [], ◌∷◌, ◌++◌, length, map, take, drop, get_or, Option, Some, None, refl, ap, subst, ◌∙◌, append-nil, inl, inr, arith}
use Rattle.std.specs.Prelude.{◌&&◌, ◌||◌, not, nat_lt, All, IsTrue}
use Rattle.std.proofs.lemmas.List.{length-append, length-map, length-take, take_all}
use Rattle.std.proofs.lemmas.List.Elements.{All-map}
use Rattle.std.proofs.lemmas.List.Sums.{count_by-le-length}
use Rattle.dirtylog.specs.Members.{has, member_count}
use Rattle.dirtylog.proofs.Counts.{count_split, count_suc}
use Rattle.guestmem.specs.Item.{Item, page, sector}
use Rattle.guestmem.specs.Page.{page_of}
use Rattle.blk.specs.Sectors.{Sector}
use Rattle.machine.specs.Layout.{Layout, item_at, layout_of, pages_of, sector_from, size_from, size_of}
use Rattle.machine.specs.Seen.{Marks, Seen, state_of}
use Rattle.machine.specs.Shapes.{made_as, sector_count}
use Rattle.machine.specs.Sound.{IsSound}
use Rattle.machine.specs.State.{DeviceState, MachineState}
use Rattle.machine.proofs.Numbering.{either_way, is_below, is_past, size_grows}
use Rattle.sha2.specs.Sha256.{sha256}
use Rattle.wire.specs.Numbers.{digits}
use Rattle.wire.specs.Records as records
use Rattle.wire.specs.Records.{Record, commit, is_zero_page, spelled_record, zero_page}
use Rattle.wire.specs.Sinks.{Covers}
use Rattle.wire.specs.Stream.{device_texts, texts}
use Rattle.wire.proofs.Digits.{length-digits}
use Rattle.sender.specs.Calls.{Stops, in_either}
use Rattle.sender.specs.LiveState.{HasPlaces, LiveSeen, chosen, how_many, now, pages_among, sectors_among}
use Rattle.sender.specs.Told.{AreTold, IsSentAs, IsTold}
use Rattle.sender.proofs.AsTold.{split}
use Rattle.sender.proofs.Disks.{few_in}
use Rattle.sender.proofs.SavedLengths.{length_bad, length_commit, length_good}
use Rattle.sender.proofs.Stopping.{one_text, texts-append}

-- The items of a sound machine are few.
sizes_few : (sizes : List ℕ) (first : ℕ) → All (λ (n : ℕ). n ≤ 4294967295) sizes → size_from first sizes ≤ first + 4294967295 * length sizes
sizes_few [] first few = omega arith
sizes_few (n ∷ ns) first few =
    let rest = sizes_few ns (first + n) (λ k d below. few (suc k) d (omega (arith, below))) in
    let one = few zero 0 (omega arith) in
    omega (arith, rest, one)

sector_counts : (m : MachineState) → IsSound m → All (λ (n : ℕ). n ≤ 4294967295) (map length m.disks)
sector_counts m sound = rw sound.disks (All-map (λ (n : ℕ). n ≤ 4294967295) (λ (d : DeviceState). sector_count (made_as d.kind)) m.devices (λ k d below. few_in (made_as (get_or m.devices k d).kind) (sound.devices k d below).shape))

pub few_items : (m : MachineState) → IsSound m → size_of (layout_of m) ≤ 73014444015
few_items m sound =
    let sizes = map length m.disks in
    let counts = sizes_few sizes (pages_of m) (sector_counts m sound) in
    let long : length sizes ≡ length m.devices = ap length sound.disks ∙ length-map m.devices (λ (d : DeviceState). sector_count (made_as d.kind)) in
    omega (arith, counts, long, sound.few_pages, sound.few_devices)

-- The pages among the members of a set, and the sectors.
pub pages_inside : (m : MachineState) → pages_of m ≤ size_of (layout_of m)
pages_inside m = size_grows (map length m.disks) (pages_of m)

pub rest_few : (set : List Bool) (n : ℕ) → member_count (drop n set) ≤ length set
rest_few set n = omega (arith, count_split set n, count_by-le-length (λ (b : Bool). b) set)

-- Two tests, in each place.
parts_one : (p q : Bool) (x y z : ℕ) → x + y ≡ z → (x + cond (p && q) 1 0) + (y + cond (p && not q) 1 0) ≡ z + cond p 1 0
parts_one true true x y z h = omega (arith, h)
parts_one true false x y z h = omega (arith, h)
parts_one false q x y z h = omega (arith, h)

both_parts : (p q : ℕ → Bool) (n : ℕ) → how_many (λ i. p i && q i) n + how_many (λ i. p i && not (q i)) n ≡ how_many p n
both_parts p q zero = omega arith
both_parts p q (suc n) = parts_one (p n) (q n) _ _ _ (both_parts p q n)

either_one : (a b q : Bool) (x y z : ℕ) → x ≤ y + z → x + cond ((a || b) && q) 1 0 ≤ (y + cond (a && q) 1 0) + (z + cond (b && q) 1 0)
either_one true b true x y z h = omega (arith, h)
either_one true b false x y z h = omega (arith, h)
either_one false true true x y z h = omega (arith, h)
either_one false true false x y z h = omega (arith, h)
either_one false false q x y z h = omega (arith, h)

either_few : (a b q : ℕ → Bool) (n : ℕ) → how_many (λ i. (a i || b i) && q i) n ≤ how_many (λ i. a i && q i) n + how_many (λ i. b i && q i) n
either_few a b q zero = omega arith
either_few a b q (suc n) = either_one (a n) (b n) (q n) _ _ _ (either_few a b q n)

-- The members of a set by their numbers.
members_below : (set : List Bool) (n : ℕ) → n ≤ length set → how_many (has set) n ≡ member_count (take n set)
members_below set zero few = refl
members_below set (suc n) few =
    let before = members_below set n (omega (arith, few)) in
    let one = count_suc set n (omega (arith, few)) in
    omega (arith, before, one)

kept_test : (x y : Bool) → y ≡ true → (x && y) ≡ x
kept_test true y is = is
kept_test false y is = refl

lost_test : (x y : Bool) → y ≡ false → (x && y) ≡ false
lost_test true y is = is
lost_test false y is = refl

pages_below : (p : ℕ → Bool) (pages n : ℕ) → n ≤ pages → how_many (λ i. p i && nat_lt i pages) n ≡ how_many p n
pages_below p pages zero few = refl
pages_below p pages (suc n) few = rw (pages_below p pages n (omega (arith, few)), kept_test (p n) (nat_lt n pages) (is_below n pages (omega (arith, few)))) refl

no_pages_above : (p : ℕ → Bool) (pages more : ℕ) → how_many (λ i. p i && nat_lt i pages) (more + pages) ≡ how_many (λ i. p i && nat_lt i pages) pages
no_pages_above p pages zero = let none : zero + pages ≡ pages = omega arith in rw none refl
no_pages_above p pages (suc more) =
    let rest = no_pages_above p pages more in
    let next : suc more + pages ≡ suc (more + pages) = omega arith in
    let none : (p (more + pages) && nat_lt (more + pages) pages) ≡ false = lost_test (p (more + pages)) (nat_lt (more + pages) pages) (is_past (more + pages) pages (omega arith)) in
    rw (next, none) (omega (arith, rest))

pub pages_counted : (set : List Bool) (pages : ℕ) → pages ≤ length set → how_many (λ i. has set i && nat_lt i pages) (length set) ≡ member_count (take pages set)
pages_counted set pages inside =
    let all : length set ≡ (length set - pages) + pages = omega (arith, inside) in
    ap (how_many (λ i. has set i && nat_lt i pages)) all ∙ no_pages_above (has set) pages (length set - pages) ∙ pages_below (has set) pages pages (omega arith) ∙ members_below set pages inside

pub sectors_counted : (set : List Bool) (pages : ℕ) → pages ≤ length set → how_many (λ i. has set i && not (nat_lt i pages)) (length set) ≡ member_count (drop pages set)
sectors_counted set pages inside =
    let both = both_parts (has set) (λ i. nat_lt i pages) (length set) in
    let all : how_many (has set) (length set) ≡ member_count set = members_below set (length set) (omega arith) ∙ ap member_count (take_all (length set) set (omega arith)) in
    omega (arith, both, all, pages_counted set pages inside, count_split set pages)

-- The length of one record.
abbrev most : Item → ℕ
most (page n) = 4101
most (sector dev n) = 519

page_or : (n : ℕ) (bytes : List ℕ) (zeros : Bool) → length bytes ≤ 4096 → length (spelled_record (cond zeros (zero_page n) (records.page n bytes))) ≤ 4101
unfolding spelled_record
page_or n bytes true few = omega arith
page_or n bytes false few = omega (arith, few, length-append (digits 4 n) bytes, length-digits 4 n)

sent_short : (dev n : ℕ) (marks : Marks) (found : Option Sector) (content : Sector) → IsSentAs marks found content → length (spelled_record (records.sector dev n content)) ≤ 519
sent_short dev n marks found None sent = omega (arith, length_bad dev n)
sent_short dev n marks found (Some bytes) sent = omega (arith, length_good dev n bytes sent.whole.size)

told_short : (s : Seen) (i : Item) (entry : Record) → IsTold s i entry → length (spelled_record entry) ≤ most i
told_short s (page n) entry is =
    let bytes = page_of (state_of s).ram n in
    rw is (page_or n bytes (is_zero_page 2 bytes) (omega (arith, length-take 4096 (drop (4096 * n) (state_of s).ram))))
told_short s (sector dev n) entry is = rw is.is (sent_short dev n _ _ is.content is.sent)

-- A number of an item says whether it is a page.
sector_or : (b : Bool) (x y : Item) → most x ≡ 519 → most y ≡ 519 → most (cond b x y) ≡ 519
sector_or true x y h k = h
sector_or false x y h k = k

from_sector : (dev first : ℕ) (sizes : List ℕ) (i : ℕ) → most (sector_from dev first sizes i) ≡ 519
from_sector dev first [] i = refl
from_sector dev first (size ∷ sizes) i = sector_or (nat_lt i (first + size)) (sector dev (i - first)) (sector_from (dev + 1) (first + size) sizes i) refl (from_sector (dev + 1) (first + size) sizes i)

item_or : (b : Bool) (n : ℕ) (x : Item) → most x ≡ 519 → most (cond b (page n) x) ≡ cond b 4101 519
item_or true n x h = refl
item_or false n x h = h

most_at : (l : Layout) (i : ℕ) → most (item_at l i) ≡ cond (nat_lt i l.pages) 4101 519
most_at l i = item_or (nat_lt i l.pages) i (sector_from 0 l.pages l.disks i) (from_sector 0 l.pages l.disks i)

-- The records of chosen items.
weighed : (b : Bool) (x y text one : ℕ) → text ≤ 4101 * x + 519 * y → one ≤ cond b 4101 519 → text + one ≤ 4101 * (x + cond b 1 0) + 519 * (y + cond (not b) 1 0)
weighed true x y text one h k = omega (arith, h, k)
weighed false x y text one h k = omega (arith, h, k)

all_short : (s : Seen) (p : ℕ → Bool) (n : ℕ) (entries : List Record) → AreTold s (chosen p n) entries
    → length (texts entries) ≤ 4101 * pages_among (layout_of (state_of s)) p n + 519 * sectors_among (layout_of (state_of s)) p n
unfolding texts
all_short s p zero [] are = omega arith
all_short s p zero (entry ∷ entries) are = absurd are
all_short s p (suc n) entries are =
    let l = layout_of (state_of s) in
    elim (either_way (p n)) as (λ _. length (texts entries) ≤ 4101 * pages_among l p (suc n) + 519 * sectors_among l p (suc n)) [
      | inl e ↦
          let numbers : chosen p (suc n) ≡ chosen p n ++ n ∷ [] = rw e refl in
          let parts = split s (chosen p n) n entries (subst (λ (x : List ℕ). AreTold s x entries) numbers are) in
          let one : length (spelled_record parts.entry) ≤ cond (nat_lt n l.pages) 4101 519 = subst (λ (k : ℕ). length (spelled_record parts.entry) ≤ k) (most_at l n) (told_short s (item_at l n) parts.entry parts.last) in
          let text : length (texts entries) ≡ length (texts parts.before) + length (spelled_record parts.entry)
          = ap (λ (rs : List Record). length (texts rs)) parts.are ∙ ap length (texts-append parts.before (parts.entry ∷ []) ∙ ap (λ (t : List ℕ). texts parts.before ++ t) (one_text parts.entry)) ∙ length-append (texts parts.before) (spelled_record parts.entry) in
          rw (e, text) (weighed (nat_lt n l.pages) (pages_among l p n) (sectors_among l p n) _ _ (all_short s p n parts.before parts.told) one)
      | inr e ↦
          let numbers : chosen p (suc n) ≡ chosen p n = rw (e, append-nil) refl in
          let before = all_short s p n entries (subst (λ (x : List ℕ). AreTold s x entries) numbers are) in
          rw e (omega (arith, before))
    ]

-- All that a stop writes: the items of both sets, the devices and the digest.
pub stop_short : (old next : LiveSeen) (pages sectors : ℕ) (b : List ℕ) (devices : ℕ) → HasPlaces old → devices ≡ length (device_texts 0 (now old).devices) → IsTrue old.out.honest → Covers old.digest b → Stops old pages sectors next
    → length next.out.held ≤ length old.out.held + (4101 * (member_count (take (pages_of (now old)) old.due) + member_count (take (pages_of (now old)) old.dirty))
    + 519 * (member_count (drop (pages_of (now old)) old.due) + member_count (drop (pages_of (now old)) old.dirty)) + devices + 33)
stop_short old next pages sectors b devices places states honest covers h =
    let l = layout_of (now old) in
    let inside = pages_inside (now old) in
    let before = texts h.entries in
    let end = device_texts 0 (now old).devices in
    let sum = commit (sha256 ((b ++ before) ++ end)) in
    let tail = end ++ spelled_record sum in
    let held : length next.out.held ≡ length (old.out.held ++ (before ++ tail)) = ap length ((h.took b covers).holds honest).1 in
    let parts = length-append old.out.held (before ++ tail) in
    let items = all_short old.machine (in_either old) (size_of l) h.entries h.told in
    let few_pages = either_few (has old.due) (has old.dirty) (λ i. nat_lt i l.pages) (size_of l) in
    let few_sectors = either_few (has old.due) (has old.dirty) (λ i. not (nat_lt i l.pages)) (size_of l) in
    let due_pages = subst (λ (n : ℕ). how_many (λ i. has old.due i && nat_lt i l.pages) n ≡ member_count (take l.pages old.due)) places.due_size (pages_counted old.due l.pages (omega (arith, inside, places.due_size))) in
    let dirty_pages = subst (λ (n : ℕ). how_many (λ i. has old.dirty i && nat_lt i l.pages) n ≡ member_count (take l.pages old.dirty)) places.dirty_size (pages_counted old.dirty l.pages (omega (arith, inside, places.dirty_size))) in
    let due_sectors = subst (λ (n : ℕ). how_many (λ i. has old.due i && not (nat_lt i l.pages)) n ≡ member_count (drop l.pages old.due)) places.due_size (sectors_counted old.due l.pages (omega (arith, inside, places.due_size))) in
    let dirty_sectors = subst (λ (n : ℕ). how_many (λ i. has old.dirty i && not (nat_lt i l.pages)) n ≡ member_count (drop l.pages old.dirty)) places.dirty_size (sectors_counted old.dirty l.pages (omega (arith, inside, places.dirty_size))) in
    omega (
      arith,
      held,
      parts,
      length-append before tail,
      length-append end (spelled_record sum),
      length_commit ((b ++ before) ++ end),
      items,
      few_pages,
      few_sectors,
      due_pages,
      dirty_pages,
      due_sectors,
      dirty_sectors,
      states,
    )
