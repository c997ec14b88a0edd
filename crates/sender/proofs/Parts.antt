-- A machine in parts, one behind another.
use Rattle.std.proofs.Common.{◌≡◌, ℕ, zero, suc, ◌+◌, ◌<◌, List, [], ◌∷◌, ◌++◌, length, map, take, get_or, refl, sym, ap, ◌∙◌, append_assoc, append-nil, arith}
use Rattle.std.proofs.lemmas.List.{length-map}
use Rattle.guestmem.specs.Item.{sector}
use Rattle.guestmem.specs.Page.{page_of}
use Rattle.machine.specs.Layout.{firsts_from, item_at, layout_of, pages_of, size_of, size_from}
use Rattle.machine.specs.State.{MachineState}
use Rattle.machine.proofs.Numbering.{is_below, item_back}
use Rattle.wire.specs.Records.{page_record, spelled_record}
use Rattle.wire.specs.Header.{header, opening_of, version_of}
use Rattle.wire.specs.Stream.{device_texts, record_in, record_of, records_below, saved, shapes_in, texts, records_in}
use Rattle.wire.proofs.Saving.{one_record}
use Rattle.wire.proofs.SentVersions.{sent_record}
use Rattle.wire.proofs.Whole.{texts-snoc}
use Rattle.sender.specs.Items.{disk_text, first_sector, front_text, records_from, sectors_before, sectors_text, size_on}

pub no_records : (x : List ℕ) (m : MachineState) → x ++ texts (records_below m 0) ≡ x
unfolding records_in texts
no_records x m = append-nil x

pub page_more : (x : List ℕ) (m : MachineState) (b : List ℕ) (n : ℕ) → n < pages_of m → b ≡ page_of m.ram n → (x ++ texts (records_below m n)) ++ spelled_record (page_record 2 n b) ≡ x ++ texts (records_below m (n + 1))
page_more x m b n below e =
    let one : texts (records_below m (n + 1)) ≡ texts (records_below m n) ++ spelled_record (page_record 2 n (page_of m.ram n)) = rw (is_below n (pages_of m) below) at (one_record m n) in
    rw (e, one) (append_assoc x (texts (records_below m n)) (spelled_record (page_record 2 n (page_of m.ram n))))

-- The sectors of a disk have the numbers from that of the first one on.
pub first_at : (sizes : List ℕ) (first dev : ℕ) → dev < length sizes → get_or (firsts_from first sizes) dev 0 ≡ size_from first (take dev sizes)
first_at [] first dev below = absurd (omega (arith, below))
first_at (size ∷ sizes) first zero below = refl
first_at (size ∷ sizes) first (suc dev) below = first_at sizes (first + size) dev (omega (arith, below))

pub within_length : (sizes : List ℕ) (dev n : ℕ) → n < get_or sizes dev 0 → dev < length sizes
within_length [] dev n below = absurd (omega (arith, below))
within_length (size ∷ sizes) zero n below = omega arith
within_length (size ∷ sizes) (suc dev) n below = omega (arith, within_length sizes dev n below)

pub item_is : (m : MachineState) (dev n : ℕ) → n < size_on m dev → item_at (layout_of m) (first_sector m dev + n) ≡ sector dev n
item_is m dev n below =
    let first = first_at (map length m.disks) (pages_of m) dev (within_length (map length m.disks) dev n below) in
    rw (← first) (item_back (layout_of m) (sector dev n) below)

-- Records of items, and those of the next ones.
pub one_from : (m : MachineState) (first n : ℕ) → records_from m first (n + 1) ≡ records_from m first n ++ record_of m (item_at (layout_of m) (first + n)) ∷ []
unfolding records_from
one_from m first n = let more : n + 1 ≡ suc n = omega arith in rw more refl

pub none_from : (m : MachineState) (first : ℕ) → texts (records_from m first 0) ≡ []
unfolding records_from texts
none_from m first = refl

pub sector_more : (m : MachineState) (dev n : ℕ) → n < size_on m dev → texts (records_from m (first_sector m dev) (n + 1)) ≡ texts (records_from m (first_sector m dev) n) ++ spelled_record (record_of m (sector dev n))
sector_more m dev n below =
    ap texts (one_from m (first_sector m dev) n) ∙ texts-snoc (records_from m (first_sector m dev) n) (record_of m (item_at (layout_of m) (first_sector m dev + n)))
    ∙ ap (λ i. texts (records_from m (first_sector m dev) n) ++ spelled_record (record_of m i)) (item_is m dev n below)

pub from_both : (m : MachineState) (first a b : ℕ) → texts (records_from m first (a + b)) ≡ texts (records_from m first a) ++ texts (records_from m (first + a) b)
from_both m first a zero =
    let e : a + 0 ≡ a = omega arith in
    rw (e, none_from m (first + a)) (sym (append-nil (texts (records_from m first a))))
from_both m first a (suc b) =
    let e : a + suc b ≡ (a + b) + 1 = omega arith in
    let f : suc b ≡ b + 1 = omega arith in
    let g : first + (a + b) ≡ first + a + b = omega arith in
    let last = spelled_record (record_of m (item_at (layout_of m) (first + a + b))) in
    rw (e, f)
    (ap texts (one_from m first (a + b)) ∙ texts-snoc (records_from m first (a + b)) (record_of m (item_at (layout_of m) (first + (a + b))))
    ∙ ap (λ i. texts (records_from m first (a + b)) ++ spelled_record (record_of m (item_at (layout_of m) i))) g
    ∙ ap (λ t. t ++ last) (from_both m first a b) ∙ append_assoc (texts (records_from m first a)) (texts (records_from m (first + a) b)) last
    ∙ ap (λ t. texts (records_from m first a) ++ t) (sym (ap texts (one_from m (first + a) b) ∙ texts-snoc (records_from m (first + a) b) (record_of m (item_at (layout_of m) (first + a + b))))))

pub below_both : (m : MachineState) (a b : ℕ) → texts (records_below m (a + b)) ≡ texts (records_below m a) ++ texts (records_from m a b)
below_both m a zero =
    let e : a + 0 ≡ a = omega arith in
    rw (e, none_from m a) (sym (append-nil (texts (records_below m a))))
below_both m a (suc b) =
    let e : a + suc b ≡ (a + b) + 1 = omega arith in
    let f : suc b ≡ b + 1 = omega arith in
    let last = spelled_record (record_of m (item_at (layout_of m) (a + b))) in
    rw (e, f)
    (one_record m (a + b) ∙ ap (λ t. t ++ last) (below_both m a b) ∙ append_assoc (texts (records_below m a)) (texts (records_from m a b)) last
    ∙ ap (λ t. texts (records_below m a) ++ t) (sym (ap texts (one_from m a b) ∙ texts-snoc (records_from m a b) (record_of m (item_at (layout_of m) (a + b))))))

-- How many items there are before a disk.
pub shifted : (sizes : List ℕ) (a b : ℕ) → size_from (a + b) sizes ≡ a + size_from b sizes
shifted [] a b = refl
shifted (size ∷ sizes) a b = let e : a + b + size ≡ a + (b + size) = omega arith in rw e (shifted sizes a (b + size))

pub first_is : (m : MachineState) (dev : ℕ) → first_sector m dev ≡ pages_of m + sectors_before m dev
first_is m dev = let e : pages_of m ≡ pages_of m + 0 = omega arith in ap (λ n. size_from n (take dev (map length m.disks))) e ∙ shifted (take dev (map length m.disks)) (pages_of m) 0

pub before_more : (sizes : List ℕ) (first dev : ℕ) → dev < length sizes → size_from first (take (dev + 1) sizes) ≡ size_from first (take dev sizes) + get_or sizes dev 0
before_more [] first dev below = absurd (omega (arith, below))
before_more (size ∷ sizes) first zero below = refl
before_more (size ∷ sizes) first (suc dev) below = let e : suc dev + 1 ≡ suc (dev + 1) = omega arith in rw e (before_more sizes (first + size) dev (omega (arith, below)))

pub disk_more : (m : MachineState) (dev : ℕ) → dev < length (map length m.disks) → texts (records_from m (pages_of m) (sectors_before m (dev + 1))) ≡ texts (records_from m (pages_of m) (sectors_before m dev)) ++ disk_text m dev
disk_more m dev below =
    ap (λ n. texts (records_from m (pages_of m) n)) (before_more (map length m.disks) 0 dev below) ∙ from_both m (pages_of m) (sectors_before m dev) (size_on m dev)
    ∙ ap (λ n. texts (records_from m (pages_of m) (sectors_before m dev)) ++ texts (records_from m n (size_on m dev))) (sym (first_is m dev))

pub all_taken : (xs : List ℕ) (n : ℕ) → n ≡ length xs → take n xs ≡ xs
all_taken [] zero e = refl
all_taken [] (suc n) e = refl
all_taken (x ∷ xs) zero e = absurd (omega (arith, e))
all_taken (x ∷ xs) (suc n) e = ap (λ ys. x ∷ ys) (all_taken xs n (omega (arith, e)))

length_sizes : (m : MachineState) → length m.disks ≡ length (map length m.disks)
length_sizes m = sym (length-map m.disks length)

pub items_in_parts : (m : MachineState) → texts (records_below m (size_of (layout_of m))) ≡ texts (records_below m (pages_of m)) ++ sectors_text m
items_in_parts m =
    let all : take (length m.disks) (map length m.disks) ≡ map length m.disks = all_taken (map length m.disks) (length m.disks) (length_sizes m) in
    let e : pages_of m ≡ pages_of m + 0 = omega arith in
    let whole : size_of (layout_of m) ≡ pages_of m + sectors_before m (length m.disks) = ap (λ n. size_from n (map length m.disks)) e ∙ shifted (map length m.disks) (pages_of m) 0 ∙ ap (λ sizes. pages_of m + size_from 0 sizes) (sym all) in
    ap (λ n. texts (records_below m n)) whole ∙ below_both m (pages_of m) (sectors_before m (length m.disks))

-- Machines are sent in a version that has the records of version 2.
sent_records : (m : MachineState) (n : ℕ) → records_in (version_of (shapes_in m.devices)) m n ≡ records_below m n
unfolding records_in
sent_records m zero = refl
sent_records m (suc n) =
    let item = item_at (layout_of m) n in
    ap (λ rs. rs ++ record_in (version_of (shapes_in m.devices)) m.ram m.disks item ∷ []) (sent_records m n) ∙ ap (λ r. records_below m n ++ r ∷ []) (sent_record (shapes_in m.devices) m.ram m.disks item)

-- The parts in their order are what is saved.
pub saved_in_parts : (m : MachineState) → front_text m ++ (sectors_text m ++ device_texts 0 m.devices) ≡ saved m
saved_in_parts m =
    let head = header (opening_of (pages_of m) (shapes_in m.devices)) in
    append_assoc head (texts (records_below m (pages_of m))) (sectors_text m ++ device_texts 0 m.devices)
    ∙ ap (λ t. head ++ t) (
    sym (append_assoc (texts (records_below m (pages_of m))) (sectors_text m) (device_texts 0 m.devices)) ∙ ap (λ t. t ++ device_texts 0 m.devices) (sym (items_in_parts m))
    ∙ ap (λ rs. texts rs ++ device_texts 0 m.devices) (sym (sent_records m (size_of (layout_of m))))
    )
