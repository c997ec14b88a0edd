-- A machine as it begins is sound.
use Rattle.std.proofs.Common.{◌≡◌, ℕ, zero, suc, ◌+◌, ◌*◌, ◌%◌, ◌^◌, ◌<◌, ◌≤◌, List, [], ◌∷◌, length, map, replicate, get_or, Bool, true, false, cond, Some, None, refl, ap, sym, subst, ◌∙◌, arith, eqb, leb, ltb}
use Rattle.std.specs.Prelude.{◌||◌, ◌&&◌, not}
use Rattle.std.specs.List.{All}
use Rattle.std.proofs.lemmas.List.{length-map, length-replicate}
use Rattle.std.proofs.lemmas.List.Elements.{All-head, All-map, All-nil, All-tail}
use Rattle.std.proofs.lemmas.Bool.{eqb-false, eqb-true, leb-true}
use borrow.Author.Tests.{ltb-false}
use Rattle.guestmem.specs.Number.{IsBytes}
use Rattle.blk.specs.Disk.{AreSectors, DiskState}
use Rattle.blk.specs.Sectors.{Sector, AreWhole, IsWhole}
use Rattle.mmio.proofs.StayingSound.{first_sound}
use Rattle.mmio.specs.State.{first_common, first_queue}
use Rattle.machine.specs.Board.{ram_bytes, ram_size}
use Rattle.machine.specs.First.{AreMarksOf, HasBytes, are_beyond, are_same, dealt_sectors, good_marks, is_base, is_ram_size, made_machine, make_refusal, marked_sectors, saved_machine}
use Rattle.machine.specs.EffectLaws.{IsSameShape}
use Rattle.machine.specs.Limits.{IsShapeWithin, IsWithinLimits, greatest}
use Rattle.machine.specs.QueuePositions.{HavePositions, first_positions, is_packed_by}
use Rattle.machine.specs.Shapes.{device_id_of, disk_sizes, first_device, first_kind, is_beyond, made_as, offered_of, queues_of, sector_count}
use Rattle.machine.specs.Sound.{IsBase, IsSound, IsSoundDevice, IsSoundKind, IsSoundShape}
use Rattle.machine.specs.State.{DeviceState, MachineState, base_of}
use Rattle.machine.specs.declared.board.RamOf.{RamOf}
use Rattle.machine.specs.declared.board.RamOf.TheVariants.{Pages, Region}
use Rattle.machine.specs.declared.limits.Limits.{Limits}
use Rattle.machine.specs.declared.new_error.NewError.TheVariants.{BadShape, DiskMismatch}
use Rattle.machine.specs.declared.shape.Shape.{Shape}
use Rattle.machine.specs.declared.shape.Shape.TheVariants.{Net, LongNet, Block, Outside, Console, Entropy}
use Rattle.machine.proofs.Dealt.{good_are_marks, good_content}
use Rattle.machine.proofs.Disks.{same_sizes}
use Rattle.machine.proofs.MadeAs.{IsLong, first_as}
use Rattle.machine.proofs.Numbering.{shape_counts}

both_true : (a b : Bool) → (a && b) ≡ true → (a ≡ true) × (b ≡ true)
both_true true b is = (refl, is)
both_true false b is = cc

-- Limits are numbers of 32 bits, and of 16.
pub record FitsLimits (l : Limits) : Type 0 where
  pub pages : l.pages ≤ 4294967295
  pub sectors : l.sectors ≤ 4294967295
  pub frame : l.frame ≤ 65535

-- RAM that may begin at its base, and has as many whole pages as the limits allow.
based_by : (base bytes : ℕ) → is_base base bytes ≡ true → IsBase base bytes
based_by base bytes is =
    let both = both_true (eqb (base % 4096) 0) (leb (base + bytes) (2 ^ 64)) is in
    record { whole = eqb-true (base % 4096) 0 both.0; reach = leb-true (base + bytes) (2 ^ 64) both.1 }

pub record IsRamSize (l : Limits) (bytes : ℕ) : Type 0 where
  pub whole : bytes % 4096 ≡ 0
  pub some : 4096 ≤ bytes
  pub few : bytes ≤ 4096 * l.pages

not_true : (b : Bool) → not b ≡ true → b ≡ false
not_true true is = cc
not_true false is = refl

size_by : (l : Limits) (bytes : ℕ) → is_ram_size l bytes ≡ true → IsRamSize l bytes
size_by l bytes is =
    let both = both_true (eqb (bytes % 4096) 0 && not (eqb bytes 0)) (leb bytes (4096 * l.pages)) is in
    let front = both_true (eqb (bytes % 4096) 0) (not (eqb bytes 0)) both.0 in
    let whole = eqb-true (bytes % 4096) 0 front.0 in
    let some = eqb-false bytes 0 (not_true (eqb bytes 0) front.1) in
    record { whole = whole; some = omega (arith, whole, some); few = leb-true bytes (4096 * l.pages) both.1 }

-- What holds where no machine is refused.
pub record HasLimits (l : Limits) (base bytes : ℕ) (shapes : List Shape) (sizes : List ℕ) : Type 0 where
  pub based : IsBase base bytes
  pub size : IsRamSize l bytes
  some_devices : 1 ≤ length shapes
  few_devices : length shapes ≤ 16
  none_beyond : are_beyond l shapes ≡ false
  same : are_same (disk_sizes shapes) sizes ≡ true

limits_by : (l : Limits) (base bytes : ℕ) (shapes : List Shape) (sizes : List ℕ) (a b c d e f : Bool) → is_base base bytes ≡ a → is_ram_size l bytes ≡ b → eqb (length shapes) 0 ≡ c → ltb 16 (length shapes) ≡ d
    → are_beyond l shapes ≡ e → are_same (disk_sizes shapes) sizes ≡ f → cond (not a || not b || c || d || e) (Some BadShape) (cond (not f) (Some DiskMismatch) None) ≡ None → HasLimits l base bytes shapes sizes
limits_by l base bytes shapes sizes false b c d e f p q r s t u is = cc
limits_by l base bytes shapes sizes true false c d e f p q r s t u is = cc
limits_by l base bytes shapes sizes true true true d e f p q r s t u is = cc
limits_by l base bytes shapes sizes true true false true e f p q r s t u is = cc
limits_by l base bytes shapes sizes true true false false true f p q r s t u is = cc
limits_by l base bytes shapes sizes true true false false false false p q r s t u is = cc
limits_by l base bytes shapes sizes true true false false false true p q r s t u is = record {
  based = based_by base bytes p;
  size = size_by l bytes q;
  some_devices = omega (arith, eqb-false (length shapes) 0 r);
  few_devices = ltb-false 16 (length shapes) s;
  none_beyond = t;
  same = u;
}

pub limits : (l : Limits) (base bytes : ℕ) (shapes : List Shape) (sizes : List ℕ) → make_refusal l base bytes shapes sizes ≡ None → HasLimits l base bytes shapes sizes
limits l base bytes shapes sizes is =
    limits_by l base bytes shapes sizes (is_base base bytes) (is_ram_size l bytes) (eqb (length shapes) 0) (ltb 16 (length shapes)) (are_beyond l shapes) (are_same (disk_sizes shapes) sizes) refl refl refl refl refl refl is

-- A device that is not beyond its limits.
sectors_by : (most sectors : ℕ) (a b : Bool) → eqb sectors 0 ≡ a → ltb most sectors ≡ b → (a || b) ≡ false → (1 ≤ sectors) × (sectors ≤ most)
sectors_by most sectors true b p q is = cc
sectors_by most sectors false true p q is = cc
sectors_by most sectors false false p q is = (omega (arith, eqb-false sectors 0 p), ltb-false most sectors q)

sectors_within : (l : Limits) (sectors : ℕ) (read_only : Bool) (id : List ℕ) → is_beyond l (Block sectors read_only id) ≡ false → (1 ≤ sectors) × (sectors ≤ l.sectors)
sectors_within l sectors read_only id is = sectors_by l.sectors sectors (eqb sectors 0) (ltb l.sectors sectors) refl refl is

outside_by : (most sectors : ℕ) (a b c : Bool) → eqb sectors 0 ≡ a → ltb (2 ^ 54) sectors ≡ b → ltb most sectors ≡ c → (a || b || c) ≡ false → (1 ≤ sectors) × (sectors ≤ 2 ^ 54) × (sectors ≤ most)
outside_by most sectors true b c p q r is = cc
outside_by most sectors false true c p q r is = cc
outside_by most sectors false false true p q r is = cc
outside_by most sectors false false false p q r is = (omega (arith, eqb-false sectors 0 p), ltb-false (2 ^ 54) sectors q, ltb-false most sectors r)

outside_within : (l : Limits) (sectors : ℕ) (read_only : Bool) (id : List ℕ) → is_beyond l (Outside sectors read_only id) ≡ false → (1 ≤ sectors) × (sectors ≤ 2 ^ 54) × (sectors ≤ l.outside)
outside_within l sectors read_only id is = outside_by l.outside sectors (eqb sectors 0) (ltb (2 ^ 54) sectors) (ltb l.outside sectors) refl refl refl is

long_by : (most longest : ℕ) (a b : Bool) → ltb longest 1518 ≡ a → ltb most longest ≡ b → (a || b) ≡ false → (1518 ≤ longest) × (longest ≤ most)
long_by most longest true b p q is = cc
long_by most longest false true p q is = cc
long_by most longest false false p q is = (ltb-false longest 1518 p, ltb-false most longest q)

long_within : (l : Limits) (mac : List ℕ) (longest : ℕ) → is_beyond l (LongNet mac longest) ≡ false → (1518 ≤ longest) × (longest ≤ l.frame)
long_within l mac longest is = long_by l.frame longest (ltb longest 1518) (ltb l.frame longest) refl refl is

both_false : (a b : Bool) → (a || b) ≡ false → (a ≡ false) × (b ≡ false)
both_false true b is = cc
both_false false b is = (refl, is)

each_within : (l : Limits) (shapes : List Shape) → are_beyond l shapes ≡ false → All (λ shape. is_beyond l shape ≡ false) shapes
each_within l [] is k d below = absurd (omega (arith, below))
each_within l (shape ∷ shapes) is zero d below = (both_false (is_beyond l shape) (are_beyond l shapes) is).0
each_within l (shape ∷ shapes) is (suc k) d below = each_within l shapes (both_false (is_beyond l shape) (are_beyond l shapes) is).1 k d (omega (arith, below))

-- The limits allow it.
shape_within : (l : Limits) (shape : Shape) → is_beyond l shape ≡ false → IsShapeWithin l shape
shape_within l (Net mac) within = tt
shape_within l (LongNet mac longest) within = (long_within l mac longest within).1
shape_within l (Block sectors read_only id) within = (sectors_within l sectors read_only id within).1
shape_within l (Outside sectors read_only id) within = (outside_within l sectors read_only id within).2
shape_within l Console within = tt
shape_within l Entropy within = tt

all_within : (l : Limits) (shapes : List Shape) → are_beyond l shapes ≡ false → All (IsShapeWithin l) shapes
all_within l shapes is k d below = shape_within l (get_or shapes k d) (each_within l shapes is k d below)

-- It is one that its kind is made as.
shape_long : (l : Limits) (shape : Shape) → is_beyond l shape ≡ false → IsLong shape
shape_long l (Net mac) within = tt
shape_long l (LongNet mac longest) within = let long = (long_within l mac longest within).0 in omega (arith, long)
shape_long l (Block sectors read_only id) within = tt
shape_long l (Outside sectors read_only id) within = tt
shape_long l Console within = tt
shape_long l Entropy within = tt

pub all_long : (l : Limits) (shapes : List Shape) → are_beyond l shapes ≡ false → All IsLong shapes
all_long l shapes is k d below = shape_long l (get_or shapes k d) (each_within l shapes is k d below)

-- A new device is sound.
shape_sound : (l : Limits) (shape : Shape) → FitsLimits l → is_beyond l shape ≡ false → HasBytes shape → IsSoundShape shape
shape_sound l (Net mac) fits within has = record { size = has.size; bytes = has.bytes }
shape_sound l (LongNet mac longest) fits within has =
    let long = long_within l mac longest within in
    record { address = record { size = has.size; bytes = has.bytes }; longer = omega (arith, long.0); most = omega (arith, long.1, fits.frame) }
shape_sound l (Block sectors read_only id) fits within has =
    let count = sectors_within l sectors read_only id within in
    record { some = count.0; few = omega (arith, count.1, fits.sectors); id_size = has.size; id_bytes = has.bytes }
shape_sound l (Outside sectors read_only id) fits within has =
    let count = outside_within l sectors read_only id within in
    record { some = count.0; few = count.1; id_size = has.size; id_bytes = has.bytes }
shape_sound l Console fits within has = tt
shape_sound l Entropy fits within has = tt

numbers_fit : (shape : Shape) → (device_id_of shape < 2 ^ 32) × (offered_of shape < 2 ^ 64) × (queues_of shape ≤ 2)
numbers_fit (Net mac) = (omega arith, omega arith, omega arith)
numbers_fit (LongNet mac longest) = (omega arith, omega arith, omega arith)
numbers_fit (Block sectors true id) = (omega arith, omega arith, omega arith)
numbers_fit (Block sectors false id) = (omega arith, omega arith, omega arith)
numbers_fit (Outside sectors true id) = (omega arith, omega arith, omega arith)
numbers_fit (Outside sectors false id) = (omega arith, omega arith, omega arith)
numbers_fit Console = (omega arith, omega arith, omega arith)
numbers_fit Entropy = (omega arith, omega arith, omega arith)

have_first : (packed : Bool) (count : ℕ) → HavePositions packed (replicate count first_queue) (replicate count first_positions)
have_first packed zero = tt
have_first packed (suc count) = (record { taking_fits = omega arith; used_fits = omega arith; where_ready = refl }, have_first packed count)

kind_sound : (base bytes : ℕ) (shape : Shape) → IsSoundKind bytes (first_device base bytes shape).registers (first_kind shape)
kind_sound base bytes (Net mac) = record { few = omega arith; are = All-nil _ }
kind_sound base bytes (LongNet mac longest) = record { few = omega arith; are = All-nil _ }
kind_sound base bytes (Block sectors read_only id) = record { few = omega arith; sound = All-nil _; where_ready = refl }
kind_sound base bytes (Outside sectors read_only id) = record { few = omega arith; sound = All-nil _; where_ready = refl }
kind_sound base bytes Console = record { columns = omega arith; rows = omega arith; text = record { few = omega arith; are = λ i. omega arith } }
kind_sound base bytes Entropy = record { few = omega arith; are = λ i. omega arith }

first_device_sound : (l : Limits) (base bytes : ℕ) (shape : Shape) → FitsLimits l → IsBase base bytes → bytes < 2 ^ 64 → base < 2 ^ 64 → is_beyond l shape ≡ false → HasBytes shape → IsSoundDevice base bytes (first_device base bytes shape)
first_device_sound l base bytes shape numbers based fits low within has =
    let small = numbers_fit shape in
    let as_made = first_as shape (shape_long l shape within) in
    record {
      shape = rw as_made (shape_sound l shape numbers within has);
      device_id = rw as_made refl;
      offered = rw as_made refl;
      queues = rw as_made (length-replicate (queues_of shape) first_queue);
      based = based;
      ram_base = refl;
      ram_len = refl;
      registers = first_sound (device_id_of shape) (offered_of shape) (queues_of shape) base bytes small.0 small.1 small.2 low fits;
      positions = have_first (is_packed_by (first_common 0)) (queues_of shape);
      kind = kind_sound base bytes shape;
    }

-- Disks of the right sizes, dealt to devices: each device has as many sectors as it is to have.
dealt_counts : (shapes : List Shape) (disks : List (List Sector)) → disk_sizes shapes ≡ map length disks → map length (dealt_sectors shapes disks) ≡ map sector_count shapes
dealt_counts [] disks is = refl
dealt_counts (Net mac ∷ shapes) disks is = ap (λ xs. 0 ∷ xs) (dealt_counts shapes disks is)
dealt_counts (LongNet mac longest ∷ shapes) disks is = ap (λ xs. 0 ∷ xs) (dealt_counts shapes disks is)
dealt_counts (Outside sectors read_only id ∷ shapes) disks is = ap (λ xs. 0 ∷ xs) (dealt_counts shapes disks is)
dealt_counts (Console ∷ shapes) disks is = ap (λ xs. 0 ∷ xs) (dealt_counts shapes disks is)
dealt_counts (Entropy ∷ shapes) disks is = ap (λ xs. 0 ∷ xs) (dealt_counts shapes disks is)
dealt_counts (Block sectors read_only id ∷ shapes) [] is = cc
dealt_counts (Block sectors read_only id ∷ shapes) (disk ∷ disks) is =
    let here : length disk ≡ sectors = cc in
    let rest : disk_sizes shapes ≡ map length disks = cc in
    rw (here, dealt_counts shapes disks rest) refl

pub dealt_sizes : (states : List DeviceState) (disks : List (List Sector)) → disk_sizes (map (λ (d : DeviceState). made_as d.kind) states) ≡ map length disks
    → map length (dealt_sectors (map (λ (d : DeviceState). made_as d.kind) states) disks) ≡ map (λ (d : DeviceState). sector_count (made_as d.kind)) states
dealt_sizes states disks is = dealt_counts (map (λ (d : DeviceState). made_as d.kind) states) disks is ∙ sym (shape_counts states)

pub dealt_whole : (shapes : List Shape) (disks : List (List Sector)) → All AreWhole disks → All AreWhole (dealt_sectors shapes disks)
dealt_whole [] disks whole k d below = absurd (omega (arith, below))
dealt_whole (Net mac ∷ shapes) disks whole zero d below = All-nil IsWhole
dealt_whole (LongNet mac longest ∷ shapes) disks whole zero d below = All-nil IsWhole
dealt_whole (Outside sectors read_only id ∷ shapes) disks whole zero d below = All-nil IsWhole
dealt_whole (Console ∷ shapes) disks whole zero d below = All-nil IsWhole
dealt_whole (Entropy ∷ shapes) disks whole zero d below = All-nil IsWhole
dealt_whole (Net mac ∷ shapes) disks whole (suc k) d below = dealt_whole shapes disks whole k d (omega (arith, below))
dealt_whole (LongNet mac longest ∷ shapes) disks whole (suc k) d below = dealt_whole shapes disks whole k d (omega (arith, below))
dealt_whole (Outside sectors read_only id ∷ shapes) disks whole (suc k) d below = dealt_whole shapes disks whole k d (omega (arith, below))
dealt_whole (Console ∷ shapes) disks whole (suc k) d below = dealt_whole shapes disks whole k d (omega (arith, below))
dealt_whole (Entropy ∷ shapes) disks whole (suc k) d below = dealt_whole shapes disks whole k d (omega (arith, below))
dealt_whole (Block sectors read_only id ∷ shapes) [] whole zero d below = All-nil IsWhole
dealt_whole (Block sectors read_only id ∷ shapes) [] whole (suc k) d below = dealt_whole shapes [] whole k d (omega (arith, below))
dealt_whole (Block sectors read_only id ∷ shapes) (disk ∷ disks) whole zero d below = whole 0 disk (omega arith)
dealt_whole (Block sectors read_only id ∷ shapes) (disk ∷ disks) whole (suc k) d below =
    dealt_whole shapes disks (λ j e lt. whole (suc j) e (omega (arith, lt))) k d (omega (arith, below))

pub first_shapes : (base bytes : ℕ) (shapes : List Shape) → All IsLong shapes → map (λ (d : DeviceState). made_as d.kind) (map (first_device base bytes) shapes) ≡ shapes
first_shapes base bytes [] long = refl
first_shapes base bytes (shape ∷ shapes) long =
    rw (first_as shape (All-head IsLong shape shapes long)) (ap (λ xs. shape ∷ xs) (first_shapes base bytes shapes (All-tail IsLong shape shapes long)))

first_counts : (base bytes : ℕ) (shapes : List Shape) → All IsLong shapes → map (λ (d : DeviceState). sector_count (made_as d.kind)) (map (first_device base bytes) shapes) ≡ map sector_count shapes
first_counts base bytes shapes long = shape_counts (map (first_device base bytes) shapes) ∙ ap (map sector_count) (first_shapes base bytes shapes long)

-- New devices know the base.
first_base : (base bytes : ℕ) (shapes : List Shape) → 1 ≤ length shapes → base_of (map (first_device base bytes) shapes) ≡ base
first_base base bytes [] some = absurd (omega (arith, some))
first_base base bytes (shape ∷ shapes) some = refl

-- A machine as it is made is sound.
made_sound : (l : Limits) (base : ℕ) (bytes : List ℕ) (shapes : List Shape) (sizes : List ℕ) (disks : List (List Sector)) → FitsLimits l → HasLimits l base (length bytes) shapes sizes → IsBytes bytes
    → All HasBytes shapes → map length disks ≡ sizes → All AreWhole disks → IsSound (made_machine base bytes shapes disks)
made_sound l base bytes shapes sizes disks numbers within are ids sizes_are whole =
    let many : length (map (first_device base (length bytes)) shapes) ≡ length shapes = rw length-map refl in
    let counts : disk_sizes shapes ≡ map length disks = same_sizes (disk_sizes shapes) sizes within.same ∙ sym sizes_are in
    let fits : length bytes < 2 ^ 64 = omega (arith, within.size.few, numbers.pages) in
    let low : base < 2 ^ 64 = omega (arith, within.based.reach, within.size.some) in
    let each = each_within l shapes within.none_beyond in
    record {
      whole_pages = omega (arith, within.size.whole);
      some_pages = omega (arith, within.size.some);
      few_pages = omega (arith, within.size.few, numbers.pages);
      some_devices = rw many within.some_devices;
      few_devices = rw many within.few_devices;
      devices = rw (first_base base (length bytes) shapes within.some_devices) (All-map (IsSoundDevice base (length bytes)) (first_device base (length bytes)) shapes (λ k d below. first_device_sound l base (length bytes) (get_or shapes k d) numbers within.based fits low (each k d below) (ids k d below)));
      bytes = are;
      disks = dealt_counts shapes disks counts ∙ sym (first_counts base (length bytes) shapes (all_long l shapes within.none_beyond));
      sectors = dealt_whole shapes disks whole;
    }

-- It is within the limits.
made_within : (l : Limits) (base : ℕ) (bytes : List ℕ) (shapes : List Shape) (sizes : List ℕ) (disks : List (List Sector)) → HasLimits l base (length bytes) shapes sizes → IsWithinLimits l (made_machine base bytes shapes disks)
made_within l base bytes shapes sizes disks within = record {
  few_pages = omega (arith, within.size.few);
  few_sectors = subst (λ (xs : List Shape). All (IsShapeWithin l) xs) (sym (first_shapes base (length bytes) shapes (all_long l shapes within.none_beyond))) (all_within l shapes within.none_beyond);
}

-- A machine of the same shape is within the limits too.
pub stays_within : (l : Limits) (m k : MachineState) → IsSameShape m k → IsWithinLimits l m → IsWithinLimits l k
stays_within l m k same within = record {
  few_pages = rw same.ram within.few_pages;
  few_sectors = subst (λ (xs : List Shape). All (IsShapeWithin l) xs) (sym same.devices) within.few_sectors;
}

-- The greatest limits allow every sound machine.
sound_within : (shape : Shape) → IsSoundShape shape → IsShapeWithin greatest shape
sound_within (Net mac) sound = tt
sound_within (LongNet mac longest) sound = sound.most
sound_within (Block sectors read_only id) sound = sound.few
sound_within (Outside sectors read_only id) sound = sound.few
sound_within Console sound = tt
sound_within Entropy sound = tt

pub greatest_allow : (m : MachineState) → IsSound m → IsWithinLimits greatest m
greatest_allow m sound = record {
  few_pages = sound.few_pages;
  few_sectors = All-map (IsShapeWithin greatest) (λ (d : DeviceState). made_as d.kind) m.devices (λ k d below. sound_within (made_as (get_or m.devices k d).kind) (sound.devices k d below).shape);
}

-- The same machine, as it is put together.
made_is_saved : (base : ℕ) (shapes : List Shape) (disks : List (List Sector)) (bytes : List ℕ) (states : List DeviceState) → All IsLong shapes → states ≡ map (first_device base (length bytes)) shapes → saved_machine bytes states disks ≡ made_machine base bytes shapes disks
made_is_saved base shapes disks bytes states long are = rw (are, first_shapes base (length bytes) shapes long) refl

-- The sectors of good disks.
good_sizes : {A : Type 0} (state : A → DiskState) (xs : List A) → map length (map (λ x. map Some (state x).sectors) xs) ≡ map (λ x. length (state x).sectors) xs
good_sizes state [] = refl
good_sizes state (x ∷ xs) = rw (length-map, good_sizes state xs) refl

good_whole : {A : Type 0} (state : A → DiskState) (xs : List A) → All (λ x. AreSectors (state x).sectors) xs → All AreWhole (map (λ x. map Some (state x).sectors) xs)
good_whole state xs whole = All-map AreWhole (λ x. map Some (state x).sectors) xs (λ k d below. All-map IsWhole Some (state (get_or xs k d)).sectors (whole k d below))

-- What a machine is restored from as it is made: it is sound, within its limits, and the machine of its board.
pub record IsPut {A : Type 0} (state : A → DiskState) (l : Limits) (base : ℕ) (bytes : List ℕ) (shapes : List Shape) (xs : List A) (states : List DeviceState) (bad : List (List Bool)) : Type 0 where
  pub made : saved_machine bytes states (marked_sectors (map state xs) bad) ≡ made_machine base bytes shapes (map (λ x. map Some (state x).sectors) xs)
  pub sound : IsSound (saved_machine bytes states (marked_sectors (map state xs) bad))
  pub within : IsWithinLimits l (saved_machine bytes states (marked_sectors (map state xs) bad))
  pub shapes_are : shapes ≡ map (λ (d : DeviceState). made_as d.kind) states
  pub marks : AreMarksOf (map state xs) bad

pub is_put : {A : Type 0} (state : A → DiskState) (l : Limits) (base : ℕ) (bytes : List ℕ) (shapes : List Shape) (xs : List A) (states : List DeviceState) (bad : List (List Bool)) → FitsLimits l → make_refusal l base (length bytes) shapes (map (λ x. length (state x).sectors) xs) ≡ None
    → IsBytes bytes → All HasBytes shapes → All (λ x. AreSectors (state x).sectors) xs → states ≡ map (first_device base (length bytes)) shapes → bad ≡ good_marks (map state xs) → IsPut state l base bytes shapes xs states bad
is_put state l base bytes shapes xs states bad numbers none are ids whole states_are bad_are =
    let sizes : List ℕ = map (λ x. length (state x).sectors) xs in
    let disks : List (List Sector) = map (λ x. map Some (state x).sectors) xs in
    let content : marked_sectors (map state xs) bad ≡ disks = ap (marked_sectors (map state xs)) bad_are ∙ good_content state xs in
    let limited = limits l base (length bytes) shapes sizes none in
    let long = all_long l shapes limited.none_beyond in
    let made : saved_machine bytes states (marked_sectors (map state xs) bad) ≡ made_machine base bytes shapes disks = ap (saved_machine bytes states) content ∙ made_is_saved base shapes disks bytes states long states_are in
    record {
      made = made;
      sound = rw made (made_sound l base bytes shapes sizes disks numbers limited are ids (good_sizes state xs) (good_whole state xs whole));
      within = subst (λ (m : MachineState). IsWithinLimits l m) (sym made) (made_within l base bytes shapes sizes disks limited);
      shapes_are = sym (ap (map (λ (d : DeviceState). made_as d.kind)) states_are ∙ first_shapes base (length bytes) shapes long);
      marks = rw bad_are (good_are_marks (map state xs));
    }

-- The bytes of RAM are as many as it is to have.
pub ram_long : (ram : RamOf) → length (ram_bytes ram) ≡ ram_size ram
ram_long (Pages pages) = length-replicate {A = ℕ} (4096 * pages) 0
ram_long (Region region) = refl

-- What a board says, as it is put together.
pub is_put_on : {A : Type 0} (state : A → DiskState) (l : Limits) (base : ℕ) (ram : RamOf) (bytes : List ℕ) (shapes : List Shape) (xs : List A) (states : List DeviceState) (bad : List (List Bool)) → FitsLimits l → make_refusal l base (ram_size ram) shapes (map (λ x. length (state x).sectors) xs) ≡ None → bytes ≡ ram_bytes ram
    → IsBytes bytes → All HasBytes shapes → All (λ x. AreSectors (state x).sectors) xs → states ≡ map (first_device base (ram_size ram)) shapes → bad ≡ good_marks (map state xs) → IsPut state l base bytes shapes xs states bad
is_put_on state l base ram bytes shapes xs states bad numbers none is are ids whole states_are bad_are =
    let long : length bytes ≡ ram_size ram = ap length is ∙ ram_long ram in
    is_put state l base bytes shapes xs states bad numbers (rw long none) are ids whole (rw long states_are) bad_are
