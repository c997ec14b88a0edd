-- Disks as they are dealt to devices, one after another.
use Rattle.std.proofs.Common.{◌≡◌, ℕ, suc, ◌+◌, ◌<◌, List, [], ◌∷◌, ◌++◌, length, map, replicate, take, get_or, Bool, false, Option, Some, None, refl, ap, sym, ◌∙◌}
use Rattle.std.specs.Option.{option_to_list}
use Rattle.std.proofs.lemmas.List.{length-replicate, map-append, take_more}
use Rattle.guestmem.specs.Memory.{Memory}
use Rattle.blk.specs.Disk.{DiskState}
use Rattle.blk.specs.Sectors.{SectorsState, sectors_of}
use Rattle.machine.specs.First.{AreMarksOf, dealt_sectors, dealt_marks, given, good_marks, marked, marked_sectors, marks_in, next_disk, left_over, saved_machine, seen_with, seen_devices, counted, dealt_calls}
use Rattle.machine.specs.Held.{IsHeld}
use Rattle.machine.specs.Seen.{DeviceSeen, Marks, calls_of, disk_marks, marks_of, no_marks, sectors_of as content_of, state_of}
use Rattle.machine.specs.Shapes.{disk_size_of, made_as}
use Rattle.machine.specs.Sound.{IsSound}
use Rattle.machine.specs.State.{DeviceState}
use Rattle.machine.specs.declared.shape.Shape.{Shape}

pub behind : {A : Type 0} (xs : List A) (y : A) (ys : List A) → (xs ++ y ∷ []) ++ ys ≡ xs ++ y ∷ ys
behind [] y ys = refl
behind (x ∷ xs) y ys = ap (λ zs. x ∷ zs) (behind xs y ys)

-- No mark: every sector is good.
all_seen : (content : List (List ℕ)) → sectors_of content (replicate (length content) false) ≡ map Some content
all_seen [] = refl
all_seen (s ∷ content) = ap (λ xs. Some s ∷ xs) (all_seen content)

pub one_good : {A : Type 0} (state : A → DiskState) (xs : List A) (i : ℕ) (x : A) (bad pushed : List (List Bool)) (marks : List Bool) → i < length xs → x ≡ get_or xs i x → marks ≡ replicate (length (state x).sectors) false
    → pushed ≡ bad ++ marks ∷ [] → bad ≡ good_marks (map state (take i xs)) → pushed ≡ good_marks (map state (take (i + 1) xs))
one_good state xs i x bad pushed marks below is marks_are pushed_is so_far =
    let more : take (i + 1) xs ≡ take i xs ++ x ∷ [] = rw (← is) at (take_more xs i x below) in
    rw (more, map-append state (take i xs) (x ∷ []), map-append (λ (d : DiskState). replicate (length d.sectors) false) (map state (take i xs)) (state x ∷ []), pushed_is, so_far, marks_are) refl

-- A device without a disk, and one that gets the next.
pub next_without : (all pushed : List DeviceSeen) (d : DeviceState) (left rest : List DeviceState) (disks others : List SectorsState) (disk : Option SectorsState) (device : DeviceSeen) (whole : List DeviceSeen)
    → left ≡ d ∷ rest → disk_size_of (made_as d.kind) ≡ None → disk ≡ None → others ≡ disks → device ≡ seen_with d disk → pushed ≡ all ++ device ∷ []
    → all ++ seen_devices left disks ≡ whole → pushed ++ seen_devices rest others ≡ whole
next_without all pushed d left rest disks others disk device whole left_is size disk_is same device_is pushed_is so_far =
    rw (pushed_is, behind all device (seen_devices rest others), device_is, disk_is, same) (rw (left_is, size) at so_far)

pub next_with : (all pushed : List DeviceSeen) (d : DeviceState) (left rest : List DeviceState) (disks others : List SectorsState) (disk : Option SectorsState) (device : DeviceSeen) (size : ℕ) (whole : List DeviceSeen)
    → left ≡ d ∷ rest → disk_size_of (made_as d.kind) ≡ Some size → next_disk (Some size) disks ≡ disk → left_over (Some size) disks ≡ others → device ≡ seen_with d disk → pushed ≡ all ++ device ∷ []
    → all ++ seen_devices left disks ≡ whole → pushed ++ seen_devices rest others ≡ whole
next_with all pushed d left rest disks others disk device size whole left_is size_is disk_is others_are device_is pushed_is so_far =
    rw (pushed_is, behind all device (seen_devices rest others), device_is, ← disk_is, ← others_are) (rw (left_is, size_is) at so_far)

pub no_length : {A : Type 0} (xs : List A) → length xs ≡ 0 → xs ≡ []
no_length [] none = refl
no_length (x ∷ xs) none = cc

-- What a call of `next` takes from the front.
pub first_taken : (disks others : List SectorsState) (disk : Option SectorsState) (size : ℕ) → disks ≡ option_to_list disk ++ others → (disk ≡ None → disks ≡ []) → next_disk (Some size) disks ≡ disk
first_taken disks others (Some d) size is none = rw is refl
first_taken disks others None size is none = rw (none refl) refl

pub rest_taken : (disks others : List SectorsState) (disk : Option SectorsState) (size : ℕ) → disks ≡ option_to_list disk ++ others → (disk ≡ None → disks ≡ []) → left_over (Some size) disks ≡ others
rest_taken disks others (Some d) size is none = rw is refl
rest_taken disks others None size is none = let empty : disks ≡ [] = none refl in rw empty (sym empty ∙ is)

-- What is seen of devices that got their disks.
pub seen_states : (states : List DeviceState) (disks : List SectorsState) → map (λ (x : DeviceSeen). x.state) (seen_devices states disks) ≡ states
seen_states [] disks = refl
seen_states (d ∷ states) disks = ap (λ xs. d ∷ xs) (seen_states states (left_over (disk_size_of (made_as d.kind)) disks))

pub seen_shapes : (states : List DeviceState) (disks : List SectorsState) → map (λ (x : DeviceSeen). made_as x.state.kind) (seen_devices states disks) ≡ map (λ (d : DeviceState). made_as d.kind) states
seen_shapes [] disks = refl
seen_shapes (d ∷ states) disks = ap (λ xs. (made_as d.kind) ∷ xs) (seen_shapes states (left_over (disk_size_of (made_as d.kind)) disks))

left_mapped : {A : Type 0} (f : SectorsState → A) (size : Option ℕ) (disks : List SectorsState) → map f (left_over size disks) ≡ left_over size (map f disks)
left_mapped f None disks = refl
left_mapped f (Some size) [] = refl
left_mapped f (Some size) (disk ∷ disks) = refl

content_given : (size : Option ℕ) (disks : List SectorsState) → content_of (next_disk size disks) ≡ given [] size (map (λ (s : SectorsState). s.content) disks)
content_given None disks = refl
content_given (Some size) [] = refl
content_given (Some size) (disk ∷ disks) = refl

marks_given : (size : Option ℕ) (disks : List SectorsState) → marks_of (next_disk size disks) ≡ given no_marks size (map disk_marks disks)
marks_given None disks = refl
marks_given (Some size) [] = refl
marks_given (Some size) (disk ∷ disks) = refl

calls_given : (size : Option ℕ) (disks : List SectorsState) → calls_of (next_disk size disks) ≡ given None size (map (λ (s : SectorsState). Some s.calls) disks)
calls_given None disks = refl
calls_given (Some size) [] = refl
calls_given (Some size) (disk ∷ disks) = refl

seen_sectors : (states : List DeviceState) (disks : List SectorsState) → map (λ (x : DeviceSeen). x.sectors) (seen_devices states disks) ≡ dealt_sectors (map (λ (d : DeviceState). made_as d.kind) states) (map (λ (s : SectorsState). s.content) disks)
seen_sectors [] disks = refl
seen_sectors (d ∷ states) disks =
    rw (content_given (disk_size_of (made_as d.kind)) disks, seen_sectors states (left_over (disk_size_of (made_as d.kind)) disks), left_mapped (λ (s : SectorsState). s.content) (disk_size_of (made_as d.kind)) disks) refl

pub seen_marks : (states : List DeviceState) (disks : List SectorsState) → map (λ (x : DeviceSeen). x.marks) (seen_devices states disks) ≡ dealt_marks (map (λ (d : DeviceState). made_as d.kind) states) (map disk_marks disks)
seen_marks [] disks = refl
seen_marks (d ∷ states) disks =
    rw (marks_given (disk_size_of (made_as d.kind)) disks, seen_marks states (left_over (disk_size_of (made_as d.kind)) disks), left_mapped disk_marks (disk_size_of (made_as d.kind)) disks) refl

pub seen_calls : (states : List DeviceState) (disks : List SectorsState) → map (λ (x : DeviceSeen). x.calls) (seen_devices states disks) ≡ dealt_calls (map (λ (d : DeviceState). made_as d.kind) states) (map (λ (s : SectorsState). Some s.calls) disks)
seen_calls [] disks = refl
seen_calls (d ∷ states) disks =
    rw (calls_given (disk_size_of (made_as d.kind)) disks, seen_calls states (left_over (disk_size_of (made_as d.kind)) disks), left_mapped (λ (s : SectorsState). Some s.calls) (disk_size_of (made_as d.kind)) disks) refl

-- The machine that such devices make.
pub is_made : (ram : Memory) (states : List DeviceState) (disks : List SectorsState) (ds : List DeviceSeen) → ds ≡ seen_devices states disks
    → state_of (record { memory = ram; devices = ds }) ≡ saved_machine ram.bytes states (map (λ (s : SectorsState). s.content) disks)
is_made ram states disks ds is = rw (is, seen_states states disks, seen_sectors states disks) refl

pub is_held : (shapes : List Shape) (ram : Memory) (states : List DeviceState) (disks : List SectorsState) (ds : List DeviceSeen) → ds ≡ seen_devices states disks
    → IsSound (saved_machine ram.bytes states (map (λ (s : SectorsState). s.content) disks)) → shapes ≡ map (λ (d : DeviceState). made_as d.kind) states → IsHeld shapes (record { memory = ram; devices = ds })
is_held shapes ram states disks ds is sound same = record {
  sound = rw (is_made ram states disks ds is) sound;
  shapes_are = same ∙ sym (ap (map (λ (x : DeviceSeen). made_as x.state.kind)) is ∙ seen_shapes states disks);
}

pub are_marks : (shapes : List Shape) (states : List DeviceState) (disks : List SectorsState) (marks : List Marks) (ds : List DeviceSeen) → ds ≡ seen_devices states disks → shapes ≡ map (λ (d : DeviceState). made_as d.kind) states
    → map disk_marks disks ≡ marks → map (λ (x : DeviceSeen). x.marks) ds ≡ dealt_marks shapes marks
are_marks shapes states disks marks ds is same marks_are = ap (map (λ (x : DeviceSeen). x.marks)) is ∙ seen_marks states disks ∙ rw (same, marks_are) refl

pub are_calls : (shapes : List Shape) (states : List DeviceState) (disks : List SectorsState) (calls : List (Option ℕ)) (ds : List DeviceSeen) → ds ≡ seen_devices states disks → shapes ≡ map (λ (d : DeviceState). made_as d.kind) states
    → map (λ (s : SectorsState). Some s.calls) disks ≡ calls → map (λ (x : DeviceSeen). x.calls) ds ≡ dealt_calls shapes calls
are_calls shapes states disks calls ds is same calls_are = ap (map (λ (x : DeviceSeen). x.calls)) is ∙ seen_calls states disks ∙ rw (same, calls_are) refl

-- The marks and the sectors of disks.
pub good_content : {A : Type 0} (state : A → DiskState) (xs : List A) → marked_sectors (map state xs) (good_marks (map state xs)) ≡ map (λ x. map Some (state x).sectors) xs
good_content state [] = refl
good_content state (x ∷ xs) = rw (all_seen (state x).sectors, good_content state xs) refl

pub good_are_marks : (disks : List DiskState) → AreMarksOf disks (good_marks disks)
good_are_marks [] = refl
good_are_marks (d ∷ disks) = rw (length-replicate (length d.sectors) false, good_are_marks disks) refl

pub marked_marks : {A : Type 0} (state : A → DiskState) (xs : List A) (bad : List (List Bool)) → AreMarksOf (map state xs) bad → map disk_marks (marked (map state xs) bad) ≡ map (λ x. marks_in (state x)) xs
marked_marks state [] bad are = refl
marked_marks state (x ∷ xs) [] are = cc
marked_marks state (x ∷ xs) (marks ∷ bad) are = let rest : AreMarksOf (map state xs) bad = cc in ap (λ ms. marks_in (state x) ∷ ms) (marked_marks state xs bad rest)

-- There are as many devices as states.
pub devices_long : (states : List DeviceState) (disks : List SectorsState) → length (seen_devices states disks) ≡ length states
devices_long [] disks = refl
devices_long (d ∷ ds) disks = ap suc (devices_long ds (left_over (disk_size_of (made_as d.kind)) disks))

-- Counts of calls change no sector and no mark.
pub counted_content : (ns : List ℕ) (disks : List SectorsState) → map (λ (s : SectorsState). s.content) (counted ns disks) ≡ map (λ (s : SectorsState). s.content) disks
counted_content [] disks = refl
counted_content (n ∷ ns) [] = refl
counted_content (n ∷ ns) (disk ∷ disks) = ap (λ xs. disk.content ∷ xs) (counted_content ns disks)

pub counted_marks : (ns : List ℕ) (disks : List SectorsState) → map disk_marks (counted ns disks) ≡ map disk_marks disks
counted_marks [] disks = refl
counted_marks (n ∷ ns) [] = refl
counted_marks (n ∷ ns) (disk ∷ disks) = ap (λ xs. disk_marks disk ∷ xs) (counted_marks ns disks)

pub counted_calls : {A : Type 0} (state : A → DiskState) (calls : A → ℕ) (xs : List A) (bad : List (List Bool)) → AreMarksOf (map state xs) bad
    → map (λ (s : SectorsState). Some s.calls) (counted (map calls xs) (marked (map state xs) bad)) ≡ map (λ x. Some (calls x)) xs
counted_calls state calls [] bad are = refl
counted_calls state calls (x ∷ xs) [] are = cc
counted_calls state calls (x ∷ xs) (marks ∷ bad) are = let rest : AreMarksOf (map state xs) bad = cc in ap (λ ns. Some (calls x) ∷ ns) (counted_calls state calls xs bad rest)
