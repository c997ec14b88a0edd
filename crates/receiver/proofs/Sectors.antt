-- The sectors of the disks of some devices, one of which changes.
use Rattle.std.proofs.Common.{◌≡◌, ◌≢◌, ℕ, zero, suc, ◌+◌, ◌<◌, ◌⊎◌, inl, inr, Bool, true, false, cond, Option, List, [], ◌∷◌, length, map, get_or, replicate, take, Some, None, refl, sym, ap, subst, ◌∙◌, arith}
use Rattle.std.specs.Prelude.{All, IsTrue, nat_lt, set, slice_get}
use Rattle.std.specs.List.{AllByRecursion}
use Rattle.std.proofs.lemmas.Bool.{lt-ltb}
use Rattle.std.proofs.Math.Seq.{map-set_same}
use Rattle.std.proofs.lemmas.List.{get_or-map, get_or-set_same, length-map, length-replicate, length-set, map-set}
use Rattle.std.proofs.lemmas.List.Elements.{All-get_or, All-nil, All-set, recursion_from_All}
use Rattle.std.proofs.lemmas.List.Sums.{sum_by-cons}
use Rattle.std.proofs.lemmas.Option.{slice_get-get_or}
use Rattle.guestmem.specs.Item as items
use Rattle.guestmem.specs.Item.{Item}
use Rattle.blk.specs.Disk.{AreSectors, DiskState}
use Rattle.blk.specs.Sectors.{AreWhole, IsWhole, Sector, is_bad, sectors_of}
use Rattle.blk.proofs.Marks.{are_whole, length_sectors, marks_of}
use Rattle.machine.specs.BadSectors.{bad_on}
use Rattle.machine.specs.EffectLaws.{sector_on}
use Rattle.machine.specs.First.{AreMarksOf, dealt_sectors, given, left_over, marked_sectors, marks_in}
use Rattle.machine.specs.Shapes.{disk_size_of, disk_sizes, sector_count}
use Rattle.machine.specs.Seen.{Marks}
use Rattle.machine.specs.Sound.{IsSoundShape}
use Rattle.machine.specs.declared.shape.Shape.{Shape}
use Rattle.machine.specs.declared.shape.Shape.TheVariants.{Net, LongNet, Block, Outside, Console, Entropy}
use Rattle.receiver.specs.Disks.{AreHonestDisks, all_marks_in, sizes_in}
use Rattle.receiver.specs.Fed.{AreWritten}
use Rattle.receiver.specs.Spots.{disks_before}
use Rattle.wire.specs.Records.{sector}
use Rattle.wire.specs.Stream.{content_of, record_in}

-- A device has a disk exactly where it has sectors.
pub record HasDisk (shape : Shape) : Type 0 where
  pub size : disk_size_of shape ≡ Some (sector_count shape)
  pub counts : nat_lt 0 (sector_count shape) ≡ true

pub record HasNoDisk (shape : Shape) : Type 0 where
  pub size : disk_size_of shape ≡ None
  pub counts : nat_lt 0 (sector_count shape) ≡ false
  pub none : sector_count shape ≡ 0

pub with_or_without : (shape : Shape) → IsSoundShape shape → HasDisk shape ⊎ HasNoDisk shape
with_or_without (Net mac) good = inr (record { size = refl; counts = refl; none = refl })
with_or_without (LongNet mac longest) good = inr (record { size = refl; counts = refl; none = refl })
with_or_without (Outside sectors read_only id) good = inr (record { size = refl; counts = refl; none = refl })
with_or_without (Block sectors read_only id) good = inl (record { size = refl; counts = lt-ltb 0 sectors (omega (arith, good.some)) })
with_or_without Console good = inr (record { size = refl; counts = refl; none = refl })
with_or_without Entropy good = inr (record { size = refl; counts = refl; none = refl })

before_with : (shape : Shape) (shapes : List Shape) (dev : ℕ) → HasDisk shape → disks_before (shape ∷ shapes) (suc dev) ≡ suc (disks_before shapes dev)
before_with shape shapes dev h =
    sum_by-cons (λ (s : Shape). cond (nat_lt 0 (sector_count s)) 1 0) shape (take dev shapes) ∙ ap (λ b. cond b 1 0 + disks_before shapes dev) h.counts ∙ omega arith

before_without : (shape : Shape) (shapes : List Shape) (dev : ℕ) → HasNoDisk shape → disks_before (shape ∷ shapes) (suc dev) ≡ disks_before shapes dev
before_without shape shapes dev h =
    sum_by-cons (λ (s : Shape). cond (nat_lt 0 (sector_count s)) 1 0) shape (take dev shapes) ∙ ap (λ b. cond b 1 0 + disks_before shapes dev) h.counts ∙ omega arith

-- Where a device has a sector, its disk is among the disks, and what is dealt to it is that of this disk.
pub record IsDealt (shapes : List Shape) (xs : List (List Sector)) (dev : ℕ) (y : List Sector) : Type 0 where
  pub below : disks_before shapes dev < length (disk_sizes shapes)
  pub size : get_or (disk_sizes shapes) (disks_before shapes dev) 0 ≡ get_or (map sector_count shapes) dev 0
  pub found : get_or (dealt_sectors shapes xs) dev [] ≡ get_or xs (disks_before shapes dev) []
  pub changed : dealt_sectors shapes (set xs (disks_before shapes dev) y) ≡ set (dealt_sectors shapes xs) dev y

dealt_by : (shape : Shape) (shapes : List Shape) (xs : List (List Sector)) (dev : ℕ) (y : List Sector) → HasDisk shape ⊎ HasNoDisk shape
    → ((zs : List (List Sector)) (k : ℕ) → length zs ≡ length (disk_sizes shapes) → 0 < get_or (map sector_count shapes) k 0 → IsDealt shapes zs k y)
    → length xs ≡ length (disk_sizes (shape ∷ shapes)) → 0 < get_or (map sector_count (shape ∷ shapes)) dev 0 → IsDealt (shape ∷ shapes) xs dev y
dealt_by shape shapes [] dev y (inl h) more size some =
    let s : disk_sizes (shape ∷ shapes) ≡ sector_count shape ∷ disk_sizes shapes = rw h.size refl in
    absurd (omega (arith, size, ap length s))
dealt_by shape shapes (x ∷ xs) zero y (inl h) more size some = record {
  below = rw h.size (omega arith);
  size = rw h.size refl;
  found = rw h.size refl;
  changed = rw h.size refl;
}
dealt_by shape shapes (x ∷ xs) (suc dev) y (inl h) more size some =
    let s : disk_sizes (shape ∷ shapes) ≡ sector_count shape ∷ disk_sizes shapes = rw h.size refl in
    let i = more xs dev (omega (arith, size, ap length s)) some in
    record {
      below = rw (before_with shape shapes dev h, s) (omega (arith, i.below));
      size = rw (before_with shape shapes dev h, s) i.size;
      found = rw (before_with shape shapes dev h, h.size) i.found;
      changed = rw (before_with shape shapes dev h, h.size) (ap (λ ys. x ∷ ys) i.changed);
    }
dealt_by shape shapes xs zero y (inr h) more size some = absurd (omega (arith, some, h.none))
dealt_by shape shapes xs (suc dev) y (inr h) more size some =
    let s : disk_sizes (shape ∷ shapes) ≡ disk_sizes shapes = rw h.size refl in
    let i = more xs dev (size ∙ ap length s) some in
    record {
      below = rw (before_without shape shapes dev h, s) i.below;
      size = rw (before_without shape shapes dev h, s) i.size;
      found = rw (before_without shape shapes dev h, h.size) i.found;
      changed = rw (before_without shape shapes dev h, h.size) (ap (λ (ys : List (List Sector)). [] ∷ ys) i.changed);
    }

dealt_to : (shapes : List Shape) (xs : List (List Sector)) (dev : ℕ) (y : List Sector) → AllByRecursion IsSoundShape shapes → length xs ≡ length (disk_sizes shapes) → 0 < get_or (map sector_count shapes) dev 0 → IsDealt shapes xs dev y
dealt_to [] xs dev y good size some = absurd (omega (arith, some))
dealt_to (shape ∷ shapes) xs dev y good size some =
    dealt_by shape shapes xs dev y (with_or_without shape good.0) (λ zs k e f. dealt_to shapes zs k y good.1 e f) size some

-- The marks of the disks.
pub marks_count : (ds : List DiskState) (bad : List (List Bool)) → AreMarksOf ds bad → length bad ≡ length ds
marks_count ds bad are = sym (length-map bad length) ∙ ap length are ∙ length-map ds (λ (d : DiskState). length d.sectors)

pub marks_length : (ds : List DiskState) (bad : List (List Bool)) (k : ℕ) (d : DiskState) → AreMarksOf ds bad → k < length ds → length (get_or bad k []) ≡ length (get_or ds k d).sectors
marks_length ds bad k d are lt =
    sym (get_or-map length bad k [] 0 (omega (arith, lt, marks_count ds bad are))) ∙ ap (λ ns. get_or ns k 0) are ∙ get_or-map (λ (x : DiskState). length x.sectors) ds k d 0 lt

pub marks_set : (ds : List DiskState) (bad : List (List Bool)) (k : ℕ) (d : DiskState) (m : List Bool) → AreMarksOf ds bad → length m ≡ length d.sectors → AreMarksOf (set ds k d) (set bad k m)
marks_set ds bad k d m are e = map-set length bad k m ∙ rw (e, are) refl ∙ sym (map-set (λ (x : DiskState). length x.sectors) ds k d)

marked_set : (ds : List DiskState) (bad : List (List Bool)) (k : ℕ) (d : DiskState) (m : List Bool) → length bad ≡ length ds → marked_sectors (set ds k d) (set bad k m) ≡ set (marked_sectors ds bad) k (sectors_of d.sectors m)
marked_set [] bad k d m e = refl
marked_set (x ∷ ds) [] k d m e = absurd (omega (arith, e))
marked_set (x ∷ ds) (b ∷ bad) zero d m e = refl
marked_set (x ∷ ds) (b ∷ bad) (suc k) d m e = ap (λ (ys : List (List Sector)). sectors_of x.sectors b ∷ ys) (marked_set ds bad k d m (omega (arith, e)))

marked_get : (ds : List DiskState) (bad : List (List Bool)) (k : ℕ) (d : DiskState) → length bad ≡ length ds → k < length ds → get_or (marked_sectors ds bad) k [] ≡ sectors_of (get_or ds k d).sectors (get_or bad k [])
marked_get [] bad k d e lt = absurd (omega (arith, lt))
marked_get (x ∷ ds) [] k d e lt = absurd (omega (arith, e))
marked_get (x ∷ ds) (b ∷ bad) zero d e lt = refl
marked_get (x ∷ ds) (b ∷ bad) (suc k) d e lt = marked_get ds bad k d (omega (arith, e)) (omega (arith, lt))

marked_count : (ds : List DiskState) (bad : List (List Bool)) → length bad ≡ length ds → length (marked_sectors ds bad) ≡ length ds
marked_count [] bad e = refl
marked_count (x ∷ ds) [] e = absurd (omega (arith, e))
marked_count (x ∷ ds) (b ∷ bad) e = ap suc (marked_count ds bad (omega (arith, e)))

pub marked_sizes : (ds : List DiskState) (bad : List (List Bool)) → length bad ≡ length ds → map length (marked_sectors ds bad) ≡ sizes_in ds
marked_sizes [] bad e = refl
marked_sizes (x ∷ ds) [] e = absurd (omega (arith, e))
marked_sizes (x ∷ ds) (b ∷ bad) e = rw (length_sectors x.sectors b, marked_sizes ds bad (omega (arith, e))) refl

pub marked_whole : (ds : List DiskState) (bad : List (List Bool)) → All (λ (d : DiskState). AreSectors d.sectors) ds → All AreWhole (marked_sectors ds bad)
marked_whole [] bad h k d below = absurd (omega (arith, below))
marked_whole (x ∷ ds) [] h k d below = absurd (omega (arith, below))
marked_whole (x ∷ ds) (b ∷ bad) h zero d below = are_whole x.sectors b (h 0 x (omega arith))
marked_whole (x ∷ ds) (b ∷ bad) h (suc k) d below = marked_whole ds bad (λ j e lt. h (suc j) e (omega (arith, lt))) k d (omega (arith, below))

-- A device that has a sector of this number has a disk of so many.
pub disk_at : (shapes : List Shape) (dev n : ℕ) → All IsSoundShape shapes → n < get_or (map sector_count shapes) dev 0 → (disks_before shapes dev < length (disk_sizes shapes)) × (n < get_or (disk_sizes shapes) (disks_before shapes dev) 0)
disk_at shapes dev n good there =
    let dealt = dealt_to shapes (replicate (length (disk_sizes shapes)) []) dev [] (recursion_from_All IsSoundShape shapes good) (length-replicate (length (disk_sizes shapes)) []) (omega (arith, there)) in
    (dealt.below, omega (arith, there, dealt.size))

pub disk_below : (shapes : List Shape) (ds : List DiskState) (dev n : ℕ) → All IsSoundShape shapes → sizes_in ds ≡ disk_sizes shapes → n < get_or (map sector_count shapes) dev 0 → disks_before shapes dev < length ds
disk_below shapes ds dev n good fits there =
    let dealt = dealt_to shapes (replicate (length (disk_sizes shapes)) []) dev [] (recursion_from_All IsSoundShape shapes good) (length-replicate (length (disk_sizes shapes)) []) (omega (arith, there)) in
    omega (arith, dealt.below, ap length fits, length-map ds (λ (x : DiskState). length x.sectors))

pub disk_size : (shapes : List Shape) (ds : List DiskState) (dev n : ℕ) → All IsSoundShape shapes → sizes_in ds ≡ disk_sizes shapes → n < get_or (map sector_count shapes) dev 0 → n < get_or (sizes_in ds) (disks_before shapes dev) 0
disk_size shapes ds dev n good fits there =
    let dealt = dealt_to shapes (replicate (length (disk_sizes shapes)) []) dev [] (recursion_from_All IsSoundShape shapes good) (length-replicate (length (disk_sizes shapes)) []) (omega (arith, there)) in
    omega (arith, there, dealt.size, ap (λ ns. get_or ns (disks_before shapes dev) 0) fits)

-- What is known of disks after one of them changed that keeps its own.
pub marks_kept : (ds : List DiskState) (k : ℕ) (d : DiskState) → marks_in d ≡ marks_in (get_or ds k d) → all_marks_in (set ds k d) ≡ all_marks_in ds
marks_kept ds k d same = map-set_same marks_in ds k d d same

pub sizes_kept : (ds : List DiskState) (k : ℕ) (d : DiskState) → length d.sectors ≡ length (get_or ds k d).sectors → sizes_in (set ds k d) ≡ sizes_in ds
sizes_kept ds k d same = map-set_same (λ (x : DiskState). length x.sectors) ds k d d same

pub honest_at : (ds : List DiskState) (k : ℕ) (d : DiskState) → k < length ds → AreHonestDisks (all_marks_in ds) → IsTrue (get_or ds k d).honest
honest_at ds k d lt all =
    let at : get_or (all_marks_in ds) k (marks_in d) ≡ marks_in (get_or ds k d) = get_or-map marks_in ds k d (marks_in d) lt in
    subst (λ (m : Marks). IsTrue m.honest) at (All-get_or (λ (m : Marks). IsTrue m.honest) (all_marks_in ds) k (marks_in d) (omega (arith, lt, length-map ds marks_in)) all)

whole_at : (xs : List (List Sector)) (k : ℕ) → All AreWhole xs → AreWhole (get_or xs k [])
whole_at [] k all = All-nil IsWhole
whole_at (x ∷ xs) zero all = all 0 x (omega arith)
whole_at (x ∷ xs) (suc k) all = whole_at xs k (λ j e lt. all (suc j) e (omega (arith, lt)))

first_same : {A : Type 0} {a b : A} {x y : List A} → a ∷ x ≡ b ∷ y → a ≡ b
first_same e = cc

rest_same : {A : Type 0} {a b : A} {x y : List A} → a ∷ x ≡ b ∷ y → x ≡ y
rest_same e = cc

-- Which sectors are bad.
lengths_on : (xs : List (List Sector)) → map length (bad_on xs) ≡ map length xs
lengths_on [] = refl
lengths_on (x ∷ xs) = rw (length-map x is_bad, lengths_on xs) refl

pub written_sizes : (ds : List DiskState) (bad : List (List Bool)) (xs : List (List Sector)) → AreWritten ds bad xs → map length xs ≡ sizes_in ds
written_sizes ds bad xs w = sym (lengths_on xs) ∙ ap (map length) w.bad_are ∙ w.marks

pub marked_bad : (ds : List DiskState) (bad : List (List Bool)) → AreMarksOf ds bad → bad_on (marked_sectors ds bad) ≡ bad
marked_bad [] [] are = refl
marked_bad [] (b ∷ bad) are = absurd cc
marked_bad (x ∷ ds) [] are = absurd cc
marked_bad (x ∷ ds) (b ∷ bad) are = rw (marks_of x.sectors b (first_same are), marked_bad ds bad (rest_same are)) refl

given_bad : (size : Option ℕ) (xs ys : List (List Sector)) → bad_on xs ≡ bad_on ys → map is_bad (given [] size xs) ≡ map is_bad (given [] size ys)
given_bad None xs ys same = refl
given_bad (Some n) [] [] same = refl
given_bad (Some n) [] (y ∷ ys) same = absurd cc
given_bad (Some n) (x ∷ xs) [] same = absurd cc
given_bad (Some n) (x ∷ xs) (y ∷ ys) same = first_same same

left_bad : (size : Option ℕ) (xs ys : List (List Sector)) → bad_on xs ≡ bad_on ys → bad_on (left_over size xs) ≡ bad_on (left_over size ys)
left_bad None xs ys same = same
left_bad (Some n) [] [] same = refl
left_bad (Some n) [] (y ∷ ys) same = absurd cc
left_bad (Some n) (x ∷ xs) [] same = absurd cc
left_bad (Some n) (x ∷ xs) (y ∷ ys) same = rest_same same

pub dealt_bad : (shapes : List Shape) (xs ys : List (List Sector)) → bad_on xs ≡ bad_on ys → bad_on (dealt_sectors shapes xs) ≡ bad_on (dealt_sectors shapes ys)
dealt_bad [] xs ys same = refl
dealt_bad (shape ∷ shapes) xs ys same =
    rw (given_bad (disk_size_of shape) xs ys same, dealt_bad shapes (left_over (disk_size_of shape) xs) (left_over (disk_size_of shape) ys) (left_bad (disk_size_of shape) xs ys same)) refl

-- A sector of the disk of a device is written.
abbrev pub set_on : List (List Sector) → ℕ → ℕ → Sector → List (List Sector)
set_on xs k n o = set xs k (set (get_or xs k []) n o)

pub record IsChanged (shapes : List Shape) (xs : List (List Sector)) (dev n : ℕ) (o : Sector) : Type 0 where
  pub now : dealt_sectors shapes (set_on xs (disks_before shapes dev) n o) ≡ set (dealt_sectors shapes xs) dev (set (get_or (dealt_sectors shapes xs) dev []) n o)
  pub within : n < length (get_or (dealt_sectors shapes xs) dev [])

pub changed : (shapes : List Shape) (xs : List (List Sector)) (dev n : ℕ) (o : Sector) → All IsSoundShape shapes → map length xs ≡ disk_sizes shapes → n < get_or (map sector_count shapes) dev 0 → IsChanged shapes xs dev n o
changed shapes xs dev n o good fits there =
    let k = disks_before shapes dev in
    let size : length xs ≡ length (disk_sizes shapes) = sym (length-map xs length) ∙ ap length fits in
    let dealt = dealt_to shapes xs dev (set (get_or xs k []) n o) (recursion_from_All IsSoundShape shapes good) size (omega (arith, there)) in
    record {
      now = dealt.changed ∙ ap (λ (ys : List Sector). set (dealt_sectors shapes xs) dev (set ys n o)) (sym dealt.found);
      within =
          let at : get_or (map length xs) k 0 ≡ length (get_or xs k []) = get_or-map length xs k [] 0 (omega (arith, size, dealt.below)) in
          omega (arith, there, dealt.size, ap (λ ns. get_or ns k 0) fits, at, ap length dealt.found);
    }

-- The disks after it: one has changed, and keeps its own.
bad_set : (xs : List (List Sector)) (bad : List (List Bool)) (k n : ℕ) (o : Sector) → bad_on xs ≡ bad → bad_on (set_on xs k n o) ≡ set bad k (set (get_or bad k []) n (is_bad o))
bad_set [] bad k n o is = rw (sym is) refl
bad_set (x ∷ xs) bad zero n o is = rw (sym is) (ap (λ bs. bs ∷ bad_on xs) (map-set is_bad x n o))
bad_set (x ∷ xs) bad (suc k) n o is = rw (sym is) (ap (λ bs. map is_bad x ∷ bs) (bad_set xs (bad_on xs) k n o refl))

pub more_written : (ds : List DiskState) (bad : List (List Bool)) (xs : List (List Sector)) (k n : ℕ) (d : DiskState) (o : Sector) → AreWritten ds bad xs → k < length ds → IsWhole o
    → marks_in d ≡ marks_in (get_or ds k d) → length d.sectors ≡ length (get_or ds k d).sectors
    → (IsTrue (get_or ds k d).honest → sectors_of d.sectors (set (get_or bad k []) n (is_bad o)) ≡ set (sectors_of (get_or ds k d).sectors (get_or bad k [])) n o)
    → AreWritten (set ds k d) (set bad k (set (get_or bad k []) n (is_bad o))) (set_on xs k n o)
more_written ds bad xs k n d o w low whole marks long content =
    let m = set (get_or bad k []) n (is_bad o) in
    let size : length m ≡ length d.sectors = length-set (get_or bad k []) n (is_bad o) ∙ marks_length ds bad k d w.marks low ∙ sym long in
    let count = marks_count ds bad w.marks in
    record {
      marks = marks_set ds bad k d m w.marks size;
      whole = All-set AreWhole xs k (set (get_or xs k []) n o) (All-set IsWhole (get_or xs k []) n o whole (whole_at xs k w.whole)) w.whole;
      bad_are = bad_set xs bad k n o w.bad_are;
      held = λ honest.
          let was : AreHonestDisks (all_marks_in ds) = subst AreHonestDisks (marks_kept ds k d marks) honest in
          let same : marked_sectors ds bad ≡ xs = w.held was in
          let here : get_or xs k [] ≡ sectors_of (get_or ds k d).sectors (get_or bad k []) = ap (λ ys. get_or ys k []) (sym same) ∙ marked_get ds bad k d count low in
          marked_set ds bad k d m count ∙ ap (λ ys. set ys k (sectors_of d.sectors m)) same ∙ ap (set xs k) (content (honest_at ds k d low was) ∙ ap (λ ss. set ss n o) (sym here));
    }

-- What stands at a place of the disks, after a sector was set.
get_set_same : (xs : List Sector) (n : ℕ) (o : Sector) → n < length xs → slice_get (set xs n o) n ≡ Some o
get_set_same xs n o lt = slice_get-get_or (set xs n o) n o (omega (arith, lt, length-set xs n o)) ∙ ap Some (get_or-set_same xs n o o lt)

get_set_other : (xs : List Sector) (n b : ℕ) (o : Sector) → b ≢ n → slice_get (set xs n o) b ≡ slice_get xs b
get_set_other [] n b o other = refl
get_set_other (x ∷ xs) zero zero o other = absurd (other refl)
get_set_other (x ∷ xs) zero (suc b) o other = refl
get_set_other (x ∷ xs) (suc n) zero o other = refl
get_set_other (x ∷ xs) (suc n) (suc b) o other = get_set_other xs n b o (λ e. other (ap suc e))

pub set_here : (disks : List (List Sector)) (dev n : ℕ) (o : Sector) → n < length (get_or disks dev []) → sector_on (slice_get (set disks dev (set (get_or disks dev []) n o)) dev) n ≡ Some o
set_here [] dev n o lt = absurd (omega (arith, lt))
set_here (x ∷ disks) zero n o lt = get_set_same x n o lt
set_here (x ∷ disks) (suc dev) n o lt = set_here disks dev n o lt

pub set_there : (disks : List (List Sector)) (dev n a b : ℕ) (o : Sector) → (a ≡ dev → b ≡ n → ⊥) → sector_on (slice_get (set disks dev (set (get_or disks dev []) n o)) a) b ≡ sector_on (slice_get disks a) b
set_there [] dev n a b o other = refl
set_there (x ∷ disks) zero n zero b o other = get_set_other x n b o (λ e. other refl e)
set_there (x ∷ disks) zero n (suc a) b o other = refl
set_there (x ∷ disks) (suc dev) n zero b o other = refl
set_there (x ∷ disks) (suc dev) n (suc a) b o other = set_there disks dev n a b o (λ e f. other (ap suc e) f)

sectors_alike : (a b c d : ℕ) → a ≡ c → b ≡ d → items.sector a b ≡ items.sector c d
sectors_alike a b c d e f = rw (e, f) refl

-- The records of the items, after a sector was set.
pub record_here : (v : ℕ) (ram : List ℕ) (disks : List (List Sector)) (dev n : ℕ) (o : Sector) → n < length (get_or disks dev []) → record_in v ram (set disks dev (set (get_or disks dev []) n o)) (items.sector dev n) ≡ sector dev n o
record_here v ram disks dev n o lt = ap (λ found. sector dev n (content_of found)) (set_here disks dev n o lt)

pub record_there : (v : ℕ) (ram : List ℕ) (disks : List (List Sector)) (dev n : ℕ) (o : Sector) (i : Item) → i ≢ items.sector dev n → record_in v ram (set disks dev (set (get_or disks dev []) n o)) i ≡ record_in v ram disks i
record_there v ram disks dev n o (items.page k) other = refl
record_there v ram disks dev n o (items.sector a b) other = ap (λ found. sector a b (content_of found)) (set_there disks dev n a b o (λ e f. other (sectors_alike a b dev n e f)))
