-- Images that the caller has back.
use Rattle.std.specs.Prelude.{◌≡◌, ℕ, ◌++◌, not, nat_lt, if◌then◌else◌, Bool, true, false, List, [], ◌∷◌, All, length, map, Option, Some, None}
use Rattle.std.specs.List.{flat_map}
use Rattle.blk.specs.Sectors.{Sector, sectors_of}
use Rattle.machine.specs.Seen.{DeviceSeen, Seen}
use Rattle.machine.specs.Shapes.{disk_size_of, made_as}
use Rattle.mapped_disk.specs.declared.image.Image.{Image}
use Rattle.receiver.specs.Receiving.{Received}
use Rattle.c_handle.specs.ArrivalSeen.{ArrivalSeen, Over}
use Rattle.c_handle.specs.Awaited.{awaited_sizes}
use Rattle.c_handle.specs.Kept.{KeptSeen, State, Still, Moving, Arriving, Lent, parked_in}
use Rattle.c_machine.specs.Mapping.{contents, counts}
use Rattle.c_machine.specs.Named.{are_zeros}
use Rattle.c_handle.specs.OnHandle.{RefusesBoth, Unless}
use Rattle.c_machine.specs.Status.{bad_images, done, lent, no_machine, too_small}

-- The sectors of the devices that have a disk, in their order.
abbrev pub disk_if : Option ℕ → List Sector → List (List Sector)
disk_if None sectors = []
disk_if (Some n) sectors = sectors ∷ []

abbrev pub disk_in : DeviceSeen → List (List Sector)
disk_in d = disk_if (disk_size_of (made_as d.state.kind)) d.sectors

abbrev pub disks_in : List DeviceSeen → List (List Sector)
disks_in devices = flat_map disk_in devices

-- The slot has as many sectors as the disk, with the same content, but where the disk has a bad sector the slot may have any
-- bytes.
pub record IsHandedBack (disk : List Sector) (slot : List (List ℕ)) : Type 0 where
  pub marks : List Bool
  pub agrees : disk ≡ sectors_of slot marks

-- The slots are those of the disks, in their order.
abbrev pub AreHandedBack : List (List Sector) → List (List (List ℕ)) → Type 0
AreHandedBack [] [] = Unit {0}
AreHandedBack (disk ∷ disks) (slot ∷ slots) = IsHandedBack disk slot × AreHandedBack disks slots
AreHandedBack _ _ = ⊥

abbrev pub held_by : Option Image → List (List (List ℕ))
held_by None = []
held_by (Some image) = image.content ∷ []

-- The first slots have the content of the disks, and the others are of no sectors.
pub record HasUnmapped (m : Seen) (images new_images : List Image) : Type 0 where
  pub slots : List (List (List ℕ))
  pub rest : List (List (List ℕ))
  pub back : AreHandedBack (disks_in m.devices) slots
  pub first : contents new_images ≡ slots ++ rest
  pub empty : All (λ c. c ≡ []) rest
  pub count : length new_images ≡ length images

-- Why these images are not slots for this number of disks: one has sectors, or there are fewer of them.
abbrev pub slots_refusal : ℕ → List Image → Option ℕ
slots_refusal disks images = if not (are_zeros (counts images)) then Some bad_images else if nat_lt (length images) disks then Some too_small else None

-- How many images are given back: those of the disks, if these lie in memory of the caller.
abbrev pub images_of : Bool → State → ℕ
images_of false k = 0
images_of true (Still m) = length (disks_in m.devices)
images_of true (Moving l) = length (disks_in l.machine.devices)
images_of true (Arriving r) = length (awaited_sizes r)
images_of true (Lent x) = length (disks_in (parked_in x).devices)

abbrev pub images_in : KeptSeen → ℕ
images_in k = images_of k.is_mapped k.state

-- Why nothing is released: its RAM is lent, or these are no slots for the images.
abbrev pub release_refusal_in : State → Option ℕ → Option ℕ
release_refusal_in (Lent x) refusal = Some lent
release_refusal_in _ refusal = refusal

abbrev pub release_refusal_of : KeptSeen → List Image → Option ℕ
release_refusal_of k images = release_refusal_in k.state (slots_refusal (images_in k) images)

-- The first slots have what the disks hold over which a machine was to arrive, and the others are of no sectors.
pub record HasGivenUp (r : Received) (images new_images : List Image) : Type 0 where
  pub rest : List (List (List ℕ))
  pub first : contents new_images ≡ map (λ d. d.sectors) r.disks ++ rest
  pub empty : All (λ c. c ≡ []) rest
  pub count : length new_images ≡ length images

abbrev pub HasUnmappedArrival : ArrivalSeen → List Image → List Image → Type 0
HasUnmappedArrival (Over r) images new_images = HasGivenUp r images new_images
HasUnmappedArrival _ images new_images = ⊥

-- Where there is no image, the slots stay as they are.
abbrev pub HasReleasedFrom : Bool → State → List Image → List Image → Type 0
HasReleasedFrom false k images new_images = new_images ≡ images
HasReleasedFrom true (Still m) images new_images = HasUnmapped m images new_images
HasReleasedFrom true (Moving l) images new_images = HasUnmapped l.machine images new_images
HasReleasedFrom true (Arriving r) images new_images = HasUnmappedArrival r images new_images
HasReleasedFrom true (Lent x) images new_images = ⊥

pub record IsReleased (k : KeptSeen) (images new_images : List Image) (status : ℕ) (after : Option KeptSeen) : Type 0 where
  pub status_is : status ≡ done
  pub gone : after ≡ None
  pub has : HasReleasedFrom k.is_mapped k.state images new_images

-- What there was is gone, and its images are back; or the status says why not, and nothing changed.
abbrev pub Releases : Option KeptSeen → List Image → List Image → ℕ → Option KeptSeen → Type 0
Releases None images new_images status after = RefusesBoth status after None new_images images no_machine
Releases (Some k) images new_images status after = Unless (release_refusal_of k images) (RefusesBoth status after (Some k) new_images images) (IsReleased k images new_images status after)
