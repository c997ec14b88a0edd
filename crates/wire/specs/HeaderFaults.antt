-- The faults of a header, each with its place: the number of bytes up to and including the one at which it is found. What a machine
-- may have is what the limits of the host that reads it allow.
use Rattle.std.specs.Prelude.{◌≡◌, ◌≢◌, ◌<◌, ◌≤◌, ◌⊎◌, ℕ, ◌+◌, nat_lt, if◌then◌else◌, false, true, List, [], ◌∷◌, ◌++◌, length, drop, All, Some, None}
use Rattle.std.specs.List.{list_any}
use Rattle.guestmem.specs.Number.{number_at}
use Rattle.net.specs.declared.limits.TheConstants.{FRAME_MAX}
use Rattle.machine.specs.Limits.{IsShapeWithin}
use Rattle.machine.specs.Sound.{IsSoundShape}
use Rattle.machine.specs.declared.limits.Limits.{Limits}
use Rattle.machine.specs.declared.shape.Shape.{Shape}
use Rattle.wire.specs.Header.{Begins, IsVersion, Opening, allow_late, is_late, shape_length, spelled_shape, spelled_shapes}
use Rattle.wire.specs.declared.header_error.HeaderError.{HeaderError}
use Rattle.wire.specs.declared.header_error.HeaderError.TheVariants.{BadMagic, BadVersion, BadShape, NoMemory}

-- How many pages and devices a machine may have.
pub record MayCount (limits : Limits) (pages count : ℕ) : Type 0 where
  pub some_page : 1 ≤ pages
  pub few_pages : pages ≤ limits.pages
  pub some_device : 1 ≤ count
  pub few_devices : count ≤ 16

-- The versions that a host with these limits reads: version 3 only where they allow a device that no version before it has.
pub record IsRead (limits : Limits) (version : ℕ) : Type 0 where
  pub known : IsVersion version
  pub late : 3 ≤ version → allow_late limits ≡ true

-- What the limits allow in a stream of this version: no device for long frames and no disk outside before version 3.
abbrev pub limits_in : ℕ → Limits → Limits
limits_in version limits = if nat_lt version 3 then record limits { frame = FRAME_MAX; outside = 0 } else limits

-- BadMagic, found at the fourth byte.
pub record IsBadMagic (bytes : List ℕ) (at : ℕ) : Type 0 where
  pub long : 4 ≤ length bytes
  pub never : number_at bytes 0 4 ≢ 0x47494d56
  pub there : at ≡ 4

-- BadVersion, found at the eighth byte.
pub record IsBadVersion (limits : Limits) (bytes : List ℕ) (at : ℕ) : Type 0 where
  pub long : 8 ≤ length bytes
  pub magic : number_at bytes 0 4 ≡ 0x47494d56
  pub never : ¬ (IsRead limits (number_at bytes 4 4))
  pub there : at ≡ 8

-- The first 16 bytes have the magic bytes and a version that is read, and these counts of pages and devices.
pub record Says (limits : Limits) (bytes : List ℕ) (pages count : ℕ) : Type 0 where
  pub long : 16 ≤ length bytes
  pub magic : number_at bytes 0 4 ≡ 0x47494d56
  pub known : IsRead limits (number_at bytes 4 4)
  pub pages_are : number_at bytes 8 4 ≡ pages
  pub count_is : number_at bytes 12 4 ≡ count

-- BadShape, found at the sixteenth byte.
pub record IsBadCount (limits : Limits) (bytes : List ℕ) (at : ℕ) : Type 0 where
  pub pages : ℕ
  pub count : ℕ
  pub says : Says limits bytes pages count
  pub never : ¬ (MayCount limits pages count)
  pub there : at ≡ 16

-- A shape that a device may have.
pub record IsShapeFor (limits : Limits) (s : Shape) : Type 0 where
  pub sound : IsSoundShape s
  pub within : IsShapeWithin limits s

-- Bytes that are no shape: a device ID that no device has, found at this byte; or (`IsBeyond`) as many bytes as a shape with
-- their first byte as device ID has, which are the encoding of no shape that a device may have.
pub record IsUnknown (limits : Limits) (bad : List ℕ) : Type 0 where
  pub number : ℕ
  pub is : bad ≡ number ∷ []
  pub never : shape_length limits number ≡ None

pub record IsBeyond (limits : Limits) (bad : List ℕ) : Type 0 where
  pub number : ℕ
  pub others : List ℕ
  pub is : bad ≡ number ∷ others
  pub long : shape_length limits number ≡ Some (length bad)
  pub never : (s : Shape) → IsShapeFor limits s → bad ≢ spelled_shape s

abbrev pub IsNoShape : Limits → List ℕ → Type 0
IsNoShape limits bad = IsUnknown limits bad ⊎ IsBeyond limits bad

-- BadShape, found at a device ID that is unknown, or at the end of the shape.
pub record IsBadShape (limits : Limits) (bytes : List ℕ) (at : ℕ) : Type 0 where
  pub pages : ℕ
  pub count : ℕ
  pub shapes : List Shape
  pub bad : List ℕ
  pub more : List ℕ
  pub says : Says limits bytes pages count
  pub may : MayCount limits pages count
  pub fewer : length shapes < count
  pub sound : All (IsShapeFor (limits_in (number_at bytes 4 4) limits)) shapes
  pub whole : drop 16 bytes ≡ spelled_shapes shapes ++ (bad ++ more)
  pub never : IsNoShape (limits_in (number_at bytes 4 4) limits) bad
  pub there : at ≡ 16 + (length (spelled_shapes shapes) + length bad)

-- BadVersion, found at the header's end: it is version 3, and version 2 has all of its devices.
pub record IsPlain (limits : Limits) (bytes : List ℕ) (at : ℕ) : Type 0 where
  pub pages : ℕ
  pub shapes : List Shape
  pub more : List ℕ
  pub says : Says limits bytes pages (length shapes)
  pub may : MayCount limits pages (length shapes)
  pub sound : All (IsShapeFor limits) shapes
  pub whole : drop 16 bytes ≡ spelled_shapes shapes ++ more
  pub late : number_at bytes 4 4 ≡ 3
  pub never : list_any is_late shapes ≡ false
  pub there : at ≡ 16 + length (spelled_shapes shapes)

-- The bytes show this fault of a header, at this byte.
abbrev pub ShowsFault : Limits → HeaderError → List ℕ → ℕ → Type 0
ShowsFault limits BadMagic bytes at = IsBadMagic bytes at
ShowsFault limits BadVersion bytes at = IsBadVersion limits bytes at ⊎ IsPlain limits bytes at
ShowsFault limits BadShape bytes at = IsBadCount limits bytes at ⊎ IsBadShape limits bytes at
ShowsFault limits NoMemory bytes at = ⊥

-- What a refusal means: there is this fault, unless memory was refused.
abbrev pub OnFault : HeaderError → Type 0 → Type 0
OnFault NoMemory F = Unit {0}
OnFault _ F = F

-- The bytes begin with no whole header, and show no fault of one.
pub record IsHeaderPart (limits : Limits) (bytes : List ℕ) : Type 0 where
  pub no_header : (opening : Opening) (rest : List ℕ) → ¬ (Begins bytes opening rest)
  pub no_fault : (k : HeaderError) (at : ℕ) → ¬ (ShowsFault limits k bytes at)
