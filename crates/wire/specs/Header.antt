-- The header of a stream: "VMIG", the version, the pages of RAM, and the devices.
use Rattle.std.specs.Prelude.{◌≡◌, ◌≤◌, ◌==◌, ◌&&◌, ◌||◌, nat_lt, ◌↔◌, Bool, true, false, ℕ, codes, if◌then◌else◌, List, [], ◌∷◌, ◌++◌, length, All, Option, Some, None}
use Rattle.std.specs.List.{flat_map, list_any}
use Rattle.wire.specs.Numbers.{digits, flag}
use Rattle.machine.specs.Layout.{Layout, layout_by}
use Rattle.machine.specs.Sound.{IsSoundShape}
use Rattle.net.specs.declared.limits.TheConstants.{FRAME_MAX}
use Rattle.machine.specs.declared.limits.Limits.{Limits}
use Rattle.machine.specs.declared.shape.Shape.{Shape}
use Rattle.machine.specs.declared.shape.Shape.TheVariants.{Net, LongNet, Block, Outside, Console, Entropy}
use Rattle.wire.specs.declared.header.Header as headers

-- Whether the limits allow a device that no version before 3 has: a network device for long frames, or a disk outside.
unfoldable pub allow_late : Limits → Bool
allow_late limits = nat_lt FRAME_MAX limits.frame || nat_lt 0 limits.outside

-- How many bytes the encoding of a shape has, given its first byte: the device ID, or where the limits allow a device since version 3 the
-- number of one: 129 of a network device for long frames, 130 of a block device whose disk is outside.
abbrev pub shape_length : Limits → ℕ → Option ℕ
shape_length limits number =
    if number == 1 then Some 7 else if number == 2 then Some 30 else if number == 3 then Some 1 else if number == 4 then Some 1
    else if number == 129 && allow_late limits then Some 9 else if number == 130 && allow_late limits then Some 30 else None

-- The encoding of a shape: the device ID, and then for a network device its MAC, and for a block device how many sectors it
-- has, whether it is read-only, and its id. A network device for long frames has the number 129, its MAC, and its longest frame; a block
-- device whose disk is outside has the number 130, and what a block device has.
unfoldable pub spelled_shape : Shape → List ℕ
spelled_shape (Net mac) = 1 ∷ mac
spelled_shape (LongNet mac longest) = 129 ∷ (mac ++ digits 2 longest)
spelled_shape (Block sectors read_only id) = 2 ∷ (digits 8 sectors ++ (flag read_only ∷ id))
spelled_shape (Outside sectors read_only id) = 130 ∷ (digits 8 sectors ++ (flag read_only ∷ id))
spelled_shape Console = 3 ∷ []
spelled_shape Entropy = 4 ∷ []

abbrev pub spelled_shapes : List Shape → List ℕ
spelled_shapes shapes = flat_map spelled_shape shapes

-- What a header says.
pub record Opening : Type 0 where
  pub version : ℕ
  pub pages : ℕ
  pub shapes : List Shape

-- What a header that was decoded says.
abbrev pub said : headers.Header → Opening
said found = record { version = found.version; pages = found.pages; shapes = found.shapes.items }

-- The magic bytes, the version, and the counts of pages and of devices.
unfoldable pub front : ℕ → ℕ → ℕ → List ℕ
front version pages count = codes "VMIG" ++ (digits 4 version ++ (digits 4 pages ++ digits 4 count))

abbrev pub header : Opening → List ℕ
header opening = front opening.version opening.pages (length opening.shapes) ++ spelled_shapes opening.shapes

-- The versions that there are.
pub record IsVersion (version : ℕ) : Type 0 where
  pub least : 1 ≤ version
  pub most : version ≤ 3

-- A device that versions have since 3: a network device for long frames, or a block device whose disk is outside.
abbrev pub is_late : Shape → Bool
is_late (Net mac) = false
is_late (LongNet mac longest) = true
is_late (Block sectors read_only id) = false
is_late (Outside sectors read_only id) = true
is_late Console = false
is_late Entropy = false

-- The version in which a machine with these devices is written.
abbrev pub version_of : List Shape → ℕ
version_of shapes = if list_any is_late shapes then 3 else 2

-- A header that there can be: of a version that there is, 1 to 4,294,967,295 pages, and 1 to 16 devices, each of a shape that a device
-- may have; and version 3 is that of the devices that version 2 has not.
pub record IsHeader (opening : Opening) : Type 0 where
  pub known : IsVersion opening.version
  pub some_page : 1 ≤ opening.pages
  pub few_pages : opening.pages ≤ 4294967295
  pub some_device : 1 ≤ length opening.shapes
  pub few_devices : length opening.shapes ≤ 16
  pub sound : All IsSoundShape opening.shapes
  pub has : (opening.version ≡ 3) ↔ (list_any is_late opening.shapes ≡ true)

-- The bytes begin with this header, and `rest` follows it.
pub record Begins (bytes : List ℕ) (opening : Opening) (rest : List ℕ) : Type 0 where
  pub good : IsHeader opening
  pub whole : bytes ≡ header opening ++ rest

-- The items of a machine with this many pages and these devices.
abbrev pub layout_in : Opening → Layout
layout_in opening = layout_by opening.pages opening.shapes

-- The header of a machine in the version in which it is sent.
abbrev pub opening_of : ℕ → List Shape → Opening
opening_of pages shapes = record { version = version_of shapes; pages = pages; shapes = shapes }
