-- Whole good records: which record may follow which.
use Rattle.std.specs.Prelude.{◌≡◌, ℕ, ◌+◌, ◌*◌, List, [], ◌∷◌, ◌++◌, drop, IsSome}
use Rattle.wire.specs.DeviceBody.{IsBodyOf}
use Rattle.wire.specs.Records.{Record, page, sector, round_end, device, commit, zero_page, HasSpelling, IsOf}
use Rattle.wire.specs.Stream.{last_named, rounds}
use Rattle.guestmem.specs.Item as items
use Rattle.guestmem.specs.Item.{Item}
use Rattle.machine.specs.Layout.{Layout, IsItemIn}
use Rattle.machine.specs.State.{DeviceState}
use Rattle.machine.specs.declared.shape.Shape.{Shape}
use Rattle.receiver.specs.Opened.{Opened, opened_layout}

-- The number of device records among records.
unfoldable pub devices_in : List Record → ℕ
devices_in [] = 0
devices_in (device d body ∷ rs) = devices_in rs + 1
devices_in (_ ∷ rs) = devices_in rs

-- Each item is named by a record.
abbrev pub AreNamed : Layout → List Record → Type 0
AreNamed l rs = (i : Item) → IsItemIn l i → IsSome (last_named i rs)

-- A device's record that may come next: every item is named, the device's number is the next one, and the body is that of a
-- device of the shape that is next, which is sound at the machine's base and which the version has.
pub record IsNextDevice (opening : Opened) (before : List Record) (d : ℕ) (body : List ℕ) : Type 0 where
  pub named : AreNamed (opened_layout opening) before
  pub next : d ≡ devices_in before
  pub shape : Shape
  pub others : List Shape
  pub here : drop d opening.shapes ≡ shape ∷ others
  pub state : DeviceState
  pub is : IsBodyOf opening.version shape opening.ram.base (4096 * opening.pages) body state

-- The record may follow those before it. The digest ends a stream, and is none of these records.
abbrev pub MayFollow : Opened → List Record → Record → Type 0
MayFollow opening before (page n bytes) = IsItemIn (opened_layout opening) (items.page n) × (devices_in before ≡ 0)
MayFollow opening before (sector d n content) = IsItemIn (opened_layout opening) (items.sector d n) × (devices_in before ≡ 0)
MayFollow opening before (round_end n) = (n ≡ rounds before + 1) × (devices_in before ≡ 0)
MayFollow opening before (device d body) = IsNextDevice opening before d body
MayFollow opening before (commit digest) = ⊥
MayFollow opening before (zero_page n) = IsItemIn (opened_layout opening) (items.page n) × (devices_in before ≡ 0)

pub record IsNextRecord (opening : Opened) (before : List Record) (r : Record) : Type 0 where
  pub spells : HasSpelling r
  pub has : IsOf opening.version r
  pub may : MayFollow opening before r

-- Each record may follow those before it.
unfoldable pub AreGood : Opened → List Record → List Record → Type 0
AreGood opening before [] = Unit {0}
AreGood opening before (r ∷ rs) = IsNextRecord opening before r × AreGood opening (before ++ r ∷ []) rs
