-- How large a machine may be, as its host says.
use Rattle.std.specs.Prelude.{◌≤◌, ℕ, List, map, All}
use Rattle.guestmem.specs.declared.limits.TheConstants.{PAGES_GREATEST, PAGES_MAX}
use Rattle.net.specs.declared.limits.TheConstants.{FRAME_GREATEST, FRAME_MAX}
use Rattle.blk.specs.declared.shape.TheConstants.{OUTSIDE_GREATEST, SECTORS_GREATEST, SECTORS_MAX}
use Rattle.machine.specs.EffectLaws.{IsSameShape}
use Rattle.machine.specs.Layout.{pages_of}
use Rattle.machine.specs.Shapes.{made_as}
use Rattle.machine.specs.Sound.{IsSound}
use Rattle.machine.specs.State.{MachineState}
use Rattle.machine.specs.declared.limits.Limits.{Limits}
use Rattle.machine.specs.declared.shape.Shape.{Shape}
use Rattle.machine.specs.declared.shape.Shape.TheVariants.{Block, LongNet, Outside}

-- The limits of a host that asks for no more: no disk is outside.
abbrev pub usual : Limits
usual = record { pages = PAGES_MAX; sectors = SECTORS_MAX; frame = FRAME_MAX; outside = 0 }

-- All that a machine and its stream can have.
abbrev pub greatest : Limits
greatest = record { pages = PAGES_GREATEST; sectors = SECTORS_GREATEST; frame = FRAME_GREATEST; outside = OUTSIDE_GREATEST }

-- The limits allow a device of this shape.
abbrev pub IsShapeWithin : Limits → Shape → Type 0
IsShapeWithin limits (Block sectors read_only id) = sectors ≤ limits.sectors
IsShapeWithin limits (Outside sectors read_only id) = sectors ≤ limits.outside
IsShapeWithin limits (LongNet mac longest) = longest ≤ limits.frame
IsShapeWithin limits _ = Unit {0}

-- The limits allow a machine with this many pages and devices of these shapes.
pub record AreWithin (limits : Limits) (pages : ℕ) (shapes : List Shape) : Type 0 where
  pub few_pages : pages ≤ limits.pages
  pub few_sectors : All (IsShapeWithin limits) shapes

-- The limits allow this machine.
abbrev pub IsWithinLimits : Limits → MachineState → Type 0
IsWithinLimits limits m = AreWithin limits (pages_of m) (map (λ d. made_as d.kind) m.devices)

-- A machine of the same shape is within the limits too. Each call leaves a machine of the same shape, so it stays within them.
abbrev pub LimitsStay : Type 0
LimitsStay = (limits : Limits) (m k : MachineState) → IsSameShape m k → IsWithinLimits limits m → IsWithinLimits limits k

-- The greatest limits allow every sound machine.
abbrev pub GreatestAllow : Type 0
GreatestAllow = (m : MachineState) → IsSound m → IsWithinLimits greatest m
