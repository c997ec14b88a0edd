-- What a trace that is being read holds so far. Only the private parts of `parse` and `parse_events` name these: their own
-- contracts do not.
use Rattle.std.specs.Prelude.{◌<◌, IsTrue, ℕ, ◌==◌, nat_lt, ◌&&◌, if◌then◌else◌, List, [], ◌∷◌, ◌++◌, length, Option, Some, None, Bool, true, false}
use Rattle.machine.specs.declared.machine.TheConstants.{DEVICES_MAX}
use Rattle.machine.specs.declared.event.Event.{Event}
use Rattle.machine.specs.declared.shape.Shape.{Shape}
use Rattle.sender.specs.declared.event.LiveEvent.{LiveEvent}
use Rattle.sender.specs.declared.event.LiveEvent.TheVariants.{Guest}
use Rattle.traces.specs.declared.line.Line.{Line}
use Rattle.traces.specs.declared.line.Line.TheVariants.{Skip, Ram, Device, Act}
use Rattle.traces.specs.declared.building.Building.{Building}
use Rattle.traces.specs.declared.trace.Trace as trace
use Rattle.traces.specs.Numbers.{◌>>=◌}
use Rattle.traces.specs.Line.{line_says}

pub record Said : Type 0 where
  pub pages : Option ℕ
  pub shapes : List Shape
  pub events : List LiveEvent

abbrev pub nothing : Said
nothing = record { pages = None; shapes = []; events = [] }

abbrev pub said_of : Building → Said
said_of b = record { pages = b.pages; shapes = b.shapes.items; events = b.events.items }

abbrev pub said_in : trace.Trace → Said
said_in t = record { pages = Some t.pages; shapes = t.shapes.items; events = t.events.items }

abbrev pub with_ram : Said → ℕ → Option ℕ → Option Said
with_ram said pages None = Some (record said { pages = Some pages })
with_ram said pages (Some _) = None

abbrev pub has_pages : Option ℕ → Bool
has_pages None = false
has_pages (Some _) = true

-- with one more line, where it is allowed there
abbrev pub with_line : Said → Line → Option Said
with_line said Skip = Some said
with_line said (Ram pages) = with_ram said pages said.pages
with_line said (Device shape) =
    if has_pages said.pages && (length said.events == 0) && nat_lt (length said.shapes) DEVICES_MAX
    then Some (record said { shapes = said.shapes ++ shape ∷ [] }) else None
with_line said (Act event) =
    if nat_lt 0 (length said.shapes) then Some (record said { events = said.events ++ event ∷ [] }) else None

abbrev pub after_line : Said → List ℕ → Option Said
after_line said line = line_says line >>= with_line said

-- after each of the lines, where each is allowed
unfoldable pub after_lines : Said → List (List ℕ) → Option Said
after_lines said [] = Some said
after_lines said (line ∷ lines) = after_line said line >>= λ more. after_lines more lines

-- The events with one more line, where it is allowed among events alone.
abbrev pub with_event : List Event → Line → Option (List Event)
with_event events Skip = Some events
with_event events (Act (Guest event)) = Some (events ++ event ∷ [])
with_event events line = None

abbrev pub after_event : List Event → List ℕ → Option (List Event)
after_event events line = line_says line >>= with_event events

-- RAM and a device are there
abbrev pub IsWhole : Said → Type 0
IsWhole said = IsTrue (has_pages said.pages) × (0 < length said.shapes)
