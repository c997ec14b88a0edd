-- A whole trace, and the first bad line of a text that is none.
use Rattle.std.specs.Prelude.{◌≡◌, ◌<◌, ◌≤◌, ◌⊎◌, take, map, ℕ, ◌+◌, Bool, List, [], ◌∷◌, ◌++◌, length, position, codes, Option, Some, None}
use Rattle.std.specs.Str.{bytes_eq}
use Rattle.machine.specs.declared.machine.TheConstants.{DEVICES_MAX}
use Rattle.machine.specs.declared.event.Event.{Event}
use Rattle.machine.specs.declared.shape.Shape.{Shape}
use Rattle.sender.specs.declared.event.LiveEvent.{LiveEvent}
use Rattle.sender.specs.declared.event.LiveEvent.TheVariants.{Guest}
use Rattle.traces.specs.declared.line.Line.{Line}
use Rattle.traces.specs.declared.line.Line.TheVariants.{Skip, Ram, Device, Act}
use Rattle.traces.specs.declared.trace.Trace as trace
use Rattle.traces.specs.declared.trace.TraceError.{TraceError}
use Rattle.traces.specs.declared.trace.TraceError.TheVariants as error
use Rattle.traces.specs.Numbers.{◌>>=◌}
use Rattle.traces.specs.Lines.{lines_of}
use Rattle.traces.specs.Line.{line_says}

-- what a trace holds
pub record Contents : Type 0 where
  pub pages : ℕ
  pub shapes : List Shape
  pub events : List LiveEvent
  pub begin_line : ℕ

abbrev pub contents_of : trace.Trace → Contents
contents_of t = record { pages = t.pages; shapes = t.shapes.items; events = t.events.items; begin_line = t.begin_line }

-- with what a line says added in front, if it says something
abbrev pub onto : Line → List Line → List Line
onto Skip said = said
onto (Ram pages) said = Ram pages ∷ said
onto (Device shape) said = Device shape ∷ said
onto (Act event) said = Act event ∷ said

-- What lines say one after another, the skipped ones left out, or nothing where one of them is no line of a trace.
unfoldable pub lines_say : List (List ℕ) → Option (List Line)
lines_say [] = Some []
lines_say (line ∷ lines) = do
  first ← line_says line
  others ← lines_say lines
  Some (onto first others)

abbrev pub is_begin : List ℕ → Bool
is_begin line = bytes_eq line (codes "begin")

-- an index as a number counted from 1, or 0 for none
abbrev pub number_of_place : Option ℕ → ℕ
number_of_place None = 0
number_of_place (Some place) = place + 1

-- The number of the first line that is `begin`, or 0 where there is none.
abbrev pub begin_line_of : List (List ℕ) → ℕ
begin_line_of lines = number_of_place (position is_begin lines)

-- Lines that are a trace: one of RAM, 1 to 16 of devices, and then events.
pub record AreTrace (lines : List (List ℕ)) (c : Contents) : Type 0 where
  pub said : lines_say lines ≡ Some (Ram c.pages ∷ map Device c.shapes ++ map Act c.events)
  pub some_device : 0 < length c.shapes
  pub few_devices : length c.shapes ≤ DEVICES_MAX
  pub begins_there : c.begin_line ≡ begin_line_of lines

abbrev pub AreSomeTrace : List (List ℕ) → Type 0
AreSomeTrace lines = (c : Contents) × AreTrace lines c

abbrev pub guest_line : Event → Line
guest_line event = Act (Guest event)

-- Lines that are the guest's events alone, for an existing machine. There may be no event.
abbrev pub AreEvents : List (List ℕ) → List Event → Type 0
AreEvents lines events = lines_say lines ≡ Some (map guest_line events)

abbrev pub AreSomeEvents : List (List ℕ) → Type 0
AreSomeEvents lines = (events : List Event) × AreEvents lines events

-- Lines that begin some good lines: each is allowed where it is.
pub record AreBeginning (AreGood : List (List ℕ) → Type 0) (lines : List (List ℕ)) : Type 0 where
  pub others : List (List ℕ)
  pub good : AreGood (lines ++ others)

-- Of the lines, counted from 1, line n is the first that is not allowed where it is.
pub record IsFirstBad (AreGood : List (List ℕ) → Type 0) (lines : List (List ℕ)) (n : ℕ) : Type 0 where
  pub before : ℕ
  pub number : n ≡ before + 1
  pub there : before < length lines
  pub good : AreBeginning AreGood (take before lines)
  pub bad : AreBeginning AreGood (take n lines) → ⊥

-- Each line is allowed where it is, and line n, which would follow the last one, is missing.
pub record IsMissing (lines : List (List ℕ)) (n : ℕ) : Type 0 where
  pub number : n ≡ length lines + 1
  pub good : AreBeginning AreSomeTrace lines
  pub part : (c : Contents) → AreTrace lines c → ⊥

-- The text is a trace that holds this.
abbrev pub IsTrace : List ℕ → Contents → Type 0
IsTrace text c = AreTrace (lines_of text) c

-- What a refusal of a text means. Out of memory says nothing of the text.
abbrev pub Refuses : List ℕ → TraceError → Type 0
Refuses text error.NoMemory = Unit {0}
Refuses text (error.Line n) = IsFirstBad AreSomeTrace (lines_of text) n ⊎ IsMissing (lines_of text) n

-- The text is these events alone.
abbrev pub HoldsEvents : List ℕ → List Event → Type 0
HoldsEvents text events = AreEvents (lines_of text) events

-- What a refusal of a text for events alone means: no line is missing there.
abbrev pub RefusesEvents : List ℕ → TraceError → Type 0
RefusesEvents text error.NoMemory = Unit {0}
RefusesEvents text (error.Line n) = IsFirstBad AreSomeEvents (lines_of text) n

-- The number that stands for the reason why a text is no trace.
abbrev pub trace_code_of : TraceError → ℕ
trace_code_of (error.Line number) = 1
trace_code_of error.NoMemory = 2
