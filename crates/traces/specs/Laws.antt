-- What follows from the definitions of a trace: each text is read in one way.
use Rattle.std.specs.Prelude.{◌≡◌, ℕ, List}
use Rattle.machine.specs.declared.event.Event.{Event}
use Rattle.traces.specs.declared.trace.TraceError.TheVariants.{Line}
use Rattle.traces.specs.Trace.{Contents, IsTrace, Refuses, HoldsEvents, RefusesEvents}

-- a text holds no two traces
abbrev pub HoldsOneTrace : List ℕ → Type 0
HoldsOneTrace text = (a b : Contents) → IsTrace text a → IsTrace text b → a ≡ b

-- a text that is a trace has no bad line, and none is missing
abbrev pub IsTraceOrRefused : List ℕ → Type 0
IsTraceOrRefused text = (c : Contents) (n : ℕ) → IsTrace text c → Refuses text (Line n) → ⊥

-- a text has one first bad or missing line at most
abbrev pub HasOneFirstBad : List ℕ → Type 0
HasOneFirstBad text = (n m : ℕ) → Refuses text (Line n) → Refuses text (Line m) → n ≡ m

-- a text is events alone in one way
abbrev pub HoldsOneList : List ℕ → Type 0
HoldsOneList text = (a b : List Event) → HoldsEvents text a → HoldsEvents text b → a ≡ b

-- a text that is events alone has no line that is bad there
abbrev pub AreEventsOrRefused : List ℕ → Type 0
AreEventsOrRefused text = (events : List Event) (n : ℕ) → HoldsEvents text events → RefusesEvents text (Line n) → ⊥

-- a text has one first line at most that is bad among events alone
abbrev pub HasOneFirstBadEvent : List ℕ → Type 0
HasOneFirstBadEvent text = (n m : ℕ) → RefusesEvents text (Line n) → RefusesEvents text (Line m) → n ≡ m
