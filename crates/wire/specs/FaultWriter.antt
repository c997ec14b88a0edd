-- A sink that fails according to a plan.
use Rattle.std.specs.Prelude.{◌≡◌, ◌≤◌, ◌<◌, ℕ, ◌-◌, List, length, take, Bool, true, false, Option, Some, None, Result, IsErr}
use Rattle.wire.specs.Sinks.{Appends, Flushes, SinkState}
use Rattle.wire.specs.declared.sink.SinkFault.{SinkFault}

-- The model of such a sink: the sink below, how many bytes it still takes (None after a put that did not fit), whether its flush
-- fails, how often it failed (modulo 2^64), and whether it is flushed.
pub record FaultWriterState : Type 0 where
  pub inner : SinkState
  pub room : Option ℕ
  pub flush_fails : Bool
  pub failures : ℕ
  pub is_flushed : Bool

-- As a sink: it holds what the sink below holds, and is as honest.
abbrev pub sink_of : FaultWriterState → SinkState
sink_of w = record { held = w.inner.held; failures = w.failures; honest = w.inner.honest; is_flushed = w.is_flushed }

-- The sink below took the first `count` of the bytes, or failed.
pub record HasPart (old : SinkState) (bytes : List ℕ) (count : ℕ) (new : SinkState) : Type 0 where
  pub put : Result (Unit {0}) SinkFault
  pub part : Appends old (take count bytes) put new

-- A put that fits is that of the sink below. One that does not fit fails, after the sink below got what fits, and so does each
-- put after it: then the sink below is not called.
pub record IsPut {T E : Type 0} (old : FaultWriterState) (bytes : List ℕ) (result : Result T E) (new : FaultWriterState) : Type 0 where
  pub plan : new.flush_fails ≡ old.flush_fails
  pub fits : (room : ℕ) → old.room ≡ Some room → length bytes ≤ room → (new.room ≡ Some (room - length bytes)) × Appends old.inner bytes result new.inner
  pub full : (room : ℕ) → old.room ≡ Some room → room < length bytes → IsErr result × (new.room ≡ None) × HasPart old.inner bytes room new.inner
  pub closed : old.room ≡ None → IsErr result × (new.room ≡ None) × (new.inner ≡ old.inner)

-- A flush fails by the plan, or is that of the sink below. What is taken stays as it is.
pub record IsFlushed {T E : Type 0} (old : FaultWriterState) (result : Result T E) (new : FaultWriterState) : Type 0 where
  pub plan : new.flush_fails ≡ old.flush_fails
  pub room : new.room ≡ old.room
  pub planned : old.flush_fails ≡ true → IsErr result × (new.inner ≡ old.inner)
  pub others : old.flush_fails ≡ false → Flushes old.inner result new.inner
