-- Bytes that wait, of which some are gone and some are digested.
use Rattle.std.specs.Prelude.{◌≤◌, ℕ, List, length}
use Rattle.wire.specs.Sinks.{Digested, SinkState}

-- What contracts see of a sink whose bytes wait until they are taken: its state as a sink, and its digest.
pub record WaitingSeen : Type 0 where
  pub out : SinkState
  pub sum : Digested

-- This many of the bytes are gone, and this many digested: all that are gone, and maybe more.
pub record IsWaiting (bytes : List ℕ) (gone seen : ℕ) : Type 0 where
  pub behind : gone ≤ seen
  pub inside : seen ≤ length bytes
