-- The state of a sink, and what contracts say of bytes on their way to one.
use Rattle.std.specs.Prelude.{◌≡◌, ℕ, ◌++◌, List, [], Bool, false, IsTrue, Option, Some, None, Result, OnOk, is_ok, is_some}
use Rattle.sha2.specs.Hashers.{Holds256}
use Rattle.sha2.specs.declared.Sha256.{Sha256}
use Rattle.sha2.specs.Sha256.{sha256}
use Rattle.guestmem.specs.Failures.{counted}
use Rattle.wire.specs.Records.{commit, spelled_record}

-- What a sink digests: nothing; or there is a digest, and these bytes wait until it takes them; or it digests nothing, these are all bytes
-- that were put into it, whose digest it is told, and the stream was closed and the digest is owed, or not.
pub data Digested : Type 0 where
  undigested : Digested
  lagging : Sha256 → List ℕ → Digested
  remembered : List ℕ → Bool → Digested

-- It took the first of these bytes, and the others wait.
pub record Lags (taken : Sha256) (waiting bytes : List ℕ) : Type 0 where
  pub first : List ℕ
  pub holds : Holds256 taken first
  pub whole : bytes ≡ first ++ waiting

unfoldable pub Digests : Sha256 → List ℕ → List ℕ → Type 0
Digests taken waiting bytes = Lags taken waiting bytes

-- It is the digest of these bytes. Of a stream whose digest is owed nothing more is put.
abbrev pub Covers : Digested → List ℕ → Type 0
Covers undigested bytes = ⊥
Covers (lagging taken waiting) bytes = Digests taken waiting bytes
Covers (remembered past owed) bytes = (bytes ≡ past) × (owed ≡ false)

-- The bytes that a sink holds, how often it failed (modulo 2^64), whether it is honest, and whether it is flushed: whether the
-- last call was a flush that succeeded.
pub record SinkState : Type 0 where
  pub held : List ℕ
  pub failures : ℕ
  pub honest : Bool
  pub is_flushed : Bool

-- These bytes are digested too: whatever bytes it was the digest of, it is that of those followed by these.
abbrev pub Takes : Digested → List ℕ → Digested → Type 0
Takes old bytes new = (before : List ℕ) → Covers old before → Covers new (before ++ bytes)

-- A call that appends these bytes to a sink: the failure count goes up exactly if the call fails. If it succeeds and the sink
-- was honest, the sink is still honest, and holds what it held before, followed by these bytes.
pub record Appends {T E : Type 0} (old : SinkState) (bytes : List ℕ) (result : Result T E) (new : SinkState) : Type 0 where
  pub count : new.failures ≡ counted old.failures result
  pub holds : OnOk result (IsTrue old.honest → IsTrue new.honest × (new.held ≡ old.held ++ bytes))

-- A call that appends nothing. The sink is flushed after it exactly if it succeeds.
pub record Flushes {T E : Type 0} (old : SinkState) (result : Result T E) (new : SinkState) : Type 0 where
  pub count : new.failures ≡ counted old.failures result
  pub holds : OnOk result (IsTrue old.honest → IsTrue new.honest × (new.held ≡ old.held))
  pub flushed : new.is_flushed ≡ is_ok result

-- A digest that took these bytes, and for which none wait.
abbrev pub prompt : Sha256 → Digested
prompt taken = lagging taken []

-- The state of a sink over a writer: it is honest if the contents of the writer are known.
abbrev pub known : Option (List ℕ) → List ℕ
known None = []
known (Some bytes) = bytes

abbrev pub over_writer : Option (List ℕ) → ℕ → Bool → SinkState
over_writer contents failures is_flushed = record { held = known contents; failures = failures; honest = is_some contents; is_flushed = is_flushed }

-- A call that closes a stream: where the sink's digest is of known bytes, it appends the record of their digest.
pub record Seals {T E : Type 0} (sum : Digested) (old : SinkState) (result : Result T E) (new : SinkState) : Type 0 where
  pub count : new.failures ≡ counted old.failures result
  pub puts : (bytes : List ℕ) → Covers sum bytes → Appends old (spelled_record (commit (sha256 bytes))) result new
