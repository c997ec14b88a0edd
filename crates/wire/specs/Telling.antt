-- Bytes that wait until they are taken, and whose digest is told by whoever took them.
use Rattle.std.specs.Prelude.{◌≡◌, ◌++◌, ℕ, List, Bool, true, false, Some, Result, Ok, OnOk, drop, length, take}
use Rattle.guestmem.specs.Failures.{counted}
use Rattle.sha2.specs.Sha256.{sha256}
use Rattle.wire.specs.Records.{commit, spelled_record}
use Rattle.wire.specs.Sinks.{Appends, Covers, Digested, Seals, SinkState, lagging, over_writer, remembered, undigested}
use Rattle.wire.specs.declared.record_head.TheConstants.{COMMIT_RECORD}
use Rattle.wire.specs.declared.sink.SinkFault.{SinkFault}

-- What contracts see of a sink whose digest is told: the bytes that can be taken; whether the record of the digest is owed, which comes
-- after them; all bytes that were put, to which a record that is owed does not belong yet; how often it failed; and whether it is flushed.
pub record ToldSeen : Type 0 where
  pub ready : List ℕ
  pub owed : Bool
  pub past : List ℕ
  pub failures : ℕ
  pub is_flushed : Bool

-- The record that closes a stream of these bytes.
abbrev pub closing_record : List ℕ → List ℕ
closing_record bytes = spelled_record (commit (sha256 bytes))

-- The bytes that it holds as a sink: a record that is owed is among them.
abbrev pub owing : List ℕ → Bool → List ℕ → List ℕ
owing ready false past = ready
owing ready true past = ready ++ closing_record past

abbrev pub held_in : ToldSeen → List ℕ
held_in t = owing t.ready t.owed t.past

abbrev pub out_of : ToldSeen → SinkState
out_of t = over_writer (Some (held_in t)) t.failures t.is_flushed

abbrev pub sum_of : ToldSeen → Digested
sum_of t = remembered t.past t.owed

-- Whether a sink of this digest is to be told it.
abbrev pub is_owed : Digested → Bool
is_owed undigested = false
is_owed (lagging taken waiting) = false
is_owed (remembered past owed) = owed

-- How many of the bytes that it holds, the last ones, cannot be taken yet.
abbrev pub owed_len : Bool → ℕ
owed_len true = COMMIT_RECORD
owed_len false = 0

-- The bytes end in the record of this digest.
pub record EndsIn (bytes digest : List ℕ) : Type 0 where
  pub front : List ℕ
  pub whole : bytes ≡ front ++ spelled_record (commit digest)

-- More bytes were put, and can be taken.
pub record Gained (old : ToldSeen) (bytes : List ℕ) (new : ToldSeen) : Type 0 where
  pub ready : new.ready ≡ old.ready ++ bytes
  pub past : new.past ≡ old.past ++ bytes
  pub owed : new.owed ≡ old.owed

pub record Gains {T E : Type 0} (old : ToldSeen) (bytes : List ℕ) (result : Result T E) (new : ToldSeen) : Type 0 where
  pub count : new.failures ≡ counted old.failures result
  pub flushed : new.is_flushed ≡ false
  pub gained : OnOk result (Gained old bytes new)

-- The record of the digest of all that was put can be taken, as if it had been put.
pub record IsTold (old new : ToldSeen) : Type 0 where
  pub ready : new.ready ≡ old.ready ++ closing_record old.past
  pub past : new.past ≡ old.past ++ closing_record old.past
  pub owed : new.owed ≡ false
  pub failures : new.failures ≡ old.failures
  pub is_flushed : new.is_flushed ≡ old.is_flushed

-- The record of this digest can be taken, as if it had been put, whatever was put.
pub record IsToldBy (digest : List ℕ) (old new : ToldSeen) : Type 0 where
  pub ready : new.ready ≡ old.ready ++ spelled_record (commit digest)
  pub past : new.past ≡ old.past ++ spelled_record (commit digest)
  pub owed : new.owed ≡ false
  pub failures : new.failures ≡ old.failures
  pub is_flushed : new.is_flushed ≡ old.is_flushed

-- The bytes ended in the record of one digest, and now end in that of another one.
pub record EndsInstead (old digest new : List ℕ) : Type 0 where
  pub front : List ℕ
  pub before : List ℕ
  pub size : length before ≡ 32
  pub was : old ≡ front ++ spelled_record (commit before)
  pub is : new ≡ front ++ spelled_record (commit digest)

-- What was taken, in its order, and what is held are what was put: after each put, each take, and the record that closes the stream.
-- Where that record is owed, what was taken and what can be taken are the text before it, whose digest is the one to tell.
pub record TakenIsPut : Type 0 where
  pub put : (taken text bytes : List ℕ) (old new : ToldSeen) → Appends {T = Unit {0}} {E = SinkFault} (out_of old) bytes (Ok tt) (out_of new) → taken ++ held_in old ≡ text → taken ++ held_in new ≡ text ++ bytes
  pub given : (taken text : List ℕ) (count : ℕ) (old new : ToldSeen) → new.ready ≡ drop count old.ready → new.owed ≡ old.owed → new.past ≡ old.past → taken ++ held_in old ≡ text
      → (taken ++ take count old.ready) ++ held_in new ≡ text
  pub sealed : (taken text : List ℕ) (old new : ToldSeen) → Seals {T = Unit {0}} {E = SinkFault} (sum_of old) (out_of old) (Ok tt) (out_of new) → Covers (sum_of old) text → taken ++ held_in old ≡ text
      → taken ++ held_in new ≡ text ++ closing_record text
  pub owed : (taken text : List ℕ) (t : ToldSeen) → t.owed ≡ true → taken ++ held_in t ≡ text ++ closing_record text → (taken ++ t.ready ≡ text) × (sha256 text ≡ sha256 t.past)
