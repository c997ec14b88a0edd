-- A page that the caller copied out of the RAM that it was lent, and hands in to be sent.
use Rattle.std.specs.Prelude.{◌≡◌, ℕ, ◌+◌, ◌%◌, ◌<◌, ◌^◌, ◌++◌, List, Bool, false, IsTrue, Option, Some, None, Result, Ok, Err, MatchOption, length, slice_set}
use Rattle.dirtylog.specs.Members.{IsLeast, has}
use Rattle.guestmem.specs.Number.{IsBytes}
use Rattle.guestmem.specs.declared.limits.TheConstants.{PAGE_SIZE}
use Rattle.wire.specs.Records.{page_record, spelled_record}
use Rattle.wire.specs.Sinks.{Takes}
use Rattle.sender.specs.LiveState.{refusal_for}
use Rattle.sender.specs.Parked.{LiveParkedSeen}
use Rattle.sender.specs.declared.event.LiveEvent.TheVariants.{Copy}
use Rattle.sender.specs.declared.mig_error.MigError.{MigError}
use Rattle.sender.specs.declared.mig_error.MigError.TheVariants as errors
use Rattle.sender.specs.declared.phase.Phase.TheVariants as phases

-- The least item that is due, if it is one of this many pages.
abbrev pub IsNextPage : ℕ → List Bool → Option ℕ → Type 0
IsNextPage pages due (Some n) = IsLeast due 0 n × (n < pages)
IsNextPage pages due None = (n : ℕ) → n < pages → has due n ≡ false

-- What is written of a page with these bytes.
abbrev pub page_text : ℕ → List ℕ → List ℕ
page_text n bytes = spelled_record (page_record 2 n bytes)

-- The least due item, which is this page, was sent with these bytes, and nothing else changed.
pub record HandsIn (p : LiveParkedSeen) (n : ℕ) (bytes : List ℕ) (next : LiveParkedSeen) : Type 0 where
  pub free : refusal_for p.phase Copy ≡ None
  pub least : IsLeast p.due 0 n
  pub below : n < length p.machine.memory
  pub size : length bytes ≡ PAGE_SIZE
  pub are : IsBytes bytes
  pub count : next.out.failures ≡ p.out.failures
  pub holds : IsTrue p.out.honest → IsTrue next.out.honest × (next.out.held ≡ p.out.held ++ page_text n bytes)
  pub digest : Takes p.digest (page_text n bytes) next.digest
  pub rest : next ≡ record p { due = slice_set p.due n false; dirty = slice_set p.dirty n false; digest = next.digest; out = next.out }

-- The writer failed.
pub record HandingFails (p next : LiveParkedSeen) : Type 0 where
  pub free : refusal_for p.phase Copy ≡ None
  pub count : next.out.failures ≡ (p.out.failures + 1) % 2 ^ 64
  pub rest : next ≡ record p { phase = phases.Failed; digest = next.digest; out = next.out }

-- The call, by its result. The phase refuses it as it refuses a copy.
abbrev pub HandsInBy : LiveParkedSeen → ℕ → List ℕ → Result (Unit {0}) MigError → LiveParkedSeen → Type 0
HandsInBy p n bytes (Ok x) next = HandsIn p n bytes next
HandsInBy p n bytes (Err errors.StreamFailed) next = HandingFails p next
HandsInBy p n bytes (Err e) next = ⊥

abbrev pub HandsInPage : LiveParkedSeen → ℕ → List ℕ → Result (Unit {0}) MigError → LiveParkedSeen → Type 0
HandsInPage p n bytes result next = MatchOption (refusal_for p.phase Copy) (HandsInBy p n bytes result next) (λ x. (result ≡ Err x) × (next ≡ p))
