-- The digest of a stream that arrives, where its host tells it.
use Rattle.std.specs.Prelude.{◌≡◌, ◌≤◌, ◌++◌, ◌⊎◌, ℕ, List, [], length, take, drop, Result, Ok, Err, IfErr, IfOk, true, false}
use Rattle.receiver.specs.Calls.{IsDue}
use Rattle.receiver.specs.Closing.{Compares, Finds, MayEnd}
use Rattle.receiver.specs.Receiving.{Received}
use Rattle.receiver.specs.Sums.{past_of}
use Rattle.receiver.specs.declared.receiver.Fed.{Fed}
use Rattle.receiver.specs.declared.recv_error.RecvError.{RecvError}
use Rattle.c_handle.specs.ArrivalSeen.{ArrivalSeen, AtHead, AtBody, Refused, Over}
use Rattle.c_handle.specs.Awaited.{HasCome, IsClosed, IsFed, RefusesUntouched, TellsOf}

-- The record that closes the stream has begun, or begins with these bytes.
abbrev pub IsDueAt : ArrivalSeen → List ℕ → Type 0
IsDueAt (AtHead ram place held) rest = ⊥
IsDueAt (AtBody r) rest = IsDue r rest
IsDueAt Refused rest = ⊥
IsDueAt (Over r) rest = IsDue r rest

-- No byte of it is held.
abbrev pub IsBefore : ArrivalSeen → Type 0
IsBefore a = ¬ (IsDueAt a [])

-- The bytes whose digest is to be told: all before that record, once the header is whole.
abbrev pub digested : ArrivalSeen → List ℕ
digested (AtHead ram place held) = []
digested (AtBody r) = past_of r.digest
digested Refused = []
digested (Over r) = past_of r.digest

-- The first bytes of a piece were taken, up to that record, if it begins in the piece.
pub record DueAfter (a : ArrivalSeen) (piece : List ℕ) (fed : Fed) (next : ArrivalSeen) : Type 0 where
  pub within : fed.used ≤ length piece
  pub is_fed : IsFed a (take fed.used piece) next
  pub all : fed.is_due ≡ false → fed.used ≡ length piece
  pub due : fed.is_due ≡ true → IsDueAt next (drop fed.used piece)
  pub same : fed.used ≡ 0 → next ≡ a
  pub before : (b : List ℕ) → HasCome a b → IsBefore a → IsBefore next
  pub digests : fed.is_due ≡ true → (b : List ℕ) → HasCome a b → IsBefore a → digested next ≡ b ++ take fed.used piece

-- That record is compared with the digest that was told, whatever it is. With these bytes it is taken where it may come, and is the record of this
-- digest, or has fewer bytes than one. Else it is refused: as one that may not come, as that of another digest, or for a byte after it.
abbrev pub MeetsRecord : Received → List ℕ → List ℕ → Result (Unit {0}) RecvError → Type 0
MeetsRecord r digest piece (Ok x) = MayEnd r.stage × (Compares digest (r.held ++ piece) (Ok true) ⊎ Compares digest (r.held ++ piece) (Ok false))
MeetsRecord r digest piece (Err e) = Finds r.stage digest (r.held ++ piece) (Err e)

abbrev pub MeetsRecordAt : ArrivalSeen → List ℕ → List ℕ → Result (Unit {0}) RecvError → Type 0
MeetsRecordAt (AtHead ram place held) digest piece result = ⊥
MeetsRecordAt (AtBody r) digest piece result = MeetsRecord r digest piece result
MeetsRecordAt Refused digest piece result = ⊥
MeetsRecordAt (Over r) digest piece result = MeetsRecord r digest piece result

-- With the right digest its bytes are taken, or refused, as those of any piece.
pub record ClosesRight (a : ArrivalSeen) (piece : List ℕ) (result : Result (Unit {0}) RecvError) (next : ArrivalSeen) : Type 0 where
  pub fed : IfOk result (λ x. IsFed a piece next)
  pub refused : IfErr result (λ e. TellsOf a piece e × IsClosed a next)
  pub untouched : IfErr result (λ e. RefusesUntouched a piece e next)
