-- The arrival of a stream whose host tells its digest, call by call.
use Rattle.std.specs.Prelude.{◌≡◌, ◌⊎◌, ◌≤◌, ℕ, ◌+◌, ◌-◌, ◌^◌, ◌==◌, ◌||◌, if◌then◌else◌, min, Bool, List, [], ◌∷◌, ◌++◌, length, take, drop, Option, Some, None, Ok, Err}
use Rattle.receiver.specs.declared.recv_error.RecvError.{RecvError}
use Rattle.sha2.specs.Sha256.{sha256}
use Rattle.c_handle.specs.Admission.{Admits, IsPending, first_refusal}
use Rattle.c_handle.specs.AdmissionSeen.{AdmissionSeen, Denied}
use Rattle.c_handle.specs.ArrivalSeen.{ArrivalSeen}
use Rattle.c_handle.specs.Arriving.{FeedsKept, FeedsWithin, HasDenied, HasNotFed, is_taken, or_else, refused_before, taken_status}
use Rattle.c_handle.specs.Awaited.{HasCome, IsAtHead, IsClosed, IsFed, TellsWhole, stream_status}
use Rattle.c_handle.specs.ToldArrival.{IsBefore, IsDueAt, MeetsRecordAt, digested}
use Rattle.c_handle.specs.Kept.{KeptSeen, State, Arriving}
use Rattle.c_handle.specs.OnHandle.{Unless}
use Rattle.c_handle.specs.declared.told_feeding.Telling.{Telling}
use Rattle.c_handle.specs.declared.told_feeding.Telling.TheVariants.{NotDue, Due, InHand}
use Rattle.c_machine.specs.Status.{digest_due, done, in_use, no_machine, not_asked}

-- A part of a piece was let in and taken.
pub record TakesPart (admission : AdmissionSeen) (r : ArrivalSeen) (part : List ℕ) (after : AdmissionSeen) (next : ArrivalSeen) : Type 0 where
  pub admitted : Admits admission part None after
  pub fed : IsFed r part next
  pub before : (b : List ℕ) → HasCome r b → IsBefore r → IsBefore next

pub record TakesThen (rest : AdmissionSeen → ArrivalSeen → Type 0) (admission : AdmissionSeen) (r : ArrivalSeen) (part : List ℕ) : Type 0 where
  pub let_in : AdmissionSeen
  pub mid : ArrivalSeen
  pub takes : TakesPart admission r part let_in mid
  pub goes_on : rest let_in mid

-- Parts were taken, one after another.
abbrev pub TakesParts : List (List ℕ) → AdmissionSeen → ArrivalSeen → AdmissionSeen → ArrivalSeen → Type 0
TakesParts [] admission r after next = (after ≡ admission) × (next ≡ r)
TakesParts (part ∷ parts) admission r after next = TakesThen (λ let_in mid. TakesParts parts let_in mid after next) admission r part

abbrev pub joined : List (List ℕ) → List ℕ
joined [] = []
joined (part ∷ parts) = part ++ joined parts

-- The first `used` bytes of a piece were taken, in parts.
pub record TakesFirst (used : ℕ) (admission : AdmissionSeen) (r : ArrivalSeen) (piece : List ℕ) (after : AdmissionSeen) (next : ArrivalSeen) : Type 0 where
  pub within : used ≤ length piece
  pub parts : List (List ℕ)
  pub bytes : joined parts ≡ take used piece
  pub takes : TakesParts parts admission r after next

-- They come after what came before, and no byte of the record that closes the stream is among them.
abbrev pub TakingsCome : Type 0
TakingsCome = (used : ℕ) (admission after : AdmissionSeen) (r next : ArrivalSeen) (piece b : List ℕ) → TakesFirst used admission r piece after next → HasCome r b → IsBefore r → HasCome next (b ++ take used piece) × IsBefore next

-- No byte of it is among those of an arrival that was fed nothing.
abbrev pub NoneIsBefore : Type 0
NoneIsBefore = (r : ArrivalSeen) → HasCome r [] → IsBefore r

-- All of it was.
pub record TakesAll (admission : AdmissionSeen) (r : ArrivalSeen) (piece : List ℕ) (status used : ℕ) (after : AdmissionSeen) (next : ArrivalSeen) : Type 0 where
  pub takes : TakesFirst used admission r piece after next
  pub all : used ≡ length piece
  pub ended : Bool
  pub tells : TellsWhole next ended
  pub status_is : status ≡ taken_status ended

-- It was taken up to the record that closes the stream: the digest to be told is that of all bytes that were fed.
pub record ComesToDigest (admission : AdmissionSeen) (r : ArrivalSeen) (piece : List ℕ) (status used : ℕ) (after : AdmissionSeen) (next : ArrivalSeen) : Type 0 where
  pub takes : TakesFirst used admission r piece after next
  pub due : IsDueAt next (drop used piece)
  pub digests : (b : List ℕ) → HasCome r b → IsBefore r → digested next ≡ b ++ take used piece
  pub status_is : status ≡ digest_due

-- A part was refused, and the stream with it, for good.
abbrev pub RefusesPart : AdmissionSeen → ArrivalSeen → List ℕ → ℕ → AdmissionSeen → ArrivalSeen → Type 0
RefusesPart admission r part status after next = HasNotFed admission r part status after next ⊎ HasDenied admission r part status after next

pub record ComesToRefusal (admission : AdmissionSeen) (r : ArrivalSeen) (piece : List ℕ) (status : ℕ) (after : AdmissionSeen) (next : ArrivalSeen) : Type 0 where
  pub before : ℕ
  pub let_in : AdmissionSeen
  pub mid : ArrivalSeen
  pub takes : TakesFirst before admission r piece let_in mid
  pub part : List ℕ
  pub more : List ℕ
  pub rest : drop before piece ≡ part ++ more
  pub refuses : RefusesPart let_in mid part status after next

-- The bytes of a piece before that record, as far as they have no fault.
abbrev pub FeedsFront : AdmissionSeen → ArrivalSeen → List ℕ → ℕ → ℕ → AdmissionSeen → ArrivalSeen → Type 0
FeedsFront admission r piece status used after next =
    TakesAll admission r piece status used after next ⊎ (ComesToDigest admission r piece status used after next ⊎ ComesToRefusal admission r piece status after next)

-- The header is whole, or no byte is left; and the stream was not refused.
pub record IsPast (admission : AdmissionSeen) (r : ArrivalSeen) (rest : List ℕ) : Type 0 where
  pub fine : first_refusal admission ≡ None
  pub granted : IsPending admission → rest ≡ []
  pub past : IsAtHead r → rest ≡ []

-- The record was compared with what was told: it was taken, or refused.
pub record IsClosedWell (let_in : AdmissionSeen) (r : ArrivalSeen) (digest piece : List ℕ) (status : ℕ) (after : AdmissionSeen) (next : ArrivalSeen) : Type 0 where
  pub meets : MeetsRecordAt r digest piece (Ok tt)
  pub digests : digested next ≡ digested r
  pub ended : Bool
  pub tells : TellsWhole next ended
  pub status_is : status ≡ taken_status ended
  pub same : after ≡ let_in

pub record IsClosedBadly (r : ArrivalSeen) (digest piece : List ℕ) (status : ℕ) (after : AdmissionSeen) (next : ArrivalSeen) : Type 0 where
  pub error : RecvError
  pub meets : MeetsRecordAt r digest piece (Err error)
  pub status_is : status ≡ stream_status error
  pub closed : IsClosed r next
  pub denied : after ≡ Denied status

pub record IsCompared (admission : AdmissionSeen) (r : ArrivalSeen) (digest piece : List ℕ) (status : ℕ) (after : AdmissionSeen) (next : ArrivalSeen) : Type 0 where
  pub let_in : AdmissionSeen
  pub admitted : Admits admission piece None let_in
  pub compared : IsClosedWell let_in r digest piece status after next ⊎ IsClosedBadly r digest piece status after next

-- The next bytes of that record. Where the digest is that of all bytes before it, they are a piece as any other; whatever was told, they are compared
-- with it, if they are let in, and the handle has an arrival after it.
pub record ClosesTold (admission : AdmissionSeen) (r : ArrivalSeen) (digest piece : List ℕ) (status : ℕ) (after : AdmissionSeen) (next : ArrivalSeen) : Type 0 where
  pub right : digest ≡ sha256 (digested r) → FeedsWithin admission r piece status after next
  pub any : IsCompared admission r digest piece status after next ⊎ HasDenied admission r piece status after next

-- A digest in hand is for that record alone: if other bytes come in its place, it is to be told anew.
abbrev pub telling_at : ℕ → Telling
telling_at status = if status == digest_due then Due else NotDue

abbrev pub telling_after : List ℕ → ℕ → Telling → Telling
telling_after [] status telling = telling
telling_after (byte ∷ more) status telling = telling_at status

-- A digest was told, and the record comes.
pub record TakesRecord (admission : AdmissionSeen) (r : ArrivalSeen) (telling : Telling) (piece : List ℕ) (status used : ℕ) (after : AdmissionSeen) (next : ArrivalSeen) (told : Telling) : Type 0 where
  pub digest : List ℕ
  pub in_hand : telling ≡ InHand digest
  pub due : IsDueAt r piece
  pub closes : ClosesTold admission r digest piece status after next
  pub all : used ≡ length piece
  pub same : told ≡ telling

-- None was, or other bytes come.
pub record TakesFront (admission : AdmissionSeen) (r : ArrivalSeen) (telling : Telling) (piece : List ℕ) (status used : ℕ) (after : AdmissionSeen) (next : ArrivalSeen) (told : Telling) : Type 0 where
  pub early : (digest : List ℕ) → telling ≡ InHand digest → ¬ (IsDueAt r piece)
  pub feeds : FeedsFront admission r piece status used after next
  pub telling_is : told ≡ telling_after piece status telling

abbrev pub FeedsTold : AdmissionSeen → ArrivalSeen → Telling → List ℕ → ℕ → ℕ → AdmissionSeen → ArrivalSeen → Telling → Type 0
FeedsTold admission r telling piece status used after next told =
    TakesRecord admission r telling piece status used after next told ⊎ TakesFront admission r telling piece status used after next told

-- By whether the host tells the digest. Where it does not this is a piece as any other, which is taken whole.
abbrev pub FeedsSomeKept : Option Telling → AdmissionSeen → State → List ℕ → ℕ → ℕ → AdmissionSeen → State → Option Telling → Type 0
FeedsSomeKept None admission k piece status used after next told = FeedsKept admission k piece status after next × (used ≡ length piece) × (told ≡ None)
FeedsSomeKept (Some telling) admission (Arriving r) piece status used after (Arriving next) (Some told) = FeedsTold admission r telling piece status used after next told
FeedsSomeKept (Some telling) admission k piece status used after next told = ⊥

abbrev pub is_some_taken : ℕ → Bool
is_some_taken status = is_taken status || status == digest_due

abbrev pub fed_by : ℕ → ℕ → ℕ → ℕ
fed_by status fed used = if is_some_taken status then min (fed + used) (2 ^ 64 - 1) else fed

abbrev pub used_by : ℕ → ℕ → ℕ → ℕ
used_by status used before = if is_some_taken status then used else before

pub record DoesFeedSome (k : KeptSeen) (piece : List ℕ) (status used before : ℕ) (after : Option KeptSeen) : Type 0 where
  pub next : State
  pub admission : AdmissionSeen
  pub told : Option Telling
  pub count : ℕ
  pub is_next : after ≡ Some (record k { state = next; admission = admission; telling = told; fed = fed_by status k.fed count })
  pub used_is : used ≡ used_by status count before
  pub does : FeedsSomeKept k.telling k.admission k.state piece status count admission next told

-- A piece was fed to the contents of a handle, as far as the record that closes the stream. How many bytes were taken is told unless it was refused.
abbrev pub FedSome : Option KeptSeen → List ℕ → ℕ → ℕ → ℕ → Option KeptSeen → Type 0
FedSome None piece status used before after = (status ≡ no_machine) × (used ≡ before) × (after ≡ None)
FedSome (Some k) piece status used before after = DoesFeedSome k piece status used before after

-- Why no digest is taken, if so: the stream was refused before, or the digest is not due.
abbrev pub not_due : Option Telling → Option ℕ
not_due (Some Due) = None
not_due _ = Some not_asked

abbrev pub tell_refusal : Option Telling → AdmissionSeen → State → Option ℕ
tell_refusal telling admission (Arriving r) = or_else (refused_before (first_refusal admission)) (not_due telling)
tell_refusal telling admission _ = Some in_use

-- The same of an arrival whose host tells it.
abbrev pub TellsDigest : AdmissionSeen → Telling → List ℕ → ℕ → Telling → Type 0
TellsDigest admission telling digest status next =
    Unless (or_else (refused_before (first_refusal admission)) (not_due (Some telling))) (λ reason. (status ≡ reason) × (next ≡ telling)) ((status ≡ done) × (next ≡ InHand digest))

-- The digest was told of all bytes that were taken.
abbrev pub DoesTell : KeptSeen → List ℕ → ℕ → Option KeptSeen → Type 0
DoesTell k digest status after =
    Unless (tell_refusal k.telling k.admission k.state) (λ reason. (status ≡ reason) × (after ≡ Some k)) ((status ≡ done) × (after ≡ Some (record k { telling = Some (InHand digest) })))

abbrev pub FedDigest : Option KeptSeen → List ℕ → ℕ → Option KeptSeen → Type 0
FedDigest None digest status after = (status ≡ no_machine) × (after ≡ None)
FedDigest (Some k) digest status after = DoesTell k digest status after
