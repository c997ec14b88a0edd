-- The contents of a handle, as contracts see them.
use Rattle.std.specs.Prelude.{◌≡◌, ◌≤◌, ◌*◌, ◌/◌, ℕ, Bool, true, false, List, [], Option, Some, None, if◌then◌else◌, length, max, min, replicate, slice_index_or}
use Rattle.guestmem.specs.declared.limits.TheConstants.{PAGE_SIZE, PAGES_MAX}
use Rattle.c_machine.specs.Made.{asks_large, asks_log, asks_told, block_size, limits_for}
use Rattle.disk_calls.specs.Calls.{AllCalls}
use Rattle.machine.specs.Parked.{ParkedSeen}
use Rattle.machine.specs.Seen.{Seen}
use Rattle.machine.specs.declared.machine.TheConstants.{DEVICES_MAX}
use Rattle.sender.specs.LiveState.{LiveSeen}
use Rattle.sender.specs.Parked.{LiveParkedSeen}
use Rattle.c_handle.specs.AdmissionSeen.{AdmissionSeen, Granted, Pending, Denied}
use Rattle.c_handle.specs.ArrivalSeen.{ArrivalSeen}
use Rattle.c_handle.specs.Awaited.{is_over}
use Rattle.c_handle.specs.declared.admission.Admission.{Admission}
use Rattle.c_handle.specs.declared.admission.Admission.TheVariants as admissions
use Rattle.c_handle.specs.declared.kept.Contents.{Contents}
use Rattle.c_handle.specs.declared.kept.Contents.TheVariants as contents
use Rattle.c_handle.specs.declared.kept.Held.{Held}
use Rattle.c_handle.specs.declared.kept.Held.TheVariants as held
use Rattle.c_handle.specs.declared.loan.Loan.{Loan}
use Rattle.c_handle.specs.declared.loan.Loan.TheVariants as loans
use Rattle.c_handle.specs.declared.told_feeding.Telling.{Telling}
use Rattle.c_handle.specs.declared.told_feeding.Telling.TheVariants as tellings

-- A machine whose RAM is lent to the caller: one that is not being migrated, or one that is.
pub data LoanSeen : Type 0 where
  StillLent : ParkedSeen → LoanSeen
  MovingLent : LiveParkedSeen → LoanSeen

-- All of it but the bytes of its RAM.
abbrev pub parked_in : LoanSeen → ParkedSeen
parked_in (StillLent p) = p
parked_in (MovingLent l) = l.machine

-- A machine that is not being migrated, one that is being migrated while it runs, one that is arriving, or one whose RAM is lent.
pub data State : Type 0 where
  Still : Seen → State
  Moving : LiveSeen → State
  Arriving : ArrivalSeen → State
  Lent : LoanSeen → State

-- Whether its disks lie in memory of the caller, in which state it is, whether it is being migrated and its host tells the digest, whether what
-- arrives is let in, what is known of its digest, if the host tells that, how many bytes of it were taken, and for each device whether its disk was
-- lost, which calls of disks outside are out, whether it may be as large as can be, for how many pages its log, if it has one, has a place, and for
-- each page whether it is to be handed out as written, if the caller asks for these.
pub record KeptSeen : Type 0 where
  pub is_mapped : Bool
  pub state : State
  pub told : Bool
  pub admission : AdmissionSeen
  pub telling : Option Telling
  pub fed : ℕ
  pub lost : List Bool
  pub calls : AllCalls
  pub large : Bool
  pub places : ℕ
  pub written : Option (List Bool)

-- No disk was lost.
abbrev pub none_lost : List Bool
none_lost = replicate DEVICES_MAX false

-- Bytes of the disk of this device did not reach the file that holds it, and will not, or may have been lost by the storage that it is on: nothing more
-- of it is made durable.
abbrev pub is_lost : KeptSeen → ℕ → Bool
is_lost k dev = slice_index_or k.lost dev false

-- A log has a place for each page of this many bytes of RAM.
abbrev pub FitsLog : Option (List Bool) → ℕ → Type 0
FitsLog None bytes = Unit {0}
FitsLog (Some pages) bytes = bytes ≤ PAGE_SIZE * length pages

-- For how many pages a log has a place from the first, of a machine whose RAM has this many bytes, or no more where it arrives: for these,
-- as far as the flags allow them, and for no fewer than a machine may have without flags.
abbrev pub places_for : ℕ → ℕ → ℕ
places_for flags bytes = max (min (bytes / PAGE_SIZE) (limits_for flags).pages) PAGES_MAX

-- At first none of them is in it.
abbrev pub first_log : ℕ → ℕ → Option (List Bool)
first_log flags places = if asks_log flags then Some (replicate places false) else None

-- At first no call is out, of any device that a machine can have, over storage with such blocks; and the first one will have this number.
abbrev pub first_calls : ℕ → ℕ → AllCalls
first_calls block from = record { devices = replicate DEVICES_MAX (record { size = block_size block; outs = [] }); turn = 0; number = from }

-- As it is at first: whose memory its disks lie in, it is not being migrated, none of its disks is lost, nothing was fed, no call is out, and what the
-- flags ask for, with a log of this many places.
pub record IsNew (mapped : Bool) (flags places block from : ℕ) (k : KeptSeen) : Type 0 where
  pub is_mapped : k.is_mapped ≡ mapped
  pub not_told : k.told ≡ false
  pub none_lost : k.lost ≡ none_lost
  pub none_fed : k.fed ≡ 0
  pub none_out : k.calls ≡ first_calls block from
  pub large : k.large ≡ asks_large flags
  pub places_are : k.places ≡ places
  pub log : k.written ≡ first_log flags places

abbrev pub admission_of : Admission → AdmissionSeen
admission_of (admissions.Granted pages shapes) = Granted pages shapes.items
admission_of (admissions.Pending allowed expected held) = Pending allowed expected.items held.items
admission_of (admissions.Denied status) = Denied status

abbrev pub loan_of : {D : Type 0} → Loan D → LoanSeen
loan_of (loans.Still p) = StillLent p
loan_of (loans.Moving l) = MovingLent l
loan_of (loans.Told l) = MovingLent l

-- Whether it is being migrated, and its host tells the digest.
abbrev pub loan_told : {D : Type 0} → Loan D → Bool
loan_told (loans.Still p) = false
loan_told (loans.Moving l) = false
loan_told (loans.Told l) = true

-- The state of a machine over disks of any type.
abbrev pub state_in : {D : Type 0} → Contents D → State
state_in (contents.Still m) = Still m
state_in (contents.Moving l) = Moving l
state_in (contents.Told l) = Moving l
state_in (contents.Lent loan) = Lent (loan_of loan)

abbrev pub told_in : {D : Type 0} → Contents D → Bool
told_in (contents.Still m) = false
told_in (contents.Moving l) = false
told_in (contents.Told l) = true
told_in (contents.Lent loan) = loan_told loan

abbrev pub held_state : Held → State
held_state (held.Own c) = state_in c
held_state (held.Mapped c) = state_in c
held_state (held.Arriving a) = Arriving a
held_state (held.ToldArriving a telling) = Arriving a

abbrev pub are_told : Held → Bool
are_told (held.Own c) = told_in c
are_told (held.Mapped c) = told_in c
are_told (held.Arriving a) = false
are_told (held.ToldArriving a telling) = false

abbrev pub telling_of : Held → Option Telling
telling_of (held.ToldArriving a telling) = Some telling
telling_of _ = None

-- Of what arrives with these flags, before its first piece.
abbrev pub first_telling : ℕ → Option Telling
first_telling flags = if asks_told flags then Some tellings.NotDue else None

-- The bytes of RAM that its log has to have places for. Of what arrives that is what is allowed.
abbrev pub ram_in : ℕ → State → ℕ
ram_in places (Still m) = length m.memory.bytes
ram_in places (Moving l) = length l.machine.memory.bytes
ram_in places (Lent x) = PAGE_SIZE * length (parked_in x).memory
ram_in places (Arriving r) = PAGE_SIZE * places

abbrev pub are_mapped : Held → Bool
are_mapped (held.Own c) = false
are_mapped (held.Mapped c) = true
are_mapped (held.Arriving a) = is_over a
are_mapped (held.ToldArriving a telling) = is_over a

abbrev pub kept_with : Held → AdmissionSeen → ℕ → List Bool → KeptSeen
kept_with held admission fed lost = record { is_mapped = are_mapped held; state = held_state held; told = are_told held; admission = admission; telling = telling_of held; fed = fed; lost = lost; calls = first_calls 1 0; large = false; places = 0; written = None }

-- Where no stream arrives none was asked for.
abbrev pub unasked : AdmissionSeen
unasked = Granted 0 []

abbrev pub kept_of : Held → KeptSeen
kept_of held = kept_with held unasked 0 none_lost
