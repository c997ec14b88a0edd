-- What is sent next, and a page that the caller copied out of the RAM that it was lent, and hands in to be sent.
use Rattle.std.specs.Prelude.{◌≡◌, ◌⊎◌, ℕ, List, Bool, Option, Some, None, Result, Ok, Err, nat_lt, not, if◌then◌else◌, length}
use Rattle.dirtylog.specs.Members.{IsLeast}
use Rattle.machine.specs.Layout.{pages_of}
use Rattle.machine.specs.Refusal.{code_of}
use Rattle.machine.specs.declared.reply.Refusal.TheVariants.{OutOfRam}
use Rattle.sender.specs.HandedIn.{HandsInPage}
use Rattle.sender.specs.LiveState.{now}
use Rattle.sender.specs.Parked.{LiveParkedSeen}
use Rattle.sender.specs.SectorsLent.{IsNextDue}
use Rattle.sender.specs.declared.event.NextDue.{NextDue}
use Rattle.sender.specs.declared.event.NextDue.TheVariants as next_due
use Rattle.sender.specs.declared.mig_error.MigError.{MigError}
use Rattle.sender.specs.declared.mig_error.MigError.TheVariants.{AlreadyStopped, NotBegun}
use Rattle.sender.specs.declared.phase.Phase.{Phase}
use Rattle.c_machine.specs.Status.{done, not_lent, not_next, round_done, sectors}
use Rattle.c_handle.specs.Kept.{KeptSeen, State}
use Rattle.c_handle.specs.Migrated.{send_refusal}
use Rattle.c_handle.specs.Mirror.{is_closed}
use Rattle.c_handle.specs.OnHandle.{ByEachState, OfEachState, OfHandle, OnHandle, Refuses, Unless}
use Rattle.c_handle.specs.SendStatus.{mig_status}

-- The least due item is told: a page by its number; a sector by a status of its own; and that nothing is due.
abbrev pub IsTold : NextDue → ℕ → ℕ → ℕ → Type 0
IsTold (next_due.Page n) status page old = (status ≡ done) × (page ≡ n)
IsTold next_due.Sector status page old = (status ≡ sectors) × (page ≡ old)
IsTold next_due.Nothing status page old = (status ≡ round_done) × (page ≡ old)

pub record TellsNext (pages : ℕ) (due : List Bool) (status page old : ℕ) : Type 0 where
  pub next : NextDue
  pub is_next : IsNextDue pages due next
  pub told : IsTold next status page old

-- Of a machine that is being sent, with this many pages, in this phase.
abbrev pub AsksNext : ℕ → Phase → List Bool → ℕ → ℕ → ℕ → Type 0
AsksNext pages phase due status page old = Unless (send_refusal phase) (Refuses status page old) (TellsNext pages due status page old)

abbrev pub NextKept : State → ℕ → ℕ → ℕ → Type 0
NextKept k status page old =
    let refused = Refuses status page old in
    OfEachState refused (λ m. refused (mig_status NotBegun)) (λ l. AsksNext (pages_of (now l)) l.phase l.due status page old) (λ p. refused (mig_status NotBegun)) (λ l. AsksNext (length l.machine.memory) l.phase l.due status page old) k

-- The status of a page that was handed in.
abbrev pub handed_status : Result (Unit {0}) MigError → ℕ
handed_status (Ok x) = done
handed_status (Err error) = mig_status error

-- This page is sent next: it was sent with these bytes, or the writer failed.
pub record HandsNext (p : LiveParkedSeen) (page : ℕ) (bytes : List ℕ) (status : ℕ) (next : LiveParkedSeen) : Type 0 where
  pub result : Result (Unit {0}) MigError
  pub is_next : IsLeast p.due 0 page
  pub hands : HandsInPage p page bytes result next
  pub status_is : status ≡ handed_status result

-- Another item is sent next, or none: nothing changed.
pub record IsNotNext (p : LiveParkedSeen) (page status : ℕ) (next : LiveParkedSeen) : Type 0 where
  pub another : IsLeast p.due 0 page → ⊥
  pub status_is : status ≡ not_next
  pub same : next ≡ p

-- Why no page with this number is taken, of this many, whatever is sent next.
abbrev pub page_refusal : Option ℕ → ℕ → ℕ → Option ℕ
page_refusal (Some reason) pages page = Some reason
page_refusal None pages page = if not (nat_lt page pages) then Some (code_of OutOfRam) else None

abbrev pub HandsPage : LiveParkedSeen → ℕ → List ℕ → ℕ → LiveParkedSeen → Type 0
HandsPage p page bytes status next =
    Unless (page_refusal (send_refusal p.phase) (length p.machine.memory) page) (λ reason. (status ≡ reason) × (next ≡ p)) (HandsNext p page bytes status next ⊎ IsNotNext p page status next)

-- RAM is here, or the machine was stopped.
abbrev pub here_status : Phase → ℕ
here_status phase = if is_closed phase then mig_status AlreadyStopped else not_lent

abbrev pub HandsKept : State → ℕ → List ℕ → ℕ → State → Type 0
HandsKept k page bytes status next =
    ByEachState (λ reason. status ≡ reason) (λ m after. (status ≡ mig_status NotBegun) × (after ≡ m)) (λ l after. (status ≡ here_status l.phase) × (after ≡ l)) (λ p after. (status ≡ mig_status NotBegun) × (after ≡ p))
    (λ p after. HandsPage p page bytes status after) k next

-- What of the machine of a handle is sent next.
abbrev pub NextTold : Option KeptSeen → ℕ → ℕ → ℕ → Type 0
NextTold k status page old = OfHandle (Refuses status page old) (λ state. NextKept state status page old) k

-- A page of it was handed in.
abbrev pub HandedIn : Option KeptSeen → ℕ → List ℕ → ℕ → Option KeptSeen → Type 0
HandedIn k page bytes status after = OnHandle (λ reason. status ≡ reason) (λ old next. HandsKept old.state page bytes status next) k after
