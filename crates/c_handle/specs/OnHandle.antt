-- What a call does to a handle, and what it returns of one.
use Rattle.std.specs.Prelude.{◌≡◌, ℕ, Bool, List, Option, Some, None}
use Rattle.machine.specs.Parked.{ParkedSeen}
use Rattle.machine.specs.Seen.{Seen}
use Rattle.sender.specs.LiveState.{LiveSeen}
use Rattle.sender.specs.Parked.{LiveParkedSeen}
use Rattle.c_handle.specs.Kept.{KeptSeen, LoanSeen, StillLent, MovingLent, State, Still, Moving, Arriving, Lent}
use Rattle.c_machine.specs.Status.{lent, no_machine}

-- A call that is refused has a status that says why, and what it would change is as it was: one thing, or two.
abbrev pub Refuses : {A : Type 0} → ℕ → A → A → ℕ → Type 0
Refuses status new old reason = (status ≡ reason) × (new ≡ old)

abbrev pub RefusesBoth : {A B : Type 0} → ℕ → A → A → B → B → ℕ → Type 0
RefusesBoth status new old other old_other reason = (status ≡ reason) × (new ≡ old) × (other ≡ old_other)

-- What a call does by the state that it finds: to a machine that is not being migrated, and to one that is. Where one arrives or has lent
-- its RAM the call is refused, for a reason that is a status, and nothing changes. No such call turns one state into another.
abbrev pub ByState : (ℕ → Type 0) → (Seen → Seen → Type 0) → (LiveSeen → LiveSeen → Type 0) → State → State → Type 0
ByState refused still moving (Still m) (Still next) = still m next
ByState refused still moving (Moving l) (Moving next) = moving l next
ByState refused still moving (Arriving r) (Arriving next) = refused no_machine × (next ≡ r)
ByState refused still moving (Lent x) (Lent next) = refused lent × (next ≡ x)
ByState refused still moving _ _ = ⊥

-- A call that touches no byte of RAM is done while RAM is lent too.
abbrev pub ByLoan : (ParkedSeen → ParkedSeen → Type 0) → (LiveParkedSeen → LiveParkedSeen → Type 0) → LoanSeen → LoanSeen → Type 0
ByLoan still moving (StillLent p) (StillLent next) = still p next
ByLoan still moving (MovingLent l) (MovingLent next) = moving l next
ByLoan still moving _ _ = ⊥

abbrev pub ByEachState : (ℕ → Type 0) → (Seen → Seen → Type 0) → (LiveSeen → LiveSeen → Type 0) → (ParkedSeen → ParkedSeen → Type 0) → (LiveParkedSeen → LiveParkedSeen → Type 0) → State → State → Type 0
ByEachState refused still moving still_lent moving_lent (Still m) (Still next) = still m next
ByEachState refused still moving still_lent moving_lent (Moving l) (Moving next) = moving l next
ByEachState refused still moving still_lent moving_lent (Arriving r) (Arriving next) = refused no_machine × (next ≡ r)
ByEachState refused still moving still_lent moving_lent (Lent x) (Lent next) = ByLoan still_lent moving_lent x next
ByEachState refused still moving still_lent moving_lent _ _ = ⊥

-- As above, for calls that change nothing.
abbrev pub OfState : (ℕ → Type 0) → (Seen → Type 0) → (LiveSeen → Type 0) → State → Type 0
OfState refused still moving (Still m) = still m
OfState refused still moving (Moving l) = moving l
OfState refused still moving (Arriving r) = refused no_machine
OfState refused still moving (Lent x) = refused lent

abbrev pub OfLoan : (ParkedSeen → Type 0) → (LiveParkedSeen → Type 0) → LoanSeen → Type 0
OfLoan still moving (StillLent p) = still p
OfLoan still moving (MovingLent l) = moving l

abbrev pub OfEachState : (ℕ → Type 0) → (Seen → Type 0) → (LiveSeen → Type 0) → (ParkedSeen → Type 0) → (LiveParkedSeen → Type 0) → State → Type 0
OfEachState refused still moving still_lent moving_lent (Still m) = still m
OfEachState refused still moving still_lent moving_lent (Moving l) = moving l
OfEachState refused still moving still_lent moving_lent (Arriving r) = refused no_machine
OfEachState refused still moving still_lent moving_lent (Lent x) = OfLoan still_lent moving_lent x

-- What a call does to a handle: to the state of what it holds, and to nothing else. On a handle without a machine it is refused.
pub record OnKept (does : KeptSeen → State → Type 0) (k : KeptSeen) (after : Option KeptSeen) : Type 0 where
  pub next : State
  pub is_next : after ≡ Some (record k { state = next })
  pub done : does k next

abbrev pub OnHandle : (ℕ → Type 0) → (KeptSeen → State → Type 0) → Option KeptSeen → Option KeptSeen → Type 0
OnHandle refused does None after = refused no_machine × (after ≡ None)
OnHandle refused does (Some k) after = OnKept does k after

-- As above, for a call that begins a migration or ends one: by whether it was told before it is said whether the host tells the digest after it.
pub record OnTold (told : KeptSeen → State → Bool) (does : KeptSeen → State → Type 0) (k : KeptSeen) (after : Option KeptSeen) : Type 0 where
  pub next : State
  pub is_next : after ≡ Some (record k { state = next; told = told k next })
  pub done : does k next

abbrev pub OnToldHandle : (ℕ → Type 0) → (KeptSeen → State → Bool) → (KeptSeen → State → Type 0) → Option KeptSeen → Option KeptSeen → Type 0
OnToldHandle refused told does None after = refused no_machine × (after ≡ None)
OnToldHandle refused told does (Some k) after = OnTold told does k after

-- As above, for a call that may write into RAM: the log of written pages is told of what it writes, where there is one.
pub record OnLogged (does : KeptSeen → State → Option (List Bool) → Type 0) (k : KeptSeen) (after : Option KeptSeen) : Type 0 where
  pub next : State
  pub log : Option (List Bool)
  pub is_next : after ≡ Some (record k { state = next; written = log })
  pub done : does k next log

abbrev pub OnLoggedHandle : (ℕ → Type 0) → (KeptSeen → State → Option (List Bool) → Type 0) → Option KeptSeen → Option KeptSeen → Type 0
OnLoggedHandle refused does None after = refused no_machine × (after ≡ None)
OnLoggedHandle refused does (Some k) after = OnLogged does k after

-- What a call returns of a handle that it leaves as it is.
abbrev pub OfHandle : (ℕ → Type 0) → (State → Type 0) → Option KeptSeen → Type 0
OfHandle refused tells None = refused no_machine
OfHandle refused tells (Some k) = tells k.state

-- A refusal, or else this.
abbrev pub Unless : Option ℕ → (ℕ → Type 0) → Type 0 → Type 0
Unless (Some reason) refused does = refused reason
Unless None refused does = does
