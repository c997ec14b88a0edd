-- A migration whose digest the host tells: its begin by flags, and the telling. All its other calls are those of any migration.
use Rattle.std.specs.Prelude.{◌≡◌, ◌==◌, ◌||◌, ℕ, Bool, true, false, List, Option}
use Rattle.machine.specs.Seen.{Seen}
use Rattle.sender.specs.LiveState.{LiveSeen}
use Rattle.wire.specs.Telling.{EndsInstead, is_owed}
use Rattle.c_machine.specs.Status.{done, not_asked, not_known}
use Rattle.c_machine.specs.declared.setup.TheConstants.{TOLD}
use Rattle.c_handle.specs.Kept.{KeptSeen, State, Still, Moving}
use Rattle.c_handle.specs.Migrated.{BeginsKept, ByMigration}
use Rattle.c_handle.specs.OnHandle.{OnHandle, OnToldHandle, Refuses}

-- The flags of a begin: the host tells the digest, or none.
abbrev pub is_told : ℕ → Bool
is_told flags = flags == TOLD

abbrev pub are_known : ℕ → Bool
are_known flags = flags == 0 || is_told flags

-- A machine that is not being migrated refuses a flag that is not known, before it asks for memory.
abbrev pub BeginsIf : Bool → Seen → ℕ → State → Type 0
BeginsIf true m status next = BeginsKept (Still m) status next
BeginsIf false m status next = Refuses status next (Still m) not_known

abbrev pub BeginsAs : ℕ → State → ℕ → State → Type 0
BeginsAs flags (Still m) status next = BeginsIf (are_known flags) m status next
BeginsAs flags k status next = BeginsKept k status next

-- Whether the host tells the digest after it: as the flags say, where the migration began by it.
abbrev pub told_begun : ℕ → Bool → State → State → Bool
told_begun flags told (Still m) (Moving l) = is_told flags
told_begun flags told k next = told

-- The record that closes the stream has this digest, and can be taken. Nobody compares it; all else is unchanged.
pub record HasTold (l : LiveSeen) (digest : List ℕ) (status : ℕ) (next : LiveSeen) : Type 0 where
  pub status_is : status ≡ done
  pub told : is_owed next.digest ≡ false
  pub ends : EndsInstead l.out.held digest next.out.held
  pub rest : next ≡ record l { digest = next.digest; out = record l.out { held = next.out.held } }

-- By whether a digest is asked for.
abbrev pub TellsIf : Bool → List ℕ → LiveSeen → ℕ → LiveSeen → Type 0
TellsIf true digest l status next = HasTold l digest status next
TellsIf false digest l status next = Refuses status next l not_asked

-- It is asked for where the host tells it, the stream was closed, and it was not told yet.
abbrev pub TellsMoving : Bool → List ℕ → LiveSeen → ℕ → LiveSeen → Type 0
TellsMoving false digest l status next = Refuses status next l not_asked
TellsMoving true digest l status next = TellsIf (is_owed l.digest) digest l status next

abbrev pub TellsKept : Bool → List ℕ → State → ℕ → State → Type 0
TellsKept told digest k status next = ByMigration (λ reason. status ≡ reason) (λ l after. TellsMoving told digest l status after) k next

-- The migration of the machine of a handle begins, by flags.
abbrev pub BegunAs : Option KeptSeen → ℕ → ℕ → Option KeptSeen → Type 0
BegunAs k flags status after = OnToldHandle (λ reason. status ≡ reason) (λ old next. told_begun flags old.told old.state next) (λ old next. BeginsAs flags old.state status next) k after

-- The digest of what was sent of it is told.
abbrev pub HasBeenTold : Option KeptSeen → List ℕ → ℕ → Option KeptSeen → Type 0
HasBeenTold k digest status after = OnHandle (λ reason. status ≡ reason) (λ old next. TellsKept old.told digest old.state status next) k after
