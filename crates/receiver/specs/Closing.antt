-- How a receiver that is told a digest, and does not know whose it is, takes the record of the digest.
use Rattle.std.specs.Prelude.{All, ◌≡◌, ◌≢◌, ◌<◌, ◌≤◌, ◌⊎◌, ℕ, true, List, [], ◌∷◌, ◌++◌, length, take, Bool, false, Result, Ok, Err, IfErr, OnErr, OnOk}
use Rattle.sha2.specs.Sha256.{sha256}
use Rattle.receiver.specs.Calls.{Feeds, IsUntouched}
use Rattle.receiver.specs.Laws.{IsWant}
use Rattle.receiver.specs.Receiving.{HasBeenFed, MayTouch, Received}
use Rattle.receiver.specs.Sums.{past_of}
use Rattle.receiver.specs.declared.intake.Intake.{Intake}
use Rattle.receiver.specs.declared.recv_error.RecvError.{RecvError}
use Rattle.receiver.specs.declared.recv_error.RecvError.TheVariants.{BadDigest, Missing, Trailing}
use Rattle.receiver.specs.declared.stage.Stage.{Stage}
use Rattle.receiver.specs.declared.stage.Stage.TheVariants as stages

-- Each item is named and each device has arrived.
pub record HasAll (i : Intake) : Type 0 where
  pub items : All (λ b. b ≡ true) i.named
  pub devices : length i.devices.items ≡ length i.shapes.items

-- The record of the digest may come.
abbrev pub MayEnd : Stage → Type 0
MayEnd stages.Head = ⊥
MayEnd (stages.Records i) = HasAll i
MayEnd stages.Failed = ⊥

-- The same, where the stream has ended.
abbrev pub ended_at : Stage → Stage
ended_at stages.Head = stages.Head
ended_at (stages.Records i) = stages.Records (record i { ended = true })
ended_at stages.Failed = stages.Failed

-- The bytes begin with the record of another digest.
pub record Differ (digest bytes : List ℕ) : Type 0 where
  pub long : 33 ≤ length bytes
  pub never : take 33 bytes ≢ 5 ∷ digest

-- They continue after the record of this one.
pub record GoOn (digest bytes : List ℕ) : Type 0 where
  pub byte : ℕ
  pub more : List ℕ
  pub whole : bytes ≡ 5 ∷ (digest ++ (byte ∷ more))

-- What these bytes are, by the digest that was told: its record, or fewer bytes than a record of a digest has; or they begin with another one, or
-- continue after it.
abbrev pub Compares : List ℕ → List ℕ → Result Bool RecvError → Type 0
Compares digest bytes (Ok true) = bytes ≡ 5 ∷ digest
Compares digest bytes (Ok false) = length bytes < 33
Compares digest bytes (Err BadDigest) = Differ digest bytes
Compares digest bytes (Err Trailing) = GoOn digest bytes
Compares digest bytes (Err _) = ⊥

-- The same where the record may come; else it is refused at its tag.
abbrev pub Finds : Stage → List ℕ → List ℕ → Result Bool RecvError → Type 0
Finds stage digest bytes (Err Missing) = ¬ (MayEnd stage)
Finds stage digest bytes found = MayEnd stage × Compares digest bytes found

-- All bytes of the record so far are held, or the stream has ended.
abbrev pub GoesOrEnds : Received → List ℕ → List ℕ → Received → Type 0
GoesOrEnds old digest bytes new = (Compares digest bytes (Ok false) × (new ≡ record old { held = bytes })) ⊎ (Compares digest bytes (Ok true) × (new ≡ record old { stage = ended_at old.stage; held = [] }))

-- What came of all bytes of the record so far.
abbrev pub ComesOf : Received → List ℕ → List ℕ → Result (Unit {0}) RecvError → Received → Type 0
ComesOf old digest bytes (Ok x) new = MayEnd old.stage × GoesOrEnds old digest bytes new
ComesOf old digest bytes (Err e) new = Finds old.stage digest bytes (Err e)

-- The next bytes of the record of the digest were taken, or refused, by the digest that was told. It asks for no memory, and calls no disk.
-- Where it is the digest of all bytes that were worked off, this is a piece as any other (`right`). So it is, whatever was told, before the
-- record's last byte, and where the record comes too early.
pub record ClosesOnTrust (old : Received) (digest rest : List ℕ) (result : Result (Unit {0}) RecvError) (new : Received) : Type 0 where
  pub goes_on : old.failed ≡ false
  pub ram : new.ram ≡ old.ram
  pub sizes : new.sizes ≡ old.sizes
  pub marks : new.marks ≡ old.marks
  pub disks : new.disks ≡ old.disks
  pub place : new.place ≡ old.place
  pub failed : OnErr result (new.failed ≡ true)
  pub wants : IfErr result (λ e. ¬ (IsWant e))
  pub same : OnOk result (IsUntouched old new)
  pub untouched : IfErr result (λ e. (b : List ℕ) → HasBeenFed old b → ¬ (MayTouch old.ram old.sizes (b ++ rest) e) → IsUntouched old new)
  pub comes : ComesOf old digest (old.held ++ rest) result new
  pub early : length (old.held ++ rest) < 33 → Feeds old rest result new
  pub missing : result ≡ Err Missing → Feeds old rest result new
  pub right : digest ≡ sha256 (past_of old.digest) → Feeds old rest result new
