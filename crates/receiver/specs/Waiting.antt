-- How much is still to come of the record whose front is held.
use Rattle.std.specs.Prelude.{◌≤◌, ℕ, ◌+◌, List, length}
use Rattle.guestmem.specs.Number.{IsBytes}
use Rattle.wire.specs.RecordHeads.{BeginsHead, body_len, spelled_head}
use Rattle.wire.specs.declared.record_head.RecordHead.{RecordHead}
use Rattle.receiver.specs.declared.stage.Stage.{Stage}
use Rattle.receiver.specs.declared.stage.Stage.TheVariants as stages

-- Records are read.
abbrev pub ReadsRecords : Stage → Type 0
ReadsRecords stages.Head = ⊥
ReadsRecords (stages.Records i) = Unit {0}
ReadsRecords stages.Failed = ⊥

-- The held bytes begin with a head, and are as many as any head has; of its record at least `count` bytes are still to come.
pub record LacksBytes (stage : Stage) (held : List ℕ) (count : ℕ) : Type 0 where
  pub reads : ReadsRecords stage
  pub bytes : IsBytes held
  pub head : RecordHead
  pub begins : BeginsHead held head
  pub long : 7 ≤ length held
  pub short : length held + count ≤ length (spelled_head head) + body_len head
  pub few : length held + count ≤ 131078
