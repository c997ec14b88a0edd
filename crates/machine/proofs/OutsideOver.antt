-- Answers of a disk outside that give no bytes, to a machine whose RAM is here or lent.
use Rattle.std.proofs.Common.{◌≡◌, ℕ, ◌≤◌, Bool, List, [], length, map, set, refl}
use Rattle.std.specs.Prelude.{Result}
use Rattle.guestmem.specs.Item.{Item}
use Rattle.guestmem.specs.Memory.{Memory}
use Rattle.machine.specs.Applied.{IsApplied}
use Rattle.machine.specs.Known.{Between, Known}
use Rattle.machine.specs.Outcome.{outcome_of}
use Rattle.machine.specs.Outside.{TakesAnswer, answer_of, disk_reply}
use Rattle.machine.specs.Seen.{DeviceSeen, state_of}
use Rattle.machine.specs.Step.{IsStep}
use Rattle.machine.specs.StepLaws.{Fits}
use Rattle.machine.specs.declared.any_ring.AnyRing.{AnyRing}
use Rattle.machine.specs.declared.event.DiskAnswer.{DiskAnswer}
use Rattle.machine.specs.declared.event.Event.TheVariants.{Disk}
use Rattle.machine.specs.declared.reply.Refusal.{Refusal}
use Rattle.machine.specs.declared.reply.Refusal.TheVariants.{NoDevice}
use Rattle.machine.specs.declared.reply.Reply.TheVariants.{Refused}
use Rattle.machine.specs.declared.shape.Shape.{Shape}
use Rattle.machine.proofs.At.{IsAt, plain_step}
use Rattle.machine.proofs.DiskEvents.{handed_step, missing_quiet}
use Rattle.machine.proofs.Known.{between_same}
use Rattle.machine.proofs.Over.{AreKept, applies, held_at, keeps_disk, same_calls, same_sectors, stays_kept}
use Rattle.machine.proofs.Quiet.{IsQuiet}

module _ (k : Known) (shapes : List Shape) (rings : List AnyRing) (ds : List DeviceSeen) (kept : AreKept k shapes rings ds) (dev pick : ℕ) (given : DiskAnswer) (quiet : IsQuiet (Disk dev pick given)) (fits : Fits (Disk dev pick given)) where
  module _ (d new : DeviceSeen) (result : Result Bool Refusal) (at : IsAt ds dev d) (same : new ≡ record d { state = new.state }) (taken : (ram : List ℕ) → TakesAnswer (λ items. items ≡ []) ram d.state pick (answer_of given) result ram new.state) where
    step : (m : Memory) → IsStep (state_of (record { memory = m; devices = ds })) (Disk dev pick given) (outcome_of (disk_reply (answer_of given) result)) (disk_reply (answer_of given) result) (state_of (record { memory = m; devices = set ds dev new }))
    step m =
        plain_step _ (state_of (record { memory = m; devices = ds })) (state_of (record { memory = m; devices = set ds dev new })) (Disk dev pick given) (disk_reply (answer_of given) result)
        (handed_step (λ (items : List Item). items ≡ []) m m ds dev pick d new given result at same (taken m.bytes))

    pub answer_applies : Between k k (λ m n. IsApplied (record { memory = m; devices = ds }) (Disk dev pick given) (disk_reply (answer_of given) result) (record { memory = n; devices = set ds dev new }))
    answer_applies = applies k shapes rings ds kept dev d new at (keeps_disk d new new.state same) (Disk dev pick given) (disk_reply (answer_of given) result) quiet fits step

    pub answer_kept : AreKept k shapes rings (set ds dev new)
    answer_kept = stays_kept k shapes rings ds kept dev d new at (keeps_disk d new new.state same) (Disk dev pick given) (disk_reply (answer_of given) result) quiet fits step rings refl (λ m fit. fit)

    pub answer_sectors : map (λ (x : DeviceSeen). x.sectors) (set ds dev new) ≡ map (λ (x : DeviceSeen). x.sectors) ds
    answer_sectors = same_sectors k shapes rings ds kept dev d new at (keeps_disk d new new.state same) (Disk dev pick given) (disk_reply (answer_of given) result) quiet fits step

    pub answer_calls : map (λ (x : DeviceSeen). x.calls) (set ds dev new) ≡ map (λ (x : DeviceSeen). x.calls) ds
    answer_calls = same_calls k shapes rings ds kept dev d new at (keeps_disk d new new.state same) (Disk dev pick given) (disk_reply (answer_of given) result) quiet fits step

  pub answer_missing : length ds ≤ dev → Between k k (λ m n. IsApplied (record { memory = m; devices = ds }) (Disk dev pick given) (Refused NoDevice) (record { memory = n; devices = ds }))
  answer_missing h = between_same k _ (λ m may. missing_quiet shapes m ds dev pick given quiet (held_at k shapes rings ds kept m may) fits h)
