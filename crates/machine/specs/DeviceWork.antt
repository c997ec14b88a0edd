-- Steps of devices that were executed: how the state after a step depends on the state before it, and which items were touched. What
-- touching is, as that a log has taken the items in, `touches` says.
use Rattle.std.specs.Prelude.{◌≡◌, ◌++◌, ℕ, List, Bool}
use Rattle.guestmem.specs.Item.{Item}
use Rattle.guestmem.specs.Writes.{set_all, touched}
use Rattle.blk.specs.Move.{AreSet, sectors_touched}
use Rattle.blk.specs.Sectors.{IsGiven, Sector}
use Rattle.chains.specs.declared.next.Next.{Next}
use Rattle.machine.specs.State.{DeviceState}
use Rattle.machine.specs.DeviceStep.{device_step, looked_at, wanted_of, MayLook}
use Rattle.machine.specs.Outcome.{outcome_of}
use Rattle.machine.specs.declared.reply.Reply.{Reply}

-- A step of the device of this number was executed, with the sectors as the disk returned them: its reply, and the state after
-- it. The outcome is the one that the reply reports.
pub record IsDeviceStep (touches : List Item → Type 0) (number : ℕ) (honest : Bool) (ram : List ℕ) (content : List Sector) (d : DeviceState) (pick : ℕ) (reply : Reply) (new_ram : List ℕ) (new_content : List Sector) (new : DeviceState) : Type 0 where
  pub given : List Sector
  pub is_given : IsGiven honest content given
  pub seen : Next
  pub may_look : MayLook (wanted_of d.kind pick) (looked_at d pick) ram (outcome_of reply) seen
  pub reply_is : reply ≡ (device_step d ram given pick (outcome_of reply) seen).reply
  pub device_is : new ≡ (device_step d ram given pick (outcome_of reply) seen).device
  pub ram_is : new_ram ≡ set_all ram (device_step d ram given pick (outcome_of reply) seen).writes
  pub content_is : AreSet honest content (device_step d ram given pick (outcome_of reply) seen).sets new_content
  pub items_are : touches (touched (device_step d ram given pick (outcome_of reply) seen).writes ++ sectors_touched number (device_step d ram given pick (outcome_of reply) seen).sets)
