-- The outstanding request that a step of a device advances.
use Rattle.std.proofs.Common.{◌≡◌, ℕ, ◌-◌, ◌<◌, List, [], length, Option, Some, None, Bool, true, false, cond, refl, sym, arith}
use Rattle.std.specs.Prelude.{not, slice_get}
use Rattle.std.specs.Bool.{MatchBool}
use borrow.Author.Tests.{ltb-true}
use Rattle.blk.specs.Block.{limits_of}
use Rattle.blk.specs.Sound.{AreRequestsOf}
use Rattle.blk.specs.declared.request.Request.{Request}
use Rattle.mmio.specs.State.{Registers, queue_at}
use Rattle.mmio.specs.declared.queue.Queue.{Queue}
use Rattle.chains.specs.State.{RingState, state_of}
use Rattle.chains.specs.declared.position.Positions.{Positions}
use Rattle.machine.specs.DeviceStep.{advances, advanced_by, advanced_at, requests_of, waits_outside}
use Rattle.machine.specs.Sound.{IsSoundDevice, IsSoundKind}
use Rattle.machine.specs.QueuePositions.{is_packed_by}
use Rattle.machine.specs.State.{DeviceState}
use Rattle.machine.specs.declared.kind.Kind.{Kind}
use Rattle.machine.specs.declared.kind.Kind.TheVariants.{Network, Block, Outside, Console, Entropy}
use Rattle.machine.proofs.Looking.{left_of_and, right_of_and, same_some}

-- A step of a sound device with this pick advances a request, which goes on on this ring: that of queue 0, which is ready.
pub record IsAdvancedAt (d : DeviceState) (pick : ℕ) (q : RingState) : Type 0 where
  pub queue : Queue
  pub positions : Positions
  pub there : queue_at d.registers 0 ≡ Some queue
  pub placed : slice_get d.positions 0 ≡ Some positions
  pub advances : advances d pick ≡ true
  pub some : 0 < pick
  pub below : pick - 1 < length (requests_of d.kind)
  pub free : waits_outside d.kind (pick - 1) ≡ false
  pub ready : queue.is_ready ≡ true
  pub is : q ≡ state_of queue d.registers.common.features d.registers.ram_base positions

is_not : (b : Bool) → not b ≡ true → b ≡ false
is_not true is = cc
is_not false is = refl

-- A queue with requests is ready.
ready_by : (b : Bool) (requests : List Request) (k : ℕ) → MatchBool b (Unit {0}) (requests ≡ []) → k < length requests → b ≡ true
ready_by true requests k h below = refl
ready_by false requests k h below = let none : length requests ≡ 0 = rw h refl in absurd (omega (arith, below, none))

kind_ready : (len : ℕ) (r : Registers) (kind : Kind) (queue : Queue) (k : ℕ) → queue_at r 0 ≡ Some queue → IsSoundKind len r kind → k < length (requests_of kind) → queue.is_ready ≡ true
kind_ready len r (Network mac inbox) queue k there sound below = absurd (omega (arith, below))
kind_ready len r (Block block) queue k there sound below =
    let are : AreRequestsOf r.ram_base len (is_packed_by r.common) queue (limits_of block r.common.features) block.requests = rw there at sound in
    ready_by queue.is_ready block.requests k are.where_ready below
kind_ready len r (Outside block) queue k there sound below =
    let are : AreRequestsOf r.ram_base len (is_packed_by r.common) queue (limits_of block r.common.features) block.requests = rw there at sound in
    ready_by queue.is_ready block.requests k are.where_ready below
kind_ready len r (Console size held) queue k there sound below = absurd (omega (arith, below))
kind_ready len r (Entropy pool) queue k there sound below = absurd (omega (arith, below))

advance_if : {base : ℕ} (len : ℕ) (d : DeviceState) (pick : ℕ) (queue : Queue) (p : Positions) (q : RingState) (b : Bool) → IsSoundDevice base len d → advances d pick ≡ b → queue_at d.registers 0 ≡ Some queue → slice_get d.positions 0 ≡ Some p
    → cond b (Some (state_of queue d.registers.common.features d.registers.ram_base p)) None ≡ Some q → IsAdvancedAt d pick q
advance_if len d pick queue p q true sound all there placed is =
    let two = left_of_and _ _ all in
    let can = right_of_and _ _ all in
    let below = ltb-true (pick - 1) (length (requests_of d.kind)) (left_of_and _ _ can) in
    record {
      queue = queue;
      positions = p;
      there = there;
      placed = placed;
      advances = all;
      some = ltb-true 0 pick (right_of_and _ _ two);
      below = below;
      free = is_not _ (right_of_and _ _ can);
      ready = kind_ready len d.registers d.kind queue (pick - 1) there sound.kind below;
      is = sym (same_some (state_of queue d.registers.common.features d.registers.ram_base p) q is);
    }
advance_if len d pick queue p q false sound all there placed is = cc

advance_by : {base : ℕ} (len : ℕ) (d : DeviceState) (pick : ℕ) (queue : Option Queue) (p : Option Positions) (q : RingState) → IsSoundDevice base len d → queue_at d.registers 0 ≡ queue → slice_get d.positions 0 ≡ p → advanced_by d pick queue p ≡ Some q → IsAdvancedAt d pick q
advance_by len d pick None p q sound there placed is = cc
advance_by len d pick (Some queue) None q sound there placed is = cc
advance_by len d pick (Some queue) (Some p) q sound there placed is = advance_if len d pick queue p q (advances d pick) sound refl there placed is

pub advanced_is : {base : ℕ} (len : ℕ) (d : DeviceState) (pick : ℕ) (q : RingState) → IsSoundDevice base len d → advanced_at d pick ≡ Some q → IsAdvancedAt d pick q
advanced_is len d pick q sound is = advance_by len d pick (queue_at d.registers 0) (slice_get d.positions 0) q sound refl refl is
