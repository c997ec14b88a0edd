-- A disk that is lost makes nothing durable.
use Rattle.std.proofs.Common.{◌≡◌, ℕ, ◌-◌, ◌∙◌, List, [], set, Bool, true, false, cond, ltb, Option, Some, None, slice_get, refl, sym, ap}
use Rattle.std.specs.Option.{option_map}
use Rattle.mmio.specs.Status.{is_running}
use Rattle.blk.specs.Block.{with_requests}
use Rattle.blk.specs.Move.{failed}
use Rattle.blk.specs.Outside.{Failed, awaits, disk_call, disk_call_in}
use Rattle.blk.specs.declared.block.Block.{Block}
use Rattle.blk.specs.declared.outside.DiskCall.{DiskCall}
use Rattle.blk.specs.declared.request.Request.{Request}
use Rattle.machine.specs.Effect.{replaced_in}
use Rattle.machine.specs.Outcome.{fine}
use Rattle.machine.specs.Outside.{answer_disk, asking_request, call_with, disk_answered, outside_call, outside_requests, request_in}
use Rattle.machine.specs.State.{DeviceState}
use Rattle.machine.specs.Step.{answered_by, hand_in}
use Rattle.machine.specs.declared.event.DiskAnswer.TheVariants as given_
use Rattle.machine.specs.declared.event.Event.TheVariants as event
use Rattle.machine.specs.declared.kind.Kind as kinds
use Rattle.machine.specs.declared.kind.Kind.TheVariants as kind
use Rattle.machine.specs.declared.outside_call.OutsideCall.{OutsideCall}
use Rattle.disk_calls.specs.Lost.{LostMakesNothingDurable}
use Rattle.disk_calls.proofs.Happenings.{devices_after}
use Rattle.disk_calls.proofs.Numbers.{get_set}

there_by : (found : Option DeviceState) (pick : ℕ) (request : Request) → request_in found pick ≡ Some request → (d : DeviceState) × (found ≡ Some d) × (asking_request d pick ≡ Some request)
there_by None pick request h = cc
there_by (Some d) pick request h = (d, refl, h)

-- The request of a pick is one of a device that runs, and has its disk outside.
record IsPicked (d : DeviceState) (pick : ℕ) (request : Request) : Type 0 where
  block : Block
  is : d.kind ≡ kind.Outside block
  runs : is_running d.registers.common ≡ true
  some : ltb 0 pick ≡ true
  there : slice_get block.requests (pick - 1) ≡ Some request

picked_of : (d : DeviceState) (pick : ℕ) (request : Request) (k : kinds.Kind) → d.kind ≡ k → is_running d.registers.common ≡ true → ltb 0 pick ≡ true → slice_get (outside_requests k) (pick - 1) ≡ Some request → IsPicked d pick request
picked_of d pick request (kind.Outside block) is runs some h = record { block = block; is = is; runs = runs; some = some; there = h }
picked_of d pick request (kind.Network mac inbox) is runs some h = cc
picked_of d pick request (kind.Block block) is runs some h = cc
picked_of d pick request (kind.Console size held) is runs some h = cc
picked_of d pick request (kind.Entropy pool) is runs some h = cc

picked_by : (d : DeviceState) (pick : ℕ) (request : Request) (running some : Bool) → is_running d.registers.common ≡ running → ltb 0 pick ≡ some → cond some (slice_get (cond running (outside_requests d.kind) []) (pick - 1)) None ≡ Some request → IsPicked d pick request
picked_by d pick request running false runs is h = cc
picked_by d pick request false true runs is h = cc
picked_by d pick request true true runs is h = picked_of d pick request d.kind refl runs is h

picked : (d : DeviceState) (pick : ℕ) (request : Request) → asking_request d pick ≡ Some request → IsPicked d pick request
picked d pick request h = picked_by d pick request (is_running d.registers.common) (ltb 0 pick) refl refl h

asked_by : (features : ℕ) (call : Option DiskCall) (asked : OutsideCall) → option_map (call_with features) call ≡ Some asked → (c : DiskCall) × (call ≡ Some c)
asked_by features None asked h = cc
asked_by features (Some call) asked h = (call, refl)

-- A request that asks for something awaits a failure too.
awaits_failure : (d : DeviceState) (pick : ℕ) (request : Request) (asked : OutsideCall) → asking_request d pick ≡ Some request → outside_call d pick ≡ Some asked → awaits request Failed ≡ true
awaits_failure d pick request asked there h =
    let own : option_map (call_with d.registers.common.features) (disk_call request) ≡ Some asked = sym (ap (λ (o : Option Request). option_map (call_with d.registers.common.features) (disk_call_in o)) there) ∙ h in
    let call = asked_by d.registers.common.features (disk_call request) asked own in
    rw call.1 refl

abbrev with_failed : DeviceState → Block → ℕ → Request → DeviceState
with_failed d block pick request = record d { kind = kind.Outside (with_requests block (set block.requests (pick - 1) (failed request))) }

failed_device : (d : DeviceState) (pick : ℕ) (request : Request) (p : IsPicked d pick request) → awaits request Failed ≡ true → (answer_disk d p.block pick Failed).device ≡ with_failed d p.block pick request
failed_device d pick request p asks = rw (p.runs, p.some, p.there, asks) refl

failed_request : (d : DeviceState) (pick : ℕ) (request : Request) (p : IsPicked d pick request) → asking_request (with_failed d p.block pick request) pick ≡ Some (failed request)
failed_request d pick request p = rw (p.some, p.runs) (get_set p.block.requests (pick - 1) request (failed request) p.there)

pub lost_makes_nothing_durable : LostMakesNothingDurable
lost_makes_nothing_durable m after dev pick asked request given r asks makes there step =
    let at = there_by (slice_get m.devices dev) pick request there in
    let d = at.0 in
    let p = picked d pick request at.2 in
    let call : outside_call d pick ≡ Some asked = rw at.1 at asks in
    let awaited = awaits_failure d pick request asked at.2 call in
    let new = with_failed d p.block pick request in
    let failing = rw makes at step in
    let replaced : (hand_in dev (slice_get m.devices dev) pick given_.Failed).effect.replaced ≡ Some (record { number = dev; device = new }) =
    ap (λ (f : Option DeviceState). (hand_in dev f pick given_.Failed).effect.replaced) at.1 ∙ ap (λ (x : kinds.Kind). (answered_by dev (disk_answered d x pick Failed)).effect.replaced) p.is
    ∙ ap (λ (n : DeviceState). Some (record { number = dev; device = n })) (failed_device d pick request p awaited) in
    let new_there : slice_get after.devices dev ≡ Some new =
    ap (λ (ds : List DeviceState). slice_get ds dev) (devices_after m after (event.Disk dev pick given_.Failed) fine r failing ∙ ap (replaced_in m.devices) replaced) ∙ get_set m.devices dev d new at.1 in
    ap (λ (f : Option DeviceState). request_in f pick) new_there ∙ failed_request d pick request p
