-- A flush that fails in place of its step.
use Rattle.std.proofs.Common.{◌≡◌, ℕ, ◌-◌, ◌<◌, Bool, true, false, cond, List, [], length, map, set, Option, Some, None, refl, ap, ◌∙◌, arith}
use Rattle.std.specs.Prelude.{◌&&◌, slice_get}
use Rattle.std.proofs.lemmas.Option.{slice_get-get_or}
use borrow.Author.Tests.{ltb-true}
use Rattle.guestmem.specs.Memory.{Memory}
use Rattle.mmio.specs.State.{first_queue}
use Rattle.chains.specs.State.{RingState}
use Rattle.chains.specs.declared.next.Next.{Next}
use Rattle.chains.specs.declared.next.Next.TheVariants as next
use Rattle.blk.specs.Advance.{AdvanceStep, advance_step}
use Rattle.blk.specs.Flush.{failed_if_flush, flush_failed, flushes_in, is_flush}
use Rattle.blk.specs.Flush as blk
use Rattle.blk.specs.Move.{disk_failed, move_of}
use Rattle.blk.specs.Request.{is_open}
use Rattle.blk.specs.Sectors.{Sector}
use Rattle.blk.specs.declared.advancing.Advanced.TheVariants as advanced
use Rattle.blk.specs.declared.request.Kind as request
use Rattle.blk.specs.declared.request.Kind.TheVariants.{Refused, In, Out, Flush, GetId, Zero}
use Rattle.blk.specs.declared.request.Request.{Request}
use Rattle.blk.specs.Block.{with_requests}
use Rattle.blk.specs.declared.block.Block as blocks
use Rattle.machine.specs.DeviceStep.{DeviceAnswer, advances, device_step, looked_at}
use Rattle.machine.specs.Held.{IsHeld}
use Rattle.machine.specs.Outcome as outcome
use Rattle.machine.specs.Seen.{DeviceSeen, Seen}
use Rattle.machine.specs.Seen as seen
use Rattle.machine.specs.Shapes.{made_as, queues_of}
use Rattle.machine.specs.Sound.{IsSoundDevice}
use Rattle.machine.specs.State.{DeviceState}
use Rattle.machine.specs.Effect.{applied}
use Rattle.machine.specs.Step.{HasEffect, IsStep, disk_of}
use Rattle.machine.specs.StepLaws.{Fits}
use Rattle.machine.specs.Unsynced.{FailsFlush, FailsFlushIf, flushes, flushes_if, kind_flush_failed, kind_flushes, with_flush_failed}
use Rattle.machine.specs.declared.event.Event.TheVariants.{Step}
use Rattle.machine.specs.declared.kind.Kind.{Kind}
use Rattle.machine.specs.declared.kind.Kind.TheVariants.{Network, Block, Outside, Console, Entropy}
use Rattle.machine.specs.declared.reply.Reply.TheVariants.{DiskFailed}
use Rattle.machine.specs.declared.shape.Shape.{Shape}
use Rattle.machine.proofs.At.{IsAt, changed_at, changing, found, held_step, map-set_same, set_found, set_itself, sound_device}
use Rattle.machine.proofs.Looking.{left_of_and, none_past, right_of_and}
use Rattle.machine.proofs.Rings.{positions_long}
use Rattle.machine.proofs.Stepping.{no_positions}
use Rattle.machine.proofs.Within.{step_shape}

-- The requests.
same_if : (rs : List Request) (k : ℕ) (r : Option Request) → flushes_in r ≡ false → failed_if_flush rs k r ≡ rs
same_if rs k None h = refl
same_if rs k (Some r) h = rw h refl

moved_so : (k : request.Kind) (base : ℕ) (id ram : List ℕ) (content : List Sector) (r : Request) → is_flush k ≡ true → move_of k base id ram content r false ≡ disk_failed r []
moved_so Flush base id ram content r h = refl
moved_so Refused base id ram content r h = cc
moved_so In base id ram content r h = cc
moved_so Out base id ram content r h = cc
moved_so GetId base id ram content r h = cc
moved_so Zero base id ram content r h = cc

advanced_so : (ram : List ℕ) (q : RingState) (content : List Sector) (b : blocks.Block) (k : ℕ) (r : Request) → slice_get b.requests k ≡ Some r → blk.flushes r ≡ true
    → ◌≡◌ {A = AdvanceStep} (advance_step ram q content b k false) (record { answer = advanced.DiskFailed; writes = []; sets = []; ring = q; block = flush_failed b k })
advanced_so ram q content b k r there h =
    let opens = left_of_and (is_open r) (is_flush r.kind) h in
    rw (there, h, opens, moved_so r.kind q.base b.id ram content r (right_of_and (is_open r) (is_flush r.kind) h)) refl

-- The request that flushes is there.
record HasFlush (rs : List Request) (k : ℕ) : Type 0 where
  request : Request
  there : slice_get rs k ≡ Some request
  is : blk.flushes request ≡ true

flush_in : (rs : List Request) (k : ℕ) (r : Option Request) → slice_get rs k ≡ r → flushes_in r ≡ true → HasFlush rs k
flush_in rs k None there h = cc
flush_in rs k (Some r) there h = record { request = r; there = there; is = h }

-- Its device is a block device.
record HasBlock (kind : Kind) (k : ℕ) : Type 0 where
  block : blocks.Block
  is : kind ≡ Block block
  flush : HasFlush block.requests k

block_in : (kind : Kind) (k : ℕ) → kind_flushes kind k ≡ true → HasBlock kind k
block_in (Block block) k h = record { block = block; is = refl; flush = flush_in block.requests k (slice_get block.requests k) refl h }
block_in (Outside block) k h = cc
block_in (Network mac inbox) k h = cc
block_in (Console size held) k h = cc
block_in (Entropy pool) k h = cc

same_kind : (kind : Kind) (k : ℕ) → kind_flushes kind k ≡ false → kind_flush_failed kind k ≡ kind
same_kind (Block block) k h = ap (λ (rs : List Request). Block (with_requests block rs)) (same_if block.requests k (slice_get block.requests k) h)
same_kind (Outside block) k h = refl
same_kind (Network mac inbox) k h = refl
same_kind (Console size held) k h = refl
same_kind (Entropy pool) k h = refl

same_by : (d : DeviceState) (pick : ℕ) (b : Bool) → (b && kind_flushes d.kind (pick - 1)) ≡ false → cond b (record d { kind = kind_flush_failed d.kind (pick - 1) }) d ≡ d
same_by d pick true h = ap (λ (kind : Kind). record d { kind = kind }) (same_kind d.kind (pick - 1) h)
same_by d pick false h = refl

pub same_device : (d : DeviceState) (pick : ℕ) → flushes d pick ≡ false → with_flush_failed d pick ≡ d
same_device d pick h = same_by d pick (advances d pick) h

record IsFlushing (d : DeviceState) (pick : ℕ) : Type 0 where
  advancing : advances d pick ≡ true
  some : 0 < pick
  has : HasBlock d.kind (pick - 1)

flushing : (d : DeviceState) (pick : ℕ) → flushes d pick ≡ true → IsFlushing d pick
flushing d pick h =
    let all = left_of_and (advances d pick) (kind_flushes d.kind (pick - 1)) h in
    record {
      advancing = all;
      some = ltb-true 0 pick (right_of_and _ _ (left_of_and _ _ all));
      has = block_in d.kind (pick - 1) (right_of_and (advances d pick) (kind_flushes d.kind (pick - 1)) h);
    }

one_of : {base : ℕ} (len : ℕ) (d : DeviceState) (pick : ℕ) → IsSoundDevice base len d → IsFlushing d pick → length d.registers.queues ≡ 1
one_of len d pick sound f = sound.queues ∙ ap (λ (kind : Kind). queues_of (made_as kind)) f.has.is

unlooked : {base : ℕ} (len : ℕ) (d : DeviceState) (pick : ℕ) → IsSoundDevice base len d → IsFlushing d pick → looked_at d pick ≡ None
unlooked len d pick sound f = none_past d pick (omega (arith, one_of len d pick sound f, f.some))

step_fails : {base : ℕ} (len : ℕ) (d : DeviceState) (ram : List ℕ) (content : List Sector) (pick : ℕ) (seen : Next) → IsSoundDevice base len d → IsFlushing d pick
    → ◌≡◌ {A = DeviceAnswer} (device_step d ram content pick outcome.disk_failed seen) (record { reply = DiskFailed; writes = []; sets = []; device = with_flush_failed d pick })
unfolding device_step
step_fails len d ram content pick seen sound f =
    let one = one_of len d pick sound f in
    let long : length d.positions ≡ length d.registers.queues = positions_long _ d.registers.queues d.positions sound.positions in
    let placed = slice_get-get_or d.positions 0 no_positions (omega (arith, one, long)) in
    rw (unlooked len d pick sound f, slice_get-get_or d.registers.queues 0 first_queue (omega (arith, one)), placed, f.advancing, f.has.is)
    (rw (advanced_so ram _ content f.has.block (pick - 1) f.has.flush.request f.has.flush.there f.has.flush.is, set_itself d.positions 0 _ placed) refl)

-- Its machine.
pub flushes_there : (ds : List DeviceSeen) (dev pick : ℕ) (d : DeviceSeen) → IsAt ds dev d → flushes_if (slice_get (map (λ (x : DeviceSeen). x.state) ds) dev) pick ≡ flushes d.state pick
flushes_there ds dev pick d at = rw (found ds dev d at) refl

flush_has : {base : ℕ} (m : Memory) (ds : List DeviceSeen) (dev pick : ℕ) (d new : DeviceSeen) → IsAt ds dev d → new ≡ record d { state = with_flush_failed d.state pick } → IsSoundDevice base (length m.bytes) d.state → IsFlushing d.state pick
    → HasEffect (seen.state_of (record { memory = m; devices = ds })) (Step dev pick) outcome.disk_failed DiskFailed (changing dev [] new.state)
flush_has m ds dev pick d new at is sound f =
    let fails = step_fails (length m.bytes) d.state m.bytes (disk_of (seen.state_of (record { memory = m; devices = ds })) dev) pick next.Empty sound f in
    record {
      seen = next.Empty;
      may_see = rw (found ds dev d at, unlooked (length m.bytes) d.state pick sound f) tt;
      reply_is = rw (found ds dev d at, fails) refl;
      effect_is = rw (found ds dev d at, fails, is) refl;
      outcome_is = refl;
    }

flush_changed : (m : Memory) (ds : List DeviceSeen) (dev pick : ℕ) (d new : DeviceSeen) → IsAt ds dev d → new ≡ record d { state = with_flush_failed d.state pick }
    → seen.state_of (record { memory = m; devices = set ds dev new }) ≡ applied (seen.state_of (record { memory = m; devices = ds })) (changing dev [] new.state)
flush_changed m ds dev pick d new at is = changed_at m m ds dev d new [] at (ap (λ (x : DeviceSeen). x.sectors) is) refl

flush_step : {base : ℕ} (m : Memory) (ds : List DeviceSeen) (dev pick : ℕ) (d new : DeviceSeen) → IsAt ds dev d → new ≡ record d { state = with_flush_failed d.state pick } → IsSoundDevice base (length m.bytes) d.state → IsFlushing d.state pick
    → IsStep (seen.state_of (record { memory = m; devices = ds })) (Step dev pick) outcome.disk_failed DiskFailed (seen.state_of (record { memory = m; devices = set ds dev new }))
flush_step m ds dev pick d new at is sound f = record { effect = changing dev [] new.state; has = flush_has m ds dev pick d new at is sound f; changed = flush_changed m ds dev pick d new at is }

pub fails : (shapes : List Shape) (m : Memory) (ds : List DeviceSeen) (dev pick : ℕ) (d new : DeviceSeen) → IsAt ds dev d → new ≡ record d { state = with_flush_failed d.state pick } → IsHeld shapes (record { memory = m; devices = ds }) → Fits (Step dev pick) → flushes d.state pick ≡ true
    → FailsFlush (record { memory = m; devices = ds }) dev pick (record { memory = m; devices = set ds dev new })
fails shapes m ds dev pick d new at is held fits h =
    let sound = sound_device m ds dev d at held.sound in
    let f = flushing d.state pick h in
    let has = flush_has m ds dev pick d new at is sound f in
    let changed = flush_changed m ds dev pick d new at is in
    record {
      effect = changing dev [] new.state;
      has = has;
      changed = changed;
      untouched = refl;
      memory = refl;
      marks = map-set_same (λ (x : DeviceSeen). x.marks) ds dev d new at (ap (λ (x : DeviceSeen). x.marks) is);
      shape = rw changed (step_shape (seen.state_of (record { memory = m; devices = ds })) (Step dev pick) outcome.disk_failed DiskFailed (changing dev [] new.state) has);
      sound = (held_step shapes (record { memory = m; devices = ds }) (record { memory = m; devices = set ds dev new }) (Step dev pick) outcome.disk_failed DiskFailed held fits (flush_step m ds dev pick d new at is sound f)).sound;
    }

pub same_devices : (ds : List DeviceSeen) (dev pick : ℕ) (d new : DeviceSeen) → IsAt ds dev d → new ≡ record d { state = with_flush_failed d.state pick } → flushes d.state pick ≡ false → set ds dev new ≡ ds
same_devices ds dev pick d new at is h = ap (set ds dev) (is ∙ ap (λ (s : DeviceState). record d { state = s }) (same_device d.state pick h)) ∙ set_found ds dev d at

pub tried : (shapes : List Shape) (m : Memory) (ds : List DeviceSeen) (dev pick : ℕ) (d new : DeviceSeen) (was : Bool) → IsAt ds dev d → new ≡ record d { state = with_flush_failed d.state pick } → IsHeld shapes (record { memory = m; devices = ds }) → Fits (Step dev pick) → flushes d.state pick ≡ was
    → FailsFlushIf was (record { memory = m; devices = ds }) dev pick (record { memory = m; devices = set ds dev new })
tried shapes m ds dev pick d new true at is held fits h = fails shapes m ds dev pick d new at is held fits h
tried shapes m ds dev pick d new false at is held fits h = ap (λ (xs : List DeviceSeen). record { memory = m; devices = xs }) (same_devices ds dev pick d new at is h)

held_by : (shapes : List Shape) (m : Memory) (ds : List DeviceSeen) (dev pick : ℕ) (d new : DeviceSeen) (was : Bool) → IsAt ds dev d → new ≡ record d { state = with_flush_failed d.state pick } → IsHeld shapes (record { memory = m; devices = ds }) → Fits (Step dev pick) → flushes d.state pick ≡ was
    → IsHeld shapes (record { memory = m; devices = set ds dev new })
held_by shapes m ds dev pick d new true at is held fits h =
    held_step shapes (record { memory = m; devices = ds }) (record { memory = m; devices = set ds dev new }) (Step dev pick) outcome.disk_failed DiskFailed held fits (flush_step m ds dev pick d new at is (sound_device m ds dev d at held.sound) (flushing d.state pick h))
held_by shapes m ds dev pick d new false at is held fits h = rw (same_devices ds dev pick d new at is h) held

pub held_tried : (shapes : List Shape) (m : Memory) (ds : List DeviceSeen) (dev pick : ℕ) (d new : DeviceSeen) → IsAt ds dev d → new ≡ record d { state = with_flush_failed d.state pick } → IsHeld shapes (record { memory = m; devices = ds }) → Fits (Step dev pick)
    → IsHeld shapes (record { memory = m; devices = set ds dev new })
held_tried shapes m ds dev pick d new at is held fits = held_by shapes m ds dev pick d new (flushes d.state pick) at is held fits refl
