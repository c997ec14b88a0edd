-- Steps of a device as they are made: its positions are held in an array with room to spare.
use Rattle.std.proofs.Common.{◌≡◌, ℕ, zero, suc, ◌-◌, ◌<◌, ◌≤◌, Bool, true, false, cond, List, [], ◌∷◌, length, take, set, get_or, Option, Some, None, Result, Ok, Err, refl, sym, ap, ◌∙◌, arith, append-nil}
use Rattle.std.specs.Prelude.{not, slice_get}
use Rattle.std.proofs.lemmas.Option.{slice_get-get_or, slice_get_past, slice_get_within}
use Rattle.std.proofs.Math.Seq.{take-set-lt}
use Rattle.guestmem.specs.Item.{Item}
use Rattle.guestmem.specs.Memory.{Memory}
use Rattle.guestmem.specs.Rises.{Touches}
use Rattle.guestmem.proofs.RisesLaws.{touches_none}
use Rattle.blk.specs.Advance.{advance_step, IsAfterAdvancing}
use Rattle.blk.specs.Block.{limits_of}
use Rattle.blk.specs.Move.{is_disk_failed}
use Rattle.blk.specs.Outside.{Failed, IsAfterOutside, awaits_at, outside_step}
use Rattle.blk.specs.Sectors.{AreWhole, Sector}
use Rattle.blk.specs.Sound.{AreSound}
use Rattle.blk.specs.declared.advancing.Advanced.{Advanced}
use Rattle.blk.specs.declared.advancing.Advanced.TheVariants as advanced
use Rattle.blk.specs.declared.block.Block as blocks
use Rattle.mmio.specs.Interrupts.{used_raised}
use Rattle.mmio.specs.State.{Registers, first_queue, queue_at, with_common}
use Rattle.mmio.specs.declared.common.Common.{Common}
use Rattle.mmio.specs.declared.queue.Queue.{Queue}
use Rattle.chains.specs.Served.{HasRun, IsServed, scene}
use Rattle.chains.specs.Service.{Answer, Did, Empty, Malformed, deed_in}
use Rattle.chains.specs.State.{AreAbove, RingState, state_of}
use Rattle.chains.specs.declared.next.Next.{Next}
use Rattle.chains.specs.declared.next.Next.TheVariants as next
use Rattle.chains.specs.declared.position.Positions.{Positions}
use Rattle.chains.specs.declared.served.Done.{Done}
use Rattle.chains.specs.declared.served.Done.TheVariants as done
use Rattle.chains.specs.declared.served.Served.{Served}
use Rattle.chains.specs.declared.served.Unserved.{Unserved}
use Rattle.chains.specs.declared.served.Unserved.TheVariants as why
use Rattle.machine.specs.DeviceStep.{advances, advanced_at, advanced_by, device_step, is_advance_due, is_outside, looks, looked_at, looked_step, requests_of, reply_of, reply_to, reply_to_advance, registers_after, serve, wanted_of}
use Rattle.machine.specs.DeviceWork.{IsDeviceStep}
use Rattle.machine.specs.Outcome.{Outcome, fine, disk_failed, no_memory, disk_does, is_failure, outcome_of}
use Rattle.machine.specs.Shapes.{device_id_of, made_as, offered_of, sector_count}
use Rattle.machine.specs.Sound.{AreSoundBeside, IsSoundDevice, IsSoundShape}
use Rattle.machine.specs.State.{DeviceState}
use Rattle.machine.specs.Stepped.{looked_registers, looked_reply}
use Rattle.machine.specs.declared.kind.Kind.{Kind}
use Rattle.machine.specs.declared.kind.Kind.TheVariants.{Network, Block, Outside, Console, Entropy}
use Rattle.machine.specs.declared.reply.Reply.{Reply}
use Rattle.machine.specs.declared.reply.Reply.TheVariants.{Idle}
use Rattle.blk.proofs.Given.{given_itself, none_set}
use Rattle.blk.proofs.Others.{outside_sets}
use Rattle.machine.proofs.Advancing.{advanced_is}
use Rattle.machine.proofs.Answering.{answered}
use Rattle.machine.proofs.Looking.{looked_is, positions_stay, some_looked}
use Rattle.machine.proofs.Rings.{IsLookedRing, above_ready, looked_ring, positions_long, ready_ring}
use Rattle.machine.proofs.Staying.{beside, outstanding, served_registers}

-- A device as it is held.
abbrev pub held_device : Kind → Registers → List Positions → DeviceState
held_device kind r held = record { kind = kind; registers = r; positions = take (length r.queues) held }

abbrev pub no_positions : Positions
no_positions = record { taking = record { place = 0; wrap = false }; used = record { place = 0; wrap = false } }

-- The ring of the queue that is looked at, as it is made.
pub made_ring : {base : ℕ} (len : ℕ) (kind : Kind) (r : Registers) (held : List Positions) (pick : ℕ) (qs : List Queue) (features at : ℕ) → IsSoundDevice base len (held_device kind r held) → qs ≡ r.queues → pick < length qs
    → true ≡ looks (held_device kind r held) pick (get_or qs pick first_queue) → features ≡ r.common.features → at ≡ r.ram_base
    → IsLookedRing len (state_of (get_or qs pick first_queue) features at (get_or held pick no_positions))
made_ring len kind r held pick qs features at sound same below looking feature based =
    let d = held_device kind r held in
    let there : pick < length r.queues = omega (arith, below, ap length same) in
    let looking_here = rw same at looking in
    let long : length d.positions ≡ length r.queues = positions_long _ r.queues d.positions sound.positions in
    let is = some_looked d pick first_queue no_positions held there refl long looking_here in
    rw (same, feature, based) (looked_ring len d pick (state_of (get_or r.queues pick first_queue) r.common.features r.ram_base (get_or held pick no_positions)) sound (looked_is d pick _ is))

pub made_above : {base : ℕ} (len : ℕ) (kind : Kind) (r : Registers) (held : List Positions) (pick : ℕ) (qs : List Queue) (at : ℕ) → IsSoundDevice base len (held_device kind r held) → qs ≡ r.queues → pick < length qs
    → true ≡ looks (held_device kind r held) pick (get_or qs pick first_queue) → at ≡ r.ram_base → AreAbove at (get_or qs pick first_queue)
made_above len kind r held pick qs at sound same below looking based =
    let d = held_device kind r held in
    let there : pick < length r.queues = omega (arith, below, ap length same) in
    let looking_here = rw same at looking in
    let long : length d.positions ≡ length r.queues = positions_long _ r.queues d.positions sound.positions in
    let look = looked_is d pick _ (some_looked d pick first_queue no_positions held there refl long looking_here) in
    rw (same, based) (above_ready len d pick look.queue (get_or r.queues pick first_queue) sound look.there look.ready (slice_get-get_or r.queues pick first_queue there))

pub made_look : {base : ℕ} (len : ℕ) (kind : Kind) (r : Registers) (held : List Positions) (pick : ℕ) (qs : List Queue) (features at : ℕ) → IsSoundDevice base len (held_device kind r held) → qs ≡ r.queues → pick < length qs
    → true ≡ looks (held_device kind r held) pick (get_or qs pick first_queue) → features ≡ r.common.features → at ≡ r.ram_base
    → looked_at (held_device kind r held) pick ≡ Some (state_of (get_or qs pick first_queue) features at (get_or held pick no_positions))
made_look len kind r held pick qs features at sound same below looking feature based =
    let d = held_device kind r held in
    let there : pick < length r.queues = omega (arith, below, ap length same) in
    let looking_here = rw same at looking in
    let long : length d.positions ≡ length r.queues = positions_long _ r.queues d.positions sound.positions in
    rw (same, feature, based) (some_looked d pick first_queue no_positions held there refl long looking_here)

-- The ring of a request that goes on, as it is made.
none_by : (d : DeviceState) (pick : ℕ) (q : Option Queue) (p : Option Positions) → advances d pick ≡ false → advanced_by d pick q p ≡ None
none_by d pick None p h = refl
none_by d pick (Some q) None h = refl
none_by d pick (Some q) (Some p) h = rw h refl

pub none_advanced : (d : DeviceState) (pick : ℕ) → advances d pick ≡ false → advanced_at d pick ≡ None
none_advanced d pick h = none_by d pick (queue_at d.registers 0) (slice_get d.positions 0) h

none_there : (d : DeviceState) (pick : ℕ) → queue_at d.registers 0 ≡ None → advanced_at d pick ≡ None
none_there d pick h = rw h refl

pub advanced_ring : {base : ℕ} (len : ℕ) (d : DeviceState) (pick : ℕ) (q : RingState) → IsSoundDevice base len d → advanced_at d pick ≡ Some q → IsLookedRing len q
advanced_ring len d pick q sound is =
    let look = advanced_is len d pick q sound is in
    rw look.is (ready_ring len d 0 look.queue look.positions sound look.there look.placed look.ready)

pub advanced_sound : {base : ℕ} (len : ℕ) (d : DeviceState) (block : blocks.Block) (pick : ℕ) (q : RingState) → IsSoundDevice base len d → advanced_at d pick ≡ Some q → d.kind ≡ Block block → AreSound len q (limits_of block d.registers.common.features) block.requests
advanced_sound len d block pick q sound is kind_is =
    let look = advanced_is len d pick q sound is in
    rw kind_is at (outstanding len q d.registers.common.features d.kind (beside len d 0 look.queue look.positions q sound look.there look.is))

pub outside_sound : {base : ℕ} (len : ℕ) (d : DeviceState) (block : blocks.Block) (pick : ℕ) (q : RingState) → IsSoundDevice base len d → advanced_at d pick ≡ Some q → d.kind ≡ Outside block → AreSound len q (limits_of block d.registers.common.features) block.requests
outside_sound len d block pick q sound is kind_is =
    let look = advanced_is len d pick q sound is in
    rw kind_is at (outstanding len q d.registers.common.features d.kind (beside len d 0 look.queue look.positions q sound look.there look.is))

-- The request that a step advances of a device whose disk is outside does not wait for that.
pub outside_free : {base : ℕ} (len : ℕ) (d : DeviceState) (block : blocks.Block) (pick : ℕ) (q : RingState) → IsSoundDevice base len d → advanced_at d pick ≡ Some q → d.kind ≡ Outside block → awaits_at block.requests (pick - 1) Failed ≡ false
outside_free len d block pick q sound is kind_is = rw kind_is at (advanced_is len d pick q sound is).free

pub looked_sound : {base : ℕ} (len : ℕ) (d : DeviceState) (pick : ℕ) (q : RingState) → IsSoundDevice base len d → looked_at d pick ≡ Some q → AreSoundBeside len q d.registers.common.features d.kind
looked_sound len d pick q sound is =
    let look = looked_is d pick q is in
    outstanding len q d.registers.common.features d.kind (beside len d pick look.queue look.positions q sound look.there look.is)

pub has_queue : {base : ℕ} (d : DeviceState) (pick : ℕ) (q : RingState) (len : ℕ) → IsSoundDevice base len d → advanced_at d pick ≡ Some q → 0 < length d.registers.queues
has_queue d pick q len sound is = let look = advanced_is len d pick q sound is in slice_get_within d.registers.queues 0 look.queue look.there

-- A device without a disk, in the machine or outside, has no requests.
empty_handed : (kind : Kind) → IsSoundShape (made_as kind) → is_outside kind ≡ false → sector_count (made_as kind) ≡ 0 → length (requests_of kind) ≡ 0
empty_handed (Network mac inbox) limits inside none = refl
empty_handed (Block block) limits inside none = absurd (omega (arith, limits.some, none))
empty_handed (Outside block) limits inside none = cc
empty_handed (Console size held) limits inside none = refl
empty_handed (Entropy pool) limits inside none = refl

none_or : {base : ℕ} (len : ℕ) (d : DeviceState) (pick : ℕ) (ring : Option RingState) → IsSoundDevice base len d → length (requests_of d.kind) ≡ 0 → advanced_at d pick ≡ ring → advanced_at d pick ≡ None
none_or len d pick None sound none is = is
none_or len d pick (Some q) sound none is = let look = advanced_is len d pick q sound is in absurd (omega (arith, look.below, none))

pub none_without : {base : ℕ} (len : ℕ) (d : DeviceState) (pick : ℕ) → IsSoundDevice base len d → is_outside d.kind ≡ false → sector_count (made_as d.kind) ≡ 0 → advanced_at d pick ≡ None
none_without len d pick sound inside none = none_or len d pick (advanced_at d pick) sound (empty_handed d.kind sound.shape inside none) refl

pub none_queued : (d : DeviceState) (pick : ℕ) (qs : List Queue) → qs ≡ d.registers.queues → length qs ≡ 0 → advanced_at d pick ≡ None
none_queued d pick qs is none = none_there d pick (slice_get_past d.registers.queues 0 (omega (arith, ap length is, none)))

first_held : (n : ℕ) (held : List Positions) → 0 < n → 0 < length (take n held) → slice_get (take n held) 0 ≡ Some (get_or held 0 no_positions)
first_held zero held some long = absurd (omega (arith, some))
first_held (suc n) [] some long = absurd (omega (arith, long))
first_held (suc n) (p ∷ held) some long = refl

pub some_advanced : {base : ℕ} (len : ℕ) (kind : Kind) (r : Registers) (held : List Positions) (pick : ℕ) (qs : List Queue) (features at : ℕ) → IsSoundDevice base len (held_device kind r held) → qs ≡ r.queues → 1 ≤ length qs → true ≡ advances (held_device kind r held) pick → features ≡ r.common.features → at ≡ r.ram_base
    → advanced_at (held_device kind r held) pick ≡ Some (state_of (get_or qs 0 first_queue) features at (get_or held 0 no_positions))
some_advanced len kind r held pick qs features at sound is some all feature based =
    let below : 0 < length r.queues = omega (arith, ap length is, some) in
    let long : length (take (length r.queues) held) ≡ length r.queues = positions_long _ r.queues (take (length r.queues) held) sound.positions in
    rw (slice_get-get_or r.queues 0 first_queue below, first_held (length r.queues) held below (omega (arith, long, below)), ← all, is, feature, based) refl

pub made_advanced : {base : ℕ} (len : ℕ) (kind : Kind) (r : Registers) (held : List Positions) (pick : ℕ) (qs : List Queue) (features at : ℕ) → IsSoundDevice base len (held_device kind r held) → qs ≡ r.queues → 1 ≤ length qs → true ≡ advances (held_device kind r held) pick → features ≡ r.common.features → at ≡ r.ram_base
    → IsLookedRing len (state_of (get_or qs 0 first_queue) features at (get_or held 0 no_positions))
made_advanced len kind r held pick qs features at sound is some all feature based =
    advanced_ring len (held_device kind r held) pick _ sound (some_advanced len kind r held pick qs features at sound is some all feature based)

pub advanced_above : {base : ℕ} (len : ℕ) (kind : Kind) (r : Registers) (held : List Positions) (pick : ℕ) (qs : List Queue) (features at : ℕ) → IsSoundDevice base len (held_device kind r held) → qs ≡ r.queues → 1 ≤ length qs → true ≡ advances (held_device kind r held) pick → features ≡ r.common.features → at ≡ r.ram_base
    → AreAbove at (get_or qs 0 first_queue)
advanced_above len kind r held pick qs features at sound is some all feature based =
    let d = held_device kind r held in
    let below : 0 < length r.queues = omega (arith, ap length is, some) in
    let look = advanced_is len d pick _ sound (some_advanced len kind r held pick qs features at sound is some all feature based) in
    rw (is, based) (above_ready len d 0 look.queue (get_or r.queues 0 first_queue) sound look.there look.ready (slice_get-get_or r.queues 0 first_queue below))

-- A device without a disk has no sectors.
pub none_whole : AreWhole []
none_whole k d below = absurd (omega (arith, below))

-- A step that looks at no queue and advances no request.
pub idle_step : (touches : List Item → Type 0) (number : ℕ) (honest : Bool) (ram : List ℕ) (content : List Sector) (d : DeviceState) (pick : ℕ) → AreWhole content → looked_at d pick ≡ None → advanced_at d pick ≡ None → touches [] → IsDeviceStep touches number honest ram content d pick Idle ram content d
unfolding device_step
idle_step touches number honest ram content d pick whole none no_request untouched = record {
  given = content;
  is_given = given_itself honest content whole;
  seen = next.Empty;
  may_look = rw none tt;
  reply_is = rw (none, no_request) refl;
  device_is = rw (none, no_request) refl;
  ram_is = rw (none, no_request) refl;
  content_is = rw (none, no_request) (none_set honest content content refl);
  items_are = rw (none, no_request) untouched;
}

-- A look that served a queue, or found nothing there.
no_sets : (d : DeviceState) (ram : List ℕ) (pick : ℕ) (q : RingState) (o : Outcome) (seen : Next) → (looked_step d ram pick q o seen).sets ≡ []
no_sets d ram pick q fine seen = refl
no_sets d ram pick q disk_failed seen = refl
no_sets d ram pick q no_memory seen = refl

served_look : (touches : List Item → Type 0) (number : ℕ) (honest : Bool) (ram : List ℕ) (content : List Sector) (kind : Kind) (r : Registers) (held : List Positions) (pick : ℕ) (q : RingState) (a : Answer) (reply : Reply) (new_ram : List ℕ) (new_q : RingState) (new_kind : Kind) (new_r : Registers)
    → AreWhole content → pick < length r.queues → looked_at (held_device kind r held) pick ≡ Some q → IsServed touches ram q (wanted_of kind pick) (λ seen. serve r.common.features kind pick ram q seen) a new_ram new_q new_kind
    → reply ≡ reply_of a → new_r ≡ registers_after r pick a → length new_r.queues ≡ length r.queues
    → IsDeviceStep touches number honest ram content (held_device kind r held) pick reply new_ram content (held_device new_kind new_r (set held pick (record { taking = new_q.taking; used = new_q.used })))
unfolding device_step
served_look touches number honest ram content kind r held pick q a reply new_ram new_q new_kind new_r whole there some h reply_is registers count =
    let new : Positions = record { taking = new_q.taking; used = new_q.used } in
    let s = serve r.common.features kind pick ram q h.seen in
    let was_fine : outcome_of reply ≡ fine = ap outcome_of (reply_is ∙ ap reply_of h.done.answer_is) ∙ (answered r.common.features kind pick ram q h.seen).outcome in
    let place : take (length new_r.queues) (set held pick new) ≡ set (take (length r.queues) held) pick new = ap (λ n. take n (set held pick new)) count ∙ take-set-lt (length r.queues) held pick new there in
    record {
      given = content;
      is_given = given_itself honest content whole;
      seen = h.seen;
      may_look = rw (some, was_fine) h.sees;
      reply_is = rw (some, was_fine) (reply_is ∙ ap reply_of h.done.answer_is);
      device_is = rw (some, was_fine, place, registers, h.done.ring_is, h.done.state_is, h.done.answer_is) refl;
      ram_is = rw (some, was_fine) h.done.ram_is;
      content_is = rw (some, was_fine) (none_set honest content content refl);
      items_are = rw (some, was_fine, append-nil) h.done.items_are;
    }

pub looked_step_made : {base : ℕ} {L : Type 0} (after : L → Item → L) (log new_log : L) (ram new_ram : Memory) (number : ℕ) (honest : Bool) (content : List Sector) (kind new_kind : Kind) (r new_r : Registers) (held : List Positions) (pick : ℕ) (q new_q : RingState) (result : Result Served Unserved) (sent : List ℕ) (reply : Reply)
    → IsSoundDevice base (length ram.bytes) (held_device kind r held) → AreWhole content → pick < length r.queues → looked_at (held_device kind r held) pick ≡ Some q
    → HasRun after (scene ram log q kind) (scene new_ram new_log new_q new_kind) (wanted_of kind pick) (λ ram q kind seen. serve r.common.features kind pick ram q seen) result sent
    → reply ≡ looked_reply result sent → new_r ≡ looked_registers r pick result
    → IsDeviceStep (Touches after log new_log ram new_ram) number honest ram.bytes content (held_device kind r held) pick reply new_ram.bytes content (held_device new_kind new_r (set held pick (record { taking = new_q.taking; used = new_q.used })))
unfolding device_step
looked_step_made after log new_log ram new_ram number honest content kind new_kind r new_r held pick q new_q (Ok s) sent reply sound whole there some h reply_is registers =
    served_look (Touches after log new_log ram new_ram) number honest ram.bytes content kind r held pick q (Did (deed_in s.done sent) s.is_due) reply new_ram.bytes new_q new_kind new_r whole there some h reply_is registers
    (ap (λ (x : Registers). length x.queues) registers ∙ (served_registers r pick (Did (deed_in s.done sent) s.is_due) sound.registers).same.queue_count)
looked_step_made after log new_log ram new_ram number honest content kind new_kind r new_r held pick q new_q (Err why.Empty) sent reply sound whole there some h reply_is registers =
    served_look (Touches after log new_log ram new_ram) number honest ram.bytes content kind r held pick q Empty reply new_ram.bytes new_q new_kind new_r whole there some h reply_is registers
    (ap (λ (x : Registers). length x.queues) registers ∙ (served_registers r pick Empty sound.registers).same.queue_count)
looked_step_made after log new_log ram new_ram number honest content kind new_kind r new_r held pick q new_q (Err why.Malformed) sent reply sound whole there some h reply_is registers =
    served_look (Touches after log new_log ram new_ram) number honest ram.bytes content kind r held pick q Malformed reply new_ram.bytes new_q new_kind new_r whole there some h reply_is registers
    (ap (λ (x : Registers). length x.queues) registers ∙ (served_registers r pick Malformed sound.registers).same.queue_count)
looked_step_made after log new_log ram new_ram number honest content kind new_kind r new_r held pick q new_q (Err why.NoMemory) sent reply sound whole there some h reply_is registers =
    let d = held_device kind r held in
    let old : Positions = record { taking = q.taking; used = q.used } in
    let place : take (length r.queues) (set held pick old) ≡ take (length r.queues) held = take-set-lt (length r.queues) held pick old there ∙ positions_stay d pick q (looked_is d pick q some) in
    record {
      given = content;
      is_given = given_itself honest content whole;
      seen = next.Empty;
      may_look = rw (some, reply_is) h.may;
      reply_is = rw (some, reply_is) refl;
      device_is = rw (some, reply_is, registers, h.state_is, h.untouched.ring_is, place) refl;
      ram_is = rw (some, reply_is, h.untouched.ram_is) refl;
      content_is = rw (some, reply_is) (none_set honest content content refl);
      items_are = rw (some, reply_is) (touches_none after log new_log ram new_ram h.untouched.log_is h.untouched.ram_is);
    }

-- A look never tells that the disk failed.
fine_deed : (deed : Done) (sent : List ℕ) → is_failure (reply_to (deed_in deed sent)) ≡ false
fine_deed done.Taken sent = refl
fine_deed (done.Completed len) sent = refl
fine_deed done.Sent sent = refl
fine_deed done.Dropped sent = refl

pub fine_look : (result : Result Served Unserved) (sent : List ℕ) (reply : Reply) → reply ≡ looked_reply result sent → is_failure reply ≡ false
fine_look (Ok s) sent reply is = rw is (fine_deed s.done sent)
fine_look (Err why.Empty) sent reply is = rw is refl
fine_look (Err why.Malformed) sent reply is = rw is refl
fine_look (Err why.NoMemory) sent reply is = rw is refl

-- A request that went on.
does_by : (a : Advanced) → disk_does (outcome_of (reply_to_advance a)) ≡ not (is_disk_failed a)
does_by advanced.Idle = refl
does_by advanced.Moved = refl
does_by advanced.BadSector = refl
does_by advanced.DiskFailed = refl
does_by (advanced.Completed len due) = refl

pub failure_by : (a : Advanced) → is_failure (reply_to_advance a) ≡ is_disk_failed a
failure_by advanced.Idle = refl
failure_by advanced.Moved = refl
failure_by advanced.BadSector = refl
failure_by advanced.DiskFailed = refl
failure_by (advanced.Completed len due) = refl

pub advanced_step : (touches : List Item → Type 0) (number : ℕ) (honest : Bool) (ram : List ℕ) (content : List Sector) (block : blocks.Block) (r : Registers) (held : List Positions) (pick : ℕ) (q : RingState) (a : Advanced) (new_ram : List ℕ) (new_ring : RingState) (new_content : List Sector) (new_block : blocks.Block) (new_r : Registers)
    → 0 < length r.queues → looked_at (held_device (Block block) r held) pick ≡ None → advanced_at (held_device (Block block) r held) pick ≡ Some q
    → IsAfterAdvancing touches honest number ram content (λ given. advance_step ram q given block (pick - 1) (not (is_disk_failed a))) a new_ram new_ring new_content new_block
    → new_r ≡ cond (is_advance_due a) (with_common r (used_raised r.common)) r → length new_r.queues ≡ length r.queues
    → IsDeviceStep touches number honest ram content (held_device (Block block) r held) pick (reply_to_advance a) new_ram new_content (held_device (Block new_block) new_r (set held 0 (record { taking = new_ring.taking; used = new_ring.used })))
unfolding device_step
advanced_step touches number honest ram content block r held pick q a new_ram new_ring new_content new_block new_r there none some h registers count =
    let new : Positions = record { taking = new_ring.taking; used = new_ring.used } in
    let place : take (length new_r.queues) (set held 0 new) ≡ set (take (length r.queues) held) 0 new = ap (λ n. take n (set held 0 new)) count ∙ take-set-lt (length r.queues) held 0 new there in
    record {
      given = h.given;
      is_given = h.is_given;
      seen = next.Empty;
      may_look = rw none tt;
      reply_is = rw (none, some, does_by a) (ap reply_to_advance h.answer_is);
      device_is = rw (none, some, does_by a, place, registers, h.ring_is, h.block_is, ← h.answer_is) refl;
      ram_is = rw (none, some, does_by a) h.ram_is;
      content_is = rw (none, some, does_by a) h.content_is;
      items_are = rw (none, some, does_by a) h.items_are;
    }

-- A request went on that does not wait for a disk outside. No sector was asked for, or set.
pub advanced_outside : (touches : List Item → Type 0) (number : ℕ) (honest : Bool) (ram : List ℕ) (content : List Sector) (block : blocks.Block) (r : Registers) (held : List Positions) (pick : ℕ) (q : RingState) (a : Advanced) (new_ram : List ℕ) (new_ring : RingState) (new_block : blocks.Block) (new_r : Registers)
    → AreWhole content → 0 < length r.queues → looked_at (held_device (Outside block) r held) pick ≡ None → advanced_at (held_device (Outside block) r held) pick ≡ Some q
    → awaits_at block.requests (pick - 1) Failed ≡ false → IsAfterOutside touches ram (outside_step ram q block (pick - 1)) a new_ram new_ring new_block
    → new_r ≡ cond (is_advance_due a) (with_common r (used_raised r.common)) r → length new_r.queues ≡ length r.queues
    → IsDeviceStep touches number honest ram content (held_device (Outside block) r held) pick (reply_to_advance a) new_ram content (held_device (Outside new_block) new_r (set held 0 (record { taking = new_ring.taking; used = new_ring.used })))
unfolding device_step
advanced_outside touches number honest ram content block r held pick q a new_ram new_ring new_block new_r whole there none some free h registers count =
    let new : Positions = record { taking = new_ring.taking; used = new_ring.used } in
    let place : take (length new_r.queues) (set held 0 new) ≡ set (take (length r.queues) held) 0 new = ap (λ n. take n (set held 0 new)) count ∙ take-set-lt (length r.queues) held 0 new there in
    let sets = outside_sets ram q block (pick - 1) free in
    record {
      given = content;
      is_given = given_itself honest content whole;
      seen = next.Empty;
      may_look = rw none tt;
      reply_is = rw (none, some) (ap reply_to_advance h.answer_is);
      device_is = rw (none, some, place, registers, h.ring_is, h.block_is, ← h.answer_is) refl;
      ram_is = rw (none, some) h.ram_is;
      content_is = rw (none, some, sets) (none_set honest content content refl);
      items_are = rw (none, some, sets, append-nil) h.items_are;
    }

pub fine_outside : (a : Advanced) → is_disk_failed a ≡ false → is_failure (reply_to_advance a) ≡ false
fine_outside a was_fine = failure_by a ∙ was_fine

-- A copy of the registers of a sound device.
pub copied : {base : ℕ} (len : ℕ) (d : DeviceState) (id offered at : ℕ) (c : Common) (qs : List Queue) → IsSoundDevice base len d → id ≡ device_id_of (made_as d.kind) → offered ≡ offered_of (made_as d.kind) → at ≡ d.registers.ram_base → c ≡ d.registers.common → qs ≡ d.registers.queues
    → ◌≡◌ {A = Registers} (record { device_id = id; offered = offered; ram_base = at; ram_len = len; common = c; queues = qs }) d.registers
copied len d id offered at c qs sound id_is offered_is at_is common_is queues_are = λ i. record {
  device_id = (id_is ∙ sym sound.device_id) i;
  offered = (offered_is ∙ sym sound.offered) i;
  ram_base = at_is i;
  ram_len = (sym sound.ram_len) i;
  common = common_is i;
  queues = queues_are i;
}
