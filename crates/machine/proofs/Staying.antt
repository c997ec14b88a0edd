-- A sound device stays sound.
use Rattle.std.proofs.Common.{◌≡◌, ℕ, zero, suc, ◌+◌, ◌%◌, ◌^◌, ◌<◌, ◌≤◌, ◌⊎◌, inl, inr, Bool, true, false, cond, eqb, ltb, List, [], ◌∷◌, ◌++◌, length, replicate, take, set, get_or, Option, Some, None, refl, sym, ap, ◌∙◌, subst, arith, length-append}
use Rattle.std.proofs.lemmas.List.Elements.{All-append}
use borrow.Author.Tests.{ltb-true, ltb-false}
use Rattle.net.specs.Frame.{fits_mtu, may_take}
use Rattle.net.specs.Inbox.{AreFrames, Inbox, IsFrame, is_frame_len, most_waiting}
use Rattle.std.specs.Prelude.{◌-◌, ◌&&◌, not, bit_and, bit_or, slice_get, IsSomeAnd}
use Rattle.std.proofs.lemmas.Option.{slice_get_within}
use Rattle.std.proofs.lemmas.Nat.{mod_below}
use Rattle.std.specs.Bool.{MatchBool}
use Rattle.std.proofs.lemmas.List.{length-replicate, length-take}
use Rattle.guestmem.proofs.ByteLaws.{IsBytes-append, IsBytes-take}
use Rattle.guestmem.specs.Number.{IsBytes}
use Rattle.blk.specs.Advance.{AdvanceStep, advance_step}
use Rattle.blk.specs.Sectors.{Sector, AreWhole}
use Rattle.blk.proofs.Others.{others_are_alike}
use Rattle.blk.specs.Block.{limits_of, with_requests}
use Rattle.blk.specs.Outside.{Failed, awaits_at, outside_step}
use Rattle.blk.specs.Shape.{IsBlockShape, IsOutsideShape}
use Rattle.blk.specs.Sound.{AreRequestsOf}
use Rattle.blk.specs.declared.request.Request.{Request}
use Rattle.blk.specs.declared.block.Block as blocks
use Rattle.blk.specs.declared.shape.Limits.{Limits}
use Rattle.chains.specs.Look.{Sees}
use Rattle.chains.specs.State.{RingState, state_of}
use Rattle.chains.specs.declared.next.Next.{Next}
use Rattle.chains.specs.declared.position.Positions.{Positions}
use Rattle.mmio.specs.Effects.{StaysReady, EachStaysReady}
use Rattle.mmio.specs.QueueRegisters.{notified_cleared}
use Rattle.mmio.specs.RegisterWrite.{register_write}
use Rattle.mmio.specs.Sound.{IsSoundRegisters}
use Rattle.console.specs.Shape.{AreHostBytes, IsSoundConsole}
use Rattle.console.specs.Size.{differ, resized}
use Rattle.console.specs.declared.size.ConsoleSize.{ConsoleSize}
use Rattle.mmio.proofs.Keeping.{change_kept, registers_stay}
use Rattle.mmio.specs.Bits.{has}
use Rattle.mmio.specs.Interrupts.{configuration_changed, used_raised}
use Rattle.mmio.specs.State.{Registers, queue_at, with_common}
use Rattle.mmio.specs.declared.queue.Queue.{Queue}
use Rattle.mmio.proofs.StayingReady.{write_stays}
use Rattle.mmio.proofs.StayingSound.{StaysSound, write_sound, used_sound, asked_sound, cleared_sound}
use Rattle.machine.specs.DeviceStep.{network_with, serve, registers_after, after_service, after_advance, is_advance_due, advance_at, advance_on, advanced_at, step_at, looked_at, device_step, wanted_of, MayLook}
use Rattle.machine.specs.Looked.{IsLookedAt}
use Rattle.machine.specs.Outcome.{Outcome, fine, disk_failed, no_memory, disk_does}
use Rattle.machine.specs.QueuePositions.{HavePositions, HasPositions, ArePlaced, first_positions, restarted_positions, is_packed_by}
use Rattle.machine.specs.Shapes.{made_as, queues_of, sector_count}
use Rattle.machine.specs.Sound.{AreSoundBeside, IsSoundDevice, IsSoundKind}
use Rattle.machine.specs.State.{DeviceState}
use Rattle.machine.specs.Step.{register_set, is_first_ready, accepted_in, dropped_unready, kind_with_input, kind_without_input, with_input, without_input}
use Rattle.machine.specs.declared.kind.Kind.{Kind}
use Rattle.machine.specs.declared.kind.Kind.TheVariants.{Network, Block, Outside, Console, Entropy}
use Rattle.chains.specs.Service.{Answer}
use Rattle.chains.specs.Service as service
use Rattle.machine.proofs.Advancing.{IsAdvancedAt, advanced_is}
use Rattle.machine.proofs.MadeAs.{dropped_as, input_as, served_as, without_as}
use Rattle.machine.proofs.Looking.{looked_is}
use Rattle.machine.proofs.Outstanding.{GoesOn, goes_on_by}
use Rattle.machine.proofs.Rings.{have_set, have_cleared, looked_ring, ready_ring}
use Rattle.machine.proofs.Serving.{AreOutstanding, IsSameRing, SoundBeside, served_on}

-- A device stays sound if it stays what it was made as, its registers stay sound, and its positions and what only its kind has
-- are such as it can have.
pub stays_sound : {base : ℕ} (len : ℕ) (d new : DeviceState) → made_as new.kind ≡ made_as d.kind → StaysSound d.registers new.registers → HavePositions (is_packed_by new.registers.common) new.registers.queues new.positions → IsSoundKind len new.registers new.kind → IsSoundDevice base len d → IsSoundDevice base len new
stays_sound len d new same stays positions kind sound = record {
  shape = rw same sound.shape;
  device_id = rw same (stays.same.device_id ∙ sound.device_id);
  offered = rw same (stays.same.offered ∙ sound.offered);
  queues = rw same (stays.same.queue_count ∙ sound.queues);
  based = sound.based;
  ram_base = stays.same.ram_base ∙ sound.ram_base;
  ram_len = stays.same.ram_len ∙ sound.ram_len;
  registers = stays.sound;
  positions = positions;
  kind = kind;
}

pub same_registers : (r : Registers) → IsSoundRegisters r → StaysSound r r
same_registers r sound = record { same = record { device_id = refl; offered = refl; ram_base = refl; ram_len = refl; queue_count = refl }; sound = sound }

first_placed : (packed : Bool) (size : ℕ) → 0 < size → ArePlaced packed size first_positions
first_placed true size some = (some, some)
first_placed false size some = (refl, refl)

-- The positions in a queue that is ready, and in one that is not.
of_ready : (b : Bool) (P Q : Type 0) → MatchBool b P Q → b ≡ true → P
of_ready true P Q h is = h
of_ready false P Q h is = cc

of_idle : (b : Bool) (P Q : Type 0) → MatchBool b P Q → b ≡ false → Q
of_idle true P Q h is = cc
of_idle false P Q h is = h

-- Whether these features name the packed layout.
abbrev is_packed : ℕ → Bool
is_packed features = has features (2 ^ 34)

still_placed : (was is : ℕ) (old new : Queue) (p : Positions) → HasPositions (is_packed was) old p
    → ((old.is_ready ≡ false) × (0 < new.size)) ⊎ ((old.is_ready ≡ true) × (new.size ≡ old.size) × (is ≡ was)) → ArePlaced (is_packed is) new.size p
still_placed was is old new p has (inl made) =
    let first : p ≡ first_positions = of_idle old.is_ready (ArePlaced (is_packed was) old.size p) (p ≡ first_positions) has.where_ready made.0 in
    subst (λ x. ArePlaced (is_packed is) new.size x) (sym first) (first_placed (is_packed is) new.size made.1)
still_placed was is old new p has (inr stayed) =
    let placed : ArePlaced (is_packed was) old.size p = of_ready old.is_ready (ArePlaced (is_packed was) old.size p) (p ≡ first_positions) has.where_ready stayed.0 in
    rw (stayed.1, stayed.2) placed

one_kept : (was is : ℕ) (old new : Queue) (p : Positions) (ready : Bool) → new.is_ready ≡ ready → StaysReady was is old new → HasPositions (is_packed was) old p → HasPositions (is_packed is) new (cond ready p first_positions)
one_kept was is old new p true at stays has = record {
  taking_fits = has.taking_fits;
  used_fits = has.used_fits;
  where_ready = subst (λ b. MatchBool b (ArePlaced (is_packed is) new.size p) (p ≡ first_positions)) (sym at) (still_placed was is old new p has (stays at));
}
one_kept was is old new p false at stays has = record {
  taking_fits = omega arith;
  used_fits = omega arith;
  where_ready = subst (λ b. MatchBool b (ArePlaced (is_packed is) new.size first_positions) (first_positions ≡ first_positions)) (sym at) refl;
}

all_kept : (was is : ℕ) (os ns : List Queue) (ps : List Positions) → EachStaysReady was is os ns → HavePositions (is_packed was) os ps → HavePositions (is_packed is) ns (restarted_positions ns ps)
all_kept was is [] [] [] stay have = tt
all_kept was is [] [] (p ∷ ps) stay have = absurd have
all_kept was is [] (n ∷ ns) ps stay have = absurd stay
all_kept was is (o ∷ os) [] ps stay have = absurd stay
all_kept was is (o ∷ os) (n ∷ ns) [] stay have = absurd have
all_kept was is (o ∷ os) (n ∷ ns) (p ∷ ps) stay have = (one_kept was is o n p n.is_ready refl stay.0 have.0, all_kept was is os ns ps stay.1 have.1)

-- Requests outlive a write only where their queue stays ready, and so the driver's features stay.
abbrev NoRequests : List Request
NoRequests = []

none_where : (b : Bool) → MatchBool b (Unit {0}) (NoRequests ≡ [])
none_where true = tt
none_where false = refl

no_requests : (base len : ℕ) (packed : Bool) (q : Queue) (limits : Limits) → AreRequestsOf base len packed q limits []
no_requests base len packed q limits = record { few = omega arith; sound = λ k d below. absurd (omega (arith, below)); where_ready = none_where q.is_ready }

any_where : (b : Bool) (requests : List Request) → b ≡ true → MatchBool b (Unit {0}) (requests ≡ [])
any_where true requests is = tt
any_where false requests is = cc

kept_by : (base len : ℕ) (was is : ℕ) (old new : Queue) (limits : ℕ → Limits) (requests : List Request) (ready : Bool) → new.is_ready ≡ ready → StaysReady was is old new → AreRequestsOf base len (is_packed was) old (limits was) requests
    → AreRequestsOf base len (is_packed is) new (limits is) (cond ready requests [])
kept_by base len was is old new limits requests false at stays are = no_requests base len (is_packed is) new (limits is)
kept_by base len was is old new limits requests true at stays are = elim (stays at) as (λ _. AreRequestsOf base len (is_packed is) new (limits is) requests) [
  | inl made ↦
      (let none : requests ≡ [] = of_idle old.is_ready (Unit {0}) (requests ≡ []) are.where_ready made.0 in
      rw none (no_requests base len (is_packed is) new (limits is)))
  | inr stayed ↦ record { few = are.few; sound = rw (stayed.1, stayed.2) are.sound; where_ready = any_where new.is_ready requests at }
]

kept_requests_sound : (base len : ℕ) (was is : ℕ) (os ns : List Queue) (limits : ℕ → Limits) (requests : List Request) → EachStaysReady was is os ns
    → IsSomeAnd (slice_get os 0) (λ q. AreRequestsOf base len (is_packed was) q (limits was) requests) → IsSomeAnd (slice_get ns 0) (λ q. AreRequestsOf base len (is_packed is) q (limits is) (cond (is_first_ready ns) requests []))
kept_requests_sound base len was is [] ns limits requests stay are = absurd are
kept_requests_sound base len was is (o ∷ os) [] limits requests stay are = absurd stay
kept_requests_sound base len was is (o ∷ os) (n ∷ ns) limits requests stay are = kept_by base len was is o n limits requests n.is_ready refl stay.0 are

kind_kept : (len : ℕ) (r new : Registers) (kind : Kind) → new.ram_base ≡ r.ram_base → EachStaysReady r.common.features new.common.features r.queues new.queues → IsSoundKind len r kind → IsSoundKind len new (dropped_unready new.queues kind)
kind_kept len r new (Network mac inbox) same stay sound = sound
kind_kept len r new (Block block) same stay sound =
    subst (λ (base : ℕ). IsSomeAnd (slice_get new.queues 0) (λ q. AreRequestsOf base len (is_packed_by new.common) q (limits_of block new.common.features) (cond (is_first_ready new.queues) block.requests []))) (sym same)
    (kept_requests_sound r.ram_base len r.common.features new.common.features r.queues new.queues (limits_of block) block.requests stay sound)
kind_kept len r new (Outside block) same stay sound =
    subst (λ (base : ℕ). IsSomeAnd (slice_get new.queues 0) (λ q. AreRequestsOf base len (is_packed_by new.common) q (limits_of block new.common.features) (cond (is_first_ready new.queues) block.requests []))) (sym same)
    (kept_requests_sound r.ram_base len r.common.features new.common.features r.queues new.queues (limits_of block) block.requests stay sound)
kind_kept len r new (Console size held) same stay sound = sound
kind_kept len r new (Entropy pool) same stay sound = sound

-- The driver writes a register.
pub sound_written : {base : ℕ} (len : ℕ) (d : DeviceState) (offset width value : ℕ) → value < 2 ^ 32 → IsSoundDevice base len d → IsSoundDevice base len (register_set d offset width value)
sound_written len d offset width value small sound =
    let new = (register_write d.registers offset width value).1 in
    let stays : StaysSound d.registers new = write_sound d.registers offset width value small sound.registers in
    let ready = write_stays d.registers offset width value sound.registers in
    stays_sound len d (register_set d offset width value) (dropped_as new.queues d.kind) stays
    (all_kept d.registers.common.features new.common.features d.registers.queues new.queues d.positions ready sound.positions) (kind_kept len d.registers new d.kind stays.same.ram_base ready sound.kind) sound

-- The host puts bytes in.
host_bytes_more : (pool bytes : List ℕ) → AreHostBytes pool → IsBytes bytes → length pool + length bytes ≤ 4096 → AreHostBytes (pool ++ bytes)
host_bytes_more pool bytes h are room = record { few = omega (arith, length-append pool bytes, room); are = IsBytes-append pool bytes h.are are }

bytes_put : (pool bytes : List ℕ) → AreHostBytes pool → IsBytes bytes → AreHostBytes (pool ++ take (accepted_in pool bytes) bytes)
bytes_put pool bytes sound are =
    let n = accepted_in pool bytes in
    host_bytes_more pool (take n bytes) sound (IsBytes-take n bytes are) (omega (arith, length-take n bytes, sound.few))

both_sides : (longest len : ℕ) (a b : Bool) → ltb len 14 ≡ a → ltb longest len ≡ b → (not a && not b) ≡ true → (14 ≤ len) × (len ≤ longest)
both_sides longest len true b p q h = cc
both_sides longest len false true p q h = cc
both_sides longest len false false p q h = (ltb-false len 14 p, ltb-false longest len q)

frame_is : (longest len : ℕ) → is_frame_len longest len ≡ true → (14 ≤ len) × (len ≤ longest)
frame_is longest len h = both_sides longest len (ltb len 14) (ltb longest len) refl refl h

first_of : (a b : Bool) → (a && b) ≡ true → a ≡ true
first_of true b h = refl
first_of false b h = h

frame_taken : (longest : ℕ) (frame : List ℕ) → may_take longest frame ≡ true → (14 ≤ length frame) × (length frame ≤ longest)
frame_taken longest frame h = frame_is longest (length frame) (first_of (is_frame_len longest (length frame)) (fits_mtu longest frame) h)

one_frame : (longest : ℕ) (frame : List ℕ) (d : List ℕ) (k : ℕ) → k < 1 → IsFrame longest frame → IsFrame longest (get_or (frame ∷ []) k d)
one_frame longest frame d zero below h = h
one_frame longest frame d (suc k) below h = absurd (omega (arith, below))

frames_put : (len : ℕ) (r : Registers) (mac : List ℕ) (inbox : Inbox) (bytes : List ℕ) (good room : Bool) → may_take inbox.longest bytes ≡ good → ltb (length inbox.frames) (most_waiting inbox.longest) ≡ room → AreFrames inbox → IsBytes bytes
    → IsSoundKind len r (cond good (network_with mac inbox (cond room (inbox.frames ++ bytes ∷ []) inbox.frames)) (Network mac inbox))
frames_put len r mac inbox bytes false room is less sound are = sound
frames_put len r mac inbox bytes true false is less sound are = record { few = sound.few; are = sound.are }
frames_put len r mac inbox bytes true true is less sound are =
    let long = frame_taken inbox.longest bytes is in
    let frame : IsFrame inbox.longest bytes = record { long = long.0; short = long.1; are = are } in
    record {
      few = omega (arith, ltb-true (length inbox.frames) (most_waiting inbox.longest) less, length-append inbox.frames (bytes ∷ []));
      are = All-append (IsFrame inbox.longest) inbox.frames (bytes ∷ []) sound.are (λ k d below. one_frame inbox.longest bytes d k below frame);
    }

sound_put : (len : ℕ) (r : Registers) (kind : Kind) (bytes : List ℕ) → IsSoundKind len r kind → IsBytes bytes → IsSoundKind len r (kind_with_input kind bytes)
sound_put len r (Network mac inbox) bytes sound are = frames_put len r mac inbox bytes (may_take inbox.longest bytes) (ltb (length inbox.frames) (most_waiting inbox.longest)) refl refl sound are
sound_put len r (Block block) bytes sound are = sound
sound_put len r (Outside block) bytes sound are = sound
sound_put len r (Console size held) bytes sound are = record { columns = sound.columns; rows = sound.rows; text = bytes_put held bytes sound.text are }
sound_put len r (Entropy pool) bytes sound are = bytes_put pool bytes sound are

pub sound_input : {base : ℕ} (len : ℕ) (d : DeviceState) (bytes : List ℕ) → IsBytes bytes → IsSoundDevice base len d → IsSoundDevice base len (with_input d bytes)
sound_input len d bytes are sound =
    stays_sound len d (with_input d bytes) (input_as d.kind bytes) (same_registers d.registers sound.registers) sound.positions (sound_put len d.registers d.kind bytes sound.kind are) sound

-- The host drops what it has put in.
no_host_bytes : AreHostBytes []
no_host_bytes = record { few = omega arith; are = λ k. omega arith }

sound_none : (len : ℕ) (r : Registers) (kind : Kind) → IsSoundKind len r kind → IsSoundKind len r (kind_without_input kind)
sound_none len r (Network mac inbox) sound = record { few = omega arith; are = λ k d below. absurd (omega (arith, below)) }
sound_none len r (Block block) sound = sound
sound_none len r (Outside block) sound = sound
sound_none len r (Console size held) sound = record { columns = sound.columns; rows = sound.rows; text = no_host_bytes }
sound_none len r (Entropy pool) sound = no_host_bytes

pub sound_without : {base : ℕ} (len : ℕ) (d : DeviceState) → IsSoundDevice base len d → IsSoundDevice base len (without_input d)
sound_without len d sound =
    stays_sound len d (without_input d) (without_as d.kind) (same_registers d.registers sound.registers) sound.positions (sound_none len d.registers d.kind sound.kind) sound

-- The host sets the size of a console.
counted_small : (n : ℕ) → (n + 1) % 2 ^ 32 < 2 ^ 32
counted_small n = mod_below (n + 1) (2 ^ 32) (omega arith)

changed_by : (r : Registers) (heard : Bool) → IsSoundRegisters r
    → IsSoundRegisters (with_common r (record r.common { generation = (r.common.generation + 1) % 2 ^ 32; interrupts = cond heard (bit_or r.common.interrupts 2) r.common.interrupts }))
changed_by r true sound = change_kept r r.common refl sound
changed_by r false sound = registers_stay r (record r.common { generation = (r.common.generation + 1) % 2 ^ 32 }) (λ k. k) refl (record {
  fits = record {
    device_select = sound.common.fits.device_select;
    driver_select = sound.common.fits.driver_select;
    features = sound.common.fits.features;
    queue_select = sound.common.fits.queue_select;
    generation = counted_small r.common.generation;
  };
  status = sound.common.status;
  interrupts = sound.common.interrupts;
  offered_only = sound.common.offered_only;
  version = sound.common.version;
}) sound

changed_sound : (r : Registers) (feature : ℕ) → IsSoundRegisters r → StaysSound r (with_common r (configuration_changed r.common feature))
changed_sound r feature sound = record {
  same = record { device_id = refl; offered = refl; ram_base = refl; ram_len = refl; queue_count = refl };
  sound = changed_by r (has r.common.status 4 && has r.common.features feature) sound;
}

resized_by : (r : Registers) (other : Bool) → IsSoundRegisters r → StaysSound r (cond other (with_common r (configuration_changed r.common 1)) r)
resized_by r true sound = changed_sound r 1 sound
resized_by r false sound = same_registers r sound

resized_positions : (r : Registers) (other : Bool) (ps : List Positions) → HavePositions (is_packed_by r.common) r.queues ps
    → HavePositions (is_packed_by (cond other (with_common r (configuration_changed r.common 1)) r).common) (cond other (with_common r (configuration_changed r.common 1)) r).queues ps
resized_positions r true ps have = have
resized_positions r false ps have = have

pub sound_resized : {base : ℕ} (len : ℕ) (d : DeviceState) (old size : ConsoleSize) (held : List ℕ) → d.kind ≡ Console old held → size.columns < 2 ^ 16 → size.rows < 2 ^ 16 → IsSoundDevice base len d → IsSoundDevice base len (record d { registers = resized old size d.registers; kind = Console size held })
sound_resized len d old size held is columns rows sound =
    let stays = resized_by d.registers (differ old size) sound.registers in
    let was : IsSoundConsole old held = rw is at sound.kind in
    stays_sound len d (record d { registers = resized old size d.registers; kind = Console size held }) (ap made_as (sym is)) stays
    (resized_positions d.registers (differ old size) d.positions sound.positions) (record { columns = columns; rows = rows; text = was.text }) sound

-- What only a kind has, beside the ring of a queue.
beside_by : (len : ℕ) (r : Registers) (kind : Kind) (pick : ℕ) (queue : Queue) (p : Positions) → length r.queues ≡ queues_of (made_as kind) → queue_at r pick ≡ Some queue → IsSoundKind len r kind → SoundBeside len (state_of queue r.common.features r.ram_base p) r.common.features kind
beside_by len r (Network mac inbox) pick queue p count there sound = sound
beside_by len r (Block block) zero queue p count there sound =
    let are : AreRequestsOf r.ram_base len (is_packed_by r.common) queue (limits_of block r.common.features) block.requests = rw there at sound in
    record { few = are.few; sound = are.sound }
beside_by len r (Outside block) zero queue p count there sound =
    let are : AreRequestsOf r.ram_base len (is_packed_by r.common) queue (limits_of block r.common.features) block.requests = rw there at sound in
    record { few = are.few; sound = are.sound }
beside_by len r (Block block) (suc pick) queue p count there sound =
    let below : suc pick < length r.queues = slice_get_within r.queues (suc pick) queue there in
    absurd (omega (arith, below, count))
beside_by len r (Outside block) (suc pick) queue p count there sound =
    let below : suc pick < length r.queues = slice_get_within r.queues (suc pick) queue there in
    absurd (omega (arith, below, count))
beside_by len r (Console size held) pick queue p count there sound = sound
beside_by len r (Entropy pool) pick queue p count there sound = sound

pub beside : {base : ℕ} (len : ℕ) (d : DeviceState) (pick : ℕ) (queue : Queue) (p : Positions) (q : RingState) → IsSoundDevice base len d → queue_at d.registers pick ≡ Some queue → q ≡ state_of queue d.registers.common.features d.registers.ram_base p → SoundBeside len q d.registers.common.features d.kind
beside len d pick queue p q sound there is = rw is (beside_by len d.registers d.kind pick queue p sound.queues there sound.kind)

-- A queue that is ready, with such a size, where the driver accepted these features.
record IsReadyAt (r : Registers) (pick : ℕ) (features : ℕ) (size : ℕ) : Type 0 where
  queue : Queue
  there : queue_at r pick ≡ Some queue
  ready : queue.is_ready ≡ true
  size_is : queue.size ≡ size
  accepted : r.common.features ≡ features

-- Back from what a kind has beside the ring of such a queue.
back : (len : ℕ) (r : Registers) (kind : Kind) (pick features size : ℕ) (s : RingState) → length r.queues ≡ queues_of (made_as kind) → IsReadyAt r pick features size → s.is_packed ≡ is_packed features → s.size ≡ size → s.base ≡ r.ram_base → SoundBeside len s features kind → IsSoundKind len r kind
back len r (Network mac inbox) pick features size s count at layout long based sound = sound
back len r (Block block) zero features size s count at layout long based sound =
    let are : AreRequestsOf r.ram_base len (is_packed_by r.common) at.queue (limits_of block r.common.features) block.requests =
    record { few = sound.few; sound = rw (at.accepted, at.size_is, ← layout, ← long, ← based) sound.sound; where_ready = any_where at.queue.is_ready block.requests at.ready } in
    rw at.there are
back len r (Outside block) zero features size s count at layout long based sound =
    let are : AreRequestsOf r.ram_base len (is_packed_by r.common) at.queue (limits_of block r.common.features) block.requests =
    record { few = sound.few; sound = rw (at.accepted, at.size_is, ← layout, ← long, ← based) sound.sound; where_ready = any_where at.queue.is_ready block.requests at.ready } in
    rw at.there are
back len r (Block block) (suc pick) features size s count at layout long based sound =
    let below : suc pick < length r.queues = slice_get_within r.queues (suc pick) at.queue at.there in
    absurd (omega (arith, below, count))
back len r (Outside block) (suc pick) features size s count at layout long based sound =
    let below : suc pick < length r.queues = slice_get_within r.queues (suc pick) at.queue at.there in
    absurd (omega (arith, below, count))
back len r (Console columns held) pick features size s count at layout long based sound = sound
back len r (Entropy pool) pick features size s count at layout long based sound = sound

-- The ring of a queue was used: the registers, the ring and the kind are new.
record IsUsed (len : ℕ) (d : DeviceState) (pick : ℕ) (queue : Queue) (q s : RingState) (r : Registers) (kind : Kind) : Type 0 where
  there : queue_at d.registers pick ≡ Some queue
  ready : queue.is_ready ≡ true
  positions : Positions
  was : q ≡ state_of queue d.registers.common.features d.registers.ram_base positions
  ring : IsSameRing q s
  registers : StaysSound d.registers r
  stays : IsReadyAt d.registers pick d.registers.common.features queue.size → IsReadyAt r pick d.registers.common.features queue.size
  have : (ps : List Positions) → HavePositions (is_packed_by d.registers.common) d.registers.queues ps → HavePositions (is_packed_by r.common) r.queues ps
  same : made_as kind ≡ made_as d.kind
  beside : SoundBeside len s d.registers.common.features kind

sound_used : {base : ℕ} (len : ℕ) (d : DeviceState) (pick : ℕ) (queue : Queue) (q s : RingState) (r : Registers) (kind : Kind) → IsUsed len d pick queue q s r kind → IsSoundDevice base len d
    → IsSoundDevice base len (record { kind = kind; registers = r; positions = set d.positions pick (record { taking = s.taking; used = s.used }) })
sound_used len d pick queue q s r kind h sound =
    let packed = is_packed_by d.registers.common in
    let new : Positions = record { taking = s.taking; used = s.used } in
    let layout : s.is_packed ≡ packed = h.ring.layout ∙ ap (λ (q : RingState). q.is_packed) h.was in
    let size : s.size ≡ queue.size = h.ring.size ∙ ap (λ (q : RingState). q.size) h.was in
    let based : s.base ≡ r.ram_base = h.ring.base ∙ ap (λ (q : RingState). q.base) h.was ∙ sym h.registers.same.ram_base in
    let placed : ArePlaced packed queue.size new = rw (layout, size) at h.ring.placed.placed in
    let after = h.stays (record { queue = queue; there = h.there; ready = h.ready; size_is = refl; accepted = refl }) in
    stays_sound len d (record { kind = kind; registers = r; positions = set d.positions pick new }) h.same h.registers
    (h.have (set d.positions pick new) (have_set packed d.registers.queues d.positions pick queue new sound.positions h.there (record {
      taking_fits = h.ring.placed.taking_fits;
      used_fits = h.ring.placed.used_fits;
      where_ready = subst (λ b. MatchBool b (ArePlaced packed queue.size new) (new ≡ first_positions)) (sym h.ready) placed;
    })))
    (back len r kind pick d.registers.common.features queue.size s (h.registers.same.queue_count ∙ rw h.same sound.queues) after layout size based h.beside)
    sound

-- A queue was served.
pub served_registers : (r : Registers) (pick : ℕ) (s : Answer) → IsSoundRegisters r → StaysSound r (registers_after r pick s)
served_registers r pick service.Empty sound = cleared_sound r pick (queue_at r pick) refl sound
served_registers r pick service.Malformed sound = asked_sound r sound
served_registers r pick (service.Did deed true) sound = used_sound r sound
served_registers r pick (service.Did deed false) sound = same_registers r sound

have_cleared_at : (r : Registers) (pick : ℕ) (q : Option Queue) (ps : List Positions) → queue_at r pick ≡ q → HavePositions (is_packed_by r.common) r.queues ps
    → HavePositions (is_packed_by (notified_cleared r pick q).common) (notified_cleared r pick q).queues ps
have_cleared_at r pick None ps at have = have
have_cleared_at r pick (Some q) ps at have = have_cleared (is_packed_by r.common) r.queues ps pick q have at

have_asked : (r : Registers) (driven : Bool) (ps : List Positions) → HavePositions (is_packed_by r.common) r.queues ps
    → HavePositions (is_packed_by (cond driven (record r.common { status = bit_or r.common.status 64; interrupts = bit_or r.common.interrupts 2 }) r.common)) r.queues ps
have_asked r true ps have = have
have_asked r false ps have = have

have_after : (r : Registers) (pick : ℕ) (s : Answer) (ps : List Positions) → HavePositions (is_packed_by r.common) r.queues ps
    → HavePositions (is_packed_by (registers_after r pick s).common) (registers_after r pick s).queues ps
have_after r pick service.Empty ps have = have_cleared_at r pick (queue_at r pick) ps refl have
have_after r pick service.Malformed ps have = have_asked r (eqb (bit_and r.common.status 4) 4) ps have
have_after r pick (service.Did deed true) ps have = have
have_after r pick (service.Did deed false) ps have = have

set_there : (qs : List Queue) (pick : ℕ) (q new : Queue) → slice_get qs pick ≡ Some q → slice_get (set qs pick new) pick ≡ Some new
set_there [] pick q new at = cc
set_there (x ∷ qs) zero q new at = refl
set_there (x ∷ qs) (suc pick) q new at = set_there qs pick q new at

asked_features : (r : Registers) (driven : Bool) → (cond driven (record r.common { status = bit_or r.common.status 64; interrupts = bit_or r.common.interrupts 2 }) r.common).features ≡ r.common.features
asked_features r true = refl
asked_features r false = refl

after_ready : (r : Registers) (pick : ℕ) (s : Answer) (features size : ℕ) → IsReadyAt r pick features size → IsReadyAt (registers_after r pick s) pick features size
after_ready r pick service.Empty features size h = rw h.there (record {
  queue = record h.queue { is_notified = false };
  there = set_there r.queues pick h.queue (record h.queue { is_notified = false }) h.there;
  ready = h.ready;
  size_is = h.size_is;
  accepted = h.accepted;
})
after_ready r pick service.Malformed features size h = record { queue = h.queue; there = h.there; ready = h.ready; size_is = h.size_is; accepted = asked_features r (eqb (bit_and r.common.status 4) 4) ∙ h.accepted }
after_ready r pick (service.Did deed true) features size h = record { queue = h.queue; there = h.there; ready = h.ready; size_is = h.size_is; accepted = h.accepted }
after_ready r pick (service.Did deed false) features size h = h

sound_served : {base : ℕ} (d : DeviceState) (ram : List ℕ) (pick : ℕ) (q : RingState) (seen : Next) → IsBytes ram → IsLookedAt d pick q → Sees (wanted_of d.kind pick) ram q seen → IsSoundDevice base (length ram) d → IsSoundDevice base (length ram) (after_service d pick (serve d.registers.common.features d.kind pick ram q seen))
sound_served d ram pick q seen bytes look sees sound =
    let features = d.registers.common.features in
    let s = serve features d.kind pick ram q seen in
    let on = served_on features d.kind pick ram q seen look.work bytes (looked_ring (length ram) d pick q sound look) sees (beside (length ram) d pick look.queue look.positions q sound look.there look.is) in
    sound_used (length ram) d pick look.queue q s.ring (registers_after d.registers pick s.answer) s.state (record {
      there = look.there;
      ready = look.ready;
      positions = look.positions;
      was = look.is;
      ring = on.ring;
      registers = served_registers d.registers pick s.answer sound.registers;
      stays = after_ready d.registers pick s.answer features look.queue.size;
      have = have_after d.registers pick s.answer;
      same = served_as features d.kind pick ram q seen;
      beside = on.kind_is;
    }) sound

-- A request went on.
pub due_registers : (r : Registers) (is_due : Bool) → IsSoundRegisters r → StaysSound r (cond is_due (with_common r (used_raised r.common)) r)
due_registers r true sound = used_sound r sound
due_registers r false sound = same_registers r sound

due_ready : (r : Registers) (is_due : Bool) (pick : ℕ) (features size : ℕ) → IsReadyAt r pick features size → IsReadyAt (cond is_due (with_common r (used_raised r.common)) r) pick features size
due_ready r true pick features size h = record { queue = h.queue; there = h.there; ready = h.ready; size_is = h.size_is; accepted = h.accepted }
due_ready r false pick features size h = h

have_due : (r : Registers) (is_due : Bool) (ps : List Positions) → HavePositions (is_packed_by r.common) r.queues ps
    → HavePositions (is_packed_by (cond is_due (with_common r (used_raised r.common)) r).common) (cond is_due (with_common r (used_raised r.common)) r).queues ps
have_due r true ps have = have
have_due r false ps have = have

block_goes_on : (len : ℕ) (q : RingState) (features : ℕ) (block : blocks.Block) (s : AdvanceStep) → GoesOn len q features block s → AreOutstanding len q (limits_of block features) block.requests → AreOutstanding len s.ring (limits_of s.block features) s.block.requests
block_goes_on len q features block s on sound =
    rw (on.block) (record { few = omega (arith, on.few, sound.few); sound = rw (on.ring.base, on.ring.layout, on.ring.size) on.sound })

-- A kind of block device: one whose disk is in the machine, or outside.
record IsBlockKind (kind : blocks.Block → Kind) : Type 0 where
  made : (b : blocks.Block) (requests : List Request) → made_as (kind (with_requests b requests)) ≡ made_as (kind b)
  out : (len : ℕ) (q : RingState) (features : ℕ) (b : blocks.Block) → SoundBeside len q features (kind b) → AreOutstanding len q (limits_of b features) b.requests
  in_ : (len : ℕ) (q : RingState) (features : ℕ) (b : blocks.Block) → AreOutstanding len q (limits_of b features) b.requests → SoundBeside len q features (kind b)

has_disk : IsBlockKind Block
has_disk = record { made = λ b requests. refl; out = λ len q features b h. h; in_ = λ len q features b h. h }

has_none : IsBlockKind Outside
has_none = record { made = λ b requests. refl; out = λ len q features b h. h; in_ = λ len q features b h. h }

beside_block : {base : ℕ} (len : ℕ) (d : DeviceState) (kind : blocks.Block → Kind) (block : blocks.Block) (pick : ℕ) (q : RingState) → IsBlockKind kind → d.kind ≡ kind block → IsAdvancedAt d pick q → IsSoundDevice base len d → AreOutstanding len q (limits_of block d.registers.common.features) block.requests
beside_block len d kind block pick q is kind_is look sound = is.out len q d.registers.common.features block (rw kind_is at (beside len d 0 look.queue look.positions q sound look.there look.is))

sound_advanced : {base : ℕ} (len : ℕ) (d : DeviceState) (kind : blocks.Block → Kind) (block : blocks.Block) (pick : ℕ) (q : RingState) (s : AdvanceStep) → IsBlockKind kind → d.kind ≡ kind block → (look : IsAdvancedAt d pick q) → IsSoundDevice base len d → GoesOn len q d.registers.common.features block s
    → IsSoundDevice base len (after_advance kind d s)
sound_advanced len d kind block pick q s is kind_is look sound on =
    let features = d.registers.common.features in
    let due = is_advance_due s.answer in
    let old : AreOutstanding len q (limits_of block features) block.requests = beside_block len d kind block pick q is kind_is look sound in
    sound_used len d 0 look.queue q s.ring (after_advance kind d s).registers (kind s.block) (record {
      there = look.there;
      ready = look.ready;
      positions = look.positions;
      was = look.is;
      ring = on.ring;
      registers = due_registers d.registers due sound.registers;
      stays = due_ready d.registers due 0 features look.queue.size;
      have = have_due d.registers due;
      same = ap (λ (b : blocks.Block). made_as (kind b)) on.block ∙ is.made block s.block.requests ∙ ap made_as (sym kind_is);
      beside = is.in_ len s.ring features s.block (block_goes_on len q features block s on old);
    }) sound

-- What a step of a device has to do with: sectors of its disk, whole and as many as its shape says.
pub record HasSectors (d : DeviceState) (content : List Sector) : Type 0 where
  pub count : length content ≡ sector_count (made_as d.kind)
  pub whole : AreWhole content

pub outstanding : (len : ℕ) (q : RingState) (features : ℕ) (kind : Kind) → SoundBeside len q features kind → AreSoundBeside len q features kind
outstanding len q features (Network mac inbox) h = tt
outstanding len q features (Block block) h = h.sound
outstanding len q features (Outside block) h = h.sound
outstanding len q features (Console size held) h = tt
outstanding len q features (Entropy pool) h = tt

pub advanced_goes_on : {base : ℕ} (d : DeviceState) (block : blocks.Block) (ram : List ℕ) (content : List Sector) (pick : ℕ) (q : RingState) (is_fine : Bool) → d.kind ≡ Block block → (look : IsAdvancedAt d pick q) → IsBytes ram → IsSoundDevice base (length ram) d → HasSectors d content
    → GoesOn (length ram) q d.registers.common.features block (advance_step ram q content block (pick - 1) is_fine)
advanced_goes_on d block ram content pick q is_fine kind_is look are sound has =
    let ring = ready_ring (length ram) d 0 look.queue look.positions sound look.there look.placed look.ready in
    let features = d.registers.common.features in
    let old : AreOutstanding (length ram) q (limits_of block features) block.requests = beside_block (length ram) d Block block pick q has_disk kind_is look sound in
    let shape : IsBlockShape block.sectors block.id = rw kind_is at sound.shape in
    goes_on_by (length ram) features ram q content block (pick - 1) is_fine (rw look.is ring) are shape.id_bytes (has.count ∙ ap (λ (k : Kind). sector_count (made_as k)) kind_is) has.whole old.sound

-- A request that does not wait for its disk goes on as over any sectors, as many as the device has.
bad_whole : (n : ℕ) → AreWhole (replicate n None)
bad_whole zero k d below = absurd (omega (arith, below))
bad_whole (suc n) zero d below = tt
bad_whole (suc n) (suc k) d below = bad_whole n k d (omega (arith, below))

pub outside_goes_on : {base : ℕ} (d : DeviceState) (block : blocks.Block) (ram : List ℕ) (pick : ℕ) (q : RingState) → d.kind ≡ Outside block → (look : IsAdvancedAt d pick q) → IsBytes ram → IsSoundDevice base (length ram) d
    → GoesOn (length ram) q d.registers.common.features block (outside_step ram q block (pick - 1))
outside_goes_on d block ram pick q kind_is look are sound =
    let ring = ready_ring (length ram) d 0 look.queue look.positions sound look.there look.placed look.ready in
    let features = d.registers.common.features in
    let bad : List Sector = replicate block.sectors None in
    let old : AreOutstanding (length ram) q (limits_of block features) block.requests = beside_block (length ram) d Outside block pick q has_none kind_is look sound in
    let shape : IsOutsideShape block.sectors block.id = rw kind_is at sound.shape in
    let free : awaits_at block.requests (pick - 1) Failed ≡ false = rw kind_is at look.free in
    rw (← others_are_alike ram q bad block (pick - 1) true free)
    (goes_on_by (length ram) features ram q bad block (pick - 1) true (rw look.is ring) are shape.id_bytes (length-replicate block.sectors None) (bad_whole block.sectors) old.sound)

sound_advance_on : {base : ℕ} (d : DeviceState) (kind : Kind) (ram : List ℕ) (content : List Sector) (pick : ℕ) (q : RingState) (o : Outcome) → d.kind ≡ kind → advanced_at d pick ≡ Some q → IsBytes ram → IsSoundDevice base (length ram) d → HasSectors d content → IsSoundDevice base (length ram) (advance_on d kind ram content pick q o).device
sound_advance_on d (Block block) ram content pick q o kind_is is are sound has =
    let look = advanced_is (length ram) d pick q sound is in
    sound_advanced (length ram) d Block block pick q _ has_disk kind_is look sound (advanced_goes_on d block ram content pick q (disk_does o) kind_is look are sound has)
sound_advance_on d (Outside block) ram content pick q o kind_is is are sound has =
    let look = advanced_is (length ram) d pick q sound is in
    sound_advanced (length ram) d Outside block pick q _ has_none kind_is look sound (outside_goes_on d block ram pick q kind_is look are sound)
sound_advance_on d (Network mac inbox) ram content pick q o kind_is is are sound has = sound
sound_advance_on d (Console size held) ram content pick q o kind_is is are sound has = sound
sound_advance_on d (Entropy pool) ram content pick q o kind_is is are sound has = sound

sound_advance_at : {base : ℕ} (d : DeviceState) (ram : List ℕ) (content : List Sector) (pick : ℕ) (ring : Option RingState) (o : Outcome) → advanced_at d pick ≡ ring → IsBytes ram → IsSoundDevice base (length ram) d → HasSectors d content → IsSoundDevice base (length ram) (advance_at d ram content pick ring o).device
sound_advance_at d ram content pick None o is are sound has = sound
sound_advance_at d ram content pick (Some q) o is are sound has = sound_advance_on d d.kind ram content pick q o refl is are sound has

sound_stepped_at : {base : ℕ} (d : DeviceState) (ram : List ℕ) (content : List Sector) (pick : ℕ) (ring : Option RingState) (o : Outcome) (seen : Next) → looked_at d pick ≡ ring → MayLook (wanted_of d.kind pick) ring ram o seen → IsBytes ram → IsSoundDevice base (length ram) d → HasSectors d content
    → IsSoundDevice base (length ram) (step_at d ram content pick ring o seen).device
sound_stepped_at d ram content pick None o seen is may are sound has = sound_advance_at d ram content pick (advanced_at d pick) o refl are sound has
sound_stepped_at d ram content pick (Some q) fine seen is may are sound has = sound_served d ram pick q seen are (looked_is d pick q is) may sound
sound_stepped_at d ram content pick (Some q) disk_failed seen is may are sound has = sound
sound_stepped_at d ram content pick (Some q) no_memory seen is may are sound has = sound

-- A device does a piece of its work.
pub sound_stepped : {base : ℕ} (d : DeviceState) (ram : List ℕ) (content : List Sector) (pick : ℕ) (o : Outcome) (seen : Next) → MayLook (wanted_of d.kind pick) (looked_at d pick) ram o seen → IsBytes ram → IsSoundDevice base (length ram) d → HasSectors d content → IsSoundDevice base (length ram) (device_step d ram content pick o seen).device
unfolding device_step
sound_stepped d ram content pick o seen may are sound has = sound_stepped_at d ram content pick (looked_at d pick) o seen refl may are sound has
