-- Malformed chains, and events that change nothing.
use Rattle.std.proofs.Common.{◌≡◌, ℕ, zero, suc, set, Bool, true, false, cond, ltb, List, [], ◌∷◌, ◌++◌, length, Option, Some, None, refl, ap, sym, ◌∙◌, subst}
use Rattle.std.specs.Prelude.{◌-◌, bit_or, slice_get, Result, Ok, Err}
use Rattle.guestmem.specs.Address.{access_refusal, index_of}
use Rattle.guestmem.specs.declared.error.RamError.{RamError}
use Rattle.mmio.specs.State.{with_common, Registers}
use Rattle.mmio.specs.Bits.{has}
use Rattle.blk.specs.Advance.{advance_step}
use Rattle.blk.specs.Outside.{Answer, outside_step}
use Rattle.blk.specs.Sectors.{Sector}
use Rattle.blk.specs.declared.advancing.Advanced.{Advanced}
use Rattle.blk.specs.declared.advancing.Advanced.TheVariants as advanced
use Rattle.chains.specs.declared.chain.Chain.{Chain}
use Rattle.chains.specs.declared.next.Next.{Next}
use Rattle.chains.specs.declared.next.Next.TheVariants as next
use Rattle.chains.specs.State.{RingState}
use Rattle.chains.specs.Places.{places}
use Rattle.console.specs.declared.size.ConsoleSize.{ConsoleSize}
use Rattle.net.specs.Receive as net
use Rattle.net.specs.Header.{header}
use Rattle.chains.specs.ReceiveBuffer.{give}
use Rattle.chains.specs.Service as service
use Rattle.machine.specs.DeviceStep.{advance_at, advance_on, advanced_at, device_step, looked_at, MayLook, wanted_of, reply_to_advance, step_at, serve, registers_after}
use Rattle.machine.specs.Effect.{Effect, applied, sets_on}
use Rattle.machine.specs.Looked.{LooksAtMalformed}
use Rattle.machine.specs.Outcome.{Outcome, fine, disk_failed, no_memory, disk_does}
use Rattle.machine.specs.State.{MachineState, DeviceState, base_of}
use Rattle.machine.specs.Outside.{answer_of, disk_answered}
use Rattle.machine.specs.Step.{answer, answered_by, disk_of, drop_by, drop_input, drop_of, hand_in, input_of, MaySeeAt, HasEffect, out_reply, put_by, set_size, size_by, written_out, read_register, write_register, read_ram, write_ram, put_in, step_device}
use Rattle.machine.specs.StepLaws.{IsContained, MalformedIsContained, MalformedAsksForReset, IsRefusal, RefusalsChangeNothing}
use Rattle.machine.specs.declared.event.DiskAnswer.{DiskAnswer}
use Rattle.machine.specs.declared.event.Event.{Event}
use Rattle.machine.specs.declared.event.Event.TheVariants.{RegRead, RegWrite, MemRead, MemWrite, Step, Input, Resize, Drop, Disk}
use Rattle.machine.specs.declared.kind.Kind.{Kind}
use Rattle.machine.specs.declared.kind.Kind.TheVariants.{Network, Block, Outside, Console, Entropy}
use Rattle.machine.specs.declared.reply.Refusal.{Refusal}
use Rattle.machine.specs.declared.reply.Reply.TheVariants.{NeedsReset}
use Rattle.machine.proofs.Agreeing.{effects_same}
use Rattle.machine.proofs.DiskAnswers.{answer_told}
use Rattle.machine.proofs.Answering.{answered}
use Rattle.machine.proofs.Looking.{looked_is, is_looked, left_of_and, positions_stay, set_same}

-- A device that asked for a reset.
asked : (r : Registers) → has r.common.status 4 ≡ true → (pick : ℕ) → registers_after r pick service.Malformed ≡ with_common r (record r.common { status = bit_or r.common.status 64; interrupts = bit_or r.common.interrupts 2 })
asked r drives pick = rw drives refl

-- A queue that is malformed stays, with all else of its ring.
served_malformed : (features : ℕ) (kind : Kind) (number : ℕ) (ram : List ℕ) (q : RingState) → serve features kind number ram q next.Malformed ≡ record { answer = service.Malformed; writes = []; ring = q; state = kind }
served_malformed features (Network mac inbox) zero ram q = refl
served_malformed features (Network mac inbox) (suc number) ram q = refl
served_malformed features (Block block) number ram q = refl
served_malformed features (Outside block) number ram q = refl
served_malformed features (Console size held) zero ram q = refl
served_malformed features (Console size held) (suc number) ram q = refl
served_malformed features (Entropy pool) number ram q = refl

-- A queue is served as malformed only if the device sees it so.
frame_so : (ram : List ℕ) (q : RingState) (frame : List ℕ) (rest : List (List ℕ)) (c : Chain) (short : Bool) → (cond short (net.drop_frame q rest) (give ram q (header ++ frame) rest c)).answer ≡ service.Malformed → ⊥
unfolding give
frame_so ram q frame rest c true h = cc
frame_so ram q frame rest c false h = cc

frames_so : (ram : List ℕ) (q : RingState) (frames : List (List ℕ)) (c : Chain) → (net.give_first ram q frames c).answer ≡ service.Malformed → ⊥
frames_so ram q [] c h = cc
frames_so ram q (frame ∷ rest) c h = frame_so ram q frame rest c (ltb (length (places c.writable)) (length (header ++ frame))) h

seen_so : (features : ℕ) (kind : Kind) (number : ℕ) (ram : List ℕ) (q : RingState) (seen : Next) → (serve features kind number ram q seen).answer ≡ service.Malformed → seen ≡ next.Malformed
unfolding give
seen_so features kind number ram q next.Malformed h = refl
seen_so features (Network mac inbox) zero ram q next.Empty h = cc
seen_so features (Network mac inbox) zero ram q (next.Chain c) h = absurd (frames_so ram q inbox.frames c h)
seen_so features (Network mac inbox) (suc number) ram q next.Empty h = cc
seen_so features (Network mac inbox) (suc number) ram q (next.Chain c) h = cc
seen_so features (Block block) number ram q next.Empty h = cc
seen_so features (Outside block) number ram q next.Empty h = cc
seen_so features (Block block) number ram q (next.Chain c) h = cc
seen_so features (Outside block) number ram q (next.Chain c) h = cc
seen_so features (Console size held) zero ram q next.Empty h = cc
seen_so features (Console size held) zero ram q (next.Chain c) h = cc
seen_so features (Console size held) (suc number) ram q next.Empty h = cc
seen_so features (Console size held) (suc number) ram q (next.Chain c) h = cc
seen_so features (Entropy pool) number ram q next.Empty h = cc
seen_so features (Entropy pool) number ram q (next.Chain c) h = cc

-- Advancing a request is answered by no call for a reset, and by no refusal.
advance_quiet : (a : Advanced) → (reply_to_advance a ≡ NeedsReset → ⊥) × (IsRefusal (reply_to_advance a) → ⊥)
advance_quiet advanced.Idle = ((λ h. cc), (λ h. h))
advance_quiet advanced.Moved = ((λ h. cc), (λ h. h))
advance_quiet advanced.BadSector = ((λ h. cc), (λ h. h))
advance_quiet advanced.DiskFailed = ((λ h. cc), (λ h. h))
advance_quiet (advanced.Completed len due) = ((λ h. cc), (λ h. h))

no_reset_on : (d : DeviceState) (kind : Kind) (ram : List ℕ) (content : List Sector) (pick : ℕ) (q : RingState) (o : Outcome) → (advance_on d kind ram content pick q o).reply ≡ NeedsReset → ⊥
no_reset_on d (Block block) ram content pick q o h = (advance_quiet (advance_step ram q content block (pick - 1) (disk_does o)).answer).0 h
no_reset_on d (Outside block) ram content pick q o h = (advance_quiet (outside_step ram q block (pick - 1)).answer).0 h
no_reset_on d (Network mac inbox) ram content pick q o h = cc
no_reset_on d (Console size held) ram content pick q o h = cc
no_reset_on d (Entropy pool) ram content pick q o h = cc

no_reset : (d : DeviceState) (ram : List ℕ) (content : List Sector) (pick : ℕ) (ring : Option RingState) (o : Outcome) → (advance_at d ram content pick ring o).reply ≡ NeedsReset → ⊥
no_reset d ram content pick None o h = cc
no_reset d ram content pick (Some q) o h = no_reset_on d d.kind ram content pick q o h

contained_ring : (m after : MachineState) (dev pick : ℕ) (seen : Next) (d : DeviceState) → slice_get m.devices dev ≡ Some d → (ring : Option RingState) → looked_at d pick ≡ ring → (o : Outcome)
    → NeedsReset ≡ (step_at d m.ram (disk_of m dev) pick ring o seen).reply
    → after ≡ applied m (record { writes = (step_at d m.ram (disk_of m dev) pick ring o seen).writes; sectors = sets_on dev (step_at d m.ram (disk_of m dev) pick ring o seen).sets; replaced = Some (record { number = dev; device = (step_at d m.ram (disk_of m dev) pick ring o seen).device }) })
    → IsContained m after dev
contained_ring m after dev pick seen d there None is o replied changed = absurd (no_reset d m.ram (disk_of m dev) pick (advanced_at d pick) o (sym replied))
contained_ring m after dev pick seen d there (Some q) is no_memory replied changed = cc
contained_ring m after dev pick seen d there (Some q) is disk_failed replied changed = cc
contained_ring m after dev pick seen d there (Some q) is fine replied changed =
    let look = looked_is d pick q is in
    let features = d.registers.common.features in
    let malformed = seen_so features d.kind pick m.ram q seen ((answered features d.kind pick m.ram q seen).reset (sym replied)) in
    let registers = asked d.registers (left_of_and _ _ look.driven) pick in
    record { device = d; there = there; after_is = changed ∙ rw (malformed, served_malformed features d.kind pick m.ram q, registers, positions_stay d pick q look) refl }

contained_device : (m after : MachineState) (dev pick : ℕ) (o : Outcome) (seen : Next) (d : Option DeviceState) → slice_get m.devices dev ≡ d
    → NeedsReset ≡ (step_device dev d m.ram (disk_of m dev) pick o seen).reply → after ≡ applied m (step_device dev d m.ram (disk_of m dev) pick o seen).effect → IsContained m after dev
unfolding device_step
contained_device m after dev pick o seen None there replied changed = cc
contained_device m after dev pick o seen (Some d) there replied changed = contained_ring m after dev pick seen d there (looked_at d pick) refl o replied changed

pub contained : MalformedIsContained
contained m dev pick o after h =
    contained_device m after dev pick o h.has.seen (slice_get m.devices dev) refl h.has.reply_is (h.changed ∙ ap (λ (f : Effect). applied m f) h.has.effect_is)

-- A device asks for a reset exactly where it looks at a queue that is malformed.
asks_ring : (m : MachineState) (dev pick : ℕ) (seen : Next) (d : DeviceState) → slice_get m.devices dev ≡ Some d → (ring : Option RingState) → looked_at d pick ≡ ring → (o : Outcome) → MayLook (wanted_of d.kind pick) ring m.ram o seen
    → NeedsReset ≡ (step_at d m.ram (disk_of m dev) pick ring o seen).reply → (o ≡ fine) × LooksAtMalformed m dev pick
asks_ring m dev pick seen d there None is o may replied = absurd (no_reset d m.ram (disk_of m dev) pick (advanced_at d pick) o (sym replied))
asks_ring m dev pick seen d there (Some q) is no_memory may replied = cc
asks_ring m dev pick seen d there (Some q) is disk_failed may replied = cc
asks_ring m dev pick seen d there (Some q) is fine may replied =
    let features = d.registers.common.features in
    let malformed = seen_so features d.kind pick m.ram q seen ((answered features d.kind pick m.ram q seen).reset (sym replied)) in
    (refl, record { device = d; there = there; ring = q; looked = looked_is d pick q is; sees = rw malformed at may })

asks_device : (m : MachineState) (dev pick : ℕ) (o : Outcome) (seen : Next) (d : Option DeviceState) → slice_get m.devices dev ≡ d → MaySeeAt d m.ram pick o seen
    → NeedsReset ≡ (step_device dev d m.ram (disk_of m dev) pick o seen).reply → (o ≡ fine) × LooksAtMalformed m dev pick
unfolding device_step
asks_device m dev pick o seen None there may replied = cc
asks_device m dev pick o seen (Some d) there may replied = asks_ring m dev pick seen d there (looked_at d pick) refl o may replied

-- What the step of a device that looks at a malformed queue has for an effect.
malformed_effect : (m : MachineState) (dev pick : ℕ) (l : LooksAtMalformed m dev pick) → HasEffect m (Step dev pick) fine NeedsReset (answer m (Step dev pick) fine next.Malformed).effect
unfolding device_step
malformed_effect m dev pick l =
    let ring = is_looked l.device pick l.ring l.looked in
    record {
      seen = next.Malformed;
      may_see = rw (l.there, ring) l.sees;
      reply_is = rw (l.there, ring, served_malformed l.device.registers.common.features l.device.kind pick m.ram l.ring) refl;
      effect_is = refl;
      outcome_is = refl;
    }

pub asks : MalformedAsksForReset
asks m dev pick o r after h = (
  (λ is. asks_device m dev pick o h.has.seen (slice_get m.devices dev) refl h.has.may_see (sym is ∙ h.has.reply_is)),
  (λ l. (effects_same m (Step dev pick) fine r NeedsReset h.effect (answer m (Step dev pick) fine next.Malformed).effect (rw l.0 at h.has) (malformed_effect m dev pick l.1)).0),
)

-- What is refused, or refused memory, changes nothing.
same_record : (m : MachineState) (devices : List DeviceState) → devices ≡ m.devices → record m { devices = devices } ≡ m
same_record m devices is = rw is refl

quiet_on : (d : DeviceState) (kind : Kind) (ram : List ℕ) (content : List Sector) (pick : ℕ) (q : RingState) (o : Outcome) → IsRefusal (advance_on d kind ram content pick q o).reply → ⊥
quiet_on d (Block block) ram content pick q o h = (advance_quiet (advance_step ram q content block (pick - 1) (disk_does o)).answer).1 h
quiet_on d (Outside block) ram content pick q o h = (advance_quiet (outside_step ram q block (pick - 1)).answer).1 h
quiet_on d (Network mac inbox) ram content pick q o h = h
quiet_on d (Console size held) ram content pick q o h = h
quiet_on d (Entropy pool) ram content pick q o h = h

pub quiet_advance : (d : DeviceState) (ram : List ℕ) (content : List Sector) (pick : ℕ) (ring : Option RingState) (o : Outcome) → IsRefusal (advance_at d ram content pick ring o).reply → ⊥
quiet_advance d ram content pick None o h = h
quiet_advance d ram content pick (Some q) o h = quiet_on d d.kind ram content pick q o h

quiet_ring : (m : MachineState) (dev pick : ℕ) (seen : Next) (d : DeviceState) → slice_get m.devices dev ≡ Some d → (ring : Option RingState) (o : Outcome) → IsRefusal (step_at d m.ram (disk_of m dev) pick ring o seen).reply
    → applied m (record { writes = (step_at d m.ram (disk_of m dev) pick ring o seen).writes; sectors = sets_on dev (step_at d m.ram (disk_of m dev) pick ring o seen).sets; replaced = Some (record { number = dev; device = (step_at d m.ram (disk_of m dev) pick ring o seen).device }) }) ≡ m
quiet_ring m dev pick seen d there None o h = absurd (quiet_advance d m.ram (disk_of m dev) pick (advanced_at d pick) o h)
quiet_ring m dev pick seen d there (Some q) no_memory h = same_record m (set m.devices dev d) (set_same m.devices dev d there)
quiet_ring m dev pick seen d there (Some q) disk_failed h = absurd h
quiet_ring m dev pick seen d there (Some q) fine h = absurd ((answered d.registers.common.features d.kind pick m.ram q seen).quiet h)

quiet_device : (m : MachineState) (dev pick : ℕ) (o : Outcome) (seen : Next) (d : Option DeviceState) → slice_get m.devices dev ≡ d → IsRefusal (step_device dev d m.ram (disk_of m dev) pick o seen).reply → applied m (step_device dev d m.ram (disk_of m dev) pick o seen).effect ≡ m
unfolding device_step
quiet_device m dev pick o seen None there h = refl
quiet_device m dev pick o seen (Some d) there h = quiet_ring m dev pick seen d there (looked_at d pick) o h

quiet_look : (m : MachineState) (d : Option DeviceState) (offset width : ℕ) → applied m (read_register d offset width).effect ≡ m
quiet_look m None offset width = refl
quiet_look m (Some d) offset width = refl

pub quiet_out : (out : Option ℕ) → IsRefusal (out_reply out) → ⊥
quiet_out None h = h
quiet_out (Some byte) h = h

quiet_set : (m : MachineState) (dev : ℕ) (d : Option DeviceState) (offset width value : ℕ) → IsRefusal (write_register dev d offset width value).reply → applied m (write_register dev d offset width value).effect ≡ m
quiet_set m dev None offset width value h = refl
quiet_set m dev (Some d) offset width value h = absurd (quiet_out (written_out d.kind offset width value) h)

quiet_read : (m : MachineState) (addr len : ℕ) (error : Option RamError) (o : Outcome) → applied m (read_ram m.ram addr len error o).effect ≡ m
quiet_read m addr len (Some error) o = refl
quiet_read m addr len None fine = refl
quiet_read m addr len None disk_failed = refl
quiet_read m addr len None no_memory = refl

quiet_store : (m : MachineState) (addr : ℕ) (bytes : List ℕ) (error : Option RamError) → IsRefusal (write_ram addr bytes error).reply → applied m (write_ram addr bytes error).effect ≡ m
quiet_store m addr bytes (Some error) h = refl
quiet_store m addr bytes None h = absurd h

quiet_put_by : (m : MachineState) (dev : ℕ) (d : DeviceState) (bytes : List ℕ) (answer : Result ℕ Refusal) → IsRefusal (put_by dev d bytes answer).reply → applied m (put_by dev d bytes answer).effect ≡ m
quiet_put_by m dev d bytes (Ok count) h = absurd h
quiet_put_by m dev d bytes (Err refusal) h = refl

quiet_put : (m : MachineState) (dev : ℕ) (d : Option DeviceState) (bytes : List ℕ) → IsRefusal (put_in dev d bytes).reply → applied m (put_in dev d bytes).effect ≡ m
quiet_put m dev None bytes h = refl
quiet_put m dev (Some d) bytes h = quiet_put_by m dev d bytes (input_of d.kind bytes) h

quiet_size_by : (m : MachineState) (dev : ℕ) (d : DeviceState) (kind : Kind) (size : ConsoleSize) → IsRefusal (size_by dev d kind size).reply → applied m (size_by dev d kind size).effect ≡ m
quiet_size_by m dev d (Network mac inbox) size h = refl
quiet_size_by m dev d (Block block) size h = refl
quiet_size_by m dev d (Outside block) size h = refl
quiet_size_by m dev d (Console old held) size h = absurd h
quiet_size_by m dev d (Entropy pool) size h = refl

quiet_size : (m : MachineState) (dev : ℕ) (d : Option DeviceState) (size : ConsoleSize) → IsRefusal (set_size dev d size).reply → applied m (set_size dev d size).effect ≡ m
quiet_size m dev None size h = refl
quiet_size m dev (Some d) size h = quiet_size_by m dev d d.kind size h

quiet_drop_by : (m : MachineState) (dev : ℕ) (d : DeviceState) (answer : Result (Unit {0}) Refusal) → IsRefusal (drop_by dev d answer).reply → applied m (drop_by dev d answer).effect ≡ m
quiet_drop_by m dev d (Ok done) h = absurd h
quiet_drop_by m dev d (Err refusal) h = refl

quiet_drop : (m : MachineState) (dev : ℕ) (d : Option DeviceState) → IsRefusal (drop_input dev d).reply → applied m (drop_input dev d).effect ≡ m
quiet_drop m dev None h = refl
quiet_drop m dev (Some d) h = quiet_drop_by m dev d (drop_of d.kind) h

quiet_hand_by : (m : MachineState) (dev : ℕ) (d : DeviceState) (kind : Kind) (pick : ℕ) (answer : Answer) → IsRefusal (answered_by dev (disk_answered d kind pick answer)).reply → applied m (answered_by dev (disk_answered d kind pick answer)).effect ≡ m
quiet_hand_by m dev d (Outside block) pick answer h = absurd (answer_told d block pick answer h)
quiet_hand_by m dev d (Network mac inbox) pick answer h = refl
quiet_hand_by m dev d (Block block) pick answer h = refl
quiet_hand_by m dev d (Console size held) pick answer h = refl
quiet_hand_by m dev d (Entropy pool) pick answer h = refl

quiet_hand : (m : MachineState) (dev : ℕ) (d : Option DeviceState) (pick : ℕ) (given : DiskAnswer) → IsRefusal (hand_in dev d pick given).reply → applied m (hand_in dev d pick given).effect ≡ m
quiet_hand m dev None pick given h = refl
quiet_hand m dev (Some d) pick given h = quiet_hand_by m dev d d.kind pick (answer_of given) h

pub quiet : (m : MachineState) (e : Event) (o : Outcome) (seen : Next) → IsRefusal (answer m e o seen).reply → applied m (answer m e o seen).effect ≡ m
quiet m (RegRead dev off width) o seen h = quiet_look m (slice_get m.devices dev) off width
quiet m (RegWrite dev off width value) o seen h = quiet_set m dev (slice_get m.devices dev) off width value h
quiet m (MemRead addr len) o seen h = quiet_read m (index_of (base_of m.devices) addr) len (access_refusal (base_of m.devices) (length m.ram) addr len) o
quiet m (MemWrite addr bytes) o seen h = quiet_store m (index_of (base_of m.devices) addr) bytes (access_refusal (base_of m.devices) (length m.ram) addr (length bytes)) h
quiet m (Step dev pick) o seen h = quiet_device m dev pick o seen (slice_get m.devices dev) refl h
quiet m (Resize dev cols rows) o seen h = quiet_size m dev (slice_get m.devices dev) (record { columns = cols; rows = rows }) h
quiet m (Input dev bytes) o seen h = quiet_put m dev (slice_get m.devices dev) bytes h
quiet m (Drop dev) o seen h = quiet_drop m dev (slice_get m.devices dev) h
quiet m (Disk dev pick given) o seen h = quiet_hand m dev (slice_get m.devices dev) pick given h

pub refusals_quiet : RefusalsChangeNothing
refusals_quiet m e o r after h is = h.changed ∙ ap (λ (f : Effect). applied m f) h.has.effect_is ∙ quiet m e o h.has.seen (subst IsRefusal h.has.reply_is is)
