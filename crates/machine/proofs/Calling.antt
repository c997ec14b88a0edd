-- The calls of the disks that a step makes.
use Rattle.std.proofs.Common.{◌≡◌, ◌≢◌, ℕ, zero, suc, ◌-◌, ◌<◌, ◌≤◌, Bool, true, false, List, [], ◌∷◌, ◌++◌, length, map, set, Option, Some, None, refl, ap, sym, subst, ◌∙◌, arith}
use Rattle.std.specs.Prelude.{◌&&◌, Result, slice_get, slice_index_or}
use Rattle.std.proofs.lemmas.List.{map-set}
use Rattle.std.proofs.lemmas.Option.{slice_get-get_or}
use borrow.Author.Tests.{ltb-true}
use Rattle.guestmem.specs.Memory.{Memory}
use Rattle.mmio.specs.State.{first_queue}
use Rattle.chains.specs.State.{RingState}
use Rattle.blk.specs.Advance.{asks, asks_at, asks_one}
use Rattle.blk.specs.Move.{is_bad_sector}
use Rattle.blk.specs.Sectors.{is_asked}
use Rattle.blk.specs.declared.sectors.Fetched.{Fetched}
use Rattle.blk.specs.declared.sectors.Fetched.TheVariants.{Bad, Failed, Read}
use Rattle.blk.specs.declared.advancing.Advanced.{Advanced}
use Rattle.blk.specs.declared.advancing.Advanced.TheVariants as advanced
use Rattle.blk.specs.declared.block.Block as blocks
use Rattle.blk.specs.declared.request.Kind as request
use Rattle.blk.specs.declared.request.Kind.TheVariants.{Refused, In, Out, Flush, GetId, Zero}
use Rattle.blk.specs.declared.request.Request.{Request}
use Rattle.machine.specs.Applied.{IsApplied, Tells}
use Rattle.machine.specs.Calls.{CallsDisk, HasCalled, HaveCalled, advance_of, asks_disk, has_read, kind_asks}
use Rattle.machine.specs.DeviceStep.{advances, advanced_at, is_outside, looked_at, reply_to_advance, requests_of}
use Rattle.machine.specs.Seen.{DeviceSeen, Seen, all_calls, called_if, called_at}
use Rattle.machine.specs.Shapes.{made_as, queues_of}
use Rattle.machine.specs.Sound.{IsSoundDevice}
use Rattle.machine.specs.State.{DeviceState}
use Rattle.machine.specs.declared.event.Event.{Event}
use Rattle.machine.specs.declared.event.Event.TheVariants.{RegRead, RegWrite, MemRead, MemWrite, Step, Input, Resize, Drop, Disk}
use Rattle.machine.specs.declared.kind.Kind.{Kind}
use Rattle.machine.specs.declared.kind.Kind.TheVariants.{Network, Block, Outside, Console, Entropy}
use Rattle.machine.specs.declared.reply.Reply.{Reply}
use Rattle.machine.proofs.At.{IsAt, found, map-set_same, past}
use Rattle.machine.proofs.Looking.{left_of_and, none_past, right_of_and}
use Rattle.machine.proofs.Rings.{positions_long}
use Rattle.machine.proofs.Stepping.{no_positions}

-- A device that advances a request has one queue, on which no other pick looks.
record HasRequest (d : DeviceState) (pick : ℕ) : Type 0 where
  some : 0 < pick
  one : queues_of (made_as d.kind) ≡ 1

one_by : (kind : Kind) (k : ℕ) → k < length (requests_of kind) → queues_of (made_as kind) ≡ 1
one_by (Block block) k below = refl
one_by (Outside block) k below = refl
one_by (Network mac inbox) k below = absurd (omega (arith, below))
one_by (Console size held) k below = absurd (omega (arith, below))
one_by (Entropy pool) k below = absurd (omega (arith, below))

has_request : (d : DeviceState) (pick : ℕ) → advances d pick ≡ true → HasRequest d pick
has_request d pick h =
    let two = left_of_and _ _ h in
    let below = ltb-true (pick - 1) (length (requests_of d.kind)) (left_of_and _ _ (right_of_and _ _ h)) in
    record { some = ltb-true 0 pick (right_of_and _ _ two); one = one_by d.kind (pick - 1) below }

one_queue : {base : ℕ} (len : ℕ) (d : DeviceState) (pick : ℕ) → IsSoundDevice base len d → HasRequest d pick → length d.registers.queues ≡ 1
one_queue len d pick sound h = sound.queues ∙ h.one

idle_looking : {base : ℕ} (len : ℕ) (d : DeviceState) (pick : ℕ) (q : RingState) (b : Bool) → IsSoundDevice base len d → looked_at d pick ≡ Some q → advances d pick ≡ b → b ≡ false
idle_looking len d pick q false sound looked is = refl
idle_looking len d pick q true sound looked is =
    let has = has_request d pick is in
    let none : looked_at d pick ≡ None = none_past d pick (omega (arith, one_queue len d pick sound has, has.some)) in
    let both : Some q ≡ None = sym looked ∙ none in
    cc

idle_without : {base : ℕ} (len : ℕ) (d : DeviceState) (pick : ℕ) (b : Bool) → IsSoundDevice base len d → advanced_at d pick ≡ None → advances d pick ≡ b → b ≡ false
idle_without len d pick false sound none is = refl
idle_without len d pick true sound none is =
    let one = one_queue len d pick sound (has_request d pick is) in
    let long : length d.positions ≡ length d.registers.queues = positions_long _ d.registers.queues d.positions sound.positions in
    let none_there = rw (slice_get-get_or d.registers.queues 0 first_queue (omega (arith, one)), slice_get-get_or d.positions 0 no_positions (omega (arith, one, long)), is) at none in
    cc

-- A step that looks at a queue, and one that advances nothing, call no disk.
not_asked : (d : DeviceState) (pick : ℕ) (reply : Reply) (called : ℕ → ℕ) (calls : Option ℕ) → advances d pick ≡ false → calls ≡ called_if called (asks_disk d pick reply) calls
not_asked d pick reply called None none = refl
not_asked d pick reply called (Some n) none = rw none refl

pub looked_uncalled : {base : ℕ} (len : ℕ) (d : DeviceState) (pick : ℕ) (q : RingState) (reply : Reply) (called : ℕ → ℕ) (calls : Option ℕ) → IsSoundDevice base len d → looked_at d pick ≡ Some q → calls ≡ called_if called (asks_disk d pick reply) calls
looked_uncalled len d pick q reply called calls sound looked = not_asked d pick reply called calls (idle_looking len d pick q (advances d pick) sound looked refl)

pub idle_uncalled : {base : ℕ} (len : ℕ) (d : DeviceState) (pick : ℕ) (reply : Reply) (called : ℕ → ℕ) (calls : Option ℕ) → IsSoundDevice base len d → advanced_at d pick ≡ None → calls ≡ called_if called (asks_disk d pick reply) calls
idle_uncalled len d pick reply called calls sound none = not_asked d pick reply called calls (idle_without len d pick (advances d pick) sound none refl)

-- Nor does any step of a device whose disk is outside.
not_asking : (advancing : Bool) (kind : Kind) (k : ℕ) (reply : Reply) → is_outside kind ≡ true → (advancing && kind_asks kind k reply) ≡ false
not_asking true (Outside block) k reply is = refl
not_asking false kind k reply is = refl
not_asking true (Network mac inbox) k reply is = cc
not_asking true (Block block) k reply is = cc
not_asking true (Console size held) k reply is = cc
not_asking true (Entropy pool) k reply is = cc

pub outside_uncalled : (d : DeviceState) (pick : ℕ) (reply : Reply) (called : ℕ → ℕ) (calls : Option ℕ) → is_outside d.kind ≡ true → calls ≡ called_if called (asks_disk d pick reply) calls
outside_uncalled d pick reply called None is = refl
outside_uncalled d pick reply called (Some n) is = rw (not_asking (advances d pick) d.kind (pick - 1) reply is) refl

-- What blk says of a call is what the reply tells.
same_bad : (a : Advanced) → is_bad_sector (advance_of (reply_to_advance a)) ≡ is_bad_sector a
same_bad advanced.Idle = refl
same_bad advanced.Moved = refl
same_bad advanced.BadSector = refl
same_bad advanced.DiskFailed = refl
same_bad (advanced.Completed len is_due) = refl

same_asks : (kind : request.Kind) (a : Advanced) → asks kind (advance_of (reply_to_advance a)) ≡ asks kind a
same_asks In a = rw (same_bad a) refl
same_asks Out a = refl
same_asks Flush a = refl
same_asks Zero a = refl
same_asks GetId a = refl
same_asks Refused a = refl

same_one : (a : Advanced) (r : Option Request) → asks_one (advance_of (reply_to_advance a)) r ≡ asks_one a r
same_one a None = refl
same_one a (Some r) = rw (same_asks r.kind a) refl

pub advance_asks : (d : DeviceState) (block : blocks.Block) (pick : ℕ) (a : Advanced) (reply : Reply) → d.kind ≡ Block block → advances d pick ≡ true → reply ≡ reply_to_advance a → asks_disk d pick reply ≡ asks_at block (pick - 1) a
advance_asks d block pick a reply kind_is all is = rw (all, kind_is, is) (same_one a (slice_get block.requests (pick - 1)))

-- The counts of all disks.
there : (ds : List DeviceSeen) (dev : ℕ) (d : DeviceSeen) → IsAt ds dev d → slice_index_or (map (λ (x : DeviceSeen). x.calls) ds) dev None ≡ d.calls
there [] dev d at = absurd (omega (arith, at.below))
there (x ∷ ds) zero d at = ap (λ (y : DeviceSeen). y.calls) (sym at.is)
there (x ∷ ds) (suc dev) d at = there ds dev d (record { below = omega (arith, at.below); is = at.is })

unmade : (called : ℕ → ℕ) (calls : Option ℕ) → called_if called false calls ≡ calls
unmade called None = refl
unmade called (Some n) = refl

pub calls_disk : (called : ℕ → ℕ) (made : Bool) (m new_m : Memory) (ds : List DeviceSeen) (dev : ℕ) (d new : DeviceSeen) → IsAt ds dev d → new.calls ≡ called_if called made d.calls
    → CallsDisk called made dev (record { memory = m; devices = ds }) (record { memory = new_m; devices = set ds dev new })
calls_disk called true m new_m ds dev d new at is = map-set (λ (x : DeviceSeen). x.calls) ds dev new ∙ rw (is, there ds dev d at) refl
calls_disk called false m new_m ds dev d new at is = map-set_same (λ (x : DeviceSeen). x.calls) ds dev d new at (is ∙ unmade called d.calls)

pub step_called : (called : ℕ → ℕ) (m new_m : Memory) (ds : List DeviceSeen) (dev pick : ℕ) (d new : DeviceSeen) (reply : Reply) → IsAt ds dev d → new.calls ≡ called_if called (asks_disk d.state pick reply) d.calls
    → HasCalled called (record { memory = m; devices = ds }) (Step dev pick) reply (record { memory = new_m; devices = set ds dev new })
step_called called m new_m ds dev pick d new reply at is = rw (found ds dev d at) (calls_disk called (asks_disk d.state pick reply) m new_m ds dev d new at is)

pub past_called : (called : ℕ → ℕ) (m : Memory) (ds : List DeviceSeen) (dev pick : ℕ) (reply : Reply) → length ds ≤ dev
    → HasCalled called (record { memory = m; devices = ds }) (Step dev pick) reply (record { memory = m; devices = ds })
past_called called m ds dev pick reply past_all = rw (past ds dev past_all) refl

-- The same, of its devices alone.
pub calls_over : (called : ℕ → ℕ) (ds : List DeviceSeen) (dev : ℕ) (d new : DeviceSeen) → IsAt ds dev d → new.calls ≡ called_if called true d.calls
    → map (λ (x : DeviceSeen). x.calls) (set ds dev new) ≡ called_at called (map (λ (x : DeviceSeen). x.calls) ds) dev
calls_over called ds dev d new at is = map-set (λ (x : DeviceSeen). x.calls) ds dev new ∙ rw (is, there ds dev d at) refl

-- A read of a sector.
pub read_called : {E : Type 0} (fetched : Fetched) (result : Result Bool E) → Tells fetched result → has_read result ≡ is_asked fetched
read_called Read result told = rw told refl
read_called Bad result told = rw told refl
read_called Failed result (e, told) = rw told refl

-- A device whose disk was not called.
pub none_called : (ds : List DeviceSeen) (dev : ℕ) (d new : DeviceSeen) → IsAt ds dev d → new.calls ≡ d.calls
    → map (λ (x : DeviceSeen). x.calls) (set ds dev new) ≡ map (λ (x : DeviceSeen). x.calls) ds
none_called ds dev d new at is = map-set_same (λ (x : DeviceSeen). x.calls) ds dev d new at is

-- One event more.
pub called_more : (called : ℕ → ℕ) (old now new : Seen) (es : List Event) (rs : List Reply) (e : Event) (r : Reply) → HaveCalled called old es rs now → IsApplied now e r new → HasCalled called now e r new → HaveCalled called old (es ++ e ∷ []) (rs ++ r ∷ []) new
called_more called old now new [] [] e r done a calls = (new, subst (λ x. IsApplied x e r new) done a, subst (λ x. HasCalled called x e r new) done calls, refl)
called_more called old now new [] (s ∷ rs) e r done a calls = absurd done
called_more called old now new (f ∷ es) [] e r done a calls = absurd done
called_more called old now new (f ∷ es) (s ∷ rs) e r done a calls = (done.0, done.1, done.2, called_more called done.0 now new es rs e r done.3 a calls)

-- Of all events only a step calls a disk.
pub only_steps : (called : ℕ → ℕ) (old new : Seen) (e : Event) (reply : Reply) → ((dev pick : ℕ) → e ≢ Step dev pick) → HasCalled called old e reply new → all_calls new ≡ all_calls old
only_steps called old new (RegRead dev off width) reply other h = h
only_steps called old new (RegWrite dev off width value) reply other h = h
only_steps called old new (MemRead addr len) reply other h = h
only_steps called old new (MemWrite addr bytes) reply other h = h
only_steps called old new (Step dev pick) reply other h = absurd (other dev pick refl)
only_steps called old new (Input dev bytes) reply other h = h
only_steps called old new (Resize dev cols rows) reply other h = h
only_steps called old new (Drop dev) reply other h = h
only_steps called old new (Disk dev pick given) reply other h = h
