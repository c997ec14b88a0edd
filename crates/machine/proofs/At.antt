-- One device of a machine changes, or its RAM does.
use Rattle.std.proofs.Common.{◌≡◌, ◌≢◌, ℕ, zero, suc, ◌<◌, ◌≤◌, Bool, true, false, cond, List, [], ◌∷◌, length, map, set, get_or, Some, None, refl, ap, sym, subst, ◌∙◌, arith, append-nil}
use Rattle.std.specs.Prelude.{All, slice_get, slice_index_or, IsTrue, Result, Ok, Err}
use Rattle.std.proofs.lemmas.List.{length-set}
use Rattle.std.proofs.lemmas.List.Elements.{All-set}
use Rattle.console.specs.Size.{resized}
use Rattle.console.specs.declared.size.ConsoleSize.{ConsoleSize}
use Rattle.net.specs.Frame.{may_take}
use Rattle.net.specs.Inbox.{Inbox, frames_with, kept_of}
use Rattle.blk.specs.Move as blk
use Rattle.blk.specs.Sectors.{AreWhole, IsGiven, Sector, is_bad}
use Rattle.blk.proofs.Given.{given_itself}
use Rattle.guestmem.specs.Number.{IsBytes}
use Rattle.std.proofs.lemmas.List.{map-set, length-map}
use Rattle.std.proofs.lemmas.Option.{slice_get-get_or, slice_get_past}
use Rattle.guestmem.specs.Item.{Item, sector}
use Rattle.guestmem.specs.Later.{IsLater}
use Rattle.guestmem.proofs.LaterLaws.{later_same}
use Rattle.guestmem.specs.Memory.{Memory}
use Rattle.guestmem.specs.Rises.{Rises, Touches}
use Rattle.guestmem.proofs.RisesLaws.{rises_none}
use Rattle.guestmem.specs.Address.{access_refusal, index_of}
use Rattle.guestmem.specs.Writes.{Write, byte_writes, set_all, touched}
use Rattle.guestmem.specs.declared.error.RamError.{RamError}
use Rattle.chains.specs.declared.next.Next.TheVariants.{Empty}
use Rattle.machine.specs.Applied.{AreMadeBad, DisksAfter, FailsOnlyUnsteady, IsApplied, IsAppliedLogged, IsGivenFor, as_given, marks_after}
use Rattle.machine.specs.BadSectors.{bad_on}
use Rattle.machine.specs.DeviceStep.{device_step, looked_at}
use Rattle.machine.specs.DeviceWork.{IsDeviceStep}
use Rattle.machine.specs.Direct.{accepted_reply, done_reply}
use Rattle.machine.specs.Effect as effects
use Rattle.machine.specs.Effect.{Effect, applied, items_of, no_effect, sets_on}
use Rattle.machine.specs.EffectLaws.{HasItem, IsSameShape}
use Rattle.machine.specs.Held.{IsHeld}
use Rattle.machine.specs.Outcome.{Outcome, fine, is_failure, outcome_of}
use Rattle.machine.specs.Seen.{DeviceSeen, Marks, Seen, state_of, all_marks, failed_at, failed_if, marks_at}
use Rattle.machine.specs.DeviceStep.{network_with}
use Rattle.machine.specs.Shapes.{made_as}
use Rattle.machine.specs.Sound.{IsSound, IsSoundDevice}
use Rattle.machine.specs.State.{DeviceState, MachineState, base_of}
use Rattle.machine.specs.Step.{HasEffect, IsStep, IsTouchingStep, IsResized, ResizesDevice, disk_of, disk_or_none, drop_of, input_of, out_reply, kind_with_input, kind_without_input, ram_refusal, refused, size_by, written_out, register_set, with_input, without_input}
use Rattle.machine.specs.StepLaws.{Fits}
use Rattle.machine.specs.Unsynced.{HasFlushed}
use Rattle.machine.specs.declared.event.Event.{Event}
use Rattle.machine.specs.declared.event.Event.TheVariants.{RegRead, RegWrite, MemRead, MemWrite, Step, Input, Resize, Drop, Disk}
use Rattle.machine.specs.declared.reply.Refusal.{Refusal}
use Rattle.machine.specs.declared.reply.Refusal.TheVariants.{NoDevice, WrongKind, BadFrame}
use Rattle.machine.specs.declared.kind.Kind.{Kind}
use Rattle.machine.specs.declared.kind.Kind.TheVariants.{Network, Block, Outside, Console, Entropy}
use Rattle.machine.specs.declared.reply.Reply.{Reply}
use Rattle.machine.specs.declared.reply.Reply.TheVariants.{Done, Refused}
use Rattle.machine.specs.declared.shape.Shape.{Shape}
use Rattle.machine.proofs.Quiet.{IsQuiet, no_items}
use Rattle.machine.proofs.Staying.{HasSectors, sound_stepped}
use Rattle.machine.proofs.Stepping.{none_whole}
use Rattle.machine.proofs.Within.{has_sectors, shape_at, sound_at, sound_by, step_shape, step_sound}

-- A device at its place, and what it is there.
pub record IsAt (ds : List DeviceSeen) (dev : ℕ) (d : DeviceSeen) : Type 0 where
  pub below : dev < length ds
  pub is : d ≡ get_or ds dev d

pub found : (ds : List DeviceSeen) (dev : ℕ) (d : DeviceSeen) → IsAt ds dev d → slice_get (map (λ (x : DeviceSeen). x.state) ds) dev ≡ Some d.state
found [] dev d at = absurd (omega (arith, at.below))
found (x ∷ ds) zero d at = ap (λ (y : DeviceSeen). Some y.state) (sym at.is)
found (x ∷ ds) (suc dev) d at = found ds dev d (record { below = omega (arith, at.below); is = at.is })

pub set_found : (ds : List DeviceSeen) (dev : ℕ) (d : DeviceSeen) → IsAt ds dev d → set ds dev d ≡ ds
set_found [] dev d at = refl
set_found (x ∷ ds) zero d at = ap (λ y. y ∷ ds) at.is
set_found (x ∷ ds) (suc dev) d at = ap (λ ys. x ∷ ys) (set_found ds dev d (record { below = omega (arith, at.below); is = at.is }))

-- What stays of a device that changes stays of them all.
pub map-set_same : {A : Type 0} (f : DeviceSeen → A) (ds : List DeviceSeen) (dev : ℕ) (d new : DeviceSeen) → IsAt ds dev d → f new ≡ f d → map f (set ds dev new) ≡ map f ds
map-set_same f [] dev d new at same = refl
map-set_same f (x ∷ ds) zero d new at same = ap (λ y. y ∷ map f ds) (same ∙ ap f at.is)
map-set_same f (x ∷ ds) (suc dev) d new at same = ap (λ ys. f x ∷ ys) (map-set_same f ds dev d new (record { below = omega (arith, at.below); is = at.is }) same)

-- A machine of which one device became another, while bytes were written.
abbrev pub changing : ℕ → List Write → DeviceState → Effect
changing dev ws d = record { writes = ws; sectors = []; replaced = Some (record { number = dev; device = d }) }

pub changed_at : (m new_m : Memory) (ds : List DeviceSeen) (dev : ℕ) (d new : DeviceSeen) (ws : List Write) → IsAt ds dev d → new.sectors ≡ d.sectors → new_m.bytes ≡ set_all m.bytes ws
    → state_of (record { memory = new_m; devices = set ds dev new }) ≡ applied (state_of (record { memory = m; devices = ds })) (changing dev ws new.state)
changed_at m new_m ds dev d new ws at same bytes =
    let sectors : map (λ (x : DeviceSeen). x.sectors) (set ds dev new) ≡ map (λ (x : DeviceSeen). x.sectors) ds = map-set_same (λ (x : DeviceSeen). x.sectors) ds dev d new at same in
    rw (map-set (λ (x : DeviceSeen). x.state) ds dev new, sectors, bytes) refl

-- Its device took a write to a register.
pub register_step : (m : Memory) (ds : List DeviceSeen) (dev offset width value : ℕ) (d new : DeviceSeen) → IsAt ds dev d → new ≡ record d { state = register_set d.state offset width value }
    → IsStep (state_of (record { memory = m; devices = ds })) (RegWrite dev offset width value) (outcome_of (out_reply (written_out d.state.kind offset width value))) (out_reply (written_out d.state.kind offset width value)) (state_of (record { memory = m; devices = set ds dev new }))
register_step m ds dev offset width value d new at is = record {
  effect = changing dev [] new.state;
  has = record { seen = Empty; may_see = tt; reply_is = rw (found ds dev d at) refl; effect_is = rw (found ds dev d at, is) refl; outcome_is = refl };
  changed = changed_at m m ds dev d new [] at (ap (λ (x : DeviceSeen). x.sectors) is) refl;
}

-- Its device took another size, or none.
size_refused : (m : Memory) (ds : List DeviceSeen) (dev cols rows : ℕ) (d new : DeviceSeen) (kind : Kind) (result : Result (Unit {0}) Refusal) → d.state.kind ≡ kind → IsAt ds dev d → new ≡ record d { state = new.state }
    → new.state ≡ record d.state { registers = new.state.registers; kind = new.state.kind } → result ≡ Err WrongKind → new.state.kind ≡ kind → new.state.registers ≡ d.state.registers → size_by dev d.state kind (record { columns = cols; rows = rows }) ≡ refused WrongKind
    → IsStep (state_of (record { memory = m; devices = ds })) (Resize dev cols rows) (outcome_of (done_reply result)) (done_reply result) (state_of (record { memory = m; devices = set ds dev new }))
size_refused m ds dev cols rows d new kind result kind_is at same state_is refused_is kind_stays registers_stay none =
    let state : new.state ≡ d.state = state_is ∙ rw (kind_stays ∙ sym kind_is, registers_stay) refl in
    let device : new ≡ d = same ∙ ap (λ s. record d { state = s }) state in
    let all : set ds dev new ≡ ds = rw device (set_found ds dev d at) in
    rw refused_is (record {
      effect = no_effect;
      has = record { seen = Empty; may_see = tt; reply_is = rw (found ds dev d at, kind_is, none) refl; effect_is = rw (found ds dev d at, kind_is, none) refl; outcome_is = refl };
      changed = rw all refl;
    })

size_answer : (m : Memory) (ds : List DeviceSeen) (dev cols rows : ℕ) (d new : DeviceSeen) (kind : Kind) (result : Result (Unit {0}) Refusal) → d.state.kind ≡ kind → IsAt ds dev d → new ≡ record d { state = new.state }
    → new.state ≡ record d.state { registers = new.state.registers; kind = new.state.kind } → IsResized kind (record { columns = cols; rows = rows }) d.state.registers result new.state.kind new.state.registers
    → IsStep (state_of (record { memory = m; devices = ds })) (Resize dev cols rows) (outcome_of (done_reply result)) (done_reply result) (state_of (record { memory = m; devices = set ds dev new }))
size_answer m ds dev cols rows d new (Console old held) result kind_is at same state_is h =
    let size : ConsoleSize = record { columns = cols; rows = rows } in
    let state : new.state ≡ record d.state { registers = resized old size d.state.registers; kind = Console size held } = state_is ∙ rw (h.1, h.2) refl in
    rw h.0 (record {
      effect = changing dev [] new.state;
      has = record { seen = Empty; may_see = tt; reply_is = rw (found ds dev d at, kind_is) refl; effect_is = rw (found ds dev d at, kind_is, state) refl; outcome_is = refl };
      changed = changed_at m m ds dev d new [] at (ap (λ (x : DeviceSeen). x.sectors) same) refl;
    })
size_answer m ds dev cols rows d new (Network mac inbox) result kind_is at same state_is h = size_refused m ds dev cols rows d new (Network mac inbox) result kind_is at same state_is h.0 h.1 h.2 refl
size_answer m ds dev cols rows d new (Block block) result kind_is at same state_is h = size_refused m ds dev cols rows d new (Block block) result kind_is at same state_is h.0 h.1 h.2 refl
size_answer m ds dev cols rows d new (Outside block) result kind_is at same state_is h = size_refused m ds dev cols rows d new (Outside block) result kind_is at same state_is h.0 h.1 h.2 refl
size_answer m ds dev cols rows d new (Entropy pool) result kind_is at same state_is h = size_refused m ds dev cols rows d new (Entropy pool) result kind_is at same state_is h.0 h.1 h.2 refl

pub size_step : (m : Memory) (ds : List DeviceSeen) (dev cols rows : ℕ) (d new : DeviceSeen) (result : Result (Unit {0}) Refusal) → IsAt ds dev d → new ≡ record d { state = new.state }
    → ResizesDevice d.state (record { columns = cols; rows = rows }) result new.state
    → IsStep (state_of (record { memory = m; devices = ds })) (Resize dev cols rows) (outcome_of (done_reply result)) (done_reply result) (state_of (record { memory = m; devices = set ds dev new }))
size_step m ds dev cols rows d new result at same h = size_answer m ds dev cols rows d new d.state.kind result refl at same h.0 h.1

-- Its device kept bytes of the host, or took none.
same_frames : (mac : List ℕ) (inbox : Inbox) (bytes : List ℕ) (good : Bool) (refusal : Refusal) → cond good (Ok (kept_of inbox bytes)) (Err BadFrame) ≡ Err refusal → cond good (network_with mac inbox (frames_with inbox bytes)) (Network mac inbox) ≡ Network mac inbox
same_frames mac inbox bytes true refusal h = cc
same_frames mac inbox bytes false refusal h = refl

same_kind : (kind : Kind) (bytes : List ℕ) (refusal : Refusal) → input_of kind bytes ≡ Err refusal → kind_with_input kind bytes ≡ kind
same_kind (Network mac inbox) bytes refusal h = same_frames mac inbox bytes (may_take inbox.longest bytes) refusal h
same_kind (Block block) bytes refusal h = refl
same_kind (Outside block) bytes refusal h = refl
same_kind (Console size held) bytes refusal h = cc
same_kind (Entropy pool) bytes refusal h = cc

pub input_step : (m : Memory) (ds : List DeviceSeen) (dev : ℕ) (bytes : List ℕ) (d new : DeviceSeen) (answer : Result ℕ Refusal) → input_of d.state.kind bytes ≡ answer → IsAt ds dev d → new ≡ record d { state = with_input d.state bytes }
    → IsStep (state_of (record { memory = m; devices = ds })) (Input dev bytes) (outcome_of (accepted_reply answer)) (accepted_reply answer) (state_of (record { memory = m; devices = set ds dev new }))
input_step m ds dev bytes d new (Ok count) kept at is = record {
  effect = changing dev [] new.state;
  has = record { seen = Empty; may_see = tt; reply_is = rw (found ds dev d at, kept) refl; effect_is = rw (found ds dev d at, kept, is) refl; outcome_is = refl };
  changed = changed_at m m ds dev d new [] at (ap (λ (x : DeviceSeen). x.sectors) is) refl;
}
input_step m ds dev bytes d new (Err refusal) kept at is =
    let same : new ≡ d = is ∙ ap (λ kind. record d { state = record d.state { kind = kind } }) (same_kind d.state.kind bytes refusal kept) in
    let none : set ds dev new ≡ ds = rw same (set_found ds dev d at) in
    record {
      effect = no_effect;
      has = record { seen = Empty; may_see = tt; reply_is = rw (found ds dev d at, kept) refl; effect_is = rw (found ds dev d at, kept) refl; outcome_is = refl };
      changed = rw none refl;
    }

-- Its device dropped what the host had put in, or has none of it.
undropped_kind : (kind : Kind) (refusal : Refusal) → drop_of kind ≡ Err refusal → kind_without_input kind ≡ kind
undropped_kind (Network mac inbox) refusal h = cc
undropped_kind (Block block) refusal h = refl
undropped_kind (Outside block) refusal h = refl
undropped_kind (Console size held) refusal h = cc
undropped_kind (Entropy pool) refusal h = cc

pub drop_step : (m : Memory) (ds : List DeviceSeen) (dev : ℕ) (d new : DeviceSeen) (answer : Result (Unit {0}) Refusal) → drop_of d.state.kind ≡ answer → IsAt ds dev d → new ≡ record d { state = without_input d.state }
    → IsStep (state_of (record { memory = m; devices = ds })) (Drop dev) (outcome_of (done_reply answer)) (done_reply answer) (state_of (record { memory = m; devices = set ds dev new }))
drop_step m ds dev d new (Ok done) dropped at is = record {
  effect = changing dev [] new.state;
  has = record { seen = Empty; may_see = tt; reply_is = rw (found ds dev d at, dropped) refl; effect_is = rw (found ds dev d at, dropped, is) refl; outcome_is = refl };
  changed = changed_at m m ds dev d new [] at (ap (λ (x : DeviceSeen). x.sectors) is) refl;
}
drop_step m ds dev d new (Err refusal) dropped at is =
    let same : new ≡ d = is ∙ ap (λ kind. record d { state = record d.state { kind = kind } }) (undropped_kind d.state.kind refusal dropped) in
    let none : set ds dev new ≡ ds = rw same (set_found ds dev d at) in
    record {
      effect = no_effect;
      has = record { seen = Empty; may_see = tt; reply_is = rw (found ds dev d at, dropped) refl; effect_is = rw (found ds dev d at, dropped) refl; outcome_is = refl };
      changed = rw none refl;
    }

-- Sectors were set on the disk of one device.
set_there : {A : Type 0} (xs : List A) (n : ℕ) (x y : A) → slice_get xs n ≡ Some x → slice_get (set xs n y) n ≡ Some y
set_there [] n x y at = cc
set_there (z ∷ xs) zero x y at = refl
set_there (z ∷ xs) (suc n) x y at = set_there xs n x y at

set_twice : {A : Type 0} (xs : List A) (n : ℕ) (x y : A) → set (set xs n x) n y ≡ set xs n y
set_twice [] n x y = refl
set_twice (z ∷ xs) zero x y = refl
set_twice (z ∷ xs) (suc n) x y = ap (λ zs. z ∷ zs) (set_twice xs n x y)

pub set_itself : {A : Type 0} (xs : List A) (n : ℕ) (x : A) → slice_get xs n ≡ Some x → set xs n x ≡ xs
set_itself [] n x h = refl
set_itself (y ∷ ys) zero x h = cc
set_itself (y ∷ ys) (suc n) x h = ap (λ zs. y ∷ zs) (set_itself ys n x h)

disk_set : (disks : List (List Sector)) (dev : ℕ) (content : List Sector) (sets : List blk.SectorSet) → slice_get disks dev ≡ Some content → effects.sectors_set disks (sets_on dev sets) ≡ set disks dev (blk.sectors_set content sets)
disk_set disks dev content [] at = sym (set_itself disks dev content at)
disk_set disks dev content (s ∷ ss) at =
    let one : effects.SectorSet = record { device = dev; number = s.number; content = s.content } in
    let new : List Sector = set content s.number s.content in
    ap (λ disk. effects.sectors_set (effects.set_on disks one disk) (sets_on dev ss)) at
    ∙ disk_set (set disks dev new) dev new ss (set_there disks dev content new at)
    ∙ set_twice disks dev new (blk.sectors_set new ss)

touched_on : (dev : ℕ) (sets : List blk.SectorSet) → map (λ (s : effects.SectorSet). sector s.device s.number) (sets_on dev sets) ≡ blk.sectors_touched dev sets
touched_on dev [] = refl
touched_on dev (s ∷ ss) = ap (λ (is : List Item). sector dev s.number ∷ is) (touched_on dev ss)

pub found_disk : (ds : List DeviceSeen) (dev : ℕ) (d : DeviceSeen) → IsAt ds dev d → slice_get (map (λ (x : DeviceSeen). x.sectors) ds) dev ≡ Some d.sectors
found_disk [] dev d at = absurd (omega (arith, at.below))
found_disk (x ∷ ds) zero d at = ap (λ (y : DeviceSeen). Some y.sectors) (sym at.is)
found_disk (x ∷ ds) (suc dev) d at = found_disk ds dev d (record { below = omega (arith, at.below); is = at.is })

pub has_sector : (m : Memory) (ds : List DeviceSeen) (dev n : ℕ) (d : DeviceSeen) → IsAt ds dev d → n < length d.sectors → HasItem (state_of (record { memory = m; devices = ds })) (sector dev n)
has_sector m ds dev n d at below = rw (found_disk ds dev d at) (get_or d.sectors n None, slice_get-get_or d.sectors n None below)

pub found_marks : (ds : List DeviceSeen) (dev : ℕ) (d : DeviceSeen) → IsAt ds dev d → marks_at (map (λ (x : DeviceSeen). x.marks) ds) dev ≡ d.marks
found_marks [] dev d at = absurd (omega (arith, at.below))
found_marks (x ∷ ds) zero d at = ap (λ (y : DeviceSeen). y.marks) (sym at.is)
found_marks (x ∷ ds) (suc dev) d at = found_marks ds dev d (record { below = omega (arith, at.below); is = at.is })

-- The base that these devices know.
abbrev pub seen_base : List DeviceSeen → ℕ
seen_base ds = base_of (map (λ (x : DeviceSeen). x.state) ds)

-- The guest wrote RAM.
pub stored_step : (touches : List Item → Type 0) (m new_m : Memory) (ds : List DeviceSeen) (addr : ℕ) (bytes : List ℕ) → access_refusal (seen_base ds) (length m.bytes) addr (length bytes) ≡ None
    → new_m.bytes ≡ set_all m.bytes (byte_writes (index_of (seen_base ds) addr) bytes) → touches (touched (byte_writes (index_of (seen_base ds) addr) bytes))
    → IsTouchingStep touches (state_of (record { memory = m; devices = ds })) (MemWrite addr bytes) Done (state_of (record { memory = new_m; devices = ds }))
stored_step touches m new_m ds addr bytes none is items_are = record {
  effect = record { writes = byte_writes (index_of (seen_base ds) addr) bytes; sectors = []; replaced = None };
  has = record { seen = Empty; may_see = tt; reply_is = rw none refl; effect_is = rw none refl; outcome_is = refl };
  changed = rw is refl;
  items_are = rw append-nil items_are;
}

-- The bytes lie outside RAM, or are too many.
pub unstored_step : (touches : List Item → Type 0) (m : Memory) (ds : List DeviceSeen) (addr : ℕ) (bytes : List ℕ) (error : RamError) (refusal : Refusal) → access_refusal (seen_base ds) (length m.bytes) addr (length bytes) ≡ Some error → refusal ≡ ram_refusal error → touches []
    → IsTouchingStep touches (state_of (record { memory = m; devices = ds })) (MemWrite addr bytes) (Refused refusal) (state_of (record { memory = m; devices = ds }))
unstored_step touches m ds addr bytes error refusal some is untouched = record {
  effect = no_effect;
  has = record { seen = Empty; may_see = tt; reply_is = rw (some, is) refl; effect_is = rw some refl; outcome_is = refl };
  changed = refl;
  items_are = untouched;
}

pub past : (ds : List DeviceSeen) (dev : ℕ) → length ds ≤ dev → slice_get (map (λ (x : DeviceSeen). x.state) ds) dev ≡ None
past ds dev h = slice_get_past (map (λ (x : DeviceSeen). x.state) ds) dev (rw length-map h)

-- There is no such device.
pub missing_step : (touches : List Item → Type 0) (m : Memory) (ds : List DeviceSeen) (dev pick : ℕ) → length ds ≤ dev → touches []
    → IsTouchingStep touches (state_of (record { memory = m; devices = ds })) (Step dev pick) (Refused NoDevice) (state_of (record { memory = m; devices = ds }))
missing_step touches m ds dev pick h untouched = record {
  effect = no_effect;
  has = record { seen = Empty; may_see = rw (past ds dev h) tt; reply_is = rw (past ds dev h) refl; effect_is = rw (past ds dev h) refl; outcome_is = refl };
  changed = refl;
  items_are = untouched;
}

-- Each device of a sound machine is sound.
pub sound_device : (m : Memory) (ds : List DeviceSeen) (dev : ℕ) (d : DeviceSeen) → IsAt ds dev d → IsSound (state_of (record { memory = m; devices = ds })) → IsSoundDevice (seen_base ds) (length m.bytes) d.state
sound_device m ds dev d at sound = sound_at (state_of (record { memory = m; devices = ds })) dev d.state (found ds dev d at) sound

-- A device that is sound for a base is so for the one that its registers know.
pub own_base : {base : ℕ} (len : ℕ) (d : DeviceState) → IsSoundDevice base len d → IsSoundDevice d.registers.ram_base len d
own_base len d sound = subst (λ (b : ℕ). IsSoundDevice b len d) (sym sound.ram_base) sound

pub shapes_seen : (ds : List DeviceSeen) → map (λ (x : DeviceSeen). made_as x.state.kind) ds ≡ map (λ (d : DeviceState). made_as d.kind) (map (λ (x : DeviceSeen). x.state) ds)
shapes_seen [] = refl
shapes_seen (x ∷ ds) = ap (λ xs. (made_as x.state.kind) ∷ xs) (shapes_seen ds)

-- A machine that is held is held after a step.
pub held_step : (shapes : List Shape) (old new : Seen) (e : Event) (o : Outcome) (reply : Reply) → IsHeld shapes old → Fits e → IsStep (state_of old) e o reply (state_of new) → IsHeld shapes new
held_step shapes old new e o reply held fits h =
    let same = step_shape (state_of old) e o reply h.effect h.has in
    let devices : map (λ (d : DeviceState). made_as d.kind) (state_of new).devices ≡ map (λ (d : DeviceState). made_as d.kind) (state_of old).devices = ap (λ (k : MachineState). map (λ (d : DeviceState). made_as d.kind) k.devices) h.changed ∙ same.devices in
    record {
      sound = rw h.changed (step_sound (state_of old) e o reply h.effect held.sound fits h.has);
      shapes_are = held.shapes_are ∙ shapes_seen old.devices ∙ sym devices ∙ sym (shapes_seen new.devices);
    }

pub plain_step : (touches : List Item → Type 0) (m next : MachineState) (e : Event) (reply : Reply) → IsTouchingStep touches m e reply next → IsStep m e (outcome_of reply) reply next
plain_step touches m next e reply h = record { effect = h.effect; has = h.has; changed = h.changed }

-- Such a step of a machine that is held is one that was applied.
step_same : (old new : MachineState) (e : Event) (reply : Reply) (effect : Effect) → HasEffect old e (outcome_of reply) reply effect → new ≡ applied old effect → IsSameShape old new
step_same old new e reply effect has changed = rw changed (step_shape old e (outcome_of reply) reply effect has)

-- The sectors of the disk that an event calls, as the disk holds them.
abbrev held_for : MachineState → Event → List Sector
held_for m (Step dev pick) = disk_of m dev
held_for m e = []

pub disk_itself : (disks : List (List Sector)) (dev : ℕ) → set disks dev (disk_or_none (slice_get disks dev)) ≡ disks
disk_itself [] dev = refl
disk_itself (d ∷ ds) zero = refl
disk_itself (d ∷ ds) (suc dev) = ap (λ (xs : List (List Sector)). d ∷ xs) (disk_itself ds dev)

as_itself : (m : MachineState) (e : Event) → as_given m e (held_for m e) ≡ m
as_itself m (RegRead dev off width) = refl
as_itself m (RegWrite dev off width value) = refl
as_itself m (MemRead addr len) = refl
as_itself m (MemWrite addr bytes) = refl
as_itself m (Step dev pick) = ap (λ (disks : List (List Sector)). record m { disks = disks }) (disk_itself m.disks dev)
as_itself m (Input dev bytes) = refl
as_itself m (Resize dev cols rows) = refl
as_itself m (Drop dev) = refl
as_itself m (Disk dev pick given) = refl

pub whole_disk : (disks : List (List Sector)) (dev : ℕ) → All AreWhole disks → AreWhole (disk_or_none (slice_get disks dev))
whole_disk [] dev whole = none_whole
whole_disk (d ∷ ds) zero whole = whole 0 d (omega arith)
whole_disk (d ∷ ds) (suc dev) whole = whole_disk ds dev (λ k x below. whole (suc k) x (omega (arith, below)))

given_for : (marks : List Marks) (m : MachineState) (e : Event) → IsSound m → IsGivenFor marks m e (held_for m e)
given_for marks m (RegRead dev off width) sound = refl
given_for marks m (RegWrite dev off width value) sound = refl
given_for marks m (MemRead addr len) sound = refl
given_for marks m (MemWrite addr bytes) sound = refl
given_for marks m (Step dev pick) sound = given_itself (marks_at marks dev).honest (disk_of m dev) (whole_disk m.disks dev sound.sectors)
given_for marks m (Input dev bytes) sound = refl
given_for marks m (Resize dev cols rows) sound = refl
given_for marks m (Drop dev) sound = refl
given_for marks m (Disk dev pick given) sound = refl

pub applied_step : (shapes : List Shape) (old new : Seen) (e : Event) (reply : Reply) → IsHeld shapes old → Fits e → (h : IsStep (state_of old) e (outcome_of reply) reply (state_of new)) → IsLater old.memory new.memory → Rises (items_of h.effect) old.memory new.memory → all_marks new ≡ marks_after (all_marks old) e reply → FailsOnlyUnsteady (all_marks old) e reply → DisksAfter old e reply new → IsApplied old e reply new
applied_step shapes old new e reply held fits h later rises marks unsteady disks = record {
  given = held_for (state_of old) e;
  is_given = given_for (all_marks old) (state_of old) e held.sound;
  effect = h.effect;
  has = subst (λ (m : MachineState). HasEffect m e (outcome_of reply) reply h.effect) (sym (as_itself (state_of old) e)) h.has;
  ram = ap (λ (k : MachineState). k.ram) h.changed;
  devices = ap (λ (k : MachineState). k.devices) h.changed;
  bad = ap (λ (k : MachineState). bad_on k.disks) h.changed;
  unwritten = λ _. ap (λ (k : MachineState). k.disks) h.changed;
  changed = λ _. h.changed;
  shape = step_same (state_of old) (state_of new) e reply h.effect h.has h.changed;
  sound = (held_step shapes old new e (outcome_of reply) reply held fits h).sound;
  later = later;
  rises = rises;
  marks = marks;
  unsteady = unsteady;
  disks = disks;
}

-- Such an event calls no disk.
quiet_disks : (old new : Seen) (e : Event) (reply : Reply) → IsQuiet e → DisksAfter old e reply new
quiet_disks old new (RegRead dev off width) reply quiet = tt
quiet_disks old new (RegWrite dev off width value) reply quiet = tt
quiet_disks old new (MemRead addr len) reply quiet = tt
quiet_disks old new (MemWrite addr bytes) reply quiet = tt
quiet_disks old new (Step dev pick) reply quiet = absurd quiet
quiet_disks old new (Input dev bytes) reply quiet = tt
quiet_disks old new (Resize dev cols rows) reply quiet = tt
quiet_disks old new (Drop dev) reply quiet = tt
quiet_disks old new (Disk dev pick given) reply quiet = tt

-- An event that writes into no page and no sector was applied, and RAM is as it was.
pub applied_quiet : (shapes : List Shape) (old new : Seen) (e : Event) (reply : Reply) → IsQuiet e → IsHeld shapes old → Fits e → IsStep (state_of old) e (outcome_of reply) reply (state_of new) → new.memory ≡ old.memory → all_marks new ≡ marks_after (all_marks old) e reply → FailsOnlyUnsteady (all_marks old) e reply
    → IsApplied old e reply new
applied_quiet shapes old new e reply quiet held fits h same marks unsteady =
    let none : items_of h.effect ≡ [] = ap items_of h.has.effect_is ∙ no_items (state_of old) e (outcome_of reply) h.has.seen quiet in
    applied_step shapes old new e reply held fits h (rw same (later_same old.memory)) (rw none (rises_none old.memory new.memory same)) marks unsteady (quiet_disks old new e reply quiet)

-- An event that names a device which is not there changes nothing.
missing_answer : (shapes : List Shape) (m : Memory) (ds : List DeviceSeen) (e : Event) → IsQuiet e → IsHeld shapes (record { memory = m; devices = ds }) → Fits e → IsStep (state_of (record { memory = m; devices = ds })) e fine (Refused NoDevice) (state_of (record { memory = m; devices = ds }))
    → all_marks (record { memory = m; devices = ds }) ≡ marks_after (all_marks (record { memory = m; devices = ds })) e (Refused NoDevice) → FailsOnlyUnsteady (all_marks (record { memory = m; devices = ds })) e (Refused NoDevice)
    → IsApplied (record { memory = m; devices = ds }) e (Refused NoDevice) (record { memory = m; devices = ds })
missing_answer shapes m ds e quiet held fits step marks unsteady =
    applied_quiet shapes (record { memory = m; devices = ds }) (record { memory = m; devices = ds }) e (Refused NoDevice) quiet held fits step refl marks unsteady

pub missing_write : (shapes : List Shape) (m : Memory) (ds : List DeviceSeen) (dev offset width value : ℕ) → IsHeld shapes (record { memory = m; devices = ds }) → Fits (RegWrite dev offset width value) → length ds ≤ dev
    → IsApplied (record { memory = m; devices = ds }) (RegWrite dev offset width value) (Refused NoDevice) (record { memory = m; devices = ds })
missing_write shapes m ds dev offset width value held fits h =
    let none = past ds dev h in
    missing_answer shapes m ds (RegWrite dev offset width value) tt held fits (record { effect = no_effect; has = record { seen = Empty; may_see = tt; reply_is = rw none refl; effect_is = rw none refl; outcome_is = refl }; changed = refl }) refl tt

pub missing_input : (shapes : List Shape) (m : Memory) (ds : List DeviceSeen) (dev : ℕ) (bytes : List ℕ) → IsHeld shapes (record { memory = m; devices = ds }) → Fits (Input dev bytes) → length ds ≤ dev
    → IsApplied (record { memory = m; devices = ds }) (Input dev bytes) (Refused NoDevice) (record { memory = m; devices = ds })
missing_input shapes m ds dev bytes held fits h =
    let none = past ds dev h in
    missing_answer shapes m ds (Input dev bytes) tt held fits (record { effect = no_effect; has = record { seen = Empty; may_see = tt; reply_is = rw none refl; effect_is = rw none refl; outcome_is = refl }; changed = refl }) refl tt

pub missing_size : (shapes : List Shape) (m : Memory) (ds : List DeviceSeen) (dev cols rows : ℕ) → IsHeld shapes (record { memory = m; devices = ds }) → Fits (Resize dev cols rows) → length ds ≤ dev
    → IsApplied (record { memory = m; devices = ds }) (Resize dev cols rows) (Refused NoDevice) (record { memory = m; devices = ds })
missing_size shapes m ds dev cols rows held fits h =
    let none = past ds dev h in
    missing_answer shapes m ds (Resize dev cols rows) tt held fits (record { effect = no_effect; has = record { seen = Empty; may_see = tt; reply_is = rw none refl; effect_is = rw none refl; outcome_is = refl }; changed = refl }) refl tt

pub missing_drop : (shapes : List Shape) (m : Memory) (ds : List DeviceSeen) (dev : ℕ) → IsHeld shapes (record { memory = m; devices = ds }) → Fits (Drop dev) → length ds ≤ dev
    → IsApplied (record { memory = m; devices = ds }) (Drop dev) (Refused NoDevice) (record { memory = m; devices = ds })
missing_drop shapes m ds dev held fits h =
    let none = past ds dev h in
    missing_answer shapes m ds (Drop dev) tt held fits (record { effect = no_effect; has = record { seen = Empty; may_see = tt; reply_is = rw none refl; effect_is = rw none refl; outcome_is = refl }; changed = refl }) refl tt

pub applied_logged : {L : Type 0} (taking : L → Item → L) (shapes : List Shape) (old new : Seen) (log new_log : L) (e : Event) (reply : Reply) → IsHeld shapes old → Fits e → IsTouchingStep (Touches taking log new_log old.memory new.memory) (state_of old) e reply (state_of new) → IsLater old.memory new.memory → all_marks new ≡ marks_after (all_marks old) e reply → FailsOnlyUnsteady (all_marks old) e reply → DisksAfter old e reply new
    → IsAppliedLogged taking old log e reply new new_log
unfolding applied_step plain_step
applied_logged taking shapes old new log new_log e reply held fits h later marks unsteady disks = record {
  is_applied = applied_step shapes old new e reply held fits (plain_step (Touches taking log new_log old.memory new.memory) (state_of old) (state_of new) e reply h) later h.items_are.rises marks unsteady disks;
  logged = h.items_are.log_is;
}

lengths_of : (ds : List DeviceSeen) → map length (map (λ (x : DeviceSeen). x.sectors) ds) ≡ map (λ (x : DeviceSeen). length x.sectors) ds
lengths_of [] = refl
lengths_of (x ∷ ds) = ap (λ ns. length x.sectors ∷ ns) (lengths_of ds)

lengths_same : (ds es : List DeviceSeen) → map (λ (x : DeviceSeen). length x.sectors) es ≡ map (λ (x : DeviceSeen). length x.sectors) ds → map length (map (λ (x : DeviceSeen). x.sectors) es) ≡ map length (map (λ (x : DeviceSeen). x.sectors) ds)
lengths_same ds es h = lengths_of es ∙ h ∙ sym (lengths_of ds)

-- Whatever its disk does, a machine is held after a device did a piece of its work.
pub has_disk : (m : Memory) (ds : List DeviceSeen) (dev : ℕ) (d : DeviceSeen) → IsAt ds dev d → IsSound (state_of (record { memory = m; devices = ds })) → HasSectors d.state d.sectors
has_disk m ds dev d at sound = rw (found_disk ds dev d at) at (has_sectors (state_of (record { memory = m; devices = ds })) dev d.state (found ds dev d at) sound)

worked_shape : (touches : List Item → Type 0) (m new_m : Memory) (dev pick : ℕ) (d new : DeviceSeen) (reply : Reply)
    → IsDeviceStep touches dev d.marks.honest m.bytes d.sectors d.state pick reply new_m.bytes new.sectors new.state → (made_as new.state.kind) ≡ (made_as d.state.kind)
unfolding device_step
worked_shape touches m new_m dev pick d new reply h = ap (λ (x : DeviceState). made_as x.kind) h.device_is ∙ shape_at d.state m.bytes h.given pick (looked_at d.state pick) (outcome_of reply) h.seen

seen_shapes : (touches : List Item → Type 0) (m new_m : Memory) (ds : List DeviceSeen) (dev pick : ℕ) (d new : DeviceSeen) (reply : Reply) → IsAt ds dev d
    → IsDeviceStep touches dev d.marks.honest m.bytes d.sectors d.state pick reply new_m.bytes new.sectors new.state → map (λ (x : DeviceSeen). made_as x.state.kind) (set ds dev new) ≡ map (λ (x : DeviceSeen). made_as x.state.kind) ds
seen_shapes touches m new_m ds dev pick d new reply at h = map-set_same (λ (x : DeviceSeen). made_as x.state.kind) ds dev d new at (worked_shape touches m new_m dev pick d new reply h)

same_worked : (touches : List Item → Type 0) (m new_m : Memory) (ds : List DeviceSeen) (dev pick : ℕ) (d new : DeviceSeen) (reply : Reply) → IsAt ds dev d
    → IsDeviceStep touches dev d.marks.honest m.bytes d.sectors d.state pick reply new_m.bytes new.sectors new.state
    → length new_m.bytes ≡ length m.bytes → length new.sectors ≡ length d.sectors → IsSameShape (state_of (record { memory = m; devices = ds })) (state_of (record { memory = new_m; devices = set ds dev new }))
same_worked touches m new_m ds dev pick d new reply at h size count = record {
  ram = size;
  devices = sym (shapes_seen (set ds dev new)) ∙ seen_shapes touches m new_m ds dev pick d new reply at h ∙ shapes_seen ds;
  disks = lengths_same ds (set ds dev new) (map-set_same (λ (x : DeviceSeen). length x.sectors) ds dev d new at count);
}

same_count : (content given : List Sector) → map is_bad given ≡ map is_bad content → length given ≡ length content
same_count content given same = omega (arith, length-map {A = Sector} {B = Bool}, ap length same)

-- The sectors that a disk gave are as many as the device's.
has_given : (honest : Bool) (d : DeviceState) (content given : List Sector) → IsGiven honest content given → HasSectors d content → HasSectors d given
has_given honest d content given is has = record { count = same_count content given is.bad ∙ has.count; whole = is.whole }

pub held_worked : (touches : List Item → Type 0) (shapes : List Shape) (m new_m : Memory) (ds : List DeviceSeen) (dev pick : ℕ) (d new : DeviceSeen) (reply : Reply) → IsHeld shapes (record { memory = m; devices = ds }) → IsAt ds dev d
    → IsDeviceStep touches dev d.marks.honest m.bytes d.sectors d.state pick reply new_m.bytes new.sectors new.state
    → length new_m.bytes ≡ length m.bytes → IsBytes new_m.bytes → AreWhole new.sectors → length new.sectors ≡ length d.sectors → IsHeld shapes (record { memory = new_m; devices = set ds dev new })
held_worked touches shapes m new_m ds dev pick d new reply held at h size bytes whole count =
    let old : MachineState = state_of (record { memory = m; devices = ds }) in
    let sound_new : IsSoundDevice (seen_base ds) (length m.bytes) new.state = rw h.device_is (sound_stepped d.state m.bytes h.given pick (outcome_of reply) h.seen h.may_look held.sound.bytes (sound_device m ds dev d at held.sound) (has_given d.marks.honest d.state d.sectors h.given h.is_given (has_disk m ds dev d at held.sound))) in
    let states : map (λ (x : DeviceSeen). x.state) (set ds dev new) ≡ set (map (λ (x : DeviceSeen). x.state) ds) dev new.state = map-set (λ (x : DeviceSeen). x.state) ds dev new in
    let disks : map (λ (x : DeviceSeen). x.sectors) (set ds dev new) ≡ set (map (λ (x : DeviceSeen). x.sectors) ds) dev new.sectors = map-set (λ (x : DeviceSeen). x.sectors) ds dev new in
    let same = same_worked touches m new_m ds dev pick d new reply at h size count in
    record {
      sound = sound_by old (state_of (record { memory = new_m; devices = set ds dev new })) same (rw (states, length-set) refl) (rw states (All-set (IsSoundDevice (seen_base ds) (length m.bytes)) (map (λ (x : DeviceSeen). x.state) ds) dev new.state sound_new held.sound.devices)) bytes
          (rw disks (All-set AreWhole (map (λ (x : DeviceSeen). x.sectors) ds) dev new.sectors whole held.sound.sectors)) held.sound;
      shapes_are = held.shapes_are ∙ sym (seen_shapes touches m new_m ds dev pick d new reply at h);
    }

-- The marks of the disks after it.
failed_marks : (ds : List DeviceSeen) (dev : ℕ) (d new : DeviceSeen) (failed : Bool) → IsAt ds dev d → new.marks ≡ failed_if failed d.marks
    → map (λ (x : DeviceSeen). x.marks) (set ds dev new) ≡ cond failed (failed_at (map (λ (x : DeviceSeen). x.marks) ds) dev) (map (λ (x : DeviceSeen). x.marks) ds)
failed_marks ds dev d new true at is = map-set (λ (x : DeviceSeen). x.marks) ds dev new ∙ rw (is, found_marks ds dev d at) refl
failed_marks ds dev d new false at is = map-set_same (λ (x : DeviceSeen). x.marks) ds dev d new at is

bad_sets : (dev : ℕ) (sets : List blk.SectorSet) → AreMadeBad (sets_on dev sets) → blk.AreMadeBad sets
bad_sets dev [] bad = tt
bad_sets dev (s ∷ ss) bad = (bad.0, bad_sets dev ss bad.1)

-- The disks beside it, and whether its own is flushed.
pub disk_other : (disks : List (List Sector)) (dev k : ℕ) (content : List Sector) → k ≢ dev → disk_or_none (slice_get (set disks dev content) k) ≡ disk_or_none (slice_get disks k)
disk_other [] dev k content other = refl
disk_other (d ∷ ds) zero zero content other = absurd (other refl)
disk_other (d ∷ ds) zero (suc k) content other = refl
disk_other (d ∷ ds) (suc dev) zero content other = refl
disk_other (d ∷ ds) (suc dev) (suc k) content other = disk_other ds dev k content (λ same. other (ap suc same))

pub flushed_there : (ds : List DeviceSeen) (dev : ℕ) (d new : DeviceSeen) → IsAt ds dev d → slice_index_or (map (λ (x : DeviceSeen). x.is_flushed) (set ds dev new)) dev true ≡ new.is_flushed
flushed_there [] dev d new at = absurd (omega (arith, at.below))
flushed_there (x ∷ ds) zero d new at = refl
flushed_there (x ∷ ds) (suc dev) d new at = flushed_there ds dev d new (record { below = omega (arith, at.below); is = at.is })

pub worked : {L : Type 0} (taking : L → Item → L) (shapes : List Shape) (m new_m : Memory) (log new_log : L) (ds : List DeviceSeen) (dev pick : ℕ) (d new : DeviceSeen) (reply : Reply) → IsHeld shapes (record { memory = m; devices = ds }) → IsAt ds dev d
    → IsDeviceStep (Touches taking log new_log m new_m) dev d.marks.honest m.bytes d.sectors d.state pick reply new_m.bytes new.sectors new.state
    → length new_m.bytes ≡ length m.bytes → IsBytes new_m.bytes → AreWhole new.sectors → length new.sectors ≡ length d.sectors → IsLater m new_m → new.marks ≡ failed_if (is_failure reply) d.marks → (is_failure reply ≡ true → d.marks.steady ≡ false) → HasFlushed d.state pick reply new.is_flushed
    → IsAppliedLogged taking (record { memory = m; devices = ds }) log (Step dev pick) reply (record { memory = new_m; devices = set ds dev new }) new_log
worked taking shapes m new_m log new_log ds dev pick d new reply held at h size bytes whole count later marks unsteady flushed =
    let s = device_step d.state m.bytes h.given pick (outcome_of reply) h.seen in
    let disk = found_disk ds dev d at in
    let disks : List (List Sector) = map (λ (x : DeviceSeen). x.sectors) ds in
    let is_set = disk_set disks dev d.sectors s.sets disk in
    let there : slice_get (set disks dev h.given) dev ≡ Some h.given = set_there disks dev d.sectors h.given disk in
    let sectors : (content : List Sector) → content ≡ blk.sectors_set d.sectors s.sets → set disks dev content ≡ effects.sectors_set disks (sets_on dev s.sets) = (λ content is. ap (set disks dev) is ∙ sym is_set) in
    let after : map (λ (x : DeviceSeen). x.sectors) (set ds dev new) ≡ set disks dev new.sectors = map-set (λ (x : DeviceSeen). x.sectors) ds dev new in
    let is_honest : IsTrue (marks_at (map (λ (x : DeviceSeen). x.marks) ds) dev).honest → IsTrue d.marks.honest = (λ honest. rw (found_marks ds dev d at) at honest) in
    record {
      is_applied = record {
        given = h.given;
        is_given = rw (found_marks ds dev d at, disk) h.is_given;
        effect = record { writes = s.writes; sectors = sets_on dev s.sets; replaced = Some (record { number = dev; device = new.state }) };
        has = record { seen = h.seen; may_see = rw (found ds dev d at) h.may_look; reply_is = rw (found ds dev d at, there) h.reply_is; effect_is = rw (found ds dev d at, there, h.device_is) refl; outcome_is = refl };
        ram = h.ram_is;
        devices = map-set (λ (x : DeviceSeen). x.state) ds dev new;
        bad = ap bad_on after ∙ map-set (map is_bad) disks dev new.sectors ∙ ap (set (bad_on disks) dev) h.content_is.bad ∙ sym (map-set (map is_bad) disks dev (blk.sectors_set d.sectors s.sets)) ∙ sym (ap bad_on is_set);
        unwritten = λ bad. after ∙ sectors new.sectors (h.content_is.unwritten (bad_sets dev s.sets bad));
        changed = λ honest. rw (map-set (λ (x : DeviceSeen). x.state) ds dev new, after, sectors new.sectors (h.content_is.is (is_honest honest)), h.ram_is) refl;
        shape = same_worked (Touches taking log new_log m new_m) m new_m ds dev pick d new reply at h size count;
        sound = (held_worked (Touches taking log new_log m new_m) shapes m new_m ds dev pick d new reply held at h size bytes whole count).sound;
        later = later;
        rises = rw (touched_on dev s.sets) h.items_are.rises;
        marks = failed_marks ds dev d new (is_failure reply) at marks;
        unsteady = λ failed. rw (found_marks ds dev d at) (unsteady failed);
        disks = record {
          others = λ k other. rw after (disk_other disks dev k new.sectors other);
          flushed = λ makes done. rw (flushed_there ds dev d new at) (flushed (rw (found ds dev d at) at makes) done);
        };
      };
      logged = rw (touched_on dev s.sets) h.items_are.log_is;
    }
