-- A step of a machine over a window.
use Rattle.std.specs.Prelude.{◌≡◌, ℕ, zero, suc, ◌+◌, ◌-◌, ◌^◌, ◌++◌, IsTrue, slice_index_or, ◌<◌, ◌≤◌, ◌/◌, Bool, true, false, List, [], ◌∷◌, All, length, map, slice_get, slice_set, Option, Some, None, refl, if◌then◌else◌}
use Rattle.std.proofs.Common.{ap, sym, subst, ◌∙◌, arith, get_or, set, inl, inr}
use Rattle.std.proofs.lemmas.Bool.{cases_eq, cases_lt, lt-ltb}
use Rattle.std.proofs.lemmas.List.{get_or-set_same, get_or-set_other, get_or_past, length-set, map-set}
use Rattle.std.proofs.lemmas.List.Elements.{All-head, All-set, All-tail}
use Rattle.guestmem.proofs.WriteLaws.{length-set_all}
use Rattle.guestmem.specs.Memory.{Memory}
use Rattle.guestmem.specs.Number.{IsBytes}
use Rattle.guestmem.specs.Among.{Among}
use Rattle.guestmem.specs.Item.{Item, page, sector}
use Rattle.guestmem.specs.Write.{raised as raised_version}
use Rattle.guestmem.specs.Writes.{Write, set_all, touched}
use Rattle.mmio.proofs.StayingSound.{used_sound}
use Rattle.mmio.specs.State.{Registers, with_common}
use Rattle.mmio.specs.Interrupts.{used_raised}
use Rattle.blk.specs.Sectors.{AreWhole, Sector}
use Rattle.chains.specs.Footprint.{AgreeOn}
use Rattle.chains.specs.declared.lacking.Piece.{Piece}
use Rattle.chains.specs.declared.next.Next.{Next}
use Rattle.machine.specs.Applied.{IsApplied, IsAppliedLogged, as_given}
use Rattle.machine.specs.BadSectors.{bad_on}
use Rattle.machine.specs.Beside.{AppliedIsLocal, AppliedWordIsLast, BesideIsStep, EffectsAreLocal, HeldIsBeside, IsLoggedOver, IsStepOf, OpenIsStep, ended, KnowsReads, KnowsWord, window_memory, IsWritten, QuietIsOpen, WordIsLast, WrittenIsThere, written_with, publishing_of, interrupted, interrupting, raised_in, seen_raised, with_interrupt, with_memory, with_ram}
use Rattle.machine.specs.DeviceStep.{DeviceAnswer, device_step}
use Rattle.machine.specs.Effect.{Effect, Replacement, applied, items_of, replaced_in, sets_on}
use Rattle.region.specs.Address.{address}
use Rattle.region.specs.declared.region.Region.{Region}
use Rattle.machine.specs.Parked.{IsParked, ParkedSeen, WasHeld, back_with, parked_sectors}
use Rattle.machine.specs.Held.{IsHeld}
use Rattle.machine.specs.declared.shape.Shape.{Shape}
use Rattle.machine.specs.Footprint.{Publishing, asks_at, has_published, publishing, asks_by, asks_interrupt, device_word, raised, reads_of, step_asks, step_reads, step_word, word_by}
use Rattle.machine.specs.Outcome.{Outcome, outcome_of}
use Rattle.machine.specs.Seen.{DeviceSeen, Seen, state_of}
use Rattle.machine.specs.Shapes.{made_as}
use Rattle.machine.specs.Sound.{IsSound, IsSoundDevice, IsSoundKind}
use Rattle.machine.specs.State.{DeviceState, MachineState, base_of}
use Rattle.machine.specs.Step.{Answer, HasEffect, MaySeeAt, disk_of, disk_or_none, step_device}
use Rattle.machine.specs.declared.event.Event.TheVariants.{Step}
use Rattle.machine.specs.declared.kind.Kind.{Kind}
use Rattle.machine.specs.declared.kind.Kind.TheVariants.{Network, Block, Outside, Console, Entropy}
use Rattle.machine.specs.declared.reply.Reply.{Reply}
use Rattle.machine.proofs.At.{IsAt}
use Rattle.machine.proofs.Staying.{stays_sound}
use Rattle.machine.proofs.Within.{sound_by}
use Rattle.machine.proofs.Footprint.{device_local, may_look_local, word_last}

-- What a device answers, as the machine does.
abbrev answer_of : ℕ → DeviceAnswer → Answer
answer_of number s = record {
  reply = s.reply;
  effect = record { writes = s.writes; sectors = sets_on number s.sets; replaced = Some (record { number = number; device = s.device }) };
}

may_see_local : (found : Option DeviceState) (w m : List ℕ) (pick : ℕ) (o : Outcome) (seen : Next) → length w ≡ length m → AgreeOn w m (reads_of found w pick o seen) → MaySeeAt found w pick o seen → MaySeeAt found m pick o seen
may_see_local None w m pick o seen same h may = tt
may_see_local (Some d) w m pick o seen same h may = may_look_local d w m pick o seen same h may

device_same : (number : ℕ) (found : Option DeviceState) (w m : List ℕ) (content : List Sector) (pick : ℕ) (o : Outcome) (seen : Next) (reply : Reply) → reply ≡ (step_device number found w content pick o seen).reply → length w ≡ length m
    → AgreeOn w m (reads_of found w pick o seen) → AgreeOn w m (word_by found pick seen reply) → step_device number found m content pick o seen ≡ step_device number found w content pick o seen
device_same number None w m content pick o seen reply is same h word = refl
device_same number (Some d) w m content pick o seen reply is same h word =
    let here : AgreeOn w m (device_word d pick seen (device_step d w content pick o seen).reply) = subst (λ (r : Reply). AgreeOn w m (device_word d pick seen r)) is word in
    ap (answer_of number) (device_local d w m content pick o seen same h here)

pub effects_local : EffectsAreLocal
effects_local m ram dev pick o reply f h same reads word =
    let found = slice_get m.devices dev in
    let answers : step_device dev found ram (disk_of m dev) pick o h.seen ≡ step_device dev found m.ram (disk_of m dev) pick o h.seen = device_same dev found m.ram ram (disk_of m dev) pick o h.seen reply h.reply_is same reads word in
    record {
      seen = h.seen;
      may_see = may_see_local found m.ram ram pick o h.seen same reads h.may_see;
      reply_is = h.reply_is ∙ ap (λ (a : Answer). a.reply) (sym answers);
      effect_is = h.effect_is ∙ ap (λ (a : Answer). a.effect) (sym answers);
      outcome_is = h.outcome_is;
    }

-- With an interrupt.
abbrev interrupted_answer : Bool → Answer → Answer
interrupted_answer due a = record { reply = a.reply; effect = with_interrupt due a.effect }

device_last : (number : ℕ) (found : Option DeviceState) (w m : List ℕ) (content : List Sector) (pick : ℕ) (o : Outcome) (seen : Next) (reply : Reply) → reply ≡ (step_device number found w content pick o seen).reply
    → AgreeOn w m (reads_of found w pick o seen) → asks_by found pick seen reply (set_all w (step_device number found w content pick o seen).effect.writes) ≡ false
    → step_device number found m content pick o seen ≡ interrupted_answer (asks_by found pick seen reply (set_all m (step_device number found w content pick o seen).effect.writes)) (step_device number found w content pick o seen)
device_last number None w m content pick o seen reply is h quiet = refl
device_last number (Some d) w m content pick o seen reply is h quiet =
    let s = device_step d w content pick o seen in
    let off : asks_interrupt d pick seen s.reply (set_all w s.writes) ≡ false = subst (λ (r : Reply). asks_interrupt d pick seen r (set_all w s.writes) ≡ false) is quiet in
    let last = ap (answer_of number) (word_last d w m content pick o seen h off) in
    subst (λ (r : Reply). answer_of number (device_step d m content pick o seen) ≡ interrupted_answer (asks_interrupt d pick seen r (set_all m s.writes)) (answer_of number s)) (sym is) last

pub effects_last : WordIsLast
effects_last m ram dev pick o reply f h same reads quiet =
    let found = slice_get m.devices dev in
    let a = step_device dev found m.ram (disk_of m dev) pick o h.seen in
    let writes : f.writes ≡ a.effect.writes = ap (λ (e : Effect). e.writes) h.effect_is in
    let off : asks_by found pick h.seen reply (set_all m.ram a.effect.writes) ≡ false = rw writes at quiet in
    let answers = device_last dev found m.ram ram (disk_of m dev) pick o h.seen reply h.reply_is reads off in
    let effect : with_interrupt (asks_by found pick h.seen reply (set_all ram f.writes)) f ≡ with_interrupt (asks_by found pick h.seen reply (set_all ram a.effect.writes)) a.effect =
    ap (λ (e : Effect). with_interrupt (asks_by found pick h.seen reply (set_all ram e.writes)) e) h.effect_is in
    record {
      seen = h.seen;
      may_see = may_see_local found m.ram ram pick o h.seen same reads h.may_see;
      reply_is = h.reply_is ∙ ap (λ (x : Answer). x.reply) (sym answers);
      effect_is = effect ∙ ap (λ (x : Answer). x.effect) (sym answers);
      outcome_is = h.outcome_is;
    }

-- Bytes stay bytes where the same writes leave bytes in another RAM.
byte_set : (w m : List ℕ) (i byte k : ℕ) → length w ≡ length m → (get_or w k 0 < 256 → get_or m k 0 < 256) → get_or (set w i byte) k 0 < 256 → get_or (set m i byte) k 0 < 256
byte_set w m i byte k same h fits =
    elim (cases_eq k i) as (λ _. get_or (set m i byte) k 0 < 256) [
      | inl is ↦ elim (cases_lt i (length w)) as (λ _. get_or (set m i byte) k 0 < 256) [
        | inl here ↦
            let on_w : get_or (set w i byte) i 0 ≡ byte = get_or-set_same w i byte 0 here in
            let on_m : get_or (set m i byte) i 0 ≡ byte = get_or-set_same m i byte 0 (omega (arith, here, same)) in
            rw (is, on_m) (rw (is, on_w) at fits)
        | inr past ↦
            let on_m : get_or (set m i byte) i 0 ≡ 0 = get_or_past (set m i byte) i 0 (omega (arith, past, same, length-set m i byte)) in
            rw (is, on_m) (omega arith)
      ]
      | inr other ↦
          let on_w : get_or (set w i byte) k 0 ≡ get_or w k 0 = get_or-set_other w i k byte 0 other in
          let on_m : get_or (set m i byte) k 0 ≡ get_or m k 0 = get_or-set_other m i k byte 0 other in
          rw on_m (h (rw on_w at fits))
    ]

bytes_set : (w m : List ℕ) (ws : List Write) (k : ℕ) → length w ≡ length m → (get_or w k 0 < 256 → get_or m k 0 < 256) → get_or (set_all w ws) k 0 < 256 → get_or (set_all m ws) k 0 < 256
bytes_set w m [] k same h fits = h fits
bytes_set w m (x ∷ ws) k same h fits =
    let longer : length (set w x.index x.byte) ≡ length (set m x.index x.byte) = length-set w x.index x.byte ∙ same ∙ sym (length-set m x.index x.byte) in
    bytes_set (set w x.index x.byte) (set m x.index x.byte) ws k longer (byte_set w m x.index x.byte k same h) fits

bytes_written : (w m : List ℕ) (ws : List Write) → length w ≡ length m → IsBytes m → IsBytes (set_all w ws) → IsBytes (set_all m ws)
bytes_written w m ws same bytes fits = λ k. bytes_set w m ws k same (λ _. bytes k) (fits k)

-- A sound machine is sound with another RAM of its length.
sound_with : (m : MachineState) (ram : List ℕ) → length m.ram ≡ length ram → IsBytes ram → IsSound m → IsSound (with_ram m ram)
sound_with m ram same bytes s = record {
  whole_pages = rw same at s.whole_pages;
  some_pages = rw same at s.some_pages;
  few_pages = rw same at s.few_pages;
  some_devices = s.some_devices;
  few_devices = s.few_devices;
  devices = rw same at s.devices;
  bytes = bytes;
  disks = s.disks;
  sectors = s.sectors;
}

same_state : (m n : MachineState) (ram after : List ℕ) → after ≡ ram → m ≡ n → with_ram m after ≡ with_ram n ram
same_state m n ram after same is = rw (same, is) refl

-- The RAM that was written.
record IsArrived (old new : Seen) (ram after : Memory) : Type 0 where
  length_of : length after.bytes ≡ length ram.bytes
  length_new : length new.memory.bytes ≡ length after.bytes
  are : IsBytes after.bytes

arrived : (old new : Seen) (dev pick : ℕ) (reply : Reply) (h : IsApplied old (Step dev pick) reply new) (ram after : Memory) → IsBytes ram.bytes → length old.memory.bytes ≡ length ram.bytes → IsWritten h.effect ram after → IsArrived old new ram after
arrived old new dev pick reply h ram after bytes same written =
    let shape = h.shape in
    let length_of : length after.bytes ≡ length ram.bytes = ap (λ (bs : List ℕ). length bs) written.bytes ∙ length-set_all ram.bytes h.effect.writes in
    let was : IsBytes (set_all old.memory.bytes h.effect.writes) = subst (λ (bs : List ℕ). IsBytes bs) h.ram h.sound.bytes in
    record {
      length_of = length_of;
      length_new = shape.ram ∙ same ∙ sym length_of;
      are = subst (λ (bs : List ℕ). IsBytes bs) (sym written.bytes) (bytes_written old.memory.bytes ram.bytes h.effect.writes same bytes was);
    }

-- The same effect, over another RAM.
applied_by : (old new : Seen) (dev pick : ℕ) (reply : Reply) (h : IsApplied old (Step dev pick) reply new) (ram after : Memory)
    → HasEffect (with_ram (as_given (state_of old) (Step dev pick) h.given) ram.bytes) (Step dev pick) (outcome_of reply) reply h.effect
    → IsBytes ram.bytes → length old.memory.bytes ≡ length ram.bytes → IsWritten h.effect ram after → IsApplied (with_memory old ram) (Step dev pick) reply (with_memory new after)
applied_by old new dev pick reply h ram after has bytes same written =
    let shape = h.shape in
    let a = arrived old new dev pick reply h ram after bytes same written in
    record {
      given = h.given;
      is_given = h.is_given;
      effect = h.effect;
      has = has;
      ram = written.bytes;
      devices = h.devices;
      bad = h.bad;
      unwritten = h.unwritten;
      changed = λ honest. same_state (state_of new) (applied (state_of old) h.effect) (set_all ram.bytes h.effect.writes) after.bytes written.bytes (h.changed honest);
      shape = record { ram = a.length_of; devices = shape.devices; disks = shape.disks };
      sound = sound_with (state_of new) after.bytes a.length_new a.are h.sound;
      later = written.later;
      rises = written.rises;
      marks = h.marks;
      unsteady = h.unsteady;
      disks = record { others = h.disks.others; flushed = h.disks.flushed };
    }

pub applied_local : AppliedIsLocal
applied_local old new dev pick reply h ram after bytes same reads word written =
    applied_by old new dev pick reply h ram after (effects_local (as_given (state_of old) (Step dev pick) h.given) ram.bytes dev pick (outcome_of reply) reply h.effect h.has same reads word) bytes same written

-- One device of which the interrupt is raised.
set_twice : {A : Type 0} (xs : List A) (n : ℕ) (x y : A) → set (set xs n x) n y ≡ set xs n y
set_twice [] n x y = refl
set_twice (z ∷ xs) zero x y = refl
set_twice (z ∷ xs) (suc n) x y = ap (λ zs. z ∷ zs) (set_twice xs n x y)

map_set_got : {A B : Type 0} (f : A → B) (xs : List A) (n : ℕ) (x y : A) → slice_get xs n ≡ Some x → f y ≡ f x → map f (set xs n y) ≡ map f xs
map_set_got f [] n x y at same = refl
map_set_got f (z ∷ xs) zero x y at same =
    let is : z ≡ x = cc in
    ap (λ w. w ∷ map f xs) (same ∙ ap f (sym is))
map_set_got f (z ∷ xs) (suc n) x y at same = ap (λ ws. f z ∷ ws) (map_set_got f xs n x y at same)

map_got : {A B : Type 0} (f : A → B) (xs : List A) (n : ℕ) (x : A) → slice_get xs n ≡ Some x → slice_get (map f xs) n ≡ Some (f x)
map_got f [] n x at = cc
map_got f (z ∷ xs) zero x at =
    let is : z ≡ x = cc in
    ap (λ w. Some (f w)) is
map_got f (z ∷ xs) (suc n) x at = map_got f xs n x at

map_none : {A B : Type 0} (f : A → B) (xs : List A) (n : ℕ) → slice_get xs n ≡ None → slice_get (map f xs) n ≡ None
map_none f [] n at = refl
map_none f (z ∷ xs) zero at = cc
map_none f (z ∷ xs) (suc n) at = map_none f xs n at

set_got : {A : Type 0} (xs : List A) (n : ℕ) (x y : A) → slice_get xs n ≡ Some x → slice_get (set xs n y) n ≡ Some y
set_got [] n x y at = cc
set_got (z ∷ xs) zero x y at = refl
set_got (z ∷ xs) (suc n) x y at = set_got xs n x y at

all_got : {A : Type 0} (P : A → Type 0) (xs : List A) (n : ℕ) (x : A) → slice_get xs n ≡ Some x → All P xs → P x
all_got P [] n x at all = cc
all_got P (z ∷ xs) zero x at all =
    let is : z ≡ x = cc in
    subst P is (All-head P z xs all)
all_got P (z ∷ xs) (suc n) x at all = all_got P xs n x at (All-tail P z xs all)

raised_there : (olds news : List DeviceState) (replaced : Option Replacement) (r : Replacement) (dev : ℕ) (s : DeviceState) → news ≡ replaced_in olds replaced → replaced ≡ Some r → dev ≡ r.number → s ≡ r.device
    → set news dev (raised s) ≡ replaced_in olds (interrupting true replaced)
raised_there olds news replaced r dev s are is number state = rw (are, is, number, state) (set_twice olds r.number r.device (raised r.device))

raised_kind : (len : ℕ) (r : Registers) (kind : Kind) → IsSoundKind len r kind → IsSoundKind len (with_common r (used_raised r.common)) kind
raised_kind len r (Network mac inbox) h = h
raised_kind len r (Block block) h = h
raised_kind len r (Outside block) h = h
raised_kind len r (Console size held) h = h
raised_kind len r (Entropy pool) h = h

raised_sound : {base : ℕ} (len : ℕ) (d : DeviceState) → IsSoundDevice base len d → IsSoundDevice base len (raised d)
raised_sound len d s = stays_sound len d (raised d) refl (used_sound d.registers s.registers) s.positions (raised_kind len d.registers d.kind s.kind) s

parked_parts : (versions other : List ℕ) (devices others : List DeviceSeen) → versions ≡ other → devices ≡ others
    → ◌≡◌ {A = ParkedSeen} (record { memory = versions; devices = devices }) (record { memory = other; devices = others })
parked_parts versions other devices others a b = rw (a, b) refl

three_same : (ram after : List ℕ) (ds es : List DeviceState) (disks ks : List (List Sector)) → after ≡ ram → ds ≡ es → disks ≡ ks
    → ◌≡◌ {A = MachineState} (record { ram = after; devices = ds; disks = disks }) (record { ram = ram; devices = es; disks = ks })
three_same ram after ds es disks ks a b c = rw (a, b, c) refl

applied_raised : (old new : Seen) (dev pick : ℕ) (reply : Reply) (h : IsApplied old (Step dev pick) reply new) (ram after : Memory) (d : DeviceSeen) (r : Replacement)
    → slice_get new.devices dev ≡ Some d → h.effect.replaced ≡ Some r → dev ≡ r.number → d.state ≡ r.device
    → HasEffect (with_ram (as_given (state_of old) (Step dev pick) h.given) ram.bytes) (Step dev pick) (outcome_of reply) reply (with_interrupt true h.effect)
    → IsBytes ram.bytes → length old.memory.bytes ≡ length ram.bytes → IsWritten h.effect ram after
    → IsApplied (with_memory old ram) (Step dev pick) reply (record { memory = after; devices = slice_set new.devices dev (seen_raised d) })
applied_raised old new dev pick reply h ram after d r there replaced number state has bytes same written =
    let a = arrived old new dev pick reply h ram after bytes same written in
    let shape = h.shape in
    let news = map (λ (x : DeviceSeen). x.state) new.devices in
    let spread : map (λ (x : DeviceSeen). x.state) (set new.devices dev (seen_raised d)) ≡ set news dev (raised d.state) = map-set (λ (x : DeviceSeen). x.state) new.devices dev (seen_raised d) in
    let devices : map (λ (x : DeviceSeen). x.state) (set new.devices dev (seen_raised d)) ≡ replaced_in (state_of old).devices (interrupting true h.effect.replaced) =
    spread ∙ raised_there (state_of old).devices news h.effect.replaced r dev d.state h.devices replaced number state in
    let disks : map (λ (x : DeviceSeen). x.sectors) (set new.devices dev (seen_raised d)) ≡ map (λ (x : DeviceSeen). x.sectors) new.devices = map_set_got (λ (x : DeviceSeen). x.sectors) new.devices dev d (seen_raised d) there refl in
    let marks : map (λ (x : DeviceSeen). x.marks) (set new.devices dev (seen_raised d)) ≡ map (λ (x : DeviceSeen). x.marks) new.devices = map_set_got (λ (x : DeviceSeen). x.marks) new.devices dev d (seen_raised d) there refl in
    let flushed : map (λ (x : DeviceSeen). x.is_flushed) (set new.devices dev (seen_raised d)) ≡ map (λ (x : DeviceSeen). x.is_flushed) new.devices = map_set_got (λ (x : DeviceSeen). x.is_flushed) new.devices dev d (seen_raised d) there refl in
    let got : slice_get news dev ≡ Some d.state = map_got (λ (x : DeviceSeen). x.state) new.devices dev d there in
    let before = with_ram (state_of new) after.bytes in
    let sound : IsSound before = sound_with (state_of new) after.bytes a.length_new a.are h.sound in
    let kinds : map (λ (x : DeviceState). made_as x.kind) (map (λ (x : DeviceSeen). x.state) (set new.devices dev (seen_raised d))) ≡ map (λ (x : DeviceState). made_as x.kind) news =
    ap (map (λ (x : DeviceState). made_as x.kind)) spread ∙ map_set_got (λ (x : DeviceState). made_as x.kind) news dev d.state (raised d.state) got refl in
    let here = all_got (IsSoundDevice (base_of news) (length after.bytes)) news dev d.state got sound.devices in
    let each : All (IsSoundDevice (base_of news) (length after.bytes)) (set news dev (raised d.state)) =
    All-set (IsSoundDevice (base_of news) (length after.bytes)) news dev (raised d.state) (raised_sound (length after.bytes) d.state here) sound.devices in
    let all : All (IsSoundDevice (base_of news) (length after.bytes)) (map (λ (x : DeviceSeen). x.state) (set new.devices dev (seen_raised d))) = rw spread each in
    let count : length (map (λ (x : DeviceSeen). x.state) (set new.devices dev (seen_raised d))) ≡ length news = ap (λ (ds : List DeviceState). length ds) spread ∙ length-set news dev (raised d.state) in
    let whole : All AreWhole (map (λ (x : DeviceSeen). x.sectors) (set new.devices dev (seen_raised d))) = rw disks sound.sectors in
    record {
      given = h.given;
      is_given = h.is_given;
      effect = with_interrupt true h.effect;
      has = has;
      ram = written.bytes;
      devices = devices;
      bad = ap bad_on disks ∙ h.bad;
      unwritten = λ made. disks ∙ h.unwritten made;
      changed = λ honest. three_same (set_all ram.bytes h.effect.writes) after.bytes _ _ _ _ written.bytes devices (disks ∙ ap (λ (m : MachineState). m.disks) (h.changed honest));
      shape = record { ram = a.length_of; devices = kinds ∙ shape.devices; disks = ap (map length) disks ∙ shape.disks };
      sound = sound_by before (state_of (record { memory = after; devices = set new.devices dev (seen_raised d) })) (record { ram = refl; devices = kinds; disks = ap (map length) disks }) count all a.are whole sound;
      later = written.later;
      rises = written.rises;
      marks = marks ∙ h.marks;
      unsteady = h.unsteady;
      disks = record {
        others = λ k other. ap (λ (ks : List (List Sector)). disk_or_none (slice_get ks k)) disks ∙ h.disks.others k other;
        flushed = λ makes is. subst (λ (fs : List Bool). IsTrue (slice_index_or fs dev true)) (sym flushed) (h.disks.flushed makes is);
      };
    }

-- The device whose interrupt is raised is there.
found_of : (found : Option DeviceState) (pick : ℕ) (seen : Next) (reply : Reply) (ram : List ℕ) → asks_by found pick seen reply ram ≡ true → (d : DeviceState) × (found ≡ Some d)
found_of None pick seen reply ram is = cc
found_of (Some d) pick seen reply ram is = (d, refl)

replaced_of : (number : ℕ) (found : Option DeviceState) (d : DeviceState) (w : List ℕ) (content : List Sector) (pick : ℕ) (o : Outcome) (seen : Next) → found ≡ Some d
    → (r : Replacement) × ((step_device number found w content pick o seen).effect.replaced ≡ Some r) × (number ≡ r.number)
replaced_of number None d w content pick o seen is = cc
replaced_of number (Some e) d w content pick o seen is = (record { number = number; device = (device_step e w content pick o seen).device }, refl, refl)

new_device : (olds news : List DeviceState) (replaced : Option Replacement) (r : Replacement) (dev : ℕ) (d : DeviceState) → news ≡ replaced_in olds replaced → replaced ≡ Some r → dev ≡ r.number → slice_get olds dev ≡ Some d → slice_get news dev ≡ Some r.device
new_device olds news replaced r dev d are is number there =
    let here : slice_get olds r.number ≡ Some d = rw number at there in
    rw (are, is, number) (set_got olds r.number d r.device here)

some_same : {A : Type 0} (x y : A) → Some x ≡ Some y → x ≡ y
some_same x y is = cc

raised_at : (old new : Seen) (dev pick : ℕ) (reply : Reply) (h : IsApplied old (Step dev pick) reply new) (ram after : Memory) (r : Replacement) (got : Option DeviceSeen)
    → slice_get new.devices dev ≡ got → h.effect.replaced ≡ Some r → dev ≡ r.number → slice_get (map (λ (x : DeviceSeen). x.state) new.devices) dev ≡ Some r.device
    → HasEffect (with_ram (as_given (state_of old) (Step dev pick) h.given) ram.bytes) (Step dev pick) (outcome_of reply) reply (with_interrupt true h.effect)
    → IsBytes ram.bytes → length old.memory.bytes ≡ length ram.bytes → IsWritten h.effect ram after
    → IsApplied (with_memory old ram) (Step dev pick) reply (record { memory = after; devices = raised_in new.devices dev got })
raised_at old new dev pick reply h ram after r None there replaced number device has bytes same written =
    let none = map_none (λ (x : DeviceSeen). x.state) new.devices dev there in
    let bad : None ≡ Some r.device = sym none ∙ device in
    cc
raised_at old new dev pick reply h ram after r (Some d) there replaced number device has bytes same written =
    let state : d.state ≡ r.device = some_same d.state r.device (sym (map_got (λ (x : DeviceSeen). x.state) new.devices dev d there) ∙ device) in
    applied_raised old new dev pick reply h ram after d r there replaced number state has bytes same written

no_interrupt : (replaced : Option Replacement) → interrupting false replaced ≡ replaced
no_interrupt None = refl
no_interrupt (Some r) = refl

last_by : (due : Bool) (old new : Seen) (dev pick : ℕ) (reply : Reply) (h : IsApplied old (Step dev pick) reply new) (ram after : Memory)
    → asks_by (slice_get (state_of old).devices dev) pick h.has.seen reply after.bytes ≡ due
    → HasEffect (with_ram (as_given (state_of old) (Step dev pick) h.given) ram.bytes) (Step dev pick) (outcome_of reply) reply (with_interrupt due h.effect)
    → IsBytes ram.bytes → length old.memory.bytes ≡ length ram.bytes → IsWritten h.effect ram after
    → IsApplied (with_memory old ram) (Step dev pick) reply (interrupted due dev (with_memory new after))
last_by false old new dev pick reply h ram after is has bytes same written =
    let f = h.effect in
    let effect : with_interrupt false f ≡ f = ap (λ (r : Option Replacement). record { writes = f.writes; sectors = f.sectors; replaced = r }) (no_interrupt f.replaced) in
    let here = subst (λ (g : Effect). HasEffect (with_ram (as_given (state_of old) (Step dev pick) h.given) ram.bytes) (Step dev pick) (outcome_of reply) reply g) effect has in
    applied_by old new dev pick reply h ram after here bytes same written
last_by true old new dev pick reply h ram after is has bytes same written =
    let m = as_given (state_of old) (Step dev pick) h.given in
    let found = slice_get m.devices dev in
    let there = found_of found pick h.has.seen reply after.bytes is in
    let r = replaced_of dev found there.0 m.ram (disk_of m dev) pick (outcome_of reply) h.has.seen there.1 in
    let replaced : h.effect.replaced ≡ Some r.0 = ap (λ (e : Effect). e.replaced) h.has.effect_is ∙ r.1 in
    let device = new_device m.devices (state_of new).devices h.effect.replaced r.0 dev there.0 h.devices replaced r.2 there.1 in
    raised_at old new dev pick reply h ram after r.0 (slice_get new.devices dev) refl replaced r.2 device has bytes same written

pub applied_last : AppliedWordIsLast
applied_last old new dev pick reply h ram after bytes same reads quiet written =
    let m = as_given (state_of old) (Step dev pick) h.given in
    let found = slice_get m.devices dev in
    let due = asks_by found pick h.has.seen reply after.bytes in
    let has = effects_last m ram.bytes dev pick (outcome_of reply) reply h.effect h.has same reads quiet in
    let here = subst (λ (bs : List ℕ). HasEffect (with_ram m ram.bytes) (Step dev pick) (outcome_of reply) reply (with_interrupt (asks_by found pick h.has.seen reply bs) h.effect)) (sym written.bytes) has in
    last_by due old new dev pick reply h ram after refl here bytes same written

-- A step beside the guest.
asks_if : (c : Bool) (p : Option Publishing) (ram : List ℕ) → asks_at (if c then p else None) ram ≡ (if c then asks_at p ram else false)
asks_if true p ram = refl
asks_if false p ram = refl

asks_same : (found : Option DeviceState) (pick : ℕ) (seen : Next) (reply : Reply) (ram : List ℕ) → asks_at (publishing_of found pick seen reply) ram ≡ asks_by found pick seen reply ram
asks_same None pick seen reply ram = refl
asks_same (Some d) pick seen reply ram = asks_if (has_published reply) (publishing d pick seen) ram

pub held_beside : HeldIsBeside
held_beside p next window after held dev pick reply h reads word = λ ram written bytes same agree is.
    let old = back_with p window in
    applied_local old (back_with next after) dev pick reply h ram written bytes same
    (reads (outcome_of reply) h.has.seen h.has.may_see ram.bytes agree) (word (outcome_of reply) h.has.seen reply h.has.may_see ram.bytes agree) is

pub quiet_open : QuietIsOpen
quiet_open p next window after held dev pick reply h reads quiet = λ ram written bytes same agree is.
    let old = back_with p window in
    let found = slice_get (state_of old).devices dev in
    let off : asks_by found pick h.has.seen reply (set_all window.bytes h.effect.writes) ≡ false =
    ap (asks_by found pick h.has.seen reply) (sym h.ram) ∙ sym (asks_same found pick h.has.seen reply after.bytes) ∙ quiet in
    let last = applied_last old (back_with next after) dev pick reply h ram written bytes same (reads (outcome_of reply) h.has.seen h.has.may_see ram.bytes agree) off is in
    subst (λ (due : Bool). IsApplied (back_with p ram) (Step dev pick) reply (interrupted due dev (back_with next written))) (sym (asks_same found pick h.has.seen reply written.bytes)) last

-- A byte in whose page nothing is written stays.
byte_stays : (ram : List ℕ) (ws : List Write) (a : ℕ) → (Among (touched ws) (page (a / 4096)) → ⊥) → get_or (set_all ram ws) a 0 ≡ get_or ram a 0
byte_stays ram [] a far = refl
byte_stays ram (w ∷ ws) a far =
    let other : a ≡ w.index → ⊥ = λ is. far (inl (ap (λ (i : ℕ). page (i / 4096)) is)) in
    byte_stays (set ram w.index w.byte) ws a (λ among. far (inr among)) ∙ get_or-set_other ram w.index a w.byte 0 other

among_first : (is js : List Item) (i : Item) → Among is i → Among (is ++ js) i
among_first [] js i h = absurd h
among_first (k ∷ is) js i (inl e) = inl e
among_first (k ∷ is) js i (inr h) = inr (among_first is js i h)

raised_more : (v w : ℕ) → v < 2 ^ 64 - 1 → raised_version v ≤ w → w ≡ v → ⊥
raised_more v w few up same =
    let more : raised_version v ≡ v + 1 = rw (lt-ltb v (2 ^ 64 - 1) few) refl in
    omega (arith, more, up, same)

pub written_there : WrittenIsThere
written_there old new dev pick reply h ram versions = record {
  bytes = refl;
  later = record {
    bytes = length-set_all ram.bytes h.effect.writes;
    versions = h.later.versions ∙ sym (ap (λ (vs : List ℕ). length vs) versions);
    place = refl;
    rises = λ n. subst (λ (vs : List ℕ). get_or vs n 0 ≤ get_or new.memory.versions n 0) (sym versions) (h.later.rises n);
    stays = λ a same few. byte_stays ram.bytes h.effect.writes a (λ among.
        let v = get_or ram.versions (a / 4096) 0 in
        let here = among_first (touched h.effect.writes) (map (λ s. sector s.device s.number) h.effect.sectors) (page (a / 4096)) among in
        let up : raised_version v ≤ get_or new.memory.versions (a / 4096) 0 = subst (λ (vs : List ℕ). raised_version (get_or vs (a / 4096) 0) ≤ get_or new.memory.versions (a / 4096) 0) (sym versions) (h.rises.rises (a / 4096) here) in
        raised_more v (get_or new.memory.versions (a / 4096) 0) few up same);
  };
  rises = record {
    rises = λ n among. subst (λ (vs : List ℕ). raised_version (get_or vs n 0) ≤ get_or new.memory.versions n 0) (sym versions) (h.rises.rises n among);
    stays = λ n far. h.rises.stays n far ∙ ap (λ (vs : List ℕ). get_or vs n 0) (sym versions);
  };
}

-- It writes the same items.
by_items : (old new : Seen) (dev pick : ℕ) (reply : Reply) (h : IsApplied old (Step dev pick) reply new) (ram after : Memory)
    (has : HasEffect (with_ram (as_given (state_of old) (Step dev pick) h.given) ram.bytes) (Step dev pick) (outcome_of reply) reply h.effect)
    (bytes : IsBytes ram.bytes) (same : length old.memory.bytes ≡ length ram.bytes) (written : IsWritten h.effect ram after) → items_of (applied_by old new dev pick reply h ram after has bytes same written).effect ≡ items_of h.effect
unfolding applied_by
by_items old new dev pick reply h ram after has bytes same written = refl

pub local_items : (old new : Seen) (dev pick : ℕ) (reply : Reply) (h : IsApplied old (Step dev pick) reply new) (ram after : Memory) (bytes : IsBytes ram.bytes) (same : length old.memory.bytes ≡ length ram.bytes)
    (reads : AgreeOn old.memory.bytes ram.bytes (step_reads (state_of old) dev pick (outcome_of reply) h.has.seen)) (word : AgreeOn old.memory.bytes ram.bytes (step_word (state_of old) dev pick h.has.seen reply))
    (written : IsWritten h.effect ram after) → items_of (applied_local old new dev pick reply h ram after bytes same reads word written).effect ≡ items_of h.effect
unfolding applied_local
local_items old new dev pick reply h ram after bytes same reads word written = by_items old new dev pick reply h ram after _ bytes same written

held_items : (p next : ParkedSeen) (window after : Memory) (held : List Piece) (dev pick : ℕ) (reply : Reply) (h : IsApplied (back_with p window) (Step dev pick) reply (back_with next after))
    (reads : KnowsReads held (state_of (back_with p window)) dev pick) (word : KnowsWord held (state_of (back_with p window)) dev pick) (ram written : Memory) (bytes : IsBytes ram.bytes) (same : length window.bytes ≡ length ram.bytes)
    (agree : AgreeOn window.bytes ram.bytes held) (is : IsWritten h.effect ram written) → items_of (held_beside p next window after held dev pick reply h reads word ram written bytes same agree is).effect ≡ items_of h.effect
unfolding held_beside applied_local
held_items p next window after held dev pick reply h reads word ram written bytes same agree is = by_items (back_with p window) (back_with next after) dev pick reply h ram written _ bytes same is

raised_items : (old new : Seen) (dev pick : ℕ) (reply : Reply) (h : IsApplied old (Step dev pick) reply new) (ram after : Memory) (r : Replacement) (got : Option DeviceSeen)
    (there : slice_get new.devices dev ≡ got) (replaced : h.effect.replaced ≡ Some r) (number : dev ≡ r.number) (device : slice_get (map (λ (x : DeviceSeen). x.state) new.devices) dev ≡ Some r.device)
    (has : HasEffect (with_ram (as_given (state_of old) (Step dev pick) h.given) ram.bytes) (Step dev pick) (outcome_of reply) reply (with_interrupt true h.effect))
    (bytes : IsBytes ram.bytes) (same : length old.memory.bytes ≡ length ram.bytes) (written : IsWritten h.effect ram after)
    → items_of (raised_at old new dev pick reply h ram after r got there replaced number device has bytes same written).effect ≡ items_of h.effect
unfolding raised_at applied_raised
raised_items old new dev pick reply h ram after r None there replaced number device has bytes same written =
    let none = map_none (λ (x : DeviceSeen). x.state) new.devices dev there in
    let bad : None ≡ Some r.device = sym none ∙ device in
    cc
raised_items old new dev pick reply h ram after r (Some d) there replaced number device has bytes same written = refl

last_items : (due : Bool) (old new : Seen) (dev pick : ℕ) (reply : Reply) (h : IsApplied old (Step dev pick) reply new) (ram after : Memory)
    (is : asks_by (slice_get (state_of old).devices dev) pick h.has.seen reply after.bytes ≡ due)
    (has : HasEffect (with_ram (as_given (state_of old) (Step dev pick) h.given) ram.bytes) (Step dev pick) (outcome_of reply) reply (with_interrupt due h.effect))
    (bytes : IsBytes ram.bytes) (same : length old.memory.bytes ≡ length ram.bytes) (written : IsWritten h.effect ram after)
    → items_of (last_by due old new dev pick reply h ram after is has bytes same written).effect ≡ items_of h.effect
unfolding last_by
last_items false old new dev pick reply h ram after is has bytes same written = by_items old new dev pick reply h ram after _ bytes same written
last_items true old new dev pick reply h ram after is has bytes same written = raised_items old new dev pick reply h ram after _ (slice_get new.devices dev) refl _ _ _ has bytes same written

open_items : (old new : Seen) (dev pick : ℕ) (reply : Reply) (h : IsApplied old (Step dev pick) reply new) (ram after : Memory) (bytes : IsBytes ram.bytes) (same : length old.memory.bytes ≡ length ram.bytes)
    (reads : AgreeOn old.memory.bytes ram.bytes (step_reads (state_of old) dev pick (outcome_of reply) h.has.seen))
    (quiet : step_asks (state_of old) dev pick h.has.seen reply (set_all old.memory.bytes h.effect.writes) ≡ false) (written : IsWritten h.effect ram after)
    → items_of (applied_last old new dev pick reply h ram after bytes same reads quiet written).effect ≡ items_of h.effect
unfolding applied_last
open_items old new dev pick reply h ram after bytes same reads quiet written = last_items _ old new dev pick reply h ram after refl _ bytes same written

-- The machine that was lent made it.
pub step_of : (m : Seen) (p q : ParkedSeen) (dev pick : ℕ) (reply : Reply) (f : Effect) (x : Memory) → m.devices ≡ p.devices → (a : IsApplied (back_with p m.memory) (Step dev pick) reply (back_with q x)) → items_of a.effect ≡ items_of f
    → x.bytes ≡ set_all m.memory.bytes f.writes → x.versions ≡ q.memory → IsStepOf m dev pick reply f q
step_of m p q dev pick reply f x devices a items bytes versions =
    let P : List DeviceSeen → Type 0 = λ ds. (b : IsApplied (record { memory = m.memory; devices = ds }) (Step dev pick) reply (back_with q x)) × (items_of b.effect ≡ items_of f) in
    let both = subst P (sym devices) (a, items) in
    record { after = back_with q x; applied = both.0; items = both.1; bytes = bytes; versions = versions; devices = refl }

pub beside_step : BesideIsStep
beside_step m p next window after held dev pick reply h bytes devices versions left same agree reads word =
    let ram = m.memory in
    let there = written_there (back_with p window) (back_with next after) dev pick reply h ram versions in
    let x = written_with ram h.effect after.versions in
    step_of m p next dev pick reply h.effect x devices (held_beside p next window after held dev pick reply h reads word ram x bytes same agree there)
    (held_items p next window after held dev pick reply h reads word ram x bytes same agree there) refl left

interrupted_back : (due : Bool) (dev : ℕ) (q : ParkedSeen) (x : Memory) → interrupted due dev (back_with q x) ≡ back_with (ended due dev q) x
interrupted_back true dev q x = refl
interrupted_back false dev q x = refl

pub ended_versions : (due : Bool) (dev : ℕ) (q : ParkedSeen) → (ended due dev q).memory ≡ q.memory
ended_versions true dev q = refl
ended_versions false dev q = refl

pub open_step : OpenIsStep
open_step m p next window after held dev pick reply h bytes devices versions left same agree reads quiet =
    let ram = m.memory in
    let old = back_with p window in
    let found = slice_get (state_of old).devices dev in
    let there = written_there old (back_with next after) dev pick reply h ram versions in
    let x = written_with ram h.effect after.versions in
    let off : asks_by found pick h.has.seen reply (set_all window.bytes h.effect.writes) ≡ false = ap (asks_by found pick h.has.seen reply) (sym h.ram) ∙ sym (asks_same found pick h.has.seen reply after.bytes) ∙ quiet in
    let due = asks_by found pick h.has.seen reply x.bytes in
    let known = reads (outcome_of reply) h.has.seen h.has.may_see ram.bytes agree in
    let last = applied_last old (back_with next after) dev pick reply h ram x bytes same known off there in
    let P : Seen → Type 0 = λ s. (b : IsApplied (back_with p ram) (Step dev pick) reply s) × (items_of b.effect ≡ items_of h.effect) in
    let both = subst P (interrupted_back due dev next x) (last, open_items old (back_with next after) dev pick reply h ram x bytes same known off there) in
    subst (λ (d : Bool). IsStepOf m dev pick reply h.effect (ended d dev next)) (sym (asks_same found pick h.has.seen reply x.bytes))
    (step_of m p (ended due dev next) dev pick reply h.effect x devices both.0 both.1 refl (left ∙ sym (ended_versions due dev next)))

-- A step that was made with a window, and a log.
pub logged_over : {L : Type 0} (taking : L → Item → L) (p : ParkedSeen) (window left : Region) (dev pick : ℕ) (reply : Reply) (next : ParkedSeen) (old new : Seen) (log mid new_log : L) → old ≡ back_with p (window_memory p window) → mid ≡ log
    → IsAppliedLogged taking old mid (Step dev pick) reply new new_log → IsParked new left next → IsLoggedOver taking p window log dev pick reply left next new_log
logged_over {L} taking p window left dev pick reply next old new log mid new_log is same applied parked =
    let here = subst (λ (x : L). IsAppliedLogged taking old x (Step dev pick) reply new new_log) same applied in
    let there = subst (λ (m : Seen). IsAppliedLogged taking m log (Step dev pick) reply new new_log) is here in
    let last = subst (λ (ds : List DeviceSeen). IsAppliedLogged taking (back_with p (window_memory p window)) log (Step dev pick) reply (record { memory = new.memory; devices = ds }) new_log) (sym parked.devices_are) there in
    record { made = record { after = new.memory; applied = last.is_applied; lent = parked.lent }; logged = last.logged }

-- A window that is given back and lent again: window and machine are as they were.
pub place_again : (p : ParkedSeen) (window left : Region) (next : ParkedSeen) (m : Seen) → m ≡ back_with p (window_memory p window) → IsParked m left next → address left ≡ address window
place_again p window left next m is parked =
    let place : m.memory.place ≡ Some (address window) = ap (λ (s : Seen). s.memory.place) is in
    some_same (address left) (address window) (sym parked.lent.place ∙ place)

pub lent_again : (p : ParkedSeen) (window left : Region) (next : ParkedSeen) (m : Seen) → m ≡ back_with p (window_memory p window) → IsParked m left next → next ≡ p
lent_again p window left next m is parked =
    let versions : next.memory ≡ p.memory = parked.lent.versions_are ∙ ap (λ (s : Seen). s.memory.versions) is in
    let devices : next.devices ≡ p.devices = parked.devices_are ∙ ap (λ (s : Seen). s.devices) is in
    parked_parts next.memory p.memory next.devices p.devices versions devices

-- A machine of which one device raised its interrupt is sound.
got_at : (ds : List DeviceSeen) (dev : ℕ) (d : DeviceSeen) → IsAt ds dev d → slice_get ds dev ≡ Some d
got_at [] dev d at = absurd (omega (arith, at.below))
got_at (x ∷ ds) zero d at = ap (λ (y : DeviceSeen). Some y) (sym at.is)
got_at (x ∷ ds) (suc dev) d at = got_at ds dev d (record { below = omega (arith, at.below); is = at.is })

raised_machine : (m : Memory) (ds : List DeviceSeen) (dev : ℕ) (d : DeviceSeen) → slice_get ds dev ≡ Some d → IsSound (state_of (record { memory = m; devices = ds })) → IsSound (state_of (record { memory = m; devices = set ds dev (seen_raised d) }))
raised_machine m ds dev d there sound =
    let states = map (λ (x : DeviceSeen). x.state) ds in
    let spread : map (λ (x : DeviceSeen). x.state) (set ds dev (seen_raised d)) ≡ set states dev (raised d.state) = map-set (λ (x : DeviceSeen). x.state) ds dev (seen_raised d) in
    let disks : map (λ (x : DeviceSeen). x.sectors) (set ds dev (seen_raised d)) ≡ map (λ (x : DeviceSeen). x.sectors) ds = map_set_got (λ (x : DeviceSeen). x.sectors) ds dev d (seen_raised d) there refl in
    let got : slice_get states dev ≡ Some d.state = map_got (λ (x : DeviceSeen). x.state) ds dev d there in
    let kinds : map (λ (x : DeviceState). made_as x.kind) (map (λ (x : DeviceSeen). x.state) (set ds dev (seen_raised d))) ≡ map (λ (x : DeviceState). made_as x.kind) states =
    ap (map (λ (x : DeviceState). made_as x.kind)) spread ∙ map_set_got (λ (x : DeviceState). made_as x.kind) states dev d.state (raised d.state) got refl in
    let here = all_got (IsSoundDevice (base_of states) (length m.bytes)) states dev d.state got sound.devices in
    let each : All (IsSoundDevice (base_of states) (length m.bytes)) (set states dev (raised d.state)) =
    All-set (IsSoundDevice (base_of states) (length m.bytes)) states dev (raised d.state) (raised_sound (length m.bytes) d.state here) sound.devices in
    let all : All (IsSoundDevice (base_of states) (length m.bytes)) (map (λ (x : DeviceSeen). x.state) (set ds dev (seen_raised d))) = rw spread each in
    let count : length (map (λ (x : DeviceSeen). x.state) (set ds dev (seen_raised d))) ≡ length states = ap (λ (xs : List DeviceState). length xs) spread ∙ length-set states dev (raised d.state) in
    let whole : All AreWhole (map (λ (x : DeviceSeen). x.sectors) (set ds dev (seen_raised d))) = rw disks sound.sectors in
    sound_by (state_of (record { memory = m; devices = ds })) (state_of (record { memory = m; devices = set ds dev (seen_raised d) })) (record { ram = refl; devices = kinds; disks = ap (map length) disks }) count all sound.bytes whole sound

raised_one : (shapes : List Shape) (m : Memory) (ds : List DeviceSeen) (dev : ℕ) (d : DeviceSeen) → IsAt ds dev d → IsHeld shapes (record { memory = m; devices = ds }) → IsHeld shapes (record { memory = m; devices = set ds dev (seen_raised d) })
raised_one shapes m ds dev d at held = record {
  sound = raised_machine m ds dev d (got_at ds dev d at) held.sound;
  shapes_are = held.shapes_are ∙ sym (map_set_got (λ (x : DeviceSeen). made_as x.state.kind) ds dev d (seen_raised d) (got_at ds dev d at) refl);
}

pub raised_held : (shapes : List Shape) (versions : List ℕ) (ds : List DeviceSeen) (dev : ℕ) (d new : DeviceSeen) → IsAt ds dev d → new ≡ seen_raised d → WasHeld shapes (record { memory = versions; devices = ds }) → WasHeld shapes (record { memory = versions; devices = set ds dev new })
raised_held shapes versions ds dev d new at is was = λ m sound bytes count.
    let held = raised_one shapes m ds dev d at (was m sound bytes count) in
    subst (λ (x : DeviceSeen). IsHeld shapes (record { memory = m; devices = set ds dev x })) (sym is) held

-- The machine after that.
none_at : (ds : List DeviceSeen) (dev : ℕ) → length ds ≤ dev → slice_get ds dev ≡ None
none_at [] dev h = refl
none_at (x ∷ ds) zero h = absurd (omega (arith, h))
none_at (x ∷ ds) (suc dev) h = none_at ds dev (omega (arith, h))

pub ended_past : (due : Bool) (versions : List ℕ) (ds : List DeviceSeen) (dev : ℕ) → length ds ≤ dev → ◌≡◌ {A = ParkedSeen} (record { memory = versions; devices = ds }) (ended due dev (record { memory = versions; devices = ds }))
ended_past false versions ds dev h = refl
ended_past true versions ds dev h = rw (none_at ds dev h) refl

pub ended_there : (versions : List ℕ) (ds : List DeviceSeen) (dev : ℕ) (d new : DeviceSeen) → IsAt ds dev d → new ≡ seen_raised d
    → ◌≡◌ {A = ParkedSeen} (record { memory = versions; devices = set ds dev new }) (ended true dev (record { memory = versions; devices = ds }))
ended_there versions ds dev d new at is =
    let there = got_at ds dev d at in
    rw (there, is) refl

raised_sectors : (ds : List DeviceSeen) (dev : ℕ) (got : Option DeviceSeen) → slice_get ds dev ≡ got → map (λ (x : DeviceSeen). x.sectors) (raised_in ds dev got) ≡ map (λ (x : DeviceSeen). x.sectors) ds
raised_sectors ds dev None there = refl
raised_sectors ds dev (Some d) there = map_set_got (λ (x : DeviceSeen). x.sectors) ds dev d (seen_raised d) there refl

pub ended_sectors : (due : Bool) (dev : ℕ) (p : ParkedSeen) → parked_sectors (ended due dev p) ≡ parked_sectors p
ended_sectors true dev p = raised_sectors p.devices dev (slice_get p.devices dev) refl
ended_sectors false dev p = refl
