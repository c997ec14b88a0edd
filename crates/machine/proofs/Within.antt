-- The effect of a step lies within its machine, and keeps it sound.
use Rattle.std.proofs.Common.{◌≡◌, ℕ, zero, suc, ◌+◌, ◌-◌, ◌^◌, ◌<◌, ◌≤◌, Bool, true, false, cond, leb, ltb, List, [], ◌∷◌, length, map, get_or, set, Option, Some, None, refl, sym, ap, ◌∙◌, arith}
use Rattle.std.specs.Prelude.{◌&&◌, slice_get, Result, Ok, Err}
use Rattle.std.specs.List.{All}
use Rattle.std.proofs.lemmas.List.{length-set}
use Rattle.std.proofs.lemmas.List.Elements.{All-set}
use Rattle.std.proofs.lemmas.Option.{get_or_from_slice_get, slice_get-get_or, slice_get_within}
use Rattle.std.proofs.lemmas.Bool.{leb-true}
use Rattle.guestmem.specs.Number.{IsBytes}
use Rattle.guestmem.specs.Address.{access_refusal, index_of}
use Rattle.guestmem.proofs.WriteLaws.{length-set_all}
use Rattle.guestmem.specs.Writes.{Write, byte_writes, set_all}
use Rattle.guestmem.specs.declared.error.RamError.{RamError}
use Rattle.guestmem.specs.declared.error.RamError.TheVariants as ram_error
use Rattle.blk.proofs.Others.{outside_sets}
use Rattle.blk.specs.Move as blk
use Rattle.blk.specs.Outside.{Answer, Failed, awaits_at}
use Rattle.blk.specs.Sectors.{Sector, AreWhole, IsWhole}
use Rattle.guestmem.specs.Item.{sector}
use Rattle.chains.specs.State.{RingState}
use Rattle.console.specs.declared.size.ConsoleSize.{ConsoleSize}
use Rattle.chains.specs.declared.next.Next.{Next}
use Rattle.machine.specs.DeviceStep.{advance_at, advance_on, advanced_at, device_step, looked_at, wanted_of, MayLook, step_at}
use Rattle.machine.specs.Effect as effects
use Rattle.machine.specs.Effect.{Effect, Replacement, applied, replaced_in}
use Rattle.machine.specs.EffectLaws.{HasItem, IsSameShape, MayReplace, sector_on}
use Rattle.machine.specs.Outcome.{Outcome, fine, disk_failed, no_memory, disk_does}
use Rattle.machine.specs.Shapes.{made_as, sector_count}
use Rattle.machine.specs.Sound.{IsSound, IsSoundDevice}
use Rattle.machine.specs.State.{MachineState, DeviceState, base_of}
use Rattle.machine.specs.Outside.{answer_of, disk_answered}
use Rattle.machine.specs.Step.{answer, answered_by, disk_of, disk_or_none, drop_by, drop_input, drop_of, hand_in, input_of, MaySee, MaySeeAt, read_register, write_register, read_ram, write_ram, put_by, put_in, set_size, size_by, step_device}
use Rattle.machine.specs.StepLaws.{AnswerFits, Fits, StepStaysWithin, StepKeepsShape, StepStaysSound}
use Rattle.mmio.specs.RegisterWrite.{register_write}
use Rattle.machine.specs.declared.event.DiskAnswer.{DiskAnswer}
use Rattle.machine.specs.declared.event.DiskAnswer.TheVariants as answers
use Rattle.machine.specs.declared.event.Event.{Event}
use Rattle.machine.specs.declared.kind.Kind.{Kind}
use Rattle.machine.specs.declared.kind.Kind.TheVariants.{Network, Block, Outside, Console, Entropy}
use Rattle.machine.specs.declared.reply.Refusal.{Refusal}
use Rattle.machine.specs.declared.event.Event.TheVariants.{RegRead, RegWrite, MemRead, MemWrite, Step, Input, Resize, Drop, Disk}
use Rattle.machine.proofs.MadeAs.{advanced_as, dropped_as, input_as, served_as, without_as}
use Rattle.machine.proofs.Effects.{replaced_shapes, all_sizes_stay}
use Rattle.machine.proofs.Inside.{AreInsideRam, all_inside, bytes_after, run_inside, served_inside}
use Rattle.machine.proofs.Advancing.{advanced_is}
use Rattle.machine.proofs.Looking.{looked_is}
use Rattle.machine.proofs.Numbering.{shape_counts}
use Rattle.machine.proofs.Outstanding.{AreGoodSets}
use Rattle.machine.proofs.Rings.{looked_ring}
use Rattle.machine.proofs.DiskAnswers.{AnswerHasBytes, answer_below, answer_inside, shape_answered, sound_answered}
use Rattle.machine.proofs.Staying.{HasSectors, advanced_goes_on, outside_goes_on, sound_resized, sound_written, sound_input, sound_stepped, sound_without}

-- The effect of an answer: writes of bytes inside RAM, no sector, and one device replaced by a sound one of its shape.
abbrev pub StaysSoundAt : ℕ → ℕ → Option Replacement → Type 0
StaysSoundAt base len None = Unit {0}
StaysSoundAt base len (Some r) = IsSoundDevice base len r.device

-- A device is replaced by one of its shape.
may_write : (devices : List DeviceState) (number : ℕ) (found : Option DeviceState) (offset width value : ℕ) → slice_get devices number ≡ found → MayReplace devices (write_register number found offset width value).effect.replaced
may_write devices number None offset width value is = tt
may_write devices number (Some d) offset width value is = (d, is, dropped_as (register_write d.registers offset width value).1.queues d.kind)

may_put_by : (devices : List DeviceState) (number : ℕ) (d : DeviceState) (bytes : List ℕ) (answer : Result ℕ Refusal) → slice_get devices number ≡ Some d → MayReplace devices (put_by number d bytes answer).effect.replaced
may_put_by devices number d bytes (Ok count) is = (d, is, input_as d.kind bytes)
may_put_by devices number d bytes (Err refusal) is = tt

may_put : (devices : List DeviceState) (number : ℕ) (found : Option DeviceState) (bytes : List ℕ) → slice_get devices number ≡ found → MayReplace devices (put_in number found bytes).effect.replaced
may_put devices number None bytes is = tt
may_put devices number (Some d) bytes is = may_put_by devices number d bytes (input_of d.kind bytes) is

may_size_by : (devices : List DeviceState) (number : ℕ) (d : DeviceState) (kind : Kind) (size : ConsoleSize) → d.kind ≡ kind → slice_get devices number ≡ Some d → MayReplace devices (size_by number d kind size).effect.replaced
may_size_by devices number d (Network mac inbox) size of is = tt
may_size_by devices number d (Block block) size of is = tt
may_size_by devices number d (Outside block) size of is = tt
may_size_by devices number d (Console old held) size of is = (d, is, ap made_as (sym of))
may_size_by devices number d (Entropy pool) size of is = tt

may_size : (devices : List DeviceState) (number : ℕ) (found : Option DeviceState) (size : ConsoleSize) → slice_get devices number ≡ found → MayReplace devices (set_size number found size).effect.replaced
may_size devices number None size is = tt
may_size devices number (Some d) size is = may_size_by devices number d d.kind size refl is

may_drop_by : (devices : List DeviceState) (number : ℕ) (d : DeviceState) (answer : Result (Unit {0}) Refusal) → slice_get devices number ≡ Some d → MayReplace devices (drop_by number d answer).effect.replaced
may_drop_by devices number d (Ok done) is = (d, is, without_as d.kind)
may_drop_by devices number d (Err refusal) is = tt

may_drop : (devices : List DeviceState) (number : ℕ) (found : Option DeviceState) → slice_get devices number ≡ found → MayReplace devices (drop_input number found).effect.replaced
may_drop devices number None is = tt
may_drop devices number (Some d) is = may_drop_by devices number d (drop_of d.kind) is

may_hand_by : (devices : List DeviceState) (number : ℕ) (d : DeviceState) (kind : Kind) (pick : ℕ) (answer : Answer) → d.kind ≡ kind → slice_get devices number ≡ Some d → MayReplace devices (answered_by number (disk_answered d kind pick answer)).effect.replaced
may_hand_by devices number d (Outside block) pick answer of is = (d, is, shape_answered d block pick answer of)
may_hand_by devices number d (Network mac inbox) pick answer of is = tt
may_hand_by devices number d (Block block) pick answer of is = tt
may_hand_by devices number d (Console size held) pick answer of is = tt
may_hand_by devices number d (Entropy pool) pick answer of is = tt

may_hand : (devices : List DeviceState) (number : ℕ) (found : Option DeviceState) (pick : ℕ) (given : DiskAnswer) → slice_get devices number ≡ found → MayReplace devices (hand_in number found pick given).effect.replaced
may_hand devices number None pick given is = tt
may_hand devices number (Some d) pick given is = may_hand_by devices number d d.kind pick (answer_of given) refl is

shape_advanced : (d : DeviceState) (ram : List ℕ) (content : List Sector) (pick : ℕ) (ring : Option RingState) (o : Outcome) → made_as (advance_at d ram content pick ring o).device.kind ≡ made_as d.kind
shape_advanced d ram content pick None o = refl
shape_advanced d ram content pick (Some q) o = advanced_as d d.kind ram content pick q o refl

pub shape_at : (d : DeviceState) (ram : List ℕ) (content : List Sector) (pick : ℕ) (ring : Option RingState) (o : Outcome) (seen : Next) → made_as (step_at d ram content pick ring o seen).device.kind ≡ made_as d.kind
shape_at d ram content pick None o seen = shape_advanced d ram content pick (advanced_at d pick) o
shape_at d ram content pick (Some q) fine seen = served_as d.registers.common.features d.kind pick ram q seen
shape_at d ram content pick (Some q) disk_failed seen = refl
shape_at d ram content pick (Some q) no_memory seen = refl

may_work : (devices : List DeviceState) (number : ℕ) (found : Option DeviceState) (ram : List ℕ) (content : List Sector) (pick : ℕ) (o : Outcome) (seen : Next) → slice_get devices number ≡ found → MayReplace devices (step_device number found ram content pick o seen).effect.replaced
unfolding device_step
may_work devices number None ram content pick o seen is = tt
may_work devices number (Some d) ram content pick o seen is = (d, is, shape_at d ram content pick (looked_at d pick) o seen)

may_look : (devices : List DeviceState) (found : Option DeviceState) (offset width : ℕ) → MayReplace devices (read_register found offset width).effect.replaced
may_look devices None offset width = tt
may_look devices (Some d) offset width = tt

may_read : (devices : List DeviceState) (ram : List ℕ) (addr len : ℕ) (error : Option RamError) (o : Outcome) → MayReplace devices (read_ram ram addr len error o).effect.replaced
may_read devices ram addr len (Some error) o = tt
may_read devices ram addr len None fine = tt
may_read devices ram addr len None disk_failed = tt
may_read devices ram addr len None no_memory = tt

may_store : (devices : List DeviceState) (addr : ℕ) (bytes : List ℕ) (error : Option RamError) → MayReplace devices (write_ram addr bytes error).effect.replaced
may_store devices addr bytes (Some error) = tt
may_store devices addr bytes None = tt

pub may_replace : (m : MachineState) (e : Event) (o : Outcome) (seen : Next) → MayReplace m.devices (answer m e o seen).effect.replaced
may_replace m (RegRead dev off width) o seen = may_look m.devices (slice_get m.devices dev) off width
may_replace m (RegWrite dev off width value) o seen = may_write m.devices dev (slice_get m.devices dev) off width value refl
may_replace m (MemRead addr len) o seen = may_read m.devices m.ram (index_of (base_of m.devices) addr) len (access_refusal (base_of m.devices) (length m.ram) addr len) o
may_replace m (MemWrite addr bytes) o seen = may_store m.devices (index_of (base_of m.devices) addr) bytes (access_refusal (base_of m.devices) (length m.ram) addr (length bytes))
may_replace m (Step dev pick) o seen = may_work m.devices dev (slice_get m.devices dev) m.ram (disk_of m dev) pick o seen refl
may_replace m (Input dev bytes) o seen = may_put m.devices dev (slice_get m.devices dev) bytes refl
may_replace m (Resize dev cols rows) o seen = may_size m.devices dev (slice_get m.devices dev) (record { columns = cols; rows = rows }) refl
may_replace m (Drop dev) o seen = may_drop m.devices dev (slice_get m.devices dev) refl
may_replace m (Disk dev pick given) o seen = may_hand m.devices dev (slice_get m.devices dev) pick given refl

pub step_shape : StepKeepsShape
step_shape m e o r f h = record {
  ram = length-set_all m.ram f.writes;
  devices = replaced_shapes m.devices f.replaced (rw h.effect_is (may_replace m e o h.seen));
  disks = all_sizes_stay m.disks f.sectors;
}

-- A write of the guest that is not refused lies inside RAM.
refused_by : (long within : Bool) → cond long (Some ram_error.TooLong) (cond within None (Some ram_error.OutOfRam)) ≡ None → within ≡ true
refused_by true within is = cc
refused_by false true is = refl
refused_by false false is = cc

first_of_and : (a b : Bool) → (a && b) ≡ true → a ≡ true
first_of_and true b h = refl
first_of_and false b h = cc

second_of_and : (a b : Bool) → (a && b) ≡ true → b ≡ true
second_of_and true b h = h
second_of_and false b h = cc

not_refused : (base len at count : ℕ) → access_refusal base len at count ≡ None → index_of base at + count ≤ len
not_refused base len at count is =
    let within : (ltb at (2 ^ 64) && leb base at && leb (at + count) (base + len)) ≡ true = refused_by (ltb 4096 count) (ltb at (2 ^ 64) && leb base at && leb (at + count) (base + len)) is in
    let above = leb-true base at (second_of_and _ _ (first_of_and _ _ within)) in
    let below = leb-true (at + count) (base + len) (second_of_and _ _ within) in
    omega (arith, above, below)

below_run : (len at : ℕ) (bytes : List ℕ) → at + length bytes ≤ len → All (λ (w : Write). w.index < len) (byte_writes at bytes)
below_run len at [] inside k d below = absurd (omega (arith, below))
below_run len at (b ∷ bytes) inside zero d below = omega (arith, inside)
below_run len at (b ∷ bytes) inside (suc k) d below = below_run len (at + 1) bytes (omega (arith, inside)) k d (omega (arith, below))

none_below : (len : ℕ) → All (λ (w : Write). w.index < len) []
none_below len k d below = absurd (omega (arith, below))

below_stored : (base len addr : ℕ) (bytes : List ℕ) (error : Option RamError) → access_refusal base len addr (length bytes) ≡ error → All (λ (w : Write). w.index < len) (write_ram (index_of base addr) bytes error).effect.writes
below_stored base len addr bytes (Some error) is = none_below len
below_stored base len addr bytes None is = below_run len (index_of base addr) bytes (not_refused base len addr (length bytes) is)

stored_inside : (base len addr : ℕ) (bytes : List ℕ) (error : Option RamError) → IsBytes bytes → access_refusal base len addr (length bytes) ≡ error → AreInsideRam len (write_ram (index_of base addr) bytes error).effect.writes
stored_inside base len addr bytes (Some error) are is = tt
stored_inside base len addr bytes None are is = run_inside len (index_of base addr) bytes (not_refused base len addr (length bytes) is) are

-- So does what a device writes.
pub sound_at : (m : MachineState) (dev : ℕ) (d : DeviceState) → slice_get m.devices dev ≡ Some d → IsSound m → IsSoundDevice (base_of m.devices) (length m.ram) d
sound_at m dev d there sound = rw (get_or_from_slice_get m.devices dev d d there) at (sound.devices dev d (slice_get_within m.devices dev d there))

-- What a device has of the sectors of a sound machine.
disk_at : (ds : List DeviceState) (disks : List (List Sector)) (dev : ℕ) (d : DeviceState) → map length disks ≡ map (λ (x : DeviceState). sector_count (made_as x.kind)) ds → All AreWhole disks → slice_get ds dev ≡ Some d → HasSectors d (disk_or_none (slice_get disks dev))
disk_at [] disks dev d sizes whole there = cc
disk_at (x ∷ ds) [] dev d sizes whole there = cc
disk_at (x ∷ ds) (disk ∷ disks) zero d sizes whole there =
    let one : x ≡ d = cc in
    let size : length disk ≡ sector_count (made_as x.kind) = cc in
    rw (← one) (record { count = size; whole = whole 0 disk (omega arith) })
disk_at (x ∷ ds) (disk ∷ disks) (suc dev) d sizes whole there =
    let others : map length disks ≡ map (λ (y : DeviceState). sector_count (made_as y.kind)) ds = cc in
    disk_at ds disks dev d others (λ k e below. whole (suc k) e (omega (arith, below))) there

pub has_sectors : (m : MachineState) (dev : ℕ) (d : DeviceState) → slice_get m.devices dev ≡ Some d → IsSound m → HasSectors d (disk_of m dev)
has_sectors m dev d there sound = disk_at m.devices m.disks dev d sound.disks sound.sectors there

on_inside : {base : ℕ} (d : DeviceState) (kind : Kind) (ram : List ℕ) (content : List Sector) (pick : ℕ) (q : RingState) (o : Outcome) → d.kind ≡ kind → advanced_at d pick ≡ Some q → IsBytes ram → IsSoundDevice base (length ram) d → HasSectors d content → AreInsideRam (length ram) (advance_on d kind ram content pick q o).writes
on_inside d (Block block) ram content pick q o kind_is is are sound has = (advanced_goes_on d block ram content pick q (disk_does o) kind_is (advanced_is (length ram) d pick q sound is) are sound has).inside
on_inside d (Outside block) ram content pick q o kind_is is are sound has = (outside_goes_on d block ram pick q kind_is (advanced_is (length ram) d pick q sound is) are sound).inside
on_inside d (Network mac inbox) ram content pick q o kind_is is are sound has = tt
on_inside d (Console size held) ram content pick q o kind_is is are sound has = tt
on_inside d (Entropy pool) ram content pick q o kind_is is are sound has = tt

advance_inside : {base : ℕ} (d : DeviceState) (ram : List ℕ) (content : List Sector) (pick : ℕ) (ring : Option RingState) (o : Outcome) → advanced_at d pick ≡ ring → IsBytes ram → IsSoundDevice base (length ram) d → HasSectors d content → AreInsideRam (length ram) (advance_at d ram content pick ring o).writes
advance_inside d ram content pick None o is are sound has = tt
advance_inside d ram content pick (Some q) o is are sound has = on_inside d d.kind ram content pick q o refl is are sound has

worked_at : {base : ℕ} (d : DeviceState) (ram : List ℕ) (content : List Sector) (pick : ℕ) (ring : Option RingState) (o : Outcome) (seen : Next) → looked_at d pick ≡ ring → MayLook (wanted_of d.kind pick) ring ram o seen → IsBytes ram → IsSoundDevice base (length ram) d → HasSectors d content → AreInsideRam (length ram) (step_at d ram content pick ring o seen).writes
worked_at d ram content pick None o seen is may are sound has = advance_inside d ram content pick (advanced_at d pick) o refl are sound has
worked_at d ram content pick (Some q) fine seen is may are sound has = served_inside (length ram) d.registers d.kind pick ram q seen (looked_ring (length ram) d pick q sound (looked_is d pick q is)) may sound.kind
worked_at d ram content pick (Some q) disk_failed seen is may are sound has = tt
worked_at d ram content pick (Some q) no_memory seen is may are sound has = tt

worked_inside : (m : MachineState) (dev : ℕ) (found : Option DeviceState) (pick : ℕ) (o : Outcome) (seen : Next) → slice_get m.devices dev ≡ found → MaySeeAt found m.ram pick o seen → IsSound m
    → AreInsideRam (length m.ram) (step_device dev found m.ram (disk_of m dev) pick o seen).effect.writes
unfolding device_step
worked_inside m dev None pick o seen there may sound = tt
worked_inside m dev (Some d) pick o seen there may sound = worked_at d m.ram (disk_of m dev) pick (looked_at d pick) o seen refl may sound.bytes (sound_at m dev d there sound) (has_sectors m dev d there sound)

no_writes_looked : (found : Option DeviceState) (offset width : ℕ) → (read_register found offset width).effect.writes ≡ []
no_writes_looked None offset width = refl
no_writes_looked (Some d) offset width = refl

no_writes_set : (dev : ℕ) (found : Option DeviceState) (offset width value : ℕ) → (write_register dev found offset width value).effect.writes ≡ []
no_writes_set dev None offset width value = refl
no_writes_set dev (Some d) offset width value = refl

no_writes_read : (ram : List ℕ) (addr len : ℕ) (error : Option RamError) (o : Outcome) → (read_ram ram addr len error o).effect.writes ≡ []
no_writes_read ram addr len (Some error) o = refl
no_writes_read ram addr len None fine = refl
no_writes_read ram addr len None disk_failed = refl
no_writes_read ram addr len None no_memory = refl

no_writes_size_by : (dev : ℕ) (d : DeviceState) (kind : Kind) (size : ConsoleSize) → (size_by dev d kind size).effect.writes ≡ []
no_writes_size_by dev d (Network mac inbox) size = refl
no_writes_size_by dev d (Block block) size = refl
no_writes_size_by dev d (Outside block) size = refl
no_writes_size_by dev d (Console old held) size = refl
no_writes_size_by dev d (Entropy pool) size = refl

no_writes_size : (dev : ℕ) (found : Option DeviceState) (size : ConsoleSize) → (set_size dev found size).effect.writes ≡ []
no_writes_size dev None size = refl
no_writes_size dev (Some d) size = no_writes_size_by dev d d.kind size

no_writes_put_by : (dev : ℕ) (d : DeviceState) (bytes : List ℕ) (answer : Result ℕ Refusal) → (put_by dev d bytes answer).effect.writes ≡ []
no_writes_put_by dev d bytes (Ok count) = refl
no_writes_put_by dev d bytes (Err refusal) = refl

no_writes_put : (dev : ℕ) (found : Option DeviceState) (bytes : List ℕ) → (put_in dev found bytes).effect.writes ≡ []
no_writes_put dev None bytes = refl
no_writes_put dev (Some d) bytes = no_writes_put_by dev d bytes (input_of d.kind bytes)

no_writes_drop_by : (dev : ℕ) (d : DeviceState) (answer : Result (Unit {0}) Refusal) → (drop_by dev d answer).effect.writes ≡ []
no_writes_drop_by dev d (Ok done) = refl
no_writes_drop_by dev d (Err refusal) = refl

no_writes_drop : (dev : ℕ) (found : Option DeviceState) → (drop_input dev found).effect.writes ≡ []
no_writes_drop dev None = refl
no_writes_drop dev (Some d) = no_writes_drop_by dev d (drop_of d.kind)

handed_below_by : {base : ℕ} (len number : ℕ) (d : DeviceState) (kind : Kind) (pick : ℕ) (answer : Answer) → d.kind ≡ kind → IsSoundDevice base len d → All (λ (w : Write). w.index < len) (answered_by number (disk_answered d kind pick answer)).effect.writes
handed_below_by len number d (Outside block) pick answer of sound = answer_below len d block pick answer of sound
handed_below_by len number d (Network mac inbox) pick answer of sound = none_below len
handed_below_by len number d (Block block) pick answer of sound = none_below len
handed_below_by len number d (Console size held) pick answer of sound = none_below len
handed_below_by len number d (Entropy pool) pick answer of sound = none_below len

handed_below : (m : MachineState) (dev : ℕ) (found : Option DeviceState) (pick : ℕ) (given : DiskAnswer) → slice_get m.devices dev ≡ found → IsSound m → All (λ (w : Write). w.index < length m.ram) (hand_in dev found pick given).effect.writes
handed_below m dev None pick given there sound = none_below (length m.ram)
handed_below m dev (Some d) pick given there sound = handed_below_by (length m.ram) dev d d.kind pick (answer_of given) refl (sound_at m dev d there sound)

has_bytes : (given : DiskAnswer) → AnswerFits given → AnswerHasBytes (answer_of given)
has_bytes (answers.Gave bytes) fits = fits
has_bytes (answers.Did count) fits = tt
has_bytes answers.Failed fits = tt

handed_inside_by : {base : ℕ} (len number : ℕ) (d : DeviceState) (kind : Kind) (pick : ℕ) (answer : Answer) → d.kind ≡ kind → IsSoundDevice base len d → AnswerHasBytes answer → AreInsideRam len (answered_by number (disk_answered d kind pick answer)).effect.writes
handed_inside_by len number d (Outside block) pick answer of sound has = answer_inside len d block pick answer of sound has
handed_inside_by len number d (Network mac inbox) pick answer of sound has = tt
handed_inside_by len number d (Block block) pick answer of sound has = tt
handed_inside_by len number d (Console size held) pick answer of sound has = tt
handed_inside_by len number d (Entropy pool) pick answer of sound has = tt

handed_inside : (m : MachineState) (dev : ℕ) (found : Option DeviceState) (pick : ℕ) (given : DiskAnswer) → slice_get m.devices dev ≡ found → IsSound m → AnswerFits given → AreInsideRam (length m.ram) (hand_in dev found pick given).effect.writes
handed_inside m dev None pick given there sound fits = tt
handed_inside m dev (Some d) pick given there sound fits = handed_inside_by (length m.ram) dev d d.kind pick (answer_of given) refl (sound_at m dev d there sound) (has_bytes given fits)

below_of : (m : MachineState) (e : Event) (o : Outcome) (seen : Next) → MaySee m e o seen → IsSound m → All (λ (w : Write). w.index < length m.ram) (answer m e o seen).effect.writes
below_of m (RegRead dev off width) o seen may sound = rw (no_writes_looked (slice_get m.devices dev) off width) (none_below (length m.ram))
below_of m (RegWrite dev off width value) o seen may sound = rw (no_writes_set dev (slice_get m.devices dev) off width value) (none_below (length m.ram))
below_of m (MemRead addr len) o seen may sound = rw (no_writes_read m.ram (index_of (base_of m.devices) addr) len (access_refusal (base_of m.devices) (length m.ram) addr len) o) (none_below (length m.ram))
below_of m (MemWrite addr bytes) o seen may sound = below_stored (base_of m.devices) (length m.ram) addr bytes (access_refusal (base_of m.devices) (length m.ram) addr (length bytes)) refl
below_of m (Step dev pick) o seen may sound =
    all_inside (length m.ram) (step_device dev (slice_get m.devices dev) m.ram (disk_of m dev) pick o seen).effect.writes (worked_inside m dev (slice_get m.devices dev) pick o seen refl may sound)
below_of m (Resize dev cols rows) o seen may sound = rw (no_writes_size dev (slice_get m.devices dev) (record { columns = cols; rows = rows })) (none_below (length m.ram))
below_of m (Input dev bytes) o seen may sound = rw (no_writes_put dev (slice_get m.devices dev) bytes) (none_below (length m.ram))
below_of m (Drop dev) o seen may sound = rw (no_writes_drop dev (slice_get m.devices dev)) (none_below (length m.ram))
below_of m (Disk dev pick given) o seen may sound = handed_below m dev (slice_get m.devices dev) pick given refl sound

inside_of : (m : MachineState) (e : Event) (o : Outcome) (seen : Next) → MaySee m e o seen → Fits e → IsSound m → AreInsideRam (length m.ram) (answer m e o seen).effect.writes
inside_of m (RegRead dev off width) o seen may fits sound = rw (no_writes_looked (slice_get m.devices dev) off width) tt
inside_of m (RegWrite dev off width value) o seen may fits sound = rw (no_writes_set dev (slice_get m.devices dev) off width value) tt
inside_of m (MemRead addr len) o seen may fits sound = rw (no_writes_read m.ram (index_of (base_of m.devices) addr) len (access_refusal (base_of m.devices) (length m.ram) addr len) o) tt
inside_of m (MemWrite addr bytes) o seen may fits sound = stored_inside (base_of m.devices) (length m.ram) addr bytes (access_refusal (base_of m.devices) (length m.ram) addr (length bytes)) fits.1 refl
inside_of m (Step dev pick) o seen may fits sound = worked_inside m dev (slice_get m.devices dev) pick o seen refl may sound
inside_of m (Resize dev cols rows) o seen may fits sound = rw (no_writes_size dev (slice_get m.devices dev) (record { columns = cols; rows = rows })) tt
inside_of m (Input dev bytes) o seen may fits sound = rw (no_writes_put dev (slice_get m.devices dev) bytes) tt
inside_of m (Drop dev) o seen may fits sound = rw (no_writes_drop dev (slice_get m.devices dev)) tt
inside_of m (Disk dev pick given) o seen may fits sound = handed_inside m dev (slice_get m.devices dev) pick given refl sound fits.2

-- The sectors that a step sets are there, and whole.
abbrev IsGoodIn : MachineState → effects.SectorSet → Type 0
IsGoodIn m s = HasItem m (sector s.device s.number) × IsWhole s.content

abbrev AreGoodIn : MachineState → List effects.SectorSet → Type 0
AreGoodIn m [] = Unit {0}
AreGoodIn m (s ∷ ss) = IsGoodIn m s × AreGoodIn m ss

good_sector : (disk : Option (List Sector)) (n : ℕ) → n < length (disk_or_none disk) → (content : Sector) × (sector_on disk n ≡ Some content)
good_sector None n below = absurd (omega (arith, below))
good_sector (Some disk) n below = (get_or disk n None, slice_get-get_or disk n None below)

good_sets : (m : MachineState) (dev : ℕ) (sets : List blk.SectorSet) → AreGoodSets (length (disk_of m dev)) sets → AreGoodIn m (effects.sets_on dev sets)
good_sets m dev [] h = tt
good_sets m dev (s ∷ ss) h = ((good_sector (slice_get m.disks dev) s.number h.0.there, h.0.whole), good_sets m dev ss h.1)

on_sets : {base : ℕ} (d : DeviceState) (kind : Kind) (ram : List ℕ) (content : List Sector) (pick : ℕ) (q : RingState) (o : Outcome) → d.kind ≡ kind → advanced_at d pick ≡ Some q → IsBytes ram → IsSoundDevice base (length ram) d → HasSectors d content → AreGoodSets (length content) (advance_on d kind ram content pick q o).sets
on_sets d (Block block) ram content pick q o kind_is is are sound has =
    let count : length content ≡ block.sectors = has.count ∙ ap (λ (k : Kind). sector_count (made_as k)) kind_is in
    rw count (advanced_goes_on d block ram content pick q (disk_does o) kind_is (advanced_is (length ram) d pick q sound is) are sound has).sets
on_sets d (Outside block) ram content pick q o kind_is is are sound has =
    let free : awaits_at block.requests (pick - 1) Failed ≡ false = rw kind_is at (advanced_is (length ram) d pick q sound is).free in
    rw (outside_sets ram q block (pick - 1) free) tt
on_sets d (Network mac inbox) ram content pick q o kind_is is are sound has = tt
on_sets d (Console size held) ram content pick q o kind_is is are sound has = tt
on_sets d (Entropy pool) ram content pick q o kind_is is are sound has = tt

advance_sets : {base : ℕ} (d : DeviceState) (ram : List ℕ) (content : List Sector) (pick : ℕ) (ring : Option RingState) (o : Outcome) → advanced_at d pick ≡ ring → IsBytes ram → IsSoundDevice base (length ram) d → HasSectors d content → AreGoodSets (length content) (advance_at d ram content pick ring o).sets
advance_sets d ram content pick None o is are sound has = tt
advance_sets d ram content pick (Some q) o is are sound has = on_sets d d.kind ram content pick q o refl is are sound has

worked_sets : {base : ℕ} (d : DeviceState) (ram : List ℕ) (content : List Sector) (pick : ℕ) (ring : Option RingState) (o : Outcome) (seen : Next) → IsBytes ram → IsSoundDevice base (length ram) d → HasSectors d content → AreGoodSets (length content) (step_at d ram content pick ring o seen).sets
worked_sets d ram content pick None o seen are sound has = advance_sets d ram content pick (advanced_at d pick) o refl are sound has
worked_sets d ram content pick (Some q) fine seen are sound has = tt
worked_sets d ram content pick (Some q) disk_failed seen are sound has = tt
worked_sets d ram content pick (Some q) no_memory seen are sound has = tt

sets_worked : (m : MachineState) (dev : ℕ) (found : Option DeviceState) (pick : ℕ) (o : Outcome) (seen : Next) → slice_get m.devices dev ≡ found → IsSound m → AreGoodIn m (step_device dev found m.ram (disk_of m dev) pick o seen).effect.sectors
unfolding device_step
sets_worked m dev None pick o seen there sound = tt
sets_worked m dev (Some d) pick o seen there sound = good_sets m dev _ (worked_sets d m.ram (disk_of m dev) pick (looked_at d pick) o seen sound.bytes (sound_at m dev d there sound) (has_sectors m dev d there sound))

-- Of all events only a step sets sectors.
no_sectors_looked : (found : Option DeviceState) (offset width : ℕ) → (read_register found offset width).effect.sectors ≡ []
no_sectors_looked None offset width = refl
no_sectors_looked (Some d) offset width = refl

no_sectors_set : (dev : ℕ) (found : Option DeviceState) (offset width value : ℕ) → (write_register dev found offset width value).effect.sectors ≡ []
no_sectors_set dev None offset width value = refl
no_sectors_set dev (Some d) offset width value = refl

no_sectors_read : (ram : List ℕ) (addr len : ℕ) (error : Option RamError) (o : Outcome) → (read_ram ram addr len error o).effect.sectors ≡ []
no_sectors_read ram addr len (Some error) o = refl
no_sectors_read ram addr len None fine = refl
no_sectors_read ram addr len None disk_failed = refl
no_sectors_read ram addr len None no_memory = refl

no_sectors_stored : (addr : ℕ) (bytes : List ℕ) (error : Option RamError) → (write_ram addr bytes error).effect.sectors ≡ []
no_sectors_stored addr bytes (Some error) = refl
no_sectors_stored addr bytes None = refl

no_sectors_size_by : (dev : ℕ) (d : DeviceState) (kind : Kind) (size : ConsoleSize) → (size_by dev d kind size).effect.sectors ≡ []
no_sectors_size_by dev d (Network mac inbox) size = refl
no_sectors_size_by dev d (Block block) size = refl
no_sectors_size_by dev d (Outside block) size = refl
no_sectors_size_by dev d (Console old held) size = refl
no_sectors_size_by dev d (Entropy pool) size = refl

no_sectors_size : (dev : ℕ) (found : Option DeviceState) (size : ConsoleSize) → (set_size dev found size).effect.sectors ≡ []
no_sectors_size dev None size = refl
no_sectors_size dev (Some d) size = no_sectors_size_by dev d d.kind size

no_sectors_put_by : (dev : ℕ) (d : DeviceState) (bytes : List ℕ) (answer : Result ℕ Refusal) → (put_by dev d bytes answer).effect.sectors ≡ []
no_sectors_put_by dev d bytes (Ok count) = refl
no_sectors_put_by dev d bytes (Err refusal) = refl

no_sectors_put : (dev : ℕ) (found : Option DeviceState) (bytes : List ℕ) → (put_in dev found bytes).effect.sectors ≡ []
no_sectors_put dev None bytes = refl
no_sectors_put dev (Some d) bytes = no_sectors_put_by dev d bytes (input_of d.kind bytes)

no_sectors_drop_by : (dev : ℕ) (d : DeviceState) (answer : Result (Unit {0}) Refusal) → (drop_by dev d answer).effect.sectors ≡ []
no_sectors_drop_by dev d (Ok done) = refl
no_sectors_drop_by dev d (Err refusal) = refl

no_sectors_drop : (dev : ℕ) (found : Option DeviceState) → (drop_input dev found).effect.sectors ≡ []
no_sectors_drop dev None = refl
no_sectors_drop dev (Some d) = no_sectors_drop_by dev d (drop_of d.kind)

no_sectors_handed_by : (dev : ℕ) (d : DeviceState) (kind : Kind) (pick : ℕ) (answer : Answer) → (answered_by dev (disk_answered d kind pick answer)).effect.sectors ≡ []
no_sectors_handed_by dev d (Outside block) pick answer = refl
no_sectors_handed_by dev d (Network mac inbox) pick answer = refl
no_sectors_handed_by dev d (Block block) pick answer = refl
no_sectors_handed_by dev d (Console size held) pick answer = refl
no_sectors_handed_by dev d (Entropy pool) pick answer = refl

no_sectors_handed : (dev : ℕ) (found : Option DeviceState) (pick : ℕ) (given : DiskAnswer) → (hand_in dev found pick given).effect.sectors ≡ []
no_sectors_handed dev None pick given = refl
no_sectors_handed dev (Some d) pick given = no_sectors_handed_by dev d d.kind pick (answer_of given)

sets_of : (m : MachineState) (e : Event) (o : Outcome) (seen : Next) → IsSound m → AreGoodIn m (answer m e o seen).effect.sectors
sets_of m (RegRead dev off width) o seen sound = rw (no_sectors_looked (slice_get m.devices dev) off width) tt
sets_of m (RegWrite dev off width value) o seen sound = rw (no_sectors_set dev (slice_get m.devices dev) off width value) tt
sets_of m (MemRead addr len) o seen sound = rw (no_sectors_read m.ram (index_of (base_of m.devices) addr) len (access_refusal (base_of m.devices) (length m.ram) addr len) o) tt
sets_of m (MemWrite addr bytes) o seen sound = rw (no_sectors_stored (index_of (base_of m.devices) addr) bytes (access_refusal (base_of m.devices) (length m.ram) addr (length bytes))) tt
sets_of m (Step dev pick) o seen sound = sets_worked m dev (slice_get m.devices dev) pick o seen refl sound
sets_of m (Resize dev cols rows) o seen sound = rw (no_sectors_size dev (slice_get m.devices dev) (record { columns = cols; rows = rows })) tt
sets_of m (Input dev bytes) o seen sound = rw (no_sectors_put dev (slice_get m.devices dev) bytes) tt
sets_of m (Drop dev) o seen sound = rw (no_sectors_drop dev (slice_get m.devices dev)) tt
sets_of m (Disk dev pick given) o seen sound = rw (no_sectors_handed dev (slice_get m.devices dev) pick given) tt

all_there : (m : MachineState) (ss : List effects.SectorSet) → AreGoodIn m ss → All (λ (s : effects.SectorSet). HasItem m (sector s.device s.number)) ss
all_there m [] h k d below = absurd (omega (arith, below))
all_there m (s ∷ ss) h zero d below = h.0.0
all_there m (s ∷ ss) h (suc k) d below = all_there m ss h.1 k d (omega (arith, below))

pub step_within : StepStaysWithin
step_within m e o r f sound h = rw h.effect_is (record {
  writes = below_of m e o h.seen h.may_see sound;
  sectors = all_there m (answer m e o h.seen).effect.sectors (sets_of m e o h.seen sound);
  replaced = may_replace m e o h.seen;
})

-- The device that takes another's place is sound.
set_sound : {base : ℕ} (len dev : ℕ) (devices : List DeviceState) (found : Option DeviceState) (offset width value : ℕ) → slice_get devices dev ≡ found → All (IsSoundDevice base len) devices → value < 2 ^ 32
    → StaysSoundAt base len (write_register dev found offset width value).effect.replaced
set_sound len dev devices None offset width value there all small = tt
set_sound len dev devices (Some d) offset width value there all small =
    sound_written len d offset width value small (rw (get_or_from_slice_get devices dev d d there) at (all dev d (slice_get_within devices dev d there)))

size_sound_by : {base : ℕ} (len dev : ℕ) (d : DeviceState) (kind : Kind) (size : ConsoleSize) → d.kind ≡ kind → size.columns < 2 ^ 16 → size.rows < 2 ^ 16 → IsSoundDevice base len d → StaysSoundAt base len (size_by dev d kind size).effect.replaced
size_sound_by len dev d (Network mac inbox) size is columns rows sound = tt
size_sound_by len dev d (Block block) size is columns rows sound = tt
size_sound_by len dev d (Outside block) size is columns rows sound = tt
size_sound_by len dev d (Console old held) size is columns rows sound = sound_resized len d old size held is columns rows sound
size_sound_by len dev d (Entropy pool) size is columns rows sound = tt

size_sound : {base : ℕ} (len dev : ℕ) (devices : List DeviceState) (found : Option DeviceState) (size : ConsoleSize) → slice_get devices dev ≡ found → All (IsSoundDevice base len) devices → size.columns < 2 ^ 16 → size.rows < 2 ^ 16
    → StaysSoundAt base len (set_size dev found size).effect.replaced
size_sound len dev devices None size there all columns rows = tt
size_sound len dev devices (Some d) size there all columns rows = size_sound_by len dev d d.kind size refl columns rows (rw (get_or_from_slice_get devices dev d d there) at (all dev d (slice_get_within devices dev d there)))

put_sound_by : {base : ℕ} (len dev : ℕ) (d : DeviceState) (bytes : List ℕ) (answer : Result ℕ Refusal) → IsBytes bytes → IsSoundDevice base len d → StaysSoundAt base len (put_by dev d bytes answer).effect.replaced
put_sound_by len dev d bytes (Ok count) are sound = sound_input len d bytes are sound
put_sound_by len dev d bytes (Err refusal) are sound = tt

put_sound : {base : ℕ} (len dev : ℕ) (devices : List DeviceState) (found : Option DeviceState) (bytes : List ℕ) → slice_get devices dev ≡ found → All (IsSoundDevice base len) devices → IsBytes bytes
    → StaysSoundAt base len (put_in dev found bytes).effect.replaced
put_sound len dev devices None bytes there all are = tt
put_sound len dev devices (Some d) bytes there all are = put_sound_by len dev d bytes (input_of d.kind bytes) are (rw (get_or_from_slice_get devices dev d d there) at (all dev d (slice_get_within devices dev d there)))

drop_sound_by : {base : ℕ} (len dev : ℕ) (d : DeviceState) (answer : Result (Unit {0}) Refusal) → IsSoundDevice base len d → StaysSoundAt base len (drop_by dev d answer).effect.replaced
drop_sound_by len dev d (Ok done) sound = sound_without len d sound
drop_sound_by len dev d (Err refusal) sound = tt

drop_sound : {base : ℕ} (len dev : ℕ) (devices : List DeviceState) (found : Option DeviceState) → slice_get devices dev ≡ found → All (IsSoundDevice base len) devices → StaysSoundAt base len (drop_input dev found).effect.replaced
drop_sound len dev devices None there all = tt
drop_sound len dev devices (Some d) there all = drop_sound_by len dev d (drop_of d.kind) (rw (get_or_from_slice_get devices dev d d there) at (all dev d (slice_get_within devices dev d there)))

hand_sound_by : {base : ℕ} (len dev : ℕ) (d : DeviceState) (kind : Kind) (pick : ℕ) (answer : Answer) → d.kind ≡ kind → IsSoundDevice base len d → StaysSoundAt base len (answered_by dev (disk_answered d kind pick answer)).effect.replaced
hand_sound_by len dev d (Outside block) pick answer of sound = sound_answered len d block pick answer of sound
hand_sound_by len dev d (Network mac inbox) pick answer of sound = tt
hand_sound_by len dev d (Block block) pick answer of sound = tt
hand_sound_by len dev d (Console size held) pick answer of sound = tt
hand_sound_by len dev d (Entropy pool) pick answer of sound = tt

hand_sound : (m : MachineState) (dev : ℕ) (found : Option DeviceState) (pick : ℕ) (given : DiskAnswer) → slice_get m.devices dev ≡ found → IsSound m → StaysSoundAt (base_of m.devices) (length m.ram) (hand_in dev found pick given).effect.replaced
hand_sound m dev None pick given there sound = tt
hand_sound m dev (Some d) pick given there sound = hand_sound_by (length m.ram) dev d d.kind pick (answer_of given) refl (sound_at m dev d there sound)

work_sound : (m : MachineState) (dev : ℕ) (found : Option DeviceState) (pick : ℕ) (o : Outcome) (seen : Next) → slice_get m.devices dev ≡ found → MaySeeAt found m.ram pick o seen → IsSound m
    → StaysSoundAt (base_of m.devices) (length m.ram) (step_device dev found m.ram (disk_of m dev) pick o seen).effect.replaced
work_sound m dev None pick o seen there may sound = tt
work_sound m dev (Some d) pick o seen there may sound = sound_stepped d m.ram (disk_of m dev) pick o seen may sound.bytes (sound_at m dev d there sound) (has_sectors m dev d there sound)

look_sound : (base len : ℕ) (found : Option DeviceState) (offset width : ℕ) → StaysSoundAt base len (read_register found offset width).effect.replaced
look_sound base len None offset width = tt
look_sound base len (Some d) offset width = tt

read_sound : (base len : ℕ) (ram : List ℕ) (addr count : ℕ) (error : Option RamError) (o : Outcome) → StaysSoundAt base len (read_ram ram addr count error o).effect.replaced
read_sound base len ram addr count (Some error) o = tt
read_sound base len ram addr count None fine = tt
read_sound base len ram addr count None disk_failed = tt
read_sound base len ram addr count None no_memory = tt

store_sound : (base len addr : ℕ) (bytes : List ℕ) (error : Option RamError) → StaysSoundAt base len (write_ram addr bytes error).effect.replaced
store_sound base len addr bytes (Some error) = tt
store_sound base len addr bytes None = tt

replaced_sound : (m : MachineState) (e : Event) (o : Outcome) (seen : Next) → MaySee m e o seen → Fits e → IsSound m → StaysSoundAt (base_of m.devices) (length m.ram) (answer m e o seen).effect.replaced
replaced_sound m (RegRead dev off width) o seen may fits sound = look_sound (base_of m.devices) (length m.ram) (slice_get m.devices dev) off width
replaced_sound m (RegWrite dev off width value) o seen may fits sound = set_sound (length m.ram) dev m.devices (slice_get m.devices dev) off width value refl sound.devices fits.3
replaced_sound m (MemRead addr len) o seen may fits sound = read_sound (base_of m.devices) (length m.ram) m.ram (index_of (base_of m.devices) addr) len (access_refusal (base_of m.devices) (length m.ram) addr len) o
replaced_sound m (MemWrite addr bytes) o seen may fits sound = store_sound (base_of m.devices) (length m.ram) (index_of (base_of m.devices) addr) bytes (access_refusal (base_of m.devices) (length m.ram) addr (length bytes))
replaced_sound m (Step dev pick) o seen may fits sound = work_sound m dev (slice_get m.devices dev) pick o seen refl may sound
replaced_sound m (Resize dev cols rows) o seen may fits sound = size_sound (length m.ram) dev m.devices (slice_get m.devices dev) (record { columns = cols; rows = rows }) refl sound.devices fits.1 fits.2
replaced_sound m (Input dev bytes) o seen may fits sound = put_sound (length m.ram) dev m.devices (slice_get m.devices dev) bytes refl sound.devices fits.1
replaced_sound m (Drop dev) o seen may fits sound = drop_sound (length m.ram) dev m.devices (slice_get m.devices dev) refl sound.devices
replaced_sound m (Disk dev pick given) o seen may fits sound = hand_sound m dev (slice_get m.devices dev) pick given refl sound

all_replaced : {base : ℕ} (len : ℕ) (devices : List DeviceState) (r : Option Replacement) → All (IsSoundDevice base len) devices → StaysSoundAt base len r → All (IsSoundDevice base len) (replaced_in devices r)
all_replaced len devices None all sound = all
all_replaced len devices (Some r) all sound = All-set (IsSoundDevice _ len) devices r.number r.device sound all

count_replaced : (devices : List DeviceState) (r : Option Replacement) → length (replaced_in devices r) ≡ length devices
count_replaced devices None = refl
count_replaced devices (Some r) = length-set devices r.number r.device

-- Disks are whole after sectors were set that are whole.
whole_on : (disks : List (List Sector)) (s : effects.SectorSet) (disk : Option (List Sector)) → slice_get disks s.device ≡ disk → IsWhole s.content → All AreWhole disks → All AreWhole (effects.set_on disks s disk)
whole_on disks s None at whole all = all
whole_on disks s (Some disk) at whole all =
    let old : AreWhole disk = rw (get_or_from_slice_get disks s.device disk disk at) at (all s.device disk (slice_get_within disks s.device disk at)) in
    All-set AreWhole disks s.device (set disk s.number s.content) (All-set IsWhole disk s.number s.content whole old) all

whole_set : (m : MachineState) (disks : List (List Sector)) (ss : List effects.SectorSet) → AreGoodIn m ss → All AreWhole disks → All AreWhole (effects.sectors_set disks ss)
whole_set m disks [] h all = all
whole_set m disks (s ∷ ss) h all = whole_set m (effects.set_on disks s (slice_get disks s.device)) ss h.1 (whole_on disks s (slice_get disks s.device) refl h.0.1 all)

-- Two machines of one shape, where devices, RAM and sectors are sound.
-- Devices that are sound for a base have it.
pub one_base : (base len : ℕ) (devices : List DeviceState) → All (IsSoundDevice base len) devices → 1 ≤ length devices → base_of devices ≡ base
one_base base len [] all some = absurd (omega (arith, some))
one_base base len (d ∷ devices) all some = (all 0 d (omega arith)).ram_base

pub sound_by : (m k : MachineState) → IsSameShape m k → length k.devices ≡ length m.devices → All (IsSoundDevice (base_of m.devices) (length m.ram)) k.devices → IsBytes k.ram → All AreWhole k.disks → IsSound m → IsSound k
sound_by m k same count devices bytes whole sound = record {
  whole_pages = rw same.ram sound.whole_pages;
  some_pages = rw same.ram sound.some_pages;
  few_pages = rw same.ram sound.few_pages;
  some_devices = rw count sound.some_devices;
  few_devices = rw count sound.few_devices;
  devices = rw (same.ram, one_base (base_of m.devices) (length m.ram) k.devices devices (rw count sound.some_devices)) devices;
  bytes = bytes;
  disks = same.disks ∙ sound.disks ∙ shape_counts m.devices ∙ sym (ap (map sector_count) same.devices) ∙ sym (shape_counts k.devices);
  sectors = whole;
}

pub step_sound : StepStaysSound
step_sound m e o r f sound fits h =
    let effect = (answer m e o h.seen).effect in
    let devices : All (IsSoundDevice (base_of m.devices) (length m.ram)) (replaced_in m.devices f.replaced) = rw h.effect_is (all_replaced (length m.ram) m.devices effect.replaced sound.devices (replaced_sound m e o h.seen h.may_see fits sound)) in
    let bytes : IsBytes (set_all m.ram f.writes) = rw h.effect_is (bytes_after m.ram effect.writes sound.bytes (inside_of m e o h.seen h.may_see fits sound)) in
    let whole : All AreWhole (effects.sectors_set m.disks f.sectors) = rw h.effect_is (whole_set m m.disks effect.sectors (sets_of m e o h.seen sound) sound.sectors) in
    sound_by m (applied m f) (step_shape m e o r f h) (count_replaced m.devices f.replaced) devices bytes whole sound
