-- Which device an event changes, and what the counts of touches show.
use Rattle.std.proofs.Common.{◌≡◌, ◌≢◌, ℕ, ◌-◌, ◌^◌, ◌<◌, ◌≤◌, ◌&&◌, true, false, nat_eq, nat_lt, not, List, [], ◌∷◌, length, refl, sym, ap, ◌∙◌, arith, set, suc, zero}
use Rattle.std.specs.Prelude.{Option, Some, None, Result, Ok, Err, slice_get, slice_index}
use Rattle.std.proofs.lemmas.List.{get_or-set_same, get_or-set_other, get_or_past}
use Rattle.guestmem.specs.Write.{raised}
use Rattle.guestmem.specs.declared.error.RamError.{RamError}
use Rattle.blk.specs.Sectors.{Sector}
use Rattle.chains.specs.declared.next.Next.{Next}
use Rattle.console.specs.declared.size.ConsoleSize.{ConsoleSize}
use Rattle.guestmem.specs.Address.{access_refusal, index_of}
use Rattle.machine.specs.Applied.{as_given}
use Rattle.machine.specs.DeviceStep.{DeviceAnswer}
use Rattle.machine.specs.Effect.{Replacement, replaced_in}
use Rattle.machine.specs.Outcome.{Outcome, fine, disk_failed, no_memory, outcome_of}
use Rattle.machine.specs.Outside.{answer_of, disk_answered}
use Rattle.machine.specs.Pieces.{TouchedIsStale}
use Rattle.machine.specs.Seen.{state_of}
use Rattle.machine.specs.Serials.{UntouchedDevicesStay, touched, touched_by, touched_by_all, touched_device, touched_if}
use Rattle.machine.specs.State.{DeviceState, MachineState, base_of}
use Rattle.machine.specs.Step.{answer, disk_of, answered_by, drop_by, drop_input, drop_of, hand_in, input_of, put_by, put_in, read_ram, read_register, set_size, size_by, step_device, write_ram, write_register}
use Rattle.machine.specs.declared.event.Event.{Event}
use Rattle.machine.specs.declared.event.Event.TheVariants.{RegRead, RegWrite, MemRead, MemWrite, Step, Input, Resize, Drop, Disk}
use Rattle.machine.specs.declared.event.DiskAnswer.{DiskAnswer}
use Rattle.machine.specs.declared.kind.Kind.{Kind}
use Rattle.machine.specs.declared.kind.Kind.TheVariants as kinds
use Rattle.machine.specs.declared.reply.Refusal.{Refusal}

-- A device is replaced by an effect only if it is this one.
abbrev Replaces : Option ℕ → Option Replacement → Type 0
Replaces touched None = Unit {0}
Replaces touched (Some r) = touched ≡ Some r.number

reads : (d : Option DeviceState) (off width : ℕ) → Replaces None (read_register d off width).effect.replaced
reads None off width = tt
reads (Some d) off width = tt

writes : (dev : ℕ) (d : Option DeviceState) (off width value : ℕ) → Replaces (Some dev) (write_register dev d off width value).effect.replaced
writes dev None off width value = tt
writes dev (Some d) off width value = refl

ram_reads : (ram : List ℕ) (at len : ℕ) (error : Option RamError) (o : Outcome) → Replaces None (read_ram ram at len error o).effect.replaced
ram_reads ram at len (Some e) o = tt
ram_reads ram at len None no_memory = tt
ram_reads ram at len None disk_failed = tt
ram_reads ram at len None fine = tt

ram_writes : (at : ℕ) (bytes : List ℕ) (error : Option RamError) → Replaces None (write_ram at bytes error).effect.replaced
ram_writes at bytes (Some e) = tt
ram_writes at bytes None = tt

steps : (dev : ℕ) (d : Option DeviceState) (ram : List ℕ) (content : List Sector) (pick : ℕ) (o : Outcome) (seen : Next) → Replaces (Some dev) (step_device dev d ram content pick o seen).effect.replaced
steps dev None ram content pick o seen = tt
steps dev (Some d) ram content pick o seen = refl

puts : (dev : ℕ) (d : DeviceState) (bytes : List ℕ) (r : Result ℕ Refusal) → Replaces (Some dev) (put_by dev d bytes r).effect.replaced
puts dev d bytes (Err e) = tt
puts dev d bytes (Ok count) = refl

inputs : (dev : ℕ) (d : Option DeviceState) (bytes : List ℕ) → Replaces (Some dev) (put_in dev d bytes).effect.replaced
inputs dev None bytes = tt
inputs dev (Some d) bytes = puts dev d bytes (input_of d.kind bytes)

sizes : (dev : ℕ) (d : DeviceState) (kind : Kind) (size : ConsoleSize) → Replaces (Some dev) (size_by dev d kind size).effect.replaced
sizes dev d (kinds.Network mac inbox) size = tt
sizes dev d (kinds.Block block) size = tt
sizes dev d (kinds.Outside block) size = tt
sizes dev d (kinds.Console old held) size = refl
sizes dev d (kinds.Entropy pool) size = tt

resizes : (dev : ℕ) (d : Option DeviceState) (size : ConsoleSize) → Replaces (Some dev) (set_size dev d size).effect.replaced
resizes dev None size = tt
resizes dev (Some d) size = sizes dev d d.kind size

drops : (dev : ℕ) (d : DeviceState) (r : Result (Unit {0}) Refusal) → Replaces (Some dev) (drop_by dev d r).effect.replaced
drops dev d (Err e) = tt
drops dev d (Ok done) = refl

dropping : (dev : ℕ) (d : Option DeviceState) → Replaces (Some dev) (drop_input dev d).effect.replaced
dropping dev None = tt
dropping dev (Some d) = drops dev d (drop_of d.kind)

answers : (dev : ℕ) (r : Result DeviceAnswer Refusal) → Replaces (Some dev) (answered_by dev r).effect.replaced
answers dev (Err e) = tt
answers dev (Ok s) = refl

handing : (dev : ℕ) (d : Option DeviceState) (pick : ℕ) (given : DiskAnswer) → Replaces (Some dev) (hand_in dev d pick given).effect.replaced
handing dev None pick given = tt
handing dev (Some d) pick given = answers dev (disk_answered d d.kind pick (answer_of given))

replaces : (m : MachineState) (e : Event) (o : Outcome) (seen : Next) → Replaces (touched_device e) (answer m e o seen).effect.replaced
replaces m (RegRead dev off width) o seen = reads (slice_get m.devices dev) off width
replaces m (RegWrite dev off width value) o seen = writes dev (slice_get m.devices dev) off width value
replaces m (MemRead addr len) o seen = ram_reads m.ram (index_of (base_of m.devices) addr) len (access_refusal (base_of m.devices) (length m.ram) addr len) o
replaces m (MemWrite addr bytes) o seen = ram_writes (index_of (base_of m.devices) addr) bytes (access_refusal (base_of m.devices) (length m.ram) addr (length bytes))
replaces m (Step dev pick) o seen = steps dev (slice_get m.devices dev) m.ram (disk_of m dev) pick o seen
replaces m (Input dev bytes) o seen = inputs dev (slice_get m.devices dev) bytes
replaces m (Resize dev cols rows) o seen = resizes dev (slice_get m.devices dev) (record { columns = cols; rows = rows })
replaces m (Drop dev) o seen = dropping dev (slice_get m.devices dev)
replaces m (Disk dev pick given) o seen = handing dev (slice_get m.devices dev) pick given

get_other : {A : Type 0} (xs : List A) (i k : ℕ) (x : A) → k ≢ i → slice_get (set xs i x) k ≡ slice_get xs k
get_other [] i k x other = refl
get_other (y ∷ xs) zero zero x other = absurd (other refl)
get_other (y ∷ xs) zero (suc k) x other = refl
get_other (y ∷ xs) (suc i) zero x other = refl
get_other (y ∷ xs) (suc i) (suc k) x other = get_other xs i k x (λ same. other (ap suc same))

stays : (devices : List DeviceState) (t : Option ℕ) (r : Option Replacement) (dev : ℕ) → Replaces t r → (t ≡ Some dev → ⊥) → slice_get (replaced_in devices r) dev ≡ slice_get devices dev
stays devices t None dev is other = refl
stays devices t (Some r) dev is other = get_other devices r.number dev r.device (λ same. other (is ∙ ap Some (sym same)))

pub devices_stay : UntouchedDevicesStay
devices_stay old new e reply h dev other =
    let m = as_given (state_of old) e h.given in
    let is : Replaces (touched_device e) h.effect.replaced = rw h.has.effect_is (replaces m e (outcome_of reply) h.has.seen) in
    rw h.devices (stays (state_of old).devices (touched_device e) h.effect.replaced dev is other)

-- A count does not fall.
no_less : (n : ℕ) → n ≤ raised n
no_less n = grind (arith, raised)

count_stays : (serials : List ℕ) (k dev : ℕ) → slice_index serials dev ≤ slice_index (touched serials k) dev
count_stays serials k dev = grind (arith, no_less, get_or-set_same, get_or-set_other, get_or_past)

count_stays_if : (serials : List ℕ) (t : Option ℕ) (dev : ℕ) → slice_index serials dev ≤ slice_index (touched_if serials t) dev
count_stays_if serials None dev = omega arith
count_stays_if serials (Some k) dev = count_stays serials k dev

pub counts_stay : (serials : List ℕ) (es : List Event) (dev : ℕ) → slice_index serials dev ≤ slice_index (touched_by_all serials es) dev
counts_stay serials [] dev = omega arith
counts_stay serials (e ∷ es) dev = omega (arith, count_stays_if serials (touched_device e) dev, counts_stay (touched_by serials e) es dev)

-- It rises with a touch, until it is the greatest.
pub count_rises : (serials : List ℕ) (dev : ℕ) → dev < length serials → slice_index serials dev < 2 ^ 64 - 1 → slice_index serials dev < slice_index (touched serials dev) dev
count_rises serials dev there few = grind (arith, get_or-set_same)

-- What a count shows that has become another one.
was_same : (n serial : ℕ) → not (nat_eq n serial && nat_lt serial (2 ^ 64 - 1)) ≡ false → (n ≡ serial) × (serial < 2 ^ 64 - 1)
was_same n serial fresh = grind arith

is_other : (n serial : ℕ) → serial < n → not (nat_eq n serial && nat_lt serial (2 ^ 64 - 1)) ≡ true
is_other n serial more = grind arith

pub stale : TouchedIsStale
stale serials pieces e later there fresh touches =
    let dev = pieces.work.dev in
    let was = was_same (slice_index serials dev) pieces.serial fresh in
    let rises : slice_index serials dev < slice_index (touched_by serials e) dev = rw touches (count_rises serials dev there (omega (arith, was.0, was.1))) in
    is_other (slice_index (touched_by_all (touched_by serials e) later) dev) pieces.serial (omega (arith, was.0, rises, counts_stay (touched_by serials e) later dev))
