-- Events that write into no page and no sector.
use Rattle.std.proofs.Common.{◌≡◌, ℕ, List, [], length, Option, Some, None, refl, ap, ◌∙◌}
use Rattle.std.specs.Prelude.{Result, Ok, Err, slice_get}
use Rattle.guestmem.specs.Item.{Item}
use Rattle.guestmem.specs.Address.{access_refusal, index_of}
use Rattle.guestmem.specs.declared.error.RamError.{RamError}
use Rattle.blk.specs.Outside.{Answer}
use Rattle.chains.specs.declared.next.Next.{Next}
use Rattle.console.specs.declared.size.ConsoleSize.{ConsoleSize}
use Rattle.machine.specs.Applied.{IsApplied, IsAppliedLogged, as_given}
use Rattle.machine.specs.Effect.{items_of}
use Rattle.machine.specs.Outcome.{Outcome, disk_failed, fine, no_memory, outcome_of}
use Rattle.machine.specs.Seen.{Seen, state_of}
use Rattle.machine.specs.State.{DeviceState, MachineState, base_of}
use Rattle.machine.specs.Outside.{answer_of, disk_answered}
use Rattle.machine.specs.Step.{answer, answered_by, drop_by, drop_input, drop_of, hand_in, input_of, put_by, put_in, read_ram, read_register, set_size, size_by, write_register}
use Rattle.machine.specs.declared.event.DiskAnswer.{DiskAnswer}
use Rattle.machine.specs.declared.event.DiskAnswer.TheVariants as answers
use Rattle.machine.specs.declared.event.Event.{Event}
use Rattle.machine.specs.declared.event.Event.TheVariants.{RegRead, RegWrite, MemRead, MemWrite, Step, Input, Resize, Drop, Disk}
use Rattle.machine.specs.declared.kind.Kind.{Kind}
use Rattle.machine.specs.declared.kind.Kind.TheVariants.{Network, Block, Outside, Console, Entropy}
use Rattle.machine.specs.declared.reply.Refusal.{Refusal}
use Rattle.machine.specs.declared.reply.Reply.{Reply}
use Rattle.machine.proofs.DiskAnswers.{IsUnwrittenBy, answer_unwritten}

abbrev pub IsQuietAnswer : DiskAnswer → Type 0
IsQuietAnswer (answers.Gave bytes) = ⊥
IsQuietAnswer (answers.Did count) = Unit {0}
IsQuietAnswer answers.Failed = Unit {0}

abbrev pub IsQuiet : Event → Type 0
IsQuiet (MemWrite addr bytes) = ⊥
IsQuiet (Step dev pick) = ⊥
IsQuiet (Disk dev pick given) = IsQuietAnswer given
IsQuiet e = Unit {0}

of_read : (d : Option DeviceState) (off width : ℕ) → items_of (read_register d off width).effect ≡ []
of_read None off width = refl
of_read (Some d) off width = refl

of_written : (dev : ℕ) (d : Option DeviceState) (off width value : ℕ) → items_of (write_register dev d off width value).effect ≡ []
of_written dev None off width value = refl
of_written dev (Some d) off width value = refl

of_ram : (ram : List ℕ) (addr len : ℕ) (e : Option RamError) (o : Outcome) → items_of (read_ram ram addr len e o).effect ≡ []
of_ram ram addr len (Some error) o = refl
of_ram ram addr len None no_memory = refl
of_ram ram addr len None disk_failed = refl
of_ram ram addr len None fine = refl

of_put : (dev : ℕ) (d : DeviceState) (bytes : List ℕ) (r : Result ℕ Refusal) → items_of (put_by dev d bytes r).effect ≡ []
of_put dev d bytes (Ok count) = refl
of_put dev d bytes (Err refusal) = refl

of_input : (dev : ℕ) (d : Option DeviceState) (bytes : List ℕ) → items_of (put_in dev d bytes).effect ≡ []
of_input dev None bytes = refl
of_input dev (Some d) bytes = of_put dev d bytes (input_of d.kind bytes)

of_kind : (dev : ℕ) (d : DeviceState) (kind : Kind) (size : ConsoleSize) → items_of (size_by dev d kind size).effect ≡ []
of_kind dev d (Console old held) size = refl
of_kind dev d (Network mac inbox) size = refl
of_kind dev d (Block block) size = refl
of_kind dev d (Outside block) size = refl
of_kind dev d (Entropy pool) size = refl

of_size : (dev : ℕ) (d : Option DeviceState) (size : ConsoleSize) → items_of (set_size dev d size).effect ≡ []
of_size dev None size = refl
of_size dev (Some d) size = of_kind dev d d.kind size

of_drop_by : (dev : ℕ) (d : DeviceState) (r : Result (Unit {0}) Refusal) → items_of (drop_by dev d r).effect ≡ []
of_drop_by dev d (Ok done) = refl
of_drop_by dev d (Err refusal) = refl

of_drop : (dev : ℕ) (d : Option DeviceState) → items_of (drop_input dev d).effect ≡ []
of_drop dev None = refl
of_drop dev (Some d) = of_drop_by dev d (drop_of d.kind)

of_hand_by : (dev : ℕ) (d : DeviceState) (kind : Kind) (pick : ℕ) (answer : Answer) → IsUnwrittenBy answer → items_of (answered_by dev (disk_answered d kind pick answer)).effect ≡ []
of_hand_by dev d (Outside block) pick answer quiet = rw (answer_unwritten d block pick answer quiet) refl
of_hand_by dev d (Network mac inbox) pick answer quiet = refl
of_hand_by dev d (Block block) pick answer quiet = refl
of_hand_by dev d (Console size held) pick answer quiet = refl
of_hand_by dev d (Entropy pool) pick answer quiet = refl

by_answer : (given : DiskAnswer) → IsQuietAnswer given → IsUnwrittenBy (answer_of given)
by_answer (answers.Gave bytes) quiet = absurd quiet
by_answer (answers.Did count) quiet = tt
by_answer answers.Failed quiet = tt

of_hand : (dev : ℕ) (d : Option DeviceState) (pick : ℕ) (given : DiskAnswer) → IsQuietAnswer given → items_of (hand_in dev d pick given).effect ≡ []
of_hand dev None pick given quiet = refl
of_hand dev (Some d) pick given quiet = of_hand_by dev d d.kind pick (answer_of given) (by_answer given quiet)

pub no_items : (m : MachineState) (e : Event) (o : Outcome) (seen : Next) → IsQuiet e → items_of (answer m e o seen).effect ≡ []
no_items m (RegRead dev off width) o seen quiet = of_read (slice_get m.devices dev) off width
no_items m (RegWrite dev off width value) o seen quiet = of_written dev (slice_get m.devices dev) off width value
no_items m (MemRead addr len) o seen quiet = of_ram m.ram (index_of (base_of m.devices) addr) len (access_refusal (base_of m.devices) (length m.ram) addr len) o
no_items m (MemWrite addr bytes) o seen quiet = absurd quiet
no_items m (Step dev pick) o seen quiet = absurd quiet
no_items m (Input dev bytes) o seen quiet = of_input dev (slice_get m.devices dev) bytes
no_items m (Resize dev cols rows) o seen quiet = of_size dev (slice_get m.devices dev) (record { columns = cols; rows = rows })
no_items m (Drop dev) o seen quiet = of_drop dev (slice_get m.devices dev)
no_items m (Disk dev pick given) o seen quiet = of_hand dev (slice_get m.devices dev) pick given quiet

-- The log stays as it is.
pub unlogged : {L : Type 0} (taking : L → Item → L) (old new : Seen) (log : L) (e : Event) (reply : Reply) → IsQuiet e → IsApplied old e reply new → IsAppliedLogged taking old log e reply new log
unlogged taking old new log e reply quiet h =
    let none : items_of h.effect ≡ [] = ap items_of h.has.effect_is ∙ no_items (as_given (state_of old) e h.given) e (outcome_of reply) h.has.seen quiet in
    record { is_applied = h; logged = rw none refl }
