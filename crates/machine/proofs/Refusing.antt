-- Refused events, whatever the disks do.
use Rattle.std.proofs.Common.{◌≡◌, ℕ, List, [], length, false, Option, Some, None, Result, Ok, Err, refl, ap, sym, ◌∙◌, subst}
use Rattle.std.specs.Prelude.{slice_get}
use Rattle.blk.specs.Outside.{Answer}
use Rattle.blk.specs.Sectors.{Sector}
use Rattle.chains.specs.State.{RingState}
use Rattle.chains.specs.declared.next.Next.{Next}
use Rattle.console.specs.declared.size.ConsoleSize.{ConsoleSize}
use Rattle.guestmem.specs.Address.{access_refusal, index_of}
use Rattle.guestmem.specs.Writes.{set_all}
use Rattle.guestmem.specs.declared.error.RamError.{RamError}
use Rattle.machine.specs.Applied.{AreMadeBad, as_given, marks_after}
use Rattle.machine.specs.AppliedLaws.{RefusedChangesNothing}
use Rattle.machine.specs.DeviceStep.{advanced_at, device_step, looked_at, step_at}
use Rattle.machine.specs.Effect.{Effect, applied, items_of, replaced_in, sectors_set, sets_on}
use Rattle.machine.specs.Outcome.{Outcome, disk_failed, fine, is_failure, no_memory, outcome_of}
use Rattle.machine.specs.Seen.{Marks, all_marks, state_of}
use Rattle.machine.specs.State.{DeviceState, MachineState, base_of}
use Rattle.machine.specs.Outside.{answer_of, disk_answered}
use Rattle.machine.specs.Step.{answer, answered_by, drop_by, drop_input, drop_of, hand_in, input_of, put_by, put_in, read_ram, read_register, set_size, size_by, step_device, write_ram, write_register}
use Rattle.machine.specs.StepLaws.{IsRefusal}
use Rattle.machine.specs.declared.event.DiskAnswer.{DiskAnswer}
use Rattle.machine.specs.declared.event.Event.{Event}
use Rattle.machine.specs.declared.event.Event.TheVariants.{RegRead, RegWrite, MemRead, MemWrite, Step, Input, Resize, Drop, Disk}
use Rattle.machine.specs.declared.kind.Kind.{Kind}
use Rattle.machine.specs.declared.kind.Kind.TheVariants.{Network, Block, Outside, Console, Entropy}
use Rattle.machine.specs.declared.reply.Refusal.{Refusal}
use Rattle.machine.specs.declared.reply.Reply.{Reply}
use Rattle.machine.specs.declared.reply.Reply.TheVariants as replies
use Rattle.machine.proofs.Answering.{answered}
use Rattle.machine.proofs.Containing.{quiet, quiet_advance}
use Rattle.machine.proofs.DiskAnswers.{answer_told}

-- An effect that writes nothing.
record IsUnwritten (f : Effect) : Type 0 where
  writes : f.writes ≡ []
  sectors : f.sectors ≡ []

at_ring : (d : DeviceState) (ram : List ℕ) (content : List Sector) (pick : ℕ) (seen : Next) (ring : Option RingState) (o : Outcome) → IsRefusal (step_at d ram content pick ring o seen).reply
    → ((step_at d ram content pick ring o seen).writes ≡ []) × ((step_at d ram content pick ring o seen).sets ≡ [])
at_ring d ram content pick seen None o h = absurd (quiet_advance d ram content pick (advanced_at d pick) o h)
at_ring d ram content pick seen (Some q) no_memory h = (refl, refl)
at_ring d ram content pick seen (Some q) disk_failed h = absurd h
at_ring d ram content pick seen (Some q) fine h = absurd ((answered d.registers.common.features d.kind pick ram q seen).quiet h)

of_step : (dev : ℕ) (d : Option DeviceState) (ram : List ℕ) (content : List Sector) (pick : ℕ) (o : Outcome) (seen : Next) → IsRefusal (step_device dev d ram content pick o seen).reply → IsUnwritten (step_device dev d ram content pick o seen).effect
unfolding device_step
of_step dev None ram content pick o seen h = record { writes = refl; sectors = refl }
of_step dev (Some d) ram content pick o seen h =
    let none = at_ring d ram content pick seen (looked_at d pick) o h in
    record { writes = none.0; sectors = ap (sets_on dev) none.1 }

of_look : (d : Option DeviceState) (off width : ℕ) → IsUnwritten (read_register d off width).effect
of_look None off width = record { writes = refl; sectors = refl }
of_look (Some d) off width = record { writes = refl; sectors = refl }

of_set : (dev : ℕ) (d : Option DeviceState) (off width value : ℕ) → IsUnwritten (write_register dev d off width value).effect
of_set dev None off width value = record { writes = refl; sectors = refl }
of_set dev (Some d) off width value = record { writes = refl; sectors = refl }

of_read : (ram : List ℕ) (addr len : ℕ) (error : Option RamError) (o : Outcome) → IsUnwritten (read_ram ram addr len error o).effect
of_read ram addr len (Some error) o = record { writes = refl; sectors = refl }
of_read ram addr len None fine = record { writes = refl; sectors = refl }
of_read ram addr len None disk_failed = record { writes = refl; sectors = refl }
of_read ram addr len None no_memory = record { writes = refl; sectors = refl }

of_store : (addr : ℕ) (bytes : List ℕ) (error : Option RamError) → IsRefusal (write_ram addr bytes error).reply → IsUnwritten (write_ram addr bytes error).effect
of_store addr bytes (Some error) h = record { writes = refl; sectors = refl }
of_store addr bytes None h = absurd h

of_put_by : (dev : ℕ) (d : DeviceState) (bytes : List ℕ) (told : Result ℕ Refusal) → IsUnwritten (put_by dev d bytes told).effect
of_put_by dev d bytes (Ok count) = record { writes = refl; sectors = refl }
of_put_by dev d bytes (Err refusal) = record { writes = refl; sectors = refl }

of_put : (dev : ℕ) (d : Option DeviceState) (bytes : List ℕ) → IsUnwritten (put_in dev d bytes).effect
of_put dev None bytes = record { writes = refl; sectors = refl }
of_put dev (Some d) bytes = of_put_by dev d bytes (input_of d.kind bytes)

of_size_by : (dev : ℕ) (d : DeviceState) (kind : Kind) (size : ConsoleSize) → IsUnwritten (size_by dev d kind size).effect
of_size_by dev d (Network mac inbox) size = record { writes = refl; sectors = refl }
of_size_by dev d (Block block) size = record { writes = refl; sectors = refl }
of_size_by dev d (Outside block) size = record { writes = refl; sectors = refl }
of_size_by dev d (Console old held) size = record { writes = refl; sectors = refl }
of_size_by dev d (Entropy pool) size = record { writes = refl; sectors = refl }

of_size : (dev : ℕ) (d : Option DeviceState) (size : ConsoleSize) → IsUnwritten (set_size dev d size).effect
of_size dev None size = record { writes = refl; sectors = refl }
of_size dev (Some d) size = of_size_by dev d d.kind size

of_drop_by : (dev : ℕ) (d : DeviceState) (told : Result (Unit {0}) Refusal) → IsUnwritten (drop_by dev d told).effect
of_drop_by dev d (Ok done) = record { writes = refl; sectors = refl }
of_drop_by dev d (Err refusal) = record { writes = refl; sectors = refl }

of_drop : (dev : ℕ) (d : Option DeviceState) → IsUnwritten (drop_input dev d).effect
of_drop dev None = record { writes = refl; sectors = refl }
of_drop dev (Some d) = of_drop_by dev d (drop_of d.kind)

of_hand_by : (dev : ℕ) (d : DeviceState) (kind : Kind) (pick : ℕ) (answer : Answer) → IsRefusal (answered_by dev (disk_answered d kind pick answer)).reply → IsUnwritten (answered_by dev (disk_answered d kind pick answer)).effect
of_hand_by dev d (Outside block) pick answer h = absurd (answer_told d block pick answer h)
of_hand_by dev d (Network mac inbox) pick answer h = record { writes = refl; sectors = refl }
of_hand_by dev d (Block block) pick answer h = record { writes = refl; sectors = refl }
of_hand_by dev d (Console size held) pick answer h = record { writes = refl; sectors = refl }
of_hand_by dev d (Entropy pool) pick answer h = record { writes = refl; sectors = refl }

of_hand : (dev : ℕ) (d : Option DeviceState) (pick : ℕ) (given : DiskAnswer) → IsRefusal (hand_in dev d pick given).reply → IsUnwritten (hand_in dev d pick given).effect
of_hand dev None pick given h = record { writes = refl; sectors = refl }
of_hand dev (Some d) pick given h = of_hand_by dev d d.kind pick (answer_of given) h

unwritten : (m : MachineState) (e : Event) (o : Outcome) (seen : Next) → IsRefusal (answer m e o seen).reply → IsUnwritten (answer m e o seen).effect
unwritten m (RegRead dev off width) o seen h = of_look (slice_get m.devices dev) off width
unwritten m (RegWrite dev off width value) o seen h = of_set dev (slice_get m.devices dev) off width value
unwritten m (MemRead addr len) o seen h = of_read m.ram (index_of (base_of m.devices) addr) len (access_refusal (base_of m.devices) (length m.ram) addr len) o
unwritten m (MemWrite addr bytes) o seen h = of_store (index_of (base_of m.devices) addr) bytes (access_refusal (base_of m.devices) (length m.ram) addr (length bytes)) h
unwritten m (Step dev pick) o seen h = of_step dev (slice_get m.devices dev) m.ram _ pick o seen h
unwritten m (Input dev bytes) o seen h = of_put dev (slice_get m.devices dev) bytes
unwritten m (Resize dev cols rows) o seen h = of_size dev (slice_get m.devices dev) (record { columns = cols; rows = rows })
unwritten m (Drop dev) o seen h = of_drop dev (slice_get m.devices dev)
unwritten m (Disk dev pick given) o seen h = of_hand dev (slice_get m.devices dev) pick given h

-- The devices are the same, whatever the disk gave.
given_devices : (m : MachineState) (e : Event) (given : List Sector) → (as_given m e given).devices ≡ m.devices
given_devices m (RegRead dev off width) given = refl
given_devices m (RegWrite dev off width value) given = refl
given_devices m (MemRead addr len) given = refl
given_devices m (MemWrite addr bytes) given = refl
given_devices m (Step dev pick) given = refl
given_devices m (Input dev bytes) given = refl
given_devices m (Resize dev cols rows) given = refl
given_devices m (Drop dev) given = refl
given_devices m (Disk dev pick answer) given = refl

-- A refusal is no failure of a disk.
no_failure : (reply : Reply) → IsRefusal reply → is_failure reply ≡ false
no_failure replies.NoMemory h = refl
no_failure (replies.Refused refusal) h = refl
no_failure (replies.Value value) h = absurd h
no_failure replies.Done h = absurd h
no_failure (replies.OutByte byte) h = absurd h
no_failure (replies.Bytes bytes) h = absurd h
no_failure replies.Idle h = absurd h
no_failure replies.Taken h = absurd h
no_failure replies.Moved h = absurd h
no_failure replies.BadSector h = absurd h
no_failure replies.DiskFailed h = absurd h
no_failure (replies.Completed len) h = absurd h
no_failure (replies.Sent bytes) h = absurd h
no_failure replies.Dropped h = absurd h
no_failure (replies.Accepted count) h = absurd h
no_failure replies.NeedsReset h = absurd h

marks_stay : (marks : List Marks) (e : Event) (reply : Reply) → IsRefusal reply → marks_after marks e reply ≡ marks
marks_stay marks (RegRead dev off width) reply h = refl
marks_stay marks (RegWrite dev off width value) reply h = refl
marks_stay marks (MemRead addr len) reply h = refl
marks_stay marks (MemWrite addr bytes) reply h = refl
marks_stay marks (Step dev pick) reply h = rw (no_failure reply h) refl
marks_stay marks (Input dev bytes) reply h = refl
marks_stay marks (Resize dev cols rows) reply h = refl
marks_stay marks (Drop dev) reply h = refl
marks_stay marks (Disk dev pick given) reply h = refl

same_items : (f : Effect) → IsUnwritten f → items_of f ≡ []
same_items f none = rw (none.writes, none.sectors) refl

pub refused_quiet : RefusedChangesNothing
refused_quiet old new e reply h is =
    let m = state_of old in
    let given = as_given m e h.given in
    let told : IsRefusal (answer given e (outcome_of reply) h.has.seen).reply = subst IsRefusal h.has.reply_is is in
    let none : IsUnwritten h.effect = subst IsUnwritten (sym h.has.effect_is) (unwritten given e (outcome_of reply) h.has.seen told) in
    let stays : applied given h.effect ≡ given = ap (applied given) h.has.effect_is ∙ quiet given e (outcome_of reply) h.has.seen told in
    let kept : replaced_in given.devices h.effect.replaced ≡ given.devices = ap (λ (k : MachineState). k.devices) stays in
    let ram : (state_of new).ram ≡ m.ram = h.ram ∙ ap (set_all m.ram) none.writes in
    let devices : (state_of new).devices ≡ m.devices = h.devices ∙ subst (λ (ds : List DeviceState). replaced_in ds h.effect.replaced ≡ ds) (given_devices m e h.given) kept in
    let good : AreMadeBad h.effect.sectors = subst AreMadeBad (sym none.sectors) tt in
    let disks : (state_of new).disks ≡ m.disks = h.unwritten good ∙ ap (sectors_set m.disks) none.sectors in (
      record { state = (λ i. record { ram = ram i; devices = devices i; disks = disks i }); marks = h.marks ∙ marks_stay (all_marks old) e reply is },
      same_items h.effect none,
    )
