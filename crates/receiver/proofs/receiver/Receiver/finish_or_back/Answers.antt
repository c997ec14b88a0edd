use Rattle.std.proofs.Common.{arith, false, length, refl, ℕ, List, Bool, ◌≡◌, ◌++◌, ap, map, sym, subst, ◌∙◌}
use Rattle.std.proofs.lemmas.Bool.{not-false, not-true}
use Rattle.std.specs.Prelude.{Some}
use Rattle.guestmem.specs.Memory.{Memory}
use Rattle.machine.specs.First.{dealt_marks, marked_sectors, saved_machine}
use Rattle.machine.specs.Limits.{IsWithinLimits}
use Rattle.machine.specs.Room.{RoomSeen}
use Rattle.machine.specs.Seen.{state_of}
use Rattle.machine.specs.Shapes.{disk_sizes}
use Rattle.machine.specs.State.{MachineState, base_of}
use Rattle.wire.specs.Stream.{shapes_in}
use Rattle.receiver.specs.Disks.{disk_marks_of}
use Rattle.receiver.specs.Fed.{IsKnownIn}
use Rattle.receiver.specs.Reading.{IsReader}
use Rattle.receiver.specs.Receiving.{IsPastHead, IsTaken, has_ended, has_failed, place_in, ram_len_in}
use Rattle.receiver.specs.declared.ram_terms.RamTerms.{RamTerms}
use Rattle.receiver.specs.declared.stage.Stage.{Stage}
use Rattle.receiver.specs.declared.stage.Stage.TheVariants as stages
use Rattle.receiver.proofs.Ending.{ends_again, ends_cut, given_back_as, has_come, seen_of}
use Rattle.receiver.proofs.Feeding.{marks_mapped, same_room, true_false}
use Rattle.receiver.proofs.Knowing.{any_arrived, come_of, here_sound, read_based, read_machine, read_within, whole_come, whole_shapes, whole_stream}
use Rattle.receiver.proofs.Sectors.{marks_count}
use Rattle.receiver.proofs.Steps.{devices_are}
use Rattle.receiver.proofs.Streams.{no_stream_head, no_stream_reading}
use Rattle.receiver.proofs.receiver.Receiver.finish_or_back.Goals as goal

pub restore_in-requires : goal.restore_in-requires
restore_in-requires g c =
    let r = c.reader.inside in
    let s = seen_of r.ram (map g.D.Disk.state r.disks.items) r.aside r.room (g.S.Summing.seen r.digest) r.stage in
    let h = (has_come s c.self.inside.held.items _ _ c.in-Records.intake (rw (← c.reader.view_is) at c.self.invariant) c.in-Records.is (not-false _ c.if-not-intake.false)).1 in
    let all = h.ended.complete.devices refl in
    let marks = h.ended.read.written.marks in
    let room = same_room c.unwrap-room.ensures (subst (λ (stage : Stage). IsReader s.ram s.disks s.aside s.room stage) c.in-Records.is c.reader.invariant).2 in
    record {
      sound = rw c.into_ram-ram.ensures (here_sound h.ended.read all c.recall.ensures.bytes (rw c.deref.ensures.value at c.recall_disks.ensures));
      shapes = h.ended.read.shapes_are ∙ sym (whole_shapes h.ended.read all);
      bad = marks;
      devices = ap (λ (r : RoomSeen). r.devices) room ∙ ap length h.ended.read.shapes_are ∙ sym all ∙ devices_are h.ended.read;
      disks = omega (arith, marks_count _ c.in-Records.intake.bad.items marks, ap (λ (r : RoomSeen). r.disks) room);
    }

pub returns-else-not-intake : goal.returns-else-not-intake
returns-else-not-intake g c =
    let r = c.reader.inside in
    let s = seen_of r.ram (map g.D.Disk.state r.disks.items) r.aside r.room (g.S.Summing.seen r.digest) r.stage in
    let h = (has_come s c.self.inside.held.items _ _ c.in-Records.intake (rw (← c.reader.view_is) at c.self.invariant) c.in-Records.is (not-false _ c.if-not-intake.false)).1 in
    let come = λ (b : List ℕ) (t : IsTaken s.ram s.disks s.digest b c.self.inside.held.items s.stage). come_of s.ram s.disks s.digest b c.self.inside.held.items c.in-Records.intake (not-false _ c.if-not-intake.false) (subst (λ (stage : Stage). IsTaken s.ram s.disks s.digest b c.self.inside.held.items stage) c.in-Records.is t) in
    let on : has_failed r.stage ≡ false = ap has_failed c.in-Records.is in
    let shapes : c.in-Records.intake.shapes.items ≡ shapes_in (state_of c.restore_in.result).devices =
    h.ended.read.shapes_are ∙ sym (whole_shapes h.ended.read (h.ended.complete.devices refl)) ∙ sym (ap (λ (m : MachineState). shapes_in m.devices) c.restore_in.ensures.restored) in
    rw (← c.self.view_is, ← c.reader.view_is) (record {
      arrived = λ b f.
          let w = come b f.taken in
          rw (c.restore_in.ensures.restored, c.into_ram-ram.ensures) (any_arrived _ b w.opening c.in-Records.intake w.ended c.recall.ensures.bytes);
      received = λ honest b f.
          let w = come b f.taken in
          rw (c.restore_in.ensures.restored, c.into_ram-ram.ensures) (whole_stream _ b w.opening c.in-Records.intake w.ended c.recall.ensures.bytes honest);
      marks = c.restore_in.ensures.marks ∙ ap (λ ms. dealt_marks c.in-Records.intake.shapes.items ms) (marks_mapped g.D.Disk.state r.disks.items) ∙ ap (λ ss. dealt_marks ss (disk_marks_of g.D.Disk.state r.disks.items)) shapes;
      based = ap (λ (m : MachineState). base_of m.devices) c.restore_in.ensures.restored ∙ read_based h.ended.read (h.ended.complete.devices refl) ∙ ap (λ (t : RamTerms). t.base) h.based;
      within =
          let i = c.in-Records.intake in
          let sectors = marked_sectors s.disks i.bad.items in
          let same : state_of c.restore_in.result ≡ read_machine i sectors = c.restore_in.ensures.restored ∙ ap (λ (m : Memory). saved_machine m.bytes i.devices.items sectors) c.into_ram-ram.ensures in
          let inside = read_within sectors h.ended.read (h.ended.complete.devices refl) in
          subst (λ (m : MachineState). IsWithinLimits r.ram.limits m) (sym same) (subst (λ (t : RamTerms). IsWithinLimits t.limits (read_machine i sectors)) h.based inside);
      ram_len = ap ram_len_in c.in-Records.is ∙ ap (λ (m : Memory). Some (length m.bytes)) (sym c.into_ram-ram.ensures) ∙ ap (λ (bytes : List ℕ). Some (length bytes)) (sym (ap (λ (m : MachineState). m.ram) c.restore_in.ensures.restored));
      fits = h.ended.read.fits ∙ ap disk_sizes (sym h.ended.read.shapes_are) ∙ ap disk_sizes shapes;
      refused = tt;
      whole = λ b f. whole_come s.ram s.disks b c.in-Records.intake (come b f.taken);
      told = tt;
      lacking = λ is. absurd is;
      place = c.restore_in.ensures.place ∙ ap (λ (m : Memory). m.place) c.into_ram-ram.ensures ∙ sym (ap (place_in r.aside) c.in-Records.is);
      already = λ f. absurd (true_false _ f on);
      goes_on = on;
      back = tt;
    })

-- The digest was not read.
pub returns-then-not-intake : goal.returns-then-not-intake
returns-then-not-intake g c =
    let r = c.reader.inside in
    let s = seen_of r.ram (map g.D.Disk.state r.disks.items) r.aside r.room (g.S.Summing.seen r.digest) r.stage in
    let held = c.self.inside.held.items in
    let new = c.given_up.ensures in
    let not_yet : has_ended s.stage ≡ false = ap has_ended c.in-Records.is ∙ (not-true _ c.if-not-intake.true) in
    rw (← c.self.view_is, ← c.reader.view_is)
    (ends_cut s held c.given_up.result (ap has_failed c.in-Records.is) not_yet
    (λ b f m stream.
    let t : IsTaken s.ram s.disks s.digest b held (stages.Records c.in-Records.intake) = subst (λ (stage : Stage). IsTaken s.ram s.disks s.digest b held stage) c.in-Records.is f.taken in
    let known : IsKnownIn false s.ram s.disks s.digest t.front held c.in-Records.intake = subst (λ (ended : Bool). IsKnownIn ended s.ram s.disks s.digest t.front held c.in-Records.intake) (not-true _ c.if-not-intake.true) t.known in
    no_stream_reading s.ram _ t.front held b c.in-Records.intake m f.bytes t.whole known.1 stream)
    (given_back_as s held c.given_up.result new.failed new.ram new.disks new.sizes new.marks (λ never. absurd (never (subst IsPastHead (sym c.in-Records.is) tt))) (new.place ∙ sym (ap (place_in s.aside) c.in-Records.is))))

pub returns-in-Failed : goal.returns-in-Failed
returns-in-Failed g c =
    let r = c.reader.inside in
    let s = seen_of r.ram (map g.D.Disk.state r.disks.items) r.aside r.room (g.S.Summing.seen r.digest) r.stage in
    let held = c.self.inside.held.items in
    let new = c.given_up-in-Failed.ensures in
    rw (← c.self.view_is, ← c.reader.view_is)
    (ends_again s held c.given_up-in-Failed.result (ap has_failed c.in-Failed.is) (given_back_as s held c.given_up-in-Failed.result new.failed new.ram new.disks new.sizes new.marks (λ never. new.aside) (new.place ∙ sym (ap (place_in s.aside) c.in-Failed.is))))

pub returns-in-Head : goal.returns-in-Head
returns-in-Head g c =
    let r = c.reader.inside in
    let s = seen_of r.ram (map g.D.Disk.state r.disks.items) r.aside r.room (g.S.Summing.seen r.digest) r.stage in
    let held = c.self.inside.held.items in
    let new = c.given_up-in-Head.ensures in
    rw (← c.self.view_is, ← c.reader.view_is)
    (ends_cut s held c.given_up-in-Head.result (ap has_failed c.in-Head.is) (ap has_ended c.in-Head.is)
    (λ b f m stream.
    let t : IsTaken s.ram s.disks s.digest b held stages.Head = subst (λ (stage : Stage). IsTaken s.ram s.disks s.digest b held stage) c.in-Head.is f.taken in
    let same : b ≡ held = t.whole ∙ ap (λ x. x ++ held) t.known.0 in
    no_stream_head held m t.known.2 (rw same at stream))
    (given_back_as s held c.given_up-in-Head.result new.failed new.ram new.disks new.sizes new.marks (λ never. new.aside) (new.place ∙ sym (ap (place_in s.aside) c.in-Head.is))))
