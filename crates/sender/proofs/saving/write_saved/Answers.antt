use Rattle.std.proofs.Common.{◌≡◌, ◌++◌, Ok, Err, length, rules, refl, ◌∙◌, append_assoc}
use Rattle.machine.specs.Seen.{state_of}
use Rattle.wire.specs.Sinks.{prompt}
use Rattle.wire.specs.Stream.{device_texts, saved}
use Rattle.machine.specs.Layout.{pages_of}
use Rattle.sender.specs.Items.{front_text, sectors_before, sectors_text}
use Rattle.sender.specs.declared.mig_error.MigError.TheVariants.{StreamFailed}
use Rattle.sender.proofs.SaveReads.{none_read}
use Rattle.sender.specs.Saving.{Sends, TakesOn}
use Rattle.sender.proofs.Parts.{saved_in_parts}
use Rattle.sender.proofs.Sending.{sends_next, sends_ok, takes_next, then_sends, then_takes_on}
use Rattle.sender.proofs.saving.write_saved.Goals as goal

pub returns-clause-sent : goal.returns-clause-sent
returns-clause-sent g c =
    let m = state_of c.args.machine.now in
    let old = c.args.machine.now in
    let new = c.write_disks.new.machine in
    let out0 = g.S.Sink.state c.args.out.now in
    let out1 = g.S.Sink.state c.write_front.new.out in
    let out2 = g.S.Sink.state c.write_disks.new.out in
    let out3 = g.S.Sink.state c.write_devices.new.out in
    let e : (front_text m ++ sectors_text m) ++ device_texts 0 m.devices ≡ saved m = append_assoc (front_text m) (sectors_text m) (device_texts 0 m.devices) ∙ saved_in_parts m in
    let front : Sends {A = Unit {0}} old out0 (front_text m) (Ok (tt {0})) old out1 = sends_ok old out0 out1 (front_text m) (tt {0}) (tt {0}) (rw c.in_ok-write_front.was at c.write_front.ensures.out) in
    let both : Sends {A = Unit {0}} old out0 (front_text m ++ sectors_text m) (Ok (tt {0})) new out2 = then_sends old old new out0 out1 out2 (front_text m) (sectors_text m) (tt {0}) (Ok (tt {0})) front (rw c.in_ok-write_disks.was at c.write_disks.ensures.sent) in
    sends_next old new new out0 out2 out3 (front_text m ++ sectors_text m) (saved m) (λ k. device_texts 0 k.devices) (tt {0}) (Ok (tt {0})) e both
    (sends_ok new out2 out3 (device_texts 0 (state_of new).devices) (tt {0}) (tt {0}) (rw c.in_ok-write_devices.was at c.write_devices.ensures.out))

pub returns-clause-taken : goal.returns-clause-taken
returns-clause-taken g c =
    let m = state_of c.args.machine.now in
    let old = c.args.machine.now in
    let new = c.write_disks.new.machine in
    let out0 = g.S.Sink.state c.args.out.now in
    let out1 = g.S.Sink.state c.write_front.new.out in
    let out2 = g.S.Sink.state c.write_disks.new.out in
    let t0 = prompt c.args.sum.now.taken in
    let t1 = prompt c.write_front-2.new.out.taken in
    let t2 = prompt c.write_disks.new.sum.taken in
    let t3 = prompt c.write_devices-2.new.out.taken in
    let e : (front_text m ++ sectors_text m) ++ device_texts 0 m.devices ≡ saved m = append_assoc (front_text m) (sectors_text m) (device_texts 0 m.devices) ∙ saved_in_parts m in
    let front : Sends {A = Unit {0}} old out0 (front_text m) (Ok (tt {0})) old out1 = sends_ok old out0 out1 (front_text m) (tt {0}) (tt {0}) (rw c.in_ok-write_front.was at c.write_front.ensures.out) in
    let both : Sends {A = Unit {0}} old out0 (front_text m ++ sectors_text m) (Ok (tt {0})) new out2 = then_sends old old new out0 out1 out2 (front_text m) (sectors_text m) (tt {0}) (Ok (tt {0})) front (rw c.in_ok-write_disks.was at c.write_disks.ensures.sent) in
    let took_front : TakesOn {A = Unit {0}} old t0 (front_text m) (Ok (tt {0})) t1 = λ disks. c.in-Ok.ensures.taken in
    let took_both : TakesOn {A = Unit {0}} old t0 (front_text m ++ sectors_text m) (Ok (tt {0})) t2 = then_takes_on {A = Unit {0}} {B = Unit {0}} old old t0 t1 t2 (front_text m) (sectors_text m) (tt {0}) (Ok (tt {0})) refl took_front c.in_ok-write_disks.ensures.taken in
    takes_next {A = Unit {0}} {B = Unit {0}} old new new out0 out2 t0 t2 t3 (front_text m ++ sectors_text m) (saved m) (λ k. device_texts 0 k.devices) (tt {0}) (Ok (tt {0})) e both took_both (λ disks. c.in-Ok-write_devices.ensures.taken)

pub returns-in_err-write_front-clause-calls : goal.returns-in_err-write_front-clause-calls
returns-in_err-write_front-clause-calls g c =
    let m = state_of c.args.machine.now in
    let failed : c.from_residual.result ≡ Err StreamFailed = search rules in
    rw failed (none_read g.D.Disk.called c.args.machine.now (pages_of m) (sectors_before m (length m.disks)))
