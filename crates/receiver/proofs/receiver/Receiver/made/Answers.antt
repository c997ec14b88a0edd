use Rattle.std.proofs.Common.{rules, sym, ap, length, subst, ◌≡◌, Some}
use Rattle.guestmem.specs.Memory.{Memory}
use Rattle.receiver.specs.Calls.{IsNew}
use Rattle.receiver.specs.Opened.{told_by}
use Rattle.receiver.proofs.receiver.Receiver.made.Goals as goal

pub returns-in-None : goal.returns-in-None
returns-in-None g c = rw c.in-None.is c.reading.ensures

pub reading-requires-in-Some : goal.reading-requires-in-Some
reading-requires-in-Some g c = ap Some (let same : c.len.result ≡ length c.over.result.bytes = search rules in same)

pub returns-in-Some : goal.returns-in-Some
returns-in-Some g c =
    let same : c.len.result ≡ length c.in-Some.ram.bytes = search rules in
    let over : (λ (m : Memory). IsNew g.D.Disk.state c.args.disks.items (told_by c.args.terms (Some c.in-Some.ram)) (Some m) c.reading-in-Some.result) c.over.result = rw (sym same) c.reading-in-Some.ensures in
    rw c.in-Some.is (subst (λ (m : Memory). IsNew g.D.Disk.state c.args.disks.items (told_by c.args.terms (Some c.in-Some.ram)) (Some m) c.reading-in-Some.result) c.over.ensures over)
