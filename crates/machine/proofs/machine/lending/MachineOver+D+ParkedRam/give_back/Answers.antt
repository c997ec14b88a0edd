use Rattle.std.proofs.Common.{◌≡◌, length, ap, refl, arith}
use Rattle.guestmem.specs.Memory.{Memory}
use Rattle.machine.proofs.machine.lending.MachineOver+D+ParkedRam.give_back.Goals as goal

pub invariant_of-result : goal.invariant_of-result
invariant_of-result g c =
    let i = c.self.inside in
    let m = c.give_back-ram.result in
    let bytes : m.bytes ≡ c.args.region.content = ap (λ (x : Memory). x.bytes) c.give_back-ram.ensures.ram in
    let size = rw (← c.self.view_is) at c.requires.size in
    let long : length m.versions ≡ length i.ram = omega (arith, c.recall.ensures.sound.pages, ap length bytes, size) in
    c.self.invariant m c.recall.ensures.sound c.recall.ensures.bytes long

pub returns-clause-may : goal.returns-clause-may
returns-clause-may g c =
    let bytes : c.give_back-ram.result.bytes ≡ c.args.region.content = ap (λ (x : Memory). x.bytes) c.give_back-ram.ensures.ram in
    rw bytes at c.give_back-ram.ensures.may

pub returns-clause-machine : goal.returns-clause-machine
returns-clause-machine g c = rw (← c.self.view_is, c.give_back-ram.ensures.ram) refl

pub returns-clause-log : goal.returns-clause-log
returns-clause-log g c = c.give_back-ram.ensures.log
