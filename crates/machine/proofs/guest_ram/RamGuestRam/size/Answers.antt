use Rattle.std.proofs.Common.{refl}
use Rattle.machine.proofs.guest_ram.RamGuestRam.size.Goals as goal

pub returns-clause-some : goal.returns-clause-some
returns-clause-some c = (c.args.self.now, refl)

pub returns-clause-each : goal.returns-clause-each
returns-clause-each c = λ m is. rw (is, c.len.ensures) refl
