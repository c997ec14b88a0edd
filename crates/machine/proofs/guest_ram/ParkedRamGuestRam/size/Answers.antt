use Rattle.std.proofs.Common.{arith}
use Rattle.machine.proofs.Parking.{may_be_zeros}
use Rattle.machine.proofs.guest_ram.ParkedRamGuestRam.size.Goals as goal

pub returns-clause-some : goal.returns-clause-some
returns-clause-some c = may_be_zeros c.args.self.now (rw c.pages.ensures.count at c.pages.ensures.some) (rw c.pages.ensures.count at c.pages.ensures.few)

pub returns-clause-each : goal.returns-clause-each
returns-clause-each c = λ m may. omega (arith, may.0.pages, may.2, c.pages.ensures.count)
