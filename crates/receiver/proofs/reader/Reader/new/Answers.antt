use Rattle.std.proofs.Common.{refl}
use Rattle.receiver.proofs.Knowing.{nothing_known}
use Rattle.receiver.proofs.reader.Reader.new.Goals as goal

pub returns : goal.returns
returns g c = record { ram = refl; disks = refl; aside = refl; stage = refl; known = (refl, c.none.ensures, nothing_known c.args.ram.limits) }

pub invariant_of-result : goal.invariant_of-result
invariant_of-result g c = c.requires
