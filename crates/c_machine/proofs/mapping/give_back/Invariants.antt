use Rattle.c_machine.proofs.MappingImages.{IsGivenSoFar}
use Rattle.c_machine.proofs.mapping.give_back.Given as goal

abbrev pub invariant-loop-disk : goal.invariant-loop-disk
invariant-loop-disk l = IsGivenSoFar l.fn.disks.items l.disk-iterator.rest.items l.fn.images l.images l.at
