use Rattle.std.proofs.Common.{◌≡◌, ◌*◌}
use Rattle.sha2.specs.Sha256.{rounds, schedule}
use Rattle.c_digest.proofs.block.take_block.Given as goal

abbrev pub invariant-rounds : goal.invariant-rounds
invariant-rounds l = l.working ≡ rounds l.hash (schedule l.block 48) (8 * l.n)
