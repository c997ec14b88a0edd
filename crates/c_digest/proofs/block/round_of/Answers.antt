use Rattle.sha2.proofs.Schedule256.{rounds_next}
use Rattle.c_digest.proofs.block.round_of.Goals as goal

pub returns : goal.returns
returns c = λ hash before. rw (rounds_next hash c.args.words.now c.args.t, ← before) c.round.ensures
