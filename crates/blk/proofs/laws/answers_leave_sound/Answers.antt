use Rattle.blk.proofs.Runs.{answer_sound}
use Rattle.blk.proofs.laws.answers_leave_sound.Goals as goal

pub returns : goal.returns
returns c = answer_sound
