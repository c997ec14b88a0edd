use Rattle.dirtylog.proofs.MemberLaws.{no_members}
use Rattle.dirtylog.proofs.bit_set.BitSet.swap_out.Goals as goal

pub returns-clause-left : goal.returns-clause-left
returns-clause-left c = rw (c.swap.ensures.x_after, ← c.requires.length) (no_members c.args.other.now c.requires.empty)
