use Rattle.std.proofs.Common.{◌≡◌, ◌*◌, take}
use Rattle.dirtylog.specs.Members.{member_count}
use Rattle.dirtylog.specs.Words.{flags_of}
use Rattle.dirtylog.proofs.bits.count_ones.Given as goal

abbrev pub invariant-loop-at : goal.invariant-loop-at
invariant-loop-at l = l.count ≡ member_count (take (64 * l.at) (flags_of l.fn.words l.fn.n))
