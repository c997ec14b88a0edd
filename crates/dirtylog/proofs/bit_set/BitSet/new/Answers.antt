use Rattle.dirtylog.proofs.Flags.{flags_zero, count_zero}
use Rattle.dirtylog.proofs.Levels.{zero_levels}
use Rattle.dirtylog.proofs.bit_set.BitSet.new.Goals as goal

pub invariant_of-result : goal.invariant_of-result
invariant_of-result c = rw (c.in_ok-words.ensures, c.in_ok-marks.ensures) (zero_levels c.args.len _ _ c.words_for-count.ensures c.words_for.ensures, count_zero c.words_for-count.result c.args.len c.ranges.len.fits)

pub returns : goal.returns
returns c = rw c.in_ok-words.ensures (flags_zero c.words_for-count.result c.args.len)
