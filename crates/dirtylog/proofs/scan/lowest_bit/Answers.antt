use Rattle.std.proofs.Common.{arith}
use Rattle.std.proofs.lemmas.Nat.Bits.{bit_at-trailing_zeros}
use mir.Syntax.{w64}
use Rattle.dirtylog.proofs.scan.lowest_bit.Goals as goal

pub returns-clause-one : goal.returns-clause-one
returns-clause-one c = (bit_at-trailing_zeros w64 c.args.word (omega arith) c.ranges.word.fits).1

pub returns-clause-lowest : goal.returns-clause-lowest
returns-clause-lowest c = (bit_at-trailing_zeros w64 c.args.word (omega arith) c.ranges.word.fits).2
