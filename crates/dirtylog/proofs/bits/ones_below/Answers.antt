use Rattle.std.proofs.Common.{ap, ◌∙◌}
use Rattle.std.specs.Prelude.{bit_and, count_ones}
use Rattle.std.proofs.lemmas.Nat.{and_mask}
use Rattle.dirtylog.proofs.All.{last_is}
use Rattle.dirtylog.proofs.bits.ones_below.Goals as goal

pub returns : goal.returns
returns c = ap count_ones (ap (bit_and c.args.word) (last_is c.args.count c.requires.few) ∙ and_mask c.args.word c.args.count)
