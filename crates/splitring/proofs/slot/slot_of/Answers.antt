use Rattle.splitring.proofs.Masks.{masked}
use Rattle.splitring.proofs.slot.slot_of.Goals as goal

pub returns-then-size-mask-eq0 : goal.returns-then-size-mask-eq0
returns-then-size-mask-eq0 c = masked c.args.size c.requires c.if-size-mask-eq0.true c.args.index
