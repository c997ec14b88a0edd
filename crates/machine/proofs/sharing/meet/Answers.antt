use Rattle.std.proofs.Common.{arith, refl}
use Rattle.machine.proofs.Meeting.{met_after, met_before}
use Rattle.machine.proofs.sharing.meet.Goals as goal

pub returns-then-one-other : goal.returns-then-one-other
returns-then-one-other c = met_after _ c.args.one c.args.other (omega (arith, c.if-other-eq0.false)) c.if-one-other.true refl

pub returns : goal.returns
returns c = met_before _ c.args.one c.args.other (omega (arith, c.if-one-eq0.false)) c.if-one-other.false refl
