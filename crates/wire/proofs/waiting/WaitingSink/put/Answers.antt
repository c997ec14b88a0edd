use Rattle.std.proofs.Common.{◌∙◌, ◌++◌, subst}
use Rattle.wire.specs.Lagging.{WaitingSeen}
use Rattle.wire.specs.Sinks.{Takes}
use Rattle.wire.proofs.Lagging.{came, then_none, up_to}
use Rattle.wire.proofs.waiting.WaitingSink.put.Goals as goal

pub returns-in-Ok-clause-takes : goal.returns-in-Ok-clause-takes
returns-in-Ok-clause-takes c =
    let i = c.self.inside in
    let more = c.args.bytes.now in
    let here : Takes c.args.self.now.sum more (up_to i.digest c.extend_from_slice.new.self.items i.seen) =
    rw (c.in-Ok.ensures.items) (subst (λ (w : WaitingSeen). Takes w.sum more (up_to i.digest (i.bytes.items ++ more) i.seen)) (c.self.view_is ∙ c.let_go.ensures) (came i.digest i.bytes.items more i.seen c.self.invariant.inside)) in
    then_none c.args.self.now.sum (up_to i.digest c.extend_from_slice.new.self.items i.seen) c.keep_up.new.self.sum more here c.keep_up.ensures.digest
