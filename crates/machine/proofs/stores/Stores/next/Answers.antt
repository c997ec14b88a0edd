use Rattle.std.proofs.Common.{◌≡◌, ◌∙◌, ap}
use Rattle.machine.specs.Stepped.{reply_in}
use Rattle.machine.specs.Writing.{writing_base}
use Rattle.machine.proofs.Writing.{first_bytes, last_bytes}
use Rattle.machine.proofs.stores.Stores.next.Goals as goal

pub returns-then-from-span-clause-bytes : goal.returns-then-from-span-clause-bytes
returns-then-from-span-clause-bytes c = λ sent.
    let base : c.self.inside.base ≡ writing_base c.args.self.now = c.self.invariant.base_is ∙ ap writing_base c.self.view_is in
    (first_bytes c.args.self.now (reply_in c.args.stepped sent) c.self.inside.base c.span-span.result.skip c.span-span.result.count c.args.from c.part_from.result base
    (c.span-span.ensures.places sent) c.span-span.ensures.inside c.if-from-span.true (rw c.segments.ensures at c.part_from.ensures)).0

pub returns-then-from-span-clause-end : goal.returns-then-from-span-clause-end
returns-then-from-span-clause-end c = λ sent.
    let base : c.self.inside.base ≡ writing_base c.args.self.now = c.self.invariant.base_is ∙ ap writing_base c.self.view_is in
    (first_bytes c.args.self.now (reply_in c.args.stepped sent) c.self.inside.base c.span-span.result.skip c.span-span.result.count c.args.from c.part_from.result base
    (c.span-span.ensures.places sent) c.span-span.ensures.inside c.if-from-span.true (rw c.segments.ensures at c.part_from.ensures)).1

pub returns-clause-bytes : goal.returns-clause-bytes
returns-clause-bytes c = λ sent.
    (last_bytes c.args.self.now (reply_in c.args.stepped sent) c.span-span.result.skip c.span-span.result.count c.args.from c.rest_from.result c.last.result
    (c.span-span.ensures.places sent) c.span-span.ensures.inside c.if-from-span.false (c.last.ensures.is sent) c.rest_from.ensures).0

pub returns-clause-end : goal.returns-clause-end
returns-clause-end c = λ sent.
    (last_bytes c.args.self.now (reply_in c.args.stepped sent) c.span-span.result.skip c.span-span.result.count c.args.from c.rest_from.result c.last.result
    (c.span-span.ensures.places sent) c.span-span.ensures.inside c.if-from-span.false (c.last.ensures.is sent) c.rest_from.ensures).1
