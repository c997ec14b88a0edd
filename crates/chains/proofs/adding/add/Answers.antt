use Rattle.std.proofs.Common.{refl, rules}
use Rattle.chains.proofs.Held.{held_writable, held_readable, out_of_order}
use Rattle.chains.proofs.adding.add.Goals as goal

pub returns-then-descriptor-clause-gives : goal.returns-then-descriptor-clause-gives
returns-then-descriptor-clause-gives c = λ ds h. held_writable _ _ ds c.args.descriptor.now c.args.chain.now _ h (search rules) c.if-descriptor.true refl c.in_ok-push.ensures.ok

pub returns-then-not-is_empty-clause-gives : goal.returns-then-not-is_empty-clause-gives
returns-then-not-is_empty-clause-gives c = λ ds h. out_of_order _ _ ds c.args.descriptor.now c.args.chain.now h c.if-descriptor.false (search rules)

pub returns-clause-gives : goal.returns-clause-gives
returns-clause-gives c = λ ds h. held_readable _ _ ds c.args.descriptor.now c.args.chain.now _ h (search rules) c.if-descriptor.false (search rules) c.in_ok-push-2.ensures.ok refl
