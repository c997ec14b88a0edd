use Rattle.std.proofs.Common.{rules}
use Rattle.net.proofs.Keeping.{removed}
use Rattle.net.proofs.inbox.Inbox.remove_first.Goals as goal

pub invariant_of-self : goal.invariant_of-self
invariant_of-self c =
    rw (c.pop_front.ensures.items, c.push_reserved.ensures.items, c.push_reserved.ensures.capacity)
    (removed _ _ _ _ _ c.in-Some.frame c.self.invariant (search rules))
