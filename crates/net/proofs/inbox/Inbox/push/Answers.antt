use Rattle.std.proofs.Common.{rules}
use Rattle.net.proofs.Keeping.{pushed}
use Rattle.net.proofs.inbox.Inbox.push.Goals as goal

pub invariant_of-self-2 : goal.invariant_of-self-2
invariant_of-self-2 c =
    rw (c.push_back.ensures.items) (pushed _ _ _ _ _ _ c.in-Some.room _ (rw (← c.in-Some.ensures.capacity) at c.self.invariant) (search rules) c.fill.ensures.room
    (rw (c.fill.ensures.bytes) (record { long = c.requires.long; short = rw (← c.self.view_is) at c.requires.short; are = c.recall_bytes.ensures })))
