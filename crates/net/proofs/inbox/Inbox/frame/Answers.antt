use Rattle.std.proofs.Common.{rules}
use Rattle.net.proofs.Keeping.{kept_at, not_there}
use Rattle.net.proofs.inbox.Inbox.frame.Goals as goal

pub returns-in-Some-clause-frame : goal.returns-in-Some-clause-frame
returns-in-Some-clause-frame c = rw (c.as_slice.ensures, ← c.self.view_is) (kept_at _ _ c.args.number c.in-Some.frame.now c.self.invariant.are (search rules))

pub returns-in-None-clause-bytes : goal.returns-in-None-clause-bytes
returns-in-None-clause-bytes c = absurd (not_there _ c.args.number (rw (← c.self.view_is) at c.requires) (search rules))

pub returns-in-None-clause-frame : goal.returns-in-None-clause-frame
returns-in-None-clause-frame c = absurd (not_there _ c.args.number (rw (← c.self.view_is) at c.requires) (search rules))
