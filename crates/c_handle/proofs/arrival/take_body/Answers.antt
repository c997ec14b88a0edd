use Rattle.std.proofs.Common.{ap}
use Rattle.std.specs.Prelude.{Err}
use Rattle.c_handle.proofs.Awaited.{more_fed, more_refused, more_steady}
use Rattle.c_handle.proofs.arrival.take_body.Goals as goal

pub returns-in-Ok-clause-coming : goal.returns-in-Ok-clause-coming
returns-in-Ok-clause-coming c = more_steady c.args.receiver c.feed.new.self c.requires c.in-Ok.ensures.sizes c.in-Ok.ensures.marks

pub returns-in-Ok-clause-fed : goal.returns-in-Ok-clause-fed
returns-in-Ok-clause-fed c = more_fed c.args.receiver c.feed.new.self c.args.piece.now c.in-Ok.ensures.ram c.in-Ok.ensures.place c.in-Ok.ensures.sizes c.in-Ok.ensures.fed c.in-Ok.ensures.quiet

pub returns-in-Err-clause-refused : goal.returns-in-Err-clause-refused
returns-in-Err-clause-refused c = more_refused c.args.receiver c.feed.new.self.marks c.args.piece.now c.in-Err.error c.requires c.in-Err.ensures.marks c.in-Err.ensures.told (λ none. c.in-Err.ensures.memory (ap Err none))
