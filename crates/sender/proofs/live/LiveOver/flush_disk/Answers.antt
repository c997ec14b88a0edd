use Rattle.std.proofs.Common.{refl}
use Rattle.sender.proofs.HereOrLent.{flush_kept, flushed_over}
use Rattle.sender.proofs.live.LiveOver.flush_disk.Goals as goal

pub invariant_of-self : goal.invariant_of-self
invariant_of-self g c =
    let i = c.self.inside in
    let was = c.flush_disk in
    flush_kept g.M.GuestRam.known i.machine was.new.self i.phase i.due i.logs.first.set i.logs.first.firsts.items i.at c.args.dev was.result c.self.invariant was.ensures.flushed was.ensures.whatever

pub returns-clause-flushed : goal.returns-clause-flushed
returns-clause-flushed g c =
    let i = c.self.inside in
    let was = c.flush_disk in
    rw (← c.self.view_is) (flushed_over g.M.GuestRam.known i.machine was.new.self i.phase i.due i.logs.first.set (g.W.Sink.sum i.writer) (g.W.Sink.state i.writer) c.args.dev was.result was.ensures.flushed)

pub returns-clause-whatever : goal.returns-clause-whatever
returns-clause-whatever g c = λ m. rw (← c.self.view_is) (record { flushes = c.flush_disk.ensures.whatever m; rest = refl })
