use Rattle.std.proofs.Common.{◌-◌, length}
use Rattle.sender.specs.Reads.{ReadsBelow}
use Rattle.sender.specs.Stopping.{lesser}
use Rattle.sender.proofs.NextLeft.{Onward, reached}
use Rattle.sender.proofs.live.LiveOver+D+W+Ram.send_all.Given as goal

abbrev pub invariant-items : goal.invariant-items
invariant-items g l = record {
  onward : Onward l.fn.self l.due l.dirty l.pages l.sent l.self;
  reads : ReadsBelow g.D.Disk.called l.fn.self (reached (lesser l.due l.dirty) (length l.fn.self.due)) l.self;
}

abbrev pub decreases-items : goal.decreases-items
decreases-items g l = length l.fn.self.due - reached (lesser l.due l.dirty) (length l.fn.self.due)
