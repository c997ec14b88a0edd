use Rattle.std.proofs.Common.{◌≡◌, drop, length}
use Rattle.net.proofs.inbox.Inbox.clear.Given as goal

abbrev pub invariant-loop : goal.invariant-loop
invariant-loop l = record {
  longest : l.self.longest ≡ l.fn.self.longest;
  frames : l.self.frames ≡ drop l.counter l.fn.self.frames;
  end : l.end ≡ length l.fn.self.frames;
}
