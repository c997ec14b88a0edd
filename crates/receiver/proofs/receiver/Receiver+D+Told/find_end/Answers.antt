use Rattle.std.proofs.Common.{arith, ap}
use Rattle.std.specs.Prelude.{length}
use Rattle.guestmem.specs.Number.{IsBytes}
use Rattle.receiver.proofs.Closes.{few_held}
use Rattle.receiver.proofs.receiver.Receiver+D+Told.find_end.Goals as goal

pub compare-requires : goal.compare-requires
compare-requires g c =
    let held = c.self.inside.held.items in
    let are : IsBytes held = rw c.deref.ensures.value at c.recall.ensures in
    omega (arith, few_held c.self.inside.reader held c.args.rest.now _ c.self.inside.lacking are (rw (← c.self.view_is) at c.requires.due) c.self.invariant, ap length c.deref-2.ensures.value)
