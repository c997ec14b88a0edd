use Rattle.std.proofs.Common.{arith, ◌++◌, take, []}
use Rattle.streams.proofs.told.told_refusal.Goals as goal

pub loop-fed-init : goal.loop-fed-init
loop-fed-init c = record { within = omega arith; summed = ([], c.told-receiver.ensures.fed, c.new-sum.ensures) }

pub closed-requires-clause-summed : goal.closed-requires-clause-summed
closed-requires-clause-summed c =
    let s = c.loop-fed.invariant.summed in
    let piece = c.split_at-in-loop-fed.result.0.now in
    (s.0 ++ take c.in-Ok.taken.used piece, c.in-Ok.ensures.feeds.fed s.0 s.1, rw c.split_at-in-loop-fed-2.ensures.front at (c.update.ensures s.0 s.2))
