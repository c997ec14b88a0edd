use Rattle.std.proofs.Common.{◌≡◌, ◌<◌, ◌^◌, replicate, false, rules}
use Rattle.sender.proofs.Living.{live_first}
use Rattle.sender.proofs.live.make_room.Goals as goal

pub returns-clause-live : goal.returns-clause-live
returns-clause-live g c =
    let size = c.in_ok-firsts.size in
    let few : size < 2 ^ 64 = search rules in
    let left : c.in_ok-due.due ≡ replicate size false = search rules in
    let set_ : c.in_ok-set.set ≡ replicate size false = search rules in
    live_first c.args.machine.now c.in_ok-due.due c.in_ok-set.set c.in_ok-firsts.firsts.items size c.shapes-shapes.ensures.sound c.in_ok-firsts.ensures.firsts c.in_ok-firsts.ensures.size few left set_
