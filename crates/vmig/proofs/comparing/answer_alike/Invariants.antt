use Rattle.std.proofs.Common.{◌≡◌, map, take}
use Rattle.sender.specs.declared.event.LiveReply.TheVariants.{Guest}
use Rattle.vmig.proofs.comparing.answer_alike.Given as goal

abbrev pub invariant-loop-i : goal.invariant-loop-i
invariant-loop-i l = take l.i l.last ≡ map Guest (take l.i l.arrived)
