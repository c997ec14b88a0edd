use Rattle.std.proofs.Common.{map}
use Rattle.machine.specs.NextWork.{can_work_at}
use Rattle.machine.specs.Seen.{DeviceSeen}
use Rattle.machine.proofs.NextWork.{IsSearched}
use Rattle.machine.proofs.machine.next_work.next_in_turn.Given as goal

abbrev pub invariant-loop-turn : goal.invariant-loop-turn
invariant-loop-turn g l = IsSearched (can_work_at l.fn.lost (map (λ (d : DeviceSeen). d.state) l.fn.devices)) l.count l.first l.pick l.turn l.from
