use Rattle.std.proofs.Common.{◌∙◌, length, map, sym}
use Rattle.machine.specs.NextWork.{can_work_at, in_turn_after}
use Rattle.machine.specs.Seen.{DeviceSeen}
use Rattle.machine.proofs.NextWork.{found_has, none_can}
use Rattle.machine.proofs.Over.{held_at}
use Rattle.machine.proofs.Parking.{few_held, some_held, sound_held}
use Rattle.machine.proofs.machine.MachineOver.next_work_with_lost.Goals as goal

pub next_in_turn-requires-clause-sound : goal.next_in_turn-requires-clause-sound
next_in_turn-requires-clause-sound g c =
    let i = c.self.inside in
    let there = c.size-size.ensures.some in
    rw c.as_slice.ensures.value (sound_held i.shapes.items _ (held_at (g.M.GuestRam.known i.ram) i.shapes.items i.rings.items i.devices.items c.self.invariant there.0 there.1))

pub returns-clause-some : goal.returns-clause-some
returns-clause-some g c =
    let states = map (λ (d : DeviceSeen). d.state) c.self.inside.devices.items in
    let is = rw c.as_slice.ensures.value at c.next_in_turn.ensures in
    rw (← c.self.view_is, is) (found_has (can_work_at c.args.lost.now states) (in_turn_after c.args.last (length states)))

pub returns-clause-none : goal.returns-clause-none
returns-clause-none g c = λ none.
    let states = map (λ (d : DeviceSeen). d.state) c.self.inside.devices.items in
    let is = rw c.as_slice.ensures.value at c.next_in_turn.ensures in
    rw (← c.self.view_is) (none_can states c.args.lost.now c.args.last (sym is ∙ none))

pub next_in_turn-requires-clause-some : goal.next_in_turn-requires-clause-some
next_in_turn-requires-clause-some g c =
    let i = c.self.inside in
    let there = c.size-size.ensures.some in
    rw c.as_slice.ensures.value (some_held i.shapes.items _ (held_at (g.M.GuestRam.known i.ram) i.shapes.items i.rings.items i.devices.items c.self.invariant there.0 there.1))

pub next_in_turn-requires-clause-few : goal.next_in_turn-requires-clause-few
next_in_turn-requires-clause-few g c =
    let i = c.self.inside in
    let there = c.size-size.ensures.some in
    rw c.as_slice.ensures.value (few_held i.shapes.items _ (held_at (g.M.GuestRam.known i.ram) i.shapes.items i.rings.items i.devices.items c.self.invariant there.0 there.1))

pub returns-clause-next : goal.returns-clause-next
returns-clause-next g c = rw (← c.self.view_is) (rw c.as_slice.ensures.value at c.next_in_turn.ensures)
