use Rattle.std.proofs.Common.{◌∙◌}
use Rattle.std.proofs.lemmas.List.{length-map}
use Rattle.machine.proofs.At.{shapes_seen}
use Rattle.machine.proofs.Known.{for_each}
use Rattle.machine.proofs.OfShapes.{has_sectors_of}
use Rattle.machine.proofs.Over.{held_at}
use Rattle.machine.proofs.Parking.{few_held, sound_held}
use Rattle.machine.proofs.machine.MachineOver.shapes.Goals as goal

pub returns-clause-made : goal.returns-clause-made
returns-clause-made g c =
    let i = c.self.inside in
    let there = c.size-size.ensures.some in
    rw (← c.self.view_is) (c.as_slice.ensures.value ∙ (held_at (g.M.GuestRam.known i.ram) i.shapes.items i.rings.items i.devices.items c.self.invariant there.0 there.1).shapes_are)

pub returns-clause-shapes : goal.returns-clause-shapes
returns-clause-shapes g c =
    let i = c.self.inside in
    let there = c.size-size.ensures.some in
    rw (← c.self.view_is) (c.as_slice.ensures.value ∙ (held_at (g.M.GuestRam.known i.ram) i.shapes.items i.rings.items i.devices.items c.self.invariant there.0 there.1).shapes_are ∙ shapes_seen i.devices.items)

pub returns-clause-few : goal.returns-clause-few
returns-clause-few g c =
    let i = c.self.inside in
    let there = c.size-size.ensures.some in
    let held = held_at (g.M.GuestRam.known i.ram) i.shapes.items i.rings.items i.devices.items c.self.invariant there.0 there.1 in
    rw (c.as_slice.ensures.value, held.shapes_are, length-map) (few_held i.shapes.items _ held)

pub returns-clause-devices : goal.returns-clause-devices
returns-clause-devices g c =
    let i = c.self.inside in
    let there = c.size-size.ensures.some in
    rw (← c.self.view_is) (sound_held i.shapes.items _ (held_at (g.M.GuestRam.known i.ram) i.shapes.items i.rings.items i.devices.items c.self.invariant there.0 there.1))

pub returns-clause-sound : goal.returns-clause-sound
returns-clause-sound g c =
    let i = c.self.inside in
    rw (← c.self.view_is) (for_each (g.M.GuestRam.known i.ram) _ (λ m may. (held_at (g.M.GuestRam.known i.ram) i.shapes.items i.rings.items i.devices.items c.self.invariant m may).sound))

pub returns-clause-sectors : goal.returns-clause-sectors
returns-clause-sectors g c =
    let i = c.self.inside in
    rw (← c.self.view_is) (for_each (g.M.GuestRam.known i.ram) _ (λ m may.
    let held = held_at (g.M.GuestRam.known i.ram) i.shapes.items i.rings.items i.devices.items c.self.invariant m may in
    has_sectors_of _ _ held.sound (c.as_slice.ensures.value ∙ held.shapes_are ∙ shapes_seen i.devices.items)))
