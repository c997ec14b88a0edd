use Rattle.std.proofs.Common.{◌≡◌, length, map, arith}
use Rattle.machine.specs.Seen.{DeviceSeen}
use Rattle.wire.specs.Stream.{device_texts}
use Rattle.sender.proofs.HereOrLent.{stops_within}
use Rattle.sender.proofs.Numbers.{few_made}
use Rattle.sender.proofs.live.LiveOver.most_by_stop.Goals as goal

pub devices_len-requires-clause-few : goal.devices_len-requires-clause-few
devices_len-requires-clause-few g c = rw c.devices.ensures (few_made c.shapes-shapes.result.now c.self.inside.machine.devices c.shapes-shapes.ensures.made c.shapes-shapes.ensures.few)

pub devices_len-requires-clause-sound : goal.devices_len-requires-clause-sound
devices_len-requires-clause-sound g c = rw c.devices.ensures c.shapes-shapes.ensures.devices

pub returns : goal.returns
returns g c =
    let i = c.self.inside in
    let items = rw (← c.self.view_is) at c.left-items.ensures in
    let states : c.devices_len.result ≡ length (device_texts 0 (map (λ (d : DeviceSeen). d.state) i.machine.devices)) = rw c.devices.ensures at c.devices_len.ensures.len in
    rw (← c.self.view_is) (
      stops_within (g.M.GuestRam.known i.machine.memory) i.machine.devices i.phase i.due i.logs.first.set i.logs.first.firsts.items i.at c.self.invariant c.shapes-shapes.ensures.sound (g.W.Sink.sum i.writer) (g.W.Sink.state i.writer) c.devices_len.result c.most_bytes.result states
          (omega (arith, c.most_bytes.ensures, items.due_pages, items.dirty_pages, items.due_sectors, items.dirty_sectors)),
      omega (arith, c.most_bytes.ensures, states, items.due_pages, items.dirty_pages, items.due_sectors, items.dirty_sectors),
    )
