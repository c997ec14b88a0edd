use Rattle.std.proofs.Common.{◌∙◌, ap, arith, sym}
use Rattle.machine.specs.Seen.{DeviceSeen}
use Rattle.machine.proofs.At.{IsAt, map-set_same}
use Rattle.machine.proofs.Keeping.{rings_stay}
use Rattle.machine.proofs.Known.{between_same, for_each}
use Rattle.machine.proofs.Over.{held_at, kept_at}
use Rattle.machine.proofs.Unsynced.{flushes_there, held_tried, same_devices, tried}
use Rattle.machine.proofs.machine.MachineOver.fail_flush.Goals as goal

pub invariant_of-self : goal.invariant_of-self
invariant_of-self g c =
    let i = c.self.inside in
    let at : IsAt i.devices.items c.args.dev c.index_mut.result.now = record { below = omega arith; is = c.index_mut.ensures.value } in
    for_each (g.M.GuestRam.known i.ram) _ (λ m may.
    let kept = kept_at (g.M.GuestRam.known i.ram) i.shapes.items i.rings.items i.devices.items c.self.invariant m may in
    (held_tried i.shapes.items m i.devices.items c.args.dev c.args.pick c.index_mut.result.now c.fail_flush.new.self at c.fail_flush.ensures.device kept.0 (c.ranges.dev.fits, c.ranges.pick.fits), rings_stay i.rings.items m i.devices.items c.args.dev c.fail_flush.new.self kept.1))

pub returns-clause-was : goal.returns-clause-was
returns-clause-was g c =
    let i = c.self.inside in
    let at : IsAt i.devices.items c.args.dev c.index_mut.result.now = record { below = omega arith; is = c.index_mut.ensures.value } in
    rw (← c.self.view_is) (c.fail_flush.ensures.was ∙ sym (flushes_there i.devices.items c.args.dev c.args.pick c.index_mut.result.now at))

pub returns-clause-failed : goal.returns-clause-failed
returns-clause-failed g c =
    let i = c.self.inside in
    let at : IsAt i.devices.items c.args.dev c.index_mut.result.now = record { below = omega arith; is = c.index_mut.ensures.value } in
    rw (← c.self.view_is) (between_same (g.M.GuestRam.known i.ram) _ (λ m may.
    tried i.shapes.items m i.devices.items c.args.dev c.args.pick c.index_mut.result.now c.fail_flush.new.self c.fail_flush.result at c.fail_flush.ensures.device (held_at (g.M.GuestRam.known i.ram) i.shapes.items i.rings.items i.devices.items c.self.invariant m may) (c.ranges.dev.fits, c.ranges.pick.fits) (sym c.fail_flush.ensures.was)))

pub returns-clause-same : goal.returns-clause-same
returns-clause-same g c =
    let i = c.self.inside in
    let at : IsAt i.devices.items c.args.dev c.index_mut.result.now = record { below = omega arith; is = c.index_mut.ensures.value } in
    rw (← c.self.view_is) (λ none. ap (λ ds. record { memory = i.ram; devices = ds }) (same_devices i.devices.items c.args.dev c.args.pick c.index_mut.result.now c.fail_flush.new.self at c.fail_flush.ensures.device (sym c.fail_flush.ensures.was ∙ none)))

pub returns-clause-sectors : goal.returns-clause-sectors
returns-clause-sectors g c =
    let i = c.self.inside in
    let at : IsAt i.devices.items c.args.dev c.index_mut.result.now = record { below = omega arith; is = c.index_mut.ensures.value } in
    rw (← c.self.view_is) (map-set_same (λ (x : DeviceSeen). x.sectors) i.devices.items c.args.dev c.index_mut.result.now c.fail_flush.new.self at (ap (λ (x : DeviceSeen). x.sectors) c.fail_flush.ensures.device))

pub returns-clause-calls : goal.returns-clause-calls
returns-clause-calls g c =
    let i = c.self.inside in
    let at : IsAt i.devices.items c.args.dev c.index_mut.result.now = record { below = omega arith; is = c.index_mut.ensures.value } in
    rw (← c.self.view_is) (map-set_same (λ (x : DeviceSeen). x.calls) i.devices.items c.args.dev c.index_mut.result.now c.fail_flush.new.self at (ap (λ (x : DeviceSeen). x.calls) c.fail_flush.ensures.device))
