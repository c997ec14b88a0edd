use Rattle.std.proofs.Common.{true, arith}
use Rattle.machine.proofs.At.{IsAt}
use Rattle.machine.proofs.Keeping.{rings_stay}
use Rattle.machine.proofs.Reading.{IsReadGood, device_there, good_there, held_so, not_bad, reads_good}
use Rattle.machine.proofs.Calling.{calls_disk}
use Rattle.machine.proofs.machine.bad_sectors.MachineOver+D+Ram.read_good_sector.Goals as goal

pub invariant_of-self : goal.invariant_of-self
invariant_of-self g c =
    let ram = c.self.inside.ram in
    let ds = c.self.inside.devices.items in
    let there = good_there ram ds c.args.dev c.args.n (rw (← c.self.view_is) at c.requires) in
    let at : IsAt ds c.args.dev c.index_mut.result.now = record { below = device_there ram ds c.args.dev c.args.n there; is = c.index_mut.ensures.value } in (
      held_so c.self.inside.shapes.items ram ds c.args.dev c.index_mut.result.now c.read_good.new.self at c.read_good.ensures.state c.read_good.ensures.sectors c.self.invariant.0,
      rings_stay c.self.inside.rings.items ram ds c.args.dev c.read_good.new.self c.self.invariant.1,
    )

pub returns-clause-read : goal.returns-clause-read
returns-clause-read g c =
    let ram = c.self.inside.ram in
    let ds = c.self.inside.devices.items in
    let good = rw (← c.self.view_is) at c.requires in
    let there = good_there ram ds c.args.dev c.args.n good in
    let at : IsAt ds c.args.dev c.index_mut.result.now = record { below = device_there ram ds c.args.dev c.args.n there; is = c.index_mut.ensures.value } in
    let read : IsReadGood ram ds c.args.dev c.args.n c.index_mut.result.now c.read_good.new.self c.read_good.new.buf c.read_good.result = record {
      at = at;
      there = there;
      good = not_bad ram ds c.args.dev c.args.n c.index_mut.result.now at good;
      state = c.read_good.ensures.state;
      sectors = c.read_good.ensures.sectors;
      marks = c.read_good.ensures.marks;
      unsteady = c.read_good.ensures.unsteady;
      flushed = c.read_good.ensures.flushed;
      is = c.read_good.ensures.fetched;
    } in
    rw (← c.self.view_is) (reads_good ram ds c.args.dev c.args.n c.index_mut.result.now c.read_good.new.self c.read_good.new.buf c.read_good.result read)

pub returns-clause-calls : goal.returns-clause-calls
returns-clause-calls g c =
    let i = c.self.inside in
    let there = good_there i.ram i.devices.items c.args.dev c.args.n (rw (← c.self.view_is) at c.requires) in
    let at : IsAt i.devices.items c.args.dev c.index_mut.result.now = record { below = device_there i.ram i.devices.items c.args.dev c.args.n there; is = c.index_mut.ensures.value } in
    rw (← c.self.view_is) (calls_disk g.D.Disk.called true i.ram i.ram i.devices.items c.args.dev c.index_mut.result.now c.read_good.new.self at c.read_good.ensures.calls)

pub index_mut-requires : goal.index_mut-requires
index_mut-requires g c =
    let i = c.self.inside in
    omega (arith, device_there i.ram i.devices.items c.args.dev c.args.n (good_there i.ram i.devices.items c.args.dev c.args.n (rw (← c.self.view_is) at c.requires)))
