use Rattle.std.proofs.Common.{arith}
use Rattle.blk.specs.Sectors.{is_asked}
use Rattle.guestmem.specs.Memory.{Memory}
use Rattle.machine.proofs.At.{IsAt}
use Rattle.machine.proofs.Calling.{calls_disk, read_called}
use Rattle.machine.proofs.Keeping.{rings_stay}
use Rattle.machine.proofs.Known.{between_same, for_each}
use Rattle.machine.proofs.Over.{kept_at}
use Rattle.machine.proofs.Reading.{IsRead, device_there, held_so, no_memory, reads, sector_there}
use Rattle.machine.proofs.machine.MachineOver.read_sector.Goals as goal

pub invariant_of-self : goal.invariant_of-self
invariant_of-self g c =
    let i = c.self.inside in
    let at : IsAt i.devices.items c.args.dev c.index_mut.result.now = record { below = device_there no_memory i.devices.items c.args.dev c.args.n (rw (← c.self.view_is) at c.requires); is = c.index_mut.ensures.value } in
    for_each (g.M.GuestRam.known i.ram) _ (λ m may.
    let kept = kept_at (g.M.GuestRam.known i.ram) i.shapes.items i.rings.items i.devices.items c.self.invariant m may in
    (held_so i.shapes.items m i.devices.items c.args.dev c.index_mut.result.now c.read_sector.new.self at c.read_sector.ensures.state c.read_sector.ensures.sectors kept.0, rings_stay i.rings.items m i.devices.items c.args.dev c.read_sector.new.self kept.1))

pub returns-clause-read : goal.returns-clause-read
returns-clause-read g c =
    let i = c.self.inside in
    let there = rw (← c.self.view_is) at c.requires in
    let at : IsAt i.devices.items c.args.dev c.index_mut.result.now = record { below = device_there no_memory i.devices.items c.args.dev c.args.n there; is = c.index_mut.ensures.value } in
    let read : (m : Memory) → IsRead m i.devices.items c.args.dev c.args.n c.index_mut.result.now c.read_sector.new.self c.read_sector.new.buf c.read_sector.result = λ m. record {
      at = at;
      there = there;
      state = c.read_sector.ensures.state;
      sectors = c.read_sector.ensures.sectors;
      marks = c.read_sector.ensures.marks;
      unsteady = c.read_sector.ensures.unsteady;
      flushed = c.read_sector.ensures.flushed;
      is = c.read_sector.ensures.fetched;
    } in
    rw (← c.self.view_is) (between_same (g.M.GuestRam.known i.ram) _ (λ m may. reads m i.devices.items c.args.dev c.args.n c.index_mut.result.now c.read_sector.new.self c.read_sector.new.buf c.read_sector.result c.found.result (read m) c.found.ensures))

pub returns-clause-whatever : goal.returns-clause-whatever
returns-clause-whatever g c =
    let i = c.self.inside in
    let there = rw (← c.self.view_is) at c.requires in
    let at : IsAt i.devices.items c.args.dev c.index_mut.result.now = record { below = device_there no_memory i.devices.items c.args.dev c.args.n there; is = c.index_mut.ensures.value } in
    let read : (m : Memory) → IsRead m i.devices.items c.args.dev c.args.n c.index_mut.result.now c.read_sector.new.self c.read_sector.new.buf c.read_sector.result = λ m. record {
      at = at;
      there = there;
      state = c.read_sector.ensures.state;
      sectors = c.read_sector.ensures.sectors;
      marks = c.read_sector.ensures.marks;
      unsteady = c.read_sector.ensures.unsteady;
      flushed = c.read_sector.ensures.flushed;
      is = c.read_sector.ensures.fetched;
    } in
    rw (← c.self.view_is) (λ m. reads m i.devices.items c.args.dev c.args.n c.index_mut.result.now c.read_sector.new.self c.read_sector.new.buf c.read_sector.result c.found.result (read m) c.found.ensures)

pub returns-clause-calls : goal.returns-clause-calls
returns-clause-calls g c =
    let i = c.self.inside in
    let at : IsAt i.devices.items c.args.dev c.index_mut.result.now = record { below = device_there no_memory i.devices.items c.args.dev c.args.n (rw (← c.self.view_is) at c.requires); is = c.index_mut.ensures.value } in
    rw (← c.self.view_is, read_called c.read_sector.result c.found.result c.found.ensures)
    (calls_disk g.D.Disk.called (is_asked c.read_sector.result) no_memory no_memory i.devices.items c.args.dev c.index_mut.result.now c.read_sector.new.self at c.read_sector.ensures.calls)

pub index_mut-requires : goal.index_mut-requires
index_mut-requires g c = omega (arith, device_there no_memory c.self.inside.devices.items c.args.dev c.args.n (rw (← c.self.view_is) at c.requires))

pub read_sector-requires : goal.read_sector-requires
read_sector-requires g c =
    let i = c.self.inside in
    let has = rw (← c.self.view_is) at c.requires in
    sector_there no_memory i.devices.items c.args.dev c.args.n c.index_mut.result.now (record { below = device_there no_memory i.devices.items c.args.dev c.args.n has; is = c.index_mut.ensures.value }) has
