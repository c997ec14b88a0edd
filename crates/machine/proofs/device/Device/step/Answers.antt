use Rattle.std.proofs.Common.{◌≡◌, ◌∙◌, length, refl, sym, Some}
use Rattle.guestmem.proofs.RisesLaws.{touches_none}
use Rattle.machine.specs.Seen.{calls_of, marks_of, sectors_of}
use Rattle.machine.specs.Shapes.{made_as, sector_count}
use Rattle.machine.proofs.Calling.{idle_uncalled, looked_uncalled, outside_uncalled}
use Rattle.machine.proofs.Stepping.{idle_step, none_without}
use Rattle.machine.proofs.device.Device.step.Goals as goal

pub look-requires-clause-fits : goal.look-requires-clause-fits
look-requires-clause-fits g c = rw c.in-Split.is at (c.looked_ring.ensures.fits c.args.ram.now c.requires.fits)

pub look-requires-in-Packed-clause-fits : goal.look-requires-in-Packed-clause-fits
look-requires-in-Packed-clause-fits g c = rw c.in-Packed.is at (c.looked_ring.ensures.fits c.args.ram.now c.requires.fits)

pub returns-in_default-clause-step : goal.returns-in_default-clause-step
returns-in_default-clause-step g c =
    let i = c.self.inside in
    let none : sector_count (made_as i.state.kind) ≡ 0 = sym (rw (← c.self.view_is, c.in_default.is) at c.requires.capacity) in
    rw (← c.self.view_is)
    (idle_step _ c.args.work.dev (marks_of i.disk).honest c.args.ram.now.bytes (sectors_of i.disk) i.state c.args.work.pick (rw (← c.self.view_is) at c.requires.whole) (c.looked_ring.ensures.none c.if-looked_ring.false)
    (none_without (length c.args.ram.now.bytes) i.state c.args.work.pick (rw (← c.self.view_is) at c.requires.sound) (sym c.is_outside.ensures ∙ c.if-is_outside.false) none) (touches_none g.L.TouchLog.after c.args.log.now c.args.log.now c.args.ram.now c.args.ram.now refl refl))

pub returns-in_default-clause-fits : goal.returns-in_default-clause-fits
returns-in_default-clause-fits g c = c.looked_ring.ensures.fits c.args.ram.now c.requires.fits

pub advance-requires-clause-fits : goal.advance-requires-clause-fits
advance-requires-clause-fits g c = rw c.in-Split-ring.is at (c.advanced_ring.ensures.fits c.args.ram.now (c.looked_ring.ensures.fits c.args.ram.now c.requires.fits))

pub advance-requires-in-Packed-ring-clause-fits : goal.advance-requires-in-Packed-ring-clause-fits
advance-requires-in-Packed-ring-clause-fits g c = rw c.in-Packed-ring.is at (c.advanced_ring.ensures.fits c.args.ram.now (c.looked_ring.ensures.fits c.args.ram.now c.requires.fits))

pub returns-clause-step : goal.returns-clause-step
returns-clause-step g c =
    let i = c.self.inside in
    let disk = c.in-Some.sectors in
    rw (← c.self.view_is, c.in-Some.is)
    (idle_step _ c.args.work.dev disk.honest c.args.ram.now.bytes disk.content i.state c.args.work.pick (rw (← c.self.view_is, c.in-Some.is) at c.requires.whole) (c.looked_ring.ensures.none c.if-looked_ring.false)
    (c.advanced_ring.ensures.none c.if-advanced_ring.false) (touches_none g.L.TouchLog.after c.args.log.now c.args.log.now c.args.ram.now c.args.ram.now refl refl))

pub returns-clause-fits : goal.returns-clause-fits
returns-clause-fits g c = c.advanced_ring.ensures.fits c.args.ram.now (c.looked_ring.ensures.fits c.args.ram.now c.requires.fits)

pub returns-in-Split-clause-calls : goal.returns-in-Split-clause-calls
returns-in-Split-clause-calls g c =
    let i = c.self.inside in
    rw (← c.self.view_is)
    (looked_uncalled (length c.args.ram.now.bytes) i.state c.args.work.pick _ _ g.D.Disk.called (calls_of i.disk) (rw (← c.self.view_is) at c.requires.sound) (c.looked_ring.ensures.ring c.if-looked_ring.true))

pub returns-in-Packed-clause-calls : goal.returns-in-Packed-clause-calls
returns-in-Packed-clause-calls g c =
    let i = c.self.inside in
    rw (← c.self.view_is)
    (looked_uncalled (length c.args.ram.now.bytes) i.state c.args.work.pick _ _ g.D.Disk.called (calls_of i.disk) (rw (← c.self.view_is) at c.requires.sound) (c.looked_ring.ensures.ring c.if-looked_ring.true))

pub returns-clause-calls : goal.returns-clause-calls
returns-clause-calls g c =
    let i = c.self.inside in
    rw (← c.self.view_is, c.in-Some.is)
    (idle_uncalled (length c.args.ram.now.bytes) i.state c.args.work.pick _ g.D.Disk.called (Some c.in-Some.sectors.calls) (rw (← c.self.view_is) at c.requires.sound) (c.advanced_ring.ensures.none c.if-advanced_ring.false))

pub returns-then-is_outside-clause-step : goal.returns-then-is_outside-clause-step
returns-then-is_outside-clause-step g c =
    let i = c.self.inside in
    rw (← c.self.view_is) (c.step_outside.ensures.step c.args.sent.now.items (marks_of i.disk).honest (sectors_of i.disk) (rw (← c.self.view_is) at c.requires.whole))

pub step_outside-requires-clause-fits : goal.step_outside-requires-clause-fits
step_outside-requires-clause-fits g c = c.looked_ring.ensures.fits c.args.ram.now c.requires.fits

pub returns-then-is_outside-clause-calls : goal.returns-then-is_outside-clause-calls
returns-then-is_outside-clause-calls g c =
    let i = c.self.inside in
    rw (← c.self.view_is)
    (outside_uncalled i.state c.args.work.pick _ g.D.Disk.called (calls_of i.disk) (sym c.is_outside.ensures ∙ c.if-is_outside.true))
