use Rattle.std.proofs.Common.{◌≡◌, ◌<◌, ◌≤◌, length, Some, slice_get, refl, arith}
use Rattle.std.proofs.lemmas.Option.{slice_get_read}
use Rattle.disk_calls.proofs.Numbers.{none_more, none_past}
use Rattle.disk_calls.proofs.calls.Calls.find.Goals as goal

pub loop-dev-preserved : goal.loop-dev-preserved
loop-dev-preserved c =
    let devices = c.self.inside.devices.items in
    let s = c.index.result.now in
    let below : c.loop-dev.dev < length devices = omega (arith, c.loop-dev-test.true, c.len-dev-end.ensures) in
    let is : slice_get devices c.loop-dev.dev ≡ Some s = slice_get_read devices (length devices) c.loop-dev.dev s refl below c.index.ensures in
    rw (← c.self.view_is) (none_more devices c.loop-dev.dev s c.args.number is (c.find.ensures.none c.in_default.is) (rw (← c.self.view_is) at c.loop-dev.invariant))

pub returns-clause-none : goal.returns-clause-none
returns-clause-none c =
    let devices = c.self.inside.devices.items in
    let past : length devices ≤ c.loop-dev.dev = omega (arith, c.loop-dev-test.false, c.len-dev-end.ensures) in
    rw (← c.self.view_is) (λ _. none_past devices c.loop-dev.dev c.args.number past (rw (← c.self.view_is) at c.loop-dev.invariant))
