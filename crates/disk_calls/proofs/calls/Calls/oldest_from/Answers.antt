use Rattle.std.proofs.Common.{◌≡◌, ◌<◌, ◌≤◌, Some, arith, length, refl, slice_get}
use Rattle.std.proofs.lemmas.Option.{slice_get_read}
use Rattle.disk_calls.specs.Calls.{AllCalls}
use Rattle.disk_calls.proofs.OldestCalls.{below_before, more_before, none_before, some_before, there_before}
use Rattle.disk_calls.proofs.calls.Calls.oldest_from.Goals as goal

pub loop-dev-preserved : goal.loop-dev-preserved
loop-dev-preserved c =
    let devices = c.self.inside.devices.items in
    let s = c.index.result.now in
    let below : c.loop-dev.dev < length devices = omega (arith, c.loop-dev-test.true, c.len-dev-end.ensures) in
    let is : slice_get devices c.loop-dev.dev ≡ Some s = slice_get_read devices (length devices) c.loop-dev.dev s refl below c.index.ensures in
    let found = c.oldest_from-found in
    rw (← c.self.view_is, c.older_listed-oldest.ensures) (more_before devices c.args.number c.loop-dev.dev s is c.loop-dev.oldest found.result found.ensures.some found.ensures.none (rw (← c.self.view_is) at c.loop-dev.invariant))

pub returns-clause-some : goal.returns-clause-some
returns-clause-some c =
    let calls : AllCalls = record { devices = c.self.inside.devices.items; turn = c.self.inside.turn; number = c.self.inside.number } in
    let past : length calls.devices ≤ c.loop-dev.dev = omega (arith, c.loop-dev-test.false, c.len-dev-end.ensures) in
    rw (← c.self.view_is) (some_before calls c.args.number c.loop-dev.dev c.loop-dev.oldest past (rw (← c.self.view_is) at c.loop-dev.invariant))

pub returns-clause-there : goal.returns-clause-there
returns-clause-there c =
    rw (← c.self.view_is) (there_before c.self.inside.devices.items c.args.number c.loop-dev.dev c.loop-dev.oldest (rw (← c.self.view_is) at c.loop-dev.invariant))

pub returns-clause-below : goal.returns-clause-below
returns-clause-below c =
    let calls : AllCalls = record { devices = c.self.inside.devices.items; turn = c.self.inside.turn; number = c.self.inside.number } in
    below_before calls c.args.number c.loop-dev.dev c.loop-dev.oldest c.self.invariant.1 (omega arith) (rw (← c.self.view_is) at c.loop-dev.invariant)

pub returns-clause-none : goal.returns-clause-none
returns-clause-none c =
    let calls : AllCalls = record { devices = c.self.inside.devices.items; turn = c.self.inside.turn; number = c.self.inside.number } in
    let past : length calls.devices ≤ c.loop-dev.dev = omega (arith, c.loop-dev-test.false, c.len-dev-end.ensures) in
    rw (← c.self.view_is) (none_before calls c.args.number c.loop-dev.dev c.loop-dev.oldest past (rw (← c.self.view_is) at c.loop-dev.invariant))
