use Rattle.std.proofs.Common.{◌≡◌, ◌<◌, Some, arith, length, refl, slice_get}
use Rattle.std.proofs.lemmas.Option.{slice_get_read}
use Rattle.disk_calls.proofs.calls.Calls.next_of.Goals as goal

pub requests-requires : goal.requests-requires
requests-requires g c = omega (arith, c.requires.there, c.requires.alike)

pub next-requires : goal.next-requires
next-requires g c = record { some = c.requires.some; within = c.requests.ensures.within }

pub returns-clause-some : goal.returns-clause-some
returns-clause-some g c =
    let items = c.self.inside.devices.items in
    let there = c.requires.there in
    let below : c.args.dev < length items = rw (← c.self.view_is) at there in
    let here : slice_get c.args.self.now.devices c.args.dev ≡ Some c.index.result.now = rw (← c.self.view_is) (slice_get_read items (length items) c.args.dev c.index.result.now refl below c.index.ensures) in
    rw (here, ← c.requests.ensures.requests) c.next.ensures.some

pub returns-clause-part : goal.returns-clause-part
returns-clause-part g c =
    let items = c.self.inside.devices.items in
    let there = c.requires.there in
    let below : c.args.dev < length items = rw (← c.self.view_is) at there in
    let here : slice_get c.args.self.now.devices c.args.dev ≡ Some c.index.result.now = rw (← c.self.view_is) (slice_get_read items (length items) c.args.dev c.index.result.now refl below c.index.ensures) in
    rw (here, ← c.requests.ensures.requests) c.next.ensures.part

pub returns-clause-first : goal.returns-clause-first
returns-clause-first g c =
    let items = c.self.inside.devices.items in
    let there = c.requires.there in
    let below : c.args.dev < length items = rw (← c.self.view_is) at there in
    let here : slice_get c.args.self.now.devices c.args.dev ≡ Some c.index.result.now = rw (← c.self.view_is) (slice_get_read items (length items) c.args.dev c.index.result.now refl below c.index.ensures) in
    rw (here, ← c.requests.ensures.requests) c.next.ensures.first

pub returns-clause-none : goal.returns-clause-none
returns-clause-none g c =
    let items = c.self.inside.devices.items in
    let there = c.requires.there in
    let below : c.args.dev < length items = rw (← c.self.view_is) at there in
    let here : slice_get c.args.self.now.devices c.args.dev ≡ Some c.index.result.now = rw (← c.self.view_is) (slice_get_read items (length items) c.args.dev c.index.result.now refl below c.index.ensures) in
    rw (here, ← c.requests.ensures.requests) c.next.ensures.none
