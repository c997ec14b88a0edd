use Rattle.std.proofs.Common.{◌≡◌, ◌≤◌, ◌∙◌, length, length-set, set, refl, ap, arith}
use Rattle.std.specs.List.{remove}
use Rattle.std.proofs.lemmas.Option.{get_or_from_slice_get}
use Rattle.disk_calls.specs.Calls.{AllCalls, CallsState}
use Rattle.disk_calls.proofs.Numbers.{numbered_removed}
use Rattle.disk_calls.proofs.calls.Calls.remove.Goals as goal

pub invariant_of-self : goal.invariant_of-self
invariant_of-self c =
    let old : AllCalls = record { devices = c.self.inside.devices.items; turn = c.self.inside.turn; number = c.self.inside.number } in
    let place = c.args.place in
    let at = rw (← c.self.view_is) at c.requires.1 in
    let same : c.index_mut.result.now ≡ at.device = c.index_mut.ensures.value ∙ get_or_from_slice_get old.devices place.dev at.device c.index_mut.result.now at.there in
    let after : c.remove.new.self ≡ record at.device { outs = remove at.device.outs place.i } = c.remove.ensures ∙ ap (λ (s : CallsState). record s { outs = remove s.outs place.i }) same in
    let room : c.self.inside.turn ≤ length (set old.devices place.dev c.remove.new.self) = omega (arith, c.self.invariant.0, length-set old.devices place.dev c.remove.new.self) in
    (room, rw after (numbered_removed old place.dev at.device place.i at.there c.self.invariant.1))

pub returns-clause-answered : goal.returns-clause-answered
returns-clause-answered c =
    let old : AllCalls = record { devices = c.self.inside.devices.items; turn = c.self.inside.turn; number = c.self.inside.number } in
    let place = c.args.place in
    let at = rw (← c.self.view_is) at c.requires.1 in
    let same : c.index_mut.result.now ≡ at.device = c.index_mut.ensures.value ∙ get_or_from_slice_get old.devices place.dev at.device c.index_mut.result.now at.there in
    let after : c.remove.new.self ≡ record at.device { outs = remove at.device.outs place.i } = c.remove.ensures ∙ ap (λ (s : CallsState). record s { outs = remove s.outs place.i }) same in
    rw (← c.self.view_is, at.there) (rw after refl)
