use Rattle.std.proofs.Common.{◌≡◌, ◌≤◌, ◌∙◌, length, length-set, set, refl, ap, arith}
use Rattle.std.proofs.lemmas.Option.{get_or_from_slice_get}
use Rattle.disk_calls.specs.Calls.{AllCalls, CallsState, in_turn, with_out}
use Rattle.disk_calls.proofs.Numbers.{numbered_pushed, there_by_call}
use Rattle.disk_calls.proofs.calls.Calls.next.Goals as goal

pub hand_out-requires-clause-may : goal.hand_out-requires-clause-may
hand_out-requires-clause-may g c =
    let old : AllCalls = record { devices = c.self.inside.devices.items; turn = c.self.inside.turn; number = c.self.inside.number } in
    let found = c.in_ok-dev.field-0 in
    let next = rw (← c.self.view_is) at c.in_ok-dev.ensures.some in
    let at = there_by_call c.args.most old (g.T.Asks.asked c.args.machine.now) found.dev found.wanted.k found.wanted.call next.may in
    let same : c.index_mut.result.now ≡ at.0 = c.index_mut.ensures.value ∙ get_or_from_slice_get old.devices found.dev at.0 c.index_mut.result.now at.1 in
    rw (same, c.requests.ensures.requests) at.2

pub invariant_of-self : goal.invariant_of-self
invariant_of-self g c =
    let old : AllCalls = record { devices = c.self.inside.devices.items; turn = c.self.inside.turn; number = c.self.inside.number } in
    let found = c.in_ok-dev.field-0 in
    let next = rw (← c.self.view_is) at c.in_ok-dev.ensures.some in
    let at = there_by_call c.args.most old (g.T.Asks.asked c.args.machine.now) found.dev found.wanted.k found.wanted.call next.may in
    let same : c.index_mut.result.now ≡ at.0 = c.index_mut.ensures.value ∙ get_or_from_slice_get old.devices found.dev at.0 c.index_mut.result.now at.1 in
    let after : c.hand_out.new.self ≡ with_out at.0 old.number found.wanted.call = c.hand_out.ensures ∙ ap (λ (s : CallsState). with_out s old.number found.wanted.call) same in
    let room : c.in_turn-self-inside.result ≤ length (set c.self.inside.devices.items found.dev c.hand_out.new.self) = omega (arith, c.in_turn-self-inside.ensures.there, c.len.ensures, length-set c.self.inside.devices.items found.dev c.hand_out.new.self) in
    (room, rw after (numbered_pushed old found.dev at.0 found.wanted.call c.in_turn-self-inside.result at.1 c.self.invariant.1))

pub returns-clause-some : goal.returns-clause-some
returns-clause-some g c =
    let old : AllCalls = record { devices = c.self.inside.devices.items; turn = c.self.inside.turn; number = c.self.inside.number } in
    let found = c.in_ok-dev.field-0 in
    let next = rw (← c.self.view_is) at c.in_ok-dev.ensures.some in
    let at = there_by_call c.args.most old (g.T.Asks.asked c.args.machine.now) found.dev found.wanted.k found.wanted.call next.may in
    let same : c.index_mut.result.now ≡ at.0 = c.index_mut.ensures.value ∙ get_or_from_slice_get old.devices found.dev at.0 c.index_mut.result.now at.1 in
    let after : c.hand_out.new.self ≡ with_out at.0 old.number found.wanted.call = c.hand_out.ensures ∙ ap (λ (s : CallsState). with_out s old.number found.wanted.call) same in
    let count : c.len.result ≡ length old.devices = omega (arith, c.len.ensures) in
    let turn : c.in_turn-self-inside.result ≡ in_turn found.dev (length old.devices) 1 = rw count at c.in_turn-self-inside.ensures.turn in
    rw (← c.self.view_is) (record { next = next; number = refl; device = at.0; was = at.1; after = rw (after, turn) refl })
