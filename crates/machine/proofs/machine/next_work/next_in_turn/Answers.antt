use Rattle.std.proofs.Common.{◌≡◌, ◌+◌, ◌*◌, length, map, Some, ap, sym, ◌∙◌, arith}
use Rattle.std.proofs.lemmas.List.{length-map}
use Rattle.std.specs.Prelude.{slice_get}
use Rattle.machine.specs.NextWork.{can_work_at, next_from, next_work_with_lost}
use Rattle.machine.specs.Seen.{DeviceSeen}
use Rattle.machine.specs.State.{DeviceState}
use Rattle.machine.proofs.At.{IsAt, found}
use Rattle.machine.proofs.NextWork.{found_in_turn, none_in_turns, none_of_device, not_searched, own_sound, searched_on, some_of_device}
use Rattle.machine.proofs.machine.next_work.next_in_turn.Goals as goal

pub loop-turn-init : goal.loop-turn-init
loop-turn-init g c = not_searched (can_work_at c.args.lost.now (map (λ (d : DeviceSeen). d.state) c.args.devices.now)) _ c.first_in_turn-first.result.0 c.first_in_turn-first.result.1 c.first_in_turn-first.ensures.low (omega arith)

pub first_pick-requires : goal.first_pick-requires
first_pick-requires g c =
    let at : IsAt c.args.devices.now c.device_in_turn-dev.result c.index-devices-dev.result = record { below = c.device_in_turn-dev.ensures.there; is = c.index-devices-dev.is } in
    rw c.state.ensures (record { sound = (c.requires.sound.0, own_sound c.args.devices.now c.device_in_turn-dev.result c.index-devices-dev.result at c.requires.sound) })

pub returns-in-Some : goal.returns-in-Some
returns-in-Some g c =
    let states = map (λ (d : DeviceSeen). d.state) c.args.devices.now in
    let count = length c.args.devices.now in
    let i = c.loop-turn in
    let dev = c.device_in_turn-dev.result in
    let at : IsAt c.args.devices.now dev c.index-devices-dev.result = record { below = c.device_in_turn-dev.ensures.there; is = c.index-devices-dev.is } in
    let there : slice_get states dev ≡ Some c.state.result.now = found c.args.devices.now dev c.index-devices-dev.result at ∙ ap (λ (d : DeviceState). Some d) (sym c.state.ensures) in
    let order : next_work_with_lost states c.args.lost.now c.args.last ≡ next_from (can_work_at c.args.lost.now states) count (256 * c.first_in_turn-first.result.0 + c.first_in_turn-first.result.1) = rw length-map (c.first_in_turn-first.ensures.order (can_work_at c.args.lost.now states)) in
    sym (order
    ∙ found_in_turn (can_work_at c.args.lost.now states) count c.first_in_turn-first.result.0 c.first_in_turn-first.result.1 i.turn i.from dev (record { dev = dev; pick = c.in-Some.pick }) (c.first_in_turn-first.ensures.there c.requires.some) (omega arith) (omega arith) c.device_in_turn-dev.ensures.before c.device_in_turn-dev.ensures.around
    i.invariant (some_of_device states c.args.lost.now dev i.from c.in-Some.pick c.state.result.now c.first_pick.result there i.invariant.few (rw c.is_lost.ensures at c.first_pick.ensures) c.in-Some.is))

pub loop-turn-preserved : goal.loop-turn-preserved
loop-turn-preserved g c =
    let states = map (λ (d : DeviceSeen). d.state) c.args.devices.now in
    let i = c.loop-turn in
    let dev = c.device_in_turn-dev.result in
    let at : IsAt c.args.devices.now dev c.index-devices-dev.result = record { below = c.device_in_turn-dev.ensures.there; is = c.index-devices-dev.is } in
    let there : slice_get states dev ≡ Some c.state.result.now = found c.args.devices.now dev c.index-devices-dev.result at ∙ ap (λ (d : DeviceState). Some d) (sym c.state.ensures) in
    searched_on (can_work_at c.args.lost.now states) _ c.first_in_turn-first.result.0 c.first_in_turn-first.result.1 i.turn i.from dev (c.first_in_turn-first.ensures.there c.requires.some) c.device_in_turn-dev.ensures.before c.device_in_turn-dev.ensures.around
    i.invariant (none_of_device states c.args.lost.now dev i.from c.state.result.now c.first_pick.result there i.invariant.few (rw c.is_lost.ensures at c.first_pick.ensures) c.in_default.is)

pub returns : goal.returns
returns g c =
    let states = map (λ (d : DeviceSeen). d.state) c.args.devices.now in
    let count = length c.args.devices.now in
    let i = c.loop-turn in
    let order : next_work_with_lost states c.args.lost.now c.args.last ≡ next_from (can_work_at c.args.lost.now states) count (256 * c.first_in_turn-first.result.0 + c.first_in_turn-first.result.1) = rw length-map (c.first_in_turn-first.ensures.order (can_work_at c.args.lost.now states)) in
    sym (order
    ∙ none_in_turns (can_work_at c.args.lost.now states) count c.first_in_turn-first.result.0 c.first_in_turn-first.result.1 i.turn i.from (c.first_in_turn-first.ensures.there c.requires.some) (omega arith) c.loop-turn-test.false i.invariant)
