use Rattle.std.proofs.Common.{arith, sym}
use Rattle.std.proofs.lemmas.List.{take_all}
use Rattle.machine.proofs.Raised.{no_lines, one_more, lines_low, line_low, bit_low}
use Rattle.machine.proofs.machine.getters.lines_of.Goals as goal

pub loop-device-init : goal.loop-device-init
loop-device-init g c = no_lines c.args.devices.now c.requires

pub overflow_add-lines : goal.overflow_add-lines
overflow_add-lines g c =
    let i = c.loop-device in
    omega (
      arith,
      c.raised-lines.ensures,
      bit_low c.state.result.now i.line,
      line_low i.device-index c.args.devices.now i.line i.lines c.loop-device-test.true i.invariant,
      lines_low i.device-index c.args.devices.now i.line i.lines (omega (arith, c.loop-device-test.true)) i.invariant,
    )

pub loop-device-preserved : goal.loop-device-preserved
loop-device-preserved g c =
    let i = c.loop-device in
    one_more i.device-index c.args.devices.now c.device-item.result i.line i.lines c.raised-lines.result c.loop-device-test.true (sym c.device-item.is) (rw c.state.ensures at c.raised-lines.ensures) i.invariant

pub overflow_cast-result : goal.overflow_cast-result
overflow_cast-result g c =
    let i = c.loop-device in
    omega (arith, lines_low i.device-index c.args.devices.now i.line i.lines (omega (arith, i.auto.device-index-end)) i.invariant)

pub returns : goal.returns
returns g c =
    let all = rw (take_all c.loop-device.device-index c.args.devices.now c.loop-device-test.false) at c.loop-device.invariant.lines in
    all
