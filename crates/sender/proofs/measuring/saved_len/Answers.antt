use Rattle.std.proofs.Common.{subst, sym, arith}
use Rattle.std.specs.Prelude.{All}
use Rattle.machine.specs.Seen.{state_of}
use Rattle.machine.specs.Sound.{IsSoundShape}
use Rattle.machine.specs.Layout.{pages_of}
use Rattle.wire.specs.Header.{opening_of}
use Rattle.wire.specs.Stream.{shapes_in}
use Rattle.sender.proofs.Numbers.{few_made}
use Rattle.sender.proofs.SavedLengths.{shapes_are_sound, whole_long}
use Rattle.sender.proofs.measuring.saved_len.Goals as goal

pub header_len-requires-clause-sound : goal.header_len-requires-clause-sound
header_len-requires-clause-sound g c =
    let m = state_of c.args.machine.now in
    subst (λ (shapes : _). All IsSoundShape shapes) (sym c.shapes-shapes.ensures.shapes) (shapes_are_sound m c.shapes-shapes.ensures.sound)

pub devices_len-requires-clause-few : goal.devices_len-requires-clause-few
devices_len-requires-clause-few g c = rw c.devices.ensures (few_made c.shapes-shapes.result.now c.args.machine.now.devices c.shapes-shapes.ensures.made c.shapes-shapes.ensures.few)

pub devices_len-requires-clause-sound : goal.devices_len-requires-clause-sound
devices_len-requires-clause-sound g c = rw c.devices.ensures c.shapes-shapes.ensures.devices

pub returns : goal.returns
returns g c =
    let m = state_of c.args.machine.now in
    let heads = c.header_len.ensures.len (opening_of (pages_of m) (shapes_in m.devices)) (sym c.shapes-shapes.ensures.shapes) in
    omega (arith, whole_long m c.header_len.result c.pages_len.result c.sectors_len.result c.devices_len.result heads c.pages_len.ensures.len c.sectors_len.ensures.len (rw c.devices.ensures at c.devices_len.ensures.len))
