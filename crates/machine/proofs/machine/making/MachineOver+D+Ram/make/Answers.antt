use Rattle.std.proofs.Common.{◌≡◌, ◌∙◌, length, map, None, Some, sym, ap, subst, arith}
use Rattle.machine.specs.Board.{ram_size}
use Rattle.machine.specs.First.{made_machine, make_refusal}
use Rattle.machine.specs.Limits.{IsWithinLimits}
use Rattle.machine.specs.State.{MachineState}
use Rattle.machine.proofs.Fresh.{is_put_on}
use Rattle.machine.proofs.machine.making.MachineOver+D+Ram.make.Goals as goal

pub returns-in-Some-clause-memory : goal.returns-in-Some-clause-memory
returns-in-Some-clause-memory g c = λ none.
    let refused : c.refusal.result ≡ make_refusal c.args.board.limits c.args.board.base (ram_size c.args.board.ram) c.args.board.shapes.now (map (λ d. length (g.D.Disk.state d).sectors) c.args.board.disks.items) = rw (c.len.ensures, c.as_slice.ensures.value) at c.refusal.ensures in
    let both : Some c.in-Some.error ≡ None = sym c.in-Some.is ∙ refused ∙ none in
    cc

pub restore_in-requires-clause-sound : goal.restore_in-requires-clause-sound
restore_in-requires-clause-sound g c =
    let b = c.args.board in
    let p = c.in-Ok.parts in
    (is_put_on g.D.Disk.state b.limits b.base b.ram c.in-Ok-into_ram.ram.bytes b.shapes.now b.disks.items p.states.items p.bad.items (record { pages = omega arith; sectors = omega arith; frame = omega arith }) (sym (rw (c.len.ensures, c.as_slice.ensures.value) at c.refusal.ensures) ∙ c.in_default.is) c.in-Ok-into_ram.ensures.bytes c.recall.ensures.bytes c.in-Ok.ensures.bytes
    (rw c.as_slice-2.ensures.value at c.in-Ok.ensures.whole) (rw c.len-2.ensures at c.in-Ok.ensures.states) (rw c.as_slice-2.ensures.value at c.in-Ok.ensures.good)).sound

pub restore_in-requires-clause-shapes : goal.restore_in-requires-clause-shapes
restore_in-requires-clause-shapes g c =
    let b = c.args.board in
    let p = c.in-Ok.parts in
    c.in-Ok.ensures.shapes ∙ (is_put_on g.D.Disk.state b.limits b.base b.ram c.in-Ok-into_ram.ram.bytes b.shapes.now b.disks.items p.states.items p.bad.items (record { pages = omega arith; sectors = omega arith; frame = omega arith }) (sym (rw (c.len.ensures, c.as_slice.ensures.value) at c.refusal.ensures) ∙ c.in_default.is) c.in-Ok-into_ram.ensures.bytes c.recall.ensures.bytes c.in-Ok.ensures.bytes
    (rw c.as_slice-2.ensures.value at c.in-Ok.ensures.whole) (rw c.len-2.ensures at c.in-Ok.ensures.states) (rw c.as_slice-2.ensures.value at c.in-Ok.ensures.good)).shapes_are

pub restore_in-requires-clause-bad : goal.restore_in-requires-clause-bad
restore_in-requires-clause-bad g c =
    let b = c.args.board in
    let p = c.in-Ok.parts in
    (is_put_on g.D.Disk.state b.limits b.base b.ram c.in-Ok-into_ram.ram.bytes b.shapes.now b.disks.items p.states.items p.bad.items (record { pages = omega arith; sectors = omega arith; frame = omega arith }) (sym (rw (c.len.ensures, c.as_slice.ensures.value) at c.refusal.ensures) ∙ c.in_default.is) c.in-Ok-into_ram.ensures.bytes c.recall.ensures.bytes c.in-Ok.ensures.bytes
    (rw c.as_slice-2.ensures.value at c.in-Ok.ensures.whole) (rw c.len-2.ensures at c.in-Ok.ensures.states) (rw c.as_slice-2.ensures.value at c.in-Ok.ensures.good)).marks

pub returns-in-Ok-into_ram-clause-made : goal.returns-in-Ok-into_ram-clause-made
returns-in-Ok-into_ram-clause-made g c =
    let b = c.args.board in
    let p = c.in-Ok.parts in
    let put = is_put_on g.D.Disk.state b.limits b.base b.ram c.in-Ok-into_ram.ram.bytes b.shapes.now b.disks.items p.states.items p.bad.items (record { pages = omega arith; sectors = omega arith; frame = omega arith }) (sym (rw (c.len.ensures, c.as_slice.ensures.value) at c.refusal.ensures) ∙ c.in_default.is) c.in-Ok-into_ram.ensures.bytes c.recall.ensures.bytes c.in-Ok.ensures.bytes
    (rw c.as_slice-2.ensures.value at c.in-Ok.ensures.whole) (rw c.len-2.ensures at c.in-Ok.ensures.states) (rw c.as_slice-2.ensures.value at c.in-Ok.ensures.good) in
    c.restore_in.ensures.restored ∙ put.made ∙ ap (λ bytes. made_machine b.base bytes b.shapes.now (map (λ d. map Some (g.D.Disk.state d).sectors) b.disks.items)) c.in-Ok-into_ram.ensures.bytes

pub returns-in-Ok-into_ram-clause-within : goal.returns-in-Ok-into_ram-clause-within
returns-in-Ok-into_ram-clause-within g c =
    let b = c.args.board in
    let p = c.in-Ok.parts in
    let put = is_put_on g.D.Disk.state b.limits b.base b.ram c.in-Ok-into_ram.ram.bytes b.shapes.now b.disks.items p.states.items p.bad.items (record { pages = omega arith; sectors = omega arith; frame = omega arith }) (sym (rw (c.len.ensures, c.as_slice.ensures.value) at c.refusal.ensures) ∙ c.in_default.is) c.in-Ok-into_ram.ensures.bytes c.recall.ensures.bytes c.in-Ok.ensures.bytes
    (rw c.as_slice-2.ensures.value at c.in-Ok.ensures.whole) (rw c.len-2.ensures at c.in-Ok.ensures.states) (rw c.as_slice-2.ensures.value at c.in-Ok.ensures.good) in
    subst (λ (m : MachineState). IsWithinLimits b.limits m) (sym c.restore_in.ensures.restored) put.within

pub returns-in-Ok-into_ram-clause-refused : goal.returns-in-Ok-into_ram-clause-refused
returns-in-Ok-into_ram-clause-refused g c =
    let none : make_refusal c.args.board.limits c.args.board.base (ram_size c.args.board.ram) c.args.board.shapes.now (map (λ d. length (g.D.Disk.state d).sectors) c.args.board.disks.items) ≡ None = sym (rw (c.len.ensures, c.as_slice.ensures.value) at c.refusal.ensures) ∙ c.in_default.is in
    rw none tt
