use Rattle.std.proofs.Common.{◌≡◌, ◌*◌, ◌+◌, ◌≤◌, ◌<◌, ◌^◌, ℕ, ap, arith, length}
use Rattle.std.specs.Prelude.{slice_index, slice_set}
use Rattle.guestmem.specs.Memory.{IsMemory}
use Rattle.machine.specs.Seen.{state_of}
use Rattle.machine.specs.State.{base_of}
use Rattle.c_handle.proofs.Mirroring.{page_slice, pushed_still}
use Rattle.c_handle.proofs.PageAddresses.{address_fits}
use Rattle.c_handle.proofs.mirror.push_page.Goals as goal

pub overflow_add-base : goal.overflow_add-base
overflow_add-base g c =
    let n = c.args.n in
    let m = c.args.machine.now in
    let sound : IsMemory m.memory = rw c.ram.ensures at c.recall.ensures.sound in
    let inside : 4096 * n + 4096 ≤ length m.memory.bytes = omega (arith, sound.pages, c.requires.page) in
    let fits : base_of (state_of m).devices + 4096 * n < 2 ^ 64 = address_fits m n c.shapes-shapes.ensures.sound inside in
    omega (arith, fits, c.base-base.ensures)

pub returns-clause-pushed : goal.returns-clause-pushed
returns-clause-pushed g c =
    let n = c.args.n in
    let m = c.args.machine.now in
    let next = c.written-done.new.machine in
    let sound : IsMemory m.memory = rw c.ram.ensures at c.recall.ensures.sound in
    let inside : 4096 * n + 4096 ≤ length m.memory.bytes = omega (arith, sound.pages, c.requires.page) in
    let noted : c.version.result ≡ slice_index next.memory.versions n = rw c.ram-2.ensures at c.version.ensures in
    pushed_still m next _ _ n _ _ c.args.ram.now c.args.seen.now _ c.written-done.result c.shapes-shapes.ensures.sound (ap (λ (b : ℕ). b + 4096 * n) c.base-base.ensures) c.written-done.ensures.logged (page_slice c.args.ram.now n) inside c.requires.bytes (ap (slice_set c.args.seen.now n) noted)
