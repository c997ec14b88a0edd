use Rattle.std.proofs.Common.{◌≡◌, ◌*◌, ◌+◌, ◌≤◌, ◌<◌, ◌^◌, ℕ, ap, arith, length}
use Rattle.std.specs.Prelude.{slice_index, slice_set}
use Rattle.guestmem.specs.Memory.{IsMemory}
use Rattle.guestmem.specs.Page.{page_of}
use Rattle.machine.specs.Parked.{page_address}
use Rattle.machine.specs.Seen.{state_of}
use Rattle.machine.specs.State.{base_of}
use Rattle.c_handle.proofs.Mirroring.{IsServedPage, page_slice, pushed_live, served_page}
use Rattle.c_handle.proofs.PageAddresses.{address_fits}
use Rattle.c_handle.proofs.mirror.push_live_page.Goals as goal

pub overflow_add-base : goal.overflow_add-base
overflow_add-base g c =
    let n = c.args.n in
    let l = c.args.live.now in
    let sound : IsMemory l.machine.memory = rw (c.ram.ensures, c.machine.ensures) at c.recall-2.ensures.sound in
    let inside : 4096 * n + 4096 ≤ length l.machine.memory.bytes = omega (arith, sound.pages, c.requires.page) in
    let based : c.base-base.result ≡ base_of (state_of l.machine).devices = rw c.machine-2.ensures at c.base-base.ensures in
    let fits : base_of (state_of l.machine).devices + 4096 * n < 2 ^ 64 = address_fits l.machine n c.recall.ensures.sound inside in
    omega (arith, fits, based)

pub returns-clause-pushed : goal.returns-clause-pushed
returns-clause-pushed g c =
    let n = c.args.n in
    let l = c.args.live.now in
    let next = c.live_written-done.new.live in
    let sound : IsMemory l.machine.memory = rw (c.ram.ensures, c.machine.ensures) at c.recall-2.ensures.sound in
    let based : c.base-base.result ≡ base_of (state_of l.machine).devices = rw c.machine-2.ensures at c.base-base.ensures in
    let inside : 4096 * n + 4096 ≤ length l.machine.memory.bytes = omega (arith, sound.pages, c.requires.page) in
    let noted : c.version.result ≡ slice_index next.machine.memory.versions n = rw (c.ram-2.ensures, c.machine-3.ensures) at c.version.ensures in
    let was : IsServedPage l c.args.log.now (page_address l.machine n) (page_of c.args.ram.now n) next c.live_written-done.new.log =
    served_page l next _ _ n _ _ c.args.ram.now c.live_written-done.result c.requires.going c.recall.ensures (ap (λ (b : ℕ). b + 4096 * n) based) c.live_written-done.ensures.logged (page_slice c.args.ram.now n) inside c.requires.bytes in
    pushed_live l next _ _ n c.args.ram.now c.args.seen.now _ was (ap (slice_set c.args.seen.now n) noted)
