use Rattle.std.proofs.Common.{◌≤◌, arith, length}
use Rattle.guestmem.specs.Memory.{IsMemory}
use Rattle.c_handle.specs.Mirror.{is_noted}
use Rattle.c_handle.proofs.Mirrored.{long_left, long_right}
use Rattle.c_handle.proofs.Pulling.{few_pulled, one_at_most, pull_more}
use Rattle.c_handle.proofs.mirror.pull_all.Goals as goal

pub overflow_add-count : goal.overflow_add-count
overflow_add-count c =
    let sound : IsMemory c.args.memory.now = c.page_count-n-end.ensures.sound in
    omega (arith, few_pulled _ _ _ _ _ c.loop-n.count c.loop-n.n c.loop-n.invariant, one_at_most (is_noted c.args.memory.now c.loop-n.seen c.loop-n.n) c.pull_page-count.result c.pull_page-count.ensures.copied, sound.few)

pub loop-n-preserved : goal.loop-n-preserved
loop-n-preserved c =
    let m = c.args.memory.now in
    let room : length m.bytes ≤ length c.args.ram.now = long_left (length c.args.ram.now) (length m.bytes) (length c.args.seen.now) (length m.versions) c.requires in
    let places : length m.versions ≤ length c.args.seen.now = long_right (length c.args.ram.now) (length m.bytes) (length c.args.seen.now) (length m.versions) c.requires in
    pull_more m c.args.ram.now c.loop-n.ram c.pull_page-count.new.ram c.args.seen.now c.loop-n.seen c.pull_page-count.new.seen c.loop-n.count c.pull_page-count.result c.loop-n.n
    c.page_count-n-end.ensures.sound (omega arith) (omega (arith, room)) places c.loop-n.invariant c.pull_page-count.ensures.ram c.pull_page-count.ensures.seen c.pull_page-count.ensures.copied
