use Rattle.std.proofs.Common.{arith, length}
use Rattle.c_handle.specs.Kept.{Still}
use Rattle.c_handle.proofs.Mirrored.{IsReady, ready}
use Rattle.c_handle.proofs.Mirroring.{page_at}
use Rattle.c_handle.proofs.mirror.push_still.Goals as goal

pub push_page-requires-clause-page : goal.push_page-requires-clause-page
push_page-requires-clause-page g c =
    let m = c.args.machine.now in
    let are : IsReady (Still m) c.args.pages.now (length c.args.ram.now) (length c.args.seen.now) = ready (Still m) c.args.pages.now (length c.args.ram.now) (length c.args.seen.now) c.requires.pushable in
    omega (arith, page_at (length m.memory.versions) c.args.pages.now c.loop-n.n-index are.are c.loop-n-test.true, c.loop-n.invariant.versions)
