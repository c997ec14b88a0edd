use Rattle.std.proofs.Common.{arith, length, refl}
use Rattle.c_handle.specs.Kept.{Moving}
use Rattle.c_handle.proofs.Mirrored.{IsReady, ready}
use Rattle.c_handle.proofs.Mirroring.{page_at}
use Rattle.c_handle.proofs.mirror.push_moving.Goals as goal

pub loop-n-init : goal.loop-n-init
loop-n-init g c =
    let l = c.args.live.now in
    let are : IsReady (Moving l) c.args.pages.now (length c.args.ram.now) (length c.args.seen.now) = ready (Moving l) c.args.pages.now (length c.args.ram.now) (length c.args.seen.now) c.requires.pushable in
    record { way = λ next new_log new_seen pushed. pushed; bytes = refl; versions = refl; going = are.going; fits = c.requires.fits }

pub push_live_page-requires-clause-page : goal.push_live_page-requires-clause-page
push_live_page-requires-clause-page g c =
    let l = c.args.live.now in
    let are : IsReady (Moving l) c.args.pages.now (length c.args.ram.now) (length c.args.seen.now) = ready (Moving l) c.args.pages.now (length c.args.ram.now) (length c.args.seen.now) c.requires.pushable in
    omega (arith, page_at (length l.machine.memory.versions) c.args.pages.now c.loop-n.n-index are.are c.loop-n-test.true, c.loop-n.invariant.versions)

pub push_live_page-requires-clause-bytes : goal.push_live_page-requires-clause-bytes
push_live_page-requires-clause-bytes g c =
    let l = c.args.live.now in
    let are : IsReady (Moving l) c.args.pages.now (length c.args.ram.now) (length c.args.seen.now) = ready (Moving l) c.args.pages.now (length c.args.ram.now) (length c.args.seen.now) c.requires.pushable in
    omega (arith, are.room, c.loop-n.invariant.bytes)

pub push_live_page-requires-clause-entries : goal.push_live_page-requires-clause-entries
push_live_page-requires-clause-entries g c =
    let l = c.args.live.now in
    let are : IsReady (Moving l) c.args.pages.now (length c.args.ram.now) (length c.args.seen.now) = ready (Moving l) c.args.pages.now (length c.args.ram.now) (length c.args.seen.now) c.requires.pushable in
    omega (arith, are.places, c.loop-n.invariant.versions)
