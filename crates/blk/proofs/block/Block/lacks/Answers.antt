use Rattle.std.proofs.Common.{◌≡◌, Some, arith, length, refl}
use Rattle.std.proofs.lemmas.Option.{slice_get_read}
use Rattle.std.specs.Prelude.{slice_get}
use Rattle.blk.specs.declared.request.Request.{Request}
use Rattle.blk.proofs.block.Block.lacks.Goals as goal

pub returns : goal.returns
returns c =
    let requests = c.as_slice-requests.result.now in
    let r : Request = c.index-requests-k.result in
    let there : slice_get requests c.args.k ≡ Some r = slice_get_read requests (length requests) c.args.k r refl (omega (arith, c.if-k-requests.false)) c.index-requests-k.is in
    rw (← c.as_slice-requests.ensures, there) c.lacks.ensures
