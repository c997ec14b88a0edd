use Rattle.std.proofs.Common.{◌<◌, ◌∙◌, arith, length}
use Rattle.std.proofs.lemmas.List.{length-set}
use Rattle.machine.proofs.Handing.{drop_on, drop_set, put_more}
use Rattle.machine.proofs.page_log.take_out.Goals as goal

pub loop-at-preserved : goal.loop-at-preserved
loop-at-preserved c =
    let i = c.loop-at in
    let n = c.in-Some.n in
    let there : i.at < length c.args.out.now = c.loop-at-test.true in
    let below : i.at < length i.out = omega (arith, there, i.invariant.size) in
    record {
      size = length-set i.out i.at n ∙ i.invariant.size;
      within = omega (arith, there);
      handed = rw c.in-Some.ensures.taken.1 (put_more c.args.set.now i.set i.out i.at n below i.invariant.handed c.in-Some.ensures.taken.0);
      rest = drop_set i.out i.at n ∙ drop_on i.out c.args.out.now i.at n below there i.invariant.rest;
      kept = c.in-Some.ensures.length ∙ i.invariant.kept;
    }
