use Rattle.traces.specs.Trace.{contents_of}
use Rattle.vmig.specs.Playing.{IsOutput}
use Rattle.vmig.specs.Words.{name_in}
use Rattle.vmig.proofs.Answered.{answered_image, told_image}
use Rattle.vmig.proofs.playing.replies_over.Goals as goal

pub returns-clause-answered : goal.returns-clause-answered
returns-clause-answered g c =
    rw c.in-Some.is (answered_image _ (λ r. r.items) c.replies_to-2.result (IsOutput g.R.File.Write.contents (name_in c.args.stream)) (contents_of c.args.trace.now) c.in_ok-disks.disks.items c.in-Some.name.now c.in_ok-disks.ensures.one c.replies_to-2.ensures.answered)

pub returns-clause-failed : goal.returns-clause-failed
returns-clause-failed g c =
    rw c.in-Some.is (told_image _ c.replies_to-2.result (name_in c.args.stream) (contents_of c.args.trace.now) c.in_ok-disks.disks.items c.in-Some.name.now c.in_ok-disks.ensures.one c.replies_to-2.ensures.failed)
