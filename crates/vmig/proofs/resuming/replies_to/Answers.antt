use Rattle.std.proofs.lemmas.Result.{IfOk-weaker}
use Rattle.machine.specs.Seen.{AreHonest, state_of}
use Rattle.vmig.proofs.HonestDisks.{honest_dealt}
use Rattle.vmig.proofs.resuming.replies_to.Goals as goal

pub returns-clause-answered : goal.returns-clause-answered
returns-clause-answered g c = IfOk-weaker c.replies_of.result _ _ (λ replies applied. record {
  machine = c.in_ok-machine.machine;
  arrived = c.in_ok-machine.ensures.over;
  last = applied.0;
  applied = applied.1;
}) c.replies_of.ensures.applied

pub returns-clause-played : goal.returns-clause-played
returns-clause-played g c = λ honest.
    let marks : AreHonest c.in_ok-machine.machine = rw c.in_ok-machine.ensures.marks (honest_dealt _ _ honest) in
    IfOk-weaker c.replies_of.result _ _ (λ replies run. record {
      machine = state_of c.in_ok-machine.machine;
      arrived = c.in_ok-machine.ensures.arrived honest;
      last = run.0;
      run = run.1;
    }) (c.replies_of.ensures.run marks)
