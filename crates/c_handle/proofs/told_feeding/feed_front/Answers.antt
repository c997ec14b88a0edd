use Rattle.std.proofs.Common.{rules, ◌≡◌, ◌∙◌, arith, drop, sym, take}
use Rattle.c_handle.specs.Kept.{admission_of}
use Rattle.c_handle.specs.ToldArrival.{IsDueAt}
use Rattle.c_handle.proofs.ToldFeeding.{admitted_fine, due_after, joins, more_first, was_refused}
use Rattle.c_handle.proofs.told_feeding.feed_front.Goals as goal

pub returns-in-Some-clause-feeds : goal.returns-in-Some-clause-feeds
returns-in-Some-clause-feeds c = rw c.refused.ensures.status (was_refused (admission_of c.args.admission.now) c.args.arrival.now c.args.piece.now c.in-Some.status c.refused.result.used (sym c.end_refusal.ensures ∙ c.in-Some.is))

pub returns-then-is_due-clause-feeds : goal.returns-then-is_due-clause-feeds
returns-then-is_due-clause-feeds c =
    let byte = c.split_at-in-loop-used.result.0.now in
    let is : byte ≡ take 1 (drop c.loop-used.used c.args.piece.now) = search rules in
    let due : IsDueAt c.loop-used.arrival byte = search rules in
    due_after c.loop-used.used (admission_of c.args.admission.now) (admission_of c.loop-used.admission) c.args.arrival.now c.loop-used.arrival c.args.piece.now byte c.loop-used.invariant.takes is due (c.is_due.ensures.digests due)

pub loop-used-preserved : goal.loop-used-preserved
loop-used-preserved c =
    let i = c.loop-used.invariant in
    let byte = c.split_at-in-loop-used.result.0.now in
    let is : byte ≡ take 1 (drop c.loop-used.used c.args.piece.now) = search rules in
    let takes = c.feed_byte.ensures.taken c.in_default-feed_byte.is in
    record {
      takes = more_first c.loop-used.used (admission_of c.args.admission.now) (admission_of c.loop-used.admission) (admission_of c.feed_byte.new.admission) c.args.arrival.now c.loop-used.arrival c.feed_byte.new.arrival c.args.piece.now byte i.takes (omega (arith, c.loop-used-test.true)) is takes;
      fine = admitted_fine (admission_of c.loop-used.admission) (admission_of c.feed_byte.new.admission) byte takes.admitted;
      disks = c.feed_byte.ensures.disks ∙ i.disks;
    }

pub returns-clause-feeds : goal.returns-clause-feeds
returns-clause-feeds c =
    let used = c.loop-used.used in
    let rest : c.split_at-2.result.1.now ≡ drop used c.args.piece.now = search rules in
    let fed = c.feed_rest-fed in
    joins used fed.result.status fed.result.used (admission_of c.args.admission.now) (admission_of c.loop-used.admission) (admission_of fed.new.admission) c.args.arrival.now c.loop-used.arrival fed.new.arrival c.args.piece.now c.loop-used.invariant.takes (rw rest at fed.ensures.feeds)
