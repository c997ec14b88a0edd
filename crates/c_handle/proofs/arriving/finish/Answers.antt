use Rattle.std.proofs.Common.{◌∙◌, sym}
use Rattle.c_handle.specs.Arriving.{FinishesState}
use Rattle.c_handle.specs.Kept.{admission_of, held_state}
use Rattle.c_handle.proofs.Arrivals.{ended_badly}
use Rattle.c_handle.proofs.SamePages.{ended_fits}
use Rattle.c_handle.proofs.arriving.finish.Goals.{in-Granted-2, in-Pending-2, in-Denied-2}
use Rattle.c_handle.proofs.arriving.finish.Goals as goal

pub invariant_of-kept-else-status-ne-DONE : goal.invariant_of-kept-else-status-ne-DONE
invariant_of-kept-else-status-ne-DONE c =
    let k = c.kept.inside in
    let ends : FinishesState (held_state k.held) c.finished_in-next.result.1 (held_state c.replace.new.dest) = rw (c.replace.ensures.after, ← c.taken_out.ensures) c.finished_in-next.ensures.ends in
    ended_fits k.output.written k.asked.places (held_state k.held) (held_state c.replace.new.dest) c.finished_in-next.result.1 c.kept.invariant (sym c.outgrows.ensures ∙ c.if-outgrows.false) ends

pub invariant_of-kept-then-status-ne-DONE-2 : goal.invariant_of-kept-then-status-ne-DONE-2
invariant_of-kept-then-status-ne-DONE-2 c =
    let k = c.kept.inside in
    let ends : FinishesState (held_state k.held) c.finished_in-next.result.1 (held_state c.replace.new.dest) = rw (c.replace.ensures.after, ← c.taken_out.ensures) c.finished_in-next.ensures.ends in
    ended_fits k.output.written k.asked.places (held_state k.held) (held_state c.replace.new.dest) c.finished_in-next.result.1 c.kept.invariant (sym c.outgrows.ensures ∙ c.if-outgrows.false) ends

pub returns-then-status-ne-DONE-clause-finishes : goal.returns-then-status-ne-DONE-clause-finishes
returns-then-status-ne-DONE-clause-finishes c =
    let k = c.kept.inside in
    let ends : FinishesState (held_state k.held) c.finished_in-next.result.1 (held_state c.replace.new.dest) = rw (c.replace.ensures.after, ← c.taken_out.ensures) c.finished_in-next.ensures.ends in
    let told = ended_badly k.asked.places (admission_of k.admission) (held_state k.held) c.finished_in-next.result.1 (held_state c.replace.new.dest) c.finish_refusal.result (rw (← c.kept.view_is) at c.finish_refusal.ensures) c.in_default.is (sym c.outgrows.ensures ∙ c.if-outgrows.false) ends c.if-status-ne-DONE.true in
    elim c.match-kept-2.branch [
      | in-Granted-2 w ↦ rw (w.kept-is, ← c.kept.view_is) told
      | in-Pending-2 w ↦ rw (w.kept-is, ← c.kept.view_is) told
      | in-Denied-2 w ↦ rw (w.kept-is, ← c.kept.view_is) told
    ]
