use Rattle.vmig.proofs.ComparingVerdict.{arrival_differs, arrival_equal, refused_verdict}
use Rattle.vmig.proofs.comparing.judge.Goals as goal

pub returns : goal.returns
returns g c = λ contents rehearsed.
    let h = rw c.in-Refused.is at rehearsed in
    refused_verdict contents h.machine c.in-Refused.source h.marks c.in-Refused.replies.items c.in-Refused.error h.fresh h.steady h.is

pub returns-then-not-are_equal : goal.returns-then-not-are_equal
returns-then-not-are_equal g c = λ contents rehearsed.
    let h = rw c.in-Arrived.is at rehearsed in
    arrival_differs contents h.machine c.in-Arrived.source c.in-Arrived.arrived h.marks c.in-Arrived.replies.items c.in-Arrived.arrived_replies.items h.fresh h.steady h.is
    (rw (c.as_slice.ensures.value, c.as_slice-in-Arrived.ensures.value, c.if-not-are_equal.true) at c.are_equal.ensures)

pub returns-in-Arrived : goal.returns-in-Arrived
returns-in-Arrived g c = λ contents rehearsed.
    let h = rw c.in-Arrived.is at rehearsed in
    arrival_equal contents h.machine c.in-Arrived.source c.in-Arrived.arrived h.marks c.in-Arrived.replies.items c.in-Arrived.arrived_replies.items h.fresh h.steady h.is
    (rw (c.as_slice.ensures.value, c.as_slice-in-Arrived.ensures.value, c.if-not-are_equal.false) at c.are_equal.ensures)
