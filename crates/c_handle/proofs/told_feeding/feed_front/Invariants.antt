use Rattle.std.proofs.Common.{◌≡◌, ◌-◌, length}
use Rattle.std.specs.Prelude.{None}
use Rattle.c_handle.specs.Admission.{first_refusal}
use Rattle.c_handle.specs.Awaited.{is_over}
use Rattle.c_handle.specs.Kept.{admission_of}
use Rattle.c_handle.specs.ToldFeeding.{TakesFirst}
use Rattle.c_handle.proofs.told_feeding.feed_front.Given as goal

abbrev pub invariant-loop-used : goal.invariant-loop-used
invariant-loop-used l = record {
  takes : TakesFirst l.used (admission_of l.fn.admission) l.fn.arrival l.piece (admission_of l.admission) l.arrival;
  fine : first_refusal (admission_of l.admission) ≡ None;
  disks : is_over l.arrival ≡ is_over l.fn.arrival;
}

abbrev pub decreases-loop-used : goal.decreases-loop-used
decreases-loop-used l = length l.piece - l.used
