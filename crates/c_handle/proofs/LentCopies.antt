-- Pages that are handed in, sectors that are sent, rounds that end and pages that are marked, while RAM is lent.
use Rattle.std.proofs.Common.{◌≡◌, ℕ, ◌+◌, ◌*◌, ◌++◌, List, [], false, refl, ap, ◌∙◌, subst, append-nil}
use Rattle.std.specs.Prelude.{Some}
use Rattle.region.specs.declared.region.Region.{Region}
use Rattle.machine.specs.State.{MachineState}
use Rattle.sender.specs.History.{History}
use Rattle.sender.specs.Marks.{IsBehind}
use Rattle.sender.specs.Parked.{LiveParkedSeen}
use Rattle.sender.specs.ParkedCalls.{LentCall, a_failed_page, a_mark, a_page, a_round_end, a_sector, an_unsent_sector, bytes_in, events_in, missing_in, over_with, sent_in}
use Rattle.sender.specs.Taking.{untaken}
use Rattle.sender.proofs.HandingIn.{handed_in, handing_failed}
use Rattle.sender.proofs.MarkingLent.{marked_lent}
use Rattle.sender.proofs.RoundLent.{round_ended}
use Rattle.sender.proofs.SectorSent.{sector_sent, sector_unsent}
use Rattle.sender.proofs.StepBeside.{GoesOnLent}
use Rattle.wire.specs.Sinks.{SinkState, over_writer}
use Rattle.c_handle.specs.Sent.{FailedHandingsStaySent, HandingsStaySent, LentMarksStaySent, LentRoundsStaySent, LentSectorsStaySent, SendsOnLent, UnsentSectorsStaySent, lent_base}
use Rattle.c_handle.proofs.LentSent.{not_stopped, still_open}

abbrev all : SinkState
all = over_writer (Some []) 0 false

sends_on : (m : MachineState) (h : History) (taken pages : List ℕ) (before : Region) (c : LentCall) (p next : LiveParkedSeen) → GoesOnLent m h all taken pages before c p next → bytes_in c ≡ [] → SendsOnLent m h taken (events_in c) (sent_in c) (missing_in pages c) (over_with before c) next
sends_on m h taken pages before c p next gone none = record {
  history = gone.history;
  is_sent = record {
    lender = gone.after;
    is_sent = subst (λ (t : List ℕ). IsBehind m gone.history all (missing_in pages c) (untaken t gone.after)) (ap (λ (b : List ℕ). taken ++ b) none ∙ append-nil taken) gone.behind;
    loan = record { parked = gone.parked; places = gone.places; sound = gone.memory };
    goes = still_open gone.after.phase gone.goes;
  };
  came = gone.came;
  text_is = gone.text_is;
}

pub handings_stay_sent : HandingsStaySent
handings_stay_sent m h taken pages bytes n before p next is call =
    let addr : ℕ = lent_base p + 4096 * n in
    sends_on m h taken pages before (a_page addr n bytes) p next
    (handed_in m h all taken pages is.lender p next before is.is_sent is.loan.places is.loan.sound (not_stopped is.lender.phase is.goes) is.loan.parked addr n bytes refl call) refl

pub failed_handings_stay_sent : FailedHandingsStaySent
failed_handings_stay_sent m h taken pages before p next is call =
    sends_on m h taken pages before a_failed_page p next (handing_failed m h all taken pages is.lender p next before is.is_sent is.loan.places is.loan.sound (not_stopped is.lender.phase is.goes) is.loan.parked call) refl

pub lent_sectors_stay_sent : LentSectorsStaySent
lent_sectors_stay_sent m h taken pages dev n content before p next is there call =
    sends_on m h taken pages before (a_sector dev n content) p next
    (sector_sent m h all taken pages is.lender p next before is.is_sent is.loan.places is.loan.sound (not_stopped is.lender.phase is.goes) is.loan.parked dev n content there call) refl

pub unsent_sectors_stay_sent : UnsentSectorsStaySent
unsent_sectors_stay_sent m h taken pages error before p next is call =
    sends_on m h taken pages before (an_unsent_sector error) p next
    (sector_unsent m h all taken pages is.lender p next before is.is_sent is.loan.places is.loan.sound (not_stopped is.lender.phase is.goes) is.loan.parked error call) refl

pub lent_rounds_stay_sent : LentRoundsStaySent
lent_rounds_stay_sent m h taken reply before p next is call =
    sends_on m h taken [] before (a_round_end reply) p next
    (round_ended m h all taken [] is.lender p next before is.is_sent is.loan.places is.loan.sound (not_stopped is.lender.phase is.goes) is.loan.parked reply call tt) refl

pub lent_marks_stay_sent : LentMarksStaySent
lent_marks_stay_sent m h taken pages marks before p next is call =
    sends_on m h taken pages before (a_mark (lent_base p) before.content marks) p next
    (marked_lent m h all taken pages is.lender p next before is.is_sent is.loan.places is.loan.sound (not_stopped is.lender.phase is.goes) is.loan.parked (lent_base p) before.content marks refl call refl) refl
