-- The end of a round while the RAM is lent is that call of the machine that was lent.
use Rattle.std.proofs.Common.{◌≡◌, ◌≢◌, ℕ, ◌-◌, Bool, List, [], ◌∷◌, refl, ap, append-nil}
use Rattle.region.specs.declared.region.Region.{Region}
use Rattle.guestmem.specs.Memory.{IsMemory}
use Rattle.machine.specs.Layout.{layout_of}
use Rattle.machine.specs.Parked.{ParkedSeen, parked_sectors, parked_states}
use Rattle.machine.specs.State.{MachineState}
use Rattle.wire.specs.Sinks.{SinkState}
use Rattle.wire.specs.Records.{round_end, spelled_record}
use Rattle.wire.specs.Stream.{texts}
use Rattle.sender.specs.History.{History, is_stale, machine_after, text, written}
use Rattle.sender.specs.LiveState.{HasPlaces, LiveSeen}
use Rattle.sender.specs.Marks.{IsBehind, MayCall, still_behind}
use Rattle.sender.specs.Parked.{IsLiveParked, LiveParkedSeen}
use Rattle.sender.specs.ParkedCalls.{EndsLent, MayEnd, a_round_end, sent_in}
use Rattle.sender.specs.SectorsLent.{IsKeptLent}
use Rattle.sender.specs.Taking.{untaken}
use Rattle.sender.specs.declared.event.LiveEvent.TheVariants.{EndRound}
use Rattle.sender.specs.declared.event.LiveReply.{LiveReply}
use Rattle.sender.specs.declared.event.LiveReply.TheVariants as r
use Rattle.sender.specs.declared.phase.Phase.TheVariants as phases
use Rattle.sender.proofs.ServedLent.{served_lent}
use Rattle.sender.proofs.StepBeside.{GoesOnLent}

may_round : (pages : List ℕ) (reply : LiveReply) → MayEnd pages (a_round_end reply) → MayCall pages EndRound
may_round [] reply may = tt
may_round (n ∷ pages) reply may = absurd may

none_still : (reply : LiveReply) → still_behind reply [] ≡ []
none_still (r.Guest reply) = refl
none_still (r.Begun k) = refl
none_still (r.Copied item) = refl
none_still r.RoundDone = refl
none_still r.RoundOpen = refl
none_still (r.Stopped pages sectors) = refl
none_still (r.Mig error) = refl

same_still : (pages : List ℕ) (reply : LiveReply) → MayEnd pages (a_round_end reply) → still_behind reply pages ≡ pages
same_still [] reply may = none_still reply
same_still (n ∷ pages) reply may = absurd may

-- What the end of a round writes.
round_written : (before : List ℕ) (m : MachineState) (stale : ℕ → Bool) (reply : LiveReply) → written before m stale EndRound reply ≡ sent_in (a_round_end reply)
unfolding texts
round_written before m stale (r.Guest reply) = refl
round_written before m stale (r.Begun k) = append-nil (spelled_record (round_end (k - 1)))
round_written before m stale (r.Copied item) = refl
round_written before m stale r.RoundDone = refl
round_written before m stale r.RoundOpen = refl
round_written before m stale (r.Stopped pages sectors) = refl
round_written before m stale (r.Mig error) = refl

module _ (m : MachineState) (h : History) (out : SinkState) (taken pages : List ℕ) (l : LiveSeen) (p mid : LiveParkedSeen) (before : Region) (b : IsBehind m h out pages (untaken taken l)) (places : HasPlaces l) (mem : IsMemory l.machine.memory) (goes : l.phase ≢ phases.Stopped) (lent : IsLiveParked l before p) where
  pub round_ended : (reply : LiveReply) → EndsLent p reply mid → MayEnd pages (a_round_end reply) → GoesOnLent m h out taken pages before (a_round_end reply) p mid
  round_ended reply call may =
      let kept : IsKeptLent p mid = record {
        versions = ap (λ (q : ParkedSeen). q.memory) call.parked;
        states = ap parked_states call.parked;
        sectors = ap parked_sectors call.parked;
        due_size = call.due_size;
        dirty_size = call.dirty_size;
        goes = call.goes;
      } in
      served_lent m h out taken pages l p mid before b places mem goes lent EndRound reply (a_round_end reply) call.serves kept (may_round pages reply may) (same_still pages reply may) refl refl (λ f. refl) refl
      (round_written (text m h) (machine_after m h) (is_stale (layout_of m) h) reply)
