-- The migration of a machine out of a handle, while its RAM is lent.
use Rattle.std.proofs.Common.{◌≡◌, ◌≢◌, ℕ, List, false, [], ◌∷◌, ◌++◌, append-nil, refl, sym, ap, ◌∙◌, map, subst, take, drop, length, true≢false}
use Rattle.std.specs.Prelude.{Some, min}
use Rattle.region.specs.Address.{address}
use Rattle.region.specs.declared.region.Region.{Region}
use Rattle.guestmem.specs.Lent.{given_back}
use Rattle.guestmem.specs.Memory.{IsMemory}
use Rattle.machine.specs.Seen.{DeviceSeen}
use Rattle.machine.specs.State.{base_of}
use Rattle.machine.specs.declared.event.Event.{Event}
use Rattle.sender.specs.Marks.{IsBehind, MayCall}
use Rattle.sender.specs.LiveState.{HasPlaces, LiveSeen}
use Rattle.sender.specs.History.{guest_events, text}
use Rattle.sender.specs.Parked.{IsLiveParked, LiveParkedSeen, live_back, live_base, page_writes}
use Rattle.sender.specs.declared.phase.Phase.{Phase}
use Rattle.sender.specs.declared.phase.Phase.TheVariants as phases
use Rattle.sender.specs.declared.event.LiveEvent.TheVariants.{Guest}
use Rattle.sender.proofs.Behind.{back_is_behind}
use Rattle.sender.specs.Taking.{untaken}
use Rattle.sender.proofs.ParkedServed.{live_parked_is_served}
use Rattle.sender.proofs.StepBeside.{goes_beside}
use Rattle.wire.specs.Sinks.{Digested, SinkState, over_writer}
use Rattle.c_handle.specs.Lent.{IsLiveLoan}
use Rattle.c_handle.specs.Migrated.{HasTaken, IsSameDigest, ready_len}
use Rattle.c_handle.specs.Mirror.{is_closed}
use Rattle.c_handle.specs.Sent.{LentCallsStaySent, LentComesBackSent, LentStepsStaySent, LentTakingsStaySent, lent_base}
use Rattle.c_handle.proofs.Sent.{calls_stay_sent, takings_stay_sent}

-- The same with another writer.
abbrev parked_with : LiveParkedSeen → SinkState → LiveParkedSeen
parked_with p o = record p { out = o }

abbrev live_with : LiveSeen → SinkState → LiveSeen
live_with l o = record l { out = o }

places_with : (l : LiveSeen) (o : SinkState) → HasPlaces l → HasPlaces (live_with l o)
places_with l o h = record { sound = h.sound; few = h.few; due_size = h.due_size; dirty_size = h.dirty_size }

parked_still : (l : LiveSeen) (before : Region) (p : LiveParkedSeen) (o : SinkState) → IsLiveParked l before p → IsLiveParked (live_with l o) before (parked_with p o)
parked_still l before p o h = record { parked = h.parked; rest = ap (λ (x : LiveParkedSeen). parked_with x o) h.rest }

-- The same with another writer and another digest.
abbrev parked_on : LiveParkedSeen → SinkState → Digested → LiveParkedSeen
parked_on p o d = record p { out = o; digest = d }

abbrev live_on : LiveSeen → SinkState → Digested → LiveSeen
live_on l o d = record l { out = o; digest = d }

loan_on : (l : LiveSeen) (before : Region) (p : LiveParkedSeen) (o : SinkState) (d : Digested) → IsLiveLoan l before p → IsLiveLoan (live_on l o d) before (parked_on p o d)
loan_on l before p o d h = record {
  parked = record { parked = h.parked.parked; rest = ap (λ (x : LiveParkedSeen). parked_on x o d) h.parked.rest };
  places = record { sound = h.places.sound; few = h.places.few; due_size = h.places.due_size; dirty_size = h.places.dirty_size };
  sound = h.sound;
}

-- The address at which RAM begins is the lender's.
base_is : (l : LiveSeen) (before : Region) (p : LiveParkedSeen) → IsLiveParked l before p → live_base l ≡ lent_base p
base_is l before p h = ap (λ (ds : List DeviceSeen). base_of (map (λ (d : DeviceSeen). d.state) ds)) (sym h.parked.devices_are)

-- The writer is the lender's.
writer_is : (l : LiveSeen) (before : Region) (p : LiveParkedSeen) → IsLiveParked l before p → p.out ≡ l.out
writer_is l before p h = ap (λ (x : LiveParkedSeen). x.out) h.rest

pub lent_takings_stay_sent : LentTakingsStaySent
lent_takings_stay_sent told m h taken pages buf new_buf status got before p next is quiet took =
    let l = is.lender in
    let same : p.out ≡ l.out = writer_is l before p is.loan.parked in
    let digests : p.digest ≡ l.digest = ap (λ (x : LiveParkedSeen). x.digest) is.loan.parked.rest in
    let o : SinkState = over_writer (Some (drop got p.out.held)) 0 false in
    let d : Digested = next.digest in
    let taking : HasTaken told l status got buf new_buf (live_on l o d) = record {
      status_is = took.status_is;
      count = took.count ∙ ap (λ (w : SinkState). min (length buf) (ready_len told w p.digest)) same ∙ ap (λ (x : Digested). min (length buf) (ready_len told l.out x)) digests;
      bytes = took.bytes ∙ ap (λ (w : SinkState). take got w.held ++ drop got buf) same;
      rest = ap (λ (w : SinkState). live_on l (over_writer (Some (drop got w.held)) 0 false) d) same;
      digest = subst (λ (x : Digested). IsSameDigest told x d) digests took.digest;
    } in
    record {
      lender = live_on l o d;
      is_sent = takings_stay_sent told m h taken pages buf new_buf status got l (live_on l o d) is.is_sent quiet taking;
      loan = subst (λ (x : LiveParkedSeen). IsLiveLoan (live_on l o d) before x) (sym took.rest) (loan_on l before p o d is.loan);
      goes = is.goes;
    }

pub not_stopped : (p : Phase) → is_closed p ≡ false → p ≢ phases.Stopped
not_stopped p goes is = true≢false (sym (ap is_closed is) ∙ goes)

pub lent_comes_back_sent : LentComesBackSent
lent_comes_back_sent m h taken pages before after written named rest p is word few all =
    let l = is.lender in
    let same : p.out ≡ l.out = writer_is l before p is.loan.parked in
    let o : SinkState = record l.out { held = taken ++ l.out.held } in
    let memory = given_back after.content (address after) p.machine.memory named in
    let more = back_is_behind m h (over_writer (Some []) 0 false) pages (live_with l o) (parked_with p o) before after written named rest is.is_sent (places_with l o is.loan.places) is.loan.sound (not_stopped l.phase is.goes) (parked_still l before p o is.loan.parked) word few all in
    record {
      history = more.history;
      is_sent = subst (λ (w : SinkState). IsBehind m more.history (over_writer (Some []) 0 false) rest (live_back (parked_with p (record w { held = taken ++ w.held })) memory named)) (sym same) more.behind;
      came = subst (λ (b : ℕ). guest_events more.history ≡ guest_events h ++ page_writes b written after.content) (base_is l before p is.loan.parked) more.came;
      text_is = more.text_is;
    }

-- An event needs no page to be named.
may_event : (pages : List ℕ) (e : Event) → MayCall pages (Guest e)
may_event [] e = tt
may_event (n ∷ pages) e = tt

pub lent_calls_stay_sent : LentCallsStaySent
lent_calls_stay_sent m h taken pages e reply before p next is serves =
    let l = is.lender in
    let was = live_parked_is_served l p next before e reply is.loan.places is.loan.sound is.loan.parked serves in
    let more = calls_stay_sent m h taken pages (Guest e) reply l was.after is.is_sent is.loan.places (may_event pages e) was.done.serves in
    record {
      effect = more.effect;
      is_sent = record {
        lender = was.after;
        is_sent = more.is_sent;
        loan = record { parked = was.parked; places = was.places; sound = subst IsMemory (sym was.memory) is.loan.sound };
        goes = ap is_closed was.phase ∙ is.goes;
      };
    }

pub still_open : (p : Phase) → p ≢ phases.Stopped → is_closed p ≡ false
still_open phases.Fresh goes = refl
still_open (phases.Open k) goes = refl
still_open phases.Failed goes = refl
still_open phases.Stopped goes = absurd (goes refl)

pub lent_steps_stay_sent : LentStepsStaySent
lent_steps_stay_sent m h taken pages wrote seen dev pick reply effect before p next is call word =
    let l = is.lender in
    let out : SinkState = over_writer (Some []) 0 false in
    let gone = goes_beside m h out taken pages l p next before is.is_sent is.loan.places is.loan.sound (not_stopped l.phase is.goes) is.loan.parked (lent_base p) wrote seen dev pick reply effect refl call word in
    record {
      history = gone.history;
      is_sent = record {
        lender = gone.after;
        is_sent = subst (λ (t : List ℕ). IsBehind m gone.history out (pages ++ wrote) (untaken t gone.after)) (append-nil taken) gone.behind;
        loan = record { parked = gone.parked; places = gone.places; sound = gone.memory };
        goes = still_open gone.after.phase gone.goes;
      };
      came = gone.came;
      text_is = gone.text_is ∙ append-nil (text m h);
    }
