-- The history of a machine whose RAM was lent, with the calls that were made meanwhile.
use Rattle.std.proofs.Common.{◌≡◌, ◌≢◌, ℕ, ◌++◌, ◌||◌, Bool, true, false, List, [], ◌∷◌, length, refl, sym, ap, subst, ◌∙◌, append_assoc, append-nil}
use Rattle.std.specs.Prelude.{IsTrue}
use Rattle.region.specs.Address.{address}
use Rattle.region.specs.declared.region.Region.{Region}
use Rattle.guestmem.specs.Lent.{given_back, is_named}
use Rattle.guestmem.specs.Memory.{IsMemory, Memory}
use Rattle.machine.specs.Parked.{IsParked, ParkedSeen}
use Rattle.machine.specs.State.{MachineState}
use Rattle.machine.specs.declared.event.Event.{Event}
use Rattle.machine.specs.declared.event.Event.TheVariants.{Step}
use Rattle.machine.specs.declared.reply.Reply.TheVariants.{DiskFailed}
use Rattle.wire.specs.Sinks.{Covers, Digested, SinkState, Takes}
use Rattle.sender.specs.Follows.{Relates}
use Rattle.sender.specs.History.{History, guest_events, phase_of, text, then_came}
use Rattle.sender.specs.LiveState.{HasPlaces, LiveSeen}
use Rattle.sender.specs.Marks.{BehindSends, IsBehind, LentIsBehind, TakingStaysBehind, if_dirty}
use Rattle.sender.specs.Parked.{IsLiveParked, KeepsWord, LiveParkedSeen, live_back, page_writes}
use Rattle.sender.specs.ParkedCalls.{AreSeen, IsDoneLiveLent, IsLentCall, IsSeen, IsServedUncalled, LentCall, LentFollows, MayEnd, a_failed_flush, a_failed_page, a_flush, a_mark, a_page, a_round_end, a_sector, a_step, a_taking, an_event, an_unsent_sector, bytes_among, bytes_in, events_among, events_in, missing_among, missing_in, over_with, over_with_all, parked_base, sent_among, sent_in}
use Rattle.sender.specs.Taking.{untaken}
use Rattle.sender.specs.Unsynced.{FailsLiveFlush, FlushesLiveDisk}
use Rattle.sender.specs.declared.event.LiveEvent.TheVariants.{Guest}
use Rattle.sender.specs.declared.event.LiveReply.TheVariants as r
use Rattle.sender.specs.declared.phase.Phase.{Phase}
use Rattle.sender.specs.declared.phase.Phase.TheVariants as phases
use Rattle.sender.proofs.Behind.{behind_by_none, failure_stays_behind, flush_stays_behind, taken_stays_behind}
use Rattle.sender.proofs.Flushed.{agrees_with}
use Rattle.sender.proofs.HandingIn.{handed_in, handing_failed}
use Rattle.sender.proofs.Marking.{named_both}
use Rattle.sender.proofs.MarkingLent.{marked_lent}
use Rattle.sender.proofs.RoundLent.{round_ended}
use Rattle.sender.proofs.SectorSent.{sector_sent, sector_unsent}
use Rattle.sender.proofs.StepBeside.{GoesOnLent, back, goes_beside, may_guest}
use Rattle.sender.proofs.ParkedServed.{live_parked_flush_fails, live_parked_is_flushed, live_parked_is_served}
use Rattle.sender.proofs.Taking.{places_untaken}
use Rattle.sender.proofs.Unsynced.{no_text}

-- Bytes are taken.
relates_taken : (m : MachineState) (h : History) (out : SinkState) (taken more : List ℕ) (s : LiveSeen) (digest : Digested) (writer : SinkState) → Relates m h out (untaken taken s) → s.out.held ≡ more ++ writer.held → writer.failures ≡ s.out.failures
    → writer.honest ≡ s.out.honest → Takes s.digest [] digest → Relates m h out (untaken (taken ++ more) (record s { digest = digest; out = writer }))
relates_taken m h out taken more s digest writer g held count honest takes = record {
  follows = record {
    machine = g.follows.machine;
    shape = g.follows.shape;
    phase = g.follows.phase;
    sets = agrees_with (phase_of h) m h (untaken taken s) s.machine digest (record writer { held = (taken ++ more) ++ writer.held }) g.follows.sets;
  };
  allowed = g.allowed;
  honest = g.honest;
  fault = g.fault;
  count = count ∙ g.count;
  held = λ none good. (let before = g.held none good in (subst IsTrue (sym honest) before.0, append_assoc taken more writer.held ∙ ap (λ (b : List ℕ). taken ++ b) (sym held) ∙ before.1));
  taken = λ none going. subst (Covers digest) (append-nil (text m h)) (takes (text m h) (g.taken none going));
}

pub taking_stays_behind : TakingStaysBehind
taking_stays_behind m h out writer digest taken more pages l b held count honest takes =
    record { late = b.late; among = b.among; relates = relates_taken m h out taken more (if_dirty b.late l) digest writer b.relates held count honest takes }

module _ (m : MachineState) (h : History) (out : SinkState) (taken pages : List ℕ) (l : LiveSeen) (p mid : LiveParkedSeen) (before : Region) (b : IsBehind m h out pages (untaken taken l)) (places : HasPlaces l) (mem : IsMemory l.machine.memory) (goes : l.phase ≢ phases.Stopped) (lent : IsLiveParked l before p) where
  nothing_taken : (history : History) (after : LiveSeen) → IsBehind m history out pages (untaken taken after) → IsBehind m history out pages (untaken (taken ++ []) after)
  nothing_taken history after = subst (λ (t : List ℕ). IsBehind m history out pages (untaken t after)) (sym (append-nil taken))

  -- A call that was done with the machine that was lent.
  goes_with : (c : LentCall) (does : LiveSeen → Type 0) (one : IsDoneLiveLent l (over_with before c) mid does) (history : History) → IsBehind m history out (missing_in pages c) (untaken (taken ++ bytes_in c) one.after) → guest_events history ≡ guest_events h ++ events_in c
      → text m history ≡ text m h ++ sent_in c → GoesOnLent m h out taken pages before c p mid
  goes_with c does one history behind came text_is = record {
    history = history;
    after = one.after;
    behind = behind;
    came = came;
    text_is = text_is;
    parked = one.parked;
    places = one.places;
    memory = subst IsMemory (sym one.memory) mem;
    versions = ap length (one.parked.parked.lent.versions_are ∙ ap (λ (x : Memory). x.versions) one.memory ∙ sym lent.parked.lent.versions_are);
    goes = subst (λ (f : Phase). f ≢ phases.Stopped) (sym one.phase) goes;
  }

  goes_on : (c : LentCall) → IsLentCall p c mid → IsSeen before (length p.machine.memory) c → MayEnd pages c → GoesOnLent m h out taken pages before c p mid
  goes_on (an_event e reply) call saw may =
      let one : IsDoneLiveLent l before mid (IsServedUncalled l e (r.Guest reply)) = live_parked_is_served l p mid before e (r.Guest reply) places mem lent call in
      let gone = taken_stays_behind m h out taken pages (Guest e) (r.Guest reply) l one.after b places (may_guest pages e) one.done.serves in
      let next : History = then_came h (Guest e) (r.Guest reply) gone.effect in
      goes_with (an_event e reply) (IsServedUncalled l e (r.Guest reply)) one next (nothing_taken next one.after gone.behind) refl (no_text m h e reply gone.effect ∙ sym (append-nil (text m h)))
  goes_on (a_failed_flush dev pick) call saw may =
      let one : IsDoneLiveLent l before mid (FailsLiveFlush l dev pick) = live_parked_flush_fails l p mid before dev pick places mem lent call in
      let gone = failure_stays_behind m h out pages dev pick (untaken taken l) (untaken taken one.after) b (places_untaken taken l places) goes (record { failed = one.done.failed; rest = ap (untaken taken) one.done.rest }) in
      let next : History = then_came h (Guest (Step dev pick)) (r.Guest DiskFailed) gone.effect in
      goes_with (a_failed_flush dev pick) (FailsLiveFlush l dev pick) one next (nothing_taken next one.after gone.behind) refl (no_text m h (Step dev pick) DiskFailed gone.effect ∙ sym (append-nil (text m h)))
  goes_on (a_flush dev result) call saw may =
      let one : IsDoneLiveLent l before mid (FlushesLiveDisk l dev result) = live_parked_is_flushed l p mid before dev result places lent call in
      let flushed = flush_stays_behind m h out pages dev result (untaken taken l) (untaken taken one.after) b (record { flushes = one.done.flushes; rest = ap (untaken taken) one.done.rest }) in
      goes_with (a_flush dev result) (FlushesLiveDisk l dev result) one h (nothing_taken h one.after flushed) (sym (append-nil (guest_events h))) (sym (append-nil (text m h)))
  goes_on (a_taking bytes) call saw may =
      let out_is : p.out ≡ l.out = ap (λ (x : LiveParkedSeen). x.out) lent.rest in
      let digest_is : p.digest ≡ l.digest = ap (λ (x : LiveParkedSeen). x.digest) lent.rest in
      record {
        history = h;
        after = record l { digest = mid.digest; out = mid.out };
        behind = taking_stays_behind m h out mid.out mid.digest taken bytes pages l b (ap (λ (o : SinkState). o.held) (sym out_is) ∙ call.held) (call.count ∙ ap (λ (o : SinkState). o.failures) out_is) (call.honest ∙ ap (λ (o : SinkState). o.honest) out_is)
            (subst (λ (d : Digested). Takes d [] mid.digest) digest_is call.digest);
        came = sym (append-nil (guest_events h));
        text_is = sym (append-nil (text m h));
        parked = record {
          parked = subst (λ (q : ParkedSeen). IsParked l.machine before q) (sym (ap (λ (x : LiveParkedSeen). x.machine) call.rest)) lent.parked;
          rest = ap (λ (x : LiveParkedSeen). record x { machine = mid.machine }) call.rest ∙ ap (λ (x : LiveParkedSeen). record x { machine = mid.machine; digest = mid.digest; out = mid.out }) lent.rest;
        };
        places = record { sound = places.sound; few = places.few; due_size = places.due_size; dirty_size = places.dirty_size };
        memory = mem;
        versions = ap (λ (q : ParkedSeen). length q.memory) (ap (λ (x : LiveParkedSeen). x.machine) call.rest);
        goes = goes;
      }
  goes_on (a_step base wrote seen dev pick reply effect) call saw may = goes_beside m h out taken pages l p mid before b places mem goes lent base wrote seen dev pick reply effect call.0 call.1 saw
  goes_on (a_page addr n bytes) call saw may = handed_in m h out taken pages l p mid before b places mem goes lent addr n bytes call.0 call.1
  goes_on (a_round_end reply) call saw may = round_ended m h out taken pages l p mid before b places mem goes lent reply call may
  goes_on (a_mark base bytes marks) call saw may = marked_lent m h out taken pages l p mid before b places mem goes lent base bytes marks call.0 call.1 saw
  goes_on (a_sector dev n content) call saw may = sector_sent m h out taken pages l p mid before b places mem goes lent dev n content call.0 call.1
  goes_on (an_unsent_sector e) call saw may = sector_unsent m h out taken pages l p mid before b places mem goes lent e call
  goes_on a_failed_page call saw may = handing_failed m h out taken pages l p mid before b places mem goes lent call

-- As many versions.
word_on : (before after : Region) (a b : ℕ) (pages : List ℕ) → b ≡ a → KeepsWord before after a pages → KeepsWord before after b pages
word_on before after a b pages is word = rw is word

pub lent_is_behind : LentIsBehind
lent_is_behind m h out taken pages l p next before after [] written named rest b places mem goes lent called saw may word few all =
    let gone = back m h out taken pages l p before after written named rest b places mem goes lent word few all in
    subst (λ (x : LiveParkedSeen). BehindSends m h out (page_writes (parked_base x) written after.content) [] rest (untaken (taken ++ []) (live_back x (given_back after.content (address after) x.machine.memory named) named))) (sym called)
    (subst (λ (t : List ℕ). BehindSends m h out (page_writes (parked_base p) written after.content) [] rest (untaken t (live_back p (given_back after.content (address after) p.machine.memory named) named))) (sym (append-nil taken))
    (record { history = gone.history; behind = gone.behind; came = gone.came; text_is = gone.text_is ∙ sym (append-nil (text m h)) }))
lent_is_behind m h out taken pages l p next before after (c ∷ cs) written named rest b places mem goes lent called saw may word few all =
    let mid = called.0 in
    let one : GoesOnLent m h out taken pages before c p mid = goes_on m h out taken pages l p mid before b places mem goes lent c called.1 saw.0 may.0 in
    let more = lent_is_behind m one.history out (taken ++ bytes_in c) (missing_in pages c) one.after mid next (over_with before c) after cs written named rest one.behind one.places one.memory one.goes one.parked called.2
    (subst (λ (k : ℕ). AreSeen (over_with before c) k cs) (sym one.versions) saw.1) may.1 (word_on (over_with_all (over_with before c) cs) after (length p.machine.memory) (length mid.machine.memory) written one.versions word) few all in
    let writes = page_writes (parked_base next) written after.content in
    record {
      history = more.history;
      behind = subst (λ (t : List ℕ). IsBehind m more.history out rest (untaken t (live_back next (given_back after.content (address after) next.machine.memory named) named))) (append_assoc taken (bytes_in c) (bytes_among cs)) more.behind;
      came = more.came ∙ ap (λ (es : List Event). es ++ (events_among cs ++ writes)) one.came ∙ append_assoc (guest_events h) (events_in c) (events_among cs ++ writes) ∙ ap (λ (es : List Event). guest_events h ++ es) (sym (append_assoc (events_in c) (events_among cs) writes));
      text_is = more.text_is ∙ ap (λ (x : List ℕ). x ++ sent_among cs) one.text_is ∙ append_assoc (text m h) (sent_in c) (sent_among cs);
    }

or_none : (a b : Bool) → (a ≡ true → b ≡ true) → (a || b) ≡ true → b ≡ true
or_none true b f is = f refl
or_none false b f is = is

pub lent_follows : LentFollows
lent_follows m h out taken l p next before after calls pages rel places mem goes lent called saw may word all =
    let gone = lent_is_behind m h out taken [] l p next before after calls pages pages [] ((behind_by_none m h out (untaken taken l)).1 rel) places mem goes lent called saw may word (λ n is. is)
    (λ n is. rw (append-nil pages) (or_none (is_named (missing_among [] calls) n) (is_named pages n) (all n) (sym (named_both n (missing_among [] calls) pages) ∙ is))) in
    record {
      history = gone.history;
      relates = (behind_by_none m gone.history out (untaken (taken ++ bytes_among calls) (live_back next (given_back after.content (address after) next.machine.memory pages) pages))).0 gone.behind;
      came = gone.came;
      text_is = gone.text_is;
    }
