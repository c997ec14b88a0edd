-- Bytes that are taken out of the writer between two calls.
use Rattle.std.proofs.Common.{◌≡◌, ℕ, List, ◌++◌, Option, Some, None, false, sym, ap, ◌∙◌, subst, append_assoc}
use Rattle.std.specs.Prelude.{MatchOption}
use Rattle.machine.specs.State.{MachineState}
use Rattle.wire.specs.Stream.{IsStream}
use Rattle.machine.specs.declared.event.Event.{Event}
use Rattle.sender.specs.Calls.{AfterBegin, AfterCopy, AfterRound, AfterStop, AreSent, BeginsFirstRound, Copies, CopyFails, Does, EndsRound, Fails, Guests, IsSent, IsUnread, Stops, StopsShort, Took, Wrote}
use Rattle.sender.specs.History.{has_fault, text}
use Rattle.sender.specs.LiveState.{HasPlaces, LiveSeen, refusal_for}
use Rattle.sender.specs.Taking.{CallsIgnoreTaken, TakenAreWhole, TakenFollow, untaken}
use Rattle.sender.specs.declared.event.Item.{Item}
use Rattle.sender.specs.declared.event.LiveEvent.{LiveEvent}
use Rattle.sender.specs.declared.event.LiveEvent.TheVariants.{Guest, Begin, Copy, EndRound, Stop}
use Rattle.sender.specs.declared.event.LiveReply.{LiveReply}
use Rattle.sender.specs.declared.event.LiveReply.TheVariants as r
use Rattle.sender.specs.declared.mig_error.MigError.{MigError}
use Rattle.sender.specs.declared.mig_error.MigError.TheVariants as errors
use Rattle.sender.proofs.Relating.{relates_on}
use Rattle.sender.proofs.Replaying.{not_faulty}
use Rattle.sender.proofs.Whole.{stopped_is_a_stream}

module _ (taken : List ℕ) where
  abbrev U : LiveSeen → LiveSeen
  U s = untaken taken s

  took : (old new : LiveSeen) (bytes : List ℕ) → Took old new bytes → Took (U old) (U new) bytes
  took old new bytes t = record {
    count = t.count;
    holds = λ sink. (let h = t.holds sink in (h.0, ap (λ (l : List ℕ). taken ++ l) h.1 ∙ sym (append_assoc taken old.out.held bytes)));
  }

  wrote : (old new : LiveSeen) (bytes : List ℕ) → Wrote old new bytes → Wrote (U old) (U new) bytes
  wrote old new bytes w = record { took = took old new bytes w.took; taken = w.taken }

  fails : (old new : LiveSeen) → Fails old new → Fails (U old) (U new)
  fails old new f = record { machine = f.machine; phase = f.phase; count = f.count }

  sent : (old : LiveSeen) (i : ℕ) (new : LiveSeen) → IsSent old i new → IsSent (U old) i (U new)
  sent old i new s = record { machine = s.machine; phase = s.phase; due = s.due; dirty = s.dirty; entry = s.entry; told = s.told; wrote = wrote old new _ s.wrote }

  unread : (old : LiveSeen) (dev n : ℕ) (new : LiveSeen) → IsUnread old dev n new → IsUnread (U old) dev n (U new)
  unread old dev n new u = record { memory = u.memory; state = u.state; flushed = u.flushed; marks = u.marks; unsteady = u.unsteady; good = u.good; rest = ap U u.rest }

  begins : (old new : LiveSeen) → BeginsFirstRound old new → BeginsFirstRound (U old) (U new)
  begins old new b = record { machine = b.machine; phase = b.phase; due = b.due; dirty = b.dirty; wrote = wrote old new _ b.wrote }

  copies : (old : LiveSeen) (item : Item) (new : LiveSeen) → Copies old item new → Copies (U old) item (U new)
  copies old item new c = record { number = c.number; least = c.least; item_is = c.item_is; sent = sent old c.number new c.sent }

  copy_fails : (old : LiveSeen) (dev n : ℕ) (new : LiveSeen) → CopyFails old dev n new → CopyFails (U old) dev n (U new)
  copy_fails old dev n new c = record { number = c.number; least = c.least; item_is = c.item_is; unread = unread old dev n new c.unread }

  ends : (old : LiveSeen) (k : ℕ) (new : LiveSeen) → EndsRound old k new → EndsRound (U old) k (U new)
  ends old k new e = record { round = e.round; was = e.was; next = e.next; machine = e.machine; phase = e.phase; due = e.due; dirty = e.dirty; wrote = wrote old new _ e.wrote }

  stops : (old : LiveSeen) (pages sectors : ℕ) (new : LiveSeen) → Stops old pages sectors new → Stops (U old) pages sectors (U new)
  stops old pages sectors new s = record {
    machine = s.machine;
    phase = s.phase;
    sets = record { gone = s.sets.gone; due = s.sets.due; dirty = s.sets.dirty };
    count = s.count;
    flushed = s.flushed;
    entries = s.entries;
    told = s.told;
    took = λ b holds. took old new _ (s.took b holds);
    pages_are = s.pages_are;
    sectors_are = s.sectors_are;
  }

  are_sent : (old : LiveSeen) (to : ℕ) (new : LiveSeen) → AreSent old to new → AreSent (U old) to (U new)
  are_sent old to new s = record { machine = s.machine; phase = s.phase; sets = record { gone = s.sets.gone; due = s.sets.due; dirty = s.sets.dirty }; entries = s.entries; told = s.told; wrote = wrote old new _ s.wrote }

  stops_short : (old : LiveSeen) (dev n : ℕ) (new : LiveSeen) → StopsShort old dev n new → StopsShort (U old) dev n (U new)
  stops_short old dev n new s = record {
    number = s.number;
    below = s.below;
    member = s.member;
    item_is = s.item_is;
    between = U s.between;
    are_sent = are_sent old s.number s.between s.are_sent;
    unread = unread s.between dev n new s.unread;
  }

  guests : (old : LiveSeen) (e : Event) (reply : LiveReply) (new : LiveSeen) → Guests old e reply new → Guests (U old) e reply (U new)
  guests old e (r.Guest reply) new a = record { is_applied = a.is_applied; dirty = a.dirty; rest = ap U a.rest }
  guests old e _ new a = absurd a

  begun : (old : LiveSeen) (reply : LiveReply) (new : LiveSeen) → AfterBegin old reply new → AfterBegin (U old) reply (U new)
  begun old (r.Begun k) new a = (a.0, begins old new a.1)
  begun old (r.Mig errors.StreamFailed) new a = fails old new a
  begun old _ new a = absurd a

  copied : (old : LiveSeen) (reply : LiveReply) (new : LiveSeen) → AfterCopy old reply new → AfterCopy (U old) reply (U new)
  copied old (r.Copied item) new a = copies old item new a
  copied old r.RoundDone new a = (a.0, ap U a.1)
  copied old (r.Mig (errors.DiskFailed dev n)) new a = copy_fails old dev n new a
  copied old (r.Mig errors.StreamFailed) new a = fails old new a
  copied old _ new a = absurd a

  ended : (old : LiveSeen) (reply : LiveReply) (new : LiveSeen) → AfterRound old reply new → AfterRound (U old) reply (U new)
  ended old (r.Begun k) new a = (a.0, ends old k new a.1)
  ended old r.RoundOpen new a = (a.0, ap U a.1)
  ended old (r.Mig errors.StreamFailed) new a = fails old new a
  ended old _ new a = absurd a

  stopped : (old : LiveSeen) (reply : LiveReply) (new : LiveSeen) → AfterStop old reply new → AfterStop (U old) reply (U new)
  stopped old (r.Stopped pages sectors) new a = stops old pages sectors new a
  stopped old (r.Mig (errors.DiskFailed dev n)) new a = stops_short old dev n new a
  stopped old (r.Mig errors.StreamFailed) new a = fails old new a
  stopped old _ new a = absurd a

  does : (old : LiveSeen) (e : LiveEvent) (reply : LiveReply) (new : LiveSeen) → Does old e reply new → Does (U old) e reply (U new)
  does old (Guest e) reply new a = guests old e reply new a
  does old Begin reply new a = begun old reply new a
  does old Copy reply new a = copied old reply new a
  does old EndRound reply new a = ended old reply new a
  does old Stop reply new a = stopped old reply new a

  serves_by : (o : Option MigError) (old : LiveSeen) (e : LiveEvent) (reply : LiveReply) (new : LiveSeen) → MatchOption o (Does old e reply new) (λ x. (reply ≡ r.Mig x) × (new ≡ old))
      → MatchOption o (Does (U old) e reply (U new)) (λ x. (reply ≡ r.Mig x) × (U new ≡ U old))
  serves_by None old e reply new a = does old e reply new a
  serves_by (Some x) old e reply new a = (a.0, ap U a.1)

pub calls_ignore_taken : CallsIgnoreTaken
calls_ignore_taken taken old new e reply s = serves_by taken (refusal_for old.phase e) old e reply new s

pub places_untaken : (taken : List ℕ) (s : LiveSeen) → HasPlaces s → HasPlaces (untaken taken s)
places_untaken taken s places = record { sound = places.sound; few = places.few; due_size = places.due_size; dirty_size = places.dirty_size }

pub taken_follow : TakenFollow
taken_follow m h out taken e reply old new g places s =
    let gone = relates_on m h out e reply (untaken taken old) (untaken taken new) g (places_untaken taken old places) (calls_ignore_taken taken old new e reply s) in
    record { effect = gone.effect; relates = gone.relates }

pub taken_are_whole : TakenAreWhole
taken_are_whole m h out taken s g sound is =
    let P : MachineState → Type 0 = λ x. IsStream (text m h) x in
    let quiet : has_fault h ≡ false = not_faulty m h out (untaken taken s) g is in
    record {
      stream = text m h;
      is_stream = subst P (sym g.follows.machine) (stopped_is_a_stream m h g.allowed sound is);
      whole = λ honest. (g.held quiet honest).1;
    }
