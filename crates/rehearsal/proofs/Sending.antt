-- A machine that is sent until a stop answers Ok.
use Rattle.std.proofs.Common.{◌≡◌, ℕ, ◌+◌, ◌<◌, ◌≤◌, List, [], ◌∷◌, ◌++◌, length, take, get_or, Bool, true, false, inl, inr, refl, ap, sym, subst, ◌∙◌, arith}
use Rattle.std.proofs.lemmas.List.{length-append, length-take-le, take_more}
use Rattle.std.proofs.lemmas.List.Elements.{All-nil, All-push}
use Rattle.dirtylog.specs.Members.{HasNone}
use Rattle.machine.specs.Effect.{Effect}
use Rattle.machine.specs.EffectLaws.{IsSameShape}
use Rattle.machine.specs.Seen.{AreHonest, Marks, Seen, all_marks, state_of}
use Rattle.machine.specs.Sound.{IsSound}
use Rattle.machine.specs.State.{MachineState}
use Rattle.machine.proofs.Numbering.{either_way}
use Rattle.wire.specs.Sinks.{Covers, SinkState}
use Rattle.wire.specs.Stream.{IsStream}
use Rattle.sender.specs.Calls.{Does, Serves}
use Rattle.sender.specs.History.{History, has_fault, machine_after, nothing, onward, text, then_came}
use Rattle.sender.specs.LiveState.{HasPlaces, LiveSeen, now, refusal_for}
use Rattle.sender.specs.Ran.{AllNameUnsteady, Leaves, Ran}
use Rattle.sender.specs.declared.event.LiveEvent.{LiveEvent}
use Rattle.sender.specs.declared.event.LiveEvent.TheVariants.{Guest, Begin, Copy, EndRound, Stop}
use Rattle.sender.specs.declared.event.LiveReply.{LiveReply}
use Rattle.sender.specs.declared.event.LiveReply.TheVariants as r
use Rattle.sender.specs.declared.phase.Phase.TheVariants as phases
use Rattle.sender.proofs.Fresh.{told}
use Rattle.sender.specs.Told.{IsStreamAsTold}
use Rattle.sender.proofs.Chained.{Chain, chain_first, chain_more, was_served}
use Rattle.sender.proofs.AsTold.{HasWritten, served_shape, stopped_stream, written_first, written_on}
use Rattle.sender.proofs.Replaying.{SoFar, ran, ran_none, so_far_first, so_far_more}
use Rattle.sender.proofs.Steady.{AreAlike, alike_first, keeps_on, no_replies}
use Rattle.sender.proofs.Whole.{stopped_is_a_stream}
use Rattle.rehearsal.specs.Rehearsing.{EndsInStop, HasAnswered, HasSentStream, IsNotStopped, NoneStopped, empty_writer, is_stopped}

abbrev pub IsNoStop : LiveReply → Type 0
IsNoStop reply = is_stopped reply ≡ false

-- What is known of the replies, once a stop answered Ok and before.
abbrev pub StopsIf : Bool → LiveSeen → List LiveReply → Type 0
StopsIf true s replies = EndsInStop replies × (s.phase ≡ phases.Stopped)
StopsIf false s replies = NoneStopped replies

-- The events that have replies were played.
pub record IsSending (machine : Seen) (events : List LiveEvent) (replies : List LiveReply) (stopped : Bool) (s : LiveSeen) : Type 0 where
  pub alike : AreAlike (all_marks machine) (all_marks s.machine)
  pub unsteady : AllNameUnsteady (all_marks machine) (take (length replies) events) replies
  pub unplayed : replies ≡ [] → s.machine ≡ machine
  pub stops : StopsIf stopped s replies
  pub shape : IsSameShape (state_of machine) (now s)
  pub written : HasWritten empty_writer replies s
  pub chain : Chain machine empty_writer (take (length replies) events) replies s
  pub so_far : AreHonest machine → SoFar (state_of machine) empty_writer (take (length replies) events) replies s

same_shape : (m : MachineState) → IsSameShape m m
same_shape m = record { ram = refl; devices = refl; disks = refl }

pub sending_first : (machine : Seen) (events : List LiveEvent) (replies : List LiveReply) (s : LiveSeen) → replies ≡ [] → s.machine ≡ machine → s.phase ≡ phases.Fresh → HasNone s.due × HasNone s.dirty → Covers s.digest [] → s.out ≡ empty_writer → HasPlaces s → IsSending machine events replies false s
sending_first machine events replies s none same phase empty digest out places = rw none (record {
  alike = (let P : Seen → Type 0 = λ x. AreAlike (all_marks machine) (all_marks x) in subst P (sym same) (alike_first (all_marks machine)));
  unsteady = no_replies (all_marks machine) (take 0 events);
  unplayed = λ _. same;
  stops = All-nil IsNoStop;
  shape = subst (λ (m : MachineState). IsSameShape (state_of machine) m) (sym (ap state_of same)) (same_shape (state_of machine));
  written = written_first s empty_writer [] refl phase digest out;
  chain = chain_first s machine empty_writer (take 0 events) [] refl same phase empty digest out places;
  so_far = λ honest. so_far_first s machine empty_writer (take 0 events) [] refl same phase digest out honest;
})

-- A reply that a stop was Ok comes to a stop alone.
does_stop : (old new : LiveSeen) (e : LiveEvent) (pages sectors : ℕ) → Does old e (r.Stopped pages sectors) new → new.phase ≡ phases.Stopped
does_stop old new (Guest e) pages sectors d = absurd d
does_stop old new Begin pages sectors d = absurd d
does_stop old new Copy pages sectors d = absurd d
does_stop old new EndRound pages sectors d = absurd d
does_stop old new Stop pages sectors d = d.phase

stopped_phase : (old new : LiveSeen) (e : LiveEvent) (pages sectors : ℕ) → Serves old e (r.Stopped pages sectors) new → new.phase ≡ phases.Stopped
stopped_phase old new e pages sectors s =
    elim (told (refusal_for old.phase e) (Does old e (r.Stopped pages sectors) new) (λ x. (r.Stopped pages sectors ≡ r.Mig x) × (new ≡ old)) s) as (λ _. new.phase ≡ phases.Stopped)
    [ inl a ↦ does_stop old new e pages sectors a.1 | inr b ↦ (let wrong : r.Stopped pages sectors ≡ r.Mig b.0 = b.2.0 in cc) ]

stops_on : (old new : LiveSeen) (e : LiveEvent) (reply : LiveReply) (replies : List LiveReply) → NoneStopped replies → Serves old e reply new → StopsIf (is_stopped reply) new (replies ++ reply ∷ [])
stops_on old new e (r.Stopped pages sectors) replies none s = (record { before = replies; last = r.Stopped pages sectors; stopped = refl; first = none; are = refl }, stopped_phase old new e pages sectors s)
stops_on old new e (r.Guest x) replies none s = All-push IsNoStop replies (r.Guest x) none refl
stops_on old new e (r.Begun k) replies none s = All-push IsNoStop replies (r.Begun k) none refl
stops_on old new e (r.Copied item) replies none s = All-push IsNoStop replies (r.Copied item) none refl
stops_on old new e r.RoundDone replies none s = All-push IsNoStop replies r.RoundDone none refl
stops_on old new e r.RoundOpen replies none s = All-push IsNoStop replies r.RoundOpen none refl
stops_on old new e (r.Mig x) replies none s = All-push IsNoStop replies (r.Mig x) none refl

-- One event more.
pub sending_on : (machine : Seen) (events : List LiveEvent) (replies : List LiveReply) (e : LiveEvent) (reply : LiveReply) (old new : LiveSeen) → length replies < length events → e ≡ get_or events (length replies) e → HasPlaces old → Serves old e reply new → IsSending machine events replies false old
    → IsSending machine events (replies ++ reply ∷ []) (is_stopped reply) new
sending_on machine events replies e reply old new below is places s g =
    let n = length replies in
    let long : length (replies ++ reply ∷ []) ≡ n + 1 = length-append replies (reply ∷ []) in
    let more : take (n + 1) events ≡ take n events ++ e ∷ [] = rw (take_more events n e below, ← is) refl in
    let even : n ≡ length (take n events) = omega (arith, length-take-le n events, below) in
    let kept = keeps_on (all_marks machine) old new (take n events) replies e reply even g.alike g.unsteady s in
    record {
      alike = kept.0;
      unsteady = rw (long, more) kept.1;
      unplayed = λ none. absurd (omega (arith, long, ap length none));
      stops = stops_on old new e reply replies g.stops s;
      shape = served_shape (state_of machine) old new e reply g.shape s;
      written = written_on empty_writer replies e reply old new places s g.written;
      chain = rw (long, more) (chain_more machine empty_writer (take n events) replies e reply old new (sym even) s g.chain);
      so_far = λ honest. rw long (so_far_more (state_of machine) empty_writer events n e e replies reply old new below is refl places s (g.so_far honest));
    }

pub at_place : (events : List LiveEvent) (n m : ℕ) (e : LiveEvent) → e ≡ get_or events n e → n ≡ m → e ≡ get_or events m e
at_place events n m e is same = let P : ℕ → Type 0 = λ k. e ≡ get_or events k e in subst P same is

-- The replies stand beside the first events.
untaken : (marks : List Marks) (events : List LiveEvent) (replies : List LiveReply) → AllNameUnsteady marks (take (length replies) events) replies → AllNameUnsteady marks events replies
untaken marks [] replies h = tt
untaken marks (e ∷ events) [] h = tt
untaken marks (e ∷ events) (reply ∷ replies) h = (h.0, untaken marks events replies h.1)

onward_taken : (h : History) (events : List LiveEvent) (replies : List LiveReply) (fs : List Effect) → onward h (take (length replies) events) replies fs ≡ onward h events replies fs
onward_taken h [] [] fs = refl
onward_taken h [] (reply ∷ replies) fs = refl
onward_taken h (e ∷ events) [] fs = refl
onward_taken h (e ∷ events) (reply ∷ replies) [] = refl
onward_taken h (e ∷ events) (reply ∷ replies) (f ∷ fs) = onward_taken (then_came h e reply f) events replies fs

ran_taken : (m last : MachineState) (events : List LiveEvent) (replies : List LiveReply) (old new : SinkState) → Ran m (take (length replies) events) replies old last new → Ran m events replies old last new
ran_taken m last events replies old new g = record {
  effects = g.effects;
  as_many = g.as_many;
  leaves = (let P : History → Type 0 = λ h. Leaves m h old last new in subst P (onward_taken nothing events replies g.effects) g.leaves);
}

pub answered : (machine source : Seen) (events : List LiveEvent) (replies : List LiveReply) (stopped : Bool) (s : LiveSeen) → IsSound (state_of machine) → source ≡ s.machine → length replies ≤ length events → IsSending machine events replies stopped s → HasAnswered machine events replies source
unfolding AreAlike
answered machine source events replies stopped s sound same few g = rw same (record {
  few = few;
  unsteady = untaken (all_marks machine) events replies g.unsteady;
  steady = λ dev. g.alike dev;
  honest = λ honest. (g.so_far honest).relates.honest;
  shape = g.shape;
  served = λ some. record { writer = s.out; was = was_served machine empty_writer events (take (length replies) events) replies s s.machine s.out refl refl refl g.chain };
  after = λ honest. record {
    writer = s.out;
    ran = ran_taken (state_of machine) (now s) events replies empty_writer s.out
        (ran (state_of machine) (now s) (take (length replies) events) (take (length replies) events) replies empty_writer s.out s refl sound refl refl (g.so_far honest));
  };
})

-- No stop answered Ok.
pub not_stopped : (machine source : Seen) (events : List LiveEvent) (replies : List LiveReply) (s : LiveSeen) → IsSound (state_of machine) → source ≡ s.machine → length replies ≡ length events → IsSending machine events replies false s → IsNotStopped machine events source replies
not_stopped machine source events replies s sound same each g = record {
  none = g.stops;
  each = inl each;
  unplayed = λ none. same ∙ g.unplayed none;
  answered = answered machine source events replies false s sound same (omega (arith, each)) g;
}

-- Memory was refused.
pub not_played : (machine source : Seen) (events : List LiveEvent) (replies : List LiveReply) → replies ≡ [] → source ≡ machine → IsNotStopped machine events source replies
not_played machine source events replies none same = rw (none, same) (record {
  none = All-nil IsNoStop;
  each = inr refl;
  unplayed = λ _. refl;
  answered = record {
    few = omega arith;
    unsteady = no_replies (all_marks machine) events;
    steady = λ dev. refl;
    honest = λ honest. honest;
    shape = same_shape (state_of machine);
    served = λ some. absurd (some refl);
    after = λ honest. record { writer = empty_writer; ran = ran_none (state_of machine) (state_of machine) events [] empty_writer empty_writer refl refl refl };
  };
})

-- What was written is a stream of the machine.
streams : (machine : Seen) (events : List LiveEvent) (replies : List LiveReply) (bytes : List ℕ) (s : LiveSeen) → IsSound (state_of machine) → s.phase ≡ phases.Stopped → s.out.held ≡ bytes → SoFar (state_of machine) empty_writer events replies s → IsStream bytes (now s)
streams machine events replies bytes s sound stopped held g =
    let m = state_of machine in
    let h = onward nothing events replies g.effects in
    let whole : has_fault h ≡ false = elim (either_way (has_fault h)) as (λ _. has_fault h ≡ false)
    [ inl b ↦ (let wrong : phases.Stopped ≡ phases.Failed = sym stopped ∙ g.relates.fault b in cc) | inr b ↦ b ] in
    let P : List ℕ → Type 0 = λ b. IsStream b (machine_after m h) in
    let Q : MachineState → Type 0 = λ x. IsStream bytes x in
    let written : text m h ≡ bytes = sym (g.relates.held whole refl).1 ∙ held in
    subst Q (sym g.relates.follows.machine) (subst P written (stopped_is_a_stream m h g.relates.allowed sound (sym g.relates.follows.phase ∙ stopped)))

pub is_sent : (machine source : Seen) (events : List LiveEvent) (replies : List LiveReply) (bytes : List ℕ) (s : LiveSeen) → IsSound (state_of machine) → source ≡ s.machine → length replies ≤ length events → s.out.held ≡ bytes → IsSending machine events replies true s → HasSentStream machine events source replies bytes
is_sent machine source events replies bytes s sound same few held g = record {
  stops = g.stops.0;
  few = few;
  answered = answered machine source events replies true s sound same few g;
  streamed =
      let w = stopped_stream empty_writer s.out (state_of source) s (ap state_of same) refl g.written.writing g.written.flushed g.stops.1 in
      subst (λ (b : List ℕ). IsStreamAsTold b (state_of source)) (sym (w.held refl).1 ∙ held) w.stream;
  stream = λ honest. (let P : Seen → Type 0 = λ x. IsStream bytes (state_of x) in subst P (sym same) (streams machine (take (length replies) events) replies bytes s sound g.stops.1 held (g.so_far honest)));
}
