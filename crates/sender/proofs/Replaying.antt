-- A list of live events.
use Rattle.std.proofs.Common.{◌≡◌, ℕ, ◌+◌, ◌<◌, ◌≤◌, List, [], ◌∷◌, ◌++◌, length, take, get_or, true, false, inl, inr, refl, ap, sym, subst, ◌∙◌, arith, append-nil}
use Rattle.std.specs.Prelude.{IsTrue}
use Rattle.std.proofs.lemmas.List.{length-take-le, length-append, take_more}
use Rattle.std.proofs.Math.Seq.{take-length}
use Rattle.machine.specs.Effect.{Effect}
use Rattle.machine.specs.Seen.{AreHonest, Seen, state_of}
use Rattle.machine.specs.State.{MachineState}
use Rattle.machine.proofs.Numbering.{either_way}
use Rattle.machine.specs.Sound.{IsSound}
use Rattle.wire.specs.Sinks.{Covers, SinkState}
use Rattle.wire.specs.Stream.{IsStream}
use Rattle.sender.specs.LiveState.{HasPlaces, LiveSeen, now}
use Rattle.sender.specs.Calls.{Serves}
use Rattle.sender.specs.History.{History, has_fault, nothing, onward, phase_of, text, then_came}
use Rattle.sender.specs.Follows.{Relates}
use Rattle.sender.specs.Ran.{Ran}
use Rattle.sender.specs.declared.phase.Phase.{Phase}
use Rattle.sender.specs.declared.phase.Phase.TheVariants as phases
use Rattle.sender.specs.declared.event.LiveEvent.{LiveEvent}
use Rattle.sender.specs.declared.event.LiveReply.{LiveReply}
use Rattle.sender.proofs.Flushing.{IsFlushedIfStopped, stays_flushed}
use Rattle.sender.proofs.Relating.{relates_on}
use Rattle.sender.proofs.Whole.{stopped_is_a_stream}

onward_none : (h : History) (es : List LiveEvent) (cs : List Effect) → onward h es [] cs ≡ h
onward_none h [] cs = refl
onward_none h (e ∷ es) cs = refl

onward_more : (h : History) (es : List LiveEvent) (replies : List LiveReply) (cs : List Effect) (e : LiveEvent) (reply : LiveReply) (c : Effect) → length es ≡ length replies → length cs ≡ length replies
    → onward h (es ++ e ∷ []) (replies ++ reply ∷ []) (cs ++ c ∷ []) ≡ then_came (onward h es replies cs) e reply c
onward_more h [] [] [] e reply c long as_long = refl
onward_more h [] [] (y ∷ cs) e reply c long as_long = absurd (omega (arith, as_long))
onward_more h [] (x ∷ replies) cs e reply c long as_long = absurd (omega (arith, long))
onward_more h (d ∷ es) [] cs e reply c long as_long = absurd (omega (arith, long))
onward_more h (d ∷ es) (x ∷ replies) [] e reply c long as_long = absurd (omega (arith, as_long))
onward_more h (d ∷ es) (x ∷ replies) (y ∷ cs) e reply c long as_long = onward_more (then_came h d x y) es replies cs e reply c (omega (arith, long)) (omega (arith, as_long))

-- All that holds after these events and replies, with some effects.
pub record SoFar (m : MachineState) (out : SinkState) (es : List LiveEvent) (replies : List LiveReply) (s : LiveSeen) : Type 0 where
  pub effects : List Effect
  pub as_many : length effects ≡ length replies
  pub relates : Relates m (onward nothing es replies effects) out s
  pub flushed : IsFlushedIfStopped s

-- Nothing was played.
pub ran_none : (m n : MachineState) (es : List LiveEvent) (replies : List LiveReply) (old new : SinkState) → replies ≡ [] → n ≡ m → new ≡ old → Ran m es replies old n new
ran_none m n es replies old new none same out = record {
  effects = [];
  as_many = rw none refl;
  leaves = rw (none, onward_none nothing es []) (record {
    machine = same;
    allowed = tt;
    count = ap (λ (o : SinkState). o.failures) out;
    held = λ _ honest. (rw out honest, ap (λ (o : SinkState). o.held) out ∙ sym (append-nil old.held));
    stream = λ is. cc;
    flushed = λ is. cc;
  });
}

-- At the beginning.
pub so_far_first : (s : LiveSeen) (machine : Seen) (out : SinkState) (es : List LiveEvent) (replies : List LiveReply) → replies ≡ [] → s.machine ≡ machine → s.phase ≡ phases.Fresh → Covers s.digest [] → s.out ≡ out → AreHonest machine → SoFar (state_of machine) out es replies s
so_far_first s machine out es replies none same phase digest sink honest = rw none (record {
  effects = [];
  as_many = refl;
  relates = rw (onward_none nothing es []) (record {
    follows = record { machine = ap state_of same; shape = rw same (record { ram = refl; devices = refl; disks = refl }); phase = phase; sets = λ i. refl };
    allowed = tt;
    honest = subst AreHonest (sym same) honest;
    fault = λ e. cc;
    count = ap (λ (o : SinkState). o.failures) sink;
    held = λ _ good. ((let P : SinkState → Type 0 = λ x. IsTrue x.honest in subst P (sym sink) good), ap (λ (o : SinkState). o.held) sink ∙ sym (append-nil out.held));
    taken = λ _ _. digest;
  });
  flushed = (let P : Phase → Type 0 = λ p. p ≡ phases.Stopped → s.out.is_flushed ≡ true in subst P (sym phase) (λ is. cc));
})

-- One more event.
pub so_far_more : (m : MachineState) (out : SinkState) (es : List LiveEvent) (i : ℕ) (e d : LiveEvent) (replies : List LiveReply) (reply : LiveReply) (old new : LiveSeen)
    → i < length es → e ≡ get_or es i d → length replies ≡ i → HasPlaces old → Serves old e reply new
    → SoFar m out (take i es) replies old → SoFar m out (take (i + 1) es) (replies ++ reply ∷ []) new
so_far_more m out es i e d replies reply old new below is long places s g =
    let more : take (i + 1) es ≡ take i es ++ e ∷ [] = rw (take_more es i d below, ← is) refl in
    let same : length (take i es) ≡ length replies = omega (arith, length-take-le i es, long, below) in
    let gone = relates_on m (onward nothing (take i es) replies g.effects) out e reply old new g.relates places s in
    record {
      effects = g.effects ++ gone.effect ∷ [];
      as_many = omega (arith, g.as_many, length-append g.effects (gone.effect ∷ []), length-append replies (reply ∷ []));
      relates = rw (more, onward_more nothing (take i es) replies g.effects e reply gone.effect same g.as_many) gone.relates;
      flushed = stays_flushed old new e reply g.flushed s;
    }

-- Where a stop answered Ok no writer failed.
pub not_faulty : (m : MachineState) (h : History) (out : SinkState) (s : LiveSeen) → Relates m h out s → phase_of h ≡ phases.Stopped → has_fault h ≡ false
not_faulty m h out s g is = elim (either_way (has_fault h)) as (λ _. has_fault h ≡ false)
    [ inl b ↦ (let failed : phase_of h ≡ phases.Failed = sym g.follows.phase ∙ g.fault b in let wrong = sym is ∙ failed in cc) | inr b ↦ b ]

-- At the end.
pub ran : (m n : MachineState) (es all : List LiveEvent) (replies : List LiveReply) (out new : SinkState) (s : LiveSeen) → es ≡ all → IsSound m → n ≡ now s → new ≡ s.out → SoFar m out es replies s → Ran m all replies out n new
ran m n es all replies out new s e sound same sink g = rw (← e) (record {
  effects = g.effects;
  as_many = g.as_many;
  leaves = record {
    machine = same ∙ g.relates.follows.machine;
    allowed = g.relates.allowed;
    count = ap (λ (o : SinkState). o.failures) sink ∙ g.relates.count;
    held = λ none honest. let h = g.relates.held none honest in ((let P : SinkState → Type 0 = λ x. IsTrue x.honest in subst P (sym sink) h.0), ap (λ (o : SinkState). o.held) sink ∙ h.1);
    stream = λ is. let P : MachineState → Type 0 = λ x. IsStream (text m (onward nothing es replies g.effects)) x in (
      not_faulty m (onward nothing es replies g.effects) out s g.relates is,
      subst P (sym (same ∙ g.relates.follows.machine)) (stopped_is_a_stream m (onward nothing es replies g.effects) g.relates.allowed sound is),
    );
    flushed = λ is. ap (λ (o : SinkState). o.is_flushed) sink ∙ g.flushed (g.relates.follows.phase ∙ is);
  };
})

pub take_all : (i : ℕ) (es : List LiveEvent) → i ≤ length es → length es ≤ i → take i es ≡ es
take_all i es le ge = let e : i ≡ length es = omega (arith, le, ge) in rw e (take-length es)
