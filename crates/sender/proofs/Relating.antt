-- All that holds of a machine that is sent goes on by one entry.
use Rattle.std.proofs.Common.{◌≡◌, ◌≢◌, ℕ, List, ◌++◌, Some, None, Bool, true, false, cond, ◌||◌, refl, ap, sym, subst, ◌∙◌, append_assoc, ◌⊎◌, inl, inr}
use Rattle.std.specs.Prelude.{All, IsTrue}
use Rattle.std.proofs.lemmas.Bool.{or_parts}
use Rattle.std.proofs.lemmas.List.Elements.{All-set}
use Rattle.machine.specs.Applied.{marks_after}
use Rattle.machine.specs.Effect.{Effect}
use Rattle.machine.specs.Layout.{layout_of}
use Rattle.machine.specs.Outcome.{is_failure}
use Rattle.machine.specs.Seen.{AreHonest, Marks, all_marks, failed_at, failed_once, marks_at}
use Rattle.machine.specs.State.{MachineState}
use Rattle.machine.specs.declared.event.Event.{Event}
use Rattle.machine.specs.declared.event.Event.TheVariants as events
use Rattle.machine.specs.declared.reply.Reply.{Reply}
use Rattle.machine.proofs.Numbering.{either_way}
use Rattle.wire.specs.Sinks.{Covers, SinkState}
use Rattle.sender.specs.LiveState.{HasPlaces, LiveSeen, refusal_for}
use Rattle.sender.specs.Calls.{AfterBegin, AfterCopy, AfterRound, AfterStop, Does, Fails, Guests, IsUnread, Serves, Took}
use Rattle.sender.specs.History.{History, nothing, then_came, machine_after, is_stale, phase_of, next_phase, text, written, is_fault, has_fault}
use Rattle.sender.specs.Follows.{Relates, count_after}
use Rattle.sender.specs.declared.phase.Phase.{Phase}
use Rattle.sender.specs.declared.phase.Phase.TheVariants as phases
use Rattle.sender.specs.declared.event.LiveEvent.{LiveEvent}
use Rattle.sender.specs.declared.event.LiveEvent.TheVariants.{Guest, Begin, Copy, EndRound, Stop}
use Rattle.sender.specs.declared.mig_error.MigError.{MigError}
use Rattle.sender.specs.declared.mig_error.MigError.TheVariants as errors
use Rattle.sender.specs.declared.event.LiveReply.{LiveReply}
use Rattle.sender.specs.declared.event.LiveReply.TheVariants as r
use Rattle.sender.proofs.Following.{no_disk}
use Rattle.sender.proofs.Fresh.{told}
use Rattle.sender.proofs.Going.{calls_follow}
use Rattle.sender.proofs.Living.{going}
use Rattle.sender.proofs.SectorReads.{honest_at}
use Rattle.sender.proofs.Writing.{is_stopped, writes, refused_wrote, failed_on, not_failed}

-- Honest disks stay so.
abbrev Honest : List Marks → Type 0
Honest marks = All (λ m. IsTrue m.honest) marks

pub honest_once : (marks : List Marks) (dev : ℕ) → Honest marks → Honest (failed_at marks dev)
honest_once marks dev are = All-set (λ m. IsTrue m.honest) marks dev (failed_once (marks_at marks dev)) (honest_at marks dev are) are

honest_by : (marks : List Marks) (dev : ℕ) (b : Bool) → Honest marks → Honest (cond b (failed_at marks dev) marks)
honest_by marks dev true are = honest_once marks dev are
honest_by marks dev false are = are

marks_honest : (marks : List Marks) (e : Event) (reply : Reply) → Honest marks → Honest (marks_after marks e reply)
marks_honest marks (events.Step dev pick) reply are = honest_by marks dev (is_failure reply) are
marks_honest marks _ reply are = are

same_honest : (old new : LiveSeen) → all_marks new.machine ≡ all_marks old.machine → AreHonest old.machine → AreHonest new.machine
same_honest old new same are = subst Honest (sym same) are

unread_honest : (old new : LiveSeen) (dev n : ℕ) → IsUnread old dev n new → AreHonest old.machine → AreHonest new.machine
unread_honest old new dev n u are = subst Honest (sym u.marks) (honest_once (all_marks old.machine) dev are)

guest_honest : (old new : LiveSeen) (e : Event) (reply : LiveReply) → AreHonest old.machine → Guests old e reply new → AreHonest new.machine
guest_honest old new e (r.Guest reply) are d = subst Honest (sym d.is_applied.marks) (marks_honest (all_marks old.machine) e reply are)
guest_honest old new e _ are d = absurd d

begin_honest : (old new : LiveSeen) (reply : LiveReply) → AreHonest old.machine → AfterBegin old reply new → AreHonest new.machine
begin_honest old new (r.Begun k) are d = same_honest old new (ap all_marks d.1.machine) are
begin_honest old new (r.Mig errors.StreamFailed) are d = same_honest old new d.machine.marks are
begin_honest old new _ are d = absurd d

copy_honest : (old new : LiveSeen) (reply : LiveReply) → AreHonest old.machine → AfterCopy old reply new → AreHonest new.machine
copy_honest old new (r.Copied item) are d = same_honest old new d.sent.machine.marks are
copy_honest old new r.RoundDone are d = same_honest old new (ap (λ (s : LiveSeen). all_marks s.machine) d.1) are
copy_honest old new (r.Mig (errors.DiskFailed dev n)) are d = unread_honest old new dev n d.unread are
copy_honest old new (r.Mig errors.StreamFailed) are d = same_honest old new d.machine.marks are
copy_honest old new _ are d = absurd d

round_honest : (old new : LiveSeen) (reply : LiveReply) → AreHonest old.machine → AfterRound old reply new → AreHonest new.machine
round_honest old new (r.Begun k) are d = same_honest old new (ap all_marks d.1.machine) are
round_honest old new r.RoundOpen are d = same_honest old new (ap (λ (s : LiveSeen). all_marks s.machine) d.1) are
round_honest old new (r.Mig errors.StreamFailed) are d = same_honest old new d.machine.marks are
round_honest old new _ are d = absurd d

stop_honest : (old new : LiveSeen) (reply : LiveReply) → AreHonest old.machine → AfterStop old reply new → AreHonest new.machine
stop_honest old new (r.Stopped pages sectors) are d = same_honest old new d.machine.marks are
stop_honest old new (r.Mig (errors.DiskFailed dev n)) are d = unread_honest d.between new dev n d.unread (same_honest old d.between d.are_sent.machine.marks are)
stop_honest old new (r.Mig errors.StreamFailed) are d = same_honest old new d.machine.marks are
stop_honest old new _ are d = absurd d

does_honest : (old new : LiveSeen) (e : LiveEvent) (reply : LiveReply) → AreHonest old.machine → Does old e reply new → AreHonest new.machine
does_honest old new (Guest e) reply are d = guest_honest old new e reply are d
does_honest old new Begin reply are d = begin_honest old new reply are d
does_honest old new Copy reply are d = copy_honest old new reply are d
does_honest old new EndRound reply are d = round_honest old new reply are d
does_honest old new Stop reply are d = stop_honest old new reply are d

honest_on : (old new : LiveSeen) (e : LiveEvent) (reply : LiveReply) → AreHonest old.machine → Serves old e reply new → AreHonest new.machine
honest_on old new e reply are s = elim (told (refusal_for old.phase e) (Does old e reply new) (λ x. (reply ≡ r.Mig x) × (new ≡ old)) s) as (λ _. AreHonest new.machine)
    [ inl a ↦ does_honest old new e reply are a.1 | inr b ↦ same_honest old new (ap (λ (x : LiveSeen). all_marks x.machine) b.2.1) are ]

fault_is : (x : MigError) → is_fault (r.Mig x) ≡ true → x ≡ errors.StreamFailed
fault_is errors.StreamFailed e = refl
fault_is _ e = cc

still_going : (p : Phase) (reply : LiveReply) → is_fault reply ≡ false → p ≢ phases.Failed → next_phase p reply ≢ phases.Failed
still_going p (r.Begun k) none going is = cc
still_going p (r.Stopped a b) none going is = cc
still_going p (r.Mig errors.StreamFailed) none going is = cc
still_going p _ none going is = going is

pub no_fault : (h : History) → has_fault h ≡ false → phase_of h ≢ phases.Failed
no_fault nothing none is = cc
no_fault (then_came h e reply c) none is =
    let parts = or_parts (has_fault h) (is_fault reply) none in
    still_going (phase_of h) reply parts.1 (no_fault h parts.0) is

-- A reply that stops leaves the phase stopped.
stopped_next : (p : Phase) (reply : LiveReply) → is_stopped reply ≡ true → next_phase p reply ≡ phases.Stopped
stopped_next p (r.Stopped a b) is = refl
stopped_next p _ is = cc

-- A phase that was not stopped before was none that refuses all.
was_going : (p : Phase) (reply : LiveReply) → is_fault reply ≡ false → next_phase p reply ≢ phases.Stopped → (p ≢ phases.Stopped) ⊎ ((k : ℕ) × (reply ≡ r.Begun k))
was_going p (r.Begun k) none going = inr (k, refl)
was_going p (r.Stopped a b) none going = absurd (going refl)
was_going p (r.Mig errors.StreamFailed) none going = cc
was_going p _ none going = inl going

-- All that holds after one more entry.
pub record GoneOn (m : MachineState) (h : History) (out : SinkState) (e : LiveEvent) (reply : LiveReply) (new : LiveSeen) : Type 0 where
  pub effect : Effect
  pub relates : Relates m (then_came h e reply effect) out new

module _ (m : MachineState) (h : History) (out : SinkState) (e : LiveEvent) (reply : LiveReply) (old new : LiveSeen) (g : Relates m h out old) (places : HasPlaces old) (s : Serves old e reply new) where
  abbrev here : List ℕ
  here = written (text m h) (machine_after m h) (is_stale (layout_of m) h) e reply

  asked : ((refusal_for old.phase e ≡ None) × Does old e reply new) ⊎ ((x : MigError) × (refusal_for old.phase e ≡ Some x) × ((reply ≡ r.Mig x) × (new ≡ old)))
  asked = told (refusal_for old.phase e) (Does old e reply new) (λ x. (reply ≡ r.Mig x) × (new ≡ old)) s

  -- the first fault fails the writer
  fails_now : is_fault reply ≡ true → (old.phase ≡ phases.Failed → ⊥) → Fails old new
  fails_now some going = elim asked as (λ _. Fails old new) [
    | inl a ↦ (writes m h old new g.follows (text m h) e reply a.0 a.1).fails some
    | inr b ↦
        let x : b.0 ≡ errors.StreamFailed = fault_is b.0 (rw b.2.0 at some) in
        absurd (going (not_failed old.phase e (b.1 ∙ ap Some x)))
  ]

  count_now : is_fault reply ≡ false → new.out.failures ≡ old.out.failures
  count_now none = elim asked as (λ _. new.out.failures ≡ old.out.failures) [
    | inl a ↦ (writes m h old new g.follows (text m h) e reply a.0 a.1).count none
    | inr b ↦ ap (λ (x : LiveSeen). x.out.failures) b.2.1
  ]

  took_now : has_fault h ≡ false → is_fault reply ≡ false → Took old new here
  took_now before none = elim asked as (λ _. Took old new here) [
    | inl a ↦
        let P : Phase → Type 0 = λ p. p ≢ phases.Stopped in
        let was : phase_of h ≢ phases.Stopped = subst P g.follows.phase (going old.phase e a.0) in
        (writes m h old new g.follows (text m h) e reply a.0 a.1).took none g.honest (g.taken before was)
    | inr b ↦ rw b.2.0 (refused_wrote m h old new g.follows (text m h) e b.0 (no_disk old.phase e b.0 b.1) b.2.1).took
  ]

  taken_now : has_fault h ≡ false → is_fault reply ≡ false → next_phase (phase_of h) reply ≢ phases.Stopped → Covers new.digest (text m h ++ here)
  taken_now before none next = elim asked as (λ _. Covers new.digest (text m h ++ here)) [
    | inl a ↦
        let P : Phase → Type 0 = λ p. p ≢ phases.Stopped in
        let was : phase_of h ≢ phases.Stopped = subst P g.follows.phase (going old.phase e a.0) in
        let not_stop : is_stopped reply ≡ false = elim (either_way (is_stopped reply)) as (λ _. is_stopped reply ≡ false) [ inl y ↦ absurd (next (stopped_next (phase_of h) reply y)) | inr n ↦ n ] in
        (writes m h old new g.follows (text m h) e reply a.0 a.1).taken none not_stop g.honest (g.taken before was)
    | inr b ↦
        let was : phase_of h ≢ phases.Stopped = elim (was_going (phase_of h) reply none next) as (λ _. phase_of h ≢ phases.Stopped) [ inl x ↦ x | inr y ↦ (let wrong : r.Begun y.0 ≡ r.Mig b.0 = sym y.1 ∙ b.2.0 in cc) ] in
        rw b.2.0 ((refused_wrote m h old new g.follows (text m h) e b.0 (no_disk old.phase e b.0 b.1) b.2.1).taken (text m h) (g.taken before was))
  ]

  fault_more : (has_fault h || is_fault reply) ≡ true → new.phase ≡ phases.Failed
  fault_more some = elim (either_way (has_fault h)) as (λ _. new.phase ≡ phases.Failed) [
    | inl a ↦ (failed_on old new e reply (g.fault a) s).0
    | inr b ↦
        let now_ : is_fault reply ≡ true = ap (λ (x : Bool). x || is_fault reply) (sym b) ∙ some in
        (fails_now now_ (λ is. no_fault h b (sym g.follows.phase ∙ is))).phase
  ]

  count_more : new.out.failures ≡ count_after out.failures (has_fault h || is_fault reply)
  count_more = elim (either_way (has_fault h)) as (λ _. new.out.failures ≡ count_after out.failures (has_fault h || is_fault reply)) [
    | inl a ↦
        let before : old.out.failures ≡ count_after out.failures true = rw a at g.count in
        rw a (ap (λ (o : SinkState). o.failures) (failed_on old new e reply (g.fault a) s).1 ∙ before)
    | inr b ↦
        let before : old.out.failures ≡ out.failures = rw b at g.count in
        elim (either_way (is_fault reply)) as (λ _. new.out.failures ≡ count_after out.failures (has_fault h || is_fault reply)) [
          | inl c ↦ rw (b, c, ← before) (fails_now c (λ is. no_fault h b (sym g.follows.phase ∙ is))).count
          | inr d ↦ rw (b, d, ← before) (count_now d)
        ]
  ]

  held_more : (has_fault h || is_fault reply) ≡ false → IsTrue out.honest → IsTrue new.out.honest × (new.out.held ≡ out.held ++ (text m h ++ here))
  held_more none honest =
      let parts = or_parts (has_fault h) (is_fault reply) none in
      let before = g.held parts.0 honest in
      let more = (took_now parts.0 parts.1).holds before.0 in
      (more.0, more.1 ∙ ap (λ (x : List ℕ). x ++ here) before.1 ∙ append_assoc out.held (text m h) here)

  pub relates_on : GoneOn m h out e reply new
  relates_on =
      let go = calls_follow m h e reply old new g.follows places g.honest s in
      record {
        effect = go.effect;
        relates = record {
          follows = go.follows;
          allowed = (g.allowed, go.allowed, go.fits);
          honest = honest_on old new e reply g.honest s;
          fault = fault_more;
          count = count_more;
          held = held_more;
          taken = λ none going. (let parts = or_parts (has_fault h) (is_fault reply) none in taken_now parts.0 parts.1 going);
        };
      }
