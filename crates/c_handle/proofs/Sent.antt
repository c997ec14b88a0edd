-- The migration of a machine out of a handle.
use Rattle.std.proofs.Common.{◌≡◌, ◌≤◌, arith, ℕ, Bool, true, false, List, [], ◌++◌, refl, sym, ap, ◌∙◌, subst, take, drop, length, append_assoc, append-nil}
use Rattle.std.specs.Prelude.{Some, min}
use Rattle.std.proofs.Math.Nat.{min-le_right}
use Rattle.std.proofs.Math.Seq.{take-append_seam}
use Rattle.std.proofs.lemmas.List.{take-append-drop, length-take-le}
use Rattle.machine.specs.Seen.{state_of}
use Rattle.machine.specs.State.{MachineState}
use Rattle.sender.specs.Follows.{AgreesIn, Relates}
use Rattle.sender.specs.History.{History, has_fault, phase_of, text}
use Rattle.sender.specs.LiveState.{HasPlaces, LiveSeen, now}
use Rattle.sender.specs.Marks.{if_dirty}
use Rattle.sender.specs.Taking.{untaken}
use Rattle.sender.specs.declared.phase.Phase.{Phase}
use Rattle.sender.specs.declared.phase.Phase.TheVariants as phases
use Rattle.sender.proofs.Behind.{behind_by_none, marks_catch_up, taken_stays_behind}
use Rattle.sender.proofs.Taking.{taken_are_whole}
use Rattle.wire.specs.Sinks.{Covers, Digested, SinkState, Takes, over_writer}
use Rattle.wire.specs.Stream.{IsStream}
use Rattle.wire.proofs.Unique.{one_machine}
use Rattle.c_handle.specs.Migrated.{HasTaken, IsSameDigest, ready_len}
use Rattle.c_handle.specs.Sent.{AbortsAfterTakings, ArrivedIsSent, CallsStaySent, FirstIsSent, MarksStaySent, StoppedIsWhole, TakingsChangeNothingElse, TakingsStaySent}

pub first_is_sent : FirstIsSent
first_is_sent m l honest fresh = record { late = []; among = λ n is. is; relates = fresh.relates honest }

pub calls_stay_sent : CallsStaySent
calls_stay_sent m h taken pages e reply l next is places may serves =
    let more = taken_stays_behind m h (over_writer (Some []) 0 false) taken pages e reply l next is places may serves in
    record { effect = more.effect; is_sent = more.behind }

-- The first of the bytes that wait are what stands at the front of the buffer.
front_of : (got : ℕ) (held buf : List ℕ) → got ≤ length held → take got (take got held ++ drop got buf) ≡ take got held
front_of got held buf fits =
    let P : ℕ → Type 0 = λ n. take n (take got held ++ drop got buf) ≡ take got held in
    subst P (length-take-le got held fits) (take-append_seam (take got held) (drop got buf))

-- The writer with what was taken in front of what waits. It was replaced, so it is not flushed.
abbrev whole_writer : List ℕ → SinkState → SinkState
whole_writer taken o = record o { held = taken ++ o.held; is_flushed = false }

abbrev unflushed : Digested → LiveSeen → LiveSeen
unflushed d s = record s { out = record s.out { is_flushed = false }; digest = d }

-- What a history says of a machine that is sent says nothing of whether its writer is flushed.
agrees_still : (p : Phase) (m : MachineState) (h : History) (d : Digested) (s : LiveSeen) → AgreesIn p m h s → AgreesIn p m h (unflushed d s)
agrees_still phases.Fresh m h d s a = a
agrees_still (phases.Open k) m h d s a = record { due = a.due; stale = a.stale }
agrees_still phases.Stopped m h d s a = tt
agrees_still phases.Failed m h d s a = tt

relates_still : (m : MachineState) (h : History) (out : SinkState) (d : Digested) (s : LiveSeen) → Takes s.digest [] d → Relates m h out s → Relates m h out (unflushed d s)
relates_still m h out d s takes g = record {
  follows = record { machine = g.follows.machine; shape = g.follows.shape; phase = g.follows.phase; sets = agrees_still (phase_of h) m h d s g.follows.sets };
  allowed = g.allowed;
  honest = g.honest;
  fault = g.fault;
  count = g.count;
  held = g.held;
  taken = λ none going. subst (Covers d) (append-nil (text m h)) (takes (text m h) (g.taken none going));
}

-- What was taken, of a machine that is behind by no page.
abbrev IsExact : MachineState → History → List ℕ → LiveSeen → Type 0
IsExact m h taken l = Relates m h (over_writer (Some []) 0 false) (untaken taken l)

few_ready : (told : Bool) (out : SinkState) (digest : Digested) → ready_len told out digest ≤ length out.held
few_ready true out digest = omega arith
few_ready false out digest = omega arith

few_taken : (told : Bool) (room got : ℕ) (out : SinkState) (digest : Digested) → got ≡ min room (ready_len told out digest) → got ≤ length out.held
few_taken told room got out digest is =
    let few : got ≤ ready_len told out digest = rw is (min-le_right room (ready_len told out digest)) in
    omega (arith, few, few_ready told out digest)

-- It is still the digest of the same bytes.
same_takes : (told : Bool) (old new : Digested) → IsSameDigest told old new → Takes old [] new
same_takes false old new same = same
same_takes true old new same = λ before covers. subst (Covers new) (sym (append-nil before)) (subst (λ (d : Digested). Covers d before) (sym same) covers)

takings : (told : Bool) (m : MachineState) (h : History) (taken buf new_buf : List ℕ) (status got : ℕ) (l next : LiveSeen) → IsExact m h taken l → has_fault h ≡ false → HasTaken told l status got buf new_buf next → untaken (taken ++ take got new_buf) next ≡ unflushed next.digest (untaken taken l)
takings told m h taken buf new_buf status got l next is quiet took =
    let held = l.out.held in
    let few : got ≤ length held = few_taken told (length buf) got l.out l.digest took.count in
    let front : take got new_buf ≡ take got held = rw (took.bytes) (front_of got held buf few) in
    let all : (taken ++ take got new_buf) ++ drop got held ≡ taken ++ held = rw front (append_assoc taken (take got held) (drop got held) ∙ ap (λ (b : List ℕ). taken ++ b) (take-append-drop got held)) in
    let count : 0 ≡ l.out.failures = sym (rw quiet at is.count) in
    let honest : true ≡ l.out.honest = sym (is.held quiet refl).0 in
    let out : SinkState = record { held = (taken ++ take got new_buf) ++ drop got held; failures = 0; honest = true; is_flushed = false } in
    let sinks : out ≡ whole_writer taken l.out = (λ i. record { held = all i; failures = count i; honest = honest i; is_flushed = false }) in
    ap (λ (s : LiveSeen). untaken (taken ++ take got new_buf) s) took.rest ∙ ap (λ (o : SinkState). record l { out = o; digest = next.digest }) sinks

taken_exact : (told : Bool) (m : MachineState) (h : History) (taken buf new_buf : List ℕ) (status got : ℕ) (l next : LiveSeen) → IsExact m h taken l → has_fault h ≡ false → HasTaken told l status got buf new_buf next → IsExact m h (taken ++ take got new_buf) next
taken_exact told m h taken buf new_buf status got l next is quiet took =
    let P : LiveSeen → Type 0 = λ s. Relates m h (over_writer (Some []) 0 false) s in
    subst P (sym (takings told m h taken buf new_buf status got l next is quiet took)) (relates_still m h (over_writer (Some []) 0 false) next.digest (untaken taken l) (same_takes told l.digest next.digest took.digest) is)

pub takings_stay_sent : TakingsStaySent
takings_stay_sent told m h taken pages buf new_buf status got l next b quiet took =
    let late = b.late in
    let also : HasTaken told (if_dirty late l) status got buf new_buf (if_dirty late next) = record { status_is = took.status_is; count = took.count; bytes = took.bytes; rest = ap (if_dirty late) took.rest; digest = took.digest } in
    record { late = late; among = b.among; relates = taken_exact told m h taken buf new_buf status got (if_dirty late l) (if_dirty late next) b.relates quiet also }

pub marks_stay_sent : MarksStaySent
marks_stay_sent m h taken pages marks rest l b places mem goes below all =
    let there : HasPlaces (untaken taken l) = record { sound = places.sound; few = places.few; due_size = places.due_size; dirty_size = places.dirty_size } in
    let more = marks_catch_up m h (over_writer (Some []) 0 false) pages marks rest (untaken taken l) b there mem goes below all in
    record { history = more.history; is_sent = more.behind; came = more.came; text_is = more.text_is }

pub stopped_is_whole : StoppedIsWhole
stopped_is_whole m h taken l is sound stopped =
    let exact = (behind_by_none m h (over_writer (Some []) 0 false) (untaken taken l)).0 is in
    let w = taken_are_whole m h (over_writer (Some []) 0 false) taken l exact sound stopped in
    let P : List ℕ → Type 0 = λ b. IsStream b (now l) in
    subst P (sym (w.whole refl)) w.is_stream

pub arrived_is_sent : ArrivedIsSent
arrived_is_sent m h taken l r arrived is sound stopped come based there =
    one_machine (taken ++ l.out.held) (state_of arrived) (now l) (there.stream (taken ++ l.out.held) come) (stopped_is_whole m h taken l is sound stopped) (there.base ∙ based)

-- A taking, by itself.
pub takings_change_nothing_else : TakingsChangeNothingElse
takings_change_nothing_else told l next status got buf new_buf h = record {
  rest = h.rest ∙ ap (λ (o : SinkState). record l { out = o; digest = next.digest }) (sym (ap (λ (v : LiveSeen). v.out) h.rest));
  waits = sym (take-append-drop got l.out.held) ∙ ap (λ (x : List ℕ). take got l.out.held ++ x) (sym (ap (λ (v : LiveSeen). v.out.held) h.rest));
  digest = same_takes told l.digest next.digest h.digest;
}

pub aborts_after_takings : AbortsAfterTakings
aborts_after_takings told l next status got aborted buf new_buf m h a = a.1 ∙ ap (λ (v : LiveSeen). v.machine) h.rest
