-- A move that a host makes call by call.
use Rattle.std.proofs.Common.{◌≡◌, List, ℕ, [], ◌++◌, refl, sym, ap, subst, ◌∙◌, append_assoc, append-nil}
use Rattle.std.specs.Prelude.{IsTrue}
use Rattle.machine.specs.Seen.{state_of}
use Rattle.machine.specs.State.{MachineState}
use Rattle.sender.specs.Follows.{AgreesIn}
use Rattle.sender.specs.History.{History, phase_of, text}
use Rattle.sender.specs.LiveState.{LiveSeen, now}
use Rattle.sender.specs.Taking.{untaken}
use Rattle.sender.specs.declared.phase.Phase.{Phase}
use Rattle.sender.specs.declared.phase.Phase.TheVariants as phases
use Rattle.sender.proofs.Replaying.{so_far_first}
use Rattle.sender.proofs.Taking.{taken_are_whole}
use Rattle.wire.specs.Sinks.{Covers, Digested, SinkState}
use Rattle.wire.specs.Stream.{IsStream}
use Rattle.wire.proofs.Unique.{one_machine}
use Rattle.rehearsal.specs.Moves.{ArrivedIsMoved, FirstIsMoving, TakingsStayMoving}

pub first_is_moving : FirstIsMoving
first_is_moving machine s honest same phase digest = (so_far_first s machine s.out [] [] refl same phase digest refl honest).relates

-- What a history says of the sets says nothing of the writer.
agrees_over : (p : Phase) (m : MachineState) (h : History) (s : LiveSeen) (writer : SinkState) (digest : Digested) → AgreesIn p m h s → AgreesIn p m h (record s { out = writer; digest = digest })
agrees_over phases.Fresh m h s writer digest a = a
agrees_over (phases.Open k) m h s writer digest a = record { due = a.due; stale = a.stale }
agrees_over phases.Stopped m h s writer digest a = tt
agrees_over phases.Failed m h s writer digest a = tt

pub takings_stay_moving : TakingsStayMoving
takings_stay_moving m h out writer digest taken more s g held count honest takes =
    let whole : SinkState = record writer { held = (taken ++ more) ++ writer.held } in
    record {
      follows = record { machine = g.follows.machine; shape = g.follows.shape; phase = g.follows.phase; sets = agrees_over (phase_of h) m h (untaken taken s) whole digest g.follows.sets };
      allowed = g.allowed;
      honest = g.honest;
      fault = g.fault;
      count = count ∙ g.count;
      held = λ none good. let before = g.held none good in
          (subst IsTrue (sym honest) before.0, append_assoc taken more writer.held ∙ ap (λ (b : List ℕ). taken ++ b) (sym held) ∙ before.1);
      taken = λ none going. subst (Covers digest) (append-nil (text m h)) (takes (text m h) (g.taken none going));
    }

pub arrived_is_moved : ArrivedIsMoved
arrived_is_moved m h out taken s r arrived g sound honest empty stopped based trusted fed gives =
    let w = taken_are_whole m h out taken s g sound (sym g.follows.phase ∙ stopped) in
    let same : taken ++ s.out.held ≡ w.stream = w.whole honest ∙ ap (λ (b : List ℕ). b ++ w.stream) empty in
    let P : List ℕ → Type 0 = λ b. IsStream b (now s) in
    one_machine (taken ++ s.out.held) (state_of arrived) (now s) (gives.stream trusted (taken ++ s.out.held) fed) (subst P (sym same) w.is_stream) (gives.based ∙ sym based)
