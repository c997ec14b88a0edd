-- A machine that arrives, and what a refusal tells.
use Rattle.std.proofs.Common.{◌≡◌, ℕ, List, map, refl, ap, sym, subst, ◌∙◌}
use Rattle.std.specs.Prelude.{All, IsTrue}
use Rattle.machine.specs.EffectLaws.{IsSameShape}
use Rattle.machine.specs.First.{dealt_marks}
use Rattle.machine.specs.Outcome.{Outcome, outcome_of}
use Rattle.machine.specs.Run.{IsRun}
use Rattle.machine.specs.Seen.{AreHonest, Marks, Seen, all_marks, state_of}
use Rattle.machine.specs.Shapes.{disk_sizes}
use Rattle.machine.specs.State.{DeviceState, MachineState, base_of}
use Rattle.machine.specs.declared.reply.Reply.{Reply}
use Rattle.machine.proofs.Agreeing.{runs_same}
use Rattle.machine.proofs.Dealing.{dealt_all}
use Rattle.receiver.specs.Disks.{AreHonestDisks}
use Rattle.receiver.specs.Opened.{greatest_at, terms_at}
use Rattle.receiver.specs.Receiving.{NoFault, RefusesSlice}
use Rattle.receiver.specs.declared.recv_error.RecvError.{RecvError}
use Rattle.receiver.specs.declared.recv_error.RecvError.TheVariants as errors
use Rattle.machine.proofs.Fresh.{greatest_allow}
use Rattle.receiver.proofs.Whole.{stream_quiet}
use Rattle.sender.specs.declared.event.LiveEvent.{LiveEvent}
use Rattle.sender.specs.declared.event.LiveReply.{LiveReply}
use Rattle.wire.specs.Stream.{IsStream, shapes_in}
use Rattle.wire.proofs.Unique.{one_machine}
use Rattle.rehearsal.specs.Rehearsing.{DoFit, GoOn, HasPlayed, HasSentStream, IsArrival, IsRefused, IsRefusedWith, IsRehearsal, PlaysOn, TellsWhy, remaining}
use Rattle.rehearsal.specs.declared.rehearsing.Rehearsal.{Rehearsal}
use Rattle.rehearsal.specs.declared.rehearsing.Rehearsal.TheVariants.{Arrived, NotStopped, Refused}

-- The disks do not fit.
pub mismatched : (machine source : Seen) (events : List LiveEvent) (sizes : List ℕ) (marks : List Marks) (replies : List LiveReply) (bytes : List ℕ) → HasSentStream machine events source replies bytes → ¬ (DoFit sizes machine) → IsRefused machine events sizes marks source replies errors.ShapeMismatch
mismatched machine source events sizes marks replies bytes g never = record {
  stops = g.stops;
  answered = g.answered;
  mismatch = λ _. refl;
  unsteady = λ wrong. cc;
  why = never;
}

-- What a refusal tells of a stream whose disks fit.
refusal : (base : ℕ) (sizes : List ℕ) (marks : List Marks) (bytes : List ℕ) (machine : Seen) (source : MachineState) (e : RecvError) → DoFit sizes machine → NoFault (terms_at (greatest_at base)) sizes bytes → IsStream bytes source → RefusesSlice (greatest_at base) sizes marks bytes e → TellsWhy sizes marks machine e
refusal base sizes marks bytes machine source errors.NoMemory fits quiet stream h = fits
refusal base sizes marks bytes machine source errors.DiskFailed fits quiet stream h = (fits, h)
refusal base sizes marks bytes machine source errors.Truncated fits quiet stream h = absurd (h.1 source stream)
refusal base sizes marks bytes machine source errors.ShapeMismatch fits quiet stream h = absurd (quiet errors.ShapeMismatch h.0 h.1)
refusal base sizes marks bytes machine source errors.BadMagic fits quiet stream h = absurd (quiet errors.BadMagic h.0 h.1)
refusal base sizes marks bytes machine source errors.BadVersion fits quiet stream h = absurd (quiet errors.BadVersion h.0 h.1)
refusal base sizes marks bytes machine source errors.BadShape fits quiet stream h = absurd (quiet errors.BadShape h.0 h.1)
refusal base sizes marks bytes machine source errors.BadTag fits quiet stream h = absurd (quiet errors.BadTag h.0 h.1)
refusal base sizes marks bytes machine source errors.BadPage fits quiet stream h = absurd (quiet errors.BadPage h.0 h.1)
refusal base sizes marks bytes machine source errors.BadSector fits quiet stream h = absurd (quiet errors.BadSector h.0 h.1)
refusal base sizes marks bytes machine source errors.BadRound fits quiet stream h = absurd (quiet errors.BadRound h.0 h.1)
refusal base sizes marks bytes machine source errors.BadDevice fits quiet stream h = absurd (quiet errors.BadDevice h.0 h.1)
refusal base sizes marks bytes machine source errors.BadDigest fits quiet stream h = absurd (quiet errors.BadDigest h.0 h.1)
refusal base sizes marks bytes machine source errors.Missing fits quiet stream h = absurd (quiet errors.Missing h.0 h.1)
refusal base sizes marks bytes machine source errors.Trailing fits quiet stream h = absurd (quiet errors.Trailing h.0 h.1)
refusal base sizes marks bytes machine source errors.AlreadyFailed fits quiet stream h = absurd (quiet errors.AlreadyFailed h.0 h.1)

-- Disks that fit the machine fit it at the stop.
still_fit : (sizes : List ℕ) (machine source : Seen) → IsSameShape (state_of machine) (state_of source) → DoFit sizes machine → sizes ≡ disk_sizes (shapes_in (state_of source).devices)
still_fit sizes machine source same fits = fits ∙ ap disk_sizes (sym same.devices)

pub refused : (machine source : Seen) (events : List LiveEvent) (base : ℕ) (sizes : List ℕ) (marks : List Marks) (replies : List LiveReply) (bytes : List ℕ) (e : RecvError) → HasSentStream machine events source replies bytes → DoFit sizes machine → base ≡ base_of (state_of source).devices → RefusesSlice (greatest_at base) sizes marks bytes e → IsRefused machine events sizes marks source replies e
refused machine source events base sizes marks replies bytes e g fits based told = record {
  stops = g.stops;
  answered = g.answered;
  mismatch = λ never. absurd (never fits);
  unsteady = λ is. (let P : RecvError → Type 0 = λ x. RefusesSlice (greatest_at base) sizes marks bytes x in subst P is told);
  why =
      let s = g.streamed in
      let at : base_of s.as_told.devices ≡ base = ap base_of s.devices ∙ sym based in
      let sized : sizes ≡ disk_sizes (shapes_in s.as_told.devices) = still_fit sizes machine source g.answered.shape fits ∙ ap (λ (ds : List DeviceState). disk_sizes (shapes_in ds)) (sym s.devices) in
      refusal base sizes marks bytes machine s.as_told e fits (stream_quiet (terms_at (greatest_at base)) sizes bytes s.as_told s.stream at tt (greatest_allow s.as_told s.stream.by.sound) sized) s.stream told;
}

-- A machine over honest disks is one with honest disks.
abbrev IsHonest : Marks → Type 0
IsHonest m = IsTrue m.honest

arrives_honest : (machine : Seen) (marks : List Marks) → all_marks machine ≡ dealt_marks (shapes_in (state_of machine).devices) marks → AreHonestDisks marks → AreHonest machine
arrives_honest machine marks over honest =
    let P : List Marks → Type 0 = λ ms. All IsHonest ms in
    subst P (sym over) (dealt_all IsHonest refl (shapes_in (state_of machine).devices) marks honest)

-- Both machines went on.
pub arrival : (machine at_stop source as_arrived arrived : Seen) (events : List LiveEvent) (sizes : List ℕ) (marks : List Marks) (bytes : List ℕ) (played replies : List LiveReply) (arrived_replies : List Reply) → HasSentStream machine events at_stop played bytes → DoFit sizes machine
    → (AreHonestDisks marks → IsStream bytes (state_of as_arrived)) → base_of (state_of as_arrived).devices ≡ base_of (state_of at_stop).devices → all_marks as_arrived ≡ dealt_marks (shapes_in (state_of as_arrived).devices) marks
    → PlaysOn at_stop (remaining events played) played replies source → HasPlayed as_arrived (remaining events played) arrived_replies arrived
    → IsArrival machine events sizes marks source arrived replies arrived_replies
arrival machine at_stop source as_arrived arrived events sizes marks bytes played replies arrived_replies g fits received based over goes p =
    let es = remaining events played in
    let start : AreHonest machine → AreHonestDisks marks → state_of as_arrived ≡ state_of at_stop = λ honest disks. one_machine bytes (state_of as_arrived) (state_of at_stop) (received disks) (g.stream honest) based in
    let as_told : AreHonestDisks marks → state_of as_arrived ≡ g.streamed.as_told = λ disks. one_machine bytes (state_of as_arrived) g.streamed.as_told (received disks) g.streamed.stream (based ∙ ap base_of (sym g.streamed.devices)) in
    let run_one : AreHonest machine → IsRun (state_of at_stop) es (map outcome_of goes.rest) goes.rest (state_of source) = λ honest. goes.played.run (g.answered.honest honest) in
    let P : MachineState → Type 0 = λ m. IsRun m es (map outcome_of arrived_replies) arrived_replies (state_of arrived) in
    let run_two : AreHonest machine → AreHonestDisks marks → IsRun (state_of at_stop) es (map outcome_of arrived_replies) arrived_replies (state_of arrived) = λ honest disks. subst P (start honest disks) (p.run (arrives_honest as_arrived marks over disks)) in
    let Q : List Outcome → Type 0 = λ os. IsRun (state_of at_stop) es os goes.rest (state_of source) in
    record {
      played = played;
      rest = goes.rest;
      at_stop = at_stop;
      as_arrived = as_arrived;
      are = goes.are;
      stops = g.stops;
      fits = fits;
      answered = g.answered;
      source_played = goes.played;
      over = over;
      arrived_played = p;
      same_ram = λ disks. ap (λ (m : MachineState). m.ram) (as_told disks) ∙ g.streamed.ram;
      same_devices = λ disks. ap (λ (m : MachineState). m.devices) (as_told disks) ∙ g.streamed.devices;
      same_start = start;
      source_run = run_one;
      arrived_run = run_two;
      same = λ honest disks alike. runs_same (state_of at_stop) es (map outcome_of arrived_replies) arrived_replies goes.rest (state_of arrived) (state_of source) (run_two honest disks) (subst Q (sym alike) (run_one honest));
    }

-- The same of what is handed out.
pub refused_with : {D E : Type 0} (machine source : Seen) (events : List LiveEvent) (sizes : List ℕ) (marks : List Marks) (replies : List LiveReply) (error : RecvError) (result : Rehearsal D E) → IsRefusedWith source replies error result → IsRefused machine events sizes marks source replies error → IsRehearsal machine events sizes marks result
refused_with machine source events sizes marks replies error (Refused s rs e) is g =
    let P : Seen → Type 0 = λ x. IsRefused machine events sizes marks x replies error in
    let Q : List LiveReply → Type 0 = λ x. IsRefused machine events sizes marks s x error in
    let R : RecvError → Type 0 = λ x. IsRefused machine events sizes marks s rs.items x in
    subst R (sym is.2) (subst Q (sym is.1) (subst P (sym is.0) g))
refused_with machine source events sizes marks replies error (Arrived s a rs qs) is g = absurd is
refused_with machine source events sizes marks replies error (NotStopped s rs) is g = absurd is

pub arrived_with : {D E : Type 0} (machine at_stop as_arrived : Seen) (events : List LiveEvent) (sizes : List ℕ) (marks : List Marks) (bytes : List ℕ) (played : List LiveReply) (result : Rehearsal D E) → HasSentStream machine events at_stop played bytes → DoFit sizes machine
    → (AreHonestDisks marks → IsStream bytes (state_of as_arrived)) → base_of (state_of as_arrived).devices ≡ base_of (state_of at_stop).devices → all_marks as_arrived ≡ dealt_marks (shapes_in (state_of as_arrived).devices) marks
    → GoOn at_stop played as_arrived events result → IsRehearsal machine events sizes marks result
arrived_with machine at_stop as_arrived events sizes marks bytes played (Arrived s a rs qs) g fits received based over is = arrival machine at_stop s as_arrived a events sizes marks bytes played rs.items qs.items g fits received based over is.0 is.1
arrived_with machine at_stop as_arrived events sizes marks bytes played (Refused s rs e) g fits received based over is = absurd is
arrived_with machine at_stop as_arrived events sizes marks bytes played (NotStopped s rs) g fits received based over is = absurd is
