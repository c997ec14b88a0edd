-- What came of a machine that was rehearsed to move over disks that are honest and steady.
use Rattle.std.proofs.Common.{◌≡◌, ◌↔◌, ℕ, List, ◌++◌, length, map, flat_map, Bool, true, false, Option, IsTrue, inl, inr, refl, ap, sym, subst, ◌∙◌}
use Rattle.machine.proofs.Fresh.{first_shapes}
use Rattle.machine.specs.Lines.{lines_of}
use Rattle.machine.specs.Seen.{Marks, Seen, all_marks, state_of}
use Rattle.machine.specs.Shapes.{disk_sizes}
use Rattle.machine.specs.State.{MachineState}
use Rattle.machine.specs.declared.reply.Reply.{Reply}
use Rattle.receiver.specs.declared.recv_error.RecvError.{RecvError}
use Rattle.receiver.specs.declared.recv_error.RecvError.TheVariants as errors
use Rattle.rehearsal.specs.Rehearsing.{DoFit, IsArrival, IsRefused, TellsWhy, remaining}
use Rattle.sender.specs.declared.event.LiveReply.{LiveReply}
use Rattle.sender.specs.declared.event.LiveReply.TheVariants.{Guest}
use Rattle.traces.specs.Replies.{AppendsBeginning, live_reply_line}
use Rattle.traces.specs.Trace.{Contents, IsTrace}
use Rattle.wire.specs.Stream.{shapes_in}
use Rattle.vmig.proofs.ComparingFresh.{shapes_are_long}
use Rattle.vmig.proofs.ComparingSteady.{answered_stays, dealt_steady, honest_if, never_unsteady, played_stays}
use Rattle.vmig.specs.Comparing.{AreRehearsedLines, AreSteady, HasVerdict, IsFreshMachine, LookAlike, TellsOfRehearsing, WerePlayed, verdict_ending, verdict_line}
use Rattle.vmig.specs.Faults.{TellsOfOutput}
use Rattle.vmig.specs.Output.{RunFails}
use Rattle.vmig.specs.declared.comparing.Verdict.{Verdict}
use Rattle.vmig.specs.declared.fault.Fault.{Fault}
use Rattle.vmig.specs.declared.comparing.Verdict.TheVariants as verdicts

-- The machine keeps the shapes of its trace, so its disks fit.
fits_fresh : (c : Contents) (machine : Seen) → IsFreshMachine c machine → DoFit (disk_sizes c.shapes) machine
fits_fresh c machine fresh = sym (ap (λ (m : MachineState). disk_sizes (shapes_in m.devices)) fresh.state ∙ ap disk_sizes (first_shapes _ _ c.shapes (shapes_are_long c.pages c.shapes fresh.exists)))

only_memory : (sizes : List ℕ) (marks : List Marks) (machine : Seen) (e : RecvError) → DoFit sizes machine → AreSteady marks → TellsWhy sizes marks machine e → e ≡ errors.NoMemory
only_memory sizes marks machine errors.NoMemory fits are why = refl
only_memory sizes marks machine errors.DiskFailed fits are why = absurd (never_unsteady marks are why.1)
only_memory sizes marks machine errors.ShapeMismatch fits are why = absurd (why fits)
only_memory sizes marks machine errors.Truncated fits are why = absurd why
only_memory sizes marks machine errors.BadMagic fits are why = absurd why
only_memory sizes marks machine errors.BadVersion fits are why = absurd why
only_memory sizes marks machine errors.BadShape fits are why = absurd why
only_memory sizes marks machine errors.BadTag fits are why = absurd why
only_memory sizes marks machine errors.BadPage fits are why = absurd why
only_memory sizes marks machine errors.BadSector fits are why = absurd why
only_memory sizes marks machine errors.BadRound fits are why = absurd why
only_memory sizes marks machine errors.BadDevice fits are why = absurd why
only_memory sizes marks machine errors.BadDigest fits are why = absurd why
only_memory sizes marks machine errors.Missing fits are why = absurd why
only_memory sizes marks machine errors.Trailing fits are why = absurd why
only_memory sizes marks machine errors.AlreadyFailed fits are why = absurd why

-- The stream was refused.
pub refused_verdict : (c : Contents) (machine source : Seen) (marks : List Marks) (replies : List LiveReply) (error : RecvError) → IsFreshMachine c machine → AreSteady marks → IsRefused machine c.events (disk_sizes c.shapes) marks source replies error → HasVerdict c replies (verdicts.Refused error)
refused_verdict c machine source marks replies error fresh steady refused = record {
  machine = machine;
  fresh = fresh;
  verdict_is = record {
    source = source;
    marks = marks;
    steady = steady;
    refused = refused;
    memory = only_memory (disk_sizes c.shapes) marks machine error (fits_fresh c machine fresh) steady refused.why;
  };
}

-- The machine arrived: its disks and those of the one that was sent stayed steady.
arrived_stays : (machine source arrived : Seen) (c : Contents) (marks : List Marks) (replies : List LiveReply) (arrived_replies : List Reply) → AreSteady marks → (a : IsArrival machine c.events (disk_sizes c.shapes) marks source arrived replies arrived_replies) → AreSteady (all_marks arrived)
arrived_stays machine source arrived c marks replies arrived_replies steady a =
    let P : List Marks → Type 0 = λ ms. AreSteady ms in
    played_stays a.as_arrived arrived (remaining c.events a.played) arrived_replies a.arrived_played (subst P (sym a.over) (dealt_steady (shapes_in (state_of a.as_arrived).devices) marks steady))

source_stays : (machine source arrived : Seen) (c : Contents) (marks : List Marks) (replies : List LiveReply) (arrived_replies : List Reply) → AreSteady (all_marks machine) → (a : IsArrival machine c.events (disk_sizes c.shapes) marks source arrived replies arrived_replies) → AreSteady (all_marks source)
source_stays machine source arrived c marks replies arrived_replies steady a =
    played_stays a.at_stop source (remaining c.events a.played) a.rest a.source_played (answered_stays machine a.at_stop c.events a.played a.answered steady)

same_alike : (m k : MachineState) → k ≡ m → LookAlike m k
same_alike m k same = record {
  lines = ap (λ (x : MachineState). lines_of x.devices) (sym same);
  ram = ap (λ (x : MachineState). x.ram) (sym same);
  disks = ap (λ (x : MachineState). x.disks) (sym same);
}

-- They were compared exactly.
abbrev pub AreCompared : Seen → Seen → List LiveReply → List Reply → Bool → Type 0
AreCompared source arrived replies arrived_replies alike = (played : List LiveReply) (rest : List Reply) → replies ≡ played ++ map Guest rest → length rest ≡ length arrived_replies → AreSteady (all_marks source) → AreSteady (all_marks arrived)
    → IsTrue alike ↔ ((arrived_replies ≡ rest) × LookAlike (state_of source) (state_of arrived))

compared : (c : Contents) (machine source arrived : Seen) (marks : List Marks) (replies : List LiveReply) (arrived_replies : List Reply) (alike : Bool) → IsFreshMachine c machine → AreSteady marks → (a : IsArrival machine c.events (disk_sizes c.shapes) marks source arrived replies arrived_replies)
    → AreCompared source arrived replies arrived_replies alike → IsTrue alike ↔ ((arrived_replies ≡ a.rest) × LookAlike (state_of source) (state_of arrived))
compared c machine source arrived marks replies arrived_replies alike fresh steady a exact =
    exact a.played a.rest a.are (a.source_played.each ∙ sym a.arrived_played.each) (source_stays machine source arrived c marks replies arrived_replies fresh.steady a) (arrived_stays machine source arrived c marks replies arrived_replies steady a)

pub arrival_equal : (c : Contents) (machine source arrived : Seen) (marks : List Marks) (replies : List LiveReply) (arrived_replies : List Reply) → IsFreshMachine c machine → AreSteady marks → IsArrival machine c.events (disk_sizes c.shapes) marks source arrived replies arrived_replies
    → AreCompared source arrived replies arrived_replies true → HasVerdict c replies verdicts.Equal
arrival_equal c machine source arrived marks replies arrived_replies fresh steady a exact =
    let same = (compared c machine source arrived marks replies arrived_replies true fresh steady a exact).0 refl in
    record {
      machine = machine;
      fresh = fresh;
      verdict_is = record {
        source = source;
        arrived = arrived;
        arrived_replies = arrived_replies;
        moved = record { marks = marks; steady = steady; arrival = a };
        answers = same.0;
        alike = same.1;
      };
    }

pub arrival_differs : (c : Contents) (machine source arrived : Seen) (marks : List Marks) (replies : List LiveReply) (arrived_replies : List Reply) → IsFreshMachine c machine → AreSteady marks → IsArrival machine c.events (disk_sizes c.shapes) marks source arrived replies arrived_replies
    → AreCompared source arrived replies arrived_replies false → HasVerdict c replies verdicts.Differ
arrival_differs c machine source arrived marks replies arrived_replies fresh steady a exact =
    let never = (compared c machine source arrived marks replies arrived_replies false fresh steady a exact).1 in
    record {
      machine = machine;
      fresh = fresh;
      verdict_is = record {
        source = source;
        arrived = arrived;
        arrived_replies = arrived_replies;
        moved = record { marks = marks; steady = steady; arrival = a };
        otherwise = λ outcomes. (
            let same = a.same (honest_if (all_marks machine) fresh.steady) (honest_if marks steady) outcomes in
            let wrong : false ≡ true = never (same.0, same_alike (state_of source) (state_of arrived) same.1) in
            cc);
      };
    }

-- A beginning of what came of it was written.
pub begun : (text : List ℕ) (c : Contents) (replies : List LiveReply) (verdict : Verdict) (old new : Option (List ℕ)) (fault : Fault) → IsTrace text c → HasVerdict c replies verdict → WerePlayed c.events replies → TellsOfOutput fault
    → AppendsBeginning old new (flat_map live_reply_line replies ++ verdict_line verdict) → RunFails (TellsOfRehearsing text) (AreRehearsedLines text) old new fault
begun text c replies verdict old new fault trace judged played output beginning = inr (inl (
  output,
  record {
    ending = verdict_ending verdict;
    output = flat_map live_reply_line replies ++ verdict_line verdict;
    asked = record {
      contents = c;
      trace = trace;
      replies = replies;
      verdict = verdict;
      judged = judged;
      played = played;
      spelled = refl;
      ends = refl;
    };
    begun = beginning;
  },
))
