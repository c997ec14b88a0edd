-- A flush of a disk beside all steps, and the history.
use Rattle.std.proofs.Common.{◌≡◌, ℕ, List, Bool, sym, subst, ◌∙◌}
use Rattle.std.specs.Prelude.{Result, Ok, Err}
use Rattle.machine.specs.EffectLaws.{IsSameShape}
use Rattle.machine.specs.Seen.{AreHonest, Seen, all_marks, state_of}
use Rattle.machine.specs.State.{MachineState}
use Rattle.machine.specs.Unsynced.{FlushesDisk}
use Rattle.wire.specs.Sinks.{Digested, SinkState}
use Rattle.sender.specs.Follows.{AgreesIn, Relates}
use Rattle.sender.specs.History.{History, phase_of}
use Rattle.sender.specs.LiveState.{LiveSeen, now}
use Rattle.sender.specs.Stopping.{IsLive}
use Rattle.sender.specs.Unsynced.{FlushFollows}
use Rattle.sender.specs.declared.phase.Phase.{Phase}
use Rattle.sender.specs.declared.phase.Phase.TheVariants as phases
use Rattle.sender.proofs.Living.{live_same}
use Rattle.sender.proofs.Relating.{honest_once}

honest_after : {T E : Type 0} (old : Seen) (dev : ℕ) (result : Result T E) (new : Seen) → FlushesDisk old dev result new → AreHonest old → AreHonest new
honest_after old dev (Ok done) new f all = rw f.marks all
honest_after old dev (Err e) new f all = rw f.failed (honest_once (all_marks old) dev all)

pub agrees_with : (phase : Phase) (m : MachineState) (h : History) (s : LiveSeen) (machine : Seen) (digest : Digested) (out : SinkState) → AgreesIn phase m h s → AgreesIn phase m h (record s { machine = machine; digest = digest; out = out })
agrees_with phases.Fresh m h s machine digest out agrees = agrees
agrees_with (phases.Open round) m h s machine digest out agrees = record { due = agrees.due; stale = agrees.stale }
agrees_with _ m h s machine digest out agrees = tt

-- What a history promises of a machine speaks of its state, and of the honesty of its disks.
pub relates_with : (m : MachineState) (h : History) (out : SinkState) (s : LiveSeen) (machine : Seen) → Relates m h out s → state_of machine ≡ now s → AreHonest machine → Relates m h out (record s { machine = machine })
relates_with m h out s machine rel same honest = record {
  follows = record {
    machine = same ∙ rel.follows.machine;
    shape = subst (IsSameShape m) (sym same) rel.follows.shape;
    phase = rel.follows.phase;
    sets = agrees_with (phase_of h) m h s machine s.digest s.out rel.follows.sets;
  };
  allowed = rel.allowed;
  honest = honest;
  fault = rel.fault;
  count = rel.count;
  held = rel.held;
  taken = rel.taken;
}

pub flush_follows : FlushFollows
flush_follows m h out dev result old new rel f = rw f.rest (relates_with m h out old new.machine rel f.flushes.state (honest_after old.machine dev result new.machine f.flushes rel.honest))

-- What a machine that is being migrated keeps.
pub live_flushed : {T E : Type 0} (old new : Seen) (phase : Phase) (due dirty : List Bool) (firsts : List ℕ) (at dev : ℕ) (result : Result T E) → IsLive old phase due dirty firsts at → FlushesDisk old dev result new → IsLive new phase due dirty firsts at
live_flushed old new phase due dirty firsts at dev result live f = live_same old new phase due dirty firsts at live f.state
