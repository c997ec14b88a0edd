-- The state of a machine that is being migrated, by its history.
use Rattle.std.specs.Prelude.{◌≡◌, ◌≢◌, ℕ, ◌<◌, ◌+◌, ◌%◌, ◌^◌, ◌++◌, Bool, true, false, IsTrue}
use Rattle.dirtylog.specs.Members.{has}
use Rattle.machine.specs.Effect.{Effect}
use Rattle.machine.specs.EffectLaws.{IsSameShape}
use Rattle.machine.specs.Layout.{layout_of, size_of}
use Rattle.machine.specs.Seen.{AreHonest}
use Rattle.machine.specs.State.{MachineState}
use Rattle.wire.specs.Sinks.{Covers, SinkState}
use Rattle.sender.specs.Calls.{Serves, in_either}
use Rattle.sender.specs.History.{AllAllowed, Allowed, History, IsItsChange, has_fault, is_due, is_stale, machine_after, phase_of, text, then_came}
use Rattle.sender.specs.LiveState.{HasPlaces, LiveSeen, now}
use Rattle.sender.specs.declared.event.LiveEvent.{LiveEvent}
use Rattle.sender.specs.declared.event.LiveReply.{LiveReply}
use Rattle.sender.specs.declared.phase.Phase.{Phase}
use Rattle.sender.specs.declared.phase.Phase.TheVariants as phases

-- The due set holds exactly the due items, and the items in the due or the dirty set are exactly the stale ones.
pub record SetsAgree (m : MachineState) (h : History) (s : LiveSeen) : Type 0 where
  pub due : (i : ℕ) → i < size_of (layout_of m) → has s.due i ≡ is_due (layout_of m) h i
  pub stale : (i : ℕ) → i < size_of (layout_of m) → in_either s i ≡ is_stale (layout_of m) h i

-- Before the migration begins every item is stale; while a round is open the sets say which items are due and which are stale.
abbrev pub AgreesIn : Phase → MachineState → History → LiveSeen → Type 0
AgreesIn phases.Fresh m h s = (i : ℕ) → is_stale (layout_of m) h i ≡ true
AgreesIn (phases.Open k) m h s = SetsAgree m h s
AgreesIn phases.Stopped m h s = Unit {0}
AgreesIn phases.Failed m h s = Unit {0}

-- The state of a machine that is being migrated is the one that its history gives.
pub record Follows (m : MachineState) (h : History) (s : LiveSeen) : Type 0 where
  pub machine : now s ≡ machine_after m h
  pub shape : IsSameShape m (now s)
  pub phase : s.phase ≡ phase_of h
  pub sets : AgreesIn (phase_of h) m h s

-- The history continues with the reply of a call, which is an allowed one, and with what the call changed.
pub record GoesOn (m : MachineState) (h : History) (e : LiveEvent) (reply : LiveReply) (new : LiveSeen) : Type 0 where
  pub effect : Effect
  pub follows : Follows m (then_came h e reply effect) new
  pub allowed : Allowed m h e reply effect
  pub fits : IsItsChange e reply effect

-- The count of failures: one more, modulo 2^64, if the writer failed.
abbrev pub count_after : ℕ → Bool → ℕ
count_after count true = (count + 1) % 2 ^ 64
count_after count false = count

-- All that holds of a machine that is being migrated, by its history and by the state of its writer before it.
pub record Relates (m : MachineState) (h : History) (out : SinkState) (s : LiveSeen) : Type 0 where
  pub follows : Follows m h s
  pub allowed : AllAllowed m h
  pub honest : AreHonest s.machine
  pub fault : has_fault h ≡ true → s.phase ≡ phases.Failed
  pub count : s.out.failures ≡ count_after out.failures (has_fault h)
  pub held : has_fault h ≡ false → IsTrue out.honest → IsTrue s.out.honest × (s.out.held ≡ out.held ++ text m h)
  pub taken : has_fault h ≡ false → phase_of h ≢ phases.Stopped → Covers s.digest (text m h)

-- If the state of a machine that is being migrated is the one that its history gives, and the disks are honest, this is so
-- after each call too.
abbrev pub CallsFollow : Type 0
CallsFollow = (m : MachineState) (h : History) (e : LiveEvent) (reply : LiveReply) (old new : LiveSeen) → Follows m h old → HasPlaces old → AreHonest old.machine → Serves old e reply new → GoesOn m h e reply new
