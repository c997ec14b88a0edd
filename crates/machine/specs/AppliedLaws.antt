-- What follows for every event that was applied.
use Rattle.std.specs.Prelude.{◌≡◌, [], map}
use Rattle.machine.specs.Applied.{IsApplied, IsHonestFor}
use Rattle.machine.specs.Effect.{Effect, items_of}
use Rattle.machine.specs.Outcome.{outcome_of}
use Rattle.machine.specs.Seen.{Seen, all_marks, state_of}
use Rattle.machine.specs.Sound.{IsSound}
use Rattle.machine.specs.Step.{HasEffect}
use Rattle.machine.specs.StepLaws.{IsRefusal}
use Rattle.machine.specs.declared.event.Event.{Event}
use Rattle.machine.specs.declared.reply.Reply.{Reply}

-- If the disk that an event calls is honest, it returned the sectors that it holds: the effect is that of a step of the old
-- machine.
abbrev pub HonestDisksGiveTheirs : Type 0
HonestDisksGiveTheirs = (old new : Seen) (e : Event) (reply : Reply) (h : IsApplied old e reply new) → IsHonestFor (all_marks old) e → HasEffect (state_of old) e (outcome_of reply) reply h.effect

-- Two effects that differ at most in the bytes that they write to RAM: they write at the same addresses in the same order, set
-- the same sectors to the same contents, and leave the same device.
pub record IsAlike (a b : Effect) : Type 0 where
  pub addresses : map (λ w. w.index) a.writes ≡ map (λ w. w.index) b.writes
  pub sectors : a.sectors ≡ b.sectors
  pub replaced : a.replaced ≡ b.replaced

-- Whatever bytes a disk returned, the reply is that of a step of the old machine, and the effect differs from that of this step
-- at most in the bytes written.
abbrev pub AnyDiskActsAlike : Type 0
AnyDiskActsAlike = (old new : Seen) (e : Event) (reply : Reply) → IsSound (state_of old) → (h : IsApplied old e reply new) → (f : Effect) × HasEffect (state_of old) e (outcome_of reply) reply f × IsAlike f h.effect

-- The state of the machine and the marks of its disks are as they were.
pub record IsAsItWas (old new : Seen) : Type 0 where
  pub state : state_of new ≡ state_of old
  pub marks : all_marks new ≡ all_marks old

-- Whatever the disks do, an event that is refused, or for which memory is refused, leaves the machine as it was, and writes into
-- no page and no sector.
abbrev pub RefusedChangesNothing : Type 0
RefusedChangesNothing = (old new : Seen) (e : Event) (reply : Reply) (h : IsApplied old e reply new) → IsRefusal reply → IsAsItWas old new × (items_of h.effect ≡ [])
