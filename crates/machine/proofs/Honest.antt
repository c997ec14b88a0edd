-- Events that were applied, by what the disk that they call gave.
use Rattle.std.proofs.Common.{◌≡◌, List, refl, ap, subst, ◌∙◌}
use Rattle.std.specs.Prelude.{slice_set}
use Rattle.blk.specs.Sectors.{Sector}
use Rattle.machine.specs.Applied.{IsApplied, IsGivenFor, IsHonestFor, as_given}
use Rattle.machine.specs.AppliedLaws.{HonestDisksGiveTheirs}
use Rattle.machine.specs.Outcome.{outcome_of}
use Rattle.machine.specs.Seen.{Marks, Seen, all_marks, state_of}
use Rattle.machine.specs.State.{MachineState}
use Rattle.machine.specs.Step.{HasEffect, IsStep}
use Rattle.machine.specs.declared.event.Event.{Event}
use Rattle.machine.specs.declared.event.Event.TheVariants.{RegRead, RegWrite, MemRead, MemWrite, Step, Input, Resize, Drop, Disk}
use Rattle.machine.specs.declared.reply.Reply.{Reply}
use Rattle.machine.proofs.At.{disk_itself}

gave_its : (marks : List Marks) (m : MachineState) (e : Event) (given : List Sector) → IsGivenFor marks m e given → IsHonestFor marks e → as_given m e given ≡ m
gave_its marks m (RegRead dev off width) given is honest = refl
gave_its marks m (RegWrite dev off width value) given is honest = refl
gave_its marks m (MemRead addr len) given is honest = refl
gave_its marks m (MemWrite addr bytes) given is honest = refl
gave_its marks m (Step dev pick) given is honest = ap (λ (disks : List (List Sector)). record m { disks = disks }) (ap (slice_set m.disks dev) (is.is honest) ∙ disk_itself m.disks dev)
gave_its marks m (Input dev bytes) given is honest = refl
gave_its marks m (Resize dev cols rows) given is honest = refl
gave_its marks m (Drop dev) given is honest = refl
gave_its marks m (Disk dev pick answer) given is honest = refl

pub honest_effect : HonestDisksGiveTheirs
honest_effect old new e reply h honest = subst (λ (m : MachineState). HasEffect m e (outcome_of reply) reply h.effect) (gave_its (all_marks old) (state_of old) e h.given h.is_given honest) h.has

-- Such an event is a step.
pub honest_step : (old new : Seen) (e : Event) (reply : Reply) → IsApplied old e reply new → IsHonestFor (all_marks old) e → IsStep (state_of old) e (outcome_of reply) reply (state_of new)
honest_step old new e reply h honest = record { effect = h.effect; has = honest_effect old new e reply h honest; changed = h.changed honest }
