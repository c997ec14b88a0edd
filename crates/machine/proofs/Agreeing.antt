-- A step with an outcome gives one reply, one effect and one machine.
use Rattle.std.proofs.Common.{◌≡◌, ℕ, List, [], ◌∷◌, Option, Some, None, refl, ap, sym, ◌∙◌, subst}
use Rattle.std.specs.Prelude.{slice_get}
use Rattle.blk.specs.Sectors.{Sector}
use Rattle.chains.proofs.LookLaws.{sight_same}
use Rattle.chains.specs.State.{RingState}
use Rattle.chains.specs.declared.looking.Wanted.{Wanted}
use Rattle.chains.specs.declared.next.Next.{Next}
use Rattle.machine.specs.DeviceStep.{device_step, looked_at, wanted_of, MayLook, step_at}
use Rattle.machine.specs.Effect.{Effect, applied}
use Rattle.machine.specs.Outcome.{Outcome, fine, disk_failed, no_memory}
use Rattle.machine.specs.Run.{IsRun}
use Rattle.machine.specs.State.{MachineState, DeviceState}
use Rattle.machine.specs.Step.{answer, disk_of, Answer, MaySee, MaySeeAt, step_device}
use Rattle.machine.specs.StepLaws.{EffectsAgree, StepsAgree, RunsAgree}
use Rattle.machine.specs.declared.event.Event.{Event}
use Rattle.machine.specs.declared.event.Event.TheVariants.{RegRead, RegWrite, MemRead, MemWrite, Step, Input, Resize, Drop, Disk}
use Rattle.machine.specs.declared.reply.Reply.{Reply}

look_same : (want : Wanted) (d : DeviceState) (ram : List ℕ) (content : List Sector) (pick : ℕ) (ring : Option RingState) (o : Outcome) (x y : Next) → MayLook want ring ram o x → MayLook want ring ram o y → step_at d ram content pick ring o x ≡ step_at d ram content pick ring o y
look_same want d ram content pick None o x y h k = refl
look_same want d ram content pick (Some q) fine x y h k = ap (λ seen. step_at d ram content pick (Some q) fine seen) (sight_same want ram q x y h k)
look_same want d ram content pick (Some q) disk_failed x y h k = refl
look_same want d ram content pick (Some q) no_memory x y h k = refl

device_same : (number : ℕ) (d : Option DeviceState) (ram : List ℕ) (content : List Sector) (pick : ℕ) (o : Outcome) (x y : Next) → MaySeeAt d ram pick o x → MaySeeAt d ram pick o y → step_device number d ram content pick o x ≡ step_device number d ram content pick o y
unfolding device_step
device_same number None ram content pick o x y h k = refl
device_same number (Some d) ram content pick o x y h k = rw (look_same (wanted_of d.kind pick) d ram content pick (looked_at d pick) o x y h k) refl

answers_same : (m : MachineState) (e : Event) (o : Outcome) (x y : Next) → MaySee m e o x → MaySee m e o y → answer m e o x ≡ answer m e o y
answers_same m (RegRead dev off width) o x y h k = refl
answers_same m (RegWrite dev off width value) o x y h k = refl
answers_same m (MemRead addr len) o x y h k = refl
answers_same m (MemWrite addr bytes) o x y h k = refl
answers_same m (Step dev pick) o x y h k = device_same dev (slice_get m.devices dev) m.ram (disk_of m dev) pick o x y h k
answers_same m (Input dev bytes) o x y h k = refl
answers_same m (Resize dev cols rows) o x y h k = refl
answers_same m (Drop dev) o x y h k = refl
answers_same m (Disk dev pick given) o x y h k = refl

pub effects_same : EffectsAgree
effects_same m e o r s f g h k =
    let same = answers_same m e o h.seen k.seen h.may_see k.may_see in
    (h.reply_is ∙ ap (λ (x : Answer). x.reply) same ∙ sym k.reply_is, h.effect_is ∙ ap (λ (x : Answer). x.effect) same ∙ sym k.effect_is)

pub steps_same : StepsAgree
steps_same m e o r s a b h k =
    let same = effects_same m e o r s h.effect k.effect h.has k.has in
    (same.0, h.changed ∙ ap (λ (f : Effect). applied m f) same.1 ∙ sym k.changed)

cons_same : (r s : Reply) (rs ss : List Reply) → r ≡ s → rs ≡ ss → (r ∷ rs) ≡ (s ∷ ss)
cons_same r s rs ss first others = rw (first, others) refl

pub runs_same : RunsAgree
runs_same m [] [] [] [] a b h k = (refl, h ∙ sym k)
runs_same m [] [] [] (s ∷ ss) a b h k = absurd k
runs_same m [] [] (r ∷ rs) ss a b h k = absurd h
runs_same m [] (o ∷ os) rs ss a b h k = absurd h
runs_same m (e ∷ es) [] rs ss a b h k = absurd h
runs_same m (e ∷ es) (o ∷ os) [] ss a b h k = absurd h
runs_same m (e ∷ es) (o ∷ os) (r ∷ rs) [] a b h k = absurd k
runs_same m (e ∷ es) (o ∷ os) (r ∷ rs) (s ∷ ss) a b (x, h, hs) (y, k, ks) =
    let one = steps_same m e o r s x y h k in
    let others = runs_same y es os rs ss a b (subst (λ n. IsRun n es os rs a) one.1 hs) ks in
    (cons_same r s rs ss one.0 others.0, others.1)
