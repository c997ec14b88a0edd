-- An answer of a disk outside, handed to a device of a machine.
use Rattle.std.proofs.Common.{◌≡◌, ℕ, zero, suc, ◌≤◌, Bool, List, [], ◌∷◌, length, map, set, Option, Some, None, Result, Ok, Err, refl, sym, ap, ◌∙◌, arith, append-nil}
use Rattle.std.specs.Prelude.{IfSome, slice_get}
use Rattle.guestmem.specs.Item.{Item}
use Rattle.guestmem.specs.Memory.{Memory}
use Rattle.chains.specs.declared.next.Next.TheVariants.{Empty}
use Rattle.machine.specs.Applied.{IsApplied}
use Rattle.machine.specs.DeviceStep.{DeviceAnswer}
use Rattle.machine.specs.Effect.{no_effect}
use Rattle.machine.specs.Held.{IsHeld}
use Rattle.machine.specs.Outside.{GotAnswerOrRefused, MayAsk, TakesAnswer, answer_of, disk_answered, disk_reply}
use Rattle.machine.specs.Seen.{DeviceSeen, state_of}
use Rattle.machine.specs.Shapes.{made_as}
use Rattle.machine.specs.State.{DeviceState}
use Rattle.machine.specs.Step.{IsTouchingStep}
use Rattle.machine.specs.StepLaws.{Fits}
use Rattle.machine.specs.declared.event.DiskAnswer.{DiskAnswer}
use Rattle.machine.specs.declared.event.Event.TheVariants.{Disk}
use Rattle.machine.specs.declared.outside_call.OutsideCall.{OutsideCall}
use Rattle.machine.specs.declared.reply.Refusal.{Refusal}
use Rattle.machine.specs.declared.reply.Refusal.TheVariants.{NoDevice}
use Rattle.machine.specs.declared.reply.Reply.TheVariants.{Refused}
use Rattle.machine.specs.declared.shape.Shape.{Shape}
use Rattle.machine.proofs.At.{IsAt, applied_quiet, changed_at, changing, found, past, plain_step, set_found}
use Rattle.machine.proofs.Quiet.{IsQuiet}

-- What a device was handed, of a machine with these devices.
module _ (touches : List Item → Type 0) (m new_m : Memory) (ds : List DeviceSeen) (dev pick : ℕ) (d new : DeviceSeen) (given : DiskAnswer) (result : Result Bool Refusal) (at : IsAt ds dev d) (same : new ≡ record d { state = new.state }) where
  step_by : (told : Result DeviceAnswer Refusal) → disk_answered d.state d.state.kind pick (answer_of given) ≡ told → GotAnswerOrRefused touches m.bytes (answer_of given) d.state told result new_m.bytes new.state
      → IsTouchingStep touches (state_of (record { memory = m; devices = ds })) (Disk dev pick given) (disk_reply (answer_of given) result) (state_of (record { memory = new_m; devices = set ds dev new }))
  step_by (Ok s) of h = record {
    effect = changing dev s.writes new.state;
    has = record { seen = Empty; may_see = tt; reply_is = rw (found ds dev d at, of) h.reply_is; effect_is = rw (found ds dev d at, of, h.device_is) refl; outcome_is = refl };
    changed = changed_at m new_m ds dev d new s.writes at (ap (λ (x : DeviceSeen). x.sectors) same) h.ram_is;
    items_are = rw append-nil h.items_are;
  }
  step_by (Err refusal) of h =
      let device : new ≡ d = same ∙ ap (λ (s : DeviceState). record d { state = s }) h.device_is in
      let all : set ds dev new ≡ ds = rw device (set_found ds dev d at) in
      rw h.refused (record {
        effect = no_effect;
        has = record { seen = Empty; may_see = tt; reply_is = rw (found ds dev d at, of) refl; effect_is = rw (found ds dev d at, of) refl; outcome_is = refl };
        changed = rw (all, h.ram_is) refl;
        items_are = h.items_are;
      })

  pub handed_step : TakesAnswer touches m.bytes d.state pick (answer_of given) result new_m.bytes new.state
      → IsTouchingStep touches (state_of (record { memory = m; devices = ds })) (Disk dev pick given) (disk_reply (answer_of given) result) (state_of (record { memory = new_m; devices = set ds dev new }))
  handed_step h = step_by (disk_answered d.state d.state.kind pick (answer_of given)) refl h

-- There is no such device.
pub missing_handed : (touches : List Item → Type 0) (m : Memory) (ds : List DeviceSeen) (dev pick : ℕ) (given : DiskAnswer) → length ds ≤ dev → touches []
    → IsTouchingStep touches (state_of (record { memory = m; devices = ds })) (Disk dev pick given) (Refused NoDevice) (state_of (record { memory = m; devices = ds }))
missing_handed touches m ds dev pick given h untouched = record {
  effect = no_effect;
  has = record { seen = Empty; may_see = tt; reply_is = rw (past ds dev h) refl; effect_is = rw (past ds dev h) refl; outcome_is = refl };
  changed = refl;
  items_are = untouched;
}

pub missing_quiet : (shapes : List Shape) (m : Memory) (ds : List DeviceSeen) (dev pick : ℕ) (given : DiskAnswer) → IsQuiet (Disk dev pick given) → IsHeld shapes (record { memory = m; devices = ds }) → Fits (Disk dev pick given) → length ds ≤ dev
    → IsApplied (record { memory = m; devices = ds }) (Disk dev pick given) (Refused NoDevice) (record { memory = m; devices = ds })
missing_quiet shapes m ds dev pick given quiet held fits h =
    let step = missing_handed (λ (items : List Item). items ≡ []) m ds dev pick given h refl in
    applied_quiet shapes (record { memory = m; devices = ds }) (record { memory = m; devices = ds }) (Disk dev pick given) (Refused NoDevice) quiet held fits
    (plain_step _ (state_of (record { memory = m; devices = ds })) (state_of (record { memory = m; devices = ds })) (Disk dev pick given) (Refused NoDevice) step) refl refl tt

-- What is asked of a disk outside is what the shape of its device allows.
shape_there : (ds : List DeviceSeen) (dev : ℕ) (d : DeviceSeen) → IsAt ds dev d → slice_get (map (λ (x : DeviceState). made_as x.kind) (map (λ (x : DeviceSeen). x.state) ds)) dev ≡ Some (made_as d.state.kind)
shape_there [] dev d at = absurd (omega (arith, at.below))
shape_there (x ∷ ds) zero d at = ap (λ (y : DeviceSeen). Some (made_as y.state.kind)) (sym at.is)
shape_there (x ∷ ds) (suc dev) d at = shape_there ds dev d (record { below = omega (arith, at.below); is = at.is })

pub may_ask_there : (ds : List DeviceSeen) (dev : ℕ) (d : DeviceSeen) (asked : Option OutsideCall) → IsAt ds dev d → IfSome asked (λ a. MayAsk (made_as d.state.kind) a.call)
    → IfSome asked (λ a. (shape : Shape) × (slice_get (map (λ (x : DeviceState). made_as x.kind) (map (λ (x : DeviceSeen). x.state) ds)) dev ≡ Some shape) × MayAsk shape a.call)
may_ask_there ds dev d None at may = tt
may_ask_there ds dev d (Some asked) at may = (made_as d.state.kind, shape_there ds dev d at, may)
