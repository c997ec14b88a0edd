-- What a device answers whose registers are read, and that one which is not there is not flushed.
use Rattle.std.proofs.Common.{◌≡◌, ℕ, zero, suc, ◌≤◌, List, [], ◌∷◌, length, map, true, Option, None, Ok, refl, ap, arith}
use Rattle.std.specs.Prelude.{IsTrue, slice_index_or, slice_set}
use Rattle.chains.specs.declared.next.Next.TheVariants.{Empty}
use Rattle.guestmem.specs.Memory.{Memory}
use Rattle.machine.specs.Applied.{IsApplied}
use Rattle.machine.specs.Effect.{no_effect}
use Rattle.machine.specs.Held.{IsHeld}
use Rattle.machine.specs.Seen.{DeviceSeen, called_at, called_if}
use Rattle.machine.specs.Step.{register_value_of}
use Rattle.machine.specs.StepLaws.{Fits}
use Rattle.machine.specs.Unsynced.{FlushesDisk}
use Rattle.machine.specs.declared.event.Event.TheVariants.{RegRead}
use Rattle.machine.specs.declared.reply.Refusal.TheVariants.{NoDevice}
use Rattle.machine.specs.declared.reply.Reply.TheVariants.{Refused, Value}
use Rattle.machine.specs.declared.shape.Shape.{Shape}
use Rattle.machine.proofs.At.{IsAt, applied_quiet, found, past}

pub read_there : (shapes : List Shape) (m : Memory) (ds : List DeviceSeen) (dev offset width : ℕ) (d : DeviceSeen) → IsHeld shapes (record { memory = m; devices = ds }) → Fits (RegRead dev offset width) → IsAt ds dev d
    → IsApplied (record { memory = m; devices = ds }) (RegRead dev offset width) (Value (register_value_of d.state offset width)) (record { memory = m; devices = ds })
read_there shapes m ds dev offset width d held fits at =
    let there = found ds dev d at in
    applied_quiet shapes (record { memory = m; devices = ds }) (record { memory = m; devices = ds }) (RegRead dev offset width) (Value (register_value_of d.state offset width)) tt held fits
    (record { effect = no_effect; has = record { seen = Empty; may_see = tt; reply_is = rw there refl; effect_is = rw there refl; outcome_is = refl }; changed = refl }) refl refl tt

pub missing_read : (shapes : List Shape) (m : Memory) (ds : List DeviceSeen) (dev offset width : ℕ) → IsHeld shapes (record { memory = m; devices = ds }) → Fits (RegRead dev offset width) → length ds ≤ dev
    → IsApplied (record { memory = m; devices = ds }) (RegRead dev offset width) (Refused NoDevice) (record { memory = m; devices = ds })
missing_read shapes m ds dev offset width held fits h =
    let none = past ds dev h in
    applied_quiet shapes (record { memory = m; devices = ds }) (record { memory = m; devices = ds }) (RegRead dev offset width) (Refused NoDevice) tt held fits
    (record { effect = no_effect; has = record { seen = Empty; may_see = tt; reply_is = rw none refl; effect_is = rw none refl; outcome_is = refl }; changed = refl }) refl refl tt

flushed_past : (ds : List DeviceSeen) (dev : ℕ) → length ds ≤ dev → IsTrue (slice_index_or (map (λ (x : DeviceSeen). x.is_flushed) ds) dev true)
flushed_past [] dev h = refl
flushed_past (d ∷ ds) zero h = absurd (omega (arith, h))
flushed_past (d ∷ ds) (suc dev) h = flushed_past ds dev (omega (arith, h))

pub missing_flush : {T E : Type 0} (m : Memory) (ds : List DeviceSeen) (dev : ℕ) (done : T) → length ds ≤ dev
    → FlushesDisk {T = T} {E = E} (record { memory = m; devices = ds }) dev (Ok done) (record { memory = m; devices = ds })
missing_flush m ds dev done h = record {
  memory = refl;
  state = refl;
  marks = refl;
  failed = tt;
  unsteady = tt;
  flushed = flushed_past ds dev h;
  others = λ k other. refl;
}

set_past : (ds : List DeviceSeen) (dev : ℕ) (x : Option ℕ) → length ds ≤ dev → map (λ (d : DeviceSeen). d.calls) ds ≡ slice_set (map (λ (d : DeviceSeen). d.calls) ds) dev x
set_past [] dev x h = refl
set_past (d ∷ ds) zero x h = absurd (omega (arith, h))
set_past (d ∷ ds) (suc dev) x h = ap (λ rest. d.calls ∷ rest) (set_past ds dev x (omega (arith, h)))

pub missing_over : (called : ℕ → ℕ) (ds : List DeviceSeen) (dev : ℕ) → length ds ≤ dev → map (λ (d : DeviceSeen). d.calls) ds ≡ called_at called (map (λ (d : DeviceSeen). d.calls) ds) dev
missing_over called ds dev h = set_past ds dev (called_if called true (slice_index_or (map (λ (d : DeviceSeen). d.calls) ds) dev None)) h
