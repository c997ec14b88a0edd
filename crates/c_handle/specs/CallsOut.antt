-- The calls of disks outside that C was handed and has not answered.
use Rattle.std.specs.Prelude.{◌≡◌, ℕ, ◌+◌, ◌-◌, ◌^◌, ◌<◌, List, [], ◌∷◌, length, None}
use Prim.Native.Nat.{zero, suc}
use Rattle.blk.specs.declared.outside.DiskCall.{DiskCall}
use Rattle.blk.specs.declared.request.Request.{Request}
use Rattle.disk_calls.specs.Calls.{AllCalls, CallsState, IsNext, call_of_device}
use Rattle.disk_calls.specs.Parts.{MayGoInPart}

-- How many are out, of all devices.
abbrev pub outs_in : List CallsState → ℕ
outs_in [] = 0
outs_in (s ∷ ss) = length s.outs + outs_in ss

abbrev pub count_out : AllCalls → ℕ
count_out calls = outs_in calls.devices

-- The requests of each of this many devices. One that the machine does not have asks for nothing.
abbrev pub of_each : ℕ → List (List Request) → List (List Request)
of_each zero asked = []
of_each (suc n) [] = [] ∷ of_each n []
of_each (suc n) (requests ∷ asked) = requests ∷ of_each n asked

-- The most sectors that a call can have: it is not cut.
abbrev pub uncut : ℕ
uncut = 2 ^ 32 - 1

-- A call waits that may be handed out whole, and the next one is this device's. So one may be handed out in part too, whatever room its host has.
pub record IsCallNext (calls : AllCalls) (asked : List (List Request)) (dev : ℕ) : Type 0 where
  pub numbered : calls.number < 2 ^ 64 - 1
  pub next : (k : ℕ) × (call : DiskCall) × IsNext uncut calls asked dev k call
  pub part : (k : ℕ) × MayGoInPart uncut calls asked dev k

-- No call of any device may be handed out whole, or numbers are used up.
abbrev pub HasNoCall : AllCalls → List (List Request) → Type 0
HasNoCall calls asked = (dev j : ℕ) → calls.number < 2 ^ 64 - 1 → dev < length calls.devices → call_of_device uncut calls asked dev j ≡ None
