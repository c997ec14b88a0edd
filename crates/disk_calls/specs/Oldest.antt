-- The calls that are out in the order of their numbers, which is the order of handing out.
use Rattle.std.specs.Prelude.{◌≡◌, ℕ, ◌+◌, ◌<◌, ◌≤◌, nat_lt, List, [], ◌∷◌, slice_get, Option, Some, None, if◌then◌else◌}
use Rattle.disk_calls.specs.Calls.{AllCalls, IsAt}
use Rattle.disk_calls.specs.declared.oldest.Listed.{Listed}
use Rattle.disk_calls.specs.declared.out.Out.{Out}

-- Of calls of one device, this has the least number from a number on.
pub record IsOldestOf (outs : List Out) (number : ℕ) (oldest : Out) : Type 0 where
  pub there : (i : ℕ) × (slice_get outs i ≡ Some oldest)
  pub from : number ≤ oldest.number
  pub least : (i : ℕ) (out : Out) → slice_get outs i ≡ Some out → number ≤ out.number → oldest.number ≤ out.number

-- Of all calls that are out, this has the least number from a number on.
pub record IsOldestFrom (calls : AllCalls) (number : ℕ) (listed : Listed) : Type 0 where
  pub there : (i : ℕ) × IsAt calls.devices listed.dev i listed.out
  pub from : number ≤ listed.out.number
  pub least : (dev i : ℕ) (out : Out) → IsAt calls.devices dev i out → number ≤ out.number → listed.out.number ≤ out.number

-- No call that is out has this number or a greater one.
abbrev pub IsNoneFrom : AllCalls → ℕ → Type 0
IsNoneFrom calls number = (dev i : ℕ) (out : Out) → IsAt calls.devices dev i out → out.number < number

-- These are calls that are out from a number on, oldest first, with none left out between.
abbrev pub AreOldestFrom : AllCalls → ℕ → List Listed → Type 0
AreOldestFrom calls number [] = Unit {0}
AreOldestFrom calls number (l ∷ ls) = IsOldestFrom calls number l × AreOldestFrom calls (l.out.number + 1) ls

-- The number from which the calls after these are listed.
abbrev pub after_last : ℕ → List Listed → ℕ
after_last number [] = number
after_last number (l ∷ ls) = after_last (l.out.number + 1) ls

abbrev pub older_of : Out → Option Out → Option Out
older_of out None = Some out
older_of out (Some kept) = if nat_lt out.number kept.number then Some out else Some kept

-- The older of two calls, where the second counts only from a number on.
abbrev pub older : Option Out → Out → ℕ → Option Out
older oldest out number = if nat_lt out.number number then oldest else older_of out oldest

abbrev pub listed_of : ℕ → Out → Option Listed → Option Listed
listed_of dev out None = Some (record { dev = dev; out = out })
listed_of dev out (Some kept) = if nat_lt out.number kept.out.number then Some (record { dev = dev; out = out }) else Some kept

-- The older of a call that was found before, and of one of this device.
abbrev pub older_listed : Option Listed → ℕ → Option Out → Option Listed
older_listed oldest dev None = oldest
older_listed oldest dev (Some out) = listed_of dev out oldest
