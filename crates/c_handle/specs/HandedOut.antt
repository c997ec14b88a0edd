-- The pages that were written, handed out.
use Rattle.std.specs.Prelude.{◌≡◌, ℕ, List, Bool, true, false, Option, Some, None}
use Rattle.machine.specs.PageLog.{HandsOut}
use Rattle.c_machine.specs.Status.{done, no_machine, not_known}
use Rattle.c_handle.specs.Kept.{KeptSeen, State, Arriving}
use Rattle.c_handle.specs.OnHandle.{RefusesBoth}

-- The least of the pages that are in the log were handed out, and are in it no longer.
pub record HasHandedOut (pages : List Bool) (status : ℕ) (out new_out : List ℕ) (count : ℕ) (left : Option (List Bool)) : Type 0 where
  pub rest : List Bool
  pub hands : HandsOut pages out count new_out rest
  pub status_is : status ≡ done
  pub left_is : left ≡ Some rest

-- A machine whose host did not ask for it keeps no log.
abbrev pub HandsFrom : Option (List Bool) → ℕ → List ℕ → List ℕ → ℕ → ℕ → Option (List Bool) → Type 0
HandsFrom None status out new_out count old_count left = RefusesBoth status new_out out count old_count not_known × (left ≡ None)
HandsFrom (Some pages) status out new_out count old_count left = HasHandedOut pages status out new_out count left

-- What arrives is no machine.
abbrev pub is_here : State → Bool
is_here (Arriving r) = false
is_here _ = true

abbrev pub HandsIf : Bool → Option (List Bool) → ℕ → List ℕ → List ℕ → ℕ → ℕ → Option (List Bool) → Type 0
HandsIf true log status out new_out count old_count left = HandsFrom log status out new_out count old_count left
HandsIf false log status out new_out count old_count left = RefusesBoth status new_out out count old_count no_machine × (left ≡ log)

-- Nothing else changed.
pub record DoesHandOut (k : KeptSeen) (status : ℕ) (out new_out : List ℕ) (count old_count : ℕ) (after : Option KeptSeen) : Type 0 where
  pub left : Option (List Bool)
  pub is_next : after ≡ Some (record k { written = left })
  pub hands : HandsIf (is_here k.state) k.written status out new_out count old_count left

-- Pages that were written by calls on a handle were handed out.
abbrev pub HandedOut : Option KeptSeen → ℕ → List ℕ → List ℕ → ℕ → ℕ → Option KeptSeen → Type 0
HandedOut None status out new_out count old_count after = RefusesBoth status new_out out count old_count no_machine × (after ≡ None)
HandedOut (Some k) status out new_out count old_count after = DoesHandOut k status out new_out count old_count after
