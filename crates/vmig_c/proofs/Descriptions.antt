-- What is told of a handle, by cases on it.
use Rattle.std.proofs.Common.{◌≡◌, ℕ, List, false, refl, subst, true≢false}
use Rattle.std.specs.Prelude.{Option, Some, None, is_some}
use Rattle.c_handle.specs.Described.{Describes, IsDescribed}
use Rattle.c_machine.specs.Description.{nothing_told}
use Rattle.c_handle.specs.Kept.{KeptSeen}
use Rattle.c_handle.specs.Listed.{ListsCalls, ListsKept}
use Rattle.c_handle.specs.NextWork.{FindsNext, FoundWork}
use Rattle.c_handle.specs.declared.outside.Call.{Call}
use Rattle.c_machine.specs.declared.description.Description.{Description}

pub none : (k : Option KeptSeen) (d : Description) → is_some k ≡ false → d ≡ nothing_told → Describes k d
none None d is told = told
none (Some m) d is told = absurd (true≢false is)

pub some : (k : Option KeptSeen) (m : KeptSeen) (d : Description) → Some m ≡ k → IsDescribed m d → Describes k d
some k m d is told = subst (λ (o : Option KeptSeen). Describes o d) is told

pub found_none : (k : Option KeptSeen) (dev pick : ℕ) → is_some k ≡ false → FoundWork k 8 dev dev pick pick
found_none None dev pick is = (refl, refl, refl)
found_none (Some m) dev pick is = absurd (true≢false is)

pub found_some : (k : Option KeptSeen) (m : KeptSeen) (status dev old_dev pick old_pick : ℕ) → Some m ≡ k → FindsNext m status dev old_dev pick old_pick → FoundWork k status dev old_dev pick old_pick
found_some k m status dev old_dev pick old_pick is finds = subst (λ (o : Option KeptSeen). FoundWork o status dev old_dev pick old_pick) is finds

pub listed_none : (k : Option KeptSeen) (calls : List Call) (count : ℕ) → is_some k ≡ false → ListsCalls k 8 calls calls count count
listed_none None calls count is = (refl, refl, refl)
listed_none (Some m) calls count is = absurd (true≢false is)

pub listed_some : (k : Option KeptSeen) (m : KeptSeen) (status : ℕ) (calls new : List Call) (count old_count : ℕ) → Some m ≡ k → ListsKept m status calls new count old_count → ListsCalls k status calls new count old_count
listed_some k m status calls new count old_count is lists = subst (λ (o : Option KeptSeen). ListsCalls o status calls new count old_count) is lists
