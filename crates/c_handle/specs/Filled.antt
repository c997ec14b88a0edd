-- An empty handle that gets what a struct asks for.
use Rattle.std.specs.Prelude.{◌≡◌, ◌⊎◌, ℕ, Option, Some, None}
use Rattle.c_machine.specs.Status.{done, in_use, no_memory}
use Rattle.c_handle.specs.Kept.{KeptSeen}
use Rattle.c_handle.specs.OnHandle.{Unless}

-- It has what was made.
pub record HasFilled (makes : KeptSeen → Type 0) (status : ℕ) (after : Option KeptSeen) : Type 0 where
  pub kept : KeptSeen
  pub is_there : after ≡ Some kept
  pub is_made : makes kept
  pub status_is : status ≡ done

-- Nothing changed, also of what the struct names.
pub record IsUnfilled (untaken : Type 0) (old : Option KeptSeen) (status : ℕ) (after : Option KeptSeen) (reason : ℕ) : Type 0 where
  pub status_is : status ≡ reason
  pub same : after ≡ old
  pub left : untaken

-- A handle that has something is in use.
abbrev pub fill_refusal : Option ℕ → Option KeptSeen → Option ℕ
fill_refusal refusal (Some k) = Some in_use
fill_refusal refusal None = refusal

-- It gets what is asked for; or the status says why not: this refusal, or that memory was refused.
abbrev pub Fills : Option ℕ → (KeptSeen → Type 0) → Type 0 → Option KeptSeen → ℕ → Option KeptSeen → Type 0
Fills refusal makes untaken old status after =
    Unless (fill_refusal refusal old) (IsUnfilled untaken old status after) (HasFilled makes status after ⊎ IsUnfilled untaken old status after no_memory)
