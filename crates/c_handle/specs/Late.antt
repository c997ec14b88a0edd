-- Pages that are named later than they were written.
use Rattle.std.specs.Prelude.{◌≡◌, ◌⊎◌, ℕ, List, Option, Some, length, not, true, if◌then◌else◌}
use Rattle.machine.specs.Parked.{machine_marked}
use Rattle.sender.specs.Marks.{live_marked}
use Rattle.sender.specs.Parked.{with_pages}
use Rattle.sender.specs.declared.mig_error.MigError.TheVariants.{AlreadyStopped}
use Rattle.c_machine.specs.Named.{is_known_pages, named_pages, needs_list, pages_refusal}
use Rattle.c_machine.specs.Status.{done, no_machine, no_memory, not_known}
use Rattle.c_machine.specs.declared.pages.Pages.{Pages}
use Rattle.c_handle.specs.HandedOut.{is_here}
use Rattle.c_handle.specs.Kept.{KeptSeen, StillLent, MovingLent, State, Still, Moving, Lent, parked_in}
use Rattle.c_handle.specs.Mirror.{is_stopped, memory_in}
use Rattle.c_handle.specs.OnHandle.{OnHandle, Unless}
use Rattle.c_handle.specs.SendStatus.{mig_status}

-- How many pages RAM has, also while it is lent.
abbrev pub all_pages : State → ℕ
all_pages (Lent x) = length (parked_in x).memory
all_pages k = length (memory_in k).versions

-- Why no page is named.
abbrev pub mark_refusal : State → Pages → Option ℕ
mark_refusal k pages =
    if not (is_here k) then Some no_machine
    else if is_stopped k then Some (mig_status AlreadyStopped)
    else if not (is_known_pages pages) then Some not_known
    else pages_refusal pages (all_pages k)

-- The versions of these pages have risen, of a machine that is being migrated they are dirty, and nothing else changed. While RAM is lent no
-- version rises.
abbrev pub IsMarked : State → List ℕ → State → Type 0
IsMarked (Still m) pages (Still next) = next ≡ machine_marked m pages
IsMarked (Moving l) pages (Moving next) = next ≡ live_marked l pages
IsMarked (Lent (StillLent p)) pages (Lent (StillLent next)) = next ≡ p
IsMarked (Lent (MovingLent p)) pages (Lent (MovingLent next)) = next ≡ record p { dirty = with_pages p.dirty pages }
IsMarked _ pages _ = ⊥

pub record HasMarked (k : State) (pages : List ℕ) (status : ℕ) (next : State) : Type 0 where
  pub status_is : status ≡ done
  pub marked : IsMarked k pages next

-- Where their numbers have to be collected memory may be refused: then nothing changed.
abbrev pub MarksKept : State → Pages → ℕ → State → Type 0
MarksKept k pages status next =
    let refused : ℕ → Type 0 = λ reason. (status ≡ reason) × (next ≡ k) in
    Unless (mark_refusal k pages) refused (HasMarked k (named_pages pages (all_pages k)) status next ⊎ ((needs_list pages ≡ true) × refused no_memory))

-- Pages of the machine of a handle were named.
abbrev pub Marked : Option KeptSeen → Pages → ℕ → Option KeptSeen → Type 0
Marked k pages status after = OnHandle (λ reason. status ≡ reason) (λ old next. MarksKept old.state pages status next) k after
