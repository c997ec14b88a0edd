-- RAM that is lent to the caller, in whose memory it lies, and given back.
use Rattle.std.specs.Prelude.{◌≡◌, ◌⊎◌, ℕ, ◌*◌, ◌==◌, not, if◌then◌else◌, Bool, true, List, length, Option, Some, None}
use Rattle.region.specs.Address.{address}
use Rattle.region.specs.Empty.{empty_slot}
use Rattle.region.specs.Slot.{region_of}
use Rattle.region.specs.declared.region.Region.{Region}
use Rattle.region.specs.declared.slot.Slot.{Slot}
use Rattle.guestmem.specs.Lent.{given_back}
use Rattle.guestmem.specs.Memory.{IsMemory}
use Rattle.guestmem.specs.declared.limits.TheConstants.{PAGE_SIZE}
use Rattle.machine.specs.Parked.{IsParked, back_with}
use Rattle.sender.specs.LiveState.{HasPlaces, LiveSeen}
use Rattle.sender.specs.Parked.{IsLiveParked, LiveParkedSeen, live_back}
use Rattle.sender.specs.declared.mig_error.MigError.TheVariants.{AlreadyStopped}
use Rattle.c_handle.specs.Kept.{KeptSeen, LoanSeen, StillLent, MovingLent, State, Still, Moving, Arriving, Lent, parked_in}
use Rattle.c_handle.specs.Mirror.{is_stopped, memory_in}
use Rattle.c_machine.specs.Named.{are_pages, is_known_pages, named_pages, needs_list, pages_refusal}
use Rattle.c_handle.specs.OnHandle.{OnHandle, Refuses, Unless}
use Rattle.c_machine.specs.Status.{bad_ram, done, lent, no_machine, no_memory, not_known, not_lent, not_yours}
use Rattle.c_handle.specs.SendStatus.{mig_status}
use Rattle.c_machine.specs.declared.pages.Pages.{Pages}

-- Why no RAM is lent, apart from whose memory it lies in. The slot that it goes into has to be free.
abbrev pub lend_refusal_in : Bool → ℕ → Option ℕ
lend_refusal_in stopped bytes = if stopped then Some (mig_status AlreadyStopped) else if not (bytes == 0) then Some bad_ram else None

abbrev pub lend_refusal_of : State → ℕ → Option ℕ
lend_refusal_of (Arriving r) bytes = Some no_machine
lend_refusal_of (Lent x) bytes = Some lent
lend_refusal_of k bytes = lend_refusal_in (is_stopped k) bytes

-- It was refused for this reason, and nothing changed.
abbrev pub IsUnlent : State → Slot → ℕ → Slot → State → ℕ → Type 0
IsUnlent k ram status new_ram next reason = Refuses status new_ram ram reason × (next ≡ k)

-- All of a machine that is being migrated is kept but its RAM. Its sets have an entry for each page and sector, as those of all such
-- machines of handles.
pub record IsLiveLoan (l : LiveSeen) (ram : Region) (p : LiveParkedSeen) : Type 0 where
  pub parked : IsLiveParked l ram p
  pub places : HasPlaces l
  pub sound : IsMemory l.machine.memory

-- All of the machine is kept but its RAM, which lies in the slot.
abbrev pub IsLoan : State → Slot → State → Type 0
IsLoan (Still m) ram (Lent (StillLent p)) = IsParked m (region_of ram) p
IsLoan (Moving l) ram (Lent (MovingLent p)) = IsLiveLoan l (region_of ram) p
IsLoan _ ram _ = ⊥

pub record HasLent (k : State) (status : ℕ) (new_ram : Slot) (next : State) : Type 0 where
  pub status_is : status ≡ done
  pub loan : IsLoan k new_ram next

-- Its RAM lies in memory of the library, which is not given away.
pub record IsNotOver (k : State) (status : ℕ) (ram new_ram : Slot) (next : State) : Type 0 where
  pub own : (memory_in k).place ≡ None
  pub unlent : IsUnlent k ram status new_ram next not_yours

abbrev pub LendsIfOver : State → Slot → ℕ → Slot → State → Type 0
LendsIfOver k ram status new_ram next = HasLent k status new_ram next ⊎ IsNotOver k status ram new_ram next

abbrev pub LendsKept : State → Slot → ℕ → Slot → State → Type 0
LendsKept k ram status new_ram next = Unless (lend_refusal_of k (length ram.content)) (IsUnlent k ram status new_ram next) (LendsIfOver k ram status new_ram next)

-- The RAM of the machine of a handle was lent.
abbrev pub Lends : Option KeptSeen → Slot → ℕ → Slot → Option KeptSeen → Type 0
Lends k ram status new_ram after = OnHandle (Refuses status new_ram ram) (λ old next. LendsKept old.state ram status new_ram next) k after

-- How many pages the RAM has that is lent.
abbrev pub lent_pages : State → ℕ
lent_pages (Lent x) = length (parked_in x).memory
lent_pages _ = 0

-- Why RAM is not taken back: there is none out, or it is of another length, or pages are named that are not there.
abbrev pub return_refusal_of : ℕ → ℕ → Pages → Option ℕ
return_refusal_of count bytes pages =
    if not (is_known_pages pages) then Some not_known
    else if not (bytes == PAGE_SIZE * count) then Some bad_ram
    else pages_refusal pages count

abbrev pub back_refusal_of : State → ℕ → Pages → Option ℕ
back_refusal_of (Arriving r) bytes pages = Some no_machine
back_refusal_of (Lent x) bytes pages = return_refusal_of (length (parked_in x).memory) bytes pages
back_refusal_of _ bytes pages = Some not_lent

-- This many bytes are the RAM that is lent, and each number is that of one of its pages.
abbrev pub IsReturnable : State → ℕ → List ℕ → Type 0
IsReturnable (Lent x) bytes pages = (bytes ≡ PAGE_SIZE * length (parked_in x).memory) × (are_pages (length (parked_in x).memory) pages ≡ true)
IsReturnable _ bytes pages = ⊥

-- The machine has the RAM of the region again, and these pages were written: their versions have risen, and where it is being
-- migrated they are dirty.
abbrev pub IsBackWith : LoanSeen → Region → List ℕ → State → Type 0
IsBackWith (StillLent p) ram pages (Still next) = next ≡ back_with p (given_back ram.content (address ram) p.memory pages)
IsBackWith (MovingLent l) ram pages (Moving next) = next ≡ live_back l (given_back ram.content (address ram) l.machine.memory pages) pages
IsBackWith _ ram pages _ = ⊥

abbrev pub IsBack : State → Slot → List ℕ → State → Type 0
IsBack (Lent x) ram pages next = IsBackWith x (region_of ram) pages next
IsBack _ ram pages _ = ⊥

pub record HasComeBack (k : State) (ram : Slot) (pages : List ℕ) (status : ℕ) (new_ram : Slot) (next : State) : Type 0 where
  pub status_is : status ≡ done
  pub taken : new_ram ≡ empty_slot
  pub back : IsBack k ram pages next

-- Where their numbers have to be collected memory may be refused: then nothing changed.
abbrev pub ComesBack : State → Slot → Pages → ℕ → Slot → State → Type 0
ComesBack k ram pages status new_ram next =
    let refused = IsUnlent k ram status new_ram next in
    Unless (back_refusal_of k (length ram.content) pages) refused (HasComeBack k ram (named_pages pages (lent_pages k)) status new_ram next ⊎ ((needs_list pages ≡ true) × refused no_memory))

-- The RAM of the machine of a handle was given back, and these pages were named.
abbrev pub GivesBack : Option KeptSeen → Slot → Pages → ℕ → Slot → Option KeptSeen → Type 0
GivesBack k ram pages status new_ram after = OnHandle (Refuses status new_ram ram) (λ old next. ComesBack old.state ram pages status new_ram next) k after
