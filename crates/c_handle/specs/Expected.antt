-- One call for all machines that will arrive: what its struct names says in whose memory, and within which limits.
use Rattle.std.specs.Prelude.{◌≡◌, ℕ, ◌^◌, ◌-◌, if◌then◌else◌, Bool, true, false, List, [], length, Option}
use Rattle.guestmem.specs.Memory.{Memory}
use Rattle.guestmem.specs.declared.limits.TheConstants.{PAGES_GREATEST}
use Rattle.machine.specs.Limits.{greatest}
use Rattle.machine.specs.declared.limits.Limits.{Limits}
use Rattle.receiver.specs.Opened.{terms_at, terms_over, told_by}
use Rattle.receiver.specs.Receiving.{place_aside}
use Rattle.receiver.specs.declared.ram_terms.RamTerms.{RamTerms}
use Rattle.receiver.specs.declared.terms.Terms.{Terms}
use Rattle.region.specs.declared.slot.Slot.{Slot}
use Rattle.c_handle.specs.AdmissionSeen.{Pending}
use Rattle.c_handle.specs.Awaited.{nothing_fed}
use Rattle.c_handle.specs.Kept.{IsNew, KeptSeen, State, Arriving, first_telling, places_for}
use Rattle.c_machine.specs.Expected.{IsUntaken, arrival_refusal_of, frame_allowed, has_images, has_ram, header_limits, outside_allowed}
use Rattle.c_handle.specs.Landing.{IsAwaitedAt}
use Rattle.c_machine.specs.Made.{first_place, has_bytes, is_ram, ram_bytes, ram_left}
use Rattle.c_machine.specs.Making.{shapes_of}
use Rattle.c_machine.specs.Mapping.{AreTaken, contents}
use Rattle.c_handle.specs.Filled.{Fills}
use Rattle.c_handle.specs.declared.admission.Allowed.{Allowed}
use Rattle.c_machine.specs.declared.setup.Expected.{Expected}

-- The limits within which the header is read.
abbrev pub limits_in : Expected → Limits
limits_in e = header_limits e.flags (frame_allowed e) (outside_allowed e)

-- The most that may arrive. RAM and images of the caller are their own limit: the machine has to be as they are.
abbrev pub allowed_of : Expected → Allowed
allowed_of e = record {
  limits = limits_in e;
  pages = if has_ram e then PAGES_GREATEST else e.most_pages;
  sectors = if has_images e then 2 ^ 64 - 1 else e.most_sectors;
  frame = frame_allowed e;
  outside = outside_allowed e;
  base = e.base;
}

-- The slot names no memory, or memory that may be RAM.
abbrev pub IsNoneOrRam : Slot → Type 0
IsNoneOrRam ram = has_bytes ram ≡ true → is_ram greatest (length ram.content) ≡ true

-- The address at which RAM will begin, and how large the machine may be.
abbrev pub terms_in : Expected → Terms
terms_in e = record { base = e.base; limits = limits_in e }

-- These, and the length of the caller's memory, if that is to be RAM.
abbrev pub terms_if : Bool → Terms → List ℕ → RamTerms
terms_if true terms bytes = terms_over terms bytes
terms_if false terms bytes = terms_at terms

abbrev pub terms_of : Expected → RamTerms
terms_of e = terms_if (has_ram e) (terms_in e) e.ram.content

-- A log has a place for each page that may arrive.
abbrev pub places_of : Expected → ℕ
places_of e = places_for e.flags (ram_bytes e.most_pages (length e.ram.content))

-- This RAM is the memory of the slot, if it names any.
pub record IsGiven (ram : Slot) (given : Option Memory) : Type 0 where
  pub terms : (terms : Terms) → told_by terms given ≡ terms_if (has_bytes ram) terms ram.content
  pub place : place_aside given ≡ first_place ram

-- Nothing was fed. By whether it names images: whose memory the disks will be.
abbrev pub StandsExpected : Bool → Expected → State → Type 0
StandsExpected false e state = state ≡ Arriving (nothing_fed (terms_of e) (first_place e.ram))
StandsExpected true e (Arriving a) = IsAwaitedAt (terms_of e) (first_place e.ram) (contents e.images.now) a
StandsExpected true e _ = ⊥

pub record IsArrivalOf (e : Expected) (k : KeptSeen) : Type 0 where
  pub new : IsNew (has_images e) e.flags (places_of e) e.block e.calls_from k
  pub stands : StandsExpected (has_images e) e k.state
  pub asked : k.admission ≡ Pending (allowed_of e) (shapes_of e.shapes.now) []
  pub telling : k.telling ≡ first_telling e.flags

-- It waits for the machine as the struct says, and RAM and images that this names were taken.
pub record IsAwaitedBy (e next : Expected) (k : KeptSeen) : Type 0 where
  pub is_expected : IsArrivalOf e k
  pub ram_taken : next.ram ≡ ram_left (has_ram e) e.ram
  pub images_taken : AreTaken e.images.now next.images.now

-- A machine will arrive as the struct says, or the status says why not.
abbrev pub Expects : Option KeptSeen → Expected → ℕ → Expected → Option KeptSeen → Type 0
Expects old e status next after = Fills (arrival_refusal_of e) (IsAwaitedBy e next) (IsUntaken e next) old status after
