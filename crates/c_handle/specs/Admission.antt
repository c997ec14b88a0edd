-- What is asked of a machine that arrives: its header is compared with it as soon as it is whole, before any byte that completes it is
-- let in.
use Rattle.std.specs.Prelude.{◌≡◌, ◌⊎◌, ℕ, ◌*◌, ◌==◌, ◌&&◌, ◌||◌, not, nat_lt, if◌then◌else◌, bytes_eq, Bool, true, false, List, [], ◌∷◌, ◌++◌, Option, Some, None}
use Rattle.guestmem.specs.declared.limits.TheConstants.{PAGE_SIZE}
use Rattle.machine.specs.First.{is_base}
use Rattle.machine.specs.declared.shape.Shape.{Shape}
use Rattle.machine.specs.declared.shape.Shape.TheVariants.{Net, LongNet, Block, Outside, Console, Entropy}
use Rattle.machine.specs.Limits.{AreWithin}
use Rattle.machine.specs.declared.limits.Limits.{Limits}
use Rattle.wire.specs.Header.{Begins, Opening}
use Rattle.receiver.specs.Faults.{WaitsHead}
use Rattle.receiver.specs.declared.recv_error.RecvError.TheVariants.{AlreadyFailed}
use Rattle.c_handle.specs.AdmissionSeen.{AdmissionSeen, Granted, Pending, Denied}
use Rattle.c_handle.specs.Announced.{IsRefusedAt}
use Rattle.c_handle.specs.Awaited.{stream_status}
use Rattle.c_machine.specs.Frames.{has_longer_frames}
use Rattle.c_machine.specs.Images.{sectors_in}
use Rattle.c_machine.specs.Outside.{largest_outside}
use Rattle.c_machine.specs.Status.{stream_mismatch, stream_too_large}
use Rattle.c_handle.specs.declared.admission.Allowed.{Allowed}

-- A machine of these pages and devices has no more pages than are allowed, no device for longer frames, no larger disk outside, and no more
-- sectors in all its other disks together.
abbrev pub is_within : Allowed → ℕ → List Shape → Bool
is_within allowed pages shapes =
    not (nat_lt allowed.pages pages) && (not (has_longer_frames allowed.frame shapes || nat_lt allowed.outside (largest_outside shapes)) && not (nat_lt allowed.sectors (sectors_in shapes)))

-- Both devices are made as the same.
abbrev pub same_flag : Bool → Bool → Bool
same_flag true b = b
same_flag false b = not b

abbrev pub is_same_shape : Shape → Shape → Bool
is_same_shape (Net mac) (Net other) = bytes_eq mac other
is_same_shape (LongNet mac longest) (LongNet other its) = longest == its && bytes_eq mac other
is_same_shape (Block sectors read_only id) (Block count only other) = sectors == count && (same_flag read_only only && bytes_eq id other)
is_same_shape (Outside sectors read_only id) (Outside count only other) = sectors == count && (same_flag read_only only && bytes_eq id other)
is_same_shape Console Console = true
is_same_shape Entropy Entropy = true
is_same_shape _ _ = false

abbrev pub are_same_shapes : List Shape → List Shape → Bool
are_same_shapes [] [] = true
are_same_shapes (s ∷ ss) (t ∷ ts) = is_same_shape s t && are_same_shapes ss ts
are_same_shapes _ _ = false

-- These devices are expected; where none is, any are.
abbrev pub are_expected : List Shape → List Shape → Bool
are_expected [] shapes = true
are_expected (s ∷ ss) shapes = are_same_shapes (s ∷ ss) shapes

-- Why a machine of these pages and devices is not let in: it is too large, or another than is expected, or its RAM may not begin at its
-- base.
abbrev pub stream_refusal : Allowed → List Shape → ℕ → List Shape → Option ℕ
stream_refusal allowed expected pages shapes =
    if not (is_within allowed pages shapes) then Some stream_too_large
    else if not (are_expected expected shapes) || not (is_base allowed.base (PAGE_SIZE * pages)) then Some stream_mismatch
    else None

-- The header is whole, of a machine of these pages and devices, and it is let in.
pub record IsAdmitted (allowed : Allowed) (expected : List Shape) (bytes : List ℕ) (pages : ℕ) (shapes : List Shape) : Type 0 where
  pub opening : Opening
  pub rest : List ℕ
  pub begins : Begins bytes opening rest
  pub within : AreWithin allowed.limits opening.pages opening.shapes
  pub fits : stream_refusal allowed expected opening.pages opening.shapes ≡ None
  pub pages_are : pages ≡ opening.pages
  pub shapes_are : shapes ≡ opening.shapes

-- The header is whole, of a machine that is not let in.
pub record IsUnfit (allowed : Allowed) (expected : List Shape) (bytes : List ℕ) (status : ℕ) : Type 0 where
  pub opening : Opening
  pub rest : List ℕ
  pub begins : Begins bytes opening rest
  pub within : AreWithin allowed.limits opening.pages opening.shapes
  pub refused : stream_refusal allowed expected opening.pages opening.shapes ≡ Some status

-- The header has a fault within the first bytes, as of a machine beyond the limits, or memory for it was refused.
pub record IsFaultyHead (limits : Limits) (bytes : List ℕ) (status : ℕ) : Type 0 where
  pub front : List ℕ
  pub rest : List ℕ
  pub are : bytes ≡ front ++ rest
  pub refused : IsRefusedAt limits stream_status front status

-- The header is not whole, and has no fault so far: these bytes are kept.
pub record IsPendingWith (allowed : Allowed) (expected : List Shape) (bytes : List ℕ) (kept : Allowed) (shapes : List Shape) (held : List ℕ) : Type 0 where
  pub waits : WaitsHead allowed.limits bytes
  pub same : kept ≡ allowed
  pub shapes_same : shapes ≡ expected
  pub held_are : held ≡ bytes

-- What is answered for all bytes so far: that they are let in, or a status that refuses them for good.
abbrev pub AdmitsAt : Allowed → List Shape → List ℕ → Option ℕ → AdmissionSeen → Type 0
AdmitsAt allowed expected bytes None (Granted pages shapes) = IsAdmitted allowed expected bytes pages shapes
AdmitsAt allowed expected bytes None (Pending kept shapes held) = IsPendingWith allowed expected bytes kept shapes held
AdmitsAt allowed expected bytes None (Denied told) = ⊥
AdmitsAt allowed expected bytes (Some status) (Denied told) = (told ≡ status) × (IsUnfit allowed expected bytes status ⊎ IsFaultyHead allowed.limits bytes status)
AdmitsAt allowed expected bytes (Some status) (Granted pages shapes) = ⊥
AdmitsAt allowed expected bytes (Some status) (Pending kept shapes held) = ⊥

-- What is answered for the next piece. A stream that was refused stays refused.
abbrev pub Admits : AdmissionSeen → List ℕ → Option ℕ → AdmissionSeen → Type 0
Admits (Granted pages shapes) piece told next = (told ≡ None) × (next ≡ Granted pages shapes)
Admits (Denied first) piece told next = (told ≡ Some (stream_status AlreadyFailed)) × (next ≡ Denied first)
Admits (Pending allowed expected held) piece told next = AdmitsAt allowed expected (held ++ piece) told next

abbrev pub IsPending : AdmissionSeen → Type 0
IsPending (Granted pages shapes) = ⊥
IsPending (Pending allowed expected held) = Unit {0}
IsPending (Denied first) = ⊥

-- The status with which the stream was refused first, if it was.
abbrev pub first_refusal : AdmissionSeen → Option ℕ
first_refusal (Granted pages shapes) = None
first_refusal (Pending allowed expected held) = None
first_refusal (Denied first) = Some first
