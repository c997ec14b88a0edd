-- A frame that fits is given with its header, and one that does not is dropped.
use Rattle.std.proofs.Common.{◌≡◌, ℕ, ◌<◌, Bool, true, false, List, [], ◌∷◌, ◌++◌, length, drop, slice_get, Some, nat_lt, refl, arith}
use Rattle.guestmem.specs.Item.{Item}
use Rattle.guestmem.specs.Writes.{touched}
use Rattle.chains.specs.Places.{places}
use Rattle.chains.specs.State.{RingState}
use Rattle.chains.specs.ReceiveBuffer.{IsFilled}
use Rattle.chains.specs.Served.{IsDone}
use Rattle.chains.specs.Service.{Completed, Did, Dropped}
use Rattle.chains.specs.declared.chain.Chain.{Chain}
use Rattle.chains.proofs.ServedLaws.{filled_done}
use Rattle.net.specs.Header.{header}
use Rattle.net.specs.Receive.{give_first}

-- These bytes are the header and the oldest frame.
abbrev pub IsFirst : List (List ℕ) → List ℕ → Type 0
IsFirst frames bytes = (frame : List ℕ) → slice_get frames 0 ≡ Some frame → bytes ≡ header ++ frame

pub given_first : (touches : List Item → Type 0) (ram : List ℕ) (q : RingState) (frames : List (List ℕ)) (bytes : List ℕ) (c : Chain) (is_due : Bool) (new_ram : List ℕ) (new_q : RingState) (new_frames : List (List ℕ))
    → 0 < length frames → IsFirst frames bytes → nat_lt (length (places c.writable)) (length bytes) ≡ false
    → IsFilled touches ram q c bytes is_due new_ram new_q → new_frames ≡ drop 1 frames
    → IsDone touches ram (give_first ram q frames c) (Did (Completed (length bytes)) is_due) new_ram new_q new_frames
given_first touches ram q [] bytes c is_due new_ram new_q new_frames some whole fits filled frames_are = absurd (omega (arith, some))
given_first touches ram q (f ∷ rest) bytes c is_due new_ram new_q new_frames some whole fits filled frames_are =
    let is = whole f refl in
    rw (← is, fits) (filled_done touches ram q c bytes is_due new_ram new_q rest new_frames filled frames_are)

pub dropped_first : (touches : List Item → Type 0) (ram : List ℕ) (q : RingState) (frames : List (List ℕ)) (bytes : List ℕ) (c : Chain) (new_frames : List (List ℕ))
    → 0 < length frames → IsFirst frames bytes → nat_lt (length (places c.writable)) (length bytes) ≡ true
    → new_frames ≡ drop 1 frames → touches (touched [])
    → IsDone touches ram (give_first ram q frames c) (Did Dropped false) ram q new_frames
dropped_first touches ram q [] bytes c new_frames some whole short frames_are none = absurd (omega (arith, some))
dropped_first touches ram q (f ∷ rest) bytes c new_frames some whole short frames_are none =
    let is = whole f refl in
    rw (← is, short) (record { answer_is = refl; ram_is = refl; ring_is = refl; state_is = frames_are; items_are = none })
