-- A step over a window with the pieces that are held of it.
use Rattle.std.proofs.Common.{◌≡◌, ℕ, List, refl, subst}
use Rattle.std.specs.Prelude.{Option, Some, None}
use Rattle.region.specs.Address.{address}
use Rattle.region.specs.declared.region.Region.{Region}
use Rattle.guestmem.specs.Item.{Item, after_all}
use Rattle.guestmem.specs.Lent.{IsLent}
use Rattle.guestmem.specs.Memory.{Memory}
use Rattle.chains.specs.Lacking.{LacksOr}
use Rattle.chains.specs.declared.lacking.Piece.{Piece}
use Rattle.machine.specs.Applied.{IsApplied}
use Rattle.machine.specs.Beside.{IsLoggedOver, window_memory}
use Rattle.machine.specs.Effect.{items_of}
use Rattle.machine.specs.Parked.{ParkedSeen, back_with}
use Rattle.machine.specs.declared.event.Event.TheVariants.{Step}
use Rattle.machine.specs.declared.reply.Reply.{Reply}

-- The memory over a window that was handed out and has the same bytes at the same place.
pub window_same : (p : ParkedSeen) (one other : Region) → other.content ≡ one.content → address other ≡ address one → window_memory p other ≡ window_memory p one
window_same p one other content place = rw (content, place) refl

-- So a step over that window is one over the first.
abbrev IsOver : {L : Type 0} → (L → Item → L) → ParkedSeen → L → ℕ → ℕ → Reply → Region → ParkedSeen → L → Memory → Type 0
IsOver taking p log dev pick reply left next new_log m =
    (after : Memory) × (h : IsApplied (back_with p m) (Step dev pick) reply (back_with next after)) × IsLent after left next.memory × (new_log ≡ after_all taking log (items_of h.effect))

pub over_same : {L : Type 0} (taking : L → Item → L) (p next : ParkedSeen) (one other left : Region) (log new_log : L) (dev pick : ℕ) (reply : Reply) → window_memory p other ≡ window_memory p one
    → IsLoggedOver taking p other log dev pick reply left next new_log → IsLoggedOver taking p one log dev pick reply left next new_log
over_same taking p next one other left log new_log dev pick reply same h =
    let moved = subst (IsOver taking p log dev pick reply left next new_log) same (h.made.after, h.made.applied, h.made.lent, h.logged) in
    record { made = record { after = moved.0; applied = moved.1; lent = moved.2 }; logged = moved.3 }

-- Where no piece is lacking, all is known.
pub none_lacking : (size : ℕ) (held : List Piece) (Known : Type 0) (lacking : Option Piece) → lacking ≡ None → LacksOr size held Known lacking → Known
none_lacking size held Known None none h = h
none_lacking size held Known (Some piece) none h = cc
