-- The log of a machine that has arrived.
use Rattle.std.specs.Prelude.{◌≡◌, ℕ, List, ◌++◌, false}
use Rattle.machine.specs.Seen.{Seen}
use Rattle.machine.specs.declared.shape.Shape.{Shape}
use Rattle.c_machine.specs.Making.{shapes_of}
use Rattle.c_machine.specs.declared.setup.Expected.{Expected}
use Rattle.c_handle.specs.Admission.{IsAdmitted}
use Rattle.c_handle.specs.ArrivalSeen.{ArrivalSeen}
use Rattle.c_handle.specs.Arriving.{has_more}
use Rattle.c_handle.specs.Awaited.{GoesOnWith, HasArrived, awaited_ram, ram_coming}
use Rattle.c_handle.specs.Expected.{allowed_of, places_of, terms_of}

-- Bytes were let in for this arrival, and with more of them a machine came: its log has a place for each page, so `vmig_finish` does not refuse it
-- as one that has more.
abbrev pub ArrivedHasPlaces : Type 0
ArrivedHasPlaces = (e : Expected) (a : ArrivalSeen) (m : Seen) (bytes more : List ℕ) (pages : ℕ) (shapes : List Shape) → IsAdmitted (allowed_of e) (shapes_of e.shapes.now) bytes pages shapes
    → awaited_ram a ≡ terms_of e → GoesOnWith (bytes ++ more) a → HasArrived a m → has_more (places_of e) (ram_coming a) ≡ false
