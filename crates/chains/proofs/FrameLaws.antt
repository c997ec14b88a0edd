-- What follows from what a step leaves.
use Rattle.std.proofs.Common.{◌≡◌}
use Rattle.guestmem.specs.Item.{Item}
use Rattle.guestmem.specs.Later.{IsLater}
use Rattle.guestmem.proofs.LaterLaws.{later_trans}
use Rattle.guestmem.specs.Memory.{Memory}
use Rattle.chains.specs.Decoder.{DecoderState, Fits}
use Rattle.chains.proofs.DecoderLaws.{fits_later}
use Rattle.chains.specs.Frame.{HasServed, HasLooked}

-- What a ring keeps fits the RAM that a step leaves which does not change it.
pub fits_on : (old new : Memory) (d e : DecoderState) → Fits d old → IsLater old new → e ≡ d → Fits e new
fits_on old new d e fits later same = rw same (fits_later d old new fits later)

-- A look, and then a step that does not change what the ring keeps, leave together what a look leaves.
pub looked_on : {L : Type 0} {may : L → Item → Type 0} {old mid new : Memory} {d e : DecoderState} {log new_log : L}
    → HasLooked may old mid d log → HasServed may mid new new_log → e ≡ d → HasLooked may old new e new_log
looked_on {L} {may} {old} {mid} {new} {d} {e} {log} {new_log} looked served same = record {
  later = later_trans old mid new looked.later served.later;
  pages = served.pages;
  fits = fits_on mid new d e looked.fits served.later same;
}
