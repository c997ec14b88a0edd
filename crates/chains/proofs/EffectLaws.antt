use Rattle.std.specs.Prelude.{◌≡◌, List, [], ◌∷◌, ◌++◌, ◌/◌, refl}
use Rattle.std.proofs.Common.{ap}
use Rattle.guestmem.specs.Item.{Item, page, after_all}
use Rattle.guestmem.specs.Memory.{Memory}
use Rattle.guestmem.specs.Rises.{Rises}
use Rattle.guestmem.proofs.RisesLaws.{rises_append}
use Rattle.guestmem.specs.Writes.{Write, touched}

-- The pages of two lists of writes, appended, are those of the first and then those of the second.
pub touched_append : (ws vs : List Write) → touched (ws ++ vs) ≡ touched ws ++ touched vs
touched_append [] vs = refl
touched_append (w ∷ ws) vs = ap (λ (is : List Item). page (w.index / 4096) ∷ is) (touched_append ws vs)

-- Logging the pages of two lists of writes, appended, is logging those of the first and then those of the second.
pub after_touched : {L : Type 0} (after : L → Item → L) (log : L) (ws vs : List Write) → after_all after log (touched (ws ++ vs)) ≡ after_all after (after_all after log (touched ws)) (touched vs)
after_touched after log [] vs = refl
after_touched after log (w ∷ ws) vs = after_touched after (after log (page (w.index / 4096))) ws vs

-- Versions that rise in exactly the pages of a list of writes, and then in exactly those of another, rise in exactly those of both.
pub rises_touched : (us vs : List Write) (old mid new : Memory) → Rises (touched us) old mid → Rises (touched vs) mid new → Rises (touched (us ++ vs)) old new
rises_touched us vs old mid new h k = rw (touched_append us vs) (rises_append (touched us) (touched vs) old mid new h k)
