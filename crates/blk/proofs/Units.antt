-- One unit of a request.
use Rattle.std.proofs.Common.{◌≡◌, ◌<◌, ℕ, List, [], ◌∷◌, length, set, get_or, Bool, false, Some, None, refl, ap, arith, append-nil, ◌/◌, ◌++◌}
use Rattle.std.proofs.lemmas.Bool.{true≢false}
use Rattle.std.proofs.lemmas.List.Elements.{All-set}
use Rattle.guestmem.specs.declared.limits.TheConstants.{PAGE_SIZE}
use Rattle.guestmem.specs.Address.{index_of}
use Rattle.guestmem.specs.Item.{Item, page, after_all}
use Rattle.guestmem.specs.Writes.{touched}
use Rattle.chains.specs.State.{RingState}
use Rattle.chains.specs.Places.{place_writes}
use Rattle.blk.specs.Sectors.{Sector, is_bad, bytes_of, IsWhole}
use Rattle.blk.specs.Move.{after_unit}
use Rattle.blk.specs.Sound.{HasSoundWork, IsSoundRequest, AreSound}
use Rattle.blk.specs.declared.request.Request.{Request}
use Rattle.blk.specs.declared.shape.Limits.{Limits}
use Rattle.blk.specs.declared.advancing.Advanced.{Advanced}
use Rattle.blk.specs.declared.advancing.Advanced.TheVariants.{Idle, Moved, BadSector, DiskFailed, Completed}

-- Which pages are written depends on the places, and not on the bytes.
touched_same : (base : ℕ) (at bs cs : List ℕ) → length bs ≡ length cs → touched (place_writes base at bs) ≡ touched (place_writes base at cs)
touched_same base [] bs cs e = refl
touched_same base (p ∷ at) [] [] e = refl
touched_same base (p ∷ at) [] (c ∷ cs) e = absurd (omega (arith, e))
touched_same base (p ∷ at) (b ∷ bs) [] e = absurd (omega (arith, e))
touched_same base (p ∷ at) (b ∷ bs) (c ∷ cs) e = ap (λ (is : List Item). page (index_of base p / PAGE_SIZE) ∷ is) (touched_same base at bs cs (omega (arith, e)))

-- A log that took in the pages of some bytes took in those of others at the same places.
pub told_same : {L : Type 0} (after : L → Item → L) (log new_log : L) (base : ℕ) (at bs cs : List ℕ) → length bs ≡ length cs → new_log ≡ after_all after log (touched (place_writes base at bs))
    → new_log ≡ after_all after log (touched (place_writes base at cs) ++ [])
told_same after log new_log base at bs cs e told = rw (append-nil, ← touched_same base at bs cs e) told

-- A sector that is not bad has 512 bytes.
pub whole_length : (s : Sector) → is_bad s ≡ false → IsWhole s → length (bytes_of s) ≡ 512
whole_length None good whole = absurd (true≢false good)
whole_length (Some bytes) good whole = whole.size

still_sound : (base len : ℕ) (is_packed : Bool) (size : ℕ) (limits : Limits) (r : Request) (a : Advanced) → IsSoundRequest base len is_packed size limits r
    → HasSoundWork limits (after_unit r a)
    → IsSoundRequest base len is_packed size limits (after_unit r a)
still_sound base len is_packed size limits r Idle h work = h
still_sound base len is_packed size limits r Moved h work = record { some = h.some; slots = h.slots; id_fits = h.id_fits; id = h.id; few = h.few; readable = h.readable; writable = h.writable; total = h.total; header = h.header; status = h.status; work = work }
still_sound base len is_packed size limits r BadSector h work = record { some = h.some; slots = h.slots; id_fits = h.id_fits; id = h.id; few = h.few; readable = h.readable; writable = h.writable; total = h.total; header = h.header; status = h.status; work = work }
still_sound base len is_packed size limits r DiskFailed h work = record { some = h.some; slots = h.slots; id_fits = h.id_fits; id = h.id; few = h.few; readable = h.readable; writable = h.writable; total = h.total; header = h.header; status = h.status; work = work }
still_sound base len is_packed size limits r (Completed used due) h work = h

-- Requests of which one went on by a unit are sound.
pub goes_on : (len : ℕ) (q : RingState) (limits : Limits) (rs : List Request) (k : ℕ) (r new : Request) (a : Advanced) → AreSound len q limits rs → k < length rs → r ≡ get_or rs k r → new ≡ after_unit r a
    → (HasSoundWork limits r → HasSoundWork limits new)
    → AreSound len q limits (set rs k new)
goes_on len q limits rs k r new a sound below at is work =
    let P = IsSoundRequest q.base len q.is_packed q.size limits in
    let old : P r = rw (← at) at (sound k r below) in
    let next : P new = rw is (still_sound q.base len q.is_packed q.size limits r a old (rw is at (work old.work))) in
    All-set P rs k new next sound
