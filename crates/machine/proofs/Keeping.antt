-- What the rings of a machine keep of descriptors, as RAM and the devices change.
use Rattle.std.proofs.Common.{◌≡◌, ℕ, ◌+◌, ◌*◌, ◌<◌, List, [], ◌∷◌, ◌++◌, length, take, set, get_or, ap, sym, ◌∙◌}
use Rattle.std.proofs.lemmas.List.{length-set, get_or-set_same, take-set, take_more}
use Rattle.std.proofs.lemmas.List.Elements.{All-set, All-push}
use Rattle.guestmem.specs.Memory.{Memory}
use Rattle.guestmem.specs.Later.{IsLater}
use Rattle.chains.specs.Decoder.{Fits}
use Rattle.chains.proofs.DecoderLaws.{fits_later}
use Rattle.machine.specs.AnyRing.{decoder_in}
use Rattle.machine.specs.Rings.{FitAll, AreRings, AreNewRings}
use Rattle.machine.specs.Seen.{DeviceSeen}
use Rattle.machine.specs.declared.any_ring.AnyRing.{AnyRing}

fit_later : (rings : List AnyRing) (old new : Memory) → FitAll rings old → IsLater old new → FitAll rings new
fit_later rings old new fit later = λ k r below. fits_later (decoder_in (get_or rings k r)) old new (fit k r below) later

-- Where RAM is written.
pub rings_later : (rings : List AnyRing) (old new : Memory) (count : ℕ) → AreRings rings old count → IsLater old new → AreRings rings new count
rings_later rings old new count are later = record { each = are.each; fit = fit_later rings old new are.fit later }

-- Where a device changes.
pub rings_stay : (rings : List AnyRing) (m : Memory) (ds : List DeviceSeen) (n : ℕ) (new : DeviceSeen) → AreRings rings m (length ds) → AreRings rings m (length (set ds n new))
rings_stay rings m ds n new are = rw length-set are

-- Where a device has made a step on one of them.
pub rings_stepped : (rings : List AnyRing) (old new : Memory) (ds : List DeviceSeen) (n : ℕ) (d : DeviceSeen) (place : ℕ) (r : AnyRing) → AreRings rings old (length ds) → IsLater old new
    → Fits (decoder_in r) new → AreRings (set rings place r) new (length (set ds n d))
rings_stepped rings old new ds n d place r are later fits =
    record {
      each = length-set rings place r ∙ are.each ∙ ap (λ count. 2 * count) (sym (length-set ds n d));
      fit = All-set (λ (x : AnyRing). Fits (decoder_in x) new) rings place r fits (fit_later rings old new are.fit later);
    }

-- Where a register of a device was written.
pub rings_written : (rings all : List AnyRing) (m : Memory) (ds : List DeviceSeen) (n : ℕ) (d : DeviceSeen) → AreRings rings m (length ds) → length all ≡ length rings → (FitAll rings m → FitAll all m)
    → AreRings all m (length (set ds n d))
rings_written rings all m ds n d are long fit = rw length-set (record { each = long ∙ are.each; fit = fit are.fit })

-- Where one more of those from the first on keeps nothing.
pub one_more_fits : (rings : List AnyRing) (m : Memory) (n : ℕ) (new : AnyRing) → n < length rings → Fits (decoder_in new) m → FitAll (take n rings) m → FitAll (take (n + 1) (set rings n new)) m
one_more_fits rings m n new below fits all =
    let more : take (n + 1) (set rings n new) ≡ take n (set rings n new) ++ get_or (set rings n new) n new ∷ [] = take_more (set rings n new) n new (rw length-set below) in
    let here : get_or (set rings n new) n new ≡ new = get_or-set_same rings n new new below in
    rw (more, take-set rings n new, here) (All-push (λ (r : AnyRing). Fits (decoder_in r) m) (take n rings) new all fits)

-- New ones.
pub rings_made : (rings : List AnyRing) (m : Memory) (ds : List DeviceSeen) (count : ℕ) → AreNewRings rings count → length ds ≡ count → AreRings rings m (length ds)
rings_made rings m ds count are long = record { each = are.each ∙ ap (λ n. 2 * n) (sym long); fit = are.fit m }
