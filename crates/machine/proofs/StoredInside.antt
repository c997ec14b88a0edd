-- The pieces that a step writes lie inside RAM.
use Rattle.std.specs.Prelude.{◌≡◌, ℕ, zero, suc, ◌+◌, ◌-◌, ◌<◌, ◌≤◌, All, List, [], ◌∷◌, length, map, take, drop, Bool, slice_get, slice_set, refl}
use Rattle.std.proofs.Common.{ap, sym, ◌∙◌, arith, get_or}
use Rattle.std.proofs.lemmas.List.{get_or-drop, get_or-map, length-drop, length-map}
use Rattle.std.proofs.lemmas.List.Elements.{All-set}
use Rattle.guestmem.specs.Writes.{Write}
use Rattle.chains.specs.Places.{addresses}
use Rattle.chains.specs.declared.lacking.Piece.{Piece}
use Rattle.blk.specs.Sectors.{AreWhole, Sector, is_bad}
use Rattle.machine.specs.Applied.{as_given}
use Rattle.machine.specs.Outcome.{outcome_of}
use Rattle.machine.specs.Parked.{back_with}
use Rattle.machine.specs.Seen.{state_of}
use Rattle.machine.specs.Sound.{IsSound}
use Rattle.machine.specs.State.{MachineState}
use Rattle.machine.specs.Step.{disk_of, disk_or_none}
use Rattle.machine.specs.Stored.{indexes_in}
use Rattle.machine.specs.Writing.{IsFrom, PiecesAreInside}
use Rattle.machine.specs.declared.event.Event.TheVariants.{Step}
use Rattle.machine.proofs.Within.{step_within}
use Rattle.machine.proofs.Writing.{count_there, storing_writes}

-- A sound machine with the sectors as its disk gave them.
set_lengths : (disks : List (List Sector)) (dev : ℕ) (given : List Sector) → length given ≡ length (disk_or_none (slice_get disks dev)) → map length (slice_set disks dev given) ≡ map length disks
set_lengths [] dev given same = refl
set_lengths (d ∷ disks) zero given same = ap (λ (n : ℕ). n ∷ map length disks) same
set_lengths (d ∷ disks) (suc dev) given same = ap (λ (ns : List ℕ). length d ∷ ns) (set_lengths disks dev given same)

given_sound : (m : MachineState) (dev pick : ℕ) (given : List Sector) → map is_bad given ≡ map is_bad (disk_of m dev) → AreWhole given → IsSound m → IsSound (as_given m (Step dev pick) given)
given_sound m dev pick given bad whole s =
    let same : length given ≡ length (disk_of m dev) = sym (length-map given is_bad) ∙ ap (λ (bs : List Bool). length bs) bad ∙ length-map (disk_of m dev) is_bad in
    record {
      whole_pages = s.whole_pages;
      some_pages = s.some_pages;
      few_pages = s.few_pages;
      some_devices = s.some_devices;
      few_devices = s.few_devices;
      devices = s.devices;
      bytes = s.bytes;
      disks = set_lengths m.disks dev given same ∙ s.disks;
      sectors = All-set AreWhole m.disks dev given whole s.sectors;
    }

-- The last index of a piece.
address_at : (a n k : ℕ) → k < n → get_or (addresses a n) k 0 ≡ a + k
address_at a zero k below = absurd (omega (arith, below))
address_at a (suc n) zero below = omega arith
address_at a (suc n) (suc k) below =
    let next : a + 1 + k ≡ a + suc k = omega arith in
    address_at (a + 1) n k (omega (arith, below)) ∙ next

taken_at : (n : ℕ) (xs : List ℕ) (k : ℕ) → k < n → get_or (take n xs) k 0 ≡ get_or xs k 0
taken_at zero xs k below = absurd (omega (arith, below))
taken_at (suc n) [] k below = refl
taken_at (suc n) (x ∷ xs) zero below = refl
taken_at (suc n) (x ∷ xs) (suc k) below = taken_at n xs k (omega (arith, below))

index_below : (len : ℕ) (ws : List Write) (k : ℕ) → All (λ (w : Write). w.index < len) ws → k < length ws → get_or (indexes_in ws) k 0 < len
index_below len ws k inside below =
    let none : Write = record { index = 0; byte = 0 } in
    rw (get_or-map (λ (w : Write). w.index) ws k none 0 below) (inside k none below)

piece_inside : (len : ℕ) (ws : List Write) (n : ℕ) (p : Piece) → All (λ (w : Write). w.index < len) ws → IsFrom (indexes_in ws) n p → p.at + p.count ≤ len
piece_inside len ws n p inside h =
    let some = h.some in
    let k = p.count - 1 in
    let first : k < p.count = omega (arith, some) in
    let rest = drop n (indexes_in ws) in
    let there = count_there rest p (record { some = some; is = h.is }) in
    let long : length (indexes_in ws) ≡ length ws = length-map ws (λ (w : Write). w.index) in
    let below : n + k < length ws = omega (arith, some, there, long, length-drop n (indexes_in ws)) in
    let same : p.at + k ≡ get_or (indexes_in ws) (n + k) 0 =
    sym (address_at p.at p.count k first) ∙ ap (λ (is : List ℕ). get_or is k 0) h.is ∙ taken_at p.count rest k first ∙ get_or-drop n (indexes_in ws) k 0 in
    omega (arith, some, same, index_below len ws (n + k) inside below)

pub pieces_inside : PiecesAreInside
pieces_inside p next window after dev pick reply h w sound stores n piece from =
    let m = state_of (back_with p window) in
    let given = as_given m (Step dev pick) h.given in
    let all = given_sound m dev pick h.given h.is_given.bad h.is_given.whole sound in
    let within = step_within given (Step dev pick) (outcome_of reply) reply h.effect all h.has in
    let here : IsFrom (indexes_in h.effect.writes) n piece = rw (storing_writes p next window after dev pick reply h w stores) from in
    piece_inside (length window.bytes) h.effect.writes n piece within.writes here
