-- The sectors that a machine has are those of its shapes.
use Rattle.std.proofs.Common.{◌≡◌, ℕ, zero, suc, ◌<◌, List, [], ◌∷◌, length, get_or, map, Some, refl, ap, sym, ◌∙◌, arith}
use Rattle.std.specs.Prelude.{slice_get}
use Rattle.std.proofs.lemmas.List.{length-map}
use Rattle.blk.specs.Sectors.{Sector}
use Rattle.machine.specs.EffectLaws.{HasItem, HasSectorsOf, sector_on}
use Rattle.guestmem.specs.Item.{sector}
use Rattle.machine.specs.Shapes.{sector_count, made_as}
use Rattle.machine.specs.Sound.{IsSound}
use Rattle.machine.specs.State.{DeviceState, MachineState}
use Rattle.machine.specs.declared.shape.Shape.{Shape}

content_at : (disk : List Sector) (n : ℕ) → n < length disk → (content : Sector) × (slice_get disk n ≡ Some content)
content_at [] n below = absurd (omega (arith, below))
content_at (content ∷ disk) zero below = (content, refl)
content_at (content ∷ disk) (suc n) below = content_at disk n (omega (arith, below))

at_place : (disks : List (List Sector)) (devices : List DeviceState) (shape : Shape) (dev n : ℕ) → map length disks ≡ map (λ (d : DeviceState). sector_count (made_as d.kind)) devices
    → slice_get (map (λ (d : DeviceState). made_as d.kind) devices) dev ≡ Some shape → n < sector_count shape → (content : Sector) × (sector_on (slice_get disks dev) n ≡ Some content)
at_place [] [] shape dev n sizes is below = cc
at_place [] (d ∷ devices) shape dev n sizes is below = cc
at_place (disk ∷ disks) [] shape dev n sizes is below = cc
at_place (disk ∷ disks) (d ∷ devices) shape zero n sizes is below =
    let size : length disk ≡ sector_count (made_as d.kind) = cc in
    let same : made_as d.kind ≡ shape = cc in
    let count : sector_count (made_as d.kind) ≡ sector_count shape = ap (λ (s : Shape). sector_count s) same in
    content_at disk n (omega (arith, size, count, below))
at_place (disk ∷ disks) (d ∷ devices) shape (suc dev) n sizes is below =
    let others : map length disks ≡ map (λ (d : DeviceState). sector_count (made_as d.kind)) devices = cc in
    at_place disks devices shape dev n others is below

get_at : {A : Type 0} (xs : List A) (i : ℕ) (d : A) → i < length xs → slice_get xs i ≡ Some (get_or xs i d)
get_at [] i d below = absurd (omega (arith, below))
get_at (x ∷ xs) zero d below = refl
get_at (x ∷ xs) (suc i) d below = get_at xs i d (omega (arith, below))

pub has_sectors_of : (m : MachineState) (shapes : List Shape) → IsSound m → shapes ≡ map (λ (d : DeviceState). made_as d.kind) m.devices → HasSectorsOf shapes m
has_sectors_of m shapes sound same = λ dev n shape there is below.
    let at : slice_get shapes dev ≡ Some shape = get_at shapes dev shape there ∙ ap (λ (s : Shape). Some s) (sym is) in
    at_place m.disks m.devices shape dev n sound.disks (rw same at at) below

-- Only these.
there_at : {A : Type 0} (xs : List A) (n : ℕ) (x : A) → slice_get xs n ≡ Some x → n < length xs
there_at [] n x is = cc
there_at (y ∷ xs) zero x is = omega arith
there_at (y ∷ xs) (suc n) x is = let rest = there_at xs n x is in omega (arith, rest)

sized_at : (disks : List (List Sector)) (devices : List DeviceState) (dev n : ℕ) (content : Sector) (dflt : Shape) → map length disks ≡ map (λ (d : DeviceState). sector_count (made_as d.kind)) devices → sector_on (slice_get disks dev) n ≡ Some content
    → (dev < length devices) × (n < sector_count (get_or (map (λ (d : DeviceState). made_as d.kind) devices) dev dflt))
sized_at [] devices dev n content dflt sizes is = cc
sized_at (disk ∷ disks) [] dev n content dflt sizes is = cc
sized_at (disk ∷ disks) (d ∷ devices) zero n content dflt sizes is =
    let size : length disk ≡ sector_count (made_as d.kind) = cc in
    let below = there_at disk n content is in
    (omega arith, omega (arith, size, below))
sized_at (disk ∷ disks) (d ∷ devices) (suc dev) n content dflt sizes is =
    let others : map length disks ≡ map (λ (d : DeviceState). sector_count (made_as d.kind)) devices = cc in
    let rest = sized_at disks devices dev n content dflt others is in
    (omega (arith, rest.0), rest.1)

pub is_sector_of : (m : MachineState) (shapes : List Shape) (dev n : ℕ) (dflt : Shape) → IsSound m → shapes ≡ map (λ (d : DeviceState). made_as d.kind) m.devices → HasItem m (sector dev n)
    → (dev < length shapes) × (n < sector_count (get_or shapes dev dflt))
is_sector_of m shapes dev n dflt sound same has =
    let at = sized_at m.disks m.devices dev n has.0 dflt sound.disks has.1 in
    rw (same, length-map) (at.0, at.1)
