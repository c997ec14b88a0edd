-- The disk of a device, as its shape tells it.
use Rattle.std.proofs.Common.{◌≡◌, ℕ, zero, suc, ◌<◌, ◌≤◌, List, [], ◌∷◌, length, map, get_or, refl, sym, ap, subst, ◌∙◌, arith}
use Rattle.std.proofs.lemmas.List.{length-map}
use Rattle.std.specs.Prelude.{All}
use Rattle.guestmem.specs.Item.{sector}
use Rattle.machine.specs.EffectLaws.{HasItem}
use Rattle.machine.specs.Shapes.{sector_count, made_as}
use Rattle.machine.specs.Sound.{IsSound, IsSoundDevice, IsSoundShape}
use Rattle.machine.specs.State.{DeviceState, MachineState}
use Rattle.machine.specs.declared.shape.Shape.{Shape}
use Rattle.machine.specs.declared.shape.Shape.TheVariants.{Block}
use Rattle.machine.proofs.Numbering.{has_item, shape_counts}
use Rattle.sender.specs.Items.{size_on}

count_at : (shapes : List Shape) (dev : ℕ) (other : Shape) → dev < length shapes → sector_count (get_or shapes dev other) ≡ get_or (map sector_count shapes) dev 0
count_at [] dev other below = absurd (omega (arith, below))
count_at (shape ∷ shapes) zero other below = refl
count_at (shape ∷ shapes) (suc dev) other below = count_at shapes dev other (omega (arith, below))

pub size_told : (m : MachineState) (shapes : List Shape) (dev : ℕ) (other : Shape) → IsSound m → shapes ≡ map (λ (d : DeviceState). made_as d.kind) m.devices → dev < length m.devices → sector_count (get_or shapes dev other) ≡ size_on m dev
size_told m shapes dev other sound are below =
    let long : length shapes ≡ length m.devices = ap length are ∙ length-map m.devices (λ (d : DeviceState). made_as d.kind) in
    let sizes : map length m.disks ≡ map sector_count shapes = sound.disks ∙ shape_counts m.devices ∙ sym (ap (map sector_count) are) in
    count_at shapes dev other (omega (arith, long, below)) ∙ sym (ap (λ counts. get_or counts dev 0) sizes)

pub few_in : (shape : Shape) → IsSoundShape shape → sector_count shape ≤ 4294967295
few_in (Block sectors read_only id) sound = omega (arith, sound.few)
few_in _ sound = omega arith

few_at : {base : ℕ} (bytes : ℕ) (ds : List DeviceState) (dev : ℕ) (other : Shape) → All (IsSoundDevice base bytes) ds → dev < length ds → sector_count (get_or (map (λ (d : DeviceState). made_as d.kind) ds) dev other) ≤ 4294967295
few_at bytes [] dev other are below = absurd (omega (arith, below))
few_at bytes (d ∷ ds) zero other are below = few_in (made_as d.kind) (are 0 d (omega arith)).shape
few_at bytes (d ∷ ds) (suc dev) other are below = few_at bytes ds dev other (λ k e h. are (suc k) e (omega (arith, h))) (omega (arith, below))

pub few_told : (m : MachineState) (shapes : List Shape) (dev : ℕ) (other : Shape) → IsSound m → shapes ≡ map (λ (d : DeviceState). made_as d.kind) m.devices → dev < length m.devices → sector_count (get_or shapes dev other) ≤ 4294967295
few_told m shapes dev other sound are below = subst (λ xs. sector_count (get_or xs dev other) ≤ 4294967295) (sym are) (few_at (length m.ram) m.devices dev other sound.devices below)

pub sector_there : (m now : MachineState) (dev n : ℕ) → IsSound m → now ≡ m → n < size_on m dev → HasItem now (sector dev n)
sector_there m now dev n sound same below = subst (λ (k : MachineState). HasItem k (sector dev n)) (sym same) (has_item m (sector dev n) sound.whole_pages below)

-- There are as many disks as devices.
pub disks_long : (m : MachineState) → IsSound m → length m.disks ≡ length m.devices
disks_long m sound = sym (length-map m.disks length) ∙ ap length sound.disks ∙ length-map m.devices (λ (d : DeviceState). sector_count (made_as d.kind))
