-- The guest-physical addresses of pages.
use Rattle.std.proofs.Common.{◌≤◌, ◌<◌, ◌*◌, ◌+◌, ◌^◌, ℕ, arith, length}
use Rattle.machine.specs.Seen.{Seen, state_of}
use Rattle.machine.specs.Sound.{IsBase, IsSound}
use Rattle.machine.specs.State.{base_of}
use Rattle.machine.proofs.GivenBack.{based_of}

-- The address of a page that there is has 64 bits.
pub address_fits : (m : Seen) (n : ℕ) → IsSound (state_of m) → 4096 * n + 4096 ≤ length m.memory.bytes → base_of (state_of m).devices + 4096 * n < 2 ^ 64
address_fits m n sound inside =
    let based : IsBase (base_of (state_of m).devices) (length m.memory.bytes) = based_of (state_of m) sound in
    omega (arith, inside, based.reach)
