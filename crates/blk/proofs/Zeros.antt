-- Zeros are bytes, and make sectors.
use Rattle.std.proofs.Common.{◌≡◌, ℕ, zero, suc, ◌<◌, replicate, refl, arith}
use Rattle.std.specs.Prelude.{slice_index}
use Rattle.std.proofs.lemmas.List.{get_or-replicate, length-replicate}
use Rattle.guestmem.specs.Number.{IsBytes}
use Rattle.blk.specs.Disk.{IsSector, AreSectors}

zero_at : (n i : ℕ) → slice_index (replicate n 0) i ≡ 0
zero_at zero i = refl
zero_at (suc n) zero = refl
zero_at (suc n) (suc i) = zero_at n i

pub zero_bytes : (n : ℕ) → IsBytes (replicate n 0)
zero_bytes n i = rw (zero_at n i) (omega arith)

pub zero_sectors : (n : ℕ) → AreSectors (replicate n (replicate 512 0))
zero_sectors n k d below =
    let inside : k < n = rw length-replicate at below in
    let one : IsSector (replicate 512 0) = record { size = refl; bytes = zero_bytes 512 } in
    rw (get_or-replicate n k (replicate 512 0) d inside) one
