-- What a `&` to a region has is made of what the region owns.
use Rattle.std.proofs.Common.{ℕ, ◌^◌, List, length, w8}
use Prim.Native.Nat.{zero, suc}
use base.Fml.{Lft, ftrue, fsep, feq, flt}
use seplogic.Ra.Ura.{Ura}
use types.Logic.{Logic}
use denote.Array.{Array, Array-row_laws}
use denote.Builtin.{u8}
use denote.Plain.{uint_row_laws}
use denote.RawPtr.{Ptr}
use denote.Shares.{Shares, Shares-Array}
use denote.Sharing.{ShrLaws, said, beside}
use denote.SharingLaws.{said_shr_laws, beside_shr_laws, nothing_shr_laws}
use denote.Struct.Lending.{lent_at_shr_laws, Lends, Lends-lies, Lends-said, Lends-both, Lends-nothing}
use Rattle.region.specs.Region.{bytes_owned, region_owns, bytes_lent, region_lends}

bytes_laws : (p : Ptr) (n : ℕ) (xs : List ℕ) → ShrLaws (bytes_lent p n xs)
bytes_laws p zero xs = nothing_shr_laws
bytes_laws p (suc m) xs = lent_at_shr_laws (Array u8 (suc m)) (Array-row_laws u8 (uint_row_laws w8) (suc m)) p xs

pub region_laws : (p : Ptr) (n : ℕ) (xs : List ℕ) → ShrLaws (region_lends p n xs)
region_laws p n xs =
    let Count = feq ℕ n (length xs) in let Few = flt n (2 ^ 63) in let Lent = bytes_lent p n xs in
    beside_shr_laws (said Count) (beside (said Few) Lent) (said_shr_laws Count tt) (beside_shr_laws (said Few) Lent (said_shr_laws Few tt) (bytes_laws p n xs))

module _ {M : Type 1} {𝓤 : Ura M} (𝓛 : Logic 𝓤) (l : Lft) (s : Shares 𝓛 u8 l) where
  bytes_shared : (p : Ptr) (n : ℕ) (xs : List ℕ) → Lends 𝓛 (bytes_owned p n xs) (bytes_lent p n xs) l
  bytes_shared p zero xs = Lends-nothing 𝓛 ftrue l
  bytes_shared p (suc m) xs = Lends-lies 𝓛 (Array u8 (suc m)) l p xs (Shares-Array 𝓛 u8 tt (suc m) l s xs)

  pub region_shared : (p : Ptr) (n : ℕ) (xs : List ℕ) → Lends 𝓛 (region_owns p n xs) (region_lends p n xs) l
  region_shared p n xs =
      let Count = feq ℕ n (length xs) in let Few = flt n (2 ^ 63) in let Owned = bytes_owned p n xs in let Lent = bytes_lent p n xs in
      Lends-both 𝓛 Count (fsep Few Owned) (said Count) (beside (said Few) Lent) l (Lends-said 𝓛 Count tt l)
      (Lends-both 𝓛 Few Owned (said Few) Lent l (Lends-said 𝓛 Few tt l) (bytes_shared p n xs))
