use Rattle.std.specs.Prelude.{◌≡◌, ℕ, ◌+◌, ◌<◌, ◌≤◌, ◌^◌, [], ◌∷◌, List, length, ◌++◌, All, map, sum, Result, Ok, Err}
use Rattle.guestmem.specs.Address.{IsWithin}
use Rattle.chains.specs.declared.descriptor.Descriptor.{Descriptor}
use Rattle.chains.specs.declared.chain.Chain.{Chain}
use Rattle.chains.specs.declared.limits.TheConstants.{SHORT_CHAIN_MAX}
use Rattle.chains.specs.declared.no_chain.NoChain.{NoChain}
use Rattle.chains.specs.declared.no_chain.NoChain.TheVariants.{Malformed, NoMemory}
use Rattle.chains.specs.Places.{places}
use Rattle.chains.specs.Whole.{IsInOrder, readable_of, writable_of}

-- The rules of both layouts that are seen while descriptors are gathered one by one: each buffer lies inside a RAM of `len`
-- bytes with this base, and the readable ones come first. How many they are, and how many bytes they have, is seen at the end.
pub record AreSound (base len : ℕ) (ds : List Descriptor) : Type 0 where
  pub inside : All (λ d. IsWithin base len d.addr d.len) ds
  pub in_order : IsInOrder ds

-- The number of segments of a chain.
abbrev pub segment_count : Chain → ℕ
segment_count c = length c.readable + length c.writable

-- The number of bytes of a chain.
abbrev pub byte_count : Chain → ℕ
byte_count c = length (places c.readable) + length (places c.writable)

-- The segments of a chain are the buffers of these descriptors, which keep those rules.
pub record AreHeld (base len : ℕ) (ds : List Descriptor) (c : Chain) : Type 0 where
  pub sound : AreSound base len ds
  pub readable : c.readable ≡ readable_of ds
  pub writable : c.writable ≡ writable_of ds
  pub count : segment_count c ≡ length ds
  pub total : byte_count c ≡ sum (map (λ d. d.len) ds)

-- What it gives to add the buffer of `d` to the segments of `ds`, by the chain that it is added to: they are the segments of
-- both; or whatever begins with both breaks a rule; or memory was refused, and `ds` are as many as are handled without it.
abbrev pub AddGives : ℕ → ℕ → List Descriptor → Descriptor → Chain → Result (Unit {0}) NoChain → Type 0
AddGives base len ds d c (Ok done) = AreHeld base len (ds ++ d ∷ []) c
AddGives base len ds d c (Err Malformed) = (rest : List Descriptor) → AreSound base len (ds ++ d ∷ rest) → ⊥
AddGives base len ds d c (Err NoMemory) = SHORT_CHAIN_MAX ≤ length ds

-- What the last test of a chain gives, of all its bytes.
abbrev pub EndGives : Chain → Result (Unit {0}) NoChain → Type 0
EndGives c (Ok done) = byte_count c < 2 ^ 32
EndGives c (Err Malformed) = 2 ^ 32 ≤ byte_count c
EndGives c (Err NoMemory) = ⊥
