use Rattle.std.specs.Prelude.{◌≡◌, ℕ, [], refl}
use Rattle.std.proofs.Common.{arith}
use Rattle.std.proofs.lemmas.List.Elements.{All-nil}
use Rattle.guestmem.specs.Address.{IsWithin}
use Rattle.chains.specs.declared.descriptor.Descriptor.{Descriptor}
use Rattle.chains.specs.declared.chain.Chain.{Chain}
use Rattle.chains.specs.Held.{AreHeld}

-- A chain with no segments holds no descriptors.
pub held_none : (base len : ℕ) (c : Chain) → c.readable ≡ [] → c.writable ≡ [] → AreHeld base len [] c
held_none base len c readable writable = record {
  sound = record { inside = All-nil (λ (d : Descriptor). IsWithin base len d.addr d.len); in_order = λ k d below. absurd (omega arith) };
  readable = readable;
  writable = writable;
  count = rw (readable, writable) refl;
  total = rw (readable, writable) refl;
}
