-- What a digest holds after bytes: of those that leave its block short, that fill it, and that are whole blocks.
use Rattle.std.proofs.Common.{◌≡◌, ℕ, ◌+◌, ◌-◌, ◌*◌, ◌%◌, ◌<◌, ◌^◌, List, [], ◌∷◌, ◌++◌, length, take, drop, replicate, refl, ap, ◌∙◌, arith, length-drop}
use Rattle.std.proofs.lemmas.List.{append_assoc, append-nil, drop_all, take-append-drop}
use Rattle.std.proofs.lemmas.Slice.{take-put_mid}
use borrow.Rule.Slice.PartMut.{put_mid, post_of}
use Rattle.std.specs.Int.{to_be_bytes, w64}
use Rattle.sha2.specs.Sha256.{IsAbsorbed, compress, final_hash, initial_hash_256, padded_message}
use Rattle.sha2.proofs.Absorbing256.{IsAbsorbed_fill, IsAbsorbed_short}
use Rattle.c_digest.specs.Holding.{Absorbs}
use Rattle.c_digest.specs.declared.digest.Digest.{Digest}

-- Bytes that leave the block short.
pub short : (first hash block message bytes written : List ℕ) (used j : ℕ) → IsAbsorbed first hash block message → length block ≡ 64
    → used ≡ length message % 64 → used + length bytes < 64 → written ≡ bytes → IsAbsorbed first hash (put_mid used j block written) (message ++ bytes)
short first hash block message bytes written used j held whole at few is =
    let placed : take (used + length bytes) (put_mid used j block written) ≡ take used block ++ bytes =
    rw is (take-put_mid used j block bytes (used + length bytes) refl (omega arith)) in
    IsAbsorbed_short first hash block (put_mid used j block written) message bytes held (omega arith) (rw (← at) placed)

-- Bytes that fill it.
pub filled : (first hash block next message bytes written : List ℕ) (used room : ℕ) → IsAbsorbed first hash block message → length block ≡ 64
    → used ≡ length message % 64 → used + room ≡ 64 → length bytes ≡ room → written ≡ bytes
    → IsAbsorbed first (compress hash (put_mid used room block written)) next (message ++ bytes)
filled first hash block next message bytes written used room held whole at fits count is =
    let behind : post_of used room block ≡ [] = drop_all room (drop used block) (omega (arith, length-drop used block)) in
    let made : put_mid used room block written ≡ take (length message % 64) block ++ bytes = rw (behind, append-nil, is, ← at) refl in
    IsAbsorbed_fill first hash block next message bytes (put_mid used room block written) held (omega arith) made

-- The bytes behind those that filled it.
pub behind : (message bytes : List ℕ) (room : ℕ) → (message ++ take room bytes) ++ drop room bytes ≡ message ++ bytes
behind message bytes room = append_assoc message (take room bytes) (drop room bytes) ∙ ap (λ (x : List ℕ). message ++ x) (take-append-drop room bytes)

-- The hash value of a message with its padding.
pub padded : (d : Digest) (message zeros bits : List ℕ) → Absorbs d ((message ++ zeros) ++ bits) → zeros ≡ 0x80 ∷ replicate ((119 - length message % 64) % 64) 0
    → bits ≡ to_be_bytes w64 (length message * 8 % 2 ^ 64) → d.hash ≡ final_hash initial_hash_256 message
padded d message zeros bits held is_zeros is_bits =
    let whole : (message ++ zeros) ++ bits ≡ padded_message message = rw (append_assoc, is_zeros, is_bits) refl in
    rw (← whole) held.0
