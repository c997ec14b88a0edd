-- Which message a digest holds.
use Rattle.std.specs.Prelude.{◌≡◌, ℕ, ◌%◌, ◌^◌, List, length}
use Rattle.sha2.specs.Sha256.{IsAbsorbed, initial_hash_256}
use Rattle.c_digest.specs.declared.digest.Digest.{Digest}

-- Its hash value has taken the whole blocks of the message, and its block begins with the bytes that are left.
abbrev pub Absorbs : Digest → List ℕ → Type 0
Absorbs d message = IsAbsorbed initial_hash_256 d.hash d.block message

-- And its length is that of the message, modulo 2^64, as the padding has it, and the word that is reserved is 0.
abbrev pub Holds : Digest → List ℕ → Type 0
Holds d message = (d.reserved ≡ 0) × (d.length ≡ length message % 2 ^ 64) × Absorbs d message
