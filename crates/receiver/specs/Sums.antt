-- What a receiver has of the digest of the bytes that it worked off, and where it must have it.
use Rattle.std.specs.Prelude.{◌≡◌, ℕ, List, ◌∷◌, ◌++◌, []}
use Rattle.sha2.specs.Hashers.{Holds256}
use Rattle.sha2.specs.declared.Sha256.{Sha256}
use Rattle.wire.specs.Records.{HasSpelling, IsOf, Record, spelled_record}
use Rattle.wire.specs.Stream.{texts}
use Rattle.receiver.specs.Faults.{IsFront}
use Rattle.receiver.specs.Opened.{Opened, opened_header}
use Rattle.receiver.specs.declared.ram_terms.RamTerms.{RamTerms}

-- It digests them itself; or whoever feeds it does, and these are the bytes.
pub data Summed : Type 0 where
  own : Sha256 → Summed
  told : List ℕ → Summed

-- These bytes were taken into the digest, by whoever makes it.
unfoldable pub Sums : Summed → List ℕ → Type 0
Sums (own digest) front = Holds256 digest front
Sums (told past) front = front ≡ past

-- It can compare a digest that comes behind these bytes.
unfoldable pub CanSay : Summed → List ℕ → Type 0
CanSay (own digest) front = Unit {0}
CanSay (told past) front = ⊥

-- It digests them itself.
abbrev pub IsOwn : Summed → Type 0
IsOwn (own digest) = Unit {0}
IsOwn (told past) = ⊥

-- Whoever feeds it digests them.
abbrev pub IsTold : Summed → Type 0
IsTold (own digest) = ⊥
IsTold (told past) = Unit {0}

-- The bytes, where whoever feeds it digests them.
abbrev pub past_of : Summed → List ℕ
past_of (own digest) = []
past_of (told past) = past

-- What can be compared before a call can be after it.
abbrev pub SaysOn : Summed → Summed → Type 0
SaysOn old new = (x : List ℕ) → CanSay old x → CanSay new x

-- If these bytes go on with the digest, it can be compared.
abbrev pub MayClose : Summed → List ℕ → List ℕ → Type 0
MayClose digest front bytes = (more : List ℕ) → bytes ≡ 5 ∷ more → CanSay digest front

-- Wherever the digest comes in these bytes, behind whole good records, it can be compared.
pub record IsClear (digest : Summed) (ram : RamTerms) (sizes bytes : List ℕ) : Type 0 where
  pub closes : (opening : Opened) (before : List Record) (tail : List ℕ) → IsFront ram sizes bytes opening before tail → MayClose digest (opened_header opening ++ texts before) tail

-- The bytes do not begin with the record of the digest.
abbrev pub NotFive : List ℕ → Type 0
NotFive tail = (more : List ℕ) → ¬ (tail ≡ 5 ∷ more)

-- No record ends within these bytes: none that they begin with is followed by another byte.
pub record NoneEnds (version : ℕ) (tail : List ℕ) : Type 0 where
  pub ends : (r : Record) (x : ℕ) (y : List ℕ) → HasSpelling r → IsOf version r → ¬ (tail ≡ spelled_record r ++ (x ∷ y))
