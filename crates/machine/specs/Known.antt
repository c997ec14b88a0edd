-- What is known of the RAM of a machine: it is here, or it is lent to the caller, whose guest may write there.
use Rattle.std.specs.Prelude.{◌≡◌, ℕ, List, length}
use Rattle.guestmem.specs.Memory.{IsMemory, Memory}
use Rattle.guestmem.specs.Number.{IsBytes}

-- All of it, or the versions of its pages.
pub data Known : Type 0 where
  Here : Memory → Known
  Lent : List ℕ → Known

-- It may be this one now.
abbrev pub MayBe : Known → Memory → Type 0
MayBe (Here m) n = n ≡ m
MayBe (Lent versions) n = IsMemory n × IsBytes n.bytes × (length n.versions ≡ length versions)

-- There is one that it may be.
abbrev pub IsSomeRam : Known → Type 0
IsSomeRam k = (m : Memory) × MayBe k m

-- It is so whatever RAM holds.
abbrev pub Whatever : Known → (Memory → Type 0) → Type 0
Whatever (Here m) P = P m
Whatever (Lent versions) P = (m : Memory) → IsMemory m → IsBytes m.bytes → length m.versions ≡ length versions → P m

-- It is so between RAM before and RAM after, whatever it holds. What is lent is left as it is.
abbrev pub Between : Known → Known → (Memory → Memory → Type 0) → Type 0
Between (Here m) (Here n) P = P m n
Between (Lent versions) (Lent after) P = (after ≡ versions) × ((m : Memory) → IsMemory m → IsBytes m.bytes → length m.versions ≡ length versions → P m m)
Between _ _ P = ⊥
