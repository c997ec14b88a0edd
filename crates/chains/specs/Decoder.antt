-- What a ring keeps of the descriptors that it has decoded.
use Rattle.std.specs.Prelude.{◌≡◌, ℕ, ◌+◌, ◌-◌, ◌/◌, ◌%◌, ◌^◌, ◌<◌, ◌≤◌, ◌==◌, ◌&&◌, List, All, slice_index, slice_index_or, replicate, Option, Some, None, Bool, false, nat_lt}
use Rattle.guestmem.specs.declared.limits.TheConstants.{PAGE_SIZE}
use Rattle.guestmem.specs.Memory.{Memory}
use Rattle.chains.specs.declared.decoder.Kept.{Kept}
use Rattle.chains.specs.declared.decoder.TheConstants.{KEPT_MAX}
use Rattle.chains.specs.declared.descriptor.TheConstants.{DESCRIPTOR_SIZE}
use Rattle.chains.specs.Descriptor.{words_of}

-- The model of a decoder: how many descriptors it has decoded, and those that it keeps, by their numbers.
pub record DecoderState : Type 0 where
  pub decoded : ℕ
  pub kept : List (Option Kept)

-- A kept descriptor fits a RAM: it lies inside one page, whose version has not decreased since, and if the version is
-- unchanged and below 2^64 - 1, its bytes are those in RAM now.
pub record IsKnown (ram : Memory) (k : Kept) : Type 0 where
  pub aligned : k.index % DESCRIPTOR_SIZE ≡ 0
  pub version : k.version ≤ slice_index ram.versions (k.index / PAGE_SIZE)
  pub stays : k.version ≡ slice_index ram.versions (k.index / PAGE_SIZE) → k.version < 2 ^ 64 - 1 → k.words ≡ words_of ram.bytes k.index

abbrev pub FitsKept : Memory → Option Kept → Type 0
FitsKept ram None = Unit {0}
FitsKept ram (Some k) = IsKnown ram k

-- All that a decoder keeps fits a RAM.
abbrev pub Fits : DecoderState → Memory → Type 0
Fits d ram = All (FitsKept ram) d.kept

-- What it leaves to read some descriptors of a RAM: what is kept fits it, and `most` more at most are decoded, and not fewer.
pub record HasDecoded (old new : DecoderState) (ram : Memory) (most : ℕ) : Type 0 where
  pub fits : Fits new ram
  pub bounded : new.decoded ≤ old.decoded + most
  pub rises : old.decoded ≤ new.decoded

-- A decoder that has decoded this many descriptors, and keeps none.
abbrev pub empty_decoder : ℕ → DecoderState
empty_decoder decoded = record { decoded = decoded; kept = replicate KEPT_MAX None }

-- Whether this is the descriptor at an index of RAM, and it may be used: the version of its page is the same, and below 2^64 - 1.
abbrev pub has_known : Memory → ℕ → Option Kept → Bool
has_known ram index None = false
has_known ram index (Some k) =
    k.index == index
    && k.version == slice_index ram.versions (index / PAGE_SIZE)
    && nat_lt k.version (2 ^ 64 - 1)

-- Whether the descriptor is used as it is kept under this number.
abbrev pub is_kept : DecoderState → Memory → ℕ → ℕ → Bool
is_kept d ram index number = has_known ram index (slice_index_or d.kept number None)
