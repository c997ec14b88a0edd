use Rattle.std.proofs.Common.{◌≡◌, ℕ, zero, suc, ◌+◌, ◌-◌, ◌/◌, ◌%◌, ◌^◌, ◌<◌, ◌≤◌, List, All, length, drop, get_or, inl, inr, refl, sym, subst, ◌∙◌, arith, Option, Some, None}
use Rattle.std.proofs.lemmas.Bool.{cases_lt}
use Rattle.std.proofs.lemmas.List.{get_or-drop, get_or_past}
use Rattle.std.proofs.lemmas.List.Elements.{All-get_or}
use Rattle.byteorder.specs.Endian.{little_from}
use Rattle.guestmem.specs.declared.limits.TheConstants.{PAGE_SIZE}
use Rattle.guestmem.specs.Memory.{Memory}
use Rattle.guestmem.specs.Number.{number_at}
use Rattle.guestmem.specs.Later.{IsLater}
use Rattle.chains.specs.declared.decoder.Kept.{Kept}
use Rattle.chains.specs.declared.descriptor.TheConstants.{DESCRIPTOR_SIZE}
use Rattle.chains.specs.Descriptor.{words_of}
use Rattle.chains.specs.Decoder.{DecoderState, IsKnown, FitsKept, Fits, HasDecoded}

little_same : (new old : List ℕ) (at i n : ℕ) → ((k : ℕ) → k < i + n → get_or new (at + k) 0 ≡ get_or old (at + k) 0) → little_from i n (drop at new) ≡ little_from i n (drop at old)
little_same new old at i zero same = refl
little_same new old at i (suc n) same =
    let first : get_or (drop at new) i 0 ≡ get_or (drop at old) i 0 = rw (get_or-drop, get_or-drop) (same i (omega arith)) in
    let rest = little_same new old at (suc i) n (λ k below. same k (omega (arith, below))) in
    rw (first, rest) refl

pub number_same : (new old : List ℕ) (at n : ℕ) → ((k : ℕ) → k < n → get_or new (at + k) 0 ≡ get_or old (at + k) 0) → number_at new at n ≡ number_at old at n
unfolding number_at
number_same new old at n same = little_same new old at 0 n (λ k below. same k (omega (arith, below)))

-- The bytes of a descriptor stay where those of its page stay.
pub words_same : (new old : List ℕ) (address : ℕ) → address % DESCRIPTOR_SIZE ≡ 0 → ((a : ℕ) → a / PAGE_SIZE ≡ address / PAGE_SIZE → get_or new a 0 ≡ get_or old a 0)
    → words_of new address ≡ words_of old address
words_same new old address aligned same =
    let first : number_at new address 8 ≡ number_at old address 8 = number_same new old address 8 (λ k below. same (address + k) (omega (arith, aligned, below))) in
    let second = number_same new old (address + 8) 8 (λ k below. same (address + 8 + k) (omega (arith, aligned, below))) in
    rw (first, second) refl

known_later : (old new : Memory) (k : Kept) → IsKnown old k → IsLater old new → IsKnown new k
known_later old new k known later =
    let n = k.index / PAGE_SIZE in
    record {
      aligned = known.aligned;
      version = omega (arith, known.version, later.rises n);
      stays = λ same small.
          let was : k.version ≡ get_or old.versions n 0 = omega (arith, same, known.version, later.rises n) in
          let is : get_or new.versions n 0 ≡ get_or old.versions n 0 = omega (arith, same, was) in
          let few : get_or old.versions n 0 < 2 ^ 64 - 1 = omega (arith, was, small) in
          known.stays was small ∙ sym (words_same new.bytes old.bytes k.index known.aligned (λ a page. later.stays a (rw page is) (rw page few)));
    }

kept_later : (old new : Memory) (p : Option Kept) → IsLater old new → FitsKept old p → FitsKept new p
kept_later old new None later fits = tt
kept_later old new (Some k) later fits = known_later old new k fits later

-- What fits a RAM fits the same RAM later.
pub fits_later : (d : DecoderState) (old new : Memory) → Fits d old → IsLater old new → Fits d new
fits_later d old new fits later n p below = kept_later old new _ later (fits n p below)

fits_at : (ram : Memory) (all : List (Option Kept)) (i : ℕ) → All (FitsKept ram) all → FitsKept ram (get_or all i None)
fits_at ram all i fits =
    elim (cases_lt i (length all)) as (λ _. FitsKept ram (get_or all i None)) [
      | inl here ↦ All-get_or (FitsKept ram) all i None here fits
      | inr past ↦ rw (get_or_past all i None past) tt
    ]

-- What is kept is in RAM, where the version of its page is the same and below the greatest.
pub kept_is : (d : DecoderState) (ram : Memory) (number : ℕ) (k : Kept) → Fits d ram → get_or d.kept number None ≡ Some k
    → k.version ≡ get_or ram.versions (k.index / PAGE_SIZE) 0 → k.version < 2 ^ 64 - 1 → k.words ≡ words_of ram.bytes k.index
kept_is d ram number k fits is same small =
    let known : IsKnown ram k = subst (FitsKept ram) is (fits_at ram d.kept number fits) in
    known.stays same small

-- Some descriptors are read, and then some more.
pub decoded_more : (a b d : DecoderState) (ram : Memory) (m n most : ℕ) → m + n ≤ most → HasDecoded a b ram m → HasDecoded b d ram n → HasDecoded a d ram most
decoded_more a b d ram m n most few first then = record { fits = then.fits; bounded = omega (arith, first.bounded, then.bounded); rises = omega (arith, first.rises, then.rises) }

-- None is read.
pub decoded_none : (a : DecoderState) (ram : Memory) → Fits a ram → HasDecoded a a ram 0
decoded_none a ram fits = record { fits = fits; bounded = omega arith; rises = omega arith }
