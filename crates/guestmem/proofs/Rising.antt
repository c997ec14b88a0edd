-- The versions rise in exactly the pages that a write touches.
use Rattle.std.proofs.Common.{◌≡◌, ℕ, suc, ◌+◌, ◌-◌, ◌*◌, ◌/◌, ◌≤◌, ◌<◌, inl, inr, List, [], ◌∷◌, ◌++◌, length, take, drop, get_or, eqb, false, refl, subst, sym, arith, rules, add-zero}
use Rattle.std.proofs.lemmas.Bool.{cases_lt}
use Rattle.std.proofs.lemmas.List.{append-nil, take-append-drop}
use Rattle.guestmem.specs.declared.limits.TheConstants.{PAGE_SIZE}
use Rattle.guestmem.specs.Among.{Among}
use Rattle.guestmem.specs.Item.{page}
use Rattle.guestmem.specs.Memory.{Memory}
use Rattle.guestmem.specs.Rises.{Rises}
use Rattle.guestmem.proofs.RisesLaws.{rises_none, same_page}
use Rattle.guestmem.specs.Write.{put_at, raise, written}
use Rattle.guestmem.specs.Writes.{byte_writes, touched}
use Rattle.guestmem.proofs.Later.{raise_below, raise_above, raise_inside}
use Rattle.guestmem.proofs.Told.{among_touched, touched_among, reached}

-- A page from the first one to the last one is touched.
touched_within : (at : ℕ) (bytes : List ℕ) (n : ℕ) → 0 < length bytes → at / PAGE_SIZE ≤ n → n ≤ (at + length bytes - 1) / PAGE_SIZE → Among (touched (byte_writes at bytes)) (page n)
touched_within at bytes n some low high =
    let r = reached at (length bytes) n some low high in
    subst (Among (touched (byte_writes at bytes))) (sym r.is) (among_touched at bytes r.a r.low r.high)

rises_some : (m : Memory) (at : ℕ) (bytes : List ℕ) → 0 < length bytes → length m.bytes ≡ PAGE_SIZE * length m.versions → at + length bytes ≤ length m.bytes
    → Rises (touched (byte_writes at bytes)) m (record m { bytes = put_at m.bytes at bytes; versions = raise m.versions (at / PAGE_SIZE) ((at + length bytes - 1) / PAGE_SIZE) })
rises_some m at bytes some pages inside =
    let first = at / PAGE_SIZE in
    let last = (at + length bytes - 1) / PAGE_SIZE in
    let order : first ≤ last = omega (arith, some) in
    let there : last < length m.versions = omega (arith, some, pages, inside) in
    record {
      rises = λ n among.
          let p = touched_among at bytes (page n) among in
          let is = same_page n (p.a / PAGE_SIZE) p.is in
          let low : first ≤ n = omega (arith, is, p.low) in
          let high : n ≤ last = omega (arith, is, p.high) in
          omega (arith, raise_inside m.versions first last n low high there);
      stays = λ n none.
          elim (cases_lt n first) as (λ _. get_or (raise m.versions first last) n 0 ≡ get_or m.versions n 0) [
            | inl below ↦ raise_below m.versions first last n order there below
            | inr from ↦ elim (cases_lt last n) as (λ _. get_or (raise m.versions first last) n 0 ≡ get_or m.versions n 0) [
              | inl above ↦ raise_above m.versions first last n order there above
              | inr to ↦ absurd (none (touched_within at bytes n some from to))
            ]
          ];
    }

pub rises_written : (m : Memory) (at : ℕ) (bytes : List ℕ) → length m.bytes ≡ PAGE_SIZE * length m.versions → at + length bytes ≤ length m.bytes → Rises (touched (byte_writes at bytes)) m (written m at bytes)
rises_written m at [] pages inside =
    let e : take at m.bytes ++ [] ++ drop (at + 0) m.bytes ≡ m.bytes = rw (append-nil, add-zero, take-append-drop) refl in
    rw e (rises_none m m refl)
rises_written m at (byte ∷ bytes) pages inside =
    let some : eqb (suc (length bytes)) 0 ≡ false = search rules in
    rw some (rises_some m at (byte ∷ bytes) (omega arith) pages inside)
