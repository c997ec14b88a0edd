-- What is given back is what was written, page by page, and the versions of these pages alone rise.
use Rattle.std.proofs.Common.{◌≡◌, ◌≢◌, ℕ, suc, ◌+◌, ◌-◌, ◌*◌, ◌/◌, ◌≤◌, ◌<◌, ◌==◌, ◌++◌, take, drop, append_assoc, Bool, true, false, inl, inr, List, [], ◌∷◌, length, set, get_or, refl, sym, ap, ◌∙◌, arith}
use Rattle.std.specs.Prelude.{Option, Some}
use Rattle.std.proofs.lemmas.Bool.{cases_lt}
use Rattle.std.proofs.lemmas.Bool.Decides.{nat_tests}
use Rattle.std.proofs.lemmas.Grind.{get_or-set_at, same_number_lists}
use Rattle.std.proofs.lemmas.List.{places, drop-drop, take-append-drop, length-set, length-take, length-drop, get_or-take, get_or-drop, get_or-set_other}
use denote.RawPtr.{Ptr}
use Rattle.guestmem.specs.declared.limits.TheConstants.{PAGE_SIZE}
use Rattle.guestmem.specs.Item.{page}
use Rattle.guestmem.specs.Later.{IsLater}
use Rattle.guestmem.specs.Lent.{AreBelow, GivenBackIsWritten, MarkedIsWritten, given_back, is_named, marked, page_items, pages_written, raise_each}
use Rattle.guestmem.specs.Memory.{Memory}
use Rattle.guestmem.specs.Page.{page_of}
use Rattle.guestmem.specs.Rises.{Rises}
use Rattle.guestmem.proofs.RisesLaws.{none_falls, rises_append, same_page}
use Rattle.guestmem.specs.Write.{put_at, raise, raised, touched_of, raise_touched, written}
use Rattle.guestmem.proofs.Later.{put_at_below, put_at_above, length-put_at}
use Rattle.guestmem.proofs.Raising.{raise_one}

pub whole_page : (xs : List ℕ) (n : ℕ) → PAGE_SIZE * n + PAGE_SIZE ≤ length xs → length (page_of xs n) ≡ PAGE_SIZE
whole_page xs n inside = simp (length-take, length-drop) (omega (arith, inside))

touched_one : (n count : ℕ) → count ≡ PAGE_SIZE → (versions : List ℕ) → raise_touched versions (touched_of (PAGE_SIZE * n) count) ≡ raise versions n n
touched_one n count is versions =
    let first : PAGE_SIZE * n / PAGE_SIZE ≡ n = omega arith in
    let last : (PAGE_SIZE * n + PAGE_SIZE - 1) / PAGE_SIZE ≡ n = omega arith in
    rw (is, first, last) refl

versions_of : (m : Memory) (bytes : List ℕ) (n : ℕ) → n < length m.versions → PAGE_SIZE * n + PAGE_SIZE ≤ length bytes
    → (written m (PAGE_SIZE * n) (page_of bytes n)).versions ≡ set m.versions n (raised (get_or m.versions n 0))
versions_of m bytes n below inside = touched_one n (length (page_of bytes n)) (whole_page bytes n inside) m.versions ∙ sym (raise_one m.versions n (raised (get_or m.versions n 0)) below refl)

put_inside : (old new : List ℕ) (at a : ℕ) → at + length new ≤ length old → at ≤ a → a < at + length new → get_or (put_at old at new) a 0 ≡ get_or new (a - at) 0
put_inside old new at a inside low high = grind (arith, places)

byte_here : (old bytes : List ℕ) (n a : ℕ) → PAGE_SIZE * n + PAGE_SIZE ≤ length old → length bytes ≡ length old → a / PAGE_SIZE ≡ n → get_or (put_at old (PAGE_SIZE * n) (page_of bytes n)) a 0 ≡ get_or bytes a 0
byte_here old bytes n a inside same is =
    let size : length (page_of bytes n) ≡ PAGE_SIZE = whole_page bytes n (omega (arith, inside, same)) in
    let k = a - PAGE_SIZE * n in
    let below : k < PAGE_SIZE = omega (arith, is) in
    let back : PAGE_SIZE * n + k ≡ a = omega (arith, is) in
    let read : get_or (page_of bytes n) k 0 ≡ get_or bytes (PAGE_SIZE * n + k) 0 = rw (get_or-take, get_or-drop) refl in
    put_inside old (page_of bytes n) (PAGE_SIZE * n) a (omega (arith, size, inside)) (omega (arith, is)) (omega (arith, is, size)) ∙ read ∙ ap (λ (b : ℕ). get_or bytes b 0) back

byte_else : (old bytes : List ℕ) (n a : ℕ) → PAGE_SIZE * n + PAGE_SIZE ≤ length old → length bytes ≡ length old → a / PAGE_SIZE ≢ n → get_or (put_at old (PAGE_SIZE * n) (page_of bytes n)) a 0 ≡ get_or old a 0
byte_else old bytes n a inside same other =
    let size : length (page_of bytes n) ≡ PAGE_SIZE = whole_page bytes n (omega (arith, inside, same)) in
    let fits : PAGE_SIZE * n + length (page_of bytes n) ≤ length old = omega (arith, size, inside) in
    elim (cases_lt a (PAGE_SIZE * n)) as (λ _. get_or (put_at old (PAGE_SIZE * n) (page_of bytes n)) a 0 ≡ get_or old a 0) [
      | inl before ↦ put_at_below old (page_of bytes n) (PAGE_SIZE * n) a fits before
      | inr from ↦ put_at_above old (page_of bytes n) (PAGE_SIZE * n) a fits (omega (arith, size, from, other))
    ]

-- Bytes that are the same outside of these pages.
abbrev AgreesBeside : List ℕ → List ℕ → List ℕ → Type 0
AgreesBeside pages bytes old = (a : ℕ) → is_named pages (a / PAGE_SIZE) ≡ false → get_or bytes a 0 ≡ get_or old a 0

beside_by : (b : Bool) (old bytes pages : List ℕ) (n a : ℕ) → (a / PAGE_SIZE == n) ≡ b → PAGE_SIZE * n + PAGE_SIZE ≤ length old → length bytes ≡ length old → AgreesBeside (n ∷ pages) bytes old → is_named pages (a / PAGE_SIZE) ≡ false
    → get_or bytes a 0 ≡ get_or (put_at old (PAGE_SIZE * n) (page_of bytes n)) a 0
beside_by true old bytes pages n a is inside same agrees named =
    let here : a / PAGE_SIZE ≡ n = grind (arith, nat_tests) in
    sym (byte_here old bytes n a inside same here)
beside_by false old bytes pages n a is inside same agrees named =
    let other : a / PAGE_SIZE ≢ n = grind (arith, nat_tests) in
    agrees a (rw (is, named) refl) ∙ sym (byte_else old bytes n a inside same other)

same_memory : (m : Memory) (bytes : List ℕ) (place : Option Ptr) → bytes ≡ m.bytes → place ≡ m.place → ◌≡◌ {A = Memory} (record { bytes = bytes; versions = m.versions; place = place }) m
same_memory m bytes place e f = rw (e, f) refl

given_all : (m : Memory) (bytes : List ℕ) (place : Ptr) (pages : List ℕ) → length m.bytes ≡ PAGE_SIZE * length m.versions → m.place ≡ Some place → length bytes ≡ length m.bytes → AreBelow (length m.versions) pages
    → AgreesBeside pages bytes m.bytes → given_back bytes place m.versions pages ≡ pages_written m pages bytes
given_all m bytes place [] whole is same below agrees =
    same_memory m bytes (Some place) (same_number_lists bytes m.bytes same (λ a inside. agrees a refl)) (sym is)
given_all m bytes place (n ∷ pages) whole is same below agrees =
    let here : n < length m.versions = below 0 0 (omega arith) in
    let inside : PAGE_SIZE * n + PAGE_SIZE ≤ length m.bytes = omega (arith, here, whole) in
    let size : length (page_of bytes n) ≡ PAGE_SIZE = whole_page bytes n (omega (arith, inside, same)) in
    let next : Memory = written m (PAGE_SIZE * n) (page_of bytes n) in
    let versions : next.versions ≡ set m.versions n (raised (get_or m.versions n 0)) = versions_of m bytes n here (omega (arith, inside, same)) in
    let count : length next.versions ≡ length m.versions = ap length versions ∙ length-set m.versions n (raised (get_or m.versions n 0)) in
    let long : length next.bytes ≡ length m.bytes = length-put_at m.bytes (page_of bytes n) (PAGE_SIZE * n) (omega (arith, size, inside)) in
    ap (λ (v : List ℕ). given_back bytes place v pages) (sym versions)
    ∙ given_all next bytes place pages (omega (arith, whole, count, long)) is (omega (arith, same, long)) (λ k d lt. rw count (below (suc k) d (omega (arith, lt))))
    (λ a named. beside_by (a / PAGE_SIZE == n) m.bytes bytes pages n a refl inside same agrees named)

pub given_back_is_written : GivenBackIsWritten
given_back_is_written m bytes place pages sound is same below agrees = given_all m bytes place pages sound.pages is same below agrees

-- The version of one page rises.
rises_one : (m : Memory) (n : ℕ) → n < length m.versions → Rises (page n ∷ []) m (record m { versions = set m.versions n (raised (get_or m.versions n 0)) })
rises_one m n below = record {
  rises = λ k there. elim there as (λ _. raised (get_or m.versions k 0) ≤ get_or (set m.versions n (raised (get_or m.versions n 0))) k 0) [
    | inl e ↦ (let is : k ≡ n = same_page k n e in
        let now = get_or-set_at m.versions n k (raised (get_or m.versions n 0)) 0 is below in
        let was = ap (λ (i : ℕ). raised (get_or m.versions i 0)) is in
        omega (arith, now, was))
    | inr none ↦ absurd none
  ];
  stays = λ k none. get_or-set_other m.versions n k (raised (get_or m.versions n 0)) 0 (λ is. none (inl (ap page is)));
}

-- The versions rise in exactly the named pages.
pub rises_given : (m new : Memory) (pages : List ℕ) → AreBelow (length m.versions) pages → new.versions ≡ raise_each m.versions pages → Rises (page_items pages) m new
rises_given m new [] below is = record { rises = λ k there. absurd there; stays = λ k none. ap (λ (v : List ℕ). get_or v k 0) is }
rises_given m new (n ∷ pages) below is =
    let here : n < length m.versions = below 0 0 (omega arith) in
    let next : Memory = record m { versions = set m.versions n (raised (get_or m.versions n 0)) } in
    let count : length next.versions ≡ length m.versions = length-set m.versions n (raised (get_or m.versions n 0)) in
    rises_append (page n ∷ []) (page_items pages) m next new (rises_one m n here) (rises_given next new pages (λ k d lt. rw count (below (suc k) d (omega (arith, lt)))) is)

-- A write of the bytes that lie there.
put_back : (old : List ℕ) (n : ℕ) → PAGE_SIZE * n + PAGE_SIZE ≤ length old → put_at old (PAGE_SIZE * n) (page_of old n) ≡ old
put_back old n inside =
    let size : length (page_of old n) ≡ PAGE_SIZE = whole_page old n inside in
    rw size
    (append_assoc (take (PAGE_SIZE * n) old) (page_of old n) (drop (PAGE_SIZE * n + PAGE_SIZE) old)
    ∙ ap (λ (x : List ℕ). take (PAGE_SIZE * n) old ++ (page_of old n ++ x)) (sym (drop-drop PAGE_SIZE (PAGE_SIZE * n) old))
    ∙ ap (λ (x : List ℕ). take (PAGE_SIZE * n) old ++ x) (take-append-drop PAGE_SIZE (drop (PAGE_SIZE * n) old))
    ∙ take-append-drop (PAGE_SIZE * n) old)

parts_same : (place : Option Ptr) (a b v w : List ℕ) → a ≡ b → v ≡ w → ◌≡◌ {A = Memory} (record { bytes = a; versions = v; place = place }) (record { bytes = b; versions = w; place = place })
parts_same place a b v w e f = rw (e, f) refl

marked_all : (m : Memory) (bytes pages : List ℕ) → bytes ≡ m.bytes → length m.bytes ≡ PAGE_SIZE * length m.versions → AreBelow (length m.versions) pages → marked m pages ≡ pages_written m pages bytes
marked_all m bytes [] same whole below = refl
marked_all m bytes (n ∷ pages) same whole below =
    let here : n < length m.versions = below 0 0 (omega arith) in
    let inside : PAGE_SIZE * n + PAGE_SIZE ≤ length m.bytes = omega (arith, here, whole) in
    let next : Memory = written m (PAGE_SIZE * n) (page_of bytes n) in
    let put : next.bytes ≡ m.bytes = rw same (put_back m.bytes n inside) in
    let versions : next.versions ≡ set m.versions n (raised (get_or m.versions n 0)) = versions_of m bytes n here (omega (arith, inside, ap length same)) in
    let count : length next.versions ≡ length m.versions = ap length versions ∙ length-set m.versions n (raised (get_or m.versions n 0)) in
    let long : length next.bytes ≡ length m.bytes = ap length put in
    parts_same m.place m.bytes next.bytes (raise_each (set m.versions n (raised (get_or m.versions n 0))) pages) (raise_each next.versions pages) (sym put) (ap (λ (v : List ℕ). raise_each v pages) (sym versions))
    ∙ marked_all next bytes pages (same ∙ sym put) (omega (arith, whole, count, long)) (λ k d lt. rw count (below (suc k) d (omega (arith, lt))))

pub marked_is_written : MarkedIsWritten
marked_is_written m pages sound below = marked_all m m.bytes pages refl sound.pages below

length-raised : (versions pages : List ℕ) → length (raise_each versions pages) ≡ length versions
length-raised versions [] = refl
length-raised versions (n ∷ pages) = length-raised (set versions n (raised (get_or versions n 0))) pages ∙ length-set versions n (raised (get_or versions n 0))

-- So it is a later one.
pub later_marked : (m : Memory) (pages : List ℕ) → AreBelow (length m.versions) pages → IsLater m (marked m pages)
later_marked m pages below = record {
  bytes = refl;
  versions = length-raised m.versions pages;
  place = refl;
  rises = none_falls (page_items pages) m (marked m pages) (rises_given m (marked m pages) pages below refl);
  stays = λ a same small. refl;
}
