-- Versions that are raised in two parts.
use Rattle.std.proofs.Common.{◌≡◌, ℕ, suc, ◌+◌, ◌-◌, ◌<◌, List, length, take, drop, map, get_or, set, refl, sym, ◌∙◌, arith, append_assoc}
use Rattle.std.proofs.lemmas.List.{drop_more, take_more_set, drop-set-lt, take-append-drop}
use borrow.Rule.Slice.PartMut.{put_mid, Post-is}
use Rattle.guestmem.specs.Write.{raise, raised}

-- Where one page is written, its version rises.
pub raise_one : (versions : List ℕ) (first new : ℕ) → first < length versions → new ≡ raised (get_or versions first 0) → set versions first new ≡ raise versions first first
raise_one versions first new there is =
    let one : first + 1 - first ≡ 1 = omega arith in
    sym (take-append-drop (first + 1) (set versions first new))
    ∙ rw (take_more_set versions first new there, drop-set-lt (first + 1) versions first new (omega arith), one, drop_more versions first 0 there, is, append_assoc) refl

-- Where more are written, the version of the first rises, and then those of the pages behind it.
pub raise_behind : (versions : List ℕ) (first last new : ℕ) (rest : List ℕ) → first < last → last < length versions → new ≡ raised (get_or versions first 0)
    → rest ≡ map raised (take (last + 1 - (first + 1)) (drop (first + 1) (set versions first new)))
    → put_mid (first + 1) (last + 1 - (first + 1)) (set versions first new) rest ≡ raise versions first last
raise_behind versions first last new rest more there is_new is =
    let here : first < length versions = omega arith in
    let all : last + 1 - first ≡ suc (last - first) = omega arith in
    let behind : last + 1 - (first + 1) ≡ last - first = omega arith in
    let past = Post-is (first + 1) (last + 1) (set versions first new) (omega arith) in
    rw (is, past, take_more_set versions first new here, drop-set-lt (first + 1) versions first new (omega arith), drop-set-lt (last + 1) versions first new (omega arith), behind, all, drop_more versions first 0 here, is_new, append_assoc, append_assoc) refl
