-- The sectors of a disk whose marks change.
use Rattle.std.proofs.Common.{◌≡◌, ◌∙◌, sym, ℕ, zero, suc, ◌+◌, ◌<◌, cond, List, [], ◌∷◌, length, map, set, get_or, Bool, true, false, Some, None, refl, ap, arith}
use Rattle.std.specs.Prelude.{count_by}
use Rattle.std.proofs.lemmas.List.Sums.{sum_by-cons}
use Rattle.std.proofs.lemmas.List.{length-set, map-set}
use Rattle.blk.specs.Disk.{SameBut, IsSector, AreSectors}
use Rattle.blk.specs.Sectors.{Sector, sectors_of, sector_if, is_bad, IsWhole, AreWhole}

pub length_sectors : (ss : List (List ℕ)) (bs : List Bool) → length (sectors_of ss bs) ≡ length ss
length_sectors [] bs = refl
length_sectors (s ∷ ss) [] = ap suc (length_sectors ss [])
length_sectors (s ∷ ss) (b ∷ bs) = ap suc (length_sectors ss bs)

pub sector_marked : (ss : List (List ℕ)) (bs : List Bool) (n : ℕ) → length bs ≡ length ss → n < length ss → get_or (sectors_of ss bs) n None ≡ sector_if (get_or bs n false) (get_or ss n [])
sector_marked [] bs n e h = absurd (omega (arith, h))
sector_marked (s ∷ ss) [] n e h = absurd (omega (arith, e))
sector_marked (s ∷ ss) (b ∷ bs) zero e h = refl
sector_marked (s ∷ ss) (b ∷ bs) (suc n) e h = sector_marked ss bs n (omega (arith, e)) (omega (arith, h))

pub set_good : (ss : List (List ℕ)) (bs : List Bool) (n : ℕ) (x : List ℕ) → length bs ≡ length ss → sectors_of (set ss n x) (set bs n false) ≡ set (sectors_of ss bs) n (Some x)
set_good [] bs n x e = refl
set_good (s ∷ ss) [] n x e = absurd (omega (arith, e))
set_good (s ∷ ss) (b ∷ bs) zero x e = refl
set_good (s ∷ ss) (b ∷ bs) (suc n) x e = ap (λ (ys : List Sector). sector_if b s ∷ ys) (set_good ss bs n x (omega (arith, e)))

same_all : (ss ts : List (List ℕ)) → length ts ≡ length ss → ((k : ℕ) → get_or ts k [] ≡ get_or ss k []) → ts ≡ ss
same_all [] [] e h = refl
same_all [] (t ∷ ts) e h = absurd (omega (arith, e))
same_all (s ∷ ss) [] e h = absurd (omega (arith, e))
same_all (s ∷ ss) (t ∷ ts) e h =
    let here : t ≡ s = h 0 in
    rw (here, same_all ss ts (omega (arith, e)) (λ k. h (suc k))) refl

pub set_bad : (ss ts : List (List ℕ)) (bs : List Bool) (n : ℕ) → length bs ≡ length ss → length ts ≡ length ss → SameBut n ss ts → sectors_of ts (set bs n true) ≡ set (sectors_of ss bs) n None
set_bad [] [] bs n e f h = refl
set_bad [] (t ∷ ts) bs n e f h = absurd (omega (arith, f))
set_bad (s ∷ ss) [] bs n e f h = absurd (omega (arith, f))
set_bad (s ∷ ss) (t ∷ ts) [] n e f h = absurd (omega (arith, e))
set_bad (s ∷ ss) (t ∷ ts) (b ∷ bs) zero e f h =
    let more = same_all ss ts (omega (arith, f)) (λ k. h (suc k) (λ p. omega (arith, p))) in
    rw more refl
set_bad (s ∷ ss) (t ∷ ts) (b ∷ bs) (suc n) e f h =
    let here : t ≡ s = h 0 (λ p. omega (arith, p)) in
    rw here (ap (λ (ys : List Sector). sector_if b s ∷ ys) (set_bad ss ts bs n (omega (arith, e)) (omega (arith, f)) (λ k p. h (suc k) (λ q. p (omega (arith, q))))))

one_whole : (b : Bool) (s : List ℕ) → IsSector s → IsWhole (sector_if b s)
one_whole true s h = tt
one_whole false s h = h

-- The sectors of a disk are whole, whatever is marked.
pub are_whole : (ss : List (List ℕ)) (bs : List Bool) → AreSectors ss → AreWhole (sectors_of ss bs)
are_whole [] bs h k d below = absurd (omega (arith, below))
are_whole (s ∷ ss) [] h zero d below = h 0 s (omega arith)
are_whole (s ∷ ss) [] h (suc k) d below = are_whole ss [] (λ j e lt. h (suc j) e (omega (arith, lt))) k d (omega (arith, below))
are_whole (s ∷ ss) (b ∷ bs) h zero d below = one_whole b s (h 0 s (omega arith))
are_whole (s ∷ ss) (b ∷ bs) h (suc k) d below = are_whole ss bs (λ j e lt. h (suc j) e (omega (arith, lt))) k d (omega (arith, below))

bad_if : (b : Bool) (s : List ℕ) → is_bad (sector_if b s) ≡ b
bad_if true s = refl
bad_if false s = refl

-- A sector is bad where it is marked.
pub bad_marked : (ss : List (List ℕ)) (bs : List Bool) (n : ℕ) → length bs ≡ length ss → n < length ss → is_bad (get_or (sectors_of ss bs) n None) ≡ get_or bs n false
bad_marked ss bs n e h = rw (sector_marked ss bs n e h) (bad_if (get_or bs n false) (get_or ss n []))

pub marks_of : (ss : List (List ℕ)) (bs : List Bool) → length bs ≡ length ss → map is_bad (sectors_of ss bs) ≡ bs
marks_of [] [] e = refl
marks_of [] (b ∷ bs) e = absurd (omega (arith, e))
marks_of (s ∷ ss) [] e = absurd (omega (arith, e))
marks_of (s ∷ ss) (b ∷ bs) e = rw (bad_if b s, marks_of ss bs (omega (arith, e))) refl

-- Once a sector is marked good it is the only one whose mark may be another, whatever the disk holds.
pub good_again : (ss ts : List (List ℕ)) (bs : List Bool) (n : ℕ) (x : List ℕ) → length bs ≡ length ss → length ts ≡ length ss → map is_bad (sectors_of ts (set bs n false)) ≡ map is_bad (set (sectors_of ss bs) n (Some x))
good_again ss ts bs n x e f =
    let long : length (set bs n false) ≡ length ts = length-set bs n false ∙ e ∙ sym f in
    rw (marks_of ts (set bs n false) long, map-set is_bad (sectors_of ss bs) n (Some x), marks_of ss bs e) refl

-- As many sectors are bad as there are marks.
count_one : {A : Type 0} (p : A → Bool) (x : A) (xs : List A) → count_by p (x ∷ xs) ≡ cond (p x) 1 0 + count_by p xs
count_one p x xs = sum_by-cons (λ y. cond (p y) 1 0) x xs

pub bad_counted : (ss : List (List ℕ)) (bs : List Bool) → length bs ≡ length ss → count_by is_bad (sectors_of ss bs) ≡ count_by (λ b. b) bs
bad_counted [] [] e = refl
bad_counted [] (b ∷ bs) e = absurd (omega (arith, e))
bad_counted (s ∷ ss) [] e = absurd (omega (arith, e))
bad_counted (s ∷ ss) (true ∷ bs) e =
    count_one is_bad None (sectors_of ss bs) ∙ ap (λ n. 1 + n) (bad_counted ss bs (omega (arith, e))) ∙ sym (count_one (λ b. b) true bs)
bad_counted (s ∷ ss) (false ∷ bs) e =
    count_one is_bad (Some s) (sectors_of ss bs) ∙ ap (λ n. 0 + n) (bad_counted ss bs (omega (arith, e))) ∙ sym (count_one (λ b. b) false bs)
