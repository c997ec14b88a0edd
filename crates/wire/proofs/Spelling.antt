-- No spelling of a record is the beginning of another's.
use Rattle.std.proofs.Common.{◌≡◌, ℕ, ◌^◌, ◌<◌, List, [], ◌∷◌, ◌++◌, length, Some, None, refl, sym, ap, ◌∙◌, append_assoc, arith}
use Rattle.byteorder.specs.Endian.{little_from}
use Rattle.wire.specs.Numbers.{digits}
use Rattle.wire.specs.Records.{Record, page, sector, round_end, device, commit, zero_page, HasSpelling, spelled_record}
use Rattle.wire.proofs.Digits.{digits_read, length-digits}

pub split_same : {A : Type 0} (a b x y : List A) → length a ≡ length b → a ++ x ≡ b ++ y → (a ≡ b) × (x ≡ y)
split_same [] [] x y e h = (refl, h)
split_same [] (b ∷ qs) x y e h = absurd (omega (arith, e))
split_same (a ∷ ps) [] x y e h = absurd (omega (arith, e))
split_same (a ∷ ps) (b ∷ qs) x y e h =
    let first : a ≡ b = cc in
    let others : ps ++ x ≡ qs ++ y = cc in
    let len : length ps ≡ length qs = omega (arith, e) in
    let ih = split_same ps qs x y len others in
    (rw (first, ih.0) refl, ih.1)

pub number_same : (w m n : ℕ) (x y : List ℕ) → m < 256 ^ w → n < 256 ^ w → digits w m ++ x ≡ digits w n ++ y → (m ≡ n) × (x ≡ y)
number_same w m n x y lm ln e =
    let s = split_same (digits w m) (digits w n) x y (length-digits w m ∙ sym (length-digits w n)) e in
    (sym (digits_read w m x lm) ∙ ap (little_from 0 w) e ∙ digits_read w n y ln, s.1)

page_same : (m n : ℕ) (a b x y : List ℕ) → m < 2 ^ 32 → n < 2 ^ 32 → length a ≡ length b → (digits 4 m ++ a) ++ x ≡ (digits 4 n ++ b) ++ y → (m ≡ n) × ((a ≡ b) × (x ≡ y))
page_same m n a b x y lm ln len e =
    let f : digits 4 m ++ (a ++ x) ≡ digits 4 n ++ (b ++ y) = sym (append_assoc (digits 4 m) a x) ∙ e ∙ append_assoc (digits 4 n) b y in
    let s = number_same 4 m n (a ++ x) (b ++ y) lm ln f in
    (s.0, split_same a b x y len s.1)

device_same : (a b x y : List ℕ) → length a < 2 ^ 32 → length b < 2 ^ 32 → (digits 4 (length a) ++ a) ++ x ≡ (digits 4 (length b) ++ b) ++ y → (a ≡ b) × (x ≡ y)
device_same a b x y la lb e =
    let f : digits 4 (length a) ++ (a ++ x) ≡ digits 4 (length b) ++ (b ++ y) = sym (append_assoc (digits 4 (length a)) a x) ∙ e ∙ append_assoc (digits 4 (length b)) b y in
    let s = number_same 4 (length a) (length b) (a ++ x) (b ++ y) la lb f in
    split_same a b x y s.0 s.1

pub tail_same : {a b : ℕ} {x y : List ℕ} → a ∷ x ≡ b ∷ y → x ≡ y
tail_same e = cc

pub head_same : {a b : ℕ} {x y : List ℕ} → a ∷ x ≡ b ∷ y → a ≡ b
head_same e = cc

pub sector_same : (c d m n : ℕ) (f g : ℕ) (a b x y : List ℕ) → m < 2 ^ 32 → n < 2 ^ 32 → 2 ∷ (c ∷ ((digits 4 m ++ (f ∷ a)) ++ x)) ≡ 2 ∷ (d ∷ ((digits 4 n ++ (g ∷ b)) ++ y))
    → (c ≡ d) × ((m ≡ n) × ((f ≡ g) × (a ++ x ≡ b ++ y)))
sector_same c d m n f g a b x y lm ln e =
    let h : digits 4 m ++ (f ∷ (a ++ x)) ≡ digits 4 n ++ (g ∷ (b ++ y)) = sym (append_assoc (digits 4 m) (f ∷ a) x) ∙ tail_same (tail_same e) ∙ append_assoc (digits 4 n) (g ∷ b) y in
    let s = number_same 4 m n (f ∷ (a ++ x)) (g ∷ (b ++ y)) lm ln h in
    (head_same (tail_same e), (s.0, (head_same s.1, tail_same s.1)))

pub one_record : (r s : Record) (x y : List ℕ) → HasSpelling r → HasSpelling s → spelled_record r ++ x ≡ spelled_record s ++ y → (r ≡ s) × (x ≡ y)
unfolding spelled_record
one_record (page m a) (page n b) x y h k e = let t = page_same m n a b x y h.0 k.0 (h.1 ∙ sym k.1) (tail_same e) in (rw (t.0, t.1.0) refl, t.1.1)
one_record (page m a) (sector d n (Some b)) x y h k e = absurd cc
one_record (page m a) (sector d n None) x y h k e = absurd cc
one_record (page m a) (round_end n) x y h k e = absurd cc
one_record (page m a) (device d b) x y h k e = absurd cc
one_record (page m a) (commit b) x y h k e = absurd cc
one_record (page m a) (zero_page n) x y h k e = absurd cc
one_record (sector c m (Some a)) (page n b) x y h k e = absurd cc
one_record (sector c m None) (page n b) x y h k e = absurd cc
one_record (sector c m (Some a)) (sector d n (Some b)) x y h k e =
    let t = sector_same c d m n 1 1 a b x y h.1 k.1 e in
    let u = split_same a b x y (h.2 ∙ sym k.2) t.1.1.1 in
    (rw (t.0, t.1.0, u.0) refl, u.1)
one_record (sector c m (Some a)) (sector d n None) x y h k e = let t = sector_same c d m n 1 0 a [] x y h.1 k.1 e in absurd (omega (arith, t.1.1.0))
one_record (sector c m None) (sector d n (Some b)) x y h k e = let t = sector_same c d m n 0 1 [] b x y h.1 k.1 e in absurd (omega (arith, t.1.1.0))
one_record (sector c m None) (sector d n None) x y h k e = let t = sector_same c d m n 0 0 [] [] x y h.1 k.1 e in (rw (t.0, t.1.0) refl, t.1.1.1)
one_record (sector c m (Some a)) (round_end n) x y h k e = absurd cc
one_record (sector c m None) (round_end n) x y h k e = absurd cc
one_record (sector c m (Some a)) (device d b) x y h k e = absurd cc
one_record (sector c m None) (device d b) x y h k e = absurd cc
one_record (sector c m (Some a)) (commit b) x y h k e = absurd cc
one_record (sector c m (Some a)) (zero_page n) x y h k e = absurd cc
one_record (sector c m None) (commit b) x y h k e = absurd cc
one_record (sector c m None) (zero_page n) x y h k e = absurd cc
one_record (round_end m) (page n b) x y h k e = absurd cc
one_record (round_end m) (sector d n (Some b)) x y h k e = absurd cc
one_record (round_end m) (sector d n None) x y h k e = absurd cc
one_record (round_end m) (round_end n) x y h k e = let t = number_same 4 m n x y h k (tail_same e) in (rw (t.0) refl, t.1)
one_record (round_end m) (device d b) x y h k e = absurd cc
one_record (round_end m) (commit b) x y h k e = absurd cc
one_record (round_end m) (zero_page n) x y h k e = absurd cc
one_record (device c a) (page n b) x y h k e = absurd cc
one_record (device c a) (sector d n (Some b)) x y h k e = absurd cc
one_record (device c a) (sector d n None) x y h k e = absurd cc
one_record (device c a) (round_end n) x y h k e = absurd cc
one_record (device c a) (device d b) x y h k e = let t = device_same a b x y h.1 k.1 (tail_same (tail_same e)) in (rw (head_same (tail_same e), t.0) refl, t.1)
one_record (device c a) (commit b) x y h k e = absurd cc
one_record (device c a) (zero_page n) x y h k e = absurd cc
one_record (commit a) (page n b) x y h k e = absurd cc
one_record (commit a) (sector d n (Some b)) x y h k e = absurd cc
one_record (commit a) (sector d n None) x y h k e = absurd cc
one_record (commit a) (round_end n) x y h k e = absurd cc
one_record (commit a) (device d b) x y h k e = absurd cc
one_record (commit a) (commit b) x y h k e = let t = split_same a b x y (h.0 ∙ sym k.0) (tail_same e) in (rw (t.0) refl, t.1)
one_record (commit a) (zero_page n) x y h k e = absurd cc
one_record (zero_page m) (page n b) x y h k e = absurd cc
one_record (zero_page m) (sector d n (Some b)) x y h k e = absurd cc
one_record (zero_page m) (sector d n None) x y h k e = absurd cc
one_record (zero_page m) (round_end n) x y h k e = absurd cc
one_record (zero_page m) (device d b) x y h k e = absurd cc
one_record (zero_page m) (commit b) x y h k e = absurd cc
one_record (zero_page m) (zero_page n) x y h k e = let t = number_same 4 m n x y h k (tail_same e) in (rw (t.0) refl, t.1)
