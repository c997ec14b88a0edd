-- The head of a record, and the body behind it.
use Rattle.std.proofs.Common.{◌≡◌, ◌≢◌, ℕ, zero, suc, ◌+◌, ◌==◌, if◌then◌else◌, ◌^◌, ◌<◌, ◌≤◌, Bool, true, false, nat_eq, List, [], ◌∷◌, ◌++◌, length, take, drop, Some, None, refl, sym, ap, subst, ◌∙◌, append_assoc, arith}
use Rattle.std.proofs.lemmas.List.{take-append-drop, drop_at, length-append, length-take}
use Rattle.guestmem.proofs.ByteLaws.{IsBytes-drop, IsBytes-take}
use Rattle.guestmem.specs.Number.{number_at, IsBytes}
use Rattle.wire.specs.Numbers.{digits, flag}
use Rattle.wire.specs.RecordHeads.{BeginsHead, BeginsNoHead, BeginsNoMark, BeginsNoTag, FitsHead, IsHeadCut, ReadsHead, body_len, spelled_head}
use Rattle.wire.specs.Records.{Record, page, sector, round_end, device, commit, zero_page, BeginsNoRecord, BeginsRecord, HasSpelling, IsOf, body_of, head_of, record_with, spelled_record}
use Rattle.wire.specs.declared.record_head.RecordHead.{RecordHead}
use Rattle.wire.specs.declared.record_head.RecordHead.TheVariants.{Page, Sector, RoundEnd, Device, Commit, ZeroPage}
use Rattle.wire.specs.declared.record_head.FoundHead.{FoundHead}
use Rattle.wire.specs.declared.record_head.FoundHead.TheVariants as founds
use Rattle.wire.proofs.Digits.{digits-number_at, flag-number, number_at-fits, spelled-numbers}
use Rattle.wire.proofs.Spelling.{head_same, number_same, one_record, sector_same, tail_same}

-- No head is the beginning of another.

flag_same : (f g : Bool) → flag f ≡ flag g → f ≡ g
flag_same true true e = refl
flag_same true false e = absurd (omega (arith, e))
flag_same false true e = absurd (omega (arith, e))
flag_same false false e = refl

pub one_head : (h k : RecordHead) (x y : List ℕ) → FitsHead h → FitsHead k → spelled_head h ++ x ≡ spelled_head k ++ y → (h ≡ k) × (x ≡ y)
one_head (Page m) (Page n) x y h k e = let t = number_same 4 m n x y h k (tail_same e) in (ap Page t.0, t.1)
one_head (Page m) (Sector d n g) x y h k e = absurd cc
one_head (Page m) (RoundEnd n) x y h k e = absurd cc
one_head (Page m) (Device d n) x y h k e = absurd cc
one_head (Page m) Commit x y h k e = absurd cc
one_head (Page m) (ZeroPage n) x y h k e = absurd cc
one_head (Sector c m f) (Page n) x y h k e = absurd cc
one_head (Sector c m f) (Sector d n g) x y h k e =
    let t = sector_same c d m n (flag f) (flag g) [] [] x y h.1 k.1 e in
    (rw (t.0, t.1.0, flag_same f g t.1.1.0) refl, t.1.1.1)
one_head (Sector c m f) (RoundEnd n) x y h k e = absurd cc
one_head (Sector c m f) (Device d n) x y h k e = absurd cc
one_head (Sector c m f) Commit x y h k e = absurd cc
one_head (Sector c m f) (ZeroPage n) x y h k e = absurd cc
one_head (RoundEnd m) (Page n) x y h k e = absurd cc
one_head (RoundEnd m) (Sector d n g) x y h k e = absurd cc
one_head (RoundEnd m) (RoundEnd n) x y h k e = let t = number_same 4 m n x y h k (tail_same e) in (ap RoundEnd t.0, t.1)
one_head (RoundEnd m) (Device d n) x y h k e = absurd cc
one_head (RoundEnd m) Commit x y h k e = absurd cc
one_head (RoundEnd m) (ZeroPage n) x y h k e = absurd cc
one_head (Device c m) (Page n) x y h k e = absurd cc
one_head (Device c m) (Sector d n g) x y h k e = absurd cc
one_head (Device c m) (RoundEnd n) x y h k e = absurd cc
one_head (Device c m) (Device d n) x y h k e =
    let t = number_same 4 m n x y h.1 k.1 (tail_same (tail_same e)) in
    (rw (head_same (tail_same e), t.0) refl, t.1)
one_head (Device c m) Commit x y h k e = absurd cc
one_head (Device c m) (ZeroPage n) x y h k e = absurd cc
one_head Commit (Page n) x y h k e = absurd cc
one_head Commit (Sector d n g) x y h k e = absurd cc
one_head Commit (RoundEnd n) x y h k e = absurd cc
one_head Commit (Device d n) x y h k e = absurd cc
one_head Commit Commit x y h k e = (refl, tail_same e)
one_head Commit (ZeroPage n) x y h k e = absurd cc
one_head (ZeroPage m) (Page n) x y h k e = absurd cc
one_head (ZeroPage m) (Sector d n g) x y h k e = absurd cc
one_head (ZeroPage m) (RoundEnd n) x y h k e = absurd cc
one_head (ZeroPage m) (Device d n) x y h k e = absurd cc
one_head (ZeroPage m) Commit x y h k e = absurd cc
one_head (ZeroPage m) (ZeroPage n) x y h k e = let t = number_same 4 m n x y h k (tail_same e) in (ap ZeroPage t.0, t.1)

-- A record is its head and its body.

pub fits_head : (r : Record) → HasSpelling r → FitsHead (head_of r)
fits_head (page n b) h = h.0
fits_head (sector d n (Some b)) h = (h.0, h.1)
fits_head (sector d n None) h = h
fits_head (round_end n) h = h
fits_head (device d b) h = (h.0, h.1)
fits_head (commit b) h = tt
fits_head (zero_page n) h = h

pub length_body : (r : Record) → HasSpelling r → length (body_of r) ≡ body_len (head_of r)
length_body (page n b) h = h.1
length_body (sector d n (Some b)) h = h.2
length_body (sector d n None) h = refl
length_body (round_end n) h = refl
length_body (device d b) h = refl
length_body (commit b) h = h.0
length_body (zero_page n) h = refl

pub head_then_body : (r : Record) (x : List ℕ) → spelled_record r ++ x ≡ spelled_head (head_of r) ++ (body_of r ++ x)
unfolding spelled_record
head_then_body r x = append_assoc (spelled_head (head_of r)) (body_of r) x

no_bytes_by : (b : List ℕ) → length b ≡ 0 → b ≡ []
no_bytes_by [] e = refl
no_bytes_by (x ∷ b) e = absurd (omega (arith, e))

nothing_behind : (x b : List ℕ) → length b ≡ 0 → x ++ [] ≡ x ++ b
nothing_behind x b e = ap (λ (y : List ℕ). x ++ y) (sym (no_bytes_by b e))

pub spelled_with : (h : RecordHead) (b : List ℕ) → length b ≡ body_len h → spelled_record (record_with h b) ≡ spelled_head h ++ b
unfolding spelled_record
spelled_with (Page n) b e = refl
spelled_with (Sector d n true) b e = refl
spelled_with (Sector d n false) b e = nothing_behind (spelled_head (Sector d n false)) b e
spelled_with (RoundEnd n) b e = nothing_behind (spelled_head (RoundEnd n)) b e
spelled_with (Device d len) b e = ap (λ (k : ℕ). 4 ∷ (d ∷ (digits 4 k ++ b))) e
spelled_with Commit b e = refl
spelled_with (ZeroPage n) b e = nothing_behind (spelled_head (ZeroPage n)) b e

pub spells_with : (h : RecordHead) (b : List ℕ) → FitsHead h → IsBytes b → length b ≡ body_len h → HasSpelling (record_with h b)
spells_with (Page n) b fits are e = (fits, e, are)
spells_with (Sector d n true) b fits are e = (fits.0, fits.1, e, are)
spells_with (Sector d n false) b fits are e = fits
spells_with (RoundEnd n) b fits are e = fits
spells_with (Device d len) b fits are e = (fits.0, omega (arith, e, fits.1), are)
spells_with Commit b fits are e = (e, are)
spells_with (ZeroPage n) b fits are e = fits

pub no_record : (version : ℕ) (bytes : List ℕ) → BeginsNoHead bytes → BeginsNoRecord version bytes
no_record version bytes none r x h has e = none (head_of r) (body_of r ++ x) (fits_head r h) (e ∙ head_then_body r x)

mark_low : (f : Bool) → flag f ≤ 1
mark_low true = omega arith
mark_low false = omega arith

tag_first : (head : RecordHead) (bytes rest : List ℕ) → bytes ≡ spelled_head head ++ rest → (t : ℕ) (fields : List ℕ) → bytes ≡ t ∷ fields → (x : List ℕ) × (spelled_head head ≡ t ∷ x)
tag_first (Page n) bytes rest e t fields is = let same : t ≡ 1 = head_same (sym is ∙ e) in (digits 4 n, ap (λ (k : ℕ). k ∷ digits 4 n) (sym same))
tag_first (Sector d n g) bytes rest e t fields is = let same : t ≡ 2 = head_same (sym is ∙ e) in (d ∷ (digits 4 n ++ (flag g ∷ [])), ap (λ (k : ℕ). k ∷ (d ∷ (digits 4 n ++ (flag g ∷ [])))) (sym same))
tag_first (RoundEnd n) bytes rest e t fields is = let same : t ≡ 3 = head_same (sym is ∙ e) in (digits 4 n, ap (λ (k : ℕ). k ∷ digits 4 n) (sym same))
tag_first (Device d n) bytes rest e t fields is = let same : t ≡ 4 = head_same (sym is ∙ e) in (d ∷ digits 4 n, ap (λ (k : ℕ). k ∷ (d ∷ digits 4 n)) (sym same))
tag_first Commit bytes rest e t fields is = let same : t ≡ 5 = head_same (sym is ∙ e) in ([], ap (λ (k : ℕ). k ∷ []) (sym same))
tag_first (ZeroPage n) bytes rest e t fields is = let same : t ≡ 6 = head_same (sym is ∙ e) in (digits 4 n, ap (λ (k : ℕ). k ∷ digits 4 n) (sym same))

tag_has_no_head : (bytes : List ℕ) → BeginsNoTag bytes → BeginsNoHead bytes
tag_has_no_head bytes b head rest h e = let first = tag_first head bytes rest e b.tag b.more b.whole in b.never head first.0 first.1

mark_has_no_head : (bytes : List ℕ) → BeginsNoMark bytes → BeginsNoHead bytes
mark_has_no_head bytes b (Page n) rest h e = let no = sym b.whole ∙ e in absurd cc
mark_has_no_head bytes b (Sector d n g) rest h e =
    let t = sector_same b.device d b.number n b.mark (flag g) [] [] b.more rest b.fits h.1 (sym b.whole ∙ e) in
    omega (arith, b.never, t.1.1.0, mark_low g)
mark_has_no_head bytes b (RoundEnd n) rest h e = let no = sym b.whole ∙ e in absurd cc
mark_has_no_head bytes b (Device d n) rest h e = let no = sym b.whole ∙ e in absurd cc
mark_has_no_head bytes b Commit rest h e = let no = sym b.whole ∙ e in absurd cc
mark_has_no_head bytes b (ZeroPage n) rest h e = let no = sym b.whole ∙ e in absurd cc

-- Where no head is whole, no record is.
pub nothing_found : (version : ℕ) (bytes : List ℕ) (found : FoundHead) → ReadsHead bytes found → ((head : RecordHead) → found ≢ founds.Whole head) → BeginsNoRecord version bytes
nothing_found version bytes (founds.More len) h other = no_record version bytes h.none
nothing_found version bytes founds.NoSuchTag h other = no_record version bytes (tag_has_no_head bytes h)
nothing_found version bytes founds.NoSuchMark h other = no_record version bytes (mark_has_no_head bytes h)
nothing_found version bytes (founds.Whole head) h other = absurd (other head refl)

pub no_body : (version : ℕ) (bytes rest : List ℕ) (head : RecordHead) → FitsHead head → bytes ≡ spelled_head head ++ rest → length rest < body_len head → BeginsNoRecord version bytes
no_body version bytes rest head fits is short r x h has e =
    let t = one_head head (head_of r) rest (body_of r ++ x) fits (fits_head r h) (sym is ∙ e ∙ head_then_body r x) in
    omega (arith, short, ap length t.1, length-append (body_of r) x, length_body r h, ap body_len t.0)

-- The bytes begin with a record, whether the version has it or not.
record IsThere (bytes : List ℕ) (r : Record) (len : ℕ) : Type 0 where
  spells : HasSpelling r
  long : length (spelled_record r) ≡ len
  whole : bytes ≡ spelled_record r ++ drop len bytes

there_with : (bytes body : List ℕ) (head : RecordHead) → IsBytes bytes → BeginsHead bytes head → body ≡ take (body_len head) (drop (length (spelled_head head)) bytes) → body_len head ≤ length (drop (length (spelled_head head)) bytes)
    → IsThere bytes (record_with head body) (length (spelled_head head) + length body)
there_with bytes body head are begins e room =
    let front = length (spelled_head head) in
    let rest = drop front bytes in
    let many : length body ≡ body_len head = omega (arith, ap length e, length-take (body_len head) rest, room) in
    let spelled = spelled_with head body many in
    let long : length (spelled_record (record_with head body)) ≡ front + length body = ap length spelled ∙ length-append (spelled_head head) body in
    let parts : rest ≡ body ++ drop (body_len head) rest = sym (take-append-drop (body_len head) rest) ∙ ap (λ (x : List ℕ). x ++ drop (body_len head) rest) (sym e) in
    let all : bytes ≡ spelled_record (record_with head body) ++ drop (body_len head) rest =
    begins.whole ∙ ap (λ (x : List ℕ). spelled_head head ++ x) parts ∙ sym (append_assoc (spelled_head head) body (drop (body_len head) rest)) ∙ ap (λ (x : List ℕ). x ++ drop (body_len head) rest) (sym spelled) in
    let past : drop (front + length body) bytes ≡ drop (body_len head) rest =
    ap (drop (front + length body)) all ∙ drop_at (spelled_record (record_with head body)) (drop (body_len head) rest) (front + length body) long in
    record {
      spells = spells_with head body begins.fits (subst IsBytes (sym e) (IsBytes-take (body_len head) rest (IsBytes-drop front bytes are))) many;
      long = long;
      whole = all ∙ ap (λ (x : List ℕ). spelled_record (record_with head body) ++ x) (sym past);
    }

pub begins_with : (version : ℕ) (bytes body : List ℕ) (head : RecordHead) → IsBytes bytes → BeginsHead bytes head → body ≡ take (body_len head) (drop (length (spelled_head head)) bytes) → body_len head ≤ length (drop (length (spelled_head head)) bytes)
    → IsOf version (record_with head body) → BeginsRecord version bytes (record_with head body) (length (spelled_head head) + length body)
begins_with version bytes body head are begins e room has =
    let there = there_with bytes body head are begins e room in
    record { spells = there.spells; has = has; long = there.long; whole = there.whole }

-- The version has no such record, and so the bytes begin with none.
pub not_of_version : (version : ℕ) (bytes body : List ℕ) (head : RecordHead) → IsBytes bytes → BeginsHead bytes head → body ≡ take (body_len head) (drop (length (spelled_head head)) bytes) → body_len head ≤ length (drop (length (spelled_head head)) bytes)
    → ¬ (IsOf version (record_with head body)) → BeginsNoRecord version bytes
not_of_version version bytes body head are begins e room never r x spells has is =
    let there = there_with bytes body head are begins e room in
    let same = one_record r (record_with head body) x (drop (length (spelled_head head) + length body) bytes) spells there.spells (sym is ∙ there.whole) in
    never (subst (IsOf version) same.0 has)

-- Heads as they are read.

pub begins : (bytes rest : List ℕ) (head : RecordHead) → FitsHead head → bytes ≡ spelled_head head ++ rest → BeginsHead bytes head
begins bytes rest head fits e = record {
  fits = fits;
  whole = e ∙ ap (λ (x : List ℕ). spelled_head head ++ x) (sym (ap (drop (length (spelled_head head))) e ∙ drop_at (spelled_head head) rest (length (spelled_head head)) refl));
}

four_bytes : (rest : List ℕ) (n : ℕ) → IsBytes rest → 4 ≤ length rest → n ≡ number_at rest 0 4 → rest ≡ digits 4 n ++ drop 4 rest
four_bytes rest n are long e =
    let four : digits 4 n ≡ take 4 rest = ap (digits 4) e ∙ digits-number_at 4 rest 0 are long in
    sym (take-append-drop 4 rest) ∙ ap (λ (x : List ℕ). x ++ drop 4 rest) (sym four)

pub page_read : (fields : List ℕ) (n : ℕ) → IsBytes fields → 4 ≤ length fields → n ≡ number_at fields 0 4 → BeginsHead (1 ∷ fields) (Page n)
page_read fields n are long e = begins (1 ∷ fields) (drop 4 fields) (Page n) (rw e (number_at-fits 4 0 fields are)) (ap (λ (x : List ℕ). 1 ∷ x) (four_bytes fields n are long e))

pub zero_page_read : (fields : List ℕ) (n : ℕ) → IsBytes fields → 4 ≤ length fields → n ≡ number_at fields 0 4 → BeginsHead (6 ∷ fields) (ZeroPage n)
zero_page_read fields n are long e = begins (6 ∷ fields) (drop 4 fields) (ZeroPage n) (rw e (number_at-fits 4 0 fields are)) (ap (λ (x : List ℕ). 6 ∷ x) (four_bytes fields n are long e))

pub round_read : (fields : List ℕ) (n : ℕ) → IsBytes fields → 4 ≤ length fields → n ≡ number_at fields 0 4 → BeginsHead (3 ∷ fields) (RoundEnd n)
round_read fields n are long e = begins (3 ∷ fields) (drop 4 fields) (RoundEnd n) (rw e (number_at-fits 4 0 fields are)) (ap (λ (x : List ℕ). 3 ∷ x) (four_bytes fields n are long e))

five_bytes : (rest : List ℕ) (d n : ℕ) → IsBytes rest → 5 ≤ length rest → d ≡ number_at rest 0 1 → n ≡ number_at rest 1 4 → rest ≡ d ∷ (digits 4 n ++ drop 5 rest)
five_bytes rest d n are long e f =
    let head = spelled-numbers (1 ∷ 4 ∷ []) 0 rest are long in
    rw (e, f) (sym (take-append-drop 5 rest) ∙ ap (λ (x : List ℕ). x ++ drop 5 rest) (sym head))

pub device_read : (fields : List ℕ) (d n : ℕ) → IsBytes fields → 5 ≤ length fields → d ≡ number_at fields 0 1 → n ≡ number_at fields 1 4 → BeginsHead (4 ∷ fields) (Device d n)
device_read fields d n are long e f =
    begins (4 ∷ fields) (drop 5 fields) (Device d n) (rw e (number_at-fits 1 0 fields are), rw f (number_at-fits 4 1 fields are)) (ap (λ (x : List ℕ). 4 ∷ x) (five_bytes fields d n are long e f))

six_bytes : (rest : List ℕ) (d n m : ℕ) → IsBytes rest → 6 ≤ length rest → d ≡ number_at rest 0 1 → n ≡ number_at rest 1 4 → m ≡ number_at rest 5 1 → rest ≡ d ∷ (digits 4 n ++ (m ∷ drop 6 rest))
six_bytes rest d n m are long e f g =
    let head = spelled-numbers (1 ∷ 4 ∷ 1 ∷ []) 0 rest are long in
    rw (e, f, g) (sym (take-append-drop 6 rest) ∙ ap (λ (x : List ℕ). x ++ drop 6 rest) (sym head))

pub sector_read : (fields : List ℕ) (d n m : ℕ) → IsBytes fields → 6 ≤ length fields → d ≡ number_at fields 0 1 → n ≡ number_at fields 1 4 → m ≡ number_at fields 5 1 → m ≤ 1 → BeginsHead (2 ∷ fields) (Sector d n (nat_eq m 1))
sector_read fields d n m are long e f g low =
    begins (2 ∷ fields) (drop 6 fields) (Sector d n (nat_eq m 1)) (rw e (number_at-fits 1 0 fields are), rw f (number_at-fits 4 1 fields are))
    (ap (λ (x : List ℕ). 2 ∷ x) (six_bytes fields d n m are long e f g) ∙ ap (λ (k : ℕ). 2 ∷ (d ∷ (digits 4 n ++ (k ∷ drop 6 fields)))) (sym (flag-number m low)))

pub no_mark : (fields : List ℕ) (d n m : ℕ) → IsBytes fields → 6 ≤ length fields → d ≡ number_at fields 0 1 → n ≡ number_at fields 1 4 → m ≡ number_at fields 5 1 → 1 < m → BeginsNoMark (2 ∷ fields)
no_mark fields d n m are long e f g high = record {
  device = d;
  number = n;
  mark = m;
  more = drop 6 fields;
  whole = ap (λ (x : List ℕ). 2 ∷ x) (six_bytes fields d n m are long e f g);
  fits = rw f (number_at-fits 4 1 fields are);
  never = high;
}

-- Heads that are cut. The tag tells the length.

len_of : ℕ → ℕ
len_of t = if t == 1 then 5 else if t == 2 then 7 else if t == 3 then 5 else if t == 4 then 6 else if t == 6 then 5 else 1

length_told : (head : RecordHead) (t : ℕ) (x : List ℕ) → spelled_head head ≡ t ∷ x → length (spelled_head head) ≡ len_of t
unfolding len_of
length_told (Page n) t x e = let is : 1 ≡ t = head_same e in rw (← is) refl
length_told (Sector d n g) t x e = let is : 2 ≡ t = head_same e in rw (← is) refl
length_told (RoundEnd n) t x e = let is : 3 ≡ t = head_same e in rw (← is) refl
length_told (Device d n) t x e = let is : 4 ≡ t = head_same e in rw (← is) refl
length_told Commit t x e = let is : 5 ≡ t = head_same e in rw (← is) refl
length_told (ZeroPage n) t x e = let is : 6 ≡ t = head_same e in rw (← is) refl

cut : (t : ℕ) (fields more : List ℕ) (len : ℕ) (head : RecordHead) → FitsHead head → spelled_head head ≡ (t ∷ fields) ++ more → length (spelled_head head) ≡ len → suc (length fields) < len → IsHeadCut (t ∷ fields) len
cut t fields more len head fits whole long short =
    let told = length_told head t (fields ++ more) whole in
    record {
      none = λ other rest h e.
          let first = tag_first other (t ∷ fields) rest e t fields refl in
          omega (arith, short, long, told, length_told other t first.0 first.1, ap length e, length-append (spelled_head other) rest);
      head = head;
      more = more;
      fits = fits;
      whole = whole;
      long = long;
      least = λ other rest e. omega (arith, long, told, length_told other t (fields ++ rest) e);
    }

bytes_on : (a : ℕ) (xs : List ℕ) → a < 256 → IsBytes xs → IsBytes (a ∷ xs)
bytes_on a xs low are zero = low
bytes_on a xs low are (suc i) = are i

-- A number of four bytes of which some are there.
record IsNumberCut (bytes : List ℕ) : Type 0 where
  number : ℕ
  more : List ℕ
  fits : number < 2 ^ 32
  whole : digits 4 number ≡ bytes ++ more

four : (a b c d : ℕ) (bytes more : List ℕ) → a < 256 → b < 256 → c < 256 → d < 256 → a ∷ (b ∷ (c ∷ (d ∷ []))) ≡ bytes ++ more → IsNumberCut bytes
four a b c d bytes more la lb lc ld e =
    let xs : List ℕ = a ∷ (b ∷ (c ∷ (d ∷ []))) in
    let none : IsBytes [] = λ i. omega arith in
    let are : IsBytes xs = bytes_on a (b ∷ (c ∷ (d ∷ []))) la (bytes_on b (c ∷ (d ∷ [])) lb (bytes_on c (d ∷ []) lc (bytes_on d [] ld none))) in
    record { number = number_at xs 0 4; more = more; fits = number_at-fits 4 0 xs are; whole = digits-number_at 4 xs 0 are (omega arith) ∙ e }

number_cut : (bytes : List ℕ) → IsBytes bytes → length bytes ≤ 4 → IsNumberCut bytes
number_cut [] are few = four 0 0 0 0 [] (0 ∷ (0 ∷ (0 ∷ (0 ∷ [])))) (omega arith) (omega arith) (omega arith) (omega arith) refl
number_cut (a ∷ []) are few = four a 0 0 0 _ (0 ∷ (0 ∷ (0 ∷ []))) (are 0) (omega arith) (omega arith) (omega arith) refl
number_cut (a ∷ (b ∷ [])) are few = four a b 0 0 _ (0 ∷ (0 ∷ [])) (are 0) (are 1) (omega arith) (omega arith) refl
number_cut (a ∷ (b ∷ (c ∷ []))) are few = four a b c 0 _ (0 ∷ []) (are 0) (are 1) (are 2) (omega arith) refl
number_cut (a ∷ (b ∷ (c ∷ (d ∷ [])))) are few = four a b c d _ [] (are 0) (are 1) (are 2) (are 3) refl
number_cut (a ∷ (b ∷ (c ∷ (d ∷ (x ∷ bytes))))) are few = absurd (omega (arith, few))

pub nothing_read : (bytes : List ℕ) → length bytes ≡ 0 → IsHeadCut bytes 1
nothing_read bytes none = nothing_by bytes (no_bytes_by bytes none)
  where
    some_by : (head : RecordHead) → 1 ≤ length (spelled_head head)
    some_by (Page n) = omega arith
    some_by (Sector d n g) = omega arith
    some_by (RoundEnd n) = omega arith
    some_by (Device d n) = omega arith
    some_by Commit = omega arith
    some_by (ZeroPage n) = omega arith

    nothing_by : (bytes : List ℕ) → bytes ≡ [] → IsHeadCut bytes 1
    nothing_by bytes e = rw e (record {
      none = λ head rest h is. omega (arith, some_by head, ap length is, length-append (spelled_head head) rest);
      head = Commit;
      more = 5 ∷ [];
      fits = tt;
      whole = refl;
      long = refl;
      least = λ other rest is. some_by other;
    })

pub page_cut : (fields : List ℕ) → IsBytes fields → length fields < 4 → IsHeadCut (1 ∷ fields) 5
page_cut fields are short =
    let n = number_cut fields are (omega (arith, short)) in
    cut 1 fields n.more 5 (Page n.number) n.fits (ap (λ (x : List ℕ). 1 ∷ x) n.whole) refl (omega (arith, short))

pub zero_page_cut : (fields : List ℕ) → IsBytes fields → length fields < 4 → IsHeadCut (6 ∷ fields) 5
zero_page_cut fields are short =
    let n = number_cut fields are (omega (arith, short)) in
    cut 6 fields n.more 5 (ZeroPage n.number) n.fits (ap (λ (x : List ℕ). 6 ∷ x) n.whole) refl (omega (arith, short))

pub round_cut : (fields : List ℕ) → IsBytes fields → length fields < 4 → IsHeadCut (3 ∷ fields) 5
round_cut fields are short =
    let n = number_cut fields are (omega (arith, short)) in
    cut 3 fields n.more 5 (RoundEnd n.number) n.fits (ap (λ (x : List ℕ). 3 ∷ x) n.whole) refl (omega (arith, short))

pub device_cut : (fields : List ℕ) → IsBytes fields → length fields < 5 → IsHeadCut (4 ∷ fields) 6
device_cut [] are short =
    let n = number_cut [] are (omega arith) in
    cut 4 [] (0 ∷ n.more) 6 (Device 0 n.number) (omega arith, n.fits) (ap (λ (x : List ℕ). 4 ∷ (0 ∷ x)) n.whole) refl (omega arith)
device_cut (d ∷ fields) are short =
    let n = number_cut fields (λ i. are (suc i)) (omega (arith, short)) in
    cut 4 (d ∷ fields) n.more 6 (Device d n.number) (are 0, n.fits) (ap (λ (x : List ℕ). 4 ∷ (d ∷ x)) n.whole) refl (omega (arith, short))

pub sector_cut : (fields : List ℕ) → IsBytes fields → length fields < 6 → IsHeadCut (2 ∷ fields) 7
sector_cut [] are short =
    let n = number_cut [] are (omega arith) in
    cut 2 [] (0 ∷ (n.more ++ (0 ∷ []))) 7 (Sector 0 n.number false) (omega arith, n.fits) (ap (λ (x : List ℕ). 2 ∷ (0 ∷ (x ++ (0 ∷ [])))) n.whole) refl (omega arith)
sector_cut (d ∷ fields) are short =
    let n = number_cut fields (λ i. are (suc i)) (omega (arith, short)) in
    let whole : digits 4 n.number ++ (0 ∷ []) ≡ fields ++ (n.more ++ (0 ∷ [])) = ap (λ (x : List ℕ). x ++ (0 ∷ [])) n.whole ∙ append_assoc fields n.more (0 ∷ []) in
    cut 2 (d ∷ fields) (n.more ++ (0 ∷ [])) 7 (Sector d n.number false) (are 0, n.fits) (ap (λ (x : List ℕ). 2 ∷ (d ∷ x)) whole) refl (omega (arith, short))

-- For readers of streams.

pub short_head : (head : RecordHead) → length (spelled_head head) ≤ 7
short_head (Page n) = omega arith
short_head (Sector d n g) = omega arith
short_head (RoundEnd n) = omega arith
short_head (Device d n) = omega arith
short_head Commit = omega arith
short_head (ZeroPage n) = omega arith

pub some_head : (t : ℕ) → 1 ≤ t → t ≤ 6 → (head : RecordHead) × ((rest : List ℕ) × (spelled_head head ≡ t ∷ rest))
some_head zero low high = absurd (omega (arith, low))
some_head (suc zero) low high = (Page 0, (digits 4 0, refl))
some_head (suc (suc zero)) low high = (Sector 0 0 false, (0 ∷ (digits 4 0 ++ (0 ∷ [])), refl))
some_head (suc (suc (suc zero))) low high = (RoundEnd 0, (digits 4 0, refl))
some_head (suc (suc (suc (suc zero)))) low high = (Device 0 0, (0 ∷ digits 4 0, refl))
some_head (suc (suc (suc (suc (suc zero))))) low high = (Commit, ([], refl))
some_head (suc (suc (suc (suc (suc (suc zero)))))) low high = (ZeroPage 0, (digits 4 0, refl))
some_head (suc (suc (suc (suc (suc (suc (suc t))))))) low high = absurd (omega (arith, high))

-- The head whose bytes are these fields of a sector.
pub record IsSectorHead (head : RecordHead) (d n m : ℕ) : Type 0 where
  pub good : Bool
  pub is : head ≡ Sector d n good
  pub low : m ≤ 1

pub sector_found : (head : RecordHead) (rest x : List ℕ) (d n m : ℕ) → FitsHead head → n < 2 ^ 32 → spelled_head head ++ rest ≡ 2 ∷ (d ∷ (digits 4 n ++ (m ∷ x))) → IsSectorHead head d n m
sector_found (Page k) rest x d n m h fits e = absurd cc
sector_found (Sector c k f) rest x d n m h fits e =
    let t = sector_same c d k n (flag f) m [] [] rest x h.1 fits e in
    record { good = f; is = rw (t.0, t.1.0) refl; low = omega (arith, t.1.1.0, mark_low f) }
sector_found (RoundEnd k) rest x d n m h fits e = absurd cc
sector_found (Device c k) rest x d n m h fits e = absurd cc
sector_found Commit rest x d n m h fits e = absurd cc
sector_found (ZeroPage k) rest x d n m h fits e = absurd cc
