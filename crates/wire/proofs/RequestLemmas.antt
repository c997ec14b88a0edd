-- Requests: what is spelled is read, and what is read was spelled.
use Rattle.std.proofs.Common.{◌≡◌, ℕ, zero, suc, ◌+◌, ◌-◌, ◌*◌, ◌<◌, ◌≤◌, List, [], ◌∷◌, ◌++◌, length, get_or, take, drop, nat_lt, ◌||◌, false, Some, refl, sym, ap, subst, ◌∙◌, append_assoc, append-nil, arith}
use Rattle.std.proofs.lemmas.Bool.{ltb-false, le-ltb}
use Rattle.std.proofs.lemmas.List.{take-append-drop, take_at, drop_at, length-append, length-take, length-drop}
use Rattle.std.proofs.Math.Seq.{take-length, take-add}
use Rattle.std.specs.List.{AllByRecursion, flat_map}
use Rattle.guestmem.proofs.ByteLaws.{IsBytes-drop, IsBytes-take}
use Rattle.guestmem.specs.Number.{number_at, IsBytes}
use Rattle.chains.specs.declared.segs.Seg.{Seg}
use Rattle.blk.specs.Request.{verdict_byte}
use Rattle.blk.specs.declared.request.Kind.{Kind}
use Rattle.blk.specs.declared.request.Kind.TheVariants.{Refused, In, Out, Flush, GetId, Zero}
use Rattle.blk.specs.declared.request.Verdict.{Verdict}
use Rattle.blk.specs.declared.request.Verdict.TheVariants.{Good, IoError, Unsupported}
use Rattle.blk.specs.declared.request.Request.{Request}
use Rattle.wire.specs.Numbers.{spelled, Fit}
use Rattle.wire.specs.RequestText.{seg_widths, seg_numbers, seg_text, segs_text, kind_number, request_widths, request_numbers, head_text, request_text}
use Rattle.wire.specs.RequestReading.{seg_from, seg_of, segs_of, kind_of, verdict_of, request_from, headed_by, request_with, request_of}
use Rattle.wire.proofs.Choices.{same_found, not_chosen, neither}
use Rattle.wire.proofs.Digits.{spelled-numbers, numbers-spelled, length-spelled, IsBytes-spelled, IsBytes-append}
use Rattle.wire.proofs.Lists.{WasSpelled}

-- Segments.

abbrev pub FitsSeg : Seg → Type 0
FitsSeg s = Fit seg_widths (seg_numbers s)

-- Segments that were read, and one more.
pub segs_go_on : (front : List Seg) (count i : ℕ) (rest : List ℕ) (whole : List Seg) → i < count → front ++ segs_of (count - i) rest ≡ whole
    → (front ++ seg_of rest ∷ []) ++ segs_of (count - (i + 1)) (drop 12 rest) ≡ whole
unfolding segs_of
segs_go_on front count i rest whole below is =
    let k : count - i ≡ suc (count - (i + 1)) = omega arith in
    append_assoc front (seg_of rest ∷ []) (segs_of (count - (i + 1)) (drop 12 rest)) ∙ (rw k at is)

pub segs_end : (front : List Seg) (count i : ℕ) (rest : List ℕ) (whole : List Seg) → count ≤ i → front ++ segs_of (count - i) rest ≡ whole → front ≡ whole
unfolding segs_of
segs_end front count i rest whole done is = let k : count - i ≡ 0 = omega arith in sym (append-nil front) ∙ (rw k at is)

seg_text-of : (bytes : List ℕ) → IsBytes bytes → 12 ≤ length bytes → seg_text (seg_of bytes) ≡ take 12 bytes
unfolding seg_text seg_of
seg_text-of bytes are long = spelled-numbers seg_widths 0 bytes are long

seg_of-text : (s : Seg) (rest : List ℕ) → FitsSeg s → seg_of (seg_text s ++ rest) ≡ s
unfolding seg_text seg_of
seg_of-text s rest fits = ap seg_from (numbers-spelled seg_widths (seg_numbers s) [] rest fits)

pub length-seg_text : (s : Seg) → length (seg_text s) ≡ 12
unfolding seg_text
length-seg_text s = refl

seg_bytes : (s : Seg) → FitsSeg s → IsBytes (seg_text s)
unfolding seg_text
seg_bytes s fits = IsBytes-spelled seg_widths (seg_numbers s) fits

segs_text-of : (n : ℕ) (bytes : List ℕ) → IsBytes bytes → 12 * n ≤ length bytes → segs_text (segs_of n bytes) ≡ take (12 * n) bytes
unfolding segs_of
segs_text-of zero bytes are long = refl
segs_text-of (suc n) bytes are long =
    let e : 12 * suc n ≡ 12 + 12 * n = omega arith in
    let first = seg_text-of bytes are (omega (arith, long)) in
    let others = segs_text-of n (drop 12 bytes) (IsBytes-drop 12 bytes are) (omega (arith, long, length-drop 12 bytes)) in
    rw (e, take-add 12 (12 * n) bytes, first, others) refl

length-segs_of : (n : ℕ) (bytes : List ℕ) → length (segs_of n bytes) ≡ n
unfolding segs_of
length-segs_of zero bytes = refl
length-segs_of (suc n) bytes = ap suc (length-segs_of n (drop 12 bytes))

segs_of-text : (ss : List Seg) (rest : List ℕ) → AllByRecursion FitsSeg ss → segs_of (length ss) (segs_text ss ++ rest) ≡ ss
unfolding segs_of
segs_of-text [] rest fits = refl
segs_of-text (s ∷ ss) rest fits =
    let grouped : segs_text (s ∷ ss) ++ rest ≡ seg_text s ++ (segs_text ss ++ rest) = append_assoc (seg_text s) (segs_text ss) rest in
    ap (segs_of (suc (length ss))) grouped ∙ rw (seg_of-text s (segs_text ss ++ rest) fits.0, drop_at (seg_text s) (segs_text ss ++ rest) 12 (length-seg_text s), segs_of-text ss rest fits.1) refl

pub length-segs_text : (ss : List Seg) → length (segs_text ss) ≡ 12 * length ss
length-segs_text [] = refl
length-segs_text (s ∷ ss) = omega (arith, length-append (seg_text s) (segs_text ss), length-seg_text s, length-segs_text ss)

segs_bytes : (ss : List Seg) → AllByRecursion FitsSeg ss → IsBytes (segs_text ss)
segs_bytes [] fits i = omega arith
segs_bytes (s ∷ ss) fits i = IsBytes-append (seg_text s) (segs_text ss) (seg_bytes s fits.0) (segs_bytes ss fits.1) i

-- What a request does, and how it went.

kind_of-number : (k : Kind) → kind_of (kind_number k) ≡ k
kind_of-number Refused = refl
kind_of-number In = refl
kind_of-number Out = refl
kind_of-number Flush = refl
kind_of-number GetId = refl
kind_of-number Zero = refl

verdict_of-byte : (v : Verdict) → verdict_of (verdict_byte v) ≡ v
verdict_of-byte Good = refl
verdict_of-byte IoError = refl
verdict_of-byte Unsupported = refl

kind_number-of : (n : ℕ) → n ≤ 5 → kind_number (kind_of n) ≡ n
kind_number-of zero few = refl
kind_number-of (suc zero) few = refl
kind_number-of (suc (suc zero)) few = refl
kind_number-of (suc (suc (suc zero))) few = refl
kind_number-of (suc (suc (suc (suc zero)))) few = refl
kind_number-of (suc (suc (suc (suc (suc zero))))) few = refl
kind_number-of (suc (suc (suc (suc (suc (suc n)))))) few = absurd (omega (arith, few))

verdict_byte-of : (n : ℕ) → n ≤ 2 → verdict_byte (verdict_of n) ≡ n
verdict_byte-of zero few = refl
verdict_byte-of (suc zero) few = refl
verdict_byte-of (suc (suc zero)) few = refl
verdict_byte-of (suc (suc (suc n))) few = absurd (omega (arith, few))

pub few_kinds : (k : Kind) → kind_number k ≤ 5
few_kinds Refused = omega arith
few_kinds In = omega arith
few_kinds Out = omega arith
few_kinds Flush = omega arith
few_kinds GetId = omega arith
few_kinds Zero = omega arith

pub few_verdicts : (v : Verdict) → verdict_byte v ≤ 2
few_verdicts Good = omega arith
few_verdicts IoError = omega arith
few_verdicts Unsupported = omega arith

-- A request whose numbers fit their fields.
pub record FitsRequest (r : Request) : Type 0 where
  pub head : Fit request_widths (request_numbers r (length r.readable) (length r.writable))
  pub readable : AllByRecursion FitsSeg r.readable
  pub writable : AllByRecursion FitsSeg r.writable

-- What the head of a request says of the bytes that begin with it.
record Headed (bytes : List ℕ) (r : Request) (rest : List ℕ) : Type 0 where
  pub long : 26 ≤ length bytes
  pub kind : number_at bytes 4 1 ≤ 5
  pub verdict : number_at bytes 5 1 ≤ 2
  pub readable : number_at bytes 22 2 ≡ length r.readable
  pub writable : number_at bytes 24 2 ≡ length r.writable
  pub rest_is : drop 26 bytes ≡ rest
  pub head_is : headed_by bytes r.readable r.writable ≡ r

pub length-head_text : (r : Request) (m n : ℕ) → length (head_text r m n) ≡ 26
unfolding head_text
length-head_text r m n = refl

at_most : {m n : ℕ} (most : ℕ) → m ≡ n → n ≤ most → m ≤ most
at_most most e few = omega (arith, e, few)

headed : (r : Request) (rest : List ℕ) → FitsRequest r → Headed (head_text r (length r.readable) (length r.writable) ++ rest) r rest
unfolding head_text headed_by
headed r rest fits =
    let ns = request_numbers r (length r.readable) (length r.writable) in
    let read = numbers-spelled request_widths ns [] rest fits.head in
    let nth = λ (k : ℕ). ap (λ (l : List ℕ). get_or l k 0) read in
    record {
      long = omega (arith, length-append (spelled request_widths ns) rest, length-spelled request_widths ns fits.head);
      kind = at_most 5 (nth 2) (few_kinds r.kind);
      verdict = at_most 2 (nth 3) (few_verdicts r.verdict);
      readable = nth 7;
      writable = nth 8;
      rest_is = refl;
      head_is = ap (λ (l : List ℕ). request_from l r.readable r.writable) read ∙ rw (kind_of-number r.kind, verdict_of-byte r.verdict) refl;
    }

read_so : (bytes : List ℕ) (r : Request) (rest : List ℕ) → Headed bytes r (segs_text r.readable ++ (segs_text r.writable ++ rest)) → FitsRequest r → request_of bytes ≡ Some (r, rest)
unfolding request_of
read_so bytes r rest h fits =
    let a = segs_text r.readable in
    let b = segs_text r.writable in
    let size_a = length-segs_text r.readable in
    let size_b = length-segs_text r.writable in
    let long : nat_lt (length bytes) 26 ≡ false = le-ltb _ _ h.long in
    let kind : nat_lt 5 (number_at bytes 4 1) ≡ false = le-ltb _ _ h.kind in
    let verdict : nat_lt 2 (number_at bytes 5 1) ≡ false = le-ltb _ _ h.verdict in
    let room : nat_lt (length (a ++ (b ++ rest))) (12 * (length r.readable + length r.writable)) ≡ false = le-ltb _ _ (omega (arith, size_a, size_b, length-append a (b ++ rest), length-append b rest)) in
    let first = take_at a (b ++ rest) (12 * length r.readable) size_a in
    let past_first = drop_at a (b ++ rest) (12 * length r.readable) size_a in
    let second = take_at b rest (12 * length r.writable) size_b in
    let past_second = drop_at b rest (12 * length r.writable) size_b in
    let firsts = ap (segs_of (length r.readable)) (sym (append-nil a)) ∙ segs_of-text r.readable [] fits.readable in
    let seconds = ap (segs_of (length r.writable)) (sym (append-nil b)) ∙ segs_of-text r.writable [] fits.writable in
    rw (long, kind, verdict, h.readable, h.writable, h.rest_is, room, first, past_first, second, past_second, firsts, seconds, h.head_is) refl

pub request_of-text : (r : Request) (rest : List ℕ) → FitsRequest r → request_of (request_text r ++ rest) ≡ Some (r, rest)
request_of-text r rest fits =
    let head = head_text r (length r.readable) (length r.writable) in
    let grouped : request_text r ++ rest ≡ head ++ (segs_text r.readable ++ (segs_text r.writable ++ rest)) =
    append_assoc head (segs_text r.readable ++ segs_text r.writable) rest ∙ ap (λ (x : List ℕ). head ++ x) (append_assoc (segs_text r.readable) (segs_text r.writable) rest) in
    ap request_of grouped ∙ read_so (head ++ (segs_text r.readable ++ (segs_text r.writable ++ rest))) r rest (headed r (segs_text r.readable ++ (segs_text r.writable ++ rest)) fits) fits

head_text-of : (bytes : List ℕ) (readable writable : List Seg) → IsBytes bytes → 26 ≤ length bytes → number_at bytes 4 1 ≤ 5 → number_at bytes 5 1 ≤ 2
    → head_text (headed_by bytes readable writable) (number_at bytes 22 2) (number_at bytes 24 2) ≡ take 26 bytes
unfolding head_text headed_by
head_text-of bytes readable writable are long kind verdict =
    rw (kind_number-of (number_at bytes 4 1) kind, verdict_byte-of (number_at bytes 5 1) verdict) (spelled-numbers request_widths 0 bytes are long)

all_taken : (n : ℕ) (bytes : List ℕ) → n ≤ length bytes → take n (take n bytes) ≡ take n bytes
all_taken n bytes long = let e : n ≡ length (take n bytes) = omega (arith, length-take n bytes, long) in ap (λ (k : ℕ). take k (take n bytes)) e ∙ take-length (take n bytes)

joined : (bytes x y z : List ℕ) {p a b q c d : List ℕ} → p ≡ q → a ≡ c → b ≡ d → q ++ x ≡ bytes → c ++ y ≡ x → d ++ z ≡ y → bytes ≡ (p ++ (a ++ b)) ++ z
joined bytes x y z {p} {a} {b} {q} {c} {d} e f g i j k =
    sym i ∙ ap (λ (t : List ℕ). q ++ t) (sym j ∙ ap (λ (t : List ℕ). c ++ t) (sym k))
    ∙ rw (e, f, g, append_assoc q (c ++ d) z, append_assoc c d z) refl

abbrev pub Any : Request → Type 0
Any r = Unit {0}

readable_by : (bytes : List ℕ) (readable writable : List Seg) → (headed_by bytes readable writable).readable ≡ readable
unfolding headed_by
readable_by bytes readable writable = refl

writable_by : (bytes : List ℕ) (readable writable : List Seg) → (headed_by bytes readable writable).writable ≡ writable
unfolding headed_by
writable_by bytes readable writable = refl

taken_so : (bytes : List ℕ) (m n : ℕ) → IsBytes bytes → 26 ≤ length bytes → number_at bytes 4 1 ≤ 5 → number_at bytes 5 1 ≤ 2 → number_at bytes 22 2 ≡ m → number_at bytes 24 2 ≡ n → 12 * (m + n) ≤ length (drop 26 bytes)
    → WasSpelled request_text Any bytes (headed_by bytes (segs_of m (take (12 * m) (drop 26 bytes))) (segs_of n (take (12 * n) (drop (12 * m) (drop 26 bytes)))), drop (12 * n) (drop (12 * m) (drop 26 bytes)))
taken_so bytes m n are long kind verdict e f room =
    let x = drop 26 bytes in
    let y = drop (12 * m) x in
    let are_x = IsBytes-drop 26 bytes are in
    let are_y = IsBytes-drop (12 * m) x are_x in
    let room_y : 12 * n ≤ length y = omega (arith, room, length-drop (12 * m) x) in
    let rs = segs_of m (take (12 * m) x) in
    let ws = segs_of n (take (12 * n) y) in
    let a : segs_text rs ≡ take (12 * m) x = segs_text-of m (take (12 * m) x) (IsBytes-take (12 * m) x are_x) (omega (arith, room, length-take (12 * m) x)) ∙ all_taken (12 * m) x (omega (arith, room)) in
    let b : segs_text ws ≡ take (12 * n) y = segs_text-of n (take (12 * n) y) (IsBytes-take (12 * n) y are_y) (omega (arith, room_y, length-take (12 * n) y)) ∙ all_taken (12 * n) y room_y in
    let r = headed_by bytes rs ws in
    let count_r : length r.readable ≡ number_at bytes 22 2 = ap length (readable_by bytes rs ws) ∙ length-segs_of m (take (12 * m) x) ∙ sym e in
    let count_w : length r.writable ≡ number_at bytes 24 2 = ap length (writable_by bytes rs ws) ∙ length-segs_of n (take (12 * n) y) ∙ sym f in
    let head : head_text r (length r.readable) (length r.writable) ≡ take 26 bytes = rw (count_r, count_w) (head_text-of bytes rs ws are long kind verdict) in
    record {
      good = tt;
      whole = joined bytes x y (drop (12 * n) y) head (ap segs_text (readable_by bytes rs ws) ∙ a) (ap segs_text (writable_by bytes rs ws) ∙ b) (take-append-drop 26 bytes) (take-append-drop (12 * m) x) (take-append-drop (12 * n) y);
    }

request_found : (bytes : List ℕ) (m n : ℕ) (found : Request × List ℕ) → IsBytes bytes → 26 ≤ length bytes → number_at bytes 4 1 ≤ 5 → number_at bytes 5 1 ≤ 2 → number_at bytes 22 2 ≡ m → number_at bytes 24 2 ≡ n
    → request_with bytes m n (drop 26 bytes) ≡ Some found → WasSpelled request_text Any bytes found
request_found bytes m n found are long kind verdict e f is =
    let room = not_chosen (nat_lt (length (drop 26 bytes)) (12 * (m + n))) _ found is in
    subst (λ (y : Request × List ℕ). WasSpelled request_text Any bytes y) (same_found _ found room.1) (taken_so bytes m n are long kind verdict e f (ltb-false _ _ room.0))

pub text-request_of : (bytes : List ℕ) (found : Request × List ℕ) → IsBytes bytes → request_of bytes ≡ Some found → WasSpelled request_text Any bytes found
unfolding request_of
text-request_of bytes found are is =
    let good = not_chosen (nat_lt (length bytes) 26 || nat_lt 5 (number_at bytes 4 1) || nat_lt 2 (number_at bytes 5 1)) _ found is in
    let verdict = neither (nat_lt (length bytes) 26 || nat_lt 5 (number_at bytes 4 1)) (nat_lt 2 (number_at bytes 5 1)) good.0 in
    let kind = neither (nat_lt (length bytes) 26) (nat_lt 5 (number_at bytes 4 1)) verdict.0 in
    request_found bytes (number_at bytes 22 2) (number_at bytes 24 2) found are (ltb-false (length bytes) 26 kind.0) (ltb-false 5 (number_at bytes 4 1) kind.1) (ltb-false 2 (number_at bytes 5 1) verdict.1) refl refl good.1

-- The size of a request, and its bytes.
pub length-request_text : (r : Request) → length (request_text r) ≡ 26 + 12 * (length r.readable + length r.writable)
length-request_text r =
    let head = head_text r (length r.readable) (length r.writable) in
    omega (arith, length-append head (segs_text r.readable ++ segs_text r.writable), length-append (segs_text r.readable) (segs_text r.writable), length-head_text r (length r.readable) (length r.writable), length-segs_text r.readable, length-segs_text r.writable)

head_bytes : (r : Request) (m n : ℕ) → Fit request_widths (request_numbers r m n) → IsBytes (head_text r m n)
unfolding head_text
head_bytes r m n fits = IsBytes-spelled request_widths (request_numbers r m n) fits

request_bytes : (r : Request) → FitsRequest r → IsBytes (request_text r)
request_bytes r fits =
    IsBytes-append (head_text r (length r.readable) (length r.writable)) (segs_text r.readable ++ segs_text r.writable) (head_bytes r (length r.readable) (length r.writable) fits.head)
    (IsBytes-append (segs_text r.readable) (segs_text r.writable) (segs_bytes r.readable fits.readable) (segs_bytes r.writable fits.writable))

pub requests_bytes : (rs : List Request) → AllByRecursion FitsRequest rs → IsBytes (flat_map request_text rs)
requests_bytes [] fits i = omega arith
requests_bytes (r ∷ rs) fits i = IsBytes-append (request_text r) (flat_map request_text rs) (request_bytes r fits.0) (requests_bytes rs fits.1) i
