-- Faults stand in longer bytes too, and in shorter ones up to their places.
use Rattle.std.proofs.Common.{◌≡◌, ℕ, ◌≤◌, inl, inr, List, [], ◌∷◌, ◌++◌, length, drop, refl, sym, ap, ◌∙◌, append_assoc, arith, subst}
use Rattle.std.specs.Prelude.{All}
use Rattle.std.proofs.lemmas.List.{length-append, length-drop, drop-append-le}
use Rattle.sha2.specs.Sha256.{sha256}
use Rattle.sha2.proofs.Facts256.{length-sha256}
use Rattle.wire.specs.Header.{spelled_shapes}
use Rattle.receiver.specs.Opened.{Opened, opened_header}
use Rattle.wire.specs.Header as told
use Rattle.wire.specs.Numbers.{digits}
use Rattle.wire.specs.Records.{Record}
use Rattle.wire.specs.Stream.{texts}
use Rattle.wire.proofs.Digits.{length-digits, number_at-append}
use Rattle.wire.proofs.Spelling.{head_same, tail_same}
use Rattle.wire.proofs.Unique.{cons_same}
use Rattle.machine.specs.declared.limits.Limits.{Limits}
use Rattle.receiver.specs.Good.{devices_in}
use Rattle.wire.specs.HeaderFaults.{IsBadShape, IsBadVersion, IsNoShape, IsPlain, IsRead, IsShapeFor, Says, limits_in}
use Rattle.receiver.specs.Faults.{Opens, IsFault, IsRecordFault, IsHeaderFault, Fault}
use Rattle.receiver.specs.declared.ram_terms.RamTerms.{RamTerms}
use Rattle.receiver.specs.declared.recv_error.RecvError.{RecvError}
use Rattle.receiver.specs.declared.recv_error.RecvError.TheVariants as errors

-- What is behind a known beginning.
pub record Behind (x c y z : List ℕ) : Type 0 where
  pub w : List ℕ
  pub left : x ≡ y ++ w
  pub right : z ≡ w ++ c

behind_more : (a b : ℕ) (xs c ys z : List ℕ) → a ≡ b → Behind xs c ys z → Behind (a ∷ xs) c (b ∷ ys) z
behind_more a b xs c ys z e h = record { w = h.w; left = cons_same e h.left; right = h.right }

pub behind : (x c y z : List ℕ) → x ++ c ≡ y ++ z → length y ≤ length x → Behind x c y z
behind x c [] z e le = record { w = x; left = refl; right = sym e }
behind [] c (b ∷ ys) z e le = absurd (omega (arith, le))
behind (a ∷ xs) c (b ∷ ys) z e le = behind_more a b xs c ys z (head_same e) (behind xs c ys z (tail_same e) (omega (arith, le)))

opens_on : (opening : Opened) (before : List Record) (tail c : List ℕ) (tag : ℕ) (more other : List ℕ) → Opens opening before tail tag more → more ++ c ≡ other → Opens opening before (tail ++ c) tag other
opens_on opening before tail c tag more other o e = record { whole = ap (λ (x : List ℕ). x ++ c) o.whole ∙ ap (λ (x : List ℕ). tag ∷ x) e; may = o.may; complete = o.complete }

opens_at : (opening : Opened) (before : List Record) (long tail : List ℕ) (tag : ℕ) (more other : List ℕ) → Opens opening before long tag more → tail ≡ tag ∷ other → Opens opening before tail tag other
opens_at opening before long tail tag more other o e = record { whole = e; may = o.may; complete = o.complete }

stays_here : (opening : Opened) (before : List Record) (tail c : List ℕ) (k : RecvError) (p : ℕ) → IsFault opening before tail k p → IsFault opening before (tail ++ c) k p
stays_here opening before tail c errors.BadTag p h = record { tag = h.tag; more = h.more ++ c; whole = ap (λ (x : List ℕ). x ++ c) h.whole; never = h.never; there = h.there }
stays_here opening before tail c errors.BadPage p (inl h) = inl (record { tag = h.tag; number = h.number; more = h.more ++ c; names = h.names; opens = opens_on opening before tail c h.tag _ _ h.opens (append_assoc (digits 4 h.number) h.more c); fits = h.fits; never = h.never; there = h.there })
stays_here opening before tail c errors.BadPage p (inr h) = inr (record { number = h.number; bytes = h.bytes; more = h.more ++ c; opens = opens_on opening before tail c 1 _ _ h.opens (append_assoc (digits 4 h.number) (h.bytes ++ h.more) c ∙ ap (λ (x : List ℕ). digits 4 h.number ++ x) (append_assoc h.bytes h.more c)); fits = h.fits; within = h.within; long = h.long; zeros = h.zeros; there = h.there })
stays_here opening before tail c errors.BadSector p h = record { disk = h.disk; number = h.number; mark = h.mark; more = h.more ++ c; opens = opens_on opening before tail c 2 _ _ h.opens (ap (λ (x : List ℕ). h.disk ∷ x) (append_assoc (digits 4 h.number) (h.mark ∷ h.more) c)); fits = h.fits; never = h.never; there = h.there }
stays_here opening before tail c errors.BadRound p h = record { number = h.number; more = h.more ++ c; opens = opens_on opening before tail c 3 _ _ h.opens (append_assoc (digits 4 h.number) h.more c); fits = h.fits; never = h.never; there = h.there }
stays_here opening before tail c errors.BadDevice p (inl h) = inl (record { number = h.number; len = h.len; more = h.more ++ c; opens = opens_on opening before tail c 4 _ _ h.opens (ap (λ (x : List ℕ). h.number ∷ x) (append_assoc (digits 4 h.len) h.more c)); fits = h.fits; never = h.never; there = h.there })
stays_here opening before tail c errors.BadDevice p (inr h) = inr (record { body = h.body; more = h.more ++ c; shape = h.shape; others = h.others; opens = opens_on opening before tail c 4 _ _ h.opens (ap (λ (x : List ℕ). devices_in before ∷ x) (append_assoc (digits 4 (length h.body)) (h.body ++ h.more) c ∙ ap (λ (x : List ℕ). digits 4 (length h.body) ++ x) (append_assoc h.body h.more c))); few = h.few; here = h.here; never = h.never; there = h.there })
stays_here opening before tail c errors.BadDigest p h = record { digest = h.digest; more = h.more ++ c; opens = opens_on opening before tail c 5 _ _ h.opens (append_assoc h.digest h.more c); long = h.long; never = h.never; there = h.there }
stays_here opening before tail c errors.Missing p h = record { tag = h.tag; more = h.more ++ c; whole = ap (λ (x : List ℕ). x ++ c) h.whole; may = h.may; late = h.late; never = h.never; there = h.there }
stays_here opening before tail c errors.Trailing p h = record { byte = h.byte; more = h.more ++ c; opens = opens_on opening before tail c 5 _ _ h.opens (append_assoc (sha256 (opened_header opening ++ texts before)) (h.byte ∷ h.more) c); there = h.there }
stays_here opening before tail c _ p h = absurd h

pub holds_here : (opening : Opened) (before : List Record) (tail c : List ℕ) (k : RecvError) (p : ℕ) → p ≤ length tail → IsFault opening before (tail ++ c) k p → IsFault opening before tail k p
holds_here opening before tail c errors.BadTag p le h =
    let b = behind tail c (h.tag ∷ []) h.more h.whole (omega (arith, le, h.there)) in
    record { tag = h.tag; more = b.w; whole = b.left; never = h.never; there = h.there }
holds_here opening before tail c errors.BadPage p le (inl h) =
    let b = behind tail c (h.tag ∷ digits 4 h.number) h.more h.opens.whole (omega (arith, le, h.there, length-digits 4 h.number)) in
    inl (record { tag = h.tag; number = h.number; more = b.w; names = h.names; opens = opens_at opening before (tail ++ c) tail h.tag _ _ h.opens (b.left); fits = h.fits; never = h.never; there = h.there })
holds_here opening before tail c errors.BadPage p le (inr h) =
    let b = behind tail c (1 ∷ (digits 4 h.number ++ h.bytes)) h.more (h.opens.whole ∙ ap (λ (x : List ℕ). 1 ∷ x) (sym (append_assoc (digits 4 h.number) h.bytes h.more))) (omega (arith, le, h.there, length-append (digits 4 h.number) h.bytes, length-digits 4 h.number, h.long)) in
    inr (record { number = h.number; bytes = h.bytes; more = b.w; opens = opens_at opening before (tail ++ c) tail 1 _ _ h.opens (b.left ∙ ap (λ (x : List ℕ). 1 ∷ x) (append_assoc (digits 4 h.number) h.bytes b.w)); fits = h.fits; within = h.within; long = h.long; zeros = h.zeros; there = h.there })
holds_here opening before tail c errors.BadSector p le h =
    let b = behind tail c (2 ∷ (h.disk ∷ (digits 4 h.number ++ (h.mark ∷ [])))) h.more (h.opens.whole ∙ ap (λ (x : List ℕ). 2 ∷ (h.disk ∷ x)) (sym (append_assoc (digits 4 h.number) (h.mark ∷ []) h.more))) (omega (arith, le, h.there, length-append (digits 4 h.number) (h.mark ∷ []), length-digits 4 h.number)) in
    record { disk = h.disk; number = h.number; mark = h.mark; more = b.w; opens = opens_at opening before (tail ++ c) tail 2 _ _ h.opens (b.left ∙ ap (λ (x : List ℕ). 2 ∷ (h.disk ∷ x)) (append_assoc (digits 4 h.number) (h.mark ∷ []) b.w)); fits = h.fits; never = h.never; there = h.there }
holds_here opening before tail c errors.BadRound p le h =
    let b = behind tail c (3 ∷ digits 4 h.number) h.more h.opens.whole (omega (arith, le, h.there, length-digits 4 h.number)) in
    record { number = h.number; more = b.w; opens = opens_at opening before (tail ++ c) tail 3 _ _ h.opens (b.left); fits = h.fits; never = h.never; there = h.there }
holds_here opening before tail c errors.BadDevice p le (inl h) =
    let b = behind tail c (4 ∷ (h.number ∷ digits 4 h.len)) h.more h.opens.whole (omega (arith, le, h.there, length-digits 4 h.len)) in
    inl (record { number = h.number; len = h.len; more = b.w; opens = opens_at opening before (tail ++ c) tail 4 _ _ h.opens (b.left); fits = h.fits; never = h.never; there = h.there })
holds_here opening before tail c errors.BadDevice p le (inr h) =
    let b = behind tail c (4 ∷ (devices_in before ∷ (digits 4 (length h.body) ++ h.body))) h.more (h.opens.whole ∙ ap (λ (x : List ℕ). 4 ∷ (devices_in before ∷ x)) (sym (append_assoc (digits 4 (length h.body)) h.body h.more))) (omega (arith, le, h.there, length-append (digits 4 (length h.body)) h.body, length-digits 4 (length h.body))) in
    inr (record { body = h.body; more = b.w; shape = h.shape; others = h.others; opens = opens_at opening before (tail ++ c) tail 4 _ _ h.opens (b.left ∙ ap (λ (x : List ℕ). 4 ∷ (devices_in before ∷ x)) (append_assoc (digits 4 (length h.body)) h.body b.w)); few = h.few; here = h.here; never = h.never; there = h.there })
holds_here opening before tail c errors.BadDigest p le h =
    let b = behind tail c (5 ∷ h.digest) h.more h.opens.whole (omega (arith, le, h.there, h.long)) in
    record { digest = h.digest; more = b.w; opens = opens_at opening before (tail ++ c) tail 5 _ _ h.opens (b.left); long = h.long; never = h.never; there = h.there }
holds_here opening before tail c errors.Missing p le h =
    let b = behind tail c (h.tag ∷ []) h.more h.whole (omega (arith, le, h.there)) in
    record { tag = h.tag; more = b.w; whole = b.left; may = h.may; late = h.late; never = h.never; there = h.there }
holds_here opening before tail c errors.Trailing p le h =
    let b = behind tail c (5 ∷ (sha256 (opened_header opening ++ texts before) ++ (h.byte ∷ []))) h.more (h.opens.whole ∙ ap (λ (x : List ℕ). 5 ∷ x) (sym (append_assoc (sha256 (opened_header opening ++ texts before)) (h.byte ∷ []) h.more))) (omega (arith, le, h.there, length-append (sha256 (opened_header opening ++ texts before)) (h.byte ∷ []), length-sha256 (opened_header opening ++ texts before))) in
    record { byte = h.byte; more = b.w; opens = opens_at opening before (tail ++ c) tail 5 _ _ h.opens (b.left ∙ ap (λ (x : List ℕ). 5 ∷ x) (append_assoc (sha256 (opened_header opening ++ texts before)) (h.byte ∷ []) b.w)); there = h.there }
holds_here opening before tail c _ p le h = absurd h

says_on : (l : Limits) (b c : List ℕ) (pages count : ℕ) → Says l b pages count → Says l (b ++ c) pages count
says_on l b c pages count h = record {
  long = omega (arith, h.long, length-append b c);
  magic = number_at-append 0 4 b c (omega (arith, h.long)) ∙ h.magic;
  known = subst (IsRead l) (sym (number_at-append 4 4 b c (omega (arith, h.long)))) h.known;
  pages_are = number_at-append 8 4 b c (omega (arith, h.long)) ∙ h.pages_are;
  count_is = number_at-append 12 4 b c (omega (arith, h.long)) ∙ h.count_is;
}

says_at : (l : Limits) (b c : List ℕ) (pages count : ℕ) → 16 ≤ length b → Says l (b ++ c) pages count → Says l b pages count
says_at l b c pages count long h = record {
  long = long;
  magic = sym (number_at-append 0 4 b c (omega (arith, long))) ∙ h.magic;
  known = subst (IsRead l) (number_at-append 4 4 b c (omega (arith, long))) h.known;
  pages_are = sym (number_at-append 8 4 b c (omega (arith, long))) ∙ h.pages_are;
  count_is = sym (number_at-append 12 4 b c (omega (arith, long))) ∙ h.count_is;
}

-- The faults at a version and at a shape.
version_stays : (l : Limits) (b c : List ℕ) (p : ℕ) → IsBadVersion l b p → IsBadVersion l (b ++ c) p
version_stays l b c p h = record {
  long = omega (arith, h.long, length-append b c);
  magic = number_at-append 0 4 b c (omega (arith, h.long)) ∙ h.magic;
  never = λ e. h.never (subst (IsRead l) (number_at-append 4 4 b c (omega (arith, h.long))) e);
  there = h.there;
}

version_holds : (l : Limits) (b c : List ℕ) (p : ℕ) → p ≤ length b → IsBadVersion l (b ++ c) p → IsBadVersion l b p
version_holds l b c p le h = record {
  long = omega (arith, le, h.there);
  magic = sym (number_at-append 0 4 b c (omega (arith, le, h.there))) ∙ h.magic;
  never = λ e. h.never (subst (IsRead l) (sym (number_at-append 4 4 b c (omega (arith, le, h.there)))) e);
  there = h.there;
}

plain_stays : (l : Limits) (b c : List ℕ) (p : ℕ) → IsPlain l b p → IsPlain l (b ++ c) p
plain_stays l b c p h = record {
  pages = h.pages;
  shapes = h.shapes;
  more = h.more ++ c;
  says = says_on l b c h.pages (length h.shapes) h.says;
  may = h.may;
  sound = h.sound;
  whole = drop-append-le 16 b c h.says.long ∙ ap (λ (x : List ℕ). x ++ c) h.whole ∙ append_assoc (spelled_shapes h.shapes) h.more c;
  late = number_at-append 4 4 b c (omega (arith, h.says.long)) ∙ h.late;
  never = h.never;
  there = h.there;
}

plain_holds : (l : Limits) (b c : List ℕ) (p : ℕ) → p ≤ length b → IsPlain l (b ++ c) p → IsPlain l b p
plain_holds l b c p le h =
    let long : 16 ≤ length b = omega (arith, le, h.there) in
    let d = behind (drop 16 b) c (spelled_shapes h.shapes) h.more (sym (drop-append-le 16 b c long) ∙ h.whole) (omega (arith, le, h.there, length-drop 16 b)) in
    record {
      pages = h.pages;
      shapes = h.shapes;
      more = d.w;
      says = says_at l b c h.pages (length h.shapes) long h.says;
      may = h.may;
      sound = h.sound;
      whole = d.left;
      late = sym (number_at-append 4 4 b c (omega (arith, long))) ∙ h.late;
      never = h.never;
      there = h.there;
    }

shape_stays : (l : Limits) (b c : List ℕ) (p : ℕ) → IsBadShape l b p → IsBadShape l (b ++ c) p
shape_stays l b c p h =
    let same = ap (λ (v : ℕ). limits_in v l) (sym (number_at-append 4 4 b c (omega (arith, h.says.long)))) in
    record {
      pages = h.pages;
      count = h.count;
      shapes = h.shapes;
      bad = h.bad;
      more = h.more ++ c;
      says = says_on l b c h.pages h.count h.says;
      may = h.may;
      fewer = h.fewer;
      sound = subst (λ (x : Limits). All (IsShapeFor x) h.shapes) same h.sound;
      whole = drop-append-le 16 b c h.says.long ∙ ap (λ (x : List ℕ). x ++ c) h.whole ∙ append_assoc (spelled_shapes h.shapes) (h.bad ++ h.more) c ∙ ap (λ (x : List ℕ). spelled_shapes h.shapes ++ x) (append_assoc h.bad h.more c);
      never = subst (λ (x : Limits). IsNoShape x h.bad) same h.never;
      there = h.there;
    }

shape_holds : (l : Limits) (b c : List ℕ) (p : ℕ) → p ≤ length b → IsBadShape l (b ++ c) p → IsBadShape l b p
shape_holds l b c p le h =
    let long : 16 ≤ length b = omega (arith, le, h.there) in
    let d = behind (drop 16 b) c (spelled_shapes h.shapes ++ h.bad) h.more (sym (drop-append-le 16 b c long) ∙ h.whole ∙ sym (append_assoc (spelled_shapes h.shapes) h.bad h.more)) (omega (arith, le, h.there, length-drop 16 b, length-append (spelled_shapes h.shapes) h.bad)) in
    let same = ap (λ (v : ℕ). limits_in v l) (number_at-append 4 4 b c (omega (arith, long))) in
    record {
      pages = h.pages;
      count = h.count;
      shapes = h.shapes;
      bad = h.bad;
      more = d.w;
      says = says_at l b c h.pages h.count long h.says;
      may = h.may;
      fewer = h.fewer;
      sound = subst (λ (x : Limits). All (IsShapeFor x) h.shapes) same h.sound;
      whole = d.left ∙ append_assoc (spelled_shapes h.shapes) h.bad d.w;
      never = subst (λ (x : Limits). IsNoShape x h.bad) same h.never;
      there = h.there;
    }

pub header_stays : (ram : RamTerms) (sizes b c : List ℕ) (k : RecvError) (p : ℕ) → IsHeaderFault ram sizes b k p → IsHeaderFault ram sizes (b ++ c) k p
header_stays ram sizes b c errors.BadMagic p h = record { long = omega (arith, h.long, length-append b c); never = λ e. h.never (sym (number_at-append 0 4 b c (omega (arith, h.long))) ∙ e); there = h.there }
header_stays ram sizes b c errors.BadVersion p (inl h) = inl (version_stays ram.limits b c p h)
header_stays ram sizes b c errors.BadVersion p (inr h) = inr (plain_stays ram.limits b c p h)
header_stays ram sizes b c errors.BadShape p (inl h) = inl (record { pages = h.pages; count = h.count; says = says_on ram.limits b c h.pages h.count h.says; never = h.never; there = h.there })
header_stays ram sizes b c errors.BadShape p (inr h) = inr (shape_stays ram.limits b c p h)
header_stays ram sizes b c errors.ShapeMismatch p h = record { opening = h.opening; more = h.more ++ c; begins = record { good = h.begins.good; whole = ap (λ (x : List ℕ). x ++ c) h.begins.whole ∙ append_assoc (told.header h.opening) h.more c }; never = h.never; within = h.within; there = h.there }
header_stays ram sizes b c _ p h = absurd h

header_holds : (ram : RamTerms) (sizes b c : List ℕ) (k : RecvError) (p : ℕ) → p ≤ length b → IsHeaderFault ram sizes (b ++ c) k p → IsHeaderFault ram sizes b k p
header_holds ram sizes b c errors.BadMagic p le h = record { long = omega (arith, le, h.there); never = λ e. h.never (number_at-append 0 4 b c (omega (arith, le, h.there)) ∙ e); there = h.there }
header_holds ram sizes b c errors.BadVersion p le (inl h) = inl (version_holds ram.limits b c p le h)
header_holds ram sizes b c errors.BadVersion p le (inr h) = inr (plain_holds ram.limits b c p le h)
header_holds ram sizes b c errors.BadShape p le (inl h) = inl (record { pages = h.pages; count = h.count; says = says_at ram.limits b c h.pages h.count (omega (arith, le, h.there)) h.says; never = h.never; there = h.there })
header_holds ram sizes b c errors.BadShape p le (inr h) = inr (shape_holds ram.limits b c p le h)
header_holds ram sizes b c errors.ShapeMismatch p le h =
    let d = behind b c (told.header h.opening) h.more h.begins.whole (omega (arith, le, h.there)) in
    record { opening = h.opening; more = d.w; begins = record { good = h.begins.good; whole = d.left }; within = h.within; never = h.never; there = h.there }
header_holds ram sizes b c _ p le h = absurd h

record_stays : (ram : RamTerms) (sizes b c : List ℕ) (k : RecvError) (at : ℕ) → IsRecordFault ram sizes b k at → IsRecordFault ram sizes (b ++ c) k at
record_stays ram sizes b c k at h = record {
  opening = h.opening;
  before = h.before;
  tail = h.tail ++ c;
  place = h.place;
  front = record {
    begins = record {
      good = h.front.begins.good;
      whole = ap (λ (x : List ℕ). x ++ c) h.front.begins.whole ∙ append_assoc (opened_header h.opening) (texts h.before ++ h.tail) c ∙ ap (λ (x : List ℕ). opened_header h.opening ++ x) (append_assoc (texts h.before) h.tail c);
    };
    based = h.front.based;
    fits = h.front.fits;
    suits = h.front.suits;
    within = h.front.within;
    good = h.front.good;
  };
  fault = stays_here h.opening h.before h.tail c k h.place h.fault;
  there = h.there;
}

record_holds : (ram : RamTerms) (sizes b c : List ℕ) (k : RecvError) (at : ℕ) → at ≤ length b → IsRecordFault ram sizes (b ++ c) k at → IsRecordFault ram sizes b k at
record_holds ram sizes b c k at le h =
    let front = opened_header h.opening ++ texts h.before in
    let d = behind b c front h.tail (h.front.begins.whole ∙ sym (append_assoc (opened_header h.opening) (texts h.before) h.tail)) (omega (arith, le, h.there)) in
    let fault : IsFault h.opening h.before (d.w ++ c) k h.place = rw d.right at h.fault in
    record {
      opening = h.opening;
      before = h.before;
      tail = d.w;
      place = h.place;
      front = record { begins = record { good = h.front.begins.good; whole = d.left ∙ append_assoc (opened_header h.opening) (texts h.before) d.w }; based = h.front.based; fits = h.front.fits; suits = h.front.suits; within = h.front.within; good = h.front.good };
      fault = holds_here h.opening h.before d.w c k h.place (omega (arith, le, h.there, ap length d.left, length-append front d.w)) fault;
      there = h.there;
    }

pub stays : (ram : RamTerms) (sizes b c : List ℕ) (k : RecvError) (at : ℕ) → Fault ram sizes b k at → Fault ram sizes (b ++ c) k at
stays ram sizes b c k at (inl h) = inl (header_stays ram sizes b c k at h)
stays ram sizes b c k at (inr h) = inr (record_stays ram sizes b c k at h)

pub holds : (ram : RamTerms) (sizes b c : List ℕ) (k : RecvError) (at : ℕ) → at ≤ length b → Fault ram sizes (b ++ c) k at → Fault ram sizes b k at
holds ram sizes b c k at le (inl h) = inl (header_holds ram sizes b c k at le h)
holds ram sizes b c k at le (inr h) = inr (record_holds ram sizes b c k at le h)
