-- Headers as far as they came, and their faults.
use Rattle.std.proofs.Common.{◌≡◌, ◌≢◌, ◌&&◌, Bool, true, false, cond, eqb, ℕ, zero, suc, ◌+◌, ◌<◌, ◌≤◌, ◌⊎◌, inl, inr, List, [], ◌∷◌, ◌++◌, length, take, drop, Option, Some, None, refl, sym, ap, subst, ◌∙◌, append_assoc, append-nil, arith}
use Rattle.std.specs.Prelude.{All}
use Rattle.std.specs.List.{AllByRecursion, list_any}
use Rattle.std.proofs.lemmas.List.{take-append-drop, length-append, length-take, drop_at}
use Rattle.std.proofs.lemmas.List.Elements.{All-from_recursion, All-push, recursion_from_All}
use Rattle.guestmem.specs.Number.{IsBytes, number_at}
use Rattle.machine.specs.Limits.{AreWithin, IsShapeWithin, greatest, usual}
use Rattle.machine.specs.Sound.{IsSoundShape}
use Rattle.machine.specs.declared.limits.Limits.{Limits}
use Rattle.machine.specs.declared.shape.Shape.{Shape}
use Rattle.wire.specs.Header.{allow_late, front, is_late, spelled_shape, spelled_shapes, Begins, Opening, IsVersion, shape_length}
use Rattle.machine.specs.declared.shape.Shape.TheVariants.{Net, LongNet, Block, Outside, Console, Entropy}
use Rattle.wire.specs.Numbers.{digits, flag}
use Rattle.wire.specs.HeaderFaults.{IsBeyond, IsShapeFor, IsUnknown, MayCount, IsBadMagic, IsBadVersion, IsRead, Says, IsBadCount, IsNoShape, IsBadShape, IsPlain, IsHeaderPart, OnFault, ShowsFault, limits_in}
use Rattle.wire.specs.HeaderParts.{ShapeWaits, BadFirst, FewShapes, ShapesWait, ShapesBad, ShapesRead, OnBad}
use Rattle.wire.specs.ShapeReading.{shape_of}
use Rattle.wire.specs.declared.header_error.HeaderError.{HeaderError}
use Rattle.wire.specs.declared.header_error.HeaderError.TheVariants as errors
use Rattle.wire.proofs.Choices.{same_found}
use Rattle.wire.proofs.HeaderLemmas.{HeadSays, IsKnown, known_within, head_says, head_spelled, head_written, length_shape, no_shape, shape_of-spelled}
use Rattle.wire.proofs.PartLengths.{length-front}
use Rattle.wire.proofs.Spelling.{head_same, split_same}
use Rattle.wire.proofs.Versions.{any_late, for_each_version, for_its_version, late_is_third}

-- One list of shapes is the beginning of the other.

pub record LongerShapes (ss ts : List Shape) (x y : List ℕ) : Type 0 where
  pub more : List Shape
  pub all : ts ≡ ss ++ more
  pub left : x ≡ spelled_shapes more ++ y

one_longer : {s t : Shape} {ss ts : List Shape} → s ≡ t → ss ≡ ts → s ∷ ss ≡ t ∷ ts
one_longer p q = rw (p, q) refl

longer_shapes : (s t : Shape) (ss ts : List Shape) (x y : List ℕ) → s ≡ t → LongerShapes ss ts x y → LongerShapes (s ∷ ss) (t ∷ ts) x y
longer_shapes s t ss ts x y e l = record { more = l.more; all = one_longer (sym e) l.all; left = l.left }

first_two : (s t : Shape) (x y : List ℕ) → (◌≡◌ {A = Option (Shape × List ℕ)} (Some (s, x)) (Some (t, y))) → (s ≡ t) × (x ≡ y)
first_two s t x y e =
    let same = same_found (s, x) (t, y) e in
    (ap (λ (p : Shape × List ℕ). p.0) same, ap (λ (p : Shape × List ℕ). p.1) same)

pub one_shape : (s t : Shape) (x y : List ℕ) → IsSoundShape s → IsSoundShape t → spelled_shape s ++ x ≡ spelled_shape t ++ y → (s ≡ t) × (x ≡ y)
one_shape s t x y h k e = first_two s t x y (sym (shape_of-spelled s x h) ∙ ap shape_of e ∙ shape_of-spelled t y k)

shapes_by : (s t : Shape) (ss ts : List Shape) (x y : List ℕ) → s ≡ t → LongerShapes ss ts x y ⊎ LongerShapes ts ss y x → LongerShapes (s ∷ ss) (t ∷ ts) x y ⊎ LongerShapes (t ∷ ts) (s ∷ ss) y x
shapes_by s t ss ts x y e (inl l) = inl (longer_shapes s t ss ts x y e l)
shapes_by s t ss ts x y e (inr l) = inr (longer_shapes t s ts ss y x (sym e) l)

shapes_led_by : (ss ts : List Shape) (x y : List ℕ) → AllByRecursion IsSoundShape ss → AllByRecursion IsSoundShape ts → spelled_shapes ss ++ x ≡ spelled_shapes ts ++ y → LongerShapes ss ts x y ⊎ LongerShapes ts ss y x
shapes_led_by [] ts x y h k e = inl (record { more = ts; all = refl; left = e })
shapes_led_by (s ∷ ss) [] x y h k e = inr (record { more = s ∷ ss; all = refl; left = sym e })
shapes_led_by (s ∷ ss) (t ∷ ts) x y h k e =
    let o = one_shape s t (spelled_shapes ss ++ x) (spelled_shapes ts ++ y) h.0 k.0 (sym (append_assoc (spelled_shape s) (spelled_shapes ss) x) ∙ e ∙ append_assoc (spelled_shape t) (spelled_shapes ts) y) in
    shapes_by s t ss ts x y o.0 (shapes_led_by ss ts x y h.1 k.1 o.1)

pub shapes_led : (ss ts : List Shape) (x y : List ℕ) → All IsSoundShape ss → All IsSoundShape ts → spelled_shapes ss ++ x ≡ spelled_shapes ts ++ y → LongerShapes ss ts x y ⊎ LongerShapes ts ss y x
shapes_led ss ts x y h k e = shapes_led_by ss ts x y (recursion_from_All IsSoundShape ss h) (recursion_from_All IsSoundShape ts k) e

-- What is behind some sound shapes is sound too.
sound_after : (P : Shape → Type 0) (ss more : List Shape) → AllByRecursion P (ss ++ more) → AllByRecursion P more
sound_after P [] more h = h
sound_after P (s ∷ ss) more h = sound_after P ss more h.1

pub sound_behind : (P : Shape → Type 0) (ss more ts : List Shape) → ts ≡ ss ++ more → All P ts → AllByRecursion P more
sound_behind P ss more ts e h = sound_after P ss more (recursion_from_All P (ss ++ more) (rw e at h))

-- Shapes within limits are sound, and those of a header within limits are within them.
pub are_sound : (l : Limits) (ss : List Shape) → All (IsShapeFor l) ss → All IsSoundShape ss
are_sound l ss h k d below = (h k d below).sound

pub are_for : (l : Limits) (bytes : List ℕ) (opening : Opening) (rest : List ℕ) → AreWithin l opening.pages opening.shapes → Begins bytes opening rest → All (IsShapeFor l) opening.shapes
are_for l bytes opening rest w b k d below = record { sound = b.good.sound k d below; within = w.few_sectors k d below }

-- They are within what the limits allow in its version too, and its version is read.
in_version : {bytes : List ℕ} {opening : Opening} {rest : List ℕ} (l : Limits) → AreWithin l opening.pages opening.shapes → Begins bytes opening rest → All (IsShapeFor (limits_in opening.version l)) opening.shapes
in_version {bytes} {opening} {rest} l w b =
    All-from_recursion (IsShapeFor (limits_in opening.version l)) opening.shapes
    (for_its_version l opening.version opening.shapes b.good.has.1 (recursion_from_All (IsShapeFor l) opening.shapes (are_for l bytes opening rest w b)))

read_of : {bytes : List ℕ} {opening : Opening} {rest : List ℕ} (l : Limits) → AreWithin l opening.pages opening.shapes → Begins bytes opening rest → IsRead l opening.version
read_of {bytes} {opening} {rest} l w b = record {
  known = b.good.known;
  late = λ third. any_late l opening.shapes (recursion_from_All (IsShapeFor l) opening.shapes (are_for l bytes opening rest w b)) (b.good.has.0 (omega (arith, third, b.good.known.most)));
}

-- No wrong shape is spelled.

unknown_spelled : (limits : Limits) (s : Shape) (bad x y : List ℕ) → IsShapeFor limits s → IsUnknown limits bad → bad ++ x ≡ spelled_shape s ++ y → ⊥
unknown_spelled limits s bad x y good n e =
    let l = length_shape limits s good.sound (known_within limits s good.sound good.within) in
    let first : n.number ≡ l.number = head_same (ap (λ (z : List ℕ). z ++ x) (sym n.is) ∙ e ∙ ap (λ (z : List ℕ). z ++ y) l.is) in
    let no : (◌≡◌ {A = Option ℕ} None (Some (suc (length l.others)))) = sym n.never ∙ ap (shape_length limits) first ∙ l.long in cc

beyond_spelled : (limits : Limits) (s : Shape) (bad x y : List ℕ) → IsShapeFor limits s → IsBeyond limits bad → bad ++ x ≡ spelled_shape s ++ y → ⊥
beyond_spelled limits s bad x y good n e =
    let l = length_shape limits s good.sound (known_within limits s good.sound good.within) in
    let first : n.number ≡ l.number = head_same (ap (λ (z : List ℕ). z ++ x) (sym n.is) ∙ e ∙ ap (λ (z : List ℕ). z ++ y) l.is) in
    let long : (◌≡◌ {A = Option ℕ} (Some (length bad)) (Some (suc (length l.others)))) = sym n.long ∙ ap (shape_length limits) first ∙ l.long in
    let size : length bad ≡ length (spelled_shape s) = same_found (length bad) (suc (length l.others)) long ∙ sym (ap length l.is) in
    n.never s good (split_same bad (spelled_shape s) x y size e).0

pub no_bad_spelled : (l : Limits) (s : Shape) (bad x y : List ℕ) → IsShapeFor l s → IsNoShape l bad → ¬ (bad ++ x ≡ spelled_shape s ++ y)
no_bad_spelled l s bad x y good (inl n) e = unknown_spelled l s bad x y good n e
no_bad_spelled l s bad x y good (inr n) e = beyond_spelled l s bad x y good n e

-- Two wrong shapes at the front are of one length.
lengths_known : (l : Limits) (m n a b : ℕ) → m ≡ n → shape_length l m ≡ Some a → shape_length l n ≡ Some b → a ≡ b
lengths_known l m n a b same e f = same_found a b (sym e ∙ ap (shape_length l) same ∙ f)

none_known : (l : Limits) (m n a : ℕ) → m ≡ n → shape_length l m ≡ None → shape_length l n ≡ Some a → ⊥
none_known l m n a same e f = let no : (◌≡◌ {A = Option ℕ} None (Some a)) = sym e ∙ ap (shape_length l) same ∙ f in cc

unknown_beyond : (l : Limits) (bad other x y : List ℕ) → IsUnknown l bad → IsBeyond l other → bad ++ x ≡ other ++ y → ⊥
unknown_beyond l bad other x y n m e = none_known l n.number m.number (length other) (head_same (ap (λ (z : List ℕ). z ++ x) (sym n.is) ∙ e ∙ ap (λ (z : List ℕ). z ++ y) m.is)) n.never m.long

pub bad_lengths : (l : Limits) (bad other x y : List ℕ) → IsNoShape l bad → IsNoShape l other → bad ++ x ≡ other ++ y → length bad ≡ length other
bad_lengths l bad other x y (inl n) (inl m) e = ap length n.is ∙ sym (ap length m.is)
bad_lengths l bad other x y (inl n) (inr m) e = absurd (unknown_beyond l bad other x y n m e)
bad_lengths l bad other x y (inr n) (inl m) e = absurd (unknown_beyond l other bad y x m n (sym e))
bad_lengths l bad other x y (inr n) (inr m) e = lengths_known l n.number m.number (length bad) (length other) (head_same (ap (λ (z : List ℕ). z ++ x) (sym n.is) ∙ e ∙ ap (λ (z : List ℕ). z ++ y) m.is)) n.long m.long

-- One shape.

bad_first_byte : (l : Limits) (bad rest bytes others : List ℕ) (number : ℕ) → bytes ≡ number ∷ others → bytes ≡ bad ++ rest → (n : IsUnknown l bad) → n.number ≡ number
bad_first_byte l bad rest bytes others number is e n = sym (head_same (sym is ∙ e ∙ ap (λ (z : List ℕ). z ++ rest) n.is))

no_bad_yet : (l : Limits) (bad rest bytes others : List ℕ) (number len : ℕ) → bytes ≡ number ∷ others → shape_length l number ≡ Some len → length bytes < len → IsNoShape l bad → ¬ (bytes ≡ bad ++ rest)
no_bad_yet l bad rest bytes others number len is long short (inl n) e = none_known l n.number number len (bad_first_byte l bad rest bytes others number is e n) n.never long
no_bad_yet l bad rest bytes others number len is long short (inr n) e =
    let first : n.number ≡ number = sym (head_same (sym is ∙ e ∙ ap (λ (z : List ℕ). z ++ rest) n.is)) in
    omega (arith, short, ap length e, length-append bad rest, lengths_known l n.number number (length bad) len first n.long long)

pub shape_cut : (l : Limits) (bytes others : List ℕ) (number len : ℕ) → shape_of bytes ≡ None → bytes ≡ number ∷ others → shape_length l number ≡ Some len → length bytes < len → ShapeWaits l bytes
shape_cut l bytes others number len none is long short = record {
  no_shape = no_shape bytes none;
  no_bad = λ bad rest n. no_bad_yet l bad rest bytes others number len is long short n;
}

bad_none : (l : Limits) (bad rest bytes : List ℕ) → IsNoShape l bad → length bytes ≡ 0 → ¬ (bytes ≡ bad ++ rest)
bad_none l bad rest bytes (inl n) none e = omega (arith, none, ap length e, length-append bad rest, ap length n.is)
bad_none l bad rest bytes (inr n) none e = omega (arith, none, ap length e, length-append bad rest, ap length n.is)

pub no_shape_yet : (l : Limits) (bytes : List ℕ) → shape_of bytes ≡ None → length bytes ≡ 0 → ShapeWaits l bytes
no_shape_yet l bytes is none = record { no_shape = no_shape bytes is; no_bad = λ bad rest n e. bad_none l bad rest bytes n none e }

pub unknown_shape : (l : Limits) (number : ℕ) (bytes rest : List ℕ) → bytes ≡ number ∷ rest → shape_length l number ≡ None → BadFirst l bytes
unknown_shape l number bytes rest e never = record { bad = number ∷ []; more = rest; whole = e; never = inl (record { number = number; is = refl; never = never }) }

first_kept : (bytes others : List ℕ) (number len : ℕ) → bytes ≡ number ∷ others → 0 < len → (tail : List ℕ) × (take len bytes ≡ number ∷ tail)
first_kept bytes others number zero is some = absurd (omega (arith, some))
first_kept bytes others number (suc len) is some = (take len others, ap (take (suc len)) is)

-- Every shape has some bytes.
has_some : (b : Bool) (n : ℕ) (other : Option ℕ) → 0 < n → ((len : ℕ) → other ≡ Some len → 0 < len) → (len : ℕ) → cond b (Some n) other ≡ Some len → 0 < len
has_some true n other some others len e = let same : n ≡ len = same_found n len e in omega (arith, some, same)
has_some false n other some others len e = others len e

pub some_length : (l : Limits) (number len : ℕ) → shape_length l number ≡ Some len → 0 < len
some_length l number len e =
    has_some (eqb number 1) 7 _ (omega arith) (has_some (eqb number 2) 30 _ (omega arith)
    (has_some (eqb number 3) 1 _ (omega arith) (has_some (eqb number 4) 1 _ (omega arith) (has_some (eqb number 129 && allow_late l) 9 _ (omega arith) (has_some (eqb number 130 && allow_late l) 30 None (omega arith) (λ n none. absurd cc)))))) len e

-- No shape has more than 30.
few_by : (b : Bool) (n : ℕ) (other : Option ℕ) → n ≤ 30 → ((len : ℕ) → other ≡ Some len → len ≤ 30) → (len : ℕ) → cond b (Some n) other ≡ Some len → len ≤ 30
few_by true n other few others len e = let same : n ≡ len = same_found n len e in omega (arith, few, same)
few_by false n other few others len e = others len e

pub few_length : (l : Limits) (number len : ℕ) → shape_length l number ≡ Some len → len ≤ 30
few_length l number len e =
    few_by (eqb number 1) 7 _ (omega arith) (few_by (eqb number 2) 30 _ (omega arith)
    (few_by (eqb number 3) 1 _ (omega arith) (few_by (eqb number 4) 1 _ (omega arith) (few_by (eqb number 129 && allow_late l) 9 _ (omega arith) (few_by (eqb number 130 && allow_late l) 30 None (omega arith) (λ n none. absurd cc)))))) len e

known_greatest : (s : Shape) → IsKnown greatest s
unfolding allow_late
known_greatest (Net mac) = tt
known_greatest (LongNet mac longest) = refl
known_greatest (Block sectors read_only id) = tt
known_greatest (Outside sectors read_only id) = refl
known_greatest Console = tt
known_greatest Entropy = tt

pub few_spelled : (bytes rest : List ℕ) (s : Shape) → IsSoundShape s → bytes ≡ spelled_shape s ++ rest → length bytes ≤ length rest + 30
few_spelled bytes rest s good e =
    let l = length_shape greatest s good (known_greatest s) in
    omega (arith, few_length greatest l.number (suc (length l.others)) l.long, ap length e, length-append (spelled_shape s) rest, ap length l.is)

pub beyond_shape : (l : Limits) (number len : ℕ) (bytes others : List ℕ) → shape_of bytes ≡ None → bytes ≡ number ∷ others → shape_length l number ≡ Some len → 0 < len → len ≤ length bytes → BadFirst l bytes
beyond_shape l number len bytes others none is long some le =
    let kept = first_kept bytes others number len is some in
    let size : length (take len bytes) ≡ len = omega (arith, le, length-take len bytes) in
    let whole : bytes ≡ take len bytes ++ drop len bytes = sym (take-append-drop len bytes) in
    record {
      bad = take len bytes;
      more = drop len bytes;
      whole = whole;
      never = inr (record {
        number = number;
        others = kept.0;
        is = kept.1;
        long = rw size long;
        never = λ s good e. no_shape bytes none s (drop len bytes) good.sound (whole ∙ ap (λ (z : List ℕ). z ++ drop len bytes) e);
      });
    }

-- A sound shape that the limits do not allow.
over_known : (l : Limits) (bytes rest : List ℕ) (s : Shape) → IsSoundShape s → bytes ≡ spelled_shape s ++ rest → ¬ (IsShapeWithin l s) → IsKnown l s → BadFirst l bytes
over_known l bytes rest s good whole out known =
    let h = length_shape l s good known in
    record {
      bad = spelled_shape s;
      more = rest;
      whole = whole;
      never = inr (record {
        number = h.number;
        others = h.others;
        is = h.is;
        long = subst (λ (z : List ℕ). shape_length l h.number ≡ Some (length z)) (sym h.is) h.long;
        never = λ t allowed same. out (subst (IsShapeWithin l) (sym (one_shape s t [] [] good allowed.sound (ap (λ (z : List ℕ). z ++ []) same)).0) allowed.within);
      });
    }

over_long : (l : Limits) (bytes rest mac : List ℕ) (longest : ℕ) (late : Bool) → allow_late l ≡ late → IsSoundShape (LongNet mac longest) → bytes ≡ spelled_shape (LongNet mac longest) ++ rest → ¬ (IsShapeWithin l (LongNet mac longest)) → BadFirst l bytes
unfolding spelled_shape
over_long l bytes rest mac longest true e good whole out = over_known l bytes rest (LongNet mac longest) good whole out e
over_long l bytes rest mac longest false e good whole out = unknown_shape l 129 bytes ((mac ++ digits 2 longest) ++ rest) whole (rw e refl)

over_outside : (l : Limits) (bytes rest : List ℕ) (sectors : ℕ) (read_only : Bool) (id : List ℕ) (late : Bool) → allow_late l ≡ late → IsSoundShape (Outside sectors read_only id) → bytes ≡ spelled_shape (Outside sectors read_only id) ++ rest
    → ¬ (IsShapeWithin l (Outside sectors read_only id)) → BadFirst l bytes
unfolding spelled_shape
over_outside l bytes rest sectors read_only id true e good whole out = over_known l bytes rest (Outside sectors read_only id) good whole out e
over_outside l bytes rest sectors read_only id false e good whole out = unknown_shape l 130 bytes ((digits 8 sectors ++ (flag read_only ∷ id)) ++ rest) whole (rw e refl)

pub over_shape : (l : Limits) (bytes rest : List ℕ) (s : Shape) → IsSoundShape s → bytes ≡ spelled_shape s ++ rest → ¬ (IsShapeWithin l s) → BadFirst l bytes
over_shape l bytes rest (Net mac) good whole out = over_known l bytes rest (Net mac) good whole out tt
over_shape l bytes rest (LongNet mac longest) good whole out = over_long l bytes rest mac longest (allow_late l) refl good whole out
over_shape l bytes rest (Block sectors read_only id) good whole out = over_known l bytes rest (Block sectors read_only id) good whole out tt
over_shape l bytes rest (Outside sectors read_only id) good whole out = over_outside l bytes rest sectors read_only id (allow_late l) refl good whole out
over_shape l bytes rest Console good whole out = over_known l bytes rest Console good whole out tt
over_shape l bytes rest Entropy good whole out = over_known l bytes rest Entropy good whole out tt

-- So many shapes.

none_sound : (l : Limits) → All (IsShapeFor l) []
none_sound l k d below = absurd (omega (arith, below))

pub no_shapes : (l : Limits) (bytes : List ℕ) (ss : List Shape) → ss ≡ [] → ShapesRead l 0 bytes ss bytes
no_shapes l bytes ss e = rw e (record { count_is = refl; sound = none_sound l; whole = refl })

pub spelled-snoc : (ss : List Shape) (s : Shape) → spelled_shapes (ss ++ s ∷ []) ≡ spelled_shapes ss ++ spelled_shape s
spelled-snoc [] s = append-nil (spelled_shape s)
spelled-snoc (t ∷ ss) s = ap (λ (x : List ℕ). spelled_shape t ++ x) (spelled-snoc ss s) ∙ sym (append_assoc (spelled_shape t) (spelled_shapes ss) (spelled_shape s))

pub more_shapes : (l : Limits) (n : ℕ) (bytes rest after : List ℕ) (ss : List Shape) (s : Shape) → ShapesRead l n bytes ss rest → IsShapeFor l s × (rest ≡ spelled_shape s ++ after) → ShapesRead l (n + 1) bytes (ss ++ s ∷ []) after
more_shapes l n bytes rest after ss s h e = record {
  count_is = omega (arith, h.count_is, length-append ss (s ∷ []));
  sound = All-push (IsShapeFor l) ss s h.sound e.0;
  whole = h.whole ∙ ap (λ (x : List ℕ). spelled_shapes ss ++ x) e.1 ∙ sym (append_assoc (spelled_shapes ss) (spelled_shape s) after) ∙ ap (λ (x : List ℕ). x ++ after) (sym (spelled-snoc ss s));
}

pub few_shapes : (l : Limits) (n count : ℕ) (bytes rest : List ℕ) (ss : List Shape) → ShapesRead l n bytes ss rest → n < count → FewShapes l count bytes
few_shapes l n count bytes rest ss h lt = record { shapes = ss; rest = rest; fewer = omega (arith, h.count_is, lt); sound = h.sound; whole = h.whole }

pub shapes_wait : (l : Limits) (n count : ℕ) (bytes rest : List ℕ) (ss : List Shape) → ShapesRead l n bytes ss rest → n < count → ShapeWaits l rest → ShapesWait l count bytes
unfolding few_shapes
shapes_wait l n count bytes rest ss h lt w = record { few = few_shapes l n count bytes rest ss h lt; waits = w }

pub shapes_bad : (l : Limits) (n count : ℕ) (bytes rest : List ℕ) (ss : List Shape) → ShapesRead l n bytes ss rest → n < count → BadFirst l rest → ShapesBad l count bytes
unfolding few_shapes
shapes_bad l n count bytes rest ss h lt b = record { few = few_shapes l n count bytes rest ss h lt; bad = b }

-- The first 16 bytes.

grouped : {bytes : List ℕ} {opening : Opening} {rest : List ℕ} → Begins bytes opening rest → bytes ≡ front opening.version opening.pages (length opening.shapes) ++ (spelled_shapes opening.shapes ++ rest)
grouped {opening = opening} {rest = rest} b = b.whole ∙ append_assoc (front opening.version opening.pages (length opening.shapes)) (spelled_shapes opening.shapes) rest

pub says_of : {bytes : List ℕ} {opening : Opening} {rest : List ℕ} → Begins bytes opening rest → HeadSays bytes opening.version opening.pages (length opening.shapes)
says_of {opening = opening} {rest = rest} b =
    subst (λ (x : List ℕ). HeadSays x opening.version opening.pages (length opening.shapes)) (sym (grouped b ∙ ap (λ (x : List ℕ). x ++ (spelled_shapes opening.shapes ++ rest)) (head_spelled opening.version opening.pages (length opening.shapes))))
    (head_says opening.version opening.pages (length opening.shapes) (spelled_shapes opening.shapes ++ rest) b.good.known.most b.good.few_pages b.good.few_devices)

pub shapes_behind : {bytes : List ℕ} {opening : Opening} {rest : List ℕ} → Begins bytes opening rest → drop 16 bytes ≡ spelled_shapes opening.shapes ++ rest
shapes_behind {opening = opening} {rest = rest} b = ap (drop 16) (grouped b) ∙ drop_at (front opening.version opening.pages (length opening.shapes)) (spelled_shapes opening.shapes ++ rest) 16 (length-front opening.version opening.pages (length opening.shapes))

-- A version that has a device since version 3 is the third.
third : (l : Limits) (version count : ℕ) (bytes rest : List ℕ) (ss : List Shape) → IsVersion version → ShapesRead (limits_in version l) count bytes ss rest → list_any is_late ss ≡ true → version ≡ 3
third l version count bytes rest ss known read late =
    let least = late_is_third l version (any_late (limits_in version l) ss (recursion_from_All (IsShapeFor (limits_in version l)) ss read.sound) late) in
    omega (arith, known.most, least)

pub begins_so : (l : Limits) (bytes : List ℕ) (version pages count : ℕ) (ss : List Shape) (rest : List ℕ) → l.pages ≤ 4294967295 → IsBytes bytes → version ≡ number_at bytes 4 4 → Says l bytes pages count → MayCount l pages count
    → ShapesRead (limits_in version l) count (drop 16 bytes) ss rest → (version ≡ 3 → list_any is_late ss ≡ true) → Begins bytes (record { version = version; pages = pages; shapes = ss }) rest
begins_so l bytes version pages count ss rest most are is says may read late =
    let known : IsVersion version = subst IsVersion (sym is) says.known.known in
    let written = head_written bytes version pages count are (record { long = says.long; magic = says.magic; version_is = sym is; pages_are = says.pages_are; count_is = says.count_is }) in
    record {
      good = record {
        known = known;
        some_page = may.some_page;
        few_pages = omega (arith, may.few_pages, most);
        some_device = omega (arith, may.some_device, read.count_is);
        few_devices = omega (arith, may.few_devices, read.count_is);
        sound = are_sound (limits_in version l) ss read.sound;
        has = (late, λ is. third l version count (drop 16 bytes) rest ss known read is);
      };
      whole =
          written
          ∙ ap (λ (n : ℕ). front version pages n ++ drop 16 bytes) (sym read.count_is)
          ∙ ap (λ (x : List ℕ). front version pages (length ss) ++ x) read.whole
          ∙ sym (append_assoc (front version pages (length ss)) (spelled_shapes ss) rest);
    }

pub within_so : (l : Limits) (version pages count : ℕ) (bytes rest : List ℕ) (ss : List Shape) → MayCount l pages count → ShapesRead (limits_in version l) count bytes ss rest → AreWithin l pages ss
within_so l version pages count bytes rest ss may read = record { few_pages = may.few_pages; few_sectors = λ k d below. (for_each_version l version ss read.sound k d below).within }

pub not_both_ways : (b : Bool) → b ≡ true → b ≡ false → ⊥
not_both_ways b e f = let no : true ≡ false = sym e ∙ f in cc

-- A header that is not whole, with no fault.
no_fault_yet : (l : Limits) (bytes : List ℕ) → ((at : ℕ) → ¬ (IsBadMagic bytes at)) → ((at : ℕ) → ¬ (IsBadVersion l bytes at)) → ((at : ℕ) → ¬ (IsBadCount l bytes at)) → ((at : ℕ) → ¬ (IsBadShape l bytes at)) → ((at : ℕ) → ¬ (IsPlain l bytes at))
    → (k : HeaderError) (at : ℕ) → ¬ (ShowsFault l k bytes at)
no_fault_yet l bytes m v c s p errors.BadMagic at h = m at h
no_fault_yet l bytes m v c s p errors.BadVersion at (inl h) = v at h
no_fault_yet l bytes m v c s p errors.BadVersion at (inr h) = p at h
no_fault_yet l bytes m v c s p errors.BadShape at (inl h) = c at h
no_fault_yet l bytes m v c s p errors.BadShape at (inr h) = s at h
no_fault_yet l bytes m v c s p errors.NoMemory at h = h

pub head_short : (l : Limits) (bytes : List ℕ) → length bytes < 16 → ((at : ℕ) → ¬ (IsBadMagic bytes at)) → ((at : ℕ) → ¬ (IsBadVersion l bytes at)) → IsHeaderPart l bytes
head_short l bytes short m v =
    let none : (opening : Opening) (rest : List ℕ) → ¬ (Begins bytes opening rest) = λ opening rest b. omega (arith, short, (says_of b).long) in
    record { no_header = none; no_fault = no_fault_yet l bytes m v (λ at h. omega (arith, short, h.says.long)) (λ at h. omega (arith, short, h.says.long)) (λ at h. omega (arith, short, h.says.long)) }

-- What is behind fewer shapes than there are to be.

no_more : (l : Limits) (more : List Shape) (x y : List ℕ) → AllByRecursion IsSoundShape more → ShapeWaits l x → x ≡ spelled_shapes more ++ y → more ≡ []
no_more l [] x y good w e = refl
no_more l (s ∷ more) x y good w e = absurd (w.no_shape s (spelled_shapes more ++ y) good.0 (e ∙ append_assoc (spelled_shape s) (spelled_shapes more) y))

not_whole : (limits : Limits) (count : ℕ) (ss ts : List Shape) (x y : List ℕ) → All IsSoundShape ts → length ss < count → length ts ≡ count → ShapeWaits limits x → LongerShapes ss ts x y ⊎ LongerShapes ts ss y x → ⊥
not_whole limits count ss ts x y good lt e w (inl l) = omega (arith, lt, e, ap length l.all, length-append ss l.more, ap length (no_more limits l.more x y (sound_behind IsSoundShape ss l.more ts l.all good) w l.left))
not_whole limits count ss ts x y good lt e w (inr l) = omega (arith, lt, e, ap length l.all, length-append ts l.more)

bad_left : (l : Limits) (more : List Shape) (bad x y : List ℕ) → AllByRecursion (IsShapeFor l) more → IsNoShape l bad → ShapeWaits l x → bad ++ y ≡ spelled_shapes more ++ x → ⊥
bad_left l [] bad x y good n w e = w.no_bad bad y n (sym e)
bad_left l (s ∷ more) bad x y good n w e = no_bad_spelled l s bad y (spelled_shapes more ++ x) good.0 n (e ∙ append_assoc (spelled_shape s) (spelled_shapes more) x)

bad_right : (l : Limits) (more : List Shape) (bad x y : List ℕ) → AllByRecursion (IsShapeFor l) more → IsNoShape l bad → ShapeWaits l x → x ≡ spelled_shapes more ++ (bad ++ y) → ⊥
bad_right l [] bad x y good n w e = w.no_bad bad y n e
bad_right l (s ∷ more) bad x y good n w e = w.no_shape s (spelled_shapes more ++ (bad ++ y)) good.0.sound (e ∙ append_assoc (spelled_shape s) (spelled_shapes more) (bad ++ y))

not_bad : (limits : Limits) (ss ts : List Shape) (bad x y : List ℕ) → All (IsShapeFor limits) ss → All (IsShapeFor limits) ts → IsNoShape limits bad → ShapeWaits limits x → LongerShapes ss ts x (bad ++ y) ⊎ LongerShapes ts ss (bad ++ y) x → ⊥
not_bad limits ss ts bad x y h k n w (inl l) = bad_right limits l.more bad x y (sound_behind (IsShapeFor limits) ss l.more ts l.all k) n w l.left
not_bad limits ss ts bad x y h k n w (inr l) = bad_left limits l.more bad x y (sound_behind (IsShapeFor limits) ts l.more ss l.all h) n w l.left

pub head_part : (l : Limits) (bytes : List ℕ) (pages count : ℕ) → Says l bytes pages count → MayCount l pages count → ShapesWait (limits_in (number_at bytes 4 4) l) count (drop 16 bytes) → IsHeaderPart l bytes
head_part l bytes pages count says may s =
    let limits = limits_in (number_at bytes 4 4) l in
    let few = are_sound limits s.few.shapes s.few.sound in
    let none : (opening : Opening) (rest : List ℕ) → ¬ (Begins bytes opening rest) = λ opening rest b.
    not_whole limits count s.few.shapes opening.shapes s.few.rest rest b.good.sound s.few.fewer (sym (says_of b).count_is ∙ says.count_is) s.waits (shapes_led s.few.shapes opening.shapes s.few.rest rest few b.good.sound (sym s.few.whole ∙ shapes_behind b)) in
    record {
      no_header = none;
      no_fault = no_fault_yet l bytes (λ at h. h.never says.magic) (λ at h. h.never says.known)
          (λ at h. h.never (rw (sym h.says.pages_are ∙ says.pages_are, sym h.says.count_is ∙ says.count_is) may))
          (λ at h. not_bad limits s.few.shapes h.shapes h.bad s.few.rest h.more s.few.sound h.sound h.never s.waits (shapes_led s.few.shapes h.shapes s.few.rest (h.bad ++ h.more) few (are_sound limits h.shapes h.sound) (sym s.few.whole ∙ h.whole)))
          (λ at h. not_whole limits count s.few.shapes h.shapes s.few.rest h.more (are_sound l h.shapes h.sound) s.few.fewer (sym h.says.count_is ∙ says.count_is) s.waits (shapes_led s.few.shapes h.shapes s.few.rest h.more few (are_sound l h.shapes h.sound) (sym s.few.whole ∙ h.whole)));
    }

pub bad_count : (l : Limits) (bytes : List ℕ) (pages count : ℕ) → Says l bytes pages count → ¬ (MayCount l pages count) → (at : ℕ) × ShowsFault l errors.BadShape bytes at
bad_count l bytes pages count says never = (16, inl (record { pages = pages; count = count; says = says; never = never; there = refl }))

bad_shapes : (l : Limits) (bytes : List ℕ) (pages count : ℕ) → Says l bytes pages count → MayCount l pages count → ShapesBad (limits_in (number_at bytes 4 4) l) count (drop 16 bytes) → (at : ℕ) × ShowsFault l errors.BadShape bytes at
bad_shapes l bytes pages count says may s = (
  16 + (length (spelled_shapes s.few.shapes) + length s.bad.bad),
  inr (record {
    pages = pages;
    count = count;
    shapes = s.few.shapes;
    bad = s.bad.bad;
    more = s.bad.more;
    says = says;
    may = may;
    fewer = s.few.fewer;
    sound = s.few.sound;
    whole = s.few.whole ∙ ap (λ (x : List ℕ). spelled_shapes s.few.shapes ++ x) s.bad.whole;
    never = s.bad.never;
    there = refl;
  }),
)

pub told_shapes : (l : Limits) (bytes : List ℕ) (pages count : ℕ) (e : HeaderError) → Says l bytes pages count → MayCount l pages count → OnBad e (ShapesBad (limits_in (number_at bytes 4 4) l) count (drop 16 bytes)) → OnFault e ((at : ℕ) × ShowsFault l e bytes at)
told_shapes l bytes pages count errors.BadShape says may h = bad_shapes l bytes pages count says may h
told_shapes l bytes pages count errors.NoMemory says may h = tt
told_shapes l bytes pages count errors.BadMagic says may h = absurd h
told_shapes l bytes pages count errors.BadVersion says may h = absurd h

-- Version 3 without a device that only it has.
pub plain_third : (l : Limits) (bytes : List ℕ) (pages count : ℕ) (ss : List Shape) (rest : List ℕ) → Says l bytes pages count → MayCount l pages count → ShapesRead (limits_in (number_at bytes 4 4) l) count (drop 16 bytes) ss rest
    → number_at bytes 4 4 ≡ 3 → list_any is_late ss ≡ false → (at : ℕ) × ShowsFault l errors.BadVersion bytes at
plain_third l bytes pages count ss rest says may read late none = (
  16 + length (spelled_shapes ss),
  inr (record {
    pages = pages;
    shapes = ss;
    more = rest;
    says = subst (Says l bytes pages) (sym read.count_is) says;
    may = subst (MayCount l pages) (sym read.count_is) may;
    sound = for_each_version l (number_at bytes 4 4) ss read.sound;
    whole = read.whole;
    late = late;
    never = none;
    there = refl;
  }),
)

-- Behind a whole header no fault of one stands.

none_more : (ss ts more : List Shape) → length ss ≡ length ts → ts ≡ ss ++ more → ss ≡ ts
none_more ss ts [] e f = sym (f ∙ append-nil ss)
none_more ss ts (s ∷ more) e f = absurd (omega (arith, e, ap length f, length-append ss (s ∷ more)))

pub shapes_same : (ss ts : List Shape) (x y : List ℕ) → length ss ≡ length ts → LongerShapes ss ts x y ⊎ LongerShapes ts ss y x → ss ≡ ts
shapes_same ss ts x y e (inl l) = none_more ss ts l.more e l.all
shapes_same ss ts x y e (inr l) = sym (none_more ts ss l.more (sym e) l.all)

pub header_same : {bytes rest other : List ℕ} {o p : Opening} → Begins bytes o rest → Begins bytes p other → (o.shapes ≡ p.shapes)
header_same {bytes} {rest} {other} {o} {p} a b =
    let count : length p.shapes ≡ length o.shapes = sym (says_of b).count_is ∙ (says_of a).count_is in
    shapes_same o.shapes p.shapes rest other (sym count) (shapes_led o.shapes p.shapes rest other a.good.sound b.good.sound (sym (shapes_behind a) ∙ shapes_behind b))

bad_within : (l : Limits) (more : List Shape) (bad x y : List ℕ) → AllByRecursion (IsShapeFor l) more → IsNoShape l bad → 0 < length more → bad ++ y ≡ spelled_shapes more ++ x → ⊥
bad_within l [] bad x y good n some e = omega (arith, some)
bad_within l (s ∷ more) bad x y good n some e = no_bad_spelled l s bad y (spelled_shapes more ++ x) good.0 n (e ∙ append_assoc (spelled_shape s) (spelled_shapes more) x)

not_bad_whole : (limits : Limits) (ss ts : List Shape) (bad x y : List ℕ) → All (IsShapeFor limits) ss → IsNoShape limits bad → length ts < length ss → LongerShapes ss ts x (bad ++ y) ⊎ LongerShapes ts ss (bad ++ y) x → ⊥
not_bad_whole limits ss ts bad x y good n lt (inl l) = omega (arith, lt, ap length l.all, length-append ss l.more)
not_bad_whole limits ss ts bad x y good n lt (inr l) = bad_within limits l.more bad x y (sound_behind (IsShapeFor limits) ts l.more ss l.all good) n (omega (arith, lt, ap length l.all, length-append ts l.more)) l.left

-- A header of version 3 has a device that only it has.
plain_not_begun : (l : Limits) (bytes : List ℕ) (opening : Opening) (rest : List ℕ) (ss : List Shape) (more : List ℕ) → Begins bytes opening rest → number_at bytes 12 4 ≡ length ss → All IsSoundShape ss → drop 16 bytes ≡ spelled_shapes ss ++ more
    → number_at bytes 4 4 ≡ 3 → list_any is_late ss ≡ false → ⊥
plain_not_begun l bytes opening rest ss more b count sound whole late none =
    let says = says_of b in
    let same : opening.shapes ≡ ss = shapes_same opening.shapes ss rest more (sym says.count_is ∙ count) (shapes_led opening.shapes ss rest more b.good.sound sound (sym (shapes_behind b) ∙ whole)) in
    not_both_ways (list_any is_late opening.shapes) (b.good.has.0 (sym says.version_is ∙ late)) (ap (list_any is_late) same ∙ none)

-- Nor has it a wrong shape, where it is whole.
pub plain_not_bad : (l : Limits) (bytes : List ℕ) (p q : ℕ) → IsPlain l bytes p → IsBadShape l bytes q → ⊥
plain_not_bad l bytes p q f h =
    let limits = limits_in (number_at bytes 4 4) l in
    let within : All (IsShapeFor limits) f.shapes = All-from_recursion (IsShapeFor limits) f.shapes (for_its_version l (number_at bytes 4 4) f.shapes (λ late. f.late) (recursion_from_All (IsShapeFor l) f.shapes f.sound)) in
    not_bad_whole limits f.shapes h.shapes h.bad f.more h.more within h.never (omega (arith, h.fewer, sym h.says.count_is ∙ f.says.count_is)) (shapes_led f.shapes h.shapes f.more (h.bad ++ h.more) (are_sound l f.shapes f.sound) (are_sound limits h.shapes h.sound) (sym f.whole ∙ h.whole))

pub begun_without_fault : (l : Limits) (bytes : List ℕ) (opening : Opening) (rest : List ℕ) → AreWithin l opening.pages opening.shapes → Begins bytes opening rest → (k : HeaderError) (at : ℕ) → ¬ (ShowsFault l k bytes at)
begun_without_fault l bytes opening rest w b errors.BadMagic at h = h.never (says_of b).magic
begun_without_fault l bytes opening rest w b errors.BadVersion at (inl h) = h.never (subst (IsRead l) (sym (says_of b).version_is) (read_of l w b))
begun_without_fault l bytes opening rest w b errors.BadVersion at (inr h) = plain_not_begun l bytes opening rest h.shapes h.more b (h.says.count_is) (are_sound l h.shapes h.sound) h.whole h.late h.never
begun_without_fault l bytes opening rest w b errors.BadShape at (inl h) =
    let says = says_of b in
    h.never (rw (sym h.says.pages_are ∙ says.pages_are, sym h.says.count_is ∙ says.count_is) (record { some_page = b.good.some_page; few_pages = w.few_pages; some_device = b.good.some_device; few_devices = b.good.few_devices }))
begun_without_fault l bytes opening rest w b errors.BadShape at (inr h) =
    let says = says_of b in
    let limits = limits_in (number_at bytes 4 4) l in
    let within : All (IsShapeFor limits) opening.shapes = subst (λ (v : ℕ). All (IsShapeFor (limits_in v l)) opening.shapes) (sym says.version_is) (in_version l w b) in
    not_bad_whole limits opening.shapes h.shapes h.bad rest h.more within h.never (omega (arith, h.fewer, sym h.says.count_is ∙ says.count_is)) (shapes_led opening.shapes h.shapes rest (h.bad ++ h.more) b.good.sound (are_sound limits h.shapes h.sound) (sym (shapes_behind b) ∙ h.whole))
begun_without_fault l bytes opening rest w b errors.NoMemory at h = h

-- Where there is a fault no header within the limits stands.
none_by : (l : Limits) (bytes : List ℕ) (k : HeaderError) → k ≢ errors.NoMemory → OnFault k ((at : ℕ) × ShowsFault l k bytes at) → (opening : Opening) (rest : List ℕ) → AreWithin l opening.pages opening.shapes → ¬ (Begins bytes opening rest)
none_by l bytes errors.BadMagic some h opening rest w b = begun_without_fault l bytes opening rest w b errors.BadMagic h.0 h.1
none_by l bytes errors.BadVersion some h opening rest w b = begun_without_fault l bytes opening rest w b errors.BadVersion h.0 h.1
none_by l bytes errors.BadShape some h opening rest w b = begun_without_fault l bytes opening rest w b errors.BadShape h.0 h.1
none_by l bytes errors.NoMemory some h opening rest w b = some refl

-- What is read within the usual limits.
pub none_at_fault : (l : Limits) (bytes : List ℕ) (k : HeaderError) → l ≡ usual → k ≢ errors.NoMemory → OnFault k ((at : ℕ) × ShowsFault l k bytes at) → (opening : Opening) (rest : List ℕ) → AreWithin usual opening.pages opening.shapes → ¬ (Begins bytes opening rest)
none_at_fault l bytes k is some h = none_by usual bytes k some (subst (λ (x : Limits). OnFault k ((at : ℕ) × ShowsFault x k bytes at)) is h)

pub none_in_part : (l : Limits) (bytes : List ℕ) → IsHeaderPart l bytes → (opening : Opening) (rest : List ℕ) → AreWithin usual opening.pages opening.shapes → ¬ (Begins bytes opening rest)
none_in_part l bytes part opening rest within = part.no_header opening rest

pub same_limits : (l : Limits) (pages : ℕ) (shapes : List Shape) → l ≡ usual → AreWithin l pages shapes → AreWithin usual pages shapes
same_limits l pages shapes is within = subst (λ (x : Limits). AreWithin x pages shapes) is within

-- Bytes begin with one header.

opening_parts : (v w m n : ℕ) (ss ts : List Shape) → v ≡ w → m ≡ n → ss ≡ ts → ◌≡◌ {A = Opening} (record { version = v; pages = m; shapes = ss }) (record { version = w; pages = n; shapes = ts })
opening_parts v w m n ss ts e f g = rw (e, f, g) refl

pub begins_once : {bytes x y : List ℕ} {o p : Opening} → Begins bytes o x → Begins bytes p y → (o ≡ p) × (x ≡ y)
begins_once {bytes} {x} {y} {o} {p} a b =
    let shapes : o.shapes ≡ p.shapes = header_same a b in
    let behind_both : spelled_shapes o.shapes ++ x ≡ spelled_shapes p.shapes ++ y = sym (shapes_behind a) ∙ shapes_behind b in (
      opening_parts o.version p.version o.pages p.pages o.shapes p.shapes (sym (says_of a).version_is ∙ (says_of b).version_is) (sym (says_of a).pages_are ∙ (says_of b).pages_are) shapes,
      (split_same (spelled_shapes o.shapes) (spelled_shapes p.shapes) x y (ap (λ (s : List Shape). length (spelled_shapes s)) shapes) behind_both).1,
    )
