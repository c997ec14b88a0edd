-- Limits on what arrives.
use Rattle.std.proofs.Common.{◌≡◌, ◌≢◌, ℕ, ◌+◌, ◌-◌, ◌<◌, ◌≤◌, ◌&&◌, ◌==◌, nat_lt, Bool, true, false, List, [], ◌∷◌, ◌++◌, ◌⊎◌, drop, length, refl, sym, ap, ◌∙◌, arith, inl, inr, get_or}
use Prim.Native.Nat.{suc}
use Rattle.std.specs.Prelude.{None, Some}
use Rattle.std.proofs.lemmas.Bool.Decides.{nat_tests}
use Rattle.std.proofs.lemmas.List.{append-nil, append_assoc, drop_all, drop_more}
use Rattle.machine.specs.Shapes.{sector_count}
use Rattle.machine.specs.declared.shape.Shape.{Shape}
use Rattle.machine.specs.Limits.{AreWithin}
use Rattle.wire.specs.Header.{Begins, Opening}
use Rattle.receiver.specs.Faults.{ShowsHeaderFault, TellsHead}
use Rattle.receiver.specs.declared.recv_error.RecvError.{RecvError}
use Rattle.receiver.specs.declared.recv_error.RecvError.TheVariants.{NoMemory}
use Rattle.c_handle.specs.Admission.{IsAdmitted, IsFaultyHead, IsUnfit, are_expected, are_same_shapes, is_same_shape, stream_refusal}
use Rattle.c_handle.specs.Awaited.{stream_status}
use Rattle.c_machine.specs.Images.{sectors_in}
use Rattle.c_handle.specs.declared.admission.Allowed.{Allowed}
use Rattle.c_machine.proofs.Imaging.{eq_of}

-- Sectors are counted off what may come.
at_shape : (shapes : List Shape) (i : ℕ) (d : Shape) → i < length shapes → sectors_in (drop i shapes) ≡ sector_count (get_or shapes i d) + sectors_in (drop (i + 1) shapes)
at_shape shapes i d below = ap sectors_in (drop_more shapes i d below)

fewer : (a b : ℕ) → a < b → nat_lt a b ≡ true
fewer a b less = grind (arith, nat_tests)

pub too_many : (left s : ℕ) (shapes : List Shape) (i : ℕ) (d : Shape) (all : Bool) → i < length shapes → s ≡ sector_count (get_or shapes i d) → left < s
    → nat_lt left (sectors_in (drop i shapes)) ≡ all → true ≡ all
too_many left s shapes i d all below is less so_far =
    let rest = sectors_in (drop (i + 1) shapes) in
    let more : sectors_in (drop i shapes) ≡ sector_count (get_or shapes i d) + rest = at_shape shapes i d below in
    sym (fewer left (sectors_in (drop i shapes)) (omega (arith, more, is, less))) ∙ so_far

same_tests : (a b c d : ℕ) → (a < b → c < d) → (c < d → a < b) → nat_lt a b ≡ nat_lt c d
same_tests a b c d to from = grind (arith, nat_tests)

pub counted_off : (left s : ℕ) (shapes : List Shape) (i : ℕ) (d : Shape) (all : Bool) → i < length shapes → s ≡ sector_count (get_or shapes i d) → s ≤ left
    → nat_lt left (sectors_in (drop i shapes)) ≡ all → nat_lt (left - s) (sectors_in (drop (i + 1) shapes)) ≡ all
counted_off left s shapes i d all below is fits so_far =
    let rest = sectors_in (drop (i + 1) shapes) in
    let more : sectors_in (drop i shapes) ≡ sector_count (get_or shapes i d) + rest = at_shape shapes i d below in
    same_tests (left - s) rest left (sectors_in (drop i shapes)) (λ h. omega (arith, more, is, fits, h)) (λ h. omega (arith, more, is, fits, h)) ∙ so_far

-- What begins bytes begins longer ones.
pub begins_longer : (bytes more : List ℕ) (opening : Opening) (rest : List ℕ) → Begins bytes opening rest → Begins (bytes ++ more) opening (rest ++ more)
begins_longer bytes more opening rest begins = record {
  good = begins.good;
  whole = ap (λ (l : List ℕ). l ++ more) begins.whole ∙ append_assoc _ rest more;
}

-- What the first bytes show is so of all.
pub admitted : (allowed : Allowed) (expected : List Shape) (bytes front more : List ℕ) (opening : Opening) (rest : List ℕ) → front ++ more ≡ bytes → Begins front opening rest → AreWithin allowed.limits opening.pages opening.shapes
    → stream_refusal allowed expected opening.pages opening.shapes ≡ None → IsAdmitted allowed expected bytes opening.pages opening.shapes
admitted allowed expected bytes front more opening rest all begins within fits =
    rw (← all) (record { opening = opening; rest = rest ++ more; begins = begins_longer front more opening rest begins; within = within; fits = fits; pages_are = refl; shapes_are = refl })

pub unfit : (allowed : Allowed) (expected : List Shape) (bytes front more : List ℕ) (opening : Opening) (rest : List ℕ) (status : ℕ) → front ++ more ≡ bytes → Begins front opening rest → AreWithin allowed.limits opening.pages opening.shapes
    → stream_refusal allowed expected opening.pages opening.shapes ≡ Some status → (status ≡ status) × (IsUnfit allowed expected bytes status ⊎ IsFaultyHead allowed.limits bytes status)
unfit allowed expected bytes front more opening rest status all begins within refused =
    (refl, rw (← all) (inl (record { opening = opening; rest = rest ++ more; begins = begins_longer front more opening rest begins; within = within; refused = refused })))

pub faulty : (allowed : Allowed) (expected : List Shape) (bytes front more : List ℕ) (error : RecvError) (status : ℕ) → front ++ more ≡ bytes → TellsHead error (ShowsHeaderFault allowed.limits front error) → status ≡ stream_status error
    → (status ≡ status) × (IsUnfit allowed expected bytes status ⊎ IsFaultyHead allowed.limits bytes status)
faulty allowed expected bytes front more error status all why is = (refl, inr (record { front = front; rest = more; are = sym all; refused = record { error = error; status_is = is; why = why } }))

pub full : (allowed : Allowed) (expected : List Shape) (bytes : List ℕ) (status : ℕ) → status ≡ stream_status NoMemory → (status ≡ status) × (IsUnfit allowed expected bytes status ⊎ IsFaultyHead allowed.limits bytes status)
full allowed expected bytes status is = faulty allowed expected bytes bytes [] NoMemory status (append-nil bytes) tt is

not_both : (a b : Bool) → b ≡ false → (a && b) ≡ false
not_both true b is = is
not_both false b is = refl

-- Devices that are compared one after another.
pub same_more : (a b : List Shape) (i : ℕ) (d e : Shape) (all : Bool) → i < length a → length a ≡ length b → are_same_shapes (drop i a) (drop i b) ≡ all → is_same_shape (get_or a i d) (get_or b i e) ≡ true → are_same_shapes (drop (i + 1) a) (drop (i + 1) b) ≡ all
same_more a b i d e all below size so_far same =
    let first : drop i a ≡ get_or a i d ∷ drop (i + 1) a = drop_more a i d below in
    let second : drop i b ≡ get_or b i e ∷ drop (i + 1) b = drop_more b i e (omega (arith, below, size)) in
    rw (first, second, same) at so_far

pub other_here : (a b : List Shape) (i : ℕ) (d e : Shape) (all : Bool) → i < length a → length a ≡ length b → are_same_shapes (drop i a) (drop i b) ≡ all → is_same_shape (get_or a i d) (get_or b i e) ≡ false → false ≡ all
other_here a b i d e all below size so_far same =
    let first : drop i a ≡ get_or a i d ∷ drop (i + 1) a = drop_more a i d below in
    let second : drop i b ≡ get_or b i e ∷ drop (i + 1) b = drop_more b i e (omega (arith, below, size)) in
    rw (first, second, same) at so_far

pub all_same : (a b : List Shape) (i : ℕ) (all : Bool) → length a ≤ i → length a ≡ length b → are_same_shapes (drop i a) (drop i b) ≡ all → true ≡ all
all_same a b i all past size so_far = rw (drop_all i a past, drop_all i b (omega (arith, past, size))) at so_far

-- Lists of another length are no same ones.
long : (a b : List Shape) → length a ≢ length b → are_same_shapes a b ≡ false
long [] [] other = absurd (other refl)
long [] (t ∷ b) other = refl
long (s ∷ a) [] other = refl
long (s ∷ a) (t ∷ b) other = not_both (is_same_shape s t) (are_same_shapes a b) (long a b (λ same. other (ap suc same)))

pub not_as_long : (a b : List Shape) → length a ≢ length b → false ≡ are_same_shapes a b
not_as_long a b other = sym (long a b other)

pub some_expected : (a b : List Shape) (same : Bool) → (length a == 0) ≡ false → same ≡ are_same_shapes a b → same ≡ are_expected a b
some_expected [] b same some is = absurd cc
some_expected (s ∷ a) b same some is = is

pub none_expected : (a b : List Shape) → (length a == 0) ≡ true → true ≡ are_expected a b
none_expected [] b none = refl
none_expected (s ∷ a) b none = absurd (let size : suc (length a) ≡ 0 = eq_of (suc (length a)) 0 none in omega (arith, size))
