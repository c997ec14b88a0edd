-- Parts of a stream, one after another.
use Rattle.std.proofs.Common.{◌≡◌, ℕ, zero, suc, ◌+◌, ◌*◌, ◌<◌, List, [], ◌∷◌, ◌++◌, length, take, get_or, slice_get, Some, refl, sym, ap, ◌∙◌, append_assoc, append-nil, arith}
use Rattle.std.proofs.lemmas.List.{length-append, length-take}
use Rattle.std.specs.Int.{byte_at}
use Rattle.std.specs.List.{flat_map}
use Rattle.std.specs.Prelude.{◌%◌}
use Rattle.std.proofs.lemmas.Option.{get_or_from_slice_get, slice_get_within}
use Rattle.std.proofs.lemmas.Grind.{flat_map-append}
use Rattle.chains.specs.declared.position.Positions.{Positions}
use Rattle.mmio.specs.declared.queue.Queue.{Queue}
use Rattle.blk.specs.Request.{verdict_byte}
use Rattle.blk.specs.declared.request.Request.{Request}
use Rattle.wire.specs.DeviceBody.{body, common_text, queue_text, queues_text, kind_text}
use Rattle.wire.specs.Numbers.{digits, spelled}
use Rattle.wire.specs.RequestText.{head_text, kind_number}
use Rattle.wire.specs.Records.{device, spelled_record}
use Rattle.machine.specs.Layout.{layout_of, item_at}
use Rattle.machine.specs.State.{DeviceState, MachineState}
use Rattle.wire.specs.Stream.{device_texts, record_of, records_below, records_in, shapes_in, texts}
use Rattle.machine.specs.declared.shape.Shape.{Shape}
use Rattle.wire.proofs.Bodies.{length-common_text, length-queue_text}
use Rattle.wire.proofs.Whole.{texts-snoc}
use Rattle.wire.proofs.Unique.{length_shapes}
use Rattle.wire.proofs.DeviceTexts.{device_texts-snoc}

pub one_record : (m : MachineState) (n : ℕ) → texts (records_below m (n + 1)) ≡ texts (records_below m n) ++ spelled_record (record_of m (item_at (layout_of m) n))
unfolding records_in
one_record m n = let more : n + 1 ≡ suc n = omega arith in rw more (texts-snoc (records_below m n) (record_of m (item_at (layout_of m) n)))

-- The first so many of a list, and one more.
pub first_more : {A : Type 0} (xs : List A) (n : ℕ) (x : A) → n < length xs → x ≡ get_or xs n x → take (n + 1) xs ≡ take n xs ++ x ∷ []
first_more [] n x below is = absurd (omega (arith, below))
first_more (y ∷ ys) zero x below is = ap (λ z. z ∷ []) (sym is)
first_more (y ∷ ys) (suc n) x below is =
    let m : suc n + 1 ≡ suc (n + 1) = omega arith in
    rw m (ap (λ zs. y ∷ zs) (first_more ys n x (omega (arith, below)) is))

-- Texts of things one after another, and one more.
texts_more : {A : Type 0} (text : A → List ℕ) (xs : List A) (x : A) (n : ℕ) → n < length xs → x ≡ get_or xs n x → flat_map text (take (n + 1) xs) ≡ flat_map text (take n xs) ++ text x
texts_more text xs x n below is =
    ap (flat_map text) (first_more xs n x below is) ∙ flat_map-append text (take n xs) (x ∷ []) ∙ ap (λ (t : List ℕ). flat_map text (take n xs) ++ t) (append-nil (text x))

pub text_more : {A : Type 0} (text : A → List ℕ) (front : List ℕ) (xs : List A) (x : A) (n : ℕ) → n < length xs → x ≡ get_or xs n x
    → (front ++ flat_map text (take n xs)) ++ text x ≡ front ++ flat_map text (take (n + 1) xs)
text_more text front xs x n below is = rw (texts_more text xs x n below is) (append_assoc front (flat_map text (take n xs)) (text x))

pub length_more : {A : Type 0} (text : A → List ℕ) (xs : List A) (x : A) (n : ℕ) → n < length xs → x ≡ get_or xs n x → length (flat_map text (take (n + 1) xs)) ≡ length (flat_map text (take n xs)) + length (text x)
length_more text xs x n below is = ap length (texts_more text xs x n below is) ∙ length-append (flat_map text (take n xs)) (text x)

-- The same of a thing that is looked up.
pub text_found : {A : Type 0} (text : A → List ℕ) (front : List ℕ) (xs : List A) (n : ℕ) (x : A) → slice_get xs n ≡ Some x
    → (front ++ flat_map text (take n xs)) ++ text x ≡ front ++ flat_map text (take (n + 1) xs)
text_found text front xs n x is = text_more text front xs x n (slice_get_within xs n x is) (sym (get_or_from_slice_get xs n x x is))

pub length_found : {A : Type 0} (text : A → List ℕ) (xs : List A) (n : ℕ) (x : A) → slice_get xs n ≡ Some x → length (flat_map text (take (n + 1) xs)) ≡ length (flat_map text (take n xs)) + length (text x)
length_found text xs n x is = length_more text xs x n (slice_get_within xs n x is) (sym (get_or_from_slice_get xs n x x is))

pub no_devices : (x : List ℕ) → x ++ device_texts 0 [] ≡ x
unfolding device_texts
no_devices x = append-nil x

pub device_more : (x : List ℕ) (ds : List DeviceState) (shapes : List Shape) (d : DeviceState) (n : ℕ) → shapes ≡ shapes_in ds → n < length shapes → slice_get ds n ≡ Some d
    → (x ++ device_texts 0 (take n ds)) ++ spelled_record (device n (body d)) ≡ x ++ device_texts 0 (take (n + 1) ds)
device_more x ds shapes d n are within is =
    let below : n < length ds = omega (arith, within, ap length are, length_shapes ds) in
    let long : 0 + length (take n ds) ≡ n = omega (arith, length-take n ds) in
    let one : device_texts 0 (take (n + 1) ds) ≡ device_texts 0 (take n ds) ++ spelled_record (device n (body d)) =
    ap (device_texts 0) (first_more ds n d below (sym (get_or_from_slice_get ds n d d is))) ∙ device_texts-snoc 0 (take n ds) d ∙ ap (λ (k : ℕ). device_texts 0 (take n ds) ++ spelled_record (device k (body d))) long in
    rw one (append_assoc x (device_texts 0 (take n ds)) (spelled_record (device n (body d))))

length_queues : (qs : List Queue) (ps : List Positions) → length ps ≡ length qs → length (queues_text qs ps) ≡ 36 * length ps
length_queues [] [] e = refl
length_queues [] (p ∷ ps) e = absurd (omega (arith, e))
length_queues (q ∷ qs) [] e = refl
length_queues (q ∷ qs) (p ∷ ps) e =
    omega (arith, length-append (queue_text q p) (queues_text qs ps), length-queue_text q p, length_queues qs ps (omega (arith, e)))

pub length_body : (d : DeviceState) → length d.positions ≡ length d.registers.queues → length (body d) ≡ 26 + 36 * length d.positions + length (kind_text d.kind)
length_body d each =
    omega (
      arith,
      length-append (common_text d.registers.common) (queues_text d.registers.queues d.positions ++ kind_text d.kind),
      length-append (queues_text d.registers.queues d.positions) (kind_text d.kind),
      length-common_text d.registers.common,
      length_queues d.registers.queues d.positions each,
    )

-- A request's head tells the lowest two bytes of the numbers of its segments.
low_two : (n : ℕ) → digits 2 (n % 65536) ≡ digits 2 n
low_two n =
    let first : byte_at 0 (n % 65536) ≡ byte_at 0 n = omega arith in
    let second : byte_at 1 (n % 65536) ≡ byte_at 1 n = omega arith in
    rw (first, second) refl

pub head_low : (r : Request) (m n : ℕ) → head_text r (m % 65536) (n % 65536) ≡ head_text r m n
unfolding head_text
head_low r m n =
    let front = spelled (2 ∷ 2 ∷ 1 ∷ 1 ∷ 8 ∷ 4 ∷ 4 ∷ []) (r.id ∷ r.slots ∷ kind_number r.kind ∷ verdict_byte r.verdict ∷ r.first ∷ r.units ∷ r.done ∷ []) in
    ap (λ (x : List ℕ). front ++ (x ++ (digits 2 (n % 65536) ++ []))) (low_two m) ∙ ap (λ (x : List ℕ). front ++ (digits 2 m ++ (x ++ []))) (low_two n)
