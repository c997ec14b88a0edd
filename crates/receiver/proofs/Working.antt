-- Records taken one after the other.
use Rattle.std.proofs.Common.{◌≡◌, ◌≢◌, ℕ, ◌+◌, ◌≤◌, inr, Bool, true, false, List, [], ◌∷◌, ◌++◌, length, take, drop, refl, sym, ap, subst, ◌∙◌, append_assoc, append-nil, arith}
use Rattle.std.proofs.lemmas.List.{take-append-drop, take_at, length-drop}
use Rattle.std.proofs.Math.Seq.{take-add}
use Rattle.receiver.specs.Sums.{Sums}
use Rattle.sha2.specs.Sha256.{sha256}
use Rattle.receiver.specs.Sums.{Summed}
use Rattle.sha2.proofs.Facts256.{length-sha256}
use Rattle.receiver.specs.Opened.{opened_header, Opened}
use Rattle.wire.specs.Records.{Record, commit, spelled_record}
use Rattle.wire.specs.Stream.{texts}
use Rattle.blk.specs.Disk.{DiskState}
use Rattle.machine.specs.Seen.{Marks}
use Rattle.receiver.specs.Disks.{AreKept, AreRefused, MarksRefused, all_marks_in, sizes_in}
use Rattle.receiver.specs.Faults.{Opens, IsFault, IsFront, Fault}
use Rattle.receiver.specs.Fed.{Ends, HasRead, IsEnded, IsKnownIn, IsRead, IsUpTo, Tells, TookRecord, Waits}
use Rattle.receiver.specs.declared.intake.Intake.{Intake}
use Rattle.receiver.specs.declared.ram_terms.RamTerms.{RamTerms}
use Rattle.receiver.specs.declared.recv_error.RecvError.{RecvError}
use Rattle.receiver.specs.declared.recv_error.RecvError.TheVariants as errors
use Rattle.receiver.proofs.Lists.{empty}
use Rattle.receiver.proofs.Quiet.{nothing_waits}

pub tells : (F : Type 0) (e : RecvError) → F → Tells e F
tells F errors.DiskFailed h = tt
tells F errors.NoMemory h = tt
tells F _ h = h

pub tells_more : (F G : Type 0) (e : RecvError) → (F → G) → Tells e F → Tells e G
tells_more F G errors.DiskFailed f h = tt
tells_more F G errors.NoMemory f h = tt
tells_more F G _ f h = f h

pub kept : (ds : List DiskState) → AreKept ds ds
kept ds = record { sizes = refl; marks = refl }

pub then_kept : (a b c : List DiskState) → AreKept a b → AreKept b c → AreKept a c
then_kept a b c h k = record { sizes = k.sizes ∙ h.sizes; marks = k.marks ∙ h.marks }

marks_then : (a b c : List Marks) (e : RecvError) → b ≡ a → MarksRefused b e c → MarksRefused a e c
marks_then a b c e same h = subst (λ ms. MarksRefused ms e c) same h

pub then_refused : (a b c : List DiskState) (e : RecvError) → AreKept a b → AreRefused b c e → AreRefused a c e
then_refused a b c e h k = record { sizes = k.sizes ∙ h.sizes; marks = marks_then (all_marks_in a) (all_marks_in b) (all_marks_in c) e h.marks k.marks }

-- A refusal that is no failure of a disk.
pub refused_kept : (ds : List DiskState) (e : RecvError) → e ≢ errors.DiskFailed → AreRefused ds ds e
refused_kept ds errors.DiskFailed n = absurd (n refl)
refused_kept ds _ n = record { sizes = refl; marks = refl }

never_disk : (opening : Opened) (before : List Record) (tail : List ℕ) (e : RecvError) (place : ℕ) → IsFault opening before tail e place → e ≢ errors.DiskFailed
never_disk opening before tail e place f same = let no : IsFault opening before tail errors.DiskFailed place = rw same at f in no

pub fault_refused : (ds : List DiskState) (opening : Opened) (before : List Record) (tail : List ℕ) (e : RecvError) → (place : ℕ) × IsFault opening before tail e place
    → AreRefused ds ds e × Tells e ((place : ℕ) × IsFault opening before tail e place)
fault_refused ds opening before tail e f = (refused_kept ds e (never_disk opening before tail e f.0 f.1), tells _ e f)

-- What was known of an intake is known with the bytes that were worked off behind it.
pub record SoFar (ram : RamTerms) (old ds : List DiskState) (i : Intake) (digest : Summed) (front : List ℕ) : Type 0 where
  pub same : AreKept old ds
  pub known : IsUpTo i.ended ram ds digest front i

pub nothing_yet : (ram : RamTerms) (ds : List DiskState) (i : Intake) (digest : Summed) (front bytes : List ℕ) → IsUpTo i.ended ram ds digest front i → SoFar ram ds ds i digest (front ++ take 0 bytes)
nothing_yet ram ds i digest front bytes k = record { same = kept ds; known = subst (λ (x : List ℕ). IsUpTo i.ended ram ds digest x i) (sym (append-nil front)) k }

-- So far no digest was read.
pub reads_on : (ram : RamTerms) (ds : List DiskState) (i : Intake) (digest : Summed) (front : List ℕ) → i.ended ≡ false → IsUpTo i.ended ram ds digest front i → Sums digest front × IsRead ram ds front i
reads_on ram ds i digest front on k = subst (λ (b : Bool). IsUpTo b ram ds digest front i) on k

pub more_taken : (front bytes : List ℕ) (at len : ℕ) → (front ++ take at bytes) ++ take len (drop at bytes) ≡ front ++ take (at + len) bytes
more_taken front bytes at len = append_assoc front (take at bytes) (take len (drop at bytes)) ∙ ap (λ (x : List ℕ). front ++ x) (sym (take-add at len bytes))

pub front_of : {ds : List DiskState} {opening : Opened} {before : List Record} {i : Intake} {front : List ℕ} (bytes tail : List ℕ) → HasRead ds opening before i front → bytes ≡ front ++ tail → IsFront opening.ram (sizes_in ds) bytes opening before tail
front_of {opening = opening} {before = before} bytes tail h e = record {
  begins = record { good = h.head; whole = e ∙ ap (λ (x : List ℕ). x ++ tail) h.whole ∙ append_assoc (opened_header opening) (texts before) tail };
  based = refl;
  fits = h.fits;
  suits = h.suits;
  within = h.within;
  good = h.good;
}

pub front_at : {ram : RamTerms} {sizes bytes : List ℕ} {opening : Opened} {before : List Record} {tail : List ℕ} → opening.ram ≡ ram → IsFront opening.ram sizes bytes opening before tail → IsFront ram sizes bytes opening before tail
front_at {ram} {sizes} {bytes} {opening} {before} {tail} based front = subst (λ (r : RamTerms). IsFront r sizes bytes opening before tail) based front

pub fault_here : {ds : List DiskState} {opening : Opened} {before : List Record} {i : Intake} {front : List ℕ} (bytes tail : List ℕ) (e : RecvError) → HasRead ds opening before i front → bytes ≡ front ++ tail
    → (place : ℕ) × IsFault opening before tail e place → (at : ℕ) × Fault opening.ram (sizes_in ds) bytes e at
fault_here {opening = opening} {before = before} bytes tail e h is f =
    (length (opened_header opening ++ texts before) + f.0, inr (record { opening = opening; before = before; tail = tail; place = f.0; front = front_of bytes tail h is; fault = f.1; there = refl }))

pub cut : (front bytes : List ℕ) (at : ℕ) → front ++ bytes ≡ (front ++ take at bytes) ++ drop at bytes
cut front bytes at = ap (λ (x : List ℕ). front ++ x) (sym (take-append-drop at bytes)) ∙ sym (append_assoc front (take at bytes) (drop at bytes))

pub refused : (ram : RamTerms) (old ds new : List DiskState) (opening : Opened) (before : List Record) (i : Intake) (front bytes : List ℕ) (at : ℕ) (e : RecvError) → opening.ram ≡ ram → AreKept old ds → HasRead ds opening before i (front ++ take at bytes)
    → AreRefused ds new e × Tells e ((place : ℕ) × IsFault opening before (drop at bytes) e place) → AreRefused old new e × Tells e ((k : ℕ) × Fault ram (sizes_in old) (front ++ bytes) e k)
refused ram old ds new opening before i front bytes at e based same h t =
    let here = λ (f : (place : ℕ) × IsFault opening before (drop at bytes) e place). fault_here (front ++ bytes) (drop at bytes) e h (cut front bytes at) f in
    let at_ram = λ (f : (place : ℕ) × IsFault opening before (drop at bytes) e place). subst (λ (r : RamTerms). (k : ℕ) × Fault r (sizes_in ds) (front ++ bytes) e k) based (here f) in
    (then_refused old ds new e same t.0, tells_more _ _ e (λ f. subst (λ sizes. (k : ℕ) × Fault ram sizes (front ++ bytes) e k) same.sizes (at_ram f)) t.1)

-- The record at the front waits.
pub waiting : (ram : RamTerms) (old ds new : List DiskState) (opening : Opened) (before : List Record) (i : Intake) (digest : Summed) (front tail : List ℕ) → opening.ram ≡ ram → i.ended ≡ false → AreKept old ds → Sums digest front
    → AreKept ds new × HasRead new opening before i front × Waits opening before tail → AreKept old new × IsKnownIn i.ended ram new digest front tail i
waiting ram old ds new opening before i digest front tail based on same d h =
    (then_kept old ds new same h.0, subst (λ (b : Bool). IsKnownIn b ram new digest front tail i) (sym on) (d, record { opening = opening; based = based; open_at = record { before = before; read = h.1; waits = h.2 } }))

-- No bytes are left.
left_in : (ended : Bool) (ram : RamTerms) (ds : List DiskState) (digest : Summed) (front held : List ℕ) (i : Intake) → held ≡ [] → IsUpTo ended ram ds digest front i → IsKnownIn ended ram ds digest front held i
left_in false ram ds digest front held i none k =
    let r = k.1 in
    (k.0, record { opening = r.opening; based = r.based; open_at = record { before = r.before; read = r.read; waits = nothing_waits r.opening r.before held (ap length none) } })
left_in true ram ds digest front held i none k = (none, k)

pub at_end : (ram : RamTerms) (old ds : List DiskState) (i : Intake) (digest : Summed) (front bytes : List ℕ) (at : ℕ) → SoFar ram old ds i digest (front ++ take at bytes) → length bytes ≤ at
    → AreKept old ds × IsKnownIn i.ended ram ds digest (front ++ take at bytes) (drop at bytes) i
at_end ram old ds i digest front bytes at h le = (h.same, left_in i.ended ram ds digest (front ++ take at bytes) (drop at bytes) i (empty (drop at bytes) (omega (arith, le, length-drop at bytes))) h.known)

ended_by : (opening : Opened) (before : List Record) (tail more : List ℕ) → Opens opening before tail 5 (sha256 (opened_header opening ++ texts before) ++ more) → take 33 tail ≡ 5 ∷ sha256 (opened_header opening ++ texts before)
ended_by opening before tail more o =
    let sum = sha256 (opened_header opening ++ texts before) in
    ap (take 33) o.whole ∙ take_at (5 ∷ sum) more 33 (omega (arith, length-sha256 (opened_header opening ++ texts before)))

pub commit_text : (digest : List ℕ) → spelled_record (commit digest) ≡ 5 ∷ digest
unfolding spelled_record
commit_text digest = refl

-- The digest was read: the bytes up to its end are a whole stream.
pub ended : (ds : List DiskState) (opening : Opened) (before : List Record) (i : Intake) (front tail : List ℕ) → HasRead ds opening before i front → Ends opening before tail → IsEnded ds opening i (front ++ take 33 tail)
ended ds opening before i front tail h e = record {
  before = before;
  front = front;
  read = h;
  complete = e.opens.complete (omega arith, omega arith);
  whole = ap (λ (x : List ℕ). front ++ x) (ended_by opening before tail e.more e.opens ∙ ap (λ (x : List ℕ). 5 ∷ sha256 x) (sym h.whole) ∙ sym (commit_text (sha256 front)));
}

-- One record more, or the digest.
more_in : (ended : Bool) (ram : RamTerms) (ds : List DiskState) (opening : Opened) (before : List Record) (i : Intake) (digest : Summed) (front tail : List ℕ) (len : ℕ) → opening.ram ≡ ram → (ended ≡ false → Sums digest (front ++ take len tail))
    → TookRecord ended ds opening before i front tail len → IsUpTo ended ram ds digest (front ++ take len tail) i
more_in false ram ds opening before i digest front tail len based d t = (d refl, record { opening = opening; based = based; before = before ++ t.0 ∷ []; read = t.1 })
more_in true ram ds opening before i digest front tail len based d t =
    record { opening = opening; based = based; ended = subst (λ (n : ℕ). IsEnded ds opening i (front ++ take n tail)) (sym t.0) (ended ds opening before i front tail t.1 t.2) }

pub one_more : (ram : RamTerms) (old ds new : List DiskState) (opening : Opened) (before : List Record) (i : Intake) (digest : Summed) (front bytes : List ℕ) (at len : ℕ) → opening.ram ≡ ram → AreKept old ds
    → (i.ended ≡ false → Sums digest ((front ++ take at bytes) ++ take len (drop at bytes))) → AreKept ds new × TookRecord i.ended new opening before i (front ++ take at bytes) (drop at bytes) len → SoFar ram old new i digest (front ++ take (at + len) bytes)
one_more ram old ds new opening before i digest front bytes at len based same d h = record {
  same = then_kept old ds new same h.0;
  known = subst (λ (x : List ℕ). IsUpTo i.ended ram new digest x i) (more_taken front bytes at len) (more_in i.ended ram new opening before i digest (front ++ take at bytes) (drop at bytes) len based d h.1);
}

pub within : (held rest : List ℕ) (at len : ℕ) → rest ≡ drop at held → at ≤ length held → len ≤ length rest → at + len ≤ length held
within held rest at len e low room = omega (arith, ap length e, length-drop at held, low, room)
