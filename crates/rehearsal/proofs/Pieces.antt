-- A receiver that is fed in pieces.
use Rattle.std.proofs.Common.{◌≡◌, ℕ, ◌<◌, List, [], ◌++◌, length, refl, ap, sym, subst, ◌∙◌, append_assoc, append-nil}
use Rattle.std.specs.Prelude.{IfErr, IfOk, Result, Ok, Err}
use Rattle.machine.specs.Seen.{Marks, Seen, state_of}
use Rattle.receiver.specs.Disks.{AreHonestDisks, MarksRefused}
use Rattle.receiver.specs.Faults.{Fault}
use Rattle.receiver.specs.Opened.{greatest_at, terms_at}
use Rattle.receiver.specs.Receiving.{HasBeenFed, IsFinish, NoFault, Received, RefusesSlice, TellsFault, TellsNow}
use Rattle.receiver.specs.declared.ram_terms.RamTerms.{RamTerms}
use Rattle.receiver.specs.declared.recv_error.RecvError.{RecvError}
use Rattle.receiver.proofs.Counting.{slice_cut, slice_told}
use Rattle.receiver.proofs.Prefixes.{stays}
use Rattle.receiver.proofs.Working.{tells_more}
use Rattle.wire.specs.Stream.{IsStream}

-- All but the rest of the bytes was fed.
pub record IsFed (r : Received) (bytes rest : List ℕ) : Type 0 where
  pub so_far : List ℕ
  pub whole : bytes ≡ so_far ++ rest
  pub fed : HasBeenFed r so_far

pub fed_first : (r : Received) (bytes : List ℕ) → HasBeenFed r [] → IsFed r bytes bytes
fed_first r bytes fed = record { so_far = []; whole = refl; fed = fed }

joined : (r : Received) (bytes rest piece others : List ℕ) (f : IsFed r bytes rest) → rest ≡ piece ++ others → bytes ≡ (f.so_far ++ piece) ++ others
joined r bytes rest piece others f cut = f.whole ∙ ap (λ (x : List ℕ). f.so_far ++ x) cut ∙ sym (append_assoc f.so_far piece others)

pub fed_on : (old new : Received) (bytes rest piece others : List ℕ) → IsFed old bytes rest → rest ≡ piece ++ others → ((b : List ℕ) → HasBeenFed old b → HasBeenFed new (b ++ piece)) → IsFed new bytes others
fed_on old new bytes rest piece others f cut on = record { so_far = f.so_far ++ piece; whole = joined old bytes rest piece others f cut; fed = on f.so_far f.fed }

-- What is told of a piece is told of all bytes.
pub told : (ram : RamTerms) (sizes : List ℕ) (r : Received) (bytes rest piece others : List ℕ) (e : RecvError) → r.ram ≡ ram → r.sizes ≡ sizes → IsFed r bytes rest → rest ≡ piece ++ others → ((b : List ℕ) → HasBeenFed r b → TellsNow r.ram r.sizes b piece e) → TellsFault ram sizes bytes e
told ram sizes r bytes rest piece others e based same f cut tells =
    let O : RamTerms → Type 0 = λ a. TellsNow a sizes f.so_far piece e in
    let P : List ℕ → Type 0 = λ s. TellsNow r.ram s f.so_far piece e in
    let Q : (at : ℕ) → List ℕ → Type 0 = λ at b. Fault ram sizes b e at in
    tells_more ((at : ℕ) × (length f.so_far < at) × Fault ram sizes (f.so_far ++ piece) e at) ((at : ℕ) × Fault ram sizes bytes e at) e
    (λ x. (x.0, subst (Q x.0) (sym (joined r bytes rest piece others f cut)) (stays ram sizes (f.so_far ++ piece) others e x.0 x.2)))
    (subst O based (subst P same (tells f.so_far f.fed)))

pub no_others : (rest : List ℕ) → rest ≡ rest ++ []
no_others rest = sym (append-nil rest)

-- The last piece.
pub fed_all : (old new : Received) (bytes rest : List ℕ) → IsFed old bytes rest → ((b : List ℕ) → HasBeenFed old b → HasBeenFed new (b ++ rest)) → HasBeenFed new bytes
fed_all old new bytes rest f on = let P : List ℕ → Type 0 = λ b. HasBeenFed new b in subst P (sym f.whole) (on f.so_far f.fed)

-- The machine that arrived is one of all bytes.
pub received_end : (result : Result Seen RecvError) (marks : List Marks) (old new : Received) (bytes rest : List ℕ) → old.marks ≡ marks → new.marks ≡ old.marks → IsFed old bytes rest → ((b : List ℕ) → HasBeenFed old b → HasBeenFed new (b ++ rest))
    → IfOk result (λ m. AreHonestDisks new.marks → (b : List ℕ) → HasBeenFed new b → IsStream b (state_of m)) → IfOk result (λ m. AreHonestDisks marks → IsStream bytes (state_of m))
received_end (Ok m) marks old new bytes rest same kept f on h = λ honest. h (subst AreHonestDisks (sym (kept ∙ same)) honest) bytes (fed_all old new bytes rest f on)
received_end (Err e) marks old new bytes rest same kept f on h = tt

pub quiet_all : (ram : RamTerms) (sizes : List ℕ) (old : Received) (bytes rest : List ℕ) → old.ram ≡ ram → old.sizes ≡ sizes → IsFed old bytes rest → ((b : List ℕ) → HasBeenFed old b → NoFault old.ram old.sizes (b ++ rest)) → NoFault ram sizes bytes
quiet_all ram sizes old bytes rest based same f quiet =
    let O : RamTerms → Type 0 = λ a. NoFault a sizes bytes in
    let P : List ℕ → Type 0 = λ b. NoFault old.ram old.sizes b in
    let Q : List ℕ → Type 0 = λ s. NoFault old.ram s bytes in
    subst O based (subst Q same (subst P (sym f.whole) (quiet f.so_far f.fed)))

-- What a refusal says of all bytes, of a piece and in the end.
pub refused_piece : (base : ℕ) (sizes : List ℕ) (marks new : List Marks) (r : Received) (bytes rest piece others : List ℕ) (e : RecvError) → r.ram ≡ terms_at (greatest_at base) → r.sizes ≡ sizes → r.marks ≡ marks → IsFed r bytes rest → rest ≡ piece ++ others → MarksRefused r.marks e new → ((b : List ℕ) → HasBeenFed r b → TellsNow r.ram r.sizes b piece e)
    → RefusesSlice (greatest_at base) sizes marks bytes e
refused_piece base sizes marks new r bytes rest piece others e based same same_marks f cut failed tells =
    let P : List Marks → Type 0 = λ ms. MarksRefused ms e new in
    slice_told (greatest_at base) sizes marks new bytes e (subst P same_marks failed) (told (terms_at (greatest_at base)) sizes r bytes rest piece others e based same f cut tells)

pub refused_end : {T : Type 0} (result : Result T RecvError) (base : ℕ) (sizes : List ℕ) (marks : List Marks) (old new : Received) (bytes rest : List ℕ) → old.ram ≡ terms_at (greatest_at base) → old.sizes ≡ sizes → IsFed old bytes rest → ((b : List ℕ) → HasBeenFed old b → HasBeenFed new (b ++ rest)) → ((b : List ℕ) → HasBeenFed old b → NoFault old.ram old.sizes (b ++ rest))
    → IfErr result (λ e. (b : List ℕ) → HasBeenFed new b → IsFinish b e) → IfErr result (λ e. RefusesSlice (greatest_at base) sizes marks bytes e)
refused_end (Ok x) base sizes marks old new bytes rest based same f on quiet h = tt
refused_end (Err e) base sizes marks old new bytes rest based same f on quiet h = slice_cut (greatest_at base) sizes marks bytes e (h bytes (fed_all old new bytes rest f on)) (quiet_all (terms_at (greatest_at base)) sizes old bytes rest based same f quiet)
