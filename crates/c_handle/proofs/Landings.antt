-- Machines that arrive over images.
use Rattle.std.proofs.Common.{◌≡◌, ◌≤◌, ℕ, Bool, true, false, List, [], ◌∷◌, ◌++◌, ◌-◌, refl, sym, ap, ◌∙◌, arith, map, length, drop, take}
use Prim.Native.Nat.{suc}
use denote.RawPtr.{Ptr}
use Rattle.std.specs.Prelude.{Option, None, Some, Result, Ok, Err, IfErr, IfOk, OnErr, OnOk}
use Rattle.std.proofs.lemmas.List.{length-append, length-drop, length-take-le, map-append}
use Rattle.std.proofs.lemmas.List.Elements.{All-drop, All-map, All-take}
use Rattle.blk.specs.Disk.{DiskState}
use Rattle.machine.specs.Seen.{Marks, Seen, all_marks, no_marks, state_of}
use Rattle.machine.specs.First.{dealt_marks}
use Rattle.machine.specs.State.{base_of}
use Rattle.wire.specs.Stream.{IsStream, shapes_in}
use Rattle.receiver.specs.Calls.{IsUntouched, WantsDevice}
use Rattle.receiver.specs.Disks.{AreHonestDisks, MarksAfter, MarksRefused, disk_marks_of, sizes_of}
use Rattle.receiver.specs.Receiving.{HasBeenFed, HasHeaderFor, IsGivenUp, MayTouch, NoFault, Received, TellsNow, ram_len_in}
use Rattle.receiver.specs.declared.ram_terms.RamTerms.{RamTerms}
use Rattle.receiver.specs.declared.recv_error.RecvError.{RecvError}
use Rattle.receiver.specs.declared.recv_error.RecvError.TheVariants.{BadMagic, BadVersion, BadShape, ShapeMismatch, BadTag, BadPage, BadSector, BadRound, BadDevice, BadDigest, Missing, Trailing, Truncated, DiskFailed, NoMemory, AlreadyFailed}
use Rattle.mapped_disk.specs.declared.image.Image.{Image}
use Rattle.c_handle.specs.ArrivalSeen.{ArrivalSeen, AtHead, AtBody, Refused, Over}
use Rattle.c_handle.specs.Awaited.{AreSteady, HasArrived, IsClosed, IsFed, RefusesUntouched, TellsOf, awaited_sizes, is_over}
use Rattle.c_handle.specs.Landing.{AreDisksOf, IsAwaitedAt, image_state}
use Rattle.c_machine.specs.Mapping.{AreTaken, contents}
use Rattle.c_handle.specs.Kept.{Arriving}
use Rattle.c_handle.specs.Unmapping.{HasReleasedFrom, images_of, slots_refusal}
use Rattle.c_handle.proofs.Awaited.{arrived, honest_marks, more_steady, never_failed, one_error}
use Rattle.c_handle.proofs.Handing.{asked, none_at}

-- Disks over images never fail.
image_marks : (disks : List Image) → disk_marks_of image_state disks ≡ map (λ (n : ℕ). no_marks) (sizes_of image_state disks)
image_marks [] = refl
image_marks (i ∷ disks) = ap (λ (l : List Marks). no_marks ∷ l) (image_marks disks)

image_sizes : (disks : List Image) → sizes_of image_state disks ≡ map (λ (c : List (List ℕ)). length c) (contents disks)
image_sizes [] = refl
image_sizes (i ∷ disks) = ap (λ (l : List ℕ). length i.content ∷ l) (image_sizes disks)

sectors_are : (disks : List Image) → map (λ (d : DiskState). d.sectors) (map image_state disks) ≡ contents disks
sectors_are [] = refl
sectors_are (i ∷ disks) = ap (λ (l : List (List (List ℕ))). i.content ∷ l) (sectors_are disks)

pub first_steady : (r : Received) (disks : List Image) → r.sizes ≡ sizes_of image_state disks → r.marks ≡ disk_marks_of image_state disks → AreSteady r
first_steady r disks sizes marks = rw (sizes, marks) (image_marks disks)

pub first_awaited : (ram : RamTerms) (r : Received) (disks : List Image) (place : Option Ptr) → HasBeenFed r [] → r.ram ≡ ram → r.sizes ≡ sizes_of image_state disks → r.disks ≡ map image_state disks → r.place ≡ place
    → IsAwaitedAt ram place (contents disks) (Over r)
first_awaited ram r disks place fed based sizes are there =
    record { fed = fed; ram_is = based; sizes_are = sizes ∙ image_sizes disks; disks_are = ap (map (λ (d : DiskState). d.sectors)) are ∙ sectors_are disks; place_is = there }

-- A receiver over images is fed a piece.
not_true : (b : Bool) → ¬ (b ≡ true) → b ≡ false
not_true true not = absurd (not refl)
not_true false not = refl

pub fed_over : (r next : Received) (piece : List ℕ) → ¬ (r.failed ≡ true) → next.ram ≡ r.ram → next.sizes ≡ r.sizes → ((b : List ℕ) → HasBeenFed r b → HasBeenFed next (b ++ piece)) → ((b : List ℕ) → HasBeenFed r b → NoFault r.ram r.sizes (b ++ piece)) → next.place ≡ r.place
    → ((b : List ℕ) → HasBeenFed r b → ¬ (HasHeaderFor r.ram r.sizes (b ++ piece)) → IsUntouched r next) → IsFed (Over r) piece (Over next)
fed_over r next piece fine ram sizes fed quiet place waits = record {
  went_on = not_true r.failed fine;
  goes_on = λ b h. record { come = fed b h; fit = tt; quiet = rw (ram, sizes) (quiet b h) };
  waits = waits;
  ram = ram;
  place = place;
}

pub told_over : (r next : Received) (piece : List ℕ) (e : RecvError) → AreSteady r → next.sizes ≡ r.sizes → next.failed ≡ true → MarksRefused r.marks e next.marks → (r.failed ≡ true → e ≡ AlreadyFailed) → ((b : List ℕ) → HasBeenFed r b → TellsNow r.ram r.sizes b piece e)
    → (e ≡ NoMemory → WantsDevice r piece) → TellsOf (Over r) piece e × IsClosed (Over r) (Over next)
told_over r next piece e steady sizes failed marks already tells memory = (record { already = already; why = tells; steady = never_failed r next.marks e steady marks; memory = memory }, (failed, sizes))

-- The marks are as they were, but for a failure that there was not.
kept_marks : (old new : List Marks) (e : RecvError) → ¬ (e ≡ DiskFailed) → MarksRefused old e new → new ≡ old
kept_marks old new BadMagic never h = h
kept_marks old new BadVersion never h = h
kept_marks old new BadShape never h = h
kept_marks old new ShapeMismatch never h = h
kept_marks old new BadTag never h = h
kept_marks old new BadPage never h = h
kept_marks old new BadSector never h = h
kept_marks old new BadRound never h = h
kept_marks old new BadDevice never h = h
kept_marks old new BadDigest never h = h
kept_marks old new Missing never h = h
kept_marks old new Trailing never h = h
kept_marks old new Truncated never h = h
kept_marks old new DiskFailed never h = absurd (never refl)
kept_marks old new NoMemory never h = h
kept_marks old new AlreadyFailed never h = h

pub refused_steady : (r next : Received) (e : RecvError) → AreSteady r → next.sizes ≡ r.sizes → MarksRefused r.marks e next.marks → AreSteady next
refused_steady r next e steady sizes marks = more_steady r next steady sizes (kept_marks r.marks next.marks e (never_failed r next.marks e steady marks) marks)

-- By what the receiver answered.
pub steady_after : {A : Type 0} (r next : Received) (result : Result A RecvError) → AreSteady r → next.sizes ≡ r.sizes → MarksAfter r.marks result next.marks → AreSteady next
steady_after r next (Ok x) steady sizes marks = more_steady r next steady sizes marks
steady_after r next (Err e) steady sizes marks = refused_steady r next e steady sizes marks

not_ok : {A : Type 0} (x : A) (e : RecvError) → ¬ (◌≡◌ {A = Result A RecvError} (Ok x) (Err e))
not_ok x e is = cc

pub fed_if : {A : Type 0} (r next : Received) (piece : List ℕ) (result : Result A RecvError) → (r.failed ≡ true → result ≡ Err AlreadyFailed) → next.ram ≡ r.ram → next.sizes ≡ r.sizes → OnOk result ((b : List ℕ) → HasBeenFed r b → HasBeenFed next (b ++ piece))
    → OnOk result ((b : List ℕ) → HasBeenFed r b → NoFault r.ram r.sizes (b ++ piece)) → next.place ≡ r.place
    → OnOk result ((b : List ℕ) → HasBeenFed r b → ¬ (HasHeaderFor r.ram r.sizes (b ++ piece)) → IsUntouched r next) → IfOk result (λ x. IsFed (Over r) piece (Over next))
fed_if r next piece (Ok x) already ram sizes fed quiet place waits = fed_over r next piece (λ failed. not_ok x AlreadyFailed (already failed)) ram sizes fed quiet place waits
fed_if r next piece (Err e) already ram sizes fed quiet place waits = tt

pub told_if : {A : Type 0} (r next : Received) (piece : List ℕ) (result : Result A RecvError) → AreSteady r → next.sizes ≡ r.sizes → OnErr result (next.failed ≡ true) → MarksAfter r.marks result next.marks → (r.failed ≡ true → result ≡ Err AlreadyFailed)
    → IfErr result (λ e. (b : List ℕ) → HasBeenFed r b → TellsNow r.ram r.sizes b piece e) → (result ≡ Err NoMemory → WantsDevice r piece)
    → IfErr result (λ e. TellsOf (Over r) piece e × IsClosed (Over r) (Over next))
told_if r next piece (Ok x) steady sizes failed marks already tells memory = tt
told_if r next piece (Err e) steady sizes failed marks already tells memory = told_over r next piece e steady sizes failed marks (λ f. one_error (Err e) e AlreadyFailed refl (already f)) tells (λ is. memory (ap Err is))

pub untouched_if : {A : Type 0} (r next : Received) (piece : List ℕ) (result : Result A RecvError) → (r.failed ≡ true → IsUntouched r next)
    → IfErr result (λ e. (b : List ℕ) → HasBeenFed r b → ¬ (MayTouch r.ram r.sizes (b ++ piece) e) → IsUntouched r next) → IfErr result (λ e. RefusesUntouched (Over r) piece e (Over next))
untouched_if r next piece (Ok x) gone before = tt
untouched_if r next piece (Err e) gone before = record { gone = gone; before = before }

-- The slots that the disks go into are free, and there is one for each.
abbrev AreSlotsOf : ArrivalSeen → List Image → Type 0
AreSlotsOf a images = slots_refusal (images_of (is_over a) (Arriving a)) images ≡ None

pub slots_free : (a : ArrivalSeen) (disks images : List Image) (count : ℕ) → AreDisksOf a (contents disks) → length disks ≡ length (awaited_sizes a) → AreSlotsOf a images → count ≡ length disks → AreTaken disks (take count images)
slots_free (Over r) disks images count of many none is =
    let asks = asked (length r.sizes) images none in
    record {
      count = length-take-le count images (omega (arith, is, many, asks.1)) ∙ is;
      empty = All-take (λ (i : Image). i.content ≡ []) count images (none_at images asks.0);
    }
slots_free (AtHead ram place held) disks images count of many none is = absurd of
slots_free (AtBody r) disks images count of many none is = absurd of
slots_free Refused disks images count of many none is = absurd of

pub gave_up : (a : ArrivalSeen) (disks images : List Image) (count : ℕ) → AreDisksOf a (contents disks) → length disks ≡ length (awaited_sizes a) → AreSlotsOf a images → count ≡ length disks
    → HasReleasedFrom (is_over a) (Arriving a) images (disks ++ drop count images)
gave_up (Over r) disks images count of many none is =
    let asks = asked (length r.sizes) images none in
    let few : count ≤ length images = omega (arith, is, many, asks.1) in
    record {
      rest = contents (drop count images);
      first = map-append (λ (i : Image). i.content) disks (drop count images) ∙ ap (λ (l : List (List (List ℕ))). l ++ contents (drop count images)) (sym of);
      empty = All-map (λ (c : List (List ℕ)). c ≡ []) (λ (i : Image). i.content) (drop count images) (All-drop (λ (i : Image). i.content ≡ []) count images (none_at images asks.0));
      count = length-append disks (drop count images) ∙ (let left : length (drop count images) ≡ length images - count = length-drop count images in omega (arith, left, few, is));
    }
gave_up (AtHead ram place held) disks images count of many none is = absurd of
gave_up (AtBody r) disks images count of many none is = absurd of
gave_up Refused disks images count of many none is = absurd of

pub none_given_up : (a : ArrivalSeen) (images : List Image) → is_over a ≡ false → HasReleasedFrom (is_over a) (Arriving a) images images
none_given_up a images own = rw own refl

-- The end.
pub arrived_over : (r : Received) (m : Seen) → AreSteady r → r.failed ≡ false → (AreHonestDisks r.marks → (b : List ℕ) → HasBeenFed r b → IsStream b (state_of m)) → all_marks m ≡ dealt_marks (shapes_in (state_of m).devices) r.marks
    → base_of (state_of m).devices ≡ r.ram.base → m.memory.place ≡ r.place → ram_len_in r.stage ≡ Some (length m.memory.bytes) → HasArrived (Over r) m
arrived_over r m steady fine received marks based place long =
    let a : HasArrived (AtBody r) m = arrived r m steady received marks based place long in
    record { went_on = fine; stream = λ b h. received (rw steady (honest_marks r.sizes)) b h; base = based; plain = a.plain; place = place; ram_len = long }

pub given_up_steady : (r next : Received) → AreSteady r → IsGivenUp r next → AreSteady next
given_up_steady r next steady h = more_steady r next steady h.sizes h.marks

-- The images go back.
pub sectors_back : (r : Received) (disks : List Image) → map image_state disks ≡ r.disks → map (λ (d : DiskState). d.sectors) r.disks ≡ contents disks
sectors_back r disks are = ap (map (λ (d : DiskState). d.sectors)) (sym are) ∙ sectors_are disks

counted : (disks : List Image) → length disks ≡ length (sizes_of image_state disks)
counted [] = refl
counted (i ∷ disks) = ap suc (counted disks)

pub as_many_images : (r : Received) (disks : List Image) → sizes_of image_state disks ≡ r.sizes → length disks ≡ length r.sizes
as_many_images r disks are = counted disks ∙ ap length are
