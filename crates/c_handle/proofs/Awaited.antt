-- Machines whose streams arrive in pieces.
use Rattle.std.proofs.Common.{◌≡◌, ◌≤◌, ◌+◌, ◌-◌, min, ℕ, Bool, true, false, List, [], ◌∷◌, ◌++◌, refl, sym, ap, ◌∙◌, subst, map, length, take, drop, inl, inr, append_assoc, arith, true≢false}
use denote.RawPtr.{Ptr}
use Rattle.std.specs.Prelude.{IsTrue, IfErr, IfOk, Result, Ok, Err, Option, Some, None, slice_get}
use Rattle.guestmem.specs.Memory.{Memory}
use Rattle.std.proofs.lemmas.List.{length-append, length-take-le, take-append-drop, take_all}
use Rattle.std.proofs.lemmas.List.Elements.{All-map}
use Rattle.std.proofs.lemmas.Option.{slice_get-map}
use Rattle.machine.specs.First.{dealt_marks}
use Rattle.machine.specs.Seen.{DeviceSeen, Marks, Seen, all_marks, marks_at, no_marks, state_of}
use Rattle.machine.specs.Shapes.{disk_sizes}
use Rattle.machine.specs.State.{MachineState, base_of}
use Rattle.machine.specs.Layout.{pages_of}
use Rattle.machine.specs.Limits.{AreWithin}
use Rattle.machine.specs.declared.limits.Limits.{Limits}
use Rattle.wire.specs.Header.{Begins, Opening, header}
use Rattle.wire.proofs.PartLengths.{length_header}
use Rattle.wire.specs.Stream.{IsStream, device_texts, opening_in, shapes_in, texts}
use Rattle.wire.proofs.Unique.{pages_limits}
use Rattle.receiver.specs.Calls.{WantsDevice}
use Rattle.receiver.specs.Disks.{AreHonestDisks, HasFailed, MarksRefused, disk_marks_of, sizes_of}
use Rattle.receiver.specs.Receiving.{HasBeenFed, HasRounds, IsFinish, end_error, IsWholeFor, NoFault, Received, TellsNow, place_aside, ram_len_in}
use Rattle.receiver.specs.declared.recv_error.RecvError.{RecvError}
use Rattle.receiver.specs.declared.recv_error.RecvError.TheVariants.{BadMagic, BadVersion, BadShape, ShapeMismatch, BadTag, BadPage, BadSector, BadRound, BadDevice, BadDigest, Missing, Trailing, Truncated, DiskFailed, NoMemory, AlreadyFailed}
use Rattle.receiver.proofs.Heads.{no_header_fault}
use Rattle.receiver.proofs.Prefixes.{header_stays, stays}
use Rattle.receiver.specs.Faults.{Fault, ShowsHeaderFault, TellsHead, WaitsHead}
use Rattle.receiver.specs.Opened.{said_by, terms_at, told_by}
use Rattle.receiver.specs.declared.ram_terms.RamTerms.{RamTerms}
use Rattle.receiver.specs.declared.terms.Terms.{Terms}
use Rattle.c_handle.specs.ArrivalSeen.{ArrivalSeen, AtHead, AtBody, Refused, Over}
use Rattle.c_handle.specs.Awaited.{AreSteady, CountsRounds, GoesOnWith, IsClosed, HasArrived, HasCome, IsFaulty, IsFed, IsFedTo, IsWholeIf, TellsEnd, TellsOf, TellsWhole, TellsWhy, awaited_by, awaited_place, awaited_ram, IsComing, IsAtHead}
use Rattle.c_handle.specs.declared.arrival.Progress.{Progress}
use Rattle.c_handle.specs.declared.arrival.Progress.TheVariants.{Head, Body, Failed}
use Rattle.c_handle.specs.declared.arrival.Progress.TheVariants as progress
use Rattle.c_handle.specs.Headed.{AreFitting, HasHeader, HasNoHeader, HasNoneWithin}
use Rattle.c_machine.specs.Plain.{mem_state}
use Rattle.c_machine.proofs.Plain.{as_many}
use Rattle.c_handle.proofs.Streams.{of_found}
use Rattle.c_machine.proofs.Zeros.{alike}

-- A header stays at the beginning of more bytes.
longer : (limits : Limits) (bytes piece sizes : List ℕ) → HasHeader limits bytes sizes → HasHeader limits (bytes ++ piece) sizes
longer limits bytes piece sizes h = record {
  opening = h.opening;
  rest = h.rest ++ piece;
  begins = record { good = h.begins.good; whole = ap (λ (b : List ℕ). b ++ piece) h.begins.whole ∙ append_assoc _ h.rest piece };
  within = h.within;
  sizes_are = h.sizes_are;
}

-- Disks in memory never fail.
pub memory_disks : (disks : List (List (List ℕ))) → disk_marks_of mem_state disks ≡ map (λ (n : ℕ). no_marks) (sizes_of mem_state disks)
memory_disks [] = refl
memory_disks (d ∷ disks) = ap (λ (l : List Marks). no_marks ∷ l) (memory_disks disks)

pub fresh_steady : (r : Received) (disks : List (List (List ℕ))) → r.sizes ≡ sizes_of mem_state disks → r.marks ≡ disk_marks_of mem_state disks → AreSteady r
fresh_steady r disks sizes marks = rw (sizes, marks) (memory_disks disks)

steady_at : (sizes : List ℕ) (k : ℕ) → (marks_at (map (λ (n : ℕ). no_marks) sizes) k).steady ≡ true
steady_at sizes k = rw (slice_get-map (λ (n : ℕ). no_marks) sizes k) (of_found (slice_get sizes k))

no_failure : (r : Received) (new : List Marks) → AreSteady r → ¬ (HasFailed r.marks new)
no_failure r new steady h = true≢false (sym (rw steady (steady_at r.sizes h.disk)) ∙ h.unsteady)

pub never_failed : (r : Received) (new : List Marks) (e : RecvError) → AreSteady r → MarksRefused r.marks e new → ¬ (e ≡ DiskFailed)
never_failed r new e steady h is = no_failure r new steady (subst (λ (x : RecvError). MarksRefused r.marks x new) is h)

-- What a refusal of a receiver tells.
told : (ram : RamTerms) (sizes b piece : List ℕ) (e : RecvError) → AreFitting ram.limits (b ++ piece) sizes → TellsNow ram sizes b piece e → ¬ (e ≡ DiskFailed) → TellsWhy ram (b ++ piece) e
told ram sizes b piece NoMemory fit t never = tt
told ram sizes b piece DiskFailed fit t never = absurd (never refl)
told ram sizes b piece BadMagic fit t never = record { sizes = sizes; fit = fit; at = t.0; fault = t.2 }
told ram sizes b piece BadVersion fit t never = record { sizes = sizes; fit = fit; at = t.0; fault = t.2 }
told ram sizes b piece BadShape fit t never = record { sizes = sizes; fit = fit; at = t.0; fault = t.2 }
told ram sizes b piece ShapeMismatch fit t never = record { sizes = sizes; fit = fit; at = t.0; fault = t.2 }
told ram sizes b piece BadTag fit t never = record { sizes = sizes; fit = fit; at = t.0; fault = t.2 }
told ram sizes b piece BadPage fit t never = record { sizes = sizes; fit = fit; at = t.0; fault = t.2 }
told ram sizes b piece BadSector fit t never = record { sizes = sizes; fit = fit; at = t.0; fault = t.2 }
told ram sizes b piece BadRound fit t never = record { sizes = sizes; fit = fit; at = t.0; fault = t.2 }
told ram sizes b piece BadDevice fit t never = record { sizes = sizes; fit = fit; at = t.0; fault = t.2 }
told ram sizes b piece BadDigest fit t never = record { sizes = sizes; fit = fit; at = t.0; fault = t.2 }
told ram sizes b piece Missing fit t never = record { sizes = sizes; fit = fit; at = t.0; fault = t.2 }
told ram sizes b piece Trailing fit t never = record { sizes = sizes; fit = fit; at = t.0; fault = t.2 }
told ram sizes b piece Truncated fit t never = record { sizes = sizes; fit = fit; at = t.0; fault = t.2 }
told ram sizes b piece AlreadyFailed fit t never = record { sizes = sizes; fit = fit; at = t.0; fault = t.2 }

-- A receiver whose header was read is fed a piece.
pub more_steady : (r next : Received) → AreSteady r → next.sizes ≡ r.sizes → next.marks ≡ r.marks → AreSteady next
more_steady r next steady sizes marks = rw (sizes, marks) steady

more_come : (r next : Received) (piece b : List ℕ) → next.ram ≡ r.ram → next.sizes ≡ r.sizes → ((b : List ℕ) → HasBeenFed r b → HasBeenFed next (b ++ piece)) → ((b : List ℕ) → HasBeenFed r b → NoFault r.ram r.sizes (b ++ piece)) → HasCome (AtBody r) b → GoesOnWith (b ++ piece) (AtBody next)
more_come r next piece b ram sizes fed quiet h =
    let header : HasHeader next.ram.limits (b ++ piece) next.sizes = rw (sizes, ram) (longer r.ram.limits b piece r.sizes h.1) in
    record { come = (fed b h.0, header); fit = inl header; quiet = rw (ram, sizes) (quiet b h.0) }

pub more_fed : (r next : Received) (piece : List ℕ) → next.ram ≡ r.ram → next.place ≡ r.place → next.sizes ≡ r.sizes → ((b : List ℕ) → HasBeenFed r b → HasBeenFed next (b ++ piece)) → ((b : List ℕ) → HasBeenFed r b → NoFault r.ram r.sizes (b ++ piece)) → IsFed (AtBody r) piece (AtBody next)
more_fed r next piece ram place sizes fed quiet = record { went_on = tt; goes_on = λ b h. more_come r next piece b ram sizes fed quiet h; waits = tt; ram = ram; place = place }

pub more_refused : (r : Received) (new : List Marks) (piece : List ℕ) (e : RecvError) → AreSteady r → MarksRefused r.marks e new → ((b : List ℕ) → HasBeenFed r b → TellsNow r.ram r.sizes b piece e) → (e ≡ NoMemory → WantsDevice r piece) → TellsOf (AtBody r) piece e
more_refused r new piece e steady marks tells memory = record { why = λ b h. told r.ram r.sizes b piece e (inl (longer r.ram.limits b piece r.sizes h.1)) (tells b h.0) (never_failed r new e steady marks); memory = memory }

-- The rest of a piece that completed the header.
pub cut_piece : (held all piece front rest : List ℕ) (few : ℕ) → all ≡ held ++ front → front ≡ take few piece → rest ≡ drop few piece → all ++ rest ≡ held ++ piece
cut_piece held all piece front rest few is first last =
    ap (λ (b : List ℕ). b ++ rest) is ∙ append_assoc held front rest ∙ ap (λ (b : List ℕ). held ++ (b ++ rest)) first ∙ ap (λ (b : List ℕ). held ++ (take few piece ++ b)) last ∙ ap (λ (b : List ℕ). held ++ b) (take-append-drop few piece)

pub rest_taken : {S : Type 0} → (result : Result (Progress S) RecvError) (r : Received) (front rest bytes : List ℕ) → GoesOnWith front (AtBody r) → front ++ rest ≡ bytes → IfOk result (λ next. IsFed (AtBody r) rest (awaited_by next)) → IfOk result (λ next. GoesOnWith bytes (awaited_by next))
rest_taken (Ok next) r front rest bytes begun all h = subst (λ (b : List ℕ). GoesOnWith b (awaited_by next)) all (h.goes_on front begun.come)
rest_taken (Err e) r front rest bytes begun all h = tt

pub rest_refused : {S : Type 0} → (result : Result (Progress S) RecvError) (ram : RamTerms) (r : Received) (front rest bytes : List ℕ) → r.ram ≡ ram → GoesOnWith front (AtBody r) → front ++ rest ≡ bytes → IfErr result (λ e. TellsOf (AtBody r) rest e) → IfErr result (λ e. TellsWhy ram bytes e)
rest_refused (Ok next) ram r front rest bytes is begun all h = tt
rest_refused (Err e) ram r front rest bytes is begun all h = subst (λ (n : RamTerms). TellsWhy n bytes e) is (subst (λ (b : List ℕ). TellsWhy r.ram b e) all (h.why front begun.come))

pub rest_placed : {S : Type 0} → (result : Result (Progress S) RecvError) (place : Option Ptr) (r : Received) (rest : List ℕ) → r.place ≡ place → IfOk result (λ next. IsFed (AtBody r) rest (awaited_by next)) → IfOk result (λ next. awaited_place (awaited_by next) ≡ place)
rest_placed (Ok next) place r rest is h = h.place ∙ is
rest_placed (Err e) place r rest is h = tt

pub rest_based : {S : Type 0} → (result : Result (Progress S) RecvError) (ram : RamTerms) (r : Received) (rest : List ℕ) → r.ram ≡ ram → IfOk result (λ next. IsFed (AtBody r) rest (awaited_by next)) → IfOk result (λ next. awaited_ram (awaited_by next) ≡ ram)
rest_based (Ok next) ram r rest is h = h.ram ∙ is
rest_based (Err e) ram r rest is h = tt

-- A new receiver is fed all bytes.
pub all_fed : (ram : RamTerms) (place : Option Ptr) (r next : Received) (bytes sizes : List ℕ) → HasBeenFed r [] → r.ram ≡ ram → next.ram ≡ r.ram → r.place ≡ place → next.place ≡ r.place → r.sizes ≡ sizes → next.sizes ≡ r.sizes → AreSteady r → next.marks ≡ r.marks → ((b : List ℕ) → HasBeenFed r b → HasBeenFed next (b ++ bytes))
    → ((b : List ℕ) → HasBeenFed r b → NoFault r.ram r.sizes (b ++ bytes)) → IsFedTo ram place sizes bytes next
all_fed ram place r next bytes sizes first based alike there stays are same steady marks fed quiet = record {
  fed = fed [] first;
  ram_is = alike ∙ based;
  place_is = stays ∙ there;
  sizes_are = same ∙ are;
  steady = rw (same, marks) steady;
  quiet = rw (← based, ← are) (quiet [] first);
}

pub all_refused : (ram : RamTerms) (r : Received) (new : List Marks) (bytes sizes : List ℕ) (e : RecvError) → HasBeenFed r [] → r.ram ≡ ram → r.sizes ≡ sizes → AreSteady r → AreFitting ram.limits bytes sizes → MarksRefused r.marks e new → ((b : List ℕ) → HasBeenFed r b → TellsNow r.ram r.sizes b bytes e) → TellsWhy ram bytes e
all_refused ram r new bytes sizes e first based are steady fit marks tells = subst (λ (n : RamTerms). TellsWhy n bytes e) based (told r.ram r.sizes [] bytes e (rw (are, based) fit) (tells [] first) (never_failed r new e steady marks))

-- The header was found, or not.
pub begun_coming : (ram : RamTerms) (place : Option Ptr) (r : Received) (bytes : List ℕ) (opening : Opening) (rest : List ℕ) → Begins bytes opening rest → AreWithin ram.limits opening.pages opening.shapes → IsFedTo ram place (disk_sizes opening.shapes) bytes r → GoesOnWith bytes (AtBody r)
begun_coming ram place r bytes opening rest begins within h =
    let here : AreWithin r.ram.limits opening.pages opening.shapes = rw h.ram_is within in
    let header : HasHeader r.ram.limits bytes r.sizes = record { opening = opening; rest = rest; begins = begins; within = here; sizes_are = h.sizes_are } in
    record { come = (h.fed, header); fit = inl header; quiet = rw (h.ram_is, h.sizes_are) (h.quiet) }

pub fits_header : (limits : Limits) (bytes : List ℕ) (opening : Opening) (rest : List ℕ) → Begins bytes opening rest → AreWithin limits opening.pages opening.shapes → AreFitting limits bytes (disk_sizes opening.shapes)
fits_header limits bytes opening rest begins within = inl (record { opening = opening; rest = rest; begins = begins; within = within; sizes_are = refl })

-- The stream of each machine begins with a header.
headless : (bytes : List ℕ) → HasNoHeader bytes → (m : MachineState) → ¬ (IsStream bytes m)
headless bytes none m s =
    let opening = opening_in s.version (pages_of m) m.devices in
    let head : List ℕ = header opening in
    let front : List ℕ = texts s.entries ++ device_texts 0 m.devices in
    none opening _ (record { good = pages_limits s.version m s.by.known s.by.sound s.by.devices; whole = s.by.whole ∙ append_assoc head front _ })

pub head_ends : (ram : RamTerms) (place : Option Ptr) (held : List ℕ) → HasNoHeader held → TellsEnd (AtHead ram place held) Truncated
head_ends ram place held none = λ b is m. headless b (subst HasNoHeader (sym is) none) m

-- The end of a stream whose header was read.
pub honest_marks : (sizes : List ℕ) → AreHonestDisks (map (λ (n : ℕ). no_marks) sizes)
honest_marks sizes = All-map (λ (k : Marks). IsTrue k.honest) (λ (n : ℕ). no_marks) sizes (λ k n below. refl)

pub arrived : (r : Received) (m : Seen) → AreSteady r → (AreHonestDisks r.marks → (b : List ℕ) → HasBeenFed r b → IsStream b (state_of m)) → all_marks m ≡ dealt_marks (shapes_in (state_of m).devices) r.marks → base_of (state_of m).devices ≡ r.ram.base → m.memory.place ≡ r.place → ram_len_in r.stage ≡ Some (length m.memory.bytes) → HasArrived (AtBody r) m
arrived r m steady received marks based place long =
    let shapes = shapes_in (state_of m).devices in
    let over : all_marks m ≡ dealt_marks shapes (map (λ (n : ℕ). no_marks) r.sizes) = marks ∙ ap (λ (l : List Marks). dealt_marks shapes l) steady in
    record {
      went_on = tt;
      stream = λ b h. received (rw steady (honest_marks r.sizes)) b h.0;
      base = based;
      place = place;
      ram_len = long;
      plain = as_many no_marks (λ (d : DeviceSeen). d.marks) m.devices shapes (over ∙ alike shapes r.sizes);
    }

pub arrived_if : (r : Received) (result : Result Seen RecvError) → AreSteady r → IfOk result (λ m. AreHonestDisks r.marks → (b : List ℕ) → HasBeenFed r b → IsStream b (state_of m))
    → IfOk result (λ m. all_marks m ≡ dealt_marks (shapes_in (state_of m).devices) r.marks) → IfOk result (λ m. base_of (state_of m).devices ≡ r.ram.base) → IfOk result (λ m. m.memory.place ≡ r.place) → IfOk result (λ m. ram_len_in r.stage ≡ Some (length m.memory.bytes)) → IfOk result (λ m. HasArrived (AtBody r) m)
arrived_if r (Ok m) steady received marks based place long = arrived r m steady received marks based place long
arrived_if r (Err e) steady received marks based place long = tt

pub not_arrived_if : (r : Received) (result : Result Seen RecvError) → IfErr result (λ e. e ≡ end_error r.failed) → IfErr result (λ e. (b : List ℕ) → HasBeenFed r b → IsFinish b e) → IfErr result (λ e. TellsEnd (AtBody r) e × IsClosed (AtBody r) Refused)
not_arrived_if r (Ok m) told why = tt
not_arrived_if r (Err e) told why = ((told, λ b h. why b h.0), refl)

-- Rounds.
pub body_counts : (r : Received) (n : ℕ) → ((b : List ℕ) → HasBeenFed r b → HasRounds r.ram r.sizes b n) → CountsRounds (AtBody r) n
body_counts r n rounds = λ b h. rounds b h.0

pub over_counts : (r : Received) (n : ℕ) → (r.failed ≡ true → n ≡ 0) → ((b : List ℕ) → HasBeenFed r b → HasRounds r.ram r.sizes b n) → CountsRounds (Over r) n
over_counts r n failed rounds = (failed, rounds)

pub head_counts : (ram : RamTerms) (place : Option Ptr) (held : List ℕ) → HasNoHeader held → CountsRounds (AtHead ram place held) 0
head_counts ram place held none = λ b is. record { none = λ _. refl; some = λ opening before tail front last. absurd (subst HasNoHeader (sym is) none (said_by opening) _ front.begins) }

-- Whether it is whole.
whole_if : (whole : Bool) (ram : RamTerms) (sizes b : List ℕ) → (whole ≡ true → IsWholeFor ram sizes b) → (whole ≡ false → ¬ (IsWholeFor ram sizes b)) → IsWholeIf whole ram sizes b
whole_if true ram sizes b is lacks = is refl
whole_if false ram sizes b is lacks = lacks refl

pub body_whole : (r : Received) (whole : Bool) → (whole ≡ true → (b : List ℕ) → HasBeenFed r b → IsWholeFor r.ram r.sizes b) → (whole ≡ false → (b : List ℕ) → HasBeenFed r b → ¬ (IsWholeFor r.ram r.sizes b)) → TellsWhole (AtBody r) whole
body_whole r whole is lacks = λ b h. whole_if whole r.ram r.sizes b (λ yes. is yes b h.0) (λ no. lacks no b h.0)

pub over_whole : (r : Received) (whole : Bool) → (whole ≡ true → (b : List ℕ) → HasBeenFed r b → IsWholeFor r.ram r.sizes b) → (whole ≡ false → (b : List ℕ) → HasBeenFed r b → ¬ (IsWholeFor r.ram r.sizes b)) → (r.failed ≡ true → whole ≡ false)
    → TellsWhole (Over r) whole
over_whole r whole is lacks failed = (failed, λ b h. whole_if whole r.ram r.sizes b (λ yes. is yes b h) (λ no. lacks no b h))

pub head_whole : (ram : RamTerms) (place : Option Ptr) (held : List ℕ) → HasNoHeader held → TellsWhole (AtHead ram place held) false
head_whole ram place held none = λ b is whole. subst HasNoHeader (sym is) none (said_by whole.opening) _ whole.front.begins

pub not_whole : {S : Type 0} → (p : Progress S) (a : ArrivalSeen) → IsComing p → awaited_by p ≡ a → IsAtHead (awaited_by p) → TellsWhole a false
not_whole (Head terms ram held) a coming view at = subst (λ (x : ArrivalSeen). TellsWhole x false) view (head_whole (told_by terms ram) (place_aside ram) held.items coming)
not_whole (Body r) a coming view at = absurd at
not_whole (progress.Over r) a coming view at = absurd at
not_whole Failed a coming view at = absurd at

pub not_counted : {S : Type 0} → (p : Progress S) (a : ArrivalSeen) → IsComing p → awaited_by p ≡ a → IsAtHead (awaited_by p) → CountsRounds a 0
not_counted (Head terms ram held) a coming view at = subst (λ (x : ArrivalSeen). CountsRounds x 0) view (head_counts (told_by terms ram) (place_aside ram) held.items coming)
not_counted (Body r) a coming view at = absurd at
not_counted (progress.Over r) a coming view at = absurd at
not_counted Failed a coming view at = absurd at

-- The address at which RAM will begin.
pub based_at : (terms : Terms) (ram : Option Memory) → terms.base ≡ (told_by terms ram).base
based_at terms None = refl
based_at terms (Some ram) = refl

-- And how large it may be.
pub limits_at : (terms : Terms) (ram : Option Memory) → (told_by terms ram).limits ≡ terms.limits
limits_at terms None = refl
limits_at terms (Some ram) = refl

no_fault_in : (ram : RamTerms) (sizes bytes : List ℕ) (k : RecvError) (at : ℕ) → WaitsHead ram.limits bytes → ¬ (Fault ram sizes bytes k at)
no_fault_in ram sizes bytes k at waits (inl h) = waits.no_fault ram sizes k at refl h
no_fault_in ram sizes bytes k at waits (inr h) = waits.no_header (said_by h.opening) _ h.front.begins

-- A header that is not whole.
head_goes_on : (ram : RamTerms) (place : Option Ptr) (held : List ℕ) → WaitsHead ram.limits held → GoesOnWith held (AtHead ram place held)
head_goes_on ram place held waits = record { come = refl; fit = inr (λ opening rest within. waits.no_header opening rest); quiet = λ k at fault. no_fault_in ram [] held k at waits fault }

-- All of a piece after which the header is not whole was copied.
none_cut : (held all piece : List ℕ) (few : ℕ) → all ≡ held ++ take few piece → few ≡ min (length piece) (496 - length held) → length all ≤ 495 → all ≡ held ++ piece
none_cut held all piece few is size short =
    let long : length all ≡ length held + length (take few piece) = ap (λ (l : List ℕ). length l) is ∙ length-append held (take few piece) in
    let front : length (take few piece) ≡ few = length-take-le few piece (omega (arith, size)) in
    is ∙ ap (λ (l : List ℕ). held ++ l) (take_all few piece (omega (arith, long, front, size, short)))

pub head_waits : (terms : Terms) (ram : Option Memory) (held all piece : List ℕ) (few : ℕ) → all ≡ held ++ take few piece → few ≡ min (length piece) (496 - length held) → length all ≤ 495 → WaitsHead terms.limits all
    → GoesOnWith (held ++ piece) (AtHead (told_by terms ram) (place_aside ram) all)
head_waits terms ram held all piece few is size short waits =
    let here : WaitsHead (told_by terms ram).limits all = subst (λ (l : Limits). WaitsHead l all) (sym (limits_at terms ram)) waits in
    subst (λ (l : List ℕ). GoesOnWith l (AtHead (told_by terms ram) (place_aside ram) all)) (none_cut held all piece few is size short) (head_goes_on (told_by terms ram) (place_aside ram) all here)

-- All of a byte after which the header is not whole was copied.
pub waits_on : (terms : Terms) (ram : Option Memory) (all bytes : List ℕ) → all ≡ bytes → WaitsHead terms.limits all → GoesOnWith bytes (AtHead (told_by terms ram) (place_aside ram) all)
waits_on terms ram all bytes is waits =
    let here : WaitsHead (told_by terms ram).limits all = subst (λ (l : Limits). WaitsHead l all) (sym (limits_at terms ram)) waits in
    subst (λ (l : List ℕ). GoesOnWith l (AtHead (told_by terms ram) (place_aside ram) all)) is (head_goes_on (told_by terms ram) (place_aside ram) all here)

pub head_fed : (ram : RamTerms) (place : Option Ptr) (held piece : List ℕ) (next : ArrivalSeen) → awaited_ram next ≡ ram → awaited_place next ≡ place → GoesOnWith (held ++ piece) next → IsFed (AtHead ram place held) piece next
head_fed ram place held piece next based there h = record { went_on = tt; goes_on = λ b is. subst (λ (x : List ℕ). GoesOnWith (x ++ piece) next) (sym is) h; waits = tt; ram = based; place = there }

pub head_refused : (ram : RamTerms) (place : Option Ptr) (held piece : List ℕ) (e : RecvError) → TellsWhy ram (held ++ piece) e → TellsOf (AtHead ram place held) piece e
head_refused ram place held piece e h = λ b is. subst (λ (x : List ℕ). TellsWhy ram (x ++ piece) e) (sym is) h

pub empty_head : (opening : Opening) (rest : List ℕ) → ¬ (Begins [] opening rest)
empty_head opening rest begins = omega (arith, ap (λ (l : List ℕ). length l) begins.whole, length-append (header opening) rest, length_header opening)

-- A fault in bytes that begin with a header is one of all longer bytes.
faulty_longer : (ram : RamTerms) (bytes rest sizes : List ℕ) (e : RecvError) → HasHeader ram.limits bytes sizes → IsFaulty ram bytes e → IsFaulty ram (bytes ++ rest) e
faulty_longer ram bytes rest sizes e header f = elim f.fit as (λ _. IsFaulty ram (bytes ++ rest) e) [
  | inl h ↦ record { sizes = f.sizes; fit = inl (longer ram.limits bytes rest f.sizes h); at = f.at; fault = stays ram f.sizes bytes rest e f.at f.fault }
  | inr none ↦ absurd (none header.opening header.rest header.within header.begins)
]

pub told_longer : (ram : RamTerms) (bytes rest sizes : List ℕ) (e : RecvError) → HasHeader ram.limits bytes sizes → TellsWhy ram bytes e → TellsWhy ram (bytes ++ rest) e
told_longer ram bytes rest sizes NoMemory header t = tt
told_longer ram bytes rest sizes BadMagic header t = faulty_longer ram bytes rest sizes BadMagic header t
told_longer ram bytes rest sizes BadVersion header t = faulty_longer ram bytes rest sizes BadVersion header t
told_longer ram bytes rest sizes BadShape header t = faulty_longer ram bytes rest sizes BadShape header t
told_longer ram bytes rest sizes ShapeMismatch header t = faulty_longer ram bytes rest sizes ShapeMismatch header t
told_longer ram bytes rest sizes BadTag header t = faulty_longer ram bytes rest sizes BadTag header t
told_longer ram bytes rest sizes BadPage header t = faulty_longer ram bytes rest sizes BadPage header t
told_longer ram bytes rest sizes BadSector header t = faulty_longer ram bytes rest sizes BadSector header t
told_longer ram bytes rest sizes BadRound header t = faulty_longer ram bytes rest sizes BadRound header t
told_longer ram bytes rest sizes BadDevice header t = faulty_longer ram bytes rest sizes BadDevice header t
told_longer ram bytes rest sizes BadDigest header t = faulty_longer ram bytes rest sizes BadDigest header t
told_longer ram bytes rest sizes Missing header t = faulty_longer ram bytes rest sizes Missing header t
told_longer ram bytes rest sizes Trailing header t = faulty_longer ram bytes rest sizes Trailing header t
told_longer ram bytes rest sizes Truncated header t = faulty_longer ram bytes rest sizes Truncated header t
told_longer ram bytes rest sizes DiskFailed header t = faulty_longer ram bytes rest sizes DiskFailed header t
told_longer ram bytes rest sizes AlreadyFailed header t = faulty_longer ram bytes rest sizes AlreadyFailed header t

-- Bytes whose header has a fault begin with no header of a machine within the limits, and so do all longer ones.
still_headless : (limits : Limits) (bytes rest : List ℕ) (e : RecvError) → ShowsHeaderFault limits bytes e → HasNoneWithin limits (bytes ++ rest)
still_headless limits bytes rest e why opening more within begins =
    let terms : RamTerms = terms_at (record { base = 0; limits = limits }) in
    let sizes = disk_sizes opening.shapes in
    let f = why terms sizes refl in
    no_header_fault terms sizes (bytes ++ rest) opening more begins within refl tt e f.0 (header_stays terms sizes bytes rest e f.0 f.1)

faulty_head : (ram : RamTerms) (bytes rest : List ℕ) (e : RecvError) → ShowsHeaderFault ram.limits bytes e → IsFaulty ram (bytes ++ rest) e
faulty_head ram bytes rest e why =
    let f = why ram [] refl in
    record { sizes = []; fit = inr (still_headless ram.limits bytes rest e why); at = f.0; fault = stays ram [] bytes rest e f.0 (inl f.1) }

-- What is told of the head of bytes, whatever follows.
told_of_head : (ram : RamTerms) (bytes rest : List ℕ) (e : RecvError) → TellsHead e (ShowsHeaderFault ram.limits bytes e) → TellsWhy ram (bytes ++ rest) e
told_of_head ram bytes rest NoMemory t = tt
told_of_head ram bytes rest BadMagic t = faulty_head ram bytes rest BadMagic t
told_of_head ram bytes rest BadVersion t = faulty_head ram bytes rest BadVersion t
told_of_head ram bytes rest BadShape t = faulty_head ram bytes rest BadShape t
told_of_head ram bytes rest ShapeMismatch t = faulty_head ram bytes rest ShapeMismatch t
told_of_head ram bytes rest BadTag t = faulty_head ram bytes rest BadTag t
told_of_head ram bytes rest BadPage t = faulty_head ram bytes rest BadPage t
told_of_head ram bytes rest BadSector t = faulty_head ram bytes rest BadSector t
told_of_head ram bytes rest BadRound t = faulty_head ram bytes rest BadRound t
told_of_head ram bytes rest BadDevice t = faulty_head ram bytes rest BadDevice t
told_of_head ram bytes rest BadDigest t = faulty_head ram bytes rest BadDigest t
told_of_head ram bytes rest Missing t = faulty_head ram bytes rest Missing t
told_of_head ram bytes rest Trailing t = faulty_head ram bytes rest Trailing t
told_of_head ram bytes rest Truncated t = faulty_head ram bytes rest Truncated t
told_of_head ram bytes rest DiskFailed t = faulty_head ram bytes rest DiskFailed t
told_of_head ram bytes rest AlreadyFailed t = faulty_head ram bytes rest AlreadyFailed t

pub told_head : (terms : Terms) (ram : Option Memory) (bytes rest all : List ℕ) (e : RecvError) → bytes ++ rest ≡ all → TellsHead e (ShowsHeaderFault terms.limits bytes e) → TellsWhy (told_by terms ram) all e
told_head terms ram bytes rest all e is why =
    let here : TellsHead e (ShowsHeaderFault (told_by terms ram).limits bytes e) = subst (λ (l : Limits). TellsHead e (ShowsHeaderFault l bytes e)) (sym (limits_at terms ram)) why in
    subst (λ (b : List ℕ). TellsWhy (told_by terms ram) b e) is (told_of_head (told_by terms ram) bytes rest e here)

-- What is within the limits of the terms is within those of the receiver.
pub within_terms : (terms : Terms) (ram : Option Memory) (opening : Opening) → AreWithin terms.limits opening.pages opening.shapes → AreWithin (told_by terms ram).limits opening.pages opening.shapes
within_terms terms ram opening within = subst (λ (l : Limits). AreWithin l opening.pages opening.shapes) (sym (limits_at terms ram)) within

-- A result has one error.
pub one_error : {A E : Type 0} (r : Result A E) (x y : E) → r ≡ Err x → r ≡ Err y → x ≡ y
one_error {A = A} {E = E} r x y a b = let e : ◌≡◌ {A = Result A E} (Err x) (Err y) = sym a ∙ b in cc
