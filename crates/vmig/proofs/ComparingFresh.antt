-- The fresh machine of a trace, of which a machine without disks tells whether there is one.
use Rattle.std.proofs.Common.{◌≡◌, ℕ, ◌*◌, ◌||◌, All, Bool, true, false, not, if◌then◌else◌, List, [], ◌∷◌, length, map, replicate, Option, Some, None, Result, Ok, Err, IfSome, IfErr, MatchOption, refl, ap, sym, subst, ◌∙◌}
use Rattle.std.specs.Prelude.{◌==◌, nat_lt}
use Rattle.std.specs.List.{AllByRecursion}
use Rattle.std.proofs.lemmas.List.Elements.{All-from_recursion}
use Rattle.guestmem.specs.declared.limits.TheConstants.{PAGE_SIZE}
use Rattle.machine.proofs.Fresh.{all_long}
use Rattle.machine.proofs.MadeAs.{IsLong}
use Rattle.machine.specs.First.{are_beyond, are_same, dealt_marks, first_machine, is_base, is_beyond_limits, is_ram_size, marks_in}
use Rattle.machine.specs.declared.machine.TheConstants.{DEVICES_MAX}
use Rattle.machine.specs.Seen.{Marks, Seen, all_marks, state_of}
use Rattle.machine.specs.Shapes.{disk_sizes}
use Rattle.machine.specs.declared.new_error.NewError.{NewError}
use Rattle.machine.specs.declared.new_error.NewError.TheVariants.{BadShape, DiskMismatch, NoMemory}
use Rattle.machine.specs.declared.shape.Shape.{Shape}
use Rattle.machine.proofs.Disks.{same_self}
use Rattle.receiver.specs.Disks.{disk_marks_of, sizes_of}
use Rattle.rehearsal.specs.Rehearsing.{IsRehearsal}
use Rattle.rehearsal.specs.declared.rehearsing.Rehearsal.{Rehearsal}
use Rattle.sender.specs.declared.event.LiveEvent.{LiveEvent}
use Rattle.traces.specs.Trace.{Contents}
use Rattle.vmig.proofs.ComparingSteady.{IsSteady, dealt_steady, memory_steady}
use Rattle.rehearsal.specs.InMemory.{memory_state}
use Rattle.vmig.proofs.MemoryDisks.{sizes_are, zeros_sized}
use Rattle.vmig.specs.Allowing.{program_limits, trace_refusal}
use Rattle.vmig.specs.Checking.{zero_disks}
use Rattle.vmig.specs.Comparing.{AreSteady, IsFreshMachine, IsRehearsed, TellsOfRehearsed}
use Rattle.vmig.specs.Faults.{shape_fault}
use Rattle.vmig.specs.declared.fault.Fault.{Fault}
use Rattle.vmig.specs.declared.fault.Fault.TheVariants as faults

-- Why no machine is made, by whether it is beyond the limits and whether the disks are its own.
abbrev refusal_by : Bool → Bool → Option NewError
refusal_by beyond same = if beyond then Some BadShape else if not same then Some DiskMismatch else None

none_same : (sizes : List ℕ) → are_same sizes [] ≡ true → sizes ≡ []
none_same [] same = refl
none_same (size ∷ sizes) same = cc

record NotRefused (beyond same : Bool) : Type 0 where
  within : beyond ≡ false
  fits : same ≡ true

not_refused : (beyond same : Bool) → refusal_by beyond same ≡ None → NotRefused beyond same
not_refused true same none = cc
not_refused false true none = record { within = refl; fits = refl }
not_refused false false none = cc

still_none : (beyond same : Bool) → beyond ≡ false → same ≡ true → refusal_by beyond same ≡ None
still_none beyond same within fits = rw (within, fits) refl

-- A machine that is made without disks wants none.
pub without_disks : (pages : ℕ) (shapes : List Shape) → trace_refusal pages shapes [] ≡ None → disk_sizes shapes ≡ []
without_disks pages shapes none = none_same (disk_sizes shapes) (not_refused (is_beyond_limits (program_limits true) 0 (PAGE_SIZE * pages) shapes) (are_same (disk_sizes shapes) []) none).fits

pub none_with_disks : (pages : ℕ) (shapes : List Shape) → trace_refusal pages shapes [] ≡ None → trace_refusal pages shapes (disk_sizes shapes) ≡ None
none_with_disks pages shapes none = still_none (is_beyond_limits (program_limits true) 0 (PAGE_SIZE * pages) shapes) (are_same (disk_sizes shapes) (disk_sizes shapes)) (not_refused (is_beyond_limits (program_limits true) 0 (PAGE_SIZE * pages) shapes) (are_same (disk_sizes shapes) []) none).within (same_self (disk_sizes shapes))

-- What a refusal without disks tells, but for their want.
other_by : (beyond same again : Bool) (e : NewError) (fault : Fault) → again ≡ true → ¬ (e ≡ DiskMismatch) → fault ≡ shape_fault e → MatchOption (refusal_by beyond same) (e ≡ NoMemory) (λ x. e ≡ x)
    → MatchOption (refusal_by beyond again) (fault ≡ faults.NoMemory) (λ refusal. fault ≡ shape_fault refusal)
other_by true same again e fault is other told why = told ∙ ap shape_fault why
other_by false true again e fault is other told why = rw is (told ∙ ap shape_fault why)
other_by false false again e fault is other told why = absurd (other why)

error_is : {M : Type 0} {e x : NewError} → (◌≡◌ {A = Result M NewError} (Err e) (Err x)) → e ≡ x
error_is same = cc

pub why_not : {M : Type 0} (o : Option NewError) (r : Result M NewError) (e : NewError) → r ≡ Err e → IfSome o (λ x. r ≡ Err x) → (o ≡ None → IfErr r (λ x. x ≡ NoMemory)) → MatchOption o (e ≡ NoMemory) (λ x. e ≡ x)
why_not None r e is refused memory = rw is at (memory refl)
why_not (Some x) r e is refused memory = error_is (sym is ∙ refused)

pub made_none : {M : Type 0} (o : Option NewError) (r : Result M NewError) (m : M) → r ≡ Ok m → IfSome o (λ x. r ≡ Err x) → o ≡ None
made_none None r m is refused = refl
made_none (Some x) r m is refused = let wrong : Ok m ≡ Err x = sym is ∙ refused in cc

pub told_first : {M : Type 0} (pages : ℕ) (shapes : List Shape) (sizes : List ℕ) (r : Result M NewError) (e : NewError) (fault : Fault) → sizes ≡ [] → r ≡ Err e → IfSome (trace_refusal pages shapes sizes) (λ x. r ≡ Err x)
    → (trace_refusal pages shapes sizes ≡ None → IfErr r (λ x. x ≡ NoMemory)) → ¬ (e ≡ DiskMismatch) → fault ≡ shape_fault e
    → MatchOption (trace_refusal pages shapes (disk_sizes shapes)) (fault ≡ faults.NoMemory) (λ refusal. fault ≡ shape_fault refusal)
told_first pages shapes sizes r e fault none is refused memory other told =
    let P : List ℕ → Type 0 = λ xs. MatchOption (trace_refusal pages shapes xs) (e ≡ NoMemory) (λ x. e ≡ x) in
    other_by (is_beyond_limits (program_limits true) 0 (PAGE_SIZE * pages) shapes) (are_same (disk_sizes shapes) []) (are_same (disk_sizes shapes) (disk_sizes shapes)) e fault (same_self (disk_sizes shapes)) other told
    (subst P none (why_not (trace_refusal pages shapes sizes) r e is refused memory))

-- What one with disks tells.
pub told_by : (o : Option NewError) (e : NewError) (fault : Fault) → MatchOption o (e ≡ NoMemory) (λ x. e ≡ x) → fault ≡ shape_fault e → MatchOption o (fault ≡ faults.NoMemory) (λ refusal. fault ≡ shape_fault refusal)
told_by None e fault why told = told ∙ ap shape_fault why
told_by (Some x) e fault why told = told ∙ ap shape_fault why

pub told_then : {M : Type 0} (pages : ℕ) (shapes : List Shape) (sizes : List ℕ) (r : Result M NewError) (e : NewError) (fault : Fault) → sizes ≡ disk_sizes shapes → r ≡ Err e → IfSome (trace_refusal pages shapes sizes) (λ x. r ≡ Err x)
    → (trace_refusal pages shapes sizes ≡ None → IfErr r (λ x. x ≡ NoMemory)) → fault ≡ shape_fault e
    → MatchOption (trace_refusal pages shapes (disk_sizes shapes)) (fault ≡ faults.NoMemory) (λ refusal. fault ≡ shape_fault refusal)
told_then pages shapes sizes r e fault same is refused memory told =
    let P : List ℕ → Type 0 = λ xs. MatchOption (trace_refusal pages shapes xs) (fault ≡ faults.NoMemory) (λ refusal. fault ≡ shape_fault refusal) in
    subst P same (told_by (trace_refusal pages shapes sizes) e fault (why_not (trace_refusal pages shapes sizes) r e is refused memory) told)

mismatch_by : (beyond same again : Bool) → again ≡ true → refusal_by beyond same ≡ Some DiskMismatch → refusal_by beyond again ≡ None
mismatch_by true same again is why = let wrong : ◌≡◌ {A = Option NewError} (Some BadShape) (Some DiskMismatch) = why in cc
mismatch_by false true again is why = cc
mismatch_by false false again is why = rw is refl

mismatch_is : (o : Option NewError) → MatchOption o (DiskMismatch ≡ NoMemory) (λ x. DiskMismatch ≡ x) → o ≡ Some DiskMismatch
mismatch_is None why = cc
mismatch_is (Some x) why = ap Some (sym why)

-- A machine that wants disks is one that there is.
pub wants_disks : {M : Type 0} (pages : ℕ) (shapes : List Shape) (sizes : List ℕ) (r : Result M NewError) → sizes ≡ [] → r ≡ Err DiskMismatch → IfSome (trace_refusal pages shapes sizes) (λ x. r ≡ Err x)
    → (trace_refusal pages shapes sizes ≡ None → IfErr r (λ x. x ≡ NoMemory)) → trace_refusal pages shapes (disk_sizes shapes) ≡ None
wants_disks pages shapes sizes r none is refused memory =
    let P : List ℕ → Type 0 = λ xs. trace_refusal pages shapes xs ≡ Some DiskMismatch in
    mismatch_by (is_beyond_limits (program_limits true) 0 (PAGE_SIZE * pages) shapes) (are_same (disk_sizes shapes) []) (are_same (disk_sizes shapes) (disk_sizes shapes)) (same_self (disk_sizes shapes))
    (subst P none (mismatch_is (trace_refusal pages shapes sizes) (why_not (trace_refusal pages shapes sizes) r DiskMismatch is refused memory)))

-- A machine over disks of zeros is fresh.
each_steady : (disks : List (List (List ℕ))) → AllByRecursion IsSteady (map (λ d. marks_in (memory_state d)) disks)
each_steady [] = tt
each_steady (d ∷ ds) = ((refl, refl), each_steady ds)

pub is_fresh : (c : Contents) (machine : Seen) (shapes : List Shape) (disks : List (List (List ℕ))) → shapes ≡ c.shapes → disks ≡ zero_disks shapes → trace_refusal c.pages shapes (disk_sizes shapes) ≡ None
    → state_of machine ≡ first_machine c.pages shapes (map (λ d. map Some d) disks) → all_marks machine ≡ dealt_marks shapes (map (λ d. marks_in (memory_state d)) disks) → IsFreshMachine c machine
is_fresh c machine shapes disks of are exists state marks = record {
  exists = (let P : List Shape → Type 0 = λ xs. trace_refusal c.pages xs (disk_sizes xs) ≡ None in subst P of exists);
  state = state ∙ rw are (ap (λ (xs : List Shape). first_machine c.pages xs (map (λ d. map Some d) (zero_disks xs))) of);
  steady = (let P : List Marks → Type 0 = λ ms. AreSteady ms in subst P (sym marks) (dealt_steady shapes _ (All-from_recursion IsSteady _ (each_steady disks))));
}

no_zeros : (shapes : List Shape) → disk_sizes shapes ≡ [] → [] ≡ zero_disks shapes
no_zeros shapes none = sym (ap (map (λ size. replicate size (replicate 512 0))) none)

pub fresh_without : {M : Type 0} (c : Contents) (machine : Seen) (shapes : List Shape) (disks : List (List (List ℕ))) (r : Result M NewError) (m : M) → shapes ≡ c.shapes → disks ≡ [] → r ≡ Ok m → IfSome (trace_refusal c.pages shapes (map length disks)) (λ x. r ≡ Err x)
    → state_of machine ≡ first_machine c.pages shapes (map (λ d. map Some d) disks) → all_marks machine ≡ dealt_marks shapes (map (λ d. marks_in (memory_state d)) disks) → IsFreshMachine c machine
fresh_without c machine shapes disks r m of none is refused state marks =
    let there : trace_refusal c.pages shapes [] ≡ None = (let P : List (List (List ℕ)) → Type 0 = λ xs. trace_refusal c.pages shapes (map length xs) ≡ None in subst P none (made_none (trace_refusal c.pages shapes (map length disks)) r m is refused)) in
    is_fresh c machine shapes disks of (none ∙ no_zeros shapes (without_disks c.pages shapes there)) (none_with_disks c.pages shapes there) state marks

-- The same of the trace.
pub tells : (c : Contents) (shapes : List Shape) (fault : Fault) → shapes ≡ c.shapes → MatchOption (trace_refusal c.pages shapes (disk_sizes shapes)) (fault ≡ faults.NoMemory) (λ refusal. fault ≡ shape_fault refusal) → TellsOfRehearsed c fault
tells c shapes fault of told = let P : List Shape → Type 0 = λ xs. MatchOption (trace_refusal c.pages xs (disk_sizes xs)) (fault ≡ faults.NoMemory) (λ refusal. fault ≡ shape_fault refusal) in subst P of told

memory_by : (o : Option NewError) (fault : Fault) → o ≡ None → fault ≡ faults.NoMemory → MatchOption o (fault ≡ faults.NoMemory) (λ refusal. fault ≡ shape_fault refusal)
memory_by o fault none is = rw none is

pub tells_memory : (c : Contents) (shapes : List Shape) (fault : Fault) → shapes ≡ c.shapes → trace_refusal c.pages shapes (disk_sizes shapes) ≡ None → fault ≡ faults.NoMemory → TellsOfRehearsed c fault
tells_memory c shapes fault of none is = tells c shapes fault of (memory_by (trace_refusal c.pages shapes (disk_sizes shapes)) fault none is)

-- Its disks fit, whatever it then answers.
or_right : (a b : Bool) → (a || b) ≡ false → b ≡ false
or_right true b is = cc
or_right false b is = is

pub shapes_are_long : (pages : ℕ) (shapes : List Shape) → trace_refusal pages shapes (disk_sizes shapes) ≡ None → All IsLong shapes
shapes_are_long pages shapes exists =
    let bytes = PAGE_SIZE * pages in
    let within = (not_refused (is_beyond_limits (program_limits true) 0 bytes shapes) (are_same (disk_sizes shapes) (disk_sizes shapes)) exists).within in
    let others = not (is_base 0 bytes) || not (is_ram_size (program_limits true) bytes) || length shapes == 0 || nat_lt DEVICES_MAX (length shapes) in
    all_long (program_limits true) shapes (or_right others (are_beyond (program_limits true) shapes) within)

-- A rehearsal of it over such disks.
pub is_rehearsed : {D E : Type 0} (c : Contents) (machine : Seen) (shapes : List Shape) (events : List LiveEvent) (disks : List (List (List ℕ))) (rehearsal : Rehearsal D E) → IsFreshMachine c machine → shapes ≡ c.shapes → events ≡ c.events → disks ≡ zero_disks shapes
    → IsRehearsal machine events (sizes_of memory_state disks) (disk_marks_of memory_state disks) rehearsal → IsRehearsed c rehearsal
is_rehearsed c machine shapes events disks rehearsal fresh of same are is = record {
  machine = machine;
  fresh = fresh;
  marks = disk_marks_of memory_state disks;
  steady = memory_steady disks;
  is = rw (← same, ← of, ← zeros_sized shapes disks are, ← sizes_are disks) is;
}
