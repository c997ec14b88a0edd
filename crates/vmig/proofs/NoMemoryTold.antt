-- What is known of a fault that comes after a machine was made: memory was refused, and nothing else.
use Rattle.std.proofs.Common.{◌≡◌, inl, ℕ, List, Option, Some, None, Result, Ok, Err, IfErr, IfSome, MatchOption}
use Rattle.machine.specs.declared.new_error.NewError.{NewError}
use Rattle.traces.specs.Trace.{Contents}
use Rattle.vmig.specs.Allowing.{trace_refusal}
use Rattle.vmig.specs.Faults.{shape_fault}
use Rattle.vmig.specs.Playing.{TellsOfSending}
use Rattle.vmig.specs.declared.fault.Fault.{Fault}
use Rattle.vmig.specs.declared.fault.Fault.TheVariants.{NoMemory}

-- A machine was made, so its shape was not refused.
abbrev pub IsMade : {M : Type 0} → Result M NewError → Option NewError → Type 0
IsMade made refusal = IfSome refusal (λ e. made ≡ Err e)

not_refused : {M : Type 0} (refusal : Option NewError) (made : M) (fault : Fault) → IsMade (Ok made) refusal → fault ≡ NoMemory → MatchOption refusal (fault ≡ NoMemory) (λ e. fault ≡ shape_fault e)
not_refused None made fault fine is = is
not_refused (Some e) made fault fine is = cc

pub memory_told : {M V : Type 0} (made : M) (answer : Result V Fault) (stream : Option (List ℕ)) (c : Contents) (sizes : List ℕ) → IsMade (Ok made) (trace_refusal c.pages c.shapes sizes)
    → IfErr answer (λ fault. fault ≡ NoMemory) → IfErr answer (TellsOfSending stream c sizes)
memory_told made (Ok replies) stream c sizes fine is = tt
memory_told made (Err fault) stream c sizes fine is = inl (not_refused (trace_refusal c.pages c.shapes sizes) made fault fine is)
