-- What the first bytes of a stream announce: a whole header, one that is not whole, or a fault.
use Rattle.std.proofs.Common.{◌≡◌, inl, inr, ℕ, List, refl, subst}
use Rattle.machine.specs.Limits.{greatest}
use Rattle.machine.specs.declared.limits.Limits.{Limits}
use Rattle.wire.specs.Header.{Begins, Opening}
use Rattle.receiver.specs.Faults.{ShowsHeaderFault, TellsHead, WaitsHead}
use Rattle.receiver.specs.declared.recv_error.RecvError.{RecvError}
use Rattle.c_handle.specs.Announced.{Announces, heading_status}
use Rattle.c_machine.specs.Description.{message_of, nothing_told, with_shapes}
use Rattle.c_machine.specs.declared.description.Description.{Description}

pub announced : (bytes : List ℕ) (opening : Opening) (rest : List ℕ) (told old : Description) → Begins bytes opening rest
    → told ≡ record (with_shapes nothing_told opening.pages opening.shapes) { message = message_of opening.shapes } → Announces bytes 0 told old
announced bytes opening rest told old begins is = inl (record { opening = opening; rest = rest; begins = begins; status_is = refl; told_is = is })

pub awaited : (limits : Limits) (bytes : List ℕ) (told : Description) → limits ≡ greatest → WaitsHead limits bytes → Announces bytes 79 told told
awaited limits bytes told is waits = inr (record { why = inl (record { status_is = refl; waits = subst (λ (l : Limits). WaitsHead l bytes) is waits }); same = refl })

pub refused : (limits : Limits) (bytes : List ℕ) (error : RecvError) (status : ℕ) (told : Description) → limits ≡ greatest → TellsHead error (ShowsHeaderFault limits bytes error) → status ≡ heading_status error → Announces bytes status told told
refused limits bytes error status told most why is = inr (record { why = inr (record { error = error; status_is = is; why = subst (λ (l : Limits). TellsHead error (ShowsHeaderFault l bytes error)) most why }); same = refl })
