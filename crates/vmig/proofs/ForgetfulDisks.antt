-- Disks that keep nothing, as a receiver sees them: they never fail, so what it refuses is as with any disks of these sizes.
use Rattle.std.proofs.Common.{◌≡◌, ◌<◌, ℕ, zero, suc, ◌+◌, Bool, List, [], ◌∷◌, ◌++◌, map, length, take, get_or, replicate, true, false, inl, inr, refl, ap, sym, ◌∙◌}
use Rattle.std.specs.Prelude.{Option, Some, None, slice_get}
use Rattle.std.proofs.lemmas.List.{length-replicate, take_more}
use Rattle.machine.specs.Limits.{AreWithin}
use Rattle.machine.specs.Seen.{Marks, marks_at, no_marks}
use Rattle.machine.specs.Shapes.{disk_sizes}
use Rattle.machine.specs.declared.shape.Shape.{Shape}
use Rattle.receiver.specs.Disks.{IsUnsteady, disk_marks_of, sizes_of}
use Rattle.receiver.specs.Receiving.{RefusesSlice}
use Rattle.receiver.specs.declared.recv_error.RecvError.{RecvError}
use Rattle.receiver.specs.declared.recv_error.RecvError.TheVariants as errors
use Rattle.receiver.specs.declared.terms.Terms.{Terms}
use Rattle.wire.proofs.Unique.{cons_same}
use Rattle.wire.specs.Header.{Begins, Opening}
use Rattle.vmig.proofs.Checked.{begins_on}
use Rattle.vmig.proofs.MemoryDisks.{sizes-append}
use Rattle.vmig.specs.Allowing.{program_limits, program_terms}
use Rattle.vmig.specs.Checking.{TellsOfChecked, forgetful_state}
use Rattle.vmig.specs.Faults.{TellsOfFile}
use Rattle.vmig.specs.Feeding.{TellsOfRest}
use Rattle.vmig.specs.declared.fault.Fault.{Fault}

sizes_are : (disks : List ℕ) → sizes_of forgetful_state disks ≡ disks
sizes_are [] = refl
sizes_are (d ∷ ds) = cons_same (length-replicate d (replicate 512 0)) (sizes_are ds)

steady_at : (disks : List ℕ) (k : ℕ) → (marks_at (disk_marks_of forgetful_state disks) k).steady ≡ true
steady_at [] k = refl
steady_at (d ∷ ds) zero = refl
steady_at (d ∷ ds) (suc k) = steady_at ds k

never_unsteady : (disks : List ℕ) → ¬ (IsUnsteady (disk_marks_of forgetful_state disks))
never_unsteady disks h = let is : true ≡ false = sym (steady_at disks h.disk) ∙ h.unsteady in cc

refused_steadily : (terms : Terms) (disks : List ℕ) (bytes : List ℕ) (e : RecvError) → RefusesSlice terms (sizes_of forgetful_state disks) (disk_marks_of forgetful_state disks) bytes e → RefusesSlice terms disks [] bytes e
refused_steadily terms disks bytes errors.NoMemory h = tt
refused_steadily terms disks bytes errors.DiskFailed h = absurd (never_unsteady disks h)
refused_steadily terms disks bytes errors.Truncated h = rw (sizes_are disks) at h
refused_steadily terms disks bytes errors.BadMagic h = rw (sizes_are disks) at h
refused_steadily terms disks bytes errors.BadVersion h = rw (sizes_are disks) at h
refused_steadily terms disks bytes errors.BadShape h = rw (sizes_are disks) at h
refused_steadily terms disks bytes errors.ShapeMismatch h = rw (sizes_are disks) at h
refused_steadily terms disks bytes errors.BadTag h = rw (sizes_are disks) at h
refused_steadily terms disks bytes errors.BadPage h = rw (sizes_are disks) at h
refused_steadily terms disks bytes errors.BadSector h = rw (sizes_are disks) at h
refused_steadily terms disks bytes errors.BadRound h = rw (sizes_are disks) at h
refused_steadily terms disks bytes errors.BadDevice h = rw (sizes_are disks) at h
refused_steadily terms disks bytes errors.BadDigest h = rw (sizes_are disks) at h
refused_steadily terms disks bytes errors.Missing h = rw (sizes_are disks) at h
refused_steadily terms disks bytes errors.Trailing h = rw (sizes_are disks) at h
refused_steadily terms disks bytes errors.AlreadyFailed h = rw (sizes_are disks) at h

pub short_told : (outside : Bool) (stream front : List ℕ) (opening : Opening) (rest : List ℕ) (disks : List ℕ) (fault : Fault) → Begins front opening rest → AreWithin (program_limits outside) opening.pages opening.shapes → disks ≡ disk_sizes opening.shapes
    → TellsOfRest stream front (program_terms outside) (sizes_of forgetful_state disks) (disk_marks_of forgetful_state disks) fault → TellsOfChecked outside stream fault
short_told outside stream front opening rest disks fault b within are (inl file) = inl file
short_told outside stream front opening rest disks fault b within are (inr told) = inr (
  front ++ told.more,
  inr (record {
    sizes = disks;
    fit = inl (record { opening = opening; rest = rest ++ told.more; begins = begins_on front told.more opening rest b; within = within; sizes_are = are });
    refusal = told.refusal;
    refused = refused_steadily (program_terms outside) disks (front ++ told.more) told.refusal told.refused;
    is = told.is;
  }),
)

-- The disks of shapes, and of one more.
pub sizes_more : (shapes : List Shape) (i : ℕ) (shape : Shape) (disks old : List ℕ) → i < length shapes → old ≡ disk_sizes (take i shapes) → disks ≡ old ++ disk_sizes (get_or shapes i shape ∷ []) → disks ≡ disk_sizes (take (i + 1) shapes)
sizes_more shapes i shape disks old below is added =
    added ∙ ap (λ (x : List ℕ). x ++ disk_sizes (get_or shapes i shape ∷ [])) is ∙ sym (ap disk_sizes (take_more shapes i shape below) ∙ sizes-append (take i shapes) (get_or shapes i shape ∷ []))
