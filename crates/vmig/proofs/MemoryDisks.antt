-- Disks in memory, as a receiver sees them: they are honest, and never fail.
use Rattle.std.proofs.Common.{◌≡◌, ◌<◌, ℕ, ◌+◌, List, [], ◌∷◌, ◌++◌, map, length, take, get_or, replicate, Option, Some, None, true, false, Result, Ok, Err, IfOk, inl, refl, ap, sym, ◌∙◌}
use Rattle.std.proofs.lemmas.List.{length-replicate, map-append, take_more}
use Rattle.machine.specs.declared.limits.Limits.{Limits}
use Rattle.machine.specs.Shapes.{disk_size_of, disk_sizes, with_size}
use Rattle.machine.specs.declared.shape.Shape.{Shape}
use Rattle.receiver.specs.Disks.{AreHonestDisks, IsUnsteady, disk_marks_of, sizes_of}
use Rattle.receiver.specs.Receiving.{RefusesSlice}
use Rattle.receiver.specs.declared.recv_error.RecvError.{RecvError}
use Rattle.receiver.specs.declared.terms.Terms.{Terms}
use Rattle.receiver.specs.declared.recv_error.RecvError.TheVariants as errors
use Rattle.rehearsal.specs.InMemory.{AreHonestAndSteady, memory_state}
use Rattle.rehearsal.proofs.Reliable.{memory_is_reliable, reliable_is_honest}
use Rattle.wire.proofs.Unique.{cons_same}
use Rattle.vmig.specs.Checking.{AreSizesOf, TellsSizes, zero_disks}

pub sizes_are : (disks : List (List (List ℕ))) → sizes_of memory_state disks ≡ map length disks
sizes_are [] = refl
sizes_are (d ∷ ds) = ap (λ (x : List ℕ). length d ∷ x) (sizes_are ds)

reliable : (disks : List (List (List ℕ))) → AreHonestAndSteady (disk_marks_of memory_state disks)
reliable disks = reliable_is_honest (disk_marks_of memory_state disks) (memory_is_reliable disks).for_a_receiver

pub honest_disks : (disks : List (List (List ℕ))) → AreHonestDisks (disk_marks_of memory_state disks)
honest_disks disks = (reliable disks).honest

never_unsteady : (disks : List (List (List ℕ))) → ¬ (IsUnsteady (disk_marks_of memory_state disks))
never_unsteady disks h = let is : true ≡ false = sym ((reliable disks).steady h.disk) ∙ h.unsteady in cc

-- What a refusal tells with such disks it tells with disks that never fail.
pub refused_steadily : (terms : Terms) (disks : List (List (List ℕ))) (bytes : List ℕ) (e : RecvError) → RefusesSlice terms (sizes_of memory_state disks) (disk_marks_of memory_state disks) bytes e → RefusesSlice terms (map length disks) [] bytes e
refused_steadily terms disks bytes errors.NoMemory h = tt
refused_steadily terms disks bytes errors.DiskFailed h = absurd (never_unsteady disks h)
refused_steadily terms disks bytes errors.Truncated h = rw (sizes_are disks) at h
refused_steadily terms disks bytes errors.BadMagic h = rw (sizes_are disks) at h
refused_steadily terms disks bytes errors.BadVersion h = rw (sizes_are disks) at h
refused_steadily terms disks bytes errors.BadShape h = rw (sizes_are disks) at h
refused_steadily terms disks bytes errors.ShapeMismatch h = rw (sizes_are disks) at h
refused_steadily terms disks bytes errors.BadTag h = rw (sizes_are disks) at h
refused_steadily terms disks bytes errors.BadPage h = rw (sizes_are disks) at h
refused_steadily terms disks bytes errors.BadSector h = rw (sizes_are disks) at h
refused_steadily terms disks bytes errors.BadRound h = rw (sizes_are disks) at h
refused_steadily terms disks bytes errors.BadDevice h = rw (sizes_are disks) at h
refused_steadily terms disks bytes errors.BadDigest h = rw (sizes_are disks) at h
refused_steadily terms disks bytes errors.Missing h = rw (sizes_are disks) at h
refused_steadily terms disks bytes errors.Trailing h = rw (sizes_are disks) at h
refused_steadily terms disks bytes errors.AlreadyFailed h = rw (sizes_are disks) at h

-- The disks of shapes, and of one more.
abbrev zero_disk : ℕ → List (List ℕ)
zero_disk size = replicate size (replicate 512 0)

onto_sizes : (size : Option ℕ) (xs ys : List ℕ) → with_size size xs ++ ys ≡ with_size size (xs ++ ys)
onto_sizes None xs ys = refl
onto_sizes (Some n) xs ys = refl

pub sizes-append : (shapes more : List Shape) → disk_sizes (shapes ++ more) ≡ disk_sizes shapes ++ disk_sizes more
sizes-append [] more = refl
sizes-append (shape ∷ shapes) more = ap (with_size (disk_size_of shape)) (sizes-append shapes more) ∙ sym (onto_sizes (disk_size_of shape) (disk_sizes shapes) (disk_sizes more))

pub zeros_more : (shapes : List Shape) (i : ℕ) (shape : Shape) (disks old : List (List (List ℕ))) → i < length shapes → old ≡ zero_disks (take i shapes) → disks ≡ old ++ zero_disks (get_or shapes i shape ∷ []) → disks ≡ zero_disks (take (i + 1) shapes)
zeros_more shapes i shape disks old below is added =
    let sizes : disk_sizes (take (i + 1) shapes) ≡ disk_sizes (take i shapes) ++ disk_sizes (get_or shapes i shape ∷ []) = ap disk_sizes (take_more shapes i shape below) ∙ sizes-append (take i shapes) (get_or shapes i shape ∷ []) in
    added ∙ ap (λ (x : List (List (List ℕ))). x ++ zero_disks (get_or shapes i shape ∷ [])) is
    ∙ sym (ap (map zero_disk) sizes ∙ map-append zero_disk (disk_sizes (take i shapes)) (disk_sizes (get_or shapes i shape ∷ [])))

-- They have the sizes of the shapes.
zeros_long : (sizes : List ℕ) → map length (map zero_disk sizes) ≡ sizes
zeros_long [] = refl
zeros_long (size ∷ sizes) = cons_same (length-replicate size (replicate 512 0)) (zeros_long sizes)

pub zeros_sized : (shapes : List Shape) (disks : List (List (List ℕ))) → disks ≡ zero_disks shapes → map length disks ≡ disk_sizes shapes
zeros_sized shapes disks are = ap (map length) are ∙ zeros_long (disk_sizes shapes)

pub sized : {V E : Type 0} (limits : Limits) (r : Result V E) (items : V → List (List (List ℕ))) (bytes : List ℕ) (shapes : List Shape) → TellsSizes limits bytes (disk_sizes shapes) → IfOk r (λ v. items v ≡ zero_disks shapes) → IfOk r (λ v. AreSizesOf limits bytes (map length (items v)))
sized limits (Ok v) items bytes shapes told are = rw (zeros_sized shapes (items v) are) (inl told)
sized limits (Err refusal) items bytes shapes told are = tt
