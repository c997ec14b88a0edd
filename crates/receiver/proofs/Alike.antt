-- Two receivers that were fed the same.
use Rattle.std.proofs.Common.{◌≡◌, ℕ, ◌<◌, ◌⊎◌, inl, inr, List, ◌++◌, length}
use Rattle.std.specs.Prelude.{Ok, Err}
use Rattle.receiver.specs.Faults.{Fault}
use Rattle.receiver.specs.Fed.{Tells}
use Rattle.receiver.specs.Laws.{IsWant, TellingIsDigesting}
use Rattle.receiver.specs.Receiving.{NoFault}
use Rattle.receiver.specs.declared.ram_terms.RamTerms.{RamTerms}
use Rattle.receiver.specs.declared.recv_error.RecvError.{RecvError}
use Rattle.receiver.specs.declared.recv_error.RecvError.TheVariants as errors
use Rattle.receiver.proofs.OneFault.{one_fault}

told_or_want : (F : Type 0) (e : RecvError) → Tells e F → IsWant e ⊎ F
told_or_want F errors.NoMemory t = inl tt
told_or_want F errors.DiskFailed t = inl tt
told_or_want F _ t = inr t

quiet_wants : (ram : RamTerms) (sizes b piece : List ℕ) (e : RecvError) → NoFault ram sizes (b ++ piece) → IsWant e ⊎ ((at : ℕ) × (length b < at) × Fault ram sizes (b ++ piece) e at) → IsWant e
quiet_wants ram sizes b piece e none (inl want) = want
quiet_wants ram sizes b piece e none (inr f) = absurd (none e f.0 f.2)

both_tell : (ram : RamTerms) (sizes b piece : List ℕ) (e f : RecvError) → IsWant e ⊎ ((at : ℕ) × (length b < at) × Fault ram sizes (b ++ piece) e at) → IsWant f ⊎ ((at : ℕ) × (length b < at) × Fault ram sizes (b ++ piece) f at)
    → IsWant e ⊎ (IsWant f ⊎ (e ≡ f))
both_tell ram sizes b piece e f (inl want) k = inl want
both_tell ram sizes b piece e f (inr h) (inl want) = inr (inl want)
both_tell ram sizes b piece e f (inr h) (inr k) = inr (inr (one_fault ram sizes (b ++ piece) e f h.0 k.0 h.2 k.2).0)

pub alike : TellingIsDigesting
alike a b c d bytes piece (Ok x) (Ok y) ram sizes h k f g = tt
alike a b c d bytes piece (Ok x) (Err e) ram sizes h k f g = quiet_wants a.ram a.sizes bytes piece e (f.quiet bytes h) (told_or_want _ e (rw (ram, sizes) at (g.told bytes k)))
alike a b c d bytes piece (Err e) (Ok y) ram sizes h k f g = quiet_wants a.ram a.sizes bytes piece e (rw (ram, sizes) at (g.quiet bytes k)) (told_or_want _ e (f.told bytes h))
alike a b c d bytes piece (Err e) (Err j) ram sizes h k f g = both_tell a.ram a.sizes bytes piece e j (told_or_want _ e (f.told bytes h)) (told_or_want _ j (rw (ram, sizes) at (g.told bytes k)))
