-- Bytes that begin with no fault.
use Rattle.std.proofs.Common.{◌≡◌, ◌⊎◌, ℕ, List, length, inl, inr, sym, ap, subst, ◌∙◌, arith, ◌≤◌}
use Rattle.wire.specs.Records.{Record}
use Rattle.wire.proofs.Heads.{nothing_read, no_record}
use Rattle.wire.proofs.Spelling.{head_same}
use Rattle.receiver.specs.Good.{devices_in}
use Rattle.receiver.specs.Faults.{MayTag, IsComplete, IsLate, IsPageTag, Opens, IsBadPage, IsLongZeros, IsBadSector, IsBadRound, IsBadDeviceHead, IsBadDeviceBody, IsBadDigest, IsTrailing, IsFault}
use Rattle.receiver.specs.Fed.{Waits}
use Rattle.receiver.specs.declared.recv_error.RecvError.{RecvError}
use Rattle.receiver.specs.declared.recv_error.RecvError.TheVariants as errors
use Rattle.receiver.specs.Opened.{Opened}

-- No other tag is that of a page.
pub no_page : (tag : ℕ) → 2 ≤ tag → tag ≤ 5 → ¬ (IsPageTag tag)
no_page tag low high (inl e) = omega (arith, low, e)
no_page tag low high (inr e) = omega (arith, high, e)

-- Where a record of its tag may stand, bytes begin with a fault of that tag alone.
pub quiet : (opening : Opened) (before : List Record) (tail : List ℕ) (tag : ℕ) (more : List ℕ) → Opens opening before tail tag more
    → (IsPageTag tag → (place : ℕ) → ¬ (IsBadPage opening before tail place ⊎ IsLongZeros opening before tail place))
    → (tag ≡ 2 → (place : ℕ) → ¬ (IsBadSector opening before tail place))
    → (tag ≡ 3 → (place : ℕ) → ¬ (IsBadRound opening before tail place))
    → (tag ≡ 4 → (place : ℕ) → ¬ (IsBadDeviceHead opening before tail place ⊎ IsBadDeviceBody opening before tail place))
    → (tag ≡ 5 → (place : ℕ) → ¬ (IsBadDigest opening before tail place ⊎ IsTrailing opening before tail place))
    → (k : RecvError) (place : ℕ) → ¬ (IsFault opening before tail k place)
quiet opening before tail tag more o p s r d c errors.BadTag place h = h.never (subst (MayTag opening.version (length opening.shapes) (devices_in before)) (head_same (sym o.whole ∙ h.whole)) o.may)
quiet opening before tail tag more o p s r d c errors.BadPage place (inl h) = p (subst IsPageTag (head_same (sym h.opens.whole ∙ o.whole)) h.names) place (inl h)
quiet opening before tail tag more o p s r d c errors.BadPage place (inr h) = p (inl (head_same (sym o.whole ∙ h.opens.whole))) place (inr h)
quiet opening before tail tag more o p s r d c errors.BadSector place h = s (head_same (sym o.whole ∙ h.opens.whole)) place h
quiet opening before tail tag more o p s r d c errors.BadRound place h = r (head_same (sym o.whole ∙ h.opens.whole)) place h
quiet opening before tail tag more o p s r d c errors.BadDevice place (inl h) = d (head_same (sym o.whole ∙ h.opens.whole)) place (inl h)
quiet opening before tail tag more o p s r d c errors.BadDevice place (inr h) = d (head_same (sym o.whole ∙ h.opens.whole)) place (inr h)
quiet opening before tail tag more o p s r d c errors.BadDigest place h = c (head_same (sym o.whole ∙ h.opens.whole)) place (inl h)
quiet opening before tail tag more o p s r d c errors.Missing place h =
    let same : tag ≡ h.tag = head_same (sym o.whole ∙ h.whole) in
    h.never (subst (IsComplete opening before) same (o.complete (subst IsLate (sym same) h.late)))
quiet opening before tail tag more o p s r d c errors.Trailing place h = c (head_same (sym o.whole ∙ h.opens.whole)) place (inr h)
quiet opening before tail tag more o p s r d c _ place h = h

nothing_faulty : (opening : Opened) (before : List Record) (tail : List ℕ) → length tail ≡ 0 → (k : RecvError) (place : ℕ) → ¬ (IsFault opening before tail k place)
nothing_faulty opening before tail none errors.BadTag place h = omega (arith, none, ap length h.whole)
nothing_faulty opening before tail none errors.BadPage place (inl h) = omega (arith, none, ap length h.opens.whole)
nothing_faulty opening before tail none errors.BadPage place (inr h) = omega (arith, none, ap length h.opens.whole)
nothing_faulty opening before tail none errors.BadSector place h = omega (arith, none, ap length h.opens.whole)
nothing_faulty opening before tail none errors.BadRound place h = omega (arith, none, ap length h.opens.whole)
nothing_faulty opening before tail none errors.BadDevice place (inl h) = omega (arith, none, ap length h.opens.whole)
nothing_faulty opening before tail none errors.BadDevice place (inr h) = omega (arith, none, ap length h.opens.whole)
nothing_faulty opening before tail none errors.BadDigest place h = omega (arith, none, ap length h.opens.whole)
nothing_faulty opening before tail none errors.Missing place h = omega (arith, none, ap length h.whole)
nothing_faulty opening before tail none errors.Trailing place h = omega (arith, none, ap length h.opens.whole)
nothing_faulty opening before tail none _ place h = h

-- No bytes wait.
pub nothing_waits : (opening : Opened) (before : List Record) (tail : List ℕ) → length tail ≡ 0 → Waits opening before tail
nothing_waits opening before tail none = record { no_record = no_record opening.version tail (nothing_read tail none).none; no_fault = nothing_faulty opening before tail none }
