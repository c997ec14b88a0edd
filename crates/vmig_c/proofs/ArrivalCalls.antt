-- The calls of an arrival, by cases on the handle.
use Rattle.std.proofs.Common.{◌≡◌, ℕ, false, List, ap, ◌∙◌, refl, subst, sym, true≢false}
use Rattle.std.specs.Prelude.{Option, Some, None, is_some}
use Rattle.c_handle.specs.Arriving.{Fed, Finished, FinishesKept, telling_finished}
use Rattle.c_handle.specs.Kept.{KeptSeen}
use Rattle.c_handle.specs.ToldFeeding.{DoesFeedSome, DoesTell, FedDigest, FedSome}
use Rattle.c_handle.specs.declared.told_feeding.Telling.{Telling}

pub fed_none : (k after : Option KeptSeen) (piece : List ℕ) → is_some k ≡ false → after ≡ k → Fed k piece 8 after
fed_none None after piece is same = (refl, same)
fed_none (Some m) after piece is same = absurd (true≢false is)

pub fed_some : (k after : Option KeptSeen) (m next : KeptSeen) (piece : List ℕ) (status : ℕ) → Some m ≡ k → after ≡ Some next → Fed (Some m) piece status (Some next) → Fed k piece status after
fed_some k after m next piece status is becomes does =
    subst (λ (o : Option KeptSeen). Fed k piece status o) (sym becomes) (subst (λ (o : Option KeptSeen). Fed o piece status (Some next)) is does)

pub some_fed_none : (k after : Option KeptSeen) (piece : List ℕ) (used before : ℕ) → is_some k ≡ false → after ≡ k → used ≡ before → FedSome k piece 8 used before after
some_fed_none None after piece used before is same kept = (refl, kept, same)
some_fed_none (Some m) after piece used before is same kept = absurd (true≢false is)

pub some_fed : (k after : Option KeptSeen) (m next : KeptSeen) (piece : List ℕ) (status used before : ℕ) → Some m ≡ k → after ≡ Some next → DoesFeedSome m piece status used before (Some next) → FedSome k piece status used before after
some_fed k after m next piece status used before is becomes does =
    subst (λ (o : Option KeptSeen). FedSome k piece status used before o) (sym becomes) (subst (λ (o : Option KeptSeen). FedSome o piece status used before (Some next)) is does)

pub digest_fed_none : (k after : Option KeptSeen) (digest : List ℕ) → is_some k ≡ false → after ≡ k → FedDigest k digest 8 after
digest_fed_none None after digest is same = (refl, same)
digest_fed_none (Some m) after digest is same = absurd (true≢false is)

pub digest_fed : (k after : Option KeptSeen) (m next : KeptSeen) (digest : List ℕ) (status : ℕ) → Some m ≡ k → after ≡ Some next → DoesTell m digest status (Some next) → FedDigest k digest status after
digest_fed k after m next digest status is becomes does =
    subst (λ (o : Option KeptSeen). FedDigest k digest status o) (sym becomes) (subst (λ (o : Option KeptSeen). FedDigest o digest status (Some next)) is does)

pub finished_none : (k after : Option KeptSeen) → is_some k ≡ false → after ≡ k → Finished k 8 after
finished_none None after is same = (refl, same)
finished_none (Some m) after is same = absurd (true≢false is)

pub finished_some : (k after : Option KeptSeen) (m next : KeptSeen) (status : ℕ) → Some m ≡ k → after ≡ Some next → next ≡ record m { state = next.state; admission = next.admission; telling = next.telling } → next.telling ≡ telling_finished status m.telling → FinishesKept m.places m.admission m.state status next.admission next.state
    → Finished k status after
finished_some k after m next status is becomes kind telling does =
    let ended : next ≡ record m { state = next.state; admission = next.admission; telling = telling_finished status m.telling } = kind ∙ ap (λ (t : Option Telling). record m { state = next.state; admission = next.admission; telling = t }) telling in
    subst (λ (o : Option KeptSeen). Finished o status after) is (record { next = next.state; admission = next.admission; is_next = becomes ∙ ap Some ended; does = does })
