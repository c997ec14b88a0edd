-- What is done to a handle, and told of one, by cases on it.
use Rattle.std.proofs.Common.{◌≡◌, ℕ, Bool, List, false, ap, ◌∙◌, subst, true≢false}
use Rattle.std.specs.Prelude.{Option, Some, None, is_some}
use Rattle.c_handle.specs.Kept.{KeptSeen, State}
use Rattle.c_handle.specs.OnHandle.{OfHandle, OnHandle, OnLoggedHandle, OnToldHandle}

pub on_none : (refused : ℕ → Type 0) (does : KeptSeen → State → Type 0) (k after : Option KeptSeen) → is_some k ≡ false → refused 8 → after ≡ k → OnHandle refused does k after
on_none refused does None after is not same = (not, same)
on_none refused does (Some m) after is not same = absurd (true≢false is)

pub on_some : (refused : ℕ → Type 0) (does : KeptSeen → State → Type 0) (k after : Option KeptSeen) (m next : KeptSeen) → Some m ≡ k → after ≡ Some next → next ≡ record m { state = next.state } → does m next.state
    → OnHandle refused does k after
on_some refused does k after m next is becomes kind done = subst (λ (o : Option KeptSeen). OnHandle refused does o after) is (record { next = next.state; is_next = becomes ∙ ap Some kind; done = done })

-- The same of a call that begins a migration or ends one.
pub told_none : (refused : ℕ → Type 0) (told : KeptSeen → State → Bool) (does : KeptSeen → State → Type 0) (k after : Option KeptSeen) → is_some k ≡ false → refused 8 → after ≡ k → OnToldHandle refused told does k after
told_none refused told does None after is not same = (not, same)
told_none refused told does (Some m) after is not same = absurd (true≢false is)

pub told_some : (refused : ℕ → Type 0) (told : KeptSeen → State → Bool) (does : KeptSeen → State → Type 0) (k after : Option KeptSeen) (m next : KeptSeen) → Some m ≡ k → after ≡ Some next → next ≡ record m { state = next.state; told = told m next.state } → does m next.state
    → OnToldHandle refused told does k after
told_some refused told does k after m next is becomes kind done = subst (λ (o : Option KeptSeen). OnToldHandle refused told does o after) is (record { next = next.state; is_next = becomes ∙ ap Some kind; done = done })

pub of_none : (refused : ℕ → Type 0) (tells : State → Type 0) (k : Option KeptSeen) → is_some k ≡ false → refused 8 → OfHandle refused tells k
of_none refused tells None is not = not
of_none refused tells (Some m) is not = absurd (true≢false is)

pub of_some : (refused : ℕ → Type 0) (tells : State → Type 0) (k : Option KeptSeen) (m : KeptSeen) → Some m ≡ k → tells m.state → OfHandle refused tells k
of_some refused tells k m is told = subst (λ (o : Option KeptSeen). OfHandle refused tells o) is told

-- The same of a call that may write into RAM.
pub logged_none : (refused : ℕ → Type 0) (does : KeptSeen → State → Option (List Bool) → Type 0) (k after : Option KeptSeen) → is_some k ≡ false → refused 8 → after ≡ k → OnLoggedHandle refused does k after
logged_none refused does None after is not same = (not, same)
logged_none refused does (Some m) after is not same = absurd (true≢false is)

pub logged_some : (refused : ℕ → Type 0) (does : KeptSeen → State → Option (List Bool) → Type 0) (k after : Option KeptSeen) (m next : KeptSeen) → Some m ≡ k → after ≡ Some next → next ≡ record m { state = next.state; written = next.written }
    → does m next.state next.written → OnLoggedHandle refused does k after
logged_some refused does k after m next is becomes kind done =
    subst (λ (o : Option KeptSeen). OnLoggedHandle refused does o after) is (record { next = next.state; log = next.written; is_next = becomes ∙ ap Some kind; done = done })
