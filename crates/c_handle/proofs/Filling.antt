-- A handle that is filled, by cases on it.
use Rattle.std.proofs.Common.{◌≡◌, ℕ, true, false, refl, sym, ◌∙◌, inl, inr, true≢false}
use Rattle.std.specs.Prelude.{Option, Some, None, is_some}
use Rattle.c_handle.specs.Filled.{Fills}
use Rattle.c_handle.specs.Kept.{KeptSeen}

pub used : (refusal : Option ℕ) (makes : KeptSeen → Type 0) (untaken : Type 0) (k after : Option KeptSeen) → is_some k ≡ true → untaken → after ≡ k → Fills refusal makes untaken k 9 after
used refusal makes untaken None after is kept same = absurd (true≢false (sym is))
used refusal makes untaken (Some m) after is kept same = record { status_is = refl; same = same; left = kept }

pub refused : (refusal : Option ℕ) (makes : KeptSeen → Type 0) (untaken : Type 0) (k after : Option KeptSeen) (answer : Option ℕ) (status : ℕ) → is_some k ≡ false → answer ≡ refusal → answer ≡ Some status → untaken → after ≡ k
    → Fills refusal makes untaken k status after
refused refusal makes untaken None after answer status is asked why kept same = rw (sym asked ∙ why) (record { status_is = refl; same = same; left = kept })
refused refusal makes untaken (Some m) after answer status is asked why kept same = absurd (true≢false is)

pub full : (refusal : Option ℕ) (makes : KeptSeen → Type 0) (untaken : Type 0) (k after : Option KeptSeen) → is_some k ≡ false → refusal ≡ None → untaken → after ≡ k → Fills refusal makes untaken k 10 after
full refusal makes untaken None after is fine kept same = rw fine (inr (record { status_is = refl; same = same; left = kept }))
full refusal makes untaken (Some m) after is fine kept same = absurd (true≢false is)

pub done : (refusal : Option ℕ) (makes : KeptSeen → Type 0) (untaken : Type 0) (k after : Option KeptSeen) (m : KeptSeen) → is_some k ≡ false → refusal ≡ None → after ≡ Some m → makes m → Fills refusal makes untaken k 0 after
done refusal makes untaken None after m is fine becomes made = rw fine (inl (record { kept = m; is_there = becomes; is_made = made; status_is = refl }))
done refusal makes untaken (Some old) after m is fine becomes made = absurd (true≢false is)
