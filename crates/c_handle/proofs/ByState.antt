-- What is done to a handle, by cases on the state of what it holds.
use Rattle.std.proofs.Common.{◌≡◌, ℕ, sym, subst}
use Rattle.machine.specs.Parked.{ParkedSeen}
use Rattle.machine.specs.Seen.{Seen}
use Rattle.sender.specs.LiveState.{LiveSeen}
use Rattle.sender.specs.Parked.{LiveParkedSeen}
use Rattle.c_handle.specs.Kept.{StillLent, MovingLent, State, Still, Moving, Lent}
use Rattle.c_handle.specs.OnHandle.{ByEachState, ByState}

pub by_still : (refused : ℕ → Type 0) (still : Seen → Seen → Type 0) (moving : LiveSeen → LiveSeen → Type 0) (k : State) (m next : Seen) → k ≡ Still m → still m next → ByState refused still moving k (Still next)
by_still refused still moving k m next is done = subst (λ (x : State). ByState refused still moving x (Still next)) (sym is) done

pub by_moving : (refused : ℕ → Type 0) (still : Seen → Seen → Type 0) (moving : LiveSeen → LiveSeen → Type 0) (k : State) (l next : LiveSeen) → k ≡ Moving l → moving l next → ByState refused still moving k (Moving next)
by_moving refused still moving k l next is done = subst (λ (x : State). ByState refused still moving x (Moving next)) (sym is) done

-- The same of a call that is done while RAM is lent too.
pub each_still : (refused : ℕ → Type 0) (still : Seen → Seen → Type 0) (moving : LiveSeen → LiveSeen → Type 0) (still_lent : ParkedSeen → ParkedSeen → Type 0) (moving_lent : LiveParkedSeen → LiveParkedSeen → Type 0) (k : State) (m next : Seen) → k ≡ Still m → still m next
    → ByEachState refused still moving still_lent moving_lent k (Still next)
each_still refused still moving still_lent moving_lent k m next is done = subst (λ (x : State). ByEachState refused still moving still_lent moving_lent x (Still next)) (sym is) done

pub each_moving : (refused : ℕ → Type 0) (still : Seen → Seen → Type 0) (moving : LiveSeen → LiveSeen → Type 0) (still_lent : ParkedSeen → ParkedSeen → Type 0) (moving_lent : LiveParkedSeen → LiveParkedSeen → Type 0) (k : State) (l next : LiveSeen) → k ≡ Moving l → moving l next
    → ByEachState refused still moving still_lent moving_lent k (Moving next)
each_moving refused still moving still_lent moving_lent k l next is done = subst (λ (x : State). ByEachState refused still moving still_lent moving_lent x (Moving next)) (sym is) done

pub each_still_lent : (refused : ℕ → Type 0) (still : Seen → Seen → Type 0) (moving : LiveSeen → LiveSeen → Type 0) (still_lent : ParkedSeen → ParkedSeen → Type 0) (moving_lent : LiveParkedSeen → LiveParkedSeen → Type 0) (k : State) (p next : ParkedSeen) → k ≡ Lent (StillLent p) → still_lent p next
    → ByEachState refused still moving still_lent moving_lent k (Lent (StillLent next))
each_still_lent refused still moving still_lent moving_lent k p next is done = subst (λ (x : State). ByEachState refused still moving still_lent moving_lent x (Lent (StillLent next))) (sym is) done

pub each_moving_lent : (refused : ℕ → Type 0) (still : Seen → Seen → Type 0) (moving : LiveSeen → LiveSeen → Type 0) (still_lent : ParkedSeen → ParkedSeen → Type 0) (moving_lent : LiveParkedSeen → LiveParkedSeen → Type 0) (k : State) (l next : LiveParkedSeen) → k ≡ Lent (MovingLent l) → moving_lent l next
    → ByEachState refused still moving still_lent moving_lent k (Lent (MovingLent next))
each_moving_lent refused still moving still_lent moving_lent k l next is done = subst (λ (x : State). ByEachState refused still moving still_lent moving_lent x (Lent (MovingLent next))) (sym is) done
