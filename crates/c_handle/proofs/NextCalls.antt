-- Where no step has something to do, the numbers that name one are as they were.
use Rattle.std.proofs.Common.{◌≡◌, ℕ, Bool, true, false, List, refl, arith}
use Rattle.std.specs.Prelude.{Option, Some, None, if◌then◌else◌, slice_get, slice_index_or}
use Rattle.blk.specs.declared.durable.SyncOwed.{SyncOwed}
use Rattle.blk.specs.declared.durable.SyncOwed.TheVariants.{Nothing, Flush, EndOfWrite}
use Rattle.machine.specs.NextWork.{next_work_with_lost}
use Rattle.machine.specs.Parked.{parked_states}
use Rattle.machine.specs.Seen.{state_of}
use Rattle.machine.specs.State.{DeviceState}
use Rattle.machine.specs.declared.work.Work.{Work}
use Rattle.c_handle.specs.Durable.{owed_for}
use Rattle.c_handle.specs.Kept.{State, Still, Moving, Arriving, Lent, StillLent, MovingLent}
use Rattle.c_handle.specs.Mirror.{is_closed}
use Rattle.c_handle.specs.NextWork.{FindsIn, FindsUnless, NamesWork, owed_status}

none_owed : (o : SyncOwed) → 65 ≡ owed_status o → ⊥
none_owed Nothing is = omega (arith, is)
none_owed Flush is = omega (arith, is)
none_owed EndOfWrite is = omega (arith, is)

none_named : (lost : Bool) (o : SyncOwed) → 65 ≡ (if lost then 78 else owed_status o) → ⊥
none_named true o is = omega (arith, is)
none_named false o is = none_owed o is

-- No step has something to do, whatever the numbers were.
pub record IsIdle (lost : List Bool) (state : State) (dev old_dev pick old_pick : ℕ) : Type 0 where
  pub none : FindsIn lost state 65 old_dev old_dev old_pick old_pick
  pub dev_same : dev ≡ old_dev
  pub pick_same : pick ≡ old_pick

record IsNone (P : ℕ → ℕ → Type 0) (dev old_dev pick old_pick : ℕ) : Type 0 where
  none : P old_dev old_pick
  dev_same : dev ≡ old_dev
  pick_same : pick ≡ old_pick

names_none : (lost : List Bool) (devices : List DeviceState) (found : Option Work) (dev old_dev pick old_pick : ℕ) → NamesWork lost devices found 65 dev old_dev pick old_pick → IsNone (λ d p. NamesWork lost devices found 65 d old_dev p old_pick) dev old_dev pick old_pick
names_none lost devices (Some w) dev old_dev pick old_pick named = absurd (none_named (slice_index_or lost w.dev false) (owed_for (slice_get devices w.dev) w.pick) named.0)
names_none lost devices None dev old_dev pick old_pick named = record { none = (refl, refl, refl); dev_same = named.1; pick_same = named.2 }

unless_none : (closed : Bool) (lost : List Bool) (devices : List DeviceState) (dev old_dev pick old_pick : ℕ) → FindsUnless closed lost devices 65 dev old_dev pick old_pick → IsNone (λ d p. FindsUnless closed lost devices 65 d old_dev p old_pick) dev old_dev pick old_pick
unless_none true lost devices dev old_dev pick old_pick found = let other : 65 ≡ 21 = found.0 in absurd (omega (arith, other))
unless_none false lost devices dev old_dev pick old_pick found = names_none lost devices (next_work_with_lost devices lost (record { dev = old_dev; pick = old_pick })) dev old_dev pick old_pick found

pub idle_in : (lost : List Bool) (state : State) (dev old_dev pick old_pick : ℕ) → FindsIn lost state 65 dev old_dev pick old_pick → IsIdle lost state dev old_dev pick old_pick
idle_in lost (Still m) dev old_dev pick old_pick found = let n = unless_none false lost (state_of m).devices dev old_dev pick old_pick found in record { none = n.none; dev_same = n.dev_same; pick_same = n.pick_same }
idle_in lost (Moving l) dev old_dev pick old_pick found = let n = unless_none (is_closed l.phase) lost (state_of l.machine).devices dev old_dev pick old_pick found in record { none = n.none; dev_same = n.dev_same; pick_same = n.pick_same }
idle_in lost (Arriving r) dev old_dev pick old_pick found = let other : 65 ≡ 8 = found.0 in absurd (omega (arith, other))
idle_in lost (Lent (StillLent p)) dev old_dev pick old_pick found = let n = unless_none false lost (parked_states p) dev old_dev pick old_pick found in record { none = n.none; dev_same = n.dev_same; pick_same = n.pick_same }
idle_in lost (Lent (MovingLent l)) dev old_dev pick old_pick found = let n = unless_none (is_closed l.phase) lost (parked_states l.machine) dev old_dev pick old_pick found in record { none = n.none; dev_same = n.dev_same; pick_same = n.pick_same }
