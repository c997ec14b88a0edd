-- What holds after every write, whatever was written.
use Rattle.std.specs.Prelude.{◌≡◌, ◌⊎◌, ℕ, ◌<◌, Bool, true, false, List, [], ◌∷◌, IsSomeAnd, length}
use Rattle.mmio.specs.State.{Registers, queue_at}
use Rattle.mmio.specs.declared.queue.Queue.{Queue}
use Rattle.mmio.specs.declared.effect.Effect.{Effect}
use Rattle.mmio.specs.declared.effect.Effect.TheVariants as e

-- A write keeps what identifies the device: its device id, the features that it offers, where RAM begins and how long it is, and the
-- number of its queues.
pub record IsSameDevice (old new : Registers) : Type 0 where
  pub device_id : new.device_id ≡ old.device_id
  pub offered : new.offered ≡ old.offered
  pub ram_base : new.ram_base ≡ old.ram_base
  pub ram_len : new.ram_len ≡ old.ram_len
  pub queue_count : length new.queues ≡ length old.queues

-- The queue with this number exists, and this flag of it has this value.
pub record HasQueue (r : Registers) (number : ℕ) (flag : Queue → Bool) (value : Bool) : Type 0 where
  pub exists : number < length r.queues
  pub stands : IsSomeAnd (queue_at r number) (λ q. flag q ≡ value)

-- What an effect says is so: the queue that it names exists and, by the effect, is notified, is ready, or is not ready.
abbrev pub IsTold : Effect → Registers → Type 0
IsTold (e.Notified number) r = HasQueue r number (λ q. q.is_notified) true
IsTold (e.Enabled number) r = HasQueue r number (λ q. q.is_ready) true
IsTold (e.Disabled number) r = HasQueue r number (λ q. q.is_ready) false
IsTold _ r = Unit {0}

-- A queue that is ready after a write was just made ready, and has slots; or it was ready before, with the same size and
-- the same features of the driver.
abbrev pub StaysReady : ℕ → ℕ → Queue → Queue → Type 0
StaysReady old_features features old new =
    new.is_ready ≡ true → ((old.is_ready ≡ false) × (0 < new.size)) ⊎ ((old.is_ready ≡ true) × (new.size ≡ old.size) × (features ≡ old_features))

abbrev pub EachStaysReady : ℕ → ℕ → List Queue → List Queue → Type 0
EachStaysReady old_features features [] [] = Unit {0}
EachStaysReady old_features features (o ∷ os) (n ∷ ns) = StaysReady old_features features o n × EachStaysReady old_features features os ns
EachStaysReady old_features features os ns = ⊥

-- As above, for each queue. So what the features say of a queue, as its layout, stays as it was while the queue stays ready.
abbrev pub StayReady : Registers → Registers → Type 0
StayReady old new = EachStaysReady old.common.features new.common.features old.queues new.queues
