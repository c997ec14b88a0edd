-- A write leaves ready queues as large as they were, and in their layout.
use Rattle.std.proofs.Common.{◌≡◌, inl, inr, ℕ, zero, suc, ◌<◌, List, [], ◌∷◌, length, replicate, set, Option, Some, None, Bool, true, false, cond, refl, sym, ◌∙◌, subst, arith, eqb, ltb}
use Rattle.std.specs.Prelude.{◌-◌, not, ◌&&◌, bit_and}
use Rattle.std.specs.List.{slice_get, All}
use Rattle.std.proofs.lemmas.Bool.{eqb-false}
use borrow.Author.Tests.{ltb-true}
use Rattle.mmio.specs.Bits.{with_half}
use Rattle.mmio.specs.State.{Registers, first_queue, reset_registers, with_common, with_queue, queue_at, selected}
use Rattle.mmio.specs.Effects.{StaysReady, EachStaysReady, StayReady}
use Rattle.mmio.specs.QueueReady.{may_be_ready}
use Rattle.mmio.specs.QueueRegisters.{queue_written, size_or_address_written, ready_written, notify_written}
use Rattle.mmio.specs.RegisterTable.{register_at}
use Rattle.mmio.specs.RegisterWrite.{register_write, register_written, written_at, status_written}
use Rattle.mmio.specs.Configuration.{configuration_effect}
use Rattle.mmio.specs.Status.{status_after}
use Rattle.mmio.specs.Sound.{IsSoundRegisters}
use Rattle.mmio.specs.declared.common.Common.{Common}
use Rattle.mmio.specs.declared.effect.Effect.{Effect}
use Rattle.mmio.specs.declared.effect.Effect.TheVariants as e
use Rattle.mmio.specs.declared.queue.Queue.{Queue}
use Rattle.mmio.specs.declared.register.Register.{Register}
use Rattle.mmio.specs.declared.register.Register.TheVariants as x

stays_by : (b : ℕ) (q : Queue) (ready : Bool) → q.is_ready ≡ ready → StaysReady b b q q
stays_by b q true is h = inr (is, refl, refl)
stays_by b q false is h = cc

stays : (b : ℕ) (q : Queue) → StaysReady b b q q
stays b q = stays_by b q q.is_ready refl

each_stays : (b : ℕ) (qs : List Queue) → EachStaysReady b b qs qs
each_stays b [] = tt
each_stays b (q ∷ qs) = (stays b q, each_stays b qs)

one_set : (b : ℕ) (qs : List Queue) (n : ℕ) (q new : Queue) → slice_get qs n ≡ Some q → StaysReady b b q new → EachStaysReady b b qs (set qs n new)
one_set b [] n q new at h = tt
one_set b (p ∷ qs) zero q new at h = let is : p ≡ q = cc in (subst (λ y. StaysReady b b y new) (sym is) h, each_stays b qs)
one_set b (p ∷ qs) (suc n) q new at h = (stays b p, one_set b qs n q new at h)

all_first : (was is : ℕ) (qs : List Queue) → EachStaysReady was is qs (replicate (length qs) first_queue)
all_first was is [] = tt
all_first was is (q ∷ qs) = ((λ h. cc), all_first was is qs)

none_ready : (was is : ℕ) (qs : List Queue) → All (λ q. q.is_ready ≡ true → ⊥) qs → EachStaysReady was is qs qs
none_ready was is [] h = tt
none_ready was is (q ∷ qs) h = ((λ r. absurd (h 0 q (omega arith) r)), none_ready was is qs (λ k d below. h (suc k) d (omega (arith, below))))

-- Either of two outcomes.
either : (r : Registers) (b : Bool) (p q : Effect × Registers) → StayReady r p.1 → StayReady r q.1 → StayReady r (cond b p q).1
either r true p q h k = h
either r false p q h k = k

same : (r : Registers) → StayReady r r
same r = each_stays r.common.features r.queues

features_by : (r : Registers) (c : Common) (settled : Bool) → eqb (bit_and r.common.status 8) 8 ≡ settled → IsSoundRegisters r → StayReady r (with_common r (cond settled r.common c))
features_by r c true is sound = same r
features_by r c false is sound = none_ready r.common.features c.features r.queues
    (λ k d below h. eqb-false (bit_and r.common.status 8) 8 is ((sound.queues k d below).ready h).settled)

queue_written_ready : (register : Register) (v : ℕ) (q : Queue) → (queue_written register v q).is_ready ≡ q.is_ready
unfolding queue_written
queue_written_ready x.QueueNum v q = refl
queue_written_ready x.QueueDescLow v q = refl
queue_written_ready x.QueueDescHigh v q = refl
queue_written_ready x.QueueDriverLow v q = refl
queue_written_ready x.QueueDriverHigh v q = refl
queue_written_ready x.QueueDeviceLow v q = refl
queue_written_ready x.QueueDeviceHigh v q = refl
queue_written_ready register v q = refl

size_by : (r : Registers) (register : Register) (v : ℕ) (q : Queue) (ready : Bool) → q.is_ready ≡ ready → slice_get r.queues r.common.queue_select ≡ Some q
    → StayReady r (cond {A = Effect × Registers} ready (e.None, r) (e.None, with_queue r r.common.queue_select (queue_written register v q))).1
size_by r register v q true is at = same r
size_by r register v q false is at =
    one_set r.common.features r.queues r.common.queue_select q (queue_written register v q) at
    (λ h. let never : false ≡ true = sym (queue_written_ready register v q ∙ is) ∙ h in cc)

size_stays : (r : Registers) (register : Register) (v : ℕ) (q : Option Queue) → slice_get r.queues r.common.queue_select ≡ q → StayReady r (size_or_address_written r register v q).1
size_stays r register v None at = same r
size_stays r register v (Some q) at = size_by r register v q q.is_ready refl at

-- What a queue that may be ready has.
first_of_and : (a b : Bool) → (a && b) ≡ true → a ≡ true
first_of_and true b h = refl
first_of_and false b h = cc

second_of_and : (a b : Bool) → (a && b) ≡ true → b ≡ true
second_of_and true b h = h
second_of_and false b h = cc

has_slots : (base ram_len : ℕ) (c : Common) (q : Queue) → may_be_ready base ram_len c q ≡ true → 0 < q.size
unfolding may_be_ready
has_slots base ram_len c q h =
    let few = first_of_and _ _ (first_of_and _ _ h) in
    let some = first_of_and _ _ few in
    let slots : ltb 0 q.size ≡ true = second_of_and _ _ some in
    ltb-true 0 q.size slots

not_true : (b : Bool) → not b ≡ true → b ≡ false
not_true true h = cc
not_true false h = refl

enabled : (r : Registers) (v : ℕ) (q : Queue) (may : Bool) → (eqb v 1 && not q.is_ready && may_be_ready r.ram_base r.ram_len r.common q) ≡ may → slice_get r.queues r.common.queue_select ≡ Some q
    → StayReady r (cond {A = Effect × Registers} may (e.Enabled r.common.queue_select, with_queue r r.common.queue_select (record q { is_ready = true })) (e.None, r)).1
enabled r v q false is at = same r
enabled r v q true is at =
    let slots : 0 < q.size = has_slots r.ram_base r.ram_len r.common q (second_of_and _ _ is) in
    let idle : q.is_ready ≡ false = not_true q.is_ready (second_of_and _ _ (first_of_and _ _ is)) in
    one_set r.common.features r.queues r.common.queue_select q (record q { is_ready = true }) at (λ h. inl (idle, slots))

ready_stays : (r : Registers) (v : ℕ) (q : Option Queue) → slice_get r.queues r.common.queue_select ≡ q → StayReady r (ready_written r v q).1
ready_stays r v None at = same r
ready_stays r v (Some q) at =
    either r (eqb v 0) (e.Disabled r.common.queue_select, with_queue r r.common.queue_select (record q { is_ready = false; is_notified = false }))
    (cond (eqb v 1 && not q.is_ready && may_be_ready r.ram_base r.ram_len r.common q) (e.Enabled r.common.queue_select, with_queue r r.common.queue_select (record q { is_ready = true })) (e.None, r))
    (one_set r.common.features r.queues r.common.queue_select q (record q { is_ready = false; is_notified = false }) at (λ h. cc))
    (enabled r v q (eqb v 1 && not q.is_ready && may_be_ready r.ram_base r.ram_len r.common q) refl at)

notified_by : (b : ℕ) (q : Queue) (ready : Bool) → q.is_ready ≡ ready → StaysReady b b q (record q { is_notified = true })
notified_by b q true is h = inr (is, refl, refl)
notified_by b q false is h = cc

notify_stays : (r : Registers) (v : ℕ) (q : Option Queue) → slice_get r.queues v ≡ q → StayReady r (notify_written r v q).1
notify_stays r v None at = same r
notify_stays r v (Some q) at = either r q.is_ready (e.Notified v, with_queue r v (record q { is_notified = true })) (e.None, r)
    (one_set r.common.features r.queues v q (record q { is_notified = true }) at (notified_by r.common.features q q.is_ready refl)) (same r)

status_stays : (r : Registers) (v : ℕ) → StayReady r (status_written r v).1
status_stays r v = either r (eqb v 0) (e.Reset, reset_registers r) (e.None, with_common r (record r.common { status = status_after r.offered r.common v }))
    (all_first r.common.features 0 r.queues) (same r)

register_stays : (r : Registers) (register : Register) (v : ℕ) → IsSoundRegisters r → StayReady r (register_written r register v).1
unfolding register_written
register_stays r x.DriverFeatures v sound = features_by r (record r.common { features = with_half r.common.features r.common.driver_select v }) (eqb (bit_and r.common.status 8) 8) refl sound
register_stays r x.QueueNum v sound = size_stays r x.QueueNum v (selected r) refl
register_stays r x.QueueDescLow v sound = size_stays r x.QueueDescLow v (selected r) refl
register_stays r x.QueueDescHigh v sound = size_stays r x.QueueDescHigh v (selected r) refl
register_stays r x.QueueDriverLow v sound = size_stays r x.QueueDriverLow v (selected r) refl
register_stays r x.QueueDriverHigh v sound = size_stays r x.QueueDriverHigh v (selected r) refl
register_stays r x.QueueDeviceLow v sound = size_stays r x.QueueDeviceLow v (selected r) refl
register_stays r x.QueueDeviceHigh v sound = size_stays r x.QueueDeviceHigh v (selected r) refl
register_stays r x.QueueReady v sound = ready_stays r v (selected r) refl
register_stays r x.QueueNotify v sound = notify_stays r v (queue_at r v) refl
register_stays r x.Status v sound = status_stays r v
register_stays r register v sound = same r

written_stays : (r : Registers) (register : Option Register) (v : ℕ) → IsSoundRegisters r → StayReady r (written_at r register v).1
written_stays r None v sound = same r
written_stays r (Some register) v sound = register_stays r register v sound

pub write_stays : (r : Registers) (offset width v : ℕ) → IsSoundRegisters r → StayReady r (register_write r offset width v).1
write_stays r offset width v sound =
    either r (ltb offset 256) (cond (eqb width 4) (written_at r (register_at offset) v) (e.None, r)) (configuration_effect (offset - 256) width, r)
    (either r (eqb width 4) (written_at r (register_at offset) v) (e.None, r) (written_stays r (register_at offset) v sound) (same r)) (same r)
