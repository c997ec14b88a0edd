-- Sound registers stay sound, and those of the same device, whatever fits is written and whatever the device tells.
use Rattle.std.proofs.Common.{◌≡◌, ℕ, ◌+◌, ◌-◌, ◌*◌, ◌%◌, ◌^◌, ◌<◌, ◌≤◌, length, replicate, Option, Some, None, Bool, true, false, cond, refl, sym, ◌∙◌, arith, eqb, ltb}
use Rattle.std.specs.Prelude.{not, ◌&&◌, ◌||◌, bit_and, bit_or}
use Rattle.std.specs.Int.{is_power_of_two}
use Rattle.std.specs.List.{slice_get}
use Rattle.std.proofs.lemmas.Bool.{eqb-true, eqb-false, leb-true}
use borrow.Author.Tests.{ltb-true}
use Rattle.std.proofs.lemmas.Nat.{and_le_l, or_lt}
use Rattle.std.proofs.lemmas.List.{length-replicate}
use Rattle.std.proofs.lemmas.List.Elements.{All-replicate}
use Rattle.std.proofs.lemmas.Option.{get_or_from_slice_get, slice_get_within}
use Rattle.std.proofs.Math.ListN.{length-set}
use Rattle.mmio.specs.Bits.{has, Has, with_half}
use Rattle.mmio.specs.State.{Registers, first_queue, first_common, first_registers, reset_registers, with_common, with_queue, queue_at, selected}
use Rattle.mmio.specs.Effects.{IsSameDevice}
use Rattle.mmio.specs.Interrupts.{used_raised, reset_asked}
use Rattle.mmio.specs.Areas.{driver_alignment, driver_bytes, device_bytes}
use Rattle.mmio.specs.QueueReady.{IsInside, AreInside, MayBeReady, is_inside, are_inside, may_be_ready}
use Rattle.mmio.specs.QueueRegisters.{queue_written, size_or_address_written, ready_written, notify_written, notified_cleared}
use Rattle.mmio.specs.RegisterTable.{register_at}
use Rattle.mmio.specs.RegisterWrite.{register_write, register_written, written_at, status_written}
use Rattle.mmio.specs.Configuration.{configuration_effect}
use Rattle.mmio.specs.Status.{status_after}
use Rattle.mmio.specs.Sound.{FitsQueue, IsSoundQueue, IsSoundRegisters}
use Rattle.mmio.specs.declared.common.Common.{Common}
use Rattle.mmio.specs.declared.constants.TheConstants.{QUEUE_COUNT_MAX}
use Rattle.mmio.specs.declared.effect.Effect.{Effect}
use Rattle.mmio.specs.declared.effect.Effect.TheVariants as e
use Rattle.mmio.specs.declared.queue.Queue.{Queue}
use Rattle.mmio.specs.declared.register.Register.{Register}
use Rattle.mmio.specs.declared.register.Register.TheVariants as x
use Rattle.mmio.proofs.Keeping.{fits_still, registers_stay, queues_kept, status_kept, asked_kept}

-- Sound registers of one and the same device.
pub record StaysSound (old new : Registers) : Type 0 where
  pub same : IsSameDevice old new
  pub sound : IsSoundRegisters new

stays_as_it_is : (r : Registers) → IsSoundRegisters r → StaysSound r r
stays_as_it_is r h = record { same = record { device_id = refl; offered = refl; ram_base = refl; ram_len = refl; queue_count = refl }; sound = h }

same_common : (r : Registers) (c : Common) → IsSameDevice r (with_common r c)
same_common r c = record { device_id = refl; offered = refl; ram_base = refl; ram_len = refl; queue_count = refl }

same_queue : (r : Registers) (n : ℕ) (q : Queue) → IsSameDevice r (with_queue r n q)
same_queue r n q = record { device_id = refl; offered = refl; ram_base = refl; ram_len = refl; queue_count = length-set r.queues n q }

either : (r : Registers) (b : Bool) (p q : Effect × Registers) → StaysSound r p.1 → StaysSound r q.1 → StaysSound r (cond b p q).1
either r true p q h k = h
either r false p q h k = k

-- Fields beside the status: FEATURES_OK and the features stay.
selected_sound : (r : Registers) (device driver queue : ℕ) → device < 2 ^ 32 → driver < 2 ^ 32 → queue < 2 ^ 32 → IsSoundRegisters r
    → StaysSound r (with_common r (record r.common { device_select = device; driver_select = driver; queue_select = queue }))
selected_sound r device driver queue a b c h = record {
  same = same_common r (record r.common { device_select = device; driver_select = driver; queue_select = queue });
  sound = registers_stay r (record r.common { device_select = device; driver_select = driver; queue_select = queue }) (λ k. k) refl (record {
    fits = record { device_select = a; driver_select = b; features = h.common.fits.features; queue_select = c; generation = h.common.fits.generation };
    status = h.common.status;
    interrupts = h.common.interrupts;
    offered_only = h.common.offered_only;
    version = h.common.version;
  }) h;
}

-- Interrupts that are known ones.
interrupts_sound : (r : Registers) (i : ℕ) → i ≤ 3 → IsSoundRegisters r → StaysSound r (with_common r (record r.common { interrupts = i }))
interrupts_sound r i few h = record {
  same = same_common r (record r.common { interrupts = i });
  sound = registers_stay r (record r.common { interrupts = i }) (λ k. k) refl (record {
    fits = fits_still r.common r.common.status i h.common.fits;
    status = h.common.status;
    interrupts = few;
    offered_only = h.common.offered_only;
    version = h.common.version;
  }) h;
}

half_by : (n select v : ℕ) → n < 2 ^ 64 → v < 2 ^ 32 → (low high : Bool) → eqb select 0 ≡ low → eqb select 1 ≡ high → with_half n select v < 2 ^ 64
half_by n select v big small true high is also = rw is (omega arith)
half_by n select v big small false true is also = rw (is, also) (omega arith)
half_by n select v big small false false is also = rw (is, also) big

half_fits : (n select v : ℕ) → n < 2 ^ 64 → v < 2 ^ 32 → with_half n select v < 2 ^ 64
half_fits n select v big small = half_by n select v big small (eqb select 0) (eqb select 1) refl refl

-- The driver's features, before FEATURES_OK: no queue is ready then.
features_sound : (r : Registers) (f : ℕ) (settled : Bool) → eqb (bit_and r.common.status 8) 8 ≡ settled → f < 2 ^ 64 → IsSoundRegisters r
    → StaysSound r (with_common r (cond settled r.common (record r.common { features = f })))
features_sound r f true is fits h = stays_as_it_is r h
features_sound r f false is fits h =
    let open_still : Has r.common.status 8 → ⊥ = eqb-false (bit_and r.common.status 8) 8 is in
    record {
      same = same_common r (record r.common { features = f });
      sound = record {
        device_id = h.device_id;
        offered = h.offered;
        ram_base = h.ram_base;
        ram_len = h.ram_len;
        few = h.few;
        common = record {
          fits = record { device_select = h.common.fits.device_select; driver_select = h.common.fits.driver_select; features = fits; queue_select = h.common.fits.queue_select; generation = h.common.fits.generation };
          status = h.common.status;
          interrupts = h.common.interrupts;
          offered_only = λ k. absurd (open_still k);
          version = λ k. absurd (open_still k);
        };
        queues = λ k d below. record {
          fits = (h.queues k d below).fits;
          notified = (h.queues k d below).notified;
          ready = λ is_ready. absurd (open_still ((h.queues k d below).ready is_ready).settled);
        };
      };
    }

-- A queue of sound registers is sound.
pub queue_sound : (r : Registers) (n : ℕ) (q : Queue) → slice_get r.queues n ≡ Some q → IsSoundRegisters r → IsSoundQueue r.ram_base r.ram_len r.common q
queue_sound r n q at h = rw (get_or_from_slice_get r.queues n q q at) at (h.queues n q (slice_get_within r.queues n q at))

with_queue_sound : (r : Registers) (n : ℕ) (q : Queue) → IsSoundQueue r.ram_base r.ram_len r.common q → IsSoundRegisters r → StaysSound r (with_queue r n q)
with_queue_sound r n q sound h = record { same = same_queue r n q; sound = queues_kept r n q h sound }

-- What a test of readiness tells.
first_of_and : (a b : Bool) → (a && b) ≡ true → a ≡ true
first_of_and true b h = refl
first_of_and false b h = cc

second_of_and : (a b : Bool) → (a && b) ≡ true → b ≡ true
second_of_and true b h = h
second_of_and false b h = cc

inside_from : (base ram_len from align bytes : ℕ) → is_inside base ram_len from align bytes ≡ true → IsInside base ram_len from align bytes
inside_from base ram_len from align bytes h = record {
  aligned = eqb-true (from % align) 0 (first_of_and _ _ h);
  within = record {
    exists = ltb-true from (2 ^ 64) (first_of_and _ _ (first_of_and _ _ (second_of_and _ _ h)));
    above = leb-true base from (second_of_and _ _ (first_of_and _ _ (second_of_and _ _ h)));
    below = leb-true (from + bytes) (base + ram_len) (second_of_and _ _ (second_of_and _ _ h));
  };
}

are_from : (base ram_len : ℕ) (packed : Bool) (q : Queue) → are_inside base ram_len packed q ≡ true → AreInside base ram_len packed q
are_from base ram_len packed q h =
    let two = first_of_and _ _ h in
    record {
      descriptors = inside_from base ram_len q.descriptors 16 (16 * q.size) (first_of_and _ _ two);
      driver = inside_from base ram_len q.driver (driver_alignment packed) (driver_bytes packed q.size) (second_of_and _ _ two);
      device = inside_from base ram_len q.device 4 (device_bytes packed q.size) (second_of_and _ _ h);
    }

power_from : (packed power : Bool) → (packed || power) ≡ true → (packed ≡ true → ⊥) → power ≡ true
power_from true power h other = absurd (other refl)
power_from false power h other = h

may_from : (base ram_len : ℕ) (c : Common) (q : Queue) → may_be_ready base ram_len c q ≡ true → MayBeReady base ram_len c q
unfolding may_be_ready
may_from base ram_len c q h =
    let four = first_of_and _ _ h in
    let three = first_of_and _ _ four in
    let two = first_of_and _ _ three in
    record {
      settled = eqb-true (bit_and c.status 8) 8 (first_of_and _ _ two);
      some = ltb-true 0 q.size (second_of_and _ _ two);
      few = leb-true q.size 256 (second_of_and _ _ three);
      power = λ other. power_from (has c.features (2 ^ 34)) (is_power_of_two q.size) (second_of_and _ _ four) (λ packed. other (eqb-true (bit_and c.features (2 ^ 34)) (2 ^ 34) packed));
      areas = are_from base ram_len (has c.features (2 ^ 34)) q (second_of_and _ _ h);
    }

-- Size and addresses of a queue that is not ready.
written_fits : (register : Register) (v : ℕ) (q : Queue) → v < 2 ^ 32 → FitsQueue q → FitsQueue (queue_written register v q)
unfolding queue_written
written_fits x.QueueNum v q small h = record { size = small; descriptors = h.descriptors; driver = h.driver; device = h.device }
written_fits x.QueueDescLow v q small h = record { size = h.size; descriptors = half_fits q.descriptors 0 v h.descriptors small; driver = h.driver; device = h.device }
written_fits x.QueueDescHigh v q small h = record { size = h.size; descriptors = half_fits q.descriptors 1 v h.descriptors small; driver = h.driver; device = h.device }
written_fits x.QueueDriverLow v q small h = record { size = h.size; descriptors = h.descriptors; driver = half_fits q.driver 0 v h.driver small; device = h.device }
written_fits x.QueueDriverHigh v q small h = record { size = h.size; descriptors = h.descriptors; driver = half_fits q.driver 1 v h.driver small; device = h.device }
written_fits x.QueueDeviceLow v q small h = record { size = h.size; descriptors = h.descriptors; driver = h.driver; device = half_fits q.device 0 v h.device small }
written_fits x.QueueDeviceHigh v q small h = record { size = h.size; descriptors = h.descriptors; driver = h.driver; device = half_fits q.device 1 v h.device small }
written_fits register v q small h = h

-- What a write to these registers leaves of the flags.
record KeepsFlags (old new : Queue) : Type 0 where
  ready : new.is_ready ≡ old.is_ready
  notified : new.is_notified ≡ old.is_notified

written_flags : (register : Register) (v : ℕ) (q : Queue) → KeepsFlags q (queue_written register v q)
unfolding queue_written
written_flags x.QueueNum v q = record { ready = refl; notified = refl }
written_flags x.QueueDescLow v q = record { ready = refl; notified = refl }
written_flags x.QueueDescHigh v q = record { ready = refl; notified = refl }
written_flags x.QueueDriverLow v q = record { ready = refl; notified = refl }
written_flags x.QueueDriverHigh v q = record { ready = refl; notified = refl }
written_flags x.QueueDeviceLow v q = record { ready = refl; notified = refl }
written_flags x.QueueDeviceHigh v q = record { ready = refl; notified = refl }
written_flags register v q = record { ready = refl; notified = refl }

size_by : (r : Registers) (register : Register) (v : ℕ) (q : Queue) (ready : Bool) → q.is_ready ≡ ready → slice_get r.queues r.common.queue_select ≡ Some q → v < 2 ^ 32 → IsSoundRegisters r
    → StaysSound r (cond {A = Effect × Registers} ready (e.None, r) (e.None, with_queue r r.common.queue_select (queue_written register v q))).1
size_by r register v q true is at small h = stays_as_it_is r h
size_by r register v q false is at small h =
    let was = queue_sound r r.common.queue_select q at h in
    let flags = written_flags register v q in
    with_queue_sound r r.common.queue_select (queue_written register v q) (record {
      fits = written_fits register v q small was.fits;
      notified = λ k. rw flags.ready (was.notified (rw flags.notified at k));
      ready = λ k. let never : false ≡ true = sym is ∙ sym flags.ready ∙ k in cc;
    }) h

size_sound : (r : Registers) (register : Register) (v : ℕ) (q : Option Queue) → slice_get r.queues r.common.queue_select ≡ q → v < 2 ^ 32 → IsSoundRegisters r → StaysSound r (size_or_address_written r register v q).1
size_sound r register v None at small h = stays_as_it_is r h
size_sound r register v (Some q) at small h = size_by r register v q q.is_ready refl at small h

-- A queue that becomes ready, and one that is made not ready.
enabled : (r : Registers) (v : ℕ) (q : Queue) (may : Bool) → (eqb v 1 && not q.is_ready && may_be_ready r.ram_base r.ram_len r.common q) ≡ may → slice_get r.queues r.common.queue_select ≡ Some q → IsSoundRegisters r
    → StaysSound r (cond {A = Effect × Registers} may (e.Enabled r.common.queue_select, with_queue r r.common.queue_select (record q { is_ready = true })) (e.None, r)).1
enabled r v q false is at h = stays_as_it_is r h
enabled r v q true is at h =
    let may = may_from r.ram_base r.ram_len r.common q (second_of_and _ _ is) in
    with_queue_sound r r.common.queue_select (record q { is_ready = true }) (record {
      fits = record { size = (queue_sound r r.common.queue_select q at h).fits.size; descriptors = (queue_sound r r.common.queue_select q at h).fits.descriptors; driver = (queue_sound r r.common.queue_select q at h).fits.driver; device = (queue_sound r r.common.queue_select q at h).fits.device };
      notified = λ k. refl;
      ready = λ k. record {
        settled = may.settled;
        some = may.some;
        few = may.few;
        power = may.power;
        areas = record { descriptors = may.areas.descriptors; driver = may.areas.driver; device = may.areas.device };
      };
    }) h

ready_sound : (r : Registers) (v : ℕ) (q : Option Queue) → slice_get r.queues r.common.queue_select ≡ q → IsSoundRegisters r → StaysSound r (ready_written r v q).1
ready_sound r v None at h = stays_as_it_is r h
ready_sound r v (Some q) at h =
    let fits = (queue_sound r r.common.queue_select q at h).fits in
    either r (eqb v 0) (e.Disabled r.common.queue_select, with_queue r r.common.queue_select (record q { is_ready = false; is_notified = false }))
    (cond (eqb v 1 && not q.is_ready && may_be_ready r.ram_base r.ram_len r.common q) (e.Enabled r.common.queue_select, with_queue r r.common.queue_select (record q { is_ready = true })) (e.None, r))
    (with_queue_sound r r.common.queue_select (record q { is_ready = false; is_notified = false }) (record {
      fits = record { size = fits.size; descriptors = fits.descriptors; driver = fits.driver; device = fits.device };
      notified = λ k. cc;
      ready = λ k. cc;
    }) h)
    (enabled r v q (eqb v 1 && not q.is_ready && may_be_ready r.ram_base r.ram_len r.common q) refl at h)

-- A queue whose notified flag changes, the flag being set only where it is ready.
flag_sound : (r : Registers) (n : ℕ) (q : Queue) (flag : Bool) → slice_get r.queues n ≡ Some q → (flag ≡ true → q.is_ready ≡ true) → IsSoundRegisters r → StaysSound r (with_queue r n (record q { is_notified = flag }))
flag_sound r n q flag at only h =
    let was = queue_sound r n q at h in
    with_queue_sound r n (record q { is_notified = flag }) (record {
      fits = record { size = was.fits.size; descriptors = was.fits.descriptors; driver = was.fits.driver; device = was.fits.device };
      notified = only;
      ready = λ k. let may = was.ready k in record {
        settled = may.settled;
        some = may.some;
        few = may.few;
        power = may.power;
        areas = record { descriptors = may.areas.descriptors; driver = may.areas.driver; device = may.areas.device };
      };
    }) h

notify_by : (r : Registers) (v : ℕ) (q : Queue) (ready : Bool) → q.is_ready ≡ ready → slice_get r.queues v ≡ Some q → IsSoundRegisters r
    → StaysSound r (cond {A = Effect × Registers} ready (e.Notified v, with_queue r v (record q { is_notified = true })) (e.None, r)).1
notify_by r v q true is at h = flag_sound r v q true at (λ k. is) h
notify_by r v q false is at h = stays_as_it_is r h

notify_sound : (r : Registers) (v : ℕ) (q : Option Queue) → slice_get r.queues v ≡ q → IsSoundRegisters r → StaysSound r (notify_written r v q).1
notify_sound r v None at h = stays_as_it_is r h
notify_sound r v (Some q) at h = notify_by r v q q.is_ready refl at h

-- Registers as they begin, and after a reset.
begun : (device_id offered ram_base ram_len queues generation : ℕ) → device_id < 2 ^ 32 → offered < 2 ^ 64 → ram_base < 2 ^ 64 → ram_len < 2 ^ 64 → queues ≤ QUEUE_COUNT_MAX → generation < 2 ^ 32
    → IsSoundRegisters (record { device_id = device_id; offered = offered; ram_base = ram_base; ram_len = ram_len; common = first_common generation; queues = replicate queues first_queue })
begun device_id offered ram_base ram_len queues generation id_fits offered_fits base_fits len_fits few generation_fits = record {
  device_id = id_fits;
  offered = offered_fits;
  ram_base = base_fits;
  ram_len = len_fits;
  few = rw (length-replicate queues first_queue) few;
  common = record {
    fits = record { device_select = omega arith; driver_select = omega arith; features = omega arith; queue_select = omega arith; generation = generation_fits };
    status = record { known = refl; driver_ok = λ k. cc; needs_reset = λ k. cc };
    interrupts = omega arith;
    offered_only = λ k. cc;
    version = λ k. cc;
  };
  queues = All-replicate (IsSoundQueue ram_base ram_len (first_common generation)) queues first_queue (record {
    fits = record { size = omega arith; descriptors = omega arith; driver = omega arith; device = omega arith };
    notified = λ k. cc;
    ready = λ k. cc;
  });
}

pub first_sound : (device_id offered queues ram_base ram_len : ℕ) → device_id < 2 ^ 32 → offered < 2 ^ 64 → queues ≤ QUEUE_COUNT_MAX → ram_base < 2 ^ 64 → ram_len < 2 ^ 64 → IsSoundRegisters (first_registers device_id offered queues ram_base ram_len)
first_sound device_id offered queues ram_base ram_len id_fits offered_fits few base_fits len_fits = begun device_id offered ram_base ram_len queues 0 id_fits offered_fits base_fits len_fits few (omega arith)

-- A reset.
reset_sound : (r : Registers) → IsSoundRegisters r → StaysSound r (reset_registers r)
reset_sound r h = record {
  same = record { device_id = refl; offered = refl; ram_base = refl; ram_len = refl; queue_count = length-replicate (length r.queues) first_queue };
  sound = begun r.device_id r.offered r.ram_base r.ram_len (length r.queues) r.common.generation h.device_id h.offered h.ram_base h.ram_len h.few h.common.fits.generation;
}

status_sound : (r : Registers) (v : ℕ) → IsSoundRegisters r → StaysSound r (status_written r v).1
status_sound r v h =
    either r (eqb v 0) (e.Reset, reset_registers r) (e.None, with_common r (record r.common { status = status_after r.offered r.common v })) (reset_sound r h) (record {
      same = same_common r (record r.common { status = status_after r.offered r.common v });
      sound = status_kept r r.common r.offered (status_after r.offered r.common v) v refl refl refl h;
    })

register_sound : (r : Registers) (register : Register) (v : ℕ) → v < 2 ^ 32 → IsSoundRegisters r → StaysSound r (register_written r register v).1
unfolding register_written
register_sound r x.DeviceFeaturesSel v small h = selected_sound r v r.common.driver_select r.common.queue_select small h.common.fits.driver_select h.common.fits.queue_select h
register_sound r x.DriverFeaturesSel v small h = selected_sound r r.common.device_select v r.common.queue_select h.common.fits.device_select small h.common.fits.queue_select h
register_sound r x.QueueSel v small h = selected_sound r r.common.device_select r.common.driver_select v h.common.fits.device_select h.common.fits.driver_select small h
register_sound r x.DriverFeatures v small h =
    features_sound r (with_half r.common.features r.common.driver_select v) (eqb (bit_and r.common.status 8) 8) refl (half_fits r.common.features r.common.driver_select v h.common.fits.features small) h
register_sound r x.QueueNum v small h = size_sound r x.QueueNum v (selected r) refl small h
register_sound r x.QueueDescLow v small h = size_sound r x.QueueDescLow v (selected r) refl small h
register_sound r x.QueueDescHigh v small h = size_sound r x.QueueDescHigh v (selected r) refl small h
register_sound r x.QueueDriverLow v small h = size_sound r x.QueueDriverLow v (selected r) refl small h
register_sound r x.QueueDriverHigh v small h = size_sound r x.QueueDriverHigh v (selected r) refl small h
register_sound r x.QueueDeviceLow v small h = size_sound r x.QueueDeviceLow v (selected r) refl small h
register_sound r x.QueueDeviceHigh v small h = size_sound r x.QueueDeviceHigh v (selected r) refl small h
register_sound r x.QueueReady v small h = ready_sound r v (selected r) refl h
register_sound r x.QueueNotify v small h = notify_sound r v (queue_at r v) refl h
register_sound r x.InterruptAck v small h =
    interrupts_sound r (bit_and r.common.interrupts (255 - v % 256)) (omega (arith, and_le_l r.common.interrupts (255 - v % 256), h.common.interrupts)) h
register_sound r x.Status v small h = status_sound r v h
register_sound r register v small h = stays_as_it_is r h

written_sound : (r : Registers) (register : Option Register) (v : ℕ) → v < 2 ^ 32 → IsSoundRegisters r → StaysSound r (written_at r register v).1
written_sound r None v small h = stays_as_it_is r h
written_sound r (Some register) v small h = register_sound r register v small h

-- A write of a value of 32 bits.
pub write_sound : (r : Registers) (offset width v : ℕ) → v < 2 ^ 32 → IsSoundRegisters r → StaysSound r (register_write r offset width v).1
write_sound r offset width v small h =
    either r (ltb offset 256) (cond (eqb width 4) (written_at r (register_at offset) v) (e.None, r)) (configuration_effect (offset - 256) width, r)
    (either r (eqb width 4) (written_at r (register_at offset) v) (e.None, r) (written_sound r (register_at offset) v small h) (stays_as_it_is r h)) (stays_as_it_is r h)

-- The device has used a buffer.
pub used_sound : (r : Registers) → IsSoundRegisters r → StaysSound r (with_common r (used_raised r.common))
used_sound r h =
    let small : r.common.interrupts < 2 ^ 2 = omega (arith, h.common.interrupts) in
    interrupts_sound r (bit_or r.common.interrupts 1) (omega (arith, or_lt 2 r.common.interrupts 1 small (omega arith))) h

asked_by : (r : Registers) (driven : Bool) → eqb (bit_and r.common.status 4) 4 ≡ driven → IsSoundRegisters r
    → StaysSound r (with_common r (cond driven (record r.common { status = bit_or r.common.status 64; interrupts = bit_or r.common.interrupts 2 }) r.common))
asked_by r true is h = record {
  same = same_common r (record r.common { status = bit_or r.common.status 64; interrupts = bit_or r.common.interrupts 2 });
  sound = asked_kept r r.common refl (eqb-true (bit_and r.common.status 4) 4 is) h;
}
asked_by r false is h = stays_as_it_is r h

-- The device asks for a reset.
pub asked_sound : (r : Registers) → IsSoundRegisters r → StaysSound r (with_common r (reset_asked r.common))
asked_sound r h = asked_by r (eqb (bit_and r.common.status 4) 4) refl h

-- A queue was found empty.
pub cleared_sound : (r : Registers) (n : ℕ) (q : Option Queue) → queue_at r n ≡ q → IsSoundRegisters r → StaysSound r (notified_cleared r n q)
cleared_sound r n None at h = stays_as_it_is r h
cleared_sound r n (Some q) at h = flag_sound r n q false at (λ k. cc) h
