-- What keeps the registers sound.
use Rattle.std.specs.Prelude.{◌≡◌, ℕ, ◌<◌, ◌≤◌, ◌+◌, ◌%◌, ◌^◌, bit_or}
use Rattle.std.proofs.Common.{inl, inr, arith, refl}
use Rattle.std.proofs.lemmas.Bool.{and_parts, eqb-true}
use Rattle.std.proofs.lemmas.Nat.{or_lt, mod_below}
use Rattle.std.proofs.lemmas.List.Elements.{All-set}
use Rattle.std.proofs.Math.ListN.{length-set}
use Rattle.mmio.specs.Bits.{has, Has}
use Rattle.mmio.specs.State.{Registers, with_common, with_queue}
use Rattle.mmio.specs.Status.{status_after}
use Rattle.mmio.specs.Sound.{FitsCommon, IsSoundCommon, IsSoundQueue, IsSoundRegisters}
use Rattle.mmio.specs.declared.common.Common.{Common}
use Rattle.mmio.specs.declared.queue.Queue.{Queue}
use Rattle.mmio.proofs.StatusBits.{after_is_status, asked_is_status, settled_before, settled_after, stays_there, was_there}

-- a queue stays sound under other common registers with FEATURES_OK, if it was there, and with the same features
pub queue_stays : (base ram_len : ℕ) (c d : Common) (q : Queue) → (Has c.status 8 → Has d.status 8) → d.features ≡ c.features → IsSoundQueue base ram_len c q → IsSoundQueue base ram_len d q
queue_stays base ram_len c d q still same h = record {
  fits = h.fits;
  notified = h.notified;
  ready = λ r. let was = h.ready r in record {
    settled = still was.settled;
    some = was.some;
    few = was.few;
    power = λ k. was.power (λ p. k (rw same p));
    areas = rw same was.areas;
  };
}

-- so do all registers, where the new common ones are sound
pub registers_stay : (r : Registers) (d : Common) → (Has r.common.status 8 → Has d.status 8) → d.features ≡ r.common.features → IsSoundCommon r.offered d → IsSoundRegisters r → IsSoundRegisters (with_common r d)
registers_stay r d still same sound h = record {
  device_id = h.device_id;
  offered = h.offered;
  ram_base = h.ram_base;
  ram_len = h.ram_len;
  few = h.few;
  common = sound;
  queues = λ k d' below. queue_stays r.ram_base r.ram_len r.common d _ still same (h.queues k d' below);
}

pub fits_still : (c : Common) (s i : ℕ) → FitsCommon c → FitsCommon (record c { status = s; interrupts = i })
fits_still c s i h = record {
  device_select = h.device_select;
  driver_select = h.driver_select;
  features = h.features;
  queue_select = h.queue_select;
  generation = h.generation;
}

-- the status is written
status_kept_at : (r : Registers) (v : ℕ) → IsSoundRegisters r → IsSoundRegisters (with_common r (record r.common { status = status_after r.offered r.common v }))
status_kept_at r v h =
    registers_stay r _ (settled_after r.offered r.common v) refl (record {
      fits = fits_still r.common (status_after r.offered r.common v) r.common.interrupts h.common.fits;
      status = after_is_status r.offered r.common v h.common.status;
      interrupts = h.common.interrupts;
      offered_only = λ k. elim (settled_before r.offered r.common v k) [
        | inl accepted ↦ eqb-true _ _ (and_parts (has r.offered r.common.features) (has r.common.features (2 ^ 32)) accepted).0
        | inr there ↦ h.common.offered_only there
      ];
      version = λ k. elim (settled_before r.offered r.common v k) [
        | inl accepted ↦ eqb-true _ _ (and_parts (has r.offered r.common.features) (has r.common.features (2 ^ 32)) accepted).1
        | inr there ↦ h.common.version there
      ];
    }) h

pub status_kept : (r : Registers) (c : Common) (offered status v : ℕ) → c ≡ r.common → offered ≡ r.offered → status ≡ status_after offered c v → IsSoundRegisters r → IsSoundRegisters (with_common r (record c { status = status }))
status_kept r c offered status v e o s h = rw (s, o, e) (status_kept_at r v h)

-- an interrupt bit that is raised leaves the interrupt status with known bits
pub raised_few : (i : ℕ) → i ≤ 3 → bit_or i 2 ≤ 3
raised_few i few = let small : i < 2 ^ 2 = omega arith in omega (arith, or_lt 2 i 2 small (omega arith))

-- a driven device asks for a reset
asked_kept_at : (r : Registers) → Has r.common.status 4 → IsSoundRegisters r → IsSoundRegisters (with_common r (record r.common { status = bit_or r.common.status 64; interrupts = bit_or r.common.interrupts 2 }))
asked_kept_at r driven h =
    registers_stay r _ (stays_there r.common.status 64 8 refl) refl (record {
      fits = fits_still r.common (bit_or r.common.status 64) (bit_or r.common.interrupts 2) h.common.fits;
      status = asked_is_status r.common.status driven h.common.status;
      interrupts = raised_few r.common.interrupts h.common.interrupts;
      offered_only = λ k. h.common.offered_only (was_there r.common.status 64 8 refl k);
      version = λ k. h.common.version (was_there r.common.status 64 8 refl k);
    }) h

pub asked_kept : (r : Registers) (c : Common) → c ≡ r.common → Has c.status 4 → IsSoundRegisters r → IsSoundRegisters (with_common r (record c { status = bit_or c.status 64; interrupts = bit_or c.interrupts 2 }))
asked_kept r c e driven h = rw e (asked_kept_at r (rw e at driven) h)

-- the configuration changes, and interrupts
change_kept_at : (r : Registers) (generation : ℕ) → generation < 2 ^ 32 → IsSoundRegisters r → IsSoundRegisters (with_common r (record r.common { interrupts = bit_or r.common.interrupts 2; generation = generation }))
change_kept_at r generation fits h =
    registers_stay r _ (λ k. k) refl (record {
      fits = record {
        device_select = h.common.fits.device_select;
        driver_select = h.common.fits.driver_select;
        features = h.common.fits.features;
        queue_select = h.common.fits.queue_select;
        generation = fits;
      };
      status = h.common.status;
      interrupts = raised_few r.common.interrupts h.common.interrupts;
      offered_only = h.common.offered_only;
      version = h.common.version;
    }) h

pub change_kept : (r : Registers) (c : Common) → c ≡ r.common → IsSoundRegisters r → IsSoundRegisters (with_common r (record c { interrupts = bit_or c.interrupts 2; generation = (c.generation + 1) % 2 ^ 32 }))
change_kept r c e h = rw e (change_kept_at r ((r.common.generation + 1) % 2 ^ 32) (mod_below (r.common.generation + 1) (2 ^ 32) (omega arith)) h)

-- a queue is replaced by a sound one
pub queues_kept : (r : Registers) (number : ℕ) (q : Queue) → IsSoundRegisters r → IsSoundQueue r.ram_base r.ram_len r.common q → IsSoundRegisters (with_queue r number q)
queues_kept r number q h sound = record {
  device_id = h.device_id;
  offered = h.offered;
  ram_base = h.ram_base;
  ram_len = h.ram_len;
  few = simp length-set h.few;
  common = h.common;
  queues = All-set (IsSoundQueue r.ram_base r.ram_len r.common) r.queues number q sound h.queues;
}
