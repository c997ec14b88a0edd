-- The ring of a queue that is looked at: what holds of it before and after the step.
use Rattle.std.proofs.Common.{◌≡◌, ℕ, zero, suc, ◌+◌, ◌-◌, ◌*◌, ◌%◌, ◌^◌, ◌<◌, ◌≤◌, Bool, true, false, cond, ltb, List, [], ◌∷◌, length, set, Some, refl, ap, subst, arith}
use Rattle.std.specs.Prelude.{not}
use Rattle.std.specs.Bool.{MatchBool}
use Rattle.std.specs.List.{slice_get}
use borrow.Author.Tests.{ltb-true, ltb-false}
use Rattle.mmio.specs.Bits.{has}
use Rattle.guestmem.specs.Address.{index_of}
use Rattle.mmio.specs.Areas.{driver_alignment, driver_bytes, device_bytes}
use Rattle.mmio.specs.QueueReady.{IsInside, MayBeReady}
use Rattle.mmio.specs.declared.common.Common.{Common}
use Rattle.mmio.specs.declared.queue.Queue.{Queue}
use Rattle.mmio.proofs.StayingSound.{queue_sound}
use Rattle.chains.specs.State.{RingState, state_of, AreAbove, MayRing, HasAreas, IsArea}
use Rattle.chains.specs.Publish.{after_take, after_publish, gone_on, after_chain}
use Rattle.chains.specs.declared.position.Position.{Position}
use Rattle.chains.specs.declared.position.Positions.{Positions}
use Rattle.machine.specs.Looked.{IsLookedAt}
use Rattle.machine.specs.QueuePositions.{HavePositions, HasPositions, ArePlaced, is_packed_by, first_positions}
use Rattle.machine.specs.Sound.{IsSoundDevice}
use Rattle.machine.specs.State.{DeviceState}

-- How far a ring has come, where each place fits.
pub record IsPlacedRing (s : RingState) : Type 0 where
  pub taking_fits : s.taking.place < 2 ^ 16
  pub used_fits : s.used.place < 2 ^ 16
  pub placed : ArePlaced s.is_packed s.size (record { taking = s.taking; used = s.used })

of_true : (b : Bool) (P Q : Type 0) → MatchBool b P Q → b ≡ true → P
of_true true P Q h is = h
of_true false P Q h is = cc

have_at : (packed : Bool) (qs : List Queue) (ps : List Positions) (n : ℕ) (q : Queue) (p : Positions) → HavePositions packed qs ps → slice_get qs n ≡ Some q → slice_get ps n ≡ Some p → HasPositions packed q p
have_at packed [] ps n q p have there placed = cc
have_at packed (x ∷ qs) [] n q p have there placed = absurd have
have_at packed (x ∷ qs) (y ∷ ps) zero q p have there placed =
    let one : x ≡ q = cc in
    let other : y ≡ p = cc in
    rw (← one, ← other) have.0
have_at packed (x ∷ qs) (y ∷ ps) (suc n) q p have there placed = have_at packed qs ps n q p have.1 there placed

pub have_set : (packed : Bool) (qs : List Queue) (ps : List Positions) (n : ℕ) (q : Queue) (new : Positions) → HavePositions packed qs ps → slice_get qs n ≡ Some q → HasPositions packed q new → HavePositions packed qs (set ps n new)
have_set packed [] ps n q new have there h = cc
have_set packed (x ∷ qs) [] n q new have there h = absurd have
have_set packed (x ∷ qs) (p ∷ ps) zero q new have there h = let one : x ≡ q = cc in (rw one h, have.1)
have_set packed (x ∷ qs) (p ∷ ps) (suc n) q new have there h = (have.0, have_set packed qs ps n q new have.1 there h)

pub have_cleared : (packed : Bool) (qs : List Queue) (ps : List Positions) (n : ℕ) (q : Queue) → HavePositions packed qs ps → slice_get qs n ≡ Some q → HavePositions packed (set qs n (record q { is_notified = false })) ps
have_cleared packed [] ps n q have at = cc
have_cleared packed (x ∷ qs) [] n q have at = absurd have
have_cleared packed (x ∷ qs) (p ∷ ps) zero q have at =
    let is : x ≡ q = cc in
    let here : HasPositions packed q p = subst (λ y. HasPositions packed y p) is have.0 in
    (record { taking_fits = here.taking_fits; used_fits = here.used_fits; where_ready = here.where_ready }, have.1)
have_cleared packed (x ∷ qs) (p ∷ ps) (suc n) q have at = (have.0, have_cleared packed qs ps n q have.1 at)

pub positions_long : (packed : Bool) (qs : List Queue) (ps : List Positions) → HavePositions packed qs ps → length ps ≡ length qs
positions_long packed [] [] h = refl
positions_long packed [] (p ∷ ps) h = absurd h
positions_long packed (q ∷ qs) [] h = absurd h
positions_long packed (q ∷ qs) (p ∷ ps) h = ap suc (positions_long packed qs ps h.1)

-- What holds of the ring that is looked at.
pub record IsLookedRing (len : ℕ) (s : RingState) : Type 0 where
  pub may : MayRing s
  pub areas : HasAreas len s
  pub placed : IsPlacedRing s

-- An area that the driver gave at an aligned address lies at an aligned index, since RAM begins at a whole page.
area_16 : (base len from bytes : ℕ) → base % 4096 ≡ 0 → IsInside base len from 16 bytes → IsArea len (index_of base from) 16 bytes
area_16 base len from bytes whole h = record { aligned = omega (arith, whole, h.aligned, h.within.above); inside = omega (arith, h.within.above, h.within.below) }

area_4 : (base len from bytes : ℕ) → base % 4096 ≡ 0 → IsInside base len from 4 bytes → IsArea len (index_of base from) 4 bytes
area_4 base len from bytes whole h = record { aligned = omega (arith, whole, h.aligned, h.within.above); inside = omega (arith, h.within.above, h.within.below) }

driver_area : (packed : Bool) (base len from bytes : ℕ) → base % 4096 ≡ 0 → IsInside base len from (driver_alignment packed) bytes → IsArea len (index_of base from) (driver_alignment packed) bytes
driver_area true base len from bytes whole h = area_4 base len from bytes whole h
driver_area false base len from bytes whole h = record { aligned = omega (arith, whole, h.aligned, h.within.above); inside = omega (arith, h.within.above, h.within.below) }

slots_by : (packed : Bool) (size : ℕ) (p : Positions) → ArePlaced packed size p → MatchBool packed ((p.taking.place < size) × (p.used.place < size)) (Unit {0})
slots_by true size p placed = placed
slots_by false size p placed = tt

ring_by : (base len : ℕ) (c : Common) (q : Queue) (p : Positions) → base % 4096 ≡ 0 → MayBeReady base len c q → q.is_ready ≡ true → HasPositions (has c.features (2 ^ 34)) q p → IsLookedRing len (state_of q c.features base p)
ring_by base len c q p whole may ready at =
    let packed = has c.features (2 ^ 34) in
    let placed : ArePlaced packed q.size p = of_true q.is_ready (ArePlaced packed q.size p) (p ≡ first_positions) at.where_ready ready in
    record {
      may = record { some = may.some; few = may.few; slots = slots_by packed q.size p placed };
      areas = record {
        descriptors = area_16 base len q.descriptors (16 * q.size) whole may.areas.descriptors;
        driver = driver_area packed base len q.driver (driver_bytes packed q.size) whole may.areas.driver;
        device = area_4 base len q.device (device_bytes packed q.size) whole may.areas.device;
      };
      placed = record { taking_fits = at.taking_fits; used_fits = at.used_fits; placed = placed };
    }

-- The ring of a ready queue of a sound device.
pub ready_ring : {base : ℕ} (len : ℕ) (d : DeviceState) (pick : ℕ) (queue : Queue) (p : Positions) → IsSoundDevice base len d → slice_get d.registers.queues pick ≡ Some queue → slice_get d.positions pick ≡ Some p → queue.is_ready ≡ true
    → IsLookedRing len (state_of queue d.registers.common.features d.registers.ram_base p)
ready_ring len d pick queue p sound there placed ready =
    let whole : d.registers.ram_base % 4096 ≡ 0 = rw sound.ram_base sound.based.whole in
    let may : MayBeReady d.registers.ram_base len d.registers.common queue = rw sound.ram_len at ((queue_sound d.registers pick queue there sound.registers).ready ready) in
    ring_by d.registers.ram_base len d.registers.common queue p whole may ready
    (have_at (is_packed_by d.registers.common) d.registers.queues d.positions pick queue p sound.positions there placed)

-- Its areas are not below the base.
above_by : (base len : ℕ) (c : Common) (q : Queue) → MayBeReady base len c q → AreAbove base q
above_by base len c q may = record { descriptors = may.areas.descriptors.within.above; driver = may.areas.driver.within.above; device = may.areas.device.within.above }

pub above_ready : {base : ℕ} (len : ℕ) (d : DeviceState) (number : ℕ) (at queue : Queue) → IsSoundDevice base len d → slice_get d.registers.queues number ≡ Some at → at.is_ready ≡ true → slice_get d.registers.queues number ≡ Some queue
    → AreAbove d.registers.ram_base queue
above_ready len d number at queue sound there ready is =
    let may : MayBeReady d.registers.ram_base len d.registers.common at = rw sound.ram_len at ((queue_sound d.registers number at there sound.registers).ready ready) in
    let same : at ≡ queue = cc in
    subst (λ (q : Queue). AreAbove d.registers.ram_base q) same (above_by d.registers.ram_base len d.registers.common at may)

pub looked_ring : {base : ℕ} (len : ℕ) (d : DeviceState) (pick : ℕ) (q : RingState) → IsSoundDevice base len d → IsLookedAt d pick q → IsLookedRing len q
looked_ring len d pick q sound h = rw h.is (ready_ring len d pick h.queue h.positions sound h.there h.placed h.ready)

-- The ring after a chain was taken and published.
gone_fits : (s : RingState) (p : Position) (slots : ℕ) (less : Bool) → ltb (p.place + slots) s.size ≡ less → slots ≤ s.size → s.size ≤ 256 → p.place < s.size
    → (cond less (record p { place = p.place + slots }) (record { place = p.place + slots - s.size; wrap = not p.wrap })).place < s.size
gone_fits s p slots true is few small at = ltb-true (p.place + slots) s.size is
gone_fits s p slots false is few small at = let past : s.size ≤ p.place + slots = ltb-false (p.place + slots) s.size is in omega (arith, past, few, at)

record IsOn (packed : Bool) (size : ℕ) (p : Position) : Type 0 where
  fits : p.place < 2 ^ 16
  placed : MatchBool packed (p.place < size) (p.wrap ≡ true)

one_on : (s : RingState) (p : Position) (slots : ℕ) (packed : Bool) → s.is_packed ≡ packed → slots ≤ s.size → s.size ≤ 256 → IsOn packed s.size p → IsOn packed s.size (after_chain s p slots)
one_on s p slots true is few small on =
    let below : (gone_on s.size p slots).place < s.size = gone_fits s p slots (ltb (p.place + slots) s.size) refl few small on.placed in
    rw is (record { fits = omega (arith, below, small); placed = below })
one_on s p slots false is few small on = rw is (record { fits = omega arith; placed = on.placed })

both_of : {A B : Type 0} → A → B → A × B
both_of a b = (a, b)

pub placed_by : (s : RingState) (slots : ℕ) (packed : Bool) → s.is_packed ≡ packed → MayRing s → IsPlacedRing s → slots ≤ s.size → IsPlacedRing (after_publish (after_take s slots) slots)
placed_by s slots true is may at few =
    let both : ArePlaced true s.size (record { taking = s.taking; used = s.used }) = rw is at at.placed in
    let taking = one_on s s.taking slots true is few may.few (record { fits = at.taking_fits; placed = both.0 }) in
    let used = one_on s s.used slots true is few may.few (record { fits = at.used_fits; placed = both.1 }) in
    record { taking_fits = taking.fits; used_fits = used.fits; placed = rw is (both_of (rw is at taking.placed) (rw is at used.placed)) }
placed_by s slots false is may at few =
    let both : ArePlaced false s.size (record { taking = s.taking; used = s.used }) = rw is at at.placed in
    let taking = one_on s s.taking slots false is few may.few (record { fits = at.taking_fits; placed = both.0 }) in
    let used = one_on s s.used slots false is few may.few (record { fits = at.used_fits; placed = both.1 }) in
    record { taking_fits = taking.fits; used_fits = used.fits; placed = rw is (both_of (rw is at taking.placed) (rw is at used.placed)) }

-- The same where it was only taken, or only published.
pub placed_taken : (s : RingState) (slots : ℕ) (packed : Bool) → s.is_packed ≡ packed → MayRing s → IsPlacedRing s → slots ≤ s.size → IsPlacedRing (after_take s slots)
placed_taken s slots true is may at few =
    let both : ArePlaced true s.size (record { taking = s.taking; used = s.used }) = rw is at at.placed in
    let taking = one_on s s.taking slots true is few may.few (record { fits = at.taking_fits; placed = both.0 }) in
    record { taking_fits = taking.fits; used_fits = at.used_fits; placed = rw is (both_of (rw is at taking.placed) both.1) }
placed_taken s slots false is may at few =
    let both : ArePlaced false s.size (record { taking = s.taking; used = s.used }) = rw is at at.placed in
    let taking = one_on s s.taking slots false is few may.few (record { fits = at.taking_fits; placed = both.0 }) in
    record { taking_fits = taking.fits; used_fits = at.used_fits; placed = rw is (both_of (rw is at taking.placed) both.1) }

pub placed_published : (s : RingState) (slots : ℕ) (packed : Bool) → s.is_packed ≡ packed → MayRing s → IsPlacedRing s → slots ≤ s.size → IsPlacedRing (after_publish s slots)
placed_published s slots true is may at few =
    let both : ArePlaced true s.size (record { taking = s.taking; used = s.used }) = rw is at at.placed in
    let used = one_on s s.used slots true is few may.few (record { fits = at.used_fits; placed = both.1 }) in
    record { taking_fits = at.taking_fits; used_fits = used.fits; placed = rw is (both_of both.0 (rw is at used.placed)) }
placed_published s slots false is may at few =
    let both : ArePlaced false s.size (record { taking = s.taking; used = s.used }) = rw is at at.placed in
    let used = one_on s s.used slots false is few may.few (record { fits = at.used_fits; placed = both.1 }) in
    record { taking_fits = at.taking_fits; used_fits = used.fits; placed = rw is (both_of both.0 (rw is at used.placed)) }
