-- The queue that a step of a device looks at.
use Rattle.std.proofs.Common.{◌≡◌, ℕ, zero, suc, ◌<◌, ◌≤◌, List, [], ◌∷◌, length, set, take, get_or, Option, Some, None, Bool, true, false, cond, refl, sym, ap, ◌∙◌, arith}
use Rattle.std.specs.Prelude.{◌&&◌, slice_get}
use Rattle.std.proofs.lemmas.List.{get_or-take}
use Rattle.std.proofs.lemmas.Option.{slice_get-get_or, slice_get_past}
use Rattle.mmio.specs.State.{queue_at}
use Rattle.mmio.specs.Status.{is_running}
use Rattle.mmio.specs.declared.queue.Queue.{Queue}
use Rattle.chains.specs.State.{RingState, state_of}
use Rattle.chains.specs.declared.position.Positions.{Positions}
use Rattle.machine.specs.DeviceStep.{has_work, looks, looked_by, looked_at}
use Rattle.machine.specs.Looked.{IsLookedAt}
use Rattle.machine.specs.State.{DeviceState}

-- What a test of several parts tells of each.
pub left_of_and : (a b : Bool) → (a && b) ≡ true → a ≡ true
left_of_and true b h = refl
left_of_and false b h = cc

pub right_of_and : (a b : Bool) → (a && b) ≡ true → b ≡ true
right_of_and true b h = h
right_of_and false b h = cc

pub same_some : {A : Type 0} (x y : A) → Some x ≡ Some y → x ≡ y
same_some x y h = cc

look_if : (d : DeviceState) (pick : ℕ) (queue : Queue) (p : Positions) (q : RingState) (b : Bool) → looks d pick queue ≡ b → queue_at d.registers pick ≡ Some queue → slice_get d.positions pick ≡ Some p
    → cond b (Some (state_of queue d.registers.common.features d.registers.ram_base p)) None ≡ Some q → IsLookedAt d pick q
look_if d pick queue p q true all there placed is =
    let three = left_of_and _ _ all in
    let two = left_of_and _ _ three in
    record {
      queue = queue;
      positions = p;
      there = there;
      placed = placed;
      driven = left_of_and _ _ two;
      ready = right_of_and _ _ two;
      notified = right_of_and _ _ three;
      work = right_of_and _ _ all;
      is = sym (same_some (state_of queue d.registers.common.features d.registers.ram_base p) q is);
    }
look_if d pick queue p q false all there placed is = cc

look_by : (d : DeviceState) (pick : ℕ) (queue : Option Queue) (p : Option Positions) (q : RingState) → queue_at d.registers pick ≡ queue → slice_get d.positions pick ≡ p → looked_by d pick queue p ≡ Some q → IsLookedAt d pick q
look_by d pick None p q there placed is = cc
look_by d pick (Some queue) None q there placed is = cc
look_by d pick (Some queue) (Some p) q there placed is = look_if d pick queue p q (looks d pick queue) refl there placed is

-- The ring that a step looks at is one that it looks at, and the other way round.
pub looked_is : (d : DeviceState) (pick : ℕ) (q : RingState) → looked_at d pick ≡ Some q → IsLookedAt d pick q
looked_is d pick q is = look_by d pick (queue_at d.registers pick) (slice_get d.positions pick) q refl refl is

all_four : (a b c e : Bool) → a ≡ true → b ≡ true → c ≡ true → e ≡ true → (((a && b) && c) && e) ≡ true
all_four a b c e p q r s = rw (p, q, r, s) refl

pub is_looked : (d : DeviceState) (pick : ℕ) (q : RingState) → IsLookedAt d pick q → looked_at d pick ≡ Some q
is_looked d pick q h =
    let all : looks d pick h.queue ≡ true = all_four (is_running d.registers.common) h.queue.is_ready h.queue.is_notified (has_work d.kind pick) h.driven h.ready h.notified h.work in
    rw (h.there, h.placed, all, h.is) refl

-- A pick that names no queue, and a queue that is not looked at.
pub none_past : (d : DeviceState) (pick : ℕ) → length d.registers.queues ≤ pick → looked_at d pick ≡ None
none_past d pick h = rw (slice_get_past d.registers.queues pick h) refl

none_by : (d : DeviceState) (pick : ℕ) (q : Queue) (p : Option Positions) → looks d pick q ≡ false → looked_by d pick (Some q) p ≡ None
none_by d pick q None h = refl
none_by d pick q (Some p) h = rw h refl

pub none_looked : (d : DeviceState) (pick : ℕ) (dflt : Queue) → pick < length d.registers.queues → false ≡ looks d pick (get_or d.registers.queues pick dflt) → looked_at d pick ≡ None
none_looked d pick dflt below h = rw (slice_get-get_or d.registers.queues pick dflt below) (none_by d pick (get_or d.registers.queues pick dflt) (slice_get d.positions pick) (sym h))

-- A queue that is looked at, of a device whose positions are held in an array with room to spare.
pub some_looked : (d : DeviceState) (pick : ℕ) (dflt : Queue) (first : Positions) (held : List Positions) → pick < length d.registers.queues → d.positions ≡ take (length d.registers.queues) held → length d.positions ≡ length d.registers.queues
    → true ≡ looks d pick (get_or d.registers.queues pick dflt) → looked_at d pick ≡ Some (state_of (get_or d.registers.queues pick dflt) d.registers.common.features d.registers.ram_base (get_or held pick first))
some_looked d pick dflt first held below held_is long h =
    let place : slice_get d.positions pick ≡ Some (get_or d.positions pick first) = slice_get-get_or d.positions pick first (omega (arith, below, long)) in
    let same : get_or d.positions pick first ≡ get_or held pick first = ap (λ ps. get_or ps pick first) held_is ∙ get_or-take (length d.registers.queues) held pick first below in
    rw (slice_get-get_or d.registers.queues pick dflt below, place, same, ← h) refl

-- What is put where it is already.
pub set_same : {A : Type 0} (xs : List A) (n : ℕ) (x : A) → slice_get xs n ≡ Some x → set xs n x ≡ xs
set_same [] n x h = refl
set_same (y ∷ ys) zero x h = cc
set_same (y ∷ ys) (suc n) x h = ap (λ zs. y ∷ zs) (set_same ys n x h)

pub positions_stay : (d : DeviceState) (pick : ℕ) (q : RingState) → IsLookedAt d pick q → set d.positions pick (record { taking = q.taking; used = q.used }) ≡ d.positions
positions_stay d pick q h = rw h.is (set_same d.positions pick h.positions h.placed)
