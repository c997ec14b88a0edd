-- The requests of a device of a machine, among those of all; and those of a sound one end within 2^64.
use Rattle.std.proofs.Common.{◌≡◌, ℕ, zero, suc, ◌∙◌, subst, slice_get, ◌+◌, ◌^◌, ◌<◌, ◌≤◌, List, [], ◌∷◌, length, map, get_or, Bool, true, false, cond, Option, Some, None, refl, sym, ap, arith}
use Rattle.std.proofs.lemmas.Option.{get_or_from_slice_get, slice_get_within}
use Rattle.std.specs.Prelude.{IsSomeAnd}
use Rattle.mmio.specs.State.{Registers, queue_at}
use Rattle.mmio.specs.Status.{is_running}
use Rattle.mmio.specs.declared.queue.Queue.{Queue}
use Rattle.blk.specs.Block.{limits_of}
use Rattle.blk.specs.Sound.{AreRequestsOf, IsSoundWork}
use Rattle.blk.specs.declared.block.Block.{Block}
use Rattle.blk.specs.declared.request.Kind.{Kind}
use Rattle.blk.specs.declared.request.Kind.TheVariants.{Refused, In, Out, Flush, GetId, Zero}
use Rattle.blk.specs.declared.request.Verdict.{Verdict}
use Rattle.blk.specs.declared.shape.Limits.{Limits}
use Rattle.machine.specs.Outside.{asking_requests, outside_requests}
use Rattle.machine.specs.QueuePositions.{is_packed_by}
use Rattle.machine.specs.Sound.{AreSoundDevices, IsSoundDevice, IsSoundKind, IsSoundShape}
use Rattle.machine.specs.Seen.{DeviceSeen}
use Rattle.machine.specs.Shapes.{made_as}
use Rattle.machine.specs.State.{DeviceState}
use Rattle.machine.specs.declared.kind.Kind as kinds
use Rattle.machine.specs.declared.kind.Kind.TheVariants as kind
use Rattle.disk_calls.specs.Calls.{AreWithin}

work_within : (k : Kind) (readable writable : ℕ) (limits : Limits) (v : Verdict) (first units done : ℕ) → limits.sectors ≤ 2 ^ 54 → IsSoundWork k readable writable limits v first units done → first + units < 2 ^ 64
work_within Refused readable writable limits v first units done few work = omega (arith, work.1, work.2)
work_within In readable writable limits v first units done few work = omega (arith, few, work.2)
work_within Out readable writable limits v first units done few work = omega (arith, few, work.2)
work_within Flush readable writable limits v first units done few work = omega (arith, work.1, work.2)
work_within GetId readable writable limits v first units done few work = omega (arith, work.2, work.3)
work_within Zero readable writable limits v first units done few work = omega (arith, few, work.3)

none_within : AreWithin []
none_within k d below = absurd (omega (arith, below))

of_queue : (len : ℕ) (r : Registers) (block : Block) (found : Option Queue) → queue_at r 0 ≡ found → block.sectors ≤ 2 ^ 54
    → IsSomeAnd found (λ q. AreRequestsOf r.ram_base len (is_packed_by r.common) q (limits_of block r.common.features) block.requests) → AreWithin block.requests
of_queue len r block None is few are = absurd are
of_queue len r block (Some q) is few are = λ k d below.
    let one = are.sound k d below in
    let request = get_or block.requests k d in
    work_within request.kind _ _ (limits_of block r.common.features) request.verdict request.first request.units request.done few one.work

kind_within : {base : ℕ} (len : ℕ) (d : DeviceState) (running : Bool) (k : kinds.Kind) → d.kind ≡ k → IsSoundDevice base len d → AreWithin (cond running (outside_requests k) [])
kind_within len d false k is sound = none_within
kind_within len d true (kind.Outside block) is sound =
    let are : IsSoundKind len d.registers (kind.Outside block) = rw is at sound.kind in
    let shape : IsSoundShape (made_as (kind.Outside block)) = rw is at sound.shape in
    of_queue len d.registers block (queue_at d.registers 0) refl shape.few are
kind_within len d true (kind.Network mac inbox) is sound = none_within
kind_within len d true (kind.Block block) is sound = none_within
kind_within len d true (kind.Console size held) is sound = none_within
kind_within len d true (kind.Entropy pool) is sound = none_within

pub asking_within : {base : ℕ} (len : ℕ) (d : DeviceState) → IsSoundDevice base len d → AreWithin (asking_requests d)
asking_within len d sound = kind_within len d (is_running d.registers.common) d.kind refl sound

pub asked_at : (ds : List DeviceState) (dev : ℕ) (device : DeviceState) → slice_get ds dev ≡ Some device → get_or (map asking_requests ds) dev [] ≡ asking_requests device
asked_at [] dev device h = cc
asked_at (x ∷ ds) zero device h = let same : x ≡ device = cc in ap asking_requests same
asked_at (x ∷ ds) (suc dev) device h = asked_at ds dev device h

abbrev states_of : List DeviceSeen → List DeviceState
states_of ds = map (λ (d : DeviceSeen). d.state) ds

one_of : (ds : List DeviceSeen) (dev : ℕ) (x : DeviceSeen) → dev < length (map asking_requests (states_of ds)) → x ≡ get_or ds dev x → slice_get (states_of ds) dev ≡ Some x.state
one_of [] dev x below is = absurd (omega (arith, below))
one_of (y ∷ ds) zero x below is = ap (λ (z : DeviceSeen). Some z.state) (sym is)
one_of (y ∷ ds) (suc dev) x below is = one_of ds dev x (omega (arith, below)) is

-- The device that a machine lends.
pub lent : (ds lent_ : List DeviceSeen) (dev : ℕ) (x : DeviceSeen) (state : DeviceState) → lent_ ≡ ds → state ≡ x.state → dev < length (map asking_requests (states_of ds)) → x ≡ get_or lent_ dev x → slice_get (states_of ds) dev ≡ Some state
lent ds lent_ dev x state same is below there =
    let own : x ≡ get_or ds dev x = subst (λ (list : List DeviceSeen). x ≡ get_or list dev x) same there in
    one_of ds dev x below own ∙ ap (λ (d : DeviceState). Some d) (sym is)

-- Those of a device of a machine, wherever its RAM is.
pub within_sound : (ds : List DeviceState) (dev : ℕ) (state : DeviceState) → slice_get ds dev ≡ Some state → AreSoundDevices ds → AreWithin (asking_requests state)
within_sound ds dev state there sound = asking_within sound.0 state (rw (get_or_from_slice_get ds dev state state there) at (sound.1 dev state (slice_get_within ds dev state there)))
