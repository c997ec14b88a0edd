-- Steps that have something to do, and steps that have nothing.
use Rattle.std.proofs.Common.{◌≡◌, ◌≢◌, ℕ, zero, suc, ◌-◌, ◌<◌, ◌⊎◌, inl, inr, set, get_or, Bool, true, false, cond, List, [], ◌∷◌, length, Option, Some, None, refl, ap, sym, ◌∙◌, arith}
use Rattle.std.specs.Prelude.{◌||◌, slice_get}
use Rattle.std.specs.Option.{is_some}
use Rattle.std.proofs.lemmas.Option.{slice_get-get_or}
use Rattle.mmio.specs.State.{queue_at}
use Rattle.mmio.specs.declared.queue.Queue.{Queue}
use Rattle.chains.specs.State.{RingState}
use Rattle.chains.specs.declared.next.Next.{Next}
use Rattle.blk.specs.Advance.{advance_one, advance_step}
use Rattle.blk.specs.Move.{Move, move_of}
use Rattle.blk.specs.Outside.{outside_step}
use Rattle.blk.specs.Request.{is_open, next_sector}
use Rattle.blk.specs.Sectors.{Sector, is_bad, sector_in}
use Rattle.blk.specs.declared.advancing.Advanced.{Advanced}
use Rattle.blk.specs.declared.advancing.Advanced.TheVariants as advanced
use Rattle.blk.specs.declared.request.Kind as blk
use Rattle.blk.specs.declared.request.Kind.TheVariants as request
use Rattle.blk.specs.declared.request.Request.{Request}
use Rattle.blk.specs.declared.block.Block as blocks
use Rattle.machine.specs.DeviceStep.{advance_on, advanced_at, after_service, device_step, looked_at, looked_step, wanted_of, reply_of, reply_to_advance, requests_of, serve, unmoved, MayLook, MayLookAt}
use Rattle.machine.specs.Effect.{Effect, applied}
use Rattle.machine.specs.NextWork.{IdleWithoutWork, IsNotNotified, WorkGetsOn, device_has_work}
use Rattle.machine.specs.Outcome.{Outcome, fine, disk_failed, no_memory, disk_does}
use Rattle.machine.specs.Sound.{IsSound, IsSoundDevice}
use Rattle.machine.specs.State.{DeviceState, MachineState, base_of}
use Rattle.machine.specs.Step.{answer, disk_of, step_device, Answer, MaySeeAt}
use Rattle.machine.specs.declared.event.Event.TheVariants.{Step}
use Rattle.machine.specs.declared.reply.Reply.{Reply}
use Rattle.machine.specs.declared.reply.Reply.TheVariants.{Idle}
use Rattle.chains.specs.Service.{Service}
use Rattle.chains.specs.Service as service
use Rattle.machine.specs.declared.kind.Kind.{Kind}
use Rattle.machine.specs.declared.kind.Kind.TheVariants.{Network, Block, Outside, Console, Entropy}
use Rattle.machine.specs.declared.work.Work.{Work}
use Rattle.machine.proofs.Advancing.{advanced_is}
use Rattle.machine.proofs.Answering.{answered}
use Rattle.machine.proofs.Looking.{looked_is, set_same}
use Rattle.machine.proofs.Within.{sound_at}

-- Nothing to do.
nothing_done : (d : DeviceState) (ram : List ℕ) (content : List Sector) (pick : ℕ) (o : Outcome) (seen : Next) → looked_at d pick ≡ None → advanced_at d pick ≡ None → device_step d ram content pick o seen ≡ unmoved d Idle
unfolding device_step
nothing_done d ram content pick o seen looked advanced = rw (looked, advanced) refl

idle_answer : (m : MachineState) (dev pick : ℕ) (d : DeviceState) (o : Outcome) (seen : Next) → slice_get m.devices dev ≡ Some d → looked_at d pick ≡ None → advanced_at d pick ≡ None
    → answer m (Step dev pick) o seen ≡ record { reply = Idle; effect = record { writes = []; sectors = []; replaced = Some (record { number = dev; device = d }) } }
idle_answer m dev pick d o seen there looked advanced = rw (there, nothing_done d m.ram (disk_of m dev) pick o seen looked advanced) refl

pub idle_without : IdleWithoutWork
idle_without m dev pick d o r after there looked advanced h =
    let is = idle_answer m dev pick d o h.has.seen there looked advanced in
    let stays : set m.devices dev d ≡ m.devices = set_same m.devices dev d there in
    let effect : h.effect ≡ record { writes = []; sectors = []; replaced = Some (record { number = dev; device = d }) } = h.has.effect_is ∙ ap (λ (a : Answer). a.effect) is in
    (h.has.reply_is ∙ ap (λ (a : Answer). a.reply) is, h.changed ∙ ap (λ (e : Effect). applied m e) effect ∙ ap (λ (ds : List DeviceState). record { ram = m.ram; devices = ds; disks = m.disks }) stays)

-- An outstanding request that is advanced is never idle.
busy_if : (b : Bool) (x y : Move) → x.answer ≢ advanced.Idle → y.answer ≢ advanced.Idle → (cond b x y).answer ≢ advanced.Idle
busy_if true x y h k = h
busy_if false x y h k = k

busy_move : (k : blk.Kind) (base : ℕ) (id ram : List ℕ) (content : List Sector) (r : Request) (is_fine : Bool) → (move_of k base id ram content r is_fine).answer ≢ advanced.Idle
busy_move request.In base id ram content r is_fine = busy_if (is_bad (sector_in content (next_sector r))) _ _ (λ h. cc) (busy_if is_fine _ _ (λ h. cc) (λ h. cc))
busy_move request.Out base id ram content r is_fine = busy_if is_fine _ _ (λ h. cc) (λ h. cc)
busy_move request.Flush base id ram content r is_fine = busy_if is_fine _ _ (λ h. cc) (λ h. cc)
busy_move request.GetId base id ram content r is_fine = λ h. cc
busy_move request.Refused base id ram content r is_fine = λ h. cc
busy_move request.Zero base id ram content r is_fine = busy_if is_fine _ _ (λ h. cc) (λ h. cc)

busy_one : (ram : List ℕ) (q : RingState) (content : List Sector) (b : blocks.Block) (k : ℕ) (is_fine : Bool) (r : Request) (more : Bool) → is_open r ≡ more → (advance_one ram q content b k is_fine (Some r)).answer ≢ advanced.Idle
busy_one ram q content b k is_fine r true is = rw is (busy_move r.kind q.base b.id ram content r is_fine)
busy_one ram q content b k is_fine r false is = rw is (λ h. cc)

busy_reply : (a : Advanced) → a ≢ advanced.Idle → reply_to_advance a ≢ Idle
busy_reply advanced.Idle h k = h refl
busy_reply advanced.Moved h k = cc
busy_reply advanced.BadSector h k = cc
busy_reply advanced.DiskFailed h k = cc
busy_reply (advanced.Completed len due) h k = cc

busy_found : (ram : List ℕ) (q : RingState) (content : List Sector) (b : blocks.Block) (k : ℕ) (is_fine : Bool) (requests : List Request) → k < length requests → (advance_one ram q content b k is_fine (slice_get requests k)).answer ≢ advanced.Idle
busy_found ram q content b k is_fine [] below = absurd (omega (arith, below))
busy_found ram q content b k is_fine (r ∷ rs) below =
    rw (slice_get-get_or (r ∷ rs) k r below) (busy_one ram q content b k is_fine (get_or (r ∷ rs) k r) (is_open (get_or (r ∷ rs) k r)) refl)

busy_on : (d : DeviceState) (kind : Kind) (ram : List ℕ) (content : List Sector) (pick : ℕ) (q : RingState) (o : Outcome) → pick - 1 < length (requests_of kind) → (advance_on d kind ram content pick q o).reply ≢ Idle
busy_on d (Block block) ram content pick q o below = busy_reply (advance_step ram q content block (pick - 1) (disk_does o)).answer (busy_found ram q content block (pick - 1) (disk_does o) block.requests below)
busy_on d (Outside block) ram content pick q o below = busy_reply (outside_step ram q block (pick - 1)).answer (busy_found ram q [] block (pick - 1) true block.requests below)
busy_on d (Network mac inbox) ram content pick q o below = absurd (omega (arith, below))
busy_on d (Console size held) ram content pick q o below = absurd (omega (arith, below))
busy_on d (Entropy pool) ram content pick q o below = absurd (omega (arith, below))

advanced_busy : {base : ℕ} (len : ℕ) (d : DeviceState) (ram : List ℕ) (content : List Sector) (pick : ℕ) (q : RingState) (o : Outcome) → IsSoundDevice base len d → advanced_at d pick ≡ Some q → (advance_on d d.kind ram content pick q o).reply ≢ Idle
advanced_busy len d ram content pick q o sound is = busy_on d d.kind ram content pick q o (advanced_is len d pick q sound is).below

-- A queue that was found empty is not notified.
set_there : {A : Type 0} (xs : List A) (n : ℕ) (x y : A) → slice_get xs n ≡ Some x → slice_get (set xs n y) n ≡ Some y
set_there [] n x y at = cc
set_there (z ∷ xs) zero x y at = refl
set_there (z ∷ xs) (suc n) x y at = set_there xs n x y at

cleared : (d : DeviceState) (pick : ℕ) (queue : Queue) (s : Service Kind) → queue_at d.registers pick ≡ Some queue → s.answer ≡ service.Empty → queue_at (after_service d pick s).registers pick ≡ Some (record queue { is_notified = false })
cleared d pick queue s there empty = rw (empty, there) (set_there d.registers.queues pick queue (record queue { is_notified = false }) there)

by_served : (m after : MachineState) (w : Work) (d : DeviceState) (queue : Queue) (s : Service Kind) (r : Reply) (how : service.Answer) → slice_get m.devices w.dev ≡ Some d → queue_at d.registers w.pick ≡ Some queue → s.answer ≡ how
    → (reply_of s.answer ≡ Idle → s.answer ≡ service.Empty) → r ≡ reply_of s.answer → after.devices ≡ set m.devices w.dev (after_service d w.pick s) → (r ≢ Idle) ⊎ IsNotNotified after w.dev w.pick
by_served m after w d queue s r service.Empty there has how only is changed =
    inr (record {
      device = after_service d w.pick s;
      there = rw changed (set_there m.devices w.dev d (after_service d w.pick s) there);
      queue = record queue { is_notified = false };
      has = cleared d w.pick queue s has how;
      quiet = refl;
    })
by_served m after w d queue s r service.Malformed there has how only is changed = inl (λ idle. let empty = only (sym is ∙ idle) in cc)
by_served m after w d queue s r (service.Did deed due) there has how only is changed = inl (λ idle. let empty = only (sym is ∙ idle) in cc)

looks_on : (d : DeviceState) (ram : List ℕ) (content : List Sector) (pick : ℕ) (q : RingState) (o : Outcome) (seen : Next) → looked_at d pick ≡ Some q → device_step d ram content pick o seen ≡ looked_step d ram pick q o seen
unfolding device_step
looks_on d ram content pick q o seen looked = rw looked refl

goes_on : (d : DeviceState) (ram : List ℕ) (content : List Sector) (pick : ℕ) (q : RingState) (o : Outcome) (seen : Next) → looked_at d pick ≡ None → advanced_at d pick ≡ Some q → device_step d ram content pick o seen ≡ advance_on d d.kind ram content pick q o
unfolding device_step
goes_on d ram content pick q o seen looked advanced = rw (looked, advanced) refl

by_look : (m after : MachineState) (w : Work) (d : DeviceState) (q : RingState) (o : Outcome) (seen : Next) (r : Reply) → slice_get m.devices w.dev ≡ Some d → looked_at d w.pick ≡ Some q → MayLookAt (wanted_of d.kind w.pick) q m.ram o seen
    → r ≡ (looked_step d m.ram w.pick q o seen).reply → after.devices ≡ set m.devices w.dev (looked_step d m.ram w.pick q o seen).device → (r ≢ Idle) ⊎ IsNotNotified after w.dev w.pick
by_look m after w d q no_memory seen r there looked may is changed = inl (λ idle. cc)
by_look m after w d q disk_failed seen r there looked may is changed = absurd may
by_look m after w d q fine seen r there looked may is changed =
    let look = looked_is d w.pick q looked in
    let s = serve d.registers.common.features d.kind w.pick m.ram q seen in
    by_served m after w d look.queue s r s.answer there look.there refl (answered d.registers.common.features d.kind w.pick m.ram q seen).idle is changed

by_work : (m after : MachineState) (w : Work) (d : DeviceState) (looked advanced : Option RingState) (o : Outcome) (seen : Next) (r : Reply) → IsSoundDevice (base_of m.devices) (length m.ram) d → slice_get m.devices w.dev ≡ Some d → looked_at d w.pick ≡ looked → advanced_at d w.pick ≡ advanced
    → (is_some looked || is_some advanced) ≡ true → MayLook (wanted_of d.kind w.pick) looked m.ram o seen → r ≡ (device_step d m.ram (disk_of m w.dev) w.pick o seen).reply → after.devices ≡ set m.devices w.dev (device_step d m.ram (disk_of m w.dev) w.pick o seen).device
    → (r ≢ Idle) ⊎ IsNotNotified after w.dev w.pick
by_work m after w d (Some q) advanced o seen r sound there looked goes work may is changed =
    by_look m after w d q o seen r there looked may (rw (looks_on d m.ram (disk_of m w.dev) w.pick q o seen looked) at is) (rw (looks_on d m.ram (disk_of m w.dev) w.pick q o seen looked) at changed)
by_work m after w d None (Some q) o seen r sound there looked goes work may is changed =
    inl (λ idle. advanced_busy (length m.ram) d m.ram (disk_of m w.dev) w.pick q o sound goes (sym (rw (goes_on d m.ram (disk_of m w.dev) w.pick q o seen looked goes) at is) ∙ idle))
by_work m after w d None None o seen r sound there looked goes work may is changed = cc

by_device : (m after : MachineState) (w : Work) (device : Option DeviceState) (o : Outcome) (seen : Next) (r : Reply) → IsSound m → slice_get m.devices w.dev ≡ device → device_has_work device w.pick ≡ true → MaySeeAt device m.ram w.pick o seen
    → r ≡ (step_device w.dev device m.ram (disk_of m w.dev) w.pick o seen).reply → after ≡ applied m (step_device w.dev device m.ram (disk_of m w.dev) w.pick o seen).effect → (r ≢ Idle) ⊎ IsNotNotified after w.dev w.pick
by_device m after w None o seen r sound there work may is changed = cc
by_device m after w (Some d) o seen r sound there work may is changed =
    by_work m after w d (looked_at d w.pick) (advanced_at d w.pick) o seen r (sound_at m w.dev d there sound) there refl refl work may is (ap (λ (x : MachineState). x.devices) changed)

pub gets_on : WorkGetsOn
gets_on m w o r after sound work h =
    by_device m after w (slice_get m.devices w.dev) o h.has.seen r sound refl work h.has.may_see h.has.reply_is (h.changed ∙ ap (λ (e : Effect). applied m e) h.has.effect_is)
