-- What happens to a machine, told of its devices alone: RAM and disks may change beside it.
use Rattle.std.proofs.Common.{◌≡◌, ◌≢◌, ℕ, ◌+◌, ◌-◌, ◌≤◌, ◌∙◌, ◌&&◌, Bool, true, false, cond, ltb, List, [], ◌∷◌, ◌++◌, map, get_or, Option, Some, None, slice_get, refl, sym, ap, subst}
use Rattle.mmio.specs.Status.{is_running}
use Rattle.blk.specs.Block.{with_requests}
use Rattle.blk.specs.Outside as outside
use Rattle.blk.specs.Outside.{Answer, Answering, answer_step, answers}
use Rattle.blk.specs.Sectors.{Sector}
use Rattle.blk.specs.declared.block.Block.{Block}
use Rattle.blk.specs.declared.outside.DiskCall.{DiskCall}
use Rattle.machine.specs.Applied.{IsApplied, as_given}
use Rattle.machine.specs.DeviceStep.{DeviceAnswer, unmoved}
use Rattle.machine.specs.Dropping.{drops_in}
use Rattle.machine.specs.Effect.{applied, replaced_in}
use Rattle.machine.specs.Outcome.{Outcome, disk_failed, fine, outcome_of}
use Rattle.machine.specs.Outside.{answer_of, asking_requests, disk_answered, reply_to_disk}
use Rattle.machine.specs.Seen.{Seen, state_of}
use Rattle.machine.specs.State.{DeviceState, MachineState}
use Rattle.machine.specs.Step.{IsStep, answered_by, hand_in}
use Rattle.machine.specs.Unsynced.{FailsFlush}
use Rattle.machine.specs.declared.event.DiskAnswer.{DiskAnswer}
use Rattle.machine.specs.declared.event.Event as events
use Rattle.machine.specs.declared.event.Event.TheVariants as event
use Rattle.machine.specs.declared.kind.Kind as kinds
use Rattle.machine.specs.declared.kind.Kind.TheVariants as kind
use Rattle.machine.specs.declared.reply.Reply.{Reply}
use Rattle.machine.specs.declared.reply.Reply.TheVariants.{DiskFailed, Idle}
use Rattle.disk_calls.specs.Calls.{AllCalls, CallsState, IsAt, IsHandedOut, without}
use Rattle.disk_calls.specs.Desk.{Desk, IsKept, outs_of}
use Rattle.disk_calls.specs.Handing.{asker}
use Rattle.disk_calls.specs.Machines.{Answers, GoesTo, Happening, Happens, Hands, IsDesk, IsNoAnswer, KeepsRequests, MakeAll, Rests, asked_of}
use Rattle.disk_calls.specs.declared.calls.Handed.{Handed}
use Rattle.disk_calls.specs.declared.out.Out.{Out}
use Rattle.disk_calls.proofs.Asking.{ran_kept}
use Rattle.disk_calls.proofs.Happenings.{all_turns, for_drop, for_hand, for_set, other_same, same_desk, with_calls, without_other}
use Rattle.disk_calls.proofs.Numbers.{the_same}
use Rattle.disk_calls.proofs.Turns.{placed_at}

-- A machine of which only the devices are known.
abbrev pub with_devices : List DeviceState → MachineState
with_devices devices = record { ram = []; devices = devices; disks = [] }

-- An event was a step of some machine with such devices.
pub record IsStepOf (old : List DeviceState) (e : events.Event) (new : List DeviceState) : Type 0 where
  pub before : MachineState
  pub after : MachineState
  pub outcome : Outcome
  pub reply : Reply
  pub step : IsStep before e outcome reply after
  pub old_is : before.devices ≡ old
  pub new_is : after.devices ≡ new

-- An event that was applied is one, and so is a flush that failed in place of its step.
given_devices : (m : MachineState) (e : events.Event) (given : List Sector) → (as_given m e given).devices ≡ m.devices
given_devices m (event.RegRead dev off width) given = refl
given_devices m (event.RegWrite dev off width value) given = refl
given_devices m (event.MemRead addr len) given = refl
given_devices m (event.MemWrite addr bytes) given = refl
given_devices m (event.Step dev pick) given = refl
given_devices m (event.Input dev bytes) given = refl
given_devices m (event.Resize dev cols rows) given = refl
given_devices m (event.Drop dev) given = refl
given_devices m (event.Disk dev pick answer) given = refl

pub applied_step : (old new : Seen) (e : events.Event) (reply : Reply) → IsApplied old e reply new → IsStepOf (state_of old).devices e (state_of new).devices
applied_step old new e reply a =
    let same = given_devices (state_of old) e a.given in
    record {
      before = as_given (state_of old) e a.given;
      after = applied (as_given (state_of old) e a.given) a.effect;
      outcome = outcome_of reply;
      reply = reply;
      step = record { effect = a.effect; has = a.has; changed = refl };
      old_is = same;
      new_is = ap (λ (ds : List DeviceState). replaced_in ds a.effect.replaced) same ∙ sym a.devices;
    }

pub failed_step : (old new : Seen) (dev pick : ℕ) → FailsFlush old dev pick new → IsStepOf (state_of old).devices (event.Step dev pick) (state_of new).devices
failed_step old new dev pick f = record {
  before = state_of old;
  after = state_of new;
  outcome = disk_failed;
  reply = DiskFailed;
  step = record { effect = f.effect; has = f.has; changed = f.changed };
  old_is = refl;
  new_is = refl;
}

-- Which devices it leaves.
pub written_elsewhere : (old new : List DeviceState) (n off width value dev : ℕ) → IsStepOf old (event.RegWrite n off width value) new → dev ≢ n → slice_get new dev ≡ slice_get old dev
written_elsewhere old new n off width value dev s other =
    ap (λ (ds : List DeviceState). slice_get ds dev) (sym s.new_is)
    ∙ other_same s.before s.after (event.RegWrite n off width value) s.outcome s.reply n dev s.step (for_set n (slice_get s.before.devices n) off width value) other
    ∙ ap (λ (ds : List DeviceState). slice_get ds dev) s.old_is

pub dropped_elsewhere : (old new : List DeviceState) (n dev : ℕ) → IsStepOf old (event.Drop n) new → dev ≢ n → slice_get new dev ≡ slice_get old dev
dropped_elsewhere old new n dev s other =
    ap (λ (ds : List DeviceState). slice_get ds dev) (sym s.new_is)
    ∙ other_same s.before s.after (event.Drop n) s.outcome s.reply n dev s.step (for_drop n (slice_get s.before.devices n)) other
    ∙ ap (λ (ds : List DeviceState). slice_get ds dev) s.old_is

-- So it happens, between two rests.
keeps_of : (m : MachineState) (calls : AllCalls) (e : events.Event) (old : List DeviceState) → m.devices ≡ old → KeepsRequests (with_devices old) calls e → KeepsRequests m calls e
keeps_of m calls (event.RegWrite dev off width value) old is keeps = λ drops. keeps (ap (λ (ds : List DeviceState). drops_in (slice_get ds dev) off width value) (sym is) ∙ drops)
keeps_of m calls (event.RegRead dev off width) old is keeps = tt
keeps_of m calls (event.MemRead addr len) old is keeps = tt
keeps_of m calls (event.MemWrite addr bytes) old is keeps = tt
keeps_of m calls (event.Step dev pick) old is keeps = tt
keeps_of m calls (event.Input dev bytes) old is keeps = tt
keeps_of m calls (event.Resize dev cols rows) old is keeps = tt
keeps_of m calls (event.Drop dev) old is keeps = tt
keeps_of m calls (event.Disk dev pick answer) old is keeps = tt

pub step_happens : (old new : List DeviceState) (calls : AllCalls) (e : events.Event) → IsNoAnswer e → KeepsRequests (with_devices old) calls e → IsStepOf old e new → MakeAll (with_devices old) calls (Rests ∷ Happens e ∷ Rests ∷ []) (with_devices new) calls
step_happens old new calls e plain keeps s =
    (s.before, calls, (s.old_is, refl), (s.after, calls, (s.outcome, s.reply, plain, keeps_of s.before calls e old s.old_is keeps, s.step, refl), (with_devices new, calls, (sym s.new_is, refl), (refl, refl))))

pub rest_happens : (old new : List DeviceState) (calls then : AllCalls) → new ≡ old → then ≡ calls → MakeAll (with_devices old) calls (Rests ∷ []) (with_devices new) then
rest_happens old new calls then same calls_same = (with_devices new, then, (same, calls_same), (refl, refl))

pub hand_happens : (old : List DeviceState) (calls then : AllCalls) (most : ℕ) (handed : Handed) → 1 ≤ most → IsHandedOut most calls (map asking_requests old) handed then → MakeAll (with_devices old) calls (Hands most handed ∷ []) (with_devices old) then
hand_happens old calls then most handed some out = (with_devices old, then, (some, out, refl), (refl, refl))

-- Whatever a disk outside answers, its event has the outcome of one that asked for nothing more.
abbrev told_if : Bool → Bool → DeviceState → Block → Answer → Answering → DeviceAnswer
told_if may taken d block given a =
    cond may (cond taken (record { reply = reply_to_disk given; writes = a.writes; sets = []; device = record d { kind = kind.Outside (with_requests block a.requests) } }) (unmoved d Idle)) (unmoved d Idle)

fine_given : (given : Answer) → outcome_of (reply_to_disk given) ≡ fine
fine_given (outside.Gave bytes) = refl
fine_given (outside.Did count) = refl
fine_given outside.Failed = refl

fine_told : (may taken : Bool) (d : DeviceState) (block : Block) (given : Answer) (a : Answering) → outcome_of (told_if may taken d block given a).reply ≡ fine
fine_told true true d block given a = fine_given given
fine_told true false d block given a = refl
fine_told false taken d block given a = refl

fine_kind : (n : ℕ) (d : DeviceState) (k : kinds.Kind) (pick : ℕ) (given : Answer) → outcome_of (answered_by n (disk_answered d k pick given)).reply ≡ fine
fine_kind n d (kind.Outside block) pick given =
    let a = answer_step d.registers.ram_base block.requests (pick - 1) given in
    fine_told (is_running d.registers.common && ltb 0 pick) a.taken d block given a
fine_kind n d (kind.Network mac inbox) pick given = refl
fine_kind n d (kind.Block block) pick given = refl
fine_kind n d (kind.Console size held) pick given = refl
fine_kind n d (kind.Entropy pool) pick given = refl

fine_found : (n : ℕ) (found : Option DeviceState) (pick : ℕ) (given : DiskAnswer) → outcome_of (hand_in n found pick given).reply ≡ fine
fine_found n None pick given = refl
fine_found n (Some d) pick given = fine_kind n d d.kind pick (answer_of given)

fine_step : (m after : MachineState) (dev pick : ℕ) (given : DiskAnswer) (o : Outcome) (r : Reply) → IsStep m (event.Disk dev pick given) o r after → IsStep m (event.Disk dev pick given) fine r after
fine_step m after dev pick given o r s = record {
  effect = s.effect;
  has = record { seen = s.has.seen; may_see = tt; reply_is = s.has.reply_is; effect_is = s.has.effect_is; outcome_is = ap outcome_of s.has.reply_is ∙ fine_found dev (slice_get m.devices dev) pick given };
  changed = s.changed;
}

-- The answer goes to the request that asks, if one does.
abbrev pub GoesFor : List DeviceState → ℕ → DiskAnswer → Option ℕ → List DeviceState → Type 0
GoesFor old dev given None new = new ≡ old
GoesFor old dev given (Some k) new = IsStepOf old (event.Disk dev (k + 1) given) new

abbrev pub asker_in : List DeviceState → ℕ → DiskCall → Option ℕ
asker_in devices dev call = asker (get_or (map asking_requests devices) dev []) call

answer_by : (found : Option ℕ) (old new : List DeviceState) (calls then : AllCalls) (dev i : ℕ) (given : DiskAnswer) (out : Out) → asker_in old dev out.call ≡ found → IsAt calls.devices dev i out → answers out.call (answer_of given) ≡ true
    → GoesFor old dev given found new → then ≡ without calls dev i → MakeAll (with_devices old) calls (Rests ∷ Answers dev i given ∷ Rests ∷ []) (with_devices new) then
answer_by None old new calls then dev i given out is at to goes gone =
    let to_it : GoesTo (with_devices old) dev given (asker_in old dev out.call) (with_devices old) = subst (λ (o : Option ℕ). GoesTo (with_devices old) dev given o (with_devices old)) (sym is) refl in
    (with_devices old, calls, (refl, refl), (with_devices old, then, (out, at, to, to_it, gone), (with_devices new, then, (goes, refl), (refl, refl))))
answer_by (Some k) old new calls then dev i given out is at to goes gone =
    let same : asker (get_or (asked_of goes.before) dev []) out.call ≡ asker_in old dev out.call = ap (λ (ds : List DeviceState). asker_in ds dev out.call) goes.old_is in
    let to_it : GoesTo goes.before dev given (asker (get_or (asked_of goes.before) dev []) out.call) goes.after =
    subst (λ (o : Option ℕ). GoesTo goes.before dev given o goes.after) (sym (same ∙ is)) (goes.reply, fine_step goes.before goes.after dev (k + 1) given goes.outcome goes.reply goes.step) in
    (goes.before, calls, (goes.old_is, refl), (goes.after, then, (out, at, to, to_it, gone), (with_devices new, then, (sym goes.new_is, refl), (refl, refl))))

pub answer_happens : (old new : List DeviceState) (calls then : AllCalls) (dev i : ℕ) (given : DiskAnswer) (out : Out) → IsAt calls.devices dev i out → answers out.call (answer_of given) ≡ true → GoesFor old dev given (asker_in old dev out.call) new
    → then ≡ without calls dev i → MakeAll (with_devices old) calls (Rests ∷ Answers dev i given ∷ Rests ∷ []) (with_devices new) then
answer_happens old new calls then dev i given out at to goes gone = answer_by (asker_in old dev out.call) old new calls then dev i given out refl at to goes gone

-- One list after another.
pub all_happen : (m mid after : MachineState) (calls between then : AllCalls) (front back : List Happening) → MakeAll m calls front mid between → MakeAll mid between back after then → MakeAll m calls (front ++ back) after then
all_happen m mid after calls between then [] back first second =
    subst (λ (x : MachineState). MakeAll x calls back after then) first.0 (subst (λ (c : AllCalls). MakeAll mid c back after then) first.1 second)
all_happen m mid after calls between then (h ∷ front) back first second = (first.0, first.1, first.2, all_happen first.0 mid after first.1 between then front back first.3 second)

-- What is kept of a device's desk stays so, whatever happens.
pub record StaysKept (after : MachineState) (then : AllCalls) (dev size : ℕ) : Type 0 where
  pub desk : Desk
  pub is : IsDesk after then dev size desk
  pub kept : IsKept size desk

pub stays_kept : (m after : MachineState) (calls then : AllCalls) (hs : List Happening) (dev size : ℕ) (d : Desk) → 1 ≤ size → IsDesk m calls dev size d → IsKept size d → MakeAll m calls hs after then → StaysKept after then dev size
stays_kept m after calls then hs dev size d some desk kept all =
    let reached = all_turns size 0 m after calls then hs dev d desk all in
    record { desk = reached.next; is = reached.is; kept = ran_kept size 0 d reached.turns reached.next some reached.ran kept }

-- The answer of a call of another device leaves it as it is.
answered_other : (found : Option ℕ) (old new : List DeviceState) (n dev : ℕ) (given : DiskAnswer) → GoesFor old n given found new → dev ≢ n → slice_get new dev ≡ slice_get old dev
answered_other None old new n dev given goes other = ap (λ (ds : List DeviceState). slice_get ds dev) goes
answered_other (Some k) old new n dev given goes other =
    ap (λ (ds : List DeviceState). slice_get ds dev) (sym goes.new_is)
    ∙ other_same goes.before goes.after (event.Disk n (k + 1) given) goes.outcome goes.reply n dev goes.step (for_hand n (slice_get goes.before.devices n) (k + 1) given) other
    ∙ ap (λ (ds : List DeviceState). slice_get ds dev) goes.old_is

pub other_desk : (old new : List DeviceState) (calls then : AllCalls) (n i dev size : ℕ) (found : Option ℕ) (given : DiskAnswer) (d : Desk) → IsDesk (with_devices old) calls dev size d → dev ≢ n → GoesFor old n given found new → then ≡ without calls n i
    → IsDesk (with_devices new) then dev size d
other_desk old new calls then n i dev size found given d desk other goes gone =
    let devices : slice_get then.devices dev ≡ slice_get calls.devices dev = ap (λ (c : AllCalls). slice_get c.devices dev) gone ∙ without_other calls n i dev (slice_get calls.devices n) other in
    with_calls (with_devices new) calls then dev size d (same_desk (with_devices old) (with_devices new) calls dev size d desk (answered_other found old new n dev given goes other)) devices

-- A call of its own that is out has a sector at least.
pub some_out : (m : MachineState) (calls : AllCalls) (dev size i : ℕ) (d : Desk) (out : Out) → IsDesk m calls dev size d → IsKept size d → IsAt calls.devices dev i out → 1 ≤ out.call.count
some_out m calls dev size i d out desk kept at =
    let same : at.device ≡ desk.own = the_same calls.devices dev at.device desk.own at.there desk.calls_there in
    let is : slice_get (outs_of d.placed) i ≡ Some out = ap (λ (list : List Out). slice_get list i) (sym desk.outs_are) ∙ ap (λ (s : CallsState). slice_get s.outs i) (sym same) ∙ at.is in
    let p = placed_at d.placed i out is in
    subst (λ (o : Out). 1 ≤ o.call.count) p.2 (kept.asked i p.0 p.1).some
