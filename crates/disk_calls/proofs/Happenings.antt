-- What happens to a machine and to the calls of its disks is turns of each device.
use Rattle.std.proofs.Common.{◌≡◌, ◌≢◌, ℕ, ◌+◌, ◌-◌, ◌≤◌, ◌∙◌, inl, inr, List, [], ◌∷◌, ◌++◌, length, map, set, get_or, Bool, true, false, cond, ltb, Option, Some, None, Result, Ok, Err, slice_get, refl, sym, ap, subst, arith}
use Rattle.std.specs.Prelude.{◌&&◌, not}
use Rattle.std.specs.List.{remove}
use Rattle.std.proofs.lemmas.Bool.{cases_Bool, lt-ltb, true≢false}
use Rattle.guestmem.specs.Address.{access_refusal, index_of}
use Rattle.guestmem.specs.declared.error.RamError.{RamError}
use Rattle.mmio.specs.RegisterWrite.{register_write}
use Rattle.mmio.specs.State.{queue_at}
use Rattle.mmio.specs.Status.{is_running}
use Rattle.mmio.specs.declared.queue.Queue.{Queue}
use Rattle.chains.specs.State.{RingState, state_of}
use Rattle.chains.specs.declared.next.Next.{Next}
use Rattle.chains.specs.declared.next.Next.TheVariants as next
use Rattle.chains.specs.declared.position.Positions.{Positions}
use Rattle.blk.specs.Advance.{advance_one}
use Rattle.blk.specs.Block.{with_requests}
use Rattle.blk.specs.Move.{move_of}
use Rattle.blk.specs.Outside as outside
use Rattle.blk.specs.Outside.{Answer, Answering, Failed, answer_step, answer_to, answers, answers_in, awaits, awaits_at, awaits_in, call_of, disk_call, disk_call_at, outside_step, units_left, what_of}
use Rattle.blk.specs.Request.{is_open, next_sector}
use Rattle.blk.specs.Sectors.{Sector}
use Rattle.blk.specs.Take.{request_for, take_step, task_for}
use Rattle.blk.specs.Block.{limits_of}
use Rattle.blk.specs.declared.block.Block.{Block}
use Rattle.blk.specs.declared.outside.DiskCall.{DiskCall}
use Rattle.blk.specs.declared.request.Kind as requests_
use Rattle.blk.specs.declared.request.Kind.TheVariants.{Refused, In, Out, Flush, GetId, Zero}
use Rattle.blk.specs.declared.request.Request.{Request}
use Rattle.machine.specs.DeviceStep.{DeviceAnswer, advance_at, advance_on, advanced_at, advanced_by, advances, can_advance, device_step, looked_at, serve, step_at, waits_outside}
use Rattle.machine.specs.Dropping.{drops_in}
use Rattle.machine.specs.Effect.{Effect, Replacement, replaced_in}
use Rattle.machine.specs.Outcome.{Outcome, disk_failed, fine, no_memory}
use Rattle.machine.specs.Outside.{answer_disk, answer_of, disk_answered, outside_requests, taken_in}
use Rattle.machine.specs.State.{DeviceState, MachineState, base_of}
use Rattle.machine.specs.Step as steps
use Rattle.machine.specs.Step.{IsStep, answer, answered_by, disk_of, drop_by, drop_input, drop_of, hand_in, input_of, is_first_ready, put_by, put_in, read_ram, read_register, register_set, set_size, size_by, step_device, write_ram, write_register}
use Rattle.machine.specs.declared.event.DiskAnswer.{DiskAnswer}
use Rattle.machine.specs.declared.event.Event as events
use Rattle.machine.specs.declared.event.Event.TheVariants as event
use Rattle.machine.specs.declared.kind.Kind as kinds
use Rattle.machine.specs.declared.kind.Kind.TheVariants as kind
use Rattle.machine.specs.declared.reply.Refusal.{Refusal}
use Rattle.machine.specs.declared.reply.Reply.{Reply as Reply_}
use Rattle.disk_calls.specs.Calls as out_calls
use Rattle.disk_calls.specs.Calls.{AllCalls, CallsState, IsAt, IsHandedOut, is_out_of, with_out, without, without_at}
use Rattle.disk_calls.specs.Desk.{Desk, Drop, End, Goes, Hand, Lose, Pass, Placed, Ran, Reply, Take, Turn, moved_up, outs_of, reply_to}
use Rattle.disk_calls.specs.Handing.{asker, call_at}
use Rattle.disk_calls.specs.Machines.{Answers, GoesTo, Happening, Happens, Hands, IsDesk, Rests, IsNoAnswer, KeepsRequests, MachinesMeetCalls, MakeAll, Makes, asked_of}
use Rattle.disk_calls.specs.declared.calls.Handed.{Handed}
use Rattle.disk_calls.specs.declared.out.Out as outs
use Rattle.disk_calls.proofs.Asking.{calls_are_met, is_same}
use Rattle.disk_calls.proofs.Numbers.{get_other, get_set, the_same}
use Rattle.disk_calls.proofs.Turns.{outs_pushed, outs_removed, placed_at}
use Rattle.disk_calls.proofs.Within.{asked_at}

-- Where the desk of a device goes: by some turns, to the desk that it is then.
pub record Reaches (size base : ℕ) (d : Desk) (after : MachineState) (then : AllCalls) (dev : ℕ) : Type 0 where
  pub turns : List Turn
  pub next : Desk
  pub ran : Ran size base d turns next
  pub is : IsDesk after then dev size next

stays : (size base : ℕ) (d : Desk) (after : MachineState) (then : AllCalls) (dev : ℕ) → IsDesk after then dev size d → Reaches size base d after then dev
stays size base d after then dev h = record { turns = []; next = d; ran = refl; is = h }

turned : (size base : ℕ) (d : Desk) (after : MachineState) (then : AllCalls) (dev : ℕ) (turn : Turn) (next : Desk) → Goes size base d turn next → IsDesk after then dev size next → Reaches size base d after then dev
turned size base d after then dev turn next goes h = record { turns = turn ∷ []; next = next; ran = (next, goes, refl); is = h }

-- The desk of the same device, where the machine has changed.
pub same_desk : (m after : MachineState) (calls : AllCalls) (dev size : ℕ) (d : Desk) → IsDesk m calls dev size d → slice_get after.devices dev ≡ slice_get m.devices dev → IsDesk after calls dev size d
same_desk m after calls dev size d h same = record {
  device = h.device;
  there = same ∙ h.there;
  block = h.block;
  is = h.is;
  requests_are = h.requests_are;
  own = h.own;
  calls_there = h.calls_there;
  size_is = h.size_is;
  outs_are = h.outs_are;
}

new_desk : (m after : MachineState) (calls : AllCalls) (dev size : ℕ) (d next : Desk) (device : DeviceState) (block : Block) → IsDesk m calls dev size d → slice_get after.devices dev ≡ Some device → device.kind ≡ kind.Outside block → block.requests ≡ next.requests → outs_of next.placed ≡ outs_of d.placed
    → IsDesk after calls dev size next
new_desk m after calls dev size d next device block h there is requests placed = record {
  device = device;
  there = there;
  block = block;
  is = is;
  requests_are = requests;
  own = h.own;
  calls_there = h.calls_there;
  size_is = h.size_is;
  outs_are = h.outs_are ∙ sym placed;
}

-- The devices after an event.
pub devices_after : (m after : MachineState) (e : events.Event) (o : Outcome) (r : Reply_) (h : IsStep m e o r after) → after.devices ≡ replaced_in m.devices (answer m e o h.has.seen).effect.replaced
devices_after m after e o r h = ap (λ (k : MachineState). k.devices) h.changed ∙ ap (λ (f : Effect). replaced_in m.devices f.replaced) h.has.effect_is

none_replaced : (m after : MachineState) (e : events.Event) (o : Outcome) (r : Reply_) (dev : ℕ) (h : IsStep m e o r after) → (answer m e o h.has.seen).effect.replaced ≡ None → slice_get after.devices dev ≡ slice_get m.devices dev
none_replaced m after e o r dev h none = ap (λ (ds : List DeviceState). slice_get ds dev) (devices_after m after e o r h ∙ ap (replaced_in m.devices) none)

-- An event of one device leaves the others.
abbrev IsFor : ℕ → Option Replacement → Type 0
IsFor n None = Unit {0}
IsFor n (Some r) = r.number ≡ n

elsewhere : (ds : List DeviceState) (n dev : ℕ) (r : Option Replacement) → IsFor n r → dev ≢ n → slice_get (replaced_in ds r) dev ≡ slice_get ds dev
elsewhere ds n dev None for other = refl
elsewhere ds n dev (Some r) for other = get_other ds r.number r.device dev (λ e. other (e ∙ for))

pub other_same : (m after : MachineState) (e : events.Event) (o : Outcome) (r : Reply_) (n dev : ℕ) (h : IsStep m e o r after) → IsFor n (answer m e o h.has.seen).effect.replaced → dev ≢ n → slice_get after.devices dev ≡ slice_get m.devices dev
other_same m after e o r n dev h for other = ap (λ (ds : List DeviceState). slice_get ds dev) (devices_after m after e o r h) ∙ elsewhere m.devices n dev (answer m e o h.has.seen).effect.replaced for other

pub for_set : (n : ℕ) (found : Option DeviceState) (off width value : ℕ) → IsFor n (write_register n found off width value).effect.replaced
for_set n None off width value = tt
for_set n (Some d) off width value = refl

for_put_by : (n : ℕ) (d : DeviceState) (bytes : List ℕ) (told : Result ℕ Refusal) → IsFor n (put_by n d bytes told).effect.replaced
for_put_by n d bytes (Ok count) = refl
for_put_by n d bytes (Err refusal) = tt

for_put : (n : ℕ) (found : Option DeviceState) (bytes : List ℕ) → IsFor n (put_in n found bytes).effect.replaced
for_put n None bytes = tt
for_put n (Some d) bytes = for_put_by n d bytes (input_of d.kind bytes)

for_size_by : (n : ℕ) (d : DeviceState) (k : kinds.Kind) (cols rows : ℕ) → IsFor n (size_by n d k (record { columns = cols; rows = rows })).effect.replaced
for_size_by n d (kind.Console old held) cols rows = refl
for_size_by n d (kind.Network mac inbox) cols rows = tt
for_size_by n d (kind.Block block) cols rows = tt
for_size_by n d (kind.Outside block) cols rows = tt
for_size_by n d (kind.Entropy pool) cols rows = tt

for_size : (n : ℕ) (found : Option DeviceState) (cols rows : ℕ) → IsFor n (set_size n found (record { columns = cols; rows = rows })).effect.replaced
for_size n None cols rows = tt
for_size n (Some d) cols rows = for_size_by n d d.kind cols rows

for_drop_by : (n : ℕ) (d : DeviceState) (told : Result (Unit {0}) Refusal) → IsFor n (drop_by n d told).effect.replaced
for_drop_by n d (Ok done) = refl
for_drop_by n d (Err refusal) = tt

pub for_drop : (n : ℕ) (found : Option DeviceState) → IsFor n (drop_input n found).effect.replaced
for_drop n None = tt
for_drop n (Some d) = for_drop_by n d (drop_of d.kind)

for_step : (n : ℕ) (found : Option DeviceState) (ram : List ℕ) (content : List Sector) (pick : ℕ) (o : Outcome) (seen : Next) → IsFor n (step_device n found ram content pick o seen).effect.replaced
for_step n None ram content pick o seen = tt
for_step n (Some d) ram content pick o seen = refl

for_hand_by : (n : ℕ) (told : Result DeviceAnswer Refusal) → IsFor n (answered_by n told).effect.replaced
for_hand_by n (Ok s) = refl
for_hand_by n (Err refusal) = tt

pub for_hand : (n : ℕ) (found : Option DeviceState) (pick : ℕ) (given : DiskAnswer) → IsFor n (hand_in n found pick given).effect.replaced
for_hand n None pick given = tt
for_hand n (Some d) pick given = for_hand_by n (disk_answered d d.kind pick (answer_of given))

-- Events that replace no device.
none_look : (found : Option DeviceState) (off width : ℕ) → (read_register found off width).effect.replaced ≡ None
none_look None off width = refl
none_look (Some d) off width = refl

none_read : (ram : List ℕ) (at len : ℕ) (error : Option RamError) (o : Outcome) → (read_ram ram at len error o).effect.replaced ≡ None
none_read ram at len (Some error) o = refl
none_read ram at len None fine = refl
none_read ram at len None disk_failed = refl
none_read ram at len None no_memory = refl

none_store : (at : ℕ) (bytes : List ℕ) (error : Option RamError) → (write_ram at bytes error).effect.replaced ≡ None
none_store at bytes (Some error) = refl
none_store at bytes None = refl

-- What a step makes of the requests of a device whose disk is outside.
data How : Type 0 where
  keeps : How
  takes : Request → How
  passes : ℕ → Request → How
  ends : ℕ → How

abbrev Changed : List Request → How → List Request → Type 0
Changed old keeps new = new ≡ old
Changed old (takes r) new = new ≡ old ++ r ∷ []
Changed old (passes k r) new = (disk_call_at old k ≡ None) × (disk_call r ≡ None) × (new ≡ set old k r)
Changed old (ends k) new = (disk_call_at old k ≡ None) × (new ≡ remove old k)

record IsStepped (block : Block) (k : kinds.Kind) : Type 0 where
  new : Block
  is : k ≡ kind.Outside new
  how : How
  changed : Changed block.requests how new.requests

kept_kind : (block : Block) (k : kinds.Kind) → k ≡ kind.Outside block → IsStepped block k
kept_kind block k is = record { new = block; is = is; how = keeps; changed = refl }

-- A request that does not wait asks for nothing, and nor does it after its unit.
asks_nothing : (call : Option DiskCall) → answers_in call Failed ≡ false → call ≡ None
asks_nothing None h = refl
asks_nothing (Some call) h = absurd (true≢false h)

none_asked : (found : Option Request) → awaits_in found Failed ≡ false → outside.disk_call_in found ≡ None
none_asked None h = refl
none_asked (Some r) h = asks_nothing (disk_call r) h

neither : (b : Bool) (x : Option DiskCall) → x ≡ None → cond b x None ≡ None
neither true x h = h
neither false x h = refl

passed_by : (k : requests_.Kind) (first left base : ℕ) (id ram : List ℕ) (r : Request) → r.kind ≡ k → answers_in (call_of (what_of k) first left) Failed ≡ false → disk_call (move_of k base id ram [] r true).request ≡ None
passed_by Refused first left base id ram r is h = rw is (neither (is_open (record r { done = r.done + 1 })) None refl)
passed_by GetId first left base id ram r is h = rw is (neither (is_open (record r { done = r.done + 1 })) None refl)
passed_by In first left base id ram r is h = absurd (true≢false h)
passed_by Out first left base id ram r is h = absurd (true≢false h)
passed_by Flush first left base id ram r is h = absurd (true≢false h)
passed_by Zero first left base id ram r is h = absurd (true≢false h)

stepped_one : (ram : List ℕ) (q : RingState) (b : Block) (k : ℕ) (r : Request) (opens : Bool) → is_open r ≡ opens → slice_get b.requests k ≡ Some r → awaits_at b.requests k Failed ≡ false → IsStepped b (kind.Outside (advance_one ram q [] b k true (Some r)).block)
stepped_one ram q b k r true is there free =
    let asked : disk_call_at b.requests k ≡ None = none_asked (slice_get b.requests k) free in
    let waits : answers_in (cond (is_open r) (call_of (what_of r.kind) (next_sector r) (units_left r)) None) Failed ≡ false = rw there at free in
    let kinds_ : answers_in (call_of (what_of r.kind) (next_sector r) (units_left r)) Failed ≡ false = rw is at waits in
    let moved = (move_of r.kind q.base b.id ram [] r true).request in
    rw is (record { new = with_requests b (set b.requests k moved); is = refl; how = passes k moved; changed = (asked, passed_by r.kind (next_sector r) (units_left r) q.base b.id ram r refl kinds_, refl) })
stepped_one ram q b k r false is there free =
    let asked : disk_call_at b.requests k ≡ None = none_asked (slice_get b.requests k) free in
    rw is (record { new = with_requests b (remove b.requests k); is = refl; how = ends k; changed = (asked, refl) })

stepped_found : (ram : List ℕ) (q : RingState) (b : Block) (k : ℕ) (found : Option Request) → slice_get b.requests k ≡ found → awaits_at b.requests k Failed ≡ false → IsStepped b (kind.Outside (advance_one ram q [] b k true found).block)
stepped_found ram q b k None there free = kept_kind b (kind.Outside b) refl
stepped_found ram q b k (Some r) there free = stepped_one ram q b k r (is_open r) refl there free

stepped_taken : (features : ℕ) (ram : List ℕ) (q : RingState) (b : Block) (seen : Next) → IsStepped b (kind.Outside (take_step features ram q b seen).state)
stepped_taken features ram q b next.Empty = kept_kind b (kind.Outside b) refl
stepped_taken features ram q b next.Malformed = kept_kind b (kind.Outside b) refl
stepped_taken features ram q b (next.Chain c) =
    let r = request_for c (task_for q.base ram (limits_of b features) c) in
    record { new = with_requests b (b.requests ++ r ∷ []); is = refl; how = takes r; changed = refl }

-- The request that a step advances does not wait.
second_true : (a b : Bool) → (a && b) ≡ true → b ≡ true
second_true true b h = h
second_true false b h = cc

not_true : (b : Bool) → not b ≡ true → b ≡ false
not_true true h = cc
not_true false h = refl

advancing_by : (d : DeviceState) (pick : ℕ) (b : Bool) (s q : RingState) → advances d pick ≡ b → cond b (Some s) None ≡ Some q → advances d pick ≡ true
advancing_by d pick true s q is h = is
advancing_by d pick false s q is h = cc

advancing : (d : DeviceState) (pick : ℕ) (queue : Option Queue) (p : Option Positions) (q : RingState) → advanced_by d pick queue p ≡ Some q → advances d pick ≡ true
advancing d pick None p q h = cc
advancing d pick (Some queue) None q h = cc
advancing d pick (Some queue) (Some p) q h = advancing_by d pick (advances d pick) (state_of queue d.registers.common.features d.registers.ram_base p) q refl h

free_of : (d : DeviceState) (block : Block) (pick : ℕ) (q : RingState) → d.kind ≡ kind.Outside block → advanced_at d pick ≡ Some q → awaits_at block.requests (pick - 1) Failed ≡ false
free_of d block pick q is h =
    let all = advancing d pick (queue_at d.registers 0) (slice_get d.positions 0) q h in
    let can : can_advance d.kind (pick - 1) ≡ true = second_true _ (can_advance d.kind (pick - 1)) all in
    let waits : waits_outside d.kind (pick - 1) ≡ false = not_true (waits_outside d.kind (pick - 1)) (second_true _ _ can) in
    ap (λ (k : kinds.Kind). waits_outside k (pick - 1)) (sym is) ∙ waits

stepped_on : (d : DeviceState) (block : Block) (ram : List ℕ) (content : List Sector) (pick : ℕ) (ring : Option RingState) (o : Outcome) → d.kind ≡ kind.Outside block → advanced_at d pick ≡ ring → IsStepped block (advance_at d ram content pick ring o).device.kind
stepped_on d block ram content pick None o is at = kept_kind block d.kind is
stepped_on d block ram content pick (Some q) o is at =
    let same : (advance_on d d.kind ram content pick q o).device.kind ≡ (advance_on d (kind.Outside block) ram content pick q o).device.kind = ap (λ (k : kinds.Kind). (advance_on d k ram content pick q o).device.kind) is in
    subst (IsStepped block) (sym same) (stepped_found ram q block (pick - 1) (slice_get block.requests (pick - 1)) refl (free_of d block pick q is at))

stepped_at : (d : DeviceState) (block : Block) (ram : List ℕ) (content : List Sector) (pick : ℕ) (ring : Option RingState) (o : Outcome) (seen : Next) → d.kind ≡ kind.Outside block → IsStepped block (step_at d ram content pick ring o seen).device.kind
stepped_at d block ram content pick None o seen is = stepped_on d block ram content pick (advanced_at d pick) o is refl
stepped_at d block ram content pick (Some q) no_memory seen is = kept_kind block d.kind is
stepped_at d block ram content pick (Some q) disk_failed seen is = kept_kind block d.kind is
stepped_at d block ram content pick (Some q) fine seen is =
    let features = d.registers.common.features in
    let same : (serve features d.kind pick ram q seen).state ≡ (serve features (kind.Outside block) pick ram q seen).state = ap (λ (k : kinds.Kind). (serve features k pick ram q seen).state) is in
    subst (IsStepped block) (sym same) (stepped_taken features ram q block seen)

stepped : (d : DeviceState) (block : Block) (ram : List ℕ) (content : List Sector) (pick : ℕ) (o : Outcome) (seen : Next) → d.kind ≡ kind.Outside block → IsStepped block (device_step d ram content pick o seen).device.kind
unfolding device_step
stepped d block ram content pick o seen is = stepped_at d block ram content pick (looked_at d pick) o seen is

moved_outs : (k : ℕ) (placed : List Placed) → outs_of (map (moved_up k) placed) ≡ outs_of placed
moved_outs k [] = refl
moved_outs k (p ∷ placed) = ap (λ (list : List outs.Out). p.out ∷ list) (moved_outs k placed)

-- An event of the device itself.
module _ (size base : ℕ) (m after : MachineState) (calls : AllCalls) (dev : ℕ) (d : Desk) (desk : IsDesk m calls dev size d) where
  by_how : (device : DeviceState) (s : IsStepped desk.block device.kind) (how : How) → s.how ≡ how → slice_get after.devices dev ≡ Some device → Reaches size base d after calls dev
  by_how device s keeps is there =
      let same : s.new.requests ≡ desk.block.requests = subst (λ (h : How). Changed desk.block.requests h s.new.requests) is s.changed in
      stays size base d after calls dev (new_desk m after calls dev size d d device s.new desk there s.is (same ∙ desk.requests_are) refl)
  by_how device s (takes r) is there =
      let more : s.new.requests ≡ desk.block.requests ++ r ∷ [] = subst (λ (h : How). Changed desk.block.requests h s.new.requests) is s.changed in
      let next : Desk = record d { requests = d.requests ++ r ∷ [] } in
      turned size base d after calls dev (Take r) next refl (new_desk m after calls dev size d next device s.new desk there s.is (more ∙ ap (λ (rs : List Request). rs ++ r ∷ []) desk.requests_are) refl)
  by_how device s (passes k r) is there =
      let all : Changed desk.block.requests (passes k r) s.new.requests = subst (λ (h : How). Changed desk.block.requests h s.new.requests) is s.changed in
      let next : Desk = record d { requests = set d.requests k r } in
      let asked : disk_call_at d.requests k ≡ None = rw (← desk.requests_are) (all.0) in
      turned size base d after calls dev (Pass k r) next (asked, all.1, refl) (new_desk m after calls dev size d next device s.new desk there s.is (all.2 ∙ ap (λ (rs : List Request). set rs k r) desk.requests_are) refl)
  by_how device s (ends k) is there =
      let all : Changed desk.block.requests (ends k) s.new.requests = subst (λ (h : How). Changed desk.block.requests h s.new.requests) is s.changed in
      let next : Desk = record { requests = remove d.requests k; placed = map (moved_up k) d.placed } in
      let asked : disk_call_at d.requests k ≡ None = rw (← desk.requests_are) (all.0) in
      turned size base d after calls dev (End k) next (asked, refl) (new_desk m after calls dev size d next device s.new desk there s.is (all.1 ∙ ap (λ (rs : List Request). remove rs k) desk.requests_are) (moved_outs k d.placed))

  step_turns : (pick : ℕ) (o : Outcome) (r : Reply_) → IsStep m (event.Step dev pick) o r after → Reaches size base d after calls dev
  step_turns pick o r h =
      let new = (device_step desk.device m.ram (disk_of m dev) pick o h.has.seen).device in
      let s = stepped desk.device desk.block m.ram (disk_of m dev) pick o h.has.seen desk.is in
      let replaced : (step_device dev (slice_get m.devices dev) m.ram (disk_of m dev) pick o h.has.seen).effect.replaced ≡ Some (record { number = dev; device = new }) = rw desk.there refl in
      let there : slice_get after.devices dev ≡ Some new = ap (λ (ds : List DeviceState). slice_get ds dev) (devices_after m after (event.Step dev pick) o r h ∙ ap (replaced_in m.devices) replaced) ∙ get_set m.devices dev desk.device new desk.there in
      by_how new s s.how refl there

  -- Requests are dropped only where no call is out.
  no_calls : (list : List outs.Out) → ltb 0 (length list) ≡ false → list ≡ []
  no_calls [] h = refl
  no_calls (o ∷ list) h = absurd (true≢false (sym (lt-ltb 0 (length (o ∷ list)) (omega arith)) ∙ h))

  no_placed : (placed : List Placed) → outs_of placed ≡ [] → placed ≡ []
  no_placed [] h = refl
  no_placed (p ∷ placed) h = cc

  none_out : is_out_of calls dev ≡ false → d.placed ≡ []
  none_out h =
      let own : ltb 0 (length desk.own.outs) ≡ false = rw desk.calls_there at h in
      no_placed d.placed (sym desk.outs_are ∙ no_calls desk.own.outs own)

  register_by : (new : DeviceState) (off width value : ℕ) (ready : Bool) (requests : List Request) → is_first_ready (register_write desk.device.registers off width value).1.queues ≡ ready → desk.block.requests ≡ requests
      → slice_get after.devices dev ≡ Some new → new.kind ≡ kind.Outside (with_requests desk.block (cond ready desk.block.requests [])) → KeepsRequests m calls (event.RegWrite dev off width value) → Reaches size base d after calls dev
  register_by new off width value true requests is are there kind_is keeps_ = stays size base d after calls dev (new_desk m after calls dev size d d new desk.block desk there kind_is desk.requests_are refl)
  register_by new off width value false [] is are there kind_is keeps_ = stays size base d after calls dev (new_desk m after calls dev size d d new (with_requests desk.block []) desk there kind_is (sym are ∙ desk.requests_are) refl)
  register_by new off width value false (x ∷ xs) is are there kind_is keeps_ =
      let some : ltb 0 (length (x ∷ xs)) ≡ true = lt-ltb 0 (length (x ∷ xs)) (omega arith) in
      let held : outside_requests desk.device.kind ≡ x ∷ xs = ap outside_requests desk.is ∙ are in
      let drops : drops_in (slice_get m.devices dev) off width value ≡ true = ap (λ (f : Option DeviceState). drops_in f off width value) desk.there ∙ rw (held, some, is) refl in
      let next : Desk = record d { requests = [] } in
      turned size base d after calls dev Drop next (none_out (keeps_ drops), refl) (new_desk m after calls dev size d next new (with_requests desk.block []) desk there kind_is refl refl)

  register_turns : (off width value : ℕ) (o : Outcome) (r : Reply_) → KeepsRequests m calls (event.RegWrite dev off width value) → IsStep m (event.RegWrite dev off width value) o r after → Reaches size base d after calls dev
  register_turns off width value o r keeps_ h =
      let new = register_set desk.device off width value in
      let queues = (register_write desk.device.registers off width value).1.queues in
      let replaced : (write_register dev (slice_get m.devices dev) off width value).effect.replaced ≡ Some (record { number = dev; device = new }) = rw desk.there refl in
      let there : slice_get after.devices dev ≡ Some new = ap (λ (ds : List DeviceState). slice_get ds dev) (devices_after m after (event.RegWrite dev off width value) o r h ∙ ap (replaced_in m.devices) replaced) ∙ get_set m.devices dev desk.device new desk.there in
      let kind_is : new.kind ≡ kind.Outside (with_requests desk.block (cond (is_first_ready queues) desk.block.requests [])) = ap (steps.dropped_unready queues) desk.is in
      register_by new off width value (is_first_ready queues) desk.block.requests refl refl there kind_is keeps_

  -- What the host puts in, and sizes, are not for it.
  same_turns : slice_get after.devices dev ≡ slice_get m.devices dev → Reaches size base d after calls dev
  same_turns same = stays size base d after calls dev (same_desk m after calls dev size d desk same)

  put_turns : (bytes : List ℕ) (o : Outcome) (r : Reply_) → IsStep m (event.Input dev bytes) o r after → Reaches size base d after calls dev
  put_turns bytes o r h =
      same_turns (none_replaced m after (event.Input dev bytes) o r dev h (ap (λ (f : Option DeviceState). (put_in dev f bytes).effect.replaced) desk.there ∙ ap (λ (k : kinds.Kind). (put_by dev desk.device bytes (input_of k bytes)).effect.replaced) desk.is))

  size_turns : (cols rows : ℕ) (o : Outcome) (r : Reply_) → IsStep m (event.Resize dev cols rows) o r after → Reaches size base d after calls dev
  size_turns cols rows o r h =
      same_turns (none_replaced m after (event.Resize dev cols rows) o r dev h (ap (λ (f : Option DeviceState). (set_size dev f (record { columns = cols; rows = rows })).effect.replaced) desk.there ∙ ap (λ (k : kinds.Kind). (size_by dev desk.device k (record { columns = cols; rows = rows })).effect.replaced) desk.is))

  drop_turns : (o : Outcome) (r : Reply_) → IsStep m (event.Drop dev) o r after → Reaches size base d after calls dev
  drop_turns o r h =
      same_turns (none_replaced m after (event.Drop dev) o r dev h (ap (λ (f : Option DeviceState). (drop_input dev f).effect.replaced) desk.there ∙ ap (λ (k : kinds.Kind). (drop_by dev desk.device (drop_of k)).effect.replaced) desk.is))

  event_turns : (e : events.Event) (o : Outcome) (r : Reply_) → IsNoAnswer e → KeepsRequests m calls e → IsStep m e o r after → Reaches size base d after calls dev
  event_turns (event.RegRead n off width) o r plain keeps_ h = same_turns (none_replaced m after (event.RegRead n off width) o r dev h (none_look (slice_get m.devices n) off width))
  event_turns (event.MemRead addr len) o r plain keeps_ h = same_turns (none_replaced m after (event.MemRead addr len) o r dev h (none_read m.ram (index_of (base_of m.devices) addr) len (access_refusal (base_of m.devices) (length m.ram) addr len) o))
  event_turns (event.MemWrite addr bytes) o r plain keeps_ h = same_turns (none_replaced m after (event.MemWrite addr bytes) o r dev h (none_store (index_of (base_of m.devices) addr) bytes (access_refusal (base_of m.devices) (length m.ram) addr (length bytes))))
  event_turns (event.RegWrite n off width value) o r plain keeps_ h = elim (is_same dev n) as (λ _. Reaches size base d after calls dev) [
    | inl here ↦ register_turns off width value o r (subst (λ (k : ℕ). KeepsRequests m calls (event.RegWrite k off width value)) (sym here) keeps_) (subst (λ (k : ℕ). IsStep m (event.RegWrite k off width value) o r after) (sym here) h)
    | inr other ↦ same_turns (other_same m after (event.RegWrite n off width value) o r n dev h (for_set n (slice_get m.devices n) off width value) other)
  ]
  event_turns (event.Step n pick) o r plain keeps_ h = elim (is_same dev n) as (λ _. Reaches size base d after calls dev) [
    | inl here ↦ step_turns pick o r (subst (λ (k : ℕ). IsStep m (event.Step k pick) o r after) (sym here) h)
    | inr other ↦ same_turns (other_same m after (event.Step n pick) o r n dev h (for_step n (slice_get m.devices n) m.ram (disk_of m n) pick o h.has.seen) other)
  ]
  event_turns (event.Input n bytes) o r plain keeps_ h = elim (is_same dev n) as (λ _. Reaches size base d after calls dev) [
    | inl here ↦ put_turns bytes o r (subst (λ (k : ℕ). IsStep m (event.Input k bytes) o r after) (sym here) h)
    | inr other ↦ same_turns (other_same m after (event.Input n bytes) o r n dev h (for_put n (slice_get m.devices n) bytes) other)
  ]
  event_turns (event.Resize n cols rows) o r plain keeps_ h = elim (is_same dev n) as (λ _. Reaches size base d after calls dev) [
    | inl here ↦ size_turns cols rows o r (subst (λ (k : ℕ). IsStep m (event.Resize k cols rows) o r after) (sym here) h)
    | inr other ↦ same_turns (other_same m after (event.Resize n cols rows) o r n dev h (for_size n (slice_get m.devices n) cols rows) other)
  ]
  event_turns (event.Drop n) o r plain keeps_ h = elim (is_same dev n) as (λ _. Reaches size base d after calls dev) [
    | inl here ↦ drop_turns o r (subst (λ (k : ℕ). IsStep m (event.Drop k) o r after) (sym here) h)
    | inr other ↦ same_turns (other_same m after (event.Drop n) o r n dev h (for_drop n (slice_get m.devices n)) other)
  ]
  event_turns (event.Disk n pick given) o r plain keeps_ h = absurd plain

-- The calls of a device, where those of another have changed.
pub with_calls : (m : MachineState) (calls then : AllCalls) (dev size : ℕ) (d : Desk) → IsDesk m calls dev size d → slice_get then.devices dev ≡ slice_get calls.devices dev → IsDesk m then dev size d
with_calls m calls then dev size d h same = record {
  device = h.device;
  there = h.there;
  block = h.block;
  is = h.is;
  requests_are = h.requests_are;
  own = h.own;
  calls_there = same ∙ h.calls_there;
  size_is = h.size_is;
  outs_are = h.outs_are;
}

pub without_other : (calls : AllCalls) (n i dev : ℕ) (found : Option CallsState) → dev ≢ n → slice_get (without_at calls n i found).devices dev ≡ slice_get calls.devices dev
without_other calls n i dev None other = refl
without_other calls n i dev (Some s) other = get_other calls.devices n (record s { outs = remove s.outs i }) dev other

answered_elsewhere : (m after : MachineState) (n dev : ℕ) (given : DiskAnswer) (found : Option ℕ) → GoesTo m n given found after → dev ≢ n → slice_get after.devices dev ≡ slice_get m.devices dev
answered_elsewhere m after n dev given None h other = ap (λ (k : MachineState). slice_get k.devices dev) h
answered_elsewhere m after n dev given (Some k) h other = other_same m after (event.Disk n (k + 1) given) fine h.0 n dev h.1 (for_hand n (slice_get m.devices n) (k + 1) given) other

-- A device runs, if one of its requests asks for something.
running_of : (running : Bool) (requests : List Request) (call : DiskCall) (k : ℕ) → asker (cond running requests []) call ≡ Some k → (running ≡ true) × (asker requests call ≡ Some k)
running_of true requests call k h = (refl, h)
running_of false requests call k h = cc

-- What an answer makes of the requests, wherever RAM lies.
untaken : (base : ℕ) (requests : List Request) (k : ℕ) (a : Answer) (found : Option Request) → (answer_to base requests k a found).taken ≡ false → (answer_to base requests k a found).requests ≡ requests
untaken base requests k a None h = refl
untaken base requests k a (Some r) h =
    elim (cases_Bool (awaits r a)) as (λ _. (answer_to base requests k a (Some r)).requests ≡ requests) [
      | inl asked ↦ let taken : true ≡ false = rw asked at h in absurd (true≢false taken)
      | inr other ↦ rw other refl
    ]

alike : (base other : ℕ) (requests : List Request) (k : ℕ) (a : Answer) (found : Option Request) → (answer_to base requests k a found).requests ≡ (answer_to other requests k a found).requests
alike base other requests k a None = refl
alike base other requests k a (Some r) =
    elim (cases_Bool (awaits r a)) as (λ _. (answer_to base requests k a (Some r)).requests ≡ (answer_to other requests k a (Some r)).requests) [
      | inl asked ↦ rw asked refl
      | inr not_asked ↦ rw not_asked refl
    ]

taken_kind : (device : DeviceState) (block : Block) (a : Answer) (s : Answering) (taken : Bool) → s.taken ≡ taken → device.kind ≡ kind.Outside block → (s.taken ≡ false → s.requests ≡ block.requests)
    → (taken_in device block a s).device.kind ≡ kind.Outside (with_requests block s.requests)
taken_kind device block a s true t is kept = rw t refl
taken_kind device block a s false t is kept =
    let same : kind.Outside (with_requests block s.requests) ≡ kind.Outside block = ap (λ (rs : List Request). kind.Outside (with_requests block rs)) (kept t) in
    rw t (is ∙ sym same)

picked_kind : (device : DeviceState) (block : Block) (pick k : ℕ) (a : Answer) → device.kind ≡ kind.Outside block → is_running device.registers.common ≡ true → ltb 0 pick ≡ true → pick - 1 ≡ k
    → (answer_disk device block pick a).device.kind ≡ kind.Outside (with_requests block (answer_step device.registers.ram_base block.requests k a).requests)
picked_kind device block pick k a is runs some back =
    let s = answer_step device.registers.ram_base block.requests k a in
    rw (runs, some, back) (taken_kind device block a s s.taken refl is (untaken device.registers.ram_base block.requests k a (slice_get block.requests k)))

answered_kind : (device : DeviceState) (block : Block) (k : ℕ) (a : Answer) → device.kind ≡ kind.Outside block → is_running device.registers.common ≡ true
    → (answer_disk device block (k + 1) a).device.kind ≡ kind.Outside (with_requests block (answer_step device.registers.ram_base block.requests k a).requests)
answered_kind device block k a is runs = picked_kind device block (k + 1) k a is runs (lt-ltb 0 (k + 1) (omega arith)) (omega arith)

-- What happens to the calls of the device itself.
module _ (size base : ℕ) (m after : MachineState) (calls then : AllCalls) (dev : ℕ) (d : Desk) (desk : IsDesk m calls dev size d) where
  asked_is : get_or (asked_of m) dev [] ≡ cond (is_running desk.device.registers.common) d.requests []
  asked_is = asked_at m.devices dev desk.device desk.there ∙ ap (λ (rs : List Request). cond (is_running desk.device.registers.common) rs []) (ap outside_requests desk.is ∙ desk.requests_are)

  answer_turn : (i : ℕ) (given : DiskAnswer) (out : outs.Out) (p : Placed) (gone : CallsState) (found : Option ℕ) → slice_get d.placed i ≡ Some p → p.out ≡ out → answers out.call (answer_of given) ≡ true
      → asker (cond (is_running desk.device.registers.common) d.requests []) out.call ≡ found → GoesTo m dev given found after → slice_get then.devices dev ≡ Some gone → gone.size ≡ size → gone.outs ≡ outs_of (remove d.placed i) → Reaches size base d after then dev
  answer_turn i given out p gone None is call to found goes there size_is outs_are =
      let next : Desk = record d { placed = remove d.placed i } in
      turned size base d after then dev (Lose i) next refl (record {
        device = desk.device;
        there = ap (λ (k : MachineState). slice_get k.devices dev) goes ∙ desk.there;
        block = desk.block;
        is = desk.is;
        requests_are = desk.requests_are;
        own = gone;
        calls_there = there;
        size_is = size_is;
        outs_are = outs_are;
      })
  answer_turn i given out p gone (Some k) is call to found goes there size_is outs_are =
      let a = answer_of given in
      let running = running_of (is_running desk.device.registers.common) d.requests out.call k found in
      let new = (answer_disk desk.device desk.block (k + 1) a).device in
      let replaced : (hand_in dev (slice_get m.devices dev) (k + 1) given).effect.replaced ≡ Some (record { number = dev; device = new }) =
      ap (λ (f : Option DeviceState). (hand_in dev f (k + 1) given).effect.replaced) desk.there ∙ ap (λ (x : kinds.Kind). (answered_by dev (disk_answered desk.device x (k + 1) a)).effect.replaced) desk.is in
      let new_there : slice_get after.devices dev ≡ Some new =
      ap (λ (ds : List DeviceState). slice_get ds dev) (devices_after m after (event.Disk dev (k + 1) given) fine goes.0 goes.1 ∙ ap (replaced_in m.devices) replaced) ∙ get_set m.devices dev desk.device new desk.there in
      let next : Desk = record { requests = (answer_step base d.requests k a).requests; placed = remove d.placed i } in
      let to_p : answers p.out.call a ≡ true = ap (λ (o : outs.Out). answers o.call a) call ∙ to in
      let found_p : asker d.requests p.out.call ≡ Some k = ap (λ (o : outs.Out). asker d.requests o.call) call ∙ running.1 in
      let reply : reply_to base d i a p (asker d.requests p.out.call) next = rw found_p refl in
      let block : Block = with_requests desk.block (answer_step desk.device.registers.ram_base desk.block.requests k a).requests in
      turned size base d after then dev (Reply i a) next (p, is, to_p, reply) (record {
        device = new;
        there = new_there;
        block = block;
        is = answered_kind desk.device desk.block k a desk.is running.0;
        requests_are = ap (λ (rs : List Request). (answer_step desk.device.registers.ram_base rs k a).requests) desk.requests_are ∙ alike desk.device.registers.ram_base base d.requests k a (slice_get d.requests k);
        own = gone;
        calls_there = there;
        size_is = size_is;
        outs_are = outs_are;
      })

  answer_turns : (i : ℕ) (given : DiskAnswer) (out : outs.Out) → IsAt calls.devices dev i out → answers out.call (answer_of given) ≡ true → GoesTo m dev given (asker (get_or (asked_of m) dev []) out.call) after → then ≡ without calls dev i
      → Reaches size base d after then dev
  answer_turns i given out at to goes gone_is =
      let same : at.device ≡ desk.own = the_same calls.devices dev at.device desk.own at.there desk.calls_there in
      let is : slice_get (outs_of d.placed) i ≡ Some out = ap (λ (list : List outs.Out). slice_get list i) (sym desk.outs_are) ∙ ap (λ (s : CallsState). slice_get s.outs i) (sym same) ∙ at.is in
      let p = placed_at d.placed i out is in
      let gone : CallsState = record desk.own { outs = remove desk.own.outs i } in
      let devices : then.devices ≡ set calls.devices dev gone = ap (λ (c : AllCalls). c.devices) gone_is ∙ ap (λ (s : Option CallsState). (without_at calls dev i s).devices) desk.calls_there in
      let there : slice_get then.devices dev ≡ Some gone = ap (λ (list : List CallsState). slice_get list dev) devices ∙ get_set calls.devices dev desk.own gone desk.calls_there in
      let outs_are : gone.outs ≡ outs_of (remove d.placed i) = ap (λ (list : List outs.Out). remove list i) desk.outs_are ∙ sym (outs_removed d.placed i) in
      let call : asker (get_or (asked_of m) dev []) out.call ≡ asker (cond (is_running desk.device.registers.common) d.requests []) out.call = ap (λ (rs : List Request). asker rs out.call) asked_is in
      answer_turn i given out p.0 gone (asker (get_or (asked_of m) dev []) out.call) p.1 p.2 to (sym call) goes there desk.size_is outs_are

  -- Only a device that runs asks for something.
  call_by : (running : Bool) (most k : ℕ) (list : List outs.Out) (call : DiskCall) → call_at size most list (cond running d.requests []) k ≡ Some call → call_at size most list d.requests k ≡ Some call
  call_by true most k list call h = h
  call_by false most k list call h = cc

  hand_turns : (most : ℕ) (handed : Handed) → handed.dev ≡ dev → 1 ≤ most → IsHandedOut most calls (asked_of m) handed then → after ≡ m → Reaches size base d after then dev
  hand_turns most handed here any out is =
      let own = desk.own in
      let last : Placed = record { out = record { number = handed.number; call = handed.call }; at = handed.k } in
      let may_out : out_calls.call_of most (slice_get calls.devices handed.dev) (get_or (asked_of m) handed.dev []) handed.k ≡ Some handed.call = out.next.may in
      let may_dev : out_calls.call_of most (slice_get calls.devices dev) (get_or (asked_of m) dev []) handed.k ≡ Some handed.call = subst (λ (n : ℕ). out_calls.call_of most (slice_get calls.devices n) (get_or (asked_of m) n []) handed.k ≡ Some handed.call) here may_out in
      let may_own : call_at own.size most own.outs (get_or (asked_of m) dev []) handed.k ≡ Some handed.call = rw desk.calls_there at may_dev in
      let may_by : call_at size most (outs_of d.placed) (cond (is_running desk.device.registers.common) d.requests []) handed.k ≡ Some handed.call = rw (desk.size_is, desk.outs_are, asked_is) at may_own in
      let may = call_by (is_running desk.device.registers.common) most handed.k (outs_of d.placed) handed.call may_by in
      let was : slice_get calls.devices dev ≡ Some out.device = ap (slice_get calls.devices) (sym here) ∙ out.was in
      let same : out.device ≡ own = the_same calls.devices dev out.device own was desk.calls_there in
      let new : CallsState = with_out own handed.number handed.call in
      let devices : then.devices ≡ set calls.devices dev new =
      ap (λ (c : AllCalls). c.devices) out.after ∙ ap (λ (n : ℕ). set calls.devices n (with_out out.device handed.number handed.call)) here ∙ ap (λ (t : CallsState). set calls.devices dev (with_out t handed.number handed.call)) same in
      let next : Desk = record d { placed = d.placed ++ last ∷ [] } in
      turned size base d after then dev (Hand handed.k most handed.number) next (handed.call, any, may, refl) (record {
        device = desk.device;
        there = ap (λ (k : MachineState). slice_get k.devices dev) is ∙ desk.there;
        block = desk.block;
        is = desk.is;
        requests_are = desk.requests_are;
        own = new;
        calls_there = ap (λ (list : List CallsState). slice_get list dev) devices ∙ get_set calls.devices dev own new desk.calls_there;
        size_is = desk.size_is;
        outs_are = ap (λ (list : List outs.Out). list ++ last.out ∷ []) desk.outs_are ∙ sym (outs_pushed d.placed last);
      })

  -- Whatever happens is turns of the device.
  makes_turns : (h : Happening) → Makes m calls h after then → Reaches size base d after then dev
  makes_turns (Happens e) h =
      let o = h.0 in
      let r = h.1 in
      subst (λ (c : AllCalls). Reaches size base d after c dev) (sym h.5) (event_turns size base m after calls dev d desk e o r h.2 h.3 h.4)
  makes_turns (Hands most handed) h = elim (is_same dev handed.dev) as (λ _. Reaches size base d after then dev) [
    | inl here ↦ hand_turns most handed (sym here) h.0 h.1 h.2
    | inr other ↦
        let devices : slice_get then.devices dev ≡ slice_get calls.devices dev = ap (λ (c : AllCalls). slice_get c.devices dev) h.1.after ∙ get_other calls.devices handed.dev (with_out h.1.device handed.number handed.call) dev other in
        stays size base d after then dev (with_calls after calls then dev size d (same_desk m after calls dev size d desk (ap (λ (k : MachineState). slice_get k.devices dev) h.2)) devices)
  ]
  makes_turns (Answers n i given) h = elim (is_same dev n) as (λ _. Reaches size base d after then dev) [
    | inl here ↦
        let at : IsAt calls.devices dev i h.0 = subst (λ (k : ℕ). IsAt calls.devices k i h.0) (sym here) h.1 in
        let goes : GoesTo m dev given (asker (get_or (asked_of m) dev []) h.0.call) after = subst (λ (k : ℕ). GoesTo m k given (asker (get_or (asked_of m) k []) h.0.call) after) (sym here) h.3 in
        answer_turns i given h.0 at h.2 goes (h.4 ∙ ap (λ (k : ℕ). without calls k i) (sym here))
    | inr other ↦
        let devices : slice_get then.devices dev ≡ slice_get calls.devices dev = ap (λ (c : AllCalls). slice_get c.devices dev) h.4 ∙ without_other calls n i dev (slice_get calls.devices n) other in
        let same = answered_elsewhere m after n dev given (asker (get_or (asked_of m) n []) h.0.call) h.3 other in
        stays size base d after then dev (with_calls after calls then dev size d (same_desk m after calls dev size d desk same) devices)
  ]
  makes_turns Rests h =
      let same : IsDesk after calls dev size d = same_desk m after calls dev size d desk (ap (λ (ds : List DeviceState). slice_get ds dev) h.0) in
      stays size base d after then dev (with_calls after calls then dev size d same (ap (λ (c : AllCalls). slice_get c.devices dev) h.1))

-- And so are all happenings.
ran_append : (size base : ℕ) (d : Desk) (front back : List Turn) (mid new : Desk) → Ran size base d front mid → Ran size base mid back new → Ran size base d (front ++ back) new
ran_append size base d [] back mid new first second = subst (λ (x : Desk). Ran size base x back new) first second
ran_append size base d (turn ∷ front) back mid new first second = (first.0, first.1, ran_append size base first.0 front back mid new first.2 second)

pub all_turns : (size base : ℕ) (m after : MachineState) (calls then : AllCalls) (hs : List Happening) (dev : ℕ) (d : Desk) → IsDesk m calls dev size d → MakeAll m calls hs after then → Reaches size base d after then dev
all_turns size base m after calls then [] dev d desk h =
    let same : IsDesk after calls dev size d = same_desk m after calls dev size d desk (ap (λ (k : MachineState). slice_get k.devices dev) h.0) in
    stays size base d after then dev (with_calls after calls then dev size d same (ap (λ (c : AllCalls). slice_get c.devices dev) h.1))
all_turns size base m after calls then (one ∷ hs) dev d desk h =
    let first = makes_turns size base m h.0 calls h.1 dev d desk one h.2 in
    let rest = all_turns size base h.0 after h.1 then hs dev first.next first.is h.3 in
    record { turns = first.turns ++ rest.turns; next = rest.next; ran = ran_append size base d first.turns rest.turns first.next rest.next first.ran rest.ran; is = rest.is }

pub machines_meet : MachinesMeetCalls
machines_meet m after calls then hs dev size requests some desk all =
    let begun : Desk = record { requests = requests; placed = [] } in
    let reached = all_turns size 0 m after calls then hs dev begun desk all in
    (reached.next, reached.is, calls_are_met size 0 requests reached.turns reached.next some reached.ran)
