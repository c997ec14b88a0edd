-- Answers of disks outside, over machines: what is asked waits, and is taken; and a run is its parts, one event after another.
use Rattle.std.proofs.Common.{◌≡◌, ℕ, zero, suc, ◌+◌, ◌-◌, ◌<◌, Bool, true, false, cond, ltb, List, [], ◌∷◌, ◌++◌, length, set, Option, Some, None, Ok, refl, sym, ap, subst, ◌∙◌, arith}
use borrow.Author.Tests.{ltb-true}
use Rattle.std.specs.Prelude.{◌&&◌, not, slice_get}
use Rattle.std.proofs.lemmas.Bool.{lt-ltb}
use Rattle.std.specs.Option.{option_map}
use Rattle.guestmem.specs.Writes.{set_all}
use Rattle.mmio.specs.Status.{is_running}
use Rattle.chains.specs.declared.next.Next.TheVariants.{Empty}
use Rattle.blk.proofs.Runs as blk
use Rattle.blk.specs.Block.{with_requests}
use Rattle.blk.specs.Outside as outside
use Rattle.blk.specs.Outside.{Answer, Answering, Failed, answer_step, answer_to, answers, awaits_at, awaits_in, disk_call, disk_call_in}
use Rattle.blk.specs.Parts.{IsInParts}
use Rattle.blk.specs.declared.block.Block as blocks
use Rattle.blk.specs.declared.outside.DiskCall.{DiskCall}
use Rattle.blk.specs.declared.request.Request.{Request}
use Rattle.machine.specs.DeviceStep.{DeviceAnswer, advanced_at, can_advance, looked_at, requests_of, waits_outside}
use Rattle.machine.specs.Effect.{applied}
use Rattle.machine.specs.Outcome.{fine, outcome_of}
use Rattle.machine.specs.Outside.{answer_of, asking_request, asking_requests, call_in, call_with, disk_answered, outside_call, outside_requests, reply_to_disk}
use Rattle.machine.specs.OutsideLaws.{AskedIsTaken, DoneInParts, DoneTogether, GivenInParts, GivenTogether, TakesBoth, WaitingIsIdle}
use Rattle.machine.specs.Shapes.{made_as, queues_of}
use Rattle.machine.specs.Sound.{IsSoundDevice}
use Rattle.machine.specs.State.{DeviceState, MachineState}
use Rattle.machine.specs.Step as steps
use Rattle.machine.specs.Step.{IsStep, answered_by, hand_in}
use Rattle.machine.specs.declared.event.DiskAnswer.{DiskAnswer}
use Rattle.machine.specs.declared.event.DiskAnswer.TheVariants.{Did, Gave}
use Rattle.machine.specs.declared.event.Event.TheVariants.{Disk}
use Rattle.machine.specs.declared.kind.Kind.{Kind}
use Rattle.machine.specs.declared.kind.Kind.TheVariants.{Network, Block, Outside, Console, Entropy}
use Rattle.machine.specs.declared.outside_call.OutsideCall.{OutsideCall}
use Rattle.machine.specs.declared.reply.Reply.TheVariants.{Moved}
use Rattle.machine.proofs.At.{changing}
use Rattle.machine.proofs.DiskAnswers.{by_tests, step_for, taken_so}
use Rattle.machine.proofs.GettingOn.{idle_without}
use Rattle.machine.proofs.Looking.{none_past, same_some}
use Rattle.machine.proofs.NextWork.{none_beside}
use Rattle.machine.proofs.Stepping.{none_advanced}
use Rattle.machine.proofs.Within.{sound_at}

-- A request awaits the answer, and its device runs.
record IsTaken (m : MachineState) (dev pick : ℕ) (given : DiskAnswer) : Type 0 where
  device : DeviceState
  there : slice_get m.devices dev ≡ Some device
  block : blocks.Block
  is : device.kind ≡ Outside block
  may : (is_running device.registers.common && ltb 0 pick) ≡ true
  taken : (step_for device block pick (answer_of given)).taken ≡ true

both_true : (may taken : Bool) (d : DeviceState) (block : blocks.Block) (given : Answer) (a : Answering) → may ≡ true → taken ≡ true → by_tests may taken d block given a ≡ taken_so d block given a
both_true true true d block given a p q = refl
both_true true false d block given a p q = cc
both_true false taken d block given a p q = cc

-- Then the answer is told as moved, or done, and the device is so.
told_ok : (d : DeviceState) (block : blocks.Block) (pick : ℕ) (given : Answer) → d.kind ≡ Outside block → (is_running d.registers.common && ltb 0 pick) ≡ true → (step_for d block pick given).taken ≡ true
    → disk_answered d d.kind pick given ≡ Ok (taken_so d block given (step_for d block pick given))
told_ok d block pick given is may taken =
    ap (λ (kind : Kind). disk_answered d kind pick given) is
    ∙ ap (λ (s : DeviceAnswer). Ok s) (both_true (is_running d.registers.common && ltb 0 pick) (step_for d block pick given).taken d block given (step_for d block pick given) may taken)

abbrev after_taken : (m : MachineState) (dev pick : ℕ) (given : DiskAnswer) → IsTaken m dev pick given → MachineState
after_taken m dev pick given t =
    applied m (changing dev (step_for t.device t.block pick (answer_of given)).writes (taken_so t.device t.block (answer_of given) (step_for t.device t.block pick (answer_of given))).device)

told_there : (m : MachineState) (dev pick : ℕ) (given : DiskAnswer) → (t : IsTaken m dev pick given)
    → hand_in dev (slice_get m.devices dev) pick given ≡ answered_by dev (Ok (taken_so t.device t.block (answer_of given) (step_for t.device t.block pick (answer_of given))))
told_there m dev pick given t = rw t.there (ap (answered_by dev) (told_ok t.device t.block pick (answer_of given) t.is t.may t.taken))

fine_reply : (given : Answer) → outcome_of (reply_to_disk given) ≡ fine
fine_reply (outside.Gave bytes) = refl
fine_reply (outside.Did count) = refl
fine_reply Failed = refl

taken_step : (m : MachineState) (dev pick : ℕ) (given : DiskAnswer) (t : IsTaken m dev pick given) → IsStep m (Disk dev pick given) fine (reply_to_disk (answer_of given)) (after_taken m dev pick given t)
taken_step m dev pick given t =
    let told = told_there m dev pick given t in
    record {
      effect = changing dev (step_for t.device t.block pick (answer_of given)).writes (taken_so t.device t.block (answer_of given) (step_for t.device t.block pick (answer_of given))).device;
      has = record { seen = Empty; may_see = tt; reply_is = rw told refl; effect_is = rw told refl; outcome_is = fine_reply (answer_of given) };
      changed = refl;
    }

-- The machine after such an answer is this one.
after_is : (m after : MachineState) (dev pick : ℕ) (given : DiskAnswer) (t : IsTaken m dev pick given) → IsStep m (Disk dev pick given) fine Moved after → after ≡ after_taken m dev pick given t
after_is m after dev pick given t h = h.changed ∙ ap (applied m) (h.has.effect_is ∙ ap (λ (a : steps.Answer). a.effect) (told_there m dev pick given t))

-- An answer that moved a request is one that is awaited.
tests_back : (may taken : Bool) (d : DeviceState) (block : blocks.Block) (given : Answer) (a : Answering) → Moved ≡ (by_tests may taken d block given a).reply → (may ≡ true) × (taken ≡ true)
tests_back true true d block given a h = (refl, refl)
tests_back true false d block given a h = cc
tests_back false taken d block given a h = cc

kind_back : (m : MachineState) (dev pick : ℕ) (given : DiskAnswer) (d : DeviceState) (kind : Kind) → slice_get m.devices dev ≡ Some d → d.kind ≡ kind → Moved ≡ (answered_by dev (disk_answered d kind pick (answer_of given))).reply → IsTaken m dev pick given
kind_back m dev pick given d (Outside block) there is h =
    let both = tests_back (is_running d.registers.common && ltb 0 pick) (step_for d block pick (answer_of given)).taken d block (answer_of given) (step_for d block pick (answer_of given)) h in
    record { device = d; there = there; block = block; is = is; may = both.0; taken = both.1 }
kind_back m dev pick given d (Network mac inbox) there is h = cc
kind_back m dev pick given d (Block block) there is h = cc
kind_back m dev pick given d (Console size held) there is h = cc
kind_back m dev pick given d (Entropy pool) there is h = cc

found_back : (m : MachineState) (dev pick : ℕ) (given : DiskAnswer) (found : Option DeviceState) → slice_get m.devices dev ≡ found → Moved ≡ (hand_in dev found pick given).reply → IsTaken m dev pick given
found_back m dev pick given None there h = cc
found_back m dev pick given (Some d) there h = kind_back m dev pick given d d.kind there refl h

taken_back : (m after : MachineState) (dev pick : ℕ) (given : DiskAnswer) → IsStep m (Disk dev pick given) fine Moved after → IsTaken m dev pick given
taken_back m after dev pick given h = found_back m dev pick given (slice_get m.devices dev) refl h.has.reply_is

-- The device after the first of two answers.
set_there : (ds : List DeviceState) (n : ℕ) (d new : DeviceState) → slice_get ds n ≡ Some d → slice_get (set ds n new) n ≡ Some new
set_there [] n d new at = cc
set_there (x ∷ ds) zero d new at = refl
set_there (x ∷ ds) (suc n) d new at = set_there ds n d new at

set_twice : (ds : List DeviceState) (n : ℕ) (d e : DeviceState) → set (set ds n d) n e ≡ set ds n e
set_twice [] n d e = refl
set_twice (x ∷ ds) zero d e = refl
set_twice (x ∷ ds) (suc n) d e = ap (λ xs. x ∷ xs) (set_twice ds n d e)

module _ (m : MachineState) (dev pick : ℕ) (whole first second : DiskAnswer) where
  -- A machine as an answer finds it.
  abbrev parts_of : DeviceState → blocks.Block → Type 0
  parts_of d block = IsInParts d.registers.ram_base block.requests (pick - 1) (answer_of whole) (answer_of first) (answer_of second)

  abbrev first_of : (t : IsTaken m dev pick whole) → parts_of t.device t.block → IsTaken m dev pick first
  first_of t p = record { device = t.device; there = t.there; block = t.block; is = t.is; may = t.may; taken = p.first_is_taken }

  abbrev second_of : (t : IsTaken m dev pick first) → (answer_step t.device.registers.ram_base (step_for t.device t.block pick (answer_of first)).requests (pick - 1) (answer_of second)).taken ≡ true → IsTaken (after_taken m dev pick first t) dev pick second
  second_of t taken =
      let d = (taken_so t.device t.block (answer_of first) (step_for t.device t.block pick (answer_of first))).device in
      record {
        device = d;
        there = set_there m.devices dev t.device d t.there;
        block = with_requests t.block (step_for t.device t.block pick (answer_of first)).requests;
        is = refl;
        may = t.may;
        taken = taken;
      }

  -- Both together leave what the whole does.
  same_after : (t : IsTaken m dev pick first) (w : IsTaken m dev pick whole) (taken : (answer_step t.device.registers.ram_base (step_for t.device t.block pick (answer_of first)).requests (pick - 1) (answer_of second)).taken ≡ true)
      → w.device ≡ t.device → w.block ≡ t.block → parts_of t.device t.block → after_taken (after_taken m dev pick first t) dev pick second (second_of t taken) ≡ after_taken m dev pick whole w
  same_after t w taken device block p =
      let d = t.device in
      let base = d.registers.ram_base in
      let requests = t.block.requests in
      let one = answer_step base requests (pick - 1) (answer_of first) in
      let two = answer_step base one.requests (pick - 1) (answer_of second) in
      let all = answer_step base requests (pick - 1) (answer_of whole) in
      let mid : DeviceState = record d { kind = Outside (with_requests t.block one.requests) } in
      let last : List Request → DeviceState = λ rs. record d { kind = Outside (with_requests t.block rs) } in
      let ram : set_all (set_all m.ram one.writes) two.writes ≡ set_all m.ram all.writes = sym (p.ram_is m.ram) in
      let devices : set (set m.devices dev mid) dev (last two.requests) ≡ set m.devices dev (last all.requests) = set_twice m.devices dev mid (last two.requests) ∙ ap (λ rs. set m.devices dev (last rs)) (sym p.requests_are) in
      let joined : after_taken (after_taken m dev pick first t) dev pick second (second_of t taken) ≡ record { ram = set_all m.ram all.writes; devices = set m.devices dev (last all.requests); disks = m.disks } = (λ i. record { ram = ram i; devices = devices i; disks = m.disks }) in
      joined ∙ rw (device, block) refl

  in_parts : (after : MachineState) → IsStep m (Disk dev pick whole) fine Moved after → reply_to_disk (answer_of first) ≡ Moved → reply_to_disk (answer_of second) ≡ Moved
      → ((base : ℕ) (requests : List Request) → (answer_step base requests (pick - 1) (answer_of whole)).taken ≡ true → IsInParts base requests (pick - 1) (answer_of whole) (answer_of first) (answer_of second))
      → TakesBoth m dev pick first second after
  in_parts after h first_moved second_moved cut =
      let w = taken_back m after dev pick whole h in
      let p = cut w.device.registers.ram_base w.block.requests w.taken in
      let t = first_of w p in
      let u = second_of t p.second_is_taken in
      let two = same_after t w p.second_is_taken refl refl p ∙ sym (after_is m after dev pick whole w h) in
      record {
        between = after_taken m dev pick first t;
        first_is = subst (λ r. IsStep m (Disk dev pick first) fine r (after_taken m dev pick first t)) first_moved (taken_step m dev pick first t);
        second_is = subst (λ k. IsStep (after_taken m dev pick first t) (Disk dev pick second) fine Moved k) two
            (subst (λ r. IsStep (after_taken m dev pick first t) (Disk dev pick second) fine r (after_taken (after_taken m dev pick first t) dev pick second u)) second_moved (taken_step (after_taken m dev pick first t) dev pick second u));
      }

  -- What the second finds is what the first left.
  found_second : (t : IsTaken m dev pick first) (u : IsTaken (after_taken m dev pick first t) dev pick second)
      → (answer_step t.device.registers.ram_base (step_for t.device t.block pick (answer_of first)).requests (pick - 1) (answer_of second)).taken ≡ true
  found_second t u =
      let d = (taken_so t.device t.block (answer_of first) (step_for t.device t.block pick (answer_of first))).device in
      let block : blocks.Block = with_requests t.block (step_for t.device t.block pick (answer_of first)).requests in
      let same : u.device ≡ d = same_some u.device d (sym u.there ∙ set_there m.devices dev t.device d t.there) in
      let kinds : Outside block ≡ Outside u.block = sym (ap (λ (x : DeviceState). x.kind) same) ∙ u.is in
      let blocks_are : u.block ≡ block = cc in
      subst (λ (b : blocks.Block). (answer_step t.device.registers.ram_base b.requests (pick - 1) (answer_of second)).taken ≡ true) blocks_are
      (subst (λ (x : DeviceState). (answer_step x.registers.ram_base u.block.requests (pick - 1) (answer_of second)).taken ≡ true) same u.taken)

  together : (after : MachineState) → TakesBoth m dev pick first second after → reply_to_disk (answer_of whole) ≡ Moved
      → ((base : ℕ) (requests : List Request) → (answer_step base requests (pick - 1) (answer_of first)).taken ≡ true → (answer_step base (answer_step base requests (pick - 1) (answer_of first)).requests (pick - 1) (answer_of second)).taken ≡ true
      → IsInParts base requests (pick - 1) (answer_of whole) (answer_of first) (answer_of second))
      → IsStep m (Disk dev pick whole) fine Moved after
  together after both whole_moved join =
      let t = taken_back m both.between dev pick first both.first_is in
      let mid = after_is m both.between dev pick first t both.first_is in
      let later : IsStep (after_taken m dev pick first t) (Disk dev pick second) fine Moved after = subst (λ k. IsStep k (Disk dev pick second) fine Moved after) mid both.second_is in
      let taken = found_second t (taken_back (after_taken m dev pick first t) after dev pick second later) in
      let p = join t.device.registers.ram_base t.block.requests t.taken taken in
      let w : IsTaken m dev pick whole = record { device = t.device; there = t.there; block = t.block; is = t.is; may = t.may; taken = p.whole_is_taken } in
      let two = after_is (after_taken m dev pick first t) after dev pick second (second_of t taken) later ∙ same_after t w taken refl refl p in
      subst (λ k. IsStep m (Disk dev pick whole) fine Moved k) (sym two) (subst (λ r. IsStep m (Disk dev pick whole) fine r (after_taken m dev pick whole w)) whole_moved (taken_step m dev pick whole w))

pub gave_in_parts : GivenInParts
gave_in_parts m after dev pick front back h some whole rest =
    in_parts m dev pick (Gave (front ++ back)) (Gave front) (Gave back) after h refl refl (λ base requests taken. blk.gave_in_parts base requests (pick - 1) front back taken some whole rest)

pub gave_together : GivenTogether
gave_together m after dev pick front back both =
    together m dev pick (Gave (front ++ back)) (Gave front) (Gave back) after both refl (λ base requests first second. blk.gave_together base requests (pick - 1) front back first second)

pub did_in_parts : DoneInParts
did_in_parts m after dev pick i j h some more =
    in_parts m dev pick (Did (i + j)) (Did i) (Did j) after h refl refl (λ base requests taken. blk.did_in_parts base requests (pick - 1) i j taken some more)

pub did_together : DoneTogether
did_together m after dev pick i j both =
    together m dev pick (Did (i + j)) (Did i) (Did j) after both refl (λ base requests first second. blk.did_together base requests (pick - 1) i j first second)

-- A request that asks for something of a disk outside.
record IsAsking (d : DeviceState) (pick : ℕ) (asked : OutsideCall) : Type 0 where
  some : 0 < pick
  running : is_running d.registers.common ≡ true
  block : blocks.Block
  is : d.kind ≡ Outside block
  request : Request
  there : slice_get block.requests (pick - 1) ≡ Some request
  asks : disk_call request ≡ Some asked.call

call_back : (features : ℕ) (call : Option DiskCall) (asked : OutsideCall) → option_map (call_with features) call ≡ Some asked → call ≡ Some asked.call
call_back features None asked h = cc
call_back features (Some call) asked h =
    let same : call_with features call ≡ asked = cc in
    ap (λ (a : OutsideCall). Some a.call) same

request_back : (d : DeviceState) (pick : ℕ) (asked : OutsideCall) (kind : Kind) (running some : Bool) (found : Option Request) → d.kind ≡ kind → is_running d.registers.common ≡ running → ltb 0 pick ≡ some
    → slice_get (cond running (outside_requests kind) []) (pick - 1) ≡ found → disk_call_in (cond some found None) ≡ Some asked.call → IsAsking d pick asked
request_back d pick asked kind running false found is runs more there h = cc
request_back d pick asked kind running true None is runs more there h = cc
request_back d pick asked kind false true (Some r) is runs more there h = cc
request_back d pick asked (Outside block) true true (Some r) is runs more there h = record { some = ltb-true 0 pick more; running = runs; block = block; is = is; request = r; there = there; asks = h }
request_back d pick asked (Network mac inbox) true true (Some r) is runs more there h = cc
request_back d pick asked (Block block) true true (Some r) is runs more there h = cc
request_back d pick asked (Console size held) true true (Some r) is runs more there h = cc
request_back d pick asked (Entropy pool) true true (Some r) is runs more there h = cc

asking : (d : DeviceState) (pick : ℕ) (asked : OutsideCall) → outside_call d pick ≡ Some asked → IsAsking d pick asked
asking d pick asked h =
    request_back d pick asked d.kind (is_running d.registers.common) (ltb 0 pick) (slice_get (asking_requests d) (pick - 1)) refl refl refl refl
    (call_back d.registers.common.features (disk_call_in (asking_request d pick)) asked h)

record IsAskingAt (m : MachineState) (dev pick : ℕ) (asked : OutsideCall) : Type 0 where
  device : DeviceState
  there : slice_get m.devices dev ≡ Some device
  is : IsAsking device pick asked

asking_at : (m : MachineState) (dev pick : ℕ) (asked : OutsideCall) (found : Option DeviceState) → slice_get m.devices dev ≡ found → call_in found pick ≡ Some asked → IsAskingAt m dev pick asked
asking_at m dev pick asked None there h = cc
asking_at m dev pick asked (Some d) there h = record { device = d; there = there; is = asking d pick asked h }

-- It waits.
awaits_so : (block : blocks.Block) (k : ℕ) (r : Request) (call : DiskCall) (given : Answer) → slice_get block.requests k ≡ Some r → disk_call r ≡ Some call → answers call given ≡ true → awaits_at block.requests k given ≡ true
awaits_so block k r call given there asks h = rw (there, asks) h

not_free : (can waits : Bool) → waits ≡ true → (can && not waits) ≡ false
not_free true true h = refl
not_free false waits h = refl
not_free true false h = cc

still : (d : DeviceState) (pick : ℕ) (asked : OutsideCall) → IsAsking d pick asked → advanced_at d pick ≡ None
still d pick asked a =
    let waits : waits_outside d.kind (pick - 1) ≡ true = rw a.is (awaits_so a.block (pick - 1) a.request asked.call Failed a.there a.asks refl) in
    let can : can_advance d.kind (pick - 1) ≡ false = not_free (ltb (pick - 1) (length (requests_of d.kind))) (waits_outside d.kind (pick - 1)) waits in
    none_advanced d pick (none_beside _ (can_advance d.kind (pick - 1)) can)

unlooked : {base : ℕ} (len : ℕ) (d : DeviceState) (pick : ℕ) (asked : OutsideCall) → IsSoundDevice base len d → IsAsking d pick asked → looked_at d pick ≡ None
unlooked len d pick asked sound a =
    let one : length d.registers.queues ≡ 1 = sound.queues ∙ ap (λ (kind : Kind). queues_of (made_as kind)) a.is in
    none_past d pick (omega (arith, one, a.some))

pub waiting_idle : WaitingIsIdle
waiting_idle m dev pick asked o r after sound h step =
    let a = asking_at m dev pick asked (slice_get m.devices dev) refl h in
    idle_without m dev pick a.device o r after a.there (unlooked (length m.ram) a.device pick asked (sound_at m dev a.device a.there sound) a.is) (still a.device pick asked a.is) step

-- An answer to it is taken.
taken_if : (base : ℕ) (requests : List Request) (k : ℕ) (given : Answer) (found : Option Request) → awaits_in found given ≡ true → (answer_to base requests k given found).taken ≡ true
taken_if base requests k given None h = cc
taken_if base requests k given (Some r) h = rw h refl

pub asked_taken : AskedIsTaken
asked_taken m dev pick asked given h to =
    let a = asking_at m dev pick asked (slice_get m.devices dev) refl h in
    let d = a.device in
    let k = a.is in
    let awaited = awaits_so k.block (pick - 1) k.request asked.call (answer_of given) k.there k.asks to in
    let t : IsTaken m dev pick given = record {
      device = d;
      there = a.there;
      block = k.block;
      is = k.is;
      may = rw (k.running, lt-ltb 0 pick k.some) refl;
      taken = taken_if d.registers.ram_base k.block.requests (pick - 1) (answer_of given) (slice_get k.block.requests (pick - 1)) awaited;
    } in (
      after_taken m dev pick given t,
      taken_step m dev pick given t,
    )
