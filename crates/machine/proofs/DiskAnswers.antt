-- What a device does with an answer of a disk outside: it stays what it is, and sound, and writes inside RAM.
use Rattle.std.proofs.Common.{◌≡◌, ℕ, zero, suc, ◌-◌, ◌*◌, ◌<◌, Bool, true, false, cond, ltb, List, [], ◌∷◌, length, drop, Option, Some, None, inl, inr, refl, sym, ap, arith}
use Rattle.std.specs.Prelude.{◌&&◌, All, IsSomeAnd, slice_get}
use Rattle.std.specs.Bool.{MatchBool}
use Rattle.std.proofs.lemmas.Bool.{cases_Bool}
use Rattle.std.proofs.lemmas.List.{length-set}
use Rattle.std.proofs.lemmas.List.Elements.{All-nil}
use Rattle.std.proofs.lemmas.Option.{get_or_from_slice_get, slice_get_within}
use Rattle.guestmem.specs.Number.{IsBytes}
use Rattle.guestmem.specs.Writes.{Write}
use Rattle.chains.specs.Places.{places, place_writes, AreSegmentsInside}
use Rattle.chains.specs.State.{state_of}
use Rattle.mmio.specs.State.{Registers, queue_at}
use Rattle.mmio.specs.Status.{is_running}
use Rattle.mmio.specs.declared.queue.Queue.{Queue}
use Rattle.blk.proofs.Runs.{answer_sound}
use Rattle.blk.specs.Block.{limits_of, with_requests}
use Rattle.blk.specs.Outside.{Answer, Answering, AreSoundIn, Did, Failed, Gave, answer_step, answer_to, answer_writes, answered, awaits}
use Rattle.blk.specs.Sound.{AreRequestsOf, IsSoundRequest}
use Rattle.blk.specs.declared.block.Block as blocks
use Rattle.blk.specs.declared.request.Request.{Request}
use Rattle.machine.specs.DeviceStep.{DeviceAnswer, unmoved}
use Rattle.machine.specs.Outside.{answer_disk, reply_to_disk}
use Rattle.machine.specs.QueuePositions.{first_positions, is_packed_by}
use Rattle.machine.specs.Shapes.{made_as}
use Rattle.machine.specs.Sound.{IsSoundDevice, IsSoundKind}
use Rattle.machine.specs.State.{DeviceState}
use Rattle.machine.specs.StepLaws.{IsRefusal}
use Rattle.machine.specs.declared.kind.Kind.TheVariants.{Outside}
use Rattle.machine.specs.declared.reply.Reply.TheVariants.{Idle}
use Rattle.machine.proofs.Inside.{AreAddresses, AreInsideRam, placed_inside, places_inside}
use Rattle.machine.proofs.Outstanding.{rest_inside}
use Rattle.machine.proofs.Staying.{same_registers, stays_sound}

-- A device whose request awaited the answer, and one by two tests.
abbrev pub taken_so : DeviceState → blocks.Block → Answer → Answering → DeviceAnswer
taken_so d block answer a = record { reply = reply_to_disk answer; writes = a.writes; sets = []; device = record d { kind = Outside (with_requests block a.requests) } }

abbrev pub by_tests : Bool → Bool → DeviceState → blocks.Block → Answer → Answering → DeviceAnswer
by_tests may taken d block answer a = cond may (cond taken (taken_so d block answer a) (unmoved d Idle)) (unmoved d Idle)

abbrev pub step_for : DeviceState → blocks.Block → ℕ → Answer → Answering
step_for d block pick answer = answer_step d.registers.ram_base block.requests (pick - 1) answer

-- It is never told as a refusal.
told_by : (may taken : Bool) (d : DeviceState) (block : blocks.Block) (answer : Answer) (a : Answering) → IsRefusal (by_tests may taken d block answer a).reply → ⊥
told_by true true d block (Gave bytes) a h = h
told_by true true d block (Did count) a h = h
told_by true true d block Failed a h = h
told_by true false d block answer a h = h
told_by false taken d block answer a h = h

pub answer_told : (d : DeviceState) (block : blocks.Block) (pick : ℕ) (answer : Answer) → IsRefusal (answer_disk d block pick answer).reply → ⊥
answer_told d block pick answer h = told_by (is_running d.registers.common && ltb 0 pick) (step_for d block pick answer).taken d block answer (step_for d block pick answer) h

-- The device stays what it was made as.
shape_by : (may taken : Bool) (d : DeviceState) (block : blocks.Block) (answer : Answer) (a : Answering) → d.kind ≡ Outside block → made_as (by_tests may taken d block answer a).device.kind ≡ made_as d.kind
shape_by true true d block answer a is = ap made_as (sym is)
shape_by true false d block answer a is = refl
shape_by false taken d block answer a is = refl

pub shape_answered : (d : DeviceState) (block : blocks.Block) (pick : ℕ) (answer : Answer) → d.kind ≡ Outside block → made_as (answer_disk d block pick answer).device.kind ≡ made_as d.kind
shape_answered d block pick answer is = shape_by (is_running d.registers.common && ltb 0 pick) (step_for d block pick answer).taken d block answer (step_for d block pick answer) is

-- What a device writes is what its request does.
writes_by : (P : List Write → Type 0) (may taken : Bool) (d : DeviceState) (block : blocks.Block) (answer : Answer) (a : Answering) → P [] → P a.writes → P (by_tests may taken d block answer a).writes
writes_by P true true d block answer a none some = some
writes_by P true false d block answer a none some = none
writes_by P false taken d block answer a none some = none

answer_has : (P : List Write → Type 0) (d : DeviceState) (block : blocks.Block) (pick : ℕ) (answer : Answer) → P [] → P (step_for d block pick answer).writes → P (answer_disk d block pick answer).writes
answer_has P d block pick answer none some = writes_by P (is_running d.registers.common && ltb 0 pick) (step_for d block pick answer).taken d block answer (step_for d block pick answer) none some

-- A request writes at places of its own.
abbrev pub AnswerHasBytes : Answer → Type 0
AnswerHasBytes (Gave bytes) = IsBytes bytes
AnswerHasBytes (Did count) = Unit {0}
AnswerHasBytes Failed = Unit {0}

no_bytes : IsBytes []
no_bytes i = omega arith

abbrev given_bytes : Answer → List ℕ
given_bytes (Gave bytes) = bytes
given_bytes (Did count) = []
given_bytes Failed = []

are_bytes : (answer : Answer) → AnswerHasBytes answer → IsBytes (given_bytes answer)
are_bytes (Gave bytes) has = has
are_bytes (Did count) has = no_bytes
are_bytes Failed has = no_bytes

no_places : (base : ℕ) (at : List ℕ) → place_writes base at [] ≡ []
no_places base [] = refl
no_places base (a ∷ at) = refl

-- Every answer writes the bytes that it gives.
writes_are : (base : ℕ) (r : Request) (answer : Answer) → answer_writes base r answer ≡ place_writes base (drop (512 * r.done) (places r.writable)) (given_bytes answer)
writes_are base r (Gave bytes) = refl
writes_are base r (Did count) = sym (no_places base (drop (512 * r.done) (places r.writable)))
writes_are base r Failed = sym (no_places base (drop (512 * r.done) (places r.writable)))

found_has : (P : List Write → Type 0) (base : ℕ) (requests : List Request) (k : ℕ) (answer : Answer) (found : Option Request) → slice_get requests k ≡ found → P []
    → ((r : Request) → slice_get requests k ≡ Some r → P (answer_writes base r answer)) → P (answer_to base requests k answer found).writes
found_has P base requests k answer None there none some = none
found_has P base requests k answer (Some r) there none some =
    elim (cases_Bool (awaits r answer)) as (λ _. P (answer_to base requests k answer (Some r)).writes) [
      | inl asked ↦ rw asked (some r there)
      | inr other ↦ rw other none
    ]

-- The requests of a sound device whose disk is outside.
requests_at : (len : ℕ) (r : Registers) (block : blocks.Block) (k : ℕ) (request : Request) (found : Option Queue) → queue_at r 0 ≡ found
    → IsSomeAnd found (λ q. AreRequestsOf r.ram_base len (is_packed_by r.common) q (limits_of block r.common.features) block.requests) → slice_get block.requests k ≡ Some request → AreSegmentsInside r.ram_base len request.writable
requests_at len r block k request None is are there = absurd are
requests_at len r block k request (Some q) is are there =
    let P = IsSoundRequest r.ram_base len (is_packed_by r.common) q.size (limits_of block r.common.features) in
    let one : P request = rw (get_or_from_slice_get block.requests k request request there) at (are.sound k request (slice_get_within block.requests k request there)) in
    one.writable

writable_at : {base : ℕ} (len : ℕ) (d : DeviceState) (block : blocks.Block) (k : ℕ) (request : Request) → d.kind ≡ Outside block → IsSoundDevice base len d → slice_get block.requests k ≡ Some request → AreAddresses d.registers.ram_base len (drop (512 * request.done) (places request.writable))
writable_at len d block k request is sound there =
    let kind : IsSoundKind len d.registers (Outside block) = rw is at sound.kind in
    rest_inside d.registers.ram_base len (512 * request.done) (places request.writable)
    (places_inside d.registers.ram_base len request.writable (requests_at len d.registers block k request (queue_at d.registers 0) refl kind there))

pub sound_in : (len : ℕ) (r : Registers) (block : blocks.Block) (found : Option Queue) → queue_at r 0 ≡ found → IsSomeAnd found (λ q. AreRequestsOf r.ram_base len (is_packed_by r.common) q (limits_of block r.common.features) block.requests)
    → AreSoundIn r.ram_base len block.requests
sound_in len r block None is are = absurd are
sound_in len r block (Some q) is are = record { is_packed = is_packed_by r.common; size = q.size; limits = limits_of block r.common.features; sound = are.sound }

pub requests_sound : {base : ℕ} (len : ℕ) (d : DeviceState) (block : blocks.Block) → d.kind ≡ Outside block → IsSoundDevice base len d → AreSoundIn d.registers.ram_base len block.requests
requests_sound len d block is sound =
    let kind : IsSoundKind len d.registers (Outside block) = rw is at sound.kind in
    sound_in len d.registers block (queue_at d.registers 0) refl kind

pub answer_inside : {base : ℕ} (len : ℕ) (d : DeviceState) (block : blocks.Block) (pick : ℕ) (answer : Answer) → d.kind ≡ Outside block → IsSoundDevice base len d → AnswerHasBytes answer → AreInsideRam len (answer_disk d block pick answer).writes
answer_inside len d block pick answer is sound has =
    answer_has (AreInsideRam len) d block pick answer tt (found_has (AreInsideRam len) d.registers.ram_base block.requests (pick - 1) answer (slice_get block.requests (pick - 1)) refl tt (λ r there.
    rw (writes_are d.registers.ram_base r answer)
    (placed_inside d.registers.ram_base len (drop (512 * r.done) (places r.writable)) (given_bytes answer) (writable_at len d block (pick - 1) r is sound there) (are_bytes answer has))))

placed_below : (base len : ℕ) (at bytes : List ℕ) → AreAddresses base len at → All (λ (w : Write). w.index < len) (place_writes base at bytes)
placed_below base len [] bytes h k d below = absurd (omega (arith, below))
placed_below base len (a ∷ at) [] h k d below = absurd (omega (arith, below))
placed_below base len (a ∷ at) (b ∷ bytes) h zero d below = h.0
placed_below base len (a ∷ at) (b ∷ bytes) h (suc k) d below = placed_below base len at bytes h.1 k d (omega (arith, below))

pub answer_below : {base : ℕ} (len : ℕ) (d : DeviceState) (block : blocks.Block) (pick : ℕ) (answer : Answer) → d.kind ≡ Outside block → IsSoundDevice base len d → All (λ (w : Write). w.index < len) (answer_disk d block pick answer).writes
answer_below len d block pick answer is sound =
    let none : All (λ (w : Write). w.index < len) [] = All-nil _ in
    answer_has (All (λ (w : Write). w.index < len)) d block pick answer none (found_has (All (λ (w : Write). w.index < len)) d.registers.ram_base block.requests (pick - 1) answer (slice_get block.requests (pick - 1)) refl none (λ r there.
    rw (writes_are d.registers.ram_base r answer)
    (placed_below d.registers.ram_base len (drop (512 * r.done) (places r.writable)) (given_bytes answer) (writable_at len d block (pick - 1) r is sound there))))

-- An answer that gives no bytes writes nothing.
abbrev pub IsUnwrittenBy : Answer → Type 0
IsUnwrittenBy (Gave bytes) = ⊥
IsUnwrittenBy (Did count) = Unit {0}
IsUnwrittenBy Failed = Unit {0}

request_unwritten : (base : ℕ) (r : Request) (answer : Answer) → IsUnwrittenBy answer → answer_writes base r answer ≡ []
request_unwritten base r (Gave bytes) quiet = absurd quiet
request_unwritten base r (Did count) quiet = refl
request_unwritten base r Failed quiet = refl

pub answer_unwritten : (d : DeviceState) (block : blocks.Block) (pick : ℕ) (answer : Answer) → IsUnwrittenBy answer → (answer_disk d block pick answer).writes ≡ []
answer_unwritten d block pick answer quiet =
    answer_has (λ ws. ws ≡ []) d block pick answer refl (found_has (λ ws. ws ≡ []) d.registers.ram_base block.requests (pick - 1) answer (slice_get block.requests (pick - 1)) refl refl (λ r there. request_unwritten d.registers.ram_base r answer quiet))

-- The requests stay sound.
length_by : (base : ℕ) (requests : List Request) (k : ℕ) (answer : Answer) (found : Option Request) → length (answer_to base requests k answer found).requests ≡ length requests
length_by base requests k answer None = refl
length_by base requests k answer (Some r) =
    elim (cases_Bool (awaits r answer)) as (λ _. length (answer_to base requests k answer (Some r)).requests ≡ length requests) [
      | inl asked ↦ rw asked (length-set requests k (answered r answer))
      | inr other ↦ rw other refl
    ]

none_where : (ready : Bool) (base : ℕ) (requests : List Request) (k : ℕ) (answer : Answer) → MatchBool ready (Unit {0}) (requests ≡ []) → MatchBool ready (Unit {0}) ((answer_step base requests k answer).requests ≡ [])
none_where true base requests k answer h = tt
none_where false base requests k answer h = rw h refl

requests_by : (len : ℕ) (r : Registers) (block : blocks.Block) (k : ℕ) (answer : Answer) (found : Option Queue) → queue_at r 0 ≡ found
    → IsSomeAnd found (λ q. AreRequestsOf r.ram_base len (is_packed_by r.common) q (limits_of block r.common.features) block.requests)
    → IsSomeAnd found (λ q. AreRequestsOf r.ram_base len (is_packed_by r.common) q (limits_of block r.common.features) (answer_step r.ram_base block.requests k answer).requests)
requests_by len r block k answer None is are = absurd are
requests_by len r block k answer (Some q) is are = record {
  few = rw (length_by r.ram_base block.requests k answer (slice_get block.requests k)) are.few;
  sound = answer_sound len (state_of q r.common.features r.ram_base first_positions) (limits_of block r.common.features) block.requests k answer are.sound;
  where_ready = none_where q.is_ready r.ram_base block.requests k answer are.where_ready;
}

sound_by : {base : ℕ} (len : ℕ) (may taken : Bool) (d : DeviceState) (block : blocks.Block) (answer : Answer) (a : Answering) → d.kind ≡ Outside block → IsSoundKind len d.registers (Outside (with_requests block a.requests)) → IsSoundDevice base len d
    → IsSoundDevice base len (by_tests may taken d block answer a).device
sound_by len true true d block answer a is kind sound = stays_sound len d (taken_so d block answer a).device (ap made_as (sym is)) (same_registers d.registers sound.registers) sound.positions kind sound
sound_by len true false d block answer a is kind sound = sound
sound_by len false taken d block answer a is kind sound = sound

pub sound_answered : {base : ℕ} (len : ℕ) (d : DeviceState) (block : blocks.Block) (pick : ℕ) (answer : Answer) → d.kind ≡ Outside block → IsSoundDevice base len d → IsSoundDevice base len (answer_disk d block pick answer).device
sound_answered len d block pick answer is sound =
    let kind : IsSoundKind len d.registers (Outside block) = rw is at sound.kind in
    sound_by len (is_running d.registers.common && ltb 0 pick) (step_for d block pick answer).taken d block answer (step_for d block pick answer) is
    (requests_by len d.registers block (pick - 1) answer (queue_at d.registers 0) refl kind) sound
