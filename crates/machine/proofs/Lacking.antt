-- What is known for a step by the pieces that are held.
use Rattle.std.specs.Prelude.{◌≡◌, ◌≢◌, ℕ, zero, suc, ◌-◌, ◌<◌, ◌≤◌, ◌^◌, List, [], ◌∷◌, ◌++◌, length, take, drop, Bool, true, false, Option, Some, None, Result, Ok, Err, IfOk, slice_get, refl, if◌then◌else◌}
use Rattle.std.proofs.Common.{ap, sym, subst, ◌∙◌, arith}
use Rattle.chains.specs.Footprint.{AgreeOn, Knows, look_pieces, place_pieces}
use Rattle.chains.specs.Gives.{Gives}
use Rattle.chains.specs.Lacking.{LacksOr}
use Rattle.chains.specs.Look.{fits, seen_as}
use Rattle.chains.specs.Places.{places}
use Rattle.chains.specs.Ring.{Answers}
use Rattle.chains.specs.State.{RingState, state_of as ring_of}
use Rattle.chains.specs.declared.chain.Chain.{Chain}
use Rattle.chains.specs.declared.lacking.Piece.{Piece}
use Rattle.chains.specs.declared.looking.Wanted.{Wanted}
use Rattle.chains.specs.declared.next.Next.{Next}
use Rattle.chains.specs.declared.next.Next.TheVariants.{Empty, Malformed, Chain as Found}
use Rattle.chains.specs.declared.next_kind.NextKind.{NextKind}
use Rattle.chains.specs.declared.next_kind.NextKind.TheVariants as kinds
use Rattle.chains.specs.declared.position.Positions.{Positions}
use Rattle.chains.proofs.ChainLaws.{answer_same}
use Rattle.chains.proofs.LackLaws.{lacks_then}
use Rattle.mmio.specs.State.{queue_at}
use Rattle.mmio.specs.declared.queue.Queue.{Queue}
use Rattle.guestmem.specs.Memory.{Memory}
use Rattle.blk.specs.Footprint.{advance_pieces}
use Rattle.blk.specs.Outside.{AreSoundIn}
use Rattle.blk.specs.declared.block.Block as blocks
use Rattle.machine.specs.Beside.{KnowsReads}
use Rattle.machine.specs.DeviceStep.{MayLook, advanced_at, advanced_by, advances, looked_at, requests_of, wanted_of}
use Rattle.machine.specs.Footprint.{chain_reads, reads_at, reads_of, request_reads, seen_reads}
use Rattle.machine.specs.Lacking.{CoversReads, KnowsDevice}
use Rattle.machine.specs.Outcome.{Outcome, fine, disk_failed, no_memory}
use Rattle.machine.specs.Seen.{DeviceSeen, state_of}
use Rattle.machine.specs.Sound.{IsSoundDevice, IsSoundKind}
use Rattle.machine.specs.State.{DeviceState}
use Rattle.machine.specs.Step.{MaySeeAt}
use Rattle.machine.proofs.At.{IsAt, found, past}
use Rattle.machine.proofs.DiskAnswers.{sound_in}
use Rattle.machine.specs.declared.kind.Kind.{Kind}
use Rattle.machine.specs.declared.kind.Kind.TheVariants.{Network, Block, Outside, Console, Entropy}

agree_both : (a b : List ℕ) (ps qs : List Piece) → AgreeOn a b ps → AgreeOn a b qs → AgreeOn a b (ps ++ qs)
agree_both a b [] qs h k = k
agree_both a b (p ∷ ps) qs h k = (h.0, agree_both a b ps qs h.1 k)

agree_rest : (a b : List ℕ) (base skip : ℕ) (at : List ℕ) → AgreeOn a b (place_pieces base at) → AgreeOn a b (place_pieces base (drop skip at))
agree_rest a b base zero at h = h
agree_rest a b base (suc skip) [] h = tt
agree_rest a b base (suc skip) (x ∷ at) h = agree_rest a b base skip at h.1

take_all : (n : ℕ) (xs : List ℕ) → length xs ≤ n → take n xs ≡ xs
take_all zero [] few = refl
take_all (suc n) [] few = refl
take_all zero (x ∷ xs) few = absurd (omega (arith, few))
take_all (suc n) (x ∷ xs) few = ap (λ (ys : List ℕ). x ∷ ys) (take_all n xs (omega (arith, few)))

all_read : (base skip : ℕ) (held : List Piece) (ram : List ℕ) (c : Chain) → length (places c.readable) < 2 ^ 32 → Knows held ram (place_pieces base (take (2 ^ 32) (places c.readable))) → Knows held ram (place_pieces base (drop skip (places c.readable)))
all_read base skip held ram c few known = λ b h.
    let all = take_all (2 ^ 32) (places c.readable) (omega (arith, few)) in
    let read : AgreeOn ram b (place_pieces base (places c.readable)) = subst (λ (at : List ℕ). AgreeOn ram b (place_pieces base at)) all (known b h) in
    agree_rest ram b base skip (places c.readable) read

-- A device with requests; one with two queues.
abbrev pub HasRequests : Kind → Type 0
HasRequests (Block block) = Unit {0}
HasRequests (Outside block) = Unit {0}
HasRequests _ = ⊥

abbrev pub HasTwo : Kind → Type 0
HasTwo (Network mac inbox) = Unit {0}
HasTwo (Console size held) = Unit {0}
HasTwo _ = ⊥

-- By the kind of the device.
pub none_of_entropy : (kind : Kind) (pool : List ℕ) (number : ℕ) → kind ≡ Entropy pool → CoversReads kind number 0
none_of_entropy kind pool number is = rw is (λ held ram base c few known b h. tt)

pub header_of_block : (kind : Kind) (number : ℕ) → HasRequests kind → CoversReads kind number 32
header_of_block (Block block) number has = λ held ram base c few known. known
header_of_block (Outside block) number has = λ held ram base c few known. known
header_of_block (Network mac inbox) number has = absurd has
header_of_block (Console size held) number has = absurd has
header_of_block (Entropy pool) number has = absurd has

pub none_received : (kind : Kind) (number : ℕ) → HasTwo kind → number ≡ 0 → CoversReads kind number 0
none_received (Network mac inbox) zero has is = λ held ram base c few known b h. tt
none_received (Network mac inbox) (suc number) has is = absurd (omega (arith, is))
none_received (Console size bytes) zero has is = λ held ram base c few known b h. tt
none_received (Console size bytes) (suc number) has is = absurd (omega (arith, is))
none_received (Block block) number has is = absurd has
none_received (Outside block) number has is = absurd has
none_received (Entropy pool) number has is = absurd has

pub all_sent : (kind : Kind) (number : ℕ) → HasTwo kind → CoversReads kind number (2 ^ 32)
all_sent (Network mac inbox) zero has = λ held ram base c few known b h. tt
all_sent (Network mac inbox) (suc number) has = λ held ram base c few known. all_read base 12 held ram c few known
all_sent (Console size bytes) zero has = λ held ram base c few known b h. tt
all_sent (Console size bytes) (suc number) has = λ held ram base c few known. all_read base 0 held ram c few known
all_sent (Block block) number has = absurd has
all_sent (Outside block) number has = absurd has
all_sent (Entropy pool) number has = absurd has

-- What is seen is read in the chain, if there is one.
by_fit : (fit : Bool) (kind : Kind) (number base : ℕ) (held : List Piece) (ram : List ℕ) (c : Chain) → Knows held ram (chain_reads kind number base c) → Knows held ram (seen_reads kind number base (if fit then Found c else Malformed))
by_fit true kind number base held ram c known = known
by_fit false kind number base held ram c known = λ b h. tt

seen_known : (want : Wanted) (kind : Kind) (number base : ℕ) (held : List Piece) (ram : List ℕ) (answer : Next) → ((c : Chain) → answer ≡ Found c → Knows held ram (chain_reads kind number base c)) → Knows held ram (seen_reads kind number base (seen_as want answer))
seen_known want kind number base held ram Empty known b h = tt
seen_known want kind number base held ram Malformed known b h = tt
seen_known want kind number base held ram (Found c) known b h = by_fit (fits want c) kind number base held ram c (known c refl) b h

looked_known : (d : DeviceState) (held : List Piece) (ram : List ℕ) (pick : ℕ) (q : RingState) (answer : Next) → Answers ram q answer → Knows held ram (look_pieces ram q)
    → ((c : Chain) → answer ≡ Found c → Knows held ram (chain_reads d.kind pick q.base c)) → (o : Outcome) (seen : Next) → MayLook (wanted_of d.kind pick) (Some q) ram o seen → Knows held ram (reads_at d ram pick (Some q) o seen)
looked_known d held ram pick q answer answers look known fine seen may = λ b h.
    let same : may.answer ≡ answer = answer_same ram q may.answer answer may.answers answers in
    let is : seen_as (wanted_of d.kind pick) answer ≡ seen = sym (may.is ∙ ap (seen_as (wanted_of d.kind pick)) same) in
    let chain = seen_known (wanted_of d.kind pick) d.kind pick q.base held ram answer known b h in
    let read : AgreeOn ram b (seen_reads d.kind pick q.base seen) = subst (λ (n : Next). AgreeOn ram b (seen_reads d.kind pick q.base n)) is chain in
    agree_both ram b (look_pieces ram q) (seen_reads d.kind pick q.base seen) (look b h) read
looked_known d held ram pick q answer answers look known disk_failed seen may = look
looked_known d held ram pick q answer answers look known no_memory seen may = look

pub knows_by : (d : DeviceState) (held : List Piece) (ram : List ℕ) (pick : ℕ) (q : RingState) (answer : Next) → looked_at d pick ≡ Some q → Answers ram q answer → Knows held ram (look_pieces ram q)
    → ((c : Chain) → answer ≡ Found c → Knows held ram (chain_reads d.kind pick q.base c)) → KnowsDevice held d ram pick
knows_by d held ram pick q answer looked answers look known = λ o seen may.
    let here : MayLook (wanted_of d.kind pick) (Some q) ram o seen = subst (λ (ring : Option RingState). MayLook (wanted_of d.kind pick) ring ram o seen) looked may in
    subst (λ (ring : Option RingState). Knows held ram (reads_at d ram pick ring o seen)) (sym looked) (looked_known d held ram pick q answer answers look known o seen here)

-- An answer that is no chain.
pub no_chain : (d : DeviceState) (held : List Piece) (ram : List ℕ) (pick : ℕ) (q : RingState) (kind : NextKind) (c : Chain) → looked_at d pick ≡ Some q → Gives ram q kind c → kind ≢ kinds.NoMemory → kind ≢ kinds.Chain → Knows held ram (look_pieces ram q) → KnowsDevice held d ram pick
no_chain d held ram pick q kinds.Empty c looked gives some none look = knows_by d held ram pick q Empty looked gives look (λ e is. cc)
no_chain d held ram pick q kinds.Malformed c looked gives some none look = knows_by d held ram pick q Malformed looked gives look (λ e is. cc)
no_chain d held ram pick q kinds.Chain c looked gives some none look = absurd (none refl)
no_chain d held ram pick q kinds.NoMemory c looked gives some none look = absurd (some refl)

pub a_chain : (d : DeviceState) (held : List Piece) (ram : List ℕ) (pick : ℕ) (q : RingState) (kind : NextKind) (c : Chain) → looked_at d pick ≡ Some q → Gives ram q kind c → kind ≡ kinds.Chain → Knows held ram (look_pieces ram q)
    → Knows held ram (chain_reads d.kind pick q.base c) → KnowsDevice held d ram pick
a_chain d held ram pick q kind c looked gives is look known =
    let found : Gives ram q kinds.Chain c = subst (λ (k : NextKind). Gives ram q k c) is gives in
    knows_by d held ram pick q (Found c) looked found look (λ e same. let is_it : c ≡ e = (cc) in subst (λ (x : Chain). Knows held ram (chain_reads d.kind pick q.base x)) is_it known)

-- A step that looks at no queue reads of the request that it advances, if it advances one.
by_advance : (advances : Bool) (kind : Kind) (k : ℕ) (q : RingState) (held : List Piece) (ram : List ℕ) → Knows held ram (advance_pieces q.base (slice_get (requests_of kind) k)) → Knows held ram (request_reads kind k (if advances then Some q else None))
by_advance true kind k q held ram known = known
by_advance false kind k q held ram known = λ b h. tt

request_known : (d : DeviceState) (held : List Piece) (ram : List ℕ) (pick : ℕ) (q : Option Queue) (p : Option Positions) → Knows held ram (advance_pieces d.registers.ram_base (slice_get (requests_of d.kind) (pick - 1)))
    → Knows held ram (request_reads d.kind (pick - 1) (advanced_by d pick q p))
request_known d held ram pick None p known = λ b h. tt
request_known d held ram pick (Some q) None known = λ b h. tt
request_known d held ram pick (Some q) (Some p) known = by_advance (advances d pick) d.kind (pick - 1) (ring_of q d.registers.common.features d.registers.ram_base p) held ram known

unlooked_known : (d : DeviceState) (held : List Piece) (ram : List ℕ) (pick : ℕ) → looked_at d pick ≡ None → Knows held ram (request_reads d.kind (pick - 1) (advanced_at d pick)) → KnowsDevice held d ram pick
unlooked_known d held ram pick none known = λ o seen may. subst (λ (ring : Option RingState). Knows held ram (reads_at d ram pick ring o seen)) (sym none) known

pub advanced_known : (d : DeviceState) (held : List Piece) (ram : List ℕ) (pick : ℕ) → looked_at d pick ≡ None → Knows held ram (advance_pieces d.registers.ram_base (slice_get (requests_of d.kind) (pick - 1))) → KnowsDevice held d ram pick
advanced_known d held ram pick none known = unlooked_known d held ram pick none (request_known d held ram pick (queue_at d.registers 0) (slice_get d.positions 0) known)

idle_by : (advances : Bool) (kind : Kind) (k : ℕ) (q : RingState) (held : List Piece) (ram : List ℕ) → advances ≡ false → Knows held ram (request_reads kind k (if advances then Some q else None))
idle_by true kind k q held ram is = cc
idle_by false kind k q held ram is = λ b h. tt

idle_request : (d : DeviceState) (held : List Piece) (ram : List ℕ) (pick : ℕ) (q : Option Queue) (p : Option Positions) → advances d pick ≡ false → Knows held ram (request_reads d.kind (pick - 1) (advanced_by d pick q p))
idle_request d held ram pick None p is = λ b h. tt
idle_request d held ram pick (Some q) None is = λ b h. tt
idle_request d held ram pick (Some q) (Some p) is = idle_by (advances d pick) d.kind (pick - 1) (ring_of q d.registers.common.features d.registers.ram_base p) held ram is

pub idle_known : (d : DeviceState) (held : List Piece) (ram : List ℕ) (pick : ℕ) → looked_at d pick ≡ None → advances d pick ≡ false → KnowsDevice held d ram pick
idle_known d held ram pick none is = unlooked_known d held ram pick none (idle_request d held ram pick (queue_at d.registers 0) (slice_get d.positions 0) is)

pub block_sound : {base : ℕ} (len : ℕ) (d : DeviceState) (block : blocks.Block) → d.kind ≡ Block block → IsSoundDevice base len d → AreSoundIn d.registers.ram_base len block.requests
block_sound len d block is sound =
    let kind : IsSoundKind len d.registers (Block block) = rw is at sound.kind in
    sound_in len d.registers block (queue_at d.registers 0) refl kind

-- A device of a machine.
pub reads_known : (held : List Piece) (m : Memory) (ds : List DeviceSeen) (dev pick : ℕ) (d : DeviceSeen) → IsAt ds dev d → KnowsDevice held d.state m.bytes pick → KnowsReads held (state_of (record { memory = m; devices = ds })) dev pick
reads_known held m ds dev pick d at known =
    let There : Option DeviceState → Type 0 = λ f. (o : Outcome) (seen : Next) → MaySeeAt f m.bytes pick o seen → Knows held m.bytes (reads_of f m.bytes pick o seen) in
    subst There (sym (found ds dev d at)) known

pub none_read : (held : List Piece) (m : Memory) (ds : List DeviceSeen) (dev pick : ℕ) → length ds ≤ dev → KnowsReads held (state_of (record { memory = m; devices = ds })) dev pick
none_read held m ds dev pick h =
    let There : Option DeviceState → Type 0 = λ f. (o : Outcome) (seen : Next) → MaySeeAt f m.bytes pick o seen → Knows held m.bytes (reads_of f m.bytes pick o seen) in
    subst There (sym (past ds dev h)) (λ o seen may b ok. tt)

pub if_known : {E : Type 0} (P Q : Type 0) (size : ℕ) (held : List Piece) (result : Result (Option Piece) E) → (P → Q) → IfOk result (LacksOr size held P) → IfOk result (LacksOr size held Q)
if_known P Q size held (Ok lacking) f known = lacks_then size held lacking f known
if_known P Q size held (Err error) f known = known

pub advanced_blocks : (d : DeviceState) (held : List Piece) (ram : List ℕ) (pick : ℕ) (block : blocks.Block) → d.kind ≡ Block block → looked_at d pick ≡ None → Knows held ram (advance_pieces d.registers.ram_base (slice_get block.requests (pick - 1))) → KnowsDevice held d ram pick
advanced_blocks d held ram pick block is none known = advanced_known d held ram pick none (rw is known)

pub advanced_outside : (d : DeviceState) (held : List Piece) (ram : List ℕ) (pick : ℕ) (block : blocks.Block) → d.kind ≡ Outside block → looked_at d pick ≡ None → Knows held ram (advance_pieces d.registers.ram_base (slice_get block.requests (pick - 1))) → KnowsDevice held d ram pick
advanced_outside d held ram pick block is none known = advanced_known d held ram pick none (rw is known)
