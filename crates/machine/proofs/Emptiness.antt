-- A step that finds its queue empty.
use Rattle.std.specs.Prelude.{◌≡◌, ◌≢◌, ℕ, zero, suc, ◌-◌, ◌==◌, nat_lt, List, [], ◌∷◌, ◌++◌, length, take, ◌+◌, ◌<◌, Bool, true, false, Option, Some, None, slice_get, refl, if◌then◌else◌}
use Rattle.std.specs.Bool.{MatchBool}
use Rattle.std.proofs.Common.{ap, sym, subst, ◌∙◌, arith}
use Rattle.std.proofs.lemmas.Bool.{eq-eqb}
use Rattle.chains.specs.Descriptor.{descriptor_at}
use Rattle.chains.specs.Footprint.{AgreeOn, chain_pieces, entry_piece, index_piece, is_available, look_pieces, packed_pieces, slot_pieces, split_pieces, whole_table}
use Rattle.chains.specs.Look.{seen_as}
use Rattle.std.specs.Int.{bytes_low_first}
use Rattle.chains.specs.Publish.{bit_if, event_note, packed_note, split_note}
use Rattle.chains.specs.Ring.{Answers, IsEmptyQueue}
use Rattle.chains.specs.SplitChain.{available_index, waiting}
use Rattle.chains.specs.State.{MayRing, RingState}
use Rattle.chains.specs.declared.lacking.Piece.{Piece}
use Rattle.chains.specs.declared.next.Next.{Next}
use Rattle.chains.specs.declared.next.Next.TheVariants as next
use Rattle.chains.proofs.ChainLaws.{answer_same}
use Rattle.blk.specs.Sectors.{Sector}
use Rattle.blk.specs.declared.request.Request.{Request}
use Rattle.machine.specs.Applied.{as_given}
use Rattle.machine.specs.Asked.{AsksBy, MayAnswer}
use Rattle.machine.specs.Beside.{written_with}
use Rattle.machine.specs.DeviceStep.{MayLook, advanced_at, device_step, looked_at, requests_of, serve, step_at, wanted_of}
use Rattle.machine.specs.Effect.{Effect}
use Rattle.machine.specs.Footprint.{reads_at, reads_of}
use Rattle.machine.specs.Opening.{EmptyIsClosed, EmptyIsStep}
use Rattle.machine.specs.Outcome.{Outcome, fine, disk_failed as failing, no_memory, outcome_of}
use Rattle.machine.specs.Parked.{back_with}
use Rattle.machine.specs.Seen.{state_of}
use Rattle.machine.specs.State.{DeviceState}
use Rattle.machine.specs.Step.{MaySeeAt, disk_of, step_device}
use Rattle.machine.specs.Writing.{EmptyWritesNote, IsStoring, StoresBy, Writing, an_empty, advancing_at, first_piece, note_bytes, nothing, request_on, writing_by, writing_on}
use Rattle.machine.specs.declared.event.Event.TheVariants.{Step}
use Rattle.machine.specs.declared.kind.Kind as kinds
use Rattle.machine.specs.declared.kind.Kind.TheVariants.{Network, Block, Outside, Console, Entropy}
use Rattle.machine.proofs.Asked.{empty_asking}
use Rattle.machine.proofs.Beside.{applied_local, local_items, step_of, written_there}
use Rattle.machine.proofs.Opening.{held_word}

-- A look at an empty queue reads its first piece alone.
if_not : (b : Bool) (ps : List Piece) → b ≡ false → (if b then ps else []) ≡ []
if_not true ps is = cc
if_not false ps is = refl

if_so : (b : Bool) (ps : List Piece) → b ≡ true → (if b then [] else ps) ≡ []
if_so true ps is = refl
if_so false ps is = cc

unavailable : (wrap avail used : Bool) → ¬ ((avail ≡ wrap) × (used ≢ wrap)) → is_available wrap avail used ≡ false
unavailable true true true none = refl
unavailable true true false none = absurd (none (refl, λ is. cc))
unavailable true false used none = refl
unavailable false true used none = refl
unavailable false false true none = absurd (none (refl, λ is. cc))
unavailable false false false none = refl

look_by : (packed : Bool) (ram : List ℕ) (q : RingState) → q.is_packed ≡ packed → IsEmptyQueue ram q → (if packed then packed_pieces ram q else split_pieces ram q) ≡ (if packed then entry_piece q.descriptors q.taking.place else index_piece q) ∷ []
look_by true ram q layout empty =
    let d = descriptor_at true ram q.descriptors q.taking.place in
    let none = unavailable q.taking.wrap d.avail_flag d.used_flag (rw layout at empty) in
    ap (λ (ps : List Piece). entry_piece q.descriptors q.taking.place ∷ ps) (if_not (is_available q.taking.wrap d.avail_flag d.used_flag) (slot_pieces (whole_table ram q) ram q.descriptors q.size q.size q.taking.place) none)
look_by false ram q layout empty =
    let same : available_index ram q ≡ q.taking.place = rw layout at empty in
    ap (λ (ps : List Piece). index_piece q ∷ ps) (if_so (available_index ram q == q.taking.place) (if nat_lt q.size (waiting ram q) then [] else chain_pieces ram q) (eq-eqb (available_index ram q) q.taking.place same))

look_empty : (ram : List ℕ) (q : RingState) → IsEmptyQueue ram q → look_pieces ram q ≡ first_piece q ∷ []
look_empty ram q empty = look_by q.is_packed ram q refl empty

no_more : (ps : List Piece) → ps ++ [] ≡ ps
no_more [] = refl
no_more (p ∷ ps) = ap (λ (qs : List Piece). p ∷ qs) (no_more ps)

-- What a step reads that finds its queue empty.
seen_empty : (d : DeviceState) (ram : List ℕ) (pick : ℕ) (q : RingState) (seen : Next) → Answers ram q next.Empty → MayLook (wanted_of d.kind pick) (Some q) ram fine seen → seen ≡ next.Empty
seen_empty d ram pick q seen empty may =
    let same : may.answer ≡ next.Empty = answer_same ram q may.answer next.Empty may.answers empty in
    may.is ∙ ap (seen_as (wanted_of d.kind pick)) same

reads_empty : (o : Outcome) (d : DeviceState) (ram : List ℕ) (pick : ℕ) (q : RingState) (seen : Next) → Answers ram q next.Empty → MayLook (wanted_of d.kind pick) (Some q) ram o seen → reads_at d ram pick (Some q) o seen ≡ first_piece q ∷ []
reads_empty fine d ram pick q seen empty may = rw (seen_empty d ram pick q seen empty may) (no_more (look_pieces ram q) ∙ look_empty ram q empty)
reads_empty failing d ram pick q seen empty may = look_empty ram q empty
reads_empty no_memory d ram pick q seen empty may = look_empty ram q empty

-- By what it is known to write by, its queue is empty, and it publishes nothing.
pub record FindsEmpty (d : DeviceState) (ram : List ℕ) (pick : ℕ) (q : RingState) (first : Piece) : Type 0 where
  pub looked : looked_at d pick ≡ Some q
  pub empty : Answers ram q next.Empty
  pub is_first : first ≡ first_piece q

on_empty : (ring q : RingState) (ram : List ℕ) (first : Piece) (answer : Next) → Answers ram ring answer → an_empty q first ≡ writing_on ring answer → (ring ≡ q) × Answers ram ring next.Empty × (first ≡ first_piece ring)
on_empty ring q ram first next.Empty answers is =
    let same : q ≡ ring = cc in
    let piece : first ≡ first_piece ring = cc in
    (sym same, answers, piece)
on_empty ring q ram first next.Malformed answers is = cc
on_empty ring q ram first (next.Chain c) answers is = cc

request_not : (q : RingState) (there : Option Request) (e : RingState) (first : Piece) → an_empty e first ≡ request_on q there → ⊥
request_not q None e first is = cc
request_not q (Some r) e first is = cc

advance_not : (kind : kinds.Kind) (k : ℕ) (ring : Option RingState) (e : RingState) (first : Piece) → an_empty e first ≡ advancing_at kind k ring → ⊥
advance_not kind k None e first is = cc
advance_not kind k (Some q) e first is = request_not q (slice_get (requests_of kind) k) e first is

ring_empty : (d : DeviceState) (ram : List ℕ) (pick : ℕ) (ring : Option RingState) (q : RingState) (first : Piece) (answer : Next) → looked_at d pick ≡ ring → MayAnswer ring ram answer → an_empty q first ≡ writing_by d pick ring answer → FindsEmpty d ram pick q first
ring_empty d ram pick None q first answer looked answers is = absurd (advance_not d.kind (pick - 1) (advanced_at d pick) q first is)
ring_empty d ram pick (Some ring) q first answer looked answers is =
    let on = on_empty ring q ram first answer answers is in
    record {
      looked = looked ∙ ap (λ (r : RingState). Some r) on.0;
      empty = subst (λ (r : RingState). Answers ram r next.Empty) on.0 on.1;
      is_first = on.2 ∙ ap first_piece on.0;
    }

finds_empty : (d : DeviceState) (ram : List ℕ) (pick : ℕ) (q : RingState) (first : Piece) → IsStoring d ram pick (an_empty q first) → FindsEmpty d ram pick q first
finds_empty d ram pick q first h = ring_empty d ram pick (looked_at d pick) q first h.answer refl h.answers h.is

no_device : (w : Writing) (q : RingState) (first : Piece) → w ≡ an_empty q first → w ≡ nothing → ⊥
no_device w q first is none =
    let bad : an_empty q first ≡ nothing = sym is ∙ none in
    cc

there_reads : (there : Option DeviceState) (ram : List ℕ) (pick : ℕ) (o : Outcome) (seen : Next) (q : RingState) (first : Piece) → StoresBy there ram pick (an_empty q first) → MaySeeAt there ram pick o seen → reads_of there ram pick o seen ≡ first ∷ []
there_reads None ram pick o seen q first stores may = absurd (no_device (an_empty q first) q first refl stores)
there_reads (Some d) ram pick o seen q first stores may =
    let found = finds_empty d ram pick q first stores in
    let here : MayLook (wanted_of d.kind pick) (Some q) ram o seen = subst (λ (ring : Option RingState). MayLook (wanted_of d.kind pick) ring ram o seen) found.looked may in
    ap (λ (ring : Option RingState). reads_at d ram pick ring o seen) found.looked ∙ reads_empty o d ram pick q seen found.empty here ∙ ap (λ (p : Piece). p ∷ []) (sym found.is_first)

there_asks : (there : Option DeviceState) (ram : List ℕ) (pick : ℕ) (q : RingState) (first : Piece) → StoresBy there ram pick (an_empty q first) → AsksBy there ram pick None
there_asks None ram pick q first stores = refl
there_asks (Some d) ram pick q first stores =
    let found = finds_empty d ram pick q first stores in
    empty_asking d ram pick q found.looked found.empty

pub empty_closed : EmptyIsClosed
empty_closed p next window after dev pick q first reply h stores = λ ram written bytes same agree is.
    let old = back_with p window in
    let there = slice_get (state_of old).devices dev in
    let reads = there_reads there window.bytes pick (outcome_of reply) h.has.seen q first stores h.has.may_see in
    let word = held_word p next window after (first ∷ []) dev pick None reply h (there_asks there window.bytes pick q first stores) (λ m on. tt) in
    applied_local old (back_with next after) dev pick reply h ram written bytes same (subst (λ (ps : List Piece). AgreeOn window.bytes ram.bytes ps) (sym reads) agree) (word ram.bytes agree) is

pub empty_step : EmptyIsStep
empty_step m p next window after dev pick q first reply h bytes devices versions left same agree stores =
    let ram = m.memory in
    let old = back_with p window in
    let new = back_with next after in
    let found = slice_get (state_of old).devices dev in
    let reads = there_reads found window.bytes pick (outcome_of reply) h.has.seen q first stores h.has.may_see in
    let word = held_word p next window after (first ∷ []) dev pick None reply h (there_asks found window.bytes pick q first stores) (λ m on. tt) in
    let there = written_there old new dev pick reply h ram versions in
    let x = written_with ram h.effect after.versions in
    let on_reads = subst (λ (ps : List Piece). AgreeOn window.bytes ram.bytes ps) (sym reads) agree in
    let on_word = word ram.bytes agree in
    step_of m p next dev pick reply h.effect x devices (applied_local old new dev pick reply h ram x bytes same on_reads on_word there)
    (local_items old new dev pick reply h ram x bytes same on_reads on_word there) refl left

-- It writes its note.
serve_note : (features : ℕ) (kind : kinds.Kind) (pick : ℕ) (ram : List ℕ) (q : RingState) → (serve features kind pick ram q next.Empty).writes ≡ event_note q
serve_note features (Network mac inbox) zero ram q = refl
serve_note features (Network mac inbox) (suc number) ram q = refl
serve_note features (Console size held) zero ram q = refl
serve_note features (Console size held) (suc number) ram q = refl
serve_note features (Block block) pick ram q = refl
serve_note features (Outside block) pick ram q = refl
serve_note features (Entropy pool) pick ram q = refl

at_note : (d : DeviceState) (ram : List ℕ) (content : List Sector) (pick : ℕ) (ring : Option RingState) (q : RingState) (seen : Next) → ring ≡ Some q → Answers ram q next.Empty → MayLook (wanted_of d.kind pick) ring ram fine seen → (step_at d ram content pick ring fine seen).writes ≡ event_note q
at_note d ram content pick None q seen is empty may = cc
at_note d ram content pick (Some ring) q seen is empty may =
    let same : ring ≡ q = cc in
    let here : MayLook (wanted_of d.kind pick) (Some q) ram fine seen = subst (λ (r : RingState). MayLook (wanted_of d.kind pick) (Some r) ram fine seen) same may in
    let sight = seen_empty d ram pick q seen empty here in
    rw (same, sight) (serve_note d.registers.common.features d.kind pick ram q)

device_note : (d : DeviceState) (ram : List ℕ) (content : List Sector) (pick : ℕ) (q : RingState) (first : Piece) (seen : Next) → FindsEmpty d ram pick q first → MayLook (wanted_of d.kind pick) (looked_at d pick) ram fine seen → (device_step d ram content pick fine seen).writes ≡ event_note q
unfolding device_step
device_note d ram content pick q first seen found may = at_note d ram content pick (looked_at d pick) q seen found.looked found.empty may

there_note : (number : ℕ) (there : Option DeviceState) (ram : List ℕ) (content : List Sector) (pick : ℕ) (q : RingState) (first : Piece) (seen : Next) → StoresBy there ram pick (an_empty q first) → MaySeeAt there ram pick fine seen
    → (step_device number there ram content pick fine seen).effect.writes ≡ event_note q
there_note number None ram content pick q first seen stores may = absurd (no_device (an_empty q first) q first refl stores)
there_note number (Some d) ram content pick q first seen stores may = device_note d ram content pick q first seen (finds_empty d ram pick q first stores) may

pub empty_note : EmptyWritesNote
empty_note p next window after dev pick h q first stores =
    let m = state_of (back_with p window) in
    let given = as_given m (Step dev pick) h.given in
    let there = slice_get m.devices dev in
    ap (λ (f : Effect). f.writes) h.has.effect_is ∙ there_note dev there m.ram (disk_of given dev) pick q first h.has.seen stores h.has.may_see

-- The bytes of the note.
split_by : (event : Bool) (q : RingState) (bytes : List ℕ) → q.has_event_index ≡ event → q.is_packed ≡ false → take 2 bytes ≡ bytes_low_first 0 2 q.taking.place → take (length (note_bytes q)) bytes ≡ note_bytes q
unfolding split_note
split_by true q bytes event layout is = rw (event, layout) is
split_by false q bytes event layout is = rw event refl

pub split_bytes : (q : RingState) (bytes : List ℕ) → q.is_packed ≡ false → take 2 bytes ≡ bytes_low_first 0 2 q.taking.place → take (length (note_bytes q)) bytes ≡ note_bytes q
split_bytes q bytes layout is = split_by q.has_event_index q bytes refl layout is

packed_by : (event : Bool) (q : RingState) (bytes : List ℕ) → q.has_event_index ≡ event → q.is_packed ≡ true → bytes ≡ bytes_low_first 0 2 (q.taking.place + bit_if q.taking.wrap 32768) ++ bytes_low_first 0 2 2 → take (length (note_bytes q)) bytes ≡ note_bytes q
unfolding packed_note
packed_by true q bytes event layout is = rw (event, layout, is) refl
packed_by false q bytes event layout is = rw event refl

pub packed_bytes : (q : RingState) (bytes : List ℕ) → q.is_packed ≡ true → bytes ≡ bytes_low_first 0 2 (q.taking.place + bit_if q.taking.wrap 32768) ++ bytes_low_first 0 2 2 → take (length (note_bytes q)) bytes ≡ note_bytes q
packed_bytes q bytes layout is = packed_by q.has_event_index q bytes refl layout is

slots_of : (b : Bool) (P Q : Type 0) → b ≡ true → MatchBool b P Q → P
slots_of true P Q is h = h
slots_of false P Q is h = cc

pub packed_place : (q : RingState) → MayRing q → q.is_packed ≡ true → q.taking.place < 32768
packed_place q may layout =
    let slots = slots_of q.is_packed ((q.taking.place < q.size) × (q.used.place < q.size)) (Unit {0}) layout may.slots in
    omega (arith, slots.0, may.few)
