-- Where steps write: inside RAM, and bytes.
use Rattle.std.proofs.Common.{◌≡◌, ℕ, zero, suc, ◌+◌, ◌*◌, ◌%◌, ◌<◌, ◌≤◌, Bool, true, false, cond, ltb, List, [], ◌∷◌, ◌++◌, length, take, set, refl, arith, length-append}
use Rattle.std.specs.List.{All}
use Rattle.std.proofs.lemmas.List.{length-set}
use Rattle.std.proofs.lemmas.Nat.{mod_below}
use Rattle.guestmem.specs.Address.{index_of}
use Rattle.guestmem.proofs.ByteLaws.{IsBytes-append, IsBytes-take, IsBytes-set, IsBytes-little_bytes, length-little_bytes}
use Rattle.guestmem.specs.Number.{little_bytes, IsBytes}
use Rattle.guestmem.specs.Writes.{Write, byte_writes, set_all}
use Rattle.chains.specs.Places.{addresses, places, place_writes, AreSegmentsInside}
use Rattle.chains.specs.ReceiveBuffer.{filled, give}
use Rattle.chains.specs.Publish.{published, split_published, packed_published, event_note, split_note, packed_note, after_take, bit_if}
use Rattle.chains.specs.Look.{Sees}
use Rattle.chains.specs.Ring.{IsBoundedNext}
use Rattle.chains.proofs.LookLaws.{sight_bounded}
use Rattle.chains.specs.State.{RingState, HasAreas, MayRing}
use Rattle.chains.specs.declared.chain.Chain.{Chain}
use Rattle.chains.specs.declared.looking.Wanted.TheVariants as wanted
use Rattle.chains.specs.declared.next.Next.{Next}
use Rattle.chains.specs.declared.next.Next.TheVariants as next
use Rattle.chains.specs.declared.segs.Seg.{Seg}
use Rattle.chains.specs.Transmit.{transmit_step}
use Rattle.chains.specs.declared.transmitting.MessageForm.{MessageForm}
use Rattle.console.specs.Transmit.{text_form}
use Rattle.net.specs.Header.{header}
use Rattle.net.specs.Receive as net
use Rattle.net.specs.Transmit.{frame_form}
use Rattle.console.specs.Receive.{receive_step, count_into}
use Rattle.blk.specs.Take.{take_step}
use Rattle.blk.specs.declared.block.Block as blocks
use Rattle.mmio.specs.State.{Registers}
use Rattle.machine.specs.DeviceStep.{serve, wanted_of}
use Rattle.machine.specs.Sound.{IsSoundKind}
use Rattle.net.specs.Inbox.{IsFrame}
use Rattle.machine.specs.declared.kind.Kind.{Kind}
use Rattle.machine.specs.declared.kind.Kind.TheVariants.{Network, Block, Outside, Console, Entropy}
use Rattle.console.specs.Shape.{AreHostBytes}
use Rattle.machine.proofs.Rings.{IsLookedRing}

-- Each write is one of a byte inside a RAM of so many bytes.
abbrev pub AreInsideRam : ℕ → List Write → Type 0
AreInsideRam len [] = Unit {0}
AreInsideRam len (w ∷ ws) = (w.index < len) × (w.byte < 256) × AreInsideRam len ws

pub inside_append : (len : ℕ) (ws vs : List Write) → AreInsideRam len ws → AreInsideRam len vs → AreInsideRam len (ws ++ vs)
inside_append len [] vs h k = k
inside_append len (w ∷ ws) vs h k = (h.0, h.1, inside_append len ws vs h.2 k)

pub all_inside : (len : ℕ) (ws : List Write) → AreInsideRam len ws → All (λ (w : Write). w.index < len) ws
all_inside len [] h k d below = absurd (omega (arith, below))
all_inside len (w ∷ ws) h zero d below = h.0
all_inside len (w ∷ ws) h (suc k) d below = all_inside len ws h.2 k d (omega (arith, below))

-- RAM holds bytes after such writes.
pub bytes_after : (ram : List ℕ) (ws : List Write) → IsBytes ram → AreInsideRam (length ram) ws → IsBytes (set_all ram ws)
bytes_after ram [] are h = are
bytes_after ram (w ∷ ws) are h = bytes_after (set ram w.index w.byte) ws (IsBytes-set ram w.index w.byte are h.1) (rw (length-set ram w.index w.byte) h.2)

-- Bytes from an address on.
pub run_inside : (len at : ℕ) (bytes : List ℕ) → at + length bytes ≤ len → IsBytes bytes → AreInsideRam len (byte_writes at bytes)
run_inside len at [] inside are = tt
run_inside len at (b ∷ bytes) inside are = (omega (arith, inside), are 0, run_inside len (at + 1) bytes (omega (arith, inside)) (λ i. are (suc i)))

-- Bytes at places, in a RAM with this base.
abbrev pub AreAddresses : ℕ → ℕ → List ℕ → Type 0
AreAddresses base len [] = Unit {0}
AreAddresses base len (a ∷ at) = (index_of base a < len) × AreAddresses base len at

pub addresses_append : (base len : ℕ) (xs ys : List ℕ) → AreAddresses base len xs → AreAddresses base len ys → AreAddresses base len (xs ++ ys)
addresses_append base len [] ys h k = k
addresses_append base len (x ∷ xs) ys h k = (h.0, addresses_append base len xs ys h.1 k)

addresses_inside : (base len address count : ℕ) → base ≤ address → address + count ≤ base + len → AreAddresses base len (addresses address count)
addresses_inside base len address zero above inside = tt
addresses_inside base len address (suc count) above inside = (omega (arith, above, inside), addresses_inside base len (address + 1) count (omega (arith, above)) (omega (arith, inside)))

pub places_inside : (base len : ℕ) (segs : List Seg) → AreSegmentsInside base len segs → AreAddresses base len (places segs)
places_inside base len [] h = tt
places_inside base len (seg ∷ segs) h =
    let here = h 0 seg (omega arith) in
    addresses_append base len (addresses seg.addr seg.len) (places segs) (addresses_inside base len seg.addr seg.len here.above here.below)
    (places_inside base len segs (λ k d below. h (suc k) d (omega (arith, below))))

pub first_inside : (base len n : ℕ) (at : List ℕ) → AreAddresses base len at → AreAddresses base len (take n at)
first_inside base len zero at h = tt
first_inside base len (suc n) [] h = tt
first_inside base len (suc n) (a ∷ at) h = (h.0, first_inside base len n at h.1)

pub placed_inside : (base len : ℕ) (at bytes : List ℕ) → AreAddresses base len at → IsBytes bytes → AreInsideRam len (place_writes base at bytes)
placed_inside base len [] bytes h are = tt
placed_inside base len (a ∷ at) [] h are = tt
placed_inside base len (a ∷ at) (b ∷ bytes) h are = (h.0, are 0, placed_inside base len at bytes h.1 (λ i. are (suc i)))

-- What publishing writes.
slot_below : (place size : ℕ) → 1 ≤ size → place % size < size
slot_below place size some = mod_below place size some

-- A ring in which a chain can be published.
pub record MayPublish (len : ℕ) (q : RingState) : Type 0 where
  pub some : 1 ≤ q.size
  pub used : q.is_packed ≡ true → q.used.place < q.size
  pub areas : HasAreas len q

split_inside : (len : ℕ) (q : RingState) (id n : ℕ) → q.is_packed ≡ false → MayPublish len q → AreInsideRam len (split_published q id n)
unfolding split_published
split_inside len q id n layout may =
    let device : q.device + (6 + 8 * q.size) ≤ len = rw layout at may.areas.device.inside in
    let slot = slot_below q.used.place q.size may.some in
    inside_append len (byte_writes (q.device + 4 + 8 * (q.used.place % q.size)) (little_bytes 4 id ++ little_bytes 4 n)) (byte_writes (q.device + 2) (little_bytes 2 ((q.used.place + 1) % 65536)))
    (run_inside len (q.device + 4 + 8 * (q.used.place % q.size)) (little_bytes 4 id ++ little_bytes 4 n)
    (omega (arith, device, slot, length-append (little_bytes 4 id) (little_bytes 4 n), length-little_bytes 4 id, length-little_bytes 4 n))
    (IsBytes-append (little_bytes 4 id) (little_bytes 4 n) (IsBytes-little_bytes 4 id) (IsBytes-little_bytes 4 n)))
    (run_inside len (q.device + 2) (little_bytes 2 ((q.used.place + 1) % 65536)) (omega (arith, device, length-little_bytes 2 ((q.used.place + 1) % 65536)))
    (IsBytes-little_bytes 2 ((q.used.place + 1) % 65536)))

packed_inside : (len : ℕ) (q : RingState) (id n : ℕ) (wrote : Bool) → q.is_packed ≡ true → MayPublish len q → AreInsideRam len (packed_published q id n wrote)
unfolding packed_published
packed_inside len q id n wrote layout may =
    let flags = bit_if wrote 2 + bit_if q.used.wrap 128 + bit_if q.used.wrap 32768 in
    let first = little_bytes 4 n ++ little_bytes 2 id in
    run_inside len (q.descriptors + 16 * q.used.place + 8) (first ++ little_bytes 2 flags)
    (omega (arith, may.areas.descriptors.inside, may.used layout, length-append first (little_bytes 2 flags), length-append (little_bytes 4 n) (little_bytes 2 id), length-little_bytes 4 n, length-little_bytes 2 id, length-little_bytes 2 flags))
    (IsBytes-append first (little_bytes 2 flags) (IsBytes-append (little_bytes 4 n) (little_bytes 2 id) (IsBytes-little_bytes 4 n) (IsBytes-little_bytes 2 id)) (IsBytes-little_bytes 2 flags))

published_by : (len : ℕ) (q : RingState) (id slots n : ℕ) (wrote packed : Bool) → q.is_packed ≡ packed → MayPublish len q → AreInsideRam len (cond packed (packed_published q id n wrote) (split_published q id n))
published_by len q id slots n wrote true is h = packed_inside len q id n wrote is h
published_by len q id slots n wrote false is h = split_inside len q id n is h

pub published_inside : (len : ℕ) (q : RingState) (id slots n : ℕ) (wrote : Bool) → MayPublish len q → AreInsideRam len (published q id slots n wrote)
published_inside len q id slots n wrote h = published_by len q id slots n wrote q.is_packed refl h

used_by : (q : RingState) (packed : Bool) → q.is_packed ≡ packed → MayRing q → packed ≡ true → q.used.place < q.size
used_by q true is may layout = (rw is at may.slots).1
used_by q false is may layout = cc

-- A ring that is looked at, also after a chain of it was taken.
pub may_publish : (len : ℕ) (q : RingState) → IsLookedRing len q → MayPublish len q
may_publish len q h = record { some = h.may.some; used = used_by q q.is_packed refl h.may; areas = h.areas }

pub may_publish_taken : (len : ℕ) (q : RingState) (slots : ℕ) → IsLookedRing len q → MayPublish len (after_take q slots)
may_publish_taken len q slots h =
    let may = may_publish len q h in
    record { some = may.some; used = may.used; areas = record { descriptors = may.areas.descriptors; driver = may.areas.driver; device = may.areas.device } }

-- The event note.
note_by : (len : ℕ) (q : RingState) (packed : Bool) → q.is_packed ≡ packed → HasAreas len q → AreInsideRam len (cond packed (packed_note q) (split_note q))
unfolding packed_note split_note
note_by len q true is areas =
    let device : q.device + 4 ≤ len = rw is at areas.device.inside in
    let place = q.taking.place + bit_if q.taking.wrap 32768 in
    run_inside len q.device (little_bytes 2 place ++ little_bytes 2 2) (omega (arith, device, length-append (little_bytes 2 place) (little_bytes 2 2), length-little_bytes 2 place, length-little_bytes 2 2))
    (IsBytes-append (little_bytes 2 place) (little_bytes 2 2) (IsBytes-little_bytes 2 place) (IsBytes-little_bytes 2 2))
note_by len q false is areas =
    let device : q.device + (6 + 8 * q.size) ≤ len = rw is at areas.device.inside in
    run_inside len (q.device + 4 + 8 * q.size) (little_bytes 2 q.taking.place) (omega (arith, device, length-little_bytes 2 q.taking.place)) (IsBytes-little_bytes 2 q.taking.place)

noted_if : (len : ℕ) (ws : List Write) (wanted : Bool) → AreInsideRam len ws → AreInsideRam len (cond wanted ws [])
noted_if len ws true h = h
noted_if len ws false h = tt

pub note_inside : (len : ℕ) (q : RingState) → HasAreas len q → AreInsideRam len (event_note q)
note_inside len q areas = noted_if len (cond q.is_packed (packed_note q) (split_note q)) q.has_event_index (note_by len q q.is_packed refl areas)

-- What giving bytes to a chain writes.
pub filled_inside : (len : ℕ) (q : RingState) (c : Chain) (bytes : List ℕ) → IsLookedRing len q → AreSegmentsInside q.base len c.writable → IsBytes bytes → AreInsideRam len (filled q c bytes)
filled_inside len q c bytes looked inside are =
    inside_append len (place_writes q.base (places c.writable) bytes) (published (after_take q c.slots) c.id c.slots (length bytes) (ltb 0 (length bytes)))
    (placed_inside q.base len (places c.writable) bytes (places_inside q.base len c.writable inside) are)
    (published_inside len (after_take q c.slots) c.id c.slots (length bytes) (ltb 0 (length bytes)) (may_publish_taken len q c.slots looked))

-- What the step that gives bytes writes.
given_inside : (ram : List ℕ) (q : RingState) (held : List ℕ) (seen : Next) → IsLookedRing (length ram) q → IsBoundedNext (length ram) q seen → AreHostBytes held → AreInsideRam (length ram) (receive_step ram q held seen).writes
unfolding give
given_inside ram q held next.Empty looked bounded are = note_inside (length ram) q looked.areas
given_inside ram q held next.Malformed looked bounded are = tt
given_inside ram q held (next.Chain c) looked bounded are =
    filled_inside (length ram) q c (take (count_into held c) held) looked bounded.writable (IsBytes-take (count_into held c) held are.are)

-- What the step that takes a request writes.
taken_inside : (features : ℕ) (ram : List ℕ) (q : RingState) (b : blocks.Block) (seen : Next) → IsLookedRing (length ram) q → AreInsideRam (length ram) (take_step features ram q b seen).writes
taken_inside features ram q b next.Empty looked = note_inside (length ram) q looked.areas
taken_inside features ram q b next.Malformed looked = tt
taken_inside features ram q b (next.Chain c) looked = tt

-- What the step that gives a frame writes.
header_bytes : IsBytes header
unfolding header
header_bytes zero = omega arith
header_bytes (suc zero) = omega arith
header_bytes (suc (suc zero)) = omega arith
header_bytes (suc (suc (suc zero))) = omega arith
header_bytes (suc (suc (suc (suc zero)))) = omega arith
header_bytes (suc (suc (suc (suc (suc zero))))) = omega arith
header_bytes (suc (suc (suc (suc (suc (suc zero)))))) = omega arith
header_bytes (suc (suc (suc (suc (suc (suc (suc zero))))))) = omega arith
header_bytes (suc (suc (suc (suc (suc (suc (suc (suc zero)))))))) = omega arith
header_bytes (suc (suc (suc (suc (suc (suc (suc (suc (suc zero))))))))) = omega arith
header_bytes (suc (suc (suc (suc (suc (suc (suc (suc (suc (suc zero)))))))))) = omega arith
header_bytes (suc (suc (suc (suc (suc (suc (suc (suc (suc (suc (suc zero))))))))))) = omega arith
header_bytes (suc (suc (suc (suc (suc (suc (suc (suc (suc (suc (suc (suc i)))))))))))) = omega arith

one_framed : (ram : List ℕ) (q : RingState) (frame : List ℕ) (rest : List (List ℕ)) (c : Chain) (short : Bool) → IsLookedRing (length ram) q → AreSegmentsInside q.base (length ram) c.writable → IsBytes frame
    → AreInsideRam (length ram) (cond short (net.drop_frame q rest) (give ram q (header ++ frame) rest c)).writes
unfolding give
one_framed ram q frame rest c true looked inside are = tt
one_framed ram q frame rest c false looked inside are = filled_inside (length ram) q c (header ++ frame) looked inside (IsBytes-append header frame header_bytes are)

framed_inside : (longest : ℕ) (ram : List ℕ) (q : RingState) (frames : List (List ℕ)) (seen : Next) → IsLookedRing (length ram) q → IsBoundedNext (length ram) q seen → All (IsFrame longest) frames → AreInsideRam (length ram) (net.receive_step ram q frames seen).writes
framed_inside longest ram q frames next.Empty looked bounded are = note_inside (length ram) q looked.areas
framed_inside longest ram q frames next.Malformed looked bounded are = tt
framed_inside longest ram q [] (next.Chain c) looked bounded are = tt
framed_inside longest ram q (frame ∷ rest) (next.Chain c) looked bounded are =
    one_framed ram q frame rest c (ltb (length (places c.writable)) (length (header ++ frame))) looked bounded.writable (are 0 frame (omega arith)).are

-- What the step that takes a message writes.
sent_inside : {S : Type 0} (ram : List ℕ) (q : RingState) (form : MessageForm) (state : S) (seen : Next) → IsLookedRing (length ram) q → AreInsideRam (length ram) (transmit_step form ram q state seen).writes
sent_inside ram q form state next.Empty looked = note_inside (length ram) q looked.areas
sent_inside ram q form state next.Malformed looked = tt
sent_inside ram q form state (next.Chain c) looked = published_inside (length ram) (after_take q c.slots) c.id c.slots 0 false (may_publish_taken (length ram) q c.slots looked)

-- What serving a queue writes.
pub served_inside : (len : ℕ) (r : Registers) (kind : Kind) (number : ℕ) (ram : List ℕ) (q : RingState) (seen : Next) → IsLookedRing (length ram) q → Sees (wanted_of kind number) ram q seen → IsSoundKind len r kind → AreInsideRam (length ram) (serve r.common.features kind number ram q seen).writes
served_inside len r (Block block) number ram q seen looked sees sound = taken_inside r.common.features ram q block seen looked
served_inside len r (Outside block) number ram q seen looked sees sound = taken_inside r.common.features ram q block seen looked
served_inside len r (Network mac inbox) zero ram q seen looked sees sound = framed_inside inbox.longest ram q inbox.frames seen looked (sight_bounded wanted.Room ram q seen sees) sound.are
served_inside len r (Network mac inbox) (suc number) ram q seen looked sees sound = sent_inside ram q (frame_form inbox.longest) (Network mac inbox) seen looked
served_inside len r (Console size held) zero ram q seen looked sees sound = given_inside ram q held seen looked (sight_bounded wanted.Room ram q seen sees) sound.text
served_inside len r (Console size held) (suc number) ram q seen looked sees sound = sent_inside ram q text_form (Console size held) seen looked
served_inside len r (Entropy pool) number ram q seen looked sees sound = given_inside ram q pool seen looked (sight_bounded wanted.Room ram q seen sees) sound
