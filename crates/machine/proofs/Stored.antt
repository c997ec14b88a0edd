-- A step writes into its pieces.
use Rattle.std.specs.Prelude.{◌≡◌, ℕ, zero, suc, ◌+◌, ◌*◌, ◌-◌, ◌%◌, ◌<◌, ◌||◌, nat_lt, List, [], ◌∷◌, ◌++◌, length, slice_get, take, drop, Bool, true, false, Option, Some, None, refl, if◌then◌else◌}
use Rattle.std.proofs.Common.{ap, sym, ◌∙◌, append_assoc, arith, cond, eqb, get_or, set, inl, inr}
use Rattle.std.proofs.lemmas.Bool.{cases_eq, eq-eqb, ne_eqb}
use Rattle.std.proofs.lemmas.List.{ext_get_or, get_or-set_same, get_or-set_other, length-set, map-append}
use Rattle.std.proofs.lemmas.List.Elements.{All-head, All-tail}
use Rattle.guestmem.specs.Writes.{Write, set_all}
use Rattle.guestmem.specs.Address.{index_of}
use Rattle.guestmem.proofs.WriteLaws.{length-set_all}
use Rattle.chains.specs.Footprint.{place_pieces}
use Rattle.chains.specs.Places.{addresses, last_place, place_writes, places}
use Rattle.chains.specs.Publish.{after_take, event_note, packed_note, packed_published, published, split_note, split_published}
use Rattle.chains.specs.ReceiveBuffer.{give}
use Rattle.chains.specs.State.{RingState}
use Rattle.chains.specs.declared.chain.Chain.{Chain}
use Rattle.chains.specs.declared.lacking.Piece.{Piece}
use Rattle.chains.specs.declared.next.Next.{Next}
use Rattle.chains.specs.declared.next.Next.TheVariants as next
use Rattle.chains.proofs.ServiceFootprint.{set_same}
use Rattle.blk.specs.Advance.{advance_one, end_writes, used_len}
use Rattle.blk.specs.Move.{Move, bad_sector, disk_failed, move_of, moved}
use Rattle.blk.specs.Request.{is_open, next_sector, verdict_byte}
use Rattle.blk.specs.Sectors.{AreWhole, IsWhole, Sector, bytes_of, is_bad, sector_in}
use Rattle.blk.specs.declared.advancing.Advanced.{Advanced}
use Rattle.blk.specs.declared.advancing.Advanced.TheVariants as advanced
use Rattle.blk.specs.declared.block.Block as blocks
use Rattle.blk.specs.declared.request.Kind as requests
use Rattle.blk.specs.declared.request.Kind.TheVariants as work
use Rattle.blk.specs.declared.request.Request.{Request}
use Rattle.console.specs.Receive as console
use Rattle.net.specs.Header.{header}
use Rattle.net.specs.Receive as net
use Rattle.machine.specs.DeviceStep.{MayLook, advance_at, advance_on, advanced_at, device_step, looked_at, reply_of, reply_to_advance, serve, step_at, wanted_of}
use Rattle.machine.specs.Outcome.{Outcome, fine, disk_failed as failing, no_memory, disk_does}
use Rattle.machine.specs.State.{DeviceState}
use Rattle.machine.specs.Stored.{HasId, advance_writes, chain_writes, copied, device_writes, indexes_in, indexes_of, note_pieces, published_pieces, request_writes, seen_writes, unit_writes, writes_at}
use Rattle.machine.specs.declared.kind.Kind.{Kind}
use Rattle.machine.specs.declared.kind.Kind.TheVariants.{Network, Block, Outside, Console, Entropy}
use Rattle.machine.specs.declared.reply.Reply.TheVariants as replies
use Rattle.machine.proofs.Footprint.{readvanced, unit_answer}

-- Whether an index is among these.
abbrev pub is_in : ℕ → List ℕ → Bool
is_in k [] = false
is_in k (i ∷ is) = eqb k i || is_in k is

-- A byte that is as in the window stays so, and every byte becomes so at its index.
kept_copied : (window ram is : List ℕ) (k : ℕ) → k < length ram → get_or ram k 0 ≡ get_or window k 0 → get_or (copied window ram is) k 0 ≡ get_or window k 0
kept_copied window ram [] k below same = same
kept_copied window ram (i ∷ is) k below same =
    let long = length-set ram i (get_or window i 0) in
    kept_copied window (set ram i (get_or window i 0)) is k (omega (arith, below, long))
    (elim (cases_eq k i) as (λ _. get_or (set ram i (get_or window i 0)) k 0 ≡ get_or window k 0) [
      | inl is_it ↦ rw is_it (get_or-set_same ram i (get_or window i 0) 0 (omega (arith, below, is_it)))
      | inr other ↦ get_or-set_other ram i k (get_or window i 0) 0 other ∙ same
    ])

in_copied : (window ram is : List ℕ) (k : ℕ) → k < length ram → is_in k is ≡ true → get_or (copied window ram is) k 0 ≡ get_or window k 0
in_copied window ram [] k below is = cc
in_copied window ram (i ∷ is) k below among =
    let long = length-set ram i (get_or window i 0) in
    elim (cases_eq k i) as (λ _. get_or (copied window (set ram i (get_or window i 0)) is) k 0 ≡ get_or window k 0) [
      | inl is_it ↦ kept_copied window (set ram i (get_or window i 0)) is k (omega (arith, below, long)) (rw is_it (get_or-set_same ram i (get_or window i 0) 0 (omega (arith, below, is_it))))
      | inr other ↦
          let rest : is_in k is ≡ true = rw (ne_eqb k i other) at among in
          in_copied window (set ram i (get_or window i 0)) is k (omega (arith, below, long)) rest
    ]

or_none : (x y : Bool) → (x || y) ≡ false → (x ≡ false) × (y ≡ false)
or_none true y is = cc
or_none false y is = (refl, is)

not_here : (k i : ℕ) → eqb k i ≡ false → k ≡ i → ⊥
not_here k i off is =
    let on = eq-eqb k i is in
    let bad : true ≡ false = sym on ∙ off in
    cc

out_copied : (window ram is : List ℕ) (k : ℕ) → is_in k is ≡ false → get_or (copied window ram is) k 0 ≡ get_or ram k 0
out_copied window ram [] k far = refl
out_copied window ram (i ∷ is) k far =
    let parts = or_none (eqb k i) (is_in k is) far in
    out_copied window (set ram i (get_or window i 0)) is k parts.1 ∙ get_or-set_other ram i k (get_or window i 0) 0 (not_here k i parts.0)

length-copied : (window ram is : List ℕ) → length (copied window ram is) ≡ length ram
length-copied window ram [] = refl
length-copied window ram (i ∷ is) = length-copied window (set ram i (get_or window i 0)) is ∙ length-set ram i (get_or window i 0)

-- The same of writes.
kept_set : (w m : List ℕ) (ws : List Write) (k : ℕ) → length w ≡ length m → get_or w k 0 ≡ get_or m k 0 → get_or (set_all w ws) k 0 ≡ get_or (set_all m ws) k 0
kept_set w m [] k same h = h
kept_set w m (x ∷ ws) k same h =
    let longer : length (set w x.index x.byte) ≡ length (set m x.index x.byte) = length-set w x.index x.byte ∙ same ∙ sym (length-set m x.index x.byte) in
    kept_set (set w x.index x.byte) (set m x.index x.byte) ws k longer (set_same w m x.index x.byte k same h)

in_set : (w m : List ℕ) (ws : List Write) (k : ℕ) → length w ≡ length m → k < length m → is_in k (indexes_in ws) ≡ true → get_or (set_all w ws) k 0 ≡ get_or (set_all m ws) k 0
in_set w m [] k same below among = cc
in_set w m (x ∷ ws) k same below among =
    let longer : length (set w x.index x.byte) ≡ length (set m x.index x.byte) = length-set w x.index x.byte ∙ same ∙ sym (length-set m x.index x.byte) in
    elim (cases_eq k x.index) as (λ _. get_or (set_all (set w x.index x.byte) ws) k 0 ≡ get_or (set_all (set m x.index x.byte) ws) k 0) [
      | inl is_it ↦ kept_set (set w x.index x.byte) (set m x.index x.byte) ws k longer
          (rw is_it (get_or-set_same w x.index x.byte 0 (omega (arith, below, same, is_it)) ∙ sym (get_or-set_same m x.index x.byte 0 (omega (arith, below, is_it)))))
      | inr other ↦
          let rest : is_in k (indexes_in ws) ≡ true = rw (ne_eqb k x.index other) at among in
          in_set (set w x.index x.byte) (set m x.index x.byte) ws k longer (omega (arith, below, length-set m x.index x.byte)) rest
    ]

pub out_set : (m : List ℕ) (ws : List Write) (k : ℕ) → is_in k (indexes_in ws) ≡ false → get_or (set_all m ws) k 0 ≡ get_or m k 0
out_set m [] k far = refl
out_set m (x ∷ ws) k far =
    let parts = or_none (eqb k x.index) (is_in k (indexes_in ws)) far in
    out_set (set m x.index x.byte) ws k parts.1 ∙ get_or-set_other m x.index k x.byte 0 (not_here k x.index parts.0)

by_in : (b : Bool) (w m : List ℕ) (ws : List Write) (k : ℕ) → is_in k (indexes_in ws) ≡ b → length w ≡ length m → k < length m → get_or (copied (set_all w ws) m (indexes_in ws)) k 0 ≡ get_or (set_all m ws) k 0
by_in true w m ws k among same below = in_copied (set_all w ws) m (indexes_in ws) k below among ∙ in_set w m ws k same below among
by_in false w m ws k far same below = out_copied (set_all w ws) m (indexes_in ws) k far ∙ sym (out_set m ws k far)

-- To copy what was written, from a window in which it was written too, is to write it.
pub copied_is : (w m : List ℕ) (ws : List Write) → length w ≡ length m → copied (set_all w ws) m (indexes_in ws) ≡ set_all m ws
copied_is w m ws same =
    ext_get_or 0 (copied (set_all w ws) m (indexes_in ws)) (set_all m ws) (length-copied (set_all w ws) m (indexes_in ws) ∙ sym (length-set_all m ws))
    (λ k below. by_in (is_in k (indexes_in ws)) w m ws k refl same (omega (arith, below, length-copied (set_all w ws) m (indexes_in ws))))

-- The indexes of writes are those of the pieces.
indexes_both : (ps qs : List Piece) → indexes_of (ps ++ qs) ≡ indexes_of ps ++ indexes_of qs
indexes_both [] qs = refl
indexes_both (p ∷ ps) qs = rw (indexes_both ps qs) (sym (append_assoc (addresses p.at p.count) (indexes_of ps) (indexes_of qs)))

place_indexes : (base : ℕ) (at bytes : List ℕ) → indexes_in (place_writes base at bytes) ≡ indexes_of (place_pieces base (take (length bytes) at))
place_indexes base [] [] = refl
place_indexes base [] (b ∷ bytes) = refl
place_indexes base (p ∷ at) [] = refl
place_indexes base (p ∷ at) (b ∷ bytes) = ap (λ (is : List ℕ). index_of base p ∷ is) (place_indexes base at bytes)

published_by : (packed : Bool) (q : RingState) (id len : ℕ) (wrote : Bool)
    → indexes_in (if packed then packed_published q id len wrote else split_published q id len)
    ≡ indexes_of (if packed then record { at = q.descriptors + 16 * q.used.place + 8; count = 8 } ∷ [] else record { at = q.device + 4 + 8 * (q.used.place % q.size); count = 8 } ∷ record { at = q.device + 2; count = 2 } ∷ [])
unfolding packed_published split_published
published_by true q id len wrote = refl
published_by false q id len wrote = refl

published_indexes : (q : RingState) (id slots len : ℕ) (wrote : Bool) → indexes_in (published q id slots len wrote) ≡ indexes_of (published_pieces q)
published_indexes q id slots len wrote = published_by q.is_packed q id len wrote

note_by : (event packed : Bool) (q : RingState) → indexes_in (if event then (if packed then packed_note q else split_note q) else [])
    ≡ indexes_of (if event then (if packed then record { at = q.device; count = 4 } ∷ [] else record { at = q.device + 4 + 8 * q.size; count = 2 } ∷ []) else [])
unfolding packed_note split_note
note_by true true q = refl
note_by true false q = refl
note_by false packed q = refl

note_indexes : (q : RingState) → indexes_in (event_note q) ≡ indexes_of (note_pieces q)
note_indexes q = note_by q.has_event_index q.is_packed q

both_indexes : (base : ℕ) (at bytes : List ℕ) (ws : List Write) (ps : List Piece) → indexes_in ws ≡ indexes_of ps → indexes_in (place_writes base at bytes ++ ws) ≡ indexes_of (place_pieces base (take (length bytes) at) ++ ps)
both_indexes base at bytes ws ps same =
    map-append (λ (w : Write). w.index) (place_writes base at bytes) ws ∙ rw (place_indexes base at bytes, same) refl ∙ sym (indexes_both (place_pieces base (take (length bytes) at)) ps)

-- Serving a chain.
give_writes : {S : Type 0} (ram : List ℕ) (q : RingState) (bytes : List ℕ) (left : S) (c : Chain) → indexes_in (give ram q bytes left c).writes ≡ indexes_of (chain_writes q c (reply_of (give ram q bytes left c).answer))
unfolding give
give_writes ram q bytes left c = both_indexes q.base (places c.writable) bytes (published (after_take q c.slots) c.id c.slots (length bytes) (nat_lt 0 (length bytes))) (published_pieces (after_take q c.slots)) (published_indexes (after_take q c.slots) c.id c.slots (length bytes) (nat_lt 0 (length bytes)))

frame_writes : (fits : Bool) (ram : List ℕ) (q : RingState) (bytes : List ℕ) (rest : List (List ℕ)) (c : Chain)
    → indexes_in (if fits then net.drop_frame q rest else give ram q bytes rest c).writes ≡ indexes_of (chain_writes q c (reply_of (if fits then net.drop_frame q rest else give ram q bytes rest c).answer))
frame_writes true ram q bytes rest c = refl
frame_writes false ram q bytes rest c = give_writes ram q bytes rest c

first_writes : (ram : List ℕ) (q : RingState) (frames : List (List ℕ)) (c : Chain) → indexes_in (net.give_first ram q frames c).writes ≡ indexes_of (chain_writes q c (reply_of (net.give_first ram q frames c).answer))
first_writes ram q [] c = refl
first_writes ram q (frame ∷ rest) c = frame_writes (nat_lt (length (places c.writable)) (length (header ++ frame))) ram q (header ++ frame) rest c

serve_writes : (features : ℕ) (kind : Kind) (pick : ℕ) (ram : List ℕ) (q : RingState) (seen : Next) → indexes_in (serve features kind pick ram q seen).writes ≡ indexes_of (seen_writes q seen (reply_of (serve features kind pick ram q seen).answer))
serve_writes features (Network mac inbox) zero ram q (next.Chain c) = first_writes ram q inbox.frames c
serve_writes features (Network mac inbox) (suc number) ram q (next.Chain c) = published_indexes (after_take q c.slots) c.id c.slots 0 false
serve_writes features (Console size held) zero ram q (next.Chain c) = give_writes ram q (take (console.count_into held c) held) (drop (console.count_into held c) held) c
serve_writes features (Console size held) (suc number) ram q (next.Chain c) = published_indexes (after_take q c.slots) c.id c.slots 0 false
serve_writes features (Block block) pick ram q (next.Chain c) = refl
serve_writes features (Outside block) pick ram q (next.Chain c) = refl
serve_writes features (Entropy pool) pick ram q (next.Chain c) = give_writes ram q (take (console.count_into pool c) pool) (drop (console.count_into pool c) pool) c
serve_writes features (Network mac inbox) zero ram q next.Empty = note_indexes q
serve_writes features (Network mac inbox) (suc number) ram q next.Empty = note_indexes q
serve_writes features (Console size held) zero ram q next.Empty = note_indexes q
serve_writes features (Console size held) (suc number) ram q next.Empty = note_indexes q
serve_writes features (Block block) pick ram q next.Empty = note_indexes q
serve_writes features (Outside block) pick ram q next.Empty = note_indexes q
serve_writes features (Entropy pool) pick ram q next.Empty = note_indexes q
serve_writes features (Network mac inbox) zero ram q next.Malformed = refl
serve_writes features (Network mac inbox) (suc number) ram q next.Malformed = refl
serve_writes features (Console size held) zero ram q next.Malformed = refl
serve_writes features (Console size held) (suc number) ram q next.Malformed = refl
serve_writes features (Block block) pick ram q next.Malformed = refl
serve_writes features (Outside block) pick ram q next.Malformed = refl
serve_writes features (Entropy pool) pick ram q next.Malformed = refl

-- A unit of a request, and its end.
take_again : (n : ℕ) (xs : List ℕ) → take n (take n xs) ≡ take n xs
take_again zero xs = refl
take_again (suc n) [] = refl
take_again (suc n) (x ∷ xs) = ap (λ (ys : List ℕ). x ∷ ys) (take_again n xs)

of_length : (base n : ℕ) (at bytes : List ℕ) → length bytes ≡ n → indexes_in (place_writes base (take n at) bytes) ≡ indexes_of (place_pieces base (take n at))
of_length base n at bytes long = place_indexes base (take n at) bytes ∙ rw (long, take_again n at) refl

whole_at : (content : List Sector) (n : ℕ) → AreWhole content → IsWhole (get_or content n None)
whole_at [] n whole = tt
whole_at (s ∷ content) zero whole = All-head IsWhole s content whole
whole_at (s ∷ content) (suc n) whole = whole_at content n (All-tail IsWhole s content whole)

abbrev is_moved : Advanced → Bool
is_moved advanced.Moved = true
is_moved advanced.Idle = false
is_moved advanced.BadSector = false
is_moved advanced.DiskFailed = false
is_moved (advanced.Completed len is) = false

-- What one unit answers, as the machine does.
abbrev unit_fits : requests.Kind → ℕ → Request → Move → Type 0
unit_fits kind base r m = indexes_in m.writes ≡ indexes_of (if is_moved m.answer then unit_writes kind base r else [])

whole_size : (bytes : List ℕ) → IsWhole (Some bytes) → length bytes ≡ 512
whole_size bytes whole = whole.size

read_writes : (base : ℕ) (r : Request) (at : List ℕ) (is_fine : Bool) (s : Sector) → IsWhole s
    → let m = cond (is_bad s) (bad_sector r) (cond is_fine (moved r (place_writes base (take 512 at) (bytes_of s)) []) (disk_failed r [])) in indexes_in m.writes ≡ indexes_of (if is_moved m.answer then place_pieces base (take 512 at) else [])
read_writes base r at is_fine None whole = refl
read_writes base r at true (Some bytes) whole = of_length base 512 at bytes (whole_size bytes whole)
read_writes base r at false (Some bytes) whole = refl

unit_indexes : (kind : requests.Kind) (base : ℕ) (id ram : List ℕ) (content : List Sector) (r : Request) (is_fine : Bool) → length id ≡ 20 → AreWhole content → unit_fits kind base r (move_of kind base id ram content r is_fine)
unit_indexes work.In base id ram content r is_fine long whole = read_writes base r (drop (512 * r.done) (places r.writable)) is_fine (sector_in content (next_sector r)) (whole_at content (next_sector r) whole)
unit_indexes work.Out base id ram content r true long whole = refl
unit_indexes work.Out base id ram content r false long whole = refl
unit_indexes work.Flush base id ram content r true long whole = refl
unit_indexes work.Flush base id ram content r false long whole = refl
unit_indexes work.GetId base id ram content r is_fine long whole = of_length base 20 (places r.writable) id long
unit_indexes work.Refused base id ram content r is_fine long whole = refl
unit_indexes work.Zero base id ram content r true long whole = refl
unit_indexes work.Zero base id ram content r false long whole = refl

by_reply : (answer : Advanced) (q : RingState) (r : Request) → ((due : Bool) → answer ≡ readvanced due answer) → indexes_of (if is_moved answer then unit_writes r.kind q.base r else []) ≡ indexes_of (request_writes q (Some r) (reply_to_advance answer))
by_reply advanced.Idle q r never = refl
by_reply advanced.Moved q r never = refl
by_reply advanced.BadSector q r never = refl
by_reply advanced.DiskFailed q r never = refl
by_reply (advanced.Completed len is) q r never =
    let on : is ≡ true = (let e = never true in cc) in
    let off : is ≡ false = (let e = never false in cc) in
    let bad : true ≡ false = sym on ∙ off in
    cc

end_indexes : (q : RingState) (r : Request) → indexes_in (end_writes q r) ≡ indexes_of (place_pieces q.base (last_place r.writable) ++ published_pieces q)
unfolding end_writes
end_indexes q r =
    let both = both_indexes q.base (last_place r.writable) (verdict_byte r.verdict ∷ []) (published q r.id r.slots (used_len r) true) (published_pieces q) (published_indexes q r.id r.slots (used_len r) true) in
    let once : take 1 (last_place r.writable) ≡ last_place r.writable = take_again 1 (drop (length (places r.writable) - 1) (places r.writable)) in
    both ∙ ap (λ (at : List ℕ). indexes_of (place_pieces q.base at ++ published_pieces q)) once

one_by : (at_work : Bool) (ram : List ℕ) (q : RingState) (content : List Sector) (b : blocks.Block) (k : ℕ) (is_fine : Bool) (r : Request) → is_open r ≡ at_work → length b.id ≡ 20 → AreWhole content
    → indexes_in (advance_one ram q content b k is_fine (Some r)).writes ≡ indexes_of (request_writes q (Some r) (reply_to_advance (advance_one ram q content b k is_fine (Some r)).answer))
one_by true ram q content b k is_fine r is long whole =
    let m = move_of r.kind q.base b.id ram content r is_fine in
    rw is (unit_indexes r.kind q.base b.id ram content r is_fine long whole ∙ by_reply m.answer q r (λ due. unit_answer r.kind q.base b.id ram content r is_fine due))
one_by false ram q content b k is_fine r is long whole = rw is (end_indexes q r)

one_writes : (ram : List ℕ) (q : RingState) (content : List Sector) (b : blocks.Block) (k : ℕ) (is_fine : Bool) (found : Option Request) → length b.id ≡ 20 → AreWhole content
    → indexes_in (advance_one ram q content b k is_fine found).writes ≡ indexes_of (request_writes q found (reply_to_advance (advance_one ram q content b k is_fine found).answer))
one_writes ram q content b k is_fine None long whole = refl
one_writes ram q content b k is_fine (Some r) long whole = one_by (is_open r) ram q content b k is_fine r refl long whole

none_whole : AreWhole []
none_whole k d below = absurd (omega (arith, below))

on_writes : (d : DeviceState) (kind : Kind) (ram : List ℕ) (content : List Sector) (pick : ℕ) (q : RingState) (o : Outcome) → HasId kind → AreWhole content
    → indexes_in (advance_on d kind ram content pick q o).writes ≡ indexes_of (advance_writes kind (pick - 1) (Some q) (advance_on d kind ram content pick q o).reply)
on_writes d (Block block) ram content pick q o long whole = one_writes ram q content block (pick - 1) (disk_does o) (slice_get block.requests (pick - 1)) long whole
on_writes d (Outside block) ram content pick q o long whole = one_writes ram q [] block (pick - 1) true (slice_get block.requests (pick - 1)) long none_whole
on_writes d (Network mac inbox) ram content pick q o long whole = refl
on_writes d (Console size held) ram content pick q o long whole = refl
on_writes d (Entropy pool) ram content pick q o long whole = refl

at_writes : (d : DeviceState) (ram : List ℕ) (content : List Sector) (pick : ℕ) (ring : Option RingState) (o : Outcome) → HasId d.kind → AreWhole content
    → indexes_in (advance_at d ram content pick ring o).writes ≡ indexes_of (advance_writes d.kind (pick - 1) ring (advance_at d ram content pick ring o).reply)
at_writes d ram content pick None o long whole = refl
at_writes d ram content pick (Some q) o long whole = on_writes d d.kind ram content pick q o long whole

refused_writes : (q : RingState) (seen : Next) → [] ≡ indexes_of (seen_writes q seen replies.NoMemory)
refused_writes q next.Empty = refl
refused_writes q next.Malformed = refl
refused_writes q (next.Chain c) = refl

step_writes : (d : DeviceState) (ram : List ℕ) (content : List Sector) (pick : ℕ) (ring : Option RingState) (o : Outcome) (seen : Next) → HasId d.kind → AreWhole content → MayLook (wanted_of d.kind pick) ring ram o seen
    → indexes_in (step_at d ram content pick ring o seen).writes ≡ indexes_of (writes_at d pick ring seen (step_at d ram content pick ring o seen).reply)
step_writes d ram content pick None o seen long whole may = at_writes d ram content pick (advanced_at d pick) o long whole
step_writes d ram content pick (Some q) fine seen long whole may = serve_writes d.registers.common.features d.kind pick ram q seen
step_writes d ram content pick (Some q) failing seen long whole may = absurd may
step_writes d ram content pick (Some q) no_memory seen long whole may = refused_writes q seen

-- What a step writes lies in its pieces, byte for byte.
pub device_indexes : (d : DeviceState) (ram : List ℕ) (content : List Sector) (pick : ℕ) (o : Outcome) (seen : Next) → HasId d.kind → AreWhole content → MayLook (wanted_of d.kind pick) (looked_at d pick) ram o seen
    → indexes_in (device_step d ram content pick o seen).writes ≡ indexes_of (device_writes d pick seen (device_step d ram content pick o seen).reply)
unfolding device_step
device_indexes d ram content pick o seen long whole may = step_writes d ram content pick (looked_at d pick) o seen long whole may
