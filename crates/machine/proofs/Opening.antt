-- A step over a window is open or closed, by what is known of it before.
use Rattle.std.specs.Prelude.{◌≡◌, ℕ, zero, suc, ◌+◌, ◌-◌, ◌*◌, ◌||◌, List, [], ◌∷◌, length, map, take, drop, Bool, true, false, Option, Some, None, slice_get, refl, if◌then◌else◌}
use Rattle.std.proofs.Common.{ap, sym, subst, ◌∙◌, eqb}
use Rattle.guestmem.specs.Address.{index_of}
use Rattle.guestmem.specs.Lent.{is_named}
use Rattle.guestmem.specs.Memory.{Memory}
use Rattle.guestmem.specs.Writes.{set_all}
use Rattle.chains.specs.Footprint.{AgreeOn, Knows, event_piece}
use Rattle.chains.specs.Places.{places}
use Rattle.chains.specs.State.{RingState}
use Rattle.chains.specs.declared.chain.Chain.{Chain}
use Rattle.chains.specs.declared.lacking.Piece.{Piece}
use Rattle.chains.specs.declared.next.Next.{Next}
use Rattle.chains.proofs.SplitFootprint.{turned}
use Rattle.blk.specs.declared.request.Kind.{Kind}
use Rattle.blk.specs.declared.request.Kind.TheVariants as work
use Rattle.blk.specs.declared.request.Request.{Request}
use Rattle.machine.specs.Applied.{IsApplied}
use Rattle.machine.specs.Asked.{IsApart, StepAsks}
use Rattle.machine.specs.Beside.{IsStepOf, ended, publishing_of, interrupted, written_with}
use Rattle.machine.specs.DeviceStep.{looked_at}
use Rattle.machine.specs.Footprint.{Publishing, asks_at, has_published, publishing, reads_of, step_word, word_by, word_of}
use Rattle.machine.specs.Opening.{ApartIsOpen, ApartIsStep, HeldWordIsClosed, HeldWordIsStep, reach_of}
use Rattle.machine.specs.Outcome.{Outcome, outcome_of}
use Rattle.machine.specs.Parked.{ParkedSeen, back_with}
use Rattle.machine.specs.Seen.{state_of}
use Rattle.machine.specs.State.{DeviceState}
use Rattle.machine.specs.Step.{MaySeeAt}
use Rattle.machine.specs.Stored.{indexes_in, indexes_of}
use Rattle.machine.specs.Writing.{StoresBy, Writing, a_chain, a_request, an_empty, chain_places, end_of, last_of, last_pieces, note_of, nothing, places_of, request_places, segments_of, unit_places, writes_of, writing_base}
use Rattle.machine.specs.declared.event.Event.TheVariants.{Step}
use Rattle.machine.specs.declared.reply.Reply.{Reply}
use Rattle.machine.specs.declared.reply.Reply.TheVariants as replies
use Rattle.machine.proofs.Asked.{agree_on, asking_publishing, held_known, known_ring, put_elsewhere, quiet_kept}
use Rattle.machine.proofs.Beside.{applied_local, local_items, open_step, quiet_open, step_of, written_there}
use Rattle.machine.proofs.Meeting.{named_both, or_true, reach_indexes}
use Rattle.machine.proofs.Writing.{storing_writes, writes_split}

-- What a step writes lies where it may write.
or_left : (x y z : Bool) → (x || y) ≡ true → (y ≡ true → z ≡ true) → (x || z) ≡ true
or_left true y z is f = refl
or_left false y z is f = f is

or_both : (x y z v : Bool) → (x || y) ≡ true → (x ≡ true → z ≡ true) → (y ≡ true → v ≡ true) → (z || v) ≡ true
or_both true y z v is f g = rw (f refl) refl
or_both false y z v is f g = or_true z v (g is)

named_take : (f : ℕ → ℕ) (n : ℕ) (xs : List ℕ) (i : ℕ) → is_named (map f (take n xs)) i ≡ true → is_named (map f xs) i ≡ true
named_take f zero [] i is = is
named_take f zero (x ∷ xs) i is = cc
named_take f (suc n) [] i is = is
named_take f (suc n) (x ∷ xs) i is = or_left (eqb i (f x)) (is_named (map f (take n xs)) i) (is_named (map f xs) i) is (named_take f n xs i)

named_drop : (f : ℕ → ℕ) (n : ℕ) (xs : List ℕ) (i : ℕ) → is_named (map f (drop n xs)) i ≡ true → is_named (map f xs) i ≡ true
named_drop f zero xs i is = is
named_drop f (suc n) [] i is = is
named_drop f (suc n) (x ∷ xs) i is = or_true (eqb i (f x)) (is_named (map f xs) i) (named_drop f n xs i is)

unit_named : (f : ℕ → ℕ) (kind : Kind) (r : Request) (i : ℕ) → is_named (map f (unit_places kind r)) i ≡ true → is_named (map f (places r.writable)) i ≡ true
unit_named f work.In r i is = named_drop f (512 * r.done) (places r.writable) i (named_take f 512 (drop (512 * r.done) (places r.writable)) i is)
unit_named f work.GetId r i is = named_take f 20 (places r.writable) i is
unit_named f work.Refused r i is = cc
unit_named f work.Out r i is = cc
unit_named f work.Flush r i is = cc
unit_named f work.Zero r i is = cc

chain_named : (f : ℕ → ℕ) (c : Chain) (reply : Reply) (i : ℕ) → is_named (map f (chain_places c reply)) i ≡ true → is_named (map f (places c.writable)) i ≡ true
chain_named f c (replies.Completed len) i is = named_take f len (places c.writable) i is
chain_named f c (replies.Sent bytes) i is = cc
chain_named f c replies.Idle i is = cc
chain_named f c replies.Taken i is = cc
chain_named f c replies.Moved i is = cc
chain_named f c replies.BadSector i is = cc
chain_named f c replies.DiskFailed i is = cc
chain_named f c replies.Dropped i is = cc
chain_named f c replies.NeedsReset i is = cc
chain_named f c replies.NoMemory i is = cc
chain_named f c (replies.Refused why) i is = cc
chain_named f c (replies.Value value) i is = cc
chain_named f c replies.Done i is = cc
chain_named f c (replies.OutByte byte) i is = cc
chain_named f c (replies.Bytes bytes) i is = cc
chain_named f c (replies.Accepted count) i is = cc

request_named : (f : ℕ → ℕ) (r : Request) (reply : Reply) (i : ℕ) → is_named (map f (request_places r reply)) i ≡ true → is_named (map f (places r.writable)) i ≡ true
request_named f r (replies.Completed len) i is = named_drop f (length (places r.writable) - 1) (places r.writable) i (named_take f 1 (drop (length (places r.writable) - 1) (places r.writable)) i is)
request_named f r (replies.Sent bytes) i is = cc
request_named f r replies.Idle i is = cc
request_named f r replies.Taken i is = cc
request_named f r replies.Moved i is = unit_named f r.kind r i is
request_named f r replies.BadSector i is = cc
request_named f r replies.DiskFailed i is = cc
request_named f r replies.Dropped i is = cc
request_named f r replies.NeedsReset i is = cc
request_named f r replies.NoMemory i is = cc
request_named f r (replies.Refused why) i is = cc
request_named f r (replies.Value value) i is = cc
request_named f r replies.Done i is = cc
request_named f r (replies.OutByte byte) i is = cc
request_named f r (replies.Bytes bytes) i is = cc
request_named f r (replies.Accepted count) i is = cc

places_named : (f : ℕ → ℕ) (w : Writing) (reply : Reply) (i : ℕ) → is_named (map f (places_of w reply)) i ≡ true → is_named (map f (places (segments_of w))) i ≡ true
places_named f nothing reply i is = is
places_named f (an_empty q first) reply i is = is
places_named f (a_chain q c) reply i is = chain_named f c reply i is
places_named f (a_request q r) reply i is = request_named f r reply i is

note_named : (q : RingState) (reply : Reply) (i : ℕ) → is_named (indexes_of (note_of q reply)) i ≡ true → is_named (indexes_of (last_pieces (an_empty q (record { at = 0; count = 0 })))) i ≡ true
note_named q (replies.Completed len) i is = cc
note_named q (replies.Sent bytes) i is = cc
note_named q replies.Idle i is = is
note_named q replies.Taken i is = cc
note_named q replies.Moved i is = cc
note_named q replies.BadSector i is = cc
note_named q replies.DiskFailed i is = cc
note_named q replies.Dropped i is = cc
note_named q replies.NeedsReset i is = cc
note_named q replies.NoMemory i is = cc
note_named q (replies.Refused why) i is = cc
note_named q (replies.Value value) i is = cc
note_named q replies.Done i is = cc
note_named q (replies.OutByte byte) i is = cc
note_named q (replies.Bytes bytes) i is = cc
note_named q (replies.Accepted count) i is = cc

end_named : (q : RingState) (r : Request) (reply : Reply) (i : ℕ) → is_named (indexes_of (end_of q reply)) i ≡ true → is_named (indexes_of (last_pieces (a_request q r))) i ≡ true
end_named q r (replies.Completed len) i is = is
end_named q r (replies.Sent bytes) i is = cc
end_named q r replies.Idle i is = cc
end_named q r replies.Taken i is = cc
end_named q r replies.Moved i is = cc
end_named q r replies.BadSector i is = cc
end_named q r replies.DiskFailed i is = cc
end_named q r replies.Dropped i is = cc
end_named q r replies.NeedsReset i is = cc
end_named q r replies.NoMemory i is = cc
end_named q r (replies.Refused why) i is = cc
end_named q r (replies.Value value) i is = cc
end_named q r replies.Done i is = cc
end_named q r (replies.OutByte byte) i is = cc
end_named q r (replies.Bytes bytes) i is = cc
end_named q r (replies.Accepted count) i is = cc

if_named : (b : Bool) (ps : List Piece) (i : ℕ) → is_named (indexes_of (if b then ps else [])) i ≡ true → is_named (indexes_of ps) i ≡ true
if_named true ps i is = is
if_named false ps i is = cc

last_named : (w : Writing) (reply : Reply) (i : ℕ) → is_named (indexes_of (last_of w reply)) i ≡ true → is_named (indexes_of (last_pieces w)) i ≡ true
last_named nothing reply i is = is
last_named (an_empty q first) reply i is = note_named q reply i is
last_named (a_chain q c) reply i is = if_named (has_published reply) (last_pieces (a_chain q c)) i is
last_named (a_request q r) reply i is = end_named q r reply i is

in_reach : (w : Writing) (reply : Reply) (i : ℕ) → is_named (indexes_of (writes_of w reply)) i ≡ true → is_named (indexes_of (reach_of w)) i ≡ true
in_reach w reply i is =
    let f = index_of (writing_base w) in
    let xs = map f (places_of w reply) in
    let ys = indexes_of (last_of w reply) in
    let zs = map f (places (segments_of w)) in
    let vs = indexes_of (last_pieces w) in
    let either : (is_named xs i || is_named ys i) ≡ true = sym (named_both xs ys i) ∙ ap (λ (ks : List ℕ). is_named ks i) (sym (writes_split w reply)) ∙ is in
    ap (λ (ks : List ℕ). is_named ks i) (reach_indexes w) ∙ named_both zs vs i ∙ or_both (is_named xs i) (is_named ys i) (is_named zs i) (is_named vs i) either (places_named f w reply i) (last_named w reply i)

not_named : (b c : Bool) → (b ≡ true → c ≡ true) → c ≡ false → b ≡ false
not_named true c f is =
    let bad : true ≡ false = sym (f refl) ∙ is in
    cc
not_named false c f is = refl

apart_writes : (asking : Option Publishing) (w : Writing) (reply : Reply) → IsApart asking (indexes_of (reach_of w)) → IsApart asking (indexes_of (writes_of w reply))
apart_writes None w reply apart = tt
apart_writes (Some p) w reply apart = λ k below.
    let i = (event_piece p.ring).at + k in
    not_named (is_named (indexes_of (writes_of w reply)) i) (is_named (indexes_of (reach_of w)) i) (in_reach w reply i) (apart k below)

-- What a step writes by over a window, over another that agrees with it in what is held.
stores_by : (there : Option DeviceState) (w m : List ℕ) (held : List Piece) (pick : ℕ) (x : Writing) → length w ≡ length m → AgreeOn w m held → StoresBy there w pick x
    → ((o : Outcome) (seen : Next) → MaySeeAt there w pick o seen → Knows held w (reads_of there w pick o seen)) → StoresBy there m pick x
stores_by None w m held pick x same agree stores known = stores
stores_by (Some d) w m held pick x same agree stores known =
    let both = known_ring (looked_at d pick) d w m held pick stores.answer same agree stores.answers known in
    record { answer = stores.answer; answers = both.1; is = stores.is }

pub apart_open : ApartIsOpen
apart_open p next window quiet after held dev pick asking w reply h known put = λ ram written bytes same agree is.
    let agrees : AgreeOn window.bytes quiet.bytes held = put_elsewhere asking window.bytes quiet.bytes held put.elsewhere put.unheld in
    let there = held_known p window quiet held dev pick asking put.long agrees known.reads known.asks in
    let stores = stores_by (slice_get (state_of (back_with p window)).devices dev) window.bytes quiet.bytes held pick w put.long agrees known.stores known.reads in
    let apart : IsApart asking (indexes_in h.effect.writes) = subst (IsApart asking) (sym (storing_writes p next quiet after dev pick reply h w stores)) (apart_writes asking w reply put.unwritten) in
    let off = quiet_kept p next quiet after dev pick reply h asking there.1 put.quietly apart in
    let over : AgreeOn quiet.bytes ram.bytes held = agree_on quiet.bytes window.bytes ram.bytes held (turned window.bytes quiet.bytes held agrees) agree in
    let done = quiet_open p next quiet after held dev pick reply h there.0 off ram written bytes (sym put.long ∙ same) over is in
    subst (λ (x : Option Publishing). IsApplied (back_with p ram) (Step dev pick) reply (interrupted (asks_at x written.bytes) dev (back_with next written)))
    (asking_publishing p next quiet after dev pick reply h asking there.1) done

pub apart_step : ApartIsStep
apart_step m p next window quiet after held dev pick asking w reply h bytes devices versions left same agree known put =
    let agrees : AgreeOn window.bytes quiet.bytes held = put_elsewhere asking window.bytes quiet.bytes held put.elsewhere put.unheld in
    let there = held_known p window quiet held dev pick asking put.long agrees known.reads known.asks in
    let stores = stores_by (slice_get (state_of (back_with p window)).devices dev) window.bytes quiet.bytes held pick w put.long agrees known.stores known.reads in
    let apart : IsApart asking (indexes_in h.effect.writes) = subst (IsApart asking) (sym (storing_writes p next quiet after dev pick reply h w stores)) (apart_writes asking w reply put.unwritten) in
    let off = quiet_kept p next quiet after dev pick reply h asking there.1 put.quietly apart in
    let over : AgreeOn quiet.bytes m.memory.bytes held = agree_on quiet.bytes window.bytes m.memory.bytes held (turned window.bytes quiet.bytes held agrees) agree in
    let done = open_step m p next quiet after held dev pick reply h bytes devices versions left (sym put.long ∙ same) over there.0 off in
    subst (λ (x : Option Publishing). IsStepOf m dev pick reply h.effect (ended (asks_at x (set_all m.memory.bytes h.effect.writes)) dev next)) (asking_publishing p next quiet after dev pick reply h asking there.1) done

-- A step whose word is held.
word_if : (b : Bool) (p : Option Publishing) → (if b then word_of p else []) ≡ word_of (if b then p else None)
word_if true p = refl
word_if false p = refl

word_same : (there : Option DeviceState) (pick : ℕ) (seen : Next) (reply : Reply) → word_by there pick seen reply ≡ word_of (publishing_of there pick seen reply)
word_same None pick seen reply = refl
word_same (Some d) pick seen reply = word_if (has_published reply) (publishing d pick seen)

known_if : (b : Bool) (asking : Option Publishing) (held : List Piece) (w : List ℕ) → Knows held w (word_of asking) → Knows held w (word_of (if b then asking else None))
known_if true asking held w known = known
known_if false asking held w known = λ m agree. tt

pub held_word : (p next : ParkedSeen) (window after : Memory) (held : List Piece) (dev pick : ℕ) (asking : Option Publishing) (reply : Reply) (h : IsApplied (back_with p window) (Step dev pick) reply (back_with next after))
    → StepAsks (state_of (back_with p window)) dev pick asking → Knows held window.bytes (word_of asking) → Knows held window.bytes (step_word (state_of (back_with p window)) dev pick h.has.seen reply)
held_word p next window after held dev pick asking reply h asks known =
    let there = slice_get (state_of (back_with p window)).devices dev in
    let same : word_by there pick h.has.seen reply ≡ word_of (if has_published reply then asking else None) = word_same there pick h.has.seen reply ∙ ap word_of (asking_publishing p next window after dev pick reply h asking asks) in
    subst (λ (ps : List Piece). Knows held window.bytes ps) (sym same) (known_if (has_published reply) asking held window.bytes known)

pub held_closed : HeldWordIsClosed
held_closed p next window after held dev pick asking reply h reads asks known = λ ram written bytes same agree is.
    let word = held_word p next window after held dev pick asking reply h asks known in
    applied_local (back_with p window) (back_with next after) dev pick reply h ram written bytes same (reads (outcome_of reply) h.has.seen h.has.may_see ram.bytes agree) (word ram.bytes agree) is

pub held_step : HeldWordIsStep
held_step m p next window after held dev pick asking reply h bytes devices versions left same agree reads asks known =
    let ram = m.memory in
    let old = back_with p window in
    let new = back_with next after in
    let word = held_word p next window after held dev pick asking reply h asks known in
    let there = written_there old new dev pick reply h ram versions in
    let x = written_with ram h.effect after.versions in
    let on_reads = reads (outcome_of reply) h.has.seen h.has.may_see ram.bytes agree in
    let on_word = word ram.bytes agree in
    step_of m p next dev pick reply h.effect x devices (applied_local old new dev pick reply h ram x bytes same on_reads on_word there)
    (local_items old new dev pick reply h ram x bytes same on_reads on_word there) refl left
