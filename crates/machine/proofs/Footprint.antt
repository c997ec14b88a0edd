-- A step of a device reads no byte outside of its pieces, and the driver's word last.
use Rattle.std.specs.Prelude.{◌≡◌, ℕ, zero, suc, ◌-◌, nat_lt, List, [], ◌∷◌, ◌++◌, length, take, drop, slice_get, Bool, true, false, Option, Some, None, refl, if◌then◌else◌}
use Rattle.std.proofs.Common.{ap, sym, ◌∙◌, cond}
use Rattle.guestmem.specs.Writes.{Write, set_all}
use Rattle.chains.specs.State.{RingState}
use Rattle.chains.specs.Places.{places}
use Rattle.chains.specs.Publish.{after_take, is_interrupt_due}
use Rattle.chains.specs.ReceiveBuffer.{give}
use Rattle.chains.specs.Service.{Answer, Service, with_state}
use Rattle.chains.specs.Service.{Empty, Malformed, Did, Taken, Dropped}
use Rattle.chains.specs.Service as service
use Rattle.chains.specs.Transmit.{message_of, send}
use Rattle.chains.specs.Footprint.{AgreeOn, event_piece, look_pieces, place_pieces}
use Rattle.chains.specs.declared.chain.Chain.{Chain}
use Rattle.chains.specs.declared.lacking.Piece.{Piece}
use Rattle.chains.specs.declared.looking.Wanted.{Wanted}
use Rattle.chains.specs.declared.next.Next.{Next}
use Rattle.chains.specs.declared.next.Next.TheVariants as next
use Rattle.chains.proofs.SplitFootprint.{turned}
use Rattle.chains.proofs.LookFootprint.{agree_first, agree_rest, refuses_local, rest_local, sees_local}
use Rattle.chains.proofs.ServiceFootprint.{due_local, written_same}
use Rattle.blk.specs.Advance.{AdvanceStep, advance_one, after_move}
use Rattle.blk.specs.Footprint.{advance_pieces, unit_pieces}
use Rattle.blk.specs.Move.{bad_sector, disk_failed, move_of, moved}
use Rattle.blk.specs.Request.{is_open, next_sector}
use Rattle.blk.specs.Sectors.{Sector, is_bad, sector_in}
use Rattle.blk.specs.declared.advancing.Advanced.{Advanced}
use Rattle.blk.specs.declared.advancing.Advanced.TheVariants as advanced
use Rattle.blk.specs.declared.block.Block as blocks
use Rattle.blk.specs.declared.request.Kind as requests
use Rattle.blk.specs.declared.request.Kind.TheVariants as work
use Rattle.blk.specs.declared.request.Request.{Request}
use Rattle.blk.proofs.Footprint.{move_local, take_local}
use Rattle.console.specs.Receive as console
use Rattle.console.specs.Transmit.{text_form}
use Rattle.net.specs.Header.{header}
use Rattle.net.specs.Receive as net
use Rattle.net.specs.Transmit.{frame_form}
use Rattle.machine.specs.DeviceStep.{DeviceAnswer, advance_at, advance_on, advanced_at, after_advancing, after_serving, device_step, looked_at, network_with, reply_of, reply_to_advance, serve, step_at, unmoved, wanted_of, MayLook}
use Rattle.machine.specs.Footprint.{asks_at, asks_interrupt, chain_reads, device_reads, device_word, ending_at, ending_on, has_published, publishing, publishing_by, raised_if, reads_at, request_reads, seen_on, seen_reads, word_of, Publishing}
use Rattle.machine.specs.Outcome.{Outcome, fine, disk_failed as failing, no_memory, disk_does}
use Rattle.machine.specs.State.{DeviceState}
use Rattle.machine.specs.declared.kind.Kind.{Kind}
use Rattle.machine.specs.declared.kind.Kind.TheVariants.{Network, Block, Outside, Console, Entropy}
use Rattle.machine.specs.declared.reply.Reply.{Reply}
use Rattle.machine.specs.declared.reply.Reply.TheVariants as replies

-- What a step answers where the driver's word says this. One that publishes nothing does not read it.
abbrev redue : Bool → Answer → Answer
redue due Empty = Empty
redue due Malformed = Malformed
redue due (Did Taken is) = Did Taken is
redue due (Did (service.Completed len) is) = Did (service.Completed len) due
redue due (Did (service.Sent bytes) is) = Did (service.Sent bytes) due
redue due (Did Dropped is) = Did Dropped is

abbrev with_due : {S : Type 0} → Bool → Service S → Service S
with_due due s = record { answer = redue due s.answer; writes = s.writes; ring = s.ring; state = s.state }

-- Serving a chain.
give_due : {S : Type 0} (m w : List ℕ) (q : RingState) (bytes : List ℕ) (left : S) (c : Chain)
    → give m q bytes left c ≡ with_due (is_interrupt_due (after_take q c.slots) c.slots (set_all m (give w q bytes left c).writes)) (give w q bytes left c)
unfolding give
give_due m w q bytes left c = refl

send_due : {S : Type 0} (header : ℕ) (m w : List ℕ) (q : RingState) (state : S) (c : Chain) → AgreeOn m w (place_pieces q.base (drop header (places c.readable)))
    → send header m q state c ≡ with_due (is_interrupt_due (after_take q c.slots) c.slots (set_all m (send header w q state c).writes)) (send header w q state c)
send_due header m w q state c h =
    let bytes : message_of q.base m header c ≡ message_of q.base w header c = rest_local q.base m w (places c.readable) header h in
    rw bytes refl

with_state_due : {S T : Type 0} (whole : S → T) (due : Bool) (s : Service S) → with_state whole (with_due due s) ≡ with_due due (with_state whole s)
with_state_due whole due s = refl

frame_due : (fits : Bool) (m w : List ℕ) (q : RingState) (bytes : List ℕ) (rest : List (List ℕ)) (c : Chain)
    → (if fits then net.drop_frame q rest else give m q bytes rest c) ≡ with_due (is_interrupt_due (after_take q c.slots) c.slots (set_all m (if fits then net.drop_frame q rest else give w q bytes rest c).writes)) (if fits then net.drop_frame q rest else give w q bytes rest c)
frame_due true m w q bytes rest c = refl
frame_due false m w q bytes rest c = give_due m w q bytes rest c

first_due : (m w : List ℕ) (q : RingState) (frames : List (List ℕ)) (c : Chain)
    → net.give_first m q frames c ≡ with_due (is_interrupt_due (after_take q c.slots) c.slots (set_all m (net.give_first w q frames c).writes)) (net.give_first w q frames c)
first_due m w q [] c = refl
first_due m w q (frame ∷ rest) c = frame_due (nat_lt (length (places c.writable)) (length (header ++ frame))) m w q (header ++ frame) rest c

chain_due : (features : ℕ) (kind : Kind) (pick : ℕ) (m w : List ℕ) (q : RingState) (c : Chain) → AgreeOn m w (chain_reads kind pick q.base c)
    → serve features kind pick m q (next.Chain c) ≡ with_due (is_interrupt_due (after_take q c.slots) c.slots (set_all m (serve features kind pick w q (next.Chain c)).writes)) (serve features kind pick w q (next.Chain c))
chain_due features (Network mac inbox) zero m w q c h = ap (with_state (network_with mac inbox)) (first_due m w q inbox.frames c)
chain_due features (Network mac inbox) (suc number) m w q c h = send_due (frame_form inbox.longest).header m w q (Network mac inbox) c h
chain_due features (Console size held) zero m w q c h = ap (with_state (Console size)) (give_due m w q (take (console.count_into held c) held) (drop (console.count_into held c) held) c)
chain_due features (Console size held) (suc number) m w q c h = send_due text_form.header m w q (Console size held) c h
chain_due features (Block block) pick m w q c h = ap (with_state Block) (take_local features m w q block c h)
chain_due features (Outside block) pick m w q c h = ap (with_state Outside) (take_local features m w q block c h)
chain_due features (Entropy pool) pick m w q c h = ap (with_state Entropy) (give_due m w q (take (console.count_into pool c) pool) (drop (console.count_into pool c) pool) c)

serve_due : (features : ℕ) (kind : Kind) (pick : ℕ) (m w : List ℕ) (q : RingState) (seen : Next) → AgreeOn m w (seen_reads kind pick q.base seen)
    → serve features kind pick m q seen ≡ with_due (asks_at (seen_on q seen) (set_all m (serve features kind pick w q seen).writes)) (serve features kind pick w q seen)
serve_due features kind pick m w q (next.Chain c) h = chain_due features kind pick m w q c h
serve_due features (Network mac inbox) zero m w q next.Empty h = refl
serve_due features (Network mac inbox) (suc number) m w q next.Empty h = refl
serve_due features (Console size held) zero m w q next.Empty h = refl
serve_due features (Console size held) (suc number) m w q next.Empty h = refl
serve_due features (Block block) pick m w q next.Empty h = refl
serve_due features (Outside block) pick m w q next.Empty h = refl
serve_due features (Entropy pool) pick m w q next.Empty h = refl
serve_due features (Network mac inbox) zero m w q next.Malformed h = refl
serve_due features (Network mac inbox) (suc number) m w q next.Malformed h = refl
serve_due features (Console size held) zero m w q next.Malformed h = refl
serve_due features (Console size held) (suc number) m w q next.Malformed h = refl
serve_due features (Block block) pick m w q next.Malformed h = refl
serve_due features (Outside block) pick m w q next.Malformed h = refl
serve_due features (Entropy pool) pick m w q next.Malformed h = refl

-- The word makes a difference to a step that publishes alone, and there only to the interrupt.
same_due : (x y : Bool) (answer : Answer) → (has_published (reply_of answer) ≡ true → x ≡ y) → redue x answer ≡ redue y answer
same_due x y Empty f = refl
same_due x y Malformed f = refl
same_due x y (Did Taken is) f = refl
same_due x y (Did (service.Completed len) is) f = ap (Did (service.Completed len)) (f refl)
same_due x y (Did (service.Sent bytes) is) f = ap (Did (service.Sent bytes)) (f refl)
same_due x y (Did Dropped is) f = refl

raised_by : (x : Bool) (d : DeviceState) (pick : ℕ) (deed : service.Deed) (writes : List Write) (ring : RingState) (state : Kind)
    → after_serving d pick (record { answer = Did deed x; writes = writes; ring = ring; state = state }) ≡ raised_if x (after_serving d pick (record { answer = Did deed false; writes = writes; ring = ring; state = state }))
raised_by true d pick deed writes ring state = refl
raised_by false d pick deed writes ring state = refl

raised_due : (x : Bool) (d : DeviceState) (pick : ℕ) (answer : Answer) (writes : List Write) (ring : RingState) (state : Kind) → answer ≡ redue false answer
    → after_serving d pick (record { answer = redue x answer; writes = writes; ring = ring; state = state }) ≡ raised_if (if has_published (reply_of answer) then x else false) (after_serving d pick (record { answer = answer; writes = writes; ring = ring; state = state }))
raised_due x d pick Empty writes ring state quiet = refl
raised_due x d pick Malformed writes ring state quiet = refl
raised_due x d pick (Did Taken is) writes ring state quiet = refl
raised_due x d pick (Did (service.Completed len) is) writes ring state quiet =
    let off : is ≡ false = cc in
    rw off (raised_by x d pick (service.Completed len) writes ring state)
raised_due x d pick (Did (service.Sent bytes) is) writes ring state quiet =
    let off : is ≡ false = cc in
    rw off (raised_by x d pick (service.Sent bytes) writes ring state)
raised_due x d pick (Did Dropped is) writes ring state quiet = refl

-- A RAM agrees with itself.
itself : (w : List ℕ) (ps : List Piece) → AgreeOn w w ps
itself w [] = tt
itself w (p ∷ ps) = (λ k below. refl, itself w ps)

-- A request that advances.
abbrev pub readvanced : Bool → Advanced → Advanced
readvanced due advanced.Idle = advanced.Idle
readvanced due advanced.Moved = advanced.Moved
readvanced due advanced.BadSector = advanced.BadSector
readvanced due advanced.DiskFailed = advanced.DiskFailed
readvanced due (advanced.Completed len is) = advanced.Completed len due

abbrev ended : Bool → AdvanceStep → AdvanceStep
ended due s = record { answer = readvanced due s.answer; writes = s.writes; sets = s.sets; ring = s.ring; block = s.block }

-- A unit publishes nothing.
read_answer : (bad is_fine : Bool) (due : Bool) (r : Request) (writes : List Write) → (cond bad (bad_sector r) (cond is_fine (moved r writes []) (disk_failed r []))).answer ≡ readvanced due (cond bad (bad_sector r) (cond is_fine (moved r writes []) (disk_failed r []))).answer
read_answer true is_fine due r writes = refl
read_answer false true due r writes = refl
read_answer false false due r writes = refl

pub unit_answer : (kind : requests.Kind) (base : ℕ) (id ram : List ℕ) (content : List Sector) (r : Request) (is_fine : Bool) (due : Bool) → (move_of kind base id ram content r is_fine).answer ≡ readvanced due (move_of kind base id ram content r is_fine).answer
unit_answer work.In base id ram content r is_fine due = read_answer (is_bad (sector_in content (next_sector r))) is_fine due r _
unit_answer work.Out base id ram content r true due = refl
unit_answer work.Out base id ram content r false due = refl
unit_answer work.Flush base id ram content r true due = refl
unit_answer work.Flush base id ram content r false due = refl
unit_answer work.GetId base id ram content r is_fine due = refl
unit_answer work.Refused base id ram content r is_fine due = refl
unit_answer work.Zero base id ram content r true due = refl
unit_answer work.Zero base id ram content r false due = refl

unit_due : (due : Bool) (m w : List ℕ) (q : RingState) (content : List Sector) (b : blocks.Block) (k : ℕ) (is_fine : Bool) (r : Request) → AgreeOn m w (unit_pieces r.kind q.base r)
    → after_move q b k (move_of r.kind q.base b.id m content r is_fine) ≡ ended due (after_move q b k (move_of r.kind q.base b.id w content r is_fine))
unit_due due m w q content b k is_fine r h =
    let move = move_of r.kind q.base b.id w content r is_fine in
    let same : move_of r.kind q.base b.id m content r is_fine ≡ move = move_local r.kind q.base b.id m w content r is_fine h in
    let stays : move.answer ≡ readvanced due move.answer = unit_answer r.kind q.base b.id w content r is_fine due in
    ap (after_move q b k) same ∙ ap (λ answer. record { answer = answer; writes = move.writes; sets = move.sets; ring = q; block = (after_move q b k move).block }) stays

one_by : (at_work : Bool) (m w : List ℕ) (q : RingState) (content : List Sector) (b : blocks.Block) (k : ℕ) (is_fine : Bool) (r : Request) → is_open r ≡ at_work → AgreeOn m w (if at_work then unit_pieces r.kind q.base r else [])
    → advance_one m q content b k is_fine (Some r) ≡ ended (asks_at (ending_on q (Some r)) (set_all m (advance_one w q content b k is_fine (Some r)).writes)) (advance_one w q content b k is_fine (Some r))
one_by true m w q content b k is_fine r is h =
    let move = move_of r.kind q.base b.id w content r is_fine in
    rw is (unit_due (asks_at (ending_on q (Some r)) (set_all m (after_move q b k move).writes)) m w q content b k is_fine r h)
one_by false m w q content b k is_fine r is h = rw is refl

one_due : (m w : List ℕ) (q : RingState) (content : List Sector) (b : blocks.Block) (k : ℕ) (is_fine : Bool) (found : Option Request) → AgreeOn m w (advance_pieces q.base found)
    → advance_one m q content b k is_fine found ≡ ended (asks_at (ending_on q found) (set_all m (advance_one w q content b k is_fine found).writes)) (advance_one w q content b k is_fine found)
one_due m w q content b k is_fine None h = refl
one_due m w q content b k is_fine (Some r) h = one_by (is_open r) m w q content b k is_fine r refl h

same_ended : (x y : Bool) (answer : Advanced) → (has_published (reply_to_advance answer) ≡ true → x ≡ y) → readvanced x answer ≡ readvanced y answer
same_ended x y advanced.Idle f = refl
same_ended x y advanced.Moved f = refl
same_ended x y advanced.BadSector f = refl
same_ended x y advanced.DiskFailed f = refl
same_ended x y (advanced.Completed len is) f = ap (advanced.Completed len) (f refl)

advance_raised_by : (x : Bool) (kind : blocks.Block → Kind) (d : DeviceState) (len : ℕ) (s : AdvanceStep)
    → after_advancing kind d (record s { answer = advanced.Completed len x }) ≡ raised_if x (after_advancing kind d (record s { answer = advanced.Completed len false }))
advance_raised_by true kind d len s = refl
advance_raised_by false kind d len s = refl

advance_raised : (x : Bool) (kind : blocks.Block → Kind) (d : DeviceState) (answer : Advanced) (s : AdvanceStep) → answer ≡ readvanced false answer
    → after_advancing kind d (record s { answer = readvanced x answer }) ≡ raised_if (if has_published (reply_to_advance answer) then x else false) (after_advancing kind d (record s { answer = answer }))
advance_raised x kind d advanced.Idle s quiet = refl
advance_raised x kind d advanced.Moved s quiet = refl
advance_raised x kind d advanced.BadSector s quiet = refl
advance_raised x kind d advanced.DiskFailed s quiet = refl
advance_raised x kind d (advanced.Completed len is) s quiet =
    let off : is ≡ false = cc in
    rw off (advance_raised_by x kind d len s)

-- The word is read in its piece, behind the writes.
asks_local : (p : Option Publishing) (m w : List ℕ) (ws : List Write) → length m ≡ length w → AgreeOn m w (word_of p) → asks_at p (set_all m ws) ≡ asks_at p (set_all w ws)
asks_local None m w ws same h = refl
asks_local (Some p) m w ws same h = due_local (set_all m ws) (set_all w ws) p.ring p.slots (written_same m w ws (event_piece p.ring) same h.0)

-- Where a part of a step is made so by RAM `m`, if it is made so by RAM `w` and by what the word says.
record IsByWord (on_m on_w : DeviceAnswer) (p : Option Publishing) (m w : List ℕ) : Type 0 where
  local : length m ≡ length w → (has_published on_w.reply ≡ true → AgreeOn m w (word_of p)) → on_m ≡ on_w
  last : (if has_published on_w.reply then asks_at p (set_all w on_w.writes) else false) ≡ false → on_m ≡ raised_if (if has_published on_w.reply then asks_at p (set_all m on_w.writes) else false) on_w

none_asked : (m w : List ℕ) (a : DeviceAnswer) → has_published a.reply ≡ false → IsByWord a a None m w
none_asked m w a is = record { local = λ same word. refl; last = λ quiet. rw is refl }

if_published : (c x : Bool) → (if c then x else false) ≡ false → c ≡ true → x ≡ false
if_published true x h is = h
if_published false x h is = cc

looked_word : (d : DeviceState) (pick : ℕ) (m w : List ℕ) (q : RingState) (seen : Next) → AgreeOn m w (seen_reads d.kind pick q.base seen)
    → IsByWord (after_serving d pick (serve d.registers.common.features d.kind pick m q seen)) (after_serving d pick (serve d.registers.common.features d.kind pick w q seen)) (seen_on q seen) m w
looked_word d pick m w q seen h =
    let s = serve d.registers.common.features d.kind pick w q seen in
    let p = seen_on q seen in
    let x = asks_at p (set_all m s.writes) in
    let y = asks_at p (set_all w s.writes) in
    let on_m = serve_due d.registers.common.features d.kind pick m w q seen h in
    let on_w : s ≡ with_due y s = serve_due d.registers.common.features d.kind pick w w q seen (itself w (seen_reads d.kind pick q.base seen)) in
    let answer : s.answer ≡ redue y s.answer = ap (λ (t : Service Kind). t.answer) on_w in
    record {
      local = λ same word.
          let equal : redue x s.answer ≡ redue y s.answer = same_due x y s.answer (λ published. asks_local p m w s.writes same (word published)) in
          ap (after_serving d pick) (on_m ∙ ap (λ a. record { answer = a; writes = s.writes; ring = s.ring; state = s.state }) equal ∙ sym on_w);
      last = λ quiet.
          let off : redue y s.answer ≡ redue false s.answer = same_due y false s.answer (λ published. if_published (has_published (reply_of s.answer)) y quiet published) in
          ap (after_serving d pick) on_m ∙ raised_due x d pick s.answer s.writes s.ring s.state (answer ∙ off);
    }

advanced_word : (kind : blocks.Block → Kind) (d : DeviceState) (m w : List ℕ) (q : RingState) (content : List Sector) (b : blocks.Block) (k : ℕ) (is_fine : Bool) → AgreeOn m w (advance_pieces q.base (slice_get b.requests k))
    → IsByWord (after_advancing kind d (advance_one m q content b k is_fine (slice_get b.requests k))) (after_advancing kind d (advance_one w q content b k is_fine (slice_get b.requests k))) (ending_on q (slice_get b.requests k)) m w
advanced_word kind d m w q content b k is_fine h =
    let found = slice_get b.requests k in
    let s = advance_one w q content b k is_fine found in
    let p = ending_on q found in
    let x = asks_at p (set_all m s.writes) in
    let y = asks_at p (set_all w s.writes) in
    let on_m = one_due m w q content b k is_fine found h in
    let on_w : s ≡ ended y s = one_due w w q content b k is_fine found (itself w (advance_pieces q.base found)) in
    let answer : s.answer ≡ readvanced y s.answer = ap (λ (t : AdvanceStep). t.answer) on_w in
    record {
      local = λ same word.
          let equal : readvanced x s.answer ≡ readvanced y s.answer = same_ended x y s.answer (λ published. asks_local p m w s.writes same (word published)) in
          ap (after_advancing kind d) (on_m ∙ ap (λ a. record { answer = a; writes = s.writes; sets = s.sets; ring = s.ring; block = s.block }) equal ∙ sym on_w);
      last = λ quiet.
          let off : readvanced y s.answer ≡ readvanced false s.answer = same_ended y false s.answer (λ published. if_published (has_published (reply_to_advance s.answer)) y quiet published) in
          ap (after_advancing kind d) on_m ∙ advance_raised x kind d s.answer s (answer ∙ off);
    }

on_word : (d : DeviceState) (kind : Kind) (m w : List ℕ) (content : List Sector) (pick : ℕ) (q : RingState) (o : Outcome) → AgreeOn m w (request_reads kind (pick - 1) (Some q))
    → IsByWord (advance_on d kind m content pick q o) (advance_on d kind w content pick q o) (ending_at kind (pick - 1) (Some q)) m w
on_word d (Block block) m w content pick q o h = advanced_word Block d m w q content block (pick - 1) (disk_does o) h
on_word d (Outside block) m w content pick q o h = advanced_word Outside d m w q [] block (pick - 1) true h
on_word d (Network mac inbox) m w content pick q o h = none_asked m w (unmoved d replies.Idle) refl
on_word d (Console size held) m w content pick q o h = none_asked m w (unmoved d replies.Idle) refl
on_word d (Entropy pool) m w content pick q o h = none_asked m w (unmoved d replies.Idle) refl

at_word : (d : DeviceState) (m w : List ℕ) (content : List Sector) (pick : ℕ) (ring : Option RingState) (o : Outcome) → AgreeOn m w (request_reads d.kind (pick - 1) ring)
    → IsByWord (advance_at d m content pick ring o) (advance_at d w content pick ring o) (ending_at d.kind (pick - 1) ring) m w
at_word d m w content pick None o h = none_asked m w (unmoved d replies.Idle) refl
at_word d m w content pick (Some q) o h = on_word d d.kind m w content pick q o h

quiet_step : (d : DeviceState) (reply : Reply) (p : Option Publishing) (m w : List ℕ) → has_published reply ≡ false → IsByWord (unmoved d reply) (unmoved d reply) p m w
quiet_step d reply p m w is = record { local = λ same word. refl; last = λ quiet. rw is refl }

step_word : (d : DeviceState) (m w : List ℕ) (content : List Sector) (pick : ℕ) (ring : Option RingState) (o : Outcome) (seen : Next) → AgreeOn w m (reads_at d w pick ring o seen)
    → IsByWord (step_at d m content pick ring o seen) (step_at d w content pick ring o seen) (publishing_by d pick ring seen) m w
step_word d m w content pick None o seen h = at_word d m w content pick (advanced_at d pick) o (turned w m (request_reads d.kind (pick - 1) (advanced_at d pick)) h)
step_word d m w content pick (Some q) fine seen h =
    looked_word d pick m w q seen (turned w m (seen_reads d.kind pick q.base seen) (agree_rest w m (look_pieces w q) (seen_reads d.kind pick q.base seen) h))
step_word d m w content pick (Some q) failing seen h = quiet_step d replies.Idle (seen_on q seen) m w refl
step_word d m w content pick (Some q) no_memory seen h = quiet_step d replies.NoMemory (seen_on q seen) m w refl

by_word : (d : DeviceState) (m w : List ℕ) (content : List Sector) (pick : ℕ) (o : Outcome) (seen : Next) → AgreeOn w m (device_reads d w pick o seen)
    → IsByWord (device_step d m content pick o seen) (device_step d w content pick o seen) (publishing d pick seen) m w
unfolding device_step
by_word d m w content pick o seen h = step_word d m w content pick (looked_at d pick) o seen h

agree_if : (c : Bool) (m w : List ℕ) (ps : List Piece) → AgreeOn m w (if c then ps else []) → c ≡ true → AgreeOn m w ps
agree_if true m w ps h is = h
agree_if false m w ps h is = cc

-- A step over a RAM that agrees in what it reads, the word included, is the same step.
pub device_local : (d : DeviceState) (w m : List ℕ) (content : List Sector) (pick : ℕ) (o : Outcome) (seen : Next) → length w ≡ length m → AgreeOn w m (device_reads d w pick o seen)
    → AgreeOn w m (device_word d pick seen (device_step d w content pick o seen).reply) → device_step d m content pick o seen ≡ device_step d w content pick o seen
device_local d w m content pick o seen same h word =
    let reply = (device_step d w content pick o seen).reply in
    let back = turned w m (device_word d pick seen reply) word in
    (by_word d m w content pick o seen h).local (sym same) (agree_if (has_published reply) m w (word_of (publishing d pick seen)) back)

-- One that agrees in all but the word, and does not ask for an interrupt, is the same step but for the interrupt for which the word asks.
pub word_last : (d : DeviceState) (w m : List ℕ) (content : List Sector) (pick : ℕ) (o : Outcome) (seen : Next) → AgreeOn w m (device_reads d w pick o seen)
    → asks_interrupt d pick seen (device_step d w content pick o seen).reply (set_all w (device_step d w content pick o seen).writes) ≡ false
    → device_step d m content pick o seen ≡ raised_if (asks_interrupt d pick seen (device_step d w content pick o seen).reply (set_all m (device_step d w content pick o seen).writes)) (device_step d w content pick o seen)
word_last d w m content pick o seen h quiet = (by_word d m w content pick o seen h).last quiet

-- What a device may see there is the same.
look_local : (want : Wanted) (ring : Option RingState) (w m : List ℕ) (d : DeviceState) (pick : ℕ) (o : Outcome) (seen : Next) → length w ≡ length m → AgreeOn w m (reads_at d w pick ring o seen)
    → MayLook want ring w o seen → MayLook want ring m o seen
look_local want None w m d pick o seen same h may = tt
look_local want (Some q) w m d pick fine seen same h may = sees_local want w m q seen same (agree_first w m (look_pieces w q) (seen_reads d.kind pick q.base seen) h) may
look_local want (Some q) w m d pick failing seen same h may = absurd may
look_local want (Some q) w m d pick no_memory seen same h may = refuses_local want w m q same h may

pub may_look_local : (d : DeviceState) (w m : List ℕ) (pick : ℕ) (o : Outcome) (seen : Next) → length w ≡ length m → AgreeOn w m (device_reads d w pick o seen)
    → MayLook (wanted_of d.kind pick) (looked_at d pick) w o seen → MayLook (wanted_of d.kind pick) (looked_at d pick) m o seen
may_look_local d w m pick o seen same h may = look_local (wanted_of d.kind pick) (looked_at d pick) w m d pick o seen same h may
