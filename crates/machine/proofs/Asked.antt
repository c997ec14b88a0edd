-- What is known of a step before it is made.
use Rattle.std.specs.Prelude.{◌≡◌, ℕ, zero, suc, ◌+◌, ◌-◌, ◌<◌, ◌≤◌, ◌&&◌, ◌||◌, Bool, true, false, List, [], ◌∷◌, ◌++◌, length, Option, Some, None, Result, Ok, Err, IfOk, slice_get, refl, if◌then◌else◌}
use Rattle.std.proofs.lemmas.Bool.{eq-eqb}
use Rattle.std.proofs.Common.{ap, sym, subst, ◌∙◌, arith, eqb}
use Rattle.guestmem.specs.Lent.{is_named}
use Rattle.guestmem.specs.Memory.{Memory}
use Rattle.guestmem.specs.Writes.{Write, set_all}
use Rattle.chains.specs.Footprint.{AgreeOn, HoldsAt, Knows, event_piece, look_pieces, quiet_word}
use Rattle.chains.specs.Places.{addresses}
use Rattle.chains.specs.declared.lacking.Piece.{Piece}
use Rattle.chains.proofs.LookFootprint.{agree_first, answers_local, look_same}
use Rattle.chains.proofs.SplitFootprint.{turned}
use Rattle.chains.specs.Look.{fits, seen_as}
use Rattle.chains.specs.Publish.{after_take}
use Rattle.chains.specs.Ring.{Answers}
use Rattle.chains.specs.State.{RingState}
use Rattle.chains.specs.declared.chain.Chain.{Chain}
use Rattle.chains.specs.declared.looking.Wanted.{Wanted}
use Rattle.chains.specs.declared.next.Next.{Next}
use Rattle.chains.specs.declared.next.Next.TheVariants.{Empty, Malformed, Chain as Found}
use Rattle.chains.proofs.ChainLaws.{answer_same}
use Rattle.chains.proofs.QuietWord.{quiet}
use Rattle.blk.specs.declared.request.Request.{Request}
use Rattle.blk.specs.Sectors.{Sector}
use Rattle.machine.specs.Applied.{as_given}
use Rattle.machine.specs.Asked.{AskedIsDue, AskingIsPublishing, AsksBy, HeldStaysKnown, IsApart, IsElsewhereSame, IsAsking, IsQuietIn, MayAnswer, PutIsElsewhere, QuietIsKept, StepAsks, slots_in}
use Rattle.machine.specs.Beside.{publishing_of}
use Rattle.machine.specs.DeviceStep.{MayLook, advanced_at, device_step, looked_at, reply_of, requests_of, serve, step_at, wanted_of}
use Rattle.machine.specs.Footprint.{Publishing, asks_at, ending_at, ending_on, has_published, publishing, publishing_by, reads_at, reads_of, request_reads, seen_on, seen_reads}
use Rattle.machine.specs.Outcome.{Outcome, fine, disk_failed as failing, no_memory, outcome_of}
use Rattle.machine.specs.Parked.{back_with}
use Rattle.machine.specs.Seen.{DeviceSeen, state_of}
use Rattle.machine.specs.State.{DeviceState}
use Rattle.machine.specs.Step.{MaySeeAt, disk_of, step_device}
use Rattle.machine.specs.Stored.{indexes_in, indexes_of}
use Rattle.machine.specs.declared.event.Event.TheVariants.{Step}
use Rattle.machine.specs.declared.kind.Kind.{Kind}
use Rattle.machine.specs.declared.kind.Kind.TheVariants.{Network, Block, Outside, Console, Entropy}
use Rattle.machine.specs.declared.reply.Reply.{Reply}
use Rattle.machine.specs.declared.reply.Reply.TheVariants as replies
use Rattle.machine.proofs.At.{IsAt, found, past}
use Rattle.machine.proofs.Stored.{is_in, out_set}

-- A step with this reply had no failure.
published_fine : (reply : Reply) → has_published reply ≡ true → outcome_of reply ≡ fine
published_fine (replies.Completed len) is = refl
published_fine (replies.Sent bytes) is = refl
published_fine replies.Idle is = cc
published_fine replies.Taken is = cc
published_fine replies.Moved is = cc
published_fine replies.BadSector is = cc
published_fine replies.DiskFailed is = cc
published_fine replies.Dropped is = cc
published_fine replies.NeedsReset is = cc
published_fine replies.NoMemory is = cc
published_fine (replies.Refused why) is = cc
published_fine (replies.Value value) is = cc
published_fine replies.Done is = cc
published_fine (replies.OutByte byte) is = cc
published_fine (replies.Bytes bytes) is = cc
published_fine (replies.Accepted count) is = cc

-- One that sees a malformed chain has published nothing.
pub malformed_quiet : (features : ℕ) (kind : Kind) (number : ℕ) (ram : List ℕ) (q : RingState) → has_published (reply_of (serve features kind number ram q Malformed).answer) ≡ false
malformed_quiet features (Network mac inbox) zero ram q = refl
malformed_quiet features (Network mac inbox) (suc number) ram q = refl
malformed_quiet features (Block block) number ram q = refl
malformed_quiet features (Outside block) number ram q = refl
malformed_quiet features (Console size held) zero ram q = refl
malformed_quiet features (Console size held) (suc number) ram q = refl
malformed_quiet features (Entropy pool) number ram q = refl

by_fit : (fit : Bool) (d : DeviceState) (ram : List ℕ) (content : List Sector) (pick : ℕ) (q : RingState) (c : Chain) → has_published (step_at d ram content pick (Some q) fine (if fit then Found c else Malformed)).reply ≡ true
    → seen_on q (if fit then Found c else Malformed) ≡ seen_on q (Found c)
by_fit true d ram content pick q c is = refl
by_fit false d ram content pick q c is =
    let none = malformed_quiet d.registers.common.features d.kind pick ram q in
    let bad : true ≡ false = sym is ∙ none in
    cc

by_answer : (want : Wanted) (d : DeviceState) (ram : List ℕ) (content : List Sector) (pick : ℕ) (q : RingState) (answer : Next) → has_published (step_at d ram content pick (Some q) fine (seen_as want answer)).reply ≡ true → seen_on q (seen_as want answer) ≡ seen_on q answer
by_answer want d ram content pick q Empty is = refl
by_answer want d ram content pick q Malformed is = refl
by_answer want d ram content pick q (Found c) is = by_fit (fits want c) d ram content pick q c is

-- What a step that published a chain sees is what its queue answers.
by_ring : (ring : Option RingState) (d : DeviceState) (ram : List ℕ) (content : List Sector) (pick : ℕ) (seen answer : Next) → MayLook (wanted_of d.kind pick) ring ram fine seen → MayAnswer ring ram answer
    → has_published (step_at d ram content pick ring fine seen).reply ≡ true → publishing_by d pick ring seen ≡ publishing_by d pick ring answer
by_ring None d ram content pick seen answer may answers is = refl
by_ring (Some q) d ram content pick seen answer may answers is =
    let want = wanted_of d.kind pick in
    let same : may.answer ≡ answer = answer_same ram q may.answer answer may.answers answers in
    let seen_is : seen ≡ seen_as want answer = may.is ∙ ap (seen_as want) same in
    let here : has_published (step_at d ram content pick (Some q) fine (seen_as want answer)).reply ≡ true = subst (λ (n : Next). has_published (step_at d ram content pick (Some q) fine n).reply ≡ true) seen_is is in
    ap (seen_on q) seen_is ∙ by_answer want d ram content pick q answer here

by_outcome : (o : Outcome) (d : DeviceState) (ram : List ℕ) (content : List Sector) (pick : ℕ) (seen answer : Next) → o ≡ fine → MayLook (wanted_of d.kind pick) (looked_at d pick) ram o seen → MayAnswer (looked_at d pick) ram answer
    → has_published (device_step d ram content pick o seen).reply ≡ true → publishing d pick seen ≡ publishing d pick answer
unfolding device_step
by_outcome fine d ram content pick seen answer is may answers published = by_ring (looked_at d pick) d ram content pick seen answer may answers published
by_outcome failing d ram content pick seen answer is may answers published = cc
by_outcome no_memory d ram content pick seen answer is may answers published = cc

by_device : (number : ℕ) (there : Option DeviceState) (ram : List ℕ) (content : List Sector) (pick : ℕ) (o : Outcome) (seen : Next) (reply : Reply) (asking : Option Publishing) → outcome_of reply ≡ o → MaySeeAt there ram pick o seen
    → reply ≡ (step_device number there ram content pick o seen).reply → AsksBy there ram pick asking → has_published reply ≡ true → publishing_of there pick seen reply ≡ asking
by_device number None ram content pick o seen reply asking outcome may reply_is asks published = sym asks
by_device number (Some d) ram content pick o seen reply asking outcome may reply_is asks published =
    let is_fine : o ≡ fine = sym outcome ∙ published_fine reply published in
    let here : has_published (device_step d ram content pick o seen).reply ≡ true = subst (λ (r : Reply). has_published r ≡ true) reply_is published in
    let same : publishing d pick seen ≡ asking = by_outcome o d ram content pick seen asks.answer is_fine may asks.answers here ∙ sym asks.is in
    rw published same

none_published : (there : Option DeviceState) (pick : ℕ) (seen : Next) (reply : Reply) → has_published reply ≡ false → publishing_of there pick seen reply ≡ None
none_published None pick seen reply is = refl
none_published (Some d) pick seen reply is = rw is refl

by_reply : (b : Bool) (there : Option DeviceState) (pick : ℕ) (seen : Next) (reply : Reply) (asking : Option Publishing) → has_published reply ≡ b → (has_published reply ≡ true → publishing_of there pick seen reply ≡ asking)
    → publishing_of there pick seen reply ≡ (if b then asking else None)
by_reply true there pick seen reply asking is same = same is
by_reply false there pick seen reply asking is same = none_published there pick seen reply is

pub asking_publishing : AskingIsPublishing
asking_publishing p next window after dev pick reply h asking asks =
    let m = state_of (back_with p window) in
    let given = as_given m (Step dev pick) h.given in
    let there = slice_get m.devices dev in
    by_reply (has_published reply) there pick h.has.seen reply asking refl
    (by_device dev there m.ram (disk_of given dev) pick (outcome_of reply) h.has.seen reply asking refl h.has.may_see h.has.reply_is asks)

asks_and : (b : Bool) (asking : Option Publishing) (ram : List ℕ) → asks_at (if b then asking else None) ram ≡ (b && asks_at asking ram)
asks_and true asking ram = refl
asks_and false asking ram = refl

pub asked_due : AskedIsDue
asked_due p next window after dev pick reply h asking asks ram =
    ap (λ (x : Option Publishing). asks_at x ram) (asking_publishing p next window after dev pick reply h asking asks) ∙ asks_and (has_published reply) asking ram

-- The quiet word stays where nothing is written into it.
quiet_size : (packed event : Bool) (q : RingState) → q.is_packed ≡ packed → q.has_event_index ≡ event → length (quiet_word q) ≡ (event_piece q).count
unfolding quiet_word
quiet_size true event q layout is = rw layout refl
quiet_size false true q layout is = rw (layout, is) refl
quiet_size false false q layout is = rw (layout, is) refl

named_in : (indexes : List ℕ) (k : ℕ) → is_named indexes k ≡ is_in k indexes
named_in [] k = refl
named_in (i ∷ is) k = ap (λ (b : Bool). eqb k i || b) (named_in is k)

kept : (asking : Option Publishing) (ram : List ℕ) (ws : List Write) → IsQuietIn asking ram → IsApart asking (indexes_in ws) → asks_at asking (set_all ram ws) ≡ false
kept None ram ws holds apart = refl
kept (Some p) ram ws holds apart =
    let size = quiet_size p.ring.is_packed p.ring.has_event_index p.ring refl refl in
    let still : HoldsAt (set_all ram ws) (event_piece p.ring).at (quiet_word p.ring) = λ k below.
    let at = (event_piece p.ring).at + k in
    let out : is_in at (indexes_in ws) ≡ false = sym (named_in (indexes_in ws) at) ∙ apart k (omega (arith, below, size)) in
    out_set ram ws at out ∙ holds k below in
    quiet (set_all ram ws) p.ring p.slots still

and_false : (b c : Bool) → c ≡ false → (b && c) ≡ false
and_false true c is = is
and_false false c is = refl

pub quiet_kept : QuietIsKept
quiet_kept p next window after dev pick reply h asking asks holds apart =
    let bytes : after.bytes ≡ set_all window.bytes h.effect.writes = h.ram in
    let off : asks_at asking after.bytes ≡ false = ap (asks_at asking) bytes ∙ kept asking window.bytes h.effect.writes holds apart in
    asked_due p next window after dev pick reply h asking asks after.bytes ∙ and_false (has_published reply) (asks_at asking after.bytes) off

-- A device's own answer, by what its queue gives.
looked_asking : (d : DeviceState) (ram : List ℕ) (pick : ℕ) (q : RingState) (answer : Next) (asking : Option Publishing) → looked_at d pick ≡ Some q → Answers ram q answer → asking ≡ seen_on q answer → IsAsking d ram pick asking
looked_asking d ram pick q answer asking looked answers is = record {
  answer = answer;
  answers = subst (λ (ring : Option RingState). MayAnswer ring ram answer) (sym looked) answers;
  is = is ∙ ap (λ (ring : Option RingState). publishing_by d pick ring answer) (sym looked);
}

pub empty_asking : (d : DeviceState) (ram : List ℕ) (pick : ℕ) (q : RingState) → looked_at d pick ≡ Some q → Answers ram q Empty → IsAsking d ram pick None
empty_asking d ram pick q looked answers = looked_asking d ram pick q Empty None looked answers refl

pub malformed_asking : (d : DeviceState) (ram : List ℕ) (pick : ℕ) (q : RingState) → looked_at d pick ≡ Some q → Answers ram q Malformed → IsAsking d ram pick None
malformed_asking d ram pick q looked answers = looked_asking d ram pick q Malformed None looked answers refl

pub chain_asking : (d : DeviceState) (ram : List ℕ) (pick : ℕ) (q : RingState) (c : Chain) (p : Publishing) → looked_at d pick ≡ Some q → Answers ram q (Found c) → p ≡ record { ring = after_take q c.slots; slots = c.slots } → IsAsking d ram pick (Some p)
chain_asking d ram pick q c p looked answers is = looked_asking d ram pick q (Found c) (Some p) looked answers (ap (λ (x : Publishing). Some x) is)

unlooked_asking : (d : DeviceState) (ram : List ℕ) (pick : ℕ) (asking : Option Publishing) → looked_at d pick ≡ None → asking ≡ ending_at d.kind (pick - 1) (advanced_at d pick) → IsAsking d ram pick asking
unlooked_asking d ram pick asking none is = record {
  answer = Empty;
  answers = subst (λ (ring : Option RingState). MayAnswer ring ram Empty) (sym none) tt;
  is = is ∙ ap (λ (ring : Option RingState). publishing_by d pick ring Empty) (sym none);
}

pub idle_asking : (d : DeviceState) (ram : List ℕ) (pick : ℕ) → looked_at d pick ≡ None → advanced_at d pick ≡ None → IsAsking d ram pick None
idle_asking d ram pick none idle = unlooked_asking d ram pick None none (sym (ap (ending_at d.kind (pick - 1)) idle))

pub ending_asking : (d : DeviceState) (ram : List ℕ) (pick : ℕ) (q : RingState) (asking : Option Publishing) → looked_at d pick ≡ None → advanced_at d pick ≡ Some q → asking ≡ ending_at d.kind (pick - 1) (Some q) → IsAsking d ram pick asking
ending_asking d ram pick q asking none is same = unlooked_asking d ram pick asking none (same ∙ sym (ap (ending_at d.kind (pick - 1)) is))

-- The end of a request.
by_slots : (q : RingState) (r : Option Request) (slots : ℕ) (p : Publishing) → slots_in r ≡ Some slots → p ≡ record { ring = q; slots = slots } → Some p ≡ ending_on q r
by_slots q None slots p is same = cc
by_slots q (Some r) slots p is same =
    let slots_are : r.slots ≡ slots = (cc) in
    rw (same, slots_are) refl

pub ending_there : (kind : Kind) (k : ℕ) (q : RingState) (slots : ℕ) (p : Publishing) → slots_in (slice_get (requests_of kind) k) ≡ Some slots → p ≡ record { ring = q; slots = slots } → Some p ≡ ending_at kind k (Some q)
ending_there kind k q slots p is same = by_slots q (slice_get (requests_of kind) k) slots p is same

by_none : (q : RingState) (r : Option Request) → slots_in r ≡ None → ◌≡◌ {A = Option Publishing} None (ending_on q r)
by_none q None is = refl
by_none q (Some r) is = cc

pub ending_nowhere : (kind : Kind) (k : ℕ) (q : RingState) → slots_in (slice_get (requests_of kind) k) ≡ None → ◌≡◌ {A = Option Publishing} None (ending_at kind k (Some q))
ending_nowhere kind k q is = by_none q (slice_get (requests_of kind) k) is

-- A device of a machine.
pub asks_there : (m : Memory) (ds : List DeviceSeen) (dev pick : ℕ) (d : DeviceSeen) (asking : Option Publishing) → IsAt ds dev d → IsAsking d.state m.bytes pick asking → StepAsks (state_of (record { memory = m; devices = ds })) dev pick asking
asks_there m ds dev pick d asking at asks = subst (λ (f : Option DeviceState). AsksBy f m.bytes pick asking) (sym (found ds dev d at)) asks

pub none_asks : (m : Memory) (ds : List DeviceSeen) (dev pick : ℕ) → length ds ≤ dev → StepAsks (state_of (record { memory = m; devices = ds })) dev pick None
none_asks m ds dev pick h = subst (λ (f : Option DeviceState). AsksBy f m.bytes pick None) (sym (past ds dev h)) refl

pub if_asks : {E : Type 0} (P Q : Option Publishing → Type 0) (result : Result (Option Publishing) E) → ((x : Option Publishing) → P x → Q x) → IfOk result P → IfOk result Q
if_asks P Q (Ok asking) f h = f asking h
if_asks P Q (Err error) f h = h

-- What is known over a window, over another that agrees with it in what is held.
pub agree_on : (a b c : List ℕ) (ps : List Piece) → AgreeOn a b ps → AgreeOn b c ps → AgreeOn a c ps
agree_on a b c [] h k = tt
agree_on a b c (p ∷ ps) h k = (λ i below. h.0 i below ∙ k.0 i below, agree_on a b c ps h.1 k.1)

knows_on : (held ps : List Piece) (w m : List ℕ) → AgreeOn w m held → Knows held w ps → Knows held m ps
knows_on held ps w m agree known = λ b h. agree_on m w b ps (turned w m ps (known m agree)) (known b (agree_on w m b held agree h))

looks_by : (d : DeviceState) (m : List ℕ) (held : List Piece) (pick : ℕ) (q : RingState) (answer : Next) → Answers m q answer → Knows held m (look_pieces m q) → Knows held m (look_pieces m q ++ seen_reads d.kind pick q.base (seen_as (wanted_of d.kind pick) answer))
    → (o : Outcome) (seen : Next) → MayLook (wanted_of d.kind pick) (Some q) m o seen → Knows held m (reads_at d m pick (Some q) o seen)
looks_by d m held pick q answer there look all fine seen may =
    let same : may.answer ≡ answer = answer_same m q may.answer answer may.answers there in
    let is : seen ≡ seen_as (wanted_of d.kind pick) answer = may.is ∙ ap (seen_as (wanted_of d.kind pick)) same in
    subst (λ (n : Next). Knows held m (look_pieces m q ++ seen_reads d.kind pick q.base n)) (sym is) all
looks_by d m held pick q answer there look all failing seen may = look
looks_by d m held pick q answer there look all no_memory seen may = look

looks_on : (d : DeviceState) (w m : List ℕ) (held : List Piece) (pick : ℕ) (q : RingState) (answer : Next) → length w ≡ length m → AgreeOn w m held → Answers w q answer
    → ((o : Outcome) (seen : Next) → MayLook (wanted_of d.kind pick) (Some q) w o seen → Knows held w (reads_at d w pick (Some q) o seen))
    → ((o : Outcome) (seen : Next) → MayLook (wanted_of d.kind pick) (Some q) m o seen → Knows held m (reads_at d m pick (Some q) o seen)) × Answers m q answer
looks_on d w m held pick q answer same agree answers known =
    let want = wanted_of d.kind pick in
    let sight = seen_as want answer in
    let all : Knows held w (look_pieces w q ++ seen_reads d.kind pick q.base sight) = known fine sight (record { answer = answer; answers = answers; is = refl }) in
    let look : Knows held w (look_pieces w q) = λ b h. agree_first w b (look_pieces w q) (seen_reads d.kind pick q.base sight) (all b h) in
    let here : AgreeOn w m (look_pieces w q) = look m agree in
    let pieces : look_pieces w q ≡ look_pieces m q = look_same w m q same here in
    let there : Answers m q answer = answers_local w m q answer same here answers in
    let on_look : Knows held m (look_pieces m q) = subst (λ (ps : List Piece). Knows held m ps) pieces (knows_on held (look_pieces w q) w m agree look) in
    let on_all : Knows held m (look_pieces m q ++ seen_reads d.kind pick q.base sight) =
    subst (λ (ps : List Piece). Knows held m (ps ++ seen_reads d.kind pick q.base sight)) pieces (knows_on held (look_pieces w q ++ seen_reads d.kind pick q.base sight) w m agree all) in (
      λ o seen may. looks_by d m held pick q answer there on_look on_all o seen may,
      there,
    )

pub known_ring : (ring : Option RingState) (d : DeviceState) (w m : List ℕ) (held : List Piece) (pick : ℕ) (answer : Next) → length w ≡ length m → AgreeOn w m held → MayAnswer ring w answer
    → ((o : Outcome) (seen : Next) → MayLook (wanted_of d.kind pick) ring w o seen → Knows held w (reads_at d w pick ring o seen))
    → ((o : Outcome) (seen : Next) → MayLook (wanted_of d.kind pick) ring m o seen → Knows held m (reads_at d m pick ring o seen)) × MayAnswer ring m answer
known_ring None d w m held pick answer same agree answers known = (λ o seen may. knows_on held (request_reads d.kind (pick - 1) (advanced_at d pick)) w m agree (known o seen tt), tt)
known_ring (Some q) d w m held pick answer same agree answers known = looks_on d w m held pick q answer same agree answers known

known_device : (there : Option DeviceState) (w m : List ℕ) (held : List Piece) (pick : ℕ) (asking : Option Publishing) → length w ≡ length m → AgreeOn w m held → AsksBy there w pick asking
    → ((o : Outcome) (seen : Next) → MaySeeAt there w pick o seen → Knows held w (reads_of there w pick o seen))
    → ((o : Outcome) (seen : Next) → MaySeeAt there m pick o seen → Knows held m (reads_of there m pick o seen)) × AsksBy there m pick asking
known_device None w m held pick asking same agree asks known = (λ o seen may b h. tt, asks)
known_device (Some d) w m held pick asking same agree asks known =
    let both = known_ring (looked_at d pick) d w m held pick asks.answer same agree asks.answers known in
    (both.0, record { answer = asks.answer; answers = both.1; is = asks.is })

pub held_known : HeldStaysKnown
held_known p window other held dev pick asking same agree reads asks =
    known_device (slice_get (state_of (back_with p window)).devices dev) window.bytes other.bytes held pick asking same agree asks reads

or_right : (x y : Bool) → y ≡ true → (x || y) ≡ true
or_right true y is = refl
or_right false y is = is

or_left : (x y z : Bool) → (x || y) ≡ true → (y ≡ true → z ≡ true) → (x || z) ≡ true
or_left true y z is f = refl
or_left false y z is f = f is

-- A word that is put into a window, apart from what is held.
place_named : (at count j : ℕ) → j < count → is_named (addresses at count) (at + j) ≡ true
place_named at zero j below = absurd (omega (arith, below))
place_named at (suc count) zero below =
    let here : at + 0 ≡ at = omega arith in
    rw (here, eq-eqb at at refl) refl
place_named at (suc count) (suc j) below =
    let there : at + suc j ≡ at + 1 + j = omega arith in
    rw there (or_right (eqb (at + 1 + j) at) (is_named (addresses (at + 1) count) (at + 1 + j)) (place_named (at + 1) count j (omega (arith, below))))

named_left : (xs ys : List ℕ) (k : ℕ) → is_named xs k ≡ true → is_named (xs ++ ys) k ≡ true
named_left [] ys k is = cc
named_left (x ∷ xs) ys k is = or_left (eqb k x) (is_named xs k) (is_named (xs ++ ys) k) is (named_left xs ys k)

named_right : (xs ys : List ℕ) (k : ℕ) → is_named ys k ≡ true → is_named (xs ++ ys) k ≡ true
named_right [] ys k is = is
named_right (x ∷ xs) ys k is = or_right (eqb k x) (is_named (xs ++ ys) k) (named_right xs ys k is)

agree_apart : (p : Publishing) (old new : List ℕ) (held all : List Piece) → IsElsewhereSame (Some p) old new → IsApart (Some p) (indexes_of all) → ((i : ℕ) → is_named (indexes_of held) i ≡ true → is_named (indexes_of all) i ≡ true) → AgreeOn old new held
agree_apart p old new [] all same apart among = tt
agree_apart p old new (x ∷ held) all same apart among = (
  λ j below. same (x.at + j) (λ k inside is.
      let on : is_named (indexes_of all) (x.at + j) ≡ true = among (x.at + j) (named_left (addresses x.at x.count) (indexes_of held) (x.at + j) (place_named x.at x.count j below)) in
      let off : is_named (indexes_of all) (x.at + j) ≡ false = rw is (apart k inside) in
      let bad : true ≡ false = sym on ∙ off in
      cc),
  agree_apart p old new held all same apart (λ i is. among i (named_right (addresses x.at x.count) (indexes_of held) i is)),
)

agree_same : (old : List ℕ) (held : List Piece) → AgreeOn old old held
agree_same old [] = tt
agree_same old (x ∷ held) = (λ k below. refl, agree_same old held)

pub put_elsewhere : PutIsElsewhere
put_elsewhere None old new held same apart = rw same (agree_same old held)
put_elsewhere (Some p) old new held same apart = agree_apart p old new held held same apart (λ i is. is)
