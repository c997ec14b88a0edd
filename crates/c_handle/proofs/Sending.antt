-- A step sends no more than its form allows.
use Rattle.std.proofs.Common.{◌≡◌, ◌≤◌, ℕ, ◌-◌, ◌==◌, zero, suc, Bool, true, false, not, ◌&&◌, nat_lt, if◌then◌else◌, List, [], ◌∷◌, refl, sym, ap, ◌∙◌, subst, arith, length, drop, ◌++◌}
use Rattle.std.specs.Prelude.{Option, Some, None, slice_get}
use Rattle.std.specs.Prelude.{slice_index}
use Rattle.std.proofs.lemmas.List.{length-drop, length-map}
use Rattle.std.proofs.Math.Dec.{nltb→le, T}
use Rattle.std.proofs.lemmas.Bool.{le-ltb}
use borrow.Author.Tests.{ltb-false}
use Rattle.machine.proofs.Looking.{right_of_and}
use Rattle.blk.specs.Advance.{advance_step}
use Rattle.blk.specs.Outside.{outside_step}
use Rattle.blk.specs.Take.{take_chain}
use Rattle.console.specs.Receive.{give_some}
use Rattle.console.specs.Transmit.{text_form}
use Rattle.net.specs.Header.{header}
use Rattle.net.specs.Inbox.{Inbox}
use Rattle.net.specs.Receive as net
use Rattle.net.specs.Transmit.{frame_form}
use Rattle.machine.specs.Outcome.{disk_does}
use Rattle.blk.specs.Sectors.{Sector}
use Rattle.blk.specs.declared.advancing.Advanced.{Advanced}
use Rattle.blk.specs.declared.advancing.Advanced.TheVariants as advanced
use Rattle.guestmem.specs.Address.{index_of}
use Rattle.chains.specs.Places.{places, read_places}
use Rattle.chains.specs.State.{RingState}
use Rattle.chains.specs.Look.{Sees}
use Rattle.chains.specs.ReceiveBuffer.{give}
use Rattle.chains.specs.Service.{Service, service_of}
use Rattle.chains.proofs.LookLaws.{usable}
use Rattle.chains.specs.Transmit.{is_message, message_of, transmit_step, send}
use Rattle.chains.specs.declared.chain.Chain.{Chain}
use Rattle.chains.specs.declared.looking.Wanted.TheVariants as wanted
use Rattle.chains.specs.declared.next.Next.{Next}
use Rattle.chains.specs.declared.next.Next.TheVariants as next
use Rattle.chains.specs.declared.transmitting.MessageForm.{MessageForm}
use Rattle.guestmem.specs.Maybe.{after_if}
use Rattle.machine.specs.PageLog.{noted}
use Rattle.machine.specs.Applied.{IsApplied, IsAppliedLogged, as_given}
use Rattle.machine.specs.DeviceStep.{device_step, step_at, looked_step, advance_at, advance_on, advanced_at, looked_at, wanted_of, reply_of, reply_to_advance, serve, MayLook, MayLookAt}
use Rattle.machine.specs.Outcome.{Outcome, fine, disk_failed, no_memory, outcome_of}
use Rattle.machine.specs.Seen.{Seen, state_of}
use Rattle.machine.specs.Shapes.{made_as, queues_of}
use Rattle.machine.specs.Sound.{IsSound, IsSoundDevice, IsSoundShape}
use Rattle.machine.specs.State.{DeviceState, MachineState, base_of}
use Rattle.std.specs.Prelude.{All}
use Rattle.std.proofs.lemmas.Bool.Decides.{nat_tests}
use Rattle.std.proofs.lemmas.Option.{slice_get_past}
use Rattle.machine.specs.Step.{step_device, disk_of, MaySeeAt}
use Rattle.machine.specs.declared.event.Event.TheVariants.{Step}
use Rattle.machine.specs.declared.kind.Kind.{Kind}
use Rattle.machine.specs.declared.kind.Kind.TheVariants.{Network, Block, Outside, Console, Entropy}
use Rattle.machine.specs.declared.reply.Reply.{Reply}
use Rattle.machine.specs.declared.shape.Shape.TheVariants.{LongNet, Net}
use Rattle.c_handle.specs.Stepped.{most_by, most_of, most_sent, most_sent_by, sent_in, Steps}
use Rattle.c_machine.proofs.Imaging.{eq_of}
use Rattle.c_machine.specs.Status.{status_of}
use Rattle.c_machine.specs.Status.{number_of}

abbrev Within : Reply → ℕ → Type 0
Within reply most = length (sent_in reply) ≤ most

nothing_sent : (most : ℕ) → 0 ≤ most
nothing_sent most = omega arith

few_enough : (least most len : ℕ) → (not (nat_lt len least) && not (nat_lt most len)) ≡ true → len ≤ most
few_enough least most len is =
    let few : not (nat_lt most len) ≡ true = right_of_and (not (nat_lt len least)) (not (nat_lt most len)) is in
    nltb→le most len (subst T (sym few) tt)

-- The message of a chain.
message_len : (base : ℕ) (ram : List ℕ) (header : ℕ) (c : Chain) → length (message_of base ram header c) ≡ length (places c.readable) - header
message_len base ram header c =
    let all = read_places base ram (places c.readable) in
    length-drop header all ∙ ap (λ (n : ℕ). n - header) (length-map (places c.readable) (λ a. slice_index ram (index_of base a)))

of_message : (ram : List ℕ) (q : RingState) (form : MessageForm) (kind : Kind) (c : Chain) → is_message form c ≡ true
    → Within (reply_of (send form.header ram q kind c).answer) (form.most - form.header)
of_message ram q form kind c is =
    let few = few_enough form.least form.most (length (places c.readable)) is in
    omega (arith, message_len q.base ram form.header c, few)

of_transmission : (ram : List ℕ) (q : RingState) (form : MessageForm) (kind : Kind) (seen : Next) → Sees (wanted.Message form) ram q seen
    → Within (reply_of (transmit_step form ram q kind seen).answer) (form.most - form.header)
of_transmission ram q form kind next.Empty sees = nothing_sent (form.most - form.header)
of_transmission ram q form kind next.Malformed sees = nothing_sent (form.most - form.header)
of_transmission ram q form kind (next.Chain c) sees = of_message ram q form kind c (usable (wanted.Message form) ram q c sees).fit

-- The other ways in which a queue is served send nothing.
of_seen : {S : Type 0} (q : RingState) (state : S) (on_chain : Chain → Service S) (seen : Next) (most : ℕ) → ((c : Chain) → Within (reply_of (on_chain c).answer) most) → Within (reply_of (service_of q state on_chain seen).answer) most
of_seen q state on_chain next.Empty most all = nothing_sent most
of_seen q state on_chain next.Malformed most all = nothing_sent most
of_seen q state on_chain (next.Chain c) most all = all c

of_bytes : {S : Type 0} (ram : List ℕ) (q : RingState) (bytes : List ℕ) (left : S) (c : Chain) (most : ℕ) → Within (reply_of (give ram q bytes left c).answer) most
unfolding give
of_bytes ram q bytes left c most = nothing_sent most

of_frame : (ram : List ℕ) (q : RingState) (frame : List ℕ) (rest : List (List ℕ)) (c : Chain) (short : Bool) (most : ℕ) → Within (reply_of (if short then net.drop_frame q rest else give ram q (header ++ frame) rest c).answer) most
of_frame ram q frame rest c true most = nothing_sent most
of_frame ram q frame rest c false most = of_bytes ram q (header ++ frame) rest c most

of_frames : (ram : List ℕ) (q : RingState) (frames : List (List ℕ)) (c : Chain) (most : ℕ) → Within (reply_of (net.give_first ram q frames c).answer) most
of_frames ram q [] c most = nothing_sent most
of_frames ram q (frame ∷ rest) c most = of_frame ram q frame rest c (nat_lt (length (places c.writable)) (length (header ++ frame))) most

of_advance : (a : Advanced) (most : ℕ) → Within (reply_to_advance a) most
of_advance advanced.Idle most = nothing_sent most
of_advance advanced.Moved most = nothing_sent most
of_advance advanced.BadSector most = nothing_sent most
of_advance advanced.DiskFailed most = nothing_sent most
of_advance (advanced.Completed len due) most = nothing_sent most

of_service : (features : ℕ) (kind : Kind) (pick : ℕ) (ram : List ℕ) (q : RingState) (seen : Next) → Sees (wanted_of kind pick) ram q seen
    → Within (reply_of (serve features kind pick ram q seen).answer) (most_of (wanted_of kind pick))
of_service features (Network mac inbox) zero ram q seen sees = of_seen q inbox.frames (net.give_first ram q inbox.frames) seen 0 (λ c. of_frames ram q inbox.frames c 0)
of_service features (Network mac inbox) (suc n) ram q seen sees = of_transmission ram q (frame_form inbox.longest) (Network mac inbox) seen sees
of_service features (Console size held) zero ram q seen sees = of_seen q held (give_some ram q held) seen 0 (λ c. of_bytes ram q _ _ c 0)
of_service features (Console size held) (suc n) ram q seen sees = of_transmission ram q text_form (Console size held) seen sees
of_service features (Block block) n ram q seen sees = of_seen q block (take_chain features ram q block) seen 0 (λ c. nothing_sent 0)
of_service features (Outside block) n ram q seen sees = of_seen q block (take_chain features ram q block) seen 0 (λ c. nothing_sent 0)
of_service features (Entropy pool) n ram q seen sees = of_seen q pool (give_some ram q pool) seen 0 (λ c. of_bytes ram q _ _ c 0)

of_look : (d : DeviceState) (ram : List ℕ) (pick : ℕ) (q : RingState) (o : Outcome) (seen : Next) → MayLookAt (wanted_of d.kind pick) q ram o seen
    → Within (looked_step d ram pick q o seen).reply (most_of (wanted_of d.kind pick))
of_look d ram pick q no_memory seen may = nothing_sent (most_of (wanted_of d.kind pick))
of_look d ram pick q disk_failed seen may = nothing_sent (most_of (wanted_of d.kind pick))
of_look d ram pick q fine seen may = of_service d.registers.common.features d.kind pick ram q seen may

of_advancing : (d : DeviceState) (kind : Kind) (ram : List ℕ) (content : List Sector) (pick : ℕ) (q : RingState) (o : Outcome) (most : ℕ) → Within (advance_on d kind ram content pick q o).reply most
of_advancing d (Block block) ram content pick q o most = of_advance (advance_step ram q content block (pick - 1) (disk_does o)).answer most
of_advancing d (Outside block) ram content pick q o most = of_advance (outside_step ram q block (pick - 1)).answer most
of_advancing d (Network mac inbox) ram content pick q o most = nothing_sent most
of_advancing d (Console size held) ram content pick q o most = nothing_sent most
of_advancing d (Entropy pool) ram content pick q o most = nothing_sent most

of_request : (d : DeviceState) (ram : List ℕ) (content : List Sector) (pick : ℕ) (at : Option RingState) (o : Outcome) (most : ℕ)
    → Within (advance_at d ram content pick at o).reply most
of_request d ram content pick None o most = nothing_sent most
of_request d ram content pick (Some q) o most = of_advancing d d.kind ram content pick q o most

of_step : (d : DeviceState) (ram : List ℕ) (content : List Sector) (pick : ℕ) (at : Option RingState) (o : Outcome) (seen : Next) → MayLook (wanted_of d.kind pick) at ram o seen
    → Within (step_at d ram content pick at o seen).reply (most_of (wanted_of d.kind pick))
of_step d ram content pick None o seen may = of_request d ram content pick (advanced_at d pick) o (most_of (wanted_of d.kind pick))
of_step d ram content pick (Some q) o seen may = of_look d ram pick q o seen may

-- Only queue 1 is one of messages, and none has a later one.
none_wanted : (kind : Kind) → most_of (wanted_of kind 0) ≡ 0
none_wanted (Network mac inbox) = refl
none_wanted (Console size held) = refl
none_wanted (Block block) = refl
none_wanted (Outside block) = refl
none_wanted (Entropy pool) = refl

past_two : (d : DeviceState) (n : ℕ) → length d.registers.queues ≡ 2 → looked_at d (suc (suc n)) ≡ None
past_two d n size = let none : slice_get d.registers.queues (suc (suc n)) ≡ None = slice_get_past d.registers.queues (suc (suc n)) (omega (arith, size)) in rw none refl

exactly : (d : DeviceState) (ram : List ℕ) (content : List Sector) (pick : ℕ) (o : Outcome) (seen : Next) (most : ℕ) → MayLook (wanted_of d.kind pick) (looked_at d pick) ram o seen → most_of (wanted_of d.kind pick) ≡ most
    → Within (step_at d ram content pick (looked_at d pick) o seen).reply most
exactly d ram content pick o seen most may is = subst (λ (n : ℕ). Within (step_at d ram content pick (looked_at d pick) o seen).reply n) is (of_step d ram content pick (looked_at d pick) o seen may)

two_queues : (usual : Bool) (mac : List ℕ) (longest : ℕ) → queues_of (if usual then Net mac else LongNet mac longest) ≡ 2
two_queues true mac longest = refl
two_queues false mac longest = refl

of_past : (d : DeviceState) (kind : Kind) (ram : List ℕ) (content : List Sector) (n : ℕ) (o : Outcome) (seen : Next) → d.kind ≡ kind → length d.registers.queues ≡ queues_of (made_as kind) → MayLook (wanted_of d.kind (suc (suc n))) (looked_at d (suc (suc n))) ram o seen
    → Within (step_at d ram content (suc (suc n)) (looked_at d (suc (suc n))) o seen).reply 0
of_past d (Network mac inbox) ram content n o seen is size may = rw (past_two d n (size ∙ two_queues (inbox.longest == 1514) mac inbox.longest)) (of_request d ram content (suc (suc n)) (advanced_at d (suc (suc n))) o 0)
of_past d (Console columns held) ram content n o seen is size may = rw (past_two d n size) (of_request d ram content (suc (suc n)) (advanced_at d (suc (suc n))) o 0)
of_past d (Block block) ram content n o seen is size may = exactly d ram content (suc (suc n)) o seen 0 may (ap (λ (k : Kind). most_of (wanted_of k (suc (suc n)))) is)
of_past d (Outside block) ram content n o seen is size may = exactly d ram content (suc (suc n)) o seen 0 may (ap (λ (k : Kind). most_of (wanted_of k (suc (suc n)))) is)
of_past d (Entropy pool) ram content n o seen is size may = exactly d ram content (suc (suc n)) o seen 0 may (ap (λ (k : Kind). most_of (wanted_of k (suc (suc n)))) is)

of_pick : (d : DeviceState) (ram : List ℕ) (content : List Sector) (pick : ℕ) (o : Outcome) (seen : Next) → length d.registers.queues ≡ queues_of (made_as d.kind) → MayLook (wanted_of d.kind pick) (looked_at d pick) ram o seen
    → Within (step_at d ram content pick (looked_at d pick) o seen).reply (most_by d.kind pick)
of_pick d ram content zero o seen size may = exactly d ram content zero o seen 0 may (none_wanted d.kind)
of_pick d ram content (suc zero) o seen size may = of_step d ram content (suc zero) (looked_at d (suc zero)) o seen may
of_pick d ram content (suc (suc n)) o seen size may =
    let no : (suc (suc n) == 1) ≡ false = grind (arith, nat_tests) in
    rw no (of_past d d.kind ram content n o seen refl size may)

sound_at : {D : Type 0} (P : D → Type 0) (xs : List D) (i : ℕ) (x : D) → All P xs → slice_get xs i ≡ Some x → P x
sound_at P [] i x all is = absurd cc
sound_at P (y ∷ ys) zero x all is = let same : y ≡ x = cc in subst P same (all zero y (omega arith))
sound_at P (y ∷ ys) (suc i) x all is = sound_at P ys i x (λ k d less. all (suc k) d (omega (arith, less))) is

of_sound : (m : MachineState) (dev : ℕ) (d : Option DeviceState) (ram : List ℕ) (content : List Sector) (pick : ℕ) (o : Outcome) (seen : Next) → IsSound m → slice_get m.devices dev ≡ d → MaySeeAt d ram pick o seen
    → Within (step_device dev d ram content pick o seen).reply (most_sent d pick)
unfolding device_step
of_sound m dev None ram content pick o seen sound is may = nothing_sent 0
of_sound m dev (Some d) ram content pick o seen sound is may = of_pick d ram content pick o seen (sound_at (IsSoundDevice (base_of m.devices) (length m.ram)) m.devices dev d sound.devices is).queues may

-- What a machine sends in a step.
pub sends_within : (m after : Seen) (dev pick : ℕ) (reply : Reply) → IsSound (state_of m) → IsApplied m (Step dev pick) reply after → length (sent_in reply) ≤ most_sent_by m dev pick
sends_within m after dev pick reply sound applied =
    let s = as_given (state_of m) (Step dev pick) applied.given in let o = outcome_of reply in
    rw (applied.has.reply_is) (of_sound (state_of m) dev (slice_get s.devices dev) s.ram (disk_of s dev) pick o applied.has.seen sound refl applied.has.may_see)

-- No step of a sound machine sends more than 65,536 bytes: a frame has no more than 65,535.
longest_by : (usual : Bool) (mac : List ℕ) (longest : ℕ) → (longest == 1514) ≡ usual → IsSoundShape (if usual then Net mac else LongNet mac longest) → longest ≤ 65535
longest_by true mac longest is sound = omega (arith, eq_of longest 1514 is)
longest_by false mac longest is sound = sound.most

longest_in : (mac : List ℕ) (inbox : Inbox) → IsSoundShape (made_as (Network mac inbox)) → inbox.longest ≤ 65535
longest_in mac inbox sound = longest_by (inbox.longest == 1514) mac inbox.longest refl sound

most_of_kind : (kind : Kind) → IsSoundShape (made_as kind) → most_of (wanted_of kind 1) ≤ 65536
most_of_kind (Network mac inbox) sound = omega (arith, longest_in mac inbox sound)
most_of_kind (Console size held) sound = omega arith
most_of_kind (Block block) sound = omega arith
most_of_kind (Outside block) sound = omega arith
most_of_kind (Entropy pool) sound = omega arith

few_if : (b : Bool) (most : ℕ) → most ≤ 65536 → (if b then most else 0) ≤ 65536
few_if true most few = few
few_if false most few = omega arith

few_by : (m : MachineState) (dev : ℕ) (d : Option DeviceState) (pick : ℕ) → IsSound m → slice_get m.devices dev ≡ d → most_sent d pick ≤ 65536
few_by m dev None pick sound is = omega arith
few_by m dev (Some d) pick sound is =
    few_if (pick == 1) (most_of (wanted_of d.kind 1)) (most_of_kind d.kind (sound_at (IsSoundDevice (base_of m.devices) (length m.ram)) m.devices dev d sound.devices is).shape)

pub few_sent : (m after : Seen) (dev pick : ℕ) (reply : Reply) → IsSound (state_of m) → IsApplied m (Step dev pick) reply after → length (sent_in reply) ≤ 65536
few_sent m after dev pick reply sound applied =
    let within = sends_within m after dev pick reply sound applied in
    let most = few_by (state_of m) dev (slice_get (state_of m).devices dev) pick sound refl in
    omega (arith, within, most)

pub not_below : (len most : ℕ) → nat_lt len most ≡ false → most ≤ len
not_below len most is = ltb-false len most is

-- A buffer of as many is too small for no step.
pub never_small : (m : Seen) (dev pick len : ℕ) → IsSound (state_of m) → 65536 ≤ len → nat_lt len (most_sent_by m dev pick) ≡ false
never_small m dev pick len sound large =
    let most = few_by (state_of m) dev (slice_get (state_of m).devices dev) pick sound refl in
    le-ltb _ _ (omega (arith, most, large))

-- What is told of a step, by whether the buffer is too small.
pub not_stepped : (m : Seen) (log : Option (List Bool)) (dev pick n : ℕ) (buf : List ℕ) → nat_lt (length buf) (most_sent_by m dev pick) ≡ true → Steps m log dev pick 11 n n buf buf m log
not_stepped m log dev pick n buf small = rw small (record { log_same = refl; status_is = refl; number_same = refl; buf_same = refl; same = refl })

pub stepped : (m after : Seen) (log new_log : Option (List Bool)) (dev pick status number n : ℕ) (buf new_buf : List ℕ) (reply : Reply) → nat_lt (length buf) (most_sent_by m dev pick) ≡ false
    → IsAppliedLogged (after_if noted) m log (Step dev pick) reply after new_log → status ≡ status_of reply → number ≡ number_of reply n → new_buf ≡ sent_in reply ++ drop (length (sent_in reply)) buf
    → Steps m log dev pick status number n buf new_buf after new_log
stepped m after log new_log dev pick status number n buf new_buf reply fits applied told counted sent =
    rw fits (record { reply = reply; logged = applied; status_is = told; number_is = counted; sent = sent })
