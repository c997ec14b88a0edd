-- Calls of C that change no device, and no call of a disk outside.
use Rattle.std.proofs.Common.{◌≡◌, ◌⊎◌, ℕ, zero, suc, ◌∙◌, Bool, true, false, nat_lt, List, [], ◌∷◌, length, length-set, map, set, get_or, inl, inr, refl, sym, ap, subst}
use Rattle.std.specs.Prelude.{MatchOption, Option, Some, None}
use Rattle.guestmem.specs.Lent.{raise_each}
use Rattle.guestmem.specs.Memory.{Memory}
use Rattle.guestmem.specs.Write.{raised}
use Rattle.machine.specs.Parked.{ParkedSeen, parked_states}
use Rattle.machine.specs.Seen.{DeviceSeen, Seen, state_of}
use Rattle.machine.specs.State.{MachineState}
use Rattle.region.specs.declared.slot.Slot.{Slot}
use Rattle.sender.specs.Calls.{AfterBegin, AfterCopy, AfterRound, AfterStop, IsSameButCalls, IsUnread}
use Rattle.sender.specs.LiveState.{LiveSeen, now, refusal_for}
use Rattle.sender.specs.Parked.{LiveParkedSeen}
use Rattle.sender.specs.declared.event.LiveEvent.TheVariants as events
use Rattle.sender.specs.declared.event.LiveReply.{LiveReply}
use Rattle.sender.specs.declared.event.LiveReply.TheVariants as live
use Rattle.sender.specs.declared.mig_error.MigError.{MigError}
use Rattle.sender.specs.declared.mig_error.MigError.TheVariants as errors
use Rattle.wire.specs.Stream.{whole}
use Rattle.wire.specs.Telling.{is_owed}
use Rattle.c_machine.specs.Named.{named_pages, needs_list}
use Rattle.c_handle.specs.CallsMet.{AreFew, HasRam, OthersKeepDevices, a_begin, a_begin_as, a_list_of_pages, a_loan, a_mark, a_page, a_return, a_save, a_sector_read, a_send, a_stop, a_taking, a_telling, an_abort, an_end_of_round}
use Rattle.c_handle.specs.Digest.{BeginsAs, BeginsIf, TellsIf, TellsKept, TellsMoving, are_known, told_begun}
use Rattle.c_handle.specs.HandingIn.{HandsKept, page_refusal}
use Rattle.c_handle.specs.Kept.{KeptSeen, StillLent, MovingLent, State, Still, Moving, Arriving, Lent}
use Rattle.c_handle.specs.Late.{HasMarked, IsMarked, all_pages, mark_refusal}
use Rattle.c_handle.specs.Lent.{HasComeBack, IsBack, IsLoan, IsUnlent, LendsIfOver, back_refusal_of, lend_refusal_of, lent_pages}
use Rattle.c_handle.specs.Migrated.{AbortsKept, BeginsKept, EndsKept, GoesOn, SendsIf, SendsKept, SendsUpTo, StopsKept, StopsUnless, TakesKept, is_none_due, send_refusal, told_aborted}
use Rattle.c_handle.specs.Moving.{SavesIf, SavesKept}
use Rattle.c_handle.specs.OnHandle.{Refuses, Unless}
use Rattle.c_handle.specs.Outside.{devices_of}
use Rattle.c_handle.proofs.HandingIn.{hands_same}
use Rattle.c_handle.proofs.LentSending.{IsSameLent, ended_same, some_same}
use Rattle.c_handle.specs.Sectors.{ReadsOpen, sector_refusal}
use Rattle.c_handle.proofs.HostSteps.{few_stay}

-- The devices are as they were, and RAM has its pages still.
abbrev IsKept : State → State → Type 0
IsKept k next = (devices_of next ≡ devices_of k) × (HasRam k → HasRam next)

same_kept : (k next : State) → next ≡ k → IsKept k next
same_kept k next same = (ap devices_of same, subst HasRam (sym same))

seen_kept : (m next : Seen) → next ≡ m → IsKept (Still m) (Still next)
seen_kept m next same = same_kept (Still m) (Still next) (ap Still same)

-- What a migration does to its machine: no more than to read it.
abbrev IsRead : LiveSeen → LiveSeen → Type 0
IsRead l next = (now next ≡ now l) × (next.machine.memory.versions ≡ l.machine.memory.versions)

same_read : (l next : LiveSeen) → next ≡ l → IsRead l next
same_read l next same = (ap now same, ap (λ (x : LiveSeen). x.machine.memory.versions) same)

machine_read : (l next : LiveSeen) → next.machine ≡ l.machine → IsRead l next
machine_read l next same = (ap state_of same, ap (λ (x : Seen). x.memory.versions) same)

called_read : (l next : LiveSeen) → IsSameButCalls l.machine next.machine → IsRead l next
called_read l next c = (c.state, ap (λ (x : Memory). x.versions) c.memory)

unread_read : (l next : LiveSeen) (dev n : ℕ) → IsUnread l dev n next → IsRead l next
unread_read l next dev n u = (u.state, ap (λ (x : Memory). x.versions) u.memory)

then_read : (l mid next : LiveSeen) → IsRead l mid → IsRead mid next → IsRead l next
then_read l mid next first second = (second.0 ∙ first.0, second.1 ∙ first.1)

read_kept : (l next : LiveSeen) → IsRead l next → IsKept (Moving l) (Moving next)
read_kept l next same = (ap (λ (m : MachineState). m.devices) same.0, subst AreFew (sym same.1))

begin_same : (o : Option MigError) (l next : LiveSeen) (reply : LiveReply) → MatchOption o (AfterBegin l reply next) (λ x. (reply ≡ live.Mig x) × (next ≡ l)) → IsRead l next
begin_same (Some x) l next reply s = same_read l next s.1
begin_same None l next (live.Begun round) s = machine_read l next s.1.machine
begin_same None l next (live.Mig errors.StreamFailed) s = called_read l next s.machine
begin_same None l next _ s = absurd s

copy_same : (o : Option MigError) (l next : LiveSeen) (reply : LiveReply) → MatchOption o (AfterCopy l reply next) (λ x. (reply ≡ live.Mig x) × (next ≡ l)) → IsRead l next
copy_same (Some x) l next reply s = same_read l next s.1
copy_same None l next (live.Copied item) s = called_read l next s.sent.machine
copy_same None l next live.RoundDone s = same_read l next s.1
copy_same None l next (live.Mig (errors.DiskFailed dev n)) s = unread_read l next dev n s.unread
copy_same None l next (live.Mig errors.StreamFailed) s = called_read l next s.machine
copy_same None l next _ s = absurd s

round_same : (o : Option MigError) (l next : LiveSeen) (reply : LiveReply) → MatchOption o (AfterRound l reply next) (λ x. (reply ≡ live.Mig x) × (next ≡ l)) → IsRead l next
round_same (Some x) l next reply s = same_read l next s.1
round_same None l next (live.Begun round) s = machine_read l next s.1.machine
round_same None l next live.RoundOpen s = same_read l next s.1
round_same None l next (live.Mig errors.StreamFailed) s = called_read l next s.machine
round_same None l next _ s = absurd s

stop_same : (o : Option MigError) (l next : LiveSeen) (reply : LiveReply) → MatchOption o (AfterStop l reply next) (λ x. (reply ≡ live.Mig x) × (next ≡ l)) → IsRead l next
stop_same (Some x) l next reply s = same_read l next s.1
stop_same None l next (live.Stopped pages sectors) s = called_read l next s.machine
stop_same None l next (live.Mig (errors.DiskFailed dev n)) s = then_read l s.between next (called_read l s.between s.are_sent.machine) (unread_read s.between next dev n s.unread)
stop_same None l next (live.Mig errors.StreamFailed) s = called_read l next s.machine
stop_same None l next _ s = absurd s

begins : (k next : State) (status : ℕ) → BeginsKept k status next → IsKept k next
begins (Still m) (Still next) status h = seen_kept m next h.1
begins (Still m) (Moving next) status h =
    let kept = read_kept h.fresh next (begin_same (refusal_for h.fresh.phase events.Begin) h.fresh next (live.Begun h.round) h.begins) in
    (kept.0 ∙ ap (λ (x : Seen). (state_of x).devices) h.is_fresh.machine, λ few. kept.1 (subst (λ (x : Seen). AreFew x.memory.versions) (sym h.is_fresh.machine) few))
begins (Moving l) (Moving next) status h = read_kept l next (begin_same (refusal_for l.phase events.Begin) l next h.reply h.serves)
begins (Arriving r) (Arriving next) status h = same_kept (Arriving r) (Arriving next) (ap Arriving h.1)
begins (Lent x) (Lent next) status h = same_kept (Lent x) (Lent next) (ap Lent h.1)
begins _ _ status h = absurd h

begins_if : (known : Bool) (m : Seen) (next : State) (status : ℕ) → BeginsIf known m status next → IsKept (Still m) next
begins_if true m next status h = begins (Still m) next status h
begins_if false m next status h = same_kept (Still m) next h.1

begins_as : (flags : ℕ) (k next : State) (status : ℕ) → BeginsAs flags k status next → IsKept k next
begins_as flags (Still m) next status h = begins_if (are_known flags) m next status h
begins_as flags (Moving l) next status h = begins (Moving l) next status h
begins_as flags (Arriving r) next status h = begins (Arriving r) next status h
begins_as flags (Lent x) next status h = begins (Lent x) next status h

-- Items that are sent, one after another.
goes_same : (reply : LiveReply) (rest : LiveSeen → Type 0) (mid next : LiveSeen) (status : ℕ) → ((x : LiveSeen) → rest x → IsRead x next) → GoesOn reply rest mid status next → IsRead mid next
goes_same (live.Mig error) rest mid next status same h = same_read mid next h.1
goes_same (live.Guest reply) rest mid next status same h = same mid h
goes_same (live.Begun round) rest mid next status same h = same mid h
goes_same (live.Copied item) rest mid next status same h = same mid h
goes_same live.RoundDone rest mid next status same h = same mid h
goes_same live.RoundOpen rest mid next status same h = same mid h
goes_same (live.Stopped pages sectors) rest mid next status same h = same mid h

if_due : (none : Bool) (rest : LiveSeen → Type 0) (l next : LiveSeen) (status : ℕ) → ((x : LiveSeen) → rest x → IsRead x next) → SendsIf none rest l status next → IsRead l next
if_due true rest l next status same h = same_read l next h.1
if_due false rest l next status same h = then_read l h.mid next (copy_same (refusal_for l.phase events.Copy) l h.mid h.reply h.serves) (goes_same h.reply rest h.mid next status same h.goes_on)

up_to : (most : ℕ) (l next : LiveSeen) (status : ℕ) → SendsUpTo most l status next → IsRead l next
up_to zero l next status h = same_read l next h.1
up_to (suc most) l next status h = if_due (is_none_due l) (λ mid. SendsUpTo most mid status next) l next status (λ mid rest. up_to most mid next status rest) h

sends_unless : (o : Option ℕ) (l next : LiveSeen) (most status : ℕ) → Unless o (λ reason. (status ≡ reason) × (next ≡ l)) (SendsUpTo most l status next) → IsRead l next
sends_unless (Some reason) l next most status h = same_read l next h.1
sends_unless None l next most status h = up_to most l next status h

lent_kept : (p next : LiveParkedSeen) → IsSameLent p next → IsKept (Lent (MovingLent p)) (Lent (MovingLent next))
lent_kept p next same = (same.states, subst AreFew (sym same.versions))

sends : (k next : State) (most status : ℕ) → SendsKept k most status next → IsKept k next
sends (Still m) (Still next) most status h = seen_kept m next h.1
sends (Moving l) (Moving next) most status h = read_kept l next (sends_unless (send_refusal l.phase) l next most status h)
sends (Arriving r) (Arriving next) most status h = same_kept (Arriving r) (Arriving next) (ap Arriving h.1)
sends (Lent (StillLent p)) (Lent (StillLent next)) most status h = same_kept (Lent (StillLent p)) (Lent (StillLent next)) (ap (λ x. Lent (StillLent x)) h.1)
sends (Lent (MovingLent p)) (Lent (MovingLent next)) most status h = lent_kept p next (some_same (send_refusal p.phase) p next most status h)
sends _ _ most status h = absurd h

parked_kept : (p next : LiveParkedSeen) → next.machine ≡ p.machine → IsKept (Lent (MovingLent p)) (Lent (MovingLent next))
parked_kept p next same = (ap parked_states same, subst (λ (q : ParkedSeen). AreFew q.memory) (sym same))

hands : (k next : State) (page status : ℕ) (bytes : List ℕ) → HandsKept k page bytes status next → IsKept k next
hands (Still m) (Still next) page status bytes h = seen_kept m next h.1
hands (Moving l) (Moving next) page status bytes h = same_kept (Moving l) (Moving next) (ap Moving h.1)
hands (Arriving r) (Arriving next) page status bytes h = same_kept (Arriving r) (Arriving next) (ap Arriving h.1)
hands (Lent (StillLent p)) (Lent (StillLent next)) page status bytes h = same_kept (Lent (StillLent p)) (Lent (StillLent next)) (ap (λ x. Lent (StillLent x)) h.1)
hands (Lent (MovingLent p)) (Lent (MovingLent next)) page status bytes h = parked_kept p next (hands_same (page_refusal (send_refusal p.phase) (length p.machine.memory) page) p next page status bytes h)
hands _ _ page status bytes h = absurd h

ends : (k next : State) (status : ℕ) → EndsKept k status next → IsKept k next
ends (Still m) (Still next) status h = seen_kept m next h.1
ends (Moving l) (Moving next) status h = read_kept l next (round_same (refusal_for l.phase events.EndRound) l next h.reply h.serves)
ends (Arriving r) (Arriving next) status h = same_kept (Arriving r) (Arriving next) (ap Arriving h.1)
ends (Lent (StillLent p)) (Lent (StillLent next)) status h = same_kept (Lent (StillLent p)) (Lent (StillLent next)) (ap (λ x. Lent (StillLent x)) h.1)
ends (Lent (MovingLent p)) (Lent (MovingLent next)) status h = lent_kept p next (ended_same p next status h)
ends _ _ status h = absurd h

stops_unless : (out : Bool) (l next : LiveSeen) (status pages old_pages sectors old_sectors : ℕ) → StopsUnless out l status pages old_pages sectors old_sectors next → IsRead l next
stops_unless true l next status pages old_pages sectors old_sectors h = same_read l next h.1
stops_unless false l next status pages old_pages sectors old_sectors h = stop_same (refusal_for l.phase events.Stop) l next h.reply h.serves

stops : (out : Bool) (k next : State) (status pages old_pages sectors old_sectors : ℕ) → StopsKept out k status pages old_pages sectors old_sectors next → IsKept k next
stops out (Still m) (Still next) status pages old_pages sectors old_sectors h = seen_kept m next h.1
stops out (Moving l) (Moving next) status pages old_pages sectors old_sectors h = read_kept l next (stops_unless out l next status pages old_pages sectors old_sectors h)
stops out (Arriving r) (Arriving next) status pages old_pages sectors old_sectors h = same_kept (Arriving r) (Arriving next) (ap Arriving h.1)
stops out (Lent x) (Lent next) status pages old_pages sectors old_sectors h = same_kept (Lent x) (Lent next) (ap Lent h.1)
stops out _ _ status pages old_pages sectors old_sectors h = absurd h

aborts : (k next : State) (status : ℕ) → AbortsKept k status next → IsKept k next
aborts (Still m) (Still next) status h = seen_kept m next h.1
aborts (Moving l) (Still next) status h = (ap (λ (x : Seen). (state_of x).devices) h.1, subst (λ (x : Seen). AreFew x.memory.versions) (sym h.1))
aborts (Arriving r) (Arriving next) status h = same_kept (Arriving r) (Arriving next) (ap Arriving h.1)
aborts (Lent x) (Lent next) status h = same_kept (Lent x) (Lent next) (ap Lent h.1)
aborts _ _ status h = absurd h

tells_if : (owed : Bool) (l next : LiveSeen) (digest : List ℕ) (status : ℕ) → TellsIf owed digest l status next → IsRead l next
tells_if true l next digest status h = (ap now h.rest, ap (λ (x : LiveSeen). x.machine.memory.versions) h.rest)
tells_if false l next digest status h = same_read l next h.1

tells_moving : (told : Bool) (l next : LiveSeen) (digest : List ℕ) (status : ℕ) → TellsMoving told digest l status next → IsRead l next
tells_moving true l next digest status h = tells_if (is_owed l.digest) l next digest status h
tells_moving false l next digest status h = same_read l next h.1

tells : (told : Bool) (k next : State) (digest : List ℕ) (status : ℕ) → TellsKept told digest k status next → IsKept k next
tells told (Still m) (Still next) digest status h = seen_kept m next h.1
tells told (Moving l) (Moving next) digest status h = read_kept l next (tells_moving told l next digest status h)
tells told (Arriving r) (Arriving next) digest status h = same_kept (Arriving r) (Arriving next) (ap Arriving h.1)
tells told (Lent x) (Lent next) digest status h = same_kept (Lent x) (Lent next) (ap Lent h.1)
tells told _ _ digest status h = absurd h

takes : (told : Bool) (k next : State) (status got old_got : ℕ) (buf new_buf : List ℕ) → TakesKept told k status got old_got buf new_buf next → IsKept k next
takes told (Still m) (Still next) status got old_got buf new_buf h = seen_kept m next h.1
takes told (Moving l) (Moving next) status got old_got buf new_buf h = read_kept l next (ap now h.rest, ap (λ (x : LiveSeen). x.machine.memory.versions) h.rest)
takes told (Arriving r) (Arriving next) status got old_got buf new_buf h = same_kept (Arriving r) (Arriving next) (ap Arriving h.1)
takes told (Lent (StillLent p)) (Lent (StillLent next)) status got old_got buf new_buf h = same_kept (Lent (StillLent p)) (Lent (StillLent next)) (ap (λ x. Lent (StillLent x)) h.1)
takes told (Lent (MovingLent l)) (Lent (MovingLent next)) status got old_got buf new_buf h =
    (ap (λ (x : LiveParkedSeen). devices_of (Lent (MovingLent x))) h.rest, subst (λ (x : LiveParkedSeen). AreFew x.machine.memory) (sym h.rest))
takes told _ _ status got old_got buf new_buf h = absurd h

-- RAM that is lent, and taken back.
states_of : (new old : List DeviceSeen) → new ≡ old → map (λ (d : DeviceSeen). d.state) new ≡ map (λ (d : DeviceSeen). d.state) old
states_of new old same = ap (map (λ (d : DeviceSeen). d.state)) same

loan_same : (k next : State) (ram : Slot) → IsLoan k ram next → IsKept k next
loan_same (Still m) (Lent (StillLent p)) ram h = (states_of p.devices m.devices h.devices_are, subst AreFew (sym h.lent.versions_are))
loan_same (Moving l) (Lent (MovingLent p)) ram h = (states_of p.machine.devices l.machine.devices h.parked.parked.devices_are, subst AreFew (sym h.parked.parked.lent.versions_are))
loan_same _ _ ram h = absurd h

lends : (o : Option ℕ) (k next : State) (ram new_ram : Slot) (status : ℕ) → Unless o (IsUnlent k ram status new_ram next) (LendsIfOver k ram status new_ram next) → IsKept k next
lends (Some reason) k next ram new_ram status h = same_kept k next h.1
lends None k next ram new_ram status (inl h) = loan_same k next new_ram h.loan
lends None k next ram new_ram status (inr h) = same_kept k next h.unlent.1

length_raised : (versions pages : List ℕ) → length (raise_each versions pages) ≡ length versions
length_raised versions [] = refl
length_raised versions (n ∷ pages) = length_raised (set versions n (raised (get_or versions n 0))) pages ∙ length-set versions n (raised (get_or versions n 0))

few_raised : (versions pages : List ℕ) → AreFew versions → AreFew (raise_each versions pages)
few_raised versions pages few = few_stay versions (raise_each versions pages) (length_raised versions pages) few

back_same : (k next : State) (ram : Slot) (pages : List ℕ) → IsBack k ram pages next → IsKept k next
back_same (Lent (StillLent p)) (Still next) ram pages h =
    (ap (λ (x : Seen). (state_of x).devices) h, λ few. subst (λ (x : Seen). AreFew x.memory.versions) (sym h) (few_raised p.memory pages few))
back_same (Lent (MovingLent l)) (Moving next) ram pages h =
    (ap (λ (x : LiveSeen). (state_of x.machine).devices) h, λ few. subst (λ (x : LiveSeen). AreFew x.machine.memory.versions) (sym h) (few_raised l.machine.memory pages few))
back_same _ _ ram pages h = absurd h

returns : (o : Option ℕ) (k next : State) (ram new_ram : Slot) (pages : List ℕ) (needs : Bool) (status reason : ℕ)
    → Unless o (IsUnlent k ram status new_ram next) (HasComeBack k ram pages status new_ram next ⊎ ((needs ≡ true) × IsUnlent k ram status new_ram next reason)) → IsKept k next
returns (Some why) k next ram new_ram pages needs status reason h = same_kept k next h.1
returns None k next ram new_ram pages needs status reason (inl h) = back_same k next ram pages h.back
returns None k next ram new_ram pages needs status reason (inr h) = same_kept k next h.1.1

marked_same : (k next : State) (pages : List ℕ) → IsMarked k pages next → IsKept k next
marked_same (Still m) (Still next) pages h = (ap (λ (x : Seen). (state_of x).devices) h, λ few. subst (λ (x : Seen). AreFew x.memory.versions) (sym h) (few_raised m.memory.versions pages few))
marked_same (Moving l) (Moving next) pages h =
    (ap (λ (x : LiveSeen). (state_of x.machine).devices) h, λ few. subst (λ (x : LiveSeen). AreFew x.machine.memory.versions) (sym h) (few_raised l.machine.memory.versions pages few))
marked_same (Lent (StillLent p)) (Lent (StillLent next)) pages h = same_kept (Lent (StillLent p)) (Lent (StillLent next)) (ap (λ x. Lent (StillLent x)) h)
marked_same (Lent (MovingLent p)) (Lent (MovingLent next)) pages h = parked_kept p next (ap (λ (q : LiveParkedSeen). q.machine) h)
marked_same _ _ pages h = absurd h

marks : (o : Option ℕ) (k next : State) (pages : List ℕ) (needs : Bool) (status other : ℕ) → Unless o (λ reason. (status ≡ reason) × (next ≡ k)) (HasMarked k pages status next ⊎ ((needs ≡ true) × ((status ≡ other) × (next ≡ k)))) → IsKept k next
marks (Some reason) k next pages needs status other h = same_kept k next h.1
marks None k next pages needs status other (inl h) = marked_same k next pages h.marked
marks None k next pages needs status other (inr h) = same_kept k next h.1.1

-- A machine that is read.
calls_kept : (m next : Seen) → next.memory ≡ m.memory → state_of next ≡ state_of m → IsKept (Still m) (Still next)
calls_kept m next memory state = (ap (λ (x : MachineState). x.devices) state, subst (λ (x : Memory). AreFew x.versions) (sym memory))

reads_open : (k next : State) (dev n status : ℕ) (buf new_buf : List ℕ) → ReadsOpen k dev n status buf new_buf next → IsKept k next
reads_open (Still m) (Still next) dev n status buf new_buf h = calls_kept m next h.kept.memory h.kept.state
reads_open _ _ dev n status buf new_buf h = absurd h

reads : (o : Option ℕ) (k next : State) (dev n status : ℕ) (buf new_buf : List ℕ) → Unless o (λ reason. Refuses status new_buf buf reason × (next ≡ k)) (ReadsOpen k dev n status buf new_buf next) → IsKept k next
reads (Some reason) k next dev n status buf new_buf h = same_kept k next h.1
reads None k next dev n status buf new_buf h = reads_open k next dev n status buf new_buf h

saves_if : (short : Bool) (m next : Seen) (status len old_len : ℕ) (buf new_buf : List ℕ) → SavesIf short m status len old_len buf new_buf next → IsKept (Still m) (Still next)
saves_if true m next status len old_len buf new_buf h = seen_kept m next h.same
saves_if false m next status len old_len buf new_buf h = calls_kept m next h.kept.memory h.kept.state

saves : (k next : State) (status len old_len : ℕ) (buf new_buf : List ℕ) → SavesKept k status len old_len buf new_buf next → IsKept k next
saves (Still m) (Still next) status len old_len buf new_buf h = saves_if (nat_lt (length buf) (length (whole (state_of m)))) m next status len old_len buf new_buf h
saves (Moving l) (Moving next) status len old_len buf new_buf h = same_kept (Moving l) (Moving next) (ap Moving h.1)
saves (Arriving r) (Arriving next) status len old_len buf new_buf h = same_kept (Arriving r) (Arriving next) (ap Arriving h.1)
saves (Lent x) (Lent next) status len old_len buf new_buf h = same_kept (Lent x) (Lent next) (ap Lent h.1)
saves _ _ status len old_len buf new_buf h = absurd h

-- All of them.
some_is : (a b : KeptSeen) → ◌≡◌ {A = Option KeptSeen} (Some a) (Some b) → a ≡ b
some_is a b is = cc

abbrev Others : KeptSeen → KeptSeen → Type 0
Others k next = (devices_of next.state ≡ devices_of k.state) × (next.calls ≡ k.calls) × HasRam next.state

kept_told : (k next : KeptSeen) (s : State) (told : Bool) → HasRam k.state → ◌≡◌ {A = Option KeptSeen} (Some next) (Some (record k { state = s; told = told })) → IsKept k.state s → Others k next
kept_told k next s told ram is kept =
    let now_is = some_is next (record k { state = s; told = told }) is in
    (ap (λ (x : KeptSeen). devices_of x.state) now_is ∙ kept.0, ap (λ (x : KeptSeen). x.calls) now_is, subst (λ (x : KeptSeen). HasRam x.state) (sym now_is) (kept.1 ram))

kept_by : (k next : KeptSeen) (s : State) → HasRam k.state → ◌≡◌ {A = Option KeptSeen} (Some next) (Some (record k { state = s })) → IsKept k.state s → Others k next
kept_by k next s ram is kept =
    let now_is = some_is next (record k { state = s }) is in
    (ap (λ (x : KeptSeen). devices_of x.state) now_is ∙ kept.0, ap (λ (x : KeptSeen). x.calls) now_is, subst (λ (x : KeptSeen). HasRam x.state) (sym now_is) (kept.1 ram))

pub others_keep_devices : OthersKeepDevices
others_keep_devices k next a_begin ram h = kept_by k next h.1.next ram h.1.is_next (begins k.state h.1.next h.0 h.1.done)
others_keep_devices k next (a_begin_as flags) ram h = kept_told k next h.1.next (told_begun flags k.told k.state h.1.next) ram h.1.is_next (begins_as flags k.state h.1.next h.0 h.1.done)
others_keep_devices k next a_send ram h = kept_by k next h.2.next ram h.2.is_next (sends k.state h.2.next h.0 h.1 h.2.done)
others_keep_devices k next a_page ram h = kept_by k next h.3.next ram h.3.is_next (hands k.state h.3.next h.0 h.2 h.1 h.3.done)
others_keep_devices k next an_end_of_round ram h = kept_by k next h.1.next ram h.1.is_next (ends k.state h.1.next h.0 h.1.done)
others_keep_devices k next a_stop ram h = kept_by k next h.5.next ram h.5.is_next (stops _ k.state h.5.next h.0 h.1 h.2 h.3 h.4 h.5.done)
others_keep_devices k next an_abort ram h = kept_told k next h.1.next (told_aborted k.told k.state h.1.next) ram h.1.is_next (aborts k.state h.1.next h.0 h.1.done)
others_keep_devices k next a_taking ram h = kept_by k next h.5.next ram h.5.is_next (takes k.told k.state h.5.next h.0 h.1 h.2 h.3 h.4 h.5.done)
others_keep_devices k next a_telling ram h = kept_by k next h.2.next ram h.2.is_next (tells k.told k.state h.2.next h.0 h.1 h.2.done)
others_keep_devices k next a_loan ram h = kept_by k next h.3.next ram h.3.is_next (lends (lend_refusal_of k.state (length h.0.content)) k.state h.3.next h.0 h.2 h.1 h.3.done)
others_keep_devices k next a_return ram h =
    kept_by k next h.4.next ram h.4.is_next (returns (back_refusal_of k.state (length h.0.content) h.1) k.state h.4.next h.0 h.3 (named_pages h.1 (lent_pages k.state)) (needs_list h.1) h.2 _ h.4.done)
others_keep_devices k next a_mark ram h =
    kept_by k next h.2.next ram h.2.is_next (marks (mark_refusal k.state h.0) k.state h.2.next (named_pages h.0 (all_pages k.state)) (needs_list h.0) h.1 _ h.2.done)
others_keep_devices k next a_list_of_pages ram h =
    let is = some_is next (record k { written = h.5.left }) h.5.is_next in
    (ap (λ (x : KeptSeen). devices_of x.state) is, ap (λ (x : KeptSeen). x.calls) is, subst (λ (x : KeptSeen). HasRam x.state) (sym is) ram)
others_keep_devices k next a_sector_read ram h = kept_by k next h.5.next ram h.5.is_next (reads (sector_refusal k.state h.0 h.1) k.state h.5.next h.0 h.1 h.2 h.3 h.4 h.5.done)
others_keep_devices k next a_save ram h = kept_by k next h.5.next ram h.5.is_next (saves k.state h.5.next h.0 h.1 h.2 h.3 h.4 h.5.done)
