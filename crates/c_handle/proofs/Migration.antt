-- The migration of what lies behind a handle.
use Rattle.std.proofs.Common.{◌≡◌, ◌≢◌, ◌≤◌, ◌<◌, ◌-◌, ◌==◌, ℕ, suc, Bool, true, false, List, take, drop, length, refl, sym, ap, ◌∙◌, subst, arith, true≢false}
use Rattle.std.proofs.lemmas.Bool.Decides.{nat_tests}
use Rattle.dirtylog.specs.Members.{member_count}
use Rattle.std.specs.Prelude.{MatchOption, Option, Some, None, Result, Ok, Err}
use Rattle.machine.specs.Seen.{Seen}
use Rattle.sender.specs.Calls.{Does, Serves, copied_reply}
use Rattle.sender.specs.LiveState.{HasPlaces, LiveSeen, refusal_for}
use Rattle.sender.specs.Uncalled.{CallsNone}
use Rattle.sender.proofs.Uncalled.{uncalled_is_same}
use Rattle.sender.specs.declared.event.CopyAnswer.{CopyAnswer}
use Rattle.sender.specs.declared.event.CopyAnswer.TheVariants as answers
use Rattle.sender.specs.declared.event.LiveEvent.TheVariants as events
use Rattle.sender.specs.declared.event.LiveReply.{LiveReply}
use Rattle.sender.specs.declared.event.LiveReply.TheVariants as live
use Rattle.sender.specs.declared.mig_error.MigError.{MigError}
use Rattle.sender.specs.declared.mig_error.MigError.TheVariants as errors
use Rattle.c_handle.specs.Mirror.{is_closed}
use Rattle.c_handle.specs.Migrated.{AreCounted, AreTold, GoesOn, IsLeft, IsLeftLent, HasEnded, HasStopped, HasTaken, IsAnswered, IsMostByStop, SendsIf, SendsSome, SendsUpTo, TakesKept, TakesLent, end_status, is_none_due, send_refusal, stopped_pages, stopped_sectors}
use Rattle.c_handle.specs.SendStatus.{live_status, mig_status}
use Rattle.machine.specs.Layout.{pages_of}
use Rattle.sender.specs.LiveState.{now}
use Rattle.sender.specs.Parked.{LiveParkedSeen}
use Rattle.sender.specs.StopBytes.{IsStopBytes, IsStopBytesLent}
use Rattle.sender.specs.declared.event.Left.{Left}
use Rattle.c_handle.specs.declared.migrating.SendLeft.{SendLeft}
use Rattle.c_handle.specs.Kept.{LoanSeen, State, Still, Moving, Lent}

same_machine : (o : Option MigError) (l next : LiveSeen) (error : MigError) → MatchOption o (Does l events.Begin (live.Mig error) next) (λ x. (live.Mig error ≡ live.Mig x) × (next ≡ l)) → CallsNone l.machine next.machine → next.machine ≡ l.machine
same_machine None l next errors.StreamFailed after none = uncalled_is_same l.machine next.machine after.machine none
same_machine None l next errors.NotBegun after none = absurd after
same_machine None l next errors.AlreadyBegun after none = absurd after
same_machine None l next (errors.DiskFailed dev n) after none = absurd after
same_machine None l next errors.AlreadyStopped after none = absurd after
same_machine None l next errors.RoundsEnded after none = absurd after
same_machine (Some x) l next error after none = ap (λ (s : LiveSeen). s.machine) after.1

pub not_begun : (m last : Seen) (fresh l : LiveSeen) (error : MigError) → fresh.machine ≡ m → Serves fresh events.Begin (live.Mig error) l → CallsNone fresh.machine l.machine → last ≡ l.machine → last ≡ m
not_begun m last fresh l error is serves none gave = gave ∙ same_machine (refusal_for fresh.phase events.Begin) fresh l error serves none ∙ is

pub begun_again : (l next : LiveSeen) (reply : LiveReply) (status : ℕ) → HasPlaces l → Serves l events.Begin reply next → status ≡ live_status reply → IsAnswered l status next
begun_again l next reply status places serves told = record { reply = reply; places = places; serves = serves; status_is = told }

pub ended : (l next : LiveSeen) (reply : LiveReply) (status : ℕ) → HasPlaces l → Serves l events.EndRound reply next → status ≡ live_status reply → HasEnded l status next
ended l next reply status places serves told = record { reply = reply; places = places; serves = serves; status_is = told }

pub stopped : (l next : LiveSeen) (reply : LiveReply) (status pages old_pages sectors old_sectors : ℕ) → HasPlaces l → Serves l events.Stop reply next → status ≡ live_status reply → pages ≡ stopped_pages reply old_pages → sectors ≡ stopped_sectors reply old_sectors
    → HasStopped l status pages old_pages sectors old_sectors next
stopped l next reply status pages old_pages sectors old_sectors places serves told p s = record { reply = reply; places = places; serves = serves; status_is = told; pages_are = p; sectors_are = s }

pub still_takes : (told : Bool) (k : State) (m : Seen) (got : ℕ) (buf : List ℕ) → k ≡ Still m → TakesKept told k 17 got got buf buf (Still m)
still_takes told k m got buf is = subst (λ (x : State). TakesKept told x 17 got got buf buf (Still m)) (sym is) ((refl, refl, refl), refl)

pub moving_takes : (told known : Bool) (k : State) (l next : LiveSeen) (status got old_got : ℕ) (buf new_buf : List ℕ) → told ≡ known → k ≡ Moving l → HasTaken known l status got buf new_buf next → TakesKept told k status got old_got buf new_buf (Moving next)
moving_takes told known k l next status got old_got buf new_buf knows is was =
    subst (λ (b : Bool). TakesKept b k status got old_got buf new_buf (Moving next)) (sym knows) (subst (λ (x : State). TakesKept known x status got old_got buf new_buf (Moving next)) (sym is) was)

pub lent_takes : (told known : Bool) (k : State) (x next : LoanSeen) (status got old_got : ℕ) (buf new_buf : List ℕ) → told ≡ known → k ≡ Lent x → TakesLent known x status got old_got buf new_buf next → TakesKept told k status got old_got buf new_buf (Lent next)
lent_takes told known k x next status got old_got buf new_buf knows is was =
    subst (λ (b : Bool). TakesKept b k status got old_got buf new_buf (Lent next)) (sym knows) (subst (λ (s : State). TakesKept known s status got old_got buf new_buf (Lent next)) (sym is) was)

-- Items sent one after another: what is sent of the rest is sent of all.
abbrev pub IsOnWay : ℕ → LiveSeen → ℕ → LiveSeen → Type 0
IsOnWay most l left mid = (status : ℕ) (next : LiveSeen) → SendsUpTo left mid status next → SendsUpTo most l status next

pub one_more : (left : ℕ) → 0 < left → left ≡ suc (left - 1)
one_more left some = omega (arith, some)

none_due : (l : LiveSeen) (due : ℕ) → due ≡ member_count l.due → due ≡ 0 → is_none_due l ≡ true
none_due l due counted zero = rw (sym counted ∙ zero) refl

some_due : (l : LiveSeen) (due : ℕ) → due ≡ member_count l.due → due ≢ 0 → is_none_due l ≡ false
some_due l due counted some = rw (← counted) (let no : (due == 0) ≡ false = grind (arith, nat_tests) in no)

at_none : (none : Bool) (n : ℕ) (l : LiveSeen) → is_none_due l ≡ none → none ≡ true → SendsIf (is_none_due l) (λ (mid : LiveSeen). SendsUpTo n mid 76 l) l 76 l
at_none true n l is so = rw is (refl, refl)
at_none false n l is so = absurd (true≢false (sym so))

-- Nothing is due any more.
pub none_left : (most left due : ℕ) (l mid : LiveSeen) → 0 < left → due ≡ member_count mid.due → due ≡ 0 → IsOnWay most l left mid → SendsUpTo most l 76 mid
none_left most left due l mid some counted zero way =
    way 76 mid (subst (λ (n : ℕ). SendsUpTo n mid 76 mid) (sym (one_more left some)) (at_none (is_none_due mid) (left - 1) mid refl (none_due mid due counted zero)))

sends_one : (none : Bool) (rest : LiveSeen → Type 0) (l mid next : LiveSeen) (reply : LiveReply) (status : ℕ) → none ≡ false → HasPlaces l → Serves l events.Copy reply mid → GoesOn reply rest mid status next → SendsIf none rest l status next
sends_one true rest l mid next reply status some places serves goes = absurd (true≢false some)
sends_one false rest l mid next reply status some places serves goes = record { mid = mid; reply = reply; places = places; serves = serves; goes_on = goes }

goes_with : (answer : CopyAnswer) (rest : LiveSeen → Type 0) (mid : LiveSeen) (status : ℕ) (next : LiveSeen) → rest mid → GoesOn (copied_reply (Ok answer)) rest mid status next
goes_with (answers.Copied item) rest mid status next h = h
goes_with answers.RoundDone rest mid status next h = h

-- One more item was sent.
pub one_sent : (most left due : ℕ) (l now mid : LiveSeen) (answer : Result CopyAnswer MigError) (copy : CopyAnswer) → answer ≡ Ok copy → 0 < left → due ≡ member_count now.due → due ≢ 0 → HasPlaces now → Serves now events.Copy (copied_reply answer) mid
    → IsOnWay most l left now → IsOnWay most l (left - 1) mid
one_sent most left due l now mid answer copy is more counted some places serves way status next rest =
    let served : Serves now events.Copy (copied_reply (Ok copy)) mid = subst (λ (r : Result CopyAnswer MigError). Serves now events.Copy (copied_reply r) mid) is serves in
    way status next (subst (λ (n : ℕ). SendsUpTo n now status next) (sym (one_more left more))
    (sends_one (is_none_due now) (λ (x : LiveSeen). SendsUpTo (left - 1) x status next) now mid next (copied_reply (Ok copy)) status (some_due now due counted some) places served (goes_with copy (λ (x : LiveSeen). SendsUpTo (left - 1) x status next) mid status next rest)))

-- One was refused, and ended it.
pub one_refused : (most left due : ℕ) (l now mid : LiveSeen) (answer : Result CopyAnswer MigError) (error : MigError) (status : ℕ) → answer ≡ Err error → 0 < left → due ≡ member_count now.due → due ≢ 0 → HasPlaces now → Serves now events.Copy (copied_reply answer) mid
    → status ≡ mig_status error → IsOnWay most l left now → SendsUpTo most l status mid
one_refused most left due l now mid answer error status is more counted some places serves told way =
    let served : Serves now events.Copy (live.Mig error) mid = subst (λ (r : Result CopyAnswer MigError). Serves now events.Copy (copied_reply r) mid) is serves in
    way status mid (subst (λ (n : ℕ). SendsUpTo n now status mid) (sym (one_more left more))
    (sends_one (is_none_due now) (λ (x : LiveSeen). SendsUpTo (left - 1) x status mid) now mid mid (live.Mig error) status (some_due now due counted some) places served (told, refl)))

-- As many were sent as may be.
at_end : (left status : ℕ) (mid : LiveSeen) → left ≡ 0 → status ≡ end_status (is_none_due mid) → SendsUpTo left mid status mid
at_end left status mid end told = subst (λ (n : ℕ). SendsUpTo n mid status mid) (sym end) (told, refl)

pub all_sent : (most left due : ℕ) (l mid : LiveSeen) → left ≤ 0 → due ≡ member_count mid.due → due ≢ 0 → IsOnWay most l left mid → SendsUpTo most l 0 mid
all_sent most left due l mid end counted some way = way 0 mid (at_end left 0 mid (omega (arith, end)) (rw (some_due mid due counted some) refl))

pub none_at_end : (most left due : ℕ) (l mid : LiveSeen) → left ≤ 0 → due ≡ member_count mid.due → due ≡ 0 → IsOnWay most l left mid → SendsUpTo most l 76 mid
none_at_end most left due l mid end counted zero way = way 76 mid (at_end left 76 mid (omega (arith, end)) (rw (none_due mid due counted zero) refl))

-- By whether it is refused.
pub some_refused : (l : LiveSeen) (most status : ℕ) (answer : Option ℕ) → answer ≡ Some status → answer ≡ send_refusal l.phase → SendsSome l most status l
some_refused l most status answer is asked = rw (sym asked ∙ is) (refl, refl)

pub some_sent : (l next : LiveSeen) (most status : ℕ) (answer : Option ℕ) → answer ≡ None → answer ≡ send_refusal l.phase → SendsUpTo most l status next → SendsSome l most status next
some_sent l next most status answer is asked sends = rw (sym asked ∙ is) sends

-- What is left, by the two sets, whether RAM is here or lent.
counted : (pages : ℕ) (due dirty : List Bool) (items : Left) (stop status : ℕ) (left : SendLeft) → items.due_pages ≡ member_count (take pages due) → items.due_sectors ≡ member_count (drop pages due) → items.dirty_pages ≡ member_count (take pages dirty)
    → items.dirty_sectors ≡ member_count (drop pages dirty) → AreTold items stop status left → AreCounted pages due dirty left
counted pages due dirty items stop status left a b c d told = record {
  due_pages = ap (λ (s : SendLeft). s.due_pages) told.left_is ∙ a;
  due_sectors = ap (λ (s : SendLeft). s.due_sectors) told.left_is ∙ b;
  dirty_pages = ap (λ (s : SendLeft). s.dirty_pages) told.left_is ∙ c;
  dirty_sectors = ap (λ (s : SendLeft). s.dirty_sectors) told.left_is ∙ d;
}

pub left_moving : (l : LiveSeen) (items : Left) (stop status : ℕ) (left : SendLeft) → items.due_pages ≡ member_count (take (pages_of (now l)) l.due) → items.due_sectors ≡ member_count (drop (pages_of (now l)) l.due)
    → items.dirty_pages ≡ member_count (take (pages_of (now l)) l.dirty) → items.dirty_sectors ≡ member_count (drop (pages_of (now l)) l.dirty) → IsMostByStop (is_closed l.phase) (IsStopBytes l) stop → AreTold items stop status left → IsLeft l status left
left_moving l items stop status left a b c d within told = record {
  status_is = told.status_is;
  counted = counted (pages_of (now l)) l.due l.dirty items stop status left a b c d told;
  stop_bytes = subst (λ (n : ℕ). IsMostByStop (is_closed l.phase) (IsStopBytes l) n) (sym (ap (λ (s : SendLeft). s.stop_bytes) told.left_is)) within;
  reserved = ap (λ (s : SendLeft). s.reserved) told.left_is;
}

pub left_moving_lent : (l : LiveParkedSeen) (items : Left) (stop status : ℕ) (left : SendLeft) → items.due_pages ≡ member_count (take (length l.machine.memory) l.due) → items.due_sectors ≡ member_count (drop (length l.machine.memory) l.due)
    → items.dirty_pages ≡ member_count (take (length l.machine.memory) l.dirty) → items.dirty_sectors ≡ member_count (drop (length l.machine.memory) l.dirty) → IsMostByStop (is_closed l.phase) (IsStopBytesLent l) stop → AreTold items stop status left → IsLeftLent l status left
left_moving_lent l items stop status left a b c d within told = record {
  status_is = told.status_is;
  counted = counted (length l.machine.memory) l.due l.dirty items stop status left a b c d told;
  stop_bytes = subst (λ (n : ℕ). IsMostByStop (is_closed l.phase) (IsStopBytesLent l) n) (sym (ap (λ (s : SendLeft). s.stop_bytes) told.left_is)) within;
  reserved = ap (λ (s : SendLeft). s.reserved) told.left_is;
}
