-- Sectors that are sent, and rounds that end, while RAM is lent.
use Rattle.std.proofs.Common.{◌≡◌, ◌≢◌, ◌≤◌, ◌<◌, ◌-◌, ◌==◌, ℕ, zero, suc, false, length, refl, sym, ap, ◌∙◌, subst, arith}
use Rattle.std.proofs.lemmas.Bool.Decides.{nat_tests}
use Rattle.std.specs.Prelude.{Option, Some, None, Result, Ok, Err}
use Rattle.dirtylog.specs.Members.{member_count}
use Rattle.machine.specs.Parked.{ParkedSeen, parked_states}
use Rattle.sender.specs.HandedIn.{IsNextPage}
use Rattle.sender.specs.Parked.{LiveParkedSeen}
use Rattle.sender.specs.ParkedCalls.{EndsLent}
use Rattle.sender.specs.SectorsLent.{CopiesSector}
use Rattle.sender.specs.declared.event.LiveReply.{LiveReply}
use Rattle.sender.specs.declared.event.SectorAnswer.{SectorAnswer}
use Rattle.sender.specs.declared.event.SectorAnswer.TheVariants as sent
use Rattle.sender.specs.declared.mig_error.MigError.{MigError}
use Rattle.c_handle.specs.Migrated.{HasEndedLent, SectorGoesOn, SectorsUpTo, SendsBy, SendsSectors, SendsSomeLent, end_status, send_refusal}
use Rattle.c_handle.specs.OnHandle.{Unless}
use Rattle.c_handle.specs.SendStatus.{live_status, mig_status}
use Rattle.c_handle.proofs.Migration.{one_more}

-- Sectors sent one after another: what is sent of the rest is sent of all.
abbrev pub IsOnWayLent : ℕ → LiveParkedSeen → ℕ → LiveParkedSeen → Type 0
IsOnWayLent most p left mid = (status : ℕ) (next : LiveParkedSeen) → SectorsUpTo left mid status next → SectorsUpTo most p status next

sends_one : (most left status : ℕ) (p now mid next : LiveParkedSeen) (result : Result SectorAnswer MigError) → 0 < left → CopiesSector now result mid → IsOnWayLent most p left now → SectorGoesOn result (λ (x : LiveParkedSeen). SectorsUpTo (left - 1) x status next) mid status next
    → SectorsUpTo most p status next
sends_one most left status p now mid next result more copies way goes =
    way status next (subst (λ (n : ℕ). SectorsUpTo n now status next) (sym (one_more left more)) (record { mid = mid; result = result; copies = copies; goes_on = goes }))

-- One more sector was sent.
pub one_sector : (most left dev n : ℕ) (p now mid : LiveParkedSeen) (result : Result SectorAnswer MigError) → result ≡ Ok (sent.Copied dev n) → 0 < left → CopiesSector now result mid → IsOnWayLent most p left now → IsOnWayLent most p (left - 1) mid
one_sector most left dev n p now mid result is more copies way status next rest =
    sends_one most left status p now mid next (Ok (sent.Copied dev n)) more (subst (λ (r : Result SectorAnswer MigError). CopiesSector now r mid) is copies) way rest

-- It ended: a page is next, nothing is due, or it was refused.
pub page_due : (most left page : ℕ) (p now mid : LiveParkedSeen) (result : Result SectorAnswer MigError) → result ≡ Ok (sent.PageDue page) → 0 < left → CopiesSector now result mid → IsOnWayLent most p left now → SectorsUpTo most p 0 mid
page_due most left page p now mid result is more copies way = sends_one most left 0 p now mid mid (Ok (sent.PageDue page)) more (subst (λ (r : Result SectorAnswer MigError). CopiesSector now r mid) is copies) way (refl, refl)

pub none_due : (most left : ℕ) (p now mid : LiveParkedSeen) (result : Result SectorAnswer MigError) → result ≡ Ok sent.RoundDone → 0 < left → CopiesSector now result mid → IsOnWayLent most p left now → SectorsUpTo most p 76 mid
none_due most left p now mid result is more copies way = sends_one most left 76 p now mid mid (Ok sent.RoundDone) more (subst (λ (r : Result SectorAnswer MigError). CopiesSector now r mid) is copies) way (refl, refl)

pub sector_refused : (most left status : ℕ) (p now mid : LiveParkedSeen) (result : Result SectorAnswer MigError) (error : MigError) → result ≡ Err error → 0 < left → CopiesSector now result mid → status ≡ mig_status error → IsOnWayLent most p left now → SectorsUpTo most p status mid
sector_refused most left status p now mid result error is more copies told way = sends_one most left status p now mid mid (Err error) more (subst (λ (r : Result SectorAnswer MigError). CopiesSector now r mid) is copies) way (told, refl)

-- As many were sent as may be.
at_end : (most left status : ℕ) (p mid : LiveParkedSeen) → left ≤ 0 → status ≡ end_status (member_count mid.due == 0) → IsOnWayLent most p left mid → SectorsUpTo most p status mid
at_end most left status p mid end told way =
    let none : left ≡ 0 = omega (arith, end) in
    way status mid (subst (λ (n : ℕ). SectorsUpTo n mid status mid) (sym none) (told, refl))

pub all_sent : (most left due : ℕ) (p mid : LiveParkedSeen) → left ≤ 0 → due ≡ member_count mid.due → due ≢ 0 → IsOnWayLent most p left mid → SectorsUpTo most p 0 mid
all_sent most left due p mid end counted some way =
    let no : (member_count mid.due == 0) ≡ false = rw (← counted) (let other : (due == 0) ≡ false = grind (arith, nat_tests) in other) in
    at_end most left 0 p mid end (rw no refl) way

pub none_at_end : (most left due : ℕ) (p mid : LiveParkedSeen) → left ≤ 0 → due ≡ member_count mid.due → due ≡ 0 → IsOnWayLent most p left mid → SectorsUpTo most p 76 mid
none_at_end most left due p mid end counted nothing way = at_end most left 76 p mid end (rw (sym counted ∙ nothing) refl) way

-- By whether it is refused, and by what is next.
pub some_refused : (p : LiveParkedSeen) (most status : ℕ) (answer : Option ℕ) → answer ≡ Some status → answer ≡ send_refusal p.phase → SendsSomeLent p most status p
some_refused p most status answer is asked = rw (sym asked ∙ is) (refl, refl)

some_by : (p next : LiveParkedSeen) (most status : ℕ) (answer page : Option ℕ) → answer ≡ None → answer ≡ send_refusal p.phase → IsNextPage (length p.machine.memory) p.due page → SendsBy page most p status next → SendsSomeLent p most status next
some_by p next most status answer page is asked is_next sends = rw (sym asked ∙ is) (record { page = page; is_next = is_next; sends = sends })

pub page_first : (p : LiveParkedSeen) (most n : ℕ) (answer page : Option ℕ) → answer ≡ None → answer ≡ send_refusal p.phase → IsNextPage (length p.machine.memory) p.due page → page ≡ Some n → SendsSomeLent p most 23 p
page_first p most n answer page is asked is_next some = some_by p p most 23 answer (Some n) is asked (subst (IsNextPage (length p.machine.memory) p.due) some is_next) (refl, refl)

pub sectors_sent : (p next : LiveParkedSeen) (most status : ℕ) (answer page : Option ℕ) → answer ≡ None → answer ≡ send_refusal p.phase → IsNextPage (length p.machine.memory) p.due page → page ≡ None → SectorsUpTo most p status next → SendsSomeLent p most status next
sectors_sent p next most status answer page is asked is_next none sends = some_by p next most status answer None is asked (subst (IsNextPage (length p.machine.memory) p.due) none is_next) sends

pub ended : (p next : LiveParkedSeen) (reply : LiveReply) (status : ℕ) → EndsLent p reply next → status ≡ live_status reply → HasEndedLent p status next
ended p next reply status ends told = record { reply = reply; ends = ends; status_is = told }

-- Devices and the count of pages are as they were.
pub record IsSameLent (p next : LiveParkedSeen) : Type 0 where
  pub states : parked_states next.machine ≡ parked_states p.machine
  pub versions : next.machine.memory ≡ p.machine.memory

same_lent : (p next : LiveParkedSeen) → next ≡ p → IsSameLent p next
same_lent p next same = record { states = ap (λ (x : LiveParkedSeen). parked_states x.machine) same; versions = ap (λ (x : LiveParkedSeen). x.machine.memory) same }

then_same : (p mid next : LiveParkedSeen) → IsSameLent p mid → IsSameLent mid next → IsSameLent p next
then_same p mid next a b = record { states = b.states ∙ a.states; versions = b.versions ∙ a.versions }

sector_same : (p next : LiveParkedSeen) (result : Result SectorAnswer MigError) → CopiesSector p result next → IsSameLent p next
sector_same p next (Ok (sent.Copied dev n)) c = record { states = c.kept.states; versions = c.kept.versions }
sector_same p next (Ok (sent.PageDue page)) c = same_lent p next c.same
sector_same p next (Ok sent.RoundDone) c = same_lent p next c.same
sector_same p next (Err error) c = record { states = c.kept.states; versions = c.kept.versions }

went_on : (result : Result SectorAnswer MigError) (rest : LiveParkedSeen → Type 0) (mid next : LiveParkedSeen) (status : ℕ) → (rest mid → IsSameLent mid next) → SectorGoesOn result rest mid status next → IsSameLent mid next
went_on (Ok (sent.Copied dev n)) rest mid next status after g = after g
went_on (Ok (sent.PageDue page)) rest mid next status after g = same_lent mid next g.1
went_on (Ok sent.RoundDone) rest mid next status after g = same_lent mid next g.1
went_on (Err error) rest mid next status after g = same_lent mid next g.1

up_to_same : (most : ℕ) (p next : LiveParkedSeen) (status : ℕ) → SectorsUpTo most p status next → IsSameLent p next
up_to_same zero p next status s = same_lent p next s.1
up_to_same (suc n) p next status s =
    then_same p s.mid next (sector_same p s.mid s.result s.copies) (went_on s.result (λ (mid : LiveParkedSeen). SectorsUpTo n mid status next) s.mid next status (λ rest. up_to_same n s.mid next status rest) s.goes_on)

by_same : (page : Option ℕ) (p next : LiveParkedSeen) (most status : ℕ) → SendsBy page most p status next → IsSameLent p next
by_same (Some n) p next most status s = same_lent p next s.1
by_same None p next most status s = up_to_same most p next status s

pub some_same : (o : Option ℕ) (p next : LiveParkedSeen) (most status : ℕ) → Unless o (λ reason. (status ≡ reason) × (next ≡ p)) (SendsSectors p most status next) → IsSameLent p next
some_same (Some reason) p next most status s = same_lent p next s.1
some_same None p next most status s = by_same s.page p next most status s.sends

pub ended_same : (p next : LiveParkedSeen) (status : ℕ) → HasEndedLent p status next → IsSameLent p next
ended_same p next status h = record { states = ap parked_states h.ends.parked; versions = ap (λ (q : ParkedSeen). q.memory) h.ends.parked }
