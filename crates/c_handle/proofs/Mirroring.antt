-- Pages handed in and out, by cases on the handle and on what lies behind it.
use Rattle.std.proofs.Common.{◌≡◌, ◌≤◌, ◌<◌, ◌*◌, ◌^◌, ◌+◌, ◌-◌, ℕ, zero, suc, Bool, true, false, nat_lt, List, [], ◌∷◌, refl, sym, ap, ◌∙◌, subst, arith, length, drop, get_or, take, true≢false}
use Rattle.std.specs.Prelude.{MatchOption, Option, Some, None, Result, Ok, Err, slice_index, slice_set}
use Rattle.std.proofs.lemmas.Bool.Decides.{nat_tests}
use Rattle.std.proofs.lemmas.List.{drop_all, drop_more}
use Rattle.guestmem.specs.Later.{IsLater}
use Rattle.guestmem.specs.Page.{page_of}
use Rattle.guestmem.specs.Address.{access_refusal}
use Rattle.guestmem.specs.Maybe.{after_if}
use Rattle.machine.specs.PageLog.{noted}
use Rattle.machine.specs.Applied.{IsApplied, IsAppliedLogged}
use Rattle.sender.specs.Logged.{GuestsLogged, ServesLogged}
use Rattle.machine.specs.Direct.{done_reply}
use Rattle.machine.specs.Parked.{page_address}
use Rattle.machine.specs.Seen.{Seen, state_of}
use Rattle.machine.specs.Sound.{IsBase, IsSound}
use Rattle.machine.specs.State.{base_of}
use Rattle.machine.proofs.GivenBack.{based_of}
use Rattle.machine.specs.declared.event.Event.{Event}
use Rattle.machine.specs.declared.event.Event.TheVariants.{MemWrite}
use Rattle.machine.specs.declared.reply.Refusal.{Refusal}
use Rattle.machine.specs.declared.reply.Reply.{Reply}
use Rattle.machine.specs.declared.reply.Reply.TheVariants.{Done}
use Rattle.sender.specs.Calls.{guest_reply}
use Rattle.sender.specs.LiveState.{HasPlaces, LiveSeen, refusal_for}
use Rattle.sender.specs.declared.event.LiveEvent.TheVariants.{Guest}
use Rattle.sender.specs.declared.event.LiveReply.TheVariants as live
use Rattle.sender.specs.declared.mig_error.MigError.{MigError}
use Rattle.sender.specs.declared.phase.Phase.{Phase}
use Rattle.sender.specs.declared.phase.Phase.TheVariants as phases
use Rattle.c_handle.specs.Mirror.{ArePushed, IsPushed, is_closed}
use Rattle.c_machine.specs.Named.{are_pages}
use Rattle.c_handle.specs.Told.{IsServedWrite}
use Rattle.c_handle.specs.Kept.{State, Still, Moving}
use Rattle.c_machine.proofs.PageNumbers.{both_left, both_right, is_page}
use Rattle.c_handle.proofs.Mirrored.{whole_page}

-- A write of a whole page that there is: it is done.
pub none_inside : (base len at count : ℕ) → base + at < 2 ^ 64 → count ≡ 4096 → at + count ≤ len → access_refusal base len (base + at) count ≡ None
none_inside base len at count exists size inside = grind (arith, nat_tests)

fine_reply : (m next : Seen) (n : ℕ) (bytes : List ℕ) (reply : Reply) → IsSound (state_of m) → IsApplied m (MemWrite (page_address m n) bytes) reply next → length bytes ≡ 4096 → 4096 * n + 4096 ≤ length m.memory.bytes → reply ≡ Done
fine_reply m next n bytes reply sound applied size inside =
    let base = base_of (state_of m).devices in
    let len = length m.memory.bytes in
    let based : IsBase base len = based_of (state_of m) sound in
    let exists : base + 4096 * n < 2 ^ 64 = omega (arith, inside, based.reach) in
    let within : 4096 * n + length bytes ≤ len = omega (arith, size, inside) in
    let none : access_refusal base len (page_address m n) (length bytes) ≡ None = none_inside base len (4096 * n) (length bytes) exists size within in
    applied.has.reply_is ∙ rw none refl

-- The page of a caller whose RAM is as long as the machine's.
pub page_size : (ram : List ℕ) (n len : ℕ) → 4096 * n + 4096 ≤ len → len ≤ length ram → length (page_of ram n) ≡ 4096
page_size ram n len inside long = whole_page ram n (omega (arith, inside, long))

pub pushed_still : (m next : Seen) (log new_log : Option (List Bool)) (n addr : ℕ) (bytes ram seen new_seen : List ℕ) (answer : Result (Unit {0}) Refusal) → IsSound (state_of m) → addr ≡ page_address m n → IsAppliedLogged (after_if noted) m log (MemWrite addr bytes) (done_reply answer) next new_log
    → bytes ≡ page_of ram n → 4096 * n + 4096 ≤ length m.memory.bytes → length m.memory.bytes ≤ length ram → new_seen ≡ slice_set seen n (slice_index next.memory.versions n)
    → IsPushed (Still m) log n ram seen new_seen (Still next) new_log
pushed_still m next log new_log n addr bytes ram seen new_seen answer sound there was is inside long versioned =
    let placed : IsAppliedLogged (after_if noted) m log (MemWrite (page_address m n) bytes) (done_reply answer) next new_log = subst (λ (a : ℕ). IsAppliedLogged (after_if noted) m log (MemWrite a bytes) (done_reply answer) next new_log) there was in
    let logged : IsAppliedLogged (after_if noted) m log (MemWrite (page_address m n) (page_of ram n)) (done_reply answer) next new_log = subst (λ (l : List ℕ). IsAppliedLogged (after_if noted) m log (MemWrite (page_address m n) l) (done_reply answer) next new_log) is placed in
    let fine : done_reply answer ≡ Done = fine_reply m next n (page_of ram n) (done_reply answer) sound logged.is_applied (page_size ram n (length m.memory.bytes) inside long) inside in
    record {
      written = record { reply = Done; logged = subst (λ (r : Reply). IsAppliedLogged (after_if noted) m log (MemWrite (page_address m n) (page_of ram n)) r next new_log) fine logged; status_is = refl };
      noted = versioned;
    }

-- The same of a machine that is sent, and was not stopped.
pub going_for : (p : Phase) (e : Event) → is_closed p ≡ false → refusal_for p (Guest e) ≡ None
going_for phases.Fresh e going = refl
going_for (phases.Open k) e going = refl
going_for phases.Stopped e going = absurd (true≢false going)
going_for phases.Failed e going = refl

pub record IsServedPage (l : LiveSeen) (log : Option (List Bool)) (addr : ℕ) (bytes : List ℕ) (next : LiveSeen) (new_log : Option (List Bool)) : Type 0 where
  pub served : IsServedWrite l log addr bytes 0 next new_log
  pub later : IsLater l.machine.memory next.machine.memory
  pub phase : next.phase ≡ l.phase

served_by : (o : Option MigError) (l next : LiveSeen) (log new_log : Option (List Bool)) (n : ℕ) (bytes : List ℕ) (answer : Result Reply MigError) → o ≡ None → HasPlaces l → ServesLogged (after_if noted) l log (MemWrite (page_address l.machine n) bytes) (guest_reply answer) next new_log
    → MatchOption o (GuestsLogged (after_if noted) l log (MemWrite (page_address l.machine n) bytes) (guest_reply answer) next new_log) (λ x. (guest_reply answer ≡ live.Mig x) × (next ≡ l) × (new_log ≡ log))
    → length bytes ≡ 4096 → 4096 * n + 4096 ≤ length l.machine.memory.bytes → IsServedPage l log (page_address l.machine n) bytes next new_log
served_by (Some x) l next log new_log n bytes answer none places serves does size inside = absurd cc
served_by None l next log new_log n bytes (Err x) none places serves does size inside = absurd does
served_by None l next log new_log n bytes (Ok reply) none places serves does size inside =
    let fine : reply ≡ Done = fine_reply l.machine next.machine n bytes reply places.sound does.guest.is_applied size inside in
    record {
      served = record { reply = live.Guest reply; places = places; serves = serves; status_is = rw fine refl };
      later = does.guest.is_applied.later;
      phase = ap (λ (s : LiveSeen). s.phase) does.guest.rest;
    }

pub served_page : (l next : LiveSeen) (log new_log : Option (List Bool)) (n addr : ℕ) (bytes ram : List ℕ) (answer : Result Reply MigError) → is_closed l.phase ≡ false → HasPlaces l → addr ≡ page_address l.machine n → ServesLogged (after_if noted) l log (MemWrite addr bytes) (guest_reply answer) next new_log
    → bytes ≡ page_of ram n → 4096 * n + 4096 ≤ length l.machine.memory.bytes → length l.machine.memory.bytes ≤ length ram → IsServedPage l log (page_address l.machine n) (page_of ram n) next new_log
served_page l next log new_log n addr bytes ram answer going places there was is inside long =
    let at = page_address l.machine n in
    let placed : ServesLogged (after_if noted) l log (MemWrite at bytes) (guest_reply answer) next new_log = subst (λ (a : ℕ). ServesLogged (after_if noted) l log (MemWrite a bytes) (guest_reply answer) next new_log) there was in
    let serves : ServesLogged (after_if noted) l log (MemWrite at (page_of ram n)) (guest_reply answer) next new_log = subst (λ (b : List ℕ). ServesLogged (after_if noted) l log (MemWrite at b) (guest_reply answer) next new_log) is placed in
    served_by (refusal_for l.phase (Guest (MemWrite at (page_of ram n)))) l next log new_log n (page_of ram n) answer (going_for l.phase (MemWrite at (page_of ram n)) going) places serves serves
    (page_size ram n (length l.machine.memory.bytes) inside long) inside

pub pushed_live : (l next : LiveSeen) (log new_log : Option (List Bool)) (n : ℕ) (ram seen new_seen : List ℕ) → IsServedPage l log (page_address l.machine n) (page_of ram n) next new_log → new_seen ≡ slice_set seen n (slice_index next.machine.memory.versions n)
    → IsPushed (Moving l) log n ram seen new_seen (Moving next) new_log
pushed_live l next log new_log n ram seen new_seen was versioned = record { written = was.served; noted = versioned }

-- One page after another: what is pushed of the rest is pushed of all.
abbrev pub IsOnWay : State → Option (List Bool) → List ℕ → List ℕ → List ℕ → State → Option (List Bool) → List ℕ → List ℕ → Type 0
IsOnWay k log pages ram seen now log_now rest seen_now = (next : State) (new_log : Option (List Bool)) (new_seen : List ℕ) → ArePushed now log_now rest ram seen_now new_seen next new_log → ArePushed k log pages ram seen new_seen next new_log

pub goes_on : (k now mid : State) (log log_now mid_log : Option (List Bool)) (pages ram seen seen_now mid_seen : List ℕ) (i n : ℕ) → i < length pages → n ≡ get_or pages i 0 → IsOnWay k log pages ram seen now log_now (drop i pages) seen_now
    → IsPushed now log_now n ram seen_now mid_seen mid mid_log → IsOnWay k log pages ram seen mid mid_log (drop (i + 1) pages) mid_seen
goes_on k now mid log log_now mid_log pages ram seen seen_now mid_seen i n below is way pushed next new_log new_seen rest =
    let at : drop i pages ≡ n ∷ drop (i + 1) pages = rw is (drop_more pages i 0 below) in
    way next new_log new_seen (subst (λ (l : List ℕ). ArePushed now log_now l ram seen_now new_seen next new_log) (sym at) (mid, mid_log, mid_seen, pushed, rest))

pub at_end : (k now : State) (log log_now : Option (List Bool)) (pages ram seen seen_now : List ℕ) (i : ℕ) → length pages ≤ i → IsOnWay k log pages ram seen now log_now (drop i pages) seen_now → ArePushed k log pages ram seen seen_now now log_now
at_end k now log log_now pages ram seen seen_now i end way =
    way now log_now seen_now (subst (λ (l : List ℕ). ArePushed now log_now l ram seen_now seen_now now log_now) (sym (drop_all i pages end)) (refl, refl, refl))

-- Each of the numbers is that of a page.
pub page_at : (count : ℕ) (pages : List ℕ) (i : ℕ) → are_pages count pages ≡ true → i < length pages → get_or pages i 0 < count
page_at count [] i are below = absurd (omega (arith, below))
page_at count (n ∷ pages) zero are below = is_page n count (both_left (nat_lt n count) (are_pages count pages) are)
page_at count (n ∷ pages) (suc i) are below = page_at count pages i (both_right (nat_lt n count) (are_pages count pages) are) (omega (arith, below))

-- What a slice of the caller's RAM from a page's first byte on is.
pub page_slice : (ram : List ℕ) (n : ℕ) → take (4096 * n + 4096 - 4096 * n) (drop (4096 * n) ram) ≡ page_of ram n
page_slice ram n = let size : 4096 * n + 4096 - 4096 * n ≡ 4096 = omega arith in rw size refl
