-- Mirrors of a machine's RAM.
use Rattle.std.proofs.Common.{◌≡◌, ◌≢◌, ◌≤◌, ◌<◌, ◌*◌, ◌+◌, ◌-◌, ◌/◌, ◌++◌, ◌==◌, ◌&&◌, ℕ, Bool, true, false, nat_lt, List, [], ◌∷◌, refl, sym, ap, subst, ◌∙◌, arith, length, drop, get_or, take, append_assoc, get_or-set_other, get_or-set_same}
use Rattle.std.specs.Prelude.{◌||◌, not, Option, Some, None, MatchOption, slice_index, slice_set, if◌then◌else◌}
use Rattle.std.proofs.lemmas.Bool.Decides.{nat_tests}
use Rattle.std.proofs.lemmas.Grind.{same_number_lists}
use Rattle.std.proofs.lemmas.List.{drop_at, get_or-drop, get_or-take, get_or_append_left, length-drop, length-set, length-take, length-take-le, take_at}
use Rattle.guestmem.specs.declared.error.RamError.{RamError}
use Rattle.guestmem.specs.declared.error.RamError.TheVariants as ram_error
use Rattle.guestmem.specs.Later.{IsLater}
use Rattle.guestmem.specs.Memory.{IsMemory, Memory}
use Rattle.guestmem.specs.Page.{page_of}
use Rattle.guestmem.proofs.PageLaws.{page_of_same}
use Rattle.guestmem.specs.Address.{access_refusal, index_of}
use Rattle.guestmem.specs.Write.{put_at}
use Rattle.guestmem.proofs.WriteLaws.{put_at_set_all}
use Rattle.guestmem.specs.Writes.{byte_writes, set_all}
use Rattle.machine.specs.Applied.{IsApplied}
use Rattle.machine.specs.Effect.{Effect, applied}
use Rattle.machine.specs.Parked.{page_address}
use Rattle.machine.specs.Seen.{Seen, state_of}
use Rattle.machine.specs.State.{base_of}
use Rattle.machine.specs.Step.{write_ram}
use Rattle.machine.specs.declared.event.Event.TheVariants.{MemWrite}
use Rattle.machine.specs.declared.reply.Reply.{Reply}
use Rattle.sender.specs.Calls.{Does}
use Rattle.sender.specs.LiveState.{LiveSeen, refusal_for}
use Rattle.sender.specs.declared.event.LiveEvent.TheVariants.{Guest}
use Rattle.sender.specs.declared.event.LiveReply.{LiveReply}
use Rattle.sender.specs.declared.event.LiveReply.TheVariants as live
use Rattle.sender.specs.declared.mig_error.MigError.{MigError}
use Rattle.c_handle.specs.Mirror.{AppliedMirrors, ArePushed, IsPushed, Mirrors, MirrorsPage, PulledMirrors, IsPushable, PushedMirrors, UnseenMirrors, is_among, is_away, is_noted, is_short, is_stopped, machine_in, memory_in, push_refusal, unseen}
use Rattle.c_machine.specs.Named.{are_pages, is_known_pages, pages_refusal}
use Rattle.c_handle.specs.SendStatus.{live_status}
use Rattle.c_machine.specs.Status.{status_of}
use Rattle.machine.specs.PageLog.{noted}
use Rattle.c_handle.proofs.PageLogs.{logged_is_served}
use Rattle.c_handle.specs.Told.{WritesKept}
use Rattle.c_handle.specs.Kept.{State, Still, Moving, Arriving, Lent}
use Rattle.c_machine.specs.declared.pages.Pages.{Pages}
use Rattle.c_machine.proofs.PageNumbers.{both_left, both_right, is_page}

-- What is noted, as tests and as facts.
tested_same : (a b c : ℕ) → (a == b && nat_lt b c) ≡ true → a ≡ b
tested_same a b c is = grind (arith, nat_tests)

tested_below : (a b c : ℕ) → (a == b && nat_lt b c) ≡ true → b < c
tested_below a b c is = grind (arith, nat_tests)

noted_same : (m : Memory) (seen : List ℕ) (n : ℕ) → is_noted m seen n ≡ true → slice_index seen n ≡ slice_index m.versions n
noted_same m seen n is = tested_same (slice_index seen n) (slice_index m.versions n) unseen is

noted_below : (m : Memory) (seen : List ℕ) (n : ℕ) → is_noted m seen n ≡ true → slice_index m.versions n < unseen
noted_below m seen n is = tested_below (slice_index seen n) (slice_index m.versions n) unseen is

noted_of : (a b c : ℕ) → a ≡ b → b < c → (a == b && nat_lt b c) ≡ true
noted_of a b c same below = grind (arith, nat_tests)

pub unseen_mirrors : UnseenMirrors
unseen_mirrors m ram seen none n below =
    let is : slice_index seen n ≡ unseen = none n below in
    record {
      not_ahead = λ small. absurd (omega (arith, is, small));
      same = λ noted. absurd (omega (arith, is, noted_same m seen n noted, noted_below m seen n noted));
    }

-- A page that is noted as it is later was noted so before, and nothing was written into it.
same_later : (m next : Memory) (ram seen : List ℕ) (n : ℕ) → IsLater m next → MirrorsPage m ram seen n → is_noted next seen n ≡ true → page_of ram n ≡ page_of next.bytes n
same_later m next ram seen n later was noted =
    let now : slice_index seen n ≡ slice_index next.versions n = noted_same next seen n noted in
    let small : slice_index next.versions n < unseen = noted_below next seen n noted in
    let low : slice_index seen n ≤ slice_index m.versions n = was.not_ahead (omega (arith, now, small)) in
    let same : slice_index next.versions n ≡ slice_index m.versions n = omega (arith, now, low, later.rises n) in
    let old : is_noted m seen n ≡ true = noted_of (slice_index seen n) (slice_index m.versions n) unseen (omega (arith, now, same)) (omega (arith, small, same)) in
    was.same old
    ∙ sym (page_of_same next.bytes m.bytes n later.bytes (λ a at.
    later.stays a (rw at same) (rw at (omega (arith, small, same)))))

page_later : (m next : Memory) (ram seen : List ℕ) (n : ℕ) → IsLater m next → MirrorsPage m ram seen n → MirrorsPage next ram seen n
page_later m next ram seen n later was = record {
  not_ahead = λ small. omega (arith, was.not_ahead small, later.rises n);
  same = λ noted. same_later m next ram seen n later was noted;
}

pub applied_mirrors : AppliedMirrors
applied_mirrors m next e reply ram seen applied mirrors n below =
    page_later m.memory next.memory ram seen n applied.later (mirrors n (omega (arith, below, applied.later.versions)))

-- Two lists with the same pages are the same, as far as the pages go.
pub byte_of_page : (xs : List ℕ) (n k : ℕ) → k < 4096 → get_or (page_of xs n) k 0 ≡ get_or xs (4096 * n + k) 0
byte_of_page xs n k below = rw (get_or-take, get_or-drop) refl

page_inside : (xs : List ℕ) (n : ℕ) → length (page_of xs n) ≡ 4096 → 4096 * n + 4096 ≤ length xs
page_inside xs n is = omega (arith, simp (length-take, length-drop) at is)

pub whole_page : (xs : List ℕ) (n : ℕ) → 4096 * n + 4096 ≤ length xs → length (page_of xs n) ≡ 4096
whole_page xs n inside = simp (length-take, length-drop) (omega (arith, inside))

same_byte : (new old : List ℕ) (a : ℕ) → page_of new (a / 4096) ≡ page_of old (a / 4096) → get_or new a 0 ≡ get_or old a 0
same_byte new old a same =
    let n = a / 4096 in
    let k = a - 4096 * n in
    let below : k < 4096 = omega arith in
    let is : 4096 * n + k ≡ a = omega arith in
    subst (λ (b : ℕ). get_or new b 0 ≡ get_or old b 0) is
    (sym (byte_of_page new n k below) ∙ ap (λ (p : List ℕ). get_or p k 0) same ∙ byte_of_page old n k below)

pub same_pages : (new old : List ℕ) (count : ℕ) → 1 ≤ count → length old ≡ 4096 * count → ((n : ℕ) → n < count → page_of new n ≡ page_of old n) → take (length old) new ≡ old
same_pages new old count some size same =
    let last : 4096 * (count - 1) + 4096 ≤ length new = page_inside new (count - 1) (ap length (same (count - 1) (omega arith)) ∙ whole_page old (count - 1) (omega (arith, size, some))) in
    let long : length (take (length old) new) ≡ length old = length-take-le (length old) new (omega (arith, last, size, some)) in
    same_number_lists (take (length old) new) old long
    (λ a below.
    let inside : a < length old = omega (arith, long, below) in
    get_or-take (length old) new a 0 inside ∙ same_byte new old a (same (a / 4096) (omega (arith, inside, size))))

pulled_page : (b : Bool) (m : Memory) (ram new_ram seen : List ℕ) (n : ℕ) → is_noted m seen n ≡ b → MirrorsPage m ram seen n
    → page_of new_ram n ≡ (if b then page_of ram n else page_of m.bytes n) → page_of new_ram n ≡ page_of m.bytes n
pulled_page true m ram new_ram seen n noted mirrors is = is ∙ mirrors.same noted
pulled_page false m ram new_ram seen n noted mirrors is = is

noted_now : (m : Memory) (seen new_seen : List ℕ) (n : ℕ) → new_seen ≡ m.versions ++ drop (length m.versions) seen → n < length m.versions → slice_index new_seen n ≡ slice_index m.versions n
noted_now m seen new_seen n is below = ap (λ (l : List ℕ). slice_index l n) is ∙ get_or_append_left m.versions (drop (length m.versions) seen) 0 n below

pub pulled_mirrors : PulledMirrors
pulled_mirrors m ram new_ram seen new_seen count mirrors pulled =
    let same : (n : ℕ) → n < length m.versions → page_of new_ram n ≡ page_of m.bytes n = λ n below. pulled_page (is_noted m seen n) m ram new_ram seen n refl (mirrors n below) (pulled.pages n below) in (
      same_pages new_ram m.bytes (length m.versions) pulled.sound.some pulled.sound.pages same,
      λ n below. record {
        not_ahead = λ small. omega (arith, noted_now m seen new_seen n pulled.noted below);
        same = λ noted. same n below;
      },
    )

-- What was handed in without a refusal is an event that was applied, and its bytes stand in RAM.
pub record Written (m : Seen) (addr : ℕ) (bytes : List ℕ) (next : Seen) : Type 0 where
  pub reply : Reply
  pub applied : IsApplied m (MemWrite addr bytes) reply next
  pub status : 0 ≡ status_of reply

fine_by : (o : Option MigError) (l next : LiveSeen) (addr : ℕ) (bytes : List ℕ) (reply : LiveReply) → 0 ≡ live_status reply
    → MatchOption o (Does l (Guest (MemWrite addr bytes)) reply next) (λ x. (reply ≡ live.Mig x) × (next ≡ l)) → Written l.machine addr bytes next.machine
fine_by None l next addr bytes (live.Guest r) told after = record { reply = r; applied = after.is_applied; status = told }
fine_by None l next addr bytes (live.Begun k) told after = absurd after
fine_by None l next addr bytes (live.Copied item) told after = absurd after
fine_by None l next addr bytes live.RoundDone told after = absurd after
fine_by None l next addr bytes live.RoundOpen told after = absurd after
fine_by None l next addr bytes (live.Stopped pages sectors) told after = absurd after
fine_by None l next addr bytes (live.Mig x) told after = absurd after
fine_by (Some x) l next addr bytes reply told after = let is : live_status reply ≡ live_status (live.Mig x) = ap live_status after.0 in absurd (omega (arith, is, told))

pub written_in : (k next : State) (log new_log : Option (List Bool)) (addr : ℕ) (bytes : List ℕ) → WritesKept k log addr bytes 0 next new_log → Written (machine_in k) addr bytes (machine_in next)
written_in (Still m) (Still next) log new_log addr bytes told = record { reply = told.reply; applied = told.logged.is_applied; status = told.status_is }
written_in (Moving l) (Moving next) log new_log addr bytes served = fine_by (refusal_for l.phase (Guest (MemWrite addr bytes))) l next addr bytes served.reply served.status_is (logged_is_served l next log new_log (MemWrite addr bytes) served.reply served.serves)
written_in (Arriving r) (Arriving next) log new_log addr bytes told = absurd (omega (arith, told.0.0))
written_in (Still m) (Moving next) log new_log addr bytes told = absurd told
written_in (Still m) (Arriving next) log new_log addr bytes told = absurd told
written_in (Moving l) (Still next) log new_log addr bytes told = absurd told
written_in (Moving l) (Arriving next) log new_log addr bytes told = absurd told
written_in (Arriving r) (Still next) log new_log addr bytes told = absurd told
written_in (Arriving r) (Moving next) log new_log addr bytes told = absurd told
written_in (Lent x) (Lent next) log new_log addr bytes told = absurd (omega (arith, told.0.0))
written_in (Still m) (Lent next) log new_log addr bytes told = absurd told
written_in (Moving l) (Lent next) log new_log addr bytes told = absurd told
written_in (Arriving r) (Lent next) log new_log addr bytes told = absurd told
written_in (Lent x) (Still next) log new_log addr bytes told = absurd told
written_in (Lent x) (Moving next) log new_log addr bytes told = absurd told
written_in (Lent x) (Arriving next) log new_log addr bytes told = absurd told

set_by : (e : Option RamError) (addr : ℕ) (ram bytes : List ℕ) (reply : Reply) (effect : Effect) → 0 ≡ status_of reply → reply ≡ (write_ram addr bytes e).reply → effect ≡ (write_ram addr bytes e).effect
    → set_all ram effect.writes ≡ set_all ram (byte_writes addr bytes)
set_by None addr ram bytes reply effect told reply_is effect_is = rw effect_is refl
set_by (Some ram_error.OutOfRam) addr ram bytes reply effect told reply_is effect_is = let is = rw reply_is at told in absurd (omega (arith, is))
set_by (Some ram_error.TooLong) addr ram bytes reply effect told reply_is effect_is = let is = rw reply_is at told in absurd (omega (arith, is))

set_in : (m next : Seen) (addr : ℕ) (bytes : List ℕ) → Written m addr bytes next → next.memory.bytes ≡ set_all m.memory.bytes (byte_writes (index_of (base_of (state_of m).devices) addr) bytes)
set_in m next addr bytes w =
    let base = base_of (state_of m).devices in
    ap (λ s. s.ram) (w.applied.changed tt)
    ∙ set_by (access_refusal base (length m.memory.bytes) addr (length bytes)) (index_of base addr) m.memory.bytes bytes w.reply w.applied.effect w.status w.applied.has.reply_is w.applied.has.effect_is

pub page_put : (old bytes : List ℕ) (n : ℕ) → length bytes ≡ 4096 → 4096 * n + 4096 ≤ length old → page_of (put_at old (4096 * n) bytes) n ≡ bytes
page_put old bytes n size inside =
    let at = 4096 * n in
    let rest = drop (at + length bytes) old in
    let front : length (take at old) ≡ at = length-take-le at old (omega (arith, inside)) in
    ap (λ (l : List ℕ). take 4096 (drop at l)) (append_assoc (take at old) bytes rest)
    ∙ ap (take 4096) (drop_at (take at old) (bytes ++ rest) at front)
    ∙ take_at bytes rest 4096 size

-- The page that was handed in is the machine's.
page_in : (m next : Seen) (n : ℕ) (ram : List ℕ) → 4096 * n + 4096 ≤ length m.memory.bytes → length m.memory.bytes ≤ length ram → Written m (page_address m n) (page_of ram n) next → page_of ram n ≡ page_of next.memory.bytes n
page_in m next n ram inside long w =
    let here : index_of (base_of (state_of m).devices) (page_address m n) ≡ 4096 * n = omega arith in
    let set : next.memory.bytes ≡ set_all m.memory.bytes (byte_writes (4096 * n) (page_of ram n)) = subst (λ (k : ℕ). next.memory.bytes ≡ set_all m.memory.bytes (byte_writes k (page_of ram n))) here (set_in m next (page_address m n) (page_of ram n) w) in
    let size : length (page_of ram n) ≡ 4096 = whole_page ram n (omega (arith, inside, long)) in
    let fits : 4096 * n + length (page_of ram n) ≤ length m.memory.bytes = omega (arith, size, inside) in
    sym (ap (λ (l : List ℕ). page_of l n) (set ∙ sym (put_at_set_all m.memory.bytes (4096 * n) (page_of ram n) fits)) ∙ page_put m.memory.bytes (page_of ram n) n size inside)

-- What a push of one page leaves of the mirror: that page is mirrored, and each other that was.
pushed_here : (m next : Seen) (n : ℕ) (ram seen : List ℕ) → 4096 * n + 4096 ≤ length m.memory.bytes → length m.memory.bytes ≤ length ram → n < length seen
    → Written m (page_address m n) (page_of ram n) next → MirrorsPage next.memory ram (slice_set seen n (slice_index next.memory.versions n)) n
pushed_here m next n ram seen inside long room w =
    let here : slice_index (slice_set seen n (slice_index next.memory.versions n)) n ≡ slice_index next.memory.versions n = get_or-set_same seen n (slice_index next.memory.versions n) 0 room in
    record {
      not_ahead = λ small. omega (arith, here);
      same = λ noted. page_in m next n ram inside long w;
    }

pushed_else : (m next : Seen) (n j : ℕ) (ram seen : List ℕ) → j ≢ n → IsLater m.memory next.memory → MirrorsPage m.memory ram seen j
    → MirrorsPage next.memory ram (slice_set seen n (slice_index next.memory.versions n)) j
pushed_else m next n j ram seen other later was =
    let now : MirrorsPage next.memory ram seen j = page_later m.memory next.memory ram seen j later was in
    let there : slice_index (slice_set seen n (slice_index next.memory.versions n)) j ≡ slice_index seen j = get_or-set_other seen n j (slice_index next.memory.versions n) 0 other in
    record {
      not_ahead = λ small. omega (arith, there, small, now.not_ahead (omega (arith, there, small)));
      same = λ noted. now.same (rw there at noted);
    }

pushed_by : (b : Bool) (m next : Seen) (n j : ℕ) (ram seen : List ℕ) → (j == n) ≡ b → 4096 * n + 4096 ≤ length m.memory.bytes → length m.memory.bytes ≤ length ram → n < length seen
    → Written m (page_address m n) (page_of ram n) next → ((j == n) ≡ false → MirrorsPage m.memory ram seen j)
    → MirrorsPage next.memory ram (slice_set seen n (slice_index next.memory.versions n)) j
pushed_by true m next n j ram seen is inside long room w other =
    let same : j ≡ n = grind (arith, nat_tests) in
    subst (λ (i : ℕ). MirrorsPage next.memory ram (slice_set seen n (slice_index next.memory.versions n)) i) (sym same) (pushed_here m next n ram seen inside long room w)
pushed_by false m next n j ram seen is inside long room w other =
    let differ : j ≢ n = grind (arith, nat_tests) in
    pushed_else m next n j ram seen differ w.applied.later (other is)

neither : (a b : Bool) → a ≡ false → b ≡ false → (a || b) ≡ false
neither a b not_a not_b = rw (not_a, not_b) refl

sound_later : (m next : Memory) → IsMemory m → IsLater m next → IsMemory next
sound_later m next sound later = record {
  pages = omega (arith, sound.pages, later.bytes, later.versions);
  some = omega (arith, sound.some, later.versions);
  few = omega (arith, sound.few, later.versions);
}

pushed_all : (k next : State) (log new_log : Option (List Bool)) (pages ram seen new_seen : List ℕ) → IsMemory (memory_in k) → length (memory_in k).bytes ≤ length ram → length (memory_in k).versions ≤ length seen
    → are_pages (length (memory_in k).versions) pages ≡ true → ((n : ℕ) → n < length (memory_in k).versions → is_among pages n ≡ false → MirrorsPage (memory_in k) ram seen n)
    → ArePushed k log pages ram seen new_seen next new_log → Mirrors (memory_in next) ram new_seen
pushed_all k next log new_log [] ram seen new_seen sound long room are others pushed =
    subst (λ (x : State). Mirrors (memory_in x) ram new_seen) (sym pushed.0) (subst (λ (s : List ℕ). Mirrors (memory_in k) ram s) (sym pushed.1) (λ n below. others n below refl))
pushed_all k next log new_log (p ∷ pages) ram seen new_seen sound long room are others pushed =
    let mid : State = pushed.0 in
    let mid_log : Option (List Bool) = pushed.1 in
    let one : IsPushed k log p ram seen pushed.2 mid mid_log = pushed.3 in
    let w : Written (machine_in k) (page_address (machine_in k) p) (page_of ram p) (machine_in mid) = written_in k mid log mid_log (page_address (machine_in k) p) (page_of ram p) one.written in
    let later : IsLater (memory_in k) (memory_in mid) = w.applied.later in
    let here : p < length (memory_in k).versions = is_page p (length (memory_in k).versions) (both_left (nat_lt p (length (memory_in k).versions)) (are_pages (length (memory_in k).versions) pages) are) in
    let rest : are_pages (length (memory_in mid).versions) pages ≡ true = rw (later.versions) (both_right (nat_lt p (length (memory_in k).versions)) (are_pages (length (memory_in k).versions) pages) are) in
    let inside : 4096 * p + 4096 ≤ length (memory_in k).bytes = omega (arith, here, sound.pages) in
    let places : length pushed.2 ≡ length seen = ap length one.noted ∙ length-set seen p (slice_index (memory_in mid).versions p) in
    pushed_all mid next mid_log new_log pages ram pushed.2 new_seen (sound_later (memory_in k) (memory_in mid) sound later) (omega (arith, long, later.bytes)) (omega (arith, room, later.versions, places)) rest
    (λ n below among.
    let old : n < length (memory_in k).versions = omega (arith, below, later.versions) in
    subst (λ (s : List ℕ). MirrorsPage (memory_in mid) ram s n) (sym one.noted)
    (pushed_by (n == p) (machine_in k) (machine_in mid) p n ram seen refl inside long (omega (arith, here, room)) w (λ other. others n old (neither (n == p) (is_among pages n) other among))))
    pushed.4

-- What no refusal means.
pub record IsReady (k : State) (pages : List ℕ) (bytes entries : ℕ) : Type 0 where
  pub room : length (memory_in k).bytes ≤ bytes
  pub places : length (memory_in k).versions ≤ entries
  pub are : are_pages (length (memory_in k).versions) pages ≡ true
  pub going : is_stopped k ≡ false

pub long_left : (a b c d : ℕ) → (nat_lt a b || nat_lt c d) ≡ false → b ≤ a
long_left a b c d is = grind (arith, nat_tests)

pub long_right : (a b c d : ℕ) → (nat_lt a b || nat_lt c d) ≡ false → d ≤ c
long_right a b c d is = grind (arith, nat_tests)

pub ready : (k : State) (pages : List ℕ) (bytes entries : ℕ) → IsPushable k pages bytes entries → IsReady k pages bytes entries
ready k pages bytes entries may = record {
  room = long_left bytes (length (memory_in k).bytes) entries (length (memory_in k).versions) may.room;
  places = long_right bytes (length (memory_in k).bytes) entries (length (memory_in k).versions) may.room;
  are = may.are;
  going = may.going;
}

-- Pages that are not refused may be pushed, with numbers that are there.
pub push_tests : (s t u v : ℕ) (away stopped known short : Bool) (rest : Option ℕ) → ◌≡◌ {A = Option ℕ} (if away then Some s else if stopped then Some t else if not known then Some u else if short then Some v else rest) None
    → (away ≡ false) × (stopped ≡ false) × (short ≡ false) × (rest ≡ None)
push_tests s t u v true stopped known short rest is = absurd cc
push_tests s t u v false true known short rest is = absurd cc
push_tests s t u v false false false short rest is = absurd cc
push_tests s t u v false false true true rest is = absurd cc
push_tests s t u v false false true false rest is = (refl, refl, refl, is)

pub pushable : (k : State) (p : Pages) (numbers : List ℕ) (bytes entries : ℕ) → push_refusal k p bytes entries ≡ None → (pages_refusal p (length (memory_in k).versions) ≡ None → are_pages (length (memory_in k).versions) numbers ≡ true)
    → IsPushable k numbers bytes entries
pushable k p numbers bytes entries none are =
    let tests = push_tests _ _ _ _ (is_away k) (is_stopped k) (is_known_pages p) (is_short (memory_in k) bytes entries) (pages_refusal p (length (memory_in k).versions)) none in
    record { here = tests.0; going = tests.1; room = tests.2; are = are tests.3 }

pub pushed_mirrors : PushedMirrors
pushed_mirrors k next log new_log pages ram seen new_seen sound none others pushed =
    let r : IsReady k pages (length ram) (length seen) = ready k pages (length ram) (length seen) none in
    pushed_all k next log new_log pages ram seen new_seen sound r.room r.places r.are others pushed
