-- The answers of a disk that lies outside of the machine: what one leaves is sound, and a run of sectors is its parts, one answer after another.
use Rattle.std.proofs.Common.{◌≡◌, ℕ, zero, suc, ◌+◌, ◌*◌, ◌/◌, ◌%◌, ◌<◌, ◌≤◌, ◌∙◌, List, [], ◌∷◌, ◌++◌, length, drop, set, cond, ltb, leb, eqb, Bool, true, false, ◌&&◌, Option, Some, None, slice_get, inl, inr, refl, sym, ap, arith, length-append}
use Rattle.std.proofs.lemmas.Bool.{and_parts, and_from, true≢false, false≢true, leb-true, ltb-true, eqb-true, le-leb, lt-ltb, eq-eqb, cases_Bool}
use Rattle.std.proofs.lemmas.List.{drop-drop, set-set}
use Rattle.std.proofs.lemmas.List.Elements.{All-set}
use Rattle.std.proofs.lemmas.Option.{get_or_from_slice_get, slice_get_within}
use Rattle.guestmem.specs.Address.{index_of}
use Rattle.guestmem.specs.Writes.{Write}
use Rattle.guestmem.proofs.WriteLaws.{set_all-append}
use Rattle.chains.specs.Places.{places, place_writes}
use Rattle.chains.specs.State.{RingState}
use Rattle.blk.specs.Outside.{Answer, Did, Failed, Gave, answer_step, answer_to, answer_writes, answered, answers_in, call_of, more_done, awaits, awaits_at, awaits_in, units_left, what_of}
use Rattle.blk.specs.Parts.{AnswersLeaveSound, BytesAreTheirParts, IsInParts, PartsAreTheirBytes, PartsAreTheirUnits, UnitsAreTheirParts}
use Rattle.blk.specs.Request.{is_good, is_open, next_sector}
use Rattle.blk.specs.Sound.{AreSound, IsSoundRequest, IsSoundWork}
use Rattle.blk.specs.declared.disk.TheConstants.{SECTOR_SIZE}
use Rattle.blk.specs.declared.request.Kind.{Kind}
use Rattle.blk.specs.declared.request.Kind.TheVariants.{Refused, In, Out, Flush, GetId, Zero}
use Rattle.blk.specs.declared.request.Verdict.{Verdict}
use Rattle.blk.specs.declared.request.Verdict.TheVariants.{Good, IoError, Unsupported}
use Rattle.blk.specs.declared.request.Request.{Request}
use Rattle.blk.specs.declared.shape.Limits.{Limits}

-- What holds of a request that asks for so many units.
pub record AreUnitsAsked (r : Request) (count : ℕ) : Type 0 where
  pub is_waiting : is_open r ≡ true
  pub some : 0 < count
  pub room : count ≤ units_left r

-- What holds of a request that asks for bytes.
pub record AreBytesAsked (r : Request) (bytes : List ℕ) : Type 0 where
  pub is_waiting : is_open r ≡ true
  pub kind : r.kind ≡ In
  pub some : 0 < length bytes
  pub whole : length bytes % SECTOR_SIZE ≡ 0
  pub room : length bytes / SECTOR_SIZE ≤ units_left r

units_by : (kind : Kind) (waits : Bool) (first left count : ℕ) → answers_in (cond waits (call_of (what_of kind) first left) None) (Did count) ≡ true → (waits ≡ true) × (0 < count) × (count ≤ left)
units_by kind false first left count asked = absurd (false≢true asked)
units_by Refused true first left count asked = absurd (false≢true asked)
units_by In true first left count asked = absurd (false≢true asked)
units_by Out true first left count asked = let parts = and_parts (ltb 0 count) (leb count left) asked in (refl, ltb-true 0 count parts.0, leb-true count left parts.1)
units_by Flush true first left count asked = let parts = and_parts (ltb 0 count) (leb count left) asked in (refl, ltb-true 0 count parts.0, leb-true count left parts.1)
units_by GetId true first left count asked = absurd (false≢true asked)
units_by Zero true first left count asked = let parts = and_parts (ltb 0 count) (leb count left) asked in (refl, ltb-true 0 count parts.0, leb-true count left parts.1)

pub units_asked : (r : Request) (count : ℕ) → awaits r (Did count) ≡ true → AreUnitsAsked r count
units_asked r count asked =
    let by = units_by r.kind (is_open r) (next_sector r) (units_left r) count asked in
    record { is_waiting = by.0; some = by.1; room = by.2 }

bytes_by : (kind : Kind) (waits : Bool) (first left : ℕ) (bytes : List ℕ) → answers_in (cond waits (call_of (what_of kind) first left) None) (Gave bytes) ≡ true
    → (waits ≡ true) × (kind ≡ In) × (0 < length bytes) × (length bytes % SECTOR_SIZE ≡ 0) × (length bytes / SECTOR_SIZE ≤ left)
bytes_by kind false first left bytes asked = absurd (false≢true asked)
bytes_by Refused true first left bytes asked = absurd (false≢true asked)
bytes_by In true first left bytes asked =
    let parts = and_parts (ltb 0 (length bytes) && eqb (length bytes % SECTOR_SIZE) 0) (leb (length bytes / SECTOR_SIZE) left) asked in
    let front = and_parts (ltb 0 (length bytes)) (eqb (length bytes % SECTOR_SIZE) 0) parts.0 in
    (refl, refl, ltb-true 0 (length bytes) front.0, eqb-true (length bytes % SECTOR_SIZE) 0 front.1, leb-true (length bytes / SECTOR_SIZE) left parts.1)
bytes_by Out true first left bytes asked = absurd (false≢true asked)
bytes_by Flush true first left bytes asked = absurd (false≢true asked)
bytes_by GetId true first left bytes asked = absurd (false≢true asked)
bytes_by Zero true first left bytes asked = absurd (false≢true asked)

pub bytes_asked : (r : Request) (bytes : List ℕ) → awaits r (Gave bytes) ≡ true → AreBytesAsked r bytes
bytes_asked r bytes asked =
    let by = bytes_by r.kind (is_open r) (next_sector r) (units_left r) bytes asked in
    record { is_waiting = by.0; kind = by.1; some = by.2; whole = by.3; room = by.4 }

pub open_by : (verdict : Verdict) (done units : ℕ) → (is_good verdict && ltb done units) ≡ true → (verdict ≡ Good) × (done < units)
open_by Good done units left = (refl, ltb-true done units left)
open_by IoError done units left = absurd (false≢true left)
open_by Unsupported done units left = absurd (false≢true left)

-- A request that goes on is sound where no more units are done than it has.
work_done : (kind : Kind) (readable writable : ℕ) (limits : Limits) (first units done n : ℕ) → done + n ≤ units → IsSoundWork kind readable writable limits Good first units done → IsSoundWork kind readable writable limits Good first units (done + n)
work_done Refused readable writable limits first units done n room h = absurd (true≢false h.0)
work_done In readable writable limits first units done n room h = (room, h.1, h.2)
work_done Out readable writable limits first units done n room h = (room, h.1, h.2, h.3)
work_done Flush readable writable limits first units done n room h = (room, h.1, h.2)
work_done GetId readable writable limits first units done n room h = (h.0, room, h.2, h.3, h.4)
work_done Zero readable writable limits first units done n room h = (room, h.1, h.2, h.3, h.4, h.5)

-- One that waits for its disk is sound after that failed.
work_failed : (kind : Kind) (waits : Bool) (from left readable writable : ℕ) (limits : Limits) (first units done : ℕ) → answers_in (cond waits (call_of (what_of kind) from left) None) Failed ≡ true → (waits ≡ true → done < units)
    → IsSoundWork kind readable writable limits Good first units done → IsSoundWork kind readable writable limits IoError first units done
work_failed kind false from left readable writable limits first units done asked room h = absurd (false≢true asked)
work_failed Refused true from left readable writable limits first units done asked room h = absurd (false≢true asked)
work_failed In true from left readable writable limits first units done asked room h = (room refl, h.1, h.2)
work_failed Out true from left readable writable limits first units done asked room h = (room refl, h.1, h.2, h.3)
work_failed Flush true from left readable writable limits first units done asked room h = (room refl, h.1, h.2)
work_failed GetId true from left readable writable limits first units done asked room h = absurd (false≢true asked)
work_failed Zero true from left readable writable limits first units done asked room h = (room refl, h.1, h.2, h.3, h.4, h.5)

waits_by : (kind : Kind) (waits : Bool) (first left : ℕ) → answers_in (cond waits (call_of (what_of kind) first left) None) Failed ≡ true → waits ≡ true
waits_by kind false first left asked = absurd (false≢true asked)
waits_by kind true first left asked = refl

-- A request is sound after an answer that it asks for.
pub answered_sound : (base len : ℕ) (is_packed : Bool) (size : ℕ) (limits : Limits) (r : Request) (answer : Answer) → awaits r answer ≡ true → IsSoundRequest base len is_packed size limits r
    → IsSoundRequest base len is_packed size limits (answered r answer)
answered_sound base len is_packed size limits r (Gave bytes) asked h =
    let are = bytes_asked r bytes asked in
    let by = open_by r.verdict r.done r.units are.is_waiting in
    let more = work_done r.kind (length (places r.readable)) (length (places r.writable)) limits r.first r.units r.done (length bytes / SECTOR_SIZE) (omega (arith, by.1, are.room)) (rw by.0 at h.work) in
    record { some = h.some; slots = h.slots; id_fits = h.id_fits; id = h.id; few = h.few; readable = h.readable; writable = h.writable; total = h.total; header = h.header; status = h.status; work = rw by.0 more }
answered_sound base len is_packed size limits r (Did count) asked h =
    let are = units_asked r count asked in
    let by = open_by r.verdict r.done r.units are.is_waiting in
    let more = work_done r.kind (length (places r.readable)) (length (places r.writable)) limits r.first r.units r.done count (omega (arith, by.1, are.room)) (rw by.0 at h.work) in
    record { some = h.some; slots = h.slots; id_fits = h.id_fits; id = h.id; few = h.few; readable = h.readable; writable = h.writable; total = h.total; header = h.header; status = h.status; work = rw by.0 more }
answered_sound base len is_packed size limits r Failed asked h =
    let by = open_by r.verdict r.done r.units (waits_by r.kind (is_open r) (next_sector r) (units_left r) asked) in
    let more = work_failed r.kind (is_open r) (next_sector r) (units_left r) (length (places r.readable)) (length (places r.writable)) limits r.first r.units r.done asked (λ _. by.1) (rw by.0 at h.work) in
    record { some = h.some; slots = h.slots; id_fits = h.id_fits; id = h.id; few = h.few; readable = h.readable; writable = h.writable; total = h.total; header = h.header; status = h.status; work = more }

-- An answer that was asked for was asked for by a request.
pub taken_by : (requests : List Request) (k : ℕ) (answer : Answer) → awaits_at requests k answer ≡ true → (r : Request) × (slice_get requests k ≡ Some r) × (awaits r answer ≡ true)
taken_by [] k answer asked = absurd (false≢true asked)
taken_by (r ∷ requests) zero answer asked = (r, refl, asked)
taken_by (r ∷ requests) (suc k) answer asked = taken_by requests k answer asked

-- Requests of which one was answered as it asks are sound.
pub are_sound_after : (len : ℕ) (q : RingState) (limits : Limits) (requests : List Request) (k : ℕ) (r : Request) (answer : Answer) → AreSound len q limits requests → slice_get requests k ≡ Some r → awaits r answer ≡ true
    → AreSound len q limits (set requests k (answered r answer))
are_sound_after len q limits requests k r answer sound found asked =
    let P = IsSoundRequest q.base len q.is_packed q.size limits in
    let old : P r = rw (get_or_from_slice_get requests k r r found) at (sound k r (slice_get_within requests k r found)) in
    All-set P requests k (answered r answer) (answered_sound q.base len q.is_packed q.size limits r answer asked old) sound

sound_to : (len : ℕ) (q : RingState) (limits : Limits) (requests : List Request) (k : ℕ) (answer : Answer) (o : Option Request) → slice_get requests k ≡ o → AreSound len q limits requests → AreSound len q limits (answer_to q.base requests k answer o).requests
sound_to len q limits requests k answer None found sound = sound
sound_to len q limits requests k answer (Some r) found sound =
    elim (cases_Bool (awaits r answer)) as (λ _. AreSound len q limits (answer_to q.base requests k answer (Some r)).requests) [
      | inl asked ↦ rw asked (are_sound_after len q limits requests k r answer sound found asked)
      | inr not_asked ↦ rw not_asked sound
    ]

-- Whatever a disk answers, the requests stay sound.
pub answer_sound : AnswersLeaveSound
answer_sound len q limits requests k answer sound = sound_to len q limits requests k answer (slice_get requests k) refl sound

-- A request that asks for so many units asks for fewer, and still for units if some are left.
units_of_kind : (kind : Kind) (first left from more n count : ℕ) → answers_in (call_of (what_of kind) first left) (Did count) ≡ true → 0 < n → n ≤ more → answers_in (call_of (what_of kind) from more) (Did n) ≡ true
units_of_kind Refused first left from more n count asked some few = absurd (false≢true asked)
units_of_kind In first left from more n count asked some few = absurd (false≢true asked)
units_of_kind Out first left from more n count asked some few = and_from (ltb 0 n) (leb n more) (lt-ltb 0 n some) (le-leb n more few)
units_of_kind Flush first left from more n count asked some few = and_from (ltb 0 n) (leb n more) (lt-ltb 0 n some) (le-leb n more few)
units_of_kind GetId first left from more n count asked some few = absurd (false≢true asked)
units_of_kind Zero first left from more n count asked some few = and_from (ltb 0 n) (leb n more) (lt-ltb 0 n some) (le-leb n more few)

pub still_open : (verdict : Verdict) (done units more : ℕ) → (is_good verdict && ltb done units) ≡ true → more < units → (is_good verdict && ltb more units) ≡ true
still_open verdict done units more is_waiting room = and_from (is_good verdict) (ltb more units) (and_parts (is_good verdict) (ltb done units) is_waiting).0 (lt-ltb more units room)

-- The bytes go to the places of the first ones, and then to those that follow.
pub in_parts : (base : ℕ) (at front back : List ℕ) → place_writes base at (front ++ back) ≡ place_writes base at front ++ place_writes base (drop (length front) at) back
in_parts base [] [] back = refl
in_parts base [] (b ∷ front) back = refl
in_parts base (p ∷ at) [] back = refl
in_parts base (p ∷ at) (b ∷ front) back = ap (λ (ws : List Write). record { index = index_of base p; byte = b } ∷ ws) (in_parts base at front back)

-- A request asks for a run, and in turn for its two parts, which leave it and RAM as the run does.
pub record IsRun (base : ℕ) (r : Request) (whole first second : Answer) : Type 0 where
  pub takes_whole : awaits r whole ≡ true
  pub takes_first : awaits r first ≡ true
  pub takes_second : awaits (answered r first) second ≡ true
  pub writes : answer_writes base r whole ≡ answer_writes base r first ++ answer_writes base (answered r first) second
  pub request : answered r whole ≡ answered (answered r first) second

from_bytes : (r : Request) (bytes : List ℕ) → AreBytesAsked r bytes → awaits r (Gave bytes) ≡ true
from_bytes r bytes are =
    let n = length bytes in
    rw (are.is_waiting, are.kind) (and_from (ltb 0 n && eqb (n % SECTOR_SIZE) 0) (leb (n / SECTOR_SIZE) (units_left r)) (and_from (ltb 0 n) (eqb (n % SECTOR_SIZE) 0) (lt-ltb 0 n are.some) (eq-eqb (n % SECTOR_SIZE) 0 are.whole)) (le-leb (n / SECTOR_SIZE) (units_left r) are.room))

run_by : (base : ℕ) (r : Request) (front back : List ℕ) → AreBytesAsked r (front ++ back) → AreBytesAsked r front → AreBytesAsked (answered r (Gave front)) back → IsRun base r (Gave (front ++ back)) (Gave front) (Gave back)
run_by base r front back whole first second =
    let both = length-append front back in
    let sum : length (front ++ back) / SECTOR_SIZE ≡ length front / SECTOR_SIZE + length back / SECTOR_SIZE = omega (arith, both, first.whole, second.whole) in
    let at = places r.writable in
    let far : SECTOR_SIZE * (r.done + length front / SECTOR_SIZE) ≡ SECTOR_SIZE * r.done + length front = omega (arith, first.whole) in
    let there : drop (length front) (drop (SECTOR_SIZE * r.done) at) ≡ drop (SECTOR_SIZE * (r.done + length front / SECTOR_SIZE)) at = drop-drop (length front) (SECTOR_SIZE * r.done) at ∙ ap (λ (n : ℕ). drop n at) (sym far) in
    record {
      takes_whole = from_bytes r (front ++ back) whole;
      takes_first = from_bytes r front first;
      takes_second = from_bytes (answered r (Gave front)) back second;
      writes = in_parts base (drop (SECTOR_SIZE * r.done) at) front back ∙ ap (λ (places : List ℕ). place_writes base (drop (SECTOR_SIZE * r.done) at) front ++ place_writes base places back) there;
      request = ap (λ (done : ℕ). record r { done = done }) (omega (arith, sum));
    }

-- A request that asks for a run of bytes asks for those of its first sectors, and then for the others.
pub bytes_in_parts : (base : ℕ) (r : Request) (front back : List ℕ) → awaits r (Gave (front ++ back)) ≡ true → 0 < length front → length front % SECTOR_SIZE ≡ 0 → 0 < length back → IsRun base r (Gave (front ++ back)) (Gave front) (Gave back)
bytes_in_parts base r front back asked some whole more =
    let are = bytes_asked r (front ++ back) asked in
    let both = length-append front back in
    let sum : length (front ++ back) / SECTOR_SIZE ≡ length front / SECTOR_SIZE + length back / SECTOR_SIZE = omega (arith, both, are.whole, whole) in
    let least : 1 ≤ length back / SECTOR_SIZE = omega (arith, both, are.whole, whole, more) in
    let first : AreBytesAsked r front = record { is_waiting = are.is_waiting; kind = are.kind; some = some; whole = whole; room = omega (arith, are.room, sum) } in
    let second : AreBytesAsked (answered r (Gave front)) back = record {
      is_waiting = still_open r.verdict r.done r.units (r.done + length front / SECTOR_SIZE) are.is_waiting (omega (arith, are.room, sum, least));
      kind = are.kind;
      some = more;
      whole = omega (arith, both, are.whole, whole);
      room = omega (arith, are.room, sum);
    } in
    run_by base r front back are first second

-- Bytes that a request asks for, and others that it asks for then, are a run that it asks for.
pub bytes_together : (base : ℕ) (r : Request) (front back : List ℕ) → awaits r (Gave front) ≡ true → awaits (answered r (Gave front)) (Gave back) ≡ true → IsRun base r (Gave (front ++ back)) (Gave front) (Gave back)
bytes_together base r front back asked then =
    let first = bytes_asked r front asked in
    let second = bytes_asked (answered r (Gave front)) back then in
    let both = length-append front back in
    let sum : length (front ++ back) / SECTOR_SIZE ≡ length front / SECTOR_SIZE + length back / SECTOR_SIZE = omega (arith, both, first.whole, second.whole) in
    run_by base r front back (record { is_waiting = first.is_waiting; kind = first.kind; some = omega (arith, both, first.some); whole = omega (arith, both, first.whole, second.whole); room = omega (arith, sum, first.room, second.room, second.some, second.whole) }) first second

-- A request that asks for units asks for fewer, and after some of them for others.
did_from : (r s : Request) (count n : ℕ) → awaits r (Did count) ≡ true → s.kind ≡ r.kind → is_open s ≡ true → 0 < n → n ≤ units_left s → awaits s (Did n) ≡ true
did_from r s count n asked same is_waiting some few =
    let are = units_asked r count asked in
    let by_kind = rw are.is_waiting at asked in
    rw (is_waiting, same) (units_of_kind r.kind (next_sector r) (units_left r) (next_sector s) (units_left s) n count by_kind some few)

did_by : (base : ℕ) (r : Request) (m n : ℕ) → awaits r (Did (m + n)) ≡ true → awaits r (Did m) ≡ true → awaits (answered r (Did m)) (Did n) ≡ true → IsRun base r (Did (m + n)) (Did m) (Did n)
did_by base r m n whole first second = record { takes_whole = whole; takes_first = first; takes_second = second; writes = refl; request = ap (λ (done : ℕ). record r { done = done }) (omega arith) }

-- A request that asks for so many units asks for the first m of them, and then for the other n.
pub units_in_parts : (base : ℕ) (r : Request) (m n : ℕ) → awaits r (Did (m + n)) ≡ true → 0 < m → 0 < n → IsRun base r (Did (m + n)) (Did m) (Did n)
units_in_parts base r m n asked some more =
    let are = units_asked r (m + n) asked in
    did_by base r m n asked (did_from r r (m + n) m asked refl are.is_waiting some (omega (arith, are.room)))
    (did_from r (more_done r m) (m + n) n asked refl (still_open r.verdict r.done r.units (r.done + m) are.is_waiting (omega (arith, are.room, more))) more (omega (arith, are.room)))

-- Units that a request asks for, and others that it asks for then, are together units that it asks for.
pub units_together : (base : ℕ) (r : Request) (m n : ℕ) → awaits r (Did m) ≡ true → awaits (answered r (Did m)) (Did n) ≡ true → IsRun base r (Did (m + n)) (Did m) (Did n)
units_together base r m n asked then =
    let first = units_asked r m asked in
    let second = units_asked (answered r (Did m)) n then in
    did_by base r m n (did_from r r m (m + n) asked refl first.is_waiting (omega (arith, first.some)) (omega (arith, first.room, second.room, second.some))) asked then

pub set_there : (requests : List Request) (k : ℕ) (r new : Request) → slice_get requests k ≡ Some r → slice_get (set requests k new) k ≡ Some new
set_there [] k r new found = cc
set_there (x ∷ requests) zero r new found = refl
set_there (x ∷ requests) (suc k) r new found = set_there requests k r new found

run_at : (base : ℕ) (requests : List Request) (k : ℕ) (r : Request) (whole first second : Answer) → slice_get requests k ≡ Some r → IsRun base r whole first second → IsInParts base requests k whole first second
run_at base requests k r whole first second found run =
    let again = set_there requests k r (answered r first) found in
    record {
      whole_is_taken = rw (found, run.takes_whole) refl;
      first_is_taken = rw (found, run.takes_first) refl;
      second_is_taken = rw (found, run.takes_first, again, run.takes_second) refl;
      ram_is = λ ram. rw (found, run.takes_whole, run.takes_first, again, run.takes_second, run.writes) (set_all-append ram (answer_writes base r first) (answer_writes base (answered r first) second));
      requests_are = rw (found, run.takes_whole, run.takes_first, again, run.takes_second, run.request) (sym (set-set requests k (answered r first) (answered (answered r first) second)));
    }

taken_is : (base : ℕ) (requests : List Request) (k : ℕ) (answer : Answer) (o : Option Request) → (answer_to base requests k answer o).taken ≡ awaits_in o answer
taken_is base requests k answer None = refl
taken_is base requests k answer (Some r) =
    elim (cases_Bool (awaits r answer)) as (λ _. (answer_to base requests k answer (Some r)).taken ≡ awaits r answer) [
      | inl asked ↦ rw asked refl
      | inr not_asked ↦ rw not_asked refl
    ]

taken_by_step : (base : ℕ) (requests : List Request) (k : ℕ) (answer : Answer) → (answer_step base requests k answer).taken ≡ true → (r : Request) × (slice_get requests k ≡ Some r) × (awaits r answer ≡ true)
taken_by_step base requests k answer taken = taken_by requests k answer (sym (taken_is base requests k answer (slice_get requests k)) ∙ taken)

taken_then : (base : ℕ) (requests : List Request) (k : ℕ) (r : Request) (first second : Answer) → slice_get requests k ≡ Some r → awaits r first ≡ true → (answer_step base (answer_step base requests k first).requests k second).taken ≡ true → awaits (answered r first) second ≡ true
taken_then base requests k r first second found asked then =
    let again = set_there requests k r (answered r first) found in
    let step = rw (found, asked, again) at then in
    sym (taken_is base (set requests k (answered r first)) k second (Some (answered r first))) ∙ step

-- The law that a run is its parts: the bytes of some sectors, and then of others, are the bytes of all.
pub gave_in_parts : BytesAreTheirParts
gave_in_parts base requests k front back taken some whole more =
    let by = taken_by_step base requests k (Gave (front ++ back)) taken in
    run_at base requests k by.0 (Gave (front ++ back)) (Gave front) (Gave back) by.1 (bytes_in_parts base by.0 front back by.2 some whole more)

pub gave_together : PartsAreTheirBytes
gave_together base requests k front back taken then =
    let by = taken_by_step base requests k (Gave front) taken in
    run_at base requests k by.0 (Gave (front ++ back)) (Gave front) (Gave back) by.1 (bytes_together base by.0 front back by.2 (taken_then base requests k by.0 (Gave front) (Gave back) by.1 by.2 then))

-- And so many units done, and then others, are all of them.
pub did_in_parts : UnitsAreTheirParts
did_in_parts base requests k m n taken some more =
    let by = taken_by_step base requests k (Did (m + n)) taken in
    run_at base requests k by.0 (Did (m + n)) (Did m) (Did n) by.1 (units_in_parts base by.0 m n by.2 some more)

pub did_together : PartsAreTheirUnits
did_together base requests k m n taken then =
    let by = taken_by_step base requests k (Did m) taken in
    run_at base requests k by.0 (Did (m + n)) (Did m) (Did n) by.1 (units_together base by.0 m n by.2 (taken_then base requests k by.0 (Did m) (Did n) by.1 by.2 then))
