-- Streams whose host tells their digest, as an arrival takes them.
use Rattle.std.proofs.Common.{◌≡◌, ◌≤◌, ◌<◌, ◌+◌, ◌∙◌, ℕ, zero, suc, Bool, true, false, List, [], ◌∷◌, ◌++◌, length, take, drop, refl, sym, ap, subst, append_assoc, arith, inl, inr, true≢false}
use Rattle.std.specs.Prelude.{Result, Ok, Err, IfErr, IfOk}
use Rattle.std.proofs.lemmas.List.{append-nil, length-append, take-append-drop, take-append-le, take_all}
use Rattle.sha2.specs.Sha256.{sha256}
use Rattle.blk.specs.Disk.{DiskState}
use Rattle.wire.specs.Header.{Begins, Opening}
use Rattle.wire.specs.Stream.{texts}
use Rattle.receiver.specs.Calls.{Feeds, FeedsSome, IsDue}
use Rattle.receiver.specs.Closing.{ClosesOnTrust}
use Rattle.receiver.specs.Opened.{said_by}
use Rattle.receiver.specs.Receiving.{HasBeenFed, IsTaken, Received, has_ended, reads_in}
use Rattle.receiver.specs.Sums.{Summed, past_of}
use Rattle.receiver.specs.declared.ram_terms.RamTerms.{RamTerms}
use Rattle.receiver.specs.declared.receiver.Fed.{Fed}
use Rattle.receiver.specs.declared.recv_error.RecvError.{RecvError}
use Rattle.receiver.specs.declared.stage.Stage.{Stage}
use Rattle.receiver.specs.declared.stage.Stage.TheVariants as stages
use Rattle.c_handle.specs.ArrivalSeen.{ArrivalSeen, AtHead, AtBody, Refused, Over}
use Rattle.c_handle.specs.Awaited.{AreSteady, IsClosed, IsFed, RefusesUntouched, TellsOf}
use Rattle.c_handle.specs.ToldArrival.{ClosesRight, DueAfter, IsDueAt, MeetsRecord}
use Rattle.c_handle.specs.ToldFeeding.{NoneIsBefore}
use Rattle.c_handle.specs.Headed.{EndsHeader, HasNoHeader}
use Rattle.c_handle.proofs.Awaited.{empty_head, more_fed, more_refused, more_steady}
use Rattle.c_handle.proofs.Landings.{fed_if, steady_after, told_if, untouched_if}

-- A header was read: the bytes begin with it.
reads_begins : (ram : RamTerms) (ds : List DiskState) (digest : Summed) (b held : List ℕ) (stage : Stage) → IsTaken ram ds digest b held stage → reads_in stage ≡ true → has_ended stage ≡ false → (opening : Opening) × (rest : List ℕ) × Begins b opening rest
reads_begins ram ds digest b held stages.Head t reads goes_on = absurd (true≢false (sym reads))
reads_begins ram ds digest b held stages.Failed t reads goes_on = absurd (true≢false (sym reads))
reads_begins ram ds digest b held (stages.Records i) t reads goes_on =
    let known = rw goes_on at t.known in
    let read = known.1.open_at.read in
    let head = said_by known.1.opening in
    let rest : List ℕ = texts known.1.open_at.before ++ held in
    (head, rest, record { good = read.head; whole = t.whole ∙ ap (λ (x : List ℕ). x ++ held) read.whole ∙ append_assoc _ (texts known.1.open_at.before) held })

due_begins : (r : Received) (b rest : List ℕ) → HasBeenFed r b → IsDue r rest → (opening : Opening) × (more : List ℕ) × Begins b opening more
due_begins r b rest fed due = reads_begins r.ram r.disks r.digest b r.held r.stage fed.taken due.reads due.goes_on

-- Bytes whose header ends with the last of them are taken whole.
no_prefix : (front : List ℕ) (used : ℕ) → HasNoHeader front → HasNoHeader (take used front)
no_prefix front used none opening rest begins =
    none opening (rest ++ drop used front) (record { good = begins.good; whole = sym (take-append-drop used front) ∙ ap (λ (x : List ℕ). x ++ drop used front) begins.whole ∙ append_assoc _ rest (drop used front) })

not_before : (r next : Received) (header : List ℕ) (fed : Fed) (e : EndsHeader header) → HasBeenFed r [] → Feeds r (take fed.used header) (Ok tt) next → IsDue next (drop fed.used header) → ¬ (fed.used ≤ length e.front)
not_before r next header fed e first feeds due early =
    let came : HasBeenFed next (take fed.used header) = feeds.fed [] first in
    let few : take fed.used header ≡ take fed.used e.front = ap (λ (x : List ℕ). take fed.used x) e.whole ∙ take-append-le fed.used e.front (e.last ∷ []) early in
    let found = due_begins next (take fed.used header) (drop fed.used header) came due in
    no_prefix e.front fed.used e.none found.0 found.1 (subst (λ (x : List ℕ). Begins x found.0 found.1) few found.2)

after : (n m : ℕ) → ¬ (n ≤ m) → n ≤ m + 1 → n ≡ m + 1
after n m not le = omega (arith, not, le)

used_up : (is_due : Bool) (r next : Received) (header : List ℕ) (fed : Fed) → fed.is_due ≡ is_due → EndsHeader header → HasBeenFed r [] → FeedsSome r header (Ok fed) next → fed.used ≡ length header
used_up false r next header fed is e first h = h.all is
used_up true r next header fed is e first h =
    let long : length header ≡ length e.front + 1 = ap (λ (x : List ℕ). length x) e.whole ∙ length-append e.front (e.last ∷ []) in
    let le : fed.used ≤ length e.front + 1 = omega (arith, h.within, long) in
    after fed.used (length e.front) (not_before r next header fed e first h.feeds (h.due is)) le ∙ sym long

pub header_fed : (r next : Received) (header : List ℕ) (fed : Fed) → EndsHeader header → HasBeenFed r [] → FeedsSome r header (Ok fed) next → Feeds r header (Ok tt) next
header_fed r next header fed e first h =
    let used : fed.used ≡ length header = used_up fed.is_due r next header fed refl e first h in
    let all : take fed.used header ≡ header = take_all fed.used header (omega (arith, used)) in
    subst (λ (x : List ℕ). Feeds r x (Ok tt) next) all h.feeds

one_byte : (l : List ℕ) → length l ≡ 1 → (x : ℕ) × (l ≡ x ∷ [])
one_byte [] one = cc
one_byte (x ∷ []) one = (x, refl)
one_byte (x ∷ (y ∷ more)) one = absurd (omega (arith, one))

pub ends_header : (held all byte : List ℕ) → all ≡ held ++ byte → length byte ≡ 1 → HasNoHeader held → EndsHeader all
ends_header held all byte is one none =
    let last = one_byte byte one in
    record { front = held; last = last.0; whole = is ∙ ap (λ (l : List ℕ). held ++ l) last.1; none = none }

-- No byte of the record of the digest is held after the header.
filled : (header : List ℕ) → EndsHeader header → 0 < length header
filled header e = omega (arith, ap (λ (x : List ℕ). length x) e.whole, length-append e.front (e.last ∷ []))

pub header_before : (r next : Received) (header : List ℕ) (fed : Fed) → EndsHeader header → HasBeenFed r [] → FeedsSome r header (Ok fed) next → ¬ (IsDue next [])
header_before r next header fed e first h =
    let used : fed.used ≡ length header = used_up fed.is_due r next header fed refl e first h in
    h.before (omega (arith, used, filled header e)) [] first

-- Where none is held and the record is due, nothing is.
held_none : (held rest more : List ℕ) → held ++ rest ≡ 5 ∷ more → ((xs : List ℕ) → ¬ (held ++ [] ≡ 5 ∷ xs)) → held ≡ []
held_none [] rest more is never = refl
held_none (x ∷ xs) rest more is never =
    let five : x ≡ 5 = cc in
    absurd (never (xs ++ []) (ap (λ (n : ℕ). n ∷ (xs ++ [])) five))

pub all_digested : (r : Received) (b rest : List ℕ) → (has_ended r.stage ≡ false → (c : List ℕ) → HasBeenFed r c → c ≡ past_of r.digest ++ r.held) → HasBeenFed r b → IsDue r rest → ¬ (IsDue r []) → past_of r.digest ≡ b
all_digested r b rest recalled fed due before =
    let none : r.held ≡ [] = held_none r.held rest due.more due.begins (λ xs five. before (record { reads = due.reads; goes_on = due.goes_on; more = xs; begins = five })) in
    sym (append-nil (past_of r.digest)) ∙ ap (λ (x : List ℕ). past_of r.digest ++ x) (sym none) ∙ sym (recalled due.goes_on b fed)

-- A byte, with which the record of the digest does not begin, is taken.
one_of : (n : ℕ) → n ≤ 1 → ¬ (n ≡ 0) → n ≡ 1
one_of zero le some = absurd (some refl)
one_of (suc n) le some = omega (arith, le)

byte_used : (is_due : Bool) (a next : ArrivalSeen) (byte : List ℕ) (fed : Fed) → fed.is_due ≡ is_due → length byte ≡ 1 → ¬ (IsDueAt a byte) → DueAfter a byte fed next → fed.used ≡ 1
byte_used false a next byte fed is one early h = h.all is ∙ one
byte_used true a next byte fed is one early h =
    one_of fed.used (omega (arith, h.within, one)) (λ none. early (subst (λ (x : ArrivalSeen). IsDueAt x byte) (h.same none) (subst (λ (n : ℕ). IsDueAt next (drop n byte)) none (h.due is))))

pub byte_fed : (a next : ArrivalSeen) (byte : List ℕ) (fed : Fed) → length byte ≡ 1 → ¬ (IsDueAt a byte) → DueAfter a byte fed next → IsFed a byte next
byte_fed a next byte fed one early h =
    let used : fed.used ≡ 1 = byte_used fed.is_due a next byte fed refl one early h in
    let all : take fed.used byte ≡ byte = take_all fed.used byte (omega (arith, used, one)) in
    subst (λ (x : List ℕ). IsFed a x next) all h.is_fed

-- A receiver is fed a piece up to that record.
before_after : (n : ℕ) (r next : Received) → (n ≡ 0 → next ≡ r) → (0 < n → ¬ (IsDue next [])) → ¬ (IsDue r []) → ¬ (IsDue next [])
before_after zero r next same after before = subst (λ (x : Received). ¬ (IsDue x [])) (sym (same refl)) before
before_after (suc n) r next same after before = after (omega arith)

abbrev Recalled : Received → Type 0
Recalled r = has_ended r.stage ≡ false → (c : List ℕ) → HasBeenFed r c → c ≡ past_of r.digest ++ r.held

pub some_body : (r next : Received) (piece : List ℕ) (fed : Fed) → FeedsSome r piece (Ok fed) next → Recalled next → DueAfter (AtBody r) piece fed (AtBody next)
some_body r next piece fed h recalled =
    let after : (b : List ℕ) → HasBeenFed r b → ¬ (IsDue r []) → ¬ (IsDue next []) = λ b f before. before_after fed.used r next h.same (λ some. h.before some b f) before in
    record { before = λ b f before. after b f.0 before; digests = λ due b f before. all_digested next (b ++ take fed.used piece) (drop fed.used piece) recalled (h.feeds.fed b f.0) (h.due due) (after b f.0 before); within = h.within; is_fed = more_fed r next (take fed.used piece) h.feeds.ram h.feeds.place h.feeds.sizes h.feeds.fed h.feeds.quiet; all = h.all; due = h.due; same = λ none. ap AtBody (h.same none) }

pub some_refused : (r next : Received) (piece : List ℕ) (e : RecvError) → AreSteady r → FeedsSome r piece (Err e) next → TellsOf (AtBody r) piece e
some_refused r next piece e steady h = more_refused r next.marks piece e steady h.marks h.told (λ none. h.memory (ap Err none))

pub some_steady : (r next : Received) (piece : List ℕ) (result : Result Fed RecvError) → AreSteady r → FeedsSome r piece result next → AreSteady next
some_steady r next piece (Ok fed) steady h = steady_after {A = Unit {0}} r next (Ok tt) steady h.feeds.sizes h.feeds.marks
some_steady r next piece (Err e) steady h = steady_after {A = Unit {0}} r next (Err e) steady h.sizes h.marks

pub some_over : (r next : Received) (piece : List ℕ) (result : Result Fed RecvError) → FeedsSome r piece result next → Recalled next → IfOk result (λ fed. DueAfter (Over r) piece fed (Over next))
some_over r next piece (Ok fed) h recalled =
    let f = h.feeds in
    let after : (b : List ℕ) → HasBeenFed r b → ¬ (IsDue r []) → ¬ (IsDue next []) = λ b g before. before_after fed.used r next h.same (λ some. h.before some b g) before in
    record { before = after; digests = λ due b g before. all_digested next (b ++ take fed.used piece) (drop fed.used piece) recalled (f.fed b g) (h.due due) (after b g before); within = h.within; is_fed = fed_if {A = Unit {0}} r next (take fed.used piece) (Ok tt) f.already f.ram f.sizes f.fed f.quiet f.place f.waits; all = h.all; due = h.due; same = λ none. ap Over (h.same none) }
some_over r next piece (Err e) h recalled = tt

pub some_told : (r next : Received) (piece : List ℕ) (result : Result Fed RecvError) → AreSteady r → FeedsSome r piece result next → IfErr result (λ e. TellsOf (Over r) piece e × IsClosed (Over r) (Over next))
some_told r next piece (Ok fed) steady h = tt
some_told r next piece (Err e) steady h = told_if {A = Unit {0}} r next piece (Err e) steady h.sizes h.failed h.marks h.already h.told h.memory

pub some_untouched : (r next : Received) (piece : List ℕ) (result : Result Fed RecvError) → FeedsSome r piece result next → IfErr result (λ e. RefusesUntouched (Over r) piece e (Over next))
some_untouched r next piece (Ok fed) h = tt
some_untouched r next piece (Err e) h = untouched_if {A = Unit {0}} r next piece (Err e) h.gone h.untouched

-- The record is taken, or refused, by the digest that was told.
pub closed_steady : (r next : Received) (digest rest : List ℕ) (result : Result (Unit {0}) RecvError) → AreSteady r → ClosesOnTrust r digest rest result next → AreSteady next
closed_steady r next digest rest result steady c = more_steady r next steady c.sizes c.marks

pub meets_record : (r next : Received) (digest rest : List ℕ) (result : Result (Unit {0}) RecvError) → ClosesOnTrust r digest rest result next → MeetsRecord r digest rest result
meets_record r next digest rest (Ok x) c = (c.comes.0, elim c.comes.1 [ inl h ↦ inr h.0 | inr h ↦ inl h.0 ])
meets_record r next digest rest (Err e) c = c.comes

pub right_body : (r next : Received) (digest rest : List ℕ) → ClosesOnTrust r digest rest (Ok tt) next → digest ≡ sha256 (past_of r.digest) → ClosesRight (AtBody r) rest (Ok tt) (AtBody next)
right_body r next digest rest c is =
    let f = c.right is in
    record { fed = more_fed r next rest f.ram f.place f.sizes f.fed f.quiet; refused = tt; untouched = tt }

pub wrong_body : (r next : Received) (digest rest : List ℕ) (e : RecvError) → AreSteady r → ClosesOnTrust r digest rest (Err e) next → digest ≡ sha256 (past_of r.digest) → ClosesRight (AtBody r) rest (Err e) Refused
wrong_body r next digest rest e steady c is =
    let f = c.right is in
    record { fed = tt; refused = (more_refused r next.marks rest e steady f.marks f.told (λ none. f.memory (ap Err none)), refl); untouched = tt }

pub right_over : (r next : Received) (digest rest : List ℕ) (result : Result (Unit {0}) RecvError) → AreSteady r → ClosesOnTrust r digest rest result next → digest ≡ sha256 (past_of r.digest) → ClosesRight (Over r) rest result (Over next)
right_over r next digest rest result steady c is =
    let f = c.right is in
    record {
      fed = fed_if r next rest result f.already f.ram f.sizes f.fed f.quiet f.place f.waits;
      refused = told_if r next rest result steady f.sizes f.failed f.marks f.already f.told f.memory;
      untouched = untouched_if r next rest result f.gone f.untouched;
    }

pub closed_over : (r next : Received) (digest rest : List ℕ) (result : Result (Unit {0}) RecvError) → ClosesOnTrust r digest rest result next → IfErr result (λ e. IsClosed (Over r) (Over next))
closed_over r next digest rest (Ok x) c = tt
closed_over r next digest rest (Err e) c = (c.failed, c.sizes)

pub same_digest : (r next : Received) (digest rest : List ℕ) → ClosesOnTrust r digest rest (Ok tt) next → past_of next.digest ≡ past_of r.digest
same_digest r next digest rest c = elim c.comes.1 [
  | inl h ↦ ap (λ (x : Received). past_of x.digest) h.1
  | inr h ↦ ap (λ (x : Received). past_of x.digest) h.1
]

pub same_digest_if : (r next : Received) (digest rest : List ℕ) (result : Result (Unit {0}) RecvError) → ClosesOnTrust r digest rest result next → IfOk result (λ x. past_of next.digest ≡ past_of r.digest)
same_digest_if r next digest rest (Ok x) c = same_digest r next digest rest c
same_digest_if r next digest rest (Err e) c = tt

-- No byte of the record is held of an arrival that was fed nothing.
fresh : (r : Received) → HasBeenFed r [] → ¬ (IsDue r [])
fresh r fed due =
    let found = due_begins r [] [] fed due in
    empty_head found.0 found.1 found.2

pub none_before : NoneIsBefore
none_before (AtHead ram place held) come = λ due. due
none_before (AtBody r) come = fresh r come.0
none_before Refused come = λ due. due
none_before (Over r) come = fresh r come
