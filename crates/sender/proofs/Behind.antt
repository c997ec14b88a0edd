-- A machine that is behind its history by some pages, until they are marked.
use Rattle.std.proofs.Common.{◌≡◌, ℕ, ◌||◌, ◌++◌, Bool, true, false, List, [], ◌∷◌, refl, sym, ap, subst, ◌∙◌, inl, inr}
use Rattle.region.specs.Address.{address}
use Rattle.guestmem.specs.Lent.{given_back, is_named, pages_written}
use Rattle.guestmem.specs.Write.{written}
use Rattle.guestmem.proofs.GivenBack.{marked_is_written}
use Rattle.machine.proofs.GivenBack.{with_memory}
use Rattle.machine.proofs.Numbering.{either_way}
use Rattle.sender.specs.Follows.{Relates}
use Rattle.sender.specs.LiveState.{HasPlaces, LiveSeen, refusal_for}
use Rattle.sender.specs.Marks.{AreAmong, BackIsBehind, BehindByNone, CallsStayBehind, FailureStaysBehind, FlushStaysBehind, MarksCatchUp, StaysBehind, TakenStaysBehind, if_dirty, live_marked, still_behind}
use Rattle.sender.specs.Parked.{IsLiveParked, LiveParkedSeen, live_back, with_pages}
use Rattle.sender.specs.ParkedCalls.{beside}
use Rattle.sender.specs.Taking.{untaken}
use Rattle.sender.proofs.Flushed.{flush_follows, relates_with}
use Rattle.sender.proofs.LiveBack.{IsReady, all_related, live_back_follows}
use Rattle.sender.proofs.Marking.{beside_late, beside_named, both_ways, in_turn, may_call, named_both, named_first, or_behind, serves_late, still_among, taken_in}
use Rattle.sender.proofs.Parking.{length-with_pages}
use Rattle.sender.proofs.Relating.{relates_on}
use Rattle.sender.proofs.Taking.{calls_ignore_taken, places_untaken}
use Rattle.sender.proofs.Unsynced.{failure_follows}

-- The set has an entry for each item, whatever is dirty.
places_late : (l : LiveSeen) (late : List ℕ) → HasPlaces l → HasPlaces (if_dirty late l)
places_late l late p = record { sound = p.sound; few = p.few; due_size = p.due_size; dirty_size = length-with_pages l.dirty late ∙ p.dirty_size }

none_named : (late : List ℕ) → AreAmong late [] → late ≡ []
none_named [] among = refl
none_named (n ∷ late) among = let wrong : false ≡ true = among n (named_first n late) in cc

pub behind_by_none : BehindByNone
behind_by_none m h out l = (
  λ b. (let P : List ℕ → Type 0 = λ late. Relates m h out (if_dirty late l) in subst P (none_named b.late b.among) b.relates),
  λ g. record { late = []; among = λ n is. is; relates = g },
)

pub calls_stay_behind : CallsStayBehind
calls_stay_behind m h out pages e reply old new b places may s = elim (may_call pages e may) as (λ _. StaysBehind m h out e reply (still_behind reply pages) new) [
  | inl lags ↦
      let served = serves_late b.late (refusal_for old.phase e) old e reply new lags s in
      let gone = relates_on m h out e reply (if_dirty b.late old) (if_dirty served.still new) b.relates (places_late old b.late places) served.serves in
      record { effect = gone.effect; behind = record { late = served.still; among = λ n is. still_among reply b.late pages b.among n (served.among n is); relates = gone.relates } }
  | inr none ↦
      let gone = relates_on m h out e reply old new ((behind_by_none m h out old).0 (rw none at b)) places s in
      record { effect = gone.effect; behind = record { late = []; among = λ n is. cc; relates = gone.relates } }
]

pub taken_stays_behind : TakenStaysBehind
taken_stays_behind m h out taken pages e reply old new b places may s =
    calls_stay_behind m h out pages e reply (untaken taken old) (untaken taken new) b (places_untaken taken old places) may (calls_ignore_taken taken old new e reply s)

pub failure_stays_behind : FailureStaysBehind
failure_stays_behind m h out pages dev pick old new b places goes f =
    let gone = failure_follows m h out dev pick (if_dirty b.late old) (if_dirty b.late new) b.relates (places_late old b.late places) goes (record { failed = f.failed; rest = ap (if_dirty b.late) f.rest }) in
    record { effect = gone.effect; behind = record { late = b.late; among = b.among; relates = gone.relates } }

pub flush_stays_behind : FlushStaysBehind
flush_stays_behind m h out pages dev result old new b f = record {
  late = b.late;
  among = b.among;
  relates = flush_follows m h out dev result (if_dirty b.late old) (if_dirty b.late new) b.relates (record { flushes = f.flushes; rest = ap (if_dirty b.late) f.rest });
}

-- Pages of two lists.
or_left : (a b : Bool) → a ≡ true → (a || b) ≡ true
or_left a b is = rw is refl

or_second : (a b : Bool) → (a || b) ≡ true → a ≡ false → b ≡ true
or_second true b is none = cc
or_second false b is none = is

joined : (late pages written : List ℕ) → AreAmong late pages → AreAmong (late ++ written) (pages ++ written)
joined late pages written among n is =
    named_both n pages written ∙ elim (either_way (is_named late n)) as (λ _. (is_named pages n || is_named written n) ≡ true) [
      | inl e ↦ or_left (is_named pages n) (is_named written n) (among n e)
      | inr e ↦ or_behind (is_named pages n) (is_named written n) (or_second (is_named late n) (is_named written n) (sym (named_both n late written) ∙ is) e)
    ]

caught : (pages late marks rest : List ℕ) → AreAmong late pages → AreAmong pages (marks ++ rest) → AreAmong (beside marks late) rest
caught pages late marks rest among all n is =
    let found = beside_named n marks late is in
    or_second (is_named marks n) (is_named rest n) (sym (named_both n marks rest) ∙ all n (among n found.0)) found.1

pub back_is_behind : BackIsBehind
back_is_behind m h out pages l p before after written named rest b places mem goes lent word few all =
    let late = b.late in
    let q : LiveParkedSeen = record p { dirty = with_pages p.dirty late } in
    let there : IsLiveParked (if_dirty late l) before q = record { parked = lent.parked; rest = ap (λ (x : LiveParkedSeen). record x { dirty = with_pages x.dirty late }) lent.rest } in
    let gone = live_back_follows m h out (if_dirty late l) q before after written b.relates (places_late l late places) mem goes there word in
    let new : LiveSeen = live_back p (given_back after.content (address after) p.machine.memory named) named in
    let still = beside named (late ++ written) in
    let dirty : with_pages (with_pages p.dirty named) still ≡ with_pages (with_pages p.dirty late) written =
    beside_late p.dirty named (late ++ written)
    ∙ in_turn (with_pages p.dirty named) late written ∙ ap (λ (t : List Bool). with_pages t written) (both_ways p.dirty named late) ∙ taken_in (with_pages p.dirty late) named written few in
    let P : List Bool → Type 0 = λ d. Relates m gone.history out (record new { dirty = d }) in
    record {
      history = gone.history;
      behind = record {
        late = still;
        among = caught (pages ++ written) (late ++ written) named rest (joined late pages written b.among) all;
        relates = subst P (sym dirty) (relates_with m gone.history out (live_back q (given_back after.content (address after) p.machine.memory written) written) new.machine gone.relates refl gone.relates.honest);
      };
      came = gone.came;
      text_is = gone.text_is;
    }

pub marks_catch_up : MarksCatchUp
marks_catch_up m h out pages marks rest l b places mem goes below all =
    let late = b.late in
    let bytes = l.machine.memory.bytes in
    let full : LiveSeen = if_dirty late l in
    let ready : IsReady full bytes marks = record { places = places_late l late places; memory = mem; goes = goes; below = below; long = refl; are = places.sound.bytes } in
    let gone = all_related m h out full bytes marks b.relates ready in
    let new : LiveSeen = live_marked l marks in
    let same : new.machine ≡ with_memory l.machine (pages_written l.machine.memory marks bytes) = ap (with_memory l.machine) (marked_is_written l.machine.memory marks mem below) in
    let dirty : with_pages (with_pages l.dirty marks) (beside marks late) ≡ with_pages (with_pages l.dirty late) marks = beside_late l.dirty marks late ∙ both_ways l.dirty marks late in
    record {
      history = gone.history;
      behind = record {
        late = beside marks late;
        among = caught pages late marks rest b.among all;
        relates = rw (dirty, same) gone.relates;
      };
      came = gone.came;
      text_is = gone.text_is;
    }
