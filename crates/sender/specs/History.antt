-- What happened to a machine that is being migrated, and what follows from it: the machine after it, which items are stale and
-- due, and what was written.
--
-- A history holds the effect of each event beside its reply, since what an event touches is a matter of its effect. This leaves
-- no choice: see the law `replies_settle`. Staleness names no set: `replay` is promised by the history alone, and that the two
-- sets are what is due and what is stale is a law beside it. So a set may be kept in any way.
use Rattle.std.specs.Prelude.{◌≡◌, ℕ, ◌+◌, ◌-◌, ◌<◌, ◌++◌, ◌==◌, ◌||◌, ◌&&◌, not, nat_lt, if◌then◌else◌, List, [], ◌∷◌, Bool, true, false, MatchOption}
use Rattle.guestmem.specs.Item as items
use Rattle.machine.specs.Applied.{IsGood}
use Rattle.machine.specs.Effect.{Effect, no_effect, applied, items_of}
use Rattle.machine.specs.EffectLaws.{sector_on, sectors_on}
use Rattle.machine.specs.Layout.{Layout, item_at, layout_of, number_of, size_of}
use Rattle.machine.specs.Outcome.{outcome_of}
use Rattle.machine.specs.Sound.{IsSound}
use Rattle.machine.specs.State.{MachineState}
use Rattle.machine.specs.Step.{HasEffect}
use Rattle.machine.specs.declared.event.Event.{Event}
use Rattle.machine.specs.declared.reply.Reply.{Reply}
use Rattle.wire.specs.Records.{Record, round_end}
use Rattle.wire.specs.Stream.{record_of, texts}
use Rattle.sender.specs.LiveState.{chosen, closing, header_of, item_of, pages_among, records_of, refusal_for, sectors_among}
use Rattle.sender.specs.declared.phase.Phase.{Phase}
use Rattle.sender.specs.declared.phase.Phase.TheVariants as phases
use Rattle.sender.specs.declared.event.LiveEvent.{LiveEvent}
use Rattle.sender.specs.declared.event.LiveEvent.TheVariants.{Guest, Begin, Copy, EndRound, Stop}
use Rattle.sender.specs.declared.mig_error.MigError.TheVariants as errors
use Rattle.sender.specs.declared.event.LiveReply.{LiveReply}
use Rattle.sender.specs.declared.event.LiveReply.TheVariants as r

-- Each event with its reply, and what it changed in the machine. The change counts only for an event of the guest that the
-- migration did not refuse.
pub data History : Type 0 where
  nothing : History
  then_came : History → LiveEvent → LiveReply → Effect → History

-- The history, continued by these events, replies and effects.
abbrev pub onward : History → List LiveEvent → List LiveReply → List Effect → History
onward h (e ∷ es) (reply ∷ replies) (f ∷ fs) = onward (then_came h e reply f) es replies fs
onward h es replies fs = h

-- The machine after an event.
abbrev pub went : MachineState → LiveEvent → LiveReply → Effect → MachineState
went m (Guest e) (r.Guest reply) f = applied m f
went m _ _ f = m

abbrev pub machine_after : MachineState → History → MachineState
machine_after m nothing = m
machine_after m (then_came h e reply f) = went (machine_after m h) e reply f

-- The events of the guest that the migration did not refuse, and their replies.
abbrev pub events_with : List Event → LiveEvent → LiveReply → List Event
events_with so_far (Guest e) (r.Guest reply) = so_far ++ e ∷ []
events_with so_far _ _ = so_far

abbrev pub replies_with : List Reply → LiveEvent → LiveReply → List Reply
replies_with so_far (Guest e) (r.Guest reply) = so_far ++ reply ∷ []
replies_with so_far _ _ = so_far

abbrev pub guest_events : History → List Event
guest_events nothing = []
guest_events (then_came h e reply f) = events_with (guest_events h) e reply

abbrev pub guest_replies : History → List Reply
guest_replies nothing = []
guest_replies (then_came h e reply f) = replies_with (guest_replies h) e reply

-- One of these items has this number.
abbrev pub is_numbered : Layout → List items.Item → ℕ → Bool
is_numbered l [] i = false
is_numbered l (item ∷ is) i = (i == number_of l item) || is_numbered l is i

-- The event writes into the item.
abbrev pub touches : Layout → LiveEvent → LiveReply → Effect → ℕ → Bool
touches l (Guest e) (r.Guest reply) f i = is_numbered l (items_of f) i
touches l _ _ f i = false

-- The event sends the item. A stop that answers Ok sends the items that were stale before it; a stop that fails to read a
-- sector sends the stale items whose numbers are below that of the sector.
abbrev pub sends : Layout → (ℕ → Bool) → LiveEvent → LiveReply → ℕ → Bool
sends l stale Copy (r.Copied item) i = i == number_of l (item_of item)
sends l stale Stop (r.Stopped pages sectors) i = stale i
sends l stale Stop (r.Mig (errors.DiskFailed dev n)) i = stale i && nat_lt i (number_of l (items.sector dev n))
sends l stale _ _ i = false

-- The item was never sent, or was written after it was last sent.
abbrev pub is_stale : Layout → History → ℕ → Bool
is_stale l nothing i = true
is_stale l (then_came h e reply f) i = touches l e reply f i || (is_stale l h i && not (sends l (is_stale l h) e reply i))

abbrev pub is_begun : LiveReply → Bool
is_begun (r.Begun k) = true
is_begun _ = false

-- The item was stale just after the last round began, and was not sent since.
abbrev pub is_due : Layout → History → ℕ → Bool
is_due l nothing i = false
is_due l (then_came h e reply f) i = if is_begun reply then is_stale l (then_came h e reply f) i else (is_due l h i && not (sends l (is_stale l h) e reply i))

-- The records that an event writes before the devices.
abbrev pub sent : MachineState → (ℕ → Bool) → LiveEvent → LiveReply → List Record
sent m stale Copy (r.Copied item) = record_of m (item_of item) ∷ []
sent m stale EndRound (r.Begun k) = round_end (k - 1) ∷ []
sent m stale Stop (r.Stopped pages sectors) = records_of m (chosen stale (size_of (layout_of m)))
sent m stale Stop (r.Mig (errors.DiskFailed dev n)) = records_of m (chosen stale (number_of (layout_of m) (items.sector dev n)))
sent m stale _ _ = []

abbrev pub entries : MachineState → History → List Record
entries m nothing = []
entries m (then_came h e reply f) = entries m h ++ sent (machine_after m h) (is_stale (layout_of m) h) e reply

-- What an event writes, by what was written before.
abbrev pub written : List ℕ → MachineState → (ℕ → Bool) → LiveEvent → LiveReply → List ℕ
written before m stale Begin (r.Begun k) = header_of m
written before m stale Stop (r.Stopped pages sectors) =
    let records = texts (sent m stale Stop (r.Stopped pages sectors)) in
    records ++ closing m (before ++ records)
written before m stale e reply = texts (sent m stale e reply)

-- All that was written.
abbrev pub text : MachineState → History → List ℕ
text m nothing = []
text m (then_came h e reply f) = text m h ++ written (text m h) (machine_after m h) (is_stale (layout_of m) h) e reply

-- The phase of the migration, by the replies.
abbrev pub next_phase : Phase → LiveReply → Phase
next_phase p (r.Begun k) = phases.Open k
next_phase p (r.Stopped pages sectors) = phases.Stopped
next_phase p (r.Mig errors.StreamFailed) = phases.Failed
next_phase p _ = p

abbrev pub phase_of : History → Phase
phase_of nothing = phases.Fresh
phase_of (then_came h e reply f) = next_phase (phase_of h) reply

-- It is the least of the numbers below n that pass the test.
pub record IsTheLeast (p : ℕ → Bool) (n i : ℕ) : Type 0 where
  pub below : i < n
  pub passes : p i ≡ true
  pub none_before : (k : ℕ) → k < i → p k ≡ false

abbrev pub NoneBelow : (ℕ → Bool) → ℕ → Type 0
NoneBelow p n = (k : ℕ) → k < n → p k ≡ false

-- The item is the least that is due.
pub record IsLeastDue (l : Layout) (due : ℕ → Bool) (item : items.Item) : Type 0 where
  pub number : ℕ
  pub item_is : item ≡ item_at l number
  pub least : IsTheLeast due (size_of l) number

-- The item is stale.
pub record IsStaleItem (l : Layout) (stale : ℕ → Bool) (item : items.Item) : Type 0 where
  pub number : ℕ
  pub item_is : item ≡ item_at l number
  pub below : number < size_of l
  pub is : stale number ≡ true

abbrev pub IsNextRound : Phase → ℕ → Type 0
IsNextRound (phases.Open k) next = next ≡ k + 1
IsNextRound _ next = ⊥

-- A sector that is not bad.
abbrev pub IsGoodIn : MachineState → ℕ → ℕ → Type 0
IsGoodIn m dev n = IsGood (sector_on (sectors_on m dev) n)

-- The replies that are allowed where the phase does not refuse the event. After an event of the guest the machine is still
-- sound.
abbrev pub AllowedGuest : MachineState → Event → LiveReply → Effect → Type 0
AllowedGuest m e (r.Guest reply) f = HasEffect m e (outcome_of reply) reply f × IsSound (applied m f)
AllowedGuest m e _ f = ⊥

abbrev pub AllowedBegin : LiveReply → Type 0
AllowedBegin (r.Begun k) = k ≡ 1
AllowedBegin (r.Mig errors.StreamFailed) = Unit {0}
AllowedBegin _ = ⊥

abbrev pub AllowedCopy : Layout → MachineState → (ℕ → Bool) → LiveReply → Type 0
AllowedCopy l m due (r.Copied item) = IsLeastDue l due (item_of item)
AllowedCopy l m due r.RoundDone = NoneBelow due (size_of l)
AllowedCopy l m due (r.Mig (errors.DiskFailed dev n)) = IsLeastDue l due (items.sector dev n) × IsGoodIn m dev n
AllowedCopy l m due (r.Mig errors.StreamFailed) = Unit {0}
AllowedCopy l m due _ = ⊥

abbrev pub AllowedRound : Layout → (ℕ → Bool) → Phase → LiveReply → Type 0
AllowedRound l due phase (r.Begun k) = NoneBelow due (size_of l) × IsNextRound phase k
AllowedRound l due phase r.RoundOpen = ¬ (NoneBelow due (size_of l))
AllowedRound l due phase (r.Mig errors.StreamFailed) = Unit {0}
AllowedRound l due phase _ = ⊥

abbrev pub AllowedStop : Layout → MachineState → (ℕ → Bool) → LiveReply → Type 0
AllowedStop l m stale (r.Stopped pages sectors) = (pages ≡ pages_among l stale (size_of l)) × (sectors ≡ sectors_among l stale (size_of l))
AllowedStop l m stale (r.Mig (errors.DiskFailed dev n)) = IsStaleItem l stale (items.sector dev n) × IsGoodIn m dev n
AllowedStop l m stale (r.Mig errors.StreamFailed) = Unit {0}
AllowedStop l m stale _ = ⊥

abbrev pub AllowedBy : Layout → MachineState → (ℕ → Bool) → (ℕ → Bool) → Phase → LiveEvent → LiveReply → Effect → Type 0
AllowedBy l m stale due phase (Guest e) reply f = AllowedGuest m e reply f
AllowedBy l m stale due phase Begin reply f = AllowedBegin reply
AllowedBy l m stale due phase Copy reply f = AllowedCopy l m due reply
AllowedBy l m stale due phase EndRound reply f = AllowedRound l due phase reply
AllowedBy l m stale due phase Stop reply f = AllowedStop l m stale reply

-- The reply and the effect are allowed for this event after this history of the machine.
abbrev pub Allowed : MachineState → History → LiveEvent → LiveReply → Effect → Type 0
Allowed m h e reply f =
    MatchOption (refusal_for (phase_of h) e) (AllowedBy (layout_of m) (machine_after m h) (is_stale (layout_of m) h) (is_due (layout_of m) h) (phase_of h) e reply f) (λ x. reply ≡ r.Mig x)

-- Only an event of the guest that the migration did not refuse changes the machine.
abbrev pub IsItsChange : LiveEvent → LiveReply → Effect → Type 0
IsItsChange (Guest e) (r.Guest reply) f = Unit {0}
IsItsChange _ _ f = f ≡ no_effect

-- Every reply is allowed after those before it.
abbrev pub AllAllowed : MachineState → History → Type 0
AllAllowed m nothing = Unit {0}
AllAllowed m (then_came h e reply f) = AllAllowed m h × Allowed m h e reply f × IsItsChange e reply f

abbrev pub is_fault : LiveReply → Bool
is_fault (r.Mig errors.StreamFailed) = true
is_fault _ = false

-- Some reply says that the writer failed.
abbrev pub has_fault : History → Bool
has_fault nothing = false
has_fault (then_came h e reply f) = has_fault h || is_fault reply
