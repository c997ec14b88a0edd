-- What each call of a machine that is being migrated does.
--
-- All single calls share one clause, `Serves`, by event and reply, so that `serve` and `replay` need no second one.
use Rattle.std.specs.Prelude.{◌≡◌, ℕ, ◌+◌, ◌<◌, ◌≤◌, ◌++◌, ◌%◌, ◌^◌, ◌||◌, List, [], ◌∷◌, length, replicate, Bool, true, false, IsTrue, Result, Ok, Err, slice_set, MatchOption}
use Rattle.dirtylog.specs.Members.{HasNone, IsLeast, has}
use Rattle.guestmem.specs.Item as items
use Rattle.machine.specs.Applied.{IsApplied, IsGood}
use Rattle.machine.specs.Effect.{items_of}
use Rattle.machine.specs.EffectLaws.{sector_on, sectors_on}
use Rattle.machine.specs.Layout.{firsts_of, item_at, layout_of, number_in, size_of}
use Rattle.machine.specs.Seen.{Seen, all_flushed, all_marks, failed_at, marks_at, state_of}
use Rattle.machine.specs.Stepped.{reply_in}
use Rattle.machine.specs.declared.event.Event.{Event}
use Rattle.machine.specs.declared.reply.Reply.{Reply}
use Rattle.machine.specs.declared.stepped.Stepped.{Stepped}
use Rattle.wire.specs.Records.{Record, round_end, spelled_record}
use Rattle.wire.specs.Sinks.{Covers}
use Rattle.wire.specs.Stream.{texts}
use Rattle.sender.specs.LiveState.{LiveSeen, chosen, closing, header_of, item_of, now, pages_among, refusal_for, sectors_among}
use Rattle.sender.specs.Told.{AreTold, IsTold}
use Rattle.sender.specs.declared.phase.Phase.TheVariants as phases
use Rattle.sender.specs.declared.event.Item.{Item}
use Rattle.sender.specs.declared.event.LiveEvent.{LiveEvent}
use Rattle.sender.specs.declared.event.LiveEvent.TheVariants.{Guest, Begin, Copy, EndRound, Stop}
use Rattle.sender.specs.declared.mig_error.MigError.{MigError}
use Rattle.sender.specs.declared.mig_error.MigError.TheVariants as errors
use Rattle.sender.specs.declared.event.CopyAnswer.{CopyAnswer}
use Rattle.sender.specs.declared.event.CopyAnswer.TheVariants as answers
use Rattle.sender.specs.declared.event.End.{End}
use Rattle.sender.specs.declared.event.End.TheVariants as ends
use Rattle.sender.specs.declared.event.Stopped.{Stopped}
use Rattle.sender.specs.declared.event.LiveReply.{LiveReply}
use Rattle.sender.specs.declared.event.LiveReply.TheVariants as r

-- The writer did not fail. If it is honest, it stays honest and holds these bytes after those that it held.
pub record Took (old new : LiveSeen) (bytes : List ℕ) : Type 0 where
  pub count : new.out.failures ≡ old.out.failures
  pub holds : IsTrue old.out.honest → IsTrue new.out.honest × (new.out.held ≡ old.out.held ++ bytes)

-- As `Took`, and it is digested too: the digest, of whatever bytes it was, is of those and these.
pub record Wrote (old new : LiveSeen) (bytes : List ℕ) : Type 0 where
  pub took : Took old new bytes
  pub taken : (b : List ℕ) → Covers old.digest b → Covers new.digest (b ++ bytes)

-- The machine is unchanged, but for how often its disks were called: that is in `Reads`.
pub record IsSameButCalls (old new : Seen) : Type 0 where
  pub memory : new.memory ≡ old.memory
  pub state : state_of new ≡ state_of old
  pub marks : all_marks new ≡ all_marks old
  pub flushed : all_flushed new ≡ all_flushed old

-- The writer failed in this call. The machine is unchanged, but for the calls of its disks.
pub record Fails (old new : LiveSeen) : Type 0 where
  pub machine : IsSameButCalls old.machine new.machine
  pub phase : new.phase ≡ phases.Failed
  pub count : new.out.failures ≡ (old.out.failures + 1) % 2 ^ 64

-- The set, with the numbers of the items added.
abbrev pub with_items : List ℕ → List Bool → List items.Item → List Bool
with_items firsts s [] = s
with_items firsts s (i ∷ is) = with_items firsts (slice_set s (number_in firsts i) true) is

-- An event of the guest was applied to the machine, and exactly the items that it writes into became dirty.
pub record AfterGuest (old : LiveSeen) (e : Event) (reply : Reply) (new : LiveSeen) : Type 0 where
  pub is_applied : IsApplied old.machine e reply new.machine
  pub dirty : new.dirty ≡ with_items (firsts_of (layout_of (now old))) old.dirty (items_of is_applied.effect)
  pub rest : new ≡ record old { machine = new.machine; dirty = new.dirty }

-- The header was written: every item is due, none is dirty.
pub record BeginsFirstRound (old new : LiveSeen) : Type 0 where
  pub machine : new.machine ≡ old.machine
  pub phase : new.phase ≡ phases.Open 1
  pub due : new.due ≡ replicate (size_of (layout_of (now old))) true
  pub dirty : new.dirty ≡ replicate (size_of (layout_of (now old))) false
  pub wrote : Wrote old new (header_of (now old))

-- The item of this number was sent: a page with its current content, and a sector with what its disk returned in this call.
pub record IsSent (old : LiveSeen) (i : ℕ) (new : LiveSeen) : Type 0 where
  pub machine : IsSameButCalls old.machine new.machine
  pub phase : new.phase ≡ old.phase
  pub due : new.due ≡ slice_set old.due i false
  pub dirty : new.dirty ≡ slice_set old.dirty i false
  pub entry : Record
  pub told : IsTold old.machine (item_at (layout_of (now old)) i) entry
  pub wrote : Wrote old new (spelled_record entry)

-- A disk failed as a good sector was read from it. Its count rose, and nothing else changed.
pub record IsUnread (old : LiveSeen) (dev n : ℕ) (new : LiveSeen) : Type 0 where
  pub memory : new.machine.memory ≡ old.machine.memory
  pub state : now new ≡ now old
  pub flushed : all_flushed new.machine ≡ all_flushed old.machine
  pub marks : all_marks new.machine ≡ failed_at (all_marks old.machine) dev
  pub unsteady : (marks_at (all_marks old.machine) dev).steady ≡ false
  pub good : IsGood (sector_on (sectors_on (now old) dev) n)
  pub rest : new ≡ record old { machine = new.machine }

-- The least due item was sent.
pub record Copies (old : LiveSeen) (item : Item) (new : LiveSeen) : Type 0 where
  pub number : ℕ
  pub least : IsLeast old.due 0 number
  pub item_is : item_of item ≡ item_at (layout_of (now old)) number
  pub sent : IsSent old number new

-- The least due item is this sector, which could not be read.
pub record CopyFails (old : LiveSeen) (dev n : ℕ) (new : LiveSeen) : Type 0 where
  pub number : ℕ
  pub least : IsLeast old.due 0 number
  pub item_is : items.sector dev n ≡ item_at (layout_of (now old)) number
  pub unread : IsUnread old dev n new

-- The round was ended, and the dirty items are due.
pub record EndsRound (old : LiveSeen) (k : ℕ) (new : LiveSeen) : Type 0 where
  pub round : ℕ
  pub was : old.phase ≡ phases.Open round
  pub next : k ≡ round + 1
  pub machine : new.machine ≡ old.machine
  pub phase : new.phase ≡ phases.Open k
  pub due : new.due ≡ old.dirty
  pub dirty : new.dirty ≡ replicate (size_of (layout_of (now old))) false
  pub wrote : Wrote old new (spelled_record (round_end round))

-- The item of this number is due or dirty.
abbrev pub in_either : LiveSeen → ℕ → Bool
in_either s i = has s.due i || has s.dirty i

-- The items below a number are neither due nor dirty, and the others are unchanged.
pub record AreCleared (old : LiveSeen) (to : ℕ) (new : LiveSeen) : Type 0 where
  pub gone : (i : ℕ) → i < to → in_either new i ≡ false
  pub due : (i : ℕ) → to ≤ i → has new.due i ≡ has old.due i
  pub dirty : (i : ℕ) → to ≤ i → has new.dirty i ≡ has old.dirty i

-- The items of the two sets were sent, each once and in order, then the devices and the digest of all, and the writer was
-- flushed after its last byte.
pub record Stops (old : LiveSeen) (pages sectors : ℕ) (new : LiveSeen) : Type 0 where
  pub machine : IsSameButCalls old.machine new.machine
  pub phase : new.phase ≡ phases.Stopped
  pub sets : AreCleared old (size_of (layout_of (now old))) new
  pub count : new.out.failures ≡ old.out.failures
  pub flushed : new.out.is_flushed ≡ true
  pub entries : List Record
  pub told : AreTold old.machine (chosen (in_either old) (size_of (layout_of (now old)))) entries
  pub took : (b : List ℕ) → Covers old.digest b → Took old new (texts entries ++ closing (now old) (b ++ texts entries))
  pub pages_are : pages ≡ pages_among (layout_of (now old)) (in_either old) (size_of (layout_of (now old)))
  pub sectors_are : sectors ≡ sectors_among (layout_of (now old)) (in_either old) (size_of (layout_of (now old)))

-- No stop writes more bytes than this, where the writer is honest and its digest is of known bytes.
abbrev pub StopsWithin : LiveSeen → ℕ → Type 0
StopsWithin old most = (pages sectors : ℕ) (b : List ℕ) (new : LiveSeen) → IsTrue old.out.honest → Covers old.digest b → Stops old pages sectors new → length new.out.held ≤ length old.out.held + most

-- The items of the two sets below a number were sent.
pub record AreSent (old : LiveSeen) (to : ℕ) (new : LiveSeen) : Type 0 where
  pub machine : IsSameButCalls old.machine new.machine
  pub phase : new.phase ≡ old.phase
  pub sets : AreCleared old to new
  pub entries : List Record
  pub told : AreTold old.machine (chosen (in_either old) to) entries
  pub wrote : Wrote old new (texts entries)

-- A stop that failed to read a sector: exactly the items of the two sets below it were sent.
pub record StopsShort (old : LiveSeen) (dev n : ℕ) (new : LiveSeen) : Type 0 where
  pub number : ℕ
  pub below : number < size_of (layout_of (now old))
  pub member : in_either old number ≡ true
  pub item_is : items.sector dev n ≡ item_at (layout_of (now old)) number
  pub between : LiveSeen
  pub are_sent : AreSent old number between
  pub unread : IsUnread between dev n new

abbrev pub AfterBegin : LiveSeen → LiveReply → LiveSeen → Type 0
AfterBegin old (r.Begun k) new = (k ≡ 1) × BeginsFirstRound old new
AfterBegin old (r.Mig errors.StreamFailed) new = Fails old new
AfterBegin old _ new = ⊥

abbrev pub AfterCopy : LiveSeen → LiveReply → LiveSeen → Type 0
AfterCopy old (r.Copied item) new = Copies old item new
AfterCopy old r.RoundDone new = HasNone old.due × (new ≡ old)
AfterCopy old (r.Mig (errors.DiskFailed dev n)) new = CopyFails old dev n new
AfterCopy old (r.Mig errors.StreamFailed) new = Fails old new
AfterCopy old _ new = ⊥

abbrev pub AfterRound : LiveSeen → LiveReply → LiveSeen → Type 0
AfterRound old (r.Begun k) new = HasNone old.due × EndsRound old k new
AfterRound old r.RoundOpen new = ¬ (HasNone old.due) × (new ≡ old)
AfterRound old (r.Mig errors.StreamFailed) new = Fails old new
AfterRound old _ new = ⊥

abbrev pub AfterStop : LiveSeen → LiveReply → LiveSeen → Type 0
AfterStop old (r.Stopped pages sectors) new = Stops old pages sectors new
AfterStop old (r.Mig (errors.DiskFailed dev n)) new = StopsShort old dev n new
AfterStop old (r.Mig errors.StreamFailed) new = Fails old new
AfterStop old _ new = ⊥

abbrev pub Guests : LiveSeen → Event → LiveReply → LiveSeen → Type 0
Guests old e (r.Guest reply) new = AfterGuest old e reply new
Guests old e _ new = ⊥

abbrev pub Does : LiveSeen → LiveEvent → LiveReply → LiveSeen → Type 0
Does old (Guest e) reply new = Guests old e reply new
Does old Begin reply new = AfterBegin old reply new
Does old Copy reply new = AfterCopy old reply new
Does old EndRound reply new = AfterRound old reply new
Does old Stop reply new = AfterStop old reply new

-- Every call: its phase refuses it and nothing changes, or it is done.
abbrev pub Serves : LiveSeen → LiveEvent → LiveReply → LiveSeen → Type 0
Serves old e reply new = MatchOption (refusal_for old.phase e) (Does old e reply new) (λ x. (reply ≡ r.Mig x) × (new ≡ old))

-- Results as replies.
abbrev pub guest_reply : Result Reply MigError → LiveReply
guest_reply (Ok reply) = r.Guest reply
guest_reply (Err e) = r.Mig e

-- The result of a step whose message is in a buffer that holds these bytes.
abbrev pub stepped_result : Result Stepped MigError → List ℕ → Result Reply MigError
stepped_result (Ok stepped) sent = Ok (reply_in stepped sent)
stepped_result (Err e) sent = Err e

abbrev pub begun_reply : Result ℕ MigError → LiveReply
begun_reply (Ok k) = r.Begun k
begun_reply (Err e) = r.Mig e

abbrev pub copied_reply : Result CopyAnswer MigError → LiveReply
copied_reply (Ok (answers.Copied item)) = r.Copied item
copied_reply (Ok answers.RoundDone) = r.RoundDone
copied_reply (Err e) = r.Mig e

abbrev pub ended_reply : Result End MigError → LiveReply
ended_reply (Ok (ends.Begun k)) = r.Begun k
ended_reply (Ok ends.RoundOpen) = r.RoundOpen
ended_reply (Err e) = r.Mig e

abbrev pub stopped_reply : Result Stopped MigError → LiveReply
stopped_reply (Ok s) = r.Stopped s.pages s.sectors
stopped_reply (Err e) = r.Mig e
