-- Steps that the caller makes beside the guest while the RAM is lent: each over a window, into which it has copied some pieces of RAM.
use Rattle.std.specs.Prelude.{◌≡◌, ℕ, ◌/◌, List, length, Bool, true, false, slice_index, Result, Ok, Err, MatchOption}
use Rattle.chains.specs.Footprint.{AgreeOn}
use Rattle.chains.specs.declared.lacking.Piece.{Piece}
use Rattle.guestmem.specs.Lent.{AreBelow, is_named}
use Rattle.guestmem.specs.Number.{IsBytes}
use Rattle.guestmem.specs.Writes.{set_all}
use Rattle.guestmem.specs.declared.limits.TheConstants.{PAGE_SIZE}
use Rattle.machine.specs.Beside.{IsMadeOver, KnowsReads, KnowsWord, ended, step_publishing, window_memory}
use Rattle.machine.specs.Effect.{items_of}
use Rattle.machine.specs.Footprint.{asks_at}
use Rattle.machine.specs.Layout.{firsts_of}
use Rattle.machine.specs.Parked.{ParkedSeen, back_with}
use Rattle.machine.specs.Seen.{state_of}
use Rattle.machine.specs.Stepped.{reply_in}
use Rattle.machine.specs.Stored.{indexes_of, stored}
use Rattle.machine.specs.declared.event.Event.TheVariants.{Step}
use Rattle.machine.specs.declared.reply.Reply.{Reply}
use Rattle.machine.specs.declared.stepped.Stepped.{Stepped}
use Rattle.region.specs.Lending.{with_content}
use Rattle.region.specs.declared.region.Region.{Region}
use Rattle.sender.specs.Calls.{with_items}
use Rattle.sender.specs.Parked.{KeepsWord, LiveParkedSeen, parked_layout}
use Rattle.sender.specs.LiveState.{refusal_for}
use Rattle.sender.specs.ParkedCalls.{IsLentCall, MakesBeside, a_step, parked_base}
use Rattle.sender.specs.declared.event.LiveEvent.TheVariants.{Guest}
use Rattle.sender.specs.declared.mig_error.MigError.{MigError}

-- A step that was made over a window is one beside the guest, where RAM, as the step saw it, is what the window is in the pieces that are
-- held, and these are all that the step reads.
abbrev pub OverIsBeside : Type 0
OverIsBeside = (p next : ParkedSeen) (window left : Region) (held : List Piece) (dev pick : ℕ) (reply : Reply) (h : IsMadeOver p window dev pick reply left next) (seen : List ℕ) → length window.content ≡ length seen → AgreeOn window.content seen held
    → KnowsReads held (state_of (back_with p (window_memory p window))) dev pick → KnowsWord held (state_of (back_with p (window_memory p window))) dev pick → MakesBeside p seen dev pick reply h.applied.effect next

-- So is one whose word is read last: where the word of the window asks for no interrupt, the step is ended by that of RAM, as the step saw it,
-- behind what the step writes.
abbrev pub OpenIsBeside : Type 0
OpenIsBeside = (p next : ParkedSeen) (window left : Region) (held : List Piece) (dev pick : ℕ) (reply : Reply) (h : IsMadeOver p window dev pick reply left next) (seen : List ℕ) → length window.content ≡ length seen → AgreeOn window.content seen held
    → KnowsReads held (state_of (back_with p (window_memory p window))) dev pick → asks_at (step_publishing (state_of (back_with p (window_memory p window))) dev pick h.applied.has.seen reply) h.after.bytes ≡ false
    → MakesBeside p seen dev pick reply h.applied.effect (ended (asks_at (step_publishing (state_of (back_with p (window_memory p window))) dev pick h.applied.has.seen reply) (set_all seen h.applied.effect.writes)) dev next)

-- A machine that is being migrated, and whose RAM is lent, made a step over a window: exactly the items that the step writes into became dirty.
pub record IsLiveMadeOver (p : LiveParkedSeen) (window : Region) (dev pick : ℕ) (reply : Reply) (left : Region) (next : LiveParkedSeen) : Type 0 where
  pub made : IsMadeOver p.machine window dev pick reply left next.machine
  pub dirty : next.dirty ≡ with_items (firsts_of (parked_layout p.machine)) p.dirty (items_of made.applied.effect)
  pub rest : next ≡ record p { machine = next.machine; dirty = next.dirty }

-- The call: the phase refuses it as it refuses the step, and nothing changes, or it is made.
abbrev pub AnswersOver : LiveParkedSeen → Region → ℕ → ℕ → Result Stepped MigError → List ℕ → Region → LiveParkedSeen → Type 0
AnswersOver p window dev pick (Ok stepped) sent left next = IsLiveMadeOver p window dev pick (reply_in stepped sent) left next
AnswersOver p window dev pick (Err e) sent left next = ⊥

abbrev pub TriesOver : LiveParkedSeen → Region → ℕ → ℕ → Result Stepped MigError → List ℕ → Region → LiveParkedSeen → Type 0
TriesOver p window dev pick result sent left next =
    MatchOption (refusal_for p.phase (Guest (Step dev pick))) (AnswersOver p window dev pick result sent left next) (λ x. (result ≡ Err x) × (left ≡ window) × (next ≡ p))

-- A step that is made is a call of the loan, whatever RAM was elsewhere.
abbrev pub OverIsLentCall : Type 0
OverIsLentCall = (p next : LiveParkedSeen) (window left : Region) (held : List Piece) (dev pick : ℕ) (reply : Reply) (h : IsLiveMadeOver p window dev pick reply left next) (wrote seen : List ℕ) → length window.content ≡ length seen → AgreeOn window.content seen held
    → KnowsReads held (state_of (back_with p.machine (window_memory p.machine window))) dev pick → KnowsWord held (state_of (back_with p.machine (window_memory p.machine window))) dev pick
    → IsLentCall p (a_step (parked_base p) wrote seen dev pick reply h.made.applied.effect) next

-- A step that is open is one once it is ended.
abbrev pub live_ended : Bool → ℕ → LiveParkedSeen → LiveParkedSeen
live_ended due dev p = record p { machine = ended due dev p.machine }

abbrev pub OpenIsLentCall : Type 0
OpenIsLentCall = (p next : LiveParkedSeen) (window left : Region) (held : List Piece) (dev pick : ℕ) (reply : Reply) (h : IsLiveMadeOver p window dev pick reply left next) (wrote seen : List ℕ) → length window.content ≡ length seen → AgreeOn window.content seen held
    → KnowsReads held (state_of (back_with p.machine (window_memory p.machine window))) dev pick
    → asks_at (step_publishing (state_of (back_with p.machine (window_memory p.machine window))) dev pick h.made.applied.has.seen reply) h.made.after.bytes ≡ false
    → IsLentCall p (a_step (parked_base p) wrote seen dev pick reply h.made.applied.effect)
    (live_ended (asks_at (step_publishing (state_of (back_with p.machine (window_memory p.machine window))) dev pick h.made.applied.has.seen reply) (set_all seen h.made.applied.effect.writes)) dev next)

-- RAM by the history, with the bytes of the window in these pieces, is RAM as a step saw it that holds them.
pub record IsPut (region : Region) (window : List ℕ) (held : List Piece) (count : ℕ) (wrote : List ℕ) : Type 0 where
  pub word : KeepsWord region (with_content region (stored window region.content held)) count wrote
  pub size : length window ≡ length (stored window region.content held)
  pub agrees : AgreeOn window (stored window region.content held) held

-- The guest had written those pages in which what was read is not what RAM holds by the history; the others that were read may be left out.
abbrev pub PiecesAreSeen : Type 0
PiecesAreSeen = (region : Region) (window : List ℕ) (held : List Piece) (count : ℕ) (wrote : List ℕ) → length window ≡ length region.content → IsBytes window → IsBytes region.content → AreBelow count wrote
    → ((a : ℕ) → is_named (indexes_of held) a ≡ true → is_named wrote (a / PAGE_SIZE) ≡ false → slice_index window a ≡ slice_index region.content a) → IsPut region window held count wrote
