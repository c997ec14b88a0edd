-- A caller who keeps the guest's RAM in memory of its own, and mirrors it into the machine: whole pages are handed in and out,
-- and a list of the caller holds the version at which it had each page.
use Rattle.std.specs.Prelude.{◌≡◌, ◌⊎◌, ℕ, ◌-◌, ◌^◌, ◌<◌, ◌≤◌, ◌==◌, ◌&&◌, ◌||◌, ◌++◌, not, nat_lt, if◌then◌else◌, Bool, true, false, List, [], ◌∷◌, Option, Some, None, length, take, drop, slice_index, slice_set}
use Rattle.guestmem.specs.Memory.{IsMemory, Memory}
use Rattle.guestmem.specs.Page.{page_of}
use Rattle.machine.specs.Applied.{IsApplied}
use Rattle.machine.specs.Parked.{page_address}
use Rattle.machine.specs.Seen.{Seen}
use Rattle.machine.specs.declared.event.Event.{Event}
use Rattle.machine.specs.declared.reply.Reply.{Reply}
use Rattle.sender.specs.LiveState.{how_many}
use Rattle.sender.specs.declared.mig_error.MigError.TheVariants.{AlreadyStopped}
use Rattle.sender.specs.declared.phase.Phase.{Phase}
use Rattle.sender.specs.declared.phase.Phase.TheVariants as phases
use Rattle.c_machine.specs.Named.{are_pages, is_known_pages, named_pages, needs_list, pages_refusal}
use Rattle.c_handle.specs.OnHandle.{OfHandle, OnLoggedHandle, Refuses, Unless}
use Rattle.c_machine.specs.Status.{done, lent, no_machine, no_memory, not_known, too_small}
use Rattle.c_handle.specs.SendStatus.{mig_status}
use Rattle.c_handle.specs.Told.{WritesKept}
use Rattle.c_handle.specs.Kept.{KeptSeen, State, Still, Moving, Arriving, Lent}
use Rattle.c_machine.specs.declared.pages.Pages.{Pages}

-- A machine that is arriving is none yet, and one whose RAM is lent has no bytes of it.
abbrev pub is_away : State → Bool
is_away (Still m) = false
is_away (Moving l) = false
is_away (Arriving r) = true
is_away (Lent x) = true

-- The status that says so.
abbrev pub away_status : State → ℕ
away_status (Lent x) = lent
away_status _ = no_machine

abbrev pub no_machine_seen : Seen
no_machine_seen = record { memory = record { bytes = []; versions = []; place = None }; devices = [] }

-- The machine of a handle, whether it is being migrated or not; where its RAM is away, an empty one.
abbrev pub machine_in : State → Seen
machine_in (Still m) = m
machine_in (Moving l) = l.machine
machine_in _ = no_machine_seen

abbrev pub memory_in : State → Memory
memory_in k = (machine_in k).memory

-- The greatest 64-bit number: the caller notes it for a page that it has not seen, and a page's version stays there once it
-- has reached it.
abbrev pub unseen : ℕ
unseen = 2 ^ 64 - 1

-- The caller has room for fewer bytes than RAM has, or for fewer versions than there are pages.
abbrev pub is_short : Memory → ℕ → ℕ → Bool
is_short m bytes entries = nat_lt bytes (length m.bytes) || nat_lt entries (length m.versions)

-- A machine that was stopped.
abbrev pub is_closed : Phase → Bool
is_closed phases.Stopped = true
is_closed _ = false

abbrev pub is_stopped : State → Bool
is_stopped (Still m) = false
is_stopped (Moving l) = is_closed l.phase
is_stopped _ = false

-- Why pages are not handed in.
abbrev pub push_refusal : State → Pages → ℕ → ℕ → Option ℕ
push_refusal k pages bytes entries =
    if is_away k then Some (away_status k)
    else if is_stopped k then Some (mig_status AlreadyStopped)
    else if not (is_known_pages pages) then Some not_known
    else if is_short (memory_in k) bytes entries then Some too_small
    else pages_refusal pages (length (memory_in k).versions)

-- There is a machine that runs, room for all of its RAM, and each number is that of one of its pages.
pub record IsPushable (k : State) (pages : List ℕ) (bytes entries : ℕ) : Type 0 where
  pub here : is_away k ≡ false
  pub going : is_stopped k ≡ false
  pub room : is_short (memory_in k) bytes entries ≡ false
  pub are : are_pages (length (memory_in k).versions) pages ≡ true

-- A page was handed in: the guest wrote it whole, and its version after that is noted.
pub record IsPushed (k : State) (log : Option (List Bool)) (n : ℕ) (ram seen new_seen : List ℕ) (next : State) (new_log : Option (List Bool)) : Type 0 where
  pub written : WritesKept k log (page_address (machine_in k) n) (page_of ram n) done next new_log
  pub noted : new_seen ≡ slice_set seen n (slice_index (memory_in next).versions n)

-- Pages were handed in one after another.
abbrev pub ArePushed : State → Option (List Bool) → List ℕ → List ℕ → List ℕ → List ℕ → State → Option (List Bool) → Type 0
ArePushed k log [] ram seen new_seen next new_log = (next ≡ k) × (new_seen ≡ seen) × (new_log ≡ log)
ArePushed k log (n ∷ pages) ram seen new_seen next new_log =
    (mid : State) × (mid_log : Option (List Bool)) × (mid_seen : List ℕ) × IsPushed k log n ram seen mid_seen mid mid_log × ArePushed mid mid_log pages ram mid_seen new_seen next new_log

pub record HasPushed (k : State) (log : Option (List Bool)) (pages ram : List ℕ) (status : ℕ) (seen new_seen : List ℕ) (next : State) (new_log : Option (List Bool)) : Type 0 where
  pub pushed : ArePushed k log pages ram seen new_seen next new_log
  pub status_is : status ≡ done

-- Where their numbers have to be collected memory may be refused: then nothing changed.
abbrev pub PushesKept : State → Option (List Bool) → Pages → List ℕ → ℕ → List ℕ → List ℕ → State → Option (List Bool) → Type 0
PushesKept k log pages ram status seen new_seen next new_log =
    let refused : ℕ → Type 0 = λ reason. Refuses status new_seen seen reason × (next ≡ k) × (new_log ≡ log) in
    Unless (push_refusal k pages (length ram) (length seen)) refused
    (HasPushed k log (named_pages pages (length (memory_in k).versions)) ram status seen new_seen next new_log ⊎ ((needs_list pages ≡ true) × refused no_memory))

-- Pages were handed in to the machine of a handle.
abbrev pub Pushed : Option KeptSeen → Pages → List ℕ → ℕ → List ℕ → List ℕ → Option KeptSeen → Type 0
Pushed k pages ram status seen new_seen after = OnLoggedHandle (Refuses status new_seen seen) (λ old next log. PushesKept old.state old.written pages ram status seen new_seen next log) k after

-- The caller has the current content of the page: it noted its version, and that is not the greatest number.
abbrev pub is_noted : Memory → List ℕ → ℕ → Bool
is_noted m seen n = slice_index seen n == slice_index m.versions n && nat_lt (slice_index m.versions n) unseen

-- Each page of which the caller does not have the current content was handed out; the others are unchanged, and so is all that
-- follows the last page. Every version is noted. `count` pages were handed out.
pub record HasPulled (m : Memory) (ram new_ram seen new_seen : List ℕ) (count : ℕ) : Type 0 where
  pub sound : IsMemory m
  pub pages : (n : ℕ) → n < length m.versions → page_of new_ram n ≡ (if is_noted m seen n then page_of ram n else page_of m.bytes n)
  pub rest : drop (length m.bytes) new_ram ≡ drop (length m.bytes) ram
  pub noted : new_seen ≡ m.versions ++ drop (length m.versions) seen
  pub count_is : count ≡ how_many (λ n. not (is_noted m seen n)) (length m.versions)

-- Nothing was handed out, and nothing changed.
pub record IsUnpulled (refusal status : ℕ) (ram new_ram seen new_seen : List ℕ) (count before : ℕ) : Type 0 where
  pub status_is : status ≡ refusal
  pub ram_same : new_ram ≡ ram
  pub seen_same : new_seen ≡ seen
  pub count_same : count ≡ before

abbrev pub PullsIf : Bool → Memory → ℕ → List ℕ → List ℕ → List ℕ → List ℕ → ℕ → ℕ → Type 0
PullsIf true m status ram new_ram seen new_seen count before = IsUnpulled too_small status ram new_ram seen new_seen count before
PullsIf false m status ram new_ram seen new_seen count before = (status ≡ done) × HasPulled m ram new_ram seen new_seen count

abbrev pub Pulls : Memory → ℕ → List ℕ → List ℕ → List ℕ → List ℕ → ℕ → ℕ → Type 0
Pulls m status ram new_ram seen new_seen count before = PullsIf (is_short m (length ram) (length seen)) m status ram new_ram seen new_seen count before

abbrev pub PullsUnless : Bool → State → ℕ → List ℕ → List ℕ → List ℕ → List ℕ → ℕ → ℕ → Type 0
PullsUnless true k status ram new_ram seen new_seen count before = IsUnpulled (away_status k) status ram new_ram seen new_seen count before
PullsUnless false k status ram new_ram seen new_seen count before = Pulls (memory_in k) status ram new_ram seen new_seen count before

abbrev pub PullsKept : State → ℕ → List ℕ → List ℕ → List ℕ → List ℕ → ℕ → ℕ → Type 0
PullsKept k status ram new_ram seen new_seen count before = PullsUnless (is_away k) k status ram new_ram seen new_seen count before

-- Pages of the machine of a handle were handed out.
abbrev pub Pulled : Option KeptSeen → ℕ → List ℕ → List ℕ → List ℕ → List ℕ → ℕ → ℕ → Type 0
Pulled k status ram new_ram seen new_seen count before = OfHandle (λ reason. IsUnpulled reason status ram new_ram seen new_seen count before) (λ state. PullsKept state status ram new_ram seen new_seen count before) k

-- What the caller noted of a page that it has seen is not ahead of the page's version. Where `is_noted` holds, the page is the
-- same as the machine's.
pub record MirrorsPage (m : Memory) (ram seen : List ℕ) (n : ℕ) : Type 0 where
  pub not_ahead : slice_index seen n < unseen → slice_index seen n ≤ slice_index m.versions n
  pub same : is_noted m seen n ≡ true → page_of ram n ≡ page_of m.bytes n

-- The caller's RAM mirrors the machine's.
abbrev pub Mirrors : Memory → List ℕ → List ℕ → Type 0
Mirrors m ram seen = (n : ℕ) → n < length m.versions → MirrorsPage m ram seen n

-- A caller that has seen no page has a mirror, whatever its RAM is.
abbrev pub UnseenMirrors : Type 0
UnseenMirrors = (m : Memory) (ram seen : List ℕ) → ((n : ℕ) → n < length m.versions → slice_index seen n ≡ unseen) → Mirrors m ram seen

-- Whatever is applied to the machine, a mirror stays one.
abbrev pub AppliedMirrors : Type 0
AppliedMirrors = (m next : Seen) (e : Event) (reply : Reply) (ram seen : List ℕ) → IsApplied m e reply next → Mirrors m.memory ram seen → Mirrors next.memory ram seen

-- A mirror into which the pages are handed out is the machine's RAM, and stays a mirror.
abbrev pub PulledMirrors : Type 0
PulledMirrors = (m : Memory) (ram new_ram seen new_seen : List ℕ) (count : ℕ) → Mirrors m ram seen → HasPulled m ram new_ram seen new_seen count
    → (take (length m.bytes) new_ram ≡ m.bytes) × Mirrors m new_ram new_seen

-- The number is one of these.
abbrev pub is_among : List ℕ → ℕ → Bool
is_among [] n = false
is_among (k ∷ pages) n = n == k || is_among pages n

-- Once pages were handed in, they are mirrored, and so is each other page that was before.
abbrev pub PushedMirrors : Type 0
PushedMirrors = (k next : State) (log new_log : Option (List Bool)) (pages ram seen new_seen : List ℕ) → IsMemory (memory_in k) → IsPushable k pages (length ram) (length seen)
    → ((n : ℕ) → n < length (memory_in k).versions → is_among pages n ≡ false → MirrorsPage (memory_in k) ram seen n)
    → ArePushed k log pages ram seen new_seen next new_log → Mirrors (memory_in next) ram new_seen
