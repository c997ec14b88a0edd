-- A machine that is being migrated, whose RAM is given back, is the one into which the guest wrote those pages.
use Rattle.std.proofs.Common.{◌≡◌, ◌≢◌, ℕ, suc, ◌+◌, ◌-◌, ◌*◌, ◌/◌, ◌<◌, Bool, true, List, [], ◌∷◌, length, set, refl, sym, ap, subst, ◌∙◌, append_assoc, arith}
use Rattle.std.proofs.lemmas.List.{append-nil, length-set}
use Rattle.region.specs.Address.{address}
use Rattle.region.specs.declared.region.Region.{Region}
use Rattle.guestmem.specs.Item.{Item, after_all, pages_between}
use Rattle.guestmem.specs.Lent.{AreBelow, given_back, pages_written}
use Rattle.guestmem.specs.Memory.{IsMemory, Memory}
use Rattle.guestmem.specs.Number.{IsBytes}
use Rattle.guestmem.specs.Page.{page_of}
use Rattle.guestmem.specs.Write.{written}
use Rattle.guestmem.specs.Writes.{byte_writes, touched}
use Rattle.guestmem.proofs.GivenBack.{whole_page}
use Rattle.guestmem.proofs.Told.{told_pages}
use Rattle.machine.specs.Applied.{IsAppliedLogged}
use Rattle.machine.specs.Effect.{items_of}
use Rattle.machine.specs.Parked.{page_address}
use Rattle.machine.specs.Layout.{firsts_of, layout_of, number_in, size_of}
use Rattle.machine.specs.Seen.{DeviceSeen}
use Rattle.machine.specs.State.{MachineState}
use Rattle.machine.specs.declared.event.Event.{Event}
use Rattle.machine.specs.declared.event.Event.TheVariants.{MemWrite}
use Rattle.machine.specs.declared.reply.Reply.TheVariants.{Done}
use Rattle.machine.proofs.GivenBack.{memory_back, page_logged, still_memory, with_memory}
use Rattle.machine.proofs.Numbering.{same_layout}
use Rattle.wire.specs.Sinks.{Digested, SinkState}
use Rattle.wire.specs.Stream.{texts}
use Rattle.sender.specs.Calls.{Serves, with_items}
use Rattle.sender.specs.Dirty.{set_once, set_order}
use Rattle.sender.specs.Follows.{Relates}
use Rattle.sender.specs.History.{History, guest_events, text, then_came}
use Rattle.sender.specs.LiveState.{HasPlaces, LiveSeen, now}
use Rattle.sender.specs.Parked.{AreServed, BackGoesOn, IsLiveParked, KeepsWord, LiveBackFollows, LiveBackIsServed, LiveParkedSeen, live_back, page_writes, with_pages, live_base}
use Rattle.sender.specs.declared.event.LiveEvent.TheVariants.{Guest}
use Rattle.sender.specs.declared.event.LiveReply.TheVariants as r
use Rattle.sender.specs.declared.phase.Phase.{Phase}
use Rattle.sender.specs.declared.phase.Phase.TheVariants as phases
use Rattle.sender.proofs.Living.{guest_free}
use Rattle.sender.proofs.Relating.{relates_on}

-- The set of dirty items as a log.
abbrev taking : List ℕ → List Bool → Item → List Bool
taking firsts s i = set s (number_in firsts i) true

all_taken : (firsts : List ℕ) (s : List Bool) (is : List Item) → after_all (taking firsts) s is ≡ with_items firsts s is
all_taken firsts s [] = refl
all_taken firsts s (i ∷ is) = all_taken firsts (set s (number_in firsts i) true) is

-- A write of one page tells this page.
one_told : (firsts : List ℕ) (s : List Bool) (n : ℕ) (bytes : List ℕ) → length bytes ≡ 4096 → set s n true ≡ after_all (taking firsts) s (touched (byte_writes (4096 * n) bytes))
one_told firsts s n bytes size =
    let first : 4096 * n / 4096 ≡ n = omega arith in
    let last : (4096 * n + length bytes - 1) / 4096 ≡ n = omega (arith, size) in
    let count : n + 1 - n ≡ 1 = omega arith in
    let here : after_all (taking firsts) s (pages_between (4096 * n / 4096) ((4096 * n + length bytes - 1) / 4096)) ≡ set s n true = rw (first, last, count) refl in
    sym here ∙ told_pages {L = List Bool} (taking firsts) (λ log i j. set_order log (number_in firsts i) (number_in firsts j)) (λ log i. set_once log (number_in firsts i)) s (4096 * n) bytes (omega (arith, size))

-- It with these pages written.
abbrev pub with_page : LiveSeen → List ℕ → ℕ → LiveSeen
with_page l bytes n = record l { machine = with_memory l.machine (written l.machine.memory (4096 * n) (page_of bytes n)); dirty = set l.dirty n true }

abbrev pub with_all : LiveSeen → List ℕ → List ℕ → LiveSeen
with_all l bytes pages = record l { machine = with_memory l.machine (pages_written l.machine.memory pages bytes); dirty = with_pages l.dirty pages }

-- All that is known of it on the way.
pub record IsReady (l : LiveSeen) (bytes pages : List ℕ) : Type 0 where
  pub places : HasPlaces l
  pub memory : IsMemory l.machine.memory
  pub goes : l.phase ≢ phases.Stopped
  pub below : AreBelow (length l.machine.memory.versions) pages
  pub long : length bytes ≡ length l.machine.memory.bytes
  pub are : IsBytes bytes

abbrev pub write_of : LiveSeen → List ℕ → ℕ → Event
write_of l bytes n = MemWrite (page_address l.machine n) (page_of bytes n)

logged : (l : LiveSeen) (bytes : List ℕ) (n : ℕ) (pages : List ℕ) → IsReady l bytes (n ∷ pages) → IsAppliedLogged (taking (firsts_of (layout_of (now l)))) l.machine l.dirty (write_of l bytes n) Done (with_page l bytes n).machine (set l.dirty n true)
logged l bytes n pages ready =
    let firsts = firsts_of (layout_of (now l)) in
    let here : n < length l.machine.memory.versions = ready.below 0 0 (omega arith) in
    let size : length (page_of bytes n) ≡ 4096 = whole_page bytes n (omega (arith, here, ready.memory.pages, ready.long)) in
    page_logged {L = List Bool} (taking firsts) l.machine l.dirty (set l.dirty n true) bytes n ready.places.sound ready.memory here ready.long ready.are (one_told firsts l.dirty n (page_of bytes n) size)

pub served : (l : LiveSeen) (bytes : List ℕ) (n : ℕ) (pages : List ℕ) → IsReady l bytes (n ∷ pages) → Serves l (Guest (write_of l bytes n)) (r.Guest Done) (with_page l bytes n)
served l bytes n pages ready =
    let h = logged l bytes n pages ready in
    rw (guest_free l.phase (write_of l bytes n) ready.goes) (record {
      is_applied = h.is_applied;
      dirty = h.logged ∙ all_taken (firsts_of (layout_of (now l))) l.dirty (items_of h.is_applied.effect);
      rest = refl;
    })

pub ready_still : (l : LiveSeen) (bytes : List ℕ) (n : ℕ) (pages : List ℕ) → IsReady l bytes (n ∷ pages) → IsReady (with_page l bytes n) bytes pages
ready_still l bytes n pages ready =
    let h = (logged l bytes n pages ready).is_applied in
    let next = with_page l bytes n in
    let same : layout_of (now next) ≡ layout_of (now l) = same_layout (now l) (now next) h.shape in
    record {
      places = record {
        sound = h.sound;
        few = ready.places.few;
        due_size = ready.places.due_size ∙ ap size_of (sym same);
        dirty_size = length-set l.dirty n true ∙ ready.places.dirty_size ∙ ap size_of (sym same);
      };
      memory = still_memory l.machine.memory next.machine.memory ready.memory h.later;
      goes = ready.goes;
      below = λ k d lt. rw h.later.versions (ready.below (suc k) d (omega (arith, lt)));
      long = omega (arith, ready.long, h.later.bytes);
      are = ready.are;
    }

pub ready_all : (l : LiveSeen) (bytes pages : List ℕ) → IsReady l bytes pages → IsReady (with_all l bytes pages) bytes []
ready_all l bytes [] ready = ready
ready_all l bytes (n ∷ pages) ready = ready_all (with_page l bytes n) bytes pages (ready_still l bytes n pages ready)

all_served : (l : LiveSeen) (bytes pages : List ℕ) → IsReady l bytes pages → AreServed l (page_writes (live_base l) pages bytes) (with_all l bytes pages)
all_served l bytes [] ready = refl
all_served l bytes (n ∷ pages) ready = (with_page l bytes n, served l bytes n pages ready, all_served (with_page l bytes n) bytes pages (ready_still l bytes n pages ready))

pub all_related : (m : MachineState) (h : History) (out : SinkState) (l : LiveSeen) (bytes pages : List ℕ) → Relates m h out l → IsReady l bytes pages → BackGoesOn m h out (page_writes (live_base l) pages bytes) (with_all l bytes pages)
unfolding texts
all_related m h out l bytes [] rel ready = record { history = h; relates = rel; came = sym (append-nil (guest_events h)); text_is = refl }
all_related m h out l bytes (n ∷ pages) rel ready =
    let e = write_of l bytes n in
    let gone = relates_on m h out (Guest e) (r.Guest Done) l (with_page l bytes n) rel ready.places (served l bytes n pages ready) in
    let rest = all_related m (then_came h (Guest e) (r.Guest Done) gone.effect) out (with_page l bytes n) bytes pages gone.relates (ready_still l bytes n pages ready) in
    record {
      history = rest.history;
      relates = rest.relates;
      came = rest.came ∙ append_assoc (guest_events h) (e ∷ []) (page_writes (live_base l) pages bytes);
      text_is = rest.text_is ∙ append-nil (text m h);
    }

-- What is given back of it.
same_live : (ds es : List DeviceSeen) (x y : Memory) (a b : Phase) (due left : List Bool) (s t : List Bool) (g k : Digested) (o q : SinkState) (pages : List ℕ) → es ≡ ds → x ≡ y → b ≡ a → left ≡ due → t ≡ s → k ≡ g → q ≡ o
    → ◌≡◌ {A = LiveSeen} (record { machine = record { memory = y; devices = ds }; phase = a; due = due; dirty = with_pages s pages; digest = g; out = o }) (record { machine = record { memory = x; devices = es }; phase = b; due = left; dirty = with_pages t pages; digest = k; out = q })
same_live ds es x y a b due left s t g k o q pages d e f u v w z = rw (d, e, f, u, v, w, z) refl

module _ (l : LiveSeen) (p : LiveParkedSeen) (before after : Region) (pages : List ℕ) (places : HasPlaces l) (mem : IsMemory l.machine.memory) (goes : l.phase ≢ phases.Stopped) (lent : IsLiveParked l before p) (word : KeepsWord before after (length p.machine.memory) pages) where
  pub ready : IsReady l after.content pages
  ready = record {
    places = places;
    memory = mem;
    goes = goes;
    below = subst (λ (v : List ℕ). AreBelow (length v) pages) lent.parked.lent.versions_are word.below;
    long = word.size ∙ ap length lent.parked.lent.bytes;
    are = word.bytes;
  }

  is_back : with_all l after.content pages ≡ live_back p (given_back after.content (address after) p.machine.memory pages) pages
  is_back =
      same_live l.machine.devices p.machine.devices (given_back after.content (address after) p.machine.memory pages) (pages_written l.machine.memory pages after.content) l.phase p.phase l.due p.due l.dirty p.dirty l.digest p.digest l.out p.out pages
      lent.parked.devices_are (memory_back l.machine p.machine before after pages mem lent.parked word.place word.size word.below word.others) (ap (λ (x : LiveParkedSeen). x.phase) lent.rest) (ap (λ (x : LiveParkedSeen). x.due) lent.rest) (ap (λ (x : LiveParkedSeen). x.dirty) lent.rest)
      (ap (λ (x : LiveParkedSeen). x.digest) lent.rest) (ap (λ (x : LiveParkedSeen). x.out) lent.rest)

pub live_back_is_served : LiveBackIsServed
live_back_is_served l p before after pages places mem goes lent word =
    subst (λ (x : LiveSeen). AreServed l (page_writes (live_base l) pages after.content) x) (is_back l p before after pages places mem goes lent word) (all_served l after.content pages (ready l p before after pages places mem goes lent word))

pub live_back_follows : LiveBackFollows
live_back_follows m h out l p before after pages rel places mem goes lent word =
    subst (λ (x : LiveSeen). BackGoesOn m h out (page_writes (live_base l) pages after.content) x) (is_back l p before after pages places mem goes lent word) (all_related m h out l after.content pages rel (ready l p before after pages places mem goes lent word))
