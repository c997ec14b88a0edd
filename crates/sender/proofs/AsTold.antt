-- What was written is a stream of the machine with what its disks returned, whatever they do.
use Rattle.std.proofs.Common.{◌≡◌, ◌≢◌, ℕ, zero, suc, ◌+◌, ◌<◌, ◌≤◌, List, [], ◌∷◌, ◌++◌, ◌⊎◌, Option, Some, None, Bool, true, false, cond, ◌||◌, ◌&&◌, nat_lt, length, set, eqb, refl, ap, sym, subst, ◌∙◌, append_assoc, append-nil, inl, inr, arith}
use Rattle.std.specs.List.{All, slice_get}
use Rattle.std.specs.Prelude.{IsTrue}
use Rattle.std.proofs.Math.Bool.{and-false}
use Rattle.std.proofs.lemmas.Bool.{eqb-true, eqb-false, eq-eqb, or_parts}
use Rattle.std.proofs.lemmas.List.{map-append, get_or-set_other, get_or-replicate}
use Rattle.std.proofs.lemmas.List.Elements.{All-set}
use Rattle.std.proofs.lemmas.Option.{get_or_from_slice_get, slice_get_within}
use Rattle.dirtylog.specs.Members.{HasNone, has}
use Rattle.sha2.specs.Sha256.{sha256}
use Rattle.blk.specs.Sectors.{AreWhole, IsWhole, Sector}
use Rattle.guestmem.specs.Among.{Among}
use Rattle.guestmem.specs.Item as items
use Rattle.guestmem.specs.Page.{page_of}
use Rattle.machine.specs.Effect.{Effect, SectorSet, applied, items_of, set_on}
use Rattle.machine.specs.EffectLaws.{HasItem, IsSameShape, sector_on}
use Rattle.machine.specs.Layout.{IsItemIn, Layout, item_at, layout_of, number_of, pages_of, size_of}
use Rattle.machine.specs.Seen.{Marks, Seen, state_of}
use Rattle.machine.specs.Sound.{IsSound}
use Rattle.machine.specs.State.{MachineState}
use Rattle.machine.specs.declared.event.Event.{Event}
use Rattle.machine.proofs.Effects.{all_sizes_stay, untouched}
use Rattle.machine.proofs.Numbering.{either_way, has_item, is_below, is_past, item_back, item_there, number_back, number_below, same_layout}
use Rattle.machine.proofs.Within.{sound_by}
use Rattle.wire.specs.Header.{header, opening_of, version_of}
use Rattle.wire.specs.Records as records
use Rattle.wire.specs.Records.{Record, commit, page_record, round_end, spelled_record}
use Rattle.wire.specs.Sinks.{Covers, Digested, SinkState}
use Rattle.wire.specs.Stream.{IsStream, content_of, device_texts, last_named, or_else, record_of, rounds, shapes_in, texts}
use Rattle.wire.proofs.SentVersions.{sent_devices, sent_entries, sent_known, sent_record}
use Rattle.wire.proofs.ItemRecords.{named-append, named-snoc}
use Rattle.wire.proofs.Whole.{each-snoc}
use Rattle.sender.specs.Calls.{AfterBegin, AfterCopy, AfterRound, AfterStop, AreCleared, BeginsFirstRound, Does, EndsRound, Fails, Guests, IsSent, Serves, Wrote, in_either}
use Rattle.sender.specs.History.{is_numbered}
use Rattle.sender.specs.LiveState.{HasPlaces, LiveSeen, chosen, closing, header_of, last_round, now, record_at, records_of, refusal_for}
use Rattle.sender.specs.Ran.{HasStopped, WroteStream}
use Rattle.sender.specs.Stopping.{RoundFits}
use Rattle.sender.specs.Told.{AreTold, IsSentAs, IsStreamAsTold, IsTold}
use Rattle.sender.specs.declared.event.LiveEvent.{LiveEvent}
use Rattle.sender.specs.declared.event.LiveEvent.TheVariants.{Guest, Begin, Copy, EndRound, Stop}
use Rattle.sender.specs.declared.event.LiveReply.{LiveReply}
use Rattle.sender.specs.declared.event.LiveReply.TheVariants as r
use Rattle.sender.specs.declared.mig_error.MigError.TheVariants as errors
use Rattle.sender.specs.declared.phase.Phase.{Phase}
use Rattle.sender.specs.declared.phase.Phase.TheVariants as phases
use Rattle.sender.proofs.Flushing.{IsFlushedIfStopped, stays_flushed}
use Rattle.sender.proofs.Following.{fresh_if, open_if, with_items_at}
use Rattle.sender.proofs.Fresh.{chosen_named, item_stays, not_among, same_as_it_is, same_shape_after, told}
use Rattle.sender.proofs.Living.{member_below, round_fits}
use Rattle.sender.proofs.Stopping.{chosen_more, chosen_none, either_same, lt_or_le, one_text, texts-append}
use Rattle.sender.proofs.Writing.{wrote_stays}
use Rattle.sender.proofs.Whole.{HasBody, chosen_body, numbered_round, rounds_round}

-- One sector replaced by another.
get_set : {A : Type 0} (xs : List A) (i : ℕ) (old x : A) → slice_get xs i ≡ Some old → slice_get (set xs i x) i ≡ Some x
get_set [] i old x there = cc
get_set (y ∷ xs) zero old x there = refl
get_set (y ∷ xs) (suc i) old x there = get_set xs i old x there

abbrev one_set : ℕ → ℕ → Sector → SectorSet
one_set dev n content = record { device = dev; number = n; content = content }

set_there : (disks : List (List Sector)) (dev n : ℕ) (found : Option (List Sector)) (old content : Sector) → slice_get disks dev ≡ found → sector_on found n ≡ Some old
    → sector_on (slice_get (set_on disks (one_set dev n content) found) dev) n ≡ Some content
set_there disks dev n None old content at there = cc
set_there disks dev n (Some disk) old content at there = rw (get_set disks dev disk (set disk n content) at) (get_set disk n old content there)

whole_on : (disks : List (List Sector)) (s : SectorSet) (disk : Option (List Sector)) → slice_get disks s.device ≡ disk → IsWhole s.content → All AreWhole disks → All AreWhole (set_on disks s disk)
whole_on disks s None at whole all = all
whole_on disks s (Some disk) at whole all =
    let old : AreWhole disk = rw (get_or_from_slice_get disks s.device disk disk at) at (all s.device disk (slice_get_within disks s.device disk at)) in
    All-set AreWhole disks s.device (set disk s.number s.content) (All-set IsWhole disk s.number s.content whole old) all

sent_whole : (marks : Marks) (found : Option Sector) (content : Sector) → IsSentAs marks found content → IsWhole content
sent_whole marks found None sent = tt
sent_whole marks found (Some bytes) sent = sent.whole

-- The machine with what was returned of one item.
record Tells (m : MachineState) (it : items.Item) (entry : Record) : Type 0 where
  pub after : MachineState
  pub ram : after.ram ≡ m.ram
  pub devices : after.devices ≡ m.devices
  pub shape : IsSameShape m after
  pub sound : IsSound after
  pub is : entry ≡ record_of after it
  pub others : (j : items.Item) → j ≢ it → record_of after j ≡ record_of m j

tells_one : (m : MachineState) (s : Seen) (it : items.Item) (entry : Record) → IsSound m → m.ram ≡ (state_of s).ram → HasItem m it → IsTold s it entry → Tells m it entry
tells_one m s (items.page n) entry sound ram there is = record {
  after = m;
  ram = refl;
  devices = refl;
  shape = same_as_it_is m;
  sound = sound;
  is = is ∙ ap (λ (bytes : List ℕ). page_record 2 n (page_of bytes n)) (sym ram);
  others = λ j other. refl;
}
tells_one m s (items.sector dev n) entry sound ram there is =
    let e : Effect = record { writes = []; sectors = one_set dev n is.content ∷ []; replaced = None } in
    let shape : IsSameShape m (applied m e) = record { ram = refl; devices = refl; disks = all_sizes_stay m.disks (one_set dev n is.content ∷ []) } in
    record {
      after = applied m e;
      ram = refl;
      devices = refl;
      shape = shape;
      sound = sound_by m (applied m e) shape refl sound.devices sound.bytes (whole_on m.disks (one_set dev n is.content) (slice_get m.disks dev) refl (sent_whole _ _ is.content is.sent) sound.sectors) sound;
      is = is.is ∙ ap (λ (x : Option Sector). records.sector dev n (content_of x)) (sym (set_there m.disks dev n (slice_get m.disks dev) there.0 is.content refl there.1));
      others = λ j other. item_stays m e j (λ among. elim among as (λ _. ⊥) [ inl same ↦ other same | inr none ↦ none ]);
    }

-- The last of several records.
pub record Split (s : Seen) (numbers : List ℕ) (i : ℕ) (entries : List Record) : Type 0 where
  pub before : List Record
  pub entry : Record
  pub are : entries ≡ before ++ entry ∷ []
  pub told : AreTold s numbers before
  pub last : IsTold s (item_at (layout_of (state_of s)) i) entry

pub split : (s : Seen) (numbers : List ℕ) (i : ℕ) (entries : List Record) → AreTold s (numbers ++ i ∷ []) entries → Split s numbers i entries
split s [] i [] are = absurd are
split s [] i (entry ∷ []) are = record { before = []; entry = entry; are = refl; told = tt; last = are.0 }
split s [] i (entry ∷ other ∷ entries) are = absurd are.1
split s (n ∷ numbers) i [] are = absurd are
split s (n ∷ numbers) i (entry ∷ entries) are =
    let rest = split s numbers i entries are.1 in
    record { before = entry ∷ rest.before; entry = rest.entry; are = ap (λ (xs : List Record). entry ∷ xs) rest.are; told = (are.0, rest.told); last = rest.last }

-- The records of chosen items are the same in machines that agree on these.
records_same : (m k : MachineState) (p : ℕ → Bool) (n : ℕ) → layout_of k ≡ layout_of m → ((j : ℕ) → j < n → record_of k (item_at (layout_of m) j) ≡ record_of m (item_at (layout_of m) j)) → records_of k (chosen p n) ≡ records_of m (chosen p n)
records_same m k p zero same agree = refl
records_same m k p (suc n) same agree =
    let before = records_same m k p n same (λ j below. agree j (omega (arith, below))) in
    let last : record_at k n ≡ record_at m n = ap (λ (l : Layout). record_of k (item_at l n)) same ∙ agree n (omega arith) in
    elim (either_way (p n)) as (λ _. records_of k (chosen p (suc n)) ≡ records_of m (chosen p (suc n))) [
      | inl e ↦ rw (e, map-append (record_at k) (chosen p n) (n ∷ []), map-append (record_at m) (chosen p n) (n ∷ []), before, last) refl
      | inr e ↦ rw (e, append-nil) before
    ]

-- The machine with what was returned of several.
record TellsAll (m : MachineState) (p : ℕ → Bool) (n : ℕ) (entries : List Record) : Type 0 where
  pub after : MachineState
  pub ram : after.ram ≡ m.ram
  pub devices : after.devices ≡ m.devices
  pub shape : IsSameShape m after
  pub sound : IsSound after
  pub are : entries ≡ records_of after (chosen p n)
  pub others : (j : ℕ) → j < size_of (layout_of m) → (n ≤ j) ⊎ (p j ≡ false) → record_of after (item_at (layout_of m) j) ≡ record_of m (item_at (layout_of m) j)

other_item : (l : Layout) (j n : ℕ) → j < size_of l → n < size_of l → j ≢ n → item_at l j ≢ item_at l n
other_item l j n low high other same = other (sym (number_back l j low) ∙ ap (number_of l) same ∙ number_back l n high)

other_number : (p : ℕ → Bool) (n j : ℕ) → p n ≡ true → (suc n ≤ j) ⊎ (p j ≡ false) → j ≢ n
other_number p n j is (inl past) same = omega (arith, past, same)
other_number p n j is (inr none) same = let wrong : true ≡ false = sym is ∙ ap p (sym same) ∙ none in cc

less_far : (p : ℕ → Bool) (n j : ℕ) → (suc n ≤ j) ⊎ (p j ≡ false) → (n ≤ j) ⊎ (p j ≡ false)
less_far p n j (inl past) = inl (omega (arith, past))
less_far p n j (inr none) = inr none

tells_all : (m : MachineState) (s : Seen) (p : ℕ → Bool) (n : ℕ) (entries : List Record) → IsSound m → m.ram ≡ (state_of s).ram → layout_of (state_of s) ≡ layout_of m → n ≤ size_of (layout_of m) → AreTold s (chosen p n) entries → TellsAll m p n entries
tells_all m s p zero [] sound ram same few are = record { after = m; ram = refl; devices = refl; shape = same_as_it_is m; sound = sound; are = refl; others = λ j low far. refl }
tells_all m s p zero (entry ∷ entries) sound ram same few are = absurd are
tells_all m s p (suc n) entries sound ram same few are =
    elim (either_way (p n)) as (λ _. TellsAll m p (suc n) entries) [
      | inl e ↦
          let l = layout_of m in
          let numbers : chosen p (suc n) ≡ chosen p n ++ n ∷ [] = rw e refl in
          let parts = split s (chosen p n) n entries (subst (λ (x : List ℕ). AreTold s x entries) numbers are) in
          let b = tells_all m s p n parts.before sound ram same (omega (arith, few)) parts.told in
          let it = item_at l n in
          let last : IsTold s it parts.entry = subst (λ (x : Layout). IsTold s (item_at x n) parts.entry) same parts.last in
          let still : layout_of b.after ≡ l = same_layout m b.after b.shape in
          let there : HasItem b.after it = has_item b.after it b.sound.whole_pages (subst (λ (x : Layout). IsItemIn x it) (sym still) (item_there l n (omega (arith, few)))) in
          let one = tells_one b.after s it parts.entry b.sound (b.ram ∙ ram) there last in
          let now_same : layout_of one.after ≡ layout_of b.after = same_layout b.after one.after one.shape in
          let agree : (j : ℕ) → j < n → record_of one.after (item_at (layout_of b.after) j) ≡ record_of b.after (item_at (layout_of b.after) j) = λ j below.
          subst (λ (x : Layout). record_of one.after (item_at x j) ≡ record_of b.after (item_at x j)) (sym still)
          (one.others (item_at l j) (other_item l j n (omega (arith, below, few)) (omega (arith, few)) (λ e. omega (arith, below, e)))) in
          let all : records_of one.after (chosen p (suc n)) ≡ records_of one.after (chosen p n) ++ record_at one.after n ∷ [] = rw numbers (map-append (record_at one.after) (chosen p n) (n ∷ [])) in
          let tail : parts.entry ≡ record_at one.after n = one.is ∙ ap (λ (x : Layout). record_of one.after (item_at x n)) (sym (now_same ∙ still)) in
          record {
            after = one.after;
            ram = one.ram ∙ b.ram;
            devices = one.devices ∙ b.devices;
            shape = same_shape_after m b.after one.after b.shape one.shape;
            sound = one.sound;
            are = parts.are ∙ ap (λ (xs : List Record). xs ++ parts.entry ∷ []) (b.are ∙ sym (records_same b.after one.after p n now_same agree)) ∙ ap (λ (x : Record). records_of one.after (chosen p n) ++ x ∷ []) tail ∙ sym all;
            others = λ j low far. one.others (item_at l j) (other_item l j n low (omega (arith, few)) (other_number p n j e far)) ∙ b.others j low (less_far p n j far);
          }
      | inr e ↦
          let numbers : chosen p (suc n) ≡ chosen p n = rw (e, append-nil) refl in
          let b = tells_all m s p n entries sound ram same (omega (arith, few)) (subst (λ (x : List ℕ). AreTold s x entries) numbers are) in
          record {
            after = b.after;
            ram = b.ram;
            devices = b.devices;
            shape = b.shape;
            sound = b.sound;
            are = b.are ∙ ap (records_of b.after) (sym numbers);
            others = λ j low far. b.others j low (less_far p n j far);
          }
    ]

-- While a round is open: what was written, and the machine with what was returned. An item in neither set is as the last record
-- that names it says.
pub record IsTelling (s : LiveSeen) (t : List ℕ) (k : ℕ) : Type 0 where
  pub as_told : MachineState
  pub entries : List Record
  pub ram : as_told.ram ≡ (now s).ram
  pub devices : as_told.devices ≡ (now s).devices
  pub shape : IsSameShape (now s) as_told
  pub sound : IsSound as_told
  pub body : HasBody (layout_of as_told) (shapes_in as_told.devices) t entries k
  pub fresh : (i : ℕ) → i < size_of (layout_of as_told) → in_either s i ≡ false → last_named (item_at (layout_of as_told) i) entries ≡ Some (record_of as_told (item_at (layout_of as_told) i))

-- The same of a machine in the same state, with fewer fresh items.
still_telling : (old new : LiveSeen) (t : List ℕ) (k : ℕ) → now new ≡ now old → ((i : ℕ) → in_either new i ≡ false → in_either old i ≡ false) → IsTelling old t k → IsTelling new t k
still_telling old new t k same less g = record {
  as_told = g.as_told;
  entries = g.entries;
  ram = g.ram ∙ ap (λ (m : MachineState). m.ram) (sym same);
  devices = g.devices ∙ ap (λ (m : MachineState). m.devices) (sym same);
  shape = subst (λ (m : MachineState). IsSameShape m g.as_told) (sym same) g.shape;
  sound = g.sound;
  body = g.body;
  fresh = λ i low none. g.fresh i low (less i none);
}

-- The migration begins.
begins_telling : (old new : LiveSeen) → HasPlaces old → BeginsFirstRound old new → IsTelling new (header_of (now old)) 1
unfolding texts rounds
begins_telling old new places b =
    let same : now new ≡ now old = ap state_of b.machine in
    record {
      as_told = now old;
      entries = [];
      ram = ap (λ (m : MachineState). m.ram) (sym same);
      devices = ap (λ (m : MachineState). m.devices) (sym same);
      shape = subst (λ (m : MachineState). IsSameShape m (now old)) (sym same) (same_as_it_is (now old));
      sound = places.sound;
      body = record { text_is = sym (append-nil (header_of (now old))); each = tt; numbered = tt; rounds_are = refl; few = omega arith };
      fresh = λ i low none.
          let due : has new.due i ≡ true = ap (λ (s : List Bool). has s i) b.due ∙ get_or-replicate (size_of (layout_of (now old))) i true false low in
          let wrong : true ≡ false = sym due ∙ (or_parts (has new.due i) (has new.dirty i) none).0 in cc;
    }

-- The guest goes on.
page_stays : (old m : MachineState) (e : Effect) (l : Layout) (i : ℕ) (as_told : MachineState) → m.ram ≡ (applied old e).ram → as_told.ram ≡ old.ram → is_numbered l (items_of e) i ≡ false → i ≡ number_of l (item_at l i)
    → (it : items.Item) → it ≡ item_at l i → record_of (record as_told { ram = m.ram }) it ≡ record_of as_told it
page_stays old m e l i as_told ram same none number (items.page n) is =
    let far : ¬ (Among (items_of e) (items.page n)) = not_among l (items_of e) (items.page n) (ap (is_numbered l (items_of e)) (ap (number_of l) is ∙ sym number) ∙ none) in
    ap (page_record 2 n) (ap (λ (bytes : List ℕ). page_of bytes n) ram ∙ untouched old e (items.page n) far ∙ ap (λ (bytes : List ℕ). page_of bytes n) (sym same))
page_stays old m e l i as_told ram same none number (items.sector dev n) is = refl

guest_telling : (old new : LiveSeen) (e : Event) (reply : LiveReply) (t : List ℕ) (k : ℕ) → HasPlaces old → Guests old e reply new → IsTelling old t k → IsTelling new t k
guest_telling old new e (r.Guest reply) t k places d g =
    let a = d.is_applied in
    let after : MachineState = record { ram = (now new).ram; devices = (now new).devices; disks = g.as_told.disks } in
    let shape : IsSameShape (now new) after = record { ram = refl; devices = refl; disks = g.shape.disks ∙ sym a.shape.disks } in
    let back : IsSameShape g.as_told after = record {
      ram = a.shape.ram ∙ ap length (sym g.ram);
      devices = a.shape.devices ∙ sym g.shape.devices;
      disks = refl;
    } in
    let l : layout_of after ≡ layout_of g.as_told = same_layout g.as_told after back in
    let old_l : layout_of g.as_told ≡ layout_of (now old) = same_layout (now old) g.as_told g.shape in
    let shapes : shapes_in after.devices ≡ shapes_in g.as_told.devices = back.devices in
    record {
      as_told = after;
      entries = g.entries;
      ram = refl;
      devices = refl;
      shape = shape;
      sound = sound_by (now new) after shape refl a.sound.devices a.sound.bytes g.sound.sectors a.sound;
      body = rw (l, shapes) g.body;
      fresh = λ i low none.
          let here : i < size_of (layout_of g.as_told) = subst (λ (x : Layout). i < size_of x) l low in
          let parts = or_parts (has new.due i) (has new.dirty i) none in
          let due : has old.due i ≡ false = sym (ap (λ (s : LiveSeen). has s.due i) d.rest) ∙ parts.0 in
          let inside : i < length old.dirty = omega (arith, here, ap size_of old_l, places.dirty_size) in
          let joined : (is_numbered (layout_of (now old)) (items_of a.effect) i || has old.dirty i) ≡ false = sym (ap (λ (s : List Bool). has s i) d.dirty ∙ with_items_at (layout_of (now old)) old.dirty (items_of a.effect) i inside) ∙ parts.1 in
          let apart = or_parts (is_numbered (layout_of (now old)) (items_of a.effect) i) (has old.dirty i) joined in
          let both : in_either old i ≡ false = rw (due, apart.1) refl in
          let named = g.fresh i here both in
          let untouched_here : is_numbered (layout_of g.as_told) (items_of a.effect) i ≡ false = rw old_l apart.0 in
          let stays : record_of after (item_at (layout_of g.as_told) i) ≡ record_of g.as_told (item_at (layout_of g.as_told) i) =
          page_stays (now old) (now new) a.effect (layout_of g.as_told) i g.as_told a.ram g.ram untouched_here (sym (number_back (layout_of g.as_told) i here)) (item_at (layout_of g.as_told) i) refl in
          let P : Layout → Type 0 = λ x. last_named (item_at x i) g.entries ≡ Some (record_of after (item_at x i)) in
          subst P (sym l) (named ∙ ap Some (sym stays));
    }
guest_telling old new e _ t k places d g = absurd d

-- Items were sent.
not_chosen : (p : ℕ → Bool) (i n : ℕ) → (n ≤ i) ⊎ (p i ≡ false) → (p i && nat_lt i n) ≡ false
not_chosen p i n (inl past) = rw (is_past i n past) (and-false (p i))
not_chosen p i n (inr none) = rw none refl

telling_on : (old new : LiveSeen) (t : List ℕ) (k n : ℕ) (p : ℕ → Bool) (entries : List Record) → HasPlaces old → now new ≡ now old → n ≤ size_of (layout_of (now old)) → AreTold old.machine (chosen p n) entries
    → ((i : ℕ) → in_either new i ≡ false → ((i < n) × (p i ≡ true)) ⊎ (((n ≤ i) ⊎ (p i ≡ false)) × (in_either old i ≡ false))) → IsTelling old t k → IsTelling new (t ++ texts entries) k
telling_on old new t k n p entries places same few are either g =
    let old_l : layout_of g.as_told ≡ layout_of (now old) = same_layout (now old) g.as_told g.shape in
    let a = tells_all g.as_told old.machine p n entries g.sound g.ram (sym old_l) (omega (arith, few, ap size_of old_l)) are in
    let l : layout_of a.after ≡ layout_of g.as_told = same_layout g.as_told a.after a.shape in
    let shapes : shapes_in a.after.devices ≡ shapes_in g.as_told.devices = a.shape.devices in
    let before : HasBody (layout_of a.after) (shapes_in a.after.devices) t g.entries k = rw (l, shapes) g.body in
    let within : n ≤ size_of (layout_of a.after) = omega (arith, few, ap size_of old_l, ap size_of l) in
    let body = chosen_body a.after (shapes_in a.after.devices) p n k t g.entries a.sound within before in
    record {
      as_told = a.after;
      entries = g.entries ++ records_of a.after (chosen p n);
      ram = a.ram ∙ g.ram ∙ ap (λ (m : MachineState). m.ram) (sym same);
      devices = a.devices ∙ g.devices ∙ ap (λ (m : MachineState). m.devices) (sym same);
      shape = subst (λ (m : MachineState). IsSameShape m a.after) (sym same) (same_shape_after (now old) g.as_told a.after g.shape a.shape);
      sound = a.sound;
      body = (let P : List Record → Type 0 = λ x. HasBody (layout_of a.after) (shapes_in a.after.devices) (t ++ texts x) (g.entries ++ records_of a.after (chosen p n)) k in subst P (sym a.are) body);
      fresh = λ i low none.
          let it = item_at (layout_of a.after) i in
          let here : i < size_of (layout_of g.as_told) = subst (λ (x : Layout). i < size_of x) l low in
          let xs = records_of a.after (chosen p n) in
          let named : last_named it xs ≡ cond (p i && nat_lt i n) (Some (record_of a.after it)) None = chosen_named a.after p n i within low in
          named-append it g.entries xs ∙ ap (λ (x : Option Record). or_else x (last_named it g.entries)) named ∙ (elim (either i none) as (λ _. or_else (cond (p i && nat_lt i n) (Some (record_of a.after it)) None) (last_named it g.entries) ≡ Some (record_of a.after it)) [
            | inl sent ↦ rw (sent.1, is_below i n sent.0) refl
            | inr kept ↦
                let off : (p i && nat_lt i n) ≡ false = not_chosen p i n kept.0 in
                let was : last_named (item_at (layout_of g.as_told) i) g.entries ≡ Some (record_of g.as_told (item_at (layout_of g.as_told) i)) = g.fresh i here kept.1 in
                let stays : record_of a.after (item_at (layout_of g.as_told) i) ≡ record_of g.as_told (item_at (layout_of g.as_told) i) = a.others i here kept.0 in
                let P : Layout → Type 0 = λ x. last_named (item_at x i) g.entries ≡ Some (record_of a.after (item_at x i)) in
                let is : last_named it g.entries ≡ Some (record_of a.after it) = subst P (sym l) (was ∙ ap Some (sym stays)) in
                rw off is
          ]);
    }

-- The items below a number that were in one of the sets were sent.
cleared_either : (old new : LiveSeen) (n : ℕ) → AreCleared old n new → (i : ℕ) → in_either new i ≡ false → ((i < n) × (in_either old i ≡ true)) ⊎ (((n ≤ i) ⊎ (in_either old i ≡ false)) × (in_either old i ≡ false))
cleared_either old new n h i none = elim (lt_or_le i n) as (λ _. ((i < n) × (in_either old i ≡ true)) ⊎ (((n ≤ i) ⊎ (in_either old i ≡ false)) × (in_either old i ≡ false))) [
  | inl below ↦ elim (either_way (in_either old i)) as (λ _. ((i < n) × (in_either old i ≡ true)) ⊎ (((n ≤ i) ⊎ (in_either old i ≡ false)) × (in_either old i ≡ false))) [ inl e ↦ inl (below, e) | inr e ↦ inr (inr e, e) ]
  | inr past ↦ inr (inl past, sym (either_same old new n i h past) ∙ none)
]

-- One item was sent.
apart : (k i : ℕ) → k ≢ i → eqb k i ≡ false
apart k i other = elim (either_way (eqb k i)) as (λ _. eqb k i ≡ false) [ inl e ↦ absurd (other (eqb-true k i e)) | inr e ↦ e ]

chosen_one : (i : ℕ) → chosen (λ j. eqb j i) (i + 1) ≡ i ∷ []
chosen_one i = chosen_more (λ j. eqb j i) i (eq-eqb i i refl) ∙ ap (λ (xs : List ℕ). xs ++ i ∷ []) (chosen_none (λ j. eqb j i) 0 i (omega arith) (λ k _ below. apart k i (λ e. omega (arith, below, e))))

copied_either : (old new : LiveSeen) (i : ℕ) → IsSent old i new → (j : ℕ) → in_either new j ≡ false → ((j < i + 1) × (eqb j i ≡ true)) ⊎ (((i + 1 ≤ j) ⊎ (eqb j i ≡ false)) × (in_either old j ≡ false))
copied_either old new i s j none = elim (either_way (eqb j i)) as (λ _. ((j < i + 1) × (eqb j i ≡ true)) ⊎ (((i + 1 ≤ j) ⊎ (eqb j i ≡ false)) × (in_either old j ≡ false))) [
  | inl e ↦ let same : j ≡ i = eqb-true j i e in inl (omega (arith, same), e)
  | inr e ↦
      let other : j ≢ i = eqb-false j i e in
      let was : in_either new j ≡ in_either old j = rw (s.due, s.dirty, get_or-set_other old.due i j false false other, get_or-set_other old.dirty i j false false other) refl in
      inr (inr e, sym was ∙ none)
]

copy_telling : (old new : LiveSeen) (t : List ℕ) (k i : ℕ) → HasPlaces old → i < size_of (layout_of (now old)) → (s : IsSent old i new) → IsTelling old t k → IsTelling new (t ++ spelled_record s.entry) k
copy_telling old new t k i places below s g =
    let are : AreTold old.machine (chosen (λ j. eqb j i) (i + 1)) (s.entry ∷ []) = rw (chosen_one i) (s.told, tt) in
    let P : List ℕ → Type 0 = λ x. IsTelling new (t ++ x) k in
    subst P (one_text s.entry) (telling_on old new t k (i + 1) (λ j. eqb j i) (s.entry ∷ []) places s.machine.state (omega (arith, below)) are (copied_either old new i s) g)

-- A round ends.
round_telling : (old new : LiveSeen) (t : List ℕ) (k n : ℕ) → HasPlaces old → HasNone old.due → (s : EndsRound old n new) → s.round ≡ k → k + 1 ≤ last_round → IsTelling old t k → IsTelling new (t ++ spelled_record (round_end s.round)) n
round_telling old new t k n places none s same few g =
    let still : now new ≡ now old = ap state_of s.machine in
    let old_l : layout_of g.as_told ≡ layout_of (now old) = same_layout (now old) g.as_told g.shape in
    let l = layout_of g.as_told in
    let head = header (opening_of l.pages (shapes_in g.as_told.devices)) in
    let b = g.body in
    rw same (record {
      as_told = g.as_told;
      entries = g.entries ++ round_end k ∷ [];
      ram = g.ram ∙ ap (λ (m : MachineState). m.ram) (sym still);
      devices = g.devices ∙ ap (λ (m : MachineState). m.devices) (sym still);
      shape = subst (λ (m : MachineState). IsSameShape m g.as_told) (sym still) g.shape;
      sound = g.sound;
      body = record {
        text_is = ap (λ (x : List ℕ). x ++ spelled_record (round_end k)) b.text_is ∙ append_assoc head (texts g.entries) (spelled_record (round_end k))
            ∙ ap (λ (x : List ℕ). head ++ x) (ap (λ (x : List ℕ). texts g.entries ++ x) (sym (one_text (round_end k))) ∙ sym (texts-append g.entries (round_end k ∷ [])));
        each = each-snoc 2 l g.entries (round_end k) b.each (record { spells = omega (arith, b.few); has = tt; stands = tt });
        numbered = numbered_round 1 g.entries k b.numbered b.rounds_are;
        rounds_are = omega (arith, s.next, same, b.rounds_are, rounds_round g.entries k);
        few = omega (arith, s.next, same, few);
      };
      fresh = λ i low neither.
          let it = item_at l i in
          let here : i < size_of (layout_of (now old)) = subst (λ (x : Layout). i < size_of x) old_l low in
          let parts = or_parts (has new.due i) (has new.dirty i) neither in
          let dirty : has old.dirty i ≡ false = sym (ap (λ (x : List Bool). has x i) s.due) ∙ parts.0 in
          let both : in_either old i ≡ false = rw (none i, dirty) refl in
          named-snoc it g.entries (round_end k) ∙ g.fresh i low both;
    })

-- The stop closes the stream.
closed : (s : LiveSeen) (t : List ℕ) (k : ℕ) → ((i : ℕ) → i < size_of (layout_of (now s)) → in_either s i ≡ false) → IsTelling s t k → IsStreamAsTold (t ++ closing (now s) t) (now s)
closed s t k gone g =
    let m = g.as_told in
    let l : layout_of m ≡ layout_of (now s) = same_layout (now s) m g.shape in
    let head = header (opening_of (pages_of m) (shapes_in m.devices)) in
    let d = device_texts 0 m.devices in
    let c : List ℕ → List ℕ = λ y. spelled_record (commit (sha256 y)) in
    let whole : t ++ (d ++ c (t ++ d)) ≡ (head ++ (texts g.entries ++ d)) ++ c (head ++ (texts g.entries ++ d)) =
    sym (append_assoc t d (c (t ++ d))) ∙ ap (λ (y : List ℕ). y ++ c y) (ap (λ (x : List ℕ). x ++ d) g.body.text_is ∙ append_assoc head (texts g.entries) d) in
    let P : List ℕ → Type 0 = λ bytes. IsStream bytes m in
    let devices : closing (now s) t ≡ closing m t = rw g.devices refl in
    record {
      as_told = m;
      ram = g.ram;
      devices = g.devices;
      stream = rw devices (record {
        version = version_of (shapes_in m.devices);
        entries = g.entries;
        by = record {
          known = sent_known (shapes_in m.devices);
          each = sent_entries (shapes_in m.devices) (layout_of m) g.entries g.body.each;
          numbered = g.body.numbered;
          last = λ it there.
              let number = number_of (layout_of m) it in
              let below : number < size_of (layout_of m) = number_below (layout_of m) it there in
              let Q : items.Item → Type 0 = λ x. last_named x g.entries ≡ Some (record_of m x) in
              subst Q (item_back (layout_of m) it there) (g.fresh number below (gone number (subst (λ (x : Layout). number < size_of x) l below)))
              ∙ ap Some (sym (sent_record (shapes_in m.devices) m.ram m.disks it));
          sound = g.sound;
          devices = sent_devices m.devices;
          whole = whole;
        };
      });
    }

-- What was written, by the phase.
abbrev pub Writes : Phase → LiveSeen → List ℕ → Type 0
Writes phases.Fresh s t = t ≡ []
Writes (phases.Open k) s t = IsTelling s t k
Writes phases.Stopped s t = IsStreamAsTold t (now s)
Writes phases.Failed s t = Unit {0}

-- All of it: what the writer holds after what it held at first, and what the digest took.
pub record IsWriting (out : SinkState) (s : LiveSeen) : Type 0 where
  pub text : List ℕ
  pub writes : Writes s.phase s text
  pub held : s.phase ≢ phases.Failed → IsTrue out.honest → IsTrue s.out.honest × (s.out.held ≡ out.held ++ text)
  pub taken : s.phase ≢ phases.Failed → s.phase ≢ phases.Stopped → Covers s.digest text

pub writing_first : (s : LiveSeen) (out : SinkState) → s.phase ≡ phases.Fresh → Covers s.digest [] → s.out ≡ out → IsWriting out s
writing_first s out fresh digest same = record {
  text = [];
  writes = (let P : Phase → Type 0 = λ p. Writes p s [] in subst P (sym fresh) refl);
  held = λ _ honest. ((let Q : SinkState → Type 0 = λ o. IsTrue o.honest in subst Q (sym same) honest), ap (λ (o : SinkState). o.held) same ∙ sym (append-nil out.held));
  taken = λ _ _. digest;
}

-- The writer failed.
failed : (out : SinkState) (old new : LiveSeen) → Fails old new → IsWriting out new
failed out old new f = record {
  text = [];
  writes = (let P : Phase → Type 0 = λ p. Writes p new [] in subst P (sym f.phase) tt);
  held = λ going. absurd (going f.phase);
  taken = λ going. absurd (going f.phase);
}

-- More was written.
wrote_on : (out : SinkState) (old new : LiveSeen) (x : List ℕ) (n : ℕ) (g : IsWriting out old) → old.phase ≢ phases.Failed → old.phase ≢ phases.Stopped → new.phase ≡ phases.Open n → Wrote old new x → IsTelling new (g.text ++ x) n → IsWriting out new
wrote_on out old new x n g going still_open is w telling = record {
  text = g.text ++ x;
  writes = (let P : Phase → Type 0 = λ p. Writes p new (g.text ++ x) in subst P (sym is) telling);
  held = λ _ honest. (let before = g.held going honest in let after = w.took.holds before.0 in (after.0, after.1 ∙ ap (λ (b : List ℕ). b ++ x) before.1 ∙ append_assoc out.held g.text x));
  taken = λ _ _. w.taken g.text (g.taken going still_open);
}

-- Nothing was written.
stays : (out : SinkState) (old new : LiveSeen) (g : IsWriting out old) → new.phase ≡ old.phase → new.out ≡ old.out → new.digest ≡ old.digest → Writes old.phase new g.text → IsWriting out new
stays out old new g phase sink digest writes = record {
  text = g.text;
  writes = (let P : Phase → Type 0 = λ p. Writes p new g.text in subst P (sym phase) writes);
  held = λ going honest. (let before = g.held (λ e. going (phase ∙ e)) honest in ((let P : SinkState → Type 0 = λ o. IsTrue o.honest in subst P (sym sink) before.0), ap (λ (o : SinkState). o.held) sink ∙ before.1));
  taken = λ going still_open. (let P : Digested → Type 0 = λ d. Covers d g.text in subst P (sym digest) (g.taken (λ e. going (phase ∙ e)) (λ e. still_open (phase ∙ e))));
}

is_open : (p : Phase) (k : ℕ) → p ≡ phases.Open k → (p ≢ phases.Failed) × (p ≢ phases.Stopped)
is_open p k is = ((λ e. (let wrong : phases.Open k ≡ phases.Failed = sym is ∙ e in cc)), λ e. (let wrong : phases.Open k ≡ phases.Stopped = sym is ∙ e in cc))

guest_writes : (p : Phase) (old new : LiveSeen) (e : Event) (reply : LiveReply) (t : List ℕ) → HasPlaces old → refusal_for p (Guest e) ≡ None → Guests old e reply new → Writes p old t → Writes p new t
guest_writes phases.Fresh old new e reply t places free d w = w
guest_writes (phases.Open k) old new e reply t places free d w = guest_telling old new e reply t k places d w
guest_writes phases.Stopped old new e reply t places free d w = cc
guest_writes phases.Failed old new e reply t places free d w = tt

module _ (out : SinkState) (old new : LiveSeen) (g : IsWriting out old) (places : HasPlaces old) where
  telling_in : (k : ℕ) → old.phase ≡ phases.Open k → IsTelling old g.text k
  telling_in k is = let P : Phase → Type 0 = λ p. Writes p old g.text in subst P is g.writes

  guest_on : (e : Event) (reply : LiveReply) → refusal_for old.phase (Guest e) ≡ None → Guests old e reply new → IsWriting out new
  guest_on e (r.Guest reply) free d =
      stays out old new g (ap (λ (x : LiveSeen). x.phase) d.rest) (ap (λ (x : LiveSeen). x.out) d.rest) (ap (λ (x : LiveSeen). x.digest) d.rest) (guest_writes old.phase old new e (r.Guest reply) g.text places free d g.writes)
  guest_on e _ free d = absurd d

  begin_on : (reply : LiveReply) → refusal_for old.phase Begin ≡ None → AfterBegin old reply new → IsWriting out new
  begin_on (r.Begun k) free d =
      let fresh : old.phase ≡ phases.Fresh = fresh_if old.phase free in
      let none : g.text ≡ [] = (let P : Phase → Type 0 = λ p. Writes p old g.text in subst P fresh g.writes) in
      let Q : List ℕ → Type 0 = λ x. IsTelling new (x ++ header_of (now old)) 1 in
      let going : old.phase ≢ phases.Failed = λ e. (let wrong : phases.Fresh ≡ phases.Failed = sym fresh ∙ e in cc) in
      let still_open : old.phase ≢ phases.Stopped = λ e. (let wrong : phases.Fresh ≡ phases.Stopped = sym fresh ∙ e in cc) in
      wrote_on out old new (header_of (now old)) 1 g going still_open d.1.phase d.1.wrote (subst Q (sym none) (begins_telling old new places d.1))
  begin_on (r.Mig errors.StreamFailed) free d = failed out old new d
  begin_on _ free d = absurd d

  copy_on : (reply : LiveReply) (k : ℕ) → old.phase ≡ phases.Open k → AfterCopy old reply new → IsWriting out new
  copy_on (r.Copied item) k is d =
      let below : d.number < size_of (layout_of (now old)) = omega (arith, member_below old.due d.number d.least.member, places.due_size) in
      let free = is_open old.phase k is in
      wrote_on out old new (spelled_record d.sent.entry) k g free.0 free.1 (d.sent.phase ∙ is) d.sent.wrote (copy_telling old new g.text k d.number places below d.sent (telling_in k is))
  copy_on r.RoundDone k is d = subst (IsWriting out) (sym d.1) g
  copy_on (r.Mig (errors.DiskFailed dev n)) k is d =
      let u = d.unread in
      let P : Phase → Type 0 = λ p. Writes p new g.text in
      stays out old new g (ap (λ (x : LiveSeen). x.phase) u.rest) (ap (λ (x : LiveSeen). x.out) u.rest) (ap (λ (x : LiveSeen). x.digest) u.rest)
      (subst P (sym is) (still_telling old new g.text k u.state (λ i none. sym (ap (λ (x : LiveSeen). in_either x i) u.rest) ∙ none) (telling_in k is)))
  copy_on (r.Mig errors.StreamFailed) k is d = failed out old new d
  copy_on _ k is d = absurd d

  round_on : (reply : LiveReply) (k : ℕ) → old.phase ≡ phases.Open k → refusal_for old.phase EndRound ≡ None → AfterRound old reply new → IsWriting out new
  round_on (r.Begun n) k is free d =
      let s = d.1 in
      let same : s.round ≡ k = (let both : phases.Open s.round ≡ phases.Open k = sym s.was ∙ is in cc) in
      let telling = telling_in k is in
      let fits : RoundFits old.phase = (let P : Phase → Type 0 = λ p. RoundFits p in subst P (sym is) telling.body.few) in
      let few : k + 1 ≤ last_round = round_fits old.phase k is fits free in
      let still = is_open old.phase k is in
      wrote_on out old new (spelled_record (round_end s.round)) n g still.0 still.1 s.phase s.wrote (round_telling old new g.text k n places d.0 s same few telling)
  round_on r.RoundOpen k is free d = subst (IsWriting out) (sym d.1) g
  round_on (r.Mig errors.StreamFailed) k is free d = failed out old new d
  round_on _ k is free d = absurd d

  stop_on : (reply : LiveReply) (k : ℕ) → old.phase ≡ phases.Open k → AfterStop old reply new → IsWriting out new
  stop_on (r.Stopped pages sectors) k is s =
      let n = size_of (layout_of (now old)) in
      let still : now new ≡ now old = s.machine.state in
      let free = is_open old.phase k is in
      let xs = texts s.entries in
      let telling = telling_on old new g.text k n (in_either old) s.entries places still (omega arith) s.told (cleared_either old new n s.sets) (telling_in k is) in
      let stream : IsStreamAsTold ((g.text ++ xs) ++ closing (now new) (g.text ++ xs)) (now new) = closed new (g.text ++ xs) k (λ i low. s.sets.gone i (subst (λ (m : MachineState). i < size_of (layout_of m)) still low)) telling in
      let all : (g.text ++ xs) ++ closing (now new) (g.text ++ xs) ≡ g.text ++ (xs ++ closing (now old) (g.text ++ xs)) =
      ap (λ (m : MachineState). (g.text ++ xs) ++ closing m (g.text ++ xs)) still ∙ append_assoc g.text xs (closing (now old) (g.text ++ xs)) in
      let P : Phase → Type 0 = λ p. Writes p new (g.text ++ (xs ++ closing (now old) (g.text ++ xs))) in
      let took = s.took g.text (g.taken free.0 free.1) in
      record {
        text = g.text ++ (xs ++ closing (now old) (g.text ++ xs));
        writes = subst P (sym s.phase) (subst (λ (bytes : List ℕ). IsStreamAsTold bytes (now new)) all stream);
        held = λ _ honest. (let before = g.held free.0 honest in let after = took.holds before.0 in (after.0, after.1 ∙ ap (λ (b : List ℕ). b ++ (xs ++ closing (now old) (g.text ++ xs))) before.1 ∙ append_assoc out.held g.text (xs ++ closing (now old) (g.text ++ xs))));
        taken = λ _ not_stopped. absurd (not_stopped s.phase);
      }
  stop_on (r.Mig (errors.DiskFailed dev n)) k is s =
      let a = s.are_sent in
      let free = is_open old.phase k is in
      let mid = telling_on old s.between g.text k s.number (in_either old) a.entries places a.machine.state (omega (arith, s.below)) a.told (cleared_either old s.between s.number a.sets) (telling_in k is) in
      let telling = still_telling s.between new (g.text ++ texts a.entries) k s.unread.state (λ i none. sym (ap (λ (x : LiveSeen). in_either x i) s.unread.rest) ∙ none) mid in
      let w = wrote_stays old s.between new (texts a.entries) (ap (λ (x : LiveSeen). x.out) s.unread.rest) (ap (λ (x : LiveSeen). x.digest) s.unread.rest) a.wrote in
      wrote_on out old new (texts a.entries) k g free.0 free.1 (ap (λ (x : LiveSeen). x.phase) s.unread.rest ∙ a.phase ∙ is) w telling
  stop_on (r.Mig errors.StreamFailed) k is d = failed out old new d
  stop_on _ k is d = absurd d

  does_on : (e : LiveEvent) (reply : LiveReply) → refusal_for old.phase e ≡ None → Does old e reply new → IsWriting out new
  does_on (Guest e) reply free d = guest_on e reply free d
  does_on Begin reply free d = begin_on reply free d
  does_on Copy reply free d = let o = open_if old.phase Copy (inl refl) free in copy_on reply o.0 o.1 d
  does_on EndRound reply free d = let o = open_if old.phase EndRound (inr (inl refl)) free in round_on reply o.0 o.1 free d
  does_on Stop reply free d = let o = open_if old.phase Stop (inr (inr refl)) free in stop_on reply o.0 o.1 d

-- It stays so after each call.
pub writing_on : (out : SinkState) (e : LiveEvent) (reply : LiveReply) (old new : LiveSeen) → IsWriting out old → HasPlaces old → Serves old e reply new → IsWriting out new
writing_on out e reply old new g places s = elim (told (refusal_for old.phase e) (Does old e reply new) (λ x. (reply ≡ r.Mig x) × (new ≡ old)) s) as (λ _. IsWriting out new)
    [ inl a ↦ does_on out old new g places e reply a.0 a.1 | inr b ↦ subst (IsWriting out) (sym b.2.1) g ]

-- A reply that a stop was Ok comes to a stop alone, and is the last that changes anything.
does_stop : (old new : LiveSeen) (e : LiveEvent) (pages sectors : ℕ) → Does old e (r.Stopped pages sectors) new → new.phase ≡ phases.Stopped
does_stop old new Stop pages sectors d = d.phase
does_stop old new _ pages sectors d = absurd d

stopped_now : (old new : LiveSeen) (e : LiveEvent) (pages sectors : ℕ) → Serves old e (r.Stopped pages sectors) new → new.phase ≡ phases.Stopped
stopped_now old new e pages sectors s =
    elim (told (refusal_for old.phase e) (Does old e (r.Stopped pages sectors) new) (λ x. (r.Stopped pages sectors ≡ r.Mig x) × (new ≡ old)) s) as (λ _. new.phase ≡ phases.Stopped)
    [ inl a ↦ does_stop old new e pages sectors a.1 | inr b ↦ (let wrong : r.Stopped pages sectors ≡ r.Mig b.0 = b.2.0 in cc) ]

stopped_still : (old new : LiveSeen) (e : LiveEvent) (reply : LiveReply) → old.phase ≡ phases.Stopped → Serves old e reply new → new.phase ≡ phases.Stopped
stopped_still old new e reply is s = let d = rw is at s in ap (λ (x : LiveSeen). x.phase) d.1

-- All of it, after some replies.
pub record HasWritten (out : SinkState) (replies : List LiveReply) (s : LiveSeen) : Type 0 where
  pub writing : IsWriting out s
  pub stopped : HasStopped replies → s.phase ≡ phases.Stopped
  pub flushed : IsFlushedIfStopped s

pub written_first : (s : LiveSeen) (out : SinkState) (replies : List LiveReply) → replies ≡ [] → s.phase ≡ phases.Fresh → Covers s.digest [] → s.out ≡ out → HasWritten out replies s
written_first s out replies none fresh digest same = rw none (record {
  writing = writing_first s out fresh digest same;
  stopped = λ wrong. absurd wrong;
  flushed = λ is. (let wrong : phases.Fresh ≡ phases.Stopped = sym fresh ∙ is in cc);
})

stopped_either : (replies : List LiveReply) (reply : LiveReply) → HasStopped (replies ++ reply ∷ []) → HasStopped replies ⊎ HasStopped (reply ∷ [])
stopped_either [] reply h = inr h
stopped_either (r.Stopped pages sectors ∷ replies) reply h = inl tt
stopped_either (r.Guest x ∷ replies) reply h = stopped_either replies reply h
stopped_either (r.Begun k ∷ replies) reply h = stopped_either replies reply h
stopped_either (r.Copied item ∷ replies) reply h = stopped_either replies reply h
stopped_either (r.RoundDone ∷ replies) reply h = stopped_either replies reply h
stopped_either (r.RoundOpen ∷ replies) reply h = stopped_either replies reply h
stopped_either (r.Mig x ∷ replies) reply h = stopped_either replies reply h

stops_now : (old new : LiveSeen) (e : LiveEvent) (reply : LiveReply) → HasStopped (reply ∷ []) → Serves old e reply new → new.phase ≡ phases.Stopped
stops_now old new e (r.Stopped pages sectors) h s = stopped_now old new e pages sectors s
stops_now old new e _ h s = absurd h

pub written_on : (out : SinkState) (replies : List LiveReply) (e : LiveEvent) (reply : LiveReply) (old new : LiveSeen) → HasPlaces old → Serves old e reply new → HasWritten out replies old → HasWritten out (replies ++ reply ∷ []) new
written_on out replies e reply old new places s w = record {
  writing = writing_on out e reply old new w.writing places s;
  stopped = λ h. elim (stopped_either replies reply h) as (λ _. new.phase ≡ phases.Stopped) [ inl before ↦ stopped_still old new e reply (w.stopped before) s | inr here ↦ stops_now old new e reply here s ];
  flushed = stays_flushed old new e reply w.flushed s;
}

-- Once a stop answered Ok it is a stream.
pub stopped_stream : (out new : SinkState) (last : MachineState) (s : LiveSeen) → last ≡ now s → new ≡ s.out → IsWriting out s → IsFlushedIfStopped s → s.phase ≡ phases.Stopped → WroteStream out last new
stopped_stream out new last s same sink w flushed is =
    let P : Phase → Type 0 = λ p. Writes p s w.text in
    let stream : IsStreamAsTold w.text (now s) = subst P is w.writes in
    let going : s.phase ≢ phases.Failed = λ e. (let wrong : phases.Stopped ≡ phases.Failed = sym is ∙ e in cc) in
    rw (same, sink) (record { bytes = w.text; stream = stream; held = w.held going; flushed = flushed is })

pub written_stream : (out new : SinkState) (replies : List LiveReply) (last : MachineState) (s : LiveSeen) → last ≡ now s → new ≡ s.out → HasWritten out replies s → HasStopped replies → WroteStream out last new
written_stream out new replies last s same sink w has = stopped_stream out new last s same sink w.writing w.flushed (w.stopped has)

pub none_stopped : (replies : List LiveReply) → replies ≡ [] → ¬ (HasStopped replies)
none_stopped replies none has = rw none at has

-- The machine keeps its shape in each call.
kept_shape : (old new : LiveSeen) → now new ≡ now old → IsSameShape (now old) (now new)
kept_shape old new same = subst (λ (m : MachineState). IsSameShape (now old) m) (sym same) (same_as_it_is (now old))

guest_shape : (old new : LiveSeen) (e : Event) (reply : LiveReply) → Guests old e reply new → IsSameShape (now old) (now new)
guest_shape old new e (r.Guest reply) d = d.is_applied.shape
guest_shape old new e _ d = absurd d

begin_shape : (old new : LiveSeen) (reply : LiveReply) → AfterBegin old reply new → IsSameShape (now old) (now new)
begin_shape old new (r.Begun k) d = kept_shape old new (ap state_of d.1.machine)
begin_shape old new (r.Mig errors.StreamFailed) d = kept_shape old new d.machine.state
begin_shape old new _ d = absurd d

copy_shape : (old new : LiveSeen) (reply : LiveReply) → AfterCopy old reply new → IsSameShape (now old) (now new)
copy_shape old new (r.Copied item) d = kept_shape old new d.sent.machine.state
copy_shape old new r.RoundDone d = kept_shape old new (ap now d.1)
copy_shape old new (r.Mig (errors.DiskFailed dev n)) d = kept_shape old new d.unread.state
copy_shape old new (r.Mig errors.StreamFailed) d = kept_shape old new d.machine.state
copy_shape old new _ d = absurd d

round_shape : (old new : LiveSeen) (reply : LiveReply) → AfterRound old reply new → IsSameShape (now old) (now new)
round_shape old new (r.Begun k) d = kept_shape old new (ap state_of d.1.machine)
round_shape old new r.RoundOpen d = kept_shape old new (ap now d.1)
round_shape old new (r.Mig errors.StreamFailed) d = kept_shape old new d.machine.state
round_shape old new _ d = absurd d

stop_shape : (old new : LiveSeen) (reply : LiveReply) → AfterStop old reply new → IsSameShape (now old) (now new)
stop_shape old new (r.Stopped pages sectors) d = kept_shape old new d.machine.state
stop_shape old new (r.Mig (errors.DiskFailed dev n)) d = kept_shape old new (d.unread.state ∙ d.are_sent.machine.state)
stop_shape old new (r.Mig errors.StreamFailed) d = kept_shape old new d.machine.state
stop_shape old new _ d = absurd d

does_shape : (old new : LiveSeen) (e : LiveEvent) (reply : LiveReply) → Does old e reply new → IsSameShape (now old) (now new)
does_shape old new (Guest e) reply d = guest_shape old new e reply d
does_shape old new Begin reply d = begin_shape old new reply d
does_shape old new Copy reply d = copy_shape old new reply d
does_shape old new EndRound reply d = round_shape old new reply d
does_shape old new Stop reply d = stop_shape old new reply d

pub served_shape : (m : MachineState) (old new : LiveSeen) (e : LiveEvent) (reply : LiveReply) → IsSameShape m (now old) → Serves old e reply new → IsSameShape m (now new)
served_shape m old new e reply shape s = same_shape_after m (now old) (now new) shape
    (elim (told (refusal_for old.phase e) (Does old e reply new) (λ x. (reply ≡ r.Mig x) × (new ≡ old)) s) as (λ _. IsSameShape (now old) (now new))
    [ inl a ↦ does_shape old new e reply a.1 | inr b ↦ kept_shape old new (ap now b.2.1) ])
