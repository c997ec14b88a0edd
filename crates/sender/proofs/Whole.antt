-- Once a stop answered Ok, what was written is a stream of the machine.
use Rattle.std.proofs.Common.{◌≡◌, ◌≢◌, ℕ, zero, suc, ◌+◌, ◌-◌, ◌<◌, ◌≤◌, List, [], ◌∷◌, ◌++◌, Some, None, Bool, true, false, ◌&&◌, not, refl, ap, sym, subst, ◌∙◌, append_assoc, append-nil, inl, inr, arith}
use Rattle.std.specs.List.{AllByRecursion}
use Rattle.std.proofs.lemmas.Bool.{eq-eqb}
use Rattle.std.proofs.lemmas.List.{map-append}
use Rattle.sha2.specs.Sha256.{sha256}
use Rattle.guestmem.specs.Item as items
use Rattle.machine.specs.Effect.{Effect, no_effect, applied}
use Rattle.machine.specs.EffectLaws.{IsSameShape}
use Rattle.machine.specs.Layout.{IsItemIn, Layout, item_at, layout_of, number_of, pages_of, size_of}
use Rattle.machine.specs.Sound.{IsSound}
use Rattle.machine.specs.State.{MachineState}
use Rattle.machine.specs.declared.event.Event.{Event}
use Rattle.machine.specs.declared.reply.Reply.{Reply}
use Rattle.machine.specs.declared.shape.Shape.{Shape}
use Rattle.machine.proofs.Numbering.{either_way, item_back, item_there, number_back, number_below, same_layout}
use Rattle.wire.specs.Header.{header, opening_of, version_of}
use Rattle.wire.specs.Records.{Record, commit, device, is_zero_page, page, page_record, round_end, sector, spelled_record, zero_page}
use Rattle.wire.specs.Stream.{AreNumbered, IsEntry, IsStream, device_texts, last_named, record_of, rounds, shapes_in, texts}
use Rattle.guestmem.specs.Page.{page_of}
use Rattle.wire.proofs.SentVersions.{sent_devices, sent_entries, sent_known, sent_record}
use Rattle.wire.proofs.PageRecords.{as_page, as_zeros}
use Rattle.wire.proofs.Whole.{each-snoc, is_item_entry, numbered_item}
use Rattle.sender.specs.History.{AllAllowed, Allowed, AllowedBy, History, IsItsChange, IsStaleItem, entries, is_due, is_stale, machine_after, next_phase, nothing, phase_of, text, then_came, went}
use Rattle.sender.specs.HistoryLaws.{StoppedIsStream}
use Rattle.sender.specs.LiveState.{chosen, header_of, item_of, last_round, records_of, refusal_for}
use Rattle.sender.specs.declared.phase.Phase.{Phase}
use Rattle.sender.specs.declared.phase.Phase.TheVariants as phases
use Rattle.sender.specs.declared.event.Item.{Item as Sent}
use Rattle.sender.specs.declared.event.LiveEvent.{LiveEvent}
use Rattle.sender.specs.declared.event.LiveEvent.TheVariants.{Guest, Begin, Copy, EndRound, Stop}
use Rattle.sender.specs.declared.mig_error.MigError.TheVariants as errors
use Rattle.sender.specs.declared.event.LiveReply.{LiveReply}
use Rattle.sender.specs.declared.event.LiveReply.TheVariants as r
use Rattle.sender.proofs.Following.{IsQuiet, no_disk, quiet_done, quiet_mig, quiet_open, quiet_unread, refused_stays}
use Rattle.sender.proofs.Fresh.{fresh_is_last, shape_after, told}
use Rattle.sender.proofs.Stopping.{texts-append}

-- What stands in the stream while a round is open: the header, and entries.
pub record HasBody (l : Layout) (shapes : List Shape) (written_so_far : List ℕ) (rs : List Record) (k : ℕ) : Type 0 where
  pub text_is : written_so_far ≡ header (opening_of l.pages shapes) ++ texts rs
  pub each : AllByRecursion (IsEntry 2 l) rs
  pub numbered : AreNumbered 1 rs
  pub rounds_are : k ≡ 1 + rounds rs
  pub few : k ≤ last_round

abbrev pub InPhase : Phase → MachineState → List ℕ → List Record → MachineState → Type 0
InPhase phases.Fresh m written_so_far rs last = (written_so_far ≡ []) × (rs ≡ [])
InPhase (phases.Open k) m written_so_far rs last = HasBody (layout_of m) (shapes_in m.devices) written_so_far rs k
InPhase phases.Stopped m written_so_far rs last = IsStream written_so_far last
InPhase phases.Failed m written_so_far rs last = Unit {0}

no_texts : texts [] ≡ []
unfolding texts
no_texts = refl

-- Records of items end no round.
rounds_page : (version n : ℕ) (b : List ℕ) → rounds (page_record version n b ∷ []) ≡ 0
unfolding rounds
rounds_page version n b = elim (either_way (is_zero_page version b)) as (λ _. rounds (page_record version n b ∷ []) ≡ 0) [
  | inl z ↦ rw (as_zeros version n b z) refl
  | inr f ↦ rw (as_page version n b f) refl
]

rounds_item : (rs : List Record) (m : MachineState) (i : items.Item) → rounds (rs ++ record_of m i ∷ []) ≡ rounds rs
unfolding rounds
rounds_item [] m (items.page n) = rounds_page 2 n (page_of m.ram n)
rounds_item [] m (items.sector d n) = refl
rounds_item (page n bytes ∷ rs) m i = rounds_item rs m i
rounds_item (sector d n content ∷ rs) m i = rounds_item rs m i
rounds_item (round_end n ∷ rs) m i = ap (λ (x : ℕ). x + 1) (rounds_item rs m i)
rounds_item (device n bytes ∷ rs) m i = rounds_item rs m i
rounds_item (commit digest ∷ rs) m i = rounds_item rs m i
rounds_item (zero_page z ∷ rs) m i = rounds_item rs m i

pub numbered_round : (k : ℕ) (rs : List Record) (n : ℕ) → AreNumbered k rs → n ≡ k + rounds rs → AreNumbered k (rs ++ round_end n ∷ [])
unfolding rounds
numbered_round k [] n h is = (omega (arith, is), tt)
numbered_round k (page j bytes ∷ rs) n h is = numbered_round k rs n h is
numbered_round k (sector d j content ∷ rs) n h is = numbered_round k rs n h is
numbered_round k (round_end j ∷ rs) n h is = (h.0, numbered_round (k + 1) rs n h.1 (omega (arith, is)))
numbered_round k (device j bytes ∷ rs) n h is = numbered_round k rs n h is
numbered_round k (commit digest ∷ rs) n h is = numbered_round k rs n h is
numbered_round k (zero_page z ∷ rs) n h is = numbered_round k rs n h is

pub rounds_round : (rs : List Record) (n : ℕ) → rounds (rs ++ round_end n ∷ []) ≡ rounds rs + 1
unfolding rounds
rounds_round [] n = refl
rounds_round (page j bytes ∷ rs) n = rounds_round rs n
rounds_round (sector d j content ∷ rs) n = rounds_round rs n
rounds_round (round_end j ∷ rs) n = ap (λ (x : ℕ). x + 1) (rounds_round rs n)
rounds_round (device j bytes ∷ rs) n = rounds_round rs n
rounds_round (commit digest ∷ rs) n = rounds_round rs n
rounds_round (zero_page z ∷ rs) n = rounds_round rs n

item_more : (l : Layout) (shapes : List Shape) (t : List ℕ) (rs : List Record) (k : ℕ) (m : MachineState) (i : items.Item) → IsEntry 2 l (record_of m i) → HasBody l shapes t rs k
    → HasBody l shapes (t ++ texts (record_of m i ∷ [])) (rs ++ record_of m i ∷ []) k
item_more l shapes t rs k m i entry b = record {
  text_is = ap (λ (x : List ℕ). x ++ texts (record_of m i ∷ [])) b.text_is ∙ append_assoc (header (opening_of l.pages shapes)) (texts rs) (texts (record_of m i ∷ [])) ∙ ap (λ (x : List ℕ). header (opening_of l.pages shapes) ++ x) (sym (texts-append rs (record_of m i ∷ [])));
  each = each-snoc 2 l rs (record_of m i) b.each entry;
  numbered = numbered_item 2 1 rs m i b.numbered;
  rounds_are = b.rounds_are ∙ ap (λ (x : ℕ). 1 + x) (sym (rounds_item rs m i));
  few = b.few;
}

and_not : (b : Bool) → (b && not b) ≡ false
and_not true = refl
and_not false = refl

entry_at : (m : MachineState) (i : ℕ) → IsSound m → i < size_of (layout_of m) → IsEntry 2 (layout_of m) (record_of m (item_at (layout_of m) i))
entry_at m i sound below = is_item_entry 2 m (item_at (layout_of m) i) sound (item_there (layout_of m) i below)

pub chosen_body : (now_ : MachineState) (shapes : List Shape) (p : ℕ → Bool) (n k : ℕ) (t : List ℕ) (rs : List Record) → IsSound now_ → n ≤ size_of (layout_of now_) → HasBody (layout_of now_) shapes t rs k
    → HasBody (layout_of now_) shapes (t ++ texts (records_of now_ (chosen p n))) (rs ++ records_of now_ (chosen p n)) k
chosen_body now_ shapes p zero k t rs sound le b = rw (no_texts, append-nil, append-nil) b
chosen_body now_ shapes p (suc n) k t rs sound le b =
    let before = chosen_body now_ shapes p n k t rs sound (omega (arith, le)) b in
    let P : List Record → Type 0 = λ x. HasBody (layout_of now_) shapes (t ++ texts x) (rs ++ x) k in
    elim (either_way (p n)) as (λ _. P (records_of now_ (chosen p (suc n)))) [
      | inl e ↦
          let xs = records_of now_ (chosen p n) in
          let x = record_of now_ (item_at (layout_of now_) n) in
          let all : records_of now_ (chosen p (suc n)) ≡ xs ++ x ∷ [] = rw e (map-append _ (chosen p n) (n ∷ [])) in
          let more = item_more (layout_of now_) shapes (t ++ texts xs) (rs ++ xs) k now_ (item_at (layout_of now_) n) (entry_at now_ n sound (omega (arith, le))) before in
          let text_same : (t ++ texts xs) ++ texts (x ∷ []) ≡ t ++ texts (xs ++ x ∷ []) = append_assoc t (texts xs) (texts (x ∷ [])) ∙ ap (λ (y : List ℕ). t ++ y) (sym (texts-append xs (x ∷ []))) in
          let Q : List ℕ → Type 0 = λ y. HasBody (layout_of now_) shapes y ((rs ++ xs) ++ x ∷ []) k in
          let R : List Record → Type 0 = λ y. HasBody (layout_of now_) shapes (t ++ texts (xs ++ x ∷ [])) y k in
          subst P (sym all) (subst R (append_assoc rs xs (x ∷ [])) (subst Q text_same more))
      | inr e ↦
          let all : records_of now_ (chosen p (suc n)) ≡ records_of now_ (chosen p n) = rw (e, append-nil) refl in
          subst P (sym all) before
    ]

-- A machine stays sound.
sound_went : (m : MachineState) (h : History) (e : LiveEvent) (reply : LiveReply) (c : Effect) → Allowed m h e reply c → IsSound (machine_after m h) → IsSound (went (machine_after m h) e reply c)
sound_went m h (Guest e) (r.Guest reply) c a sound =
    elim (told (refusal_for (phase_of h) (Guest e)) (AllowedBy (layout_of m) (machine_after m h) (is_stale (layout_of m) h) (is_due (layout_of m) h) (phase_of h) (Guest e) (r.Guest reply) c) (λ x. r.Guest reply ≡ r.Mig x) a)
    as (λ _. IsSound (applied (machine_after m h) c))
    [ inl d ↦ d.1.1 | inr d ↦ (let wrong : r.Guest reply ≡ r.Mig d.0 = d.2 in cc) ]
sound_went m h _ _ c a sound = sound

sound_after : (m : MachineState) (h : History) → AllAllowed m h → IsSound m → IsSound (machine_after m h)
sound_after m nothing a sound = sound
sound_after m (then_came h e reply c) a sound = sound_went m h e reply c a.1 (sound_after m h a.0 sound)

-- The parts of a stream, one after another.
closed_same : (t h e f x d : List ℕ) (c : List ℕ → List ℕ) → t ≡ h ++ e → f ≡ e ++ x → t ++ (x ++ (d ++ c ((t ++ x) ++ d))) ≡ (h ++ (f ++ d)) ++ c (h ++ (f ++ d))
closed_same t h e f x d c first all =
    let one : (t ++ x) ++ d ≡ h ++ (f ++ d) = rw (first, all) (ap (λ (y : List ℕ). y ++ d) (append_assoc h e x) ∙ append_assoc h (e ++ x) d) in
    sym (append_assoc t x (d ++ c ((t ++ x) ++ d))) ∙ sym (append_assoc (t ++ x) d (c ((t ++ x) ++ d))) ∙ ap (λ (y : List ℕ). y ++ c y) one

module _ (m : MachineState) (h : History) (a : AllAllowed m h) (sound : IsSound m) where
  abbrev mid : MachineState
  mid = machine_after m h

  abbrev stale : ℕ → Bool
  stale = is_stale (layout_of m) h

  shape : IsSameShape m (machine_after m h)
  shape = shape_after m h a

  sound_here : IsSound (machine_after m h)
  sound_here = sound_after m h a sound

  layout_here : layout_of (machine_after m h) ≡ layout_of m
  layout_here = same_layout m (machine_after m h) shape

  pages_here : pages_of (machine_after m h) ≡ pages_of m
  pages_here = ap (λ (l : Layout). l.pages) layout_here

  header_here : header_of (machine_after m h) ≡ header_of m
  header_here = rw (pages_here, shape.devices) refl

  abbrev In : Phase → LiveEvent → LiveReply → Effect → Type 0
  In p e reply c = InPhase p m (text m (then_came h e reply c)) (entries m (then_came h e reply c)) (machine_after m (then_came h e reply c))

  quiet_phase : (p : Phase) (e : LiveEvent) (reply : LiveReply) (c : Effect) → IsQuiet e reply → InPhase p m (text m h) (entries m h) mid → In p e reply c
  quiet_phase p e reply c q b = rw (q.unwritten (text m h) (machine_after m h) (is_stale (layout_of m) h), q.empty (machine_after m h) (is_stale (layout_of m) h), append-nil, append-nil, q.same (machine_after m h) c) b

  begun_phase : (k : ℕ) (c : Effect) → k ≡ 1 → text m h ≡ [] → entries m h ≡ [] → In (phases.Open k) Begin (r.Begun k) c
  unfolding texts rounds
  begun_phase k c one empty none = record {
    text_is = rw (empty, none, header_here) (sym (append-nil (header_of m)));
    each = rw none tt;
    numbered = rw none tt;
    rounds_are = rw none one;
    few = omega (arith, one);
  }

  copied_phase : (k number : ℕ) (item : Sent) (c : Effect) → item_of item ≡ item_at (layout_of m) number → number < size_of (layout_of m) → HasBody (layout_of m) (shapes_in m.devices) (text m h) (entries m h) k → In (phases.Open k) Copy (r.Copied item) c
  copied_phase k number item c is below b =
      let P : Layout → Type 0 = λ l. (number < size_of l) → IsEntry 2 l (record_of mid (item_at l number)) in
      let there : IsEntry 2 (layout_of m) (record_of mid (item_at (layout_of m) number)) = subst P layout_here (λ low. entry_at mid number sound_here low) below in
      item_more (layout_of m) (shapes_in m.devices) (text m h) (entries m h) k mid (item_of item) (rw is there) b

  round_phase : (k n : ℕ) (c : Effect) → n ≡ k + 1 → k ≢ last_round → HasBody (layout_of m) (shapes_in m.devices) (text m h) (entries m h) k → In (phases.Open n) EndRound (r.Begun n) c
  round_phase k n c next some b =
      let e : n - 1 ≡ k = omega (arith, next) in
      let header_ = header (opening_of (pages_of m) (shapes_in m.devices)) in
      rw e (record {
        text_is = ap (λ (x : List ℕ). x ++ texts (round_end k ∷ [])) b.text_is ∙ append_assoc header_ (texts (entries m h)) (texts (round_end k ∷ [])) ∙ ap (λ (x : List ℕ). header_ ++ x) (sym (texts-append (entries m h) (round_end k ∷ [])));
        each = each-snoc 2 (layout_of m) (entries m h) (round_end k) b.each (record { spells = omega (arith, b.few); has = tt; stands = tt });
        numbered = numbered_round 1 (entries m h) k b.numbered b.rounds_are;
        rounds_are = omega (arith, next, b.rounds_are, rounds_round (entries m h) k);
        few = omega (arith, next, some, b.few);
      })

  stopped_phase : (k pages sectors : ℕ) (c : Effect) → Allowed m h Stop (r.Stopped pages sectors) c → c ≡ no_effect → HasBody (layout_of m) (shapes_in m.devices) (text m h) (entries m h) k → In phases.Stopped Stop (r.Stopped pages sectors) c
  stopped_phase k pages sectors c may none b =
      let n = size_of (layout_of mid) in
      let xs = records_of mid (chosen stale n) in
      let P : Layout → Type 0 = λ x. HasBody x (shapes_in m.devices) (text m h) (entries m h) k in
      let body = chosen_body mid (shapes_in m.devices) stale n k (text m h) (entries m h) sound_here (omega arith) (subst P (sym layout_here) b) in
      let heads : header (opening_of (pages_of m) (shapes_in m.devices)) ≡ header (opening_of (pages_of mid) (shapes_in mid.devices)) = sym header_here in
      record {
        version = version_of (shapes_in mid.devices);
        entries = entries m h ++ xs;
        by = record {
          known = sent_known (shapes_in mid.devices);
          each = sent_entries (shapes_in mid.devices) (layout_of mid) (entries m h ++ xs) body.each;
          numbered = body.numbered;
          last = λ i has.
              let within : IsItemIn (layout_of m) i = subst (λ l. IsItemIn l i) layout_here has in
              let number = number_of (layout_of m) i in
              let Q : items.Item → Type 0 = λ x. last_named x (entries m (then_came h Stop (r.Stopped pages sectors) c)) ≡ Some (record_of mid x) in
              subst Q (item_back (layout_of m) i within) (fresh_is_last m (then_came h Stop (r.Stopped pages sectors) c) number (a, may, none) (number_below (layout_of m) i within) (and_not (is_stale (layout_of m) h number)))
              ∙ ap Some (sym (sent_record (shapes_in mid.devices) mid.ram mid.disks i));
          sound = sound_here;
          devices = sent_devices mid.devices;
          whole = closed_same (text m h) (header (opening_of (pages_of mid) (shapes_in mid.devices))) (texts (entries m h)) (texts (entries m h ++ xs)) (texts xs) (device_texts 0 mid.devices) (λ y. spelled_record (commit (sha256 y)))
              (b.text_is ∙ ap (λ (y : List ℕ). y ++ texts (entries m h)) heads) (texts-append (entries m h) xs);
        };
      }

  short_phase : (k dev n : ℕ) (c : Effect) → IsStaleItem (layout_of m) (is_stale (layout_of m) h) (items.sector dev n) → HasBody (layout_of m) (shapes_in m.devices) (text m h) (entries m h) k → In (phases.Open k) Stop (r.Mig (errors.DiskFailed dev n)) c
  short_phase k dev n c s b =
      let number : number_of (layout_of mid) (items.sector dev n) ≡ s.number = ap (λ (l : Layout). number_of l (items.sector dev n)) layout_here ∙ ap (number_of (layout_of m)) s.item_is ∙ number_back (layout_of m) s.number s.below in
      let P : Layout → Type 0 = λ x. HasBody x (shapes_in m.devices) (text m h) (entries m h) k in
      let j = number_of (layout_of mid) (items.sector dev n) in
      let body = chosen_body mid (shapes_in m.devices) stale j k (text m h) (entries m h) sound_here (omega (arith, number, s.below, ap size_of layout_here)) (subst P (sym layout_here) b) in
      let Q : Layout → Type 0 = λ x. HasBody x (shapes_in m.devices) (text m h ++ texts (records_of mid (chosen stale j))) (entries m h ++ records_of mid (chosen stale j)) k in
      subst Q layout_here body

  guest_phase : (p : Phase) (e : Event) (reply : Reply) (c : Effect) → InPhase p m (text m h) (entries m h) mid → refusal_for p (Guest e) ≡ None → In p (Guest e) (r.Guest reply) c
  guest_phase phases.Fresh e reply c b free = rw (no_texts, append-nil, append-nil) b
  guest_phase (phases.Open k) e reply c b free = rw (no_texts, append-nil, append-nil) b
  guest_phase phases.Stopped e reply c b free = cc
  guest_phase phases.Failed e reply c b free = tt

  not_last : (k : ℕ) → refusal_for (phases.Open k) EndRound ≡ None → k ≢ last_round
  not_last k free is = let x = rw (eq-eqb k last_round is) at free in cc

  abbrev Entry : Phase → LiveEvent → LiveReply → Effect → Type 0
  Entry p e reply c = InPhase p m (text m h) (entries m h) mid → refusal_for p e ≡ None → AllowedBy (layout_of m) mid (is_stale (layout_of m) h) (is_due (layout_of m) h) p e reply c → Allowed m h e reply c → IsItsChange e reply c → In (next_phase p reply) e reply c

  entry : (p : Phase) (e : LiveEvent) (reply : LiveReply) (c : Effect) → Entry p e reply c
  entry p (Guest e) (r.Guest reply) c b free d may its = guest_phase p e reply c b free
  entry p (Guest e) _ c b free d may its = absurd d
  entry phases.Fresh Begin (r.Begun k) c b free d may its = begun_phase k c d b.0 b.1
  entry (phases.Open k) Begin (r.Begun n) c b free d may its = cc
  entry phases.Stopped Begin (r.Begun n) c b free d may its = cc
  entry phases.Failed Begin (r.Begun n) c b free d may its = cc
  entry p Begin (r.Mig errors.StreamFailed) c b free d may its = tt
  entry p Begin _ c b free d may its = absurd d
  entry (phases.Open k) Copy (r.Copied item) c b free d may its = copied_phase k d.number item c d.item_is d.least.below b
  entry (phases.Open k) Copy r.RoundDone c b free d may its = quiet_phase (phases.Open k) Copy r.RoundDone c quiet_done b
  entry (phases.Open k) Copy (r.Mig (errors.DiskFailed dev n)) c b free d may its = quiet_phase (phases.Open k) Copy (r.Mig (errors.DiskFailed dev n)) c (quiet_unread dev n) b
  entry (phases.Open k) Copy (r.Mig errors.StreamFailed) c b free d may its = tt
  entry (phases.Open k) Copy _ c b free d may its = absurd d
  entry phases.Fresh Copy reply c b free d may its = cc
  entry phases.Stopped Copy reply c b free d may its = cc
  entry phases.Failed Copy reply c b free d may its = cc
  entry (phases.Open k) EndRound (r.Begun n) c b free d may its = round_phase k n c d.1 (not_last k free) b
  entry (phases.Open k) EndRound r.RoundOpen c b free d may its = quiet_phase (phases.Open k) EndRound r.RoundOpen c quiet_open b
  entry (phases.Open k) EndRound (r.Mig errors.StreamFailed) c b free d may its = tt
  entry (phases.Open k) EndRound _ c b free d may its = absurd d
  entry phases.Fresh EndRound reply c b free d may its = cc
  entry phases.Stopped EndRound reply c b free d may its = cc
  entry phases.Failed EndRound reply c b free d may its = cc
  entry (phases.Open k) Stop (r.Stopped pages sectors) c b free d may its = stopped_phase k pages sectors c may its b
  entry (phases.Open k) Stop (r.Mig (errors.DiskFailed dev n)) c b free d may its = short_phase k dev n c d.0 b
  entry (phases.Open k) Stop (r.Mig errors.StreamFailed) c b free d may its = tt
  entry (phases.Open k) Stop _ c b free d may its = absurd d
  entry phases.Fresh Stop reply c b free d may its = cc
  entry phases.Stopped Stop reply c b free d may its = cc
  entry phases.Failed Stop reply c b free d may its = cc

-- What was written, by the phase.
pub in_phase : (m : MachineState) (h : History) → AllAllowed m h → IsSound m → InPhase (phase_of h) m (text m h) (entries m h) (machine_after m h)
in_phase m nothing a sound = (refl, refl)
in_phase m (then_came h e reply c) a sound =
    let before = in_phase m h a.0 sound in
    elim (told (refusal_for (phase_of h) e) (AllowedBy (layout_of m) (machine_after m h) (is_stale (layout_of m) h) (is_due (layout_of m) h) (phase_of h) e reply c) (λ x. reply ≡ r.Mig x) a.1)
    as (λ _. InPhase (phase_of (then_came h e reply c)) m (text m (then_came h e reply c)) (entries m (then_came h e reply c)) (machine_after m (then_came h e reply c))) [
      | inl d ↦ entry m h a.0 sound (phase_of h) e reply c before d.0 d.1 a.1 a.2
      | inr d ↦ rw (d.2, refused_stays (phase_of h) e d.0 d.1) (quiet_phase m h a.0 sound (phase_of h) e (r.Mig d.0) c (quiet_mig e d.0 (no_disk (phase_of h) e d.0 d.1)) before)
    ]

-- Once a stop answered Ok, what was written is a stream of the machine.
pub stopped_is_a_stream : StoppedIsStream
stopped_is_a_stream m h a sound is = let P : Phase → Type 0 = λ p. InPhase p m (text m h) (entries m h) (machine_after m h) in subst P is (in_phase m h a sound)
