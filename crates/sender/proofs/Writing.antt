-- What is written is the text of the history.
use Rattle.std.proofs.Common.{◌≡◌, ℕ, ◌-◌, List, [], ◌∷◌, ◌++◌, Some, None, Bool, true, false, refl, ap, sym, subst, ◌∙◌, append-nil, inl, inr, arith, eqb}
use Rattle.std.specs.Prelude.{IsTrue}
use Rattle.guestmem.specs.Item as items
use Rattle.guestmem.specs.Item.{Item}
use Rattle.machine.specs.Layout.{Layout, item_at, layout_of, number_of, size_of}
use Rattle.machine.specs.Seen.{AreHonest}
use Rattle.machine.specs.State.{MachineState}
use Rattle.machine.specs.declared.event.Event.{Event}
use Rattle.machine.proofs.Numbering.{either_way, same_layout}
use Rattle.wire.specs.Records.{Record, round_end}
use Rattle.wire.specs.Sinks.{Covers, Digested, SinkState}
use Rattle.wire.specs.Stream.{record_of, texts}
use Rattle.sender.specs.LiveState.{LiveSeen, now, refusal_for, last_round, chosen, records_of, header_of, closing, item_of}
use Rattle.sender.specs.Calls.{Serves, Does, AfterBegin, AfterCopy, AfterRound, AfterStop, Guests, Stops, StopsShort, Fails, Took, Wrote, in_either}
use Rattle.sender.specs.History.{History, machine_after, is_stale, sent, written, is_fault}
use Rattle.sender.specs.Follows.{Follows}
use Rattle.sender.specs.declared.phase.Phase.{Phase}
use Rattle.sender.specs.declared.phase.Phase.TheVariants as phases
use Rattle.sender.specs.declared.event.LiveEvent.{LiveEvent}
use Rattle.sender.specs.declared.event.LiveEvent.TheVariants.{Guest, Begin, Copy, EndRound, Stop}
use Rattle.sender.specs.declared.mig_error.MigError.{MigError}
use Rattle.sender.specs.declared.mig_error.MigError.TheVariants as errors
use Rattle.sender.specs.declared.event.LiveReply.{LiveReply}
use Rattle.sender.specs.declared.event.LiveReply.TheVariants as r
use Rattle.sender.proofs.Following.{NamesNone, quiet_mig, open_if, agree_open, sector_number}
use Rattle.sender.proofs.Going.{chosen_same}
use Rattle.sender.proofs.Stopping.{one_text}
use Rattle.sender.proofs.Told.{honest_disks_tell_contents, told_one}

abbrev pub is_stopped : LiveReply → Bool
is_stopped (r.Stopped pages sectors) = true
is_stopped _ = false

-- Nothing was written.
pub took_none : (old new : LiveSeen) → new.out ≡ old.out → Took old new []
took_none old new out = record {
  count = ap (λ (o : SinkState). o.failures) out;
  holds = λ honest. ((let P : SinkState → Type 0 = λ o. IsTrue o.honest in subst P (sym out) honest), ap (λ (o : SinkState). o.held) out ∙ sym (append-nil old.out.held));
}

wrote_none : (old new : LiveSeen) → new.out ≡ old.out → new.digest ≡ old.digest → Wrote old new []
wrote_none old new out digest = record {
  took = took_none old new out;
  taken = λ b held. (let P : Digested → Type 0 = λ d. Covers d (b ++ []) in subst P (sym digest) (let Q : List ℕ → Type 0 = λ x. Covers old.digest x in subst Q (sym (append-nil b)) held));
}

-- What a call did is told by what it wrote after what was written before, unless its writer failed.
pub record Told (old new : LiveSeen) (before bytes : List ℕ) (reply : LiveReply) : Type 0 where
  pub count : is_fault reply ≡ false → new.out.failures ≡ old.out.failures
  pub took : is_fault reply ≡ false → AreHonest old.machine → Covers old.digest before → Took old new bytes
  pub taken : is_fault reply ≡ false → is_stopped reply ≡ false → AreHonest old.machine → Covers old.digest before → Covers new.digest (before ++ bytes)
  pub fails : is_fault reply ≡ true → Fails old new

told_wrote : (old new : LiveSeen) (before bytes : List ℕ) (reply : LiveReply) → is_fault reply ≡ false → new.out.failures ≡ old.out.failures → (AreHonest old.machine → Wrote old new bytes) → Told old new before bytes reply
told_wrote old new before bytes reply none count w = record {
  count = λ _. count;
  took = λ _ disks held. (w disks).took;
  taken = λ _ going disks held. (w disks).taken before held;
  fails = λ some. cc;
}

told_fails : (old new : LiveSeen) (before bytes : List ℕ) (reply : LiveReply) → is_fault reply ≡ true → Fails old new → Told old new before bytes reply
told_fails old new before bytes reply some f = record {
  count = λ none. cc;
  took = λ none disks held. cc;
  taken = λ none going disks held. cc;
  fails = λ _. f;
}

no_text : texts [] ≡ []
unfolding texts
no_text = refl

pub wrote_stays : (old mid new : LiveSeen) (x : List ℕ) → new.out ≡ mid.out → new.digest ≡ mid.digest → Wrote old mid x → Wrote old new x
wrote_stays old mid new x out digest w = record {
  took = record {
    count = ap (λ (o : SinkState). o.failures) out ∙ w.took.count;
    holds = λ honest. (let P : SinkState → Type 0 = λ o. IsTrue o.honest × (o.held ≡ old.out.held ++ x) in subst P (sym out) (w.took.holds honest));
  };
  taken = λ b held. (let P : Digested → Type 0 = λ d. Covers d (b ++ x) in subst P (sym digest) (w.taken b held));
}

module _ (m : MachineState) (h : History) (old new : LiveSeen) (f : Follows m h old) (before : List ℕ) where
  abbrev Tells : LiveEvent → LiveReply → Type 0
  Tells e reply = Told old new before (written before (machine_after m h) (is_stale (layout_of m) h) e reply) reply

  quiet_tells : (e : LiveEvent) (reply : LiveReply) → written before (machine_after m h) (is_stale (layout_of m) h) e reply ≡ [] → is_fault reply ≡ false → new.out ≡ old.out → new.digest ≡ old.digest → Tells e reply
  quiet_tells e reply none fine out digest = rw none (let w = wrote_none old new out digest in told_wrote old new before [] reply fine w.took.count (λ _. w))

  writes_guest : (e : Event) (reply : LiveReply) → Guests old e reply new → Tells (Guest e) reply
  writes_guest e (r.Guest reply) d = quiet_tells (Guest e) (r.Guest reply) no_text refl (ap (λ (x : LiveSeen). x.out) d.rest) (ap (λ (x : LiveSeen). x.digest) d.rest)
  writes_guest e _ d = absurd d

  writes_begin : (reply : LiveReply) → AfterBegin old reply new → Tells Begin reply
  writes_begin (r.Begun k) d = let P : MachineState → Type 0 = λ x. Wrote old new (header_of x) in told_wrote old new before _ (r.Begun k) refl d.1.wrote.took.count (λ _. subst P f.machine d.1.wrote)
  writes_begin (r.Mig errors.StreamFailed) d = told_fails old new before _ (r.Mig errors.StreamFailed) refl d
  writes_begin _ d = absurd d

  writes_copy : (reply : LiveReply) → AfterCopy old reply new → Tells Copy reply
  writes_copy (r.Copied item) d =
      let P : Item → Type 0 = λ i. Wrote old new (texts (record_of (now old) i ∷ [])) in
      let Q : MachineState → Type 0 = λ x. Wrote old new (texts (record_of x (item_of item) ∷ [])) in
      let R : Record → Type 0 = λ x. Wrote old new (texts (x ∷ [])) in
      told_wrote old new before _ (r.Copied item) refl d.sent.wrote.took.count (λ disks. subst Q f.machine (subst P (sym d.item_is) (subst R (told_one old.machine (item_at (layout_of (now old)) d.number) d.sent.entry disks d.sent.told) (rw (one_text d.sent.entry) d.sent.wrote))))
  writes_copy r.RoundDone d = quiet_tells Copy r.RoundDone no_text refl (ap (λ (s : LiveSeen). s.out) d.1) (ap (λ (s : LiveSeen). s.digest) d.1)
  writes_copy (r.Mig (errors.DiskFailed dev n)) d = quiet_tells Copy (r.Mig (errors.DiskFailed dev n)) no_text refl (ap (λ (s : LiveSeen). s.out) d.unread.rest) (ap (λ (s : LiveSeen). s.digest) d.unread.rest)
  writes_copy (r.Mig errors.StreamFailed) d = told_fails old new before _ (r.Mig errors.StreamFailed) refl d
  writes_copy _ d = absurd d

  writes_round : (reply : LiveReply) → AfterRound old reply new → Tells EndRound reply
  writes_round (r.Begun k) d =
      let e : k - 1 ≡ d.1.round = omega (arith, d.1.next) in
      told_wrote old new before _ (r.Begun k) refl d.1.wrote.took.count (λ _. rw (one_text (round_end (k - 1)), e) d.1.wrote)
  writes_round r.RoundOpen d = quiet_tells EndRound r.RoundOpen no_text refl (ap (λ (s : LiveSeen). s.out) d.1) (ap (λ (s : LiveSeen). s.digest) d.1)
  writes_round (r.Mig errors.StreamFailed) d = told_fails old new before _ (r.Mig errors.StreamFailed) refl d
  writes_round _ d = absurd d

  stop_took : (k pages sectors : ℕ) → old.phase ≡ phases.Open k → Stops old pages sectors new → AreHonest old.machine → Covers old.digest before → Took old new (written before (machine_after m h) (is_stale (layout_of m) h) Stop (r.Stopped pages sectors))
  stop_took k pages sectors is s disks held =
      let same : layout_of (now old) ≡ layout_of m = same_layout m (now old) f.shape in
      let n = size_of (layout_of (now old)) in
      let chosen_here : chosen (in_either old) n ≡ chosen (is_stale (layout_of m) h) n = chosen_same (in_either old) (is_stale (layout_of m) h) n (λ i b. (agree_open m h old k f is).stale i (omega (arith, b, ap size_of same))) in
      let Q : List ℕ → Type 0 = λ x. Took old new (texts (records_of (now old) x) ++ closing (now old) (before ++ texts (records_of (now old) x))) in
      let P : MachineState → Type 0 = λ x. Took old new (let t = texts (records_of x (chosen (is_stale (layout_of m) h) (size_of (layout_of x)))) in t ++ closing x (before ++ t)) in
      let R : List Record → Type 0 = λ x. Took old new (texts x ++ closing (now old) (before ++ texts x)) in
      let told : s.entries ≡ records_of (now old) (chosen (in_either old) n) = honest_disks_tell_contents old.machine (chosen (in_either old) n) s.entries disks s.told in
      subst P f.machine (subst Q chosen_here (subst R told (s.took before held)))

  short_wrote : (k dev n : ℕ) → old.phase ≡ phases.Open k → StopsShort old dev n new → AreHonest old.machine → Wrote old new (texts (sent (machine_after m h) (is_stale (layout_of m) h) Stop (r.Mig (errors.DiskFailed dev n))))
  short_wrote k dev n is s disks =
      let number = sector_number m old (items.sector dev n) s.number f.shape s.item_is s.below in
      let same : layout_of (now old) ≡ layout_of m = same_layout m (now old) f.shape in
      let there : number_of (layout_of (now old)) (items.sector dev n) ≡ s.number = ap (λ (l : Layout). number_of l (items.sector dev n)) same ∙ number.0 in
      let chosen_here : chosen (in_either old) s.number ≡ chosen (is_stale (layout_of m) h) s.number = chosen_same (in_either old) (is_stale (layout_of m) h) s.number (λ i b. (agree_open m h old k f is).stale i (omega (arith, b, number.2))) in
      let told : s.are_sent.entries ≡ records_of (now old) (chosen (in_either old) s.number) = honest_disks_tell_contents old.machine (chosen (in_either old) s.number) s.are_sent.entries disks s.are_sent.told in
      let first : Wrote old new (texts (records_of (now old) (chosen (in_either old) s.number))) =
      subst (λ (x : List Record). Wrote old new (texts x)) told (wrote_stays old s.between new _ (ap (λ (x : LiveSeen). x.out) s.unread.rest) (ap (λ (x : LiveSeen). x.digest) s.unread.rest) s.are_sent.wrote) in
      let Q : List ℕ → Type 0 = λ x. Wrote old new (texts (records_of (now old) x)) in
      let R : ℕ → Type 0 = λ j. Wrote old new (texts (records_of (now old) (chosen (is_stale (layout_of m) h) j))) in
      let P : MachineState → Type 0 = λ x. Wrote old new (texts (records_of x (chosen (is_stale (layout_of m) h) (number_of (layout_of x) (items.sector dev n))))) in
      subst P f.machine (subst R (sym there) (subst Q chosen_here first))

  writes_stop : (reply : LiveReply) (k : ℕ) → old.phase ≡ phases.Open k → AfterStop old reply new → Tells Stop reply
  writes_stop (r.Stopped pages sectors) k is d = record {
    count = λ _. d.count;
    took = λ _ disks held. stop_took k pages sectors is d disks held;
    taken = λ _ going disks held. cc;
    fails = λ some. cc;
  }
  writes_stop (r.Mig (errors.DiskFailed dev n)) k is d = told_wrote old new before _ (r.Mig (errors.DiskFailed dev n)) refl (ap (λ (x : LiveSeen). x.out.failures) d.unread.rest ∙ d.are_sent.wrote.took.count) (λ disks. short_wrote k dev n is d disks)
  writes_stop (r.Mig errors.StreamFailed) k is d = told_fails old new before _ (r.Mig errors.StreamFailed) refl d
  writes_stop _ k is d = absurd d

  pub writes : (e : LiveEvent) (reply : LiveReply) → refusal_for old.phase e ≡ None → Does old e reply new → Told old new before (written before (machine_after m h) (is_stale (layout_of m) h) e reply) reply
  writes (Guest e) reply free d = writes_guest e reply d
  writes Begin reply free d = writes_begin reply d
  writes Copy reply free d = writes_copy reply d
  writes EndRound reply free d = writes_round reply d
  writes Stop reply free d = let o = open_if old.phase Stop (inr (inr refl)) free in writes_stop reply o.0 o.1 d

  pub refused_wrote : (e : LiveEvent) (x : MigError) → NamesNone x → new ≡ old → Wrote old new (written before (machine_after m h) (is_stale (layout_of m) h) e (r.Mig x))
  refused_wrote e x plain same = rw ((quiet_mig e x plain).unwritten before (machine_after m h) (is_stale (layout_of m) h)) (wrote_none old new (ap (λ (s : LiveSeen). s.out) same) (ap (λ (s : LiveSeen). s.digest) same))

-- A phase that is not failed refuses nothing for a failed writer.
pub not_failed : (p : Phase) (e : LiveEvent) → refusal_for p e ≡ Some errors.StreamFailed → p ≡ phases.Failed
not_failed phases.Failed e is = refl
not_failed phases.Stopped e is = cc
not_failed phases.Fresh (Guest e) is = cc
not_failed phases.Fresh Begin is = cc
not_failed phases.Fresh Copy is = cc
not_failed phases.Fresh EndRound is = cc
not_failed phases.Fresh Stop is = cc
not_failed (phases.Open k) (Guest e) is = cc
not_failed (phases.Open k) Begin is = cc
not_failed (phases.Open k) Copy is = cc
not_failed (phases.Open k) EndRound is = elim (either_way (eqb k last_round)) as (λ _. phases.Open k ≡ phases.Failed) [ inl b ↦ (let x = rw b at is in cc) | inr b ↦ (let x = rw b at is in cc) ]
not_failed (phases.Open k) Stop is = cc

-- In a failed phase only the guest goes on, and it writes nothing.
pub failed_on : (old new : LiveSeen) (e : LiveEvent) (reply : LiveReply) → old.phase ≡ phases.Failed → Serves old e reply new → (new.phase ≡ phases.Failed) × (new.out ≡ old.out)
failed_on old new (Guest e) (r.Guest reply) is s = let d = rw is at s in (ap (λ (x : LiveSeen). x.phase) d.rest, ap (λ (x : LiveSeen). x.out) d.rest)
failed_on old new Begin reply is s = let d = rw is at s in (ap (λ (x : LiveSeen). x.phase) d.1, ap (λ (x : LiveSeen). x.out) d.1)
failed_on old new Copy reply is s = let d = rw is at s in (ap (λ (x : LiveSeen). x.phase) d.1, ap (λ (x : LiveSeen). x.out) d.1)
failed_on old new EndRound reply is s = let d = rw is at s in (ap (λ (x : LiveSeen). x.phase) d.1, ap (λ (x : LiveSeen). x.out) d.1)
failed_on old new Stop reply is s = let d = rw is at s in (ap (λ (x : LiveSeen). x.phase) d.1, ap (λ (x : LiveSeen). x.out) d.1)
failed_on old new (Guest e) _ is s = let d = rw is at s in absurd d
