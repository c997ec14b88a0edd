-- A reply that tells of a failed disk names one that is not steady, and steady disks stay so.
use Rattle.std.proofs.Common.{◌≡◌, ℕ, zero, suc, List, [], ◌∷◌, ◌++◌, length, Bool, true, false, cond, refl, ap, sym, ◌∙◌, subst, inl, inr, arith}
use Rattle.machine.specs.Applied.{FailsOnlyUnsteady, marks_after}
use Rattle.machine.specs.Outcome.{is_failure}
use Rattle.machine.specs.Seen.{Marks, all_marks, failed_at, marks_at}
use Rattle.machine.specs.declared.event.Event.{Event}
use Rattle.machine.specs.declared.event.Event.TheVariants as events
use Rattle.machine.specs.declared.reply.Reply.{Reply}
use Rattle.sender.specs.Calls.{AfterBegin, AfterCopy, AfterRound, AfterStop, Does, Guests, IsUnread, Serves}
use Rattle.sender.specs.LiveState.{LiveSeen, refusal_for}
use Rattle.sender.specs.Ran.{AllNameUnsteady, GuestNames, MigNames, NamesUnsteady}
use Rattle.sender.specs.declared.event.LiveEvent.{LiveEvent}
use Rattle.sender.specs.declared.event.LiveEvent.TheVariants.{Guest, Begin, Copy, EndRound, Stop}
use Rattle.sender.specs.declared.event.LiveReply.{LiveReply}
use Rattle.sender.specs.declared.event.LiveReply.TheVariants as r
use Rattle.sender.specs.declared.mig_error.MigError.{MigError}
use Rattle.sender.specs.declared.mig_error.MigError.TheVariants as errors
use Rattle.sender.proofs.Following.{NamesNone, no_disk}
use Rattle.sender.proofs.Fresh.{told}

-- The same disks are steady.
unfoldable pub AreAlike : List Marks → List Marks → Type 0
AreAlike old new = (dev : ℕ) → (marks_at new dev).steady ≡ (marks_at old dev).steady

fails_alike : (marks : List Marks) (d : ℕ) → AreAlike marks (failed_at marks d)
unfolding AreAlike
fails_alike [] d dev = refl
fails_alike (m ∷ ms) zero zero = refl
fails_alike (m ∷ ms) zero (suc dev) = refl
fails_alike (m ∷ ms) (suc d) zero = refl
fails_alike (m ∷ ms) (suc d) (suc dev) = fails_alike ms d dev

maybe_alike : (marks : List Marks) (d : ℕ) (b : Bool) → AreAlike marks (cond b (failed_at marks d) marks)
unfolding AreAlike
maybe_alike marks d true = fails_alike marks d
maybe_alike marks d false = λ dev. refl

guest_alike : (marks : List Marks) (e : Event) (reply : Reply) → AreAlike marks (marks_after marks e reply)
unfolding AreAlike
guest_alike marks (events.Step dev pick) reply = maybe_alike marks dev (is_failure reply)
guest_alike marks (events.RegRead dev off width) reply = λ dev. refl
guest_alike marks (events.RegWrite dev off width value) reply = λ dev. refl
guest_alike marks (events.MemRead addr len) reply = λ dev. refl
guest_alike marks (events.MemWrite addr bytes) reply = λ dev. refl
guest_alike marks (events.Input dev bytes) reply = λ dev. refl
guest_alike marks (events.Resize dev cols rows) reply = λ dev. refl
guest_alike marks (events.Drop dev) reply = λ dev. refl
guest_alike marks (events.Disk dev pick given) reply = λ dev. refl

-- What one entry leaves of the marks, and whom it names.
pub record Keeps (old : LiveSeen) (e : LiveEvent) (reply : LiveReply) (new : LiveSeen) : Type 0 where
  pub alike : AreAlike (all_marks old.machine) (all_marks new.machine)
  pub names : NamesUnsteady (all_marks old.machine) e reply

same_alike : (old new : LiveSeen) → all_marks new.machine ≡ all_marks old.machine → AreAlike (all_marks old.machine) (all_marks new.machine)
unfolding AreAlike
same_alike old new same = λ dev. ap (λ (marks : List Marks). (marks_at marks dev).steady) same

unread_keeps : (old new : LiveSeen) (e : LiveEvent) (dev n : ℕ) → IsUnread old dev n new → NamesUnsteady (all_marks old.machine) e (r.Mig (errors.DiskFailed dev n)) → Keeps old e (r.Mig (errors.DiskFailed dev n)) new
unread_keeps old new e dev n u names = record { alike = rw u.marks (fails_alike (all_marks old.machine) dev); names = names }

guest_keeps : (old new : LiveSeen) (e : Event) (reply : LiveReply) → Guests old e reply new → Keeps old (Guest e) reply new
guest_keeps old new e (r.Guest reply) d = record { alike = rw d.is_applied.marks (guest_alike (all_marks old.machine) e reply); names = d.is_applied.unsteady }
guest_keeps old new e _ d = absurd d

begin_keeps : (old new : LiveSeen) (reply : LiveReply) → AfterBegin old reply new → Keeps old Begin reply new
begin_keeps old new (r.Begun k) d = record { alike = same_alike old new (ap all_marks d.1.machine); names = tt }
begin_keeps old new (r.Mig errors.StreamFailed) d = record { alike = same_alike old new d.machine.marks; names = tt }
begin_keeps old new _ d = absurd d

copy_keeps : (old new : LiveSeen) (reply : LiveReply) → AfterCopy old reply new → Keeps old Copy reply new
copy_keeps old new (r.Copied item) d = record { alike = same_alike old new d.sent.machine.marks; names = tt }
copy_keeps old new r.RoundDone d = record { alike = same_alike old new (ap (λ (x : LiveSeen). all_marks x.machine) d.1); names = tt }
copy_keeps old new (r.Mig (errors.DiskFailed dev n)) d = unread_keeps old new Copy dev n d.unread d.unread.unsteady
copy_keeps old new (r.Mig errors.StreamFailed) d = record { alike = same_alike old new d.machine.marks; names = tt }
copy_keeps old new _ d = absurd d

round_keeps : (old new : LiveSeen) (reply : LiveReply) → AfterRound old reply new → Keeps old EndRound reply new
round_keeps old new (r.Begun k) d = record { alike = same_alike old new (ap all_marks d.1.machine); names = tt }
round_keeps old new r.RoundOpen d = record { alike = same_alike old new (ap (λ (x : LiveSeen). all_marks x.machine) d.1); names = tt }
round_keeps old new (r.Mig errors.StreamFailed) d = record { alike = same_alike old new d.machine.marks; names = tt }
round_keeps old new _ d = absurd d

stop_keeps : (old new : LiveSeen) (reply : LiveReply) → AfterStop old reply new → Keeps old Stop reply new
stop_keeps old new (r.Stopped pages sectors) d = record { alike = same_alike old new d.machine.marks; names = tt }
stop_keeps old new (r.Mig (errors.DiskFailed dev n)) d =
    let same : all_marks d.between.machine ≡ all_marks old.machine = d.are_sent.machine.marks in
    record {
      alike = rw (d.unread.marks, same) (fails_alike (all_marks old.machine) dev);
      names = subst (λ (marks : List Marks). (marks_at marks dev).steady ≡ false) same d.unread.unsteady;
    }
stop_keeps old new (r.Mig errors.StreamFailed) d = record { alike = same_alike old new d.machine.marks; names = tt }
stop_keeps old new _ d = absurd d

does_keeps : (old new : LiveSeen) (e : LiveEvent) (reply : LiveReply) → Does old e reply new → Keeps old e reply new
does_keeps old new (Guest e) reply d = guest_keeps old new e reply d
does_keeps old new Begin reply d = begin_keeps old new reply d
does_keeps old new Copy reply d = copy_keeps old new reply d
does_keeps old new EndRound reply d = round_keeps old new reply d
does_keeps old new Stop reply d = stop_keeps old new reply d

no_name : (marks : List Marks) (x : MigError) → NamesNone x → MigNames marks x
no_name marks (errors.DiskFailed dev n) none = absurd none
no_name marks _ none = tt

pub keeps : (old new : LiveSeen) (e : LiveEvent) (reply : LiveReply) → Serves old e reply new → Keeps old e reply new
keeps old new e reply s = elim (told (refusal_for old.phase e) (Does old e reply new) (λ x. (reply ≡ r.Mig x) × (new ≡ old)) s) as (λ _. Keeps old e reply new) [
  | inl a ↦ does_keeps old new e reply a.1
  | inr b ↦ record { alike = same_alike old new (ap (λ (x : LiveSeen). all_marks x.machine) b.2.1); names = rw b.2.0 (no_name (all_marks old.machine) b.0 (no_disk old.phase e b.0 b.1)) }
]

alike_mig : (old now : List Marks) (x : MigError) → AreAlike old now → MigNames now x → MigNames old x
unfolding AreAlike
alike_mig old now (errors.DiskFailed dev n) same names = sym (same dev) ∙ names
alike_mig old now _ same names = tt

alike_step : (old now : List Marks) (e : Event) (reply : Reply) → AreAlike old now → FailsOnlyUnsteady now e reply → FailsOnlyUnsteady old e reply
unfolding AreAlike
alike_step old now (events.Step dev pick) reply same names = λ failed. sym (same dev) ∙ names failed
alike_step old now _ reply same names = tt

alike_guest : (old now : List Marks) (e : LiveEvent) (reply : Reply) → AreAlike old now → GuestNames now e reply → GuestNames old e reply
alike_guest old now (Guest e) reply same names = alike_step old now e reply same names
alike_guest old now _ reply same names = tt

alike_names : (old now : List Marks) (e : LiveEvent) (reply : LiveReply) → AreAlike old now → NamesUnsteady now e reply → NamesUnsteady old e reply
alike_names old now e (r.Guest reply) same names = alike_guest old now e reply same names
alike_names old now e (r.Mig x) same names = alike_mig old now x same names
alike_names old now e _ same names = tt

names_more : (marks : List Marks) (es : List LiveEvent) (replies : List LiveReply) (e : LiveEvent) (reply : LiveReply) → length replies ≡ length es → AllNameUnsteady marks es replies → NamesUnsteady marks e reply → AllNameUnsteady marks (es ++ e ∷ []) (replies ++ reply ∷ [])
names_more marks [] [] e reply even so_far last = (last, tt)
names_more marks [] (s ∷ rs) e reply even so_far last = absurd (omega (arith, even))
names_more marks (f ∷ es) [] e reply even so_far last = absurd (omega (arith, even))
names_more marks (f ∷ es) (s ∷ rs) e reply even so_far last = (so_far.0, names_more marks es rs e reply (omega (arith, even)) so_far.1 last)

-- One more event.
pub keeps_on : (first : List Marks) (old new : LiveSeen) (es : List LiveEvent) (replies : List LiveReply) (e : LiveEvent) (reply : LiveReply) → length replies ≡ length es → AreAlike first (all_marks old.machine) → AllNameUnsteady first es replies → Serves old e reply new
    → AreAlike first (all_marks new.machine) × AllNameUnsteady first (es ++ e ∷ []) (replies ++ reply ∷ [])
unfolding AreAlike
keeps_on first old new es replies e reply even same so_far s =
    let k = keeps old new e reply s in
    (λ dev. k.alike dev ∙ same dev, names_more first es replies e reply even so_far (alike_names first (all_marks old.machine) e reply same k.names))

pub alike_first : (marks : List Marks) → AreAlike marks marks
unfolding AreAlike
alike_first marks = λ dev. refl

pub no_replies : (marks : List Marks) (es : List LiveEvent) → AllNameUnsteady marks es []
no_replies marks [] = tt
no_replies marks (e ∷ es) = tt
