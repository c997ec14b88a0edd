-- The log of the pages that calls write.
use Rattle.std.proofs.Common.{◌≡◌, ◌<◌, ◌≤◌, ◌*◌, ◌/◌, ◌%◌, max, min, ℕ, Bool, true, false, List, [], ◌∷◌, refl, sym, ap, ◌∙◌, subst, arith, length, replicate, take}
use Rattle.std.specs.Prelude.{Option, Some, None, MatchOption, if◌then◌else◌, slice_set}
use Rattle.std.proofs.lemmas.List.{length-set, length-replicate}
use Rattle.guestmem.specs.Item.{Item, after_all, page, sector}
use Rattle.guestmem.specs.Maybe.{after_if, may_if}
use Rattle.machine.specs.Applied.{IsApplied, IsAppliedLogged, MayItems}
use Rattle.machine.specs.AppliedLaws.{RefusedChangesNothing}
use Rattle.machine.specs.Effect.{items_of}
use Rattle.machine.specs.PageLog.{AreHandedOut, HandsOut, may_note, noted}
use Rattle.blk.specs.Sectors.{Sector}
use Rattle.machine.specs.First.{made_machine}
use Rattle.machine.specs.Seen.{Seen, state_of}
use Rattle.machine.specs.declared.shape.Shape.{Shape}
use Rattle.machine.specs.StepLaws.{IsRefusal}
use Rattle.machine.specs.State.{MachineState}
use Rattle.machine.specs.declared.event.Event.{Event}
use Rattle.machine.specs.declared.reply.Reply.{Reply}
use Rattle.sender.specs.Calls.{Does, Serves}
use Rattle.sender.specs.LiveState.{LiveSeen, refusal_for}
use Rattle.sender.specs.Logged.{GuestsLogged, ServesLogged}
use Rattle.sender.specs.declared.event.LiveEvent.TheVariants.{Guest}
use Rattle.sender.specs.declared.event.LiveReply.{LiveReply}
use Rattle.sender.specs.declared.event.LiveReply.TheVariants as live
use Rattle.sender.specs.declared.mig_error.MigError.{MigError}
use Rattle.c_machine.proofs.Plain.{is_refusal}
use Rattle.c_machine.specs.Made.{asks_log, first_ram, limits_for, ram_bytes, setup_refusal_of}
use Rattle.c_machine.specs.declared.setup.Setup.{Setup}
use Rattle.c_handle.proofs.Allowing.{asked_ram, first_long}
use Rattle.c_handle.specs.Made.{places_of}
use Rattle.c_handle.specs.SendStatus.{live_status}
use Rattle.c_handle.specs.HandedOut.{HandsFrom, HandsIf}
use Rattle.c_handle.specs.Kept.{FitsLog, first_log}

-- The log that is asked for.
pub asked : (flags places : ℕ) (log : List Bool) → asks_log flags ≡ true → log ≡ replicate places false → ◌≡◌ {A = Option (List Bool)} (Some log) (first_log flags places)
asked flags places log asks is = rw asks (ap Some is)

pub unasked : (flags places : ℕ) → asks_log flags ≡ false → ◌≡◌ {A = Option (List Bool)} None (first_log flags places)
unasked flags places asks = rw asks refl

-- It has so many places.
fits_by : (asks : Bool) (places bytes : ℕ) → bytes ≤ 4096 * places → FitsLog (if asks then Some (replicate places false) else None) bytes
fits_by true places bytes few = let long : length (replicate places false) ≡ places = length-replicate places false in omega (arith, few, long)
fits_by false places bytes few = tt

pub first_fits : (flags places : ℕ) (log : Option (List Bool)) → log ≡ first_log flags places → FitsLog log (4096 * places)
first_fits flags places log is = subst (λ (l : Option (List Bool)). FitsLog l (4096 * places)) (sym is) (fits_by (asks_log flags) places (4096 * places) (omega arith))

-- A machine that is made has no more pages than its log has places.
few_places : (bytes pages most : ℕ) → bytes % 4096 ≡ 0 → bytes / 4096 ≤ most → bytes ≤ 4096 * max (min (bytes / 4096) most) pages
few_places bytes pages most whole few = omega (arith, whole, few)

pub made_fits : (s : Setup) (m : Seen) (places : ℕ) (log : Option (List Bool)) (shapes : List Shape) (disks : List (List Sector)) → log ≡ first_log s.flags places → setup_refusal_of s ≡ None → places ≡ places_of s
    → state_of m ≡ made_machine s.base (first_ram s.pages s.ram) shapes disks → FitsLog log (length m.memory.bytes)
made_fits s m places log shapes disks is fine are first =
    let asked = asked_ram s fine in
    let long : length m.memory.bytes ≡ ram_bytes s.pages (length s.ram.content) = ap (λ (k : MachineState). length k.ram) first ∙ first_long s.pages s.ram in
    let few : length m.memory.bytes ≤ 4096 * places = rw (are, long) (few_places (ram_bytes s.pages (length s.ram.content)) 16384 (limits_for s.flags).pages asked.0 asked.1) in
    subst (λ (l : Option (List Bool)). FitsLog l (length m.memory.bytes)) (sym is) (fits_by (asks_log s.flags) places (length m.memory.bytes) few)

-- It has a place for each page of a machine.
pub may_all : (log : Option (List Bool)) (m : MachineState) → FitsLog log (length m.ram) → MayItems (may_if may_note) log m
may_all None m fits i has = tt
may_all (Some pages) m fits (page n) has = omega (arith, fits, has)
may_all (Some pages) m fits (sector dev n) has = tt

-- So it is after it was told.
noted_fits : (pages : List Bool) (items : List Item) → length (after_all noted pages items) ≡ length pages
noted_fits pages [] = refl
noted_fits pages (page n ∷ items) = noted_fits (slice_set pages n true) items ∙ length-set pages n true
noted_fits pages (sector dev n ∷ items) = noted_fits pages items

told_some : (pages : List Bool) (items : List Item) → after_all (after_if noted) (Some pages) items ≡ Some (after_all noted pages items)
told_some pages [] = refl
told_some pages (i ∷ items) = told_some (noted pages i) items

told_none : (items : List Item) → ◌≡◌ {A = Option (List Bool)} None (after_all (after_if noted) None items)
told_none [] = refl
told_none (i ∷ items) = told_none items

told_fits : (log new_log : Option (List Bool)) (items : List Item) (bytes size : ℕ) → FitsLog log bytes → size ≡ bytes → new_log ≡ after_all (after_if noted) log items → FitsLog new_log size
told_fits None new_log items bytes size fits same is = subst (λ (l : Option (List Bool)). FitsLog l size) (told_none items ∙ sym is) tt
told_fits (Some pages) new_log items bytes size fits same is =
    let long : length (after_all noted pages items) ≡ length pages = noted_fits pages items in
    let few : size ≤ 4096 * length (after_all noted pages items) = omega (arith, long, same, fits) in
    subst (λ (l : Option (List Bool)). FitsLog l size) (sym (is ∙ told_some pages items)) few

pub applied_fits : (m next : Seen) (log new_log : Option (List Bool)) (e : Event) (reply : Reply) → FitsLog log (length m.memory.bytes) → IsAppliedLogged (after_if noted) m log e reply next new_log → FitsLog new_log (length next.memory.bytes)
applied_fits m next log new_log e reply fits a = told_fits log new_log (items_of a.is_applied.effect) (length m.memory.bytes) (length next.memory.bytes) fits a.is_applied.shape.ram a.logged

served_fits_by : (o : Option MigError) (l next : LiveSeen) (log new_log : Option (List Bool)) (e : Event) (reply : LiveReply) → FitsLog log (length l.machine.memory.bytes)
    → MatchOption o (GuestsLogged (after_if noted) l log e reply next new_log) (λ x. (reply ≡ live.Mig x) × (next ≡ l) × (new_log ≡ log)) → FitsLog new_log (length next.machine.memory.bytes)
served_fits_by None l next log new_log e (live.Guest reply) fits s = told_fits log new_log (items_of s.guest.is_applied.effect) (length l.machine.memory.bytes) (length next.machine.memory.bytes) fits s.guest.is_applied.shape.ram s.logged
served_fits_by None l next log new_log e (live.Begun k) fits s = absurd s
served_fits_by None l next log new_log e (live.Copied item) fits s = absurd s
served_fits_by None l next log new_log e live.RoundDone fits s = absurd s
served_fits_by None l next log new_log e live.RoundOpen fits s = absurd s
served_fits_by None l next log new_log e (live.Stopped pages sectors) fits s = absurd s
served_fits_by None l next log new_log e (live.Mig x) fits s = absurd s
served_fits_by (Some x) l next log new_log e reply fits s = rw (s.1, s.2) fits

pub served_fits : (l next : LiveSeen) (log new_log : Option (List Bool)) (e : Event) (reply : LiveReply) → FitsLog log (length l.machine.memory.bytes) → ServesLogged (after_if noted) l log e reply next new_log → FitsLog new_log (length next.machine.memory.bytes)
served_fits l next log new_log e reply fits s = served_fits_by (refusal_for l.phase (Guest e)) l next log new_log e reply fits s

-- What is served with a log is served.
served_by : (o : Option MigError) (l next : LiveSeen) (log new_log : Option (List Bool)) (e : Event) (reply : LiveReply) → MatchOption o (GuestsLogged (after_if noted) l log e reply next new_log) (λ x. (reply ≡ live.Mig x) × (next ≡ l) × (new_log ≡ log))
    → MatchOption o (Does l (Guest e) reply next) (λ x. (reply ≡ live.Mig x) × (next ≡ l))
served_by None l next log new_log e (live.Guest reply) s = s.guest
served_by None l next log new_log e (live.Begun k) s = absurd s
served_by None l next log new_log e (live.Copied item) s = absurd s
served_by None l next log new_log e live.RoundDone s = absurd s
served_by None l next log new_log e live.RoundOpen s = absurd s
served_by None l next log new_log e (live.Stopped pages sectors) s = absurd s
served_by None l next log new_log e (live.Mig x) s = absurd s
served_by (Some x) l next log new_log e reply s = (s.0, s.1)

pub logged_is_served : (l next : LiveSeen) (log new_log : Option (List Bool)) (e : Event) (reply : LiveReply) → ServesLogged (after_if noted) l log e reply next new_log → Serves l (Guest e) reply next
logged_is_served l next log new_log e reply s = served_by (refusal_for l.phase (Guest e)) l next log new_log e reply s

-- Where there is none, none is kept.
pub none_kept : (m next : Seen) (log : Option (List Bool)) (e : Event) (reply : Reply) → log ≡ None → IsApplied m e reply next → IsAppliedLogged (after_if noted) m log e reply next log
none_kept m next log e reply none applied = record { is_applied = applied; logged = rw none (told_none (items_of applied.effect)) }

none_served_by : (o : Option MigError) (l next : LiveSeen) (log : Option (List Bool)) (e : Event) (reply : LiveReply) → log ≡ None → MatchOption o (Does l (Guest e) reply next) (λ x. (reply ≡ live.Mig x) × (next ≡ l))
    → MatchOption o (GuestsLogged (after_if noted) l log e reply next log) (λ x. (reply ≡ live.Mig x) × (next ≡ l) × (log ≡ log))
none_served_by None l next log e (live.Guest reply) none does = record { guest = does; logged = rw none (told_none (items_of does.is_applied.effect)) }
none_served_by None l next log e (live.Begun k) none does = absurd does
none_served_by None l next log e (live.Copied item) none does = absurd does
none_served_by None l next log e live.RoundDone none does = absurd does
none_served_by None l next log e live.RoundOpen none does = absurd does
none_served_by None l next log e (live.Stopped pages sectors) none does = absurd does
none_served_by None l next log e (live.Mig x) none does = absurd does
none_served_by (Some x) l next log e reply none does = (does.0, does.1, refl)

pub none_served : (l next : LiveSeen) (log : Option (List Bool)) (e : Event) (reply : LiveReply) → log ≡ None → Serves l (Guest e) reply next → ServesLogged (after_if noted) l log e reply next log
none_served l next log e reply none serves = none_served_by (refusal_for l.phase (Guest e)) l next log e reply none serves

-- Of what is refused a log is told nothing.
pub quiet_log : (m next : Seen) (log new_log : Option (List Bool)) (e : Event) (reply : Reply) → RefusedChangesNothing → IsAppliedLogged (after_if noted) m log e reply next new_log → IsRefusal reply → new_log ≡ log
quiet_log m next log new_log e reply law a is = a.logged ∙ ap (after_all (after_if noted) log) (law m next e reply a.is_applied is).1

quiet_log_by : (o : Option MigError) (l next : LiveSeen) (log new_log : Option (List Bool)) (e : Event) (reply : LiveReply) → RefusedChangesNothing → 1 ≤ live_status reply → live_status reply < 64
    → MatchOption o (GuestsLogged (after_if noted) l log e reply next new_log) (λ x. (reply ≡ live.Mig x) × (next ≡ l) × (new_log ≡ log)) → new_log ≡ log
quiet_log_by None l next log new_log e (live.Guest reply) law some few s =
    s.logged ∙ ap (after_all (after_if noted) log) (law l.machine next.machine e reply s.guest.is_applied (is_refusal reply some few)).1
quiet_log_by None l next log new_log e (live.Begun k) law some few s = absurd s
quiet_log_by None l next log new_log e (live.Copied item) law some few s = absurd s
quiet_log_by None l next log new_log e live.RoundDone law some few s = absurd s
quiet_log_by None l next log new_log e live.RoundOpen law some few s = absurd s
quiet_log_by None l next log new_log e (live.Stopped pages sectors) law some few s = absurd s
quiet_log_by None l next log new_log e (live.Mig x) law some few s = absurd s
quiet_log_by (Some x) l next log new_log e reply law some few s = s.2

pub quiet_log_live : (l next : LiveSeen) (log new_log : Option (List Bool)) (e : Event) (reply : LiveReply) → RefusedChangesNothing → 1 ≤ live_status reply → live_status reply < 64 → ServesLogged (after_if noted) l log e reply next new_log → new_log ≡ log
quiet_log_live l next log new_log e reply law some few s = quiet_log_by (refusal_for l.phase (Guest e)) l next log new_log e reply law some few s

-- Pages that are handed out leave their places.
handed_long : (pages left : List Bool) (ns : List ℕ) → AreHandedOut pages ns left → length left ≡ length pages
handed_long pages left [] handed = ap length handed
handed_long pages left (n ∷ ns) handed = handed_long (slice_set pages n false) left ns handed.1 ∙ length-set pages n false

pub still_fits : (log : Option (List Bool)) (pages left : List Bool) (out new_out : List ℕ) (count bytes : ℕ) → FitsLog log bytes → log ≡ Some pages → HandsOut pages out count new_out left → FitsLog (Some left) bytes
still_fits log pages left out new_out count bytes fits is hands =
    let few : bytes ≤ 4096 * length pages = subst (λ (l : Option (List Bool)). FitsLog l bytes) is fits in
    let long : length left ≡ length pages = handed_long pages left (take count new_out) hands.handed in
    omega (arith, few, long)

-- By whether a machine is here, and whether it keeps a log.
pub handed : (log : Option (List Bool)) (pages left : List Bool) (out new_out : List ℕ) (count before : ℕ) → log ≡ Some pages → HandsOut pages out count new_out left → HandsFrom log 0 out new_out count before (Some left)
handed log pages left out new_out count before is hands = rw is (record { rest = left; hands = hands; status_is = refl; left_is = refl })

pub not_handed : (log : Option (List Bool)) (out : List ℕ) (count : ℕ) → log ≡ None → HandsFrom log 27 out out count count log
not_handed log out count is = rw is ((refl, refl, refl), refl)

pub here : (is : Bool) (log left : Option (List Bool)) (status : ℕ) (out new_out : List ℕ) (count before : ℕ) → is ≡ true → HandsFrom log status out new_out count before left → HandsIf is log status out new_out count before left
here is log left status out new_out count before so hands = rw so hands

pub away : (is : Bool) (log : Option (List Bool)) (out : List ℕ) (count : ℕ) → is ≡ false → HandsIf is log 8 out out count count log
away is log out count so = rw so ((refl, refl, refl), refl)
