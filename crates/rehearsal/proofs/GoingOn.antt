-- Machines that play the events of the guest among a list.
use Rattle.std.proofs.Common.{◌≡◌, ℕ, ◌+◌, ◌<◌, ◌≤◌, List, [], ◌∷◌, ◌++◌, length, take, drop, get_or, map, refl, ap, sym, subst, ◌∙◌, arith, append_assoc, append-nil}
use Rattle.std.proofs.lemmas.List.{length-append, take_more}
use Rattle.machine.specs.Applied.{IsApplied}
use Rattle.machine.specs.Seen.{Seen, all_marks, state_of}
use Rattle.machine.specs.declared.event.Event.{Event}
use Rattle.machine.specs.declared.reply.Reply.{Reply}
use Rattle.machine.proofs.Failing.{honest_for, honest_stays, marks_more, unsteady_more}
use Rattle.machine.proofs.Honest.{honest_step}
use Rattle.machine.proofs.Running.{run_more}
use Rattle.sender.specs.declared.event.LiveEvent.{LiveEvent}
use Rattle.sender.specs.declared.event.LiveEvent.TheVariants.{Guest, Begin, Copy, EndRound, Stop}
use Rattle.sender.specs.declared.event.LiveReply.{LiveReply}
use Rattle.sender.specs.declared.event.LiveReply.TheVariants as r
use Rattle.receiver.proofs.Lists.{take_all}
use Rattle.rehearsal.specs.Rehearsing.{HasPlayed, PlaysOn, guests_of, remaining}

guests-append : (xs ys : List LiveEvent) → guests_of (xs ++ ys) ≡ guests_of xs ++ guests_of ys
guests-append [] ys = refl
guests-append (Guest e ∷ xs) ys = ap (λ (es : List Event). e ∷ es) (guests-append xs ys)
guests-append (Begin ∷ xs) ys = guests-append xs ys
guests-append (Copy ∷ xs) ys = guests-append xs ys
guests-append (EndRound ∷ xs) ys = guests-append xs ys
guests-append (Stop ∷ xs) ys = guests-append xs ys

-- One event more.
pub guests_more : (es : List LiveEvent) (i : ℕ) (e : LiveEvent) → i < length es → e ≡ get_or es i e → guests_of (take (i + 1) es) ≡ guests_of (take i es) ++ guests_of (e ∷ [])
guests_more es i e below is =
    let more : take (i + 1) es ≡ take i es ++ e ∷ [] = rw (take_more es i e below, ← is) refl in
    ap guests_of more ∙ guests-append (take i es) (e ∷ [])

pub one_guest : (es : List LiveEvent) (i : ℕ) (e : LiveEvent) (guest : Event) → i < length es → e ≡ get_or es i e → e ≡ Guest guest → guests_of (take (i + 1) es) ≡ guests_of (take i es) ++ guest ∷ []
one_guest es i e guest below is guests = guests_more es i e below is ∙ ap (λ (x : LiveEvent). guests_of (take i es) ++ guests_of (x ∷ [])) guests

pub no_guest : (es : List LiveEvent) (i : ℕ) (e : LiveEvent) → i < length es → e ≡ get_or es i e → guests_of (e ∷ []) ≡ [] → guests_of (take (i + 1) es) ≡ guests_of (take i es)
no_guest es i e below is none = guests_more es i e below is ∙ ap (λ (x : List Event). guests_of (take i es) ++ x) none ∙ append-nil (guests_of (take i es))

pub not_guest : (e : LiveEvent) → ((guest : Event) → ¬ (e ≡ Guest guest)) → guests_of (e ∷ []) ≡ []
not_guest (Guest guest) never = absurd (never guest refl)
not_guest Begin never = refl
not_guest Copy never = refl
not_guest EndRound never = refl
not_guest Stop never = refl

-- A machine that played nothing, and one step more.
pub played_none : (s : Seen) → HasPlayed s [] [] s
played_none s = record { each = refl; marks = refl; unsteady = tt; run = λ honest. refl }

pub played_more : (old now new : Seen) (es : List Event) (rs : List Reply) (e : Event) (reply : Reply) → HasPlayed old es rs now → IsApplied now e reply new → HasPlayed old (es ++ e ∷ []) (rs ++ reply ∷ []) new
played_more old now new es rs e reply p a = record {
  each = omega (arith, p.each, length-append rs (reply ∷ []), length-append es (e ∷ []));
  marks = marks_more (all_marks old) (all_marks now) es rs e reply p.each p.marks a.marks;
  unsteady = unsteady_more (all_marks old) (all_marks now) es rs e reply p.each p.marks p.unsteady a.unsteady;
  run = λ honest. run_more (state_of old) (state_of now) (state_of new) es rs e reply (p.run honest)
      (honest_step now new e reply a (honest_for (all_marks now) e (honest_stays (all_marks old) (all_marks now) es rs p.marks honest)));
}

pub goes_none : (s : Seen) (replies : List LiveReply) → PlaysOn s [] replies replies s
goes_none s replies = record { rest = []; are = sym (append-nil replies); played = played_none s }

map_more : (rs : List Reply) (reply : Reply) → map r.Guest (rs ++ reply ∷ []) ≡ map r.Guest rs ++ r.Guest reply ∷ []
map_more [] reply = refl
map_more (x ∷ rs) reply = ap (λ (l : List LiveReply). r.Guest x ∷ l) (map_more rs reply)

pub goes_more : (old now new : Seen) (es : List Event) (before after : List LiveReply) (e : Event) (reply : Reply) → PlaysOn old es before after now → IsApplied now e reply new → PlaysOn old (es ++ e ∷ []) before (after ++ r.Guest reply ∷ []) new
goes_more old now new es before after e reply g a = record {
  rest = g.rest ++ reply ∷ [];
  are = ap (λ (l : List LiveReply). l ++ r.Guest reply ∷ []) g.are ∙ append_assoc before (map r.Guest g.rest) (r.Guest reply ∷ []) ∙ ap (λ (l : List LiveReply). before ++ l) (sym (map_more g.rest reply));
  played = played_more old now new es g.rest e reply g.played a;
}

-- At the end.
pub behind : (events rest : List LiveEvent) (n m : ℕ) → rest ≡ drop n events → n ≡ m → rest ≡ drop m events
behind events rest n m is same = let P : ℕ → Type 0 = λ k. rest ≡ drop k events in subst P same is

pub gone_on : (at_stop source as_arrived arrived : Seen) (events rest : List LiveEvent) (i : ℕ) (before after : List LiveReply) (arrived_replies : List Reply) → rest ≡ drop (length before) events → length rest ≤ i
    → PlaysOn at_stop (guests_of (take i rest)) before after source → HasPlayed as_arrived (guests_of (take i rest)) arrived_replies arrived → PlaysOn at_stop (remaining events before) before after source × HasPlayed as_arrived (remaining events before) arrived_replies arrived
gone_on at_stop source as_arrived arrived events rest i before after arrived_replies is all goes played =
    let same : guests_of (take i rest) ≡ remaining events before = ap guests_of (take_all i rest all ∙ is) in
    let P : List Event → Type 0 = λ es. PlaysOn at_stop es before after source in
    let Q : List Event → Type 0 = λ es. HasPlayed as_arrived es arrived_replies arrived in
    (subst P same goes, subst Q same played)
