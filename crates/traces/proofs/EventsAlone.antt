-- How far the lines of events alone are read.
use Rattle.std.proofs.Common.{◌≡◌, ℕ, ◌+◌, ◌<◌, List, [], ◌∷◌, ◌++◌, length, map, take, Option, Some, None, refl, ap, sym, ◌∙◌, append_assoc}
use Rattle.std.proofs.lemmas.List.{append-nil, map-append}
use Rattle.machine.specs.declared.event.Event.{Event}
use Rattle.sender.specs.declared.event.LiveEvent.TheVariants.{Guest, Begin, Copy, EndRound, Stop}
use Rattle.traces.specs.declared.line.Line.{Line}
use Rattle.traces.specs.declared.line.Line.TheVariants.{Skip, Ram, Device, Act}
use Rattle.traces.specs.Numbers.{◌>>=◌}
use Rattle.traces.specs.Line.{line_says}
use Rattle.traces.specs.Trace.{onto, lines_say, guest_line, AreEvents, AreSomeEvents, AreBeginning}
use Rattle.traces.specs.Reading.{with_event, after_event}
use Rattle.traces.proofs.Progress.{IsPlace, first_place, parts, next_place}
use Rattle.traces.proofs.Whole.{say_both}

-- n of the lines are these events, and the rest is left
pub record AreRead (lines : List (List ℕ)) (n : ℕ) (events : List Event) (rest : List (List ℕ)) : Type 0 where
  pub done : AreEvents (take n lines) events
  pub place : IsPlace lines n rest

pub none_read : (lines : List (List ℕ)) (events : List Event) → events ≡ [] → AreRead lines 0 events lines
unfolding lines_say
none_read lines events e = record { done = rw e refl; place = first_place lines }

kept : (events more : List Event) (line : Line) → with_event events line ≡ Some more → map guest_line events ++ onto line [] ≡ map guest_line more
kept events more Skip e = let same : events ≡ more = cc in rw same (append-nil (map guest_line more))
kept events more (Ram pages) e = cc
kept events more (Device shape) e = cc
kept events more (Act (Guest event)) e = let same : events ++ event ∷ [] ≡ more = cc in rw (← same) (sym (map-append guest_line events (event ∷ [])))
kept events more (Act Begin) e = cc
kept events more (Act Copy) e = cc
kept events more (Act EndRound) e = cc
kept events more (Act Stop) e = cc

one_more : (lines : List (List ℕ)) (line : List ℕ) (events more : List Event) → AreEvents lines events → after_event events line ≡ Some more → AreEvents (lines ++ line ∷ []) more
unfolding lines_say
one_more lines line events more h e =
    elim (line_says line) as (λ (o : Option Line). line_says line ≡ o → (o >>= with_event events) ≡ Some more → AreEvents (lines ++ line ∷ []) more) [
      | None ↦ λ is e. cc
      | Some said ↦ λ is e.
          let one : lines_say (line ∷ []) ≡ Some (onto said []) = rw is refl in
          say_both lines (line ∷ []) (map guest_line events) (onto said []) h one ∙ ap (λ (xs : List Line). Some xs) (kept events more said e)
    ] refl e

pub next_events : {lines : List (List ℕ)} {n : ℕ} {events : List Event} {rest : List (List ℕ)} (line : List ℕ) (left : List (List ℕ)) (more : List Event) → AreRead lines n events rest → rest ≡ line ∷ left
    → after_event events line ≡ Some more → AreRead lines (n + 1) more left
next_events {lines} {n} {events} line left more at is next =
    let p = parts line left at.place is in
    record { done = rw p.1 (one_more (take n lines) line events more at.done next); place = next_place line left at.place is }

-- A line that says no event of the guest stands among no events.
never : (line : Line) → ((event : Event) → line ≡ guest_line event → ⊥) → (xs ys : List Event) (behind : List Line) → map guest_line xs ++ line ∷ behind ≡ map guest_line ys → ⊥
never line other [] [] behind e = cc
never line other [] (y ∷ ys) behind e = other y cc
never line other (x ∷ xs) [] behind e = cc
never line other (x ∷ xs) (y ∷ ys) behind e = never line other xs ys behind cc

other_line : (line : Line) (events : List Event) → with_event events line ≡ None → (xs ys : List Event) (behind : List Line) → map guest_line xs ++ onto line behind ≡ map guest_line ys → ⊥
other_line Skip events e xs ys behind h = cc
other_line (Ram pages) events e xs ys behind h = never (Ram pages) (λ event same. cc) xs ys behind h
other_line (Device shape) events e xs ys behind h = never (Device shape) (λ event same. cc) xs ys behind h
other_line (Act (Guest event)) events e xs ys behind h = cc
other_line (Act Begin) events e xs ys behind h = never (Act Begin) (λ event same. cc) xs ys behind h
other_line (Act Copy) events e xs ys behind h = never (Act Copy) (λ event same. cc) xs ys behind h
other_line (Act EndRound) events e xs ys behind h = never (Act EndRound) (λ event same. cc) xs ys behind h
other_line (Act Stop) events e xs ys behind h = never (Act Stop) (λ event same. cc) xs ys behind h

say_none : (xs ys : List (List ℕ)) → lines_say ys ≡ None → lines_say (xs ++ ys) ≡ None
unfolding lines_say
say_none [] ys e = e
say_none (x ∷ xs) ys e = rw (say_none xs ys e) (elim (line_says x) as (λ (o : Option Line). (o >>= λ line. None >>= λ others. Some (onto line others)) ≡ None) [
  | None ↦ refl
  | Some line ↦ refl
])

none_more : (lines others : List (List ℕ)) (line : List ℕ) (events ys : List Event) → AreEvents lines events → after_event events line ≡ None → AreEvents (lines ++ line ∷ others) ys → ⊥
unfolding lines_say
none_more lines others line events ys h e all =
    elim (line_says line) as (λ (o : Option Line). line_says line ≡ o → (o >>= with_event events) ≡ None → ⊥) [
      | None ↦ λ is e.
          let none : lines_say (line ∷ others) ≡ None = rw is refl in
          let stuck = say_none lines (line ∷ others) none in
          cc
      | Some said ↦ λ is e. elim (lines_say others) as (λ (o : Option (List Line)). lines_say others ≡ o → ⊥) [
        | None ↦ λ rest.
            let none : lines_say (line ∷ others) ≡ None = rw (is, rest) refl in
            let stuck = say_none lines (line ∷ others) none in
            cc
        | Some behind ↦ λ rest.
            let some : lines_say (line ∷ others) ≡ Some (onto said behind) = rw (is, rest) refl in
            let both = say_both lines (line ∷ others) (map guest_line events) (onto said behind) h some in
            let same : map guest_line events ++ onto said behind ≡ map guest_line ys = cc in
            other_line said events e events ys behind same
      ] refl
    ] refl e

pub bad_event : {lines : List (List ℕ)} {n : ℕ} {events : List Event} {rest : List (List ℕ)} (line : List ℕ) (left : List (List ℕ)) → AreRead lines n events rest → rest ≡ line ∷ left
    → after_event events line ≡ None → (n < length lines) × (AreBeginning AreSomeEvents (take (n + 1) lines) → ⊥)
bad_event {lines} {n} {events} line left at is next =
    let p = parts line left at.place is in
    (p.0, λ h. none_more (take n lines) h.others line events h.good.0 at.done next (rw (p.1, append_assoc (take n lines) (line ∷ []) h.others) at h.good.1))

pub begun : (lines : List (List ℕ)) (events : List Event) → AreEvents lines events → AreBeginning AreSomeEvents lines
begun lines events h = record { others = []; good = (events, rw append-nil h) }
