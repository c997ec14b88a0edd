-- What has been read so far, against the definition of a whole trace.
use Rattle.std.proofs.Common.{◌≡◌, ℕ, suc, ◌+◌, ◌<◌, ◌≤◌, ◌==◌, nat_lt, ◌&&◌, Bool, true, false, List, [], ◌∷◌, ◌++◌, length, map, Option, Some, None, refl, ap, sym, subst, ◌∙◌, arith, append_assoc, eqb-true, rules, codes}
use Rattle.std.proofs.lemmas.List.{append-nil, map-append, length-append}
use Rattle.std.proofs.lemmas.Option.{cond_some}
use borrow.Author.Tests.{ltb-true}
use Rattle.machine.specs.declared.shape.Shape.{Shape}
use Rattle.machine.specs.declared.shape.Shape.TheVariants.{Entropy}
use Rattle.sender.specs.declared.event.LiveEvent.{LiveEvent}
use Rattle.traces.specs.declared.line.Line.{Line}
use Rattle.traces.specs.declared.line.Line.TheVariants.{Skip, Ram, Device, Act}
use Rattle.traces.specs.Numbers.{◌>>=◌, number_of, digits_after}
use Rattle.traces.specs.Line.{line_says}
use Rattle.traces.specs.Trace.{Contents, onto, lines_say, begin_line_of, AreTrace, AreSomeTrace, AreBeginning}
use Rattle.traces.specs.Reading.{Said, nothing, with_line, after_line, after_lines, IsWhole}

abbrev pub part : Option ℕ → List Shape → List LiveEvent → Said
part pages shapes events = record { pages = pages; shapes = shapes; events = events }

-- the lines that say it
abbrev pub kept_ram : Option ℕ → List Line
kept_ram None = []
kept_ram (Some pages) = Ram pages ∷ []

abbrev pub kept : Said → List Line
kept said = kept_ram said.pages ++ map Device said.shapes ++ map Act said.events

-- what some lines, each where it may stand, can say
pub record IsPart (said : Said) : Type 0 where
  pub no_ram : said.pages ≡ None → said.shapes ≡ []
  pub no_device : said.shapes ≡ [] → said.events ≡ []
  pub few : length said.shapes ≤ 16

both : (a b : Bool) → a && b ≡ true → (a ≡ true) × (b ≡ true)
both true true h = (refl, refl)
both true false h = cc
both false b h = cc

empty : {A : Type 0} (xs : List A) → (length xs == 0) ≡ true → xs ≡ []
empty [] h = refl
empty (x ∷ xs) h = let e : suc (length xs) ≡ 0 = eqb-true _ _ h in absurd (omega arith)

not_empty : {A : Type 0} (xs : List A) → 0 < length xs → xs ≡ [] → ⊥
not_empty xs h e = let none : length xs ≡ 0 = ap length e in omega arith

-- one line more: it is kept behind the others
pub record Grows (said more : Said) (line : Line) : Type 0 where
  pub is_part : IsPart more
  pub added : kept more ≡ kept said ++ onto line []

device_last : (ram before after : List Line) (device : Line) → after ≡ before ++ device ∷ [] → ram ++ after ++ [] ≡ ram ++ before ++ [] ++ device ∷ []
device_last ram before after device e = rw (e, append-nil, append-nil, append_assoc) refl

event_last : (ram devices before after : List Line) (event : Line) → after ≡ before ++ event ∷ [] → ram ++ devices ++ after ≡ ram ++ devices ++ before ++ event ∷ []
event_last ram devices before after event e = rw e (sym (append_assoc (ram ++ devices) before (event ∷ [])))

grows_by_skip : (said : Said) → IsPart said → Grows said said Skip
grows_by_skip said h = record { is_part = h; added = sym (append-nil (kept said)) }

grows_by_ram : (pages : ℕ) (shapes : List Shape) (events : List LiveEvent) → IsPart (part None shapes events) → Grows (part None shapes events) (part (Some pages) shapes events) (Ram pages)
grows_by_ram pages shapes events h =
    let no_shapes : shapes ≡ [] = h.no_ram refl in
    let no_events : events ≡ [] = h.no_device no_shapes in
    record {
      is_part = record { no_ram = λ e. cc; no_device = h.no_device; few = h.few };
      added = rw (no_shapes, no_events) refl;
    }

grows_by_device : (pages : ℕ) (shapes : List Shape) (shape : Shape) → length shapes < 16
    → Grows (part (Some pages) shapes []) (part (Some pages) (shapes ++ shape ∷ []) []) (Device shape)
grows_by_device pages shapes shape few =
    record {
      is_part = record { no_ram = λ e. cc; no_device = λ e. refl; few = omega (arith, length-append shapes (shape ∷ [])) };
      added = device_last (Ram pages ∷ []) (map Device shapes) _ (Device shape) (map-append Device shapes (shape ∷ []));
    }

grows_by_event : (pages : Option ℕ) (shapes : List Shape) (events : List LiveEvent) (event : LiveEvent) → 0 < length shapes → IsPart (part pages shapes events)
    → Grows (part pages shapes events) (part pages shapes (events ++ event ∷ [])) (Act event)
grows_by_event pages shapes events event some h =
    record {
      is_part = record { no_ram = h.no_ram; no_device = λ e. absurd (not_empty shapes some e); few = h.few };
      added = event_last (kept_ram pages) (map Device shapes) (map Act events) _ (Act event) (map-append Act events (event ∷ []));
    }

one_grows : (pages : Option ℕ) (shapes : List Shape) (events : List LiveEvent) (line : Line) (more : Said) → IsPart (part pages shapes events)
    → with_line (part pages shapes events) line ≡ Some more → Grows (part pages shapes events) more line
one_grows pages shapes events Skip more h e = let same : part pages shapes events ≡ more = cc in subst (λ (s : Said). Grows (part pages shapes events) s Skip) same (grows_by_skip _ h)
one_grows None shapes events (Ram n) more h e =
    let same : part (Some n) shapes events ≡ more = cc in subst (λ (s : Said). Grows (part None shapes events) s (Ram n)) same (grows_by_ram n shapes events h)
one_grows (Some pages) shapes events (Ram n) more h e = cc
one_grows None shapes events (Device shape) more h e = cc
one_grows (Some pages) shapes events (Device shape) more h e =
    let took = cond_some ((length events == 0) && nat_lt (length shapes) 16) _ more e in
    let tests = both (length events == 0) (nat_lt (length shapes) 16) took.0 in
    let none : events ≡ [] = empty events tests.0 in
    let grown = grows_by_device pages shapes shape (ltb-true _ _ tests.1) in
    subst (λ (s : Said). Grows (part (Some pages) shapes events) s (Device shape)) took.1 (rw none grown)
one_grows pages shapes events (Act event) more h e =
    let took = cond_some (nat_lt 0 (length shapes)) _ more e in
    subst (λ (s : Said). Grows (part pages shapes events) s (Act event)) took.1 (grows_by_event pages shapes events event (ltb-true _ _ took.0) h)

-- all lines: what they say is kept
pub record GrowBy (said more : Said) (lines : List (List ℕ)) : Type 0 where
  pub is_part : IsPart more
  pub lines_said : List Line
  pub say : lines_say lines ≡ Some lines_said
  pub added : kept more ≡ kept said ++ lines_said

onto_is : (line : Line) (said : List Line) → onto line said ≡ onto line [] ++ said
onto_is Skip said = refl
onto_is (Ram pages) said = refl
onto_is (Device shape) said = refl
onto_is (Act event) said = refl

lines_grow : (said more : Said) (lines : List (List ℕ)) → IsPart said → after_lines said lines ≡ Some more → GrowBy said more lines
unfolding after_lines lines_say
lines_grow said more [] h e = let same : said ≡ more = cc in subst (λ (s : Said). GrowBy said s []) same (record { is_part = h; lines_said = []; say = refl; added = sym (append-nil (kept said)) })
lines_grow said more (first ∷ lines) h e =
    elim (line_says first) as (λ (o : Option Line). line_says first ≡ o → ((o >>= with_line said) >>= λ s. after_lines s lines) ≡ Some more → GrowBy said more (first ∷ lines)) [
      | None ↦ λ is e. cc
      | Some line ↦ λ is e. elim (with_line said line) as (λ (o : Option Said). with_line said line ≡ o → (o >>= λ s. after_lines s lines) ≡ Some more → GrowBy said more (first ∷ lines)) [
        | None ↦ λ here e. cc
        | Some next ↦ λ here e.
            let one = one_grows said.pages said.shapes said.events line next h here in
            let others = lines_grow next more lines one.is_part e in
            record {
              is_part = others.is_part;
              lines_said = onto line others.lines_said;
              say = rw (is, others.say) refl;
              added = others.added ∙ rw (one.added, onto_is line others.lines_said) (append_assoc (kept said) (onto line []) others.lines_said);
            }
      ] refl e
    ] refl e

-- The other way: what the lines say, one after another.
unfoldable run : Said → List Line → Option Said
run said [] = Some said
run said (line ∷ lines) = with_line said line >>= λ more. run more lines

run_onto : (said more : Said) (line : Line) (lines : List Line) → with_line said line ≡ Some more → run said (onto line lines) ≡ run more lines
unfolding run
run_onto said more Skip lines e = let same : said ≡ more = cc in rw same refl
run_onto said more (Ram pages) lines e = rw e refl
run_onto said more (Device shape) lines e = rw e refl
run_onto said more (Act event) lines e = rw e refl

run_onto_none : (said : Said) (line : Line) (lines : List Line) → with_line said line ≡ None → run said (onto line lines) ≡ None
unfolding run
run_onto_none said Skip lines e = cc
run_onto_none said (Ram pages) lines e = rw e refl
run_onto_none said (Device shape) lines e = rw e refl
run_onto_none said (Act event) lines e = rw e refl

runs : (said : Said) (lines : List (List ℕ)) (words : List Line) → lines_say lines ≡ Some words → after_lines said lines ≡ run said words
unfolding after_lines lines_say run
runs said [] words e = let same : [] ≡ words = cc in rw (← same) refl
runs said (first ∷ lines) words e =
    elim (line_says first) as (λ (o : Option Line). (o >>= λ line. lines_say lines >>= λ others. Some (onto line others)) ≡ Some words → ((o >>= with_line said) >>= λ s. after_lines s lines) ≡ run said words) [
      | None ↦ λ e. cc
      | Some line ↦ λ e. elim (lines_say lines) as (λ (o : Option (List Line)). lines_say lines ≡ o → (o >>= λ others. Some (onto line others)) ≡ Some words → (with_line said line >>= λ s. after_lines s lines) ≡ run said words) [
        | None ↦ λ is e. cc
        | Some others ↦ λ is e.
            let same : onto line others ≡ words = cc in
            rw (← same) (elim (with_line said line) as (λ (o : Option Said). with_line said line ≡ o → (o >>= λ s. after_lines s lines) ≡ run said (onto line others)) [
              | None ↦ λ here. sym (run_onto_none said line others here)
              | Some next ↦ λ here. runs next lines others is ∙ sym (run_onto said next line others here)
            ] refl)
      ] refl e
    ] e

run_devices : (pages : ℕ) (before shapes : List Shape) (events : List Line) → length before + length shapes ≤ 16
    → run (part (Some pages) before []) (map Device shapes ++ events) ≡ run (part (Some pages) (before ++ shapes) []) events
unfolding run
run_devices pages before [] events few = rw append-nil refl
run_devices pages before (shape ∷ shapes) events few =
    let room : nat_lt (length before) 16 ≡ true = search rules in
    let one : with_line (part (Some pages) before []) (Device shape) ≡ Some (part (Some pages) (before ++ shape ∷ []) []) = rw room refl in
    let others = run_devices pages (before ++ shape ∷ []) shapes events (omega (arith, length-append before (shape ∷ []))) in
    rw (one, others, append_assoc) refl

run_events : (pages : ℕ) (shapes : List Shape) (before events : List LiveEvent) → 0 < length shapes
    → run (part (Some pages) shapes before) (map Act events) ≡ Some (part (Some pages) shapes (before ++ events))
unfolding run
run_events pages shapes before [] some = rw append-nil refl
run_events pages shapes before (event ∷ events) some =
    let there : nat_lt 0 (length shapes) ≡ true = search rules in
    let one : with_line (part (Some pages) shapes before) (Act event) ≡ Some (part (Some pages) shapes (before ++ event ∷ [])) = rw there refl in
    let others = run_events pages shapes (before ++ event ∷ []) events some in
    rw (one, others, append_assoc) refl

-- A trace is read to its end.
pub reads : (lines : List (List ℕ)) (c : Contents) → AreTrace lines c → after_lines nothing lines ≡ Some (part (Some c.pages) c.shapes c.events)
unfolding run
reads lines c h =
    let devices = run_devices c.pages [] c.shapes (map Act c.events) (omega (arith, h.few_devices)) in
    let events = run_events c.pages c.shapes [] c.events h.some_device in
    runs nothing lines _ h.said ∙ devices ∙ events

after_both : (said : Said) (xs ys : List (List ℕ)) → after_lines said (xs ++ ys) ≡ (after_lines said xs >>= λ more. after_lines more ys)
unfolding after_lines
after_both said [] ys = refl
after_both said (x ∷ xs) ys = elim (after_line said x) as (λ (o : Option Said). (o >>= λ more. after_lines more (xs ++ ys)) ≡ ((o >>= λ more. after_lines more xs) >>= λ more. after_lines more ys)) [
  | None ↦ refl
  | Some more ↦ after_both more xs ys
]

-- Where a line could not be read, no trace begins so.
pub no_beginning : (lines : List (List ℕ)) → after_lines nothing lines ≡ None → AreBeginning AreSomeTrace lines → ⊥
no_beginning lines none h =
    let whole = reads (lines ++ h.others) h.good.0 h.good.1 in
    let two = after_both nothing lines h.others in
    let stuck : after_lines nothing (lines ++ h.others) ≡ None = rw none at two in
    cc

pub say_both : (xs ys : List (List ℕ)) (said more : List Line) → lines_say xs ≡ Some said → lines_say ys ≡ Some more → lines_say (xs ++ ys) ≡ Some (said ++ more)
unfolding lines_say
say_both [] ys said more e f = let same : [] ≡ said = cc in rw (← same) f
say_both (x ∷ xs) ys said more e f =
    elim (line_says x) as (λ (o : Option Line). (o >>= λ line. lines_say xs >>= λ others. Some (onto line others)) ≡ Some said → (o >>= λ line. lines_say (xs ++ ys) >>= λ others. Some (onto line others)) ≡ Some (said ++ more)) [
      | None ↦ λ e. cc
      | Some line ↦ λ e. elim (lines_say xs) as (λ (o : Option (List Line)). lines_say xs ≡ o → (o >>= λ others. Some (onto line others)) ≡ Some said → (lines_say (xs ++ ys) >>= λ others. Some (onto line others)) ≡ Some (said ++ more)) [
        | None ↦ λ is e. cc
        | Some others ↦ λ is e.
            let same : onto line others ≡ said = cc in
            rw (say_both xs ys others more is f, ← same, onto_is line (others ++ more), onto_is line others, append_assoc) refl
      ] refl e
    ] e

-- lines that are added where some are missing
ram_line_said : line_says (codes "ram 1") ≡ Some (Ram 1)
unfolding line_says number_of digits_after
ram_line_said = refl

device_line_said : line_says (codes "entropy") ≡ Some (Device Entropy)
unfolding line_says
device_line_said = refl

nothing_is_part : IsPart nothing
nothing_is_part = record { no_ram = λ e. refl; no_device = λ e. refl; few = omega arith }

-- what has been read as a trace
is_trace : (lines others : List (List ℕ)) (said added : List Line) (pages : ℕ) (shapes : List Shape) (events : List LiveEvent) → lines_say lines ≡ Some said → lines_say others ≡ Some added
    → said ++ added ≡ Ram pages ∷ map Device shapes ++ map Act events → 0 < length shapes → length shapes ≤ 16
    → AreTrace (lines ++ others) (record { pages = pages; shapes = shapes; events = events; begin_line = begin_line_of (lines ++ others) })
is_trace lines others said added pages shapes events e f g some few = record { said = rw (say_both lines others said added e f, g) refl; some_device = some; few_devices = few; begins_there = refl }

begins : (lines : List (List ℕ)) (pages : Option ℕ) (shapes : List Shape) (events : List LiveEvent) → GrowBy nothing (part pages shapes events) lines → AreBeginning AreSomeTrace lines
unfolding lines_say
begins lines None shapes events h =
    let no_shapes : shapes ≡ [] = h.is_part.no_ram refl in
    let no_events : events ≡ [] = h.is_part.no_device no_shapes in
    let none : [] ≡ h.lines_said = rw (no_shapes, no_events) at h.added in
    let others : List (List ℕ) = codes "ram 1" ∷ codes "entropy" ∷ [] in
    let said : lines_say others ≡ Some (Ram 1 ∷ Device Entropy ∷ []) = rw (ram_line_said, device_line_said) refl in
    record { others = others; good = (record { pages = 1; shapes = Entropy ∷ []; events = []; begin_line = begin_line_of (lines ++ others) }, is_trace lines others h.lines_said (Ram 1 ∷ Device Entropy ∷ []) 1 (Entropy ∷ []) [] h.say said (rw (← none) refl) (omega arith) (omega arith)) }
begins lines (Some pages) [] events h =
    let no_events : events ≡ [] = h.is_part.no_device refl in
    let one : Ram pages ∷ [] ≡ h.lines_said = rw no_events at h.added in
    let others : List (List ℕ) = codes "entropy" ∷ [] in
    let said : lines_say others ≡ Some (Device Entropy ∷ []) = rw device_line_said refl in
    record { others = others; good = (record { pages = pages; shapes = Entropy ∷ []; events = []; begin_line = begin_line_of (lines ++ others) }, is_trace lines others h.lines_said (Device Entropy ∷ []) pages (Entropy ∷ []) [] h.say said (rw (← one) refl) (omega arith) (omega arith)) }
begins lines (Some pages) (shape ∷ shapes) events h =
    record { others = []; good = (record { pages = pages; shapes = shape ∷ shapes; events = events; begin_line = begin_line_of (lines ++ []) }, is_trace lines [] h.lines_said [] pages (shape ∷ shapes) events h.say refl (append-nil h.lines_said ∙ sym h.added) (omega arith) h.is_part.few) }

pub beginning : (lines : List (List ℕ)) (said : Said) → after_lines nothing lines ≡ Some said → AreBeginning AreSomeTrace lines
beginning lines said e = begins lines said.pages said.shapes said.events (lines_grow nothing said lines nothing_is_part e)

pub not_whole : (lines : List (List ℕ)) (said : Said) → after_lines nothing lines ≡ Some said → (IsWhole said → ⊥) → (c : Contents) → AreTrace lines c → ⊥
not_whole lines said e missing c h =
    let read = reads lines c h in
    let same : part (Some c.pages) c.shapes c.events ≡ said = cc in
    missing (rw (← same) (refl, h.some_device))

pub whole : (lines : List (List ℕ)) (pages : ℕ) (shapes : List Shape) (events : List LiveEvent) (begin_line : ℕ) → after_lines nothing lines ≡ Some (part (Some pages) shapes events) → 0 < length shapes
    → begin_line ≡ begin_line_of lines → AreTrace lines (record { pages = pages; shapes = shapes; events = events; begin_line = begin_line })
whole lines pages shapes events begin_line e some there =
    let h = lines_grow nothing (part (Some pages) shapes events) lines nothing_is_part e in
    record { said = rw h.added h.say; some_device = some; few_devices = h.is_part.few; begins_there = there }
