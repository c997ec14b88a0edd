-- A piece, taken part by part.
use Rattle.std.proofs.Common.{◌≡◌, ℕ, List, ◌++◌, length, take, drop, refl, sym, ap, subst, ◌∙◌, append_assoc, append-nil}
use Rattle.std.proofs.lemmas.List.{take-append-drop}
use Rattle.receiver.specs.Sums.{Summed}
use Rattle.blk.specs.Disk.{DiskState}
use Rattle.receiver.specs.Disks.{AreKept, AreRefused, sizes_in}
use Rattle.receiver.specs.Faults.{Fault}
use Rattle.receiver.specs.Fed.{Tells}
use Rattle.receiver.specs.Receiving.{IsKnown, IsTaken}
use Rattle.receiver.specs.declared.stage.Stage.{Stage}
use Rattle.receiver.specs.declared.ram_terms.RamTerms.{RamTerms}
use Rattle.receiver.specs.declared.recv_error.RecvError.{RecvError}
use Rattle.receiver.proofs.Lists.{empty}
use Rattle.receiver.proofs.Prefixes.{stays}
use Rattle.receiver.proofs.Working.{kept, tells_more, then_kept, then_refused}

-- After a look at all that is there.
pub looked : (ram : RamTerms) (old ds : List DiskState) (digest : Summed) (front bytes held : List ℕ) (count : ℕ) (stage : Stage) → AreKept old ds × IsKnown ram ds digest (front ++ take count bytes) (drop count bytes) stage → held ≡ drop count bytes
    → AreKept old ds × IsTaken ram ds digest (front ++ bytes) held stage
looked ram old ds digest front bytes held count stage h is =
    let parts : front ++ bytes ≡ (front ++ take count bytes) ++ drop count bytes = ap (λ (x : List ℕ). front ++ x) (sym (take-append-drop count bytes)) ∙ sym (append_assoc front (take count bytes) (drop count bytes)) in
    (h.0, record { front = front ++ take count bytes; whole = parts ∙ ap (λ (x : List ℕ). (front ++ take count bytes) ++ x) (sym is); known = rw is h.1 })

pub cut_at : (rest part after : List ℕ) (n : ℕ) → part ≡ take n rest → after ≡ drop n rest → rest ≡ part ++ after
cut_at rest part after n first last = sym (ap (λ (x : List ℕ). x ++ after) first ∙ ap (λ (x : List ℕ). take n rest ++ x) last ∙ take-append-drop n rest)

-- The first part of a piece was taken, and `rest` is left of it: these are all bytes.
pub record IsPartly (ram : RamTerms) (old ds : List DiskState) (digest : Summed) (bytes held rest : List ℕ) (stage : Stage) : Type 0 where
  pub same : AreKept old ds
  pub front : List ℕ
  pub whole : bytes ≡ front ++ (held ++ rest)
  pub known : IsKnown ram ds digest front held stage

pub at_first : (ram : RamTerms) (ds : List DiskState) (digest : Summed) (front held piece : List ℕ) (stage : Stage) → IsKnown ram ds digest front held stage → IsPartly ram ds ds digest (front ++ (held ++ piece)) held piece stage
at_first ram ds digest front held piece stage k = record { same = kept ds; front = front; whole = refl; known = k }

pub regrouped : (front held part after : List ℕ) → front ++ (held ++ (part ++ after)) ≡ (front ++ (held ++ part)) ++ after
regrouped front held part after = ap (λ (x : List ℕ). front ++ x) (sym (append_assoc held part after)) ∙ sym (append_assoc front (held ++ part) after)

pub next_part : (ram : RamTerms) (old ds new : List DiskState) (digest next : Summed) (bytes held rest part after left : List ℕ) (stage then_stage : Stage) → (p : IsPartly ram old ds digest bytes held rest stage) → rest ≡ part ++ after
    → AreKept ds new × IsTaken ram new next (p.front ++ (held ++ part)) left then_stage → IsPartly ram old new next bytes left after then_stage
next_part ram old ds new digest next bytes held rest part after left stage then_stage p is t = record {
  same = then_kept old ds new p.same t.0;
  front = t.1.front;
  whole = p.whole ∙ ap (λ (x : List ℕ). p.front ++ (held ++ x)) is ∙ regrouped p.front held part after ∙ ap (λ (x : List ℕ). x ++ after) t.1.whole ∙ append_assoc t.1.front left after;
  known = t.1.known;
}

pub part_refused : (ram : RamTerms) (old ds new : List DiskState) (digest : Summed) (bytes held rest part after : List ℕ) (stage : Stage) (e : RecvError) → (p : IsPartly ram old ds digest bytes held rest stage) → rest ≡ part ++ after
    → AreRefused ds new e × Tells e ((at : ℕ) × Fault ram (sizes_in ds) (p.front ++ (held ++ part)) e at) → AreRefused old new e × Tells e ((at : ℕ) × Fault ram (sizes_in old) bytes e at)
part_refused ram old ds new digest bytes held rest part after stage e p is t =
    let all : bytes ≡ (p.front ++ (held ++ part)) ++ after = p.whole ∙ ap (λ (x : List ℕ). p.front ++ (held ++ x)) is ∙ regrouped p.front held part after in
    let P : ℕ → List ℕ → Type 0 = λ at x. Fault ram (sizes_in ds) x e at in
    let Q : List ℕ → Type 0 = λ sizes. (at : ℕ) × Fault ram sizes bytes e at in
    (then_refused old ds new e p.same t.0, tells_more _ _ e (λ f. subst Q p.same.sizes (f.0, subst (P f.0) (sym all) (stays ram (sizes_in ds) (p.front ++ (held ++ part)) after e f.0 f.1))) t.1)

pub all_parts : (ram : RamTerms) (old ds : List DiskState) (digest : Summed) (bytes held rest : List ℕ) (stage : Stage) → IsPartly ram old ds digest bytes held rest stage → length rest ≡ 0 → AreKept old ds × IsTaken ram ds digest bytes held stage
all_parts ram old ds digest bytes held rest stage p none =
    let last : held ++ rest ≡ held = ap (λ (x : List ℕ). held ++ x) (empty rest none) ∙ append-nil held in
    (p.same, record { front = p.front; whole = p.whole ∙ ap (λ (x : List ℕ). p.front ++ x) last; known = p.known })
