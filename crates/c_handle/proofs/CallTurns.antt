-- A turn of the devices in one call goes on by one step.
use Rattle.std.proofs.Common.{◌≡◌, ◌≤◌, ℕ, ◌+◌, List, [], ◌∷◌, ◌++◌, length, length-append, inl, inr, refl, sym, ap, subst, ◌∙◌, arith}
use Rattle.machine.specs.declared.work.Work.{Work}
use Rattle.c_handle.specs.Kept.{KeptSeen}
use Rattle.c_handle.specs.Turns.{AreMade, EndsTurn, IsEnded, MakesNext, IsUsedUp, Once, counted}
use Rattle.c_handle.specs.declared.turning.Turn.{Turn}
use Rattle.c_handle.specs.declared.turning.Outcome.{Outcome}
use Rattle.c_handle.specs.declared.turning.Outcome.TheVariants as outcomes

-- One step more was made.
made_more : (k : KeptSeen) (t : Turn) (ws : List Work) (buf mid_buf new_buf : List ℕ) (now : KeptSeen) (at : Turn) (w : Work) (next : KeptSeen) → AreMade k t ws buf mid_buf now at → MakesNext now at w mid_buf new_buf next
    → AreMade k t (ws ++ w ∷ []) buf new_buf next (counted at w)
made_more k t [] buf mid_buf new_buf now at w next done one =
    let here : MakesNext k t w buf new_buf next = rw (done.0, done.1, done.2) at one in
    (next, new_buf, here, (refl, ap (λ (x : Turn). counted x w) done.1, refl))
made_more k t (v ∷ ws) buf mid_buf new_buf now at w next done one = (done.0, done.1, done.2, made_more done.0 (counted t v) ws done.1 mid_buf new_buf now at w next done.3 one)

-- The steps of a turn so far, and how many they are.
pub record IsOn (k : KeptSeen) (t : Turn) (buf : List ℕ) (count : ℕ) (now : KeptSeen) (at : Turn) (mid_buf : List ℕ) : Type 0 where
  pub works : List Work
  pub made : AreMade k t works buf mid_buf now at
  pub long : length works ≡ count
  pub left : at.left + count ≡ t.left
  pub kind : now ≡ record k { state = now.state; written = now.written }

pub begins : (k : KeptSeen) (t : Turn) (buf : List ℕ) → IsOn k t buf 0 k t buf
begins k t buf = record { works = []; made = (refl, refl, refl); long = refl; left = omega arith; kind = refl }

pub goes : (k : KeptSeen) (t : Turn) (buf : List ℕ) (count : ℕ) (now : KeptSeen) (at : Turn) (mid_buf new_buf : List ℕ) (outcome : Outcome) (next : KeptSeen) (after : Turn) → IsOn k t buf count now at mid_buf → 1 ≤ at.left
    → outcome ≡ outcomes.Made → Once now at outcome mid_buf new_buf next after → next ≡ record now { state = next.state; written = next.written } → IsOn k t buf (count + 1) next after new_buf
goes k t buf count now at mid_buf new_buf outcome next after on left is once kind =
    let step : Once now at outcomes.Made mid_buf new_buf next after = subst (λ (o : Outcome). Once now at o mid_buf new_buf next after) is once in
    record {
      works = on.works ++ step.0 ∷ [];
      made = subst (λ (x : Turn). AreMade k t (on.works ++ step.0 ∷ []) buf new_buf next x) (sym step.2) (made_more k t on.works buf mid_buf new_buf now at step.0 next on.made step.1);
      long = rw (length-append on.works (step.0 ∷ []), on.long) refl;
      left = rw (step.2) (omega (arith, on.left, left));
      kind = kind ∙ ap (λ (x : KeptSeen). record x { state = next.state; written = next.written }) on.kind;
    }

pub ended_by : (k : KeptSeen) (t : Turn) (buf : List ℕ) (count : ℕ) (now : KeptSeen) (at : Turn) (mid_buf new_buf : List ℕ) (status : ℕ) (next : KeptSeen) (after : Turn) → IsOn k t buf count now at mid_buf
    → IsEnded count now at status mid_buf new_buf next after → EndsTurn k t status buf new_buf next after
ended_by k t buf count now at mid_buf new_buf status next after on e =
    record { works = on.works; between = now; at = at; mid_buf = mid_buf; made = on.made; ended = inr (subst (λ (n : ℕ). IsEnded n now at status mid_buf new_buf next after) (sym on.long) e) }

pub used_up : (k : KeptSeen) (t : Turn) (buf : List ℕ) (count : ℕ) (now : KeptSeen) (at : Turn) (mid_buf new_buf : List ℕ) (status : ℕ) (next : KeptSeen) (after : Turn) → IsOn k t buf count now at mid_buf
    → IsUsedUp now at status mid_buf new_buf next after → EndsTurn k t status buf new_buf next after
used_up k t buf count now at mid_buf new_buf status next after on e = record { works = on.works; between = now; at = at; mid_buf = mid_buf; made = on.made; ended = inl e }

-- What a call does to a handle keeps its other parts.
pub kind_on : (k now next : KeptSeen) → now ≡ record k { state = now.state; written = now.written } → next ≡ record now { state = next.state; written = next.written } → next ≡ record k { state = next.state; written = next.written }
kind_on k now next first second = second ∙ ap (λ (x : KeptSeen). record x { state = next.state; written = next.written }) first
