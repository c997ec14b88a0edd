-- `get_mut` lends what the handle owns, and the handle follows it.
use Rattle.std.proofs.Common.{◌≡◌, ℕ, List, [], ◌∷◌, refl, sym, true≢false}
use seplogic.Ra.Ura.{Ura}
use base.Fraction.{full_share}
use mir.Syntax.{named}
use mir.Raw.{raw as bare}
use mir.Val.{Val, vptr}
use base.Logic.{SProp, ent, sep, via, fst∗, id⊢}
use base.Fml.{Lft, GName, Share, Fml, ftrue, flft, fsep}
use prog.Memory.{Memory}
use prog.Routine.{Routine}
use prog.Wp.{Env, Calls, Loops, WpFn}
use types.Logic.{Logic, sem}
use types.Kit.{‵, ◌⊛◌, some, at_ret, ◌$◌, ◌∵◌, !, qed, by, move, keep, use1, drop, split, join, pick, fsplit, fsplit3, fjoin, suffices, frame, done, raw, later, await, group, fpack, rewrite}
use types.Part.{whole, sub, look_in}
use types.Run.{stop, fld, load, of_opd, first, blocks, exec, returns, enter, addr}
use types.ByLocal.{alloc_all, pass_all, free_all, look_at, get, through, sets, env, sets_last}
use contract.Monad.{Fun, fact}
use contract.Running.{tables}
use denote.RattleType.{RattleType, owns}
use denote.Memory.{part_at, mem, cell_at, part_of}
use denote.RawPtr.{Ptr, block_ptr}
use denote.Ref.{MutRef, mut_vals, mut_Tells}
use denote.Signature.{plain, mut_ref_to}
use denote.Steps.{nothing, opens, heard}
use denote.Exit.{no}
use denote.Follow.{follows, Part, lends_Part}
use denote.Triple.Clauses.{Clauses}
use denote.Triple.Entry.{on_entry}
use denote.Triple.Walked.{says, Stays, stay_dropped, walk_of, ends_at, Goes-spent_ref}
use Rattle.std.specs.Prelude.{Option, Some, None, IsSome}
use Rattle.std.proofs.raw_atomic.Walks.{proved}
use Rattle.std.proofs.alloc.Calls.{token}
use Rattle.std.proofs.VecSteps.Shapes.{after}
use Rattle.std.proofs.BoxSteps.Form.{D, B, R, τ, word, handle}
use Rattle.std.proofs.BoxSteps.Steps.{box_out, box_in}
use Rattle.std.specs.declared.alloc.Global.{Global}
use Rattle.c_handle.proofs.AsBox.{E}
use Rattle.c_handle.specs.Kept.{KeptSeen}
use Rattle.c_handle.specs.declared.handle.Handle.{Handle}
use Rattle.c_handle.specs.Owned.{kept_row}
use Rattle.c_handle.specs.contracts.handle.Handle as held
use Rattle.c_handle.specs.Lending.{with_machine}
use Rattle.c_handle.specs.contracts.handle.Handle.get_mut as f
use Rattle.c_handle.proofs.handle.Handle.get_mut.Statement.{statement}
use Rattle.c_handle.proofs.handle.Handle.get_mut.Code as code

abbrev Row : RattleType
Row = held.the_row

abbrev In : RattleType
In = kept_row

abbrev stayed : Stays (f.ended).signature.params (f.ended).kept
stayed = (stay_dropped (mut_ref_to (0 ∷ []) tt (plain (λ _. Row))) no, tt)

module _ {M : Type 1} {𝓤 : Ura M} (𝓛 : Logic 𝓤) (at_mem : Memory → SProp 𝓤) (run : Routine → Fun 𝓤) (κ : Lft) (q : Share) (rb ro : ℕ) (γ : GName) (p : Ptr) (al : Global) where
  open 𝓛 use {H, A}

  abbrev c : Clauses 𝓤 f.ended
  c = f.clauses 𝓛 at_mem run

  abbrev bound : Option KeptSeen → (walk_of 𝓛 f.ended stayed c).Ghost
  bound k = (((κ, tt), (q, tt), tt, (record { ref_ptr = (rb, ro); ghost_name = γ; now = record { at = p; alloc = al; machine = k } }, tt), (vptr rb ro ∷ [], tt)), tt)

  abbrev Post : Option KeptSeen → Val → SProp 𝓤
  Post k = (walk_of 𝓛 f.ended stayed c).post (bound k)

  abbrev Entry : Option KeptSeen → SProp 𝓤
  Entry k = on_entry 𝓛 (f.ended).signature (κ, tt) (q, tt) (bound k).0.3 (vptr rb ro ∷ [], tt)

  module _ (x : KeptSeen) where
    abbrev d : Handle
    d = record { at = p; alloc = al; machine = Some x }

    abbrev v : KeptSeen → D E
    v w = record { ptr = p; alloc = al; value = w }

    module _ (b o : ℕ) (hv : Val) where
      -- all of the handle but its value
      abbrev Rest : Fml
      Rest = fsep (fsep (token E.al al (bare (τ E)) (block_ptr b o)) (handle E al hv)) (cell_at full_share Row.mir (word E hv b o ∷ []) rb ro)

      back : p ≡ block_ptr b o → (w : KeptSeen) → ent 𝓤 (sep 𝓤 (sem 𝓛 ((mem In).own_at w b o)) (sem 𝓛 Rest)) (sem 𝓛 ((mem Row).own_at (with_machine d w) rb ro))
      unfolding part_of
      back at_b w =
          qed 𝓛 (‵ (part_at (R E) full_share w b o) ∷ ‵ Rest ∷ []) ∵ move ! (1 ∷ []) $ fsplit ! $ fsplit ! $ move ! (3 ∷ []) $
          box_in E ! (v w) b o w at_b refl $ use1 𝓛 (‵ (Row.own_val (with_machine d w) (word E hv b o ∷ []))) (id⊢ 𝓤 _) $ move ! (1 ∷ 0 ∷ []) $ fjoin ! $
          fpack ! (List Val) (λ us. fsep (cell_at full_share Row.mir us rb ro) (Row.own_val (with_machine d w) us)) (word E hv b o ∷ []) $ done !

      exits : (γ' : GName)
          → ent 𝓤 (sep 𝓤 (sem 𝓛 ((MutRef (named 0) κ In).own_val (record { ref_ptr = (b, o); ghost_name = γ'; now = x }) (vptr b o ∷ []))) (sep 𝓤 (A.lft κ q) (sem 𝓛 (follows Row In γ γ' (with_machine d))))) (Post (Some x) (vptr b o))
      exits γ' =
          qed 𝓛 (‵ ((MutRef (named 0) κ In).own_val (record { ref_ptr = (b, o); ghost_name = γ'; now = x }) (vptr b o ∷ [])) ∷ ‵ (flft κ q) ∷ ‵ (follows Row In γ γ' (with_machine d)) ∷ []) ∵
          suffices ! _ (ends_at 𝓛 f.ended stayed c (bound (Some x)) (vptr b o) (record { ref_ptr = (b, o); ghost_name = γ'; now = x }) (tt, tt) (tt, tt)) $
          nothing ! $ nothing ! $ fjoin ! $ join ! $ nothing ! $ move ! (2 ∷ 0 ∷ []) $ join ! $ join ! $ frame ! $ says ! refl $ done !

    module _ (C : Calls 𝓤 H) (Λ : Loops 𝓤 H) where
      walk : ent 𝓤 (Entry (Some x)) (WpFn 𝓤 H C Λ code.function (vptr rb ro ∷ []) (Post (Some x)))
      walk =
          qed 𝓛 ((‵ (flft κ q) ⊛ ‵ ftrue) ∷ ‵ (owns (MutRef (named 0) κ Row ∷ []) (record { ref_ptr = (rb, ro); ghost_name = γ; now = d }, tt) (vptr rb ro ∷ [], tt)) ∷ []) ∵
          enter ! C Λ code.function (vptr rb ro ∷ []) _ $
          alloc_all ! (λ l. pass_all ! refl ((tt, tt), tt) $
          let En : Env 𝓤 H = env (code.function).locals l in
          move ! (1 ∷ []) $ fsplit ! $ fsplit3 ! $ drop ! $ move ! (3 ∷ []) $ split ! $ move ! (2 ∷ 3 ∷ 0 ∷ []) $
          opens ! tt Row {h = d} rb ro (λ vs. move ! (1 ∷ []) $ use1 𝓛 (‵ ((B E).own_val (v x) vs)) (id⊢ 𝓤 _) $
          box_out E ! (v x) vs (λ b o hv at_b ws fa. move ! (1 ∷ 2 ∷ []) $ fjoin ! $ move ! (1 ∷ []) $
          rewrite ! 2 (λ (us : List Val). ‵ (cell_at full_share Row.mir us rb ro)) ws refl $
          first ! $ blocks ! $
          sets ! (of_opd ! (load ! (through ! refl (fld ! refl (stop !))) (look_in ! 2 (sub ! 0 refl (whole !))))) refl (tt, tt) $
          sets ! (of_opd ! (get ! refl)) refl (tt, tt) $
          sets_last ! (addr ! (through ! refl (stop !))) refl (tt, tt) $
          exec ! C Λ En (after 1 (code.function).body) (at_ret En (Post (Some x))) $
          sets ! (of_opd ! (get ! refl)) refl (tt, tt) $
          move ! (1 ∷ 2 ∷ []) $ fjoin ! $ move ! (2 ∷ 3 ∷ 4 ∷ 1 ∷ 0 ∷ []) $ group ! 5 $
          use1 𝓛 (later (some (λ (γ' : GName). raw (Part 𝓛 Row In (with_machine d) (named 0) κ q rb ro b o γ (sem 𝓛 (Rest b o hv)) (back b o hv at_b) x γ'))))
          (lends_Part 𝓛 Row In (with_machine d) (named 0) κ q rb ro b o γ (sem 𝓛 (Rest b o hv)) (back b o hv at_b) (Row.coded.code d) (Row.coded.code d) x) $ await ! tt $ pick ! (λ γ'.
          returns ! (look_at ! 0 refl) $ free_all ! refl $
          keep ! (0 ∷ []) $ by ! (exits b o hv γ')))))

  module _ (C : Calls 𝓤 H) (Λ : Loops 𝓤 H) where
    at_each : (k : Option KeptSeen) → ent 𝓤 (sep 𝓤 (Entry k) (fact 𝓤 (IsSome k))) (WpFn 𝓤 H C Λ code.function (vptr rb ro ∷ []) (Post k))
    at_each None = qed 𝓛 (raw (Entry None) ∷ raw (fact 𝓤 (IsSome {T = KeptSeen} None)) ∷ []) ∵ move ! (1 ∷ []) $ heard ! (IsSome {T = KeptSeen} None) (λ s. absurd (true≢false (sym s)))
    at_each (Some x) = via 𝓤 _ (fst∗ 𝓤 (Entry (Some x)) (fact 𝓤 (IsSome {T = KeptSeen} (Some x)))) (walk x C Λ)

pub get_mut_spec : {M : Type 1} → statement M
get_mut_spec 𝓤 𝓛 𝓜 𝓡 wired =
    let 𝓣 = tables 𝓤 𝓛.H 𝓜 𝓡 𝓡.env in
    proved 𝓛 f.ended stayed (f.clauses 𝓛 𝓜.mem 𝓡.returns) 𝓜 𝓡 (Goes-spent_ref 𝓛 1 (0 ∷ []) tt (plain (λ _. Row)), tt)
    f.Key.name code.function (code.unfolded 𝓤 𝓛.H 𝓜 𝓡 wired)
    (λ κs. (mut_vals, tt)) (λ κs. (mut_Tells (named 0) κs.0 Row, tt)) (λ κs qs bounds a g are.
    at_each 𝓛 𝓜.mem 𝓡.returns κs.0 qs.0 a.0.ref_ptr.0 a.0.ref_ptr.1 a.0.ghost_name a.0.now.at a.0.now.alloc 𝓣.C 𝓣.Λ a.0.now.machine)
