-- `is_made` compares the pointer with null, and leaves the handle as it is.
use Rattle.std.proofs.Common.{◌≡◌, ℕ, Bool, true, false, List, [], ◌∷◌, refl, sym, ap, ◌∙◌, lit<}
use lib.Dec.{T}
use seplogic.Ra.Ura.{Ura}
use base.Fraction.{full_share}
use base.Logic.{SProp, ent, id⊢, guard, guard_i}
use base.Fml.{Lft, GName, Share, ftrue, flft}
use mir.Syntax.{named, ptr_ne, ty_ptr}
use mir.Raw.{raw as bare}
use mir.Val.{Val, vbool, vptr, vnull, op2_val, ptr_eq_ok, has_ty, WT}
use prog.Memory.{Memory}
use prog.Routine.{Routine}
use prog.Wp.{Calls, Loops, WpFn}
use types.Logic.{Logic, sem}
use types.Kit.{check, ‵, ◌⊛◌, given, ◌$◌, ◌∵◌, !, qed, done, move, keep, use1, split, join, fsplit, fsplit3, fjoin, fpick, fpack, learn, rewrite, suffices, frame, group}
use types.Run.{enter, of_opd, lit, bin, load, stop, fld, returns}
use types.ByLocal.{alloc_all, pass_all, free_all, look_at, get, through, sets, is}
use types.Part.{whole, sub, look_in}
use contract.Monad.{Fun, fact_use}
use contract.Running.{tables}
use denote.RattleType.{RattleType}
use denote.Memory.{cell_at}
use denote.Laws.{shows}
use denote.Plain.{Boolean, bool_Makes}
use denote.RawPtr.{Ptr, block_ptr, null_ptr, ptr_val, Testable, tests_null}
use denote.Ref.{MutRef, mut_vals, mut_Tells}
use denote.Signature.{plain}
use denote.Steps.{nothing, owned, opens, closes, peeks}
use denote.Triple.Clauses.{Clauses}
use denote.Triple.Walked.{Stays, stay_ref, walk_of, ends_at, Goes-ref}
use Rattle.std.specs.Prelude.{Option, Some, None, is_some}
use Rattle.std.specs.declared.alloc.Global.{Global}
use Rattle.std.proofs.GlobalToken.{dealloc_token-Testable}
use Rattle.std.proofs.raw_atomic.Walks.{proved}
use Rattle.std.proofs.BoxSteps.Form.{D, B, τ}
use Rattle.std.proofs.BoxSteps.Steps.{box_out, box_in}
use Rattle.std.proofs.alloc.Calls.{token}
use Rattle.std.proofs.mem.Facts.{says_two}
use Rattle.c_handle.proofs.AsBox.{E}
use Rattle.c_handle.specs.Kept.{KeptSeen}
use Rattle.c_handle.specs.declared.handle.Handle.{Handle}
use Rattle.c_handle.specs.contracts.handle.Handle as held
use Rattle.c_handle.proofs.handle.Handle.TheLaws.{lowers}
use Rattle.c_handle.specs.contracts.handle.Handle.is_made as f
use Rattle.c_handle.proofs.handle.Handle.is_made.Statement.{statement}
use Rattle.c_handle.proofs.handle.Handle.is_made.Code as code

abbrev Row : RattleType
Row = held.the_row

abbrev stayed : Stays (f.ended).signature.params (f.ended).kept
stayed = (stay_ref (0 ∷ []) tt (plain (λ _. Row)), tt)

answer : (s : Ptr) → (y : Bool) × (op2_val ptr_ne (ptr_val s) vnull ≡ vbool y)
answer (block_ptr b o) = (true, refl)
answer null_ptr = (false, refl)

typed : (s : Ptr) → T (has_ty ty_ptr (ptr_val s)) × WT (ptr_val s)
typed (block_ptr b o) = (tt, tt)
typed null_ptr = (tt, record { fits = lit< tt })

-- What the pointer of a handle can be.
abbrev Points : Ptr → Option KeptSeen → Type 0
Points p k = (s : Ptr) × (p ≡ s) × T (ptr_eq_ok (ptr_val s) vnull) × ((answer s).0 ≡ is_some k)

module _ {M : Type 1} {𝓤 : Ura M} (𝓛 : Logic 𝓤) (at_mem : Memory → SProp 𝓤) (run : Routine → Fun 𝓤) (κ : Lft) (q : Share) (rb ro : ℕ) (γ : GName) (p : Ptr) (al : Global) where
  open 𝓛 use {H, A}

  abbrev c : Clauses 𝓤 f.ended
  c = f.clauses 𝓛 at_mem run

  abbrev at_k : Option KeptSeen → Handle
  at_k k = record { at = p; alloc = al; machine = k }

  abbrev bound : Option KeptSeen → (walk_of 𝓛 f.ended stayed c).Ghost
  bound k = (((κ, tt), (q, tt), tt, (record { ref_ptr = (rb, ro); ghost_name = γ; now = at_k k }, tt), (vptr rb ro ∷ [], tt)), tt)

  abbrev Pre : Option KeptSeen → SProp 𝓤
  Pre k = (walk_of 𝓛 f.ended stayed c).pre (bound k)

  abbrev Post : Option KeptSeen → Val → SProp 𝓤
  Post k = (walk_of 𝓛 f.ended stayed c).post (bound k)

  tested : (b o : ℕ) → ent 𝓤 (sem 𝓛 (token E.al al (bare (τ E)) (block_ptr b o))) (guard 𝓤 (Testable (block_ptr b o)) (sem 𝓛 (token E.al al (bare (τ E)) (block_ptr b o))))
  tested b o = fact_use 𝓤 (Testable (block_ptr b o)) (dealloc_token-Testable 𝓛 al (bare (τ E)) (block_ptr b o)) (guard_i 𝓤 (Testable (block_ptr b o)) (sem 𝓛 (token E.al al (bare (τ E)) (block_ptr b o))))

  tells : (k : Option KeptSeen) (us : List Val) → ent 𝓤 (sem 𝓛 (Row.own_val (at_k k) us)) (guard 𝓤 (Points p k) (sem 𝓛 (Row.own_val (at_k k) us)))
  unfolding answer
  tells None us =
      qed 𝓛 (‵ (Row.own_val (at_k None) us) ∷ []) ∵ fsplit ! $ move ! (1 ∷ []) $ fpick ! (λ e. check ! (null_ptr, e, tt, refl) $
      fpack ! (p ≡ null_ptr) (λ _. ftrue) e $ move ! (1 ∷ 0 ∷ []) $ fjoin ! $ done !)
  tells (Some x) us =
      let v : D E = record { ptr = p; alloc = al; value = x } in
      qed 𝓛 (‵ (Row.own_val (at_k (Some x)) us) ∷ []) ∵ use1 𝓛 (‵ ((B E).own_val v us)) (id⊢ 𝓤 _) $ box_out E ! v us (λ b o hv e ws fa.
      move ! (1 ∷ []) $ use1 𝓛 (given (Testable (block_ptr b o)) (‵ (token E.al al (bare (τ E)) (block_ptr b o)))) (tested b o) $ learn ! (λ t. move ! (1 ∷ 0 ∷ []) $
      box_in E ! v b o x e refl $ rewrite ! 0 (λ (ws : List Val). ‵ ((B E).own_val v ws)) (sym ws) refl $ check ! (block_ptr b o, e, tests_null (block_ptr b o) t, refl) $
      use1 𝓛 (‵ (Row.own_val (at_k (Some x)) us)) (id⊢ 𝓤 _) $ done !))

  module _ (C : Calls 𝓤 H) (Λ : Loops 𝓤 H) where
    at_each : (k : Option KeptSeen) → ent 𝓤 (Pre k) (WpFn 𝓤 H C Λ code.function (vptr rb ro ∷ []) (Post k))
    at_each k =
        let d : Handle = at_k k in
        let Cell = λ (ws : List Val). ‵ (cell_at full_share Row.mir ws rb ro) in
        qed 𝓛 (((‵ (flft κ q) ⊛ ‵ ftrue) ⊛ ‵ ((MutRef (named 0) κ Row).own_val (bound k).0.3.0 (vptr rb ro ∷ [])) ⊛ ‵ ftrue) ∷ ‵ ftrue ∷ []) ∵
        split ! $ split ! $ move ! (2 ∷ []) $ split ! $ keep ! (0 ∷ 2 ∷ []) $
        enter ! _ _ _ _ _ $ alloc_all ! (λ l. pass_all ! refl ((tt, tt), tt) $
        fsplit3 ! $ move ! (1 ∷ 2 ∷ 3 ∷ []) $ opens ! tt Row {h = d} rb ro (λ us.
        move ! (1 ∷ []) $ peeks ! Row _ (shows 𝓛 Row) d us (λ seen. use1 𝓛 (given (Points p k) (‵ (Row.own_val d us))) (tells k us) $ learn ! (λ fits.
        let s : Ptr = fits.0 in let y : Bool = (answer s).0 in
        let word = lowers.val_is d us seen ∙ ap (λ (t : Ptr). lowers.lowered (record { at = t; alloc = al; machine = k }) ∷ []) fits.1 in
        rewrite ! 1 Cell word refl $
        sets ! (of_opd ! (load ! (through ! refl (fld ! refl (stop !))) (look_in ! 1 (sub ! 0 refl (whole !))))) refl (typed s) $
        sets ! (is ! (bin ! (get ! refl) (lit ! tt) fits.2) (answer s).1) refl (tt, tt) $
        rewrite ! 1 Cell (sym word) refl $ move ! (1 ∷ []) $ closes ! tt Row d us rb ro $
        returns ! (look_at ! 0 refl) $ free_all ! refl $ move ! (3 ∷ []) $
        suffices ! _ (ends_at 𝓛 f.ended stayed c (bound k) (vbool y) y (d, tt) (tt, tt)) $ says_two ! (refl, fits.3) $
        group ! 3 $ nothing ! $ move ! (1 ∷ 0 ∷ []) $ join ! $ nothing ! $ move ! (2 ∷ 0 ∷ []) $ join ! $ frame ! $ frame ! $ owned ! Boolean _ (bool_Makes 𝓛) y _ refl $ done !))))

pub is_made_spec : {M : Type 1} → statement M
is_made_spec 𝓤 𝓛 𝓜 𝓡 wired =
    let 𝓣 = tables 𝓤 𝓛.H 𝓜 𝓡 𝓡.env in
    proved 𝓛 f.ended stayed (f.clauses 𝓛 𝓜.mem 𝓡.returns) 𝓜 𝓡 (Goes-ref 𝓛 1 0 tt (plain (λ _. Row)), tt)
    f.Key.name code.function (code.unfolded 𝓤 𝓛.H 𝓜 𝓡 wired)
    (λ κs. (mut_vals, tt)) (λ κs. (mut_Tells (named 0) κs.0 Row, tt)) (λ κs qs bounds a g are.
    at_each 𝓛 𝓜.mem 𝓡.returns κs.0 qs.0 a.0.ref_ptr.0 a.0.ref_ptr.1 a.0.ghost_name a.0.now.at a.0.now.alloc 𝓣.C 𝓣.Λ a.0.now.machine)
