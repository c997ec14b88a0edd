-- A handle with nothing behind it owns nothing.
use Rattle.std.proofs.Common.{◌≡◌, List, [], ◌∷◌, ◌++◌, refl, sym, subst}
use mir.Val.{Val, vstruct, vcons, vnil}
use base.Logic.{SProp, ent, emp, id⊢}
use base.Fml.{ftrue}
use prog.Wp.{WpFn}
use types.Kit.{‵, raw, ◌⊛◌, ◌$◌, ◌∵◌, !, qed, by, move, use0, keep, split, fsplit, fjoin, fpack, feq_i, suffices}
use types.Part.{agg}
use types.Run.{no_more, and_then, lit, returns, enter}
use types.ByLocal.{alloc_all, pass_all, free_all, look_at, get, sets}
use contract.Running.{tables}
use contract.Monad.{fact, fact_i}
use lib.Dec.{lit<}
use Rattle.std.proofs.ResultValues.{and_tt}
use denote.RattleType.{Valss, owns}
use denote.RawPtr.{RawPtr, null_ptr, ptr_val}
use denote.Signature.{types_at, plain}
use denote.Steps.{nothing}
use denote.Struct.Struct.{within}
use denote.Struct.Owning.{shape, to}
use denote.Triple.Walked.{Stays, stay_dropped, walk_of, Goes-dropped}
use Rattle.std.specs.Prelude.{None}
use Rattle.std.proofs.raw_atomic.Walks.{proved_at, leaves}
use Rattle.std.proofs.alloc.Calls.{handle_tells}
use Rattle.std.specs.contracts.alloc.Global as Heap
use Rattle.c_handle.proofs.AsBox.{E}
use Rattle.c_handle.specs.declared.handle.Handle.{Handle}
use Rattle.c_handle.specs.contracts.handle.Handle as held
use Rattle.c_handle.specs.contracts.handle.Handle.none as f
use Rattle.c_handle.proofs.handle.Handle.none.Statement.{statement}
use Rattle.c_handle.proofs.handle.Handle.none.Code as code

abbrev stayed : Stays (f.ended).signature.params (f.ended).kept
stayed = (stay_dropped _ (f.ended).kept.0, tt)

pub none_spec : {M : Type 1} → statement M
none_spec 𝓤 𝓛 𝓜 𝓡 wired =
    let H = 𝓛.H in let 𝓣 = tables 𝓤 H 𝓜 𝓡 𝓡.env in let c = f.clauses 𝓛 𝓜.mem 𝓡.returns in
    proved_at 𝓛 f.ended stayed c 𝓜 𝓡 (Goes-dropped 𝓛 0 (plain (λ _. Heap.the_row)) (f.ended).kept.0 (λ κs x w. refl), tt)
    f.Key.name code.function (code.unfolded 𝓤 H 𝓜 𝓡 wired) (λ z are.
    let a = z.0.3.0 in let Post : Val → SProp 𝓤 = (walk_of 𝓛 f.ended stayed c).post z in let Run : List Val → SProp 𝓤 = λ ws. WpFn 𝓤 H 𝓣.C 𝓣.Λ code.function ws Post in
    let made : Handle = record { at = null_ptr; alloc = a; machine = None } in
    qed 𝓛 ((‵ ftrue ⊛ ‵ (owns (types_at (f.ended).signature.params tt) z.0.3 z.0.4)) ∷ raw ((c tt z.0.3).requires z.1) ∷ []) ∵ split ! $ move ! (1 ∷ []) $ fsplit ! $
    handle_tells E.al ! a z.0.4.0 (λ hv e fits.
    let w : Val = vstruct (vcons (ptr_val null_ptr) (vcons hv vnil)) in
    suffices ! (Run (hv ∷ [])) (subst (λ (us : List Val). ent 𝓤 (Run (hv ∷ [])) (Run us)) (sym (λ i. e i ++ [])) (id⊢ 𝓤 (Run (hv ∷ [])))) $
    enter ! 𝓣.C 𝓣.Λ code.function (hv ∷ []) Post $ alloc_all ! (λ l. pass_all ! refl (fits, tt) $
    sets ! (agg ! (and_then ! (lit ! tt) (and_then ! (get ! refl) (no_more !)))) refl (and_tt _ fits.0, (record { fits = lit< tt }, (fits.1, tt))) $
    nothing ! $ fpack ! (null_ptr ≡ null_ptr) (λ _. ftrue) refl $
    nothing ! $ move ! (2 ∷ 0 ∷ []) $ fjoin ! $ feq_i ! (List Val) (ptr_val null_ptr ∷ []) (ptr_val null_ptr ∷ []) refl $ fjoin ! $ feq_i ! (List Val) (w ∷ []) (w ∷ []) refl $ fjoin ! $
    fpack ! (Valss (RawPtr ∷ (Heap.the_field).row ∷ [])) (within (shape held.the_type) (to held.the_type made) (w ∷ [])) (ptr_val null_ptr ∷ [], (hv ∷ [], tt)) $ fjoin ! $
    use0 𝓛 (raw (fact 𝓤 (made.machine ≡ None))) (fact_i 𝓤 (made.machine ≡ None) (emp 𝓤) refl) $ nothing ! $ nothing ! $ fjoin ! $
    returns ! (look_at ! 0 refl) $ free_all ! refl $ keep ! (4 ∷ 0 ∷ 2 ∷ 1 ∷ []) $ by ! (leaves 𝓛 f.ended stayed c z w made (tt, tt) (tt, tt)))))
