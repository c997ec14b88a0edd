-- `region_of` hands the bytes of an open box over to a region, and the right to free them is let go.
use Rattle.std.proofs.Common.{◌≡◌, ℕ, ◌^◌, ◌<◌, List, [], ◌∷◌, ◌++◌, length, refl, sym, subst, ap, w64, lit<}
use base.Logic.{SProp, ent, id⊢, emp, via, guard_i}
use base.Fml.{ftrue}
use contract.Monad.{fact, fact_i}
use contract.Running.{tables}
use lib.Dec.{T}
use mir.Syntax.{impl, tnil, dnil}
use mir.Val.{has_ty, Fits, WT, Val, vint}
use prog.Wp.{Env, WpFn, spot_of}
use types.Kit.{‵, raw, ◌⊛◌, some, later, at_ret, ◌$◌, ◌∵◌, !, qed, by, move, keep, drop, use0, use1, use2, split, join, fsplit, fjoin, feq_i, flt_i, pick, await, rewrite, suffices}
use types.Part.{whole, sub}
use types.Run.{stop, fld, of_opd, no_more, and_then, first, blocks, exec, returns, enter}
use types.ByLocal.{alloc_all, pass_all, free_all, look_at, get, get_in, sets, lands_last, env}
use denote.Array.{Array}
use denote.Builtin.{u8}
use denote.Param.Laws.{Laws, array_laws, of_field}
use denote.Param.Shared.{copy_shared}
use denote.RattleType.{RattleType, owns}
use denote.RawPtr.{Ptr, block_ptr, ptr_val, rawptr_vals}
use denote.Plain.{uint_vals}
use denote.Signature.{plain, types_at}
use denote.Steps.{nothing, heard, only}
use denote.Struct.Field.{u8-field}
use denote.Struct.Laws.{u8-laws, u8-copy}
use denote.Triple.Call.{calls_at_last}
use denote.Triple.Clauses.{lasts}
use denote.Triple.Spec.{triple_of}
use denote.Triple.Table.{framed}
use denote.Triple.Walked.{Stays, stay_dropped, walk_of, Goes-dropped}
use Rattle.std.proofs.BoxSteps.Form.{Bx, D, word as box_word, box_typed}
use Rattle.std.proofs.BoxSteps.Steps.{box_out}
use Rattle.std.proofs.ResultValues.{and_tt}
use Rattle.std.proofs.VecSteps.Shapes.{after}
use Rattle.std.proofs.alloc.Global.TheLaws as heap
use Rattle.std.proofs.raw_atomic.Walks.{proved_at, leaves}
use Rattle.std.specs.contracts.alloc.Global as Heap
use Rattle.std.specs.contracts.impls.GlobalAllocator.TheImpl.{ghosts, dict}
use Rattle.raw_box.specs.contracts.open_box.OpenBox as OpenBox
use Rattle.region.specs.declared.region.Region.{Region}
use Rattle.region.specs.contracts.region.Region.from_raw_parts as g
use Rattle.region.specs.Region.{bytes_owned}
use Rattle.region.proofs.Regions.{Row as RegionRow, pointer_typed, region_had, region_made}
use Rattle.region.proofs.region.Region.from_raw_parts.Met.{met}
use Rattle.windows.specs.contracts.window.region_of as f
use Rattle.windows.proofs.window.region_of.Statement.{statement}
use Rattle.windows.proofs.window.region_of.Code as code

abbrev byte_laws : Laws u8
byte_laws = of_field u8-field u8-laws refl (copy_shared u8-field u8-copy)

abbrev count : ℕ
count = 24576

abbrev Bytes : RattleType
Bytes = Array u8 count

abbrev E : Bx
E = record { row = Bytes; laws = array_laws u8 byte_laws count; al = record { row = Heap.the_row; laws = heap.the_row_laws; g = ghosts; d = dict; drops = impl [] tnil dnil } }

abbrev Open : RattleType
Open = OpenBox.the_row Bytes Heap.the_row ghosts

abbrev stayed : Stays (f.ended).signature.params (f.ended).kept
stayed = (stay_dropped _ (f.ended).kept.0, tt)

pub region_of_spec : {M : Type 1} → statement M
region_of_spec 𝓤 𝓛 𝓜 𝓡 wired =
    let H = 𝓛.H in let 𝓣 = tables 𝓤 H 𝓜 𝓡 𝓡.env in let c = f.clauses 𝓛 𝓜.mem 𝓡.returns in
    proved_at 𝓛 f.ended stayed c 𝓜 𝓡 (Goes-dropped 𝓛 0 (plain (λ _. Open)) (f.ended).kept.0 (λ κs x w. refl), tt)
    f.Key.name code.function (code.unfolded 𝓤 H 𝓜 𝓡 wired) (λ z are.
    let Post : Val → SProp 𝓤 = (walk_of 𝓛 f.ended stayed c).post z in let Run : List Val → SProp 𝓤 = λ us. WpFn 𝓤 H 𝓣.C 𝓣.Λ code.function us Post in
    let d : D E = record { ptr = z.0.3.0.address; alloc = z.0.3.0.heap; value = z.0.3.0.held } in let xs : List ℕ = d.value in
    qed 𝓛 ((‵ ftrue ⊛ ‵ (owns (types_at (f.ended).signature.params tt) z.0.3 z.0.4)) ∷ raw (fact 𝓤 (length xs ≡ count)) ∷ []) ∵ move ! (1 ∷ []) $ heard ! (length xs ≡ count) (λ all.
    split ! $ drop ! $ fsplit ! $ box_out E ! d z.0.4.0 (λ b o hv at_b is fits. keep ! (0 ∷ []) $
    let p : Ptr = block_ptr b o in let w : Val = box_word E hv b o in
    let G = triple_of 𝓛 g.signature (g.spec 𝓛 𝓜.mem 𝓡.returns) in
    let y : G.Ghost = ((tt, tt, tt, (p, (count, tt)), (rawptr_vals p, (uint_vals w64 count, tt))), xs) in
    use1 𝓛 (‵ (bytes_owned p count xs)) (id⊢ 𝓤 _) $
    use0 𝓛 (raw (fact 𝓤 (count < 2 ^ 63))) (fact_i 𝓤 (count < 2 ^ 63) (emp 𝓤) (lit< tt)) $ join ! $
    use0 𝓛 (raw (fact 𝓤 (count ≡ length xs))) (fact_i 𝓤 (count ≡ length xs) (emp 𝓤) (sym all)) $ join ! $
    nothing ! $ flt_i ! count (2 ^ 64) (lit< tt) $ feq_i ! (List Val) (vint w64 count ∷ []) (vint w64 count ∷ []) refl $ fjoin ! $ fjoin ! $
    feq_i ! (List Val) (ptr_val p ∷ []) (ptr_val p ∷ []) refl $ fjoin ! $ nothing ! $ join ! $ use2 𝓛 (raw (G.pre y)) (id⊢ 𝓤 _) $
    suffices ! (Run (w ∷ [])) (subst (λ (us : List Val). ent 𝓤 (Run (w ∷ [])) (Run us)) (sym (λ i. is i ++ [])) (id⊢ 𝓤 (Run (w ∷ [])))) $
    enter ! 𝓣.C 𝓣.Λ code.function (w ∷ []) Post $ alloc_all ! (λ l.
    let En : Env 𝓤 H = env (code.function).locals l in
    pass_all ! refl (box_typed E hv b o fits, tt) $
    sets ! (of_opd ! (get_in ! (fld ! refl (stop !)) (sub ! 0 refl (whole !)))) refl (pointer_typed p) $
    first ! $ blocks ! $ sets ! (of_opd ! (get ! refl)) refl (pointer_typed p) $
    calls_at_last ! (framed 𝓤 H 𝓜 (tables 𝓤 H 𝓜 𝓡 𝓡.env)) G (met 𝓤 𝓛 𝓜 𝓡 (code.calls-region::region::Region::from_raw_parts 𝓡.env wired)) y
    (and_then ! (get ! refl) (and_then ! (record { go = λ Kt h. via 𝓤 (Kt (vint w64 count)) h (guard_i 𝓤 (Fits w64 count) (Kt (vint w64 count)) (record { fits = lit< tt })) }) (no_more !))) (λ v.
    use1 𝓛 (later (some (λ (r : Region). (‵ ftrue ⊛ ‵ (RegionRow.own_val r (v ∷ []))) ⊛
    some (λ (us : Unit {0} × (Unit {0} × Unit {0})). ‵ (lasts g.ended tt (p, (count, tt)) us) ⊛ (raw (fact 𝓤 (r.content ≡ xs)) ⊛ raw (fact 𝓤 (r.at ≡ p))))))) (id⊢ 𝓤 _) $
    await ! tt $ pick ! (λ r. split ! $ split ! $ drop ! $ region_had ! r (v ∷ []) (λ here room. region_made ! r room $ move ! (1 ∷ []) $
    pick ! (λ us. split ! $ drop ! $ split ! $ heard ! (r.content ≡ xs) (λ bytes. drop ! $
    let Typed : Val → Type 0 = λ u. T (has_ty (spot_of 𝓤 H En 3).0 u) × WT u in
    let typed : Typed v = subst Typed (sym (ap only here)) (and_tt _ (pointer_typed r.at).0, ((pointer_typed r.at).1, (record { fits = room }, tt))) in
    rewrite ! 0 (λ (ws : List Val). ‵ (RegionRow.own_val r ws)) (sym here) refl $
    lands_last ! refl typed $
    exec ! 𝓣.C 𝓣.Λ En (after 2 (code.function).body) (at_ret En Post) $
    sets ! (of_opd ! (get ! refl)) refl typed $
    returns ! (look_at ! 0 refl) $ free_all ! refl $
    use0 𝓛 (raw (fact 𝓤 (r.content ≡ xs))) (fact_i 𝓤 (r.content ≡ xs) (emp 𝓤) bytes) $ move ! (1 ∷ 0 ∷ []) $
    nothing ! $ nothing ! $ fjoin ! $ nothing ! $ by ! (leaves 𝓛 f.ended stayed c z v r (tt, tt) (tt, tt)))))))))))
