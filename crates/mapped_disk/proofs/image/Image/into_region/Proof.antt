-- `into_region` hands the bytes of an image over to a region.
use Rattle.std.proofs.Common.{◌≡◌, ℕ, ◌*◌, ◌^◌, ◌<◌, List, [], ◌∷◌, ◌++◌, length, refl, sym, subst, ap, w64, arith}
use base.Logic.{SProp, ent, id⊢, emp}
use base.Fml.{ftrue}
use contract.Monad.{fact, fact_i}
use contract.Running.{tables}
use lib.Dec.{T}
use mir.Val.{has_ty, WT, Val, vint, vstruct, vcons, vnil}
use prog.Wp.{Env, WpFn, spot_of}
use types.Kit.{‵, raw, ◌⊛◌, some, later, at_ret, ◌$◌, ◌∵◌, !, qed, by, move, drop, use0, use1, use2, split, join, fsplit, fjoin, fpick, fpack, feq_l, feq_i, flt_i, flt_l, pick, await, rewrite, suffices}
use types.Part.{whole, sub, agg}
use types.Run.{stop, fld, of_opd, lit, bin, no_more, and_then, first, blocks, exec, returns, enter}
use types.ByLocal.{alloc_all, pass_all, free_all, look_at, get, get_in, sets, lands_last, env}
use denote.Builtin.{u64}
use denote.RattleType.{RattleType, Valss, owns}
use denote.RawPtr.{Ptr, ptr_val, rawptr_vals}
use denote.Plain.{uint_vals}
use denote.Signature.{plain, types_at}
use denote.Steps.{nothing, heard, only}
use denote.Struct.Declared.{shape}
use denote.Struct.Struct.{within}
use denote.Struct.Tuple.{Tuple, tuple_type}
use denote.Triple.Call.{calls_at_last}
use denote.Triple.Clauses.{lasts}
use denote.Triple.Spec.{triple_of}
use denote.Triple.Table.{framed}
use denote.Triple.Walked.{Stays, stay_dropped, walk_of, Goes-dropped}
use Rattle.std.proofs.ResultValues.{and_tt}
use Rattle.std.proofs.VecSteps.Shapes.{after}
use Rattle.std.proofs.raw_atomic.Walks.{proved_at, leaves}
use Rattle.region.specs.declared.region.Region.{Region}
use Rattle.region.specs.contracts.region.Region.from_raw_parts as g
use Rattle.region.proofs.Regions.{Row as RegionRow, word, pointer_typed, region_had, region_made}
use Rattle.region.proofs.region.Region.from_raw_parts.Met.{met}
use Rattle.mapped_disk.specs.Bytes.{bytes_of}
use Rattle.mapped_disk.specs.Over.{IsOver, image_over}
use Rattle.mapped_disk.specs.declared.image.Image.{Image}
use Rattle.mapped_disk.specs.contracts.image.Image.into_region as f
use Rattle.mapped_disk.proofs.Images.{Row, image_had, over_of, is_over_of}
use Rattle.mapped_disk.proofs.image.Image.into_region.Statement.{statement}
use Rattle.mapped_disk.proofs.image.Image.into_region.Code as code

abbrev stayed : Stays (f.ended).signature.params (f.ended).kept
stayed = (stay_dropped _ (f.ended).kept.0, tt)

abbrev Both : List RattleType
Both = RegionRow ∷ u64 ∷ []

pub into_region_spec : {M : Type 1} → statement M
into_region_spec 𝓤 𝓛 𝓜 𝓡 wired =
    let H = 𝓛.H in let 𝓣 = tables 𝓤 H 𝓜 𝓡 𝓡.env in let c = f.clauses 𝓛 𝓜.mem 𝓡.returns in
    proved_at 𝓛 f.ended stayed c 𝓜 𝓡 (Goes-dropped 𝓛 0 (plain (λ _. Row)) (f.ended).kept.0 (λ κs x w. refl), tt)
    f.Key.name code.function (code.unfolded 𝓤 H 𝓜 𝓡 wired) (λ z are.
    let Post : Val → SProp 𝓤 = (walk_of 𝓛 f.ended stayed c).post z in let Run : List Val → SProp 𝓤 = λ us. WpFn 𝓤 H 𝓣.C 𝓣.Λ code.function us Post in
    let d : Image = z.0.3.0 in let p : Ptr = d.at in let n : ℕ = d.sectors in let m : ℕ = n * 512 in let xs : List ℕ = bytes_of d.content in let w : Val = word p n in
    qed 𝓛 ((‵ ftrue ⊛ ‵ (owns (types_at (f.ended).signature.params tt) z.0.3 z.0.4)) ∷ raw ((c tt z.0.3).requires z.1) ∷ []) ∵ move ! (1 ∷ []) $ drop ! $ split ! $ drop ! $ fsplit ! $ move ! (1 ∷ []) $ drop ! $
    image_had ! d z.0.4.0 (λ is small. fsplit ! $ fpick ! (λ is_content. drop ! $ fsplit ! $ feq_l ! (λ count. fsplit ! $ flt_l ! (λ few.
    let fit : m < 2 ^ 64 = omega (arith, few) in
    let G = triple_of 𝓛 g.signature (g.spec 𝓛 𝓜.mem 𝓡.returns) in
    let y : G.Ghost = ((tt, tt, tt, (p, (m, tt)), (rawptr_vals p, (uint_vals w64 m, tt))), xs) in
    use0 𝓛 (raw (fact 𝓤 (m < 2 ^ 63))) (fact_i 𝓤 (m < 2 ^ 63) (emp 𝓤) few) $ join ! $
    use0 𝓛 (raw (fact 𝓤 (m ≡ length xs))) (fact_i 𝓤 (m ≡ length xs) (emp 𝓤) count) $ join ! $
    nothing ! $ flt_i ! m (2 ^ 64) fit $ feq_i ! (List Val) (vint w64 m ∷ []) (vint w64 m ∷ []) refl $ fjoin ! $ fjoin ! $
    feq_i ! (List Val) (ptr_val p ∷ []) (ptr_val p ∷ []) refl $ fjoin ! $ nothing ! $ join ! $ use2 𝓛 (raw (G.pre y)) (id⊢ 𝓤 _) $
    suffices ! (Run (w ∷ [])) (subst (λ (us : List Val). ent 𝓤 (Run (w ∷ [])) (Run us)) (sym (λ i. is i ++ [])) (id⊢ 𝓤 (Run (w ∷ [])))) $
    enter ! 𝓣.C 𝓣.Λ code.function (w ∷ []) Post $ alloc_all ! (λ l.
    let En : Env 𝓤 H = env (code.function).locals l in
    pass_all ! refl ((and_tt _ (pointer_typed p).0, ((pointer_typed p).1, (record { fits = small }, tt))), tt) $
    sets ! (of_opd ! (get_in ! (fld ! refl (stop !)) (sub ! 0 refl (whole !)))) refl (pointer_typed p) $
    sets ! (of_opd ! (get_in ! (fld ! refl (stop !)) (sub ! 1 refl (whole !)))) refl (tt, record { fits = small }) $
    first ! $ blocks ! $ sets ! (of_opd ! (get ! refl)) refl (tt, record { fits = small }) $
    sets ! (bin ! (get ! refl) (lit ! tt) (record { fits = fit })) refl (tt, record { fits = fit }) $
    calls_at_last ! (framed 𝓤 H 𝓜 (tables 𝓤 H 𝓜 𝓡 𝓡.env)) G (met 𝓤 𝓛 𝓜 𝓡 (code.calls-region::region::Region::from_raw_parts 𝓡.env wired)) y
    (and_then ! (get ! refl) (and_then ! (get ! refl) (no_more !))) (λ v.
    use1 𝓛 (later (some (λ (r : Region). (‵ ftrue ⊛ ‵ (RegionRow.own_val r (v ∷ []))) ⊛
    some (λ (us : Unit {0} × (Unit {0} × Unit {0})). ‵ (lasts g.ended tt (p, (m, tt)) us) ⊛ (raw (fact 𝓤 (r.content ≡ xs)) ⊛ raw (fact 𝓤 (r.at ≡ p))))))) (id⊢ 𝓤 _) $
    await ! tt $ pick ! (λ r. split ! $ split ! $ drop ! $ region_had ! r (v ∷ []) (λ here room. region_made ! r room $ move ! (1 ∷ []) $
    pick ! (λ us. split ! $ drop ! $ split ! $ heard ! (r.content ≡ xs) (λ bytes. heard ! (r.at ≡ p) (λ same.
    let both : Val = vstruct (vcons v (vcons (vint w64 n) vnil)) in
    let Typed : Val → Type 0 = λ u. T (has_ty (spot_of 𝓤 H En 5).0 u) × WT u in
    let typed : Typed v = subst Typed (sym (ap only here)) (and_tt _ (pointer_typed r.at).0, ((pointer_typed r.at).1, (record { fits = room }, tt))) in
    rewrite ! 0 (λ (ws : List Val). ‵ (RegionRow.own_val r ws)) (sym here) refl $
    lands_last ! refl typed $
    exec ! 𝓣.C 𝓣.Λ En (after 3 (code.function).body) (at_ret En Post) $
    sets ! (of_opd ! (get ! refl)) refl typed $
    sets ! (of_opd ! (get ! refl)) refl typed $
    sets ! (agg ! (and_then ! (get ! refl) (and_then ! (get ! refl) (no_more !)))) refl (and_tt _ typed.0, (typed.1, (record { fits = small }, tt))) $
    returns ! (look_at ! 0 refl) $ free_all ! refl $
    nothing ! $ flt_i ! n (2 ^ 64) small $ feq_i ! (List Val) (vint w64 n ∷ []) (vint w64 n ∷ []) refl $ fjoin ! $ fjoin ! $ move ! (1 ∷ []) $ fjoin ! $
    feq_i ! (List Val) (both ∷ []) (both ∷ []) refl $ fjoin ! $
    fpack ! (Valss Both) (within (shape (tuple_type Both)) (r, (n, tt)) (both ∷ [])) (v ∷ [], (vint w64 n ∷ [], tt)) $
    use1 𝓛 (‵ ((Tuple Both).own_val (r, n) (both ∷ []))) (id⊢ 𝓤 _) $
    use0 𝓛 (raw (fact 𝓤 (IsOver r n))) (fact_i 𝓤 (IsOver r n) (emp 𝓤) (is_over_of d r is_content bytes same)) $
    use0 𝓛 (raw (fact 𝓤 (image_over r n ≡ d))) (fact_i 𝓤 (image_over r n ≡ d) (emp 𝓤) (over_of d r is_content bytes same)) $ join ! $ move ! (1 ∷ 0 ∷ []) $
    nothing ! $ nothing ! $ fjoin ! $ nothing ! $ by ! (leaves 𝓛 f.ended stayed c z both (r, n) (tt, tt) (tt, tt))))))))))))))
