-- A region that is dropped hands out its bytes, as they are.
use Rattle.std.proofs.Common.{◌≡◌, List, [], ◌∷◌, ◌++◌, length, refl, sym, subst, ap, ◌∙◌}
use mir.Val.{Val, vunit, vstruct, vcons, vnil, of_list}
use base.Logic.{SProp, ent, id⊢}
use base.Fml.{ftrue}
use prog.Wp.{WpFn}
use types.Kit.{‵, raw, ◌⊛◌, some, later, ◌$◌, ◌∵◌, !, qed, by, move, drop, use1, use2, split, join, fsplit, fjoin, fpick, feq_i, feq_l, pick, await, rewrite, suffices}
use types.Part.{whole, sub}
use types.Run.{stop, fld, unit_lit, of_opd, no_more, and_then, returns, enter}
use types.ByLocal.{alloc_all, pass_all, free_all, look_at, get, get_in, sets, lands_as}
use contract.Running.{tables}
use denote.Builtin.{unit}
use denote.RattleType.{owns}
use denote.Signature.{types_at, plain}
use denote.Steps.{nothing, only}
use denote.Triple.Call.{calls_at}
use denote.Triple.Clauses.{lasts}
use denote.Triple.Spec.{triple_of}
use denote.Triple.Table.{framed}
use denote.Triple.Walked.{Stays, stay_dropped, walk_of, Goes-dropped}
use Rattle.std.proofs.ResultValues.{and_tt}
use Rattle.std.proofs.raw_atomic.Walks.{proved_at, leaves}
use Rattle.region.specs.Region.{bytes_owned}
use Rattle.region.specs.declared.region.Region.{Region}
use Rattle.region.specs.contracts.region.Region.forget as g
use Rattle.region.proofs.Regions.{word, region_had, region_made, pointer_typed}
use Rattle.region.proofs.region.Region.forget.Met.{met}
use Rattle.region.specs.contracts.kept_region.KeptRegion as held
use Rattle.region.specs.contracts.kept_region.KeptRegion.drop as f
use Rattle.region.proofs.kept_region.KeptRegion.drop.Statement.{statement}
use Rattle.region.proofs.kept_region.KeptRegion.drop.Code as code

abbrev stayed : Stays (f.ended).signature.params (f.ended).kept
stayed = (stay_dropped _ (f.ended).kept.0, tt)

pub drop_spec : {M : Type 1} → statement M
drop_spec 𝓤 𝓛 𝓜 𝓡 wired =
    let H = 𝓛.H in let 𝓣 = tables 𝓤 H 𝓜 𝓡 𝓡.env in let c = f.clauses 𝓛 𝓜.mem 𝓡.returns in
    proved_at 𝓛 f.ended stayed c 𝓜 𝓡 (Goes-dropped 𝓛 0 (plain (λ _. held.the_row)) (f.ended).kept.0 (λ κs x w. refl), tt)
    f.Key.name code.function (code.unfolded 𝓤 H 𝓜 𝓡 wired) (λ z are.
    let Post : Val → SProp 𝓤 = (walk_of 𝓛 f.ended stayed c).post z in let Run : List Val → SProp 𝓤 = λ ws. WpFn 𝓤 H 𝓣.C 𝓣.Λ code.function ws Post in
    let Owned = λ (i : Region). ‵ (bytes_owned i.at (length i.content) i.content) in
    qed 𝓛 ((‵ ftrue ⊛ ‵ (owns (types_at (f.ended).signature.params tt) z.0.3 z.0.4)) ∷ raw ((c tt z.0.3).requires z.1) ∷ []) ∵ move ! (1 ∷ []) $ drop ! $ split ! $ drop ! $ fsplit ! $ move ! (1 ∷ []) $ drop ! $
    fpick ! (λ x. fsplit ! $ move ! (1 ∷ []) $ drop ! $
    let i : Region = x.0.region in
    fpick ! (λ vss. fsplit ! $ feq_l ! (λ all. fsplit ! $ region_had ! i vss.0 (λ is small.
    move ! (1 ∷ []) $ drop ! $
    let inside : Val = word i.at i.len in
    let w : Val = vstruct (vcons inside vnil) in
    let words : z.0.4.0 ≡ w ∷ [] = all ∙ (λ j. vstruct (of_list (is j ++ [])) ∷ []) in
    region_made ! i small $
    let G = triple_of 𝓛 g.signature (g.spec 𝓛 𝓜.mem 𝓡.returns) in
    let y : G.Ghost = ((tt, tt, tt, (i, tt), (inside ∷ [], tt)), tt) in
    nothing ! $ move ! (1 ∷ 0 ∷ []) $ join ! $ nothing ! $ join ! $ nothing ! $ move ! (1 ∷ 0 ∷ []) $ use2 𝓛 (raw (G.pre y)) (id⊢ 𝓤 _) $
    suffices ! (Run (w ∷ [])) (subst (λ (us : List Val). ent 𝓤 (Run (w ∷ [])) (Run us)) (sym (λ j. words j ++ [])) (id⊢ 𝓤 (Run (w ∷ [])))) $
    enter ! 𝓣.C 𝓣.Λ code.function (w ∷ []) Post $ alloc_all ! (λ l.
    pass_all ! refl ((and_tt _ (and_tt _ (pointer_typed i.at).0), (((pointer_typed i.at).1, (record { fits = small }, tt)), tt)), tt) $
    sets ! (of_opd ! (get_in ! (fld ! refl (stop !)) (sub ! 0 refl (whole !)))) refl (and_tt _ (pointer_typed i.at).0, ((pointer_typed i.at).1, (record { fits = small }, tt))) $
    sets ! (of_opd ! (get ! refl)) refl (and_tt _ (pointer_typed i.at).0, ((pointer_typed i.at).1, (record { fits = small }, tt))) $
    calls_at ! (framed 𝓤 H 𝓜 (tables 𝓤 H 𝓜 𝓡 𝓡.env)) G (met 𝓤 𝓛 𝓜 𝓡 (code.calls-region::region::Region::forget 𝓡.env wired)) y
    (and_then ! (get ! refl) (no_more !)) (λ v.
    use1 𝓛 (later (some (λ (r : Unit {0}). (‵ ftrue ⊛ ‵ (unit.own_val r (v ∷ []))) ⊛
    some (λ (ws : Unit {0} × Unit {0}). ‵ (lasts g.ended tt (i, tt) ws) ⊛ Owned i)))) (id⊢ 𝓤 _) $
    await ! tt $ pick ! (λ r. split ! $ split ! $ drop ! $ feq_l ! (λ is_unit. pick ! (λ ws. split ! $ drop ! $
    lands_as ! (ap only is_unit) refl (tt, tt) $
    sets ! (of_opd ! (unit_lit !)) refl (tt, tt) $
    returns ! (look_at ! 0 refl) $ free_all ! refl $
    rewrite ! 0 Owned x.1.0 refl $
    feq_i ! (List Val) (vunit ∷ []) (vunit ∷ []) refl $ nothing ! $ nothing ! $ fjoin ! $ nothing ! $
    by ! (leaves 𝓛 f.ended stayed c z vunit tt (tt, tt) (tt, tt))))))))))))
