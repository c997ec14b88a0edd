-- `over` moves the address of a region into an image.
use Rattle.std.proofs.Common.{◌≡◌, ℕ, ◌*◌, ◌^◌, ◌<◌, List, [], ◌∷◌, ◌++◌, length, refl, sym, subst, ap, ◌∙◌, w64}
use base.Logic.{SProp, ent, id⊢, emp}
use base.Fml.{ftrue}
use contract.Monad.{fact, fact_i}
use contract.Running.{tables}
use mir.Val.{Val, vint, vstruct, of_list}
use prog.Wp.{WpFn}
use types.Kit.{‵, raw, ◌⊛◌, some, later, ◌$◌, ◌∵◌, !, qed, by, move, drop, use0, use1, use2, split, join, fsplit, fjoin, fpick, fpack, feq_l, feq_i, flt_i, flt_l, pick, await, rewrite, suffices}
use types.Part.{whole, sub, agg}
use types.Run.{stop, fld, of_opd, no_more, and_then, returns, enter}
use types.ByLocal.{alloc_all, pass_all, free_all, look_at, get, get_in, sets, lands_as}
use denote.Builtin.{u64, usize}
use denote.RattleType.{owns}
use denote.RawPtr.{Ptr, RawPtr}
use denote.Signature.{plain, types_at}
use denote.Steps.{nothing, heard, only}
use denote.Struct.Tuple.{Tuple}
use denote.Triple.Call.{calls_at}
use denote.Triple.Clauses.{lasts}
use denote.Triple.Spec.{triple_of}
use denote.Triple.Table.{framed}
use denote.Triple.Walked.{Stays, stay_dropped, walk_of, Goes-dropped}
use Rattle.std.proofs.ResultValues.{and_tt}
use Rattle.std.proofs.raw_atomic.Walks.{proved_at, leaves}
use Rattle.region.specs.declared.region.Region.{Region}
use Rattle.region.specs.contracts.region.Region.into_raw_parts as g
use Rattle.region.specs.Region.{bytes_owned}
use Rattle.region.proofs.Regions.{Row as RegionRow, word, pointer_typed, region_had, region_made}
use Rattle.region.proofs.region.Region.into_raw_parts.Met.{met}
use Rattle.mapped_disk.specs.Bytes.{bytes_of, cut}
use Rattle.mapped_disk.specs.Image.{IsContent}
use Rattle.mapped_disk.specs.declared.image.Image.{Image}
use Rattle.mapped_disk.proofs.Sectors.{length_cut, bytes_cut}
use Rattle.mapped_disk.specs.Over.{IsOver, image_over}
use Rattle.mapped_disk.specs.contracts.image.Image.over as f
use Rattle.mapped_disk.proofs.Images.{image_made}
use Rattle.mapped_disk.proofs.image.Image.over.Statement.{statement}
use Rattle.mapped_disk.proofs.image.Image.over.Code as code

abbrev stayed : Stays (f.ended).signature.params (f.ended).kept
stayed = (stay_dropped _ (f.ended).kept.0, (stay_dropped _ (f.ended).kept.1.0, tt))

pub over_spec : {M : Type 1} → statement M
over_spec 𝓤 𝓛 𝓜 𝓡 wired =
    let H = 𝓛.H in let 𝓣 = tables 𝓤 H 𝓜 𝓡 𝓡.env in let c = f.clauses 𝓛 𝓜.mem 𝓡.returns in
    proved_at 𝓛 f.ended stayed c 𝓜 𝓡 (Goes-dropped 𝓛 0 (plain (λ _. RegionRow)) (f.ended).kept.0 (λ κs x w. refl), (Goes-dropped 𝓛 0 (plain (λ _. u64)) (f.ended).kept.1.0 (λ κs x w. refl), tt))
    f.Key.name code.function (code.unfolded 𝓤 H 𝓜 𝓡 wired) (λ z are.
    let Post : Val → SProp 𝓤 = (walk_of 𝓛 f.ended stayed c).post z in let Run : List Val → SProp 𝓤 = λ us. WpFn 𝓤 H 𝓣.C 𝓣.Λ code.function us Post in
    let d : Region = z.0.3.0 in let n : ℕ = z.0.3.1.0 in
    qed 𝓛 ((‵ ftrue ⊛ ‵ (owns (types_at (f.ended).signature.params tt) z.0.3 z.0.4)) ∷ raw (fact 𝓤 (IsOver d n)) ∷ []) ∵ move ! (1 ∷ []) $ heard ! (IsOver d n) (λ is_over.
    split ! $ drop ! $ fsplit ! $ move ! (1 ∷ []) $ fsplit ! $ fsplit ! $ feq_l ! (λ count_is. flt_l ! (λ small. drop ! $
    region_had ! d z.0.4.0 (λ is room. region_made ! d room $
    let w : Val = word d.at d.len in let ws : List Val = w ∷ vint w64 n ∷ [] in let made : Image = image_over d n in
    let G = triple_of 𝓛 g.signature (g.spec 𝓛 𝓜.mem 𝓡.returns) in
    let y : G.Ghost = ((tt, tt, tt, (d, tt), (w ∷ [], tt)), tt) in
    nothing ! $ move ! (1 ∷ 0 ∷ []) $ join ! $ nothing ! $ join ! $ nothing ! $ move ! (1 ∷ 0 ∷ []) $ use2 𝓛 (raw (G.pre y)) (id⊢ 𝓤 _) $
    suffices ! (Run ws) (subst (λ (us : List Val). ent 𝓤 (Run ws) (Run us)) (sym (λ i. is i ++ (count_is i ++ []))) (id⊢ 𝓤 (Run ws))) $
    enter ! 𝓣.C 𝓣.Λ code.function ws Post $ alloc_all ! (λ l.
    pass_all ! refl ((and_tt _ (pointer_typed d.at).0, ((pointer_typed d.at).1, (record { fits = room }, tt))), ((tt, record { fits = small }), tt)) $
    sets ! (of_opd ! (get ! refl)) refl (and_tt _ (pointer_typed d.at).0, ((pointer_typed d.at).1, (record { fits = room }, tt))) $
    calls_at ! (framed 𝓤 H 𝓜 (tables 𝓤 H 𝓜 𝓡 𝓡.env)) G (met 𝓤 𝓛 𝓜 𝓡 (code.calls-region::region::Region::into_raw_parts 𝓡.env wired)) y
    (and_then ! (get ! refl) (no_more !)) (λ v.
    use1 𝓛 (later (some (λ (r : Ptr × ℕ). (‵ ftrue ⊛ ‵ ((Tuple (RawPtr ∷ usize ∷ [])).own_val r (v ∷ []))) ⊛
    some (λ (us : Unit {0} × Unit {0}). ‵ (lasts g.ended tt (d, tt) us) ⊛ (raw (fact 𝓤 (r.0 ≡ d.at)) ⊛ (raw (fact 𝓤 (r.1 ≡ length d.content)) ⊛ (raw (fact 𝓤 (r.1 < 2 ^ 63)) ⊛ ‵ (bytes_owned r.0 r.1 d.content)))))))) (id⊢ 𝓤 _) $
    await ! tt $ pick ! (λ r. split ! $ split ! $ drop ! $
    fpick ! (λ vss. fsplit ! $ feq_l ! (λ all. fsplit ! $ feq_l ! (λ e₀. fsplit ! $ fsplit ! $ feq_l ! (λ e₁. flt_l ! (λ big. drop ! $
    pick ! (λ us. split ! $ drop ! $ split ! $ heard ! (r.0 ≡ d.at) (λ same. split ! $ heard ! (r.1 ≡ length d.content) (λ count. split ! $ heard ! (r.1 < 2 ^ 63) (λ few.
    let here : v ∷ [] ≡ word d.at r.1 ∷ [] = all ∙ (λ i. vstruct (of_list (e₀ i ++ (e₁ i ++ []))) ∷ []) ∙ ap (λ (s : Ptr). word s r.1 ∷ []) same in
    let bytes : bytes_of (cut n d.content) ≡ d.content = bytes_cut n d.content is_over.count in
    rewrite ! 0 (λ (s : Ptr). ‵ (bytes_owned s r.1 d.content)) same refl $
    rewrite ! 0 (λ (k : ℕ). ‵ (bytes_owned d.at k d.content)) (count ∙ is_over.count) refl $
    rewrite ! 0 (λ (xs : List ℕ). ‵ (bytes_owned d.at (n * 512) xs)) (sym bytes) refl $
    flt_i ! (n * 512) (2 ^ 63) (subst (λ (k : ℕ). k < 2 ^ 63) (count ∙ is_over.count) few) $ fjoin ! $
    feq_i ! ℕ (n * 512) (length (bytes_of (cut n d.content))) (sym is_over.count ∙ ap length (sym bytes)) $ fjoin ! $
    nothing ! $ fpack ! (IsContent n (cut n d.content)) (λ _. ftrue) (record { count = length_cut n d.content; whole = is_over.whole }) $ fjoin ! $ image_made ! made small $
    lands_as ! (ap only here) refl (and_tt _ (pointer_typed d.at).0, ((pointer_typed d.at).1, (record { fits = big }, tt))) $
    sets ! (of_opd ! (get_in ! (fld ! refl (stop !)) (sub ! 0 refl (whole !)))) refl (pointer_typed d.at) $
    sets ! (agg ! (and_then ! (get ! refl) (and_then ! (get ! refl) (no_more !)))) refl (and_tt _ (pointer_typed d.at).0, ((pointer_typed d.at).1, (record { fits = small }, tt))) $
    returns ! (look_at ! 0 refl) $ free_all ! refl $
    use0 𝓛 (raw (fact 𝓤 (made ≡ made))) (fact_i 𝓤 (made ≡ made) (emp 𝓤) refl) $ move ! (1 ∷ 0 ∷ []) $
    nothing ! $ nothing ! $ fjoin ! $ nothing ! $ fjoin ! $ nothing ! $ by ! (leaves 𝓛 f.ended stayed c z (word d.at n) made (tt, (tt, tt)) (tt, (tt, tt))))))))))))))))))))
