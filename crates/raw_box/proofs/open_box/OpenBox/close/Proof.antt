-- What the parts own pays for a call of `from_raw`, and the box that it answers is the result.
use Rattle.std.proofs.Common.{◌≡◌, ℕ, List, [], ◌∷◌, ◌++◌, refl, sym, subst, ap}
use lib.Dec.{T}
use seplogic.Ra.Ura.{Ura}
use mir.Syntax.{Fn, Body, place, copy, assign, rv_opd, seq, return}
use mir.MapTy.{inst_fn}
use mir.Val.{Val, vptr, has_ty, WT}
use base.Fraction.{full_share}
use base.Logic.{SProp, ent, id⊢}
use base.Fml.{ftrue, fsep, flft}
use contract.BorrowLft.{◌⊑◌}
use contract.Monad.{Fun, fact}
use contract.Running.{tables, tables_of}
use prog.Memory.{Memory}
use prog.Routine.{Routine}
use prog.Wp.{WpFn, Tables}
use sound.WpLaws.{fm_of, WpFn-mono}
use types.Logic.{Logic}
use types.Kit.{Item, ⋆, ‵, raw, ◌⊛◌, some, later, at_ret, ◌$◌, ◌∵◌, !, qed, by, move, keep, drop, use1, join, split, split3, pick, group, rewrite, fsplit, fjoin, feq_i, suffices, await, done}
use types.Part.{whole, sub}
use types.Run.{stop, fld, no_more, and_then, of_opd, returns, enter, first, blocks, exec}
use types.ByLocal.{alloc_all, pass_all, free_all, look_at, get, get_in, sets, lands_last, env}
use denote.Exit.{no}
use denote.Memory.{part_at}
use denote.RattleType.{RattleType}
use denote.RawPtr.{block_ptr}
use denote.Signature.{plain}
use denote.Steps.{heard, nothing, only}
use denote.Triple.Call.{calls_at_last}
use denote.Triple.Clauses.{Ended, Clauses}
use denote.Triple.Spec.{triple_of}
use denote.Triple.Statement.{Triple, Contract}
use denote.Triple.Table.{entered}
use denote.Triple.Walked.{says, Stays, stay_dropped, walk_of, ends_at, walk_Meets}
use mir.Raw.{raw as bare}
use Rattle.std.proofs.alloc.Calls.{token, Goes-blank, Fits}
use Rattle.std.proofs.BoxSteps.Form.{Bx, D, R, P, B, τ, args, box_ty, word, handle, box_typed}
use Rattle.std.proofs.BoxSteps.Steps.{box_out, box_in}
use Rattle.std.specs.contracts.boxed.Box.from_raw as callee
use Rattle.std.proofs.boxed.Box.from_raw.Symbol as symbol
use Rattle.std.proofs.boxed.Box.from_raw.Met as callee_meets
use Rattle.raw_box.specs.contracts.open_box.OpenBox as OpenBox
use Rattle.raw_box.specs.contracts.open_box.OpenBox.close as promised
use Rattle.raw_box.specs.contracts.open_box.OpenBox.close.Key.{name as #self}
use Rattle.raw_box.proofs.open_box.OpenBox.close.Statement.{statement}
use Rattle.raw_box.proofs.open_box.OpenBox.close.Code as code

-- What runs behind the call.
abbrev behind : Body
behind = seq (assign (place 0 []) (rv_opd (copy (place 4 [])))) return

module _ (E : Bx) where
  abbrev body : Fn
  body = inst_fn (args E) code.function

  abbrev outside : Ended
  outside = promised.ended E.row E.al.row E.al.g E.al.d E.al.drops

  abbrev Whole : RattleType
  Whole = OpenBox.the_row (R E) (P E) E.al.g

  abbrev gone : Stays outside.signature.params outside.kept
  gone = (stay_dropped (plain (λ _. Whole)) no, tt)

  module _ {M : Type 1} {𝓤 : Ura M} (𝓛 : Logic 𝓤) (at_mem : Memory → SProp 𝓤) (run : Routine → Fun 𝓤) (𝓣 : Tables 𝓤 𝓛.H) where
    open 𝓛 use {H}

    abbrev told : Clauses 𝓤 outside
    told = promised.clauses E.row E.al.row E.al.g E.al.d E.al.drops 𝓛 at_mem run

    abbrev Called : Contract 𝓤
    Called = triple_of 𝓛 (callee.signature E.row E.al.row E.al.g E.al.d E.al.drops) (callee.spec E.row E.al.row E.al.g E.al.d E.al.drops 𝓛 at_mem run)

    module _ (z : (walk_of 𝓛 outside gone told).Ghost) where
      abbrev Post : Val → SProp 𝓤
      Post = (walk_of 𝓛 outside gone told).post z

      abbrev boxed : D E
      boxed = record { ptr = z.0.3.0.address; alloc = z.0.3.0.heap; value = z.0.3.0.held }

      -- The lifetimes of the types: they are alive, and last as long as the types need.
      abbrev alive : Item 𝓤
      alive = ‵ (flft z.0.0.0 z.0.1.0) ⊛ ‵ (flft z.0.0.1.0 z.0.1.1.0) ⊛ ‵ ftrue

      abbrev row_lasts : Item 𝓤
      row_lasts = raw (fact 𝓤 (z.0.0.0 ⊑ E.row.lives))

      abbrev alloc_lasts : Item 𝓤
      alloc_lasts = raw (fact 𝓤 (z.0.0.1.0 ⊑ E.al.row.lives))

      -- The box goes out as the result.
      leaves : (u : Val) (d : D E) → d.value ≡ boxed.value → ent 𝓤 (⋆ 𝓛 (‵ ((B E).own_val d (u ∷ [])) ∷ alive ∷ [])) (Post u)
      leaves u d same =
          qed 𝓛 (‵ ((B E).own_val d (u ∷ [])) ∷ alive ∷ []) ∵
          suffices ! _ (ends_at 𝓛 outside gone told z u d ((tt, (tt, tt)), tt) (tt, tt)) $ says ! same $
          nothing ! $ nothing ! $ fjoin ! $ join ! $ move ! (1 ∷ 0 ∷ []) $ join ! $ done !

      module _ (b o : ℕ) (hv : Val) where
        abbrev call : Called.Ghost
        call = ((z.0.0, z.0.1, tt, (boxed.alloc, (block_ptr b o, tt)), (hv ∷ [], (vptr b o ∷ [], tt))), boxed.value)

        -- What the parts own, taken apart.
        abbrev owned : List (Item 𝓤)
        owned = ‵ (part_at (R E) full_share boxed.value b o) ∷ ‵ (token E.al boxed.alloc (bare (τ E)) (block_ptr b o)) ∷ ‵ (handle E boxed.alloc hv) ∷ ‵ ftrue ∷ alive ∷ (row_lasts ⊛ alloc_lasts ⊛ ‵ ftrue) ∷ []

        pays : ent 𝓤 (⋆ 𝓛 owned) (Called.pre call)
        pays =
            qed 𝓛 owned ∵ fjoin ! $ move ! (4 ∷ []) $ split3 ! $ move ! (1 ∷ 3 ∷ []) $ join ! $ move ! (1 ∷ 0 ∷ []) $ join ! $
            -- [the facts and the block; true; the allocator; true; the tokens]
            move ! (3 ∷ []) $ feq_i ! (List Val) (vptr b o ∷ []) (vptr b o ∷ []) refl $ fjoin ! $ move ! (3 ∷ 0 ∷ []) $ fjoin ! $ move ! (3 ∷ 0 ∷ 1 ∷ []) $ join ! $ join ! $ keep ! (0 ∷ []) $ done !

        walk : Triple 𝓤 (𝓣.C (symbol.name (args E))) Called → Fits E.al hv → ent 𝓤 (Called.pre call) (WpFn 𝓤 H 𝓣.C 𝓣.Λ body (word E hv b o ∷ []) Post)
        walk met fits =
            qed 𝓛 (raw (Called.pre call) ∷ []) ∵ enter ! 𝓣.C 𝓣.Λ body (word E hv b o ∷ []) _ $
            alloc_all ! (λ ls. pass_all ! refl (box_typed E hv b o fits, tt) $
            sets ! (of_opd ! (get_in ! (fld ! refl (stop !)) (sub ! 0 refl (whole !)))) refl (tt, tt) $
            sets ! (of_opd ! (get_in ! (fld ! refl (stop !)) (sub ! 1 refl (whole !)))) refl fits $
            first ! $ blocks ! $ sets ! (of_opd ! (get ! refl)) refl fits $
            calls_at_last ! (fm_of 𝓤 H 𝓛.laws 𝓣) Called met call (and_then ! (get ! refl) (and_then ! (get ! refl) (no_more !))) (λ u.
            use1 𝓛 (later (some (λ (d : D E). (alive ⊛ ‵ ((B E).own_val d (u ∷ []))) ⊛ some (λ (_ : Unit {0} × (Unit {0} × Unit {0})). ‵ (fsep ftrue (fsep ftrue ftrue)) ⊛ (raw (fact 𝓤 (d.value ≡ boxed.value)) ⊛ raw (fact 𝓤 (d.alloc ≡ boxed.alloc))))))) (id⊢ 𝓤 _) $
            await ! tt $ pick ! (λ d. split ! $ move ! (1 ∷ []) $ pick ! (λ _. split3 ! $ drop ! $ heard ! (d.value ≡ boxed.value) (λ same. drop ! $ split ! $ move ! (1 ∷ []) $
            box_out E ! d (u ∷ []) (λ b' o' hw at_b is_word also_fits. box_in E ! d b' o' d.value at_b refl $
            rewrite ! 0 (λ (us : List Val). ‵ ((B E).own_val d us)) (sym is_word) refl $
            let typed : T (has_ty (box_ty E) u) × WT u = subst (λ (s : Val). T (has_ty (box_ty E) s) × WT s) (sym (ap only is_word)) (box_typed E hw b' o' also_fits) in
            lands_last ! refl typed $ exec ! 𝓣.C 𝓣.Λ (env body.locals ls) behind (at_ret (env body.locals ls) Post) $
            sets ! (of_opd ! (get ! refl)) refl typed $ returns ! (look_at ! 0 refl) $ free_all ! refl $ by ! (leaves u d same)))))))

    runs : Triple 𝓤 (𝓣.C (symbol.name (args E))) Called → (z : (walk_of 𝓛 outside gone told).Ghost)
        → ent 𝓤 ((walk_of 𝓛 outside gone told).pre z) (WpFn 𝓤 H 𝓣.C 𝓣.Λ body (z.0.4.0 ++ []) ((walk_of 𝓛 outside gone told).post z))
    runs met z =
        qed 𝓛 ((alive z ⊛ ‵ (fsep ((B E).own_val (boxed z) z.0.4.0) ftrue)) ∷ (row_lasts z ⊛ alloc_lasts z ⊛ ‵ ftrue) ∷ []) ∵ split ! $ move ! (1 ∷ []) $ fsplit ! $
        box_out E ! (boxed z) z.0.4.0 (λ b o hv at_b is_word fits. group ! 6 $ use1 𝓛 (raw (Called.pre (call z b o hv))) (pays z b o hv) $
        by ! (subst (λ (us : List Val). ent 𝓤 (Called.pre (call z b o hv)) (WpFn 𝓤 H 𝓣.C 𝓣.Λ body (us ++ []) (Post z))) (sym is_word) (walk z b o hv met fits)))

pub close_spec : {M : Type 1} → statement M
unfolding tables_of
close_spec 𝓤 𝓛 𝓜 𝓡 wired X Z LX LZ g d drops allocator drop_meets =
    let E : Bx = record { row = X; laws = LX; al = record { row = Z; laws = LZ; g = g; d = d; drops = drops } } in
    let 𝓣 : Tables 𝓤 𝓛.H = tables_of 𝓤 𝓛.H 𝓜 (tables 𝓤 𝓛.H 𝓜 𝓡 𝓡.env) in
    let met = callee_meets.met 𝓤 𝓛 𝓜 𝓡 (code.calls-std_alloc::boxed::Box::from_raw 𝓡.env wired) X Z LX LZ g d drops allocator drop_meets in
    entered 𝓤 𝓛.H (triple_of 𝓛 (outside E).signature (promised.spec X Z g d drops 𝓛 𝓜.mem 𝓡.returns)) 𝓣.C 𝓣.Λ (#self (args E)) (body E) (code.unfolded 𝓤 𝓛.H 𝓜 𝓡 wired (X, (Z, tt)) d drops)
    (walk_Meets 𝓛 (outside E) (gone E) (Goes-blank 𝓛 2 (plain (λ _. Whole E)) no (λ κs x f. tt), tt) (told E 𝓛 𝓜.mem 𝓡.returns 𝓣) (WpFn 𝓤 𝓛.H 𝓣.C 𝓣.Λ (body E)) (WpFn-mono 𝓤 𝓛.H 𝓛.laws 𝓣 (body E))
    (runs E 𝓛 𝓜.mem 𝓡.returns 𝓣 met))
