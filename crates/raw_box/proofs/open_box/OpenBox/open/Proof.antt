-- `into_raw_with_allocator` gives the two fields, and the parts own what came with them.
use Rattle.std.proofs.Common.{◌≡◌, ℕ, List, [], ◌∷◌, ◌++◌, refl, sym, subst, ap, ◌∙◌}
use seplogic.Ra.Ura.{Ura}
use mir.Syntax.{Fn, Args, Dict, a_type, dcons, dnil}
use mir.MapTy.{inst_fn}
use mir.Raw.{raw as bare}
use mir.Val.{Val, vstruct, of_list}
use base.Fraction.{full_share}
use base.Logic.{SProp, ent, id⊢, never, fst∗}
use base.Fml.{ftrue, fsep, flft}
use contract.BorrowLft.{◌⊑◌}
use contract.Monad.{Fun, fact}
use contract.Running.{tables, tables_of}
use prog.Memory.{Memory}
use prog.Routine.{Routine}
use prog.Wp.{WpFn, Tables}
use sound.WpLaws.{fm_of, WpFn-mono}
use types.Logic.{Logic, sem}
use types.Kit.{Item, ⋆, ‵, raw, ◌⊛◌, some, later, ◌$◌, ◌∵◌, !, qed, by, move, drop, use1, join, split, split3, pick, rewrite, fsplit, fjoin, fpick, feq_l, suffices, await, done}
use types.Part.{whole, sub, agg}
use types.Run.{stop, fld, no_more, and_then, of_opd, returns, enter}
use types.ByLocal.{alloc_all, pass_all, free_all, look_at, get, get_in, sets, lands_as}
use denote.Exit.{no}
use denote.Memory.{part_at}
use denote.Param.{bounded}
use denote.RattleType.{RattleType}
use denote.RawPtr.{Ptr, RawPtr, block_ptr, null_ptr, ptr_val, in_a_block}
use denote.Signature.{plain}
use denote.Steps.{heard, nothing, only}
use denote.Struct.Tuple.{Tuple}
use denote.Triple.Call.{calls_at}
use denote.Triple.Clauses.{Ended, Clauses}
use denote.Triple.Spec.{triple_of}
use denote.Triple.Statement.{Triple, Contract}
use denote.Triple.Table.{entered}
use denote.Triple.Walked.{says, Stays, stay_dropped, walk_of, ends_at, walk_Meets}
use Rattle.std.specs.Box.Ownership.{box_owns}
use Rattle.std.proofs.alloc.Calls.{token, handle_tells, Goes-blank, Fits}
use Rattle.std.proofs.BoxSteps.Form.{Bx, D, τ, R, P, B, word, handle, box_typed}
use Rattle.std.proofs.BoxSteps.Steps.{box_out, box_in}
use Rattle.std.specs.contracts.boxed.Box.into_raw_with_allocator as callee
use Rattle.std.proofs.boxed.Box.into_raw_with_allocator.Symbol as symbol
use Rattle.std.proofs.boxed.Box.into_raw_with_allocator.Met as callee_meets
use Rattle.raw_box.specs.contracts.open_box.OpenBox as OpenBox
use Rattle.raw_box.specs.contracts.open_box.OpenBox.open as promised
use Rattle.raw_box.specs.contracts.open_box.OpenBox.open.Key.{name as #self}
use Rattle.raw_box.proofs.open_box.OpenBox.open.Statement.{statement}
use Rattle.raw_box.proofs.open_box.OpenBox.open.Code as code

module _ (E : Bx) (glue : Dict) where
  abbrev passed : Args
  passed = bounded (a_type ∷ a_type ∷ []) (E.row, (E.al.row, tt)) (dcons E.al.d (dcons E.al.drops (dcons glue dnil)))

  abbrev body : Fn
  body = inst_fn passed code.function

  abbrev outside : Ended
  outside = promised.ended E.row E.al.row E.al.g E.al.d E.al.drops glue

  abbrev gone : Stays outside.signature.params outside.kept
  gone = (stay_dropped (plain (λ _. B E)) no, tt)

  abbrev Whole : RattleType
  Whole = OpenBox.the_row (R E) (P E) E.al.g

  module _ {M : Type 1} {𝓤 : Ura M} (𝓛 : Logic 𝓤) (at_mem : Memory → SProp 𝓤) (run : Routine → Fun 𝓤) (𝓣 : Tables 𝓤 𝓛.H) where
    open 𝓛 use {H}

    abbrev told : Clauses 𝓤 outside
    told = promised.clauses E.row E.al.row E.al.g E.al.d E.al.drops glue 𝓛 at_mem run

    abbrev Called : Contract 𝓤
    Called = triple_of 𝓛 (callee.signature E.row E.al.row E.al.g E.al.d E.al.drops glue) (callee.spec E.row E.al.row E.al.g E.al.d E.al.drops glue 𝓛 at_mem run)

    module _ (z : (walk_of 𝓛 outside gone told).Ghost) where
      abbrev Post : Val → SProp 𝓤
      Post = (walk_of 𝓛 outside gone told).post z

      abbrev boxed : D E
      boxed = z.0.3.0

      -- The lifetimes of the types: they are alive, and last as long as the types need.
      abbrev alive : Item 𝓤
      alive = ‵ (flft z.0.0.0 z.0.1.0) ⊛ ‵ (flft z.0.0.1.0 z.0.1.1.0) ⊛ ‵ ftrue

      abbrev lasting : Item 𝓤
      lasting = raw (fact 𝓤 (z.0.0.0 ⊑ E.row.lives)) ⊛ raw (fact 𝓤 (z.0.0.1.0 ⊑ E.al.row.lives)) ⊛ ‵ ftrue

      abbrev parts_at : ℕ → ℕ → Whole.Denot
      parts_at b o = record { address = block_ptr b o; heap = boxed.alloc; held = boxed.value }

      -- The block with the right to free it, and the allocator, are the parts that go out.
      abbrev block : ℕ → ℕ → Val → List (Item 𝓤)
      block b o hv = ‵ (part_at (R E) full_share boxed.value b o) ∷ ‵ (token E.al boxed.alloc (bare (τ E)) (block_ptr b o)) ∷ ‵ (handle E boxed.alloc hv) ∷ alive ∷ []

      leaves : (b o : ℕ) (hv : Val) → ent 𝓤 (⋆ 𝓛 (block b o hv)) (Post (word E hv b o))
      leaves b o hv =
          let out : D E = record { ptr = block_ptr b o; alloc = boxed.alloc; value = boxed.value } in
          qed 𝓛 (block b o hv) ∵ box_in E ! out b o boxed.value refl refl $ use1 𝓛 (‵ (Whole.own_val (parts_at b o) (word E hv b o ∷ []))) (id⊢ 𝓤 _) $
          suffices ! _ (ends_at 𝓛 outside gone told z (word E hv b o) (parts_at b o) ((tt, (tt, tt)), tt) (tt, tt)) $ says ! refl $
          nothing ! $ nothing ! $ fjoin ! $ join ! $ move ! (1 ∷ 0 ∷ []) $ join ! $ done !

      module _ (b o : ℕ) (hv : Val) where
        abbrev call : Called.Ghost
        call = ((z.0.0, z.0.1, tt, (boxed, tt), (word E hv b o ∷ [], tt)), tt)

        abbrev Owned : Ptr → Item 𝓤
        Owned p = ‵ (box_owns (token E.al boxed.alloc) (R E) p boxed.value)

        -- What the call gives: a pair, whose pointer owns what the box owned, and whose allocator is the box's.
        abbrev pair : Val → Ptr × E.al.row.Denot → Item 𝓤
        pair u r = (alive ⊛ ‵ ((Tuple (RawPtr ∷ P E ∷ [])).own_val r (u ∷ []))) ⊛ some (λ (_ : (Unit {0} × (Unit {0} × Unit {0})) × Unit {0}). ‵ (fsep (fsep ftrue (fsep ftrue ftrue)) ftrue) ⊛ (raw (fact 𝓤 (r.1 ≡ boxed.alloc)) ⊛ Owned r.0))

        walk : Triple 𝓤 (𝓣.C (symbol.name passed)) Called → Fits E.al hv → ent 𝓤 (Called.pre call) (WpFn 𝓤 H 𝓣.C 𝓣.Λ body (word E hv b o ∷ []) Post)
        walk met fits =
            qed 𝓛 (raw (Called.pre call) ∷ []) ∵ enter ! 𝓣.C 𝓣.Λ body (word E hv b o ∷ []) _ $
            alloc_all ! (λ ls. pass_all ! refl (box_typed E hv b o fits, tt) $ sets ! (of_opd ! (get ! refl)) refl (box_typed E hv b o fits) $
            calls_at ! (fm_of 𝓤 H 𝓛.laws 𝓣) Called met call (and_then ! (get ! refl) (no_more !)) (λ u.
            use1 𝓛 (later (some (pair u))) (id⊢ 𝓤 _) $ await ! tt $ pick ! (λ r. split ! $ move ! (1 ∷ []) $ pick ! (λ _. split3 ! $ drop ! $ heard ! (r.1 ≡ boxed.alloc) (λ same.
            in_a_block ! r.0 (λ p. box_owns (token E.al boxed.alloc) (R E) p boxed.value) (fst∗ 𝓤 (never 𝓤) (sem 𝓛 (token E.al boxed.alloc (bare (τ E)) null_ptr))) (λ b' o' at_b.
            -- the two fields of the pair
            move ! (1 ∷ []) $ split ! $ move ! (1 ∷ []) $ fpick ! (λ fields. fsplit ! $ feq_l ! (λ is_pair. fsplit ! $ feq_l ! (λ is_ptr. fsplit ! $
            rewrite ! 0 (λ (a : E.al.row.Denot). ‵ (E.al.row.own_val a fields.1.0)) same refl $ handle_tells E.al ! boxed.alloc fields.1.0 (λ hw is_alloc also_fits.
            let is_word = is_pair ∙ (λ j. vstruct (of_list ((is_ptr ∙ ap (λ (p : Ptr). ptr_val p ∷ []) at_b) j ++ (is_alloc j ++ []))) ∷ []) in
            lands_as ! (ap only is_word) refl (box_typed E hw b' o' also_fits) $
            sets ! (of_opd ! (get_in ! (fld ! refl (stop !)) (sub ! 0 refl (whole !)))) refl (tt, tt) $
            sets ! (of_opd ! (get_in ! (fld ! refl (stop !)) (sub ! 1 refl (whole !)))) refl also_fits $
            sets ! (of_opd ! (get ! refl)) refl also_fits $
            sets ! (agg ! (and_then ! (get ! refl) (and_then ! (get ! refl) (no_more !)))) refl (box_typed E hw b' o' also_fits) $
            returns ! (look_at ! 0 refl) $ free_all ! refl $
            -- [the allocator; true; the tokens; the block and the right to free it]
            move ! (1 ∷ []) $ drop ! $ move ! (2 ∷ []) $ fsplit ! $ by ! (leaves b' o' hw)))))))))))

    runs : Triple 𝓤 (𝓣.C (symbol.name passed)) Called → (z : (walk_of 𝓛 outside gone told).Ghost)
        → ent 𝓤 ((walk_of 𝓛 outside gone told).pre z) (WpFn 𝓤 H 𝓣.C 𝓣.Λ body (z.0.4.0 ++ []) ((walk_of 𝓛 outside gone told).post z))
    runs met z =
        qed 𝓛 ((alive z ⊛ ‵ (fsep ((B E).own_val (boxed z) z.0.4.0) ftrue)) ∷ lasting z ∷ []) ∵ split ! $ move ! (1 ∷ []) $ fsplit ! $
        box_out E ! (boxed z) z.0.4.0 (λ b o hv at_b is_word fits. box_in E ! (boxed z) b o (boxed z).value at_b refl $
        fjoin ! $ move ! (1 ∷ 0 ∷ []) $ join ! $ join ! $ use1 𝓛 (raw (Called.pre (call z b o hv))) (id⊢ 𝓤 _) $
        by ! (subst (λ (us : List Val). ent 𝓤 (Called.pre (call z b o hv)) (WpFn 𝓤 H 𝓣.C 𝓣.Λ body (us ++ []) (Post z))) (sym is_word) (walk z b o hv met fits)))

pub open_spec : {M : Type 1} → statement M
unfolding tables_of
open_spec 𝓤 𝓛 𝓜 𝓡 wired X Z LX LZ g d drops glue allocator drop_meets glue_meets =
    let E : Bx = record { row = X; laws = LX; al = record { row = Z; laws = LZ; g = g; d = d; drops = drops } } in
    let 𝓣 : Tables 𝓤 𝓛.H = tables_of 𝓤 𝓛.H 𝓜 (tables 𝓤 𝓛.H 𝓜 𝓡 𝓡.env) in
    let met = callee_meets.met 𝓤 𝓛 𝓜 𝓡 (code.calls-std_alloc::boxed::Box::into_raw_with_allocator 𝓡.env wired) X Z LX LZ g d drops glue allocator drop_meets glue_meets in
    entered 𝓤 𝓛.H (triple_of 𝓛 (outside E glue).signature (promised.spec X Z g d drops glue 𝓛 𝓜.mem 𝓡.returns)) 𝓣.C 𝓣.Λ (#self (passed E glue)) (body E glue) (code.unfolded 𝓤 𝓛.H 𝓜 𝓡 wired (X, (Z, tt)) d drops glue)
    (walk_Meets 𝓛 (outside E glue) (gone E glue) (Goes-blank 𝓛 2 (plain (λ _. B E)) no (λ κs x f. tt), tt) (told E glue 𝓛 𝓜.mem 𝓡.returns 𝓣) (WpFn 𝓤 𝓛.H 𝓣.C 𝓣.Λ (body E glue)) (WpFn-mono 𝓤 𝓛.H 𝓛.laws 𝓣 (body E glue))
    (runs E glue 𝓛 𝓜.mem 𝓡.returns 𝓣 met))
