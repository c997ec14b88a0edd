-- `as_slice` reads the two words through a `&`, and the bytes are lent as it is.
use Rattle.std.proofs.Common.{◌≡◌, ℕ, ◌+◌, ◌*◌, ◌^◌, ◌<◌, List, [], ◌∷◌, length, refl, sym, subst, arith}
use seplogic.Ra.Ura.{Ura}
use base.Logic.{SProp, ent, sep}
use base.Fml.{Lft, Share, ftrue, fhide, flft}
use mir.Syntax.{named}
use mir.Val.{Val, vptr}
use prog.Memory.{Memory}
use prog.Routine.{Routine}
use prog.Wp.{Env, Calls, Loops, WpFn}
use types.Logic.{Logic, sem}
use types.Kit.{‵, raw, ◌⊛◌, at_ret, ◌$◌, ◌∵◌, !, qed, by, move, keep, use1, drop, split, join, fsplit, fjoin, feq_i, feq_l, flt_i, flt_l, frame, suffices, done}
use types.Part.{agg}
use types.Run.{look, fld, load, stop, no_more, and_then, of_opd, first, blocks, exec, returns, enter}
use types.ByLocal.{alloc_all, pass_all, free_all, look_at, get, through, sets, sets_last, env}
use contract.Monad.{Fun, fact}
use contract.Running.{tables}
use denote.Array.{Array}
use denote.Builtin.{u8}
use denote.Exit.{yes}
use denote.Memory.{mem, hidden_shr}
use denote.Opens.{shr_dup, unhide, hide}
use denote.RattleType.{owns}
use denote.RawPtr.{block_of, count_of, InBlock}
use denote.Ref.{Bor, ShrRef, shr_vals, shr_Tells}
use denote.Signature.{plain}
use denote.Slice.{slice_val, elements_shared}
use denote.Steps.{nothing, heard}
use denote.Struct.Lending.{lent_at, lent_out, in_block_says}
use denote.Triple.Clauses.{Clauses}
use denote.Triple.Entry.{on_entry}
use denote.Triple.Walked.{says, Stays, stay_none_ref, walk_of, ends_at, Goes-none_ref}
use Rattle.std.proofs.raw_atomic.Walks.{proved}
use Rattle.std.proofs.VecSteps.Shapes.{after}
use Rattle.std.proofs.Words.{word_in, word_out, pointer_in, pointer_out}
use Rattle.region.specs.declared.region.Region.{Region}
use Rattle.region.specs.contracts.region.Region as held
use Rattle.region.specs.contracts.region.Region.as_slice as f
use Rattle.region.proofs.Regions.{Row, some_lent}
use Rattle.region.proofs.Shows.{Words, fields, shows_at, shows_len}
use Rattle.region.proofs.region.Region.TheLaws as laws
use Rattle.region.proofs.region.Region.as_slice.Statement.{statement}
use Rattle.region.proofs.region.Region.as_slice.Code as code

abbrev stayed : Stays (f.ended).signature.params (f.ended).kept
stayed = (stay_none_ref (0 ∷ []) tt (plain (λ _. Row)) yes, tt)

module _ {M : Type 1} {𝓤 : Ura M} (𝓛 : Logic 𝓤) (at_mem : Memory → SProp 𝓤) (run : Routine → Fun 𝓤) (κ : Lft) (q : Share) (b o : ℕ) (d : Region) where
  open 𝓛 use {H, A}

  abbrev c : Clauses 𝓤 f.ended
  c = f.clauses 𝓛 at_mem run

  abbrev self : Bor Region
  self = record { ref_ptr = (b, o); now = d }

  abbrev bound : (walk_of 𝓛 f.ended stayed c).Ghost
  bound = (((κ, tt), (q, tt), tt, (self, tt), (vptr b o ∷ [], tt)), tt)

  abbrev Post : Val → SProp 𝓤
  Post = (walk_of 𝓛 f.ended stayed c).post bound

  abbrev Entry : SProp 𝓤
  Entry = on_entry 𝓛 (f.ended).signature (κ, tt) (q, tt) (self, tt) (vptr b o ∷ [], tt)

  abbrev at : ℕ × ℕ
  at = (block_of d.at, count_of d.at)

  exits : d.len < 2 ^ 64 → d.len < 2 ^ 63 → d.len ≡ length d.content
      → ent 𝓤 (sep 𝓤 (A.lft κ q) (sep 𝓤 (sem 𝓛 (hidden_shr Row κ d b o)) (sem 𝓛 (fhide (elements_shared u8 d.content at.0 at.1 κ))))) (Post (slice_val at d.len))
  exits fn fit count =
      qed 𝓛 (‵ (flft κ q) ∷ ‵ (hidden_shr Row κ d b o) ∷ ‵ (fhide (elements_shared u8 d.content at.0 at.1 κ)) ∷ []) ∵
      suffices ! _ (ends_at 𝓛 f.ended stayed c bound (slice_val at d.len) (record { ref_ptr = at; now = d.content }) (tt, tt) (tt, tt)) $ says ! refl $
      nothing ! $ move ! (1 ∷ 0 ∷ []) $ join ! $ frame ! $ feq_i ! (List Val) (vptr b o ∷ []) (vptr b o ∷ []) refl $ fjoin ! $ nothing ! $ move ! (1 ∷ 0 ∷ []) $ fjoin ! $ frame ! $
      flt_i ! (length d.content * (mem u8).size) (2 ^ 63) (subst (λ (k : ℕ). k * 1 < 2 ^ 63) count (omega (arith, fit))) $ flt_i ! (length d.content) (2 ^ 64) (subst (λ (k : ℕ). k < 2 ^ 64) count fn) $ fjoin ! $
      feq_i ! (List Val) (slice_val at d.len ∷ []) (slice_val at (length d.content) ∷ []) (subst (λ (k : ℕ). slice_val at d.len ∷ [] ≡ slice_val at k ∷ []) count refl) $ fjoin ! $ fjoin ! $ done !

  module _ (C : Calls 𝓤 H) (Λ : Loops 𝓤 H) where
    walk : 0 < length d.content → ent 𝓤 Entry (WpFn 𝓤 H C Λ code.function (vptr b o ∷ []) Post)
    walk more =
        qed 𝓛 ((‵ (flft κ q) ⊛ ‵ ftrue) ∷ ‵ (owns (ShrRef (named 0) κ Row ∷ []) (self, tt) (vptr b o ∷ [], tt)) ∷ []) ∵ enter ! C Λ code.function (vptr b o ∷ []) _ $
        alloc_all ! (λ l. pass_all ! refl ((tt, tt), tt) $
        let En : Env 𝓤 H = env (code.function).locals l in
        split ! $ move ! (2 ∷ []) $ fsplit ! $ fsplit ! $ drop ! $ shr_dup ! Row (laws.the_row_laws).shr_laws d b o κ $
        use1 𝓛 (‵ (hidden_shr Words κ (fields 𝓛 κ b o d) b o) ⊛ ‵ (fhide (held.the_lent d d.at κ))) (lent_out 𝓛 held.struct held.the_codes held.the_heap held.the_lent κ d b o) $ split ! $
        move ! (1 ∷ []) $
        unhide ! $ fsplit ! $ feq_l ! (λ count. fsplit ! $ flt_l ! (λ fit.
        use1 𝓛 (‵ (lent_at (Array u8 d.len) d.at d.content κ)) (some_lent 𝓛 d.at d.len d.content κ (subst (λ (k : ℕ). 0 < k) (sym count) more)) $
        fsplit ! $ use1 𝓛 (raw (fact 𝓤 (InBlock d.at))) (in_block_says 𝓛 d.at) $ heard ! (InBlock d.at) (λ inb. fsplit ! $ drop ! $ hide ! $
        -- [the bytes; the words; the region; ...; the lifetime]
        move ! (1 ∷ 4 ∷ []) $
        first ! $ blocks ! $
        pointer_in ! tt d.at inb b (o + 0) (shows_at 𝓛 κ b o d) (λ q0.
        sets ! (of_opd ! (load ! (through ! refl (fld ! refl (stop !))) (look ! 1 refl))) refl (tt, tt) $
        pointer_out ! tt d.at inb b (o + 0) $ move ! (1 ∷ 0 ∷ []) $
        word_in ! tt d.len b (o + 8) (shows_len 𝓛 κ b o d) (λ q1 fn.
        sets ! (of_opd ! (load ! (through ! refl (fld ! refl (stop !))) (look ! 1 refl))) refl (tt, record { fits = fn }) $
        word_out ! tt d.len b (o + 8) fn $
        sets_last ! (agg ! (and_then ! (get ! refl) (and_then ! (get ! refl) (no_more !)))) refl (tt, (tt, (record { fits = fn }, tt))) $
        exec ! C Λ En (after 1 (code.function).body) (at_ret En Post) $
        sets ! (of_opd ! (get ! refl)) refl (tt, (tt, (record { fits = fn }, tt))) $
        returns ! (look_at ! 0 refl) $ free_all ! refl $
        keep ! (0 ∷ 3 ∷ 2 ∷ []) $ by ! (exits fn fit count)))))))

    at_each : ent 𝓤 (sep 𝓤 Entry (fact 𝓤 (0 < length d.content))) (WpFn 𝓤 H C Λ code.function (vptr b o ∷ []) Post)
    at_each = qed 𝓛 (raw Entry ∷ raw (fact 𝓤 (0 < length d.content)) ∷ []) ∵ move ! (1 ∷ []) $ heard ! (0 < length d.content) (λ more. by ! (walk more))

pub as_slice_spec : {M : Type 1} → statement M
as_slice_spec 𝓤 𝓛 𝓜 𝓡 wired =
    let 𝓣 = tables 𝓤 𝓛.H 𝓜 𝓡 𝓡.env in
    proved 𝓛 f.ended stayed (f.clauses 𝓛 𝓜.mem 𝓡.returns) 𝓜 𝓡 (Goes-none_ref 𝓛 1 (0 ∷ []) tt (plain (λ _. Row)) yes, tt)
    f.Key.name code.function (code.unfolded 𝓤 𝓛.H 𝓜 𝓡 wired)
    (λ κs. (shr_vals, tt)) (λ κs. (shr_Tells (named 0) κs.0 Row, tt)) (λ κs qs bounds a g are.
    at_each 𝓛 𝓜.mem 𝓡.returns κs.0 qs.0 a.0.ref_ptr.0 a.0.ref_ptr.1 a.0.now 𝓣.C 𝓣.Λ)
