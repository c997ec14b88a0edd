-- `len` reads a word through a `&`.
use Rattle.std.proofs.Common.{◌≡◌, ℕ, ◌+◌, ◌^◌, ◌<◌, List, [], ◌∷◌, length, refl, w64}
use seplogic.Ra.Ura.{Ura}
use base.Logic.{SProp, ent, sep, emp, fst∗, via}
use base.Fml.{Lft, Share, ftrue, fhide, flft}
use mir.Syntax.{named}
use mir.Val.{Val, vint, vptr}
use prog.Memory.{Memory}
use prog.Routine.{Routine}
use prog.Wp.{Calls, Loops, WpFn}
use types.Logic.{Logic, sem}
use types.Kit.{‵, ◌⊛◌, ◌$◌, ◌∵◌, !, qed, by, move, keep, use1, drop, split, join, fsplit, fjoin, feq_i, feq_l, flt_i, flt_l, frame, suffices, done}
use types.Run.{look, fld, load, stop, of_opd, returns, enter}
use types.ByLocal.{alloc_all, pass_all, free_all, look_at, through, sets}
use contract.Monad.{Fun}
use contract.Running.{tables}
use denote.Exit.{yes}
use denote.Memory.{hidden_shr}
use denote.Opens.{shr_dup, unhide}
use denote.RattleType.{owns}
use denote.Ref.{Bor, ShrRef, shr_vals, shr_Tells}
use denote.Signature.{plain}
use denote.Steps.{nothing}
use denote.Struct.Lending.{lent_out}
use denote.Triple.Clauses.{Clauses}
use denote.Triple.Entry.{on_entry}
use denote.Triple.Walked.{Stays, stay_none_ref, walk_of, ends_at, Goes-none_ref}
use Rattle.std.proofs.raw_atomic.Walks.{proved}
use Rattle.std.proofs.mem.Facts.{says_two}
use Rattle.std.proofs.Words.{word_in, word_out}
use Rattle.region.specs.declared.region.Region.{Region}
use Rattle.region.specs.contracts.region.Region as held
use Rattle.region.specs.contracts.region.Region.len as f
use Rattle.region.proofs.Regions.{Row}
use Rattle.region.proofs.Shows.{Words, fields, shows_len}
use Rattle.region.proofs.region.Region.TheLaws as laws
use Rattle.region.proofs.region.Region.len.Statement.{statement}
use Rattle.region.proofs.region.Region.len.Code as code

abbrev stayed : Stays (f.ended).signature.params (f.ended).kept
stayed = (stay_none_ref (0 ∷ []) tt (plain (λ _. Row)) yes, tt)

module _ {M : Type 1} {𝓤 : Ura M} (𝓛 : Logic 𝓤) (at_mem : Memory → SProp 𝓤) (run : Routine → Fun 𝓤) (κ : Lft) (q : Share) (b o : ℕ) (d : Region) where
  open 𝓛 use {H, A}

  abbrev c : Clauses 𝓤 f.ended
  c = f.clauses 𝓛 at_mem run

  abbrev self : Bor Region
  self = record { ref_ptr = (b, o); now = d }

  abbrev bound : (walk_of 𝓛 f.ended stayed c).Ghost
  bound = (((κ, tt), (q, tt), tt, (self, tt), (vptr b o ∷ [], tt)), tt)

  abbrev Post : Val → SProp 𝓤
  Post = (walk_of 𝓛 f.ended stayed c).post bound

  exits : d.len < 2 ^ 64 → d.len < 2 ^ 63 → d.len ≡ length d.content → ent 𝓤 (sep 𝓤 (A.lft κ q) (sem 𝓛 (hidden_shr Row κ d b o))) (Post (vint w64 d.len))
  exits fn fit count =
      qed 𝓛 (‵ (flft κ q) ∷ ‵ (hidden_shr Row κ d b o) ∷ []) ∵
      suffices ! _ (ends_at 𝓛 f.ended stayed c bound (vint w64 d.len) d.len (tt, tt) (tt, tt)) $ says_two ! (count, fit) $
      nothing ! $ move ! (1 ∷ 0 ∷ []) $ join ! $ frame ! $ feq_i ! (List Val) (vptr b o ∷ []) (vptr b o ∷ []) refl $ fjoin ! $ nothing ! $ move ! (1 ∷ 0 ∷ []) $ fjoin ! $ flt_i ! d.len (2 ^ 64) fn $ feq_i ! (List Val) (vint w64 d.len ∷ []) (vint w64 d.len ∷ []) refl $ fjoin ! $ move ! (1 ∷ 0 ∷ []) $ done !

  module _ (C : Calls 𝓤 H) (Λ : Loops 𝓤 H) where
    walk : ent 𝓤 (on_entry 𝓛 (f.ended).signature (κ, tt) (q, tt) (self, tt) (vptr b o ∷ [], tt)) (WpFn 𝓤 H C Λ code.function (vptr b o ∷ []) Post)
    walk =
        qed 𝓛 ((‵ (flft κ q) ⊛ ‵ ftrue) ∷ ‵ (owns (ShrRef (named 0) κ Row ∷ []) (self, tt) (vptr b o ∷ [], tt)) ∷ []) ∵ enter ! C Λ code.function (vptr b o ∷ []) _ $
        alloc_all ! (λ l. pass_all ! refl ((tt, tt), tt) $
        split ! $ move ! (2 ∷ []) $ fsplit ! $ fsplit ! $ drop ! $ shr_dup ! Row (laws.the_row_laws).shr_laws d b o κ $
        use1 𝓛 (‵ (hidden_shr Words κ (fields 𝓛 κ b o d) b o) ⊛ ‵ (fhide (held.the_lent d d.at κ))) (lent_out 𝓛 held.struct held.the_codes held.the_heap held.the_lent κ d b o) $ split ! $
        move ! (1 ∷ []) $
        unhide ! $ fsplit ! $ feq_l ! (λ count. fsplit ! $ flt_l ! (λ fit. drop ! $
        move ! (0 ∷ 3 ∷ []) $
        word_in ! tt d.len b (o + 8) (shows_len 𝓛 κ b o d) (λ q' fn.
        sets ! (of_opd ! (load ! (through ! refl (fld ! refl (stop !))) (look ! 1 refl))) refl (tt, record { fits = fn }) $
        word_out ! tt d.len b (o + 8) fn $
        returns ! (look_at ! 0 refl) $ free_all ! refl $
        keep ! (0 ∷ 2 ∷ []) $ by ! (exits fn fit count)))))

pub len_spec : {M : Type 1} → statement M
len_spec 𝓤 𝓛 𝓜 𝓡 wired =
    let 𝓣 = tables 𝓤 𝓛.H 𝓜 𝓡 𝓡.env in
    proved 𝓛 f.ended stayed (f.clauses 𝓛 𝓜.mem 𝓡.returns) 𝓜 𝓡 (Goes-none_ref 𝓛 1 (0 ∷ []) tt (plain (λ _. Row)) yes, tt)
    f.Key.name code.function (code.unfolded 𝓤 𝓛.H 𝓜 𝓡 wired)
    (λ κs. (shr_vals, tt)) (λ κs. (shr_Tells (named 0) κs.0 Row, tt)) (λ κs qs bounds a g are.
    via 𝓤 _ (fst∗ 𝓤 _ (emp 𝓤)) (walk 𝓛 𝓜.mem 𝓡.returns κs.0 qs.0 a.0.ref_ptr.0 a.0.ref_ptr.1 a.0.now 𝓣.C 𝓣.Λ))
