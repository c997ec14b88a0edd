-- `as_mut_slice` lends what the region owns, and the region follows it.
use Rattle.std.proofs.Common.{◌≡◌, ℕ, ◌*◌, ◌^◌, ◌<◌, List, [], ◌∷◌, length, refl, sym, subst, ◌∙◌, arith}
use seplogic.Ra.Ura.{Ura}
use base.Fraction.{full_share}
use base.Logic.{SProp, ent, sep, id⊢}
use base.Fml.{Lft, GName, Share, Fml, ftrue, flft, fsep, feq}
use mir.Syntax.{named}
use mir.Val.{Val, vptr}
use prog.Memory.{Memory}
use prog.Routine.{Routine}
use prog.Wp.{Env, Calls, Loops, WpFn}
use types.Logic.{Logic, sem}
use types.SemTy.{cells}
use types.Kit.{‵, raw, ◌⊛◌, some, later, at_ret, ◌$◌, ◌∵◌, !, qed, by, move, keep, use1, drop, split, join, pick, rewrite, fsplit, fsplit3, fjoin, fpack, feq_i, feq_l, flt_l, flt_i, suffices, frame, done, await, group}
use types.Part.{whole, sub, look_in, agg}
use types.Run.{stop, fld, load, of_opd, first, blocks, exec, returns, enter, and_then, no_more}
use types.ByLocal.{alloc_all, pass_all, free_all, look_at, get, through, sets, sets_last, env}
use contract.Monad.{Fun, fact}
use contract.Running.{tables}
use denote.Array.{Array}
use denote.Builtin.{u8}
use denote.ArrayMemory.{Array-apart, Array-whole}
use denote.Exit.{no}
use denote.Follow.{follows}
use denote.FollowSlice.{Elements, lends_Elements}
use denote.Index.{row, whole_in, whole_out}
use denote.Memory.{part_at, part_of, mem, cell_at}
use denote.RattleType.{owns}
use denote.RawPtr.{Ptr, block_ptr, in_a_block}
use denote.Ref.{MutBor, MutRef, mut_vals, mut_Tells}
use denote.Signature.{plain, mut_ref_to}
use denote.Slice.{MutSlice, slice_val}
use denote.Steps.{nothing, opens, heard}
use denote.Triple.Clauses.{Clauses}
use denote.Triple.Entry.{on_entry}
use denote.Triple.Walked.{says, Stays, stay_dropped, walk_of, ends_at, Goes-spent_ref}
use Rattle.std.proofs.raw_atomic.Walks.{proved}
use Rattle.std.proofs.VecSteps.Shapes.{after}
use Rattle.region.specs.Region.{bytes_lie, bytes_owned}
use Rattle.region.specs.Lending.{with_content}
use Rattle.region.specs.declared.region.Region.{Region}
use Rattle.region.specs.contracts.region.Region.as_mut_slice as f
use Rattle.region.proofs.Regions.{Row, word, region_had, region_made, some_out, some_in}
use Rattle.region.proofs.region.Region.as_mut_slice.Statement.{statement}
use Rattle.region.proofs.region.Region.as_mut_slice.Code as code

abbrev stayed : Stays (f.ended).signature.params (f.ended).kept
stayed = (stay_dropped (mut_ref_to (0 ∷ []) tt (plain (λ _. Row))) no, tt)

module _ {M : Type 1} {𝓤 : Ura M} (𝓛 : Logic 𝓤) (at_mem : Memory → SProp 𝓤) (run : Routine → Fun 𝓤) (κ : Lft) (q : Share) (rb ro : ℕ) (γ : GName) (p : Ptr) (n : ℕ) (xs : List ℕ) where
  open 𝓛 use {H, A}

  abbrev c : Clauses 𝓤 f.ended
  c = f.clauses 𝓛 at_mem run

  abbrev d : Region
  d = record { at = p; len = n; content = xs }

  abbrev bound : (walk_of 𝓛 f.ended stayed c).Ghost
  bound = (((κ, tt), (q, tt), tt, (record { ref_ptr = (rb, ro); ghost_name = γ; now = d }, tt), (vptr rb ro ∷ [], tt)), tt)

  abbrev Post : Val → SProp 𝓤
  Post = (walk_of 𝓛 f.ended stayed c).post bound

  abbrev Entry : SProp 𝓤
  Entry = on_entry 𝓛 (f.ended).signature (κ, tt) (q, tt) bound.0.3 (vptr rb ro ∷ [], tt)

  abbrev Lies : List ℕ → Ptr → Fml
  Lies ws s = bytes_lie s n ws

  abbrev Cell : Ptr → Fml
  Cell s = cell_at full_share Row.mir (word s n ∷ []) rb ro

  module _ (b o : ℕ) where
    back : p ≡ block_ptr b o → length xs ≡ n → 0 < n → n < 2 ^ 64 → n < 2 ^ 63 → (ws : List ℕ) → length ws ≡ length xs
        → ent 𝓤 (sep 𝓤 (sem 𝓛 (cells (mem u8) ws b o)) (sem 𝓛 (Cell (block_ptr b o)))) (sem 𝓛 ((mem Row).own_at (with_content d ws) rb ro))
    unfolding part_of
    back e count more small fit ws same =
        qed 𝓛 (‵ (cells (mem u8) ws b o) ∷ ‵ (Cell (block_ptr b o)) ∷ []) ∵ use1 𝓛 (‵ (row u8 full_share ws b o)) (whole_out 𝓛 u8 ws b o) $
        feq_i ! ℕ (length ws) n (same ∙ count) $ fjoin ! $ use1 𝓛 (‵ (part_at (Array u8 n) full_share ws b o)) (Array-whole 𝓛 u8 full_share n ws b o) $
        use1 𝓛 (‵ (Lies ws (block_ptr b o))) (id⊢ 𝓤 _) $ rewrite ! 0 (λ (s : Ptr). ‵ (Lies ws s)) (sym e) refl $
        use1 𝓛 (‵ (bytes_owned p n ws)) (some_in 𝓛 p n ws more) $ flt_i ! n (2 ^ 63) fit $ fjoin ! $ feq_i ! ℕ n (length ws) (sym (same ∙ count)) $ fjoin ! $ region_made ! (with_content d ws) small $ move ! (1 ∷ []) $
        rewrite ! 0 (λ (s : Ptr). ‵ (Cell s)) (sym e) refl $ fjoin ! $
        fpack ! (List Val) (λ us. fsep (cell_at full_share Row.mir us rb ro) (Row.own_val (with_content d ws) us)) (word p n ∷ []) $ done !

    exits : length xs ≡ n → (γ' : GName)
        → ent 𝓤 (sep 𝓤 (sem 𝓛 ((MutSlice (named 0) κ u8).own_val (record { ref_ptr = (b, o); ghost_name = γ'; now = xs }) (slice_val (b, o) (length xs) ∷ []))) (sep 𝓤 (A.lft κ q) (sem 𝓛 (follows Row (Array u8 0) γ γ' (with_content d))))) (Post (slice_val (b, o) n))
    exits count γ' =
        let r : MutBor (List ℕ) = record { ref_ptr = (b, o); ghost_name = γ'; now = xs } in
        qed 𝓛 (‵ ((MutSlice (named 0) κ u8).own_val r (slice_val (b, o) (length xs) ∷ [])) ∷ ‵ (flft κ q) ∷ ‵ (follows Row (Array u8 0) γ γ' (with_content d)) ∷ []) ∵
        rewrite ! 0 (λ (j : ℕ). ‵ ((MutSlice (named 0) κ u8).own_val r (slice_val (b, o) j ∷ []))) count refl $
        suffices ! _ (ends_at 𝓛 f.ended stayed c bound (slice_val (b, o) n) r (tt, tt) (tt, tt)) $
        nothing ! $ nothing ! $ fjoin ! $ join ! $ nothing ! $ move ! (2 ∷ 0 ∷ []) $ join ! $ join ! $ frame ! $ says ! refl $ done !

  module _ (C : Calls 𝓤 H) (Λ : Loops 𝓤 H) where
    walk : 0 < length xs → ent 𝓤 Entry (WpFn 𝓤 H C Λ code.function (vptr rb ro ∷ []) Post)
    walk more =
        qed 𝓛 ((‵ (flft κ q) ⊛ ‵ ftrue) ∷ ‵ (owns (MutRef (named 0) κ Row ∷ []) (record { ref_ptr = (rb, ro); ghost_name = γ; now = d }, tt) (vptr rb ro ∷ [], tt)) ∷ []) ∵
        enter ! C Λ code.function (vptr rb ro ∷ []) _ $
        alloc_all ! (λ l. pass_all ! refl ((tt, tt), tt) $
        let En : Env 𝓤 H = env (code.function).locals l in
        move ! (1 ∷ []) $ fsplit ! $ fsplit3 ! $ drop ! $ move ! (3 ∷ []) $ split ! $ move ! (2 ∷ 3 ∷ 0 ∷ []) $
        opens ! tt Row {h = d} rb ro (λ vs. move ! (1 ∷ []) $ region_had ! d vs (λ ws small.
        rewrite ! 1 (λ (us : List Val). ‵ (cell_at full_share Row.mir us rb ro)) ws refl $
        fsplit ! $ feq_l ! (λ counted. fsplit ! $ flt_l ! (λ fit. use1 𝓛 (‵ (Lies xs p)) (some_out 𝓛 p n xs (subst (λ (k : ℕ). 0 < k) (sym counted) more)) $ in_a_block ! p (Lies xs) (id⊢ 𝓤 _) (λ b o e.
        use1 𝓛 (‵ (fsep (feq ℕ (length xs) n) (row u8 full_share xs b o))) (Array-apart 𝓛 u8 full_share tt n xs b o) $ fsplit ! $ feq_l ! (λ count.
        let any : 0 < n = subst (λ (k : ℕ). 0 < k) count more in
        let room : (length xs < 2 ^ 64) × (length xs * 1 < 2 ^ 63) = subst (λ (k : ℕ). (k < 2 ^ 64) × (k * 1 < 2 ^ 63)) (sym count) (small, omega (arith, fit)) in
        use1 𝓛 (‵ (cells (mem u8) xs b o)) (whole_in 𝓛 u8 xs b o) $
        rewrite ! 1 (λ (s : Ptr). ‵ (Cell s)) e refl $
        first ! $ blocks ! $
        sets ! (of_opd ! (load ! (through ! refl (fld ! refl (stop !))) (look_in ! 1 (sub ! 0 refl (whole !))))) refl (tt, tt) $
        sets ! (of_opd ! (load ! (through ! refl (fld ! refl (stop !))) (look_in ! 1 (sub ! 1 refl (whole !))))) refl (tt, record { fits = small }) $
        sets_last ! (agg ! (and_then ! (get ! refl) (and_then ! (get ! refl) (no_more !)))) refl (tt, (tt, (record { fits = small }, tt))) $
        exec ! C Λ En (after 1 (code.function).body) (at_ret En Post) $
        sets ! (of_opd ! (get ! refl)) refl (tt, (tt, (record { fits = small }, tt))) $
        move ! (2 ∷ 3 ∷ 4 ∷ 0 ∷ 1 ∷ []) $ group ! 5 $
        use1 𝓛 (later (some (λ (γ' : GName). raw (Elements 𝓛 Row u8 (with_content d) (named 0) κ q rb ro b o γ xs room (sem 𝓛 (Cell (block_ptr b o))) (back b o e count any small fit) γ'))))
        (lends_Elements 𝓛 Row u8 (with_content d) (named 0) κ q rb ro b o γ xs room (sem 𝓛 (Cell (block_ptr b o))) (back b o e count any small fit) (Row.coded.code d) (Row.coded.code d)) $ await ! tt $ pick ! (λ γ'.
        returns ! (look_at ! 0 refl) $ free_all ! refl $
        keep ! (0 ∷ []) $ by ! (exits b o count γ')))))))))

    at_each : ent 𝓤 (sep 𝓤 Entry (fact 𝓤 (0 < length xs))) (WpFn 𝓤 H C Λ code.function (vptr rb ro ∷ []) Post)
    at_each = qed 𝓛 (raw Entry ∷ raw (fact 𝓤 (0 < length xs)) ∷ []) ∵ move ! (1 ∷ []) $ heard ! (0 < length xs) (λ more. by ! (walk more))

pub as_mut_slice_spec : {M : Type 1} → statement M
as_mut_slice_spec 𝓤 𝓛 𝓜 𝓡 wired =
    let 𝓣 = tables 𝓤 𝓛.H 𝓜 𝓡 𝓡.env in
    proved 𝓛 f.ended stayed (f.clauses 𝓛 𝓜.mem 𝓡.returns) 𝓜 𝓡 (Goes-spent_ref 𝓛 1 (0 ∷ []) tt (plain (λ _. Row)), tt)
    f.Key.name code.function (code.unfolded 𝓤 𝓛.H 𝓜 𝓡 wired)
    (λ κs. (mut_vals, tt)) (λ κs. (mut_Tells (named 0) κs.0 Row, tt)) (λ κs qs bounds a g are.
    at_each 𝓛 𝓜.mem 𝓡.returns κs.0 qs.0 a.0.ref_ptr.0 a.0.ref_ptr.1 a.0.ghost_name a.0.now.at a.0.now.len a.0.now.content 𝓣.C 𝓣.Λ)
