-- `from_raw_parts` takes over the bytes.
use Rattle.std.proofs.Common.{◌≡◌, ℕ, ◌^◌, ◌<◌, [], ◌∷◌, length, refl, w64}
use contract.Monad.{fact}
use contract.Running.{tables}
use types.Kit.{‵, raw, ◌⊛◌, ◌$◌, ◌∵◌, !, qed, done, drop, split, join, fjoin, feq_i, flt_i, suffices}
use types.Part.{agg}
use types.Run.{no_more, and_then, returns, enter}
use types.ByLocal.{alloc_all, pass_all, free_all, look_at, get, sets}
use denote.Builtin.{usize}
use denote.Exit.{yes}
use denote.Plain.{uint_vals, uint_Tells}
use denote.RawPtr.{Ptr, RawPtr, rawptr_vals, rawptr_Tells}
use denote.Signature.{plain}
use denote.Steps.{nothing, heard}
use denote.Triple.Entry.{on_entry}
use denote.Triple.Walked.{Stays, stay_dropped, walk_of, ends_at, Goes-dropped}
use Rattle.std.proofs.raw_atomic.Walks.{proved}
use Rattle.std.proofs.mem.Facts.{says_two}
use Rattle.std.proofs.ResultValues.{and_tt}
use Rattle.region.specs.Region.{bytes_owned}
use Rattle.region.specs.declared.region.Region.{Region}
use Rattle.region.specs.contracts.region.Region.from_raw_parts as f
use Rattle.region.proofs.Regions.{word, pointer_typed, region_made}
use Rattle.region.proofs.region.Region.from_raw_parts.Statement.{statement}
use Rattle.region.proofs.region.Region.from_raw_parts.Code as code

abbrev stayed : Stays (f.ended).signature.params (f.ended).kept
stayed = (stay_dropped _ yes, (stay_dropped _ yes, tt))

pub from_raw_parts_spec : {M : Type 1} → statement M
from_raw_parts_spec 𝓤 𝓛 𝓜 𝓡 wired =
    let H = 𝓛.H in let 𝓣 = tables 𝓤 H 𝓜 𝓡 𝓡.env in let c = f.clauses 𝓛 𝓜.mem 𝓡.returns in let W = walk_of 𝓛 f.ended stayed c in
    proved 𝓛 f.ended stayed c 𝓜 𝓡 (Goes-dropped 𝓛 0 (plain (λ _. RawPtr)) yes (λ κs x w. refl), (Goes-dropped 𝓛 0 (plain (λ _. usize)) yes (λ κs x w. refl), tt))
    f.Key.name code.function (code.unfolded 𝓤 H 𝓜 𝓡 wired)
    (λ κs. (rawptr_vals, (uint_vals w64, tt))) (λ κs. (rawptr_Tells, (uint_Tells w64, tt))) (λ κs qs bounds a xs are.
    let p : Ptr = a.0 in let n : ℕ = a.1.0 in let small : n < 2 ^ 64 = are.1.0.1 in
    let y : W.Ghost = ((κs, qs, bounds, a, (rawptr_vals p, (uint_vals w64 n, tt))), xs) in
    let made : Region = record { at = p; len = n; content = xs } in
    let Count : Type 0 = n ≡ length xs in
    let Few : Type 0 = n < 2 ^ 63 in
    qed 𝓛 (raw (on_entry 𝓛 f.signature κs qs a y.0.4) ∷ (raw (fact 𝓤 Count) ⊛ (raw (fact 𝓤 Few) ⊛ ‵ (bytes_owned p n xs))) ∷ []) ∵ drop ! $
    split ! $ heard ! Count (λ count. split ! $ heard ! Few (λ fit.
    flt_i ! n (2 ^ 63) fit $ fjoin ! $ feq_i ! ℕ n (length xs) count $ fjoin ! $ region_made ! made small $
    enter ! _ _ _ _ _ $ alloc_all ! (λ l. pass_all ! refl (pointer_typed p, ((tt, record { fits = small }), tt)) $
    sets ! (agg ! (and_then ! (get ! refl) (and_then ! (get ! refl) (no_more !)))) refl (and_tt _ (pointer_typed p).0, ((pointer_typed p).1, (record { fits = small }, tt))) $
    returns ! (look_at ! 0 refl) $ free_all ! refl $
    suffices ! _ (ends_at 𝓛 f.ended stayed c y (word p n) made (tt, (tt, tt)) (tt, (tt, tt))) $ says_two ! (refl, refl) $
    nothing ! $ nothing ! $ join ! $ nothing ! $ join ! $ nothing ! $ done !))))
