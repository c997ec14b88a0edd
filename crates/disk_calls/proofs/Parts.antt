-- A call that may be handed out may also be handed out in part.
use Rattle.std.proofs.Common.{◌≡◌, ℕ, ◌≤◌, inl, inr, List, [], ◌∷◌, length, take, min, Bool, true, false, Option, Some, None, refl, sym, ap, ◌∙◌, arith}
use Rattle.std.specs.List.{list_any}
use Rattle.std.proofs.lemmas.Bool.{cases_Bool, lt-ltb, true≢false}
use Rattle.blk.specs.Outside.{disk_call}
use Rattle.blk.specs.declared.outside.DiskCall.{DiskCall}
use Rattle.blk.specs.declared.request.Request.{Request}
use Rattle.disk_calls.specs.Handing.{cut, left_overlaps, may_hand_out}
use Rattle.disk_calls.specs.Overlap.{overlap}
use Rattle.disk_calls.specs.Parts.{WholeMayGoInPart}
use Rattle.disk_calls.specs.declared.device_calls.TheConstants.{CALLS_MAX}
use Rattle.disk_calls.specs.declared.out.Out.{Out}
use Rattle.disk_calls.proofs.Asking.{IsPart, apart_turned, asks_one, least, let_out, part_apart, some_left}

-- Fewer of the first sectors of a call are a part of it.
fewer_are_part : (most fewer : ℕ) (asked call : DiskCall) → call ≡ cut most asked → 1 ≤ fewer → fewer ≤ most → 1 ≤ asked.count → IsPart (cut fewer asked) call
fewer_are_part most fewer asked call is any less some =
    let first : call.first ≡ asked.first = ap (λ (c : DiskCall). c.first) is in
    let count : call.count ≡ min asked.count most = ap (λ (c : DiskCall). c.count) is in
    let small = least asked.count fewer some any in
    record {
      same_what = ap (λ (c : DiskCall). c.what) (sym is);
      from = omega (arith, first);
      some = small.0;
      to = omega (arith, first, count, less);
    }

none_too : {A : Type 0} (p q : A → Bool) (xs : List A) → ((x : A) → p x ≡ false → q x ≡ false) → list_any p xs ≡ false → list_any q xs ≡ false
none_too p q [] less none = refl
none_too p q (x ∷ xs) less none =
    elim (cases_Bool (p x)) as (λ _. list_any q (x ∷ xs) ≡ false) [
      | inl is ↦ absurd (true≢false (sym (rw is refl) ∙ none))
      | inr is ↦ rw (less x is) (none_too p q xs less (rw is at none))
    ]

-- What overlaps no call overlaps no part of it.
out_too : (size : ℕ) (part whole other : DiskCall) → 1 ≤ size → IsPart part whole → overlap size other whole ≡ false → overlap size other part ≡ false
out_too size part whole other some is h = apart_turned size part other (part_apart size part whole other some is (apart_turned size other whole h))

left_too : (size : ℕ) (part whole : DiskCall) (left : Option DiskCall) → 1 ≤ size → IsPart part whole → left_overlaps size whole left ≡ false → left_overlaps size part left ≡ false
left_too size part whole None some is h = refl
left_too size part whole (Some left) some is h = out_too size part whole left some is h

pub whole_may_go_in_part : WholeMayGoInPart
whole_may_go_in_part size most fewer outs requests k call some any less h =
    let may = let_out size most outs requests k call h in
    let one = asks_one requests k may.asked may.is in
    let part = cut fewer may.asked in
    let is = fewer_are_part most fewer may.asked call may.call_is any less (some_left one.0 may.asked one.2) in
    let clear : list_any (λ (out : Out). overlap size out.call part) outs ≡ false =
    none_too (λ (out : Out). overlap size out.call call) (λ (out : Out). overlap size out.call part) outs (λ out h. out_too size part call out.call some is h) may.clear_of_outs in
    let behind : list_any (λ (r : Request). left_overlaps size part (disk_call r)) (take k requests) ≡ false =
    none_too (λ (r : Request). left_overlaps size call (disk_call r)) (λ (r : Request). left_overlaps size part (disk_call r)) (take k requests) (λ r h. left_too size part call (disk_call r) some is h) may.clear_of_earlier in
    let room = lt-ltb (length outs) CALLS_MAX may.room in
    let goes : may_hand_out size outs (take k requests) part ≡ true = rw (room, clear, behind) refl in
    (part, rw (may.is, goes) refl)
