-- The calls of a device that are out: they stay apart and within 2^64.
use Rattle.std.proofs.Common.{◌≡◌, ℕ, ◌≤◌, ◌∙◌, inl, inr, List, [], ◌∷◌, ◌++◌, min, false, Some, sym, ap, arith}
use Rattle.std.specs.List.{list_any, remove}
use Rattle.std.proofs.lemmas.Option.{get_or_from_slice_get, slice_get_within}
use Rattle.blk.specs.declared.outside.DiskCall.{DiskCall}
use Rattle.blk.specs.declared.request.Request.{Request}
use Rattle.disk_calls.specs.Calls.{AreApart, AreWithin, IsWithin}
use Rattle.disk_calls.specs.Handing.{call_at}
use Rattle.disk_calls.specs.Overlap.{overlap}
use Rattle.disk_calls.specs.declared.out.Out.{Out}
use Rattle.disk_calls.proofs.Asking.{apart_turned, asks_one, came_from, get_last, is_left, least, let_out, none_of, some_left, some_units, still_two}

pub apart_pushed : (size : ℕ) (outs : List Out) (new : Out) → list_any (λ out. overlap size out.call new.call) outs ≡ false → AreApart size outs → AreApart size (outs ++ new ∷ [])
apart_pushed size outs new clear apart i j a b is_a is_b two =
    elim (get_last outs new i a is_a) as (λ _. overlap size a.call b.call ≡ false) [
      | inl old_a ↦ elim (get_last outs new j b is_b) as (λ _. overlap size a.call b.call ≡ false) [
        | inl old_b ↦ apart i j a b old_a old_b two
        | inr new_b ↦ ap (λ (b : Out). overlap size a.call b.call) new_b.1 ∙ none_of (λ (out : Out). overlap size out.call new.call) outs i a clear old_a
      ]
      | inr new_a ↦ elim (get_last outs new j b is_b) as (λ _. overlap size a.call b.call ≡ false) [
        | inl old_b ↦ ap (λ (a : Out). overlap size a.call b.call) new_a.1 ∙ apart_turned size b.call new.call (none_of (λ (out : Out). overlap size out.call new.call) outs j b clear old_b)
        | inr new_b ↦ absurd (two (new_a.0 ∙ sym new_b.0))
      ]
    ]

pub apart_removed : (size : ℕ) (outs : List Out) (k : ℕ) → AreApart size outs → AreApart size (remove outs k)
apart_removed size outs k apart i j a b is_a is_b two =
    let from_a = came_from outs k i a is_a in
    let from_b = came_from outs k j b is_b in
    apart from_a.n from_b.n a b from_a.is from_b.is (still_two outs k i j a b from_a from_b two)

-- A call that was let out is within 2^64.
pub let_out_within : (size most : ℕ) (outs : List Out) (requests : List Request) (k : ℕ) (call : DiskCall) → 1 ≤ most → AreWithin requests → call_at size most outs requests k ≡ Some call → IsWithin call
let_out_within size most outs requests k call any within h =
    let may = let_out size most outs requests k call h in
    let one = asks_one requests k may.asked may.is in
    let left = is_left one.0 may.asked one.2 in
    let few = least may.asked.count most (some_left one.0 may.asked one.2) any in
    let first : call.first ≡ may.asked.first = ap (λ (c : DiskCall). c.first) may.call_is in
    let count : call.count ≡ min may.asked.count most = ap (λ (c : DiskCall). c.count) may.call_is in
    let open_ = some_units one.0.verdict one.0.done one.0.units left.is_waiting in
    let end = rw (get_or_from_slice_get requests k one.0 one.0 one.1) at (within k one.0 (slice_get_within requests k one.0 one.1)) in
    record { some = omega (arith, count, few.0); to = omega (arith, first, count, few.1, left.first, left.count, open_, end) }
