-- What is done with the calls of a machine is a turn of one of its devices.
use Rattle.std.proofs.Common.{◌≡◌, ℕ, zero, suc, ◌∙◌, List, [], ◌∷◌, ◌++◌, set, get_or, true, Option, Some, slice_get, refl, sym, ap}
use Rattle.std.specs.List.{remove}
use Rattle.blk.specs.Outside.{answer_step, answers}
use Rattle.blk.specs.declared.outside.DiskCall.{DiskCall}
use Rattle.blk.specs.declared.request.Request.{Request}
use Rattle.disk_calls.specs.Calls.{AllCalls, CallsState, call_of, with_out, without, without_at}
use Rattle.disk_calls.specs.Desk.{Desk, Placed, outs_of, reply_to}
use Rattle.disk_calls.specs.Handing.{asker, call_at}
use Rattle.disk_calls.specs.Seen.{AnsweringIsATurn, HandingIsATurn, HandingIsNoOther}
use Rattle.disk_calls.specs.declared.out.Out.{Out}
use Rattle.disk_calls.proofs.Numbers.{get_other, get_set, the_same}

pub outs_pushed : (placed : List Placed) (p : Placed) → outs_of (placed ++ p ∷ []) ≡ outs_of placed ++ p.out ∷ []
outs_pushed [] p = refl
outs_pushed (x ∷ placed) p = ap (λ (outs : List Out). x.out ∷ outs) (outs_pushed placed p)

pub outs_removed : (placed : List Placed) (i : ℕ) → outs_of (remove placed i) ≡ remove (outs_of placed) i
outs_removed [] zero = refl
outs_removed [] (suc i) = refl
outs_removed (x ∷ placed) zero = refl
outs_removed (x ∷ placed) (suc i) = ap (λ (outs : List Out). x.out ∷ outs) (outs_removed placed i)

pub placed_at : (placed : List Placed) (i : ℕ) (out : Out) → slice_get (outs_of placed) i ≡ Some out → (p : Placed) × (slice_get placed i ≡ Some p) × (p.out ≡ out)
placed_at [] i out h = cc
placed_at (x ∷ placed) zero out h = (x, refl, cc)
placed_at (x ∷ placed) (suc i) out h = placed_at placed i out h

pub handing_is_a_turn : HandingIsATurn
handing_is_a_turn size base most asked old new handed d any out seen =
    let s = seen.device in
    let last : Placed = record { out = record { number = handed.number; call = handed.call }; at = handed.k } in
    let may_out : call_of most (slice_get old.devices handed.dev) (get_or asked handed.dev []) handed.k ≡ Some handed.call = out.next.may in
    let may_s : call_at s.size most s.outs (get_or asked handed.dev []) handed.k ≡ Some handed.call = rw seen.there at may_out in
    let may : call_at size most (outs_of d.placed) d.requests handed.k ≡ Some handed.call = rw (seen.size_is, seen.outs_are, seen.requests_are) at may_s in
    let same : out.device ≡ s = the_same old.devices handed.dev out.device s out.was seen.there in
    let devices : new.devices ≡ set old.devices handed.dev (with_out s handed.number handed.call) =
    ap (λ (c : AllCalls). c.devices) out.after ∙ ap (λ (t : CallsState). set old.devices handed.dev (with_out t handed.number handed.call)) same in (
      record d { placed = d.placed ++ last ∷ [] },
      (handed.call, any, may, refl),
      record {
        device = with_out s handed.number handed.call;
        there = ap (λ (list : List CallsState). slice_get list handed.dev) devices ∙ get_set old.devices handed.dev s (with_out s handed.number handed.call) seen.there;
        size_is = seen.size_is;
        outs_are = ap (λ (outs : List Out). outs ++ last.out ∷ []) seen.outs_are ∙ sym (outs_pushed d.placed last);
        requests_are = seen.requests_are;
      },
    )

pub handing_is_no_other : HandingIsNoOther
handing_is_no_other size most asked old new handed dev d out other seen = record {
  device = seen.device;
  there = ap (λ (c : AllCalls). slice_get c.devices dev) out.after ∙ get_other old.devices handed.dev (with_out out.device handed.number handed.call) dev other ∙ seen.there;
  size_is = seen.size_is;
  outs_are = seen.outs_are;
  requests_are = seen.requests_are;
}

pub answering_is_a_turn : AnsweringIsATurn
answering_is_a_turn size base asked then calls dev i k out answer d at to for_k after seen =
    let s = seen.device in
    let same : at.device ≡ s = the_same calls.devices dev at.device s at.there seen.there in
    let is : slice_get (outs_of d.placed) i ≡ Some out = ap (λ (outs : List Out). slice_get outs i) (sym seen.outs_are) ∙ ap (λ (t : CallsState). slice_get t.outs i) (sym same) ∙ at.is in
    let p = placed_at d.placed i out is in
    let call : p.0.out.call ≡ out.call = ap (λ (o : Out). o.call) p.2 in
    let found : asker d.requests p.0.out.call ≡ Some k = ap (asker d.requests) call ∙ ap (λ (requests : List Request). asker requests out.call) (sym seen.requests_are) ∙ for_k in
    let answered : answers p.0.out.call answer ≡ true = ap (λ (c : DiskCall). answers c answer) call ∙ to in
    let next : Desk = record { requests = (answer_step base d.requests k answer).requests; placed = remove d.placed i } in
    let reply : reply_to base d i answer p.0 (asker d.requests p.0.out.call) next = rw found refl in
    let gone : CallsState = record s { outs = remove s.outs i } in
    let devices : (without calls dev i).devices ≡ set calls.devices dev gone = ap (λ (o : Option CallsState). (without_at calls dev i o).devices) seen.there in (
      next,
      (p.0, p.1, answered, reply),
      record {
        device = gone;
        there = ap (λ (list : List CallsState). slice_get list dev) devices ∙ get_set calls.devices dev s gone seen.there;
        size_is = seen.size_is;
        outs_are = ap (λ (outs : List Out). remove outs i) seen.outs_are ∙ sym (outs_removed d.placed i);
        requests_are = after ∙ ap (λ (requests : List Request). (answer_step base requests k answer).requests) seen.requests_are;
      },
    )
