use Rattle.std.proofs.Common.{◌∷◌, [], arith, length-append}
use Rattle.std.proofs.lemmas.List.Elements.{All-push}
use Rattle.disk_calls.specs.Calls.{IsWithin}
use Rattle.disk_calls.specs.declared.out.Out.{Out}
use Rattle.disk_calls.proofs.Apart.{apart_pushed, let_out_within}
use Rattle.disk_calls.proofs.Asking.{let_out}
use Rattle.disk_calls.proofs.device_calls.DeviceCalls.hand_out.Goals as goal

pub invariant_of-self : goal.invariant_of-self
invariant_of-self c =
    let inv = c.self.invariant in
    let size = c.self.inside.size in
    let outs = c.self.inside.list.items in
    let next = c.args.next in
    let new : Out = record { number = c.args.number; call = next.call } in
    let may = rw (← c.self.view_is) at c.requires.may in
    let let_it = let_out size c.args.most outs c.args.requests.now next.k next.call may in
    let within = let_out_within size c.args.most outs c.args.requests.now next.k next.call c.requires.some c.requires.within may in
    let more = length-append outs (new ∷ []) in
    rw (c.push_reserved.ensures.items, c.push_reserved.ensures.capacity) (inv.0, omega (arith, more, let_it.room), inv.2, All-push (λ (out : Out). IsWithin out.call) outs new inv.3 within, apart_pushed size outs new let_it.clear_of_outs inv.4)
