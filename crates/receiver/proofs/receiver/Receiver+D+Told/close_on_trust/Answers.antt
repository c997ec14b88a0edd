use Rattle.std.proofs.Common.{rules, ◌≡◌, ◌≤◌, ◌<◌, ◌++◌, ◌∷◌, Bool, length, subst, sym}
use Rattle.std.specs.Prelude.{Err, Ok}
use Rattle.std.specs.Vec.{vec_capacity}
use Rattle.guestmem.specs.Number.{IsBytes}
use Rattle.receiver.specs.Closing.{Compares, Finds}
use Rattle.receiver.specs.Receiving.{Received}
use Rattle.receiver.proofs.Closes.{closes_part, closes_refused, closes_whole, end_receiver, part_receiver}
use Rattle.receiver.proofs.receiver.Receiver+D+Told.close_on_trust.Goals as goal

pub returns-in-Err : goal.returns-in-Err
returns-in-Err g c =
    let r = c.self.inside.reader in
    let long : length c.args.digest.now ≡ 32 = search rules in
    let due = rw (← c.self.view_is) at c.requires.due in
    let finds = subst (λ (v : Received). Finds v.stage c.args.digest.now (v.held ++ c.args.rest.now) (Err c.in-Err.error)) (sym c.self.view_is) c.in-Err.ensures.finds in
    let given = rw (← c.self.view_is) at c.give_up.ensures in
    rw (← c.self.view_is) (closes_refused r c.self.inside.held.items c.args.rest.now c.args.digest.now c.in-Err.error c.give_up.new.self long c.recall_told.ensures due finds given)

pub invariant_of-self : goal.invariant_of-self
invariant_of-self g c =
    let i = c.self.inside in
    let due = rw (← c.self.view_is) at c.requires.due in
    let finds = subst (λ (v : Received). Finds v.stage c.args.digest.now (v.held ++ c.args.rest.now) (Ok c.in-Ok.closes)) (sym c.self.view_is) c.in-Ok.ensures.finds in
    let room : vec_capacity i.held ≤ vec_capacity c.clear.new.self = search rules in
    rw (c.end.ensures, c.clear.ensures.items) (end_receiver i.reader i.held.items c.args.rest.now (vec_capacity i.held) i.lacking (vec_capacity c.clear.new.self) due finds.0 c.self.invariant room)

pub returns-then-closes : goal.returns-then-closes
returns-then-closes g c =
    let i = c.self.inside in
    let long : length c.args.digest.now ≡ 32 = search rules in
    let due = rw (← c.self.view_is) at c.requires.due in
    let finds = subst (λ (v : Received). Finds v.stage c.args.digest.now (v.held ++ c.args.rest.now) (Ok c.in-Ok.closes)) (sym c.self.view_is) c.in-Ok.ensures.finds in
    let whole : i.held.items ++ c.args.rest.now ≡ 5 ∷ c.args.digest.now = subst (λ (b : Bool). Compares c.args.digest.now (i.held.items ++ c.args.rest.now) (Ok b)) c.if-closes.true finds.1 in
    rw (c.end.ensures, c.clear.ensures.items, ← c.self.view_is) (closes_whole i.reader i.held.items c.args.rest.now c.args.digest.now c.recall.ensures long c.recall_told.ensures due finds.0 whole)

pub invariant_of-self-2 : goal.invariant_of-self-2
invariant_of-self-2 g c =
    let i = c.self.inside in
    let due = rw (← c.self.view_is) at c.requires.due in
    let finds = subst (λ (v : Received). Finds v.stage c.args.digest.now (v.held ++ c.args.rest.now) (Ok c.in-Ok.closes)) (sym c.self.view_is) c.in-Ok.ensures.finds in
    let are : IsBytes i.held.items = subst (λ (v : Received). IsBytes v.held) (sym c.self.view_is) c.in-Ok.ensures.bytes in
    let short : length (i.held.items ++ c.args.rest.now) < 33 = subst (λ (b : Bool). Compares c.args.digest.now (i.held.items ++ c.args.rest.now) (Ok b)) c.if-closes.false finds.1 in
    let more : c.extend_from_slice.new.self.items ≡ i.held.items ++ c.args.rest.now = search rules in
    let room : vec_capacity i.held ≤ vec_capacity c.extend_from_slice.new.self = search rules in
    rw more (part_receiver i.reader i.held.items c.args.rest.now (vec_capacity i.held) i.lacking (vec_capacity c.extend_from_slice.new.self) are c.recall.ensures due finds.0 short c.self.invariant room)

pub returns : goal.returns
returns g c =
    let i = c.self.inside in
    let due = rw (← c.self.view_is) at c.requires.due in
    let finds = subst (λ (v : Received). Finds v.stage c.args.digest.now (v.held ++ c.args.rest.now) (Ok c.in-Ok.closes)) (sym c.self.view_is) c.in-Ok.ensures.finds in
    let are : IsBytes i.held.items = subst (λ (v : Received). IsBytes v.held) (sym c.self.view_is) c.in-Ok.ensures.bytes in
    let short : length (i.held.items ++ c.args.rest.now) < 33 = subst (λ (b : Bool). Compares c.args.digest.now (i.held.items ++ c.args.rest.now) (Ok b)) c.if-closes.false finds.1 in
    let more : c.extend_from_slice.new.self.items ≡ i.held.items ++ c.args.rest.now = search rules in
    rw (more, ← c.self.view_is) (closes_part i.reader i.held.items c.args.rest.now c.args.digest.now are c.recall.ensures due finds.0 short)
