use Rattle.std.proofs.Common.{◌≡◌, ◌++◌, [], ap, sym, subst, rules, take, List, ℕ, ◌∙◌}
use Rattle.std.proofs.lemmas.Result.{err_from_is_err_and}
use Rattle.machine.specs.Limits.{IsWithinLimits}
use Rattle.machine.specs.Seen.{state_of}
use Rattle.receiver.proofs.Whole.{stream_rounds}
use Rattle.receiver.specs.Disks.{AreHonestDisks}
use Rattle.machine.specs.Layout.{pages_of}
use Rattle.receiver.specs.Opened.{HasPages, terms_at}
use Rattle.receiver.specs.Receiving.{NoFault}
use Rattle.receiver.specs.declared.ram_terms.RamTerms.{RamTerms}
use Rattle.vmig.proofs.Arriving.{end_refused, front_fed, front_refused}
use Rattle.vmig.specs.Feeding.{TellsOfRest}
use Rattle.vmig.specs.declared.fault.Fault.{Fault}
use Rattle.vmig.proofs.feeding.receive_rest.Goals as goal

pub returns-in_err-feed-clause-failed : goal.returns-in_err-feed-clause-failed
returns-in_err-feed-clause-failed g c =
    let front = take c.args.front.count c.args.front.piece.items in
    let piece : c.deref.result.now ≡ c.args.front.piece.items = search rules in
    let told = err_from_is_err_and c.from_residual.result c.from_residual.ensures.1 in
    rw told.1 (λ terms is. front_refused c.args.name.now front terms _ _ _ c.in_err-feed.field-0.0 told.0 told.2 c.in_err-feed.ensures.marks (rw (piece, is) at (c.in_err-feed.ensures.told [] c.requires.fresh)))

pub returns-in_err-feed_rest-clause-failed : goal.returns-in_err-feed_rest-clause-failed
returns-in_err-feed_rest-clause-failed g c =
    let front = take c.args.front.count c.args.front.piece.items in
    let piece : c.deref.result.now ≡ c.args.front.piece.items = search rules in
    let told = err_from_is_err_and c.from_residual-in_err-feed_rest.result c.from_residual-in_err-feed_rest.ensures.1 in
    rw told.1 (λ terms is.
    let fed = front_fed terms c.feed.new.self front (c.feed.ensures.ram ∙ is) (rw piece at (c.in_ok-feed.ensures.fed [] c.requires.fresh)) in
    let refused = rw (c.feed.ensures.sizes, c.in_ok-feed.ensures.marks) at (c.in_err-feed_rest.ensures.failed terms front fed) in
    subst (λ (f : Fault). TellsOfRest c.args.name.now front terms c.args.receiver.sizes c.args.receiver.marks f) (sym told.2) refused)

pub returns-in-Ok-clause-received : goal.returns-in-Ok-clause-received
returns-in-Ok-clause-received g c = λ terms is honest.
    let front = take c.args.front.count c.args.front.piece.items in
    let piece : c.deref.result.now ≡ c.args.front.piece.items = search rules in
    let fed = c.in_ok-feed_rest.ensures.quiet terms front (front_fed terms c.feed.new.self front (c.feed.ensures.ram ∙ is) (rw piece at (c.in_ok-feed.ensures.fed [] c.requires.fresh))) in
    let marks : c.feed_rest.new.receiver.marks ≡ c.args.receiver.marks = c.in_ok-feed_rest.ensures.marks ∙ c.in_ok-feed.ensures.marks in
    let at : c.feed_rest.new.receiver.ram ≡ terms_at terms = c.feed_rest.ensures.ram ∙ c.feed.ensures.ram ∙ is in
    let stream = c.in-Ok.ensures.received (subst AreHonestDisks (sym marks) honest) (front ++ fed.more) fed.fed in
    record {
      more = fed.more;
      received = record {
        stream = stream;
        rounds_are = stream_rounds c.feed_rest.new.receiver.ram c.feed_rest.new.receiver.sizes (front ++ fed.more) (state_of c.in-Ok.machine) c.rounds-rounds.result stream c.in-Ok.ensures.based (subst (λ (r : RamTerms). HasPages r (pages_of (state_of c.in-Ok.machine))) (sym at) tt) c.in-Ok.ensures.within c.in-Ok.ensures.fits (c.rounds-rounds.ensures.rounds (front ++ fed.more) fed.fed);
      };
      based = c.in-Ok.ensures.based ∙ ap (λ (r : RamTerms). r.base) at;
      within = subst (λ (r : RamTerms). IsWithinLimits r.limits (state_of c.in-Ok.machine)) at c.in-Ok.ensures.within;
    }

pub returns-clause-failed : goal.returns-clause-failed
returns-clause-failed g c = λ terms is.
    let front = take c.args.front.count c.args.front.piece.items in
    let piece : c.deref.result.now ≡ c.args.front.piece.items = search rules in
    let fed = c.in_ok-feed_rest.ensures.quiet terms front (front_fed terms c.feed.new.self front (c.feed.ensures.ram ∙ is) (rw piece at (c.in_ok-feed.ensures.fed [] c.requires.fresh))) in
    let sizes : c.feed_rest.new.receiver.sizes ≡ c.args.receiver.sizes = c.feed_rest.ensures.sizes ∙ c.feed.ensures.sizes in
    end_refused _ front fed.more terms _ _ c.in-Err.refusal _ c.from.ensures (c.in-Err.ensures.refused (front ++ fed.more) fed.fed) (subst (λ (s : List ℕ). NoFault (terms_at terms) s (front ++ fed.more)) sizes fed.quiet)

pub returns-in-Ok-clause-arrived : goal.returns-in-Ok-clause-arrived
returns-in-Ok-clause-arrived g c = λ terms is.
    let front = take c.args.front.count c.args.front.piece.items in
    let piece : c.deref.result.now ≡ c.args.front.piece.items = search rules in
    let fed = c.in_ok-feed_rest.ensures.quiet terms front (front_fed terms c.feed.new.self front (c.feed.ensures.ram ∙ is) (rw piece at (c.in_ok-feed.ensures.fed [] c.requires.fresh))) in
    let at : c.feed_rest.new.receiver.ram ≡ terms_at terms = c.feed_rest.ensures.ram ∙ c.feed.ensures.ram ∙ is in
    record {
      more = fed.more;
      arrived = c.in-Ok.ensures.arrived (front ++ fed.more) fed.fed;
      based = c.in-Ok.ensures.based ∙ ap (λ (r : RamTerms). r.base) at;
      within = subst (λ (r : RamTerms). IsWithinLimits r.limits (state_of c.in-Ok.machine)) at c.in-Ok.ensures.within;
    }
