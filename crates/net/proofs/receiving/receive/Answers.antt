use Rattle.std.proofs.Common.{ap, refl, rules}
use Rattle.guestmem.proofs.RisesLaws.{rises_none}
use Rattle.chains.specs.declared.next.Next.TheVariants.{Chain}
use Rattle.chains.proofs.FrameLaws.{looked_on}
use Rattle.net.specs.Inbox.{Inbox}
use Rattle.net.proofs.Giving.{given_first, dropped_first}
use Rattle.net.proofs.receiving.receive.Goals as goal

pub returns-clause-after : goal.returns-clause-after
returns-clause-after g c = looked_on c.in_ok-look.ensures.after c.fill-is_due.ensures.after c.fill-is_due.ensures.decoder

pub returns-clause-served : goal.returns-clause-served
returns-clause-served g c sent =
    let look = c.in_ok-look.ensures in
    let filled = rw (look.untouched.0, look.untouched.1, look.state) at c.fill-is_due.ensures.filled in
    record {
      seen = Chain c.look.new.chain;
      sees = look.gives.0;
      done = given_first _ _ _ _ _ _ _ _ _ _ c.requires.waiting c.first_with_header-frame.ensures (search rules) filled (ap (λ (i : Inbox). i.frames) c.remove_first-2.ensures);
    }

pub returns-then-total_len-len-clause-served : goal.returns-then-total_len-len-clause-served
returns-then-total_len-len-clause-served g c sent =
    let look = c.in_ok-look.ensures in
    record {
      seen = Chain c.look.new.chain;
      sees = look.gives.0;
      done = rw (look.untouched.0, look.untouched.1, look.state) (dropped_first _ _ _ _ _ _ _ c.requires.waiting c.first_with_header-frame.ensures (search rules) (ap (λ (i : Inbox). i.frames) c.remove_first.ensures) (record { log_is = refl; rises = rises_none _ _ refl }));
    }
