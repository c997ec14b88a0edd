use Rattle.std.proofs.Common.{◌≡◌, length, sym, ◌∙◌}
use Rattle.machine.specs.NextWork.{has_work_at, in_turn_after, next_work}
use Rattle.machine.specs.Seen.{states_of}
use Rattle.machine.proofs.NextWork.{found_has, none_has, none_lost}
use Rattle.machine.proofs.machine.MachineOver.next_work.Goals as goal

pub returns-clause-next : goal.returns-clause-next
returns-clause-next g c = c.next_work_with_lost.ensures.next ∙ none_lost (states_of c.args.self.now) c.args.last

pub returns-clause-some : goal.returns-clause-some
returns-clause-some g c =
    let states = states_of c.args.self.now in
    let is : c.next_work_with_lost.result ≡ next_work states c.args.last = c.next_work_with_lost.ensures.next ∙ none_lost states c.args.last in
    rw is (found_has (has_work_at states) (in_turn_after c.args.last (length states)))

pub returns-clause-none : goal.returns-clause-none
returns-clause-none g c = λ none.
    let states = states_of c.args.self.now in
    let is : c.next_work_with_lost.result ≡ next_work states c.args.last = c.next_work_with_lost.ensures.next ∙ none_lost states c.args.last in
    none_has states c.args.last (sym is ∙ none)
