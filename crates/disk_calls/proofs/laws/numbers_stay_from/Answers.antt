use Rattle.disk_calls.proofs.Numbers.{handed_are_from, none_is_below, none_out_are_from, removed_are_from}
use Rattle.disk_calls.proofs.laws.numbers_stay_from.Goals as goal

pub returns-clause-begun : goal.returns-clause-begun
returns-clause-begun c = none_out_are_from

pub returns-clause-handed : goal.returns-clause-handed
returns-clause-handed c = handed_are_from

pub returns-clause-removed : goal.returns-clause-removed
returns-clause-removed c = removed_are_from

pub returns-clause-none : goal.returns-clause-none
returns-clause-none c = none_is_below
