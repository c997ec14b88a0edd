use Rattle.blk.proofs.Against.{cleared_is_set, flushed_is_same, given_is_read, written_is_set}
use Rattle.blk.proofs.Others.{others_are_alike}
use Rattle.blk.proofs.laws.outside_is_inside.Goals as goal

pub returns-clause-given : goal.returns-clause-given
returns-clause-given c = given_is_read

pub returns-clause-written : goal.returns-clause-written
returns-clause-written c = written_is_set

pub returns-clause-cleared : goal.returns-clause-cleared
returns-clause-cleared c = cleared_is_set

pub returns-clause-flushed : goal.returns-clause-flushed
returns-clause-flushed c = flushed_is_same

pub returns-clause-others : goal.returns-clause-others
returns-clause-others c = others_are_alike
