use Rattle.c_handle.proofs.Streams.{kept, held_of}
use Rattle.c_handle.proofs.moving.stream_of.Goals as goal

pub returns-in-Ok-clause-stream : goal.returns-in-Ok-clause-stream
returns-in-Ok-clause-stream g c plain = held_of c.args.machine.now c.save.new.machine _ _ _ c.into_inner.result.items c.new.result.items _ c.in-Ok.field-0 plain c.save.ensures.sent c.in-Ok.is c.new.ensures.items c.new-sink.ensures c.into_inner.ensures

pub returns-in-Ok-clause-kept : goal.returns-in-Ok-clause-kept
returns-in-Ok-clause-kept g c = kept _ _ _ _ _ _ c.save.ensures.sent

pub returns-in-Err-clause-kept : goal.returns-in-Err-clause-kept
returns-in-Err-clause-kept g c = kept _ _ _ _ _ _ c.save.ensures.sent
