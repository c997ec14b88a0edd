-- The step that takes a request (VIRTIO 1.2, 5.2.6).
use Rattle.std.specs.Prelude.{ℕ, false, List, [], ◌∷◌, ◌++◌, length, take, drop}
use Rattle.chains.specs.State.{RingState}
use Rattle.chains.specs.Places.{places, read_places}
use Rattle.chains.specs.Publish.{after_take}
use Rattle.chains.specs.Service.{Did, Service, Taken, service_of}
use Rattle.chains.specs.declared.chain.Chain.{Chain}
use Rattle.chains.specs.declared.next.Next.{Next}
use Rattle.blk.specs.Block.{limits_of, with_requests}
use Rattle.blk.specs.Task.{task_of}
use Rattle.blk.specs.declared.block.Block.{Block}
use Rattle.blk.specs.declared.request.TheConstants.{HEADER_SIZE, SEGMENT_SIZE}
use Rattle.blk.specs.declared.request.Request.{Request}
use Rattle.blk.specs.declared.shape.Limits.{Limits}
use Rattle.blk.specs.declared.task.Task.{Task}

-- The header: the bytes at the first HEADER_SIZE readable places, in a RAM with this base.
abbrev pub header_of : ℕ → List ℕ → Chain → List ℕ
header_of base ram c = take HEADER_SIZE (read_places base ram (places c.readable))

-- The segment that names a range to clear: the bytes at the SEGMENT_SIZE places after the header.
abbrev pub segment_of : ℕ → List ℕ → Chain → List ℕ
segment_of base ram c = take SEGMENT_SIZE (drop HEADER_SIZE (read_places base ram (places c.readable)))

-- A request of which nothing is done yet. It keeps the segments of its chain.
abbrev pub request_for : Chain → Task → Request
request_for c t = record {
  id = c.id;
  slots = c.slots;
  kind = t.kind;
  verdict = t.verdict;
  first = t.first;
  units = t.units;
  done = 0;
  readable = c.readable;
  writable = c.writable;
}

abbrev pub task_for : ℕ → List ℕ → Limits → Chain → Task
task_for base ram limits c = task_of (header_of base ram c) (segment_of base ram c) (length (places c.readable)) (length (places c.writable)) limits

-- The request of a chain is taken.
abbrev pub take_chain : ℕ → List ℕ → RingState → Block → Chain → Service Block
take_chain features ram q b c = record {
  answer = Did Taken false;
  writes = [];
  ring = after_take q c.slots;
  state = with_requests b (b.requests ++ request_for c (task_for q.base ram (limits_of b features) c) ∷ []);
}

-- The step if there is room for a request, by the features that the driver accepted and what the device sees in the queue.
abbrev pub take_step : ℕ → List ℕ → RingState → Block → Next → Service Block
take_step features ram q b seen = service_of q b (take_chain features ram q b) seen
