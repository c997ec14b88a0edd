-- What is sound for a driver's limits is sound for the widest ones.
use Rattle.std.proofs.Common.{ℕ, Bool, List, refl}
use Rattle.chains.specs.State.{RingState}
use Rattle.blk.specs.Block.{widest}
use Rattle.blk.specs.Sound.{AreSound, IsSoundRequest, IsSoundWork}
use Rattle.blk.specs.declared.request.Kind.{Kind}
use Rattle.blk.specs.declared.request.Kind.TheVariants.{Refused, In, Out, Flush, GetId, Zero}
use Rattle.blk.specs.declared.request.Verdict.{Verdict}
use Rattle.blk.specs.declared.request.Request.{Request}
use Rattle.blk.specs.declared.shape.Limits.{Limits}

widest_work : (k : Kind) (readable writable : ℕ) (limits : Limits) (v : Verdict) (first units done : ℕ) → IsSoundWork k readable writable limits v first units done
    → IsSoundWork k readable writable (widest limits.sectors) v first units done
widest_work Refused readable writable limits v first units done h = h
widest_work In readable writable limits v first units done h = h
widest_work Out readable writable limits v first units done h = (h.0, h.1, h.2, refl)
widest_work Flush readable writable limits v first units done h = h
widest_work GetId readable writable limits v first units done h = h
widest_work Zero readable writable limits v first units done h = (h.0, h.1, h.2, h.3, refl, refl)

widest_request : (base len : ℕ) (is_packed : Bool) (size : ℕ) (limits : Limits) (r : Request) → IsSoundRequest base len is_packed size limits r → IsSoundRequest base len is_packed size (widest limits.sectors) r
widest_request base len is_packed size limits r h = record {
  some = h.some;
  slots = h.slots;
  id_fits = h.id_fits;
  id = h.id;
  few = h.few;
  readable = h.readable;
  writable = h.writable;
  total = h.total;
  header = h.header;
  status = h.status;
  work = widest_work r.kind _ _ limits r.verdict r.first r.units r.done h.work;
}

pub widest_sound : (len : ℕ) (q : RingState) (limits : Limits) (requests : List Request) → AreSound len q limits requests → AreSound len q (widest limits.sectors) requests
widest_sound len q limits requests sound = λ k d below. widest_request q.base len q.is_packed q.size limits _ (sound k d below)
