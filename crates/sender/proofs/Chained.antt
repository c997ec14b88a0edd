-- Calls that were served, one after another.
use Rattle.std.proofs.Common.{◌≡◌, List, [], ◌∷◌, ◌++◌, length, take, refl, subst, arith}
use Rattle.dirtylog.specs.Members.{HasNone}
use Rattle.machine.specs.Seen.{Seen}
use Rattle.wire.specs.Sinks.{Covers, SinkState}
use Rattle.sender.specs.Calls.{Serves}
use Rattle.sender.specs.LiveState.{HasPlaces, LiveSeen}
use Rattle.sender.specs.Ran.{CallsServed, IsUnserved, WasServed}
use Rattle.sender.specs.declared.event.LiveEvent.{LiveEvent}
use Rattle.sender.specs.declared.event.LiveReply.{LiveReply}
use Rattle.sender.specs.declared.phase.Phase.TheVariants as phases

none_served : (old : LiveSeen) (events : List LiveEvent) → CallsServed old events [] old
none_served old [] = refl
none_served old (e ∷ events) = refl

served_more : (old mid new : LiveSeen) (events : List LiveEvent) (replies : List LiveReply) (e : LiveEvent) (reply : LiveReply) → length events ≡ length replies → CallsServed old events replies mid → Serves mid e reply new
    → CallsServed old (events ++ e ∷ []) (replies ++ reply ∷ []) new
served_more old mid new [] [] e reply long chain s = (new, subst (λ (x : LiveSeen). Serves x e reply new) chain s, refl)
served_more old mid new [] (x ∷ replies) e reply long chain s = absurd chain
served_more old mid new (d ∷ events) [] e reply long chain s = absurd (omega (arith, long))
served_more old mid new (d ∷ events) (x ∷ replies) e reply long chain s = (chain.0, chain.1, served_more chain.0 mid new events replies e reply (omega (arith, long)) chain.2 s)

-- The calls so far.
pub record Chain (machine : Seen) (out : SinkState) (events : List LiveEvent) (replies : List LiveReply) (s : LiveSeen) : Type 0 where
  pub before : LiveSeen
  pub unserved : IsUnserved machine out before
  pub served : CallsServed before events replies s

pub chain_first : (s : LiveSeen) (machine : Seen) (out : SinkState) (events : List LiveEvent) (replies : List LiveReply) → replies ≡ [] → s.machine ≡ machine → s.phase ≡ phases.Fresh → HasNone s.due × HasNone s.dirty → Covers s.digest [] → s.out ≡ out → HasPlaces s
    → Chain machine out events replies s
chain_first s machine out events replies none same fresh empty digest sink places = rw none (record {
  before = s;
  unserved = record { machine_is = same; fresh = fresh; none_due = empty.0; none_dirty = empty.1; digest = digest; out_is = sink; places = places };
  served = none_served s events;
})

pub chain_more : (machine : Seen) (out : SinkState) (events : List LiveEvent) (replies : List LiveReply) (e : LiveEvent) (reply : LiveReply) (old new : LiveSeen) → length events ≡ length replies → Serves old e reply new → Chain machine out events replies old
    → Chain machine out (events ++ e ∷ []) (replies ++ reply ∷ []) new
chain_more machine out events replies e reply old new long s c = record { before = c.before; unserved = c.unserved; served = served_more c.before old new events replies e reply long c.served s }

-- The events that have no reply are no part of it.
taken_served : (old new : LiveSeen) (events : List LiveEvent) (replies : List LiveReply) → CallsServed old (take (length replies) events) replies new → CallsServed old events replies new
taken_served old new [] [] chain = chain
taken_served old new (e ∷ events) [] chain = chain
taken_served old new [] (reply ∷ replies) chain = chain
taken_served old new (e ∷ events) (reply ∷ replies) chain = (chain.0, chain.1, taken_served chain.0 new events replies chain.2)

pub was_served : (machine : Seen) (out : SinkState) (events some : List LiveEvent) (replies : List LiveReply) (s : LiveSeen) (last : Seen) (new : SinkState) → some ≡ take (length replies) events → last ≡ s.machine → new ≡ s.out → Chain machine out some replies s
    → WasServed machine out events replies last new
was_served machine out events some replies s last new is same sink c = record {
  before = c.before;
  after = s;
  unserved = c.unserved;
  served = taken_served c.before s events replies (subst (λ (es : List LiveEvent). CallsServed c.before es replies s) is c.served);
  machine_is = same;
  out_is = sink;
}
