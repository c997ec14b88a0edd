-- Events of the guest with a log of the caller's.
use Rattle.std.specs.Prelude.{◌≡◌, MatchOption}
use Rattle.guestmem.specs.Item.{Item, after_all}
use Rattle.machine.specs.Effect.{items_of}
use Rattle.machine.specs.declared.event.Event.{Event}
use Rattle.machine.specs.declared.reply.Reply.{Reply}
use Rattle.sender.specs.Calls.{AfterGuest, Serves}
use Rattle.sender.specs.LiveState.{LiveSeen, refusal_for}
use Rattle.sender.specs.declared.event.LiveEvent.TheVariants.{Guest}
use Rattle.sender.specs.declared.event.LiveReply.{LiveReply}
use Rattle.sender.specs.declared.event.LiveReply.TheVariants as r

-- An event of the guest was applied, and the log was told of exactly the items that it writes into, which became dirty.
pub record AfterGuestLogged {L : Type 0} (taking : L → Item → L) (old : LiveSeen) (log : L) (e : Event) (reply : Reply) (new : LiveSeen) (new_log : L) : Type 0 where
  pub guest : AfterGuest old e reply new
  pub logged : new_log ≡ after_all taking log (items_of guest.is_applied.effect)

abbrev pub GuestsLogged : {L : Type 0} → (L → Item → L) → LiveSeen → L → Event → LiveReply → LiveSeen → L → Type 0
GuestsLogged taking old log e (r.Guest reply) new new_log = AfterGuestLogged taking old log e reply new new_log
GuestsLogged taking old log e _ new new_log = ⊥

-- As `Serves` of an event of the guest. Where its phase refuses it the log is as it was.
abbrev pub ServesLogged : {L : Type 0} → (L → Item → L) → LiveSeen → L → Event → LiveReply → LiveSeen → L → Type 0
ServesLogged taking old log e reply new new_log = MatchOption (refusal_for old.phase (Guest e)) (GuestsLogged taking old log e reply new new_log) (λ x. (reply ≡ r.Mig x) × (new ≡ old) × (new_log ≡ log))

-- What is served with a log is served without one too.
abbrev pub LoggedIsServed : {L : Type 0} → (L → Item → L) → Type 0
LoggedIsServed {L} taking = (old : LiveSeen) (log : L) (e : Event) (reply : LiveReply) (new : LiveSeen) (new_log : L) → ServesLogged taking old log e reply new new_log → Serves old (Guest e) reply new
