-- What follows from a step that was made at a queue.
use Rattle.std.proofs.Common.{◌≡◌, ℕ, Bool, List, length, ap}
use Rattle.guestmem.specs.Item.{Item}
use Rattle.chains.specs.State.{RingState}
use Rattle.chains.specs.ReceiveBuffer.{IsFilled, give}
use Rattle.chains.specs.Served.{IsDone, IsServed}
use Rattle.chains.specs.Service.{Answer, Completed, Did, Service, with_state}
use Rattle.chains.specs.declared.chain.Chain.{Chain}
use Rattle.chains.specs.declared.looking.Wanted.{Wanted}
use Rattle.chains.specs.declared.next.Next.{Next}

-- Bytes that were given to a chain: that is the step which gives them, whatever state it leaves beside RAM and the ring.
pub filled_done : {S : Type 0} (touches : List Item → Type 0) (ram : List ℕ) (q : RingState) (c : Chain) (bytes : List ℕ) (is_due : Bool) (new_ram : List ℕ) (new_q : RingState) (left new_state : S)
    → IsFilled touches ram q c bytes is_due new_ram new_q → new_state ≡ left
    → IsDone touches ram (give ram q bytes left c) (Did (Completed (length bytes)) is_due) new_ram new_q new_state
unfolding give
filled_done touches ram q c bytes is_due new_ram new_q left new_state filled left_is = record {
  answer_is = ap (Did (Completed (length bytes))) (rw filled.ram_is at filled.due_is);
  ram_is = filled.ram_is;
  ring_is = filled.ring_is;
  state_is = left_is;
  items_are = filled.items_are;
}

-- What was done with a state was done with one that it is a part of.
pub done_whole : {S T : Type 0} (whole : S → T) (touches : List Item → Type 0) (ram : List ℕ) (s : Service S) (answer : Answer) (new_ram : List ℕ) (new_q : RingState) (new_state : S)
    → IsDone touches ram s answer new_ram new_q new_state → IsDone touches ram (with_state whole s) answer new_ram new_q (whole new_state)
done_whole whole touches ram s answer new_ram new_q new_state done = record {
  answer_is = done.answer_is;
  ram_is = done.ram_is;
  ring_is = done.ring_is;
  state_is = ap whole done.state_is;
  items_are = done.items_are;
}

pub served_whole : {S T : Type 0} (whole : S → T) (touches : List Item → Type 0) (ram : List ℕ) (q : RingState) (wanted : Wanted) (step : Next → Service S) (answer : Answer) (new_ram : List ℕ) (new_q : RingState) (new_state : S)
    → IsServed touches ram q wanted step answer new_ram new_q new_state
    → IsServed touches ram q wanted (λ seen. with_state whole (step seen)) answer new_ram new_q (whole new_state)
served_whole whole touches ram q wanted step answer new_ram new_q new_state served = record {
  seen = served.seen;
  sees = served.sees;
  done = done_whole whole touches ram (step served.seen) answer new_ram new_q new_state served.done;
}
