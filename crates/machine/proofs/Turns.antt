-- A step at a queue, of a kind of device: it is that of the state which only the kind has.
use Rattle.std.proofs.Common.{◌≡◌, ℕ, List, Result, Ok, Err, ap}
use Rattle.guestmem.specs.Item.{Item}
use Rattle.guestmem.specs.Memory.{Memory}
use Rattle.chains.proofs.ServedLaws.{done_whole}
use Rattle.chains.specs.Served.{HasRun, IsServed, scene}
use Rattle.chains.specs.Service.{Answer, Did, Empty, Malformed, Service, deed_in, with_state}
use Rattle.chains.specs.State.{RingState}
use Rattle.chains.specs.declared.looking.Wanted.{Wanted}
use Rattle.chains.specs.declared.next.Next.{Next}
use Rattle.chains.specs.declared.served.Served.{Served}
use Rattle.chains.specs.declared.served.Unserved.{Unserved}
use Rattle.chains.specs.declared.served.Unserved.TheVariants as why

served_whole : {S T : Type 0} (whole : S → T) (touches : List Item → Type 0) (ram : List ℕ) (q : RingState) (wanted : Wanted) (step : Next → Service S) (big : Next → Service T) (answer : Answer) (new_ram : List ℕ) (new_q : RingState) (new : S)
    → ((seen : Next) → big seen ≡ with_state whole (step seen)) → IsServed touches ram q wanted step answer new_ram new_q new → IsServed touches ram q wanted big answer new_ram new_q (whole new)
served_whole whole touches ram q wanted step big answer new_ram new_q new same h = record {
  seen = h.seen;
  sees = h.sees;
  done = rw (same h.seen) (done_whole whole touches ram (step h.seen) answer new_ram new_q new h.done);
}

pub run_whole : {L S T : Type 0} (whole : S → T) (after : L → Item → L) (ram new_ram : Memory) (log new_log : L) (q new_q : RingState) (old new : S) (wanted : Wanted) (step : List ℕ → RingState → S → Next → Service S) (big : List ℕ → RingState → T → Next → Service T) (result : Result Served Unserved) (sent : List ℕ)
    → ((seen : Next) → big ram.bytes q (whole old) seen ≡ with_state whole (step ram.bytes q old seen))
    → HasRun after (scene ram log q old) (scene new_ram new_log new_q new) wanted step result sent → HasRun after (scene ram log q (whole old)) (scene new_ram new_log new_q (whole new)) wanted big result sent
run_whole whole after ram new_ram log new_log q new_q old new wanted step big (Ok s) sent same h =
    served_whole whole _ ram.bytes q wanted (step ram.bytes q old) (big ram.bytes q (whole old)) (Did (deed_in s.done sent) s.is_due) new_ram.bytes new_q new same h
run_whole whole after ram new_ram log new_log q new_q old new wanted step big (Err why.Empty) sent same h =
    served_whole whole _ ram.bytes q wanted (step ram.bytes q old) (big ram.bytes q (whole old)) Empty new_ram.bytes new_q new same h
run_whole whole after ram new_ram log new_log q new_q old new wanted step big (Err why.Malformed) sent same h =
    served_whole whole _ ram.bytes q wanted (step ram.bytes q old) (big ram.bytes q (whole old)) Malformed new_ram.bytes new_q new same h
run_whole whole after ram new_ram log new_log q new_q old new wanted step big (Err why.NoMemory) sent same h = record { may = h.may; untouched = h.untouched; state_is = ap whole h.state_is }
