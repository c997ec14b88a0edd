-- What is told of what lies behind a handle, by whether it is sent.
use Rattle.std.proofs.Common.{◌≡◌, ◌≤◌, ◌-◌, ◌&&◌, ℕ, Bool, true, false, nat_lt, List, refl, subst, arith, length, drop, ◌++◌}
use Rattle.std.specs.Prelude.{Option, Some, None, MatchOption, Result, Ok, Err, IfOk, slice_get}
use Rattle.guestmem.specs.Address.{access_refusal, index_of}
use Rattle.guestmem.specs.declared.error.RamError.{RamError}
use Rattle.console.specs.declared.size.ConsoleSize.{ConsoleSize}
use Rattle.guestmem.specs.Maybe.{after_if}
use Rattle.mmio.specs.Status.{is_running}
use Rattle.blk.specs.Outside.{Answer, Answering, Did, Failed, Gave, answer_step}
use Rattle.blk.specs.declared.block.Block.{Block}
use Rattle.machine.specs.PageLog.{noted}
use Rattle.machine.specs.Outside.{answer_disk, answer_of, disk_answered, reply_to_disk, taken_in}
use Rattle.machine.specs.Applied.{IsApplied, IsAppliedLogged}
use Rattle.machine.specs.Direct.{done_reply}
use Rattle.machine.specs.Outcome.{Outcome, fine, disk_failed, no_memory, outcome_of}
use Rattle.machine.specs.Seen.{Seen, state_of}
use Rattle.machine.specs.Sound.{IsSound}
use Rattle.machine.specs.State.{DeviceState, base_of}
use Rattle.machine.specs.Step.{answered_by, drop_by, drop_input, drop_of, hand_in, input_of, out_reply, put_by, put_in, read_ram, read_register, set_size, size_by, write_ram, write_register, written_out}
use Rattle.machine.specs.declared.event.Event.{Event}
use Rattle.machine.specs.declared.event.DiskAnswer.{DiskAnswer}
use Rattle.machine.specs.declared.event.Event.TheVariants.{RegRead, RegWrite, MemRead, MemWrite, Step, Input, Resize, Drop, Disk}
use Rattle.machine.specs.declared.kind.Kind.{Kind}
use Rattle.machine.specs.declared.kind.Kind.TheVariants.{Network, Outside, Console, Entropy}
use Rattle.machine.specs.declared.kind.Kind.TheVariants as kinds
use Rattle.machine.specs.declared.reply.Refusal.{Refusal}
use Rattle.machine.specs.declared.reply.Reply.{Reply}
use Rattle.sender.specs.Calls.{Does, Serves, guest_reply}
use Rattle.sender.specs.LiveState.{HasPlaces, LiveSeen, refusal_for}
use Rattle.sender.specs.declared.event.LiveEvent.{LiveEvent}
use Rattle.sender.specs.declared.event.LiveEvent.TheVariants.{Guest}
use Rattle.sender.specs.declared.event.LiveReply.{LiveReply}
use Rattle.sender.specs.declared.event.LiveReply.TheVariants as live
use Rattle.sender.specs.declared.mig_error.MigError.{MigError}
use Rattle.c_handle.specs.Mirror.{is_closed}
use Rattle.c_handle.specs.SendStatus.{live_status}
use Rattle.c_machine.specs.Status.{status_of}
use Rattle.c_handle.specs.Stepped.{LiveSteps, live_sent_in, most_sent_by, sent_in}
use Rattle.sender.specs.Logged.{ServesLogged}
use Rattle.c_handle.proofs.PageLogs.{logged_is_served}
use Rattle.c_handle.specs.Told.{IsServed, IsServedWrite, IsTold, IsWritten, live_number}
use Rattle.c_machine.specs.Status.{number_of}
use Rattle.c_handle.proofs.Sending.{few_sent, sends_within}

-- Events other than steps send nothing.
of_read : (d : Option DeviceState) (off width : ℕ) → length (sent_in (read_register d off width).reply) ≤ 65536
of_read None off width = omega arith
of_read (Some d) off width = omega arith

of_out : (out : Option ℕ) → length (sent_in (out_reply out)) ≤ 65536
of_out None = omega arith
of_out (Some byte) = omega arith

of_written : (dev : ℕ) (d : Option DeviceState) (off width value : ℕ) → length (sent_in (write_register dev d off width value).reply) ≤ 65536
of_written dev None off width value = omega arith
of_written dev (Some d) off width value = of_out (written_out d.kind off width value)

of_ram_read : (ram : List ℕ) (addr len : ℕ) (e : Option RamError) (o : Outcome) → length (sent_in (read_ram ram addr len e o).reply) ≤ 65536
of_ram_read ram addr len (Some error) o = omega arith
of_ram_read ram addr len None no_memory = omega arith
of_ram_read ram addr len None disk_failed = omega arith
of_ram_read ram addr len None fine = omega arith

of_ram_written : (addr : ℕ) (bytes : List ℕ) (e : Option RamError) → length (sent_in (write_ram addr bytes e).reply) ≤ 65536
of_ram_written addr bytes (Some error) = omega arith
of_ram_written addr bytes None = omega arith

of_put : (dev : ℕ) (d : DeviceState) (bytes : List ℕ) (r : Result ℕ Refusal) → length (sent_in (put_by dev d bytes r).reply) ≤ 65536
of_put dev d bytes (Ok count) = omega arith
of_put dev d bytes (Err refusal) = omega arith

of_input : (dev : ℕ) (d : Option DeviceState) (bytes : List ℕ) → length (sent_in (put_in dev d bytes).reply) ≤ 65536
of_input dev None bytes = omega arith
of_input dev (Some d) bytes = of_put dev d bytes (input_of d.kind bytes)

of_kind : (dev : ℕ) (d : DeviceState) (kind : Kind) (size : ConsoleSize) → length (sent_in (size_by dev d kind size).reply) ≤ 65536
of_kind dev d (Console old held) size = omega arith
of_kind dev d (Network mac inbox) size = omega arith
of_kind dev d (kinds.Block block) size = omega arith
of_kind dev d (Outside block) size = omega arith
of_kind dev d (Entropy pool) size = omega arith

of_size : (dev : ℕ) (d : Option DeviceState) (size : ConsoleSize) → length (sent_in (set_size dev d size).reply) ≤ 65536
of_size dev None size = omega arith
of_size dev (Some d) size = of_kind dev d d.kind size

of_drop_by : (dev : ℕ) (d : DeviceState) (r : Result (Unit {0}) Refusal) → length (sent_in (drop_by dev d r).reply) ≤ 65536
of_drop_by dev d (Ok done) = omega arith
of_drop_by dev d (Err refusal) = omega arith

of_drop : (dev : ℕ) (d : Option DeviceState) → length (sent_in (drop_input dev d).reply) ≤ 65536
of_drop dev None = omega arith
of_drop dev (Some d) = of_drop_by dev d (drop_of d.kind)

of_answer : (answer : Answer) → length (sent_in (reply_to_disk answer)) ≤ 65536
of_answer (Gave bytes) = omega arith
of_answer (Did count) = omega arith
of_answer Failed = omega arith

of_taken : (taken : Bool) (d : DeviceState) (block : Block) (answer : Answer) (a : Answering) → a.taken ≡ taken → length (sent_in (taken_in d block answer a).reply) ≤ 65536
of_taken true d block answer a is = rw is (of_answer answer)
of_taken false d block answer a is = rw is (omega arith)

of_asked : (goes : Bool) (d : DeviceState) (block : Block) (pick : ℕ) (answer : Answer) → (is_running d.registers.common && nat_lt 0 pick) ≡ goes → length (sent_in (answer_disk d block pick answer).reply) ≤ 65536
of_asked true d block pick answer is = rw is (of_taken _ d block answer (answer_step d.registers.ram_base block.requests (pick - 1) answer) refl)
of_asked false d block pick answer is = rw is (omega arith)

of_disk : (dev : ℕ) (d : DeviceState) (kind : Kind) (pick : ℕ) (answer : Answer) → length (sent_in (answered_by dev (disk_answered d kind pick answer)).reply) ≤ 65536
of_disk dev d (Outside block) pick answer = of_asked (is_running d.registers.common && nat_lt 0 pick) d block pick answer refl
of_disk dev d (Network mac inbox) pick answer = omega arith
of_disk dev d (kinds.Block block) pick answer = omega arith
of_disk dev d (Console size held) pick answer = omega arith
of_disk dev d (Entropy pool) pick answer = omega arith

of_handed : (dev : ℕ) (d : Option DeviceState) (pick : ℕ) (given : DiskAnswer) → length (sent_in (hand_in dev d pick given).reply) ≤ 65536
of_handed dev None pick given = omega arith
of_handed dev (Some d) pick given = of_disk dev d d.kind pick (answer_of given)

pub few_by : (m after : Seen) (e : Event) (reply : Reply) → IsSound (state_of m) → IsApplied m e reply after → length (sent_in reply) ≤ 65536
few_by m after (RegRead dev off width) reply sound applied = rw (applied.has.reply_is) (of_read (slice_get (state_of m).devices dev) off width)
few_by m after (RegWrite dev off width value) reply sound applied = rw (applied.has.reply_is) (of_written dev (slice_get (state_of m).devices dev) off width value)
few_by m after (MemRead addr len) reply sound applied =
    let o = outcome_of reply in
    rw (applied.has.reply_is) (of_ram_read (state_of m).ram (index_of (base_of (state_of m).devices) addr) len (access_refusal (base_of (state_of m).devices) (length (state_of m).ram) addr len) o)
few_by m after (MemWrite addr bytes) reply sound applied = rw (applied.has.reply_is) (of_ram_written (index_of (base_of (state_of m).devices) addr) bytes (access_refusal (base_of (state_of m).devices) (length (state_of m).ram) addr (length bytes)))
few_by m after (Step dev pick) reply sound applied = few_sent m after dev pick reply sound applied
few_by m after (Input dev bytes) reply sound applied = rw (applied.has.reply_is) (of_input dev (slice_get (state_of m).devices dev) bytes)
few_by m after (Resize dev cols rows) reply sound applied = rw (applied.has.reply_is) (of_size dev (slice_get (state_of m).devices dev) (record { columns = cols; rows = rows }))
few_by m after (Drop dev) reply sound applied = rw (applied.has.reply_is) (of_drop dev (slice_get (state_of m).devices dev))
few_by m after (Disk dev pick given) reply sound applied = rw (applied.has.reply_is) (of_handed dev (slice_get (state_of m).devices dev) pick given)

-- A machine that is sent and answers as a machine was applied to.
applied_by : (o : Option MigError) (l next : LiveSeen) (e : Event) (reply : Reply) → MatchOption o (Does l (Guest e) (live.Guest reply) next) (λ x. (live.Guest reply ≡ live.Mig x) × (next ≡ l)) → IsApplied l.machine e reply next.machine
applied_by None l next e reply after = after.is_applied
applied_by (Some x) l next e reply after = let other : live.Guest reply ≡ live.Mig x = after.0 in absurd cc

pub applied_in : (l next : LiveSeen) (e : Event) (reply : Reply) → Serves l (Guest e) (live.Guest reply) next → IsApplied l.machine e reply next.machine
applied_in l next e reply serves = applied_by (refusal_for l.phase (Guest e)) l next e reply serves

pub few : (l next : LiveSeen) (e : Event) (reply : Reply) → HasPlaces l → Serves l (Guest e) (live.Guest reply) next → length (sent_in reply) ≤ 65536
few l next e reply places serves = few_by l.machine next.machine e reply places.sound (applied_in l next e reply serves)

pub few_in : (l next : LiveSeen) (e : Event) (answer : Result Reply MigError) (reply : Reply) → HasPlaces l → answer ≡ Ok reply → Serves l (Guest e) (guest_reply answer) next → length (sent_in reply) ≤ 65536
few_in l next e answer reply places is serves = few l next e reply places (subst (λ (r : Result Reply MigError). Serves l (Guest e) (guest_reply r) next) is serves)

pub few_told : (l next : LiveSeen) (e : Event) (answer : Result Reply MigError) → HasPlaces l → Serves l (Guest e) (guest_reply answer) next → IfOk answer (λ reply. length (sent_in reply) ≤ 65536)
few_told l next e (Ok reply) places serves = few l next e reply places serves
few_told l next e (Err error) places serves = tt

pub few_for : (l next : LiveSeen) (dev pick : ℕ) (answer : Result Reply MigError) (reply : Reply) → HasPlaces l → answer ≡ Ok reply → Serves l (Guest (Step dev pick)) (guest_reply answer) next → length (sent_in reply) ≤ most_sent_by l.machine dev pick
few_for l next dev pick answer reply places is serves = sends_within l.machine next.machine dev pick reply places.sound (applied_in l next (Step dev pick) reply (subst (λ (r : Result Reply MigError). Serves l (Guest (Step dev pick)) (guest_reply r) next) is serves))

pub served : (l next : LiveSeen) (e : LiveEvent) (reply : LiveReply) (status number n : ℕ) → HasPlaces l → Serves l e reply next → status ≡ live_status reply → number ≡ live_number reply n → IsServed l e status number n next
served l next e reply status number n places serves told counted = record { reply = reply; places = places; serves = serves; status_is = told; number_is = counted }

-- Of a machine that is not sent.
pub told : (m next : Seen) (e : Event) (reply : Reply) (status number n : ℕ) → IsApplied m e reply next → status ≡ status_of reply → number ≡ number_of reply n → IsTold m e status number n next
told m next e reply status number n applied is counted = record { reply = reply; applied = applied; status_is = is; number_is = counted }

pub no_number : (answer : Result (Unit {0}) Refusal) → 0 ≡ number_of (done_reply answer) 0
no_number (Ok u) = refl
no_number (Err refusal) = refl

pub told_so : (m next : Seen) (e : Event) (answer : Result (Unit {0}) Refusal) (status : ℕ) → IsApplied m e (done_reply answer) next → status ≡ status_of (done_reply answer) → IsTold m e status 0 0 next
told_so m next e answer status applied is = told m next e (done_reply answer) status 0 0 applied is (no_number answer)

-- A size has no number.
kind_number : (dev : ℕ) (d : DeviceState) (kind : Kind) (size : ConsoleSize) → 0 ≡ number_of (size_by dev d kind size).reply 0
kind_number dev d (Console old held) size = refl
kind_number dev d (Network mac inbox) size = refl
kind_number dev d (kinds.Block block) size = refl
kind_number dev d (Outside block) size = refl
kind_number dev d (Entropy pool) size = refl

pub size_number : (dev : ℕ) (d : Option DeviceState) (size : ConsoleSize) → 0 ≡ number_of (set_size dev d size).reply 0
size_number dev None size = refl
size_number dev (Some d) size = kind_number dev d d.kind size

without : (o : Option MigError) (l next : LiveSeen) (e : Event) (reply : LiveReply) → ((r : Reply) → IsApplied l.machine e r next.machine → 0 ≡ number_of r 0)
    → MatchOption o (Does l (Guest e) reply next) (λ x. (reply ≡ live.Mig x) × (next ≡ l)) → 0 ≡ live_number reply 0
without None l next e (live.Guest r) quiet after = quiet r after.is_applied
without None l next e (live.Begun k) quiet after = absurd after
without None l next e (live.Copied item) quiet after = refl
without None l next e live.RoundDone quiet after = refl
without None l next e live.RoundOpen quiet after = refl
without None l next e (live.Stopped pages sectors) quiet after = refl
without None l next e (live.Mig x) quiet after = refl
without (Some x) l next e reply quiet after = rw (after.0) refl

pub written : (l next : LiveSeen) (log new_log : Option (List Bool)) (addr : ℕ) (bytes : List ℕ) (answer : Result Reply MigError) (status : ℕ) → HasPlaces l → ServesLogged (after_if noted) l log (MemWrite addr bytes) (guest_reply answer) next new_log → status ≡ live_status (guest_reply answer)
    → IsServedWrite l log addr bytes status next new_log
written l next log new_log addr bytes answer status places serves told = record { reply = guest_reply answer; places = places; serves = serves; status_is = told }

pub written_still : (m next : Seen) (log new_log : Option (List Bool)) (addr : ℕ) (bytes : List ℕ) (answer : Result (Unit {0}) Refusal) (status : ℕ) → IsAppliedLogged (after_if noted) m log (MemWrite addr bytes) (done_reply answer) next new_log → status ≡ status_of (done_reply answer)
    → IsWritten m log addr bytes status next new_log
written_still m next log new_log addr bytes answer status logged told = record { reply = done_reply answer; logged = logged; status_is = told }

-- What a log is told of sends nothing more.
pub few_logged : (l next : LiveSeen) (log new_log : Option (List Bool)) (e : Event) (answer : Result Reply MigError) → HasPlaces l → ServesLogged (after_if noted) l log e (guest_reply answer) next new_log → IfOk answer (λ reply. length (sent_in reply) ≤ 65536)
few_logged l next log new_log e answer places serves = few_told l next e answer places (logged_is_served l next log new_log e (guest_reply answer) serves)

pub resized : (l next : LiveSeen) (dev cols rows : ℕ) (answer : Result Reply MigError) (status : ℕ) → HasPlaces l → Serves l (Guest (Resize dev cols rows)) (guest_reply answer) next → status ≡ live_status (guest_reply answer)
    → IsServed l (Guest (Resize dev cols rows)) status 0 0 next
resized l next dev cols rows answer status places serves told = record {
  reply = guest_reply answer;
  places = places;
  serves = serves;
  status_is = told;
  number_is =
      without (refusal_for l.phase (Guest (Resize dev cols rows))) l next (Resize dev cols rows) (guest_reply answer)
      (λ r applied. rw (applied.has.reply_is) (size_number dev (slice_get (state_of l.machine).devices dev) (record { columns = cols; rows = rows }))) serves;
}

dropped_by : (dev : ℕ) (d : DeviceState) (r : Result (Unit {0}) Refusal) → 0 ≡ number_of (drop_by dev d r).reply 0
dropped_by dev d (Ok done) = refl
dropped_by dev d (Err refusal) = refl

pub drop_number : (dev : ℕ) (d : Option DeviceState) → 0 ≡ number_of (drop_input dev d).reply 0
drop_number dev None = refl
drop_number dev (Some d) = dropped_by dev d (drop_of d.kind)

pub dropped : (l next : LiveSeen) (dev : ℕ) (answer : Result Reply MigError) (status : ℕ) → HasPlaces l → Serves l (Guest (Drop dev)) (guest_reply answer) next → status ≡ live_status (guest_reply answer)
    → IsServed l (Guest (Drop dev)) status 0 0 next
dropped l next dev answer status places serves told = record {
  reply = guest_reply answer;
  places = places;
  serves = serves;
  status_is = told;
  number_is =
      without (refusal_for l.phase (Guest (Drop dev))) l next (Drop dev) (guest_reply answer)
      (λ r applied. rw (applied.has.reply_is) (drop_number dev (slice_get (state_of l.machine).devices dev))) serves;
}

-- Steps.
pub live_stopped : (l : LiveSeen) (log : Option (List Bool)) (dev pick n : ℕ) (buf : List ℕ) → is_closed l.phase ≡ true → LiveSteps l log dev pick 21 n n buf buf l log
live_stopped l log dev pick n buf closed = rw closed (record { log_same = refl; status_is = refl; number_same = refl; buf_same = refl; same = refl })

pub live_not_stepped : (l : LiveSeen) (log : Option (List Bool)) (dev pick n : ℕ) (buf : List ℕ) → is_closed l.phase ≡ false → nat_lt (length buf) (most_sent_by l.machine dev pick) ≡ true → LiveSteps l log dev pick 11 n n buf buf l log
live_not_stepped l log dev pick n buf goes small = rw (goes, small) (record { log_same = refl; status_is = refl; number_same = refl; buf_same = refl; same = refl })

pub live_stepped : (l next : LiveSeen) (log new_log : Option (List Bool)) (dev pick status number n : ℕ) (buf new_buf : List ℕ) (reply : LiveReply) → is_closed l.phase ≡ false → nat_lt (length buf) (most_sent_by l.machine dev pick) ≡ false
    → HasPlaces l → ServesLogged (after_if noted) l log (Step dev pick) reply next new_log → status ≡ live_status reply → number ≡ live_number reply n → new_buf ≡ live_sent_in reply ++ drop (length (live_sent_in reply)) buf
    → LiveSteps l log dev pick status number n buf new_buf next new_log
live_stepped l next log new_log dev pick status number n buf new_buf reply goes fits places serves told counted sent =
    rw (goes, fits) (record { reply = reply; places = places; serves = serves; status_is = told; number_is = counted; sent = sent })
