-- Steps of devices whose disk is lost.
use Rattle.std.proofs.Common.{◌≡◌, ◌≤◌, ◌<◌, ℕ, Bool, true, false, nat_lt, List, [], ◌++◌, length, drop, refl, sym, ap, ◌∙◌, subst, arith}
use Rattle.std.specs.Prelude.{◌-◌, ◌&&◌, Option, Some, None, if◌then◌else◌, slice_get}
use Rattle.blk.specs.Durable.{ends_write, owed_if}
use Rattle.blk.specs.Flush as blk
use Rattle.blk.specs.declared.durable.SyncOwed.{SyncOwed}
use Rattle.blk.specs.declared.durable.SyncOwed.TheVariants.{Nothing, Flush, EndOfWrite}
use Rattle.blk.specs.declared.request.Request.{Request}
use Rattle.machine.specs.AppliedLaws.{RefusedChangesNothing}
use Rattle.machine.specs.DeviceStep.{advances}
use Rattle.machine.specs.Seen.{Seen, state_of}
use Rattle.machine.specs.State.{DeviceState}
use Rattle.machine.specs.Unsynced.{flushes, flushes_if, kind_flushes, kind_owed, owed}
use Rattle.machine.specs.declared.kind.Kind.{Kind}
use Rattle.machine.specs.declared.kind.Kind.TheVariants.{Network, Block, Outside, Console, Entropy}
use Rattle.machine.specs.declared.event.Event.TheVariants.{Step}
use Rattle.machine.specs.declared.reply.Reply.{Reply}
use Rattle.machine.specs.declared.reply.Reply.TheVariants.{Value, Done, OutByte, Bytes, Idle, Taken, Moved, BadSector, DiskFailed, Completed, Sent, Dropped, Accepted, NeedsReset, NoMemory, Refused}
use Rattle.sender.specs.LiveState.{LiveSeen, now, refusal_for}
use Rattle.sender.specs.declared.event.LiveEvent.TheVariants.{Guest}
use Rattle.sender.specs.declared.event.LiveReply.{LiveReply}
use Rattle.sender.specs.declared.event.LiveReply.TheVariants as live
use Rattle.c_handle.specs.Durable.{FailsKept, FailsUnless, failed_status, owed_for, owed_in, owed_lost, owed_unless}
use Rattle.c_handle.specs.Kept.{KeptSeen, State, Still, Moving, Arriving, Lent, is_lost}
use Rattle.c_handle.specs.Mirror.{is_closed}
use Rattle.c_machine.specs.Plain.{ArePlain}
use Rattle.c_handle.specs.Refused.{ArePlainIn, IsSameKept, IsSameMachine, IsSameSent}
use Rattle.c_handle.specs.SendStatus.{live_status}
use Rattle.c_machine.specs.Status.{status_of}
use Rattle.c_handle.specs.Stepped.{LiveSteppedIf, RefusedStepsNothing, StepsKept, StepsOwing, SteppedIf, live_sent_in, most_sent_by, sent_in}
use Rattle.c_machine.proofs.Plain.{is_refusal}
use Rattle.c_handle.proofs.PageLogs.{logged_is_served, quiet_log, quiet_log_live}
use Rattle.c_handle.proofs.Quiet.{no_number, quiet_by, refused_same, same_loan, same_machine, same_sent}

-- A step that owes a flush makes one.
made_by : (f e : Bool) → (if f then Flush else if e then EndOfWrite else Nothing) ≡ Flush → f ≡ true
made_by true e is = refl
made_by false true is = absurd cc
made_by false false is = absurd cc

made_of : (features : ℕ) (r : Option Request) → owed_if features r ≡ Flush → blk.flushes_in r ≡ true
made_of features (Some r) is = made_by (blk.flushes r) (ends_write features r) is
made_of features None is = absurd cc

made_kind : (features : ℕ) (kind : Kind) (k : ℕ) → kind_owed features kind k ≡ Flush → kind_flushes kind k ≡ true
made_kind features (Block block) k is = made_of features (slice_get block.requests k) is
made_kind features (Network mac inbox) k is = absurd cc
made_kind features (Outside block) k is = absurd cc
made_kind features (Console size held) k is = absurd cc
made_kind features (Entropy pool) k is = absurd cc

made_if : (a : Bool) (features : ℕ) (kind : Kind) (k : ℕ) → (if a then kind_owed features kind k else Nothing) ≡ Flush → (a && kind_flushes kind k) ≡ true
made_if true features kind k is = made_kind features kind k is
made_if false features kind k is = absurd cc

made : (d : DeviceState) (pick : ℕ) → owed d pick ≡ Flush → flushes d pick ≡ true
made d pick is = made_if (advances d pick) d.registers.common.features d.kind (pick - 1) is

made_for : (d : Option DeviceState) (pick : ℕ) → owed_for d pick ≡ Flush → flushes_if d pick ≡ true
made_for None pick is = absurd cc
made_for (Some d) pick is = made d pick is

failed_live : (closed : Bool) (l next : LiveSeen) (dev pick status : ℕ) → owed_unless closed (now l) dev pick ≡ Flush → FailsUnless closed l dev pick status next → status ≡ 69
failed_live true l next dev pick status is f = absurd cc
failed_live false l next dev pick status is f = f.status_is ∙ ap failed_status (made_for (slice_get (now l).devices dev) pick is)

failed_in : (k next : State) (dev pick status : ℕ) → owed_in k dev pick ≡ Flush → FailsKept k dev pick status next → status ≡ 69
failed_in (Still m) (Still next) dev pick status is f = f.status_is ∙ ap failed_status (made_for (slice_get (state_of m).devices dev) pick is)
failed_in (Moving l) (Moving next) dev pick status is f = failed_live (is_closed l.phase) l next dev pick status is f
failed_in (Arriving r) next dev pick status is f = absurd cc
failed_in (Lent x) next dev pick status is f = absurd cc
failed_in (Still m) (Moving next) dev pick status is f = absurd f
failed_in (Still m) (Arriving next) dev pick status is f = absurd f
failed_in (Still m) (Lent next) dev pick status is f = absurd f
failed_in (Moving l) (Still next) dev pick status is f = absurd f
failed_in (Moving l) (Arriving next) dev pick status is f = absurd f
failed_in (Moving l) (Lent next) dev pick status is f = absurd f

is_owed : (lost : Bool) (o : SyncOwed) → (if lost then o else Nothing) ≡ Flush → o ≡ Flush
is_owed true o is = is
is_owed false o is = absurd cc

-- By what the step owes.
pub owes_nothing : (k next : KeptSeen) (dev pick status number n : ℕ) (buf new_buf : List ℕ) (o : SyncOwed) → o ≡ Nothing → o ≡ owed_lost k dev pick → StepsKept k.state k.written dev pick status number n buf new_buf next.state next.written
    → StepsOwing (owed_lost k dev pick) k.state k.written dev pick status number n buf new_buf next.state next.written
owes_nothing k next dev pick status number n buf new_buf o is by steps = subst (λ (x : SyncOwed). StepsOwing x k.state k.written dev pick status number n buf new_buf next.state next.written) (sym is ∙ by) steps

pub owes_flush : (k next : KeptSeen) (dev pick status n : ℕ) (buf : List ℕ) (o : SyncOwed) → o ≡ Flush → o ≡ owed_lost k dev pick → FailsKept k.state dev pick status next.state → next.written ≡ k.written
    → StepsOwing (owed_lost k dev pick) k.state k.written dev pick status n n buf buf next.state next.written
owes_flush k next dev pick status n buf o is by fails same =
    let owes : owed_lost k dev pick ≡ Flush = sym by ∙ is in
    rw owes (record {
      log_same = same;
      status_is = failed_in k.state next.state dev pick status (is_owed (is_lost k dev) (owed_in k.state dev pick) owes) fails;
      fails = fails;
      number_same = refl;
      buf_same = refl;
    })

pub owes_end : (k : KeptSeen) (dev pick n : ℕ) (buf : List ℕ) (o : SyncOwed) → o ≡ EndOfWrite → o ≡ owed_lost k dev pick → StepsOwing (owed_lost k dev pick) k.state k.written dev pick 65 n n buf buf k.state k.written
owes_end k dev pick n buf o is by =
    let owes : owed_lost k dev pick ≡ EndOfWrite = sym by ∙ is in
    rw owes (record { log_same = refl; status_is = refl; number_same = refl; buf_same = refl; same = refl })

-- What was refused.
none_sent : (reply : Reply) → 1 ≤ status_of reply → status_of reply < 64 → sent_in reply ≡ []
none_sent (Value v) some few = refl
none_sent Done some few = refl
none_sent (OutByte byte) some few = refl
none_sent (Bytes bytes) some few = refl
none_sent Idle some few = refl
none_sent Taken some few = refl
none_sent Moved some few = refl
none_sent BadSector some few = refl
none_sent DiskFailed some few = refl
none_sent (Completed len) some few = refl
none_sent (Sent bytes) some few = absurd (omega (arith, few))
none_sent Dropped some few = refl
none_sent (Accepted count) some few = refl
none_sent NeedsReset some few = refl
none_sent NoMemory some few = refl
none_sent (Refused refusal) some few = refl

none_sent_live : (reply : LiveReply) → 1 ≤ live_status reply → live_status reply < 64 → live_sent_in reply ≡ []
none_sent_live (live.Guest reply) some few = none_sent reply some few
none_sent_live (live.Begun round) some few = refl
none_sent_live (live.Copied item) some few = refl
none_sent_live live.RoundDone some few = refl
none_sent_live live.RoundOpen some few = refl
none_sent_live (live.Stopped pages sectors) some few = refl
none_sent_live (live.Mig error) some few = refl

same_buf : (sent buf new_buf : List ℕ) → sent ≡ [] → new_buf ≡ sent ++ drop (length sent) buf → new_buf ≡ buf
same_buf sent buf new_buf none is = is ∙ ap (λ (l : List ℕ). l ++ drop (length l) buf) none

quiet_step : RefusedChangesNothing → (small : Bool) (m next : Seen) (log new_log : Option (List Bool)) (dev pick status number before : ℕ) (buf new_buf : List ℕ) → ArePlain m → SteppedIf small m log dev pick status number before buf new_buf next new_log → 1 ≤ status → status < 64
    → IsSameMachine m next × (number ≡ before) × (new_buf ≡ buf) × (new_log ≡ log)
quiet_step law true m next log new_log dev pick status number before buf new_buf plain s some few = (same_machine m next s.same, s.number_same, s.buf_same, s.log_same)
quiet_step law false m next log new_log dev pick status number before buf new_buf plain s some few =
    let more : 1 ≤ status_of s.reply = omega (arith, some, s.status_is) in
    let less : status_of s.reply < 64 = omega (arith, few, s.status_is) in
    (refused_same law m next (Step dev pick) s.reply s.logged.is_applied (is_refusal s.reply more less), s.number_is ∙ no_number s.reply before more less, same_buf (sent_in s.reply) buf new_buf (none_sent s.reply more less) s.sent, quiet_log m next log new_log (Step dev pick) s.reply law s.logged (is_refusal s.reply more less))

quiet_live_step : RefusedChangesNothing → (closed small : Bool) (l next : LiveSeen) (log new_log : Option (List Bool)) (dev pick status number before : ℕ) (buf new_buf : List ℕ) → ArePlain l.machine → LiveSteppedIf closed small l log dev pick status number before buf new_buf next new_log → 1 ≤ status → status < 64
    → IsSameSent l next × (number ≡ before) × (new_buf ≡ buf) × (new_log ≡ log)
quiet_live_step law true small l next log new_log dev pick status number before buf new_buf plain s some few = (same_sent l next s.same, s.number_same, s.buf_same, s.log_same)
quiet_live_step law false true l next log new_log dev pick status number before buf new_buf plain s some few = (same_sent l next s.same, s.number_same, s.buf_same, s.log_same)
quiet_live_step law false false l next log new_log dev pick status number before buf new_buf plain s some few =
    let more : 1 ≤ live_status s.reply = omega (arith, some, s.status_is) in
    let less : live_status s.reply < 64 = omega (arith, few, s.status_is) in
    let quiet = quiet_by law (refusal_for l.phase (Guest (Step dev pick))) l next (Step dev pick) s.reply before plain more less (logged_is_served l next log new_log (Step dev pick) s.reply s.serves) in
    (quiet.0, s.number_is ∙ quiet.1, same_buf (live_sent_in s.reply) buf new_buf (none_sent_live s.reply more less) s.sent, quiet_log_live l next log new_log (Step dev pick) s.reply law more less s.serves)

quiet_kept : RefusedChangesNothing → (k next : State) (log new_log : Option (List Bool)) (dev pick status number before : ℕ) (buf new_buf : List ℕ) → ArePlainIn k → StepsKept k log dev pick status number before buf new_buf next new_log → 1 ≤ status → status < 64
    → IsSameKept k next × (number ≡ before) × (new_buf ≡ buf) × (new_log ≡ log)
quiet_kept law (Still m) (Still next) log new_log dev pick status number before buf new_buf plain s some few = quiet_step law (nat_lt (length buf) (most_sent_by m dev pick)) m next log new_log dev pick status number before buf new_buf plain s some few
quiet_kept law (Moving l) (Moving next) log new_log dev pick status number before buf new_buf plain s some few = quiet_live_step law (is_closed l.phase) (nat_lt (length buf) (most_sent_by l.machine dev pick)) l next log new_log dev pick status number before buf new_buf plain s some few
quiet_kept law (Arriving r) (Arriving next) log new_log dev pick status number before buf new_buf plain s some few = (s.1, s.0.0.1, s.0.0.2, s.0.1)
quiet_kept law (Lent x) (Lent next) log new_log dev pick status number before buf new_buf plain s some few = (same_loan x next s.1, s.0.0.1, s.0.0.2, s.0.1)
quiet_kept law (Still m) (Moving next) log new_log dev pick status number before buf new_buf plain s some few = absurd s
quiet_kept law (Still m) (Arriving next) log new_log dev pick status number before buf new_buf plain s some few = absurd s
quiet_kept law (Still m) (Lent next) log new_log dev pick status number before buf new_buf plain s some few = absurd s
quiet_kept law (Moving l) (Still next) log new_log dev pick status number before buf new_buf plain s some few = absurd s
quiet_kept law (Moving l) (Arriving next) log new_log dev pick status number before buf new_buf plain s some few = absurd s
quiet_kept law (Moving l) (Lent next) log new_log dev pick status number before buf new_buf plain s some few = absurd s
quiet_kept law (Arriving r) (Still next) log new_log dev pick status number before buf new_buf plain s some few = absurd s
quiet_kept law (Arriving r) (Moving next) log new_log dev pick status number before buf new_buf plain s some few = absurd s
quiet_kept law (Arriving r) (Lent next) log new_log dev pick status number before buf new_buf plain s some few = absurd s
quiet_kept law (Lent x) (Still next) log new_log dev pick status number before buf new_buf plain s some few = absurd s
quiet_kept law (Lent x) (Moving next) log new_log dev pick status number before buf new_buf plain s some few = absurd s
quiet_kept law (Lent x) (Arriving next) log new_log dev pick status number before buf new_buf plain s some few = absurd s

pub itself : (k : State) → IsSameKept k k
itself (Still m) = same_machine m m refl
itself (Moving l) = same_sent l l refl
itself (Arriving r) = refl
itself (Lent x) = same_loan x x refl

pub refused_steps_nothing : RefusedChangesNothing → RefusedStepsNothing
refused_steps_nothing law Nothing k next log new_log dev pick status number before buf new_buf plain s some few = quiet_kept law k next log new_log dev pick status number before buf new_buf plain s some few
refused_steps_nothing law Flush k next log new_log dev pick status number before buf new_buf plain s some few = absurd (omega (arith, s.status_is, few))
refused_steps_nothing law EndOfWrite k next log new_log dev pick status number before buf new_buf plain s some few = (subst (λ (x : State). IsSameKept k x) (sym s.same) (itself k), s.number_same, s.buf_same, s.log_same)
