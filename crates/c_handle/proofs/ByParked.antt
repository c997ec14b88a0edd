-- What is told of a machine whose RAM is lent.
use Rattle.std.proofs.Common.{◌≡◌, ◌≤◌, ◌*◌, ℕ, List, refl, subst, length, replicate}
use Rattle.std.specs.Prelude.{None, Result, Ok, Err, IfOk, slice_get}
use Rattle.std.proofs.lemmas.List.{length-replicate}
use Rattle.blk.proofs.Zeros.{zero_bytes}
use Rattle.guestmem.specs.Memory.{IsMemory, Memory}
use Rattle.machine.specs.Applied.{IsApplied}
use Rattle.machine.specs.Direct.{done_reply}
use Rattle.machine.specs.Known.{Lent}
use Rattle.machine.specs.Over.{AppliesOver, calls_in, sectors_in}
use Rattle.machine.specs.Parked.{IsAppliedParked, ParkedSeen, WhateverRam, back_with, parked_states}
use Rattle.machine.specs.Seen.{state_of}
use Rattle.machine.specs.Sound.{IsSound}
use Rattle.machine.specs.declared.event.Event.{Event}
use Rattle.machine.specs.declared.event.Event.TheVariants.{RegRead, RegWrite, Input, Resize, Drop}
use Rattle.machine.specs.declared.reply.Refusal.{Refusal}
use Rattle.machine.specs.declared.reply.Reply.{Reply}
use Rattle.machine.proofs.ParkedCalls.{applied_parked}
use Rattle.machine.proofs.Quiet.{IsQuiet}
use Rattle.sender.specs.Calls.{guest_reply}
use Rattle.sender.specs.HereOrLent.{LeavesRest, ServesOver}
use Rattle.sender.specs.LiveState.{live_with}
use Rattle.sender.specs.Parked.{LiveParkedSeen}
use Rattle.sender.specs.declared.event.LiveReply.TheVariants as live
use Rattle.sender.specs.declared.mig_error.MigError.{MigError}
use Rattle.sender.proofs.ParkedServed.{served_parked}
use Rattle.c_machine.specs.Status.{number_of, status_of}
use Rattle.c_handle.specs.SendStatus.{live_status}
use Rattle.c_handle.specs.Stepped.{sent_in}
use Rattle.c_handle.specs.Told.{IsServedLent, IsToldLent, live_number}
use Rattle.c_handle.proofs.ByKept.{applied_in, drop_number, few_by, no_number, size_number}

-- An event of the machine with zeros in its RAM.
abbrev pub zero_ram : ParkedSeen → Memory
zero_ram p = record { bytes = replicate (4096 * length p.memory) 0; versions = p.memory; place = None }

pub applied_at : (p next : ParkedSeen) (e : Event) (reply : Reply) → 1 ≤ length p.memory → length p.memory ≤ 4294967295 → IsAppliedParked p e reply next → IsApplied (back_with p (zero_ram p)) e reply (back_with next (zero_ram p))
applied_at p next e reply some few a = (a.applied (zero_ram p) (record { pages = length-replicate (4096 * length p.memory) 0; some = some; few = few }) (zero_bytes (4096 * length p.memory)) refl).applied

-- A call whose clauses are said of a machine here or lent.
told : (p next : ParkedSeen) (e : Event) (reply : Reply) (status number n : ℕ) → IsQuiet e → status ≡ status_of reply → number ≡ number_of reply n → AppliesOver Lent p e reply next → sectors_in next ≡ sectors_in p → calls_in next ≡ calls_in p → IsToldLent p e status number n next
told p next e reply status number n quiet is counted h sectors calls = record { reply = reply; applied = applied_parked p next e reply quiet h sectors calls; status_is = is; number_is = counted }

pub told_read : (p : ParkedSeen) (dev off width : ℕ) (reply : Reply) (status number n : ℕ) → status ≡ status_of reply → number ≡ number_of reply n → AppliesOver Lent p (RegRead dev off width) reply p → IsToldLent p (RegRead dev off width) status number n p
told_read p dev off width reply status number n is counted h = told p p (RegRead dev off width) reply status number n tt is counted h refl refl

pub told_write : (p next : ParkedSeen) (dev off width value : ℕ) (reply : Reply) (status number n : ℕ) → status ≡ status_of reply → number ≡ number_of reply n → AppliesOver Lent p (RegWrite dev off width value) reply next → sectors_in next ≡ sectors_in p → calls_in next ≡ calls_in p
    → IsToldLent p (RegWrite dev off width value) status number n next
told_write p next dev off width value reply status number n is counted h sectors calls = told p next (RegWrite dev off width value) reply status number n tt is counted h sectors calls

pub told_input : (p next : ParkedSeen) (dev : ℕ) (bytes : List ℕ) (reply : Reply) (status number n : ℕ) → status ≡ status_of reply → number ≡ number_of reply n → AppliesOver Lent p (Input dev bytes) reply next → sectors_in next ≡ sectors_in p → calls_in next ≡ calls_in p
    → IsToldLent p (Input dev bytes) status number n next
told_input p next dev bytes reply status number n is counted h sectors calls = told p next (Input dev bytes) reply status number n tt is counted h sectors calls

pub told_resize : (p next : ParkedSeen) (dev cols rows : ℕ) (answer : Result (Unit {0}) Refusal) (status : ℕ) → status ≡ status_of (done_reply answer) → AppliesOver Lent p (Resize dev cols rows) (done_reply answer) next → sectors_in next ≡ sectors_in p → calls_in next ≡ calls_in p
    → IsToldLent p (Resize dev cols rows) status 0 0 next
told_resize p next dev cols rows answer status is h sectors calls = told p next (Resize dev cols rows) (done_reply answer) status 0 0 tt is (no_number answer) h sectors calls

pub told_drop : (p next : ParkedSeen) (dev : ℕ) (answer : Result (Unit {0}) Refusal) (status : ℕ) → status ≡ status_of (done_reply answer) → AppliesOver Lent p (Drop dev) (done_reply answer) next → sectors_in next ≡ sectors_in p → calls_in next ≡ calls_in p → IsToldLent p (Drop dev) status 0 0 next
told_drop p next dev answer status is h sectors calls = told p next (Drop dev) (done_reply answer) status 0 0 tt is (no_number answer) h sectors calls

-- Of one that is sent.
served : (l next : LiveParkedSeen) (e : Event) (answer : Result Reply MigError) (status number n : ℕ) → IsQuiet e → LeavesRest l answer next → ServesOver Lent l e (guest_reply answer) next → status ≡ live_status (guest_reply answer) → number ≡ live_number (guest_reply answer) n
    → IsServedLent l e status number n next
served l next e answer status number n quiet left h is counted = record { reply = guest_reply answer; serves = served_parked l next e answer quiet h left; status_is = is; number_is = counted }

pub served_read : (l : LiveParkedSeen) (dev off width : ℕ) (answer : Result Reply MigError) (status number n : ℕ) → LeavesRest l answer l → ServesOver Lent l (RegRead dev off width) (guest_reply answer) l → status ≡ live_status (guest_reply answer) → number ≡ live_number (guest_reply answer) n
    → IsServedLent l (RegRead dev off width) status number n l
served_read l dev off width answer status number n left h is counted = served l l (RegRead dev off width) answer status number n tt left h is counted

pub served_write : (l next : LiveParkedSeen) (dev off width value : ℕ) (answer : Result Reply MigError) (status number n : ℕ) → LeavesRest l answer next → ServesOver Lent l (RegWrite dev off width value) (guest_reply answer) next → status ≡ live_status (guest_reply answer)
    → number ≡ live_number (guest_reply answer) n → IsServedLent l (RegWrite dev off width value) status number n next
served_write l next dev off width value answer status number n left h is counted = served l next (RegWrite dev off width value) answer status number n tt left h is counted

pub served_input : (l next : LiveParkedSeen) (dev : ℕ) (bytes : List ℕ) (answer : Result Reply MigError) (status number n : ℕ) → LeavesRest l answer next → ServesOver Lent l (Input dev bytes) (guest_reply answer) next → status ≡ live_status (guest_reply answer)
    → number ≡ live_number (guest_reply answer) n → IsServedLent l (Input dev bytes) status number n next
served_input l next dev bytes answer status number n left h is counted = served l next (Input dev bytes) answer status number n tt left h is counted

-- The event with zeros in RAM.
served_at : (l next : LiveParkedSeen) (e : Event) (reply : Reply) → 1 ≤ length l.machine.memory → length l.machine.memory ≤ 4294967295 → ServesOver Lent l e (live.Guest reply) next → IsApplied (back_with l.machine (zero_ram l.machine)) e reply (back_with next.machine (zero_ram l.machine))
served_at l next e reply some few h =
    let zeros : Memory = zero_ram l.machine in
    let mem : IsMemory zeros = record { pages = length-replicate (4096 * length l.machine.memory) 0; some = some; few = few } in
    applied_in (live_with l zeros) (live_with next zeros) e reply (h.1 zeros mem (zero_bytes (4096 * length l.machine.memory)) refl)

abbrev IsSoundBack : ParkedSeen → Type 0
IsSoundBack p = WhateverRam p (λ m. IsSound (state_of (back_with p m)))

sound_at : (p : ParkedSeen) → 1 ≤ length p.memory → length p.memory ≤ 4294967295 → IsSoundBack p → IsSound (state_of (back_with p (zero_ram p)))
sound_at p some few sound = sound (zero_ram p) (record { pages = length-replicate (4096 * length p.memory) 0; some = some; few = few }) (zero_bytes (4096 * length p.memory)) refl

pub few_told : (p : ParkedSeen) (l next : LiveParkedSeen) (e : Event) (answer : Result Reply MigError) → p ≡ l.machine → 1 ≤ length p.memory → length p.memory ≤ 4294967295 → WhateverRam p (λ m. IsSound (state_of (back_with p m))) → ServesOver Lent l e (guest_reply answer) next
    → IfOk answer (λ reply. length (sent_in reply) ≤ 65536)
few_told p l next e (Ok reply) is some few sound h =
    let some_here : 1 ≤ length l.machine.memory = subst (λ (q : ParkedSeen). 1 ≤ length q.memory) is some in
    let few_here : length l.machine.memory ≤ 4294967295 = subst (λ (q : ParkedSeen). length q.memory ≤ 4294967295) is few in
    let sound_here : IsSoundBack l.machine = subst IsSoundBack is sound in
    few_by (back_with l.machine (zero_ram l.machine)) (back_with next.machine (zero_ram l.machine)) e reply (sound_at l.machine some_here few_here sound_here) (served_at l next e reply some_here few_here h)
few_told p l next e (Err x) is some few sound h = tt

-- A size and a drop have no number.
without : (l next : LiveParkedSeen) (e : Event) (answer : Result Reply MigError) → 1 ≤ length l.machine.memory → length l.machine.memory ≤ 4294967295
    → ((r : Reply) → IsApplied (back_with l.machine (zero_ram l.machine)) e r (back_with next.machine (zero_ram l.machine)) → 0 ≡ number_of r 0) → ServesOver Lent l e (guest_reply answer) next → 0 ≡ live_number (guest_reply answer) 0
without l next e (Ok r) some few none h = none r (served_at l next e r some few h)
without l next e (Err x) some few none h = refl

pub resized : (l next : LiveParkedSeen) (dev cols rows : ℕ) (answer : Result Reply MigError) (status : ℕ) → 1 ≤ length l.machine.memory → length l.machine.memory ≤ 4294967295 → ServesOver Lent l (Resize dev cols rows) (guest_reply answer) next → LeavesRest l answer next
    → status ≡ live_status (guest_reply answer) → IsServedLent l (Resize dev cols rows) status 0 0 next
resized l next dev cols rows answer status some few h left told =
    served l next (Resize dev cols rows) answer status 0 0 tt left h told
    (without l next (Resize dev cols rows) answer some few (λ r applied. rw (applied.has.reply_is) (size_number dev (slice_get (parked_states l.machine) dev) (record { columns = cols; rows = rows }))) h)

pub dropped : (l next : LiveParkedSeen) (dev : ℕ) (answer : Result Reply MigError) (status : ℕ) → 1 ≤ length l.machine.memory → length l.machine.memory ≤ 4294967295 → ServesOver Lent l (Drop dev) (guest_reply answer) next → LeavesRest l answer next
    → status ≡ live_status (guest_reply answer) → IsServedLent l (Drop dev) status 0 0 next
dropped l next dev answer status some few h left told =
    served l next (Drop dev) answer status 0 0 tt left h told (without l next (Drop dev) answer some few (λ r applied. rw (applied.has.reply_is) (drop_number dev (slice_get (parked_states l.machine) dev))) h)
