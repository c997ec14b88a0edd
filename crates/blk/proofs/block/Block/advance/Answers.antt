use Rattle.std.proofs.Common.{◌≡◌, ◌<◌, ◌≤◌, ◌∙◌, sym, ap, true, false, Some, None, slice_get, length, arith, refl}
use Rattle.std.proofs.lemmas.Option.{slice_get_read, slice_get_past, get_or_from_slice_get}
use Rattle.guestmem.proofs.LaterLaws.{later_same}
use Rattle.guestmem.proofs.RisesLaws.{touches_none}
use Rattle.blk.specs.Block.{with_requests}
use Rattle.blk.specs.Move.{is_disk_failed}
use Rattle.blk.specs.Request.{is_open}
use Rattle.blk.specs.Sound.{IsSoundRequest}
use Rattle.blk.specs.declared.request.Request.{Request}
use Rattle.blk.proofs.Units.{goes_on}
use Rattle.blk.proofs.Ending.{ended, stayed, went_on, all_left}
use Rattle.blk.proofs.block.Block.advance.Goals as goal

pub returns-then-job-len-clause-changes : goal.returns-then-job-len-clause-changes
returns-then-job-len-clause-changes g c =
    let items = c.self.inside.0.1.1.1.0.list.items in
    let past : length items ≤ c.args.job.k = omega (arith, c.if-job-len.true, c.len.ensures) in
    let none : slice_get c.args.self.now.requests c.args.job.k ≡ None = rw (← c.self.view_is) (slice_get_past items c.args.job.k past) in
    stayed _ c.args.sectors.now.honest c.args.job.device c.args.ram.now.bytes c.args.sectors.now.content (g.R.Ring.state c.args.ring.now) c.args.self.now c.args.job.k _ none c.recall.ensures.whole
    (touches_none g.L.TouchLog.after c.args.log.now c.args.log.now c.args.ram.now c.args.ram.now refl refl)

pub returns-then-job-len-clause-calls : goal.returns-then-job-len-clause-calls
returns-then-job-len-clause-calls g c =
    let items = c.self.inside.0.1.1.1.0.list.items in
    let past : length items ≤ c.args.job.k = omega (arith, c.if-job-len.true, c.len.ensures) in
    let none : slice_get c.args.self.now.requests c.args.job.k ≡ None = rw (← c.self.view_is) (slice_get_past items c.args.job.k past) in
    rw none refl

pub returns-then-is_open-clause-changes : goal.returns-then-is_open-clause-changes
returns-then-is_open-clause-changes g c =
    let r = c.index_mut-request.result.now in
    let items = c.self.inside.0.1.1.1.0.list.items in
    let below : c.args.job.k < length items = omega (arith, c.if-job-len.false, c.len.ensures) in
    let at : slice_get items c.args.job.k ≡ Some r = slice_get_read items (length items) c.args.job.k r refl below c.index_mut-request.ensures.value in
    let same : c.index.result.now ≡ r = c.index.ensures ∙ get_or_from_slice_get items c.args.job.k r c.index.result.now at in
    let some : is_open r ≡ true = rw (← same) (sym c.is_open.ensures ∙ c.if-is_open.true) in
    rw (← c.self.view_is) (went_on _ c.args.sectors.now.honest c.args.job.device c.args.ram.now.bytes c.move_unit-moved.new.ram.bytes c.args.sectors.now.content c.move_unit-moved.new.sectors.content (g.R.Ring.state c.args.ring.now) (g.R.Ring.state c.args.ring.now) _ _ c.args.job.k _ r c.move_unit-moved.new.request c.move_unit-moved.result at some (rw c.requires.base at c.move_unit-moved.ensures.moved)
    refl refl)

pub returns-then-is_open-clause-calls : goal.returns-then-is_open-clause-calls
returns-then-is_open-clause-calls g c =
    let r = c.index_mut-request.result.now in
    let items = c.self.inside.0.1.1.1.0.list.items in
    let below : c.args.job.k < length items = omega (arith, c.if-job-len.false, c.len.ensures) in
    let at : slice_get items c.args.job.k ≡ Some r = slice_get_read items (length items) c.args.job.k r refl below c.index_mut-request.ensures.value in
    let same : c.index.result.now ≡ r = c.index.ensures ∙ get_or_from_slice_get items c.args.job.k r c.index.result.now at in
    let some : is_open r ≡ true = rw (← same) (sym c.is_open.ensures ∙ c.if-is_open.true) in
    rw (← c.self.view_is, at, some) c.move_unit-moved.ensures.calls

pub returns-then-is_open-clause-sound : goal.returns-then-is_open-clause-sound
returns-then-is_open-clause-sound g c = λ limits sound.
    let items = c.self.inside.0.1.1.1.0.list.items in
    let below : c.args.job.k < length items = omega (arith, c.if-job-len.false, c.len.ensures) in
    rw c.move_unit-moved.ensures.after.later.bytes (goes_on (length c.args.ram.now.bytes) (g.R.Ring.state c.args.ring.now) limits items c.args.job.k c.index_mut-request.result.now c.move_unit-moved.new.request c.move_unit-moved.result
    (rw (← c.self.view_is) at sound) below c.index_mut-request.ensures.value c.move_unit-moved.ensures.request (c.move_unit-moved.ensures.sound limits))

pub returns-clause-changes : goal.returns-clause-changes
returns-clause-changes g c =
    let r = c.index-2.result.now in
    let items = c.self.inside.0.1.1.1.0.list.items in
    let below : c.args.job.k < length items = omega (arith, c.if-job-len.false, c.len.ensures) in
    let at : slice_get items c.args.job.k ≡ Some r = slice_get_read items (length items) c.args.job.k r refl below c.index-2.ensures in
    let same : c.index.result.now ≡ r = c.index.ensures ∙ get_or_from_slice_get items c.args.job.k r c.index.result.now at in
    let found : slice_get c.args.self.now.requests c.args.job.k ≡ Some r = rw (← c.self.view_is) at in
    let shut : is_open r ≡ false = rw (← same) (sym c.is_open.ensures ∙ c.if-is_open.false) in
    ended _ c.args.sectors.now.honest c.args.job.device c.args.ram.now.bytes c.complete-completed.new.ram.bytes c.args.sectors.now.content (g.R.Ring.state c.args.ring.now) (g.R.Ring.state c.complete-completed.new.ring) c.args.self.now _ c.args.job.k _ r c.complete-completed.result found shut c.recall.ensures.whole
    c.complete-completed.ensures.answer c.complete-completed.ensures.bytes c.complete-completed.ensures.ring (ap (with_requests c.args.self.now) c.remove.ensures) (record { log_is = c.complete-completed.ensures.log; rises = c.complete-completed.ensures.rises })

pub returns-clause-calls : goal.returns-clause-calls
returns-clause-calls g c =
    let r = c.index-2.result.now in
    let items = c.self.inside.0.1.1.1.0.list.items in
    let below : c.args.job.k < length items = omega (arith, c.if-job-len.false, c.len.ensures) in
    let at : slice_get items c.args.job.k ≡ Some r = slice_get_read items (length items) c.args.job.k r refl below c.index-2.ensures in
    let same : c.index.result.now ≡ r = c.index.ensures ∙ get_or_from_slice_get items c.args.job.k r c.index.result.now at in
    let shut : is_open r ≡ false = rw (← same) (sym c.is_open.ensures ∙ c.if-is_open.false) in
    rw (← c.self.view_is, at, shut) refl

pub returns-clause-sound : goal.returns-clause-sound
returns-clause-sound g c = λ limits sound.
    let q = g.R.Ring.state c.args.ring.now in
    let P = IsSoundRequest q.base (length c.args.ram.now.bytes) q.is_packed q.size limits in
    rw (c.complete-completed.ensures.after.later.bytes, c.complete-completed.ensures.ring, c.remove.ensures) (all_left P c.args.self.now.requests c.args.job.k sound)

pub returns-then-job-len-clause-kept : goal.returns-then-job-len-clause-kept
returns-then-job-len-clause-kept g c = record { count = refl; honest = refl; steady = refl; size = refl; never_fails = λ _. refl }

pub returns-then-job-len-clause-flushed : goal.returns-then-job-len-clause-flushed
returns-then-job-len-clause-flushed g c = λ r found flush moved. absurd (cc)

pub returns-then-job-len-clause-whole : goal.returns-then-job-len-clause-whole
returns-then-job-len-clause-whole g c = c.recall.ensures.whole

pub returns-then-job-len-clause-sound : goal.returns-then-job-len-clause-sound
returns-then-job-len-clause-sound g c = λ limits sound. sound

pub returns-then-job-len-clause-after : goal.returns-then-job-len-clause-after
returns-then-job-len-clause-after g c = record { later = later_same c.args.ram.now; pages = c.requires.ready.pages }

pub returns-then-job-len-clause-decoder : goal.returns-then-job-len-clause-decoder
returns-then-job-len-clause-decoder g c = refl

pub returns-then-is_open-clause-kept : goal.returns-then-is_open-clause-kept
returns-then-is_open-clause-kept g c = c.move_unit-moved.ensures.kept

pub returns-then-is_open-clause-flushed : goal.returns-then-is_open-clause-flushed
returns-then-is_open-clause-flushed g c = λ r found flush moved.
    let given = c.index_mut-request.result.now in
    let items = c.self.inside.0.1.1.1.0.list.items in
    let below : c.args.job.k < length items = omega (arith, c.if-job-len.false, c.len.ensures) in
    let at : slice_get items c.args.job.k ≡ Some given = slice_get_read items (length items) c.args.job.k given refl below c.index_mut-request.ensures.value in
    let here : slice_get c.args.self.now.requests c.args.job.k ≡ Some given = rw (← c.self.view_is) at in
    let same : given ≡ r = cc in
    c.move_unit-moved.ensures.flushed (ap (λ (x : Request). x.kind) same ∙ flush) moved

pub returns-then-is_open-clause-whole : goal.returns-then-is_open-clause-whole
returns-then-is_open-clause-whole g c = c.recall-then-is_open.ensures.whole

pub returns-then-is_open-clause-after : goal.returns-then-is_open-clause-after
returns-then-is_open-clause-after g c = c.move_unit-moved.ensures.after

pub returns-then-is_open-clause-decoder : goal.returns-then-is_open-clause-decoder
returns-then-is_open-clause-decoder g c = refl

pub returns-clause-kept : goal.returns-clause-kept
returns-clause-kept g c =
    let fine : is_disk_failed c.complete-completed.result ≡ false = ap is_disk_failed c.complete-completed.ensures.answer in
    rw fine (record { count = refl; honest = refl; steady = refl; size = refl; never_fails = λ _. refl })

pub returns-clause-flushed : goal.returns-clause-flushed
returns-clause-flushed g c = λ r found flush moved. absurd (cc (c.complete-completed.ensures.answer))

pub returns-clause-whole : goal.returns-clause-whole
returns-clause-whole g c = c.recall.ensures.whole

pub returns-clause-after : goal.returns-clause-after
returns-clause-after g c = c.complete-completed.ensures.after

pub returns-clause-decoder : goal.returns-clause-decoder
returns-clause-decoder g c = c.complete-completed.ensures.decoder
