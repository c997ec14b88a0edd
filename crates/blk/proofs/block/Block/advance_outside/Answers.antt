use Rattle.std.proofs.Common.{◌≤◌, None, ◌≡◌, ◌<◌, ◌∙◌, ap, refl, sym, false, Some, slice_get, length, arith}
use Rattle.std.proofs.lemmas.Option.{slice_get_past, slice_get_read, get_or_from_slice_get}
use Rattle.guestmem.proofs.LaterLaws.{later_same}
use Rattle.guestmem.proofs.RisesLaws.{touches_none}
use Rattle.blk.specs.Block.{with_requests}
use Rattle.blk.specs.Move.{is_disk_failed}
use Rattle.blk.specs.Request.{is_open}
use Rattle.blk.specs.Sound.{IsSoundRequest}
use Rattle.blk.specs.declared.advancing.Advanced.TheVariants.{Moved}
use Rattle.blk.proofs.Units.{goes_on}
use Rattle.blk.proofs.Ending.{all_left}
use Rattle.blk.proofs.block.Block.advance_outside.Goals as goal

pub returns-then-is_open-clause-sound : goal.returns-then-is_open-clause-sound
returns-then-is_open-clause-sound g c = λ limits sound.
    let items = c.self.inside.0.1.1.1.0.list.items in
    let r = c.index_mut.result.now in
    let below : c.args.job.k < length items = omega (arith, c.if-k-len.false, c.len.ensures) in
    rw c.give_id.ensures.after.later.bytes (goes_on (length c.args.ram.now.bytes) (g.R.Ring.state c.args.ring.now) limits items c.args.job.k r c.give_id.new.request Moved
    (rw (← c.self.view_is) at sound) below c.index_mut.ensures.value c.give_id.ensures.request (c.give_id.ensures.sound limits))

pub returns-clause-changes : goal.returns-clause-changes
returns-clause-changes g c =
    let r = c.index-2.result.now in
    let items = c.self.inside.0.1.1.1.0.list.items in
    let below : c.args.job.k < length items = omega (arith, c.if-k-len.false, c.len.ensures) in
    let at : slice_get items c.args.job.k ≡ Some r = slice_get_read items (length items) c.args.job.k r refl below c.index-2.ensures in
    let same : c.index.result.now ≡ r = c.index.ensures ∙ get_or_from_slice_get items c.args.job.k r c.index.result.now at in
    let found : slice_get c.args.self.now.requests c.args.job.k ≡ Some r = rw (← c.self.view_is) at in
    let shut : is_open r ≡ false = rw (← same) (sym c.is_open.ensures ∙ c.if-is_open.false) in
    rw (found, shut) (record {
      answer_is = c.complete-completed.ensures.answer;
      ram_is = c.complete-completed.ensures.bytes;
      ring_is = c.complete-completed.ensures.ring;
      block_is = ap (with_requests c.args.self.now) c.remove.ensures;
      items_are = record { log_is = c.complete-completed.ensures.log; rises = c.complete-completed.ensures.rises };
    })

pub returns-clause-sound : goal.returns-clause-sound
returns-clause-sound g c = λ limits sound.
    let q = g.R.Ring.state c.args.ring.now in
    let P = IsSoundRequest q.base (length c.args.ram.now.bytes) q.is_packed q.size limits in
    rw (c.complete-completed.ensures.after.later.bytes, c.complete-completed.ensures.ring, c.remove.ensures) (all_left P c.args.self.now.requests c.args.job.k sound)

pub returns-then-k-len-clause-changes : goal.returns-then-k-len-clause-changes
returns-then-k-len-clause-changes g c =
    let items = c.self.inside.0.1.1.1.0.list.items in
    let past : length items ≤ c.args.job.k = omega (arith, c.if-k-len.true, c.len.ensures) in
    let none : slice_get c.args.self.now.requests c.args.job.k ≡ None = rw (← c.self.view_is) (slice_get_past items c.args.job.k past) in
    rw none (record {
      answer_is = refl;
      ram_is = refl;
      ring_is = refl;
      block_is = refl;
      items_are = touches_none g.L.TouchLog.after c.args.log.now c.args.log.now c.args.ram.now c.args.ram.now refl refl;
    })

pub returns-then-k-len-clause-fine : goal.returns-then-k-len-clause-fine
returns-then-k-len-clause-fine g c = refl

pub returns-then-k-len-clause-sound : goal.returns-then-k-len-clause-sound
returns-then-k-len-clause-sound g c = λ limits sound. sound

pub returns-then-k-len-clause-after : goal.returns-then-k-len-clause-after
returns-then-k-len-clause-after g c = record { later = later_same c.args.ram.now; pages = c.requires.ready.pages }

pub returns-then-k-len-clause-decoder : goal.returns-then-k-len-clause-decoder
returns-then-k-len-clause-decoder g c = refl

pub returns-then-is_open-clause-fine : goal.returns-then-is_open-clause-fine
returns-then-is_open-clause-fine g c = refl

pub returns-then-is_open-clause-after : goal.returns-then-is_open-clause-after
returns-then-is_open-clause-after g c = c.give_id.ensures.after

pub returns-then-is_open-clause-decoder : goal.returns-then-is_open-clause-decoder
returns-then-is_open-clause-decoder g c = refl

pub returns-clause-fine : goal.returns-clause-fine
returns-clause-fine g c = ap is_disk_failed c.complete-completed.ensures.answer

pub returns-clause-after : goal.returns-clause-after
returns-clause-after g c = c.complete-completed.ensures.after

pub returns-clause-decoder : goal.returns-clause-decoder
returns-clause-decoder g c = c.complete-completed.ensures.decoder
