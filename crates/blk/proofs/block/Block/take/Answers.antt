use Rattle.std.proofs.Common.{◌≡◌, ◌∙◌, ℕ, List, ap}
use Rattle.guestmem.specs.Memory.{Memory}
use Rattle.blk.specs.Block.{limits_of}
use Rattle.blk.specs.Take.{header_of, segment_of, task_for}
use Rattle.blk.specs.declared.shape.Limits.{Limits}
use Rattle.blk.proofs.Tasks.{taken_sound}
use Rattle.blk.proofs.block.Block.take.Goals as goal

pub returns-clause-sound : goal.returns-clause-sound
returns-clause-sound g c =
    let q = g.R.Ring.state c.args.ring.now in
    let chain = c.look.new.chain in
    let limits = limits_of c.args.self.now c.args.features in
    let ram = c.args.ram.now.bytes in
    let same : c.look.new.ram.bytes ≡ ram = ap (λ (m : Memory). m.bytes) c.in_ok-look.ensures.untouched.0 in
    let task : c.task_for-task.result ≡ task_for q.base ram limits chain =
    c.task_for-task.ensures ∙ ap (λ (base : ℕ). task_for base c.look.new.ram.bytes c.limits.result chain) c.requires.base ∙ ap (λ (bytes : List ℕ). task_for q.base bytes c.limits.result chain) same ∙ ap (λ (l : Limits). task_for q.base ram l chain) c.limits.ensures in
    let all = taken_sound _ q limits c.args.self.now.requests (header_of q.base ram chain) (segment_of q.base ram chain) chain (rw c.request_for.ensures.request at c.request_for.ensures.fits) c.in_ok-look.ensures.bounded c.in_ok-look.ensures.gives.1 c.requires.sound in
    rw (c.push.ensures, c.request_for.ensures.request, task, c.take.ensures.state, c.look.ensures.state, c.in_ok-look.ensures.untouched.0) all
