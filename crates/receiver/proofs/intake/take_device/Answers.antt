use Rattle.std.proofs.Common.{arith, rules, refl, ◌≡◌, ◌∷◌, ◌++◌, ◌+◌, ◌*◌, ◌<◌, ◌^◌, [], drop, take, get_or, length, ◌∙◌}
use Rattle.std.proofs.lemmas.List.{length-take}
use Rattle.guestmem.proofs.ByteLaws.{IsBytes-take}
use Rattle.wire.specs.declared.record_head.RecordHead.TheVariants as heads
use Rattle.receiver.proofs.Lists.{later_shapes}
use Rattle.receiver.proofs.Standing.{device_refused, entered_refused, entered_waits, opens_at, sized_on}
use Rattle.receiver.proofs.Steps.{devices_are, more_device}
use Rattle.receiver.proofs.Working.{kept, refused_kept}
use Rattle.receiver.specs.declared.recv_error.RecvError.TheVariants as errors
use Rattle.receiver.proofs.intake.take_device.Goals as goal

pub nth-shape-requires : goal.nth-shape-requires
nth-shape-requires c = omega arith

pub returns-then-number-len-clause-entered : goal.returns-then-number-len-clause-entered
returns-then-number-len-clause-entered c = λ ds front tail opening before are h o.
    entered_refused ds opening before c.args.intake.now front tail c.args.behind.now (heads.Device c.args.number c.args.len) o (λ next. omega (arith, next.next, devices_are h))

pub returns-then-len-gt-BODY_MAX-clause-entered : goal.returns-then-len-gt-BODY_MAX-clause-entered
returns-then-len-gt-BODY_MAX-clause-entered c = λ ds front tail opening before are h o.
    entered_refused ds opening before c.args.intake.now front tail c.args.behind.now (heads.Device c.args.number c.args.len) o (λ next. omega (arith, next.few))

pub returns-then-behind-len-clause-entered : goal.returns-then-behind-len-clause-entered
returns-then-behind-len-clause-entered c = λ ds front tail opening before are h o.
    entered_waits ds opening before c.args.intake.now front tail c.args.behind.now (heads.Device c.args.number c.args.len) are h o (record { next = omega (arith, devices_are h); few = omega arith }) (omega arith)

pub returns-in-Ok-clause-sized : goal.returns-in-Ok-clause-sized
returns-in-Ok-clause-sized c = sized_on c.args.intake.now _ c.requires.sized refl refl refl refl refl (search rules)

pub returns-in-Ok-clause-entered : goal.returns-in-Ok-clause-entered
returns-in-Ok-clause-entered c = λ ds front tail opening before are h o.
    let n = c.args.number in
    let len = c.args.len in
    let shape = c.nth-shape.result in
    let below : n < length c.args.intake.now.shapes.items = omega arith in
    let found : shape ≡ get_or c.args.intake.now.shapes.items n shape = rw c.deref.ensures.value at c.nth-shape.ensures in
    let here : drop n opening.shapes ≡ shape ∷ drop (n + 1) opening.shapes = rw h.shapes_are at (later_shapes c.args.intake.now.shapes.items n shape below found) in
    let size : c.len-ram_len.result ≡ 4096 * opening.pages = c.len-ram_len.ensures ∙ h.taken.ram_size in
    let body : c.split_at.result.0.now ≡ take len c.args.behind.now = search rules in
    let is = rw (h.version_is, h.ram_is, size, body) at (c.in-Ok.ensures.read) in
    let more : c.push_reserved.new.self.items ≡ c.args.intake.now.devices.items ++ c.in-Ok.state ∷ [] = search rules in
    let many : length (take len c.args.behind.now) ≡ len = omega (arith, length-take len c.args.behind.now) in
    let few : length (take len c.args.behind.now) < 2 ^ 32 = omega (arith, many) in
    let complete = (opens_at 4 _ o.opens o.whole).complete (omega arith, omega arith) in (
      kept ds,
      more_device ds front opening (drop (n + 1) opening.shapes) shape before c.args.intake.now _ n (take len c.args.behind.now) c.in-Ok.state h
          complete.items (omega (arith, c.ranges.number.fits), few, IsBytes-take len c.args.behind.now (λ k. omega (arith, c.type_inv.behind k))) (omega (arith, devices_are h)) here is refl refl refl refl refl refl refl more,
    )

pub returns-in-Err-BadBody-clause-entered : goal.returns-in-Err-BadBody-clause-entered
returns-in-Err-BadBody-clause-entered c = λ ds front tail opening before are h o.
    let n = c.args.number in
    let len = c.args.len in
    let shape = c.nth-shape.result in
    let below : n < length c.args.intake.now.shapes.items = omega arith in
    let found : shape ≡ get_or c.args.intake.now.shapes.items n shape = rw c.deref.ensures.value at c.nth-shape.ensures in
    let here : drop n opening.shapes ≡ shape ∷ drop (n + 1) opening.shapes = rw h.shapes_are at (later_shapes c.args.intake.now.shapes.items n shape below found) in
    let size : c.len-ram_len.result ≡ 4096 * opening.pages = c.len-ram_len.ensures ∙ h.taken.ram_size in
    let body : c.split_at.result.0.now ≡ take len c.args.behind.now = search rules in
    let never = rw (h.version_is, h.ram_is, size, body) at ((rw c.in-Err-BadBody.field-0-is at c.in-Err-BadBody.ensures.refused)) in
    device_refused ds opening before tail c.args.behind.now n len o (record { next = omega (arith, devices_are h); few = omega arith }) (omega arith) (record { shape = shape; others = drop (n + 1) opening.shapes; here = here; never = never })

pub returns-in-Err-NoMemory-clause-entered : goal.returns-in-Err-NoMemory-clause-entered
returns-in-Err-NoMemory-clause-entered c = λ ds front tail opening before are h o. (refused_kept ds errors.NoMemory (λ e. cc), tt)
