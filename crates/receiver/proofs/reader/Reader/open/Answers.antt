use Rattle.std.proofs.Common.{refl, arith, sym, ap, subst, ◌∙◌, Bool, Some, take, drop, map, length, []}
use Rattle.std.proofs.lemmas.List.{length-map}
use Rattle.std.proofs.lemmas.Result.{err_from_is_err_and}
use Rattle.receiver.specs.Sums.{Sums}
use Rattle.wire.specs.Header.{said}
use Rattle.machine.specs.Shapes.{disk_sizes}
use Rattle.receiver.specs.Disks.{sizes_of}
use Rattle.receiver.specs.Fed.{IsUpTo}
use Rattle.receiver.specs.Opened.{opened}
use Rattle.receiver.specs.Receiving.{is_head, place_in}
use Rattle.receiver.specs.declared.recv_error.RecvError.TheVariants as errors
use Rattle.receiver.proofs.Looking.{head_is, head_not_failed, head_not_past, not_opened, open_refused, room_of}
use Rattle.receiver.proofs.Feeding.{true_false}
use Rattle.receiver.proofs.Stages.{head_taken, header_refused, mismatch}
use Rattle.receiver.proofs.Working.{refused_kept}
use Rattle.receiver.proofs.reader.Reader.open.Goals as goal

pub returns-then-not-is_head : goal.returns-then-not-is_head
returns-then-not-is_head g c = rw (← c.self.view_is) (not_opened _ c.args.bytes.now (λ head. absurd (true_false _ (ap is_head head) (sym c.is_head.ensures ∙ c.if-not-is_head.true))))

pub returns-in_err-heading : goal.returns-in_err-heading
returns-in_err-heading g c =
    let told = err_from_is_err_and c.from_residual.result c.from_residual.ensures.1 in
    let i = c.self.inside in
    let head = head_is i.stage (sym c.is_head.ensures ∙ c.if-not-is_head.false) in
    rw (told.1, told.2, ← c.self.view_is) (open_refused _ _ c.args.bytes.now c.in_err-heading.field-0.0 head refl refl refl refl refl (header_refused i.ram (map g.D.Disk.state i.disks.items) c.args.bytes.now c.in_err-heading.field-0.0 c.in_err-heading.ensures.refused))

pub returns-in_default : goal.returns-in_default
returns-in_default g c =
    let waits = rw c.in_default.is at c.in_ok-heading.ensures.read in
    let few = (rw c.in_default.is at c.in_ok-heading.ensures.few) refl in
    rw (← c.self.view_is) (not_opened _ c.args.bytes.now (λ head. (waits, few)))

pub returns-in-Err : goal.returns-in-Err
returns-in-Err g c =
    let i = c.self.inside in
    let head = head_is i.stage (sym c.is_head.ensures ∙ c.if-not-is_head.false) in
    let ds = map g.D.Disk.state i.disks.items in
    let b = rw c.in-Some.is at c.in_ok-heading.ensures.read in
    let within = rw c.in-Some.is at c.in_ok-heading.ensures.within in
    let never = rw c.deref.ensures.value at c.in-Err.ensures.refused in
    rw (← c.self.view_is, c.in-Err.ensures.mismatch)
    (open_refused _ _ c.args.bytes.now errors.ShapeMismatch head refl refl refl refl refl (refused_kept ds errors.ShapeMismatch (λ e. cc), mismatch i.ram (sizes_of g.D.Disk.state i.disks.items) c.args.bytes.now _ (opened i.ram (said c.in-Some.heading)) b.1 within never))

pub returns-in_default-new : goal.returns-in_default-new
returns-in_default-new g c =
    let i = c.self.inside in
    let head = head_is i.stage (sym c.is_head.ensures ∙ c.if-not-is_head.false) in
    rw (← c.self.view_is) (open_refused _ _ c.args.bytes.now errors.NoMemory head refl refl refl refl refl (refused_kept (map g.D.Disk.state i.disks.items) errors.NoMemory (λ e. cc), tt))

pub returns-in_default-new_intake : goal.returns-in_default-new_intake
returns-in_default-new_intake g c =
    let i = c.self.inside in
    let head = head_is i.stage (sym c.is_head.ensures ∙ c.if-not-is_head.false) in
    rw (← c.self.view_is) (open_refused _ _ c.args.bytes.now errors.NoMemory head refl refl refl c.in_default-new_intake.ensures.kept (rw c.in_default-new_intake.ensures.kept refl) (refused_kept (map g.D.Disk.state i.disks.items) errors.NoMemory (λ e. cc), tt))

pub invariant_of-self : goal.invariant_of-self
invariant_of-self g c =
    let head = head_is c.self.inside.stage (sym c.is_head.ensures ∙ c.if-not-is_head.false) in
    rw (head, c.in_default-new_intake.ensures.kept) (rw head at c.self.invariant)

pub new_intake-requires-clause-given : goal.new_intake-requires-clause-given
new_intake-requires-clause-given g c = rw (head_is c.self.inside.stage (sym c.is_head.ensures ∙ c.if-not-is_head.false)) at c.self.invariant

pub invariant_of-self-2 : goal.invariant_of-self-2
invariant_of-self-2 g c =
    let i = c.self.inside in
    let fits = rw c.deref.ensures.value at c.in_default-check_fit.ensures.fits in
    rw (c.replace.ensures.after, c.replace-2.ensures.after) (c.in-Ok-new_intake.ensures.sized, fits ∙ ap disk_sizes (sym c.in-Ok-new_intake.ensures.shapes), ap Some (room_of c.in-Ok.room _ _ _ _ c.in-Ok.ensures (omega (arith, c.len.ensures, ap length c.in-Ok-new_intake.ensures.shapes)) (omega (arith, c.len-2.ensures, length-map i.disks.items g.D.Disk.state))))

pub returns : goal.returns
returns g c =
    let i = c.self.inside in
    let ds = map g.D.Disk.state i.disks.items in
    let head = head_is i.stage (sym c.is_head.ensures ∙ c.if-not-is_head.false) in
    let b = rw c.in-Some.is at c.in_ok-heading.ensures.read in
    let len = c.in-Some.heading.len in
    let front = head_taken c.args.bytes.now (opened i.ram (said c.in-Some.heading)) len b.0 b.1 in
    let read = (rw c.deref-2.ensures.value at c.in-Ok-new_intake.ensures.read) c.args.bytes.now (drop len c.args.bytes.now) b.1 in
    rw (c.replace.ensures.after, c.replace-2.ensures.after, ← c.self.view_is) (record {
      ram = refl;
      disks = refl;
      within = b.0;
      few = λ e. absurd cc;
      place = c.in-Ok-new_intake.ensures.place ∙ sym (ap (place_in i.aside) head);
      later = λ past. absurd (head_not_past i.stage head past);
      failed = λ f. absurd (true_false _ f (head_not_failed i.stage head));
      stays = tt;
      waits = λ waits. absurd cc;
      says = c.add.ensures.says;
      opened = λ held h k.
          let known = rw head at k in
          let digested : Sums (g.S.Summing.seen c.add.new.self) (take len c.args.bytes.now) = rw c.split_at.ensures.front at (c.add.ensures.sums [] known.1) in
          subst (λ (ended : Bool). IsUpTo ended i.ram ds (g.S.Summing.seen c.add.new.self) (take len c.args.bytes.now) c.in-Ok-new_intake.intake) (sym c.in-Ok-new_intake.ensures.goes_on)
          (digested, record { opening = opened i.ram (said c.in-Some.heading); based = refl; before = []; read = rw front read });
    })
