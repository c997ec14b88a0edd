use Rattle.std.proofs.Common.{arith, refl, sym, ap, subst, ◌∙◌, ◌++◌, take, map, length}
use Rattle.std.specs.Prelude.{Err}
use Rattle.receiver.specs.Receiving.{IsPastHead, ReaderSeen, place_in}
use Rattle.receiver.specs.declared.stage.Stage.TheVariants as stages
use Rattle.receiver.proofs.Clearing.{clear_for}
use Rattle.receiver.proofs.Feeding.{lent_back}
use Rattle.receiver.proofs.Looking.{head_refused_as, head_waits, head_was, never_failed, ready_for, refused_on, work_wants, worked_on}
use Rattle.receiver.proofs.Untouched.{work_touches}
use Rattle.receiver.proofs.Wanting.{err_again, ok_not_err}
use Rattle.receiver.proofs.reader.Reader.look.Goals as goal

-- The header is refused: what there is stands aside.
pub returns-in-Err : goal.returns-in-Err
returns-in-Err g c =
    let o = c.in-Err.ensures in
    let f = c.fail.ensures in
    record {
      ram = f.ram ∙ o.ram;
      within = tt;
      few = tt;
      failed = f.stage;
      says = tt;
      past = λ past. tt;
      place = f.place ∙ o.place;
      memory = λ front held k clear past e. absurd (ok_not_err (sym (o.later past).0));
      waits = tt;
      untouched = λ front held k clear never.
          let here : IsPastHead c.open.new.self.stage → ⊥ = λ past. ok_not_err (sym (o.later (subst (λ (v : ReaderSeen). IsPastHead v.stage) o.stays past)).0) in
          record { disks = f.disks ∙ o.disks; aside = f.aside here ∙ ap (λ (v : ReaderSeen). v.aside) o.stays };
      looked = λ front held k clear. head_refused_as c.args.self.now c.open.new.self c.fail.new.self front held c.args.bytes.now c.in-Err.error k o f;
    }

pub returns-in-Head : goal.returns-in-Head
returns-in-Head g c =
    let o = rw (← c.self.view_is) at c.in-Ok.ensures in
    record {
      ram = o.ram;
      within = omega arith;
      few = omega (arith, o.few c.in-Head.is);
      failed = tt;
      says = o.says;
      past = λ past. absurd (subst IsPastHead (sym (ap (λ (v : ReaderSeen). v.stage) (o.later past).1) ∙ c.in-Head.is) past);
      place = o.place;
      memory = λ front held k clear past e. absurd (ok_not_err e);
      waits = λ head. let same = o.waits head in (ap (λ (v : ReaderSeen). v.stage) (sym same) ∙ head, record { disks = ap (λ (v : ReaderSeen). v.disks) same; aside = ap (λ (v : ReaderSeen). v.aside) same });
      untouched = tt;
      looked = λ front held k clear. head_waits c.args.self.now _ front held c.args.bytes.now c.in-Ok.start k o (head_was c.args.self.now _ c.args.bytes.now c.in-Ok.start o c.in-Head.is) c.in-Head.is;
    }

pub returns-in-Failed : goal.returns-in-Failed
returns-in-Failed g c =
    let o = rw (← c.self.view_is) at c.in-Ok.ensures in
    record {
      ram = o.ram;
      within = tt;
      few = tt;
      failed = c.in-Failed.is;
      says = tt;
      past = λ past. tt;
      place = o.place;
      memory = λ front held k clear past e. absurd cc;
      waits = tt;
      untouched = λ front held k clear never. absurd (never_failed c.args.self.now _ front held c.args.bytes.now c.in-Ok.start k o c.in-Failed.is);
      looked = λ front held k clear. absurd (never_failed c.args.self.now _ front held c.args.bytes.now c.in-Ok.start k o c.in-Failed.is);
    }

pub work_off-requires-clause-sized : goal.work_off-requires-clause-sized
work_off-requires-clause-sized g c = (rw c.in-Records.is at c.self.invariant).0

pub work_off-requires-clause-fits : goal.work_off-requires-clause-fits
work_off-requires-clause-fits g c = rw c.deref_mut.ensures.value (rw c.in-Records.is at c.self.invariant).1

pub returns-in-Ok-work_off : goal.returns-in-Ok-work_off
returns-in-Ok-work_off g c =
    let state = g.D.Disk.state in
    let o = rw (← c.self.view_is) at c.in-Ok.ensures in
    let w = c.in-Ok-work_off.ensures in
    let i = c.self.inside in
    let back = lent_back state i.disks.items c.deref_mut.result.now c.work_off.new.disks i.disks.len c.deref_mut.ensures.len w.sizes in
    rw back (record {
      ram = o.ram;
      within = omega (arith, w.within, o.within, ap length c.split_at.ensures.back);
      few = omega (arith, w.few, ap length c.split_at.ensures.back);
      failed = tt;
      says = λ x h. w.says x (o.says x h);
      past = λ past. tt;
      place = w.place ∙ ap (place_in i.aside) (sym c.in-Records.is) ∙ o.place;
      memory = λ front held k clear past e. absurd (ok_not_err e);
      waits = λ head. absurd cc;
      untouched = tt;
      looked = λ front held k clear.
          let up = ready_for c.args.self.now _ front held c.args.bytes.now c.in-Ok.start c.in-Records.intake k o c.in-Records.is in
          let there = clear_for _ _ _ _ _ _ front c.args.bytes.now c.in-Ok.start clear o.says o.ram o.disks in
          let worked = rw (c.deref_mut.ensures.value, c.split_at.ensures.back) at (w.worked i.ram (front ++ take c.in-Ok.start c.args.bytes.now) (rw c.deref_mut.ensures.value up) (rw (c.deref_mut.ensures.value, c.split_at.ensures.back) there)) in
          worked_on c.args.self.now (record { ram = i.ram; disks = map state c.work_off.new.disks; aside = i.aside; room = i.room; digest = g.S.Summing.seen c.work_off.new.taken; stage = stages.Records c.work_off.new.intake }) i.ram (map state i.disks.items) front c.args.bytes.now c.in-Ok.start c.in-Ok-work_off.at c.work_off.new.intake o.disks refl refl worked;
    })

pub returns-in-Err-work_off : goal.returns-in-Err-work_off
returns-in-Err-work_off g c =
    let state = g.D.Disk.state in
    let o = rw (← c.self.view_is) at c.in-Ok.ensures in
    let w = c.in-Err-work_off.ensures in
    let f = c.fail-in-Err-work_off.ensures in
    let i = c.self.inside in
    let back = lent_back state i.disks.items c.deref_mut.result.now c.work_off.new.disks i.disks.len c.deref_mut.ensures.len w.sizes in
    record {
      ram = f.ram ∙ o.ram;
      within = tt;
      few = tt;
      failed = f.stage;
      says = tt;
      past = λ past. tt;
      place = f.place ∙ w.place ∙ ap (place_in i.aside) (sym c.in-Records.is) ∙ o.place;
      memory = λ front held k clear past e.
          let up = ready_for c.args.self.now _ front held c.args.bytes.now c.in-Ok.start c.in-Records.intake k o c.in-Records.is in
          let there = clear_for _ _ _ _ _ _ front c.args.bytes.now c.in-Ok.start clear o.says o.ram o.disks in
          work_wants c.args.self.now _ front c.args.bytes.now c.in-Ok.start o past
          (rw (c.deref_mut.ensures.value, c.split_at.ensures.back) at (w.memory i.ram (front ++ take c.in-Ok.start c.args.bytes.now) (rw c.deref_mut.ensures.value up) (rw (c.deref_mut.ensures.value, c.split_at.ensures.back) there) (err_again e)));
      waits = tt;
      untouched = λ front held k clear never.
          let up = ready_for c.args.self.now _ front held c.args.bytes.now c.in-Ok.start c.in-Records.intake k o c.in-Records.is in
          let there = clear_for _ _ _ _ _ _ front c.args.bytes.now c.in-Ok.start clear o.says o.ram o.disks in
          absurd (never (work_touches c.args.self.now i.ram (map state i.disks.items) (g.S.Summing.seen i.digest) front c.args.bytes.now c.in-Ok.start c.in-Records.intake c.in-Err-work_off.error o.disks o.ram up
          (λ is. rw (c.deref_mut.ensures.value, c.split_at.ensures.back) at (w.memory i.ram (front ++ take c.in-Ok.start c.args.bytes.now) (rw c.deref_mut.ensures.value up) (rw (c.deref_mut.ensures.value, c.split_at.ensures.back) there) (ap Err is)))));
      looked = λ front held k clear.
          let up = ready_for c.args.self.now _ front held c.args.bytes.now c.in-Ok.start c.in-Records.intake k o c.in-Records.is in
          let there = clear_for _ _ _ _ _ _ front c.args.bytes.now c.in-Ok.start clear o.says o.ram o.disks in
          let worked = rw (c.deref_mut.ensures.value, c.split_at.ensures.back) at (w.worked i.ram (front ++ take c.in-Ok.start c.args.bytes.now) (rw c.deref_mut.ensures.value up) (rw (c.deref_mut.ensures.value, c.split_at.ensures.back) there)) in
          refused_on c.args.self.now c.fail-in-Err-work_off.new.self i.ram (map state i.disks.items) (map state c.work_off.new.disks) front c.args.bytes.now c.in-Ok.start c.in-Err-work_off.error o.disks o.ram (f.disks ∙ ap (map state) back) worked;
    }
