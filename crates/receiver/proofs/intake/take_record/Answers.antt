use Rattle.std.proofs.Common.{refl, map, true, false, ◌∙◌}
use Rattle.wire.specs.declared.record_head.RecordHead.TheVariants as heads
use Rattle.receiver.proofs.Standing.{followed_end, never_memory, takes_one, takes_whole}
use Rattle.receiver.proofs.intake.take_record.Goals as goal

pub take_device-requires-clause-next : goal.take_device-requires-clause-next
take_device-requires-clause-next g c = c.requires.next (rw c.in-Device.is tt)

pub returns-in-Page-clause-takes : goal.returns-in-Page-clause-takes
returns-in-Page-clause-takes g c =
    let ds = map g.D.Disk.state c.args.disks.now in
    let k = c.take_page.ensures in
    rw c.in-Page.is (takes_one ds ds _ _ _ (heads.Page c.in-Page.number) c.args.behind.now c.take_page.result c.requires.goes_on k.keeps k.short k.long (λ e. absurd (never_memory c.take_page.result k.memory e)) (k.entered ds))

pub returns-in-ZeroPage-clause-takes : goal.returns-in-ZeroPage-clause-takes
returns-in-ZeroPage-clause-takes g c =
    let ds = map g.D.Disk.state c.args.disks.now in
    let k = c.take_zero_page.ensures in
    rw c.in-ZeroPage.is (takes_whole ds _ _ _ (heads.ZeroPage c.in-ZeroPage.number) c.args.behind.now c.take_zero_page.result refl c.requires.goes_on k.keeps k.all k.memory (k.entered ds c.args.behind.now))

pub returns-then-is_good-clause-takes : goal.returns-then-is_good-clause-takes
returns-then-is_good-clause-takes g c =
    let k = c.take_good.ensures in
    rw (c.in-Sector.is, c.if-is_good.true)
    (takes_one _ _ _ _ _ (heads.Sector c.in-Sector.device c.in-Sector.number true) c.args.behind.now c.take_good.result c.requires.goes_on k.keeps k.short k.long (λ e. absurd (never_memory c.take_good.result k.memory e)) k.entered)

pub returns-else-is_good-clause-takes : goal.returns-else-is_good-clause-takes
returns-else-is_good-clause-takes g c =
    let ds = map g.D.Disk.state c.args.disks.now in
    let k = c.take_bad.ensures in
    rw (c.in-Sector.is, c.if-is_good.false)
    (takes_whole ds _ _ _ (heads.Sector c.in-Sector.device c.in-Sector.number false) c.args.behind.now c.take_bad.result refl c.requires.goes_on k.keeps k.all k.memory (k.entered ds c.args.behind.now))

pub returns-in-RoundEnd-clause-takes : goal.returns-in-RoundEnd-clause-takes
returns-in-RoundEnd-clause-takes g c =
    let ds = map g.D.Disk.state c.args.disks.now in
    let k = c.take_round.ensures in
    rw c.in-RoundEnd.is (takes_whole ds _ _ _ (heads.RoundEnd c.in-RoundEnd.number) c.args.behind.now c.take_round.result refl c.requires.goes_on k.keeps k.all k.memory (k.entered ds c.args.behind.now))

pub returns-in-Device-clause-takes : goal.returns-in-Device-clause-takes
returns-in-Device-clause-takes g c =
    let ds = map g.D.Disk.state c.args.disks.now in
    let k = c.take_device.ensures in
    rw c.in-Device.is (takes_one ds ds _ _ _ (heads.Device c.in-Device.number c.in-Device.len) c.args.behind.now c.take_device.result c.requires.goes_on k.keeps k.short k.long k.memory (k.entered ds))

pub returns-in-Commit-clause-takes : goal.returns-in-Commit-clause-takes
returns-in-Commit-clause-takes g c =
    let ds = map g.D.Disk.state c.args.disks.now in
    let k = c.take_digest.ensures in
    rw c.in-Commit.is (record {
      short = k.short;
      long = k.long;
      untouched = k.untouched;
      waits = λ e. k.waits e ∙ c.requires.goes_on;
      memory = λ e. absurd (never_memory c.take_digest.result k.memory e);
      after = λ front tail opening before are d h o can. followed_end ds opening before _ front tail c.take_digest.result k.ended (k.closed ds front tail opening before are d h o (can refl));
    })
