use Rattle.std.proofs.Common.{◌≡◌, length, refl}
use Rattle.guestmem.proofs.RisesLaws.{touches_none}
use Rattle.blk.specs.Disk.{IsSector}
use Rattle.blk.proofs.Given.{given_itself, none_set, read_in}
use Rattle.blk.proofs.moving.move_in.Goals as goal

pub returns-in-Bad-clause-moved : goal.returns-in-Bad-clause-moved
returns-in-Bad-clause-moved g c =
    let content = c.args.sectors.now.content in
    let bad = rw c.next_sector-n.ensures at c.in-Bad.ensures.fetched in
    record {
      given = content;
      is_given = given_itself c.args.sectors.now.honest content c.requires.whole;
      answer_is = rw bad refl;
      request_is = rw bad refl;
      ram_is = rw bad refl;
      content_is = rw bad (none_set c.args.sectors.now.honest content c.read.new.self.content c.read.ensures.same);
      items_are = rw bad (touches_none g.L.TouchLog.after c.args.log.now c.args.log.now c.args.ram.now c.args.ram.now refl refl);
    }

pub returns-in-Failed-clause-moved : goal.returns-in-Failed-clause-moved
returns-in-Failed-clause-moved g c =
    let content = c.args.sectors.now.content in
    let good = rw c.next_sector-n.ensures at c.in-Failed.ensures.fetched in
    record {
      given = content;
      is_given = given_itself c.args.sectors.now.honest content c.requires.whole;
      answer_is = rw good refl;
      request_is = rw good refl;
      ram_is = rw good refl;
      content_is = rw good (none_set c.args.sectors.now.honest content c.read.new.self.content c.read.ensures.same);
      items_are = rw good (touches_none g.L.TouchLog.after c.args.log.now c.args.log.now c.args.ram.now c.args.ram.now refl refl);
    }

pub returns-in-Read-clause-moved : goal.returns-in-Read-clause-moved
returns-in-Read-clause-moved g c =
    let r = c.args.request.now in
    let got = rw c.next_sector-n.ensures at c.in-Read.ensures.fetched in
    let full : length c.read.new.buf ≡ 512 = c.read.array_long in
    let sector : IsSector c.read.new.buf = record { size = full; bytes = c.recall_bytes.ensures } in
    read_in _ c.args.sectors.now.honest c.args.job.device c.args.job.base c.args.ram.now.bytes c.args.sectors.now.content r c.read.new.buf c.copy_in_with_base.new.ram.bytes c.read.new.self.content c.requires.sector c.requires.whole sector got.0 got.1
    (rw (c.as_slice.ensures, full) at c.copy_in_with_base.ensures.bytes) c.read.ensures.same (record { log_is = rw (c.as_slice.ensures, full) at c.copy_in_with_base.ensures.log; rises = rw (c.as_slice.ensures, full) at c.copy_in_with_base.ensures.rises })
