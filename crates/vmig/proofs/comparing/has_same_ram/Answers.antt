use Rattle.std.proofs.Common.{rules, ◌≡◌}
use Rattle.guestmem.specs.Page.{page_of}
use Rattle.vmig.proofs.Likeness.{pages_more}
use Rattle.vmig.proofs.comparing.has_same_ram.Goals as goal

pub loop-page-preserved : goal.loop-page-preserved
loop-page-preserved c =
    let here : page_of c.args.a.now.bytes c.loop-page.page ≡ page_of c.args.b.now.bytes c.loop-page.page = search rules in
    pages_more c.loop-page.page c.args.a.now.bytes c.args.b.now.bytes c.loop-page.invariant here
