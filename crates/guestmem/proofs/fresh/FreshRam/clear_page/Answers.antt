use Rattle.std.proofs.Common.{arith, sym, ap, ◌∙◌, ◌≡◌, ◌*◌, ◌+◌, ◌≤◌, length, replicate}
use Rattle.guestmem.specs.Fresh.{filled_up}
use Rattle.guestmem.specs.Memory.{Memory}
use Rattle.guestmem.specs.Write.{put_at}
use Rattle.guestmem.specs.declared.limits.TheConstants.{PAGE_SIZE}
use Rattle.guestmem.proofs.Filling.{zeros_behind}
use Rattle.guestmem.proofs.fresh.FreshRam.clear_page.Goals as goal

pub returns-else-page-len-clause-bytes : goal.returns-else-page-len-clause-bytes
returns-else-page-len-clause-bytes c =
    let x = c.self.inside.bytes.items in
    let size = PAGE_SIZE * length c.self.inside.versions.items in
    let pages : length c.self.inside.versions.items ≡ length c.args.self.now.versions = ap (λ (m : Memory). length m.versions) c.self.view_is in
    let low : length x ≤ PAGE_SIZE * c.args.page = omega arith in
    let within : PAGE_SIZE * c.args.page + PAGE_SIZE ≤ size = omega (arith, pages) in
    let here : put_at (filled_up size x) (PAGE_SIZE * c.args.page) (replicate PAGE_SIZE 0) ≡ filled_up size x = zeros_behind x (PAGE_SIZE * c.args.page) PAGE_SIZE size low within in
    sym (ap (λ (m : Memory). put_at m.bytes (PAGE_SIZE * c.args.page) (replicate PAGE_SIZE 0)) (sym c.self.view_is) ∙ here ∙ ap (λ (m : Memory). m.bytes) c.self.view_is)
