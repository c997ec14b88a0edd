use Rattle.std.proofs.Common.{rules, arith, ap, ◌∙◌, ◌≡◌, ◌*◌, ◌+◌, ◌-◌, ◌≤◌, ◌++◌, length, take, replicate}
use Rattle.std.proofs.lemmas.List.{take_all}
use Rattle.guestmem.specs.Fresh.{filled_up}
use Rattle.guestmem.specs.Memory.{Memory}
use Rattle.guestmem.specs.Write.{put_at}
use Rattle.guestmem.specs.declared.limits.TheConstants.{PAGE_SIZE}
use Rattle.guestmem.proofs.Filling.{put_behind}
use Rattle.guestmem.proofs.fresh.FreshRam.put_page.Goals as goal

pub returns-clause-bytes : goal.returns-clause-bytes
returns-clause-bytes c =
    let x = c.self.inside.bytes.items in
    let start = c.args.page * 4096 in
    let size = PAGE_SIZE * length c.self.inside.versions.items in
    let pages : length c.self.inside.versions.items ≡ length c.args.self.now.versions = ap (λ (m : Memory). length m.versions) c.self.view_is in
    let low : length x ≤ start = omega arith in
    let within : start + length c.args.bytes.now ≤ size = omega (arith, pages) in
    let cut : c.resize.new.self.items ≡ take start x ++ replicate (start - length x) 0 = search rules in
    let filled : c.resize.new.self.items ≡ filled_up start x = cut ∙ ap (λ t. t ++ replicate (start - length x) 0) (take_all start x low) in
    let more : c.extend_from_slice.new.self.items ≡ c.resize.new.self.items ++ c.args.bytes.now = search rules in
    let here : put_at (filled_up size x) start c.args.bytes.now ≡ put_at c.args.self.now.bytes start c.args.bytes.now = ap (λ (m : Memory). put_at m.bytes start c.args.bytes.now) c.self.view_is in
    ap (filled_up size) (more ∙ ap (λ t. t ++ c.args.bytes.now) filled) ∙ put_behind x c.args.bytes.now start size low within ∙ here ∙ ap (λ k. put_at c.args.self.now.bytes k c.args.bytes.now) (omega arith)
