use Rattle.std.proofs.Common.{◌≡◌, ◌∙◌, subst, sym}
use Rattle.machine.specs.declared.limits.Limits.{Limits}
use Rattle.machine.specs.Shapes.{disk_sizes}
use Rattle.receiver.specs.Disks.{sizes_of}
use Rattle.receiver.specs.Opened.{told_by}
use Rattle.receiver.specs.Receiving.{place_aside}
use Rattle.c_machine.specs.Plain.{mem_state}
use Rattle.c_handle.specs.Headed.{AreFitting}
use Rattle.c_handle.proofs.Awaited.{all_fed, all_refused, fresh_steady, limits_at}
use Rattle.c_handle.proofs.Streams.{zero_fit}
use Rattle.c_handle.proofs.ToldArrival.{header_before, header_fed}
use Rattle.c_handle.proofs.told_arrival.begun.Goals as goal

pub returns-in-Ok-feed_some-clause-before : goal.returns-in-Ok-feed_some-clause-before
returns-in-Ok-feed_some-clause-before c = header_before c.told-receiver.result c.feed_some.new.self c.args.header.now c.in-Ok-feed_some.field-0 c.requires c.told-receiver.ensures.fed c.in-Ok-feed_some.ensures

pub returns-in-Ok-feed_some-clause-begun : goal.returns-in-Ok-feed_some-clause-begun
returns-in-Ok-feed_some-clause-begun c =
    let r = c.told-receiver.result in
    let new = c.told-receiver.ensures in
    let fed = header_fed r c.feed_some.new.self c.args.header.now c.in-Ok-feed_some.field-0 c.requires new.fed c.in-Ok-feed_some.ensures in
    let sizes : sizes_of mem_state c.in-Ok.disks.items ≡ disk_sizes c.args.shapes.now = zero_fit c.in-Ok.disks.items (disk_sizes c.args.shapes.now) c.in-Ok.ensures in
    all_fed (told_by c.args.terms c.args.ram) (place_aside c.args.ram) r c.feed_some.new.self c.args.header.now (disk_sizes c.args.shapes.now) new.fed new.ram fed.ram new.place fed.place (new.sizes ∙ sizes) fed.sizes
    (fresh_steady r c.in-Ok.disks.items new.sizes new.marks) fed.marks fed.fed fed.quiet

pub returns-in-Err-clause-refused : goal.returns-in-Err-clause-refused
returns-in-Err-clause-refused c = λ fit.
    let r = c.told-receiver.result in
    let new = c.told-receiver.ensures in
    let sizes : sizes_of mem_state c.in-Ok.disks.items ≡ disk_sizes c.args.shapes.now = zero_fit c.in-Ok.disks.items (disk_sizes c.args.shapes.now) c.in-Ok.ensures in
    all_refused (told_by c.args.terms c.args.ram) r c.feed_some.new.self.marks c.args.header.now (disk_sizes c.args.shapes.now) c.in-Err.error new.fed new.ram (new.sizes ∙ sizes)
    (fresh_steady r c.in-Ok.disks.items new.sizes new.marks) (subst (λ (l : Limits). AreFitting l c.args.header.now (disk_sizes c.args.shapes.now)) (sym (limits_at c.args.terms c.args.ram)) fit) c.in-Err.ensures.marks c.in-Err.ensures.told
