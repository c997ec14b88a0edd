use Rattle.std.proofs.Common.{[], ◌≡◌, ◌∙◌, ap, sym, true}
use Rattle.std.specs.Prelude.{is_some}
use Rattle.blk.specs.Sectors.{SectorsState}
use Rattle.machine.specs.Shapes.{disk_size_of, made_as}
use Rattle.machine.specs.State.{DeviceState}
use Rattle.machine.specs.declared.shape.Shape.{Shape}
use Rattle.mapped_disk.specs.declared.image.Image.{Image}
use Rattle.c_handle.proofs.Handing.{one_back}
use Rattle.c_handle.proofs.unmapping.image_of.Goals as goal

pub returns-in-Some : goal.returns-in-Some
returns-in-Some c =
    let d = c.args.device in
    let shape : made_as d.state.kind ≡ _ = sym (c.shape.ensures ∙ ap (λ (s : DeviceState). made_as s.kind) c.state.ensures) ∙ c.in-Block.is in
    let some : is_some (disk_size_of (made_as d.state.kind)) ≡ true = ap (λ (s : Shape). is_some (disk_size_of s)) shape in
    let disk = c.into_parts-disk.result.0 in
    one_back d disk.content c.into_parts-disk.result.1 c.into_image.result some
    (c.in-Some.ensures.sectors ∙ ap (λ (s : SectorsState). s.content) c.into_parts-disk.ensures.parts) (ap (λ (i : Image). i.content) c.into_image.ensures)

pub returns-in-None : goal.returns-in-None
returns-in-None c =
    let d = c.args.device in
    let shape : made_as d.state.kind ≡ _ = sym (c.shape.ensures ∙ ap (λ (s : DeviceState). made_as s.kind) c.state.ensures) ∙ c.in-Block.is in
    let some : is_some (disk_size_of (made_as d.state.kind)) ≡ true = ap (λ (s : Shape). is_some (disk_size_of s)) shape in
    one_back d [] [] c.none.result some c.in-None.ensures.sectors c.none.ensures
