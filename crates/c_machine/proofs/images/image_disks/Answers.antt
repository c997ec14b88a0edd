use Rattle.std.proofs.Common.{◌≡◌, ◌++◌, ◌*◌, ◌+◌, ℕ, Bool, List, [], ◌∷◌, append_assoc, ap, ◌∙◌, sym, arith, length, drop, take, map, length-drop}
use Rattle.std.specs.List.{concat, flat_map}
use Rattle.std.proofs.lemmas.List.{drop_more, take-append-drop, map-append, append-nil}
use Rattle.std.proofs.lemmas.List.Concat.{flat_map-append}
use Rattle.std.proofs.lemmas.List.Elements.{All-push}
use Rattle.blk.specs.Disk.{AreSectors}
use Rattle.machine.specs.Shapes.{disk_sizes}
use Rattle.machine.specs.declared.shape.Shape.{Shape}
use Rattle.machine.specs.declared.shape.Shape.TheVariants.{Block, Net}
use Rattle.c_machine.specs.Images.{image_size}
use Rattle.c_machine.proofs.images.image_disks.Goals as goal

less_left : (rest others : List ℕ) (shapes after : List Shape) (sectors : ℕ) (read_only : Bool) (id : List ℕ) → shapes ≡ Block sectors read_only id ∷ after
    → length rest ≡ image_size shapes → others ≡ drop (512 * sectors) rest → length others ≡ image_size after
less_left rest others shapes after sectors read_only id at long is =
    let size = ap image_size at in omega (arith, size, long, ap length is, length-drop (512 * sectors) rest)

one_more_size : (disks : List (List (List ℕ))) (disk : List (List ℕ)) (all shapes after : List Shape) (sectors : ℕ) (read_only : Bool) (id : List ℕ) → shapes ≡ Block sectors read_only id ∷ after
    → length disk ≡ sectors → map length disks ++ disk_sizes shapes ≡ disk_sizes all → map length (disks ++ disk ∷ []) ++ disk_sizes after ≡ disk_sizes all
one_more_size disks disk all shapes after sectors read_only id at size so_far =
    ap (λ (l : List ℕ). l ++ disk_sizes after) (map-append length disks (disk ∷ []))
    ∙ append_assoc (map length disks) (length disk ∷ []) (disk_sizes after)
    ∙ ap (λ (n : ℕ). map length disks ++ (n ∷ disk_sizes after)) size
    ∙ ap (λ (l : List Shape). map length disks ++ disk_sizes l) (sym at)
    ∙ so_far

one_more_image : (disks : List (List (List ℕ))) (disk : List (List ℕ)) (images rest front others : List ℕ) (n : ℕ) → front ≡ take n rest → others ≡ drop n rest → concat disk ≡ front
    → flat_map concat disks ++ rest ≡ images → flat_map concat (disks ++ disk ∷ []) ++ others ≡ images
one_more_image disks disk images rest front others n first second is so_far =
    let joined : front ++ others ≡ rest = ap (λ (l : List ℕ). l ++ others) first ∙ ap (λ (l : List ℕ). take n rest ++ l) second ∙ take-append-drop n rest in
    ap (λ (l : List ℕ). l ++ others) (flat_map-append concat disks (disk ∷ []) ∙ ap (λ (l : List ℕ). flat_map concat disks ++ l) (append-nil (concat disk) ∙ is))
    ∙ append_assoc (flat_map concat disks) front others
    ∙ ap (λ (l : List ℕ). flat_map concat disks ++ l) joined
    ∙ so_far

pub loop-shape-preserved : goal.loop-shape-preserved
loop-shape-preserved c =
    let shapes = c.args.shapes.now in
    let i = c.loop-shape.shape-index in
    let at : drop i shapes ≡ Block c.in-Block.sectors c.in-Block.read_only c.in-Block.id ∷ drop (i + 1) shapes =
    drop_more shapes i (Net []) c.loop-shape-test.true ∙ ap (λ (s : Shape). s ∷ drop (i + 1) shapes) c.in-Block.is in
    record {
      long = less_left c.loop-shape.rest.now c.split_at.result.1.now (drop i shapes) (drop (i + 1) shapes) c.in-Block.sectors c.in-Block.read_only c.in-Block.id at c.loop-shape.invariant.long c.split_at.ensures.back;
      sizes = ap (λ (l : List (List (List ℕ))). map length l ++ disk_sizes (drop (i + 1) shapes)) c.in_ok-push.ensures.items ∙ one_more_size c.loop-shape.disks.items c.in_ok-disk_of.field-0 shapes (drop i shapes) (drop (i + 1) shapes) c.in-Block.sectors c.in-Block.read_only c.in-Block.id at c.in_ok-disk_of.ensures.count c.loop-shape.invariant.sizes;
      sectors = rw c.in_ok-push.ensures.items (All-push AreSectors c.loop-shape.disks.items c.in_ok-disk_of.field-0 c.loop-shape.invariant.sectors c.in_ok-disk_of.ensures.sectors);
      bytes = ap (λ (l : List (List (List ℕ))). flat_map concat l ++ c.split_at.result.1.now) c.in_ok-push.ensures.items ∙ one_more_image c.loop-shape.disks.items c.in_ok-disk_of.field-0 c.args.images.now c.loop-shape.rest.now c.split_at.result.0.now c.split_at.result.1.now (512 * c.in-Block.sectors) c.split_at.ensures.front c.split_at.ensures.back c.in_ok-disk_of.ensures.bytes c.loop-shape.invariant.bytes;
    }
