use Rattle.std.proofs.Common.{◌∙◌, ap, refl, rules, sym}
use Rattle.c_handle.specs.Kept.{first_log}
use Rattle.c_handle.proofs.MadeIn.{made_mapped, made_own}
use Rattle.c_handle.proofs.creating.made.Goals.{in-Ok, in-Err}
use Rattle.c_handle.proofs.creating.made.Goals as goal

pub returns-then-is_none-clause-made : goal.returns-then-is_none-clause-made
returns-then-is_none-clause-made c = elim c.match-machine_on.branch [
  | in-Ok w ↦ rw w.result-is (made_own c.args.setup.now _ _ w.in-Ok.machine c.in_ok-shapes.shapes.items c.deref.result.now c.deref-then-is_none.result.now c.in_ok-disks.disks.items (w.filled.ensures) (record { is_mapped = refl; not_told = refl; none_lost = c.in_ok-boxed.ensures.lost; none_fed = c.in_ok-boxed.ensures.fed; none_out = c.in_ok-boxed.ensures.calls; large = c.by-asked.ensures.large; places_are = search rules; log = c.in_ok-log.ensures ∙ ap (first_log c.args.setup.now.flags) (search rules) }) refl refl
      (sym c.is_none.ensures.none ∙ c.if-is_none.true) c.in_ok-shapes.ensures c.deref.ensures.value c.deref-then-is_none.ensures.value c.in_ok-disks.ensures (rw c.len.ensures.same at w.in-Ok.ensures.made) (rw c.len.ensures.same at w.in-Ok.ensures.place) w.in-Ok.ensures.marks w.in-Ok.ensures.sound)
  | in-Err w ↦ rw w.result-is tt
]

pub returns-in-Ok-machine_on-clause-made : goal.returns-in-Ok-machine_on-clause-made
returns-in-Ok-machine_on-clause-made c =
    let made = c.in-Ok-machine_on.ensures in
    let first = rw c.len.ensures.same at made.made in
    let place = rw c.len.ensures.same at made.place in
    made_mapped c.args.setup.now _ _ c.in-Ok-machine_on.machine c.in_ok-shapes.shapes.items c.deref-2.result.now c.in_ok-disks-2.disks.items (c.filled-in-Ok-machine_on.ensures) (record { is_mapped = refl; not_told = refl; none_lost = c.in_ok-boxed.ensures.lost; none_fed = c.in_ok-boxed.ensures.fed; none_out = c.in_ok-boxed.ensures.calls; large = c.by-asked.ensures.large; places_are = search rules; log = c.in_ok-log.ensures ∙ ap (first_log c.args.setup.now.flags) (search rules) }) refl refl
    (sym c.is_none.ensures.none ∙ c.if-is_none.false) c.in_ok-shapes.ensures c.deref-2.ensures.value (c.in_ok-disks-2.ensures.disks ∙ c.is_none.ensures.same) first place made.marks made.sound
