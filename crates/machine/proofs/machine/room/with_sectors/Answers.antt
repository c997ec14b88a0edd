use Rattle.std.proofs.Common.{rules, arith, ◌≡◌, ◌∷◌, ◌∙◌, sym, ◌++◌, ap, length, None, []}
use Rattle.machine.specs.First.{seen_devices}
use Rattle.machine.specs.Shapes.{disk_size_of, made_as}
use Rattle.machine.proofs.Dealt.{next_with, next_without, first_taken, rest_taken, no_length}
use Rattle.machine.proofs.machine.room.with_sectors.Goals as goal
use Rattle.machine.proofs.machine.room.with_sectors.Goals.{in-Some-disk_size, in-None-disk_size}

pub loop-state-preserved : goal.loop-state-preserved
loop-state-preserved g c =
    let i = c.loop-state in
    let step : i.state-iterator.rest.items ≡ c.in-Some.state ∷ c.next.new.self.rest.items = search rules in
    let size : disk_size_of (made_as c.in-Some.state.kind) ≡ c.disk_size.result = sym (ap disk_size_of c.shape.ensures) ∙ sym c.disk_size.ensures in
    let dealt : c.push_reserved.new.self.items ++ seen_devices c.next.new.self.rest.items c.match-disk_size.sectors.rest.items ≡ seen_devices c.args.states.items c.args.sectors.items = elim c.match-disk_size.branch [
      | in-Some-disk_size w ↦
          let none : w.next-disk.result ≡ None → i.sectors.rest.items ≡ [] = λ e. no_length i.sectors.rest.items (let gone = rw e at w.next-disk.ensures.cases in omega (arith, gone.0)) in
          next_with i.devices.items c.push_reserved.new.self.items c.in-Some.state i.state-iterator.rest.items c.next.new.self.rest.items i.sectors.rest.items c.match-disk_size.sectors.rest.items c.match-disk_size.disk c.new.result w.in-Some-disk_size.field-0 _
          step
          (size ∙ w.in-Some-disk_size.is)
          (first_taken i.sectors.rest.items w.next-disk.new.self.rest.items w.next-disk.result w.in-Some-disk_size.field-0 w.next-disk.ensures.items none ∙ sym w.disk-is)
          (rest_taken i.sectors.rest.items w.next-disk.new.self.rest.items w.next-disk.result w.in-Some-disk_size.field-0 w.next-disk.ensures.items none ∙ ap (λ s. s.rest.items) (sym w.sectors-is))
          c.new.ensures c.push_reserved.ensures.items i.invariant.so_far
      | in-None-disk_size w ↦
          next_without i.devices.items c.push_reserved.new.self.items c.in-Some.state i.state-iterator.rest.items c.next.new.self.rest.items i.sectors.rest.items c.match-disk_size.sectors.rest.items c.match-disk_size.disk c.new.result _
          step (size ∙ w.in-None-disk_size.is) w.disk-is (ap (λ s. s.rest.items) w.sectors-is) c.new.ensures c.push_reserved.ensures.items i.invariant.so_far
    ] in
    record { room = omega (arith, ap length step); so_far = dealt }
