use Rattle.std.proofs.Common.{rules, ◌<◌, IsTrue, length, arith}
use Rattle.std.specs.Prelude.{nat_lt}
use borrow.Author.Tests.{ltb-true}
use Rattle.machine.specs.Shapes.{sector_count}
use Rattle.machine.specs.declared.shape.Shape.TheVariants.{Console}
use Rattle.machine.proofs.OfShapes.{is_sector_of}
use Rattle.machine.proofs.machine.getters.MachineOver+D+Ram.has_sector.Goals as goal

pub returns-in-Some : goal.returns-in-Some
returns-in-Some g c =
    let a = c.args in
    let shape = c.in-Some.shape.now in
    let there : a.dev < length c.shapes.result.now = search rules in (
      λ yes.
          let below : a.n < sector_count shape = rw c.sectors.ensures at (ltb-true a.n c.sectors.result yes) in
          c.shapes.ensures.sectors a.dev a.n shape there c.in-Some.ensures.lookup.1 below,
      λ has.
          let at = is_sector_of _ c.shapes.result.now a.dev a.n shape c.shapes.ensures.sound c.shapes.ensures.shapes has in
          let below : a.n < sector_count shape = rw (← c.in-Some.ensures.lookup.1) at at.1 in
          let test : IsTrue (nat_lt a.n c.sectors.result) = rw c.sectors.ensures (search (rules, below)) in
          test,
    )

pub returns-in-None : goal.returns-in-None
returns-in-None g c = (
  λ yes. cc,
  λ has.
      let at = is_sector_of _ c.shapes.result.now c.args.dev c.args.n Console c.shapes.ensures.sound c.shapes.ensures.shapes has in
      absurd (omega (arith, at.0, c.in-None.ensures.lookup)),
)
