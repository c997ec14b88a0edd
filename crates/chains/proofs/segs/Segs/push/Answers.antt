use Rattle.std.proofs.Common.{arith}
use Rattle.std.proofs.lemmas.List.{length_push}
use Rattle.chains.proofs.PlaceLaws.{length_places_push}
use Rattle.chains.proofs.segs.Segs.push.Goals as goal
use Rattle.chains.proofs.segs.Segs.push.Goals.{then-self-ge-SHORT_CHAIN_MAX+in_ok-grow, else-self-ge-SHORT_CHAIN_MAX}

pub invariant_of-self-2 : goal.invariant_of-self-2
invariant_of-self-2 c =
    let i = c.self.invariant in
    let list = c.self.inside.list.items in
    let put = c.push_reserved.ensures in
    elim c.if-self-ge-SHORT_CHAIN_MAX.branch [
      | then-self-ge-SHORT_CHAIN_MAX+in_ok-grow w ↦ rw (put.items, put.capacity, w.self-inside-is, w.grow.ensures.items) (
        omega (arith, w.grow.ensures.capacity, i.0),
        rw (length_push list c.args.seg) (omega (arith, i.1)),
        rw (length_places_push list c.args.seg) (omega (arith, i.2)),
        rw (length_push list c.args.seg) (omega (arith, i.3)),
      )
      | else-self-ge-SHORT_CHAIN_MAX w ↦ rw (put.items, put.capacity, w.self-inside-is) (
        i.0,
        rw (length_push list c.args.seg) (omega (arith, i.1)),
        rw (length_places_push list c.args.seg) (omega (arith, i.2)),
        rw (length_push list c.args.seg) (omega (arith, i.3)),
      )
    ]
