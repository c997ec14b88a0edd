use Rattle.std.proofs.Common.{◌≡◌, ◌+◌, sym, arith}
use Rattle.std.proofs.lemmas.List.{length-take, length-drop}
use Rattle.traces.proofs.Known.{appends_on, keeps_on, rest_of}
use Rattle.traces.proofs.parts.put.Goals as goal
use Rattle.traces.proofs.parts.put.Goals.{in-Ok, in-Err+else-ne}

pub loop-preserved : goal.loop-preserved
loop-preserved g c = elim c.match-write.branch [
  | in-Ok w ↦ let on = appends_on _ _ _ _ _ c.loop.invariant.done w.in-Ok.ensures.bytes in
      let e : c.loop.at + w.in-Ok.n ≡ c.match-write.at = sym w.at-is in
      record { within = omega (arith, simp (length-take, length-drop) at w.in-Ok.ensures.bound, w.at-is, c.loop.invariant.within); done = rw (← e, ← rest_of) on }
  | in-Err+else-ne w ↦ let on = keeps_on _ _ _ _ c.loop.invariant.done w.in-Err.ensures.bytes in
      record { within = rw w.at-is c.loop.invariant.within; done = rw w.at-is on }
]
