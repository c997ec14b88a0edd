use Rattle.std.proofs.Common.{◌≡◌, ℕ, ap, arith, refl, subst, sym}
use Rattle.chains.specs.declared.looking.Wanted.TheVariants.{Request, Room}
use Rattle.blk.specs.Take.{take_step}
use Rattle.blk.specs.declared.request.TheConstants.{HEADER_SIZE}
use Rattle.console.specs.Receive as console
use Rattle.net.specs.Receive as net
use Rattle.chains.specs.Served.{HasRun, scene}
use Rattle.machine.specs.DeviceStep.{network_with, serve}
use Rattle.machine.specs.declared.kind.Kind.{Kind}
use Rattle.machine.specs.declared.kind.Kind.TheVariants.{Network, Block, Outside, Console, Entropy}
use Rattle.machine.proofs.Turns.{run_whole}
use Rattle.machine.proofs.kind.Kind.serve.Goals as goal

pub returns-else-visit-gt0-clause-served : goal.returns-else-visit-gt0-clause-served
returns-else-visit-gt0-clause-served g c =
    let first : c.args.visit.number ≡ 0 = omega (arith, c.if-visit-gt0.false) in
    let q = g.R.Ring.state c.args.ring.now in
    let new_q = g.R.Ring.state c.receive.new.ring in
    let old = c.in-Network.inbox in
    let new = c.receive.new.inbox in
    let is : network_with c.in-Network.mac old new.frames ≡ Network c.in-Network.mac new = ap (λ (n : ℕ). Network c.in-Network.mac (record { longest = n; frames = new.frames })) (sym c.receive.ensures.longest) in
    rw (c.in-Network.is, first)
    (subst (λ (kind : Kind). HasRun g.L.TouchLog.after (scene c.args.ram.now c.args.log.now q (Network c.in-Network.mac old)) (scene c.receive.new.ram c.receive.new.log new_q kind) Room (λ ram q kind seen. serve c.args.visit.features kind 0 ram q seen) c.receive.result c.args.sent.now.items) is
    (run_whole (network_with c.in-Network.mac old) g.L.TouchLog.after c.args.ram.now c.receive.new.ram c.args.log.now c.receive.new.log q new_q old.frames new.frames Room net.receive_step
    (λ ram q kind seen. serve c.args.visit.features kind 0 ram q seen) c.receive.result c.args.sent.now.items (λ seen. refl) (c.receive.ensures.served c.args.sent.now.items)))

pub returns-else-visit-gt0-2-clause-served : goal.returns-else-visit-gt0-2-clause-served
returns-else-visit-gt0-2-clause-served g c =
    let first : c.args.visit.number ≡ 0 = omega (arith, c.if-visit-gt0-2.false) in
    let q = g.R.Ring.state c.args.ring.now in
    let new_q = g.R.Ring.state c.receive-in-Console.new.ring in
    rw (c.in-Console.is, first)
    (run_whole (Console c.in-Console.size) g.L.TouchLog.after c.args.ram.now c.receive-in-Console.new.ram c.args.log.now c.receive-in-Console.new.log q new_q c.in-Console.held c.receive-in-Console.new.held Room console.receive_step
    (λ ram q kind seen. serve c.args.visit.features kind 0 ram q seen) c.receive-in-Console.result c.args.sent.now.items (λ seen. refl) (c.receive-in-Console.ensures.served c.args.sent.now.items))

pub returns-in-Entropy-clause-served : goal.returns-in-Entropy-clause-served
returns-in-Entropy-clause-served g c =
    let q = g.R.Ring.state c.args.ring.now in
    let new_q = g.R.Ring.state c.receive-in-Entropy.new.ring in
    rw c.in-Entropy.is
    (run_whole Entropy g.L.TouchLog.after c.args.ram.now c.receive-in-Entropy.new.ram c.args.log.now c.receive-in-Entropy.new.log q new_q c.in-Entropy.pool c.receive-in-Entropy.new.held Room console.receive_step
    (λ ram q kind seen. serve c.args.visit.features kind c.args.visit.number ram q seen) c.receive-in-Entropy.result c.args.sent.now.items (λ seen. refl) (c.receive-in-Entropy.ensures.served c.args.sent.now.items))

pub returns-in-Block-clause-served : goal.returns-in-Block-clause-served
returns-in-Block-clause-served g c =
    let q = g.R.Ring.state c.args.ring.now in
    let new_q = g.R.Ring.state c.take.new.ring in
    rw c.in-Block.is
    (run_whole Block g.L.TouchLog.after c.args.ram.now c.take.new.ram c.args.log.now c.take.new.log q new_q c.in-Block.block c.take.new.self (Request HEADER_SIZE) (take_step c.args.visit.features)
    (λ ram q kind seen. serve c.args.visit.features kind c.args.visit.number ram q seen) c.take.result c.args.sent.now.items (λ seen. refl) (c.take.ensures.taken c.args.sent.now.items))

pub returns-in-Outside-clause-served : goal.returns-in-Outside-clause-served
returns-in-Outside-clause-served g c =
    let q = g.R.Ring.state c.args.ring.now in
    let new_q = g.R.Ring.state c.take-in-Outside.new.ring in
    rw c.in-Outside.is
    (run_whole Outside g.L.TouchLog.after c.args.ram.now c.take-in-Outside.new.ram c.args.log.now c.take-in-Outside.new.log q new_q c.in-Outside.block c.take-in-Outside.new.self (Request HEADER_SIZE) (take_step c.args.visit.features)
    (λ ram q kind seen. serve c.args.visit.features kind c.args.visit.number ram q seen) c.take-in-Outside.result c.args.sent.now.items (λ seen. refl) (c.take-in-Outside.ensures.taken c.args.sent.now.items))
