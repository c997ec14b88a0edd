use Rattle.std.proofs.lemmas.List.{length-map}
use Rattle.std.proofs.Common.{◌∙◌, length, List, sym, subst}
use Rattle.blk.specs.declared.request.Request.{Request}
use Rattle.machine.specs.Seen.{states_of}
use Rattle.disk_calls.specs.Calls.{AreWithin}
use Rattle.disk_calls.proofs.Within.{asked_at, lent, within_sound}
use Rattle.disk_calls.proofs.machines.MachineOverAsks.requests.Goals as goal

pub returns-clause-requests : goal.returns-clause-requests
returns-clause-requests g c =
    let there = lent c.args.self.now.devices c.devices.result.now c.args.dev c.index-devices-dev.result c.state.result.now c.devices.ensures c.state.ensures c.requires c.index-devices-dev.is in
    c.asking_requests.ensures ∙ sym (asked_at (states_of c.args.self.now) c.args.dev c.state.result.now there)

pub returns-clause-within : goal.returns-clause-within
returns-clause-within g c =
    let there = lent c.args.self.now.devices c.devices.result.now c.args.dev c.index-devices-dev.result c.state.result.now c.devices.ensures c.state.ensures c.requires c.index-devices-dev.is in
    subst (λ (requests : List Request). AreWithin requests) (sym c.asking_requests.ensures) (within_sound (states_of c.args.self.now) c.args.dev c.state.result.now there c.shapes-sound.ensures.devices)

pub bounds-devices-dev : goal.bounds-devices-dev
bounds-devices-dev g c = let below = c.requires in let there = simp length-map at below in rw c.devices.ensures there
