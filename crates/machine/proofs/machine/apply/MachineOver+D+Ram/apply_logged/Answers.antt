use Rattle.machine.proofs.Quiet.{unlogged}
use Rattle.machine.proofs.machine.apply.MachineOver+D+Ram.apply_logged.Goals as goal

pub returns-in-RegRead-clause-applied : goal.returns-in-RegRead-clause-applied
returns-in-RegRead-clause-applied g c = rw (c.in-RegRead.is, c.from_value.ensures) (unlogged g.L.TouchLog.after c.args.self.now c.args.self.now c.args.log.now _ _ tt c.read_register.ensures)

pub returns-in-RegWrite-clause-applied : goal.returns-in-RegWrite-clause-applied
returns-in-RegWrite-clause-applied g c = rw (c.in-RegWrite.is, c.from_written.ensures) (unlogged g.L.TouchLog.after c.args.self.now c.write_register.new.self c.args.log.now _ _ tt c.write_register.ensures.applied)

pub returns-in-MemRead-clause-applied : goal.returns-in-MemRead-clause-applied
returns-in-MemRead-clause-applied g c = rw c.in-MemRead.is (unlogged g.L.TouchLog.after c.args.self.now c.args.self.now c.args.log.now _ _ tt c.read_bytes.ensures)

pub returns-in-Input-clause-applied : goal.returns-in-Input-clause-applied
returns-in-Input-clause-applied g c = rw (c.in-Input.is, c.from_accepted.ensures) (unlogged g.L.TouchLog.after c.args.self.now c.input.new.self c.args.log.now _ _ tt (rw c.as_slice-in-Input.ensures at c.input.ensures.applied))

pub returns-in-Resize-clause-applied : goal.returns-in-Resize-clause-applied
returns-in-Resize-clause-applied g c = rw (c.in-Resize.is, c.from_done-in-Resize.ensures) (unlogged g.L.TouchLog.after c.args.self.now c.resize.new.self c.args.log.now _ _ tt c.resize.ensures.applied)

pub returns-in-Drop-clause-applied : goal.returns-in-Drop-clause-applied
returns-in-Drop-clause-applied g c = rw (c.in-Drop.is, c.from_done-in-Drop.ensures) (unlogged g.L.TouchLog.after c.args.self.now c.drop_input.new.self c.args.log.now _ _ tt c.drop_input.ensures.applied)
