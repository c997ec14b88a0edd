use Rattle.std.proofs.Common.{◌≡◌, length, Ok}
use Rattle.machine.specs.Layout.{pages_of}
use Rattle.machine.specs.Seen.{state_of}
use Rattle.machine.specs.Sound.{IsSound}
use Rattle.wire.specs.Sinks.{prompt}
use Rattle.wire.specs.Stream.{texts}
use Rattle.sender.specs.Items.{records_from, sectors_before}
use Rattle.sender.specs.Reads.{ReadsItems}
use Rattle.sender.specs.Saving.{Sends, TakesOn}
use Rattle.sender.proofs.saving.write_disks.Given as goal

abbrev pub invariant-loop-dev : goal.invariant-loop-dev
invariant-loop-dev g l = record {
  sound : IsSound (state_of l.fn.machine);
  end : l.dev-end ≡ length (state_of l.fn.machine).devices;
  calls : ReadsItems g.D.Disk.called l.fn.machine (pages_of (state_of l.fn.machine)) (sectors_before (state_of l.fn.machine) l.dev) l.machine;
  sent : Sends l.fn.machine (g.S.Sink.state l.fn.out) (texts (records_from (state_of l.fn.machine) (pages_of (state_of l.fn.machine)) (sectors_before (state_of l.fn.machine) l.dev))) (Ok (tt {0})) l.machine (g.S.Sink.state l.out);
  taken : TakesOn l.fn.machine (prompt l.fn.sum.taken) (texts (records_from (state_of l.fn.machine) (pages_of (state_of l.fn.machine)) (sectors_before (state_of l.fn.machine) l.dev))) (Ok (tt {0})) (prompt l.sum.taken);
}
