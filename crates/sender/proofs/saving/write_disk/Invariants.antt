use Rattle.std.proofs.Common.{◌≡◌, ◌≤◌, Ok}
use Rattle.machine.specs.NextBad.{IsNextBad}
use Rattle.machine.specs.Seen.{state_of}
use Rattle.machine.specs.Sound.{IsSound}
use Rattle.wire.specs.Sinks.{prompt}
use Rattle.wire.specs.Stream.{texts}
use Rattle.sender.specs.Items.{first_sector, records_from, size_on}
use Rattle.sender.specs.Reads.{ReadsItems}
use Rattle.sender.specs.Saving.{Sends, TakesOn}
use Rattle.sender.proofs.saving.write_disk.Given as goal

abbrev pub invariant-loop-number : goal.invariant-loop-number
invariant-loop-number g l = record {
  sound : IsSound (state_of l.fn.machine);
  end : l.number-end ≡ size_on (state_of l.fn.machine) l.dev;
  few : l.number-end ≤ 4294967295;
  next : IsNextBad (state_of l.fn.machine) l.dev l.number l.next_bad;
  calls : ReadsItems g.D.Disk.called l.fn.machine (first_sector (state_of l.fn.machine) l.dev) l.number l.machine;
  sent : Sends l.fn.machine (g.S.Sink.state l.fn.out) (texts (records_from (state_of l.fn.machine) (first_sector (state_of l.fn.machine) l.dev) l.number)) (Ok (tt {0})) l.machine (g.S.Sink.state l.out);
  taken : TakesOn l.fn.machine (prompt l.fn.sum.taken) (texts (records_from (state_of l.fn.machine) (first_sector (state_of l.fn.machine) l.dev) l.number)) (Ok (tt {0})) (prompt l.sum.taken);
}
