-- How large a machine of the program may be.
use Rattle.std.specs.Prelude.{ℕ, ◌*◌, Bool, true, if◌then◌else◌, List, Option}
use Rattle.blk.specs.declared.shape.TheConstants.{OUTSIDE_GREATEST}
use Rattle.guestmem.specs.declared.limits.TheConstants.{PAGE_SIZE}
use Rattle.machine.specs.First.{make_refusal}
use Rattle.machine.specs.Limits.{usual}
use Rattle.machine.specs.declared.limits.Limits.{Limits}
use Rattle.machine.specs.declared.new_error.NewError.{NewError}
use Rattle.machine.specs.declared.shape.Shape.{Shape}
use Rattle.receiver.specs.declared.terms.Terms.{Terms}

-- The usual limits, with disks outside of any size or without them.
abbrev pub program_limits : Bool → Limits
program_limits outside = record usual { outside = if outside then OUTSIDE_GREATEST else 0 }

-- What the program says of a machine that arrives: its RAM begins at the address 0.
abbrev pub program_terms : Bool → Terms
program_terms outside = record { base = 0; limits = program_limits outside }

-- Why no machine of a trace is made with this many pages, of these devices and of disks of these sizes, if so.
abbrev pub trace_refusal : ℕ → List Shape → List ℕ → Option NewError
trace_refusal pages shapes sizes = make_refusal (program_limits true) 0 (PAGE_SIZE * pages) shapes sizes
