-- What is told of a stream that is checked: its header was read from a front of it.
use Rattle.std.proofs.Common.{◌≡◌, inl, inr, ℕ, Bool, List, ◌++◌, length, map, ap, ◌∙◌, ◌/◌, append_assoc, refl, Option, None}
use Rattle.guestmem.specs.declared.limits.TheConstants.{PAGE_SIZE}
use Rattle.machine.specs.State.{MachineState}
use Rattle.receiver.specs.Disks.{disk_marks_of, sizes_of}
use Rattle.traces.specs.Replies.{AppendsBeginning, checked_line}
use Rattle.machine.specs.Limits.{AreWithin}
use Rattle.wire.specs.Header.{Begins, Opening, header}
use Rattle.rehearsal.specs.InMemory.{memory_state}
use Rattle.vmig.proofs.MemoryDisks.{refused_steadily, zeros_sized}
use Rattle.vmig.proofs.Written.{keeps_same}
use Rattle.vmig.specs.Allowing.{program_limits, program_terms}
use Rattle.vmig.specs.Checking.{AreSizesOf, IsStreamLine, IsStreamMachine, TellsOfChecked, TellsOfStream, zero_disks}
use Rattle.vmig.specs.Faults.{TellsOfOutput}
use Rattle.vmig.specs.Feeding.{TellsOfRest}
use Rattle.vmig.specs.Output.{FailsOnFile, Silently}
use Rattle.vmig.specs.declared.fault.Fault.{Fault}

-- The disks fit the header, whatever comes after the front.
pub begins_on : (front more : List ℕ) (opening : Opening) (rest : List ℕ) → Begins front opening rest → Begins (front ++ more) opening (rest ++ more)
begins_on front more opening rest b = record {
  good = b.good;
  whole = ap (λ (x : List ℕ). x ++ more) b.whole ∙ append_assoc (header opening) rest more;
}

front_sized : (outside : Bool) (front more : List ℕ) (opening : Opening) (rest : List ℕ) (disks : List (List (List ℕ))) → Begins front opening rest → AreWithin (program_limits outside) opening.pages opening.shapes → disks ≡ zero_disks opening.shapes → AreSizesOf (program_limits outside) (front ++ more) (map length disks)
front_sized outside front more opening rest disks b within are = inl (record {
  opening = opening;
  rest = rest ++ more;
  begins = begins_on front more opening rest b;
  within = within;
  sizes_are = zeros_sized opening.shapes disks are;
})

pub rest_told : (outside : Bool) (stream front : List ℕ) (opening : Opening) (rest : List ℕ) (disks : List (List (List ℕ))) (fault : Fault) → Begins front opening rest → AreWithin (program_limits outside) opening.pages opening.shapes → disks ≡ zero_disks opening.shapes
    → TellsOfRest stream front (program_terms outside) (sizes_of memory_state disks) (disk_marks_of memory_state disks) fault → TellsOfChecked outside stream fault
rest_told outside stream front opening rest disks fault b within are (inl file) = inl file
rest_told outside stream front opening rest disks fault b within are (inr told) = inr (
  front ++ told.more,
  inr (record {
    sizes = map length disks;
    fit = front_sized outside front told.more opening rest disks b within are;
    refusal = told.refusal;
    refused = refused_steadily (program_terms outside) disks (front ++ told.more) told.refusal told.refused;
    is = told.is;
  }),
)

-- It is told before anything is written.
pub told_first : (outside : Bool) (named : List ℕ) (out : Option (List ℕ)) (fault : Fault) → TellsOfChecked outside named fault → FailsOnFile named (TellsOfStream outside) (λ bytes. Silently (IsStreamLine outside bytes)) out out fault
told_first outside named out fault (inl file) = inl (file, keeps_same out)
told_first outside named out fault (inr told) = inr (told.0, inl (told.1, keeps_same out))

-- The line of a stream could not be written, or not all of it.
pub told_of_line : (outside : Bool) (named : List ℕ) (m : MachineState) (pages devices rounds : ℕ) (old new : Option (List ℕ)) (fault : Fault) → IsStreamMachine outside m rounds → pages ≡ length m.ram / PAGE_SIZE → devices ≡ length m.devices → TellsOfOutput fault
    → AppendsBeginning old new (checked_line pages devices rounds) → FailsOnFile named (TellsOfStream outside) (λ bytes. Silently (IsStreamLine outside bytes)) old new fault
told_of_line outside named m pages devices rounds old new fault come p d told begun = inr (
  come.bytes,
  inr (inl (
    told,
    record {
      ending = None;
      output = checked_line pages devices rounds;
      asked = record { machine = m; rounds = rounds; received = come.received; based = come.based; within = come.within; spelled = rw (p, d) refl };
      begun = begun;
    },
  )),
)
