-- A handle may go to another thread, since what it owns may.
use mir.Raw.{raw}
use base.Fraction.{full_share}
use base.Shift.{Keyless}
use denote.Exit.{Exit, unchanged, leaves, hidden, under}
use denote.Memory.{lone}
use denote.RawPtr.{Ptr, block_ptr, null_ptr, lies_at}
use denote.Struct.Struct.{exits_of}
use denote.Struct.Owning.{shape, fields, to}
use denote.RattleType.{RattleType}
use denote.Param.Send.{IsSend, AllSend, Quiet, owning_send, struct_send, sendable, part_keyless}
use Rattle.std.specs.Prelude.{Option, Some, None}
use Rattle.std.proofs.Crossing as heap
use Rattle.std.proofs.alloc.Global.TheSendSync as handle
use Rattle.std.specs.declared.alloc.Global.{Global}
use Rattle.c_handle.specs.Kept.{KeptSeen}
use Rattle.c_handle.proofs.kept.Kept.TheSendSync as kept
use Rattle.c_handle.specs.contracts.handle.Handle.{the_row, the_type}
use Rattle.c_handle.specs.Owned.{machine_owns, kept_row}

quiet : {D X : Type 0} (to : D → X) (e : Exit X) → Quiet e → Quiet (hidden (under to e))
quiet to unchanged q = λ x w. tt
quiet to (leaves L l S s r₀) q = λ d. q (to d)

lies : (R : RattleType) → IsSend R → (p : Ptr) (x : R.Denot) → Keyless (lies_at R full_share p x)
lies R s (block_ptr b o) x = part_keyless R s full_share x b o
lies R s null_ptr x = tt

owned : (a : Global) (p : Ptr) (k : Option KeptSeen) → Keyless (machine_owns a p k)
owned a p None = λ e. tt
owned a p (Some x) = (lies kept_row kept.the_send p x, heap.frees.frees a (raw (lone kept_row.mir)) p)

pub send : IsSend the_row
send =
    let all : AllSend (fields the_type) = (search sendable, (handle.the_field_send, tt)) in
    owning_send the_type all (λ d. owned d.alloc d.at d.machine)
    (λ k. quiet (to the_type) (exits_of k (fields the_type)) ((struct_send (shape the_type) all).leaving k))
