use Rattle.std.proofs.Common.{◌≡◌, ℕ, List, ◌++◌, ◌-◌, ◌%◌, ◌^◌, length, take, refl, arith, ◌∙◌, length-append}
use Rattle.std.proofs.lemmas.List.{length-take-le, take_rest}
use Rattle.sha2.specs.Sha256.{initial_hash_256}
use Rattle.sha2.proofs.Absorbing256.{total_append}
use Rattle.c_digest.proofs.Taking.{behind, filled, short}
use Rattle.c_digest.proofs.digest.Digest.add.Goals as goal

pub returns-then-bytes-room : goal.returns-then-bytes-room
returns-then-bytes-room c = λ message held.
    let total : c.args.self.now.length ≡ length message % 2 ^ 64 = held.1 in (
      held.0,
      total_append c.args.self.now.length _ message c.args.bytes.now total refl,
      short initial_hash_256 c.args.self.now.hash c.args.self.now.block message c.args.bytes.now _ _ _ held.2 (omega arith) (omega arith) (omega arith) c.copy_from_slice.ensures.after,
    )

pub returns : goal.returns
returns c = λ message held.
    let bytes : List ℕ = c.args.bytes.now in
    let used : ℕ = c.args.self.now.length % 64 in
    let room : ℕ = 64 - used in
    let total : c.args.self.now.length ≡ length message % 2 ^ 64 = held.1 in
    let count : length (take room bytes) ≡ room = length-take-le room bytes (omega arith) in
    let edge : length (message ++ take room bytes) % 64 ≡ 0 = omega (arith, length-append message (take room bytes)) in
    let whole = filled initial_hash_256 c.args.self.now.hash c.args.self.now.block _ message (take room bytes) _ used room held.2 (omega arith) (omega arith) (omega arith) count c.copy_from_slice-2.ensures.after in
    let taken = c.take_blocks.ensures.taken (message ++ take room bytes) edge (rw c.take_block.ensures whole) in (
      c.take_blocks.ensures.reserved ∙ held.0,
      c.take_blocks.ensures.length ∙ total_append c.args.self.now.length _ message bytes total refl,
      rw (take_rest bytes room, behind message bytes room) at taken,
    )
