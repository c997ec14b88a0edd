use Rattle.std.proofs.Common.{ℕ, List, ◌≡◌, ◌+◌, ◌≤◌, ◌++◌, length}
use Rattle.std.specs.Vec.{vec_capacity}
use Rattle.receiver.specs.Disks.{sizes_in}
use Rattle.receiver.specs.Reading.{HasSameStore, place_of}
use Rattle.receiver.specs.Receiving.{IsPastHead, Knows}
use Rattle.receiver.specs.Sums.{IsClear, SaysOn}
use Rattle.receiver.specs.declared.stage.Stage.TheVariants as stages
use Rattle.receiver.proofs.Pieces.{IsPartly}
use Rattle.receiver.proofs.reader.Reader.take_piece.Given as goal

abbrev pub invariant-loop-rest : goal.invariant-loop-rest
invariant-loop-rest g l = record {
  few : length l.held.items ≤ 131077;
  room : 131078 ≤ vec_capacity l.held;
  shorter : length l.held.items + length l.rest ≤ length l.fn.held.items + length l.piece;
  ram : l.self.ram ≡ l.fn.self.ram;
  past : IsPastHead l.fn.self.stage → IsPastHead l.self.stage;
  place : place_of l.self ≡ place_of l.fn.self;
  waits : l.self.stage ≡ stages.Head → HasSameStore l.fn.self l.self;
  says : SaysOn l.fn.self.digest l.self.digest;
  partly : (front : List ℕ) → Knows l.fn.self front l.fn.held.items → IsClear l.fn.self.digest l.fn.self.ram (sizes_in l.fn.self.disks) (front ++ (l.fn.held.items ++ l.piece))
      → IsPartly l.self.ram l.fn.self.disks l.self.disks l.self.digest (front ++ (l.fn.held.items ++ l.piece)) l.held.items l.rest l.self.stage;
}

abbrev pub decreases-loop-rest : goal.decreases-loop-rest
decreases-loop-rest g l = length l.rest
