-- What holds of the marks of all disks holds of the marks of all devices.
use Rattle.std.proofs.Common.{ℕ, List, [], ◌∷◌, Option, Some, None, All}
use Rattle.std.specs.List.{AllByRecursion}
use Rattle.std.proofs.lemmas.List.Elements.{All-from_recursion, recursion_from_All}
use Rattle.machine.specs.First.{dealt_marks, given, left_over}
use Rattle.machine.specs.Seen.{Marks, no_marks}
use Rattle.machine.specs.Shapes.{disk_size_of}
use Rattle.machine.specs.declared.shape.Shape.{Shape}

given_each : (P : Marks → Type 0) → P no_marks → (size : Option ℕ) (marks : List Marks) → AllByRecursion P marks → P (given no_marks size marks)
given_each P none None marks h = none
given_each P none (Some size) [] h = none
given_each P none (Some size) (m ∷ marks) h = h.0

left_each : (P : Marks → Type 0) (size : Option ℕ) (marks : List Marks) → AllByRecursion P marks → AllByRecursion P (left_over size marks)
left_each P None marks h = h
left_each P (Some size) [] h = tt
left_each P (Some size) (m ∷ marks) h = h.1

dealt_each : (P : Marks → Type 0) → P no_marks → (shapes : List Shape) (marks : List Marks) → AllByRecursion P marks → AllByRecursion P (dealt_marks shapes marks)
dealt_each P none [] marks h = tt
dealt_each P none (shape ∷ shapes) marks h = (given_each P none (disk_size_of shape) marks h, dealt_each P none shapes (left_over (disk_size_of shape) marks) (left_each P (disk_size_of shape) marks h))

pub dealt_all : (P : Marks → Type 0) (none : P no_marks) (shapes : List Shape) (marks : List Marks) → All P marks → All P (dealt_marks shapes marks)
dealt_all P none shapes marks h = All-from_recursion P _ (dealt_each P none shapes marks (recursion_from_All P marks h))
