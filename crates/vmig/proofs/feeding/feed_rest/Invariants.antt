use Rattle.std.proofs.Common.{◌≡◌, ℕ, List}
use Rattle.receiver.specs.declared.terms.Terms.{Terms}
use Rattle.vmig.specs.Feeding.{IsFedOn}
use Rattle.vmig.proofs.feeding.feed_rest.Given as goal

abbrev pub invariant-loop : goal.invariant-loop
invariant-loop g l = record {
  ram : l.receiver.ram ≡ l.fn.receiver.ram;
  sizes : l.receiver.sizes ≡ l.fn.receiver.sizes;
  marks : l.receiver.marks ≡ l.fn.receiver.marks;
  fed : (terms : Terms) (front : List ℕ) → IsFedOn terms l.fn.receiver front → IsFedOn terms l.receiver front;
}
