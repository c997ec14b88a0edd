use Rattle.std.proofs.Common.{◌≡◌, ◌/◌, refl, ◌∙◌, get_or, arith}
use Rattle.guestmem.specs.declared.limits.TheConstants.{PAGE_SIZE}
use Rattle.guestmem.specs.Memory.{Memory}
use Rattle.guestmem.specs.Later.{IsLater}

-- IsLater is reflexive.
pub later_same : (m : Memory) → IsLater m m
later_same m = record { bytes = refl; versions = refl; place = refl; rises = λ n. omega arith; stays = λ a same small. refl }

-- IsLater is transitive.
pub later_trans : (old mid new : Memory) → IsLater old mid → IsLater mid new → IsLater old new
later_trans old mid new p q = record {
  bytes = q.bytes ∙ p.bytes;
  versions = q.versions ∙ p.versions;
  place = q.place ∙ p.place;
  rises = λ n. omega (arith, p.rises n, q.rises n);
  stays = λ a same small.
      let n = a / PAGE_SIZE in
      let first : get_or mid.versions n 0 ≡ get_or old.versions n 0 = omega (arith, same, p.rises n, q.rises n) in
      let then' : get_or new.versions n 0 ≡ get_or mid.versions n 0 = omega (arith, same, first) in
      q.stays a then' (omega (arith, first, small)) ∙ p.stays a first small;
}
