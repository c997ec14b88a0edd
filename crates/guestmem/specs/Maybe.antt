-- A log that may be missing.
use Rattle.std.specs.Prelude.{◌≡◌, Option, Some, None, refl}
use Rattle.std.proofs.Common.{ap}
use Rattle.guestmem.specs.Item.{Item}

-- Where there is none, every item may be named.
abbrev pub may_if : {L : Type 0} → (L → Item → Type 0) → Option L → Item → Type 0
may_if may None i = Unit {0}
may_if may (Some log) i = may log i

abbrev pub after_if : {L : Type 0} → (L → Item → L) → Option L → Item → Option L
after_if after None i = None
after_if after (Some log) i = Some (after log i)

pub stays_if : {L : Type 0} (may : L → Item → Type 0) (after : L → Item → L) → ((log : L) (i j : Item) → may log i → may (after log j) i) → (o : Option L) (i j : Item) → may_if may o i → may_if may (after_if after o j) i
stays_if may after stays None i j h = tt
stays_if may after stays (Some log) i j h = stays log i j h

pub order_if : {L : Type 0} (after : L → Item → L) → ((log : L) (i j : Item) → after (after log i) j ≡ after (after log j) i) → (o : Option L) (i j : Item) → after_if after (after_if after o i) j ≡ after_if after (after_if after o j) i
order_if after order None i j = refl
order_if after order (Some log) i j = ap Some (order log i j)

pub once_if : {L : Type 0} (after : L → Item → L) → ((log : L) (i : Item) → after (after log i) i ≡ after log i) → (o : Option L) (i : Item) → after_if after (after_if after o i) i ≡ after_if after o i
once_if after once None i = refl
once_if after once (Some log) i = ap Some (once log i)
