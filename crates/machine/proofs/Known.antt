-- What is so for each RAM that may be there.
use Rattle.std.proofs.Common.{◌≡◌, length, refl, sym, ap, subst, ◌∙◌}
use Rattle.guestmem.specs.Memory.{Memory}
use Rattle.machine.specs.Known.{Between, Here, Known, Lent, MayBe, Whatever}

pub at_each : (k : Known) (P : Memory → Type 0) → Whatever k P → (m : Memory) → MayBe k m → P m
at_each (Here n) P h m is = subst P (sym is) h
at_each (Lent versions) P h m is = h m is.0 is.1 is.2

pub for_each : (k : Known) (P : Memory → Type 0) → ((m : Memory) → MayBe k m → P m) → Whatever k P
for_each (Here n) P h = h n refl
for_each (Lent versions) P h = λ m is bytes count. h m (is, bytes, count)

pub between_same : (k : Known) (P : Memory → Memory → Type 0) → ((m : Memory) → MayBe k m → P m m) → Between k k P
between_same (Here n) P h = h n refl
between_same (Lent versions) P h = (refl, λ m is bytes count. h m (is, bytes, count))

-- From what is so between RAM before and after, to more.
pub between_each : (a b : Known) (P Q : Memory → Memory → Type 0) → Between a b P → ((m n : Memory) → MayBe a m → P m n → Q m n) → Between a b Q
between_each (Here m) (Here n) P Q h f = f m n refl h
between_each (Here m) (Lent after) P Q h f = absurd h
between_each (Lent versions) (Here n) P Q h f = absurd h
between_each (Lent versions) (Lent after) P Q h f = (h.0, λ m is bytes count. f m m (is, bytes, count) (h.1 m is bytes count))

-- And to each RAM that may be there after.
pub each_after : (a b : Known) (P : Memory → Memory → Type 0) (R : Memory → Type 0) → Between a b P → ((m n : Memory) → MayBe a m → P m n → R n) → Whatever b R
each_after (Here m) (Here n) P R h f = f m n refl h
each_after (Here m) (Lent after) P R h f = absurd h
each_after (Lent versions) (Here n) P R h f = absurd h
each_after (Lent versions) (Lent after) P R h f = λ m is bytes count.
    let same : length m.versions ≡ length versions = count ∙ ap length h.0 in
    f m m (is, bytes, same) (h.1 m is bytes same)
