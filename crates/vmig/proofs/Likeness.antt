-- Two machines of which each part is the same.
use Rattle.std.proofs.Common.{◌≡◌, ◌<◌, ℕ, zero, suc, ◌+◌, ◌*◌, Bool, true, false, List, [], ◌∷◌, length, map, take, slice_get, slice_index, Option, Some, None, IsTrue, refl, ap, sym, ◌∙◌, arith}
use Rattle.std.proofs.Math.Seq.{take-add}
use Rattle.blk.specs.Sectors.{Sector}
use Rattle.guestmem.specs.Page.{page_of}
use Rattle.machine.specs.Applied.{IsFound}
use Rattle.machine.specs.EffectLaws.{sector_on, sectors_on}
use Rattle.machine.specs.Seen.{Marks}
use Rattle.machine.specs.Sound.{IsSound}
use Rattle.machine.specs.State.{MachineState}
use Rattle.sender.specs.Items.{size_on}
use Rattle.sender.proofs.Disks.{disks_long}
use Rattle.receiver.proofs.Lists.{take_all}
use Rattle.wire.proofs.Unique.{cons_same}

-- What holds below a number and of it, holds below the next.
pub one_more : (P : ℕ → Type 0) (n : ℕ) → ((k : ℕ) → k < n → P k) → P n → (k : ℕ) → k < n + 1 → P k
one_more P zero all here zero below = here
one_more P zero all here (suc k) below = absurd (omega (arith, below))
one_more P (suc n) all here zero below = all 0 (omega arith)
one_more P (suc n) all here (suc k) below = one_more (λ j. P (suc j)) n (λ j h. all (suc j) (omega (arith, h))) here k (omega (arith, below))

-- RAM, page by page.
pub pages_more : (n : ℕ) (a b : List ℕ) → take (4096 * n) a ≡ take (4096 * n) b → page_of a n ≡ page_of b n → take (4096 * (n + 1)) a ≡ take (4096 * (n + 1)) b
pages_more n a b so_far here =
    let e : 4096 * (n + 1) ≡ 4096 * n + 4096 = omega arith in
    rw (e, take-add (4096 * n) 4096 a, take-add (4096 * n) 4096 b, so_far, here) refl

pub pages_all : (n : ℕ) (a b : List ℕ) → length a ≡ 4096 * n → length b ≡ 4096 * n → take (4096 * n) a ≡ take (4096 * n) b → a ≡ b
pages_all n a b la lb all = sym (take_all (4096 * n) a (omega (arith, la))) ∙ all ∙ take_all (4096 * n) b (omega (arith, lb))

-- Lists, element by element.
some_is : {A : Type 0} {x y : A} → Some x ≡ Some y → x ≡ y
some_is e = cc

list_same : {A : Type 0} (xs ys : List A) → length xs ≡ length ys → ((k : ℕ) → k < length xs → slice_get xs k ≡ slice_get ys k) → xs ≡ ys
list_same [] [] e h = refl
list_same [] (y ∷ ys) e h = absurd (omega (arith, e))
list_same (x ∷ xs) [] e h = absurd (omega (arith, e))
list_same (x ∷ xs) (y ∷ ys) e h = cons_same (some_is (h 0 (omega arith))) (list_same xs ys (omega (arith, e)) (λ k below. h (suc k) (omega (arith, below))))

-- One of some disks, sector by sector.
at_same : (xs ys : List (List Sector)) (dev n : ℕ) → dev < length xs → dev < length ys → n ≡ slice_index (map length xs) dev → n ≡ slice_index (map length ys) dev
    → ((k : ℕ) → k < n → sector_on (slice_get xs dev) k ≡ sector_on (slice_get ys dev) k) → slice_get xs dev ≡ slice_get ys dev
at_same [] ys dev n la lb ea eb h = absurd (omega (arith, la))
at_same (x ∷ xs) [] dev n la lb ea eb h = absurd (omega (arith, lb))
at_same (x ∷ xs) (y ∷ ys) zero n la lb ea eb h = ap Some (list_same x y (sym ea ∙ eb) (λ k below. h k (omega (arith, below, ea))))
at_same (x ∷ xs) (y ∷ ys) (suc dev) n la lb ea eb h = at_same xs ys dev n (omega (arith, la)) (omega (arith, lb)) ea eb h

at_sized : (xs ys : List (List Sector)) (dev : ℕ) → dev < length xs → dev < length ys → slice_get xs dev ≡ slice_get ys dev → slice_index (map length xs) dev ≡ slice_index (map length ys) dev
at_sized [] ys dev la lb same = absurd (omega (arith, la))
at_sized (x ∷ xs) [] dev la lb same = absurd (omega (arith, lb))
at_sized (x ∷ xs) (y ∷ ys) zero la lb same = ap length (some_is same)
at_sized (x ∷ xs) (y ∷ ys) (suc dev) la lb same = at_sized xs ys dev (omega (arith, la)) (omega (arith, lb)) same

pub disk_same : (a b : MachineState) (dev n : ℕ) → IsSound a → IsSound b → dev < length a.devices → dev < length b.devices → n ≡ size_on a dev → n ≡ size_on b dev
    → ((k : ℕ) → k < n → sector_on (sectors_on a dev) k ≡ sector_on (sectors_on b dev) k) → sectors_on a dev ≡ sectors_on b dev
disk_same a b dev n sa sb la lb ea eb h = at_same a.disks b.disks dev n (omega (arith, la, disks_long a sa)) (omega (arith, lb, disks_long b sb)) ea eb h

pub disk_sized : (a b : MachineState) (dev : ℕ) → IsSound a → IsSound b → dev < length a.devices → dev < length b.devices → sectors_on a dev ≡ sectors_on b dev → size_on a dev ≡ size_on b dev
disk_sized a b dev sa sb la lb same = at_sized a.disks b.disks dev (omega (arith, la, disks_long a sa)) (omega (arith, lb, disks_long b sb)) same

-- All disks, device by device.
pub disks_same : (a b : MachineState) (n : ℕ) → IsSound a → IsSound b → n ≡ length a.devices → n ≡ length b.devices → ((k : ℕ) → k < n → sectors_on a k ≡ sectors_on b k) → a.disks ≡ b.disks
disks_same a b n sa sb ea eb h =
    let la : length a.disks ≡ n = disks_long a sa ∙ sym ea in
    list_same a.disks b.disks (la ∙ eb ∙ sym (disks_long b sb)) (λ k below. h k (omega (arith, below, la)))

pub disks_counted : (a b : MachineState) → IsSound a → IsSound b → a.disks ≡ b.disks → length a.devices ≡ length b.devices
disks_counted a b sa sb same = sym (disks_long a sa) ∙ ap length same ∙ disks_long b sb

-- A sector that both read, or find bad.
pub both_good : (here there : List ℕ) (m k : Marks) (a b : Option Sector) → IsTrue m.honest → IsTrue k.honest → IsFound m a here true → IsFound k b there true → (here ≡ there → a ≡ b) × (a ≡ b → here ≡ there)
both_good here there m k a b mh kh fa fb =
    let is : a ≡ Some (Some here) = fa.1 mh in
    let other : b ≡ Some (Some there) = fb.1 kh in
    (λ same. is ∙ ap (λ (x : List ℕ). Some (Some x)) same ∙ sym other, λ same. bytes_are (sym is ∙ same ∙ other))
  where
    bytes_are : {x y : List ℕ} → (◌≡◌ {A = Option Sector} (Some (Some x)) (Some (Some y))) → x ≡ y
    bytes_are e = cc

pub not_both : (here there : List ℕ) (m k : Marks) (a b : Option Sector) (x y : Bool) → IsFound m a here x → IsFound k b there y → a ≡ b → y ≡ x
not_both here there m k a b true true fa fb same = refl
not_both here there m k a b false false fa fb same = refl
not_both here there m k a b true false fa fb same = let wrong : ◌≡◌ {A = Option Sector} (Some (Some fa.0.0)) (Some None) = sym fa.0.1 ∙ same ∙ fb in cc
not_both here there m k a b false true fa fb same = let wrong : ◌≡◌ {A = Option Sector} (Some None) (Some (Some fb.0.0)) = sym fa ∙ same ∙ fb.0.1 in cc
