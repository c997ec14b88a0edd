-- How large RAM may be that a setup or an arrival asks for.
use Rattle.std.proofs.Common.{◌≡◌, ◌≤◌, ◌*◌, ◌/◌, ◌%◌, ◌==◌, ◌&&◌, ◌||◌, not, nat_lt, ℕ, Bool, true, false, List, refl, arith, length}
use Rattle.std.specs.Prelude.{Option, Some, None, if◌then◌else◌}
use Rattle.std.proofs.lemmas.Bool.Decides.{nat_tests}
use Rattle.std.proofs.lemmas.List.{length-replicate}
use Rattle.machine.specs.First.{is_base}
use Rattle.machine.specs.Limits.{greatest}
use Rattle.machine.specs.declared.limits.Limits.{Limits}
use Rattle.region.specs.declared.slot.Slot.{Slot}
use Rattle.c_machine.specs.Expected as arrival
use Rattle.c_machine.specs.Made.{are_other_disks, arrival_limits, asks_large, first_ram, is_bad_ram, is_known_setup, is_ram, limits_for, ram_bytes, ram_if, setup_refusal_of, small}
use Rattle.c_machine.specs.Making.{are_bad_shapes}
use Rattle.c_machine.specs.declared.setup.Expected.{Expected}
use Rattle.c_machine.specs.declared.setup.Setup.{Setup}
use Rattle.c_machine.proofs.Imaging.{eq_of}
use Rattle.c_handle.specs.Expected.{IsNoneOrRam}

second_test : (t u v w x : ℕ) (a b c d e : Bool) → ◌≡◌ {A = Option ℕ} (if a then Some t else if b then Some u else if c then Some v else if d then Some w else if e then Some x else None) None → b ≡ false
second_test t u v w x true b c d e is = absurd cc
second_test t u v w x false true c d e is = absurd cc
second_test t u v w x false false c d e is = refl

first_of_two : (a b : Bool) → (not a || b) ≡ false → a ≡ true
first_of_two true b is = refl
first_of_two false b is = absurd cc

-- What is RAM is whole pages, and no more than the limits allow.
three_tests : (a b c : Bool) → (a && (not b && not c)) ≡ true → (a ≡ true) × (b ≡ false) × (c ≡ false)
three_tests true true c is = absurd cc
three_tests true false true is = absurd cc
three_tests true false false is = (refl, refl, refl)
three_tests false b c is = absurd cc

tested_few : (a b : ℕ) → nat_lt a b ≡ false → b ≤ a
tested_few a b is = grind (arith, nat_tests)

few_tested : (a b : ℕ) → b ≤ a → nat_lt a b ≡ false
few_tested a b few = grind (arith, nat_tests)

pub whole_few : (limits : Limits) (bytes : ℕ) → is_ram limits bytes ≡ true → (bytes % 4096 ≡ 0) × (bytes / 4096 ≤ limits.pages)
whole_few limits bytes is =
    let t = three_tests (bytes % 4096 == 0) (bytes / 4096 == 0) (nat_lt limits.pages (bytes / 4096)) is in
    (eq_of (bytes % 4096) 0 t.0, tested_few limits.pages (bytes / 4096) t.2)

-- The RAM that a setup asks for.
pub asked_ram : (s : Setup) → setup_refusal_of s ≡ None → (ram_bytes s.pages (length s.ram.content) % 4096 ≡ 0) × (ram_bytes s.pages (length s.ram.content) / 4096 ≤ (limits_for s.flags).pages)
asked_ram s fine =
    let limits = limits_for s.flags in
    let good : is_bad_ram limits s.pages (length s.ram.content) ≡ false = second_test _ _ _ _ _ (not (is_known_setup s)) (is_bad_ram limits s.pages (length s.ram.content)) (are_bad_shapes limits s.shapes.now)
    (not (is_base s.base (ram_bytes s.pages (length s.ram.content)))) (are_other_disks s) fine in
    whole_few limits (ram_bytes s.pages (length s.ram.content)) (first_of_two (is_ram limits (ram_bytes s.pages (length s.ram.content))) _ good)

long_if : (none : Bool) (pages : ℕ) (content : List ℕ) → length (ram_if (not none) pages content) ≡ (if none then 4096 * pages else length content)
long_if true pages content = length-replicate (4096 * pages) 0
long_if false pages content = refl

pub first_long : (pages : ℕ) (ram : Slot) → length (first_ram pages ram) ≡ ram_bytes pages (length ram.content)
first_long pages ram = long_if (length ram.content == 0) pages ram.content

-- The RAM that is handed in for what arrives: it is one within the greatest limits.
few_in : (asked : Bool) (pages : ℕ) → pages ≤ (if asked then greatest else small).pages → pages ≤ greatest.pages
few_in true pages few = few
few_in false pages few = omega (arith, few)

in_greatest : (flags bytes : ℕ) → is_ram (limits_for flags) bytes ≡ true → is_ram greatest bytes ≡ true
in_greatest flags bytes is =
    let t = three_tests (bytes % 4096 == 0) (bytes / 4096 == 0) (nat_lt (limits_for flags).pages (bytes / 4096)) is in
    let few : bytes / 4096 ≤ 4294967295 = few_in (asks_large flags) (bytes / 4096) (tested_few (limits_for flags).pages (bytes / 4096) t.2) in
    let last : nat_lt 4294967295 (bytes / 4096) ≡ false = few_tested 4294967295 (bytes / 4096) few in
    rw (t.0, t.1, last) refl

unfit_by : (none pages : Bool) (good : Bool) → (not none && (not pages || not good)) ≡ false → not none ≡ true → good ≡ true
unfit_by none pages true is some = refl
unfit_by true pages false is some = absurd cc
unfit_by false true false is some = absurd cc
unfit_by false false false is some = absurd cc

pub is_ram_of : (e : Expected) → arrival.arrival_refusal_of e ≡ None → IsNoneOrRam e.ram
is_ram_of e fine some =
    let limits = arrival_limits e.flags (arrival.frame_allowed e) in
    let good : arrival.is_unfit_ram limits e.most_pages (length e.ram.content) ≡ false = second_test _ _ _ _ _ (not (arrival.is_known_arrival e)) (arrival.is_unfit_ram limits e.most_pages (length e.ram.content)) (arrival.are_unfit_shapes limits e.shapes.now)
    (not (is_base e.base (length e.ram.content))) (arrival.are_other_images e) fine in
    in_greatest e.flags (length e.ram.content) (unfit_by (length e.ram.content == 0) (e.most_pages == 0) (is_ram limits (length e.ram.content)) good some)
