-- The interrupt lines of some devices and of one more.
use Rattle.std.proofs.Common.{◌≡◌, ℕ, ◌+◌, ◌*◌, ◌^◌, ◌<◌, ◌≤◌, Bool, true, false, cond, eqb, List, [], ◌∷◌, ◌++◌, length, map, take, get_or, arith, refl}
use native.Mathlib.Numerals.{unary_clauses}
use Rattle.std.proofs.Math.Pow.{pow_mono}
use Rattle.std.proofs.lemmas.List.{take_more, map-append, length-take, length-map}
use Rattle.machine.specs.State.{DeviceState}
use Rattle.machine.specs.Seen.{DeviceSeen}
use Rattle.machine.specs.Lines.{line_of, lines_of}

abbrev pub raised : DeviceState → ℕ → ℕ
raised d weight = cond (eqb d.registers.common.interrupts 0) 0 weight

twice : (b : Bool) (bit rest weight : ℕ) → bit + 2 * (rest + cond b 0 weight) ≡ bit + 2 * rest + cond b 0 (weight * 2)
twice true bit rest weight = omega arith
twice false bit rest weight = omega arith

once : (b : Bool) → cond b 0 1 + 0 ≡ 0 + cond b 0 1
once true = refl
once false = refl

-- One device more: its bit is the next one.
lines_of-more : (ds : List DeviceState) (d : DeviceState) → lines_of (ds ++ d ∷ []) ≡ lines_of ds + raised d (2 ^ length ds)
unfolding lines_of
lines_of-more [] d = once (eqb d.registers.common.interrupts 0)
lines_of-more (x ∷ ds) d = simp unary_clauses (rw (lines_of-more ds d) (twice (eqb d.registers.common.interrupts 0) (line_of x) (lines_of ds) (2 ^ length ds)))

lowest : (b : Bool) → cond b 0 1 ≤ 1
lowest true = omega arith
lowest false = omega arith

twice_less : (bit rest weight : ℕ) → bit ≤ 1 → rest < weight → bit + 2 * rest < weight * 2
twice_less bit rest weight low less = omega (arith, low, less)

pub lines_of-fits : (ds : List DeviceState) → lines_of ds < 2 ^ length ds
unfolding lines_of
lines_of-fits [] = omega arith
lines_of-fits (d ∷ ds) = simp unary_clauses (twice_less (line_of d) (lines_of ds) (2 ^ length ds) (lowest (eqb d.registers.common.interrupts 0)) (lines_of-fits ds))

-- The lines of the first devices of a machine.
abbrev pub lines_to : ℕ → List DeviceSeen → ℕ
lines_to n ds = lines_of (map (λ (d : DeviceSeen). d.state) (take n ds))

first_long : (n : ℕ) (ds : List DeviceSeen) → n ≤ length ds → length (map (λ (x : DeviceSeen). x.state) (take n ds)) ≡ n
first_long n ds below = rw (length-map, length-take) (omega (arith, below))

-- What the loop knows after some devices, and after one more.
pub record AreLines (n : ℕ) (ds : List DeviceSeen) (weight sum : ℕ) : Type 0 where
  pub few : length ds ≤ 16
  pub line : weight ≡ 2 ^ n
  pub lines : sum ≡ lines_to n ds

pub no_lines : (ds : List DeviceSeen) → length ds ≤ 16 → AreLines 0 ds 1 0
unfolding lines_of
no_lines ds few = record { few = few; line = refl; lines = refl }

pub one_more : (n : ℕ) (ds : List DeviceSeen) (d : DeviceSeen) (line lines bit : ℕ) → n < length ds → get_or ds n d ≡ d → bit ≡ raised d.state line → AreLines n ds line lines → AreLines (n + 1) ds (line * 2) (lines + bit)
one_more n ds d line lines bit below is bit_is so_far =
    let first : List DeviceState = map (λ (x : DeviceSeen). x.state) (take n ds) in
    let more : take (n + 1) ds ≡ take n ds ++ d ∷ [] = rw (take_more ds n d below, is) refl in
    record {
      few = so_far.few;
      line = rw so_far.line (simp unary_clauses (omega arith));
      lines = rw (more, map-append (λ (x : DeviceSeen). x.state) (take n ds) (d ∷ []), lines_of-more first d.state, first_long n ds (omega (arith, below)), bit_is, so_far.lines, so_far.line) refl;
    }

pub lines_low : (n : ℕ) (ds : List DeviceSeen) (line lines : ℕ) → n ≤ length ds → AreLines n ds line lines → lines < 2 ^ 16
lines_low n ds line lines below so_far =
    let weight : 2 ^ n ≤ 2 ^ 16 = pow_mono {i = n} {j = 16} (omega (arith, below, so_far.few)) in
    let fits : lines_to n ds < 2 ^ n = rw (first_long n ds below) at (lines_of-fits (map (λ (x : DeviceSeen). x.state) (take n ds))) in
    omega (arith, weight, fits, so_far.lines)

pub line_low : (n : ℕ) (ds : List DeviceSeen) (line lines : ℕ) → n < length ds → AreLines n ds line lines → line ≤ 2 ^ 15
line_low n ds line lines below so_far =
    let weight : 2 ^ n ≤ 2 ^ 15 = pow_mono {i = n} {j = 15} (omega (arith, below, so_far.few)) in
    omega (arith, weight, so_far.line)

low_bit : (b : Bool) (weight : ℕ) → cond b 0 weight ≤ weight
low_bit true weight = omega arith
low_bit false weight = omega arith

pub bit_low : (d : DeviceState) (weight : ℕ) → raised d weight ≤ weight
bit_low d weight = low_bit (eqb d.registers.common.interrupts 0) weight
