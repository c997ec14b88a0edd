-- A machine none of whose disks was called.
use Rattle.std.proofs.Common.{◌≡◌, ℕ, Bool, List, [], ◌∷◌, length, map, Option, refl, ap, arith}
use Rattle.guestmem.specs.Memory.{Memory}
use Rattle.machine.specs.Seen.{DeviceSeen, Marks, Seen}
use Rattle.machine.specs.State.{DeviceState, MachineState}
use Rattle.sender.specs.Reads.{UncalledIsSame}

-- A machine whose parts are the same is the same.
parts_of : (s t : DeviceState) (x y : List (Option (List ℕ))) (a b : Marks) (f g : Bool) (c k : Option ℕ) → s ≡ t → x ≡ y → a ≡ b → f ≡ g → c ≡ k
    → ◌≡◌ {A = DeviceSeen} (record { state = s; sectors = x; marks = a; is_flushed = f; calls = c }) (record { state = t; sectors = y; marks = b; is_flushed = g; calls = k })
parts_of s t x y a b f g c k states sectors marks flushed calls = rw (states, sectors, marks, flushed, calls) refl

device_same : (e d : DeviceSeen) → e.state ≡ d.state → e.sectors ≡ d.sectors → e.marks ≡ d.marks → e.is_flushed ≡ d.is_flushed → e.calls ≡ d.calls → e ≡ d
device_same e d state sectors marks flushed calls = parts_of e.state d.state e.sectors d.sectors e.marks d.marks e.is_flushed d.is_flushed e.calls d.calls state sectors marks flushed calls

both_of : (m n : Memory) (ds es : List DeviceSeen) → m ≡ n → ds ≡ es → ◌≡◌ {A = Seen} (record { memory = m; devices = ds }) (record { memory = n; devices = es })
both_of m n ds es e f = rw (e, f) refl

-- The devices have the same parts.
record HaveSameParts (ds es : List DeviceSeen) : Type 0 where
  states : map (λ (d : DeviceSeen). d.state) es ≡ map (λ (d : DeviceSeen). d.state) ds
  disks : map (λ (d : DeviceSeen). d.sectors) es ≡ map (λ (d : DeviceSeen). d.sectors) ds
  marks : map (λ (d : DeviceSeen). d.marks) es ≡ map (λ (d : DeviceSeen). d.marks) ds
  flushed : map (λ (d : DeviceSeen). d.is_flushed) es ≡ map (λ (d : DeviceSeen). d.is_flushed) ds
  calls : map (λ (d : DeviceSeen). d.calls) es ≡ map (λ (d : DeviceSeen). d.calls) ds

seen_devices : (ds es : List DeviceSeen) → HaveSameParts ds es → es ≡ ds
seen_devices [] [] h = refl
seen_devices [] (e ∷ es) h = absurd (omega (arith, ap length h.states))
seen_devices (d ∷ ds) [] h = absurd (omega (arith, ap length h.states))
seen_devices (d ∷ ds) (e ∷ es) h =
    let a = h.states in
    let b = h.disks in
    let c = h.marks in
    let f = h.flushed in
    let k = h.calls in
    let states : map (λ (x : DeviceSeen). x.state) es ≡ map (λ (x : DeviceSeen). x.state) ds = cc in
    let disks : map (λ (x : DeviceSeen). x.sectors) es ≡ map (λ (x : DeviceSeen). x.sectors) ds = cc in
    let others : map (λ (x : DeviceSeen). x.marks) es ≡ map (λ (x : DeviceSeen). x.marks) ds = cc in
    let others_flushed : map (λ (x : DeviceSeen). x.is_flushed) es ≡ map (λ (x : DeviceSeen). x.is_flushed) ds = cc in
    let others_called : map (λ (x : DeviceSeen). x.calls) es ≡ map (λ (x : DeviceSeen). x.calls) ds = cc in
    let rest : es ≡ ds = seen_devices ds es (record { states = states; disks = disks; marks = others; flushed = others_flushed; calls = others_called }) in
    let state : e.state ≡ d.state = cc in
    let sectors : e.sectors ≡ d.sectors = cc in
    let marks : e.marks ≡ d.marks = cc in
    let flushed : e.is_flushed ≡ d.is_flushed = cc in
    let calls : e.calls ≡ d.calls = cc in
    let same : e ≡ d = device_same e d state sectors marks flushed calls in
    rw (same, rest) refl

pub uncalled_is_same : UncalledIsSame
uncalled_is_same old new same none =
    both_of new.memory old.memory new.devices old.devices same.memory (seen_devices old.devices new.devices (record {
      states = ap (λ (m : MachineState). m.devices) same.state;
      disks = ap (λ (m : MachineState). m.disks) same.state;
      marks = same.marks;
      flushed = same.flushed;
      calls = none;
    }))
