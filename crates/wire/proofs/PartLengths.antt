-- How many bytes the parts of a stream have.
use Rattle.std.proofs.Common.{◌≡◌, ℕ, ◌+◌, ◌≤◌, List, length, refl, arith}
use Rattle.std.proofs.lemmas.List.{length-append}
use Rattle.machine.specs.Sound.{IsSoundDevice}
use Rattle.machine.specs.State.{DeviceState}
use Rattle.wire.specs.DeviceBody.{body}
use Rattle.wire.specs.Header.{Opening, front, header, spelled_shapes}
use Rattle.wire.specs.Numbers.{digits}
use Rattle.wire.specs.Records.{device, page, zero_page, spelled_record}
use Rattle.wire.proofs.Bodies.{body_is_short}
use Rattle.wire.proofs.Digits.{length-digits}

pub length-front : (version pages count : ℕ) → length (front version pages count) ≡ 16
unfolding front
length-front version pages count = refl

pub length_header : (opening : Opening) → length (header opening) ≡ 16 + length (spelled_shapes opening.shapes)
length_header opening = omega (arith, length-append (front opening.version opening.pages (length opening.shapes)) (spelled_shapes opening.shapes), length-front opening.version opening.pages (length opening.shapes))

pub length_device : (number : ℕ) (b : List ℕ) → length (spelled_record (device number b)) ≡ 6 + length b
unfolding spelled_record
length_device number b = omega (arith, length-append (digits 4 (length b)) b, length-digits 4 (length b))

pub length_page : (n : ℕ) (b : List ℕ) → length b ≡ 4096 → length (spelled_record (page n b)) ≡ 4101
unfolding spelled_record
length_page n b long = omega (arith, long, length-append (digits 4 n) b, length-digits 4 n)

pub length_zero_page : (n : ℕ) → length (spelled_record (zero_page n)) ≡ 5
unfolding spelled_record
length_zero_page n = refl

pub short_body : (d : DeviceState) → (base : ℕ) × (ram_len : ℕ) × IsSoundDevice base ram_len d → length (body d) ≤ 131072
short_body d h = body_is_short h.1 d h.2
