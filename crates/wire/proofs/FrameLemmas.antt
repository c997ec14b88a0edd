-- Frames: what is spelled is read, and what is read was spelled.
use Rattle.std.proofs.Common.{◌≡◌, ℕ, suc, ◌+◌, ◌*◌, ◌/◌, ◌<◌, ◌≤◌, ltb, cond, List, [], ◌∷◌, ◌++◌, length, take, drop, nat_lt, not, ◌||◌, ◌&&◌, Bool, true, false, Some, refl, sym, ap, subst, ◌∙◌, arith}
use Rattle.std.proofs.lemmas.Bool.{ltb-false, ltb-true, le-ltb}
use Rattle.std.proofs.lemmas.List.{take-append-drop, take_at, drop_at, length-append, length-take}
use Rattle.std.specs.List.{AllByRecursion, flat_map}
use Rattle.guestmem.proofs.ByteLaws.{IsBytes-drop, IsBytes-take}
use Rattle.guestmem.specs.Number.{number_at, IsBytes}
use Rattle.net.specs.Inbox.{AreFrames, Inbox, IsFrame, is_frame_len}
use Rattle.std.proofs.lemmas.Nat.{div-add-mod', div_below, mul-le}
use Rattle.std.proofs.Math.Nat.{suc-mul}
use Rattle.wire.specs.FrameReading.{frame_of}
use Rattle.wire.specs.FrameText.{frame_text}
use Rattle.wire.specs.Numbers.{digits}
use Rattle.wire.proofs.Choices.{same_found, not_chosen, neither, so}
use Rattle.wire.proofs.Digits.{digits-number_at, number_at-digits, IsBytes-digits, IsBytes-append}
use Rattle.wire.proofs.Lists.{WasSpelled}

pub frame_of-text : (longest : ℕ) → longest ≤ 65535 → (frame rest : List ℕ) → IsFrame longest frame → frame_of longest (frame_text frame ++ rest) ≡ Some (frame, rest)
unfolding frame_of frame_text
frame_of-text longest fits frame rest is =
    let count : number_at (frame_text frame ++ rest) 0 2 ≡ length frame = number_at-digits 2 (length frame) [] (frame ++ rest) (omega (arith, is.short, fits)) in
    let long : nat_lt (length (frame_text frame ++ rest)) 2 ≡ false = le-ltb _ _ (omega arith) in
    let least : nat_lt (length frame) 14 ≡ false = le-ltb _ _ is.long in
    let most : nat_lt longest (length frame) ≡ false = le-ltb _ _ is.short in
    let room : nat_lt (length (frame ++ rest)) (length frame) ≡ false = le-ltb _ _ (omega (arith, length-append frame rest)) in
    rw (long, count, least, most, room, take_at frame rest (length frame) refl, drop_at frame rest (length frame) refl) refl

-- What the length before a frame tells.
both : (a b : Bool) → (a && b) ≡ true → (a ≡ true) × (b ≡ true)
both true b e = (refl, e)
both false b e = absurd cc

not_so : (b : Bool) → not b ≡ true → b ≡ false
not_so true e = absurd cc
not_so false e = refl

record HasFrame (longest : ℕ) (bytes : List ℕ) (len : ℕ) : Type 0 where
  pub least : 14 ≤ len
  pub most : len ≤ longest
  pub room : len ≤ length (drop 2 bytes)
  pub long : 2 ≤ length bytes
  pub told : number_at bytes 0 2 ≡ len

frame_spelled : (longest : ℕ) (bytes : List ℕ) (len : ℕ) → IsBytes bytes → HasFrame longest bytes len → WasSpelled frame_text (IsFrame longest) bytes (take len (drop 2 bytes), drop len (drop 2 bytes))
unfolding frame_text
frame_spelled longest bytes len are has =
    let many : length (take len (drop 2 bytes)) ≡ len = omega (arith, length-take len (drop 2 bytes), has.room) in
    let two : digits 2 (length (take len (drop 2 bytes))) ≡ take 2 bytes = ap (digits 2) (many ∙ sym has.told) ∙ digits-number_at 2 bytes 0 are has.long in
    record {
      good = record { long = omega (arith, many, has.least); short = omega (arith, many, has.most); are = IsBytes-take len (drop 2 bytes) (IsBytes-drop 2 bytes are) };
      whole = sym (take-append-drop 2 bytes) ∙ ap (λ (x : List ℕ). x ++ drop 2 bytes) (sym two) ∙ ap (λ (x : List ℕ). digits 2 (length (take len (drop 2 bytes))) ++ x) (sym (take-append-drop len (drop 2 bytes)));
    }

frame_length : (longest : ℕ) (bytes : List ℕ) → (nat_lt (length bytes) 2 || not (is_frame_len longest (number_at bytes 0 2))) ≡ false → nat_lt (length (drop 2 bytes)) (number_at bytes 0 2) ≡ false → HasFrame longest bytes (number_at bytes 0 2)
frame_length longest bytes e room =
    let first = neither (nat_lt (length bytes) 2) (not (is_frame_len longest (number_at bytes 0 2))) e in
    let fits = both (not (nat_lt (number_at bytes 0 2) 14)) (not (nat_lt longest (number_at bytes 0 2))) (so _ first.1) in
    record {
      least = ltb-false (number_at bytes 0 2) 14 (not_so _ fits.0);
      most = ltb-false longest (number_at bytes 0 2) (not_so _ fits.1);
      room = ltb-false (length (drop 2 bytes)) (number_at bytes 0 2) room;
      long = ltb-false (length bytes) 2 first.0;
      told = refl;
    }

pub text-frame_of : (longest : ℕ) (bytes : List ℕ) (found : List ℕ × List ℕ) → IsBytes bytes → frame_of longest bytes ≡ Some found → WasSpelled frame_text (IsFrame longest) bytes found
unfolding frame_of
text-frame_of longest bytes found are e =
    let head = not_chosen (nat_lt (length bytes) 2 || not (is_frame_len longest (number_at bytes 0 2))) _ found e in
    let room = not_chosen (nat_lt (length (drop 2 bytes)) (number_at bytes 0 2)) _ found head.1 in
    subst (λ (y : List ℕ × List ℕ). WasSpelled frame_text (IsFrame longest) bytes y) (same_found _ found room.1) (frame_spelled longest bytes (number_at bytes 0 2) are (frame_length longest bytes head.0 room.0))

-- The size of frames, and their bytes.
pub length-frame_text : (frame : List ℕ) → length (frame_text frame) ≡ 2 + length frame
unfolding frame_text
length-frame_text frame = length-append (digits 2 (length frame)) frame

frame_bytes : (longest : ℕ) → longest ≤ 65535 → (frame : List ℕ) → IsFrame longest frame → IsBytes (frame_text frame)
unfolding frame_text
frame_bytes longest fits frame is = IsBytes-append (digits 2 (length frame)) frame (IsBytes-digits 2 (length frame) (omega (arith, is.short, fits))) is.are

pub frames_short : (longest : ℕ) (frames : List (List ℕ)) → AllByRecursion (IsFrame longest) frames → length (flat_map frame_text frames) ≤ length frames * longest + 2 * length frames
frames_short longest [] are = omega arith
frames_short longest (frame ∷ frames) are =
    let more : suc (length frames) * longest ≡ length frames * longest + longest = rw suc-mul refl in
    omega (arith, more, length-append (frame_text frame) (flat_map frame_text frames), length-frame_text frame, are.0.short, frames_short longest frames are.1)

-- As many frames as may wait are short together.
together : (longest most : ℕ) (long : Bool) → ltb 1514 longest ≡ long → longest ≤ 65535 → 1514 ≤ longest → most ≤ cond long (96896 / longest) 64 → (most * longest ≤ 96896) × (most ≤ 64)
together longest most true e fits usual few =
    let more : 1514 < longest = ltb-true 1514 longest e in
    let below : 96896 / longest < 65 = div_below 96896 longest 65 (omega (arith, more)) (omega (arith, more)) in
    let product : most * longest ≤ (96896 / longest) * longest = mul-le most longest (96896 / longest) longest few (omega arith) in
    (omega (arith, product, div-add-mod' 96896 longest), omega (arith, few, below))
together longest most false e fits usual few =
    let same : longest ≡ 1514 = omega (arith, ltb-false 1514 longest e, usual) in
    (rw same (omega (arith, few)), few)

pub frames_together : (inbox : Inbox) → inbox.longest ≤ 65535 → 1514 ≤ inbox.longest → AreFrames inbox → (length inbox.frames * inbox.longest ≤ 96896) × (length inbox.frames ≤ 64)
frames_together inbox fits usual are = together inbox.longest (length inbox.frames) (ltb 1514 inbox.longest) refl fits usual are.few

pub frames_bytes : (longest : ℕ) → longest ≤ 65535 → (frames : List (List ℕ)) → AllByRecursion (IsFrame longest) frames → IsBytes (flat_map frame_text frames)
frames_bytes longest fits [] are i = omega arith
frames_bytes longest fits (frame ∷ frames) are i = IsBytes-append (frame_text frame) (flat_map frame_text frames) (frame_bytes longest fits frame are.0) (frames_bytes longest fits frames are.1) i
