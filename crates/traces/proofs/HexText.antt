-- The digits of bytes, piece by piece.
use Rattle.std.proofs.Common.{◌≡◌, ℕ, ◌+◌, ◌-◌, List, [], ◌∷◌, ◌++◌, length, take, drop, Option, refl, sym, arith}
use Rattle.std.proofs.lemmas.List.{take-append-drop}
use Rattle.std.proofs.Math.Seq.{take-add}
use Rattle.std.specs.Io.KnownBytes.{Appends}
use Rattle.hex.specs.Hex.{encode_with, encode_lower, lower_digits}
use Rattle.traces.specs.Replies.{AppendsBeginning, bytes_text}
use Rattle.traces.proofs.Known.{appends_nothing, appends_on, begins_first, begins_later}

joined : (t xs ys : List ℕ) → encode_with t (xs ++ ys) ≡ encode_with t xs ++ encode_with t ys
unfolding encode_with
joined t [] ys = refl
joined t (x ∷ xs) ys = rw (joined t xs ys) refl

pub no_digits : (out : Option (List ℕ)) → Appends out out (encode_lower [])
unfolding encode_with
no_digits out = appends_nothing out

pieces : (at n : ℕ) (bytes : List ℕ) → encode_lower (take at bytes) ++ encode_lower (take n (drop at bytes)) ≡ encode_lower (take (at + n) bytes)
pieces at n bytes = rw (take-add at n bytes) (sym (joined lower_digits (take at bytes) (take n (drop at bytes))))

pub more_digits : (a b c : Option (List ℕ)) (at n : ℕ) (bytes : List ℕ) → Appends a b (encode_lower (take at bytes)) → Appends b c (encode_lower (take (at + n - at) (drop at bytes)))
    → Appends a c (encode_lower (take (at + n) bytes))
more_digits a b c at n bytes before now =
    let count : at + n - at ≡ n = omega arith in
    rw (← pieces at n bytes) (appends_on a b c _ _ before (rw count at now))

pub some_digits : (a b c : Option (List ℕ)) (at n : ℕ) (bytes : List ℕ) → Appends a b (encode_lower (take at bytes)) → AppendsBeginning b c (encode_lower (take (at + n - at) (drop at bytes)))
    → AppendsBeginning a c (encode_lower bytes)
some_digits a b c at n bytes before now =
    let count : at + n - at ≡ n = omega arith in
    let begun : AppendsBeginning a c (encode_lower (take at bytes) ++ encode_lower (take n (drop at bytes))) = begins_later a b c _ _ before (rw count at now) in
    let whole : encode_lower (take (at + n) bytes) ++ encode_lower (drop (at + n) bytes) ≡ encode_lower bytes =
    rw (← joined lower_digits (take (at + n) bytes) (drop (at + n) bytes), take-append-drop) refl in
    rw (← whole) (begins_first a c _ (encode_lower (drop (at + n) bytes)) (rw pieces at begun))

pub text_of_some : (bytes : List ℕ) → (length bytes ≡ 0 → ⊥) → bytes_text bytes ≡ encode_lower bytes
text_of_some [] h = absurd (h refl)
text_of_some (b ∷ bytes) h = refl
