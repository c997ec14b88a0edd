-- Bytes that come behind others, with zeros between and after them.
use Rattle.std.proofs.Common.{◌≡◌, ℕ, ◌+◌, ◌-◌, ◌≤◌, List, ◌++◌, length, take, drop, replicate, ap, sym, ◌∙◌, arith, append_assoc, length-append}
use Rattle.std.proofs.lemmas.List.{length-replicate, replicate-append-replicate, take_at, drop_at}
use Rattle.guestmem.specs.Fresh.{filled_up}
use Rattle.guestmem.specs.Write.{put_at}

length-filled : (n : ℕ) (x : List ℕ) → length x ≤ n → length (filled_up n x) ≡ n
length-filled n x low = omega (arith, low, length-append x (replicate (n - length x) 0), length-replicate {A = ℕ} (n - length x) 0)

-- The zeros after some bytes are those up to `n` and those from there on.
zeros_from : (x : List ℕ) (n size : ℕ) → length x ≤ n → n ≤ size → filled_up size x ≡ filled_up n x ++ replicate (size - n) 0
zeros_from x n size low within =
    let sum : size - length x ≡ (n - length x) + (size - n) = omega (arith, low, within) in
    ap (λ k. x ++ replicate k 0) sum ∙ ap (λ z. x ++ z) (sym (replicate-append-replicate (n - length x) (size - n) 0)) ∙ sym (append_assoc x (replicate (n - length x) 0) (replicate (size - n) 0))

-- Bytes that come behind the others, after zeros that fill the gap.
pub put_behind : (x b : List ℕ) (at size : ℕ) → length x ≤ at → at + length b ≤ size → filled_up size (filled_up at x ++ b) ≡ put_at (filled_up size x) at b
put_behind x b at size low within =
    let long : length (filled_up at x ++ b) ≡ at + length b = omega (arith, length-append (filled_up at x) b, length-filled at x low) in
    let before : take at (filled_up size x) ≡ filled_up at x = ap (take at) (zeros_from x at size low (omega (arith, within))) ∙ take_at (filled_up at x) (replicate (size - at) 0) at (length-filled at x low) in
    let behind : drop (at + length b) (filled_up size x) ≡ replicate (size - (at + length b)) 0 =
    ap (drop (at + length b)) (zeros_from x (at + length b) size (omega (arith, low)) within)
    ∙ drop_at (filled_up (at + length b) x) (replicate (size - (at + length b)) 0) (at + length b) (length-filled (at + length b) x (omega (arith, low))) in
    ap (λ k. (filled_up at x ++ b) ++ replicate (size - k) 0) long ∙ sym (ap (λ t. (t ++ b) ++ drop (at + length b) (filled_up size x)) before ∙ ap (λ d. (filled_up at x ++ b) ++ d) behind)

-- Zeros that come behind the others change nothing.
pub zeros_behind : (x : List ℕ) (at count size : ℕ) → length x ≤ at → at + count ≤ size → put_at (filled_up size x) at (replicate count 0) ≡ filled_up size x
zeros_behind x at count size low within =
    let long : length (replicate {A = ℕ} count 0) ≡ count = length-replicate {A = ℕ} count 0 in
    let more : filled_up at x ++ replicate count 0 ≡ filled_up (at + count) x =
    ap (λ k. filled_up at x ++ replicate k 0) (omega arith) ∙ sym (zeros_from x at (at + count) low (omega arith)) in
    let full : filled_up size (filled_up (at + count) x) ≡ filled_up size x =
    ap (λ k. filled_up (at + count) x ++ replicate (size - k) 0) (length-filled (at + count) x (omega (arith, low))) ∙ sym (zeros_from x (at + count) size (omega (arith, low)) within) in
    sym (put_behind x (replicate count 0) at size low (omega (arith, long, within))) ∙ ap (filled_up size) more ∙ full
