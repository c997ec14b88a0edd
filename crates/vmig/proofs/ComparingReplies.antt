-- The last replies of the machine that was sent, and those of the machine that arrived.
use Rattle.std.proofs.Common.{◌≡◌, ◌<◌, ℕ, ◌+◌, ◌-◌, List, [], ◌∷◌, ◌++◌, length, map, take, drop, get_or, refl, ap, sym, ◌∙◌, arith}
use Rattle.std.proofs.lemmas.List.{length-append, length-map, map-append, take_more}
use Rattle.std.proofs.Math.Seq.{drop-append_seam}
use Rattle.machine.specs.declared.reply.Reply.{Reply}
use Rattle.sender.specs.declared.event.LiveReply.{LiveReply}
use Rattle.sender.specs.declared.event.LiveReply.TheVariants.{Guest}
use Rattle.receiver.proofs.Lists.{take_all}
use Rattle.wire.proofs.Unique.{cons_same}

-- One more that is the same.
pub guests_more : (last : List LiveReply) (arrived : List Reply) (i : ℕ) (d : LiveReply) (e : Reply) → i < length last → i < length arrived → get_or last i d ≡ Guest (get_or arrived i e) → take i last ≡ map Guest (take i arrived) → take (i + 1) last ≡ map Guest (take (i + 1) arrived)
guests_more last arrived i d e here there is so_far =
    take_more last i d here ∙ rw (so_far, is) (sym (ap (map Guest) (take_more arrived i e there) ∙ map-append Guest (take i arrived) (get_or arrived i e ∷ [])))

-- The last replies, where the machine that was sent answered so.
pub last_are : (replies played : List LiveReply) (rest arrived : List Reply) → replies ≡ played ++ map Guest rest → length rest ≡ length arrived → drop (length replies - length arrived) replies ≡ map Guest rest
last_are replies played rest arrived are even =
    let long : length replies ≡ length played + length rest = ap length are ∙ length-append played (map Guest rest) ∙ ap (λ n. length played + n) (length-map rest Guest) in
    let at : length replies - length arrived ≡ length played = omega (arith, long, even) in
    rw (at, are) (drop-append_seam played (map Guest rest))

guests_same : (xs ys : List Reply) → map Guest xs ≡ map Guest ys → xs ≡ ys
guests_same [] [] e = refl
guests_same [] (y ∷ ys) e = cc
guests_same (x ∷ xs) [] e = cc
guests_same (x ∷ xs) (y ∷ ys) e = let first : x ≡ y = cc in let others : map Guest xs ≡ map Guest ys = cc in cons_same first (guests_same xs ys others)

-- All of them were the same.
pub all_same : (replies played last : List LiveReply) (rest arrived : List Reply) (n : ℕ) → n ≡ length arrived → last ≡ drop (length replies - length arrived) replies → take n last ≡ map Guest (take n arrived) → replies ≡ played ++ map Guest rest → length rest ≡ length arrived → arrived ≡ rest
all_same replies played last rest arrived n end last_is so_far are even =
    let is : last ≡ map Guest rest = last_is ∙ last_are replies played rest arrived are even in
    let long : length last ≡ n = ap length is ∙ length-map rest Guest ∙ even ∙ sym end in
    let same : map Guest rest ≡ map Guest arrived = sym is ∙ sym (take_all n last (omega (arith, long))) ∙ so_far ∙ ap (map Guest) (take_all n arrived (omega (arith, end))) in
    sym (guests_same rest arrived same)
