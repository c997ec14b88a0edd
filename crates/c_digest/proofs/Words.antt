-- The words of a block's rounds, as they are written one after another, and the rounds.
use Rattle.std.proofs.Common.{◌≡◌, ℕ, suc, ◌+◌, ◌-◌, ◌*◌, ◌<◌, ◌≤◌, List, ◌∷◌, [], ◌++◌, length, take, slice_set, refl, ◌∙◌, arith, add-one}
use Rattle.std.proofs.lemmas.List.{take_more_set, get_or-take}
use Rattle.sha2.specs.Sha256.{first_words, next_word, schedule, word_at}

-- One more of the words that the block gives.
pub given_more : (block words : List ℕ) (t x : ℕ) → t < length words → take t words ≡ first_words block t → x ≡ word_at block (4 * t)
    → take (t + 1) (slice_set words t x) ≡ first_words block (t + 1)
unfolding first_words
given_more block words t x inside before is =
    let next : t + 1 ≡ suc t = add-one t in
    let more : take (t + 1) (slice_set words t x) ≡ first_words block t ++ word_at block (4 * t) ∷ [] = rw (take_more_set words t x inside, before, is) refl in
    more ∙ rw next refl

-- What the next word reads is before it.
next_of_taken : (words : List ℕ) (t : ℕ) → 16 ≤ t → next_word (take t words) t ≡ next_word words t
next_of_taken words t low =
    rw (get_or-take t words (t - 2) 0 (omega arith), get_or-take t words (t - 7) 0 (omega arith), get_or-take t words (t - 15) 0 (omega arith), get_or-take t words (t - 16) 0 (omega arith)) refl

-- One more of those that follow.
pub further_more : (block words : List ℕ) (t x : ℕ) → 16 ≤ t → t < length words → take t words ≡ schedule block (t - 16) → x ≡ next_word words t
    → take (t + 1) (slice_set words t x) ≡ schedule block (t + 1 - 16)
unfolding schedule
further_more block words t x low inside before is =
    let count : t + 1 - 16 ≡ suc (t - 16) = omega arith in
    let place : t - 16 + 16 ≡ t = omega arith in
    let next : next_word (take t words) t ≡ next_word words t = next_of_taken words t low in
    rw (take_more_set words t x inside, count, place, ← before, next, is) refl

-- The first rounds' words are there once the block's are.
pub given_all : (block words : List ℕ) (t : ℕ) → 16 ≤ t → t ≤ 16 → take t words ≡ first_words block t → take 16 words ≡ schedule block 0
unfolding schedule
given_all block words t low high is =
    let at : t ≡ 16 = omega arith in
    rw at at is
