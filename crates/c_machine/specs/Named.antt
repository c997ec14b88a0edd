-- The pages that a caller names: those of a list, those of a bitmap, both, or all.
use Rattle.std.specs.Prelude.{ℕ, ◌+◌, ◌-◌, ◌*◌, ◌/◌, ◌%◌, ◌^◌, ◌==◌, ◌<◌, ◌&&◌, ◌||◌, ◌++◌, not, nat_lt, if◌then◌else◌, Bool, true, List, [], ◌∷◌, All, length, map, Option, Some, None, slice_index}
use Rattle.std.specs.List.{filter, range_with_len}
use Rattle.machine.specs.Refusal.{code_of}
use Rattle.machine.specs.declared.reply.Refusal.TheVariants.{OutOfRam}
use Rattle.c_machine.specs.Status.{too_small}
use Rattle.c_machine.specs.declared.pages.Pages.{Pages}

-- All of them are 0.
abbrev pub are_zeros : List ℕ → Bool
are_zeros [] = true
are_zeros (n ∷ ns) = n == 0 && are_zeros ns

-- Bit n of the words, the lowest bit of the first word first. A word has 64.
abbrev pub is_marked : List ℕ → ℕ → Bool
is_marked words n = slice_index words (n / 64) / 2 ^ (n % 64) % 2 == 1

-- The numbers below `count`, in order.
abbrev pub numbers_below : ℕ → List ℕ
numbers_below count = range_with_len 0 count

-- Those of them that are marked.
abbrev pub marked : List ℕ → ℕ → List ℕ
marked words count = filter (is_marked words) (numbers_below count)

-- The pages of a bitmap that begins at this page.
abbrev pub shifted : ℕ → List ℕ → List ℕ
shifted first numbers = map (λ n. first + n) numbers

-- Added to this number they are still 32-bit numbers.
abbrev pub AreBelowTop : ℕ → List ℕ → Type 0
AreBelowTop first numbers = All (λ n. first + n < 2 ^ 32) numbers

-- Each number is that of a page, where there are `count` pages.
abbrev pub are_pages : ℕ → List ℕ → Bool
are_pages count [] = true
are_pages count (n ∷ pages) = nat_lt n count && are_pages count pages

-- What is asked for is known: a word that says whether all are meant, and the others are 0.
abbrev pub is_known_pages : Pages → Bool
is_known_pages p = not (nat_lt 1 p.all) && (p.zero == 0 && are_zeros p.reserved)

-- There is a bitmap.
abbrev pub has_words : Pages → Bool
has_words p = not (length p.words.now == 0)

-- How many pages the bitmap covers, of `count` pages of RAM.
abbrev pub span_of : Pages → ℕ → ℕ
span_of p count = if p.span == 0 then count - p.first else p.span

-- Why no pages are named so: the bitmap has fewer bits than pages that it covers, or one of the pages is none of the RAM.
abbrev pub pages_refusal : Pages → ℕ → Option ℕ
pages_refusal p count =
    if has_words p && nat_lt (64 * length p.words.now) (span_of p count) then Some too_small
    else if has_words p && nat_lt count (p.first + span_of p count) then Some (code_of OutOfRam)
    else if not (are_pages count p.list.now) then Some (code_of OutOfRam)
    else None

-- Their numbers have to be collected, for which memory may be refused.
abbrev pub needs_list : Pages → Bool
needs_list p = not (p.all == 0) || has_words p

-- The pages of the bitmap, if there is one.
abbrev pub of_bitmap : Pages → ℕ → List ℕ
of_bitmap p count = shifted p.first (marked p.words.now (if has_words p then span_of p count else 0))

-- The pages that are named, of `count` pages of RAM.
abbrev pub named_pages : Pages → ℕ → List ℕ
named_pages p count =
    if p.all == 0 then of_bitmap p count ++ p.list.now else numbers_below count
