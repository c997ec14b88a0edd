-- What only a kind of device has: what is spelled is read, and what is read was spelled.
use Rattle.std.proofs.Common.{◌≡◌, ℕ, suc, ◌+◌, ◌*◌, ◌≤◌, List, [], ◌∷◌, ◌++◌, length, take, drop, nat_lt, not, ◌||◌, Bool, true, false, cond, Option, Some, None, refl, sym, ap, subst, ◌∙◌, append-nil, arith, eqb, ltb}
use Rattle.std.proofs.lemmas.Bool.{eqb-false, eqb-true, eq-eqb, le-ltb, lt-ltb, ltb-false, ltb-true, ne_eqb}
use Rattle.std.proofs.lemmas.List.{take-append-drop, drop_at, length-append, length-drop}
use Rattle.std.proofs.lemmas.Option.{get_or_from_slice_get, slice_get_within}
use Rattle.std.specs.List.{AllByRecursion, flat_map}
use Rattle.std.proofs.lemmas.List.Elements.{recursion_from_All}
use Rattle.std.specs.Option.{IsSomeAnd, option_map}
use Rattle.guestmem.proofs.ByteLaws.{IsBytes-drop}
use Rattle.net.specs.Inbox.{AreFrames, Inbox, IsFrame, most_waiting}
use Rattle.console.specs.declared.size.ConsoleSize.{ConsoleSize}
use Rattle.guestmem.specs.Number.{number_at, IsBytes}
use Rattle.blk.specs.declared.request.Request.{Request}
use Rattle.mmio.specs.Sound.{IsSoundQueue, IsSoundRegisters}
use Rattle.mmio.specs.State.{Registers, queue_at}
use Rattle.mmio.specs.declared.queue.Queue.{Queue}
use Rattle.machine.specs.QueuePositions.{is_packed_by}
use Rattle.blk.specs.Block.{limits_of}
use Rattle.blk.specs.declared.block.Block as blocks
use Rattle.machine.specs.Shapes.{made_as, net_as}
use Rattle.machine.specs.Sound.{IsSoundKind, IsSoundShape}
use Rattle.blk.specs.Sound.{AreRequestsOf}
use Rattle.console.specs.Shape.{AreHostBytes, IsSoundConsole}
use Rattle.machine.specs.declared.kind.Kind.{Kind}
use Rattle.machine.specs.declared.kind.Kind.TheVariants as kinds
use Rattle.machine.specs.declared.shape.Shape.{Shape}
use Rattle.machine.specs.declared.shape.Shape.TheVariants.{Net, LongNet, Block, Outside, Console, Entropy}
use Rattle.wire.specs.Numbers.{Fit, digits}
use Rattle.wire.specs.RequestText.{request_text, requests_text}
use Rattle.wire.specs.RequestReading.{request_of}
use Rattle.wire.specs.Several.{several}
use Rattle.wire.specs.DeviceBody.{held_text, kind_text, size_numbers, size_text, size_widths}
use Rattle.wire.specs.FrameReading.{frame_of}
use Rattle.wire.specs.FrameText.{frame_text, frames_text}
use Rattle.wire.specs.BodyReading.{block_in, block_with, all_of, console_kind_in, entropy_kind_in, held_of, net_kind_in, kind_in, console_size_from, console_size_of, net_with}
use Rattle.wire.proofs.Choices.{map_found, same_found, not_chosen, neither, so}
use Rattle.wire.proofs.Digits.{digits-number_at, number_at-digits, numbers-spelled, spelled-numbers, length-digits, IsBytes-digits, IsBytes-append, IsBytes-spelled}
use Rattle.wire.proofs.FrameLemmas.{frame_of-text, frames_bytes, frames_short, text-frame_of, frames_together}
use Rattle.wire.proofs.Lists.{several-spelled, spelled-several}
use Rattle.wire.proofs.RequestFits.{RequestsFit, HasFewSegments, requests_fit}
use Rattle.wire.proofs.RequestLemmas.{Any, FitsRequest, request_of-text, text-request_of, length-request_text, requests_bytes}

-- What the text of what a device has reads as.
pub record ReadsKind (o : Kind) : Type 0 where
  pub read : kind_in (made_as o) (kind_text o) ≡ Some o
  pub bytes : IsBytes (kind_text o)
  pub short : length (kind_text o) ≤ 130000

-- Bytes of the host.

held_reads : (held : List ℕ) → AreHostBytes held → held_of (held_text held) ≡ Some held
unfolding held_of
held_reads held are =
    let count : number_at (held_text held) 0 2 ≡ length held = number_at-digits 2 (length held) [] held (omega (arith, are.few)) in
    let size : length (held_text held) ≡ length held + 2 = omega (arith, length-append (digits 2 (length held)) held, length-digits 2 (length held)) in
    let long : nat_lt (length held + 2) 2 ≡ false = le-ltb _ _ (omega arith) in
    let all : eqb (length held + 2) (length held + 2) ≡ true = eq-eqb (length held + 2) (length held + 2) refl in
    let few : nat_lt 4096 (length held) ≡ false = le-ltb _ _ are.few in
    let behind : drop 2 (held_text held) ≡ held = drop_at (digits 2 (length held)) held 2 (length-digits 2 (length held)) in
    rw (size, count, long, all, few, behind) refl

held_bytes : (held : List ℕ) → AreHostBytes held → IsBytes (held_text held)
held_bytes held are = IsBytes-append (digits 2 (length held)) held (IsBytes-digits 2 (length held) (omega (arith, are.few))) are.are

held_short : (held : List ℕ) → AreHostBytes held → length (held_text held) ≤ 4098
held_short held are = omega (arith, length-append (digits 2 (length held)) held, length-digits 2 (length held), are.few)

held_written : (bytes held : List ℕ) → IsBytes bytes → held_of bytes ≡ Some held → bytes ≡ held_text held
unfolding held_of
held_written bytes held are e =
    let good = not_chosen (nat_lt (length bytes) 2 || not (eqb (number_at bytes 0 2 + 2) (length bytes)) || nat_lt 4096 (number_at bytes 0 2)) _ held e in
    let few = neither (nat_lt (length bytes) 2 || not (eqb (number_at bytes 0 2 + 2) (length bytes))) (nat_lt 4096 (number_at bytes 0 2)) good.0 in
    let size = neither (nat_lt (length bytes) 2) (not (eqb (number_at bytes 0 2 + 2) (length bytes))) few.0 in
    let long = ltb-false (length bytes) 2 size.0 in
    let all = eqb-true (number_at bytes 0 2 + 2) (length bytes) (so _ size.1) in
    let count : length (drop 2 bytes) ≡ number_at bytes 0 2 = omega (arith, all, length-drop 2 bytes) in
    let two : digits 2 (length (drop 2 bytes)) ≡ take 2 bytes = ap (digits 2) count ∙ digits-number_at 2 bytes 0 are (omega (arith, long)) in
    subst (λ (x : List ℕ). bytes ≡ held_text x) (same_found (drop 2 bytes) held good.1) (sym (take-append-drop 2 bytes) ∙ ap (λ (x : List ℕ). x ++ drop 2 bytes) (sym two))

-- Of an entropy device.

pool_own : (pool : List ℕ) → AreHostBytes pool → ReadsKind (kinds.Entropy pool)
pool_own pool are = record { read = ap (option_map kinds.Entropy) (held_reads pool are); bytes = held_bytes pool are; short = omega (arith, held_short pool are) }

pool_written : (bytes : List ℕ) (o : Kind) → IsBytes bytes → entropy_kind_in bytes ≡ Some o → bytes ≡ kind_text o
pool_written bytes o are e =
    let found = map_found kinds.Entropy (held_of bytes) o e in
    held_written bytes found.0 are found.1 ∙ ap kind_text found.2

-- Of a console.

console_size_of-text : (s : ConsoleSize) (rest : List ℕ) → Fit size_widths (size_numbers s) → console_size_of (size_text s ++ rest) ≡ s
unfolding size_text console_size_of
console_size_of-text s rest fits = ap console_size_from (numbers-spelled size_widths (size_numbers s) [] rest fits)

size_text-of : (bytes : List ℕ) → IsBytes bytes → 4 ≤ length bytes → size_text (console_size_of bytes) ≡ take 4 bytes
unfolding size_text console_size_of
size_text-of bytes are long = spelled-numbers size_widths 0 bytes are long

length-size_text : (s : ConsoleSize) → length (size_text s) ≡ 4
unfolding size_text
length-size_text s = refl

size_bytes : (s : ConsoleSize) → Fit size_widths (size_numbers s) → IsBytes (size_text s)
unfolding size_text
size_bytes s fits = IsBytes-spelled size_widths (size_numbers s) fits

size_fits : (size : ConsoleSize) (held : List ℕ) → IsSoundConsole size held → Fit size_widths (size_numbers size)
size_fits size held good = (good.columns, (good.rows, tt))

console_reads : (size : ConsoleSize) (held : List ℕ) → IsSoundConsole size held → console_kind_in (size_text size ++ held_text held) ≡ Some (kinds.Console size held)
unfolding console_kind_in
console_reads size held good =
    let long : nat_lt (length (size_text size ++ held_text held)) 4 ≡ false = le-ltb _ _ (omega (arith, length-append (size_text size) (held_text held), length-size_text size)) in
    let behind : drop 4 (size_text size ++ held_text held) ≡ held_text held = drop_at (size_text size) (held_text held) 4 (length-size_text size) in
    rw (long, console_size_of-text size (held_text held) (size_fits size held good), behind, held_reads held good.text) refl

console_own : (size : ConsoleSize) (held : List ℕ) → IsSoundConsole size held → ReadsKind (kinds.Console size held)
console_own size held good = record {
  read = console_reads size held good;
  bytes = IsBytes-append (size_text size) (held_text held) (size_bytes size (size_fits size held good)) (held_bytes held good.text);
  short = omega (arith, length-append (size_text size) (held_text held), length-size_text size, held_short held good.text);
}

console_written : (bytes : List ℕ) (o : Kind) → IsBytes bytes → console_kind_in bytes ≡ Some o → bytes ≡ kind_text o
unfolding console_kind_in
console_written bytes o are e =
    let long = not_chosen (nat_lt (length bytes) 4) _ o e in
    let found = map_found (kinds.Console (console_size_of bytes)) (held_of (drop 4 bytes)) o long.1 in
    let held = held_written (drop 4 bytes) found.0 (IsBytes-drop 4 bytes are) found.1 in
    let size = size_text-of bytes are (ltb-false (length bytes) 4 long.0) in
    sym (take-append-drop 4 bytes) ∙ ap (λ (x : List ℕ). x ++ drop 4 bytes) (sym size) ∙ ap (λ (x : List ℕ). size_text (console_size_of bytes) ++ x) held ∙ ap kind_text found.2

-- Things behind which nothing stands.
record AllRead {A B : Type 0} (has : List A → B) (found : Option (List A × List ℕ)) (o : B) : Type 0 where
  pub things : List A
  pub found_is : found ≡ Some (things, [])
  pub is : o ≡ has things

none_left : {A B : Type 0} (has : List A → B) (xs : List A) (rest : List ℕ) (o : B) (b : Bool) → eqb (length rest) 0 ≡ b → cond b (Some (has xs)) None ≡ Some o → AllRead has (Some (xs, rest)) o
none_left has xs [] o true e is = record { things = xs; found_is = refl; is = sym (same_found (has xs) o is) }
none_left has xs [] o false e is = absurd cc
none_left has xs (x ∷ rest) o true e is = absurd (let zero = eqb-true (length (x ∷ rest)) 0 e in omega (arith, zero))
none_left has xs (x ∷ rest) o false e is = absurd cc

all_read : {A B : Type 0} (has : List A → B) (found : Option (List A × List ℕ)) (o : B) → all_of has found ≡ Some o → AllRead has found o
all_read has None o e = absurd cc
all_read has (Some found) o e = none_left has found.0 found.1 o (eqb (length found.1) 0) refl e

-- Of a network device.

-- The longest frame of a network device that is sound.
net_longest : (mac : List ℕ) (longest : ℕ) (usual : Bool) → eqb longest 1514 ≡ usual → IsSoundShape (cond usual (Net mac) (LongNet mac longest)) → (longest ≤ 65535) × (1514 ≤ longest)
net_longest mac longest true e good = let same = eqb-true longest 1514 e in (omega (arith, same), omega (arith, same))
net_longest mac longest false e good = (good.most, omega (arith, good.longer))

-- It is read as such a device.
read_as : (mac : List ℕ) (longest : ℕ) (text : List ℕ) (usual : Bool) → eqb longest 1514 ≡ usual → 1514 ≤ longest → kind_in (cond usual (Net mac) (LongNet mac longest)) text ≡ net_kind_in mac longest text
read_as mac longest text true e least = ap (λ (n : ℕ). net_kind_in mac n text) (sym (eqb-true longest 1514 e))
read_as mac longest text false e least =
    let other = eqb-false longest 1514 e in
    rw (lt-ltb 1514 longest (omega (arith, other, least))) refl

frames_read : (mac : List ℕ) (inbox : Inbox) → inbox.longest ≤ 65535 → 1514 ≤ inbox.longest → AreFrames inbox → net_kind_in mac inbox.longest (frames_text inbox.frames) ≡ Some (kinds.Network mac inbox)
unfolding net_kind_in
frames_read mac inbox fits usual are =
    let frames = inbox.frames in
    let together = frames_together inbox fits usual are in
    let count : number_at (frames_text frames) 0 2 ≡ length frames = number_at-digits 2 (length frames) [] (flat_map frame_text frames) (omega (arith, together.1)) in
    let long : nat_lt (length (frames_text frames)) 2 ≡ false = le-ltb _ _ (omega arith) in
    let few : nat_lt (most_waiting inbox.longest) (length frames) ≡ false = le-ltb _ _ are.few in
    let all : several (frame_of inbox.longest) (length frames) (flat_map frame_text frames) ≡ Some (frames, []) =
    ap (several (frame_of inbox.longest) (length frames)) (sym (append-nil (flat_map frame_text frames))) ∙ several-spelled (frame_of inbox.longest) frame_text (IsFrame inbox.longest) (frame_of-text inbox.longest fits) frames [] (recursion_from_All (IsFrame inbox.longest) frames are.are) in
    rw (long, count, few, all) refl

frames_own : (mac : List ℕ) (inbox : Inbox) → inbox.longest ≤ 65535 → 1514 ≤ inbox.longest → AreFrames inbox → ReadsKind (kinds.Network mac inbox)
frames_own mac inbox fits usual are =
    let frames = inbox.frames in
    let together = frames_together inbox fits usual are in
    let each = recursion_from_All (IsFrame inbox.longest) frames are.are in
    record {
      read = read_as mac inbox.longest (frames_text frames) (eqb inbox.longest 1514) refl usual ∙ frames_read mac inbox fits usual are;
      bytes = IsBytes-append (digits 2 (length frames)) (flat_map frame_text frames) (IsBytes-digits 2 (length frames) (omega (arith, together.1))) (frames_bytes inbox.longest fits frames each);
      short = omega (arith, frames_short inbox.longest frames each, together.0, together.1);
    }

frames_written : (mac : List ℕ) (longest : ℕ) (bytes : List ℕ) (o : Kind) → IsBytes bytes → net_kind_in mac longest bytes ≡ Some o → bytes ≡ kind_text o
unfolding net_kind_in
frames_written mac longest bytes o are e =
    let good = not_chosen (nat_lt (length bytes) 2 || nat_lt (most_waiting longest) (number_at bytes 0 2)) _ o e in
    let long = neither (nat_lt (length bytes) 2) (nat_lt (most_waiting longest) (number_at bytes 0 2)) good.0 in
    let all = all_read (net_with mac longest) (several (frame_of longest) (number_at bytes 0 2) (drop 2 bytes)) o good.1 in
    let were = spelled-several (frame_of longest) frame_text (IsFrame longest) (text-frame_of longest) (number_at bytes 0 2) (drop 2 bytes) (all.things, []) (IsBytes-drop 2 bytes are) all.found_is in
    let texts : drop 2 bytes ≡ flat_map frame_text all.things = were.whole ∙ append-nil (flat_map frame_text all.things) in
    let two : digits 2 (length all.things) ≡ take 2 bytes = ap (digits 2) were.count ∙ digits-number_at 2 bytes 0 are (ltb-false (length bytes) 2 long.0) in
    sym (take-append-drop 2 bytes) ∙ ap (λ (x : List ℕ). x ++ drop 2 bytes) (sym two) ∙ ap (λ (x : List ℕ). digits 2 (length all.things) ++ x) texts ∙ ap kind_text (sym all.is)

-- Of a block device.

requests_read : (sectors : ℕ) (read_only : Bool) (id : List ℕ) (rs : List Request) → RequestsFit rs → block_in sectors read_only id (requests_text rs) ≡ Some (block_with sectors read_only id rs)
unfolding block_in
requests_read sectors read_only id rs fit =
    let few : nat_lt 8 (length rs) ≡ false = le-ltb _ _ fit.few in
    let all : several request_of (length rs) (flat_map request_text rs) ≡ Some (rs, []) =
    ap (several request_of (length rs)) (sym (append-nil (flat_map request_text rs))) ∙ several-spelled request_of request_text FitsRequest request_of-text rs [] fit.each in
    rw (few, all) refl

requests_short : (rs : List Request) → AllByRecursion HasFewSegments rs → length (flat_map request_text rs) ≤ 3098 * length rs
requests_short [] h = omega arith
requests_short (r ∷ rs) h = omega (arith, length-append (request_text r) (flat_map request_text rs), length-request_text r, h.0, requests_short rs h.1)

requests_are : (rs : List Request) → RequestsFit rs → IsBytes (requests_text rs)
requests_are rs fit = IsBytes-append (digits 1 (length rs)) (flat_map request_text rs) (IsBytes-digits 1 (length rs) (omega (arith, fit.few))) (requests_bytes rs fit.each)

requests_few : (rs : List Request) → RequestsFit rs → length (requests_text rs) ≤ 130000
requests_few rs fit = omega (arith, length-append (digits 1 (length rs)) (flat_map request_text rs), requests_short rs fit.short, fit.few)

block_own : (b : blocks.Block) → RequestsFit b.requests → ReadsKind (kinds.Block b)
block_own b fit = record {
  read = ap (option_map kinds.Block) (requests_read b.sectors b.read_only b.id b.requests fit);
  bytes = requests_are b.requests fit;
  short = requests_few b.requests fit;
}

outside_own : (b : blocks.Block) → RequestsFit b.requests → ReadsKind (kinds.Outside b)
outside_own b fit = record {
  read = ap (option_map kinds.Outside) (requests_read b.sectors b.read_only b.id b.requests fit);
  bytes = requests_are b.requests fit;
  short = requests_few b.requests fit;
}

requests_written : (sectors : ℕ) (read_only : Bool) (id bytes : List ℕ) (b : blocks.Block) → IsBytes bytes → block_in sectors read_only id bytes ≡ Some b → bytes ≡ requests_text b.requests
unfolding block_in
requests_written sectors read_only id [] b are e = absurd cc
requests_written sectors read_only id (count ∷ bytes) b are e =
    let good = not_chosen (nat_lt 8 count) _ b e in
    let all = all_read (block_with sectors read_only id) (several request_of count bytes) b good.1 in
    let were = spelled-several request_of request_text Any text-request_of count bytes (all.things, []) (λ i. are (suc i)) all.found_is in
    let texts : bytes ≡ flat_map request_text all.things = were.whole ∙ append-nil (flat_map request_text all.things) in
    ap (λ (x : List ℕ). count ∷ x) texts ∙ ap (λ (n : ℕ). n ∷ flat_map request_text all.things) (sym were.count) ∙ ap (λ (x : blocks.Block). requests_text x.requests) (sym all.is)

block_written : (sectors : ℕ) (read_only : Bool) (id bytes : List ℕ) (o : Kind) → IsBytes bytes → kind_in (Block sectors read_only id) bytes ≡ Some o → bytes ≡ kind_text o
block_written sectors read_only id bytes o are e =
    let found = map_found kinds.Block (block_in sectors read_only id bytes) o e in
    requests_written sectors read_only id bytes found.0 are found.1 ∙ ap kind_text found.2

outside_written : (sectors : ℕ) (read_only : Bool) (id bytes : List ℕ) (o : Kind) → IsBytes bytes → kind_in (Outside sectors read_only id) bytes ≡ Some o → bytes ≡ kind_text o
outside_written sectors read_only id bytes o are e =
    let found = map_found kinds.Outside (block_in sectors read_only id bytes) o e in
    requests_written sectors read_only id bytes found.0 are found.1 ∙ ap kind_text found.2

-- Of any device.

long_written : (mac : List ℕ) (longest : ℕ) (bytes : List ℕ) (o : Kind) (long : Bool) → IsBytes bytes → cond long (net_kind_in mac longest bytes) None ≡ Some o → bytes ≡ kind_text o
long_written mac longest bytes o true are e = frames_written mac longest bytes o are e
long_written mac longest bytes o false are e = absurd cc

pub kind_written : (s : Shape) (bytes : List ℕ) (o : Kind) → IsBytes bytes → kind_in s bytes ≡ Some o → bytes ≡ kind_text o
kind_written (Net mac) bytes o are e = frames_written mac 1514 bytes o are e
kind_written (LongNet mac longest) bytes o are e = long_written mac longest bytes o (ltb 1514 longest) are e
kind_written (Block sectors read_only id) bytes o are e = block_written sectors read_only id bytes o are e
kind_written (Outside sectors read_only id) bytes o are e = outside_written sectors read_only id bytes o are e
kind_written Console bytes o are e = console_written bytes o are e
kind_written Entropy bytes o are e = pool_written bytes o are e

-- The requests of a device's first queue.
queue_requests : (base len : ℕ) (block : blocks.Block) (r : Registers) (found : Option Queue) → queue_at r 0 ≡ found → block.sectors ≤ 18014398509481984 → IsSoundRegisters r
    → IsSomeAnd found (λ q. AreRequestsOf base len (is_packed_by r.common) q (limits_of block r.common.features) block.requests) → RequestsFit block.requests
queue_requests base len block r None at few sound are = absurd are
queue_requests base len block r (Some q) at few sound are =
    let queue : IsSoundQueue r.ram_base r.ram_len r.common q = rw (get_or_from_slice_get r.queues 0 q q at) at (sound.queues 0 q (slice_get_within r.queues 0 q at)) in
    requests_fit base len (is_packed_by r.common) q r.common (limits_of block r.common.features) block.requests few queue are

pub kind_reads : (len : ℕ) (r : Registers) (k : Kind) → IsSoundShape (made_as k) → IsSoundRegisters r → IsSoundKind len r k → ReadsKind k
kind_reads len r (kinds.Network mac inbox) shape sound are =
    let longest = net_longest mac inbox.longest (eqb inbox.longest 1514) refl shape in
    frames_own mac inbox longest.0 longest.1 are
kind_reads len r (kinds.Block block) shape sound are =
    block_own block (queue_requests r.ram_base len block r (queue_at r 0) refl (omega (arith, shape.few)) sound are)
kind_reads len r (kinds.Outside block) shape sound are =
    outside_own block (queue_requests r.ram_base len block r (queue_at r 0) refl shape.few sound are)
kind_reads len r (kinds.Console size held) shape sound are = console_own size held are
kind_reads len r (kinds.Entropy pool) shape sound are = pool_own pool are

-- What is read is of the shape that was asked for.
all_made : {A : Type 0} (has : List A → Kind) (shape : Shape) → ((things : List A) → made_as (has things) ≡ shape) → (found : Option (List A × List ℕ)) (o : Kind) → all_of has found ≡ Some o → made_as o ≡ shape
all_made has shape each found o e = let all = all_read has found o e in ap made_as all.is ∙ each all.things

frames_made : (mac : List ℕ) (longest : ℕ) (bytes : List ℕ) (o : Kind) → net_kind_in mac longest bytes ≡ Some o → made_as o ≡ net_as mac longest
unfolding net_kind_in
frames_made mac longest bytes o e =
    all_made (net_with mac longest) (net_as mac longest) (λ things. refl) (several (frame_of longest) (number_at bytes 0 2) (drop 2 bytes)) o (not_chosen (nat_lt (length bytes) 2 || nat_lt (most_waiting longest) (number_at bytes 0 2)) _ o e).1

long_made : (mac : List ℕ) (longest : ℕ) (bytes : List ℕ) (o : Kind) (long : Bool) → ltb 1514 longest ≡ long → cond long (net_kind_in mac longest bytes) None ≡ Some o → made_as o ≡ LongNet mac longest
long_made mac longest bytes o true is e =
    let more = ltb-true 1514 longest is in
    frames_made mac longest bytes o e ∙ rw (ne_eqb longest 1514 (λ (same : longest ≡ 1514). omega (arith, same, more))) refl
long_made mac longest bytes o false is e = absurd cc

-- The block that is read is as it was asked for, with some requests.
record HasRequests (sectors : ℕ) (read_only : Bool) (id : List ℕ) (b : blocks.Block) : Type 0 where
  pub requests : List Request
  pub is : b ≡ block_with sectors read_only id requests

requests_had : (sectors : ℕ) (read_only : Bool) (id bytes : List ℕ) (b : blocks.Block) → block_in sectors read_only id bytes ≡ Some b → HasRequests sectors read_only id b
unfolding block_in
requests_had sectors read_only id [] b e = absurd cc
requests_had sectors read_only id (count ∷ bytes) b e =
    let all = all_read (block_with sectors read_only id) (several request_of count bytes) b (not_chosen (nat_lt 8 count) _ b e).1 in
    record { requests = all.things; is = all.is }

block_made : (sectors : ℕ) (read_only : Bool) (id bytes : List ℕ) (o : Kind) → kind_in (Block sectors read_only id) bytes ≡ Some o → made_as o ≡ Block sectors read_only id
block_made sectors read_only id bytes o e =
    let found = map_found kinds.Block (block_in sectors read_only id bytes) o e in
    let had = requests_had sectors read_only id bytes found.0 found.1 in
    ap made_as (sym found.2) ∙ ap (λ (x : blocks.Block). made_as (kinds.Block x)) had.is

outside_made : (sectors : ℕ) (read_only : Bool) (id bytes : List ℕ) (o : Kind) → kind_in (Outside sectors read_only id) bytes ≡ Some o → made_as o ≡ Outside sectors read_only id
outside_made sectors read_only id bytes o e =
    let found = map_found kinds.Outside (block_in sectors read_only id bytes) o e in
    let had = requests_had sectors read_only id bytes found.0 found.1 in
    ap made_as (sym found.2) ∙ ap (λ (x : blocks.Block). made_as (kinds.Outside x)) had.is

console_made : (bytes : List ℕ) (o : Kind) → console_kind_in bytes ≡ Some o → made_as o ≡ Console
unfolding console_kind_in
console_made bytes o e = ap made_as (sym (map_found (kinds.Console (console_size_of bytes)) (held_of (drop 4 bytes)) o (not_chosen (nat_lt (length bytes) 4) _ o e).1).2)

pub kind_made : (s : Shape) (bytes : List ℕ) (o : Kind) → kind_in s bytes ≡ Some o → made_as o ≡ s
kind_made (Net mac) bytes o e = frames_made mac 1514 bytes o e
kind_made (LongNet mac longest) bytes o e = long_made mac longest bytes o (ltb 1514 longest) refl e
kind_made (Block sectors read_only id) bytes o e = block_made sectors read_only id bytes o e
kind_made (Outside sectors read_only id) bytes o e = outside_made sectors read_only id bytes o e
kind_made Console bytes o e = console_made bytes o e
kind_made Entropy bytes o e = ap made_as (sym (map_found kinds.Entropy (held_of bytes) o e).2)
