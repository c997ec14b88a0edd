-- Answers of a disk that lies outside, against units over a list of sectors.
use Rattle.std.proofs.Common.{◌≡◌, ℕ, zero, suc, ◌+◌, ◌-◌, ◌*◌, ◌/◌, ◌<◌, ◌≤◌, ◌∙◌, List, [], ◌∷◌, ◌++◌, length, take, drop, replicate, set, get_or, true, false, ltb, Some, None, slice_get, refl, sym, ap, arith, length-append}
use Rattle.std.proofs.lemmas.Bool.{and_from, lt-ltb}
use Rattle.std.proofs.lemmas.List.{drop-drop, drop-replicate, drop-take, set-get_or, set-set, take-replicate, take-take}
use Rattle.std.proofs.lemmas.Option.{get_or_from_slice_get}
use Rattle.guestmem.specs.Writes.{set_all}
use Rattle.guestmem.proofs.WriteLaws.{set_all-append}
use Rattle.chains.proofs.PlaceLaws.{no_bytes, place_writes_take}
use Rattle.chains.specs.Places.{places, place_writes, read_places}
use Rattle.chains.specs.State.{RingState}
use Rattle.blk.specs.Advance.{AdvanceStep, advance_step, after_move}
use Rattle.blk.specs.Inside.{AreGood, ClearedIsSet, FlushedIsSame, GivenIsRead, WrittenIsSet, after_step, held, set_run, units_done}
use Rattle.blk.specs.Move.{Move, move_of, moved, one_done, unit_bytes}
use Rattle.blk.specs.Outside.{more_done, written_bytes}
use Rattle.blk.specs.Request.{is_good, is_open, next_sector}
use Rattle.blk.specs.Sectors.{AreWhole, Sector, bytes_of, is_bad, sector_in}
use Rattle.blk.specs.declared.disk.TheConstants.{SECTOR_SIZE}
use Rattle.blk.specs.declared.request.TheConstants.{HEADER_SIZE}
use Rattle.blk.specs.declared.request.Kind.{Kind}
use Rattle.blk.specs.declared.request.Kind.TheVariants.{Flush, In, Out, Zero}
use Rattle.blk.specs.declared.request.Request.{Request}
use Rattle.blk.specs.Block.{with_requests}
use Rattle.blk.specs.declared.block.Block.{Block}
use Rattle.blk.proofs.Runs.{bytes_asked, in_parts, open_by, set_there, units_asked}
use Rattle.blk.proofs.Units.{whole_length}

nothing_more : (requests : List Request) (k : ℕ) (r : Request) → slice_get requests k ≡ Some r → set requests k (more_done r 0) ≡ requests
nothing_more requests k r found =
    let same : more_done r 0 ≡ r = ap (λ (done : ℕ). record r { done = done }) (omega arith) in
    let is : get_or requests k r ≡ r = get_or_from_slice_get requests k r r found in
    ap (set requests k) (same ∙ sym is) ∙ set-get_or requests k r

sector_long : (content : List Sector) (n : ℕ) → AreWhole content → n < length content → is_bad (sector_in content n) ≡ false → length (bytes_of (sector_in content n)) ≡ SECTOR_SIZE
sector_long content n whole below good = whole_length (sector_in content n) good (whole n None below)

-- A step of a request that is open is its unit.
unit_of : (b : Block) (q : RingState) (ram : List ℕ) (content : List Sector) (requests : List Request) (k : ℕ) (r : Request) (move : Move) → slice_get requests k ≡ Some r → is_open r ≡ true → move_of r.kind q.base b.id ram content r true ≡ move
    → advance_step ram q content (with_requests b requests) k true ≡ after_move q (with_requests b requests) k move
unit_of b q ram content requests k r move found waiting is =
    let one : advance_step ram q content (with_requests b requests) k true ≡ after_move q (with_requests b requests) k (move_of r.kind q.base b.id ram content r true) = rw (found, waiting) refl in
    one ∙ ap (after_move q (with_requests b requests) k) is

-- What a disk in the machine does in so many units of a read.
read_units : (b : Block) (q : RingState) (content : List Sector) (k n : ℕ) (ram : List ℕ) (requests : List Request) (r : Request) → slice_get requests k ≡ Some r → r.kind ≡ In → is_good r.verdict ≡ true → r.done + n ≤ r.units
    → AreWhole content → AreGood content (next_sector r) n → next_sector r + n ≤ length content
    → units_done q k n (record { ram = ram; content = content; block = with_requests b requests })
    ≡ record { ram = set_all ram (place_writes q.base (drop (SECTOR_SIZE * r.done) (places r.writable)) (held content (next_sector r) n)); content = content; block = with_requests b (set requests k (more_done r n)) }
read_units b q content k zero ram requests r found kind good room whole are inside =
    rw (no_bytes q.base (drop (SECTOR_SIZE * r.done) (places r.writable)), nothing_more requests k r found) refl
read_units b q content k (suc n) ram requests r found kind good room whole are inside =
    let at = drop (SECTOR_SIZE * r.done) (places r.writable) in
    let first = next_sector r in
    let front = bytes_of (sector_in content first) in
    let rest = held content (first + 1) n in
    let waiting : is_open r ≡ true = and_from (is_good r.verdict) (ltb r.done r.units) good (lt-ltb r.done r.units (omega (arith, room))) in
    let fine : is_bad (sector_in content first) ≡ false = ap (λ (m : ℕ). is_bad (sector_in content m)) (omega arith) ∙ are 0 (omega arith) in
    let long : length front ≡ SECTOR_SIZE = sector_long content first whole (omega (arith, inside)) fine in
    let next : next_sector (one_done r) ≡ first + 1 = omega arith in
    let writes : place_writes q.base (take SECTOR_SIZE at) front ≡ place_writes q.base at front = ap (λ (m : ℕ). place_writes q.base (take m at) front) (sym long) ∙ place_writes_take q.base at front in
    let later = read_units b q content k n (set_all ram (place_writes q.base at front)) (set requests k (one_done r)) (one_done r) (set_there requests k r (one_done r) found) kind good (omega (arith, room)) whole
    (λ j below. ap (λ (m : ℕ). is_bad (sector_in content m)) (omega arith) ∙ are (suc j) (omega (arith, below))) (omega (arith, inside, next)) in
    let far : drop (SECTOR_SIZE * (r.done + 1)) (places r.writable) ≡ drop (length front) at = ap (λ (m : ℕ). drop m (places r.writable)) (omega (arith, long)) ∙ sym (drop-drop (length front) (SECTOR_SIZE * r.done) (places r.writable)) in
    let ram_is : set_all (set_all ram (place_writes q.base at front)) (place_writes q.base (drop (SECTOR_SIZE * (r.done + 1)) (places r.writable)) (held content (next_sector (one_done r)) n)) ≡ set_all ram (place_writes q.base at (front ++ rest)) =
    ap (λ (places : List ℕ). set_all (set_all ram (place_writes q.base at front)) (place_writes q.base places (held content (next_sector (one_done r)) n))) far
    ∙ ap (λ (m : ℕ). set_all (set_all ram (place_writes q.base at front)) (place_writes q.base (drop (length front) at) (held content m n))) next
    ∙ sym (set_all-append ram (place_writes q.base at front) (place_writes q.base (drop (length front) at) rest)) ∙ ap (set_all ram) (sym (in_parts q.base at front rest)) in
    let requests_are : set (set requests k (one_done r)) k (more_done (one_done r) n) ≡ set requests k (more_done r (suc n)) =
    set-set requests k (one_done r) (more_done (one_done r) n) ∙ ap (λ (done : ℕ). set requests k (record r { done = done })) (omega arith) in
    let move : move_of r.kind q.base b.id ram content r true ≡ moved r (place_writes q.base at front) [] = ap (λ (k : Kind). move_of k q.base b.id ram content r true) kind ∙ rw (fine, writes) refl in
    let step = unit_of b q ram content requests k r (moved r (place_writes q.base at front) []) found waiting move in
    ap (λ (a : AdvanceStep). units_done q k n (after_step (record { ram = ram; content = content; block = with_requests b requests }) a)) step ∙ (later ∙ ap (λ (new : List ℕ). record { ram = new; content = content; block = with_requests b (set (set requests k (one_done r)) k (more_done (one_done r) n)) }) ram_is
    ∙ ap (λ (new : List Request). record { ram = set_all ram (place_writes q.base at (front ++ rest)); content = content; block = with_requests b new }) requests_are)

held_long : (content : List Sector) (first n : ℕ) → AreWhole content → AreGood content first n → first + n ≤ length content → length (held content first n) ≡ SECTOR_SIZE * n
held_long content first zero whole are inside = refl
held_long content first (suc n) whole are inside =
    let fine : is_bad (sector_in content first) ≡ false = ap (λ (m : ℕ). is_bad (sector_in content m)) (omega arith) ∙ are 0 (omega arith) in
    let long = sector_long content first whole (omega (arith, inside)) fine in
    let more = held_long content (first + 1) n whole (λ j below. ap (λ (m : ℕ). is_bad (sector_in content m)) (omega arith) ∙ are (suc j) (omega (arith, below))) (omega (arith, inside)) in
    omega (arith, length-append (bytes_of (sector_in content first)) (held content (first + 1) n), long, more)

pub given_is_read : GivenIsRead
given_is_read q ram content b k n r found whole are inside asked =
    let bytes = held content (next_sector r) n in
    let asks = bytes_asked r bytes asked in
    let long = held_long content (next_sector r) n whole are inside in
    let by = open_by r.verdict r.done r.units asks.is_waiting in
    let units : length bytes / SECTOR_SIZE ≡ n = omega (arith, long) in
    let good : is_good r.verdict ≡ true = ap is_good by.0 in
    read_units b q content k n ram b.requests r found asks.kind good (omega (arith, asks.room, units, by.1)) whole are inside ∙ rw (found, asked, units) refl

-- Writes: what they share is that RAM stays, and each unit sets its sector.
next_done : (r : Request) (n : ℕ) (requests : List Request) (k : ℕ) → set (set requests k (one_done r)) k (more_done (one_done r) n) ≡ set requests k (more_done r (suc n))
next_done r n requests k = set-set requests k (one_done r) (more_done (one_done r) n) ∙ ap (λ (done : ℕ). set requests k (record r { done = done })) (omega arith)

is_still_open : (r : Request) (n : ℕ) → is_good r.verdict ≡ true → r.done + suc n ≤ r.units → is_open r ≡ true
is_still_open r n good room = and_from (is_good r.verdict) (ltb r.done r.units) good (lt-ltb r.done r.units (omega (arith, room)))

write_units : (b : Block) (q : RingState) (ram : List ℕ) (k n : ℕ) (content : List Sector) (requests : List Request) (r : Request) → slice_get requests k ≡ Some r → r.kind ≡ Out → is_good r.verdict ≡ true → r.done + n ≤ r.units
    → units_done q k n (record { ram = ram; content = content; block = with_requests b requests })
    ≡ record { ram = ram; content = set_run content (next_sector r) (written_bytes q.base ram r (SECTOR_SIZE * n)) n; block = with_requests b (set requests k (more_done r n)) }
write_units b q ram k zero content requests r found kind good room = rw (nothing_more requests k r found) refl
write_units b q ram k (suc n) content requests r found kind good room =
    let all = read_places q.base ram (places r.readable) in
    let here = drop (HEADER_SIZE + SECTOR_SIZE * r.done) all in
    let size : SECTOR_SIZE * suc n ≡ SECTOR_SIZE + SECTOR_SIZE * n = omega arith in
    let waiting = is_still_open r n good room in
    let next : next_sector (one_done r) ≡ next_sector r + 1 = omega arith in
    let bytes : take SECTOR_SIZE (written_bytes q.base ram r (SECTOR_SIZE * suc n)) ≡ unit_bytes q.base ram r = take-take SECTOR_SIZE (SECTOR_SIZE * suc n) here (omega (arith, size)) in
    let rest : drop SECTOR_SIZE (written_bytes q.base ram r (SECTOR_SIZE * suc n)) ≡ written_bytes q.base ram (one_done r) (SECTOR_SIZE * n) =
    ap (λ (m : ℕ). drop SECTOR_SIZE (take m here)) size ∙ drop-take SECTOR_SIZE (SECTOR_SIZE * n) here ∙ ap (take (SECTOR_SIZE * n)) (drop-drop SECTOR_SIZE (HEADER_SIZE + SECTOR_SIZE * r.done) all ∙ ap (λ (m : ℕ). drop m all) (omega arith)) in
    let later = write_units b q ram k n (set content (next_sector r) (Some (unit_bytes q.base ram r))) (set requests k (one_done r)) (one_done r) (set_there requests k r (one_done r) found) kind good (omega (arith, room)) in
    let content_is : set_run (set content (next_sector r) (Some (unit_bytes q.base ram r))) (next_sector (one_done r)) (written_bytes q.base ram (one_done r) (SECTOR_SIZE * n)) n
    ≡ set_run content (next_sector r) (written_bytes q.base ram r (SECTOR_SIZE * suc n)) (suc n) =
    ap (λ (m : ℕ). set_run (set content (next_sector r) (Some (unit_bytes q.base ram r))) m (written_bytes q.base ram (one_done r) (SECTOR_SIZE * n)) n) next
    ∙ ap (λ (b : List ℕ). set_run (set content (next_sector r) (Some b)) (next_sector r + 1) (written_bytes q.base ram (one_done r) (SECTOR_SIZE * n)) n) (sym bytes)
    ∙ ap (λ (b : List ℕ). set_run (set content (next_sector r) (Some (take SECTOR_SIZE (written_bytes q.base ram r (SECTOR_SIZE * suc n))))) (next_sector r + 1) b n) (sym rest) in
    let move : move_of r.kind q.base b.id ram content r true ≡ moved r [] (record { number = next_sector r; content = Some (unit_bytes q.base ram r) } ∷ []) = ap (λ (k : Kind). move_of k q.base b.id ram content r true) kind in
    let step = unit_of b q ram content requests k r (moved r [] (record { number = next_sector r; content = Some (unit_bytes q.base ram r) } ∷ [])) found waiting move in
    ap (λ (a : AdvanceStep). units_done q k n (after_step (record { ram = ram; content = content; block = with_requests b requests }) a)) step ∙ (later ∙ ap (λ (new : List Sector). record { ram = ram; content = new; block = with_requests b (set (set requests k (one_done r)) k (more_done (one_done r) n)) }) content_is
    ∙ ap (λ (new : List Request). record { ram = ram; content = set_run content (next_sector r) (written_bytes q.base ram r (SECTOR_SIZE * suc n)) (suc n); block = with_requests b new }) (next_done r n requests k))

pub written_is_set : WrittenIsSet
written_is_set q ram content b k n r found kind asked =
    let asks = units_asked r n asked in
    let by = open_by r.verdict r.done r.units asks.is_waiting in
    write_units b q ram k n content b.requests r found kind (ap is_good by.0) (omega (arith, asks.room, by.1)) ∙ rw (found, asked) refl

clear_units : (b : Block) (q : RingState) (ram : List ℕ) (k n : ℕ) (content : List Sector) (requests : List Request) (r : Request) → slice_get requests k ≡ Some r → r.kind ≡ Zero → is_good r.verdict ≡ true → r.done + n ≤ r.units
    → units_done q k n (record { ram = ram; content = content; block = with_requests b requests })
    ≡ record { ram = ram; content = set_run content (next_sector r) (replicate (SECTOR_SIZE * n) 0) n; block = with_requests b (set requests k (more_done r n)) }
clear_units b q ram k zero content requests r found kind good room = rw (nothing_more requests k r found) refl
clear_units b q ram k (suc n) content requests r found kind good room =
    let size : SECTOR_SIZE * suc n - SECTOR_SIZE ≡ SECTOR_SIZE * n = omega arith in
    let waiting = is_still_open r n good room in
    let zeros : List ℕ = replicate SECTOR_SIZE 0 in
    let next : next_sector (one_done r) ≡ next_sector r + 1 = omega arith in
    let bytes : take SECTOR_SIZE (replicate (SECTOR_SIZE * suc n) 0) ≡ zeros = take-replicate SECTOR_SIZE (SECTOR_SIZE * suc n) 0 (omega arith) in
    let rest : drop SECTOR_SIZE (replicate (SECTOR_SIZE * suc n) 0) ≡ replicate (SECTOR_SIZE * n) 0 = drop-replicate SECTOR_SIZE (SECTOR_SIZE * suc n) 0 ∙ ap (λ (m : ℕ). replicate m 0) size in
    let later = clear_units b q ram k n (set content (next_sector r) (Some zeros)) (set requests k (one_done r)) (one_done r) (set_there requests k r (one_done r) found) kind good (omega (arith, room)) in
    let content_is : set_run (set content (next_sector r) (Some zeros)) (next_sector (one_done r)) (replicate (SECTOR_SIZE * n) 0) n ≡ set_run content (next_sector r) (replicate (SECTOR_SIZE * suc n) 0) (suc n) =
    ap (λ (m : ℕ). set_run (set content (next_sector r) (Some zeros)) m (replicate (SECTOR_SIZE * n) 0) n) next
    ∙ ap (λ (b : List ℕ). set_run (set content (next_sector r) (Some b)) (next_sector r + 1) (replicate (SECTOR_SIZE * n) 0) n) (sym bytes)
    ∙ ap (λ (b : List ℕ). set_run (set content (next_sector r) (Some (take SECTOR_SIZE (replicate (SECTOR_SIZE * suc n) 0)))) (next_sector r + 1) b n) (sym rest) in
    let move : move_of r.kind q.base b.id ram content r true ≡ moved r [] (record { number = next_sector r; content = Some zeros } ∷ []) = ap (λ (k : Kind). move_of k q.base b.id ram content r true) kind in
    let step = unit_of b q ram content requests k r (moved r [] (record { number = next_sector r; content = Some zeros } ∷ [])) found waiting move in
    ap (λ (a : AdvanceStep). units_done q k n (after_step (record { ram = ram; content = content; block = with_requests b requests }) a)) step ∙ (later ∙ ap (λ (new : List Sector). record { ram = ram; content = new; block = with_requests b (set (set requests k (one_done r)) k (more_done (one_done r) n)) }) content_is
    ∙ ap (λ (new : List Request). record { ram = ram; content = set_run content (next_sector r) (replicate (SECTOR_SIZE * suc n) 0) (suc n); block = with_requests b new }) (next_done r n requests k))

pub cleared_is_set : ClearedIsSet
cleared_is_set q ram content b k n r found kind asked =
    let asks = units_asked r n asked in
    let by = open_by r.verdict r.done r.units asks.is_waiting in
    clear_units b q ram k n content b.requests r found kind (ap is_good by.0) (omega (arith, asks.room, by.1)) ∙ rw (found, asked) refl

flush_units : (b : Block) (q : RingState) (ram : List ℕ) (k n : ℕ) (content : List Sector) (requests : List Request) (r : Request) → slice_get requests k ≡ Some r → r.kind ≡ Flush → is_good r.verdict ≡ true → r.done + n ≤ r.units
    → units_done q k n (record { ram = ram; content = content; block = with_requests b requests }) ≡ record { ram = ram; content = content; block = with_requests b (set requests k (more_done r n)) }
flush_units b q ram k zero content requests r found kind good room = rw (nothing_more requests k r found) refl
flush_units b q ram k (suc n) content requests r found kind good room =
    let waiting = is_still_open r n good room in
    let later = flush_units b q ram k n content (set requests k (one_done r)) (one_done r) (set_there requests k r (one_done r) found) kind good (omega (arith, room)) in
    let move : move_of r.kind q.base b.id ram content r true ≡ moved r [] [] = ap (λ (k : Kind). move_of k q.base b.id ram content r true) kind in
    let step = unit_of b q ram content requests k r (moved r [] []) found waiting move in
    ap (λ (a : AdvanceStep). units_done q k n (after_step (record { ram = ram; content = content; block = with_requests b requests }) a)) step ∙ (later ∙ ap (λ (new : List Request). record { ram = ram; content = content; block = with_requests b new }) (next_done r n requests k))

pub flushed_is_same : FlushedIsSame
flushed_is_same q ram content b k n r found kind asked =
    let asks = units_asked r n asked in
    let by = open_by r.verdict r.done r.units asks.is_waiting in
    flush_units b q ram k n content b.requests r found kind (ap is_good by.0) (omega (arith, asks.room, by.1)) ∙ rw (found, asked) refl
