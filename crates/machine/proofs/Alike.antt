-- Steps of one machine with sectors of which the same are bad.
use Rattle.std.proofs.Common.{◌≡◌, ℕ, zero, suc, ◌-◌, ◌*◌, Bool, true, false, cond, List, [], ◌∷◌, length, map, set, get_or, take, drop, Option, Some, None, refl, sym, ap, ◌∙◌, arith}
use Rattle.std.specs.Prelude.{slice_get}
use Rattle.std.proofs.lemmas.Bool.{true≢false}
use Rattle.guestmem.specs.Address.{index_of}
use Rattle.guestmem.specs.Writes.{Write}
use Rattle.chains.specs.Places.{places, place_writes}
use Rattle.chains.specs.State.{RingState}
use Rattle.chains.specs.declared.next.Next.{Next}
use Rattle.blk.specs.Advance.{AdvanceStep, advance_one}
use Rattle.blk.specs.Move.{Move, bad_sector, disk_failed, move_of, moved}
use Rattle.blk.specs.Request.{is_open, next_sector}
use Rattle.blk.specs.Sectors.{AreWhole, IsGiven, IsWhole, Sector, bytes_of, is_bad, sector_in}
use Rattle.blk.specs.declared.request.Kind.{Kind}
use Rattle.blk.specs.declared.request.Kind.TheVariants.{Refused, In, Out, Flush, GetId, Zero}
use Rattle.blk.specs.declared.request.Request.{Request}
use Rattle.blk.specs.Block.{with_requests}
use Rattle.blk.specs.declared.block.Block as blocks
use Rattle.machine.specs.AppliedLaws.{AnyDiskActsAlike, IsAlike}
use Rattle.machine.specs.DeviceStep.{DeviceAnswer, advance_at, advance_on, advanced_at, device_step, looked_at, step_at, unmoved}
use Rattle.machine.specs.Effect.{sets_on}
use Rattle.machine.specs.Outcome.{Outcome, disk_does, outcome_of}
use Rattle.machine.specs.Seen.{all_marks, marks_at, state_of}
use Rattle.machine.specs.declared.kind.Kind as kinds
use Rattle.machine.specs.declared.kind.Kind.TheVariants.{Network, Block, Outside, Console, Entropy}
use Rattle.machine.specs.declared.reply.Reply.TheVariants.{Idle}
use Rattle.machine.specs.State.{DeviceState}
use Rattle.machine.specs.Step.{Answer, answer, disk_of, disk_or_none, step_device}
use Rattle.machine.specs.declared.event.Event.TheVariants.{RegRead, RegWrite, MemRead, MemWrite, Step, Input, Resize, Drop, Disk}
use Rattle.machine.proofs.At.{whole_disk}
use Rattle.machine.proofs.Stepping.{none_whole}

-- Lists of sectors of which the same are bad. The others have 512 bytes.
record HaveSameMarks (x y : List Sector) : Type 0 where
  marks : map is_bad x ≡ map is_bad y
  first : AreWhole x
  second : AreWhole y

tail_whole : (s : Sector) (x : List Sector) → AreWhole (s ∷ x) → AreWhole x
tail_whole s x whole k d below = whole (suc k) d (omega (arith, below))

-- One sector of each.
record AreLikeSectors (s t : Sector) : Type 0 where
  bad : is_bad s ≡ is_bad t
  size : length (bytes_of s) ≡ length (bytes_of t)

like_sectors : (s t : Sector) → is_bad s ≡ is_bad t → IsWhole s → IsWhole t → AreLikeSectors s t
like_sectors None None bad first second = record { bad = refl; size = refl }
like_sectors None (Some b) bad first second = absurd (true≢false bad)
like_sectors (Some a) None bad first second = absurd (true≢false (sym bad))
like_sectors (Some a) (Some b) bad first second = record { bad = refl; size = first.size ∙ sym second.size }

like_at : (x y : List Sector) (n : ℕ) → map is_bad x ≡ map is_bad y → AreWhole x → AreWhole y → AreLikeSectors (get_or x n None) (get_or y n None)
like_at [] [] n marks first second = record { bad = refl; size = refl }
like_at [] (t ∷ y) n marks first second = cc
like_at (s ∷ x) [] n marks first second = cc
like_at (s ∷ x) (t ∷ y) zero marks first second =
    let bad : is_bad s ≡ is_bad t = cc in
    like_sectors s t bad (first 0 s (omega arith)) (second 0 t (omega arith))
like_at (s ∷ x) (t ∷ y) (suc n) marks first second =
    let rest : map is_bad x ≡ map is_bad y = cc in
    like_at x y n rest (tail_whole s x first) (tail_whole t y second)

-- The addresses of writes.
abbrev addresses : List Write → List ℕ
addresses ws = map (λ w. w.index) ws

like_places : (base : ℕ) (at bs cs : List ℕ) → length bs ≡ length cs → addresses (place_writes base at bs) ≡ addresses (place_writes base at cs)
like_places base [] bs cs e = refl
like_places base (p ∷ at) [] [] e = refl
like_places base (p ∷ at) [] (c ∷ cs) e = absurd (omega (arith, e))
like_places base (p ∷ at) (b ∷ bs) [] e = absurd (omega (arith, e))
like_places base (p ∷ at) (b ∷ bs) (c ∷ cs) e = ap (λ (ps : List ℕ). index_of base p ∷ ps) (like_places base at bs cs (omega (arith, e)))

-- One unit of a request.
record AreLikeMoves (a b : Move) : Type 0 where
  answer : a.answer ≡ b.answer
  request : a.request ≡ b.request
  writes : addresses a.writes ≡ addresses b.writes
  sets : a.sets ≡ b.sets

one_move : (m : Move) → AreLikeMoves m m
one_move m = record { answer = refl; request = refl; writes = refl; sets = refl }

like_reads : (base : ℕ) (r : Request) (is_fine : Bool) (at : List ℕ) (s t : Sector) → AreLikeSectors s t
    → AreLikeMoves (cond (is_bad s) (bad_sector r) (cond is_fine (moved r (place_writes base at (bytes_of s)) []) (disk_failed r []))) (cond (is_bad t) (bad_sector r) (cond is_fine (moved r (place_writes base at (bytes_of t)) []) (disk_failed r [])))
like_reads base r is_fine at None None h = one_move (bad_sector r)
like_reads base r is_fine at None (Some b) h = absurd (true≢false h.bad)
like_reads base r is_fine at (Some a) None h = absurd (true≢false (sym h.bad))
like_reads base r true at (Some a) (Some b) h = record { answer = refl; request = refl; writes = like_places base at a b h.size; sets = refl }
like_reads base r false at (Some a) (Some b) h = one_move (disk_failed r [])

like_moves : (kind : Kind) (base : ℕ) (id ram : List ℕ) (x y : List Sector) (r : Request) (is_fine : Bool) → HaveSameMarks x y → AreLikeMoves (move_of kind base id ram x r is_fine) (move_of kind base id ram y r is_fine)
like_moves In base id ram x y r is_fine h = like_reads base r is_fine (take 512 (drop (512 * r.done) (places r.writable))) (sector_in x (next_sector r)) (sector_in y (next_sector r)) (like_at x y (next_sector r) h.marks h.first h.second)
like_moves Out base id ram x y r is_fine h = one_move (move_of Out base id ram x r is_fine)
like_moves Flush base id ram x y r is_fine h = one_move (move_of Flush base id ram x r is_fine)
like_moves GetId base id ram x y r is_fine h = one_move (move_of GetId base id ram x r is_fine)
like_moves Refused base id ram x y r is_fine h = one_move (move_of Refused base id ram x r is_fine)
like_moves Zero base id ram x y r is_fine h = one_move (move_of Zero base id ram x r is_fine)

-- A request that goes on, or ends.
record AreLikeSteps (a b : AdvanceStep) : Type 0 where
  answer : a.answer ≡ b.answer
  writes : addresses a.writes ≡ addresses b.writes
  sets : a.sets ≡ b.sets
  ring : a.ring ≡ b.ring
  block : a.block ≡ b.block

one_step : (s : AdvanceStep) → AreLikeSteps s s
one_step s = record { answer = refl; writes = refl; sets = refl; ring = refl; block = refl }

like_by : (ram : List ℕ) (q : RingState) (x y : List Sector) (b : blocks.Block) (k : ℕ) (is_fine : Bool) (r : Request) (at_work : Bool) → is_open r ≡ at_work → HaveSameMarks x y
    → AreLikeSteps (advance_one ram q x b k is_fine (Some r)) (advance_one ram q y b k is_fine (Some r))
like_by ram q x y b k is_fine r true at_work h =
    let m = like_moves r.kind q.base b.id ram x y r is_fine h in
    rw at_work (record { answer = m.answer; writes = m.writes; sets = m.sets; ring = refl; block = ap (λ (r : Request). with_requests b (set b.requests k r)) m.request })
like_by ram q x y b k is_fine r false at_work h = rw at_work (one_step _)

like_one : (ram : List ℕ) (q : RingState) (x y : List Sector) (b : blocks.Block) (k : ℕ) (is_fine : Bool) (found : Option Request) → HaveSameMarks x y
    → AreLikeSteps (advance_one ram q x b k is_fine found) (advance_one ram q y b k is_fine found)
like_one ram q x y b k is_fine None h = one_step (advance_one ram q x b k is_fine None)
like_one ram q x y b k is_fine (Some r) h = like_by ram q x y b k is_fine r (is_open r) refl h

-- A step of a device.
record AreLikeAnswers (a b : DeviceAnswer) : Type 0 where
  reply : a.reply ≡ b.reply
  writes : addresses a.writes ≡ addresses b.writes
  sets : a.sets ≡ b.sets
  device : a.device ≡ b.device

one_answer : (a : DeviceAnswer) → AreLikeAnswers a a
one_answer a = record { reply = refl; writes = refl; sets = refl; device = refl }

like_advances : (d : DeviceState) (kind : kinds.Kind) (ram : List ℕ) (x y : List Sector) (pick : ℕ) (q : RingState) (o : Outcome) → HaveSameMarks x y → AreLikeAnswers (advance_on d kind ram x pick q o) (advance_on d kind ram y pick q o)
like_advances d (Block block) ram x y pick q o h =
    let s = like_one ram q x y block (pick - 1) (disk_does o) (slice_get block.requests (pick - 1)) h in
    record { reply = rw (s.answer) refl; writes = s.writes; sets = s.sets; device = rw (s.answer, s.ring, s.block) refl }
like_advances d (Outside block) ram x y pick q o h = one_answer (advance_on d (Outside block) ram x pick q o)
like_advances d (Network mac inbox) ram x y pick q o h = one_answer (unmoved d Idle)
like_advances d (Console size held) ram x y pick q o h = one_answer (unmoved d Idle)
like_advances d (Entropy pool) ram x y pick q o h = one_answer (unmoved d Idle)

like_at_ring : (d : DeviceState) (ram : List ℕ) (x y : List Sector) (pick : ℕ) (ring : Option RingState) (o : Outcome) → HaveSameMarks x y → AreLikeAnswers (advance_at d ram x pick ring o) (advance_at d ram y pick ring o)
like_at_ring d ram x y pick None o h = one_answer (advance_at d ram x pick None o)
like_at_ring d ram x y pick (Some q) o h = like_advances d d.kind ram x y pick q o h

like_looks : (d : DeviceState) (ram : List ℕ) (x y : List Sector) (pick : ℕ) (ring : Option RingState) (o : Outcome) (seen : Next) → HaveSameMarks x y → AreLikeAnswers (step_at d ram x pick ring o seen) (step_at d ram y pick ring o seen)
like_looks d ram x y pick None o seen h = like_at_ring d ram x y pick (advanced_at d pick) o h
like_looks d ram x y pick (Some q) o seen h = one_answer (step_at d ram x pick (Some q) o seen)

-- A step of a machine.
record AreLike (a b : Answer) : Type 0 where
  reply : a.reply ≡ b.reply
  effect : IsAlike a.effect b.effect

like_devices : (dev : ℕ) (d : Option DeviceState) (ram : List ℕ) (x y : List Sector) (pick : ℕ) (o : Outcome) (seen : Next) → HaveSameMarks x y → AreLike (step_device dev d ram x pick o seen) (step_device dev d ram y pick o seen)
unfolding device_step
like_devices dev None ram x y pick o seen h = record { reply = refl; effect = record { addresses = refl; sectors = refl; replaced = refl } }
like_devices dev (Some d) ram x y pick o seen h =
    let a = like_looks d ram x y pick (looked_at d pick) o seen h in
    record { reply = a.reply; effect = record { addresses = a.writes; sectors = ap (sets_on dev) a.sets; replaced = ap (λ (device : DeviceState). Some (record { number = dev; device = device })) a.device } }

same_marks : (disks : List (List Sector)) (dev : ℕ) (given : List Sector) → HaveSameMarks (disk_or_none (slice_get disks dev)) given → HaveSameMarks (disk_or_none (slice_get disks dev)) (disk_or_none (slice_get (set disks dev given) dev))
same_marks [] dev given h = record { marks = refl; first = none_whole; second = none_whole }
same_marks (d ∷ ds) zero given h = h
same_marks (d ∷ ds) (suc dev) given h = same_marks ds dev given h

pub acts_alike : AnyDiskActsAlike
acts_alike old new (Step dev pick) reply sound h =
    let m = state_of old in
    let given : IsGiven (marks_at (all_marks old) dev).honest (disk_of m dev) h.given = h.is_given in
    let marks : HaveSameMarks (disk_of m dev) h.given = record { marks = sym given.bad; first = whole_disk m.disks dev sound.sectors; second = given.whole } in
    let like = like_devices dev (slice_get m.devices dev) m.ram (disk_of m dev) (disk_or_none (slice_get (set m.disks dev h.given) dev)) pick (outcome_of reply) h.has.seen (same_marks m.disks dev h.given marks) in
    let f = (answer m (Step dev pick) (outcome_of reply) h.has.seen).effect in
    (f, record { seen = h.has.seen; may_see = h.has.may_see; reply_is = h.has.reply_is ∙ sym like.reply; effect_is = refl; outcome_is = refl }, rw (h.has.effect_is) like.effect)
acts_alike old new (RegRead dev off width) reply sound h = (h.effect, h.has, record { addresses = refl; sectors = refl; replaced = refl })
acts_alike old new (RegWrite dev off width value) reply sound h = (h.effect, h.has, record { addresses = refl; sectors = refl; replaced = refl })
acts_alike old new (MemRead addr len) reply sound h = (h.effect, h.has, record { addresses = refl; sectors = refl; replaced = refl })
acts_alike old new (MemWrite addr bytes) reply sound h = (h.effect, h.has, record { addresses = refl; sectors = refl; replaced = refl })
acts_alike old new (Input dev bytes) reply sound h = (h.effect, h.has, record { addresses = refl; sectors = refl; replaced = refl })
acts_alike old new (Resize dev cols rows) reply sound h = (h.effect, h.has, record { addresses = refl; sectors = refl; replaced = refl })
acts_alike old new (Drop dev) reply sound h = (h.effect, h.has, record { addresses = refl; sectors = refl; replaced = refl })
acts_alike old new (Disk dev pick given) reply sound h = (h.effect, h.has, record { addresses = refl; sectors = refl; replaced = refl })
