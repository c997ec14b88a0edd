-- A piece more, and the end.
use Rattle.std.proofs.Common.{◌≡◌, ℕ, ◌<◌, ◌≤◌, ◌⊎◌, inl, inr, Bool, true, false, suc, Some, List, [], ◌∷◌, ◌++◌, length, map, take, drop, refl, sym, ap, subst, ◌∙◌, append_assoc, arith}
use Rattle.std.specs.Prelude.{Ok, Err, Option, Result}
use Rattle.std.proofs.lemmas.Bool.{cases_lt}
use Rattle.std.proofs.lemmas.List.{take_at}
use Rattle.receiver.specs.Sums.{IsClear, Summed}
use Rattle.blk.specs.Disk.{DiskState}
use Rattle.guestmem.specs.Memory.{Memory}
use Rattle.guestmem.specs.Number.{IsBytes}
use Rattle.guestmem.proofs.ByteLaws.{IsBytes-append}
use Rattle.wire.proofs.Spelling.{tail_same}
use Rattle.machine.specs.First.{marks_in}
use Rattle.machine.specs.Room.{RoomSeen}
use Rattle.receiver.specs.Calls.{Feeds, IsNew}
use Rattle.receiver.specs.Disks.{AreKept, all_marks_in, disk_marks_of, sizes_in, sizes_of}
use Rattle.receiver.specs.Faults.{Fault}
use Rattle.receiver.specs.Reading.{HasSameStore, IsFirst, TakesPiece, place_of}
use Rattle.receiver.specs.Receiving.{HasBeenFed, IsPastHead, IsKnown, IsReceiver, IsTaken, Knows, MayTouch, NoFault, ReaderSeen, TellsFault, TellsNow, has_failed, place_aside, place_in, received_with}
use Rattle.receiver.specs.Waiting.{LacksBytes}
use Rattle.receiver.specs.declared.stage.Stage.{Stage}
use Rattle.receiver.specs.declared.stage.Stage.TheVariants as stages
use Rattle.receiver.specs.declared.ram_terms.RamTerms.{RamTerms}
use Rattle.receiver.specs.declared.recv_error.RecvError.{RecvError}
use Rattle.receiver.specs.declared.recv_error.RecvError.TheVariants.{AlreadyFailed, NoMemory}
use Rattle.receiver.proofs.Knowing.{no_fault_known}
use Rattle.receiver.proofs.Prefixes.{holds}
use Rattle.receiver.proofs.Untouched.{seen_same, taken_untouched}
use Rattle.receiver.proofs.Wanting.{err_again, fed_wants, ok_not_err}
use Rattle.receiver.proofs.Working.{tells_more}

pub true_false : (b : Bool) → b ≡ true → b ≡ false → ⊥
true_false b t f = let no : true ≡ false = sym t ∙ f in cc

pub not_failed : (ram : RamTerms) (ds : List DiskState) (digest : Summed) (front held : List ℕ) (stage : Stage) → IsKnown ram ds digest front held stage → has_failed stage ≡ false
not_failed ram ds digest front held stages.Head k = refl
not_failed ram ds digest front held (stages.Records i) k = refl
not_failed ram ds digest front held stages.Failed k = absurd k

later_by : (ram : RamTerms) (sizes old piece : List ℕ) (e : RecvError) (at : ℕ) → NoFault ram sizes old → Fault ram sizes (old ++ piece) e at → (length old < at) ⊎ (at ≤ length old) → length old < at
later_by ram sizes old piece e at none f (inl lt) = lt
later_by ram sizes old piece e at none f (inr le) = absurd (none e at (holds ram sizes old piece e at le f))

-- A fault that did not stand before has its place behind.
later : (ram : RamTerms) (sizes old piece : List ℕ) (e : RecvError) (at : ℕ) → NoFault ram sizes old → Fault ram sizes (old ++ piece) e at → length old < at
later ram sizes old piece e at none f = later_by ram sizes old piece e at none f (cases_lt (length old) at)

pub told_more : (ram : RamTerms) (sizes b piece : List ℕ) (e : RecvError) → TellsFault ram sizes (b ++ piece) e → NoFault ram sizes b → TellsNow ram sizes b piece e
told_more ram sizes b piece e t none =
    tells_more ((at : ℕ) × Fault ram sizes (b ++ piece) e at) ((at : ℕ) × (length b < at) × Fault ram sizes (b ++ piece) e at) e (λ x. (x.0, later ram sizes b piece e x.0 none x.1, x.1)) t

all_bytes : (front held piece b : List ℕ) → b ≡ front ++ held → b ++ piece ≡ front ++ (held ++ piece)
all_bytes front held piece b is = ap (λ (x : List ℕ). x ++ piece) is ∙ append_assoc front held piece

-- A piece that is taken.
pub fed_on : (r n : ReaderSeen) (held rest piece : List ℕ) (x : Unit {0}) → IsBytes piece → n.ram ≡ r.ram → place_of n ≡ place_of r → AreKept r.disks n.disks → has_failed r.stage ≡ false → (n.stage ≡ stages.Head → HasSameStore r n)
    → ((b : List ℕ) → HasBeenFed (received_with r held) b → IsTaken n.ram n.disks n.digest (b ++ piece) rest n.stage) → Feeds (received_with r held) piece (Ok x) (received_with n rest)
fed_on r n held rest piece x are ram place same on waits more = record {
  ram = ram;
  sizes = same.sizes;
  marks = same.marks;
  fed = λ b h. record { goes_on = not_failed n.ram n.disks n.digest (more b h).front rest n.stage (more b h).known; bytes = IsBytes-append b piece h.bytes are; taken = more b h };
  quiet = λ b h. subst (λ (t : RamTerms). NoFault t (sizes_in r.disks) (b ++ piece)) ram
      (subst (λ (sizes : List ℕ). NoFault n.ram sizes (b ++ piece)) same.sizes (no_fault_known n.ram n.disks n.digest (b ++ piece) rest n.stage (more b h)));
  told = tt;
  failed = tt;
  place = place;
  already = λ f. absurd (true_false _ f on);
  memory = λ e. absurd (ok_not_err e);
  gone = λ f. absurd (true_false _ f on);
  waits = λ b h never. seen_same r n held rest (taken_untouched r n (b ++ piece) rest ram same.sizes waits (more b h) never);
  untouched = tt;
}

past_on : (stage : Stage) → has_failed stage ≡ true → IsPastHead stage → ⊥
past_on stages.Head failed past = past
past_on (stages.Records i) failed past = cc
past_on stages.Failed failed past = past

pub is_receiver : (r : ReaderSeen) (held : List ℕ) (room lacking : ℕ) (front : List ℕ) → Knows r front held → length held ≤ 131077 → (IsPastHead r.stage → 131078 ≤ room) → (0 < lacking → LacksBytes r.stage held lacking) → IsReceiver r held room lacking
is_receiver r held room lacking front known few roomy lacks = record {
  known = λ on. (front, known);
  few = few;
  gone = λ failed. absurd (true_false _ failed (not_failed r.ram r.disks r.digest front held r.stage known));
  roomy = roomy;
  lacks = lacks;
}

-- A receiver that was refused.
pub is_refused_one : (r : ReaderSeen) (held : List ℕ) (room : ℕ) → has_failed r.stage ≡ true → held ≡ [] → IsReceiver r held room 0
is_refused_one r held room failed none = record {
  known = λ on. absurd (true_false _ failed on);
  few = omega (arith, ap length none);
  gone = λ f. none;
  roomy = λ past. absurd (past_on r.stage failed past);
  lacks = λ some. absurd (omega (arith, some));
}

-- The disks that were lent, as they come back.
same_count : {D : Type 0} (state : D → DiskState) (old new : List D) → sizes_of state new ≡ sizes_of state old → length new ≡ length old
same_count state [] [] e = refl
same_count state [] (d ∷ new) e = absurd cc
same_count state (d ∷ old) [] e = absurd cc
same_count state (d ∷ old) (x ∷ new) e = ap suc (same_count state old new (tail_same e))

pub lent_back : {D : Type 0} (state : D → DiskState) (old lent new : List D) (len : ℕ) → length lent ≡ len → sizes_of state new ≡ sizes_of state lent → take len (new ++ drop (length new) old) ≡ new
lent_back state old lent new len count sizes = take_at new (drop (length new) old) len (same_count state lent new sizes ∙ count)

pub marks_mapped : {D : Type 0} (state : D → DiskState) (disks : List D) → map (λ d. marks_in (state d)) disks ≡ disk_marks_of state disks
marks_mapped state [] = refl
marks_mapped state (d ∷ disks) = ap (λ ms. marks_in (state d) ∷ ms) (marks_mapped state disks)

pub same_room : {o : Option RoomSeen} {a b : RoomSeen} → o ≡ Some a → o ≡ Some b → a ≡ b
same_room {o} {a} {b} e f = let same : Some a ≡ Some b = sym e ∙ f in cc

-- A piece that was taken came before any refusal.
pub not_failed_before : (old new : ReaderSeen) (before : List ℕ) (had : ℕ) (piece held : List ℕ) (has : ℕ) {x : ℕ} → TakesPiece old before had piece (Ok x) new held has → has_failed old.stage ≡ false
not_failed_before old new before had piece held has p = by_flag (has_failed old.stage) refl
  where
    by_flag : (b : Bool) → has_failed old.stage ≡ b → b ≡ false
    by_flag true e = absurd (ok_not_err (p.already e).0)
    by_flag false e = refl

pub fed_as_taken : (r n : ReaderSeen) (held rest piece : List ℕ) (had has lacking x : ℕ) → IsBytes piece → IsReceiver r held had lacking → ((front : List ℕ) → Knows r front held → IsClear r.digest r.ram (sizes_in r.disks) (front ++ (held ++ piece))) → TakesPiece r held had piece (Ok x) n rest has → Feeds (received_with r held) piece (Ok tt) (received_with n rest)
fed_as_taken r n held rest piece had has lacking x are kept clear p =
    let on : has_failed r.stage ≡ false = not_failed_before r n held had piece rest has p in
    let some = kept.known on in
    fed_on r n held rest piece tt are p.ram p.place (p.took some.0 some.1 (clear some.0 some.1)).0 on p.waits
    (λ b h. subst (λ (x : List ℕ). IsTaken n.ram n.disks n.digest x rest n.stage) (sym (all_bytes h.taken.front held piece b h.taken.whole)) (p.took h.taken.front h.taken.known (clear h.taken.front h.taken.known)).1)

-- A piece that was refused: now, or after a refusal before.
refused_now : (old new : ReaderSeen) (before held none piece : List ℕ) (had has lacking : ℕ) (e : RecvError) → IsReceiver old before had lacking → ((front : List ℕ) → Knows old front before → IsClear old.digest old.ram (sizes_in old.disks) (front ++ (before ++ piece))) → TakesPiece old before had piece (Err e) new held has → has_failed old.stage ≡ false
    → Feeds (received_with old before) piece (Err e) (received_with new none)
refused_now old new before held none piece had has lacking e kept clear p on =
    let some = kept.known on in
    let first = p.took some.0 some.1 (clear some.0 some.1) in
    record {
      ram = p.ram;
      sizes = first.0.sizes;
      marks = first.0.marks;
      fed = tt;
      quiet = tt;
      told = λ b h.
          let told : TellsFault old.ram (sizes_in old.disks) (b ++ piece) e = rw (all_bytes h.taken.front before piece b h.taken.whole) (p.took h.taken.front h.taken.known (clear h.taken.front h.taken.known)).1 in
          told_more old.ram (sizes_in old.disks) b piece e told (no_fault_known old.ram old.disks old.digest b before old.stage h.taken);
      failed = p.failed;
      place = p.place;
      already = λ f. absurd (true_false _ f on);
      memory = λ is b fed opening rest begins from at. fed_wants old before piece b opening rest from (λ front known past. p.memory kept.roomy front known (clear front known) past (err_again is)) fed begins at;
      gone = λ f. absurd (true_false _ f on);
      waits = tt;
      untouched = λ b h never.
          let all = all_bytes h.taken.front before piece b h.taken.whole in
          seen_same old new before none (p.untouched kept.roomy h.taken.front h.taken.known (clear h.taken.front h.taken.known) (λ m. never (subst (λ (x : List ℕ). MayTouch old.ram (sizes_in old.disks) x e) (sym all) m)));
    }

refused_then : (old new : ReaderSeen) (before held none piece : List ℕ) (had has : ℕ) (e : RecvError) → TakesPiece old before had piece (Err e) new held has → has_failed old.stage ≡ true → Feeds (received_with old before) piece (Err e) (received_with new none)
refused_then old new before held none piece had has e p failed =
    let is : e ≡ AlreadyFailed = (let same : (◌≡◌ {A = Result ℕ RecvError} (Err e) (Err AlreadyFailed)) = (p.already failed).0 in cc) in
    let same : new ≡ old = (p.already failed).1 in
    record {
      ram = p.ram;
      sizes = ap (λ (r : ReaderSeen). sizes_in r.disks) same;
      marks = rw is (ap (λ (r : ReaderSeen). all_marks_in r.disks) same);
      fed = tt;
      quiet = tt;
      told = λ b h. absurd (true_false _ failed h.goes_on);
      failed = p.failed;
      place = p.place;
      already = λ f. rw is refl;
      memory = λ none_left. absurd (let no : AlreadyFailed ≡ NoMemory = sym is ∙ (let one : e ≡ NoMemory = cc in one) in cc);
      gone = λ f. record { disks = ap (λ (r : ReaderSeen). r.disks) same; aside = ap (λ (r : ReaderSeen). r.aside) same };
      waits = tt;
      untouched = λ b h. absurd (true_false _ failed h.goes_on);
    }

pub fed_as_told : (old new : ReaderSeen) (before held none piece : List ℕ) (had has lacking : ℕ) (e : RecvError) → IsReceiver old before had lacking → ((front : List ℕ) → Knows old front before → IsClear old.digest old.ram (sizes_in old.disks) (front ++ (before ++ piece))) → TakesPiece old before had piece (Err e) new held has → Feeds (received_with old before) piece (Err e) (received_with new none)
fed_as_told old new before held none piece had has lacking e kept clear p = by_flag (has_failed old.stage) refl
  where
    by_flag : (b : Bool) → has_failed old.stage ≡ b → Feeds (received_with old before) piece (Err e) (received_with new none)
    by_flag true failed = refused_then old new before held none piece had has e p failed
    by_flag false on = refused_now old new before held none piece had has lacking e kept clear p on

-- A receiver that was fed nothing.
pub first_new : {D : Type 0} {ram : RamTerms} {aside : Option Memory} (state : D → DiskState) (disks : List D) (r : ReaderSeen) (held : List ℕ) → IsFirst ram (map state disks) aside r → held ≡ [] → IsNew state disks ram aside (received_with r held)
first_new state disks r held f none = record {
  fed = record { goes_on = ap has_failed f.stage; bytes = λ i. omega arith; taken = record { front = []; whole = sym none; known = subst (λ (x : List ℕ). Knows r [] x) (sym none) f.known } };
  ram = f.ram;
  sizes = ap sizes_in f.disks;
  marks = ap all_marks_in f.disks;
  disks = f.disks;
  aside = f.aside;
  place = ap (place_in r.aside) f.stage ∙ ap place_aside f.aside;
}

pub first_receiver : {ram : RamTerms} {ds : List DiskState} {aside : Option Memory} (r : ReaderSeen) (held : List ℕ) (room : ℕ) → IsFirst ram ds aside r → held ≡ [] → IsReceiver r held room 0
first_receiver r held room f none = record {
  known = λ on. ([], subst (λ (x : List ℕ). Knows r [] x) (sym none) f.known);
  few = omega (arith, ap length none);
  gone = λ failed. none;
  roomy = λ past. absurd (subst IsPastHead f.stage past);
  lacks = λ some. absurd (omega (arith, some));
}
