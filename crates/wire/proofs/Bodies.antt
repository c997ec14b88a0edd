-- Bodies of devices: what is read was spelled so, and what is spelled so is read.
use Rattle.std.proofs.Common.{◌≡◌, ℕ, zero, suc, ◌+◌, ◌*◌, ◌<◌, ◌≤◌, Bool, true, false, List, [], ◌∷◌, ◌++◌, length, take, drop, get_or, Some, None, refl, sym, ap, subst, ◌∙◌, append_assoc, drop-drop, arith}
use Rattle.std.specs.List.{AllByRecursion}
use Rattle.std.proofs.lemmas.Nat.{and_le_l}
use Rattle.std.proofs.lemmas.List.Elements.{recursion_from_All}
use Rattle.std.proofs.lemmas.List.{take-append-drop, length-append, length-drop, drop_at}
use Rattle.guestmem.proofs.ByteLaws.{IsBytes-append, IsBytes-drop}
use Rattle.guestmem.specs.Number.{number_at, IsBytes}
use Rattle.chains.specs.declared.position.Positions.{Positions}
use Rattle.mmio.specs.Sound.{IsSoundCommon, IsSoundQueue}
use Rattle.mmio.specs.declared.common.Common.{Common}
use Rattle.mmio.specs.declared.queue.Queue.{Queue}
use Rattle.wire.specs.Numbers.{Fit, flag}
use Rattle.wire.specs.DeviceBody.{IsBodyOf, IsDeviceOf, body, common_numbers, common_text, common_widths, has_zeroes, kind_text, queue_numbers, queue_text, queue_widths, queues_text}
use Rattle.wire.specs.BodyReading.{HasFlags, HasFront, HaveFlags, common_from, common_of, device_of, kind_in, positions_from, positions_in, positions_of, queue_from, queue_of, queues_in}
use Rattle.machine.specs.QueuePositions.{HasPositions, HavePositions, is_packed_by}
use Rattle.machine.specs.Shapes.{queues_of, saved_device, made_as}
use Rattle.machine.specs.Sound.{IsSoundDevice}
use Rattle.machine.specs.State.{DeviceState}
use Rattle.machine.specs.declared.kind.Kind.{Kind}
use Rattle.machine.specs.declared.shape.Shape.{Shape}
use Rattle.wire.proofs.Choices.{same_found}
use Rattle.wire.proofs.Digits.{spelled-numbers, numbers-spelled, IsBytes-spelled, flag-number, number-flag}
use Rattle.wire.proofs.KindTexts.{ReadsKind, kind_made, kind_reads, kind_written}

-- The registers that a device has once.

common_of-text : (c : Common) (rest : List ℕ) → Fit common_widths (common_numbers c) → common_of (common_text c ++ rest) ≡ c
unfolding common_text common_of
common_of-text c rest fits = ap common_from (numbers-spelled common_widths (common_numbers c) [] rest fits)

common_text-of : (bytes : List ℕ) → IsBytes bytes → 26 ≤ length bytes → common_text (common_of bytes) ≡ take 26 bytes
unfolding common_text common_of
common_text-of bytes are long = spelled-numbers common_widths 0 bytes are long

pub length-common_text : (c : Common) → length (common_text c) ≡ 26
unfolding common_text
length-common_text c = refl

common_fits : (offered : ℕ) (c : Common) → IsSoundCommon offered c → Fit common_widths (common_numbers c)
common_fits offered c sound =
    let status : c.status < 256 = omega (arith, sound.status.known, and_le_l 207 c.status) in
    (status, (omega (arith, sound.interrupts), (sound.fits.device_select, (sound.fits.driver_select, (sound.fits.features, (sound.fits.queue_select, (sound.fits.generation, tt)))))))

-- A queue and its positions.

queue_of-text : (q : Queue) (p : Positions) (rest : List ℕ) → Fit queue_widths (queue_numbers q p) → queue_of (queue_text q p ++ rest) ≡ q
unfolding queue_text queue_of
queue_of-text q p rest fits =
    ap queue_from (numbers-spelled queue_widths (queue_numbers q p) [] rest fits) ∙ rw (number-flag q.is_ready, number-flag q.is_notified) refl

positions_of-text : (q : Queue) (p : Positions) (rest : List ℕ) → Fit queue_widths (queue_numbers q p) → positions_of (queue_text q p ++ rest) ≡ p
unfolding queue_text positions_of
positions_of-text q p rest fits =
    ap positions_from (numbers-spelled queue_widths (queue_numbers q p) [] rest fits) ∙ rw (number-flag p.taking.wrap, number-flag p.used.wrap) refl

at_most_one : {n : ℕ} (b : Bool) → n ≡ flag b → n ≤ 1
at_most_one true e = omega (arith, e)
at_most_one false e = omega (arith, e)

flags_of-text : (q : Queue) (p : Positions) (rest : List ℕ) → Fit queue_widths (queue_numbers q p) → HasFlags (queue_text q p ++ rest)
unfolding queue_text
flags_of-text q p rest fits =
    let read = numbers-spelled queue_widths (queue_numbers q p) [] rest fits in
    let nth = λ (k : ℕ). ap (λ (ns : List ℕ). get_or ns k 0) read in
    record { ready = at_most_one q.is_ready (nth 4); notified = at_most_one q.is_notified (nth 5); taking = at_most_one p.taking.wrap (nth 7); used = at_most_one p.used.wrap (nth 9) }

queue_text-of : (bytes : List ℕ) → IsBytes bytes → 36 ≤ length bytes → HasFlags bytes → queue_text (queue_of bytes) (positions_of bytes) ≡ take 36 bytes
unfolding queue_text queue_of positions_of
queue_text-of bytes are long flags =
    rw (flag-number (number_at bytes 28 1) flags.ready, flag-number (number_at bytes 29 1) flags.notified, flag-number (number_at bytes 32 1) flags.taking, flag-number (number_at bytes 35 1) flags.used)
    (spelled-numbers queue_widths 0 bytes are long)

pub length-queue_text : (q : Queue) (p : Positions) → length (queue_text q p) ≡ 36
unfolding queue_text
length-queue_text q p = refl

flag_byte : (b : Bool) → flag b < 256
flag_byte true = omega arith
flag_byte false = omega arith

queue_fits : {base : ℕ} (ram_len : ℕ) (packed : Bool) (c : Common) (q : Queue) (p : Positions) → IsSoundQueue base ram_len c q → HasPositions packed q p → Fit queue_widths (queue_numbers q p)
queue_fits ram_len packed c q p sound placed = (
  sound.fits.size,
  (
    sound.fits.descriptors,
    (
      sound.fits.driver,
      (
        sound.fits.device,
        (
          flag_byte q.is_ready,
          (
            flag_byte q.is_notified,
            (placed.taking_fits, (flag_byte p.taking.wrap, (placed.used_fits, (flag_byte p.used.wrap, tt)))),
          ),
        ),
      ),
    ),
  ),
)

-- Queues and their positions.

abbrev FitQueues : List Queue → List Positions → Type 0
FitQueues [] [] = Unit {0}
FitQueues (q ∷ qs) (p ∷ ps) = Fit queue_widths (queue_numbers q p) × FitQueues qs ps
FitQueues qs ps = ⊥

queues_fit : (base ram_len : ℕ) (packed : Bool) (c : Common) (qs : List Queue) (ps : List Positions) → AllByRecursion (IsSoundQueue base ram_len c) qs → HavePositions packed qs ps → FitQueues qs ps
queues_fit base ram_len packed c [] [] sound placed = tt
queues_fit base ram_len packed c [] (p ∷ ps) sound placed = absurd placed
queues_fit base ram_len packed c (q ∷ qs) [] sound placed = absurd placed
queues_fit base ram_len packed c (q ∷ qs) (p ∷ ps) sound placed = (queue_fits ram_len packed c q p sound.0 placed.0, queues_fit base ram_len packed c qs ps sound.1 placed.1)

pub length-queues_in : (n : ℕ) (bytes : List ℕ) → length (queues_in n bytes) ≡ n
unfolding queues_in
length-queues_in zero bytes = refl
length-queues_in (suc n) bytes = ap suc (length-queues_in n (drop 36 bytes))

-- What the bytes say of so many queues.
record SaysQueues (n : ℕ) (text : List ℕ) (qs : List Queue) (ps : List Positions) (rest : List ℕ) : Type 0 where
  pub queues : queues_in n text ≡ qs
  pub positions : positions_in n text ≡ ps
  pub flags : HaveFlags n text
  pub rest_is : drop (36 * n) text ≡ rest
  pub long : length text ≡ 36 * n + length rest

one_more_queue : (n : ℕ) (q : Queue) (p : Positions) (qs : List Queue) (ps : List Positions) (after rest : List ℕ) → Fit queue_widths (queue_numbers q p) → SaysQueues n after qs ps rest
    → SaysQueues (suc n) (queue_text q p ++ after) (q ∷ qs) (p ∷ ps) rest
unfolding queues_in positions_in
one_more_queue n q p qs ps after rest fits others =
    let past : drop 36 (queue_text q p ++ after) ≡ after = drop_at (queue_text q p) after 36 (length-queue_text q p) in
    let size : 36 * suc n ≡ 36 + 36 * n = omega arith in
    record {
      queues = rw (queue_of-text q p after fits, past, others.queues) refl;
      positions = rw (positions_of-text q p after fits, past, others.positions) refl;
      flags = (flags_of-text q p after fits, rw past others.flags);
      rest_is = rw size (sym (drop-drop (36 * n) 36 (queue_text q p ++ after)) ∙ ap (drop (36 * n)) past ∙ others.rest_is);
      long = omega (arith, length-append (queue_text q p) after, length-queue_text q p, others.long);
    }

queues_said : (qs : List Queue) (ps : List Positions) (rest : List ℕ) → FitQueues qs ps → SaysQueues (length qs) (queues_text qs ps ++ rest) qs ps rest
unfolding queues_in positions_in
queues_said [] [] rest fits = record { queues = refl; positions = refl; flags = tt; rest_is = refl; long = omega arith }
queues_said [] (p ∷ ps) rest fits = absurd fits
queues_said (q ∷ qs) [] rest fits = absurd fits
queues_said (q ∷ qs) (p ∷ ps) rest fits =
    subst (λ (x : List ℕ). SaysQueues (suc (length qs)) x (q ∷ qs) (p ∷ ps) rest) (sym (append_assoc (queue_text q p) (queues_text qs ps) rest))
    (one_more_queue (length qs) q p qs ps (queues_text qs ps ++ rest) rest fits.0 (queues_said qs ps rest fits.1))

queues_written : (n : ℕ) (bytes : List ℕ) → IsBytes bytes → 36 * n ≤ length bytes → HaveFlags n bytes → bytes ≡ queues_text (queues_in n bytes) (positions_in n bytes) ++ drop (36 * n) bytes
unfolding queues_in positions_in
queues_written zero bytes are long flags = refl
queues_written (suc n) bytes are long flags =
    let size : 36 * suc n ≡ 36 + 36 * n = omega arith in
    let text = queues_text (queues_in n (drop 36 bytes)) (positions_in n (drop 36 bytes)) in
    let first : queue_text (queue_of bytes) (positions_of bytes) ≡ take 36 bytes = queue_text-of bytes are (omega (arith, long)) flags.0 in
    let others : drop 36 bytes ≡ text ++ drop (36 * n) (drop 36 bytes) = queues_written n (drop 36 bytes) (IsBytes-drop 36 bytes are) (omega (arith, long, length-drop 36 bytes)) flags.1 in
    let behind : drop (36 * n) (drop 36 bytes) ≡ drop (36 * suc n) bytes = rw size (drop-drop (36 * n) 36 bytes) in
    sym (take-append-drop 36 bytes)
    ∙ ap (λ (x : List ℕ). x ++ drop 36 bytes) (sym first)
    ∙ ap (λ (x : List ℕ). queue_text (queue_of bytes) (positions_of bytes) ++ x) (others ∙ ap (λ (x : List ℕ). text ++ x) behind)
    ∙ sym (append_assoc (queue_text (queue_of bytes) (positions_of bytes)) text (drop (36 * suc n) bytes))

-- What stands before what only a kind of device has.

abbrev front_text : Common → List Queue → List Positions → List ℕ → List ℕ
front_text c qs ps rest = common_text c ++ (queues_text qs ps ++ rest)

pub record ReadsFront (n : ℕ) (text : List ℕ) (c : Common) (qs : List Queue) (ps : List Positions) (rest : List ℕ) : Type 0 where
  pub form : HasFront n text
  pub common : common_of text ≡ c
  pub queues : queues_in n (drop 26 text) ≡ qs
  pub positions : positions_in n (drop 26 text) ≡ ps
  pub rest_is : drop (26 + 36 * n) text ≡ rest
  pub long : length text ≡ 26 + 36 * n + length rest

front_said : (n : ℕ) (c : Common) (qs : List Queue) (ps : List Positions) (after rest : List ℕ) → Fit common_widths (common_numbers c) → SaysQueues n after qs ps rest → ReadsFront n (common_text c ++ after) c qs ps rest
front_said n c qs ps after rest fits says =
    let past : drop 26 (common_text c ++ after) ≡ after = drop_at (common_text c) after 26 (length-common_text c) in
    let size : length (common_text c ++ after) ≡ 26 + 36 * n + length rest = omega (arith, length-append (common_text c) after, length-common_text c, says.long) in
    record {
      form = record { long = omega (arith, size); flags = rw past says.flags };
      common = common_of-text c after fits;
      queues = ap (queues_in n) past ∙ says.queues;
      positions = ap (positions_in n) past ∙ says.positions;
      rest_is = sym (drop-drop (36 * n) 26 (common_text c ++ after)) ∙ ap (drop (36 * n)) past ∙ says.rest_is;
      long = size;
    }

front_reads : (n : ℕ) (c : Common) (qs : List Queue) (ps : List Positions) (rest : List ℕ) → length qs ≡ n → Fit common_widths (common_numbers c) → FitQueues qs ps → ReadsFront n (front_text c qs ps rest) c qs ps rest
front_reads n c qs ps rest count common_fits queues_fits =
    subst (λ (k : ℕ). ReadsFront k (front_text c qs ps rest) c qs ps rest) count (front_said (length qs) c qs ps (queues_text qs ps ++ rest) rest common_fits (queues_said qs ps rest queues_fits))

front_written : (n : ℕ) (bytes : List ℕ) → IsBytes bytes → HasFront n bytes → bytes ≡ front_text (common_of bytes) (queues_in n (drop 26 bytes)) (positions_in n (drop 26 bytes)) (drop (26 + 36 * n) bytes)
front_written n bytes are form =
    let queues = queues_written n (drop 26 bytes) (IsBytes-drop 26 bytes are) (omega (arith, form.long, length-drop 26 bytes)) form.flags in
    let text = queues_text (queues_in n (drop 26 bytes)) (positions_in n (drop 26 bytes)) in
    let common : common_text (common_of bytes) ≡ take 26 bytes = common_text-of bytes are (omega (arith, form.long)) in
    sym (take-append-drop 26 bytes)
    ∙ ap (λ (x : List ℕ). x ++ drop 26 bytes) (sym common)
    ∙ ap (λ (x : List ℕ). common_text (common_of bytes) ++ x) (queues ∙ ap (λ (x : List ℕ). text ++ x) (drop-drop (36 * n) 26 bytes))

-- What is read was spelled so.

body_written : (base ram_len : ℕ) (s : Shape) (bytes : List ℕ) (o : Kind) → IsBytes bytes → HasFront (queues_of s) bytes → kind_in s (drop (26 + 36 * queues_of s) bytes) ≡ Some o → bytes ≡ body (device_of base ram_len s bytes o)
body_written base ram_len s bytes o are form read =
    let size = 26 + 36 * queues_of s in
    front_written (queues_of s) bytes are form
    ∙ ap (front_text (common_of bytes) (queues_in (queues_of s) (drop 26 bytes)) (positions_in (queues_of s) (drop 26 bytes))) (kind_written s (drop size bytes) o (IsBytes-drop size bytes are) read)

-- The parts that were read, in place of where they stand.
pub read_device : (base ram_len : ℕ) (s : Shape) (bytes : List ℕ) (o : Kind) (c : Common) (qs : List Queue) (ps : List Positions)
    → common_of bytes ≡ c → queues_in (queues_of s) (drop 26 bytes) ≡ qs → positions_in (queues_of s) (drop 26 bytes) ≡ ps → device_of base ram_len s bytes o ≡ saved_device base ram_len o c qs ps
read_device base ram_len s bytes o c qs ps e f g = rw (e, f, g) refl

-- The parts of a sound device fit their fields.
record DeviceFits (d : DeviceState) : Type 0 where
  pub common : Fit common_widths (common_numbers d.registers.common)
  pub queues : FitQueues d.registers.queues d.positions
  pub kind : ReadsKind d.kind

device_fits : {base : ℕ} (ram_len : ℕ) (d : DeviceState) → IsSoundDevice base ram_len d → DeviceFits d
device_fits ram_len d sound =
    let r = d.registers in
    record {
      common = common_fits r.offered r.common sound.registers.common;
      queues = queues_fit r.ram_base r.ram_len (is_packed_by r.common) r.common r.queues d.positions (recursion_from_All (IsSoundQueue r.ram_base r.ram_len r.common) r.queues sound.registers.queues) sound.positions;
      kind = kind_reads ram_len r d.kind sound.shape sound.registers sound.kind;
    }

same_device : (d e : DeviceState) → d.kind ≡ e.kind → d.registers.device_id ≡ e.registers.device_id → d.registers.offered ≡ e.registers.offered → d.registers.ram_base ≡ e.registers.ram_base → d.registers.ram_len ≡ e.registers.ram_len
    → d.registers.common ≡ e.registers.common → d.registers.queues ≡ e.registers.queues → d.positions ≡ e.positions → d ≡ e
same_device d e kind id offered ram_base ram_len common queues positions =
    let same : ◌≡◌ {A = DeviceState}
    (record { kind = d.kind; registers = record { device_id = d.registers.device_id; offered = d.registers.offered; ram_base = d.registers.ram_base; ram_len = d.registers.ram_len; common = d.registers.common; queues = d.registers.queues }; positions = d.positions })
    (record { kind = e.kind; registers = record { device_id = e.registers.device_id; offered = e.registers.offered; ram_base = e.registers.ram_base; ram_len = e.registers.ram_len; common = e.registers.common; queues = e.registers.queues }; positions = e.positions })
    = rw (kind, id, offered, ram_base, ram_len, common, queues, positions) refl in
    same

-- A sound device is as it was saved.
as_saved : {base : ℕ} (ram_len : ℕ) (d : DeviceState) → IsSoundDevice base ram_len d → saved_device base ram_len d.kind d.registers.common d.registers.queues d.positions ≡ d
as_saved {base} ram_len d sound =
    same_device (saved_device base ram_len d.kind d.registers.common d.registers.queues d.positions) d refl (sym sound.device_id) (sym sound.offered) (sym sound.ram_base) (sym sound.ram_len) refl refl refl

-- What the body of a sound device reads as.
pub record ReadsAs (base ram_len : ℕ) (text : List ℕ) (d : DeviceState) : Type 0 where
  pub form : HasFront (queues_of (made_as d.kind)) text
  pub kind : kind_in (made_as d.kind) (drop (26 + 36 * queues_of (made_as d.kind)) text) ≡ Some d.kind
  pub device : device_of base ram_len (made_as d.kind) text d.kind ≡ d

body_front : {base : ℕ} (ram_len : ℕ) (d : DeviceState) → IsSoundDevice base ram_len d → ReadsFront (queues_of (made_as d.kind)) (body d) d.registers.common d.registers.queues d.positions (kind_text d.kind)
body_front ram_len d sound =
    let fits = device_fits ram_len d sound in
    front_reads (queues_of (made_as d.kind)) d.registers.common d.registers.queues d.positions (kind_text d.kind) sound.queues fits.common fits.queues

pub body_reads_as : {base : ℕ} (ram_len : ℕ) (d : DeviceState) → IsSoundDevice base ram_len d → ReadsAs base ram_len (body d) d
body_reads_as {base} ram_len d sound =
    let front = body_front ram_len d sound in
    record {
      form = front.form;
      kind = ap (kind_in (made_as d.kind)) front.rest_is ∙ (device_fits ram_len d sound).kind.read;
      device = read_device base ram_len (made_as d.kind) (body d) d.kind _ _ _ front.common front.queues front.positions ∙ as_saved ram_len d sound;
    }

-- The answers of the reader.

pub no_front : (version : ℕ) (shape : Shape) (base ram_len : ℕ) (bytes : List ℕ) → ¬ (HasFront (queues_of shape) bytes) → (d : DeviceState) → ¬ (IsBodyOf version shape base ram_len bytes d)
no_front version shape base ram_len bytes never d is =
    never (subst (HasFront (queues_of shape)) (sym is.is) (subst (λ (s : Shape). HasFront (queues_of s) (body d)) is.shape_is (body_reads_as ram_len d is.sound).form))

-- What such a body tells of the common registers is the device's.
common_told : (version : ℕ) (shape : Shape) (base ram_len : ℕ) (bytes : List ℕ) (d : DeviceState) → IsBodyOf version shape base ram_len bytes d → common_of bytes ≡ d.registers.common
common_told version shape base ram_len bytes d is = ap common_of is.is ∙ ap (λ (x : DeviceState). x.registers.common) (body_reads_as ram_len d is.sound).device

pub not_had : (version : ℕ) (shape : Shape) (base ram_len : ℕ) (bytes : List ℕ) → ¬ (version ≡ 1 → has_zeroes shape (common_of bytes) ≡ false) → (d : DeviceState) → ¬ (IsBodyOf version shape base ram_len bytes d)
not_had version shape base ram_len bytes never d is =
    never
    (λ first. ap (has_zeroes shape) (common_told version shape base ram_len bytes d is) ∙ ap (λ (s : Shape). has_zeroes s d.registers.common) (sym is.shape_is) ∙ is.has first)

-- What such a body tells beside its registers and its queues is the device's kind.
kind_told : (version : ℕ) (shape : Shape) (base ram_len : ℕ) (bytes : List ℕ) (d : DeviceState) → IsBodyOf version shape base ram_len bytes d → kind_in shape (drop (26 + 36 * queues_of shape) bytes) ≡ Some d.kind
kind_told version shape base ram_len bytes d is =
    rw is.is (subst (λ (s : Shape). kind_in s (drop (26 + 36 * queues_of s) (body d)) ≡ Some d.kind) is.shape_is (body_reads_as ram_len d is.sound).kind)

pub no_kind : (version : ℕ) (shape : Shape) (base ram_len : ℕ) (bytes : List ℕ) → kind_in shape (drop (26 + 36 * queues_of shape) bytes) ≡ None → (d : DeviceState) → ¬ (IsBodyOf version shape base ram_len bytes d)
no_kind version shape base ram_len bytes none d is = let told = kind_told version shape base ram_len bytes d is in cc

device_told : (version : ℕ) (shape : Shape) (base ram_len : ℕ) (bytes : List ℕ) (d : DeviceState) (o : Kind) → IsBodyOf version shape base ram_len bytes d → kind_in shape (drop (26 + 36 * queues_of shape) bytes) ≡ Some o → device_of base ram_len shape bytes o ≡ d
device_told version shape base ram_len bytes d o is read =
    let same : o ≡ d.kind = same_found o d.kind (sym read ∙ kind_told version shape base ram_len bytes d is) in
    ap (device_of base ram_len shape bytes) same
    ∙ ap (λ (s : Shape). device_of base ram_len s bytes d.kind) (sym is.shape_is)
    ∙ ap (λ (x : List ℕ). device_of base ram_len (made_as d.kind) x d.kind) is.is
    ∙ (body_reads_as ram_len d is.sound).device

pub not_sound : (version : ℕ) (shape : Shape) (base ram_len : ℕ) (bytes : List ℕ) (o : Kind) → kind_in shape (drop (26 + 36 * queues_of shape) bytes) ≡ Some o → ¬ (IsSoundDevice base ram_len (device_of base ram_len shape bytes o)) → (d : DeviceState)
    → ¬ (IsBodyOf version shape base ram_len bytes d)
not_sound version shape base ram_len bytes o read never d is = never (subst (IsSoundDevice base ram_len) (sym (device_told version shape base ram_len bytes d o is read)) is.sound)

pub is_body : (version : ℕ) (shape : Shape) (base ram_len : ℕ) (bytes : List ℕ) (o : Kind) → IsBytes bytes → HasFront (queues_of shape) bytes → kind_in shape (drop (26 + 36 * queues_of shape) bytes) ≡ Some o
    → IsSoundDevice base ram_len (device_of base ram_len shape bytes o) → (version ≡ 1 → has_zeroes shape (common_of bytes) ≡ false) → IsBodyOf version shape base ram_len bytes (device_of base ram_len shape bytes o)
is_body version shape base ram_len bytes o are form read sound has =
    let made = kind_made shape (drop (26 + 36 * queues_of shape) bytes) o read in
    record { shape_is = made; sound = sound; has = λ first. ap (λ s. has_zeroes s (common_of bytes)) made ∙ has first; is = body_written base ram_len shape bytes o are form read }

-- Version 2 has every body.
second_has : (d : DeviceState) → IsDeviceOf 2 d
second_has d first = absurd (omega (arith, first))

-- One body is of one sound device, and it is short.
pub one_body : {base : ℕ} (ram_len : ℕ) (d e : DeviceState) → made_as d.kind ≡ made_as e.kind → IsSoundDevice base ram_len d → IsSoundDevice base ram_len e → body d ≡ body e → d ≡ e
one_body {base} ram_len d e shape sound other same =
    sym (device_told 2 (made_as e.kind) base ram_len (body e) d e.kind (record { shape_is = shape; sound = sound; has = second_has d; is = sym same }) (body_reads_as ram_len e other).kind) ∙ (body_reads_as ram_len e other).device

pub body_is_short : {base : ℕ} (ram_len : ℕ) (d : DeviceState) → IsSoundDevice base ram_len d → length (body d) ≤ 131072
body_is_short ram_len d sound = omega (arith, (body_front ram_len d sound).long, sound.queues, sound.registers.few, (device_fits ram_len d sound).kind.short)

common_bytes : (c : Common) → Fit common_widths (common_numbers c) → IsBytes (common_text c)
unfolding common_text
common_bytes c fits = IsBytes-spelled common_widths (common_numbers c) fits

queue_bytes : (q : Queue) (p : Positions) → Fit queue_widths (queue_numbers q p) → IsBytes (queue_text q p)
unfolding queue_text
queue_bytes q p fits = IsBytes-spelled queue_widths (queue_numbers q p) fits

queues_bytes : (qs : List Queue) (ps : List Positions) → FitQueues qs ps → IsBytes (queues_text qs ps)
queues_bytes [] [] fits i = omega arith
queues_bytes [] (p ∷ ps) fits i = absurd fits
queues_bytes (q ∷ qs) [] fits i = absurd fits
queues_bytes (q ∷ qs) (p ∷ ps) fits i = IsBytes-append (queue_text q p) (queues_text qs ps) (queue_bytes q p fits.0) (queues_bytes qs ps fits.1) i

pub body_bytes : {base : ℕ} (ram_len : ℕ) (d : DeviceState) → IsSoundDevice base ram_len d → IsBytes (body d)
body_bytes ram_len d sound =
    let fits = device_fits ram_len d sound in
    let c = d.registers.common in
    IsBytes-append (common_text c) (queues_text d.registers.queues d.positions ++ kind_text d.kind) (common_bytes c fits.common)
    (IsBytes-append (queues_text d.registers.queues d.positions) (kind_text d.kind) (queues_bytes d.registers.queues d.positions fits.queues) fits.kind.bytes)
