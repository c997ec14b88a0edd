-- What one line of a trace says: the table of its lines.
use Rattle.std.specs.Prelude.{ℕ, ◌^◌, Bool, true, false, ◌==◌, if◌then◌else◌, List, [], ◌∷◌, codes, Option, Some, None}
use Rattle.std.specs.Str.{bytes_eq}
use Rattle.std.specs.List.{slice_split}
use Rattle.machine.specs.declared.event.DiskAnswer.{DiskAnswer}
use Rattle.machine.specs.declared.event.DiskAnswer.TheVariants.{Gave, Did, Failed}
use Rattle.machine.specs.declared.event.Event.TheVariants.{RegRead, RegWrite, MemRead, MemWrite, Step, Input, Resize, Drop, Disk}
use Rattle.machine.specs.declared.shape.Shape.TheVariants.{Net, Block, Outside, Console, Entropy}
use Rattle.sender.specs.declared.event.LiveEvent.TheVariants.{Guest, Begin, Copy, EndRound, Stop}
use Rattle.traces.specs.declared.line.Line.{Line}
use Rattle.traces.specs.declared.line.Line.TheVariants.{Skip, Ram, Device, Act}
use Rattle.traces.specs.Numbers.{◌>>=◌, below, bytes_of, sized_bytes_of}

-- the fields of a line, by the greatest number that each may hold
abbrev pub u8_field : List ℕ → Option ℕ
u8_field word = below (2 ^ 8) word

abbrev pub u16_field : List ℕ → Option ℕ
u16_field word = below (2 ^ 16) word

abbrev pub u32_field : List ℕ → Option ℕ
u32_field word = below (2 ^ 32) word

abbrev pub u64_field : List ℕ → Option ℕ
u64_field word = below (2 ^ 64) word

-- ram PAGES
abbrev pub ram_line : List ℕ → Option Line
ram_line pages = do
  pages ← u32_field pages
  Some (Ram pages)

-- net MAC
abbrev pub net_line : List ℕ → Option Line
net_line mac = do
  mac ← sized_bytes_of 6 mac
  Some (Device (Net mac))

-- `rw`, or `ro` for a device that the driver may only read
abbrev pub read_only_field : List ℕ → Option Bool
read_only_field word =
    if bytes_eq word (codes "rw") then Some false
    else if bytes_eq word (codes "ro") then Some true
    else None

-- block SECTORS rw ID, block SECTORS ro ID
abbrev pub block_line : List ℕ → List ℕ → List ℕ → Option Line
block_line sectors access id = do
  sectors ← u64_field sectors
  read_only ← read_only_field access
  id ← sized_bytes_of 20 id
  Some (Device (Block sectors read_only id))

-- outside SECTORS rw ID, outside SECTORS ro ID
abbrev pub outside_line : List ℕ → List ℕ → List ℕ → Option Line
outside_line sectors access id = do
  sectors ← u64_field sectors
  read_only ← read_only_field access
  id ← sized_bytes_of 20 id
  Some (Device (Outside sectors read_only id))

-- r DEV OFF WIDTH
abbrev pub register_read_line : List ℕ → List ℕ → List ℕ → Option Line
register_read_line dev off width = do
  dev ← u8_field dev
  off ← u32_field off
  width ← u8_field width
  Some (Act (Guest (RegRead dev off width)))

-- w DEV OFF WIDTH VALUE
abbrev pub register_write_line : List ℕ → List ℕ → List ℕ → List ℕ → Option Line
register_write_line dev off width value = do
  dev ← u8_field dev
  off ← u32_field off
  width ← u8_field width
  value ← u32_field value
  Some (Act (Guest (RegWrite dev off width value)))

-- mr ADDR LEN
abbrev pub memory_read_line : List ℕ → List ℕ → Option Line
memory_read_line addr len = do
  addr ← u64_field addr
  len ← u32_field len
  Some (Act (Guest (MemRead addr len)))

-- mw ADDR BYTES
abbrev pub memory_write_line : List ℕ → List ℕ → Option Line
memory_write_line addr bytes = do
  addr ← u64_field addr
  bytes ← bytes_of bytes
  Some (Act (Guest (MemWrite addr bytes)))

-- s DEV PICK
abbrev pub step_line : List ℕ → List ℕ → Option Line
step_line dev pick = do
  dev ← u8_field dev
  pick ← u8_field pick
  Some (Act (Guest (Step dev pick)))

-- in DEV BYTES
abbrev pub input_line : List ℕ → List ℕ → Option Line
input_line dev bytes = do
  dev ← u8_field dev
  bytes ← bytes_of bytes
  Some (Act (Guest (Input dev bytes)))

-- size DEV COLS ROWS
abbrev pub resize_line : List ℕ → List ℕ → List ℕ → Option Line
resize_line dev cols rows = do
  dev ← u8_field dev
  cols ← u16_field cols
  rows ← u16_field rows
  Some (Act (Guest (Resize dev cols rows)))

-- drop DEV
abbrev pub drop_line : List ℕ → Option Line
drop_line dev = do
  dev ← u8_field dev
  Some (Act (Guest (Drop dev)))

-- what a disk outside answered, in one word: `failed`
abbrev pub short_answer : List ℕ → Option DiskAnswer
short_answer word = if bytes_eq word (codes "failed") then Some Failed else None

-- gave BYTES
abbrev pub gave_answer : List ℕ → Option DiskAnswer
gave_answer bytes = do
  bytes ← bytes_of bytes
  Some (Gave bytes)

-- did N
abbrev pub did_answer : List ℕ → Option DiskAnswer
did_answer count = do
  count ← u32_field count
  Some (Did count)

-- what a disk outside answered, in two words
abbrev pub long_answer : List ℕ → List ℕ → Option DiskAnswer
long_answer verb a =
    if bytes_eq verb (codes "gave") then gave_answer a
    else if bytes_eq verb (codes "did") then did_answer a
    else None

-- disk DEV PICK, and what it answered
abbrev pub disk_line : List ℕ → List ℕ → Option DiskAnswer → Option Line
disk_line dev pick answer = do
  dev ← u8_field dev
  pick ← u8_field pick
  answer ← answer
  Some (Act (Guest (Disk dev pick answer)))

-- The number of words and the first word say which kind of line it is.
abbrev pub one_word : List ℕ → Option Line
one_word verb =
    if bytes_eq verb (codes "console") then Some (Device Console)
    else if bytes_eq verb (codes "entropy") then Some (Device Entropy)
    else if bytes_eq verb (codes "begin") then Some (Act Begin)
    else if bytes_eq verb (codes "copy") then Some (Act Copy)
    else if bytes_eq verb (codes "round") then Some (Act EndRound)
    else if bytes_eq verb (codes "stop") then Some (Act Stop)
    else None

abbrev pub two_words : List ℕ → List ℕ → Option Line
two_words verb a =
    if bytes_eq verb (codes "ram") then ram_line a
    else if bytes_eq verb (codes "net") then net_line a
    else if bytes_eq verb (codes "drop") then drop_line a
    else None

abbrev pub three_words : List ℕ → List ℕ → List ℕ → Option Line
three_words verb a b =
    if bytes_eq verb (codes "mr") then memory_read_line a b
    else if bytes_eq verb (codes "mw") then memory_write_line a b
    else if bytes_eq verb (codes "s") then step_line a b
    else if bytes_eq verb (codes "in") then input_line a b
    else None

abbrev pub four_words : List ℕ → List ℕ → List ℕ → List ℕ → Option Line
four_words verb a b c =
    if bytes_eq verb (codes "block") then block_line a b c
    else if bytes_eq verb (codes "outside") then outside_line a b c
    else if bytes_eq verb (codes "r") then register_read_line a b c
    else if bytes_eq verb (codes "size") then resize_line a b c
    else if bytes_eq verb (codes "disk") then disk_line a b (short_answer c)
    else None

abbrev pub five_words : List ℕ → List ℕ → List ℕ → List ℕ → List ℕ → Option Line
five_words verb a b c d =
    if bytes_eq verb (codes "w") then register_write_line a b c d
    else if bytes_eq verb (codes "disk") then disk_line a b (long_answer c d)
    else None

abbrev pub words_say : List (List ℕ) → Option Line
words_say (verb ∷ []) = one_word verb
words_say (verb ∷ a ∷ []) = two_words verb a
words_say (verb ∷ a ∷ b ∷ []) = three_words verb a b
words_say (verb ∷ a ∷ b ∷ c ∷ []) = four_words verb a b c
words_say (verb ∷ a ∷ b ∷ c ∷ d ∷ []) = five_words verb a b c d
words_say _ = None

abbrev pub is_space : ℕ → Bool
is_space c = c == 32

-- an empty line, or one that begins with `#`
abbrev pub is_skipped : List ℕ → Bool
is_skipped [] = true
is_skipped (c ∷ cs) = c == 35

-- What a line says, or nothing where it is no line of a trace. One space separates two words.
unfoldable pub line_says : List ℕ → Option Line
line_says line = if is_skipped line then Some Skip else words_say (slice_split is_space line)
