-- The line of each reply, of the guest's and of migration, and that of a checked stream.
use Rattle.std.specs.Prelude.{ℕ, List, [], ◌∷◌, ◌++◌, codes, decimal, take, Option}
use Rattle.std.specs.Int.{w32, to_be_bytes}
use Rattle.std.specs.Io.KnownBytes.{Appends}
use Rattle.hex.specs.Hex.{encode_lower}
use Rattle.machine.specs.Refusal.{code_of}
use Rattle.machine.specs.declared.reply.Reply.{Reply}
use Rattle.machine.specs.declared.reply.Reply.TheVariants.{Value, Done, OutByte, Bytes, Idle, Taken, Moved, BadSector, DiskFailed, Completed, Sent, Dropped, Accepted, NeedsReset, NoMemory, Refused}
use Rattle.sender.specs.MigCode.{mig_code_of}
use Rattle.sender.specs.declared.event.Item.{Item}
use Rattle.sender.specs.declared.event.Item.TheVariants.{Page, Sector}
use Rattle.sender.specs.declared.event.LiveReply.{LiveReply}
use Rattle.sender.specs.declared.event.LiveReply.TheVariants.{Guest, Begun, Copied, RoundDone, RoundOpen, Stopped, Mig}

-- the line's LF
abbrev pub newline : List ℕ
newline = 10 ∷ []

-- `0x` and eight digits, the most significant first
abbrev pub value_text : ℕ → List ℕ
value_text n = codes "0x" ++ encode_lower (to_be_bytes w32 n)

-- two digits for each byte, or `-` for none
abbrev pub bytes_text : List ℕ → List ℕ
bytes_text [] = codes "-"
bytes_text (b ∷ bytes) = encode_lower (b ∷ bytes)

-- Hexadecimal digits are of lower case. Other numbers are decimal, without leading zeros.
abbrev pub reply_line : Reply → List ℕ
reply_line (Value n) = codes "value " ++ value_text n ++ newline
reply_line Done = codes "done" ++ newline
reply_line (OutByte byte) = codes "out 0x" ++ encode_lower (byte ∷ []) ++ newline
reply_line (Bytes bytes) = codes "bytes " ++ bytes_text bytes ++ newline
reply_line Idle = codes "idle" ++ newline
reply_line Taken = codes "taken" ++ newline
reply_line Moved = codes "moved" ++ newline
reply_line BadSector = codes "badsector" ++ newline
reply_line DiskFailed = codes "diskfailed" ++ newline
reply_line (Completed count) = codes "completed " ++ decimal count ++ newline
reply_line (Sent bytes) = codes "sent " ++ bytes_text bytes ++ newline
reply_line Dropped = codes "dropped" ++ newline
reply_line (Accepted count) = codes "accepted " ++ decimal count ++ newline
reply_line NeedsReset = codes "needsreset" ++ newline
reply_line NoMemory = codes "nomemory" ++ newline
reply_line (Refused refusal) = codes "refused " ++ decimal (code_of refusal) ++ newline

-- a word, two numbers with a space between them, and LF
abbrev pub pair_line : List ℕ → ℕ → ℕ → List ℕ
pair_line word first second = word ++ decimal first ++ (codes " " ++ decimal second ++ newline)

-- the line of an item that was sent
abbrev pub copied_line : Item → List ℕ
copied_line (Page n) = codes "copied page " ++ decimal n ++ newline
copied_line (Sector dev n) = pair_line (codes "copied sector ") dev n

-- The line of a reply while a machine is being migrated.
abbrev pub live_reply_line : LiveReply → List ℕ
live_reply_line (Guest reply) = reply_line reply
live_reply_line (Begun round) = codes "begun " ++ decimal round ++ newline
live_reply_line (Copied item) = copied_line item
live_reply_line RoundDone = codes "rounddone" ++ newline
live_reply_line RoundOpen = codes "roundopen" ++ newline
live_reply_line (Stopped pages sectors) = pair_line (codes "stopped ") pages sectors
live_reply_line (Mig error) = codes "mig " ++ decimal (mig_code_of error) ++ newline

-- The line of a stream that was checked: the pages and the devices of its machine, and how many rounds ended in it.
abbrev pub checked_line : ℕ → ℕ → ℕ → List ℕ
checked_line pages devices rounds = codes "ok " ++ decimal pages ++ codes " " ++ decimal devices ++ codes " " ++ decimal rounds ++ newline

-- a beginning of the bytes was appended
abbrev pub AppendsBeginning : Option (List ℕ) → Option (List ℕ) → List ℕ → Type 0
AppendsBeginning old new bytes = (n : ℕ) × Appends old new (take n bytes)
