-- The numbers that C gets as statuses: one for each thing. Where a status is from 1 to 63 nothing has changed, but for 20,
-- and for the refusal of a stream that arrives in pieces.
--
--      0         done
--      1 to  5   the machine refused an event, by the numbers of its reply lines
--      7 to 15   a call was refused before the machine was asked, or memory was
--     17 to 22   a call of a migration was refused: 16 plus the number of its reason. 20 says that memory for what waits to be
--                taken was refused: the migration has failed then, and the machine is as it was
--     23         the RAM of the machine is lent
--     24 to 26   a call was refused that lends RAM, takes it back, or makes a machine over it
--     27         a struct of the caller asks for what this library does not know
--     28 to 29   no call of a disk outside is out under this number; or one is out that has to be answered before
--     30         RAM may not begin at its base
--     31         no digest is asked for
--     32         another page is sent next, or none
--     33 to 48   a stream was refused: 32 plus the number of its fault. No more of it is taken: 48 is returned from then on
--     49         a stream was refused: its machine is larger than the caller allows. As above, 48 is returned from then on
--     65 to 73   what a step did
--     76 to 77   what a call of a migration did
--     78         a step has something to do; where none has, the answer is 65
--     79         there is more: the header of a stream is not whole, or a stream does not fit
--     80         a step has something to do, and before it what the guest wrote to the disk has to be durable
--     81         a call of a disk outside is handed out
--     82         the stream has ended
--     83         the digest of a stream is due
--     84         no page is sent next, but sectors are
use Rattle.std.specs.Prelude.{ℕ, length}
use Rattle.machine.specs.Refusal.{code_of}
use Rattle.machine.specs.declared.reply.Reply.{Reply}
use Rattle.machine.specs.declared.reply.Reply.TheVariants.{Value, Done, OutByte, Bytes, Idle, Taken, Moved, BadSector, DiskFailed, Completed, Sent, Dropped, Accepted, NeedsReset, NoMemory, Refused}

abbrev pub done : ℕ
done = 0

-- The handle has no machine, also while one arrives; or has one already.
abbrev pub no_machine : ℕ
no_machine = 8

abbrev pub in_use : ℕ
in_use = 9

-- There is no device of this number.
abbrev pub no_device : ℕ
no_device = 1

-- The header of a stream is not whole, or a stream does not fit into the buffer.
abbrev pub more : ℕ
more = 79

-- The step that was found makes a flush, or ends a write after which the driver takes what was written for durable.
abbrev pub sync : ℕ
sync = 80

abbrev pub no_memory : ℕ
no_memory = 10

-- The caller's buffer is too small.
abbrev pub too_small : ℕ
too_small = 11

-- No machine is made of such pages and devices.
abbrev pub bad_shape : ℕ
bad_shape = 12

-- The disk has no such sector.
abbrev pub no_sector : ℕ
no_sector = 7

-- The images are not as long as the disks.
abbrev pub bad_images : ℕ
bad_images = 15

-- The RAM of the machine is lent; or it is not.
abbrev pub lent : ℕ
lent = 23

abbrev pub not_lent : ℕ
not_lent = 24

-- The RAM does not lie in memory of the caller.
abbrev pub not_yours : ℕ
not_yours = 25

-- The memory that is given is not RAM: its length is not that of whole pages, as many as are asked for.
abbrev pub bad_ram : ℕ
bad_ram = 26

-- A setup or an arrival asks for what this library does not know: its version is another, or a reserved word is not 0.
abbrev pub not_known : ℕ
not_known = 27

-- No call of a disk outside with this number is out; or one is out, and has to be answered before.
abbrev pub not_out : ℕ
not_out = 28

abbrev pub calls_out : ℕ
calls_out = 29

-- A call of a disk outside is handed out.
abbrev pub call : ℕ
call = 81

-- RAM may not begin at this address.
abbrev pub bad_base : ℕ
bad_base = 30

-- No digest is asked for: it is not the host who tells it, or the stop was not made, or it was told.
abbrev pub not_asked : ℕ
not_asked = 31

-- Another page is sent next, or none.
abbrev pub not_next : ℕ
not_next = 32

-- The machine that a stream announces is larger than the caller allows.
abbrev pub stream_too_large : ℕ
stream_too_large = 49

-- It is not the machine that is expected.
abbrev pub stream_mismatch : ℕ
stream_mismatch = 36

-- The sector is bad.
abbrev pub bad_sector : ℕ
bad_sector = 68

-- A step has something to do, or none has.
abbrev pub work : ℕ
work = 78

abbrev pub idle : ℕ
idle = 65

-- Nothing is due any more in this round.
abbrev pub round_done : ℕ
round_done = 76

-- The stream has ended.
abbrev pub whole : ℕ
whole = 82

-- The digest of a stream that arrives is due, and its host tells it.
abbrev pub digest_due : ℕ
digest_due = 83

-- What is sent next is a sector.
abbrev pub sectors : ℕ
sectors = 84

-- The status of a reply.
abbrev pub status_of : Reply → ℕ
status_of (Value v) = 0
status_of Done = 0
status_of (Bytes bytes) = 0
status_of (Accepted count) = 0
status_of (Refused refusal) = code_of refusal
status_of NoMemory = 10
status_of (OutByte byte) = 0
status_of Idle = 65
status_of Taken = 66
status_of Moved = 67
status_of BadSector = 68
status_of DiskFailed = 69
status_of (Completed len) = 70
status_of (Sent bytes) = 71
status_of Dropped = 72
status_of NeedsReset = 73

-- The number of a reply. If it has none, the number stays as it was before.
abbrev pub number_of : Reply → ℕ → ℕ
number_of (Value v) before = v
number_of (OutByte byte) before = byte
number_of (Completed len) before = len
number_of (Sent bytes) before = length bytes
number_of (Accepted count) before = count
number_of _ before = before
