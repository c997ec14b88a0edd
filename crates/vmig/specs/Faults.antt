-- The faults of the program: which refusal each stands for, its exit status, and its line on standard error.
use Rattle.std.specs.Prelude.{◌≡◌, ℕ, List, [], ◌++◌, codes, decimal}
use Rattle.std.specs.Borrow.{Bor}
use Rattle.std.specs.declared.io.ErrorKind.{ErrorKind}
use Rattle.std.specs.declared.io.ErrorKind.TheVariants.{OutOfMemory}
use Rattle.machine.specs.Refusal.{new_code_of}
use Rattle.machine.specs.declared.new_error.NewError.{NewError}
use Rattle.machine.specs.declared.new_error.NewError.TheVariants as new_error
use Rattle.receiver.specs.Codes.{recv_code_of}
use Rattle.receiver.specs.declared.recv_error.RecvError.{RecvError}
use Rattle.receiver.specs.declared.recv_error.RecvError.TheVariants as recv_error
use Rattle.traces.specs.Replies.{newline}
use Rattle.traces.specs.declared.trace.TraceError.{TraceError}
use Rattle.traces.specs.declared.trace.TraceError.TheVariants as trace_error
use Rattle.vmig.specs.declared.fault.Fault.{Fault}
use Rattle.vmig.specs.declared.fault.Fault.TheVariants.{NoMemory, Usage, File, Line, Shape, Stream, StreamOut, NotEqual}
use Rattle.vmig.specs.declared.words.WordsError.{WordsError}
use Rattle.vmig.specs.declared.words.WordsError.TheVariants as words_error

-- Each refusal has its fault. Out of memory is one fault, wherever it occurs.
abbrev pub words_fault : WordsError → Fault
words_fault words_error.Usage = Usage
words_fault words_error.NoMemory = NoMemory

abbrev pub file_fault : Bor (List ℕ) → ErrorKind → Fault
file_fault name OutOfMemory = NoMemory
file_fault name _ = File name

abbrev pub trace_fault : TraceError → Fault
trace_fault trace_error.NoMemory = NoMemory
trace_fault (trace_error.Line number) = Line number

abbrev pub shape_fault : NewError → Fault
shape_fault new_error.NoMemory = NoMemory
shape_fault refusal = Shape (new_code_of refusal)

abbrev pub stream_fault : RecvError → Fault
stream_fault recv_error.NoMemory = NoMemory
stream_fault refusal = Stream (recv_code_of refusal)

-- The exit status if the program failed; otherwise it is 0.
abbrev pub status_of : Fault → ℕ
status_of NoMemory = 1
status_of Usage = 2
status_of (File name) = 3
status_of (Line number) = 4
status_of (Shape refusal) = 4
status_of (Stream refusal) = 5
status_of StreamOut = 5
status_of NotEqual = 5

-- The line on standard error; there is none where standard output has said it. Numbers are decimal, without leading zeros.
abbrev pub fault_line : Fault → List ℕ
fault_line NoMemory = codes "vmig: memory" ++ newline
fault_line Usage = codes "vmig: usage" ++ newline
fault_line (File name) = codes "vmig: file " ++ name.now ++ newline
fault_line (Line number) = codes "vmig: trace line " ++ decimal number ++ newline
fault_line (Shape refusal) = codes "vmig: shape " ++ decimal refusal ++ newline
fault_line (Stream refusal) = codes "vmig: stream " ++ decimal refusal ++ newline
fault_line StreamOut = codes "vmig: stream out" ++ newline
fault_line NotEqual = []

-- a file of this name could not be opened, made or read
abbrev pub TellsOfFile : List ℕ → Fault → Type 0
TellsOfFile named NoMemory = Unit {0}
TellsOfFile named (File name) = name.now ≡ named
TellsOfFile named _ = ⊥

-- standard output failed, which is reported as a file of the name `-`
abbrev pub TellsOfOutput : Fault → Type 0
TellsOfOutput (File name) = name.now ≡ codes "-"
TellsOfOutput _ = ⊥
