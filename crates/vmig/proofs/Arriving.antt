-- What is known of a stream that is fed as its file is read: a front, and what came after it.
use Rattle.std.proofs.Common.{◌≡◌, ◌<◌, inl, inr, sym, subst, ℕ, Bool, List, [], ◌++◌, length, append_assoc, append-nil}
use Rattle.machine.specs.Seen.{Marks}
use Rattle.receiver.proofs.Counting.{slice_cut, slice_told, told_at_once}
use Rattle.receiver.proofs.Working.{tells_more}
use Rattle.receiver.specs.Disks.{MarksRefused}
use Rattle.receiver.specs.Faults.{Fault as StreamFault}
use Rattle.receiver.specs.Opened.{terms_at}
use Rattle.receiver.specs.Receiving.{HasBeenFed, IsFinish, NoFault, Received, RefusesSlice, TellsFault, TellsNow}
use Rattle.receiver.specs.declared.ram_terms.RamTerms.{RamTerms}
use Rattle.receiver.specs.declared.recv_error.RecvError.{RecvError}
use Rattle.receiver.specs.declared.terms.Terms.{Terms}
use Rattle.vmig.specs.Allowing.{program_terms}
use Rattle.vmig.specs.Faults.{stream_fault}
use Rattle.vmig.specs.Feeding.{IsFedOn, IsFedQuietly, TellsOfRest}
use Rattle.vmig.specs.Resuming.{TellsOfArrival}
use Rattle.vmig.specs.declared.fault.Fault.{Fault}

-- The front was fed, or one piece more.
pub front_fed : (terms : Terms) (r : Received) (front : List ℕ) → r.ram ≡ terms_at terms → HasBeenFed r front → IsFedOn terms r front
front_fed terms r front at fed = record { at = at; more = []; fed = subst (λ (b : List ℕ). HasBeenFed r b) (sym (append-nil front)) fed }

pub fed_on : (terms : Terms) (r : Received) (front more piece : List ℕ) → r.ram ≡ terms_at terms → HasBeenFed r ((front ++ more) ++ piece) → IsFedOn terms r front
fed_on terms r front more piece at fed = record { at = at; more = more ++ piece; fed = subst (λ (b : List ℕ). HasBeenFed r b) (append_assoc front more piece) fed }

pub fed_quietly : (terms : Terms) (r : Received) (front more piece : List ℕ) → HasBeenFed r ((front ++ more) ++ piece) → NoFault (terms_at terms) r.sizes ((front ++ more) ++ piece) → IsFedQuietly terms r front
fed_quietly terms r front more piece fed quiet = record {
  more = more ++ piece;
  fed = subst (λ (b : List ℕ). HasBeenFed r b) (append_assoc front more piece) fed;
  quiet = subst (λ (b : List ℕ). NoFault (terms_at terms) r.sizes b) (append_assoc front more piece) quiet;
}

-- The front is refused.
pub front_refused : (stream front : List ℕ) (terms : Terms) (sizes : List ℕ) (marks new : List Marks) (e : RecvError) (fault : Fault)
    → fault ≡ stream_fault e → MarksRefused marks e new → TellsNow (terms_at terms) sizes [] front e → TellsOfRest stream front terms sizes marks fault
front_refused stream front terms sizes marks new e fault is m t = inr (record {
  more = [];
  refusal = e;
  refused = subst (λ (b : List ℕ). RefusesSlice terms sizes marks b e) (sym (append-nil front)) (slice_told terms sizes marks new front e m (told_at_once (terms_at terms) sizes front e t));
  is = is;
})

-- A piece is refused.
told_so_far : (ram : RamTerms) (sizes b piece : List ℕ) (e : RecvError) → TellsNow ram sizes b piece e → TellsFault ram sizes (b ++ piece) e
told_so_far ram sizes b piece e t =
    tells_more ((at : ℕ) × (length b < at) × StreamFault ram sizes (b ++ piece) e at) ((at : ℕ) × StreamFault ram sizes (b ++ piece) e at) e (λ x. (x.0, x.2)) t

pub piece_refused : (stream front more piece : List ℕ) (terms : Terms) (sizes : List ℕ) (marks new : List Marks) (e : RecvError) (fault : Fault)
    → fault ≡ stream_fault e → MarksRefused marks e new → TellsNow (terms_at terms) sizes (front ++ more) piece e → TellsOfRest stream front terms sizes marks fault
piece_refused stream front more piece terms sizes marks new e fault is m t = inr (record {
  more = more ++ piece;
  refusal = e;
  refused = subst (λ (b : List ℕ). RefusesSlice terms sizes marks b e) (append_assoc front more piece) (slice_told terms sizes marks new ((front ++ more) ++ piece) e m (told_so_far (terms_at terms) sizes (front ++ more) piece e t));
  is = is;
})

-- All of it was fed, and it is no whole stream.
pub end_refused : (stream front more : List ℕ) (terms : Terms) (sizes : List ℕ) (marks : List Marks) (e : RecvError) (fault : Fault)
    → fault ≡ stream_fault e → IsFinish (front ++ more) e → NoFault (terms_at terms) sizes (front ++ more) → TellsOfRest stream front terms sizes marks fault
end_refused stream front more terms sizes marks e fault is h quiet = inr (record {
  more = more;
  refusal = e;
  refused = slice_cut terms sizes marks (front ++ more) e h quiet;
  is = is;
})

-- A fault that tells of a front and the rest tells of all of it.
pub of_arrival : (outside : Bool) (stream front sizes : List ℕ) (marks : List Marks) (fault : Fault) → TellsOfRest stream front (program_terms outside) sizes marks fault → TellsOfArrival outside stream sizes marks fault
of_arrival outside stream front sizes marks fault (inl file) = inl file
of_arrival outside stream front sizes marks fault (inr told) = inr (record { bytes = front ++ told.more; refusal = told.refusal; refused = told.refused; is = told.is })
