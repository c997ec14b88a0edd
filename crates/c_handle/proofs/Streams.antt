-- Machines that are saved and received.
use Rattle.std.proofs.Common.{◌≡◌, ◌≤◌, ◌<◌, ℕ, Bool, true, false, nat_lt, List, [], ◌∷◌, ◌++◌, refl, sym, ap, ◌∙◌, subst, arith, map, replicate, length, drop, inl, inr, true≢false}
use Rattle.std.specs.Prelude.{IsTrue, Option, Some, None, Result, Ok, Err, IfErr, OnOk, option_map}
use Rattle.std.proofs.lemmas.Bool.Decides.{nat_tests}
use Rattle.std.proofs.lemmas.List.{length-replicate}
use Rattle.machine.specs.Seen.{Seen, AreHonest, Marks, all_marks, marks_at, no_marks, or_no_marks, state_of}
use Rattle.sender.specs.Saving.{Sends, marks_after, IsNamed}
use Rattle.sender.specs.declared.mig_error.MigError.{MigError}
use Rattle.sender.specs.declared.mig_error.MigError.TheVariants.{AlreadyBegun, AlreadyStopped, NotBegun, RoundsEnded, StreamFailed}
use Rattle.sender.specs.declared.mig_error.MigError.TheVariants as mig
use Rattle.wire.specs.Sinks.{SinkState, over_writer}
use Rattle.wire.specs.Stream.{whole}
use Rattle.receiver.specs.Disks.{sizes_of}
use Rattle.c_handle.specs.Moving.{HasSaved, IsKept, Saves}
use Rattle.c_machine.specs.Plain.{ArePlain, mem_state}
use Rattle.c_machine.proofs.Plain.{plain_at, are_honest}

-- No disk in memory fails as it is read.
same_marks : (m : Seen) (result : Result (Unit {0}) MigError) → ArePlain m → IfErr result (λ e. IsNamed m e) → marks_after (all_marks m) result ≡ all_marks m
same_marks m (Ok x) plain named = refl
same_marks m (Err (mig.DiskFailed dev n)) plain named =
    let steady : (marks_at (all_marks m) dev).steady ≡ true = ap (λ (k : Marks). k.steady) (plain_at m dev plain) in
    absurd (true≢false (sym steady ∙ named.0))
same_marks m (Err AlreadyBegun) plain named = refl
same_marks m (Err AlreadyStopped) plain named = refl
same_marks m (Err NotBegun) plain named = refl
same_marks m (Err RoundsEnded) plain named = refl
same_marks m (Err StreamFailed) plain named = refl

pub kept : (m next : Seen) (out new_out : SinkState) (bytes : List ℕ) (result : Result (Unit {0}) MigError) → Sends m out bytes result next new_out → IsKept m next
kept m next out new_out bytes result sends =
    record {
      memory = sends.memory;
      state = sends.state;
      same = λ plain. record { memory = sends.memory; state = sends.state; marks = sends.marks ∙ same_marks m result plain sends.named; flushed = sends.flushed };
    }

-- What is told of a stream that was made, by whether it fits; and where memory was refused.
pub not_put : (m next : Seen) (stream buf : List ℕ) (old_len : ℕ) → nat_lt (length buf) (length stream) ≡ true → IsKept m next → (ArePlain m → stream ≡ whole (state_of m))
    → HasSaved m 79 (length stream) old_len buf buf next
not_put m next stream buf old_len small is_kept is_whole =
    record { kept = is_kept; told = inl (record { stream = stream; is_whole = is_whole; len_is = refl; put = rw small (refl, refl) }) }

pub put : (m next : Seen) (stream buf new_buf : List ℕ) (old_len : ℕ) → nat_lt (length buf) (length stream) ≡ false → IsKept m next → (ArePlain m → stream ≡ whole (state_of m))
    → new_buf ≡ stream ++ drop (length stream) buf → HasSaved m 0 (length stream) old_len buf new_buf next
put m next stream buf new_buf old_len fits is_kept is_whole is =
    record { kept = is_kept; told = inl (record { stream = stream; is_whole = is_whole; len_is = refl; put = rw fits (refl, is) }) }

pub not_made : (m next : Seen) (buf : List ℕ) (old_len : ℕ) → IsKept m next → HasSaved m 10 old_len old_len buf buf next
not_made m next buf old_len is_kept = record { kept = is_kept; told = inr (refl, refl, refl) }

-- The sizes of disks of zeros.
zero_sizes : (sizes : List ℕ) → sizes_of mem_state (map (λ (n : ℕ). replicate n (replicate {A = ℕ} 512 0)) sizes) ≡ sizes
zero_sizes [] = refl
zero_sizes (n ∷ sizes) = rw (length-replicate n (replicate {A = ℕ} 512 0), zero_sizes sizes) refl

pub zero_fit : (disks : List (List (List ℕ))) (sizes : List ℕ) → disks ≡ map (λ (n : ℕ). replicate n (replicate 512 0)) sizes → sizes_of mem_state disks ≡ sizes
zero_fit disks sizes are = ap (λ (ds : List (List (List ℕ))). sizes_of mem_state ds) are ∙ zero_sizes sizes

-- What is found among what is alike.
pub of_found : {D : Type 0} (found : Option D) → (or_no_marks (option_map (λ (d : D). no_marks) found)).steady ≡ true
of_found None = refl
of_found (Some d) = refl

less : (a b : ℕ) → a < b → nat_lt a b ≡ true
less a b is = grind (arith, nat_tests)

not_less : (a b : ℕ) → b ≤ a → nat_lt a b ≡ false
not_less a b is = grind (arith, nat_tests)

-- By whether the stream fits.
pub measured : (m : Seen) (len old_len : ℕ) (buf : List ℕ) → len ≡ length (whole (state_of m)) → length buf < len → Saves m 79 len old_len buf buf m
measured m len old_len buf is small =
    let short : nat_lt (length buf) (length (whole (state_of m))) ≡ true = less (length buf) (length (whole (state_of m))) (omega (arith, is, small)) in
    rw short (record { status_is = refl; len_is = is; buf_same = refl; same = refl })

pub saved : (m next : Seen) (measured status len old_len : ℕ) (buf new_buf : List ℕ) → measured ≡ length (whole (state_of m)) → measured ≤ length buf → HasSaved m status len old_len buf new_buf next → Saves m status len old_len buf new_buf next
saved m next measured status len old_len buf new_buf is fits has =
    let long : nat_lt (length buf) (length (whole (state_of m))) ≡ false = not_less (length buf) (length (whole (state_of m))) (omega (arith, is, fits)) in
    rw long has

-- What a sink over a vector holds after the whole stream.
held_ok : (m : Seen) (bytes : List ℕ) (out new_out : SinkState) (items : List ℕ) (failures : ℕ) (flushed : Bool) → (AreHonest m → IsTrue out.honest → IsTrue new_out.honest × (new_out.held ≡ out.held ++ bytes)) → ArePlain m
    → out ≡ over_writer (Some []) 0 false → new_out ≡ over_writer (Some items) failures flushed → items ≡ bytes
held_ok m bytes out new_out items failures flushed holds plain was is =
    let honest : IsTrue out.honest = rw was refl in
    let more = holds (are_honest m plain) honest in
    ap (λ (s : SinkState). s.held) (sym is) ∙ more.1 ∙ ap (λ (s : SinkState). s.held ++ bytes) was

pub held_of : (m next : Seen) (out new_out : SinkState) (bytes items first : List ℕ) (result : Result (Unit {0}) MigError) (x : Unit {0}) → ArePlain m → Sends m out bytes result next new_out → result ≡ Ok x
    → first ≡ [] → out ≡ over_writer (Some first) 0 false → new_out ≡ over_writer (Some items) new_out.failures new_out.is_flushed → items ≡ bytes
held_of m next out new_out bytes items first result x plain sends is empty was now =
    held_ok m bytes out new_out items new_out.failures new_out.is_flushed (subst (λ (r : Result (Unit {0}) MigError). OnOk r (AreHonest m → IsTrue out.honest → IsTrue new_out.honest × (new_out.held ≡ out.held ++ bytes))) is sends.holds) plain (was ∙ ap (λ (l : List ℕ). over_writer (Some l) 0 false) empty) now
