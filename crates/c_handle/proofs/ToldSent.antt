-- A machine that is sent, and whose digest its host tells.
use Rattle.std.proofs.Common.{◌≡◌, ◌+◌, ℕ, List, [], ◌∷◌, ◌++◌, refl, sym, ap, ◌∙◌, subst, length, arith}
use Rattle.std.specs.Prelude.{Some, false}
use Rattle.std.proofs.lemmas.List.{length-append}
use Rattle.sha2.proofs.Facts256.{length-sha256}
use Rattle.sha2.specs.Sha256.{sha256}
use Rattle.machine.specs.State.{MachineState}
use Rattle.sender.specs.Follows.{AgreesIn, Relates}
use Rattle.sender.specs.History.{History, phase_of, text}
use Rattle.sender.specs.LiveState.{LiveSeen}
use Rattle.sender.specs.Marks.{if_dirty}
use Rattle.sender.specs.Taking.{untaken}
use Rattle.sender.specs.Telling.{TakenIsDigested}
use Rattle.sender.specs.declared.phase.Phase.{Phase}
use Rattle.sender.specs.declared.phase.Phase.TheVariants as phases
use Rattle.wire.specs.Records.{commit, spelled_record}
use Rattle.wire.specs.Sinks.{Covers, Digested, SinkState, undigested, lagging, remembered, over_writer}
use Rattle.wire.specs.Telling.{EndsIn, EndsInstead, is_owed}
use Rattle.c_handle.specs.Digest.{HasTold}
use Rattle.c_handle.specs.Sent.{NoneIsAskedYet, TellingsStaySent}

-- The record of a digest has 33 bytes.
length-record : (digest : List ℕ) → length (spelled_record (commit digest)) ≡ 1 + length digest
unfolding spelled_record
length-record digest = omega arith

none_before : (front rest : List ℕ) → length (front ++ rest) ≡ length rest → front ≡ []
none_before [] rest same = refl
none_before (x ∷ front) rest same = absurd (omega (arith, same, length-append front rest))

-- So bytes of this length that end in such a record are the record alone.
alone : (held front digest : List ℕ) → held ≡ front ++ spelled_record (commit digest) → length digest ≡ 32 → length held ≡ 33 → front ≡ []
alone held front digest is long short =
    none_before front (spelled_record (commit digest)) (sym (ap length is) ∙ short ∙ sym (length-record digest ∙ ap (λ (n : ℕ). 1 + n) long))

same_record : (old new digest right : List ℕ) → length old ≡ 33 → length right ≡ 32 → digest ≡ right → EndsInstead old digest new → EndsIn old right → new ≡ old
same_record old new digest right short long is told ends =
    let front : told.front ≡ [] = alone old told.front told.before told.was told.size short in
    let same : ends.front ≡ [] = alone old ends.front right ends.whole long short in
    told.is ∙ ap (λ (x : List ℕ). x ++ spelled_record (commit digest)) front ∙ ap (λ (d : List ℕ). spelled_record (commit d)) is
    ∙ sym (ends.whole ∙ ap (λ (x : List ℕ). x ++ spelled_record (commit right)) same)

-- After a stop a history says nothing of the digest.
another_digest : (m : MachineState) (h : History) (out : SinkState) (d : Digested) (s : LiveSeen) → phase_of h ≡ phases.Stopped → Relates m h out s → Relates m h out (record s { digest = d })
another_digest m h out d s stopped g = record {
  follows = record { machine = g.follows.machine; shape = g.follows.shape; phase = g.follows.phase; sets = subst (λ (p : Phase). AgreesIn p m h (record s { digest = d })) (sym stopped) tt };
  allowed = g.allowed;
  honest = g.honest;
  fault = g.fault;
  count = g.count;
  held = g.held;
  taken = λ none going. absurd (going stopped);
}

only_digest : (l next : LiveSeen) (digest : List ℕ) (status : ℕ) → HasTold l digest status next → next.out.held ≡ l.out.held → next ≡ record l { digest = next.digest }
only_digest l next digest status told same = told.rest ∙ ap (λ (b : List ℕ). record l { digest = next.digest; out = record l.out { held = b } }) same

-- What covers known bytes is not owed.
not_owed : (d : Digested) (bytes : List ℕ) → Covers d bytes → is_owed d ≡ false
not_owed undigested bytes covers = absurd covers
not_owed (lagging taken waiting) bytes covers = refl
not_owed (remembered past owed) bytes covers = covers.1

pub none_is_asked_yet : NoneIsAskedYet
none_is_asked_yet m h taken pages l b quiet going = not_owed l.digest (text m h) (b.relates.taken quiet going)

pub tellings_stay_sent : TakenIsDigested → TellingsStaySent
tellings_stay_sent digested m h taken pages digest status l next b sound stopped short told is =
    let late = b.late in
    let out : SinkState = over_writer (Some []) 0 false in
    let ends : EndsIn l.out.held (sha256 taken) = digested m h out taken (if_dirty late l) b.relates sound stopped refl refl short in
    let same : next.out.held ≡ l.out.held = same_record l.out.held next.out.held digest (sha256 taken) short (length-sha256 taken) is told.ends ends in
    let P : LiveSeen → Type 0 = λ s. Relates m h out (untaken taken (if_dirty late s)) in
    record { late = late; among = b.among; relates = subst P (sym (only_digest l next digest status told same)) (another_digest m h out next.digest (untaken taken (if_dirty late l)) stopped b.relates) }
