-- Calls that send, one after another.
use Rattle.std.proofs.Common.{◌≡◌, ℕ, ◌+◌, ◌%◌, ◌^◌, [], ◌++◌, List, false, cond, refl, sym, ap, subst, ◌∙◌, append_assoc, append-nil}
use Rattle.std.specs.Prelude.{Result, Ok, Err}
use Rattle.machine.specs.Applied.{IsGood}
use Rattle.machine.specs.EffectLaws.{sector_on, sectors_on}
use Rattle.machine.specs.Seen.{AreHonest, Seen, all_marks, marks_at, state_of}
use Rattle.machine.specs.State.{MachineState}
use Rattle.sender.specs.Saving.{IsNamed, Sends, TakesOn, has_writer_failed, marks_after}
use Rattle.sender.specs.declared.mig_error.MigError.{MigError}
use Rattle.sender.specs.declared.mig_error.MigError.TheVariants.{DiskFailed, StreamFailed}
use Rattle.wire.specs.Sinks.{Appends, Covers, Digested, SinkState}

-- What was said of a machine holds of one with the same state and marks.
named_same : (old mid : Seen) (e : MigError) → state_of mid ≡ state_of old → all_marks mid ≡ all_marks old → IsNamed mid e → IsNamed old e
named_same old mid (DiskFailed dev n) state marks h = (subst (λ ms. (marks_at ms dev).steady ≡ false) marks h.0, subst (λ m. IsGood (sector_on (sectors_on m dev) n)) state h.1)
named_same old mid StreamFailed state marks h = tt
named_same old mid _ state marks h = absurd h

honest_same : (old mid : Seen) → all_marks mid ≡ all_marks old → AreHonest old → AreHonest mid
honest_same old mid marks h = rw marks h

-- A call after one that succeeded.
pub then_sends : {A B : Type 0} (old mid new : Seen) (out mid_out new_out : SinkState) (x y : List ℕ) (done : A) (result : Result B MigError) → Sends old out x (Ok done) mid mid_out → Sends mid mid_out y result new new_out → Sends old out (x ++ y) result new new_out
then_sends old mid new out mid_out new_out x y done (Ok u) first second = record {
  memory = second.memory ∙ first.memory;
  state = second.state ∙ first.state;
  flushed = second.flushed ∙ first.flushed;
  marks = second.marks ∙ first.marks;
  named = tt;
  count = second.count ∙ first.count;
  holds = λ disks honest.
      let one = first.holds disks honest in
      let two = second.holds (honest_same old mid first.marks disks) one.0 in
      (two.0, two.1 ∙ ap (λ held. held ++ y) one.1 ∙ append_assoc out.held x y);
}
then_sends {B = B} old mid new out mid_out new_out x y done (Err e) first second = record {
  memory = second.memory ∙ first.memory;
  state = second.state ∙ first.state;
  flushed = second.flushed ∙ first.flushed;
  marks = second.marks ∙ ap (λ marks. marks_after {A = B} marks (Err e)) first.marks;
  named = named_same old mid e first.state first.marks second.named;
  count = second.count ∙ ap (λ n. cond (has_writer_failed {A = B} (Err e)) ((n + 1) % 2 ^ 64) n) first.count;
  holds = tt;
}

pub then_takes_on : {A B : Type 0} (old mid : Seen) (a b c : Digested) (x y : List ℕ) (done : A) (result : Result B MigError) → all_marks mid ≡ all_marks old → TakesOn old a x (Ok done) b → TakesOn mid b y result c → TakesOn old a (x ++ y) result c
then_takes_on old mid a b c x y done (Ok u) marks first second = λ disks before h. subst (Covers c) (append_assoc before x y) (second (honest_same old mid marks disks) (before ++ x) (first disks before h))
then_takes_on old mid a b c x y done (Err e) marks first second = tt

-- A call that asks no disk.
pub sends_ok : {A B E : Type 0} (m : Seen) (out new_out : SinkState) (x : List ℕ) (done : A) (other : B) → Appends {E = E} out x (Ok done) new_out → Sends m out x (Ok other) m new_out
sends_ok m out new_out x done other h = record { memory = refl; state = refl; flushed = refl; marks = refl; named = tt; count = h.count; holds = λ disks. h.holds }

-- The same, where the second call sends a part of the machine as it then is.
pub sends_next : {A B : Type 0} (old mid new : Seen) (out mid_out new_out : SinkState) (x z : List ℕ) (y : MachineState → List ℕ) (done : A) (result : Result B MigError) → x ++ y (state_of old) ≡ z → Sends old out x (Ok done) mid mid_out → Sends mid mid_out (y (state_of mid)) result new new_out → Sends old out z result new new_out
sends_next old mid new out mid_out new_out x z y done result e first second =
    subst (λ bytes. Sends old out bytes result new new_out) e (then_sends old mid new out mid_out new_out x (y (state_of old)) done result first (subst (λ m. Sends mid mid_out (y m) result new new_out) first.state second))

pub takes_next : {A B : Type 0} (old mid new : Seen) (out mid_out : SinkState) (a b c : Digested) (x z : List ℕ) (y : MachineState → List ℕ) (done : A) (result : Result B MigError) → x ++ y (state_of old) ≡ z → Sends old out x (Ok done) mid mid_out → TakesOn old a x (Ok done) b → TakesOn mid b (y (state_of mid)) result c → TakesOn old a z result c
takes_next old mid new out mid_out a b c x z y done result e sent first second =
    subst (λ bytes. TakesOn old a bytes result c) e (then_takes_on old mid a b c x (y (state_of old)) done result sent.marks first (subst (λ m. TakesOn mid b (y m) result c) sent.state second))

-- Nothing was sent yet.
pub sends_nothing : {A : Type 0} (m : Seen) (out : SinkState) (x : List ℕ) (done : A) → x ≡ [] → Sends m out x (Ok done) m out
sends_nothing m out x done e = record { memory = refl; state = refl; flushed = refl; marks = refl; named = tt; count = refl; holds = λ disks honest. (honest, sym (ap (λ bytes. out.held ++ bytes) e ∙ append-nil out.held)) }

pub takes_nothing : {A : Type 0} (m : Seen) (a : Digested) (x : List ℕ) (done : A) → x ≡ [] → TakesOn m a x (Ok done) a
takes_nothing m a x done e = λ disks before h. subst (Covers a) (sym (ap (λ bytes. before ++ bytes) e ∙ append-nil before)) h

-- What a call that succeeded returned is no part of what it sent.
pub sends_alike : {A B : Type 0} (old new : Seen) (out new_out : SinkState) (x : List ℕ) (done : A) (other : B) → Sends old out x (Ok done) new new_out → Sends old out x (Ok other) new new_out
sends_alike old new out new_out x done other sent = record { memory = sent.memory; state = sent.state; flushed = sent.flushed; marks = sent.marks; named = tt; count = sent.count; holds = sent.holds }
