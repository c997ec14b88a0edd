-- Calls of a machine whose RAM is lent.
use Rattle.std.proofs.Common.{◌≡◌, ℕ, ◌*◌, Bool, true, false, List, [], ◌∷◌, length, map, refl, sym, ap, subst, ◌∙◌}
use Rattle.std.proofs.lemmas.List.{length-set}
use Rattle.std.specs.Prelude.{Result, slice_index, slice_set}
use Rattle.region.specs.Address.{address}
use Rattle.region.specs.declared.region.Region.{Region}
use Rattle.guestmem.specs.Lent.{given_back, raise_each}
use Rattle.guestmem.specs.Memory.{IsMemory, Memory}
use Rattle.guestmem.specs.Write.{raised}
use Rattle.machine.specs.Applied.{IsApplied, ReadsSector, as_given}
use Rattle.machine.specs.Effect.{items_of}
use Rattle.machine.specs.Known.{Lent}
use Rattle.machine.specs.Outcome.{outcome_of}
use Rattle.machine.specs.Over.{AppliesOver, FailsFlushOver, ReadsOver, calls_in, sectors_in}
use Rattle.machine.specs.Parked.{FailsParkedFlushIf, IsAppliedParked, IsAppliedQuietly, IsParked, LentIsAfterReturn, ParkedFlushFails, ParkedIsApplied, ParkedIsFlushed, ParkedIsRead, ParkedSeen, ReadsParked, back_with}
use Rattle.machine.specs.Seen.{DeviceSeen, Seen, state_of}
use Rattle.machine.specs.Unsynced.{FailsFlush, FlushesDisk}
use Rattle.machine.specs.declared.event.Event.{Event}
use Rattle.machine.specs.declared.reply.Reply.{Reply}
use Rattle.machine.proofs.Quiet.{IsQuiet, no_items}

pub untouched : (old new : Seen) (e : Event) (reply : Reply) → IsQuiet e → IsApplied old e reply new → IsAppliedQuietly old e reply new
untouched old new e reply quiet h = record { applied = h; untouched = ap items_of h.has.effect_is ∙ no_items (as_given (state_of old) e h.given) e (outcome_of reply) h.has.seen quiet }

-- What a call answers whose clauses are said of a machine here or lent, where it is lent.
pub applied_parked : (p next : ParkedSeen) (e : Event) (reply : Reply) → IsQuiet e → AppliesOver Lent p e reply next → sectors_in next ≡ sectors_in p → calls_in next ≡ calls_in p → IsAppliedParked p e reply next
applied_parked p next e reply quiet h sectors calls = record {
  versions = h.0;
  sectors = sectors;
  calls = calls;
  applied = λ m is bytes count. untouched (back_with p m) (back_with next m) e reply quiet (h.1 m is bytes count);
}

pub fails_parked : (flushed : Bool) (p next : ParkedSeen) (dev pick : ℕ) → FailsFlushOver Lent flushed p dev pick next → (flushed ≡ false → next ≡ p) → sectors_in next ≡ sectors_in p → calls_in next ≡ calls_in p → FailsParkedFlushIf flushed p dev pick next
fails_parked true p next dev pick h same sectors calls = record { versions = h.0; sectors = sectors; calls = calls; failed = h.1 }
fails_parked false p next dev pick h same sectors calls = same refl

pub reads_parked : {E : Type 0} (p next : ParkedSeen) (dev n : ℕ) (bytes : List ℕ) (result : Result Bool E) → ReadsOver Lent p dev n bytes result next → ((m : Memory) → ReadsSector (back_with p m) dev n bytes result (back_with next m)) → ReadsParked p dev n bytes result next
reads_parked p next dev n bytes result h reads = record { versions = h.0; reads = reads }

-- The machine that was lent is one of those.
back_itself : (m : Seen) (p : ParkedSeen) → p.devices ≡ m.devices → back_with p m.memory ≡ m
back_itself m p is = rw is refl

still_parked : (m : Seen) (p next : ParkedSeen) (region : Region) → IsParked m region p → next.memory ≡ p.memory → IsParked (back_with next m.memory) region next
still_parked m p next region parked same = record { lent = record { bytes = parked.lent.bytes; place = parked.lent.place; versions_are = same ∙ parked.lent.versions_are }; devices_are = refl }

pub parked_is_applied : ParkedIsApplied
parked_is_applied m p next region e reply mem bytes parked was =
    let counts : length m.memory.versions ≡ length p.memory = ap length (sym parked.lent.versions_are) in
    record {
      after = back_with next m.memory;
      done = record {
        quietly = subst (λ (x : Seen). IsAppliedQuietly x e reply (back_with next m.memory)) (back_itself m p parked.devices_are) (was.applied m.memory mem bytes counts);
        calls = was.calls ∙ ap (map (λ (x : DeviceSeen). x.calls)) parked.devices_are;
      };
      parked = still_parked m p next region parked was.versions;
      memory = refl;
    }

pub parked_is_flushed : ParkedIsFlushed
parked_is_flushed m p next region dev result parked was = record {
  after = back_with next m.memory;
  done = subst (λ (x : Seen). FlushesDisk x dev result (back_with next m.memory)) (back_itself m p parked.devices_are) (was.flushes m.memory);
  parked = still_parked m p next region parked was.versions;
  memory = refl;
}

pub parked_is_read : ParkedIsRead
parked_is_read m p next region dev n bytes result parked was = record {
  after = back_with next m.memory;
  done = subst (λ (x : Seen). ReadsSector x dev n bytes result (back_with next m.memory)) (back_itself m p parked.devices_are) (was.reads m.memory);
  parked = still_parked m p next region parked was.versions;
  memory = refl;
}

pub parked_flush_fails : ParkedFlushFails
parked_flush_fails m p next region dev pick mem bytes parked was =
    let counts : length m.memory.versions ≡ length p.memory = ap length (sym parked.lent.versions_are) in
    record {
      after = back_with next m.memory;
      done = subst (λ (x : Seen). FailsFlush x dev pick (back_with next m.memory)) (back_itself m p parked.devices_are) (was.failed m.memory mem bytes counts);
      parked = still_parked m p next region parked was.versions;
      memory = refl;
    }

-- The RAM that is given back is a memory of as many pages.
length-raised : (versions pages : List ℕ) → length (raise_each versions pages) ≡ length versions
length-raised versions [] = refl
length-raised versions (n ∷ pages) = length-raised (slice_set versions n (raised (slice_index versions n))) pages ∙ length-set versions n (raised (slice_index versions n))

pub lent_is_after_return : LentIsAfterReturn
lent_is_after_return p next region pages e reply some few size bytes was =
    let back : Memory = given_back region.content (address region) p.memory pages in
    let counts : length back.versions ≡ length p.memory = length-raised p.memory pages in
    let mem : IsMemory back = record { pages = size ∙ ap (λ (n : ℕ). 4096 * n) (sym counts); some = rw counts some; few = rw counts few } in
    let same : given_back region.content (address region) next.memory pages ≡ back = ap (λ (v : List ℕ). given_back region.content (address region) v pages) was.versions in
    rw same (record { quietly = was.applied back mem bytes counts; calls = was.calls })
