-- What single calls do to a handle, and tell of one, by cases on it.
use Rattle.std.proofs.Common.{◌≡◌, ℕ, Bool, List, false, refl, sym, ap, ◌∙◌, subst, true≢false}
use Rattle.std.specs.Prelude.{Option, Some, None, is_some}
use Rattle.blk.specs.declared.outside.DiskCall.{DiskCall}
use Rattle.machine.specs.declared.event.DiskAnswer.{DiskAnswer}
use Rattle.mapped_disk.specs.declared.image.Image.{Image}
use Rattle.c_handle.specs.Durable.{Failed, Loses}
use Rattle.c_handle.specs.HandedOut.{HandedOut, HandsIf, is_here}
use Rattle.c_handle.specs.Kept.{KeptSeen}
use Rattle.c_handle.specs.Outside.{Answers, AnswersKept, HandsCall, HandsKept}
use Rattle.c_handle.specs.Told.{lines_in, lines_told}
use Rattle.c_handle.specs.Unmapping.{HasReleasedFrom, Releases, release_refusal_of}
use Rattle.c_handle.specs.declared.outside.Call.{Call}

pub lines_none : (k : Option KeptSeen) → is_some k ≡ false → 0 ≡ lines_told k
lines_none None is = refl
lines_none (Some m) is = absurd (true≢false is)

pub lines_some : (k : Option KeptSeen) (m : KeptSeen) (lines : ℕ) → Some m ≡ k → lines ≡ lines_in m.state → lines ≡ lines_told k
lines_some k m lines is told = subst (λ (o : Option KeptSeen). lines ≡ lines_told o) is told

pub releases_none : (k after : Option KeptSeen) (images : List Image) → is_some k ≡ false → after ≡ k → Releases k images images 8 after
releases_none None after images is same = (refl, same, refl)
releases_none (Some m) after images is same = absurd (true≢false is)

pub releases_not : (k after : Option KeptSeen) (m : KeptSeen) (images next : List Image) (refusal status : ℕ) → Some m ≡ k → release_refusal_of m images ≡ Some refusal → status ≡ refusal → next ≡ images → after ≡ k
    → Releases k images next status after
releases_not k after m images next refusal status is refused told kept same =
    subst (λ (o : Option KeptSeen). Releases o images next status after) is (rw refused (told, same ∙ sym is, kept))

pub releases_done : (k after : Option KeptSeen) (m : KeptSeen) (images next : List Image) → Some m ≡ k → release_refusal_of m images ≡ None → after ≡ None → HasReleasedFrom m.is_mapped m.state images next
    → Releases k images next 0 after
releases_done k after m images next is none gone has =
    subst (λ (o : Option KeptSeen). Releases o images next 0 after) is (rw none (record { status_is = refl; gone = gone; has = has }))

pub failed_none : (k after : Option KeptSeen) (dev : ℕ) → is_some k ≡ false → after ≡ k → Failed k dev 8 after
failed_none None after dev is same = (refl, same)
failed_none (Some m) after dev is same = absurd (true≢false is)

pub failed_some : (k after : Option KeptSeen) (m next : KeptSeen) (dev status : ℕ) → Some m ≡ k → after ≡ Some next → Loses m dev status next → Failed k dev status after
failed_some k after m next dev status is becomes loses =
    subst (λ (o : Option KeptSeen). Failed o dev status after) is (record { next = next; is_next = becomes; loses = loses })

pub hands_none : (k after : Option KeptSeen) (call : Call) (buf : List ℕ) → is_some k ≡ false → after ≡ k → HandsCall k 8 call call buf buf after
hands_none None after call buf is same = (refl, refl, refl, same)
hands_none (Some m) after call buf is same = absurd (true≢false is)

pub hands_some : (k after : Option KeptSeen) (m next : KeptSeen) (status : ℕ) (call old_call : Call) (buf new_buf : List ℕ) → Some m ≡ k → after ≡ Some next → next ≡ record m { calls = next.calls } → HandsKept m.state m.calls status call old_call buf new_buf next.calls
    → HandsCall k status call old_call buf new_buf after
hands_some k after m next status call old_call buf new_buf is becomes kind hands =
    subst (λ (o : Option KeptSeen). HandsCall o status call old_call buf new_buf after) is (record { calls = next.calls; is_next = becomes ∙ ap Some kind; hands = hands })

pub answers_none : (k after : Option KeptSeen) (number : ℕ) (fits : DiskCall → Bool) (answer : DiskCall → DiskAnswer) → is_some k ≡ false → after ≡ k → Answers k number fits answer 8 after
answers_none None after number fits answer is same = (refl, same)
answers_none (Some m) after number fits answer is same = absurd (true≢false is)

pub answers_some : (k after : Option KeptSeen) (m next : KeptSeen) (number : ℕ) (fits : DiskCall → Bool) (answer : DiskCall → DiskAnswer) (status : ℕ) → Some m ≡ k → after ≡ Some next → next ≡ record m { state = next.state; written = next.written; calls = next.calls }
    → AnswersKept m number fits answer status next.state next.written next.calls → Answers k number fits answer status after
answers_some k after m next number fits answer status is becomes kind answers =
    subst (λ (o : Option KeptSeen). Answers o number fits answer status after) is (record { next = next.state; log = next.written; calls = next.calls; is_next = becomes ∙ ap Some kind; answers = answers })

pub handed_none : (k after : Option KeptSeen) (out : List ℕ) (count : ℕ) → is_some k ≡ false → after ≡ k → HandedOut k 8 out out count count after
handed_none None after out count is same = ((refl, refl, refl), same)
handed_none (Some m) after out count is same = absurd (true≢false is)

pub handed_some : (k after : Option KeptSeen) (m next : KeptSeen) (status : ℕ) (out new_out : List ℕ) (count before : ℕ) → Some m ≡ k → after ≡ Some next → next ≡ record m { written = next.written } → HandsIf (is_here m.state) m.written status out new_out count before next.written
    → HandedOut k status out new_out count before after
handed_some k after m next status out new_out count before is becomes kind hands =
    subst (λ (o : Option KeptSeen). HandedOut o status out new_out count before after) is (record { left = next.written; is_next = becomes ∙ ap Some kind; hands = hands })
