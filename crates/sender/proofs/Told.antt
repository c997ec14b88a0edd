-- The records of items that were sent.
use Rattle.std.proofs.Common.{◌≡◌, ℕ, List, [], ◌∷◌, ◌++◌, Option, Some, None, refl, ap, sym, subst, ◌∙◌}
use Rattle.std.specs.Prelude.{IsTrue}
use Rattle.blk.specs.Sectors.{Sector}
use Rattle.guestmem.specs.Item.{Item, page, sector}
use Rattle.machine.specs.EffectLaws.{sector_on, sectors_on}
use Rattle.machine.specs.Layout.{item_at, layout_of}
use Rattle.machine.specs.Seen.{AreHonest, Marks, Seen, all_marks, marks_at, state_of}
use Rattle.machine.specs.State.{MachineState}
use Rattle.wire.specs.Records as records
use Rattle.wire.specs.Records.{Record}
use Rattle.wire.specs.Stream.{content_of, record_of}
use Rattle.sender.specs.Calls.{IsSameButCalls}
use Rattle.sender.specs.LiveState.{record_at}
use Rattle.sender.specs.Told.{AreTold, HonestDisksTellContents, IsSentAs, IsTold}
use Rattle.sender.proofs.SectorReads.{honest_at}

content_is : (marks : Marks) (found : Option Sector) (content : Sector) → IsTrue marks.honest → IsSentAs marks found content → content ≡ content_of found
content_is marks found None honest sent = ap content_of (sym sent)
content_is marks found (Some bytes) honest sent = ap content_of (sym (sent.is honest))

-- Honest disks return what they hold.
pub told_one : (s : Seen) (i : Item) (entry : Record) → AreHonest s → IsTold s i entry → entry ≡ record_of (state_of s) i
told_one s (page n) entry honest told = told
told_one s (sector dev n) entry honest told =
    told.is ∙ ap (λ (c : Sector). records.sector dev n c) (content_is (marks_at (all_marks s) dev) (sector_on (sectors_on (state_of s) dev) n) told.content (honest_at (all_marks s) dev honest) told.sent)

pub honest_disks_tell_contents : HonestDisksTellContents
honest_disks_tell_contents s [] [] honest told = refl
honest_disks_tell_contents s [] (entry ∷ entries) honest told = absurd told
honest_disks_tell_contents s (i ∷ is) [] honest told = absurd told
honest_disks_tell_contents s (i ∷ is) (entry ∷ entries) honest told =
    ap (λ (r : Record). r ∷ entries) (told_one s (item_at (layout_of (state_of s)) i) entry honest told.0)
    ∙ ap (λ (rs : List Record). record_at (state_of s) i ∷ rs) (honest_disks_tell_contents s is entries honest told.1)

-- Of a machine that differs in the calls of its disks alone the same is told.
told_by : (old mid : Seen) (i : Item) (entry : Record) → IsSameButCalls old mid → IsTold mid i entry → IsTold old i entry
told_by old mid (page n) entry same told = told ∙ ap (λ (m : MachineState). record_of m (page n)) same.state
told_by old mid (sector dev n) entry same told =
    let Sent : List Marks → MachineState → Type 0 = λ marks m. IsSentAs (marks_at marks dev) (sector_on (sectors_on m dev) n) told.content in
    record {
      content = told.content;
      sent = subst (Sent (all_marks old)) same.state (subst (λ (marks : List Marks). Sent marks (state_of mid)) same.marks told.sent);
      is = told.is;
    }

pub told_before : (old mid : Seen) (i : ℕ) (entry : Record) → IsSameButCalls old mid → IsTold mid (item_at (layout_of (state_of mid)) i) entry → IsTold old (item_at (layout_of (state_of old)) i) entry
told_before old mid i entry same told = subst (λ (m : MachineState). IsTold old (item_at (layout_of m) i) entry) same.state (told_by old mid (item_at (layout_of (state_of mid)) i) entry same told)

-- One more record.
pub told_more : (s : Seen) (numbers : List ℕ) (entries : List Record) (i : ℕ) (entry : Record) → AreTold s numbers entries → IsTold s (item_at (layout_of (state_of s)) i) entry → AreTold s (numbers ++ i ∷ []) (entries ++ entry ∷ [])
told_more s [] [] i entry told last = (last, tt)
told_more s [] (x ∷ entries) i entry told last = absurd told
told_more s (n ∷ numbers) [] i entry told last = absurd told
told_more s (n ∷ numbers) (x ∷ entries) i entry told last = (told.0, told_more s numbers entries i entry told.1 last)
