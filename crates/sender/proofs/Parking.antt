-- A machine that is being migrated, whose RAM is lent and given back.
use Rattle.std.proofs.Common.{◌≡◌, ℕ, ◌*◌, ◌/◌, ◌<◌, Bool, true, List, [], ◌∷◌, get_or, length, map, set, refl, sym, ap, subst, ◌∙◌, arith}
use Rattle.std.proofs.lemmas.List.{length-set}
use Rattle.guestmem.specs.Item.{MayPages, after_all, page}
use Rattle.guestmem.specs.Lent.{AreBelow, page_items}
use Rattle.guestmem.specs.Memory.{IsMemory}
use Rattle.machine.specs.Known.{IsSomeRam, Lent}
use Rattle.machine.specs.Layout.{Layout, layout_of, size_of}
use Rattle.machine.specs.Parked.{ParkedSeen, machine_marked}
use Rattle.machine.specs.Seen.{DeviceSeen, Seen, state_of}
use Rattle.machine.specs.Sound.{IsSound}
use Rattle.machine.proofs.Numbering.{number_below}
use Rattle.sender.specs.Calls.{with_items}
use Rattle.sender.specs.Dirty.{after_taking, may_take}
use Rattle.sender.specs.Parked.{parked_layout, with_pages}
use Rattle.sender.specs.Stopping.{IsLive, SetsFit}
use Rattle.sender.specs.declared.dirty.Dirty.{Dirty}
use Rattle.sender.specs.declared.phase.Phase.{Phase}
use Rattle.sender.proofs.Living.{all_noted, fit_next}

same_parts : (a b : ℕ) (xs ys : List ℕ) → a ≡ b → xs ≡ ys → ◌≡◌ {A = Layout} (record { pages = a; disks = xs }) (record { pages = b; disks = ys })
same_parts a b xs ys e f = rw (e, f) refl

pub layout_is : (m : Seen) (p : ParkedSeen) → length m.memory.bytes ≡ 4096 * length p.memory → p.devices ≡ m.devices → layout_of (state_of m) ≡ parked_layout p
layout_is m p whole devices =
    same_parts (length m.memory.bytes / 4096) (length p.memory) _ _ (omega (arith, whole)) (ap (λ (ds : List DeviceSeen). map length (map (λ (d : DeviceSeen). d.sectors) ds)) (sym devices))

-- The sets are those of the same layout, RAM lent or not.
pub was_live : (m : Seen) (p : ParkedSeen) (phase : Phase) (due dirty : List Bool) (firsts : List ℕ) (at : ℕ) → IsLive m phase due dirty firsts at → IsMemory m.memory → p.memory ≡ m.memory.versions → p.devices ≡ m.devices
    → SetsFit (parked_layout p) phase due dirty firsts at
was_live m p phase due dirty firsts at live mem versions devices = subst (λ l. SetsFit l phase due dirty firsts at) (layout_is m p (omega (arith, mem.pages, ap length versions)) devices) live.sets

pub is_live : (m : Seen) (p : ParkedSeen) (phase : Phase) (due dirty new_dirty : List Bool) (firsts : List ℕ) (at : ℕ) → SetsFit (parked_layout p) phase due dirty firsts at → IsSound (state_of m) → length m.memory.bytes ≡ 4096 * length p.memory → m.devices ≡ p.devices
    → length new_dirty ≡ length dirty → IsLive m phase due new_dirty firsts at
is_live m p phase due dirty new_dirty firsts at sets sound whole devices long = record {
  sound = sound;
  sets = subst (λ l. SetsFit l phase due new_dirty firsts at) (sym (layout_is m p whole (sym devices))) (fit_next (parked_layout p) phase phase due due dirty new_dirty firsts firsts at at sets refl long refl sets.round sets.reached sets.passed);
}

-- As many versions are those of a RAM too.
pub some_still : (v w : List ℕ) → length w ≡ length v → IsSomeRam (Lent v) → IsSomeRam (Lent w)
some_still v w same some = (some.0, (some.1.0, some.1.1, some.1.2 ∙ sym same))

-- The log may be told of every page.
may_page : (l : Layout) (phase : Phase) (due : List Bool) (d : Dirty) (at n : ℕ) → SetsFit l phase due d.set d.firsts.items at → n < l.pages → may_take d (page n)
may_page l phase due d at n fit within =
    let below : n < size_of l = number_below l (page n) within in
    record {
      first = tt;
      place = omega (arith, below, fit.dirty_size);
      few = omega (arith, fit.few, fit.due_size, fit.dirty_size);
    }

pub may_pages : (p : ParkedSeen) (phase : Phase) (due : List Bool) (d : Dirty) (at len : ℕ) → SetsFit (parked_layout p) phase due d.set d.firsts.items at → len ≡ 4096 * length p.memory → MayPages may_take d len
may_pages p phase due d at len was whole n inside = may_page (parked_layout p) phase due d at n was (omega (arith, whole, inside))

-- The set after it.
pages_noted : (firsts : List ℕ) (s : List Bool) (pages : List ℕ) → with_items firsts s (page_items pages) ≡ with_pages s pages
pages_noted firsts s [] = refl
pages_noted firsts s (n ∷ pages) = pages_noted firsts (set s n true) pages

pub noted_pages : (d : Dirty) (pages : List ℕ) → after_all after_taking d (page_items pages) ≡ record d { set = with_pages d.set pages }
noted_pages d pages = all_noted d (page_items pages) ∙ ap (λ (s : List Bool). record d { set = s }) (pages_noted d.firsts.items d.set pages)

pub length-with_pages : (s : List Bool) (pages : List ℕ) → length (with_pages s pages) ≡ length s
length-with_pages s [] = refl
length-with_pages s (n ∷ pages) = length-with_pages (set s n true) pages ∙ length-set s n true

-- Pages of its RAM have a place in the set.
pub marks_fit : (p : ParkedSeen) (phase : Phase) (due : List Bool) (d : Dirty) (at : ℕ) (pages : List ℕ) → SetsFit (parked_layout p) phase due d.set d.firsts.items at → AreBelow (length p.memory) pages → AreBelow (length d.set) pages
marks_fit p phase due d at pages was below k x lt = (may_page (parked_layout p) phase due d at (get_or pages k x) was (below k x lt)).place

-- So may that of a machine whose RAM is not lent.
pub may_marks : (m : Seen) (phase : Phase) (due : List Bool) (d : Dirty) (at : ℕ) → IsLive m phase due d.set d.firsts.items at → MayPages may_take d (length m.memory.bytes)
may_marks m phase due d at live n inside = may_page (layout_of (state_of m)) phase due d at n live.sets (omega (arith, live.sound.whole_pages, inside))

pub marked_live : (m : Seen) (phase : Phase) (due dirty : List Bool) (firsts : List ℕ) (at : ℕ) (pages : List ℕ) → IsLive m phase due dirty firsts at → IsLive (machine_marked m pages) phase due (with_pages dirty pages) firsts at
marked_live m phase due dirty firsts at pages live = record {
  sound = live.sound;
  sets = fit_next (layout_of (state_of m)) phase phase due due dirty (with_pages dirty pages) firsts firsts at at live.sets refl (length-with_pages dirty pages) refl live.sets.round live.sets.reached live.sets.passed;
}
