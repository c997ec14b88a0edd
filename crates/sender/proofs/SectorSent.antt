-- A sector that is sent while the RAM is lent is a copy of the machine that was lent.
use Rattle.std.proofs.Common.{◌≡◌, ◌≢◌, ℕ, List, [], ◌∷◌, map, Some, refl, sym, ap, subst, ◌∙◌}
use Rattle.std.specs.Prelude.{slice_get}
use Rattle.region.specs.declared.region.Region.{Region}
use Rattle.blk.specs.Sectors.{Sector}
use Rattle.guestmem.specs.Item as items
use Rattle.guestmem.specs.Memory.{IsMemory}
use Rattle.machine.specs.EffectLaws.{sector_on}
use Rattle.machine.specs.Parked.{parked_sectors}
use Rattle.machine.specs.Seen.{DeviceSeen}
use Rattle.machine.specs.State.{MachineState}
use Rattle.wire.specs.Records.{sector, spelled_record}
use Rattle.wire.specs.Sinks.{SinkState}
use Rattle.wire.specs.Stream.{content_of, record_of, texts}
use Rattle.sender.specs.History.{History, machine_after}
use Rattle.sender.specs.LiveState.{HasPlaces, LiveSeen}
use Rattle.sender.specs.Marks.{IsBehind}
use Rattle.sender.specs.Parked.{IsLiveParked, LiveParkedSeen}
use Rattle.sender.specs.ParkedCalls.{a_sector, an_unsent_sector}
use Rattle.sender.specs.SectorsLent.{CopiesLent}
use Rattle.sender.specs.Taking.{untaken}
use Rattle.sender.specs.declared.event.Item.TheVariants as sent
use Rattle.sender.specs.declared.event.LiveEvent.TheVariants.{Copy}
use Rattle.sender.specs.declared.event.LiveReply.TheVariants as r
use Rattle.sender.specs.declared.mig_error.MigError.{MigError}
use Rattle.sender.specs.declared.phase.Phase.TheVariants as phases
use Rattle.sender.proofs.HandingIn.{may_copy}
use Rattle.sender.proofs.ServedLent.{served_lent}
use Rattle.sender.proofs.StepBeside.{GoesOnLent}
use Rattle.sender.proofs.Stopping.{one_text}

no_records : texts [] ≡ []
unfolding texts
no_records = refl

module _ (m : MachineState) (h : History) (out : SinkState) (taken pages : List ℕ) (l : LiveSeen) (p mid : LiveParkedSeen) (before : Region) (b : IsBehind m h out pages (untaken taken l)) (places : HasPlaces l) (mem : IsMemory l.machine.memory) (goes : l.phase ≢ phases.Stopped) (lent : IsLiveParked l before p) where
  -- The sector is by the history what it is on the disk.
  there_after : (dev n : ℕ) (content : Sector) → sector_on (slice_get (parked_sectors p.machine) dev) n ≡ Some content → sector_on (slice_get (machine_after m h).disks dev) n ≡ Some content
  there_after dev n content there =
      ap (λ (x : MachineState). sector_on (slice_get x.disks dev) n) (sym b.relates.follows.machine)
      ∙ subst (λ (ds : List DeviceSeen). sector_on (slice_get (map (λ (d : DeviceSeen). d.sectors) ds) dev) n ≡ Some content) lent.parked.devices_are there

  pub sector_sent : (dev n : ℕ) (content : Sector) → sector_on (slice_get (parked_sectors p.machine) dev) n ≡ Some content → CopiesLent p (r.Copied (sent.Sector dev n)) mid → GoesOnLent m h out taken pages before (a_sector dev n content) p mid
  sector_sent dev n content there call =
      let says : texts (record_of (machine_after m h) (items.sector dev n) ∷ []) ≡ spelled_record (sector dev n content) =
      one_text (record_of (machine_after m h) (items.sector dev n)) ∙ ap (λ found. spelled_record (sector dev n (content_of found))) (there_after dev n content there) in
      served_lent m h out taken pages l p mid before b places mem goes lent Copy (r.Copied (sent.Sector dev n)) (a_sector dev n content) call.serves call.kept (may_copy pages) refl refl refl (λ f. refl) refl says

  pub sector_unsent : (e : MigError) → CopiesLent p (r.Mig e) mid → GoesOnLent m h out taken pages before (an_unsent_sector e) p mid
  sector_unsent e call = served_lent m h out taken pages l p mid before b places mem goes lent Copy (r.Mig e) (an_unsent_sector e) call.serves call.kept (may_copy pages) refl refl refl (λ f. refl) refl no_records
