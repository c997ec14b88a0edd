use Rattle.std.specs.Prelude.{Bool}
use Rattle.chains.specs.declared.ring_core.RingCore.{RingCore}
use Rattle.mmio.specs.declared.constants.TheConstants.{INDIRECT_DESC, EVENT_IDX}
use Rattle.chains.specs.State.{RingState}
use Rattle.mmio.specs.Bits.{has}

-- The model of a ring of this layout, by the fields of its core.
abbrev pub core_state : Bool → RingCore → RingState
core_state is_packed core = record {
  base = core.base;
  is_packed = is_packed;
  has_indirect = has core.features INDIRECT_DESC;
  has_event_index = has core.features EVENT_IDX;
  size = core.size;
  descriptors = core.descriptors;
  driver = core.driver;
  device = core.device;
  taking = core.taking;
  used = core.used;
}
