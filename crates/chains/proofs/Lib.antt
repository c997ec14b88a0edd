mod Copies
mod Filling
mod Held
pub mod CaseLaws
pub mod ChainLaws
pub mod DecoderLaws
mod EffectLaws
pub mod FrameLaws
pub mod HeldLaws
pub mod PackedLaws
pub mod PlaceLaws
pub mod SplitLaws
pub mod LookLaws
pub mod ServedLaws
pub mod SplitFootprint
pub mod PackedFootprint
pub mod LookFootprint
pub mod ServiceFootprint
pub mod QuietWord
mod Known
pub mod LackLaws
mod KnownParts
