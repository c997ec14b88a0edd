pub mod Bodies
pub mod Choices
mod DeviceTexts
pub mod Digits
mod FaultWriters
mod FrameLemmas
pub mod HeaderLemmas
pub mod HeaderParts
pub mod Heads
pub mod ItemRecords
mod KindTexts
mod Lagging
mod Lists
pub mod PageRecords
pub mod PartLengths
mod RequestFits
mod RequestLemmas
pub mod Saving
pub mod SentVersions
pub mod Sinks
pub mod Spelling
pub mod ToldSinks
pub mod Unique
pub mod Versions
mod Walks
pub mod Whole
