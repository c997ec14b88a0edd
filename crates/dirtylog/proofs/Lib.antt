pub mod Counts
mod Changed
mod Zeros
mod Rest
mod All
mod Flags
mod Levels
mod Finding
mod MemberLaws
pub mod WordCounts
