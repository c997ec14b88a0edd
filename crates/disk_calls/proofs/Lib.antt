pub mod Asking
pub mod Apart
pub mod Numbers
pub mod Parts
pub mod OldestCalls
pub mod Turns
pub mod Within
pub mod Happenings
pub mod OfDevices
pub mod Staying
mod LostDisks
