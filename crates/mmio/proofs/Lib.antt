mod StatusBits
pub mod Keeping
pub mod StayingReady
pub mod StayingSound
