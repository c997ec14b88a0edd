mod Pieces
mod GoingOn
mod Sending
mod Arriving
mod Moving
pub mod Reliable
