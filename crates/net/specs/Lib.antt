pub mod Inbox
pub mod Kept
pub mod Header
pub mod Receive
pub mod Transmit
pub mod Shape
pub mod Frame
