pub mod Receive
pub mod Transmit
pub mod Size
pub mod Emergency
pub mod Shape
