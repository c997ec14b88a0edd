pub mod Lines
pub mod Numbers
pub mod Line
pub mod Trace
pub mod Reading
pub mod Replies
pub mod Laws
