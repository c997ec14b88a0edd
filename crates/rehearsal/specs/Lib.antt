pub mod InMemory
pub mod Moves
pub mod Rehearsing
