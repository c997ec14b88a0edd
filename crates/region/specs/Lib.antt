pub mod Address
pub mod Empty
pub mod Lending
pub mod Region
pub mod Slot
