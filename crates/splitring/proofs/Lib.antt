mod Spelled
mod Leading
mod Found
mod Masks
mod Word
