mod Numerals
mod Cut
mod FirstWord
mod Progress
mod FirstBegin
pub mod Known
mod CheckedLine
mod Whole
mod EventsAlone
mod Decimal
mod HexText
mod OneReading
