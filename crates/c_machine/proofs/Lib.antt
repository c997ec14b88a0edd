pub mod Imaging
mod LargestDisks
mod LongestFrames
pub mod MadeOf
pub mod MappingImages
pub mod Marking
pub mod NamedPages
pub mod PageNumbers
pub mod Plain
pub mod ToldShapes
pub mod Zeros
