mod Turns
mod DiskAnswers
pub mod DiskEvents
pub mod OutsideOver
pub mod OutsideParts
pub mod DeviceTurns
mod Advancing
pub mod Agreeing
mod Answering
pub mod Calling
pub mod Effects
pub mod Failing
mod Flushing
mod GettingOn
mod Inside
pub mod MadeAs
pub mod Looking
mod NextWork
mod Rings
mod Serving
mod Staying
pub mod Within
mod ChainIds
pub mod Containing
mod Refusing
mod Stepping
pub mod At
pub mod Footprint
pub mod Beside
pub mod Asked
mod Holding
mod Touching
pub mod Stored
pub mod Writing
pub mod StoredInside
pub mod Meeting
pub mod Opening
pub mod Emptiness
pub mod Lacking
mod Raised
pub mod Running
pub mod Disks
pub mod Dealing
mod Dealt
mod Reading
mod Missing
pub mod Numbering
mod Outstanding
pub mod Over
pub mod Fresh
pub mod GivenBack
mod Parking
pub mod ParkedCalls
pub mod Quiet
pub mod Honest
mod Keeping
pub mod Known
mod Alike
mod Unsynced
mod OfShapes
mod Handing
mod TurnBeside
