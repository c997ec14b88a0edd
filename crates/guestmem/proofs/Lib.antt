pub mod GivenBack
pub mod Told
pub mod Later
mod Raising
mod ZeroLemmas
pub mod Rising
mod Clearing
mod Filling
pub mod ByteLaws
pub mod LaterLaws
pub mod PageLaws
pub mod RisesLaws
pub mod WriteLaws
mod Logs
pub mod BothLogs
