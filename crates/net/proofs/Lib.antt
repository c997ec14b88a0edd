mod Giving
mod Keeping
