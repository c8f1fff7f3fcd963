pub mod Common
pub mod Told
pub mod Shown
pub mod Turns
mod Stepping
mod Enough
