pub mod Events
pub mod Law
pub mod Told
pub mod Machine
pub mod Shown
pub mod Calls
pub mod Steps
