pub mod Totals
pub mod Writes
pub mod Walks
pub mod Turns
pub mod Dives
pub mod Hunts
