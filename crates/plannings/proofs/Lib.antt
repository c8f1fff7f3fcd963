pub mod Frames
pub mod Counts
pub mod Faults
pub mod Barring
pub mod Answering
pub mod Stable
pub mod Stepping
pub mod Telling
pub mod Beginning
mod Tells
pub mod Planned
pub mod Lending
