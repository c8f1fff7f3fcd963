pub mod Pages
pub mod Lengths
pub mod Written
pub mod Back
pub mod Round
pub mod Sounds
