pub mod Fronts
pub mod InFront
pub mod Meanings
pub mod Outcomes
pub mod BarredSteps
pub mod ResidualSteps
