pub mod Fronts
pub mod ResidualOutcomes
pub mod BarredOutcomes
