pub mod Numbers
pub mod Consequences
pub mod GoesOn
