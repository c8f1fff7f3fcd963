pub mod Texts
pub mod Wires
pub mod Holds
pub mod Accepted
pub mod Memory
pub mod Readings
