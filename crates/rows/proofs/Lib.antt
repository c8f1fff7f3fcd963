pub mod Cells
pub mod HeldCircuit
pub mod Feeding
pub mod Loadings
pub mod Placing
pub mod Wholes
pub mod Rooms
