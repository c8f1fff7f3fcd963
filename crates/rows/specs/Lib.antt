pub mod Rows
pub mod Held
pub mod Fed
pub mod Loading
