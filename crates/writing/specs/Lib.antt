pub mod Writes
pub mod Pages
