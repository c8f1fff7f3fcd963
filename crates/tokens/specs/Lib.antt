pub mod Places
pub mod Numbers
pub mod Faults
pub mod Tokens
pub mod Cursors
pub mod Gates
pub mod Lines
pub mod Headers
